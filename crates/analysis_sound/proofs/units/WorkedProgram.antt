-- The program of
--
--     int main(void) { char *p = malloc(4); char *s = "ab"; while (*s) s = s + 1; return *(s + 1); }
--
-- as far as its tables go: the units' trees are not looked at. It reads behind the closing zero of its string.
use Rattle.std.specs.Prelude.{◌≡◌, ◌<◌, ◌^◌, ℕ, zero, suc, pos, true, false, Some, None, List, [], ◌∷◌, length, refl, slice_get}
use Rattle.std.specs.Global.{Vec}
use Rattle.std.specs.List.{Contains}
use Rattle.std.proofs.Common.{arith, subst, sym}
use Rattle.std.proofs.lemmas.Option.{same_Some}
use Rattle.cc_base.specs.declared.diagnostics.Place.{Place}
use Rattle.cc_base.specs.declared.diagnostics.Rule.TheVariants as rule
use Rattle.cc_base.specs.declared.int_types.IntType.{IntType}
use Rattle.c_layout.specs.Models.{lp64}
use Rattle.c_layout.specs.Types.{Int}
use Rattle.c_layout.specs.Leaves.{leaves_of}
use Rattle.c_layout.specs.CheckedUnits.{FunctionView, LiteralView, UnitView}
use Rattle.c_layout.specs.declared.checked_tree.checked_units.StaticBase.TheVariants as static
use Rattle.c_layout.specs.declared.leaf_lists.Class.TheVariants as class
use Rattle.c_layout.specs.declared.leaf_lists.Leaf.{Leaf}
use Rattle.c_layout.specs.declared.library_functions.LibFn.TheVariants.{Malloc}
use Rattle.c_layout.specs.declared.shapes.BaseInfo.{BaseInfo}
use Rattle.c_layout.specs.declared.shapes.BaseKind.TheVariants.{Automatic, Literal, Newest, Older}
use Rattle.c_layout.specs.declared.shapes.Shape.{Shape}
use Rattle.cfg.specs.declared.basic_blocks.BasicBlock.{BasicBlock}
use Rattle.cfg.specs.declared.flow_edges.Edge.{Edge}
use Rattle.cfg.specs.declared.flow_edges.EdgeKind.{EdgeKind}
use Rattle.cfg.specs.declared.flow_edges.EdgeKind.TheVariants as kind
use Rattle.cfg.specs.declared.machine_instructions.Amount.TheVariants as amount
use Rattle.cfg.specs.declared.machine_instructions.Instruction.{Instruction}
use Rattle.cfg.specs.declared.machine_instructions.Operation.{Operation}
use Rattle.cfg.specs.declared.machine_instructions.Operation.TheVariants as op
use Rattle.cfg.specs.declared.machine_instructions.Scalar.TheVariants as scalar
use Rattle.cfg.specs.declared.programs.Flow.{Flow}
use Rattle.cfg.specs.declared.programs.InitialValue.TheVariants as initial
use Rattle.lower_templates.specs.Views.ProgramViews.{flow_view}
use Rattle.semantics.specs.CfgMachine.FlowStates.{found_in}
use Rattle.semantics.specs.CfgMachine.FlowSteps.{flow_steps}
use Rattle.semantics.specs.CfgMachine.FlowStarts.{flow_begin}
use Rattle.lower_objects.specs.Shapes.FirstZeros.{zeros_of}
use Rattle.lower_objects.specs.Counts.SharedObjects.{literal_type}
use Rattle.lower_tables.specs.Bases.BaseTables.{TableView, known}
use Rattle.interval_domain.specs.Intervals.IntervalLattice.{interval_lattice}
use Rattle.interval_domain.specs.Intervals.IntervalNumbers.{interval_numbers}
use Rattle.memory_model.specs.Effects.Worlds.{Violation}
use Rattle.transfer_edges.specs.StartRows.{start_value, start_object, start_objects, start_row}
use Rattle.transfer_system.specs.System.FlowMachines.{has_start}
use Rattle.transfer_system.specs.System.RegularPrograms.{is_regular}
use Rattle.analysis_determined.specs.CheckedPrograms.{IsChecked}
use Rattle.transfer_sound.specs.CutStarts.{type_list}
use Rattle.analysis_sound.specs.Analyses.SoundAnalyses.{IsViolatedIn}
use Rattle.entry_sound.specs.Tables.UnitStarts.{IsBaseOf, StartsAs}

none_some : {A : Type 0} (x : A) → None ≡ Some x → ⊥
none_some x e = cc

module _ (some : Flow) where
  -- items in memory
  abbrev made : {X : Type 0} (xs : List X) → length xs < 2 ^ 63 → Vec X
  made xs h = record {
    ptr = some.blocks.ptr;
    len = length xs;
    cap = length xs;
    alloc = some.blocks.alloc;
    items = xs;
    ok = (refl, omega arith);
    small = h;
  }

  abbrev none : {X : Type 0} → Vec X
  none = made [] (omega arith)

  abbrev one : {X : Type 0} → X → Vec X
  one x = made (x ∷ []) (omega arith)

  abbrev at : ℕ → Place
  at column = record { file = 0; line = 1; col = column }

  -- ---- types

  abbrev char : IntType
  char = record { bytes = 1; signed = true; rank = 1 }

  abbrev int : IntType
  int = record { bytes = 4; signed = true; rank = 3 }

  abbrev size : IntType
  size = record { bytes = 8; signed = false; rank = 4 }

  -- ---- bases: the literal, the two of the allocation, and the pointer

  abbrev char_leaf : ℕ → Leaf
  char_leaf offset = record { offset = offset; class = class.Char; signed = true; stride = 1; count = 1 }

  abbrev literal_base : BaseInfo
  literal_base = record {
    kind = Literal;
    size = 3;
    first = 0;
    shape = record { cells = char_leaf 0 ∷ (char_leaf 1 ∷ (char_leaf 2 ∷ [])); zeros = record { offset = 0; size = Some 3 } ∷ []; heap = false };
  }

  abbrev heap_shape : Shape
  heap_shape = record { cells = []; zeros = record { offset = 0; size = None } ∷ []; heap = true }

  abbrev newest_base : BaseInfo
  newest_base = record { kind = Newest; size = 0; first = 4; shape = heap_shape }

  abbrev older_base : BaseInfo
  older_base = record { kind = Older; size = 0; first = 12; shape = heap_shape }

  abbrev pointer_base : BaseInfo
  pointer_base = record {
    kind = Automatic;
    size = 8;
    first = 20;
    shape = record { cells = record { offset = 0; class = class.Pointer; signed = false; stride = 8; count = 1 } ∷ []; zeros = []; heap = false };
  }

  -- ---- instructions

  abbrev does : ℕ → Operation → Instruction
  does column o = record { place = at column; operation = o }

  -- the pointer, in temporary 3
  abbrev pointer_loaded : ℕ → List Instruction → List Instruction
  pointer_loaded column is = does column (op.Address 2 3 0) ∷ (does column (op.Load 3 2 scalar.Pointer) ∷ is)

  abbrev pub allocation : Instruction
  allocation = does 2 (op.Library (Some 1) Malloc (one 0) (Some 1) None)

  abbrev pub entry_rest : List Instruction
  entry_rest =
      does 3 (op.Enter 3)
      ∷ (does 4 (op.Address 2 3 0)
      ∷ (does 5 (op.Address 3 0 0)
      ∷ (does 6 (op.Store 2 3 scalar.Pointer None)
      ∷ (does 7 op.Jump ∷ []))))

  abbrev entry_block : BasicBlock
  entry_block = record {
    instructions = made (does 1 (op.Constant 0 (pos 4) size) ∷ (allocation ∷ entry_rest)) (omega arith);
    first_edge = 0;
    edges = 1;
    is_head = false;
  }

  -- while (*s)
  abbrev pub head_instructions : List Instruction
  head_instructions = pointer_loaded 8 (does 9 (op.Load 4 3 (scalar.Int char)) ∷ (does 10 (op.Branch 4 (scalar.Int char)) ∷ []))

  abbrev head_block : BasicBlock
  head_block = record {
    instructions = made head_instructions (omega arith);
    first_edge = 1;
    edges = 2;
    is_head = true;
  }

  -- s = s + 1
  abbrev pub turn_instructions : List Instruction
  turn_instructions = pointer_loaded 11 (does 12 (op.Shift 5 3 amount.One 1 false) ∷ (does 13 (op.Store 2 5 scalar.Pointer None) ∷ (does 14 op.Jump ∷ [])))

  abbrev turn_block : BasicBlock
  turn_block = record {
    instructions = made turn_instructions (omega arith);
    first_edge = 3;
    edges = 1;
    is_head = false;
  }

  -- *(s + 1)
  abbrev pub last_instructions : List Instruction
  last_instructions = pointer_loaded 15 (does 16 (op.Shift 5 3 amount.One 1 false) ∷ (does 17 (op.Load 4 5 (scalar.Int char)) ∷ (does 18 op.Stop ∷ [])))

  abbrev last_block : BasicBlock
  last_block = record {
    instructions = made last_instructions (omega arith);
    first_edge = 4;
    edges = 0;
    is_head = false;
  }

  abbrev leads : ℕ → ℕ → EdgeKind → Edge
  leads from to taken = record { from = from; to = to; kind = taken }

  abbrev text : List ℕ
  text = 97 ∷ (98 ∷ [])

  abbrev pub program : Flow
  program = record {
    blocks = made (entry_block ∷ (head_block ∷ (turn_block ∷ (last_block ∷ [])))) (omega arith);
    edges = made (leads 0 1 kind.Jump ∷ (leads 1 2 (kind.When true None None) ∷ (leads 1 3 (kind.When false None None) ∷ (leads 2 1 kind.Jump ∷ [])))) (omega arith);
    bases = made (literal_base ∷ (newest_base ∷ (older_base ∷ (pointer_base ∷ [])))) (omega arith);
    temps = 6;
    initial = one (record { object = static.Literal 0; size = 3; base = Some 0; value = initial.Literal text });
    parameters = none;
    entry = at 1;
    structs = record { items = none };
    width = 27;
    model = lp64;
  }

  -- ---- the unit

  abbrev main : FunctionView
  main = record { name = []; at = at 1; returns = Int int; parameters = 0; locals = []; scope = []; body = []; labels = 0 }

  abbrev string : LiteralView
  string = record { at = at 5; bytes = text }

  abbrev pub unit : UnitView
  unit = record { functions = main ∷ []; constants = []; objects = []; structs = []; literals = string ∷ []; entry = 0; model = lp64 }

  abbrev table : TableView
  table = record { bases = []; width = 0; objects = []; literals = Some 0 ∷ [] }

  -- ---- premises

  pub regular : is_regular program type_list ≡ true
  regular = refl

  pub started : has_start interval_lattice interval_numbers program ≡ true
  unfolding start_row start_objects start_object start_value
  started = refl

  pub checked : IsChecked program type_list
  checked = record { parts = refl; structs = refl; reaches = refl }

  literal_is : IsBaseOf unit program.bases.items Literal (literal_type true 2) 0
  unfolding leaves_of zeros_of
  literal_is = record { info = literal_base; among = refl; kinds = refl; sizes = refl; shapes = refl }

  the_literal : (k b : ℕ) (l : LiteralView) → slice_get unit.literals k ≡ Some l → known table.literals k ≡ Some b → IsBaseOf unit program.bases.items Literal (literal_type true (length l.bytes)) b
  the_literal zero b l at is = subst (λ y. IsBaseOf unit program.bases.items Literal (literal_type true (length y.bytes)) b) (same_Some string l at) (subst (IsBaseOf unit program.bases.items Literal (literal_type true 2)) (same_Some 0 b is) literal_is)
  the_literal (suc k) b l at is = absurd (none_some l at)

  one_literal : (j k b : ℕ) → known table.literals j ≡ Some b → known table.literals k ≡ Some b → j ≡ k
  one_literal zero zero b at there = refl
  one_literal zero (suc k) b at there = absurd (none_some b there)
  one_literal (suc j) k b at there = absurd (none_some b at)

  pub starts : StartsAs unit program
  starts = record {
    model = refl;
    table = table;
    initial = refl;
    shared = record {
      objects = λ k b o at is. absurd (none_some o at);
      literals = λ k b l at is. the_literal k b l at is;
      own_objects = λ j k b at there. absurd (none_some b at);
      own_literals = λ j k b at there. one_literal j k b at there;
    };
    inputs = record {
      types = refl;
      bases = λ k p at. absurd (none_some p at);
      own = λ j k p q at there same. absurd (none_some p at);
    };
    typed = λ k o at. absurd (none_some o at);
  }

  -- ---- a run

  abbrev pub violation : Violation
  violation = record { at = at 17; rule = rule.Invptr }

  -- where there is memory the run comes to the end of its string in 33 steps
  reads : found_in (flow_steps (flow_view program) 33 (flow_begin unit (flow_view program) (pos 1 ∷ []))) ≡ violation ∷ []
  reads = refl

  pub violated : IsViolatedIn program unit violation
  violated = record { draws = pos 1 ∷ []; steps = 33; there = subst (λ vs. Contains vs violation) (sym reads) (0, omega arith, refl) }
