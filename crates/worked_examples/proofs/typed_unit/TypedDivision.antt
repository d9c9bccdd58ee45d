-- The program of the unit, and the types of its pointers at each of its instructions.
use Rattle.std.specs.Prelude.{◌<◌, ◌^◌, slice_get}
use Rattle.std.specs.Global.{Vec}
use Rattle.std.specs.List.{Contains}
use Rattle.std.proofs.Common.{◌≡◌, ℕ, zero, suc, pos, true, false, List, [], ◌∷◌, length, Some, None, arith, subst, refl}
use Rattle.std.proofs.lemmas.List.Elements.{at_from_Contains}
use Rattle.std.proofs.lemmas.Option.{same_Some}
use Rattle.cc_base.specs.declared.integer_operators.IntOp.TheVariants.{Div}
use Rattle.c_layout.specs.Leaves.{leaves_of}
use Rattle.c_layout.specs.Models.{lp64}
use Rattle.c_layout.specs.Types.{Ty, Int}
use Rattle.c_layout.specs.declared.leaf_lists.Class.TheVariants as class
use Rattle.c_layout.specs.declared.leaf_lists.Leaf.{Leaf}
use Rattle.c_layout.specs.declared.shapes.BaseInfo.{BaseInfo}
use Rattle.c_layout.specs.declared.shapes.BaseKind.TheVariants.{Automatic}
use Rattle.cfg.specs.WellFormed.{On, leads}
use Rattle.cfg.specs.declared.basic_blocks.BasicBlock.{BasicBlock}
use Rattle.cfg.specs.declared.machine_instructions.Amount.TheVariants as amount
use Rattle.cfg.specs.declared.machine_instructions.Instruction.{Instruction}
use Rattle.cfg.specs.declared.machine_instructions.Operation.{Operation}
use Rattle.cfg.specs.declared.machine_instructions.Operation.TheVariants as op
use Rattle.cfg.specs.declared.machine_instructions.Scalar.{Scalar}
use Rattle.cfg.specs.declared.machine_instructions.Scalar.TheVariants as scalar
use Rattle.cfg.specs.declared.programs.Flow.{Flow}
use Rattle.lower_templates.specs.Views.ProgramViews.{EdgeView, FlowView, flow_view}
use Rattle.semantics.specs.CfgMachine.FlowEdges.{edges_of}
use Rattle.semantics.specs.CfgMachine.FlowSteps.{block_of}
use Rattle.typed_lowering.specs.PlainUnits.{is_plain_unit}
use Rattle.diagnose.specs.Diagnostics.AdmittedRules.{instructions_of}
use Rattle.typed_lowering.specs.PointedTypes.{Element, Known, Pointing, is_same, IsLess, number_kind, pointer_kind}
use Rattle.typed_lowering.specs.TypedStates.{Temporaries}
use Rattle.typed_lowering.specs.TypedPrograms.{IsKept, PointsTo, IsTypedOperation, gives_number, gives_address, loads, stores_in, computes, enters, leaves_object, ends_run, IsTypedWay, IsObjectOf, IsTypedProgram}
use Rattle.typed_lowering.proofs.AllLaws.{all_laws}
use Rattle.typed_lowering.proofs.TypedPrograms.{typed_accesses}
use Rattle.worked_examples.specs.TypedUnit.DividesByPointed.{at, int, to_int, unit, objects, nothing, temporaries, points, before_each, known_from, known, typing, IsTypedDivision}

none_there : {X : Type 0} (x : X) (n : ℕ) → slice_get [] n ≡ Some x → ⊥
none_there x n e = cc

none_in : {X : Type 0} (x : X) → Contains [] x → ⊥
none_in x h = let a = at_from_Contains [] x h in let b = a.1 in omega (arith, b)

none_some : {X : Type 0} (x : X) → None ≡ Some x → ⊥
none_some x e = cc

is_plain : is_plain_unit unit ≡ true
is_plain = refl

-- ---- what is known

forgotten : (before : Temporaries) → IsKept before nothing
forgotten before t k e = absurd (none_some k e)

same_less : (t : Ty) (k : Known) → points t ≡ Some k → IsLess (Pointing (Element t)) k
same_less t k e = subst (IsLess (Pointing (Element t))) (same_Some (Pointing (Element t)) k e) (is_same (Element t))

first_kept : (before : Temporaries) (t : Ty) → before 0 ≡ points t → IsKept before (temporaries (points t) None)
first_kept before t is zero k e = (Pointing (Element t), is, same_less t k e)
first_kept before t is (suc zero) k e = absurd (none_some k e)
first_kept before t is (suc (suc n)) k e = absurd (none_some k e)

second_kept : (before : Temporaries) (t : Ty) → before 1 ≡ points t → IsKept before (temporaries None (points t))
second_kept before t is zero k e = absurd (none_some k e)
second_kept before t is (suc zero) k e = (Pointing (Element t), is, same_less t k e)
second_kept before t is (suc (suc n)) k e = absurd (none_some k e)

both_kept : (before : Temporaries) (t u : Ty) → before 0 ≡ points t → before 1 ≡ points u → IsKept before (temporaries (points t) (points u))
both_kept before t u is there zero k e = (Pointing (Element t), is, same_less t k e)
both_kept before t u is there (suc zero) k e = (Pointing (Element u), there, same_less u k e)
both_kept before t u is there (suc (suc n)) k e = absurd (none_some k e)

module _ (some : Flow) where
  -- ---- the program

  abbrev made : {X : Type 0} (xs : List X) → length xs < 2 ^ 63 → Vec X
  made xs h = record { ptr = some.blocks.ptr; len = length xs; cap = length xs; alloc = some.blocks.alloc; items = xs; ok = (refl, omega arith); small = h }

  abbrev none : {X : Type 0} → Vec X
  none = made [] (omega arith)

  abbrev does : ℕ → Operation → Instruction
  does column o = record { place = at column; operation = o }

  abbrev int_scalar : Scalar
  int_scalar = scalar.Int int

  abbrev ends : ℕ → List Instruction
  ends column = does column (op.Leave 0) ∷ (does column (op.Leave 1) ∷ (does column op.Stop ∷ []))

  abbrev divides_by : List Instruction
  divides_by = does 45 (op.Load 1 1 scalar.Pointer) ∷ (does 44 (op.Load 1 1 int_scalar) ∷ (does 42 (op.Binary 0 Div 0 (amount.Temp 1) int) ∷ ends 34))

  abbrev points_p : List Instruction
  points_p = does 29 (op.Address 0 1 0) ∷ (does 32 (op.Address 1 0 0) ∷ (does 29 (op.Store 0 1 scalar.Pointer None) ∷ (does 41 (op.Constant 0 (pos 1) int) ∷ (does 45 (op.Address 1 1 0) ∷ divides_by))))

  abbrev first_instructions : List Instruction
  first_instructions = does 15 (op.Enter 0) ∷ (does 15 (op.Enter 1) ∷ (does 20 (op.Address 0 0 0) ∷ (does 22 (op.Constant 1 (pos 0) int) ∷ (does 20 (op.Store 0 1 int_scalar None) ∷ points_p))))

  abbrev first_block : BasicBlock
  first_block = record { instructions = made first_instructions (omega arith); first_edge = 0; edges = 0; is_head = false }

  -- the end of `main`, which is not reached
  abbrev last_block : BasicBlock
  last_block = record { instructions = made (ends 47) (omega arith); first_edge = 0; edges = 0; is_head = false }

  abbrev int_leaf : Leaf
  int_leaf = record { offset = 0; class = class.Int; signed = true; stride = 4; count = 1 }

  abbrev int_base : BaseInfo
  int_base = record { kind = Automatic; size = 4; first = 0; shape = record { cells = int_leaf ∷ []; zeros = []; heap = false } }

  abbrev pointer_leaf : Leaf
  pointer_leaf = record { offset = 0; class = class.Pointer; signed = false; stride = 8; count = 1 }

  abbrev pointer_base : BaseInfo
  pointer_base = record { kind = Automatic; size = 8; first = 1; shape = record { cells = pointer_leaf ∷ []; zeros = []; heap = false } }

  abbrev pub program : Flow
  program = record {
    blocks = made (first_block ∷ (last_block ∷ [])) (omega arith);
    edges = none;
    bases = made (int_base ∷ (pointer_base ∷ [])) (omega arith);
    temps = 2;
    initial = none;
    parameters = none;
    entry = at 5;
    structs = record { items = none };
    width = 4;
    model = lp64;
  }

  abbrev f : FlowView
  f = flow_view program

  -- ---- objects

  int_object : IsObjectOf program (Int int) int_base
  unfolding leaves_of
  int_object = record { leaves = refl; size = refl; kinds = refl; small = refl }

  pointer_object : IsObjectOf program to_int pointer_base
  unfolding leaves_of
  pointer_object = record { leaves = refl; size = refl; kinds = refl; small = refl }

  object_of : (b : ℕ) (base : BaseInfo) → slice_get program.bases.items b ≡ Some base → IsObjectOf program (objects b) base
  object_of zero base e = subst (IsObjectOf program (Int int)) (same_Some int_base base e) int_object
  object_of (suc zero) base e = subst (IsObjectOf program to_int) (same_Some pointer_base base e) pointer_object
  object_of (suc (suc b)) base e = absurd (none_there base b e)

  -- ---- instructions

  abbrev IsTypedAs : Temporaries → Temporaries → Operation → Type 0
  IsTypedAs before after o = IsTypedOperation program objects before after o

  abbrev rest : List Temporaries → List Temporaries
  rest [] = []
  rest (k ∷ ks) = ks

  abbrev AreTyped : List Instruction → List Temporaries → Type 0
  AreTyped [] ks = Unit {0}
  AreTyped (i ∷ is) ks = IsTypedAs (known_from ks 0) (known_from ks 1) i.operation × AreTyped is (rest ks)

  typed_at : (is : List Instruction) (ks : List Temporaries) → AreTyped is ks → (at : ℕ) (i : Instruction) → slice_get is at ≡ Some i → IsTypedAs (known_from ks at) (known_from ks (suc at)) i.operation
  typed_at [] ks h at i e = absurd (none_there i at e)
  typed_at (x ∷ is) ks h zero i e = subst (λ (y : Instruction). IsTypedAs (known_from ks 0) (known_from ks 1) y.operation) (same_Some x i e) h.0
  typed_at (x ∷ is) [] h (suc at) i e = typed_at is [] h.1 at i e
  typed_at (x ∷ is) (k ∷ ks) h (suc at) i e = typed_at is ks h.1 at i e

  points_to : (before after : Temporaries) (temp : ℕ) (t : Ty) → before temp ≡ points t → PointsTo program objects before after temp t
  points_to before after temp t is = record { known = Pointing (Element t); target = Element t; has = is; less = is_same (Element t); is = refl }

  typed_ends : (column : ℕ) → AreTyped (ends column) []
  typed_ends column = (leaves_object 0 (forgotten nothing), (leaves_object 1 (forgotten nothing), (ends_run, tt)))

  stores_x : IsTypedAs (temporaries (points (Int int)) None) nothing (op.Store 0 1 int_scalar None)
  stores_x = stores_in 0 1 int_scalar None (Int int) None (points_to _ _ 0 (Int int) refl) (number_kind int (omega arith)) tt (forgotten _)

  stores_p : IsTypedAs (temporaries (points to_int) (points (Int int))) nothing (op.Store 0 1 scalar.Pointer None)
  stores_p = stores_in 0 1 scalar.Pointer None to_int (points (Int int)) (points_to _ _ 0 to_int refl) (pointer_kind (Int int)) (Pointing (Element (Int int)), refl, is_same (Element (Int int))) (forgotten _)

  loads_p : IsTypedAs (temporaries None (points to_int)) (temporaries None (points (Int int))) (op.Load 1 1 scalar.Pointer)
  loads_p = loads 1 1 scalar.Pointer to_int (points (Int int)) (points_to _ _ 1 to_int refl) (pointer_kind (Int int)) (second_kept _ (Int int) refl)

  loads_x : IsTypedAs (temporaries None (points (Int int))) nothing (op.Load 1 1 int_scalar)
  loads_x = loads 1 1 int_scalar (Int int) None (points_to _ _ 1 (Int int) refl) (number_kind int (omega arith)) (forgotten _)

  divides_typed : AreTyped divides_by (temporaries None (points to_int) ∷ (temporaries None (points (Int int)) ∷ []))
  divides_typed = (loads_p, (loads_x, (computes 0 Div 0 (amount.Temp 1) int (forgotten _), typed_ends 34)))

  points_typed : AreTyped points_p (nothing ∷ (temporaries (points to_int) None ∷ (temporaries (points to_int) (points (Int int)) ∷ (nothing ∷ (nothing ∷ (temporaries None (points to_int) ∷ (temporaries None (points (Int int)) ∷ [])))))))
  points_typed = (gives_address 0 1 (first_kept _ to_int refl), (gives_address 1 0 (both_kept _ to_int (Int int) refl refl), (stores_p, (gives_number 0 (pos 1) int (forgotten _), (gives_address 1 1 (second_kept _ to_int refl), divides_typed)))))

  first_typed : AreTyped first_instructions before_each
  first_typed = (enters 0 (forgotten _), (enters 1 (forgotten _), (gives_address 0 0 (first_kept _ (Int int) refl), (gives_number 1 (pos 0) int (first_kept _ (Int int) refl), (stores_x, points_typed)))))

  steps : (block at : ℕ) (i : Instruction) → slice_get (instructions_of program block) at ≡ Some i → IsTypedAs (known block at) (known block (suc at)) i.operation
  steps zero at i e = typed_at first_instructions before_each first_typed at i e
  steps (suc zero) at i e = typed_at (ends 47) [] (typed_ends 47) at i e
  steps (suc (suc block)) at i e = absurd (none_there i at e)

  no_edges : (block at : ℕ) (i : Instruction) (e : EdgeView) → slice_get (instructions_of program block) at ≡ Some i → (leads i.operation ≡ On → ⊥) → Contains (edges_of f (block_of f block)) e → IsTypedWay e.taken (known block (suc at)) (known e.to 0)
  no_edges zero at i e there off h = absurd (none_in e h)
  no_edges (suc zero) at i e there off h = absurd (none_in e h)
  no_edges (suc (suc block)) at i e there off h = absurd (none_there i at there)

  -- ---- the unit

  typed : IsTypedProgram program unit typing
  typed = record {
    laid = record { model = refl; apart = refl; ordered = refl };
    structures = refl;
    model = refl;
    bases = object_of;
    first = λ n o store there h. absurd (none_there o n there);
    named = λ b i e. absurd (none_some i e);
    parameters = refl;
    begins = λ t. refl;
    steps = steps;
    edges = no_edges;
  }

  pub typed_division : IsTypedDivision program
  typed_division = record { typed = typed; look = is_plain; accesses = typed_accesses all_laws program unit typing typed; found = refl }
