-- The program of
--
--     int main(void) { int i; return 1 / 0; }
--
-- as far as its tables go: the unit's trees are not looked at. Its certificate has a pointer from 5 bytes before an object.
use Rattle.std.specs.Prelude.{◌≡◌, ◌++◌, ℕ, zero, suc, pos, negsuc, true, false, Option, Some, None, List, [], ◌∷◌, codes, refl}
use Rattle.std.specs.Global.{Vec}
use Rattle.std.specs.Fmt.{digits}
use Rattle.std.specs.List.{Contains}
use Rattle.std.specs.List.Sorted.{IsStrictlySortedBy}
use Rattle.std.proofs.Common.{arith, subst, sym}
use Rattle.cc_base.specs.DiagnosticOrder.{IsOrderedSet}
use Rattle.cc_base.specs.InductiveMap.{IsInductive, IsOwn, row_at}
use Rattle.cc_base.specs.Rows.{reached_leq}
use Rattle.cc_base.specs.declared.diagnostics.Diag.{Diag}
use Rattle.cc_base.specs.declared.diagnostics.Place.{Place}
use Rattle.cc_base.specs.declared.diagnostics.Rule.TheVariants as rule
use Rattle.cc_base.specs.declared.int_types.IntType.{IntType}
use Rattle.cc_base.specs.declared.integer_operators.IntOp.TheVariants.{Div}
use Rattle.c_layout.specs.Models.{lp64}
use Rattle.c_layout.specs.Types.{Int}
use Rattle.c_layout.specs.CheckedUnits.{FunctionView, UnitView}
use Rattle.c_layout.specs.declared.leaf_lists.Class.TheVariants as class
use Rattle.c_layout.specs.declared.shapes.BaseInfo.{BaseInfo}
use Rattle.c_layout.specs.declared.shapes.BaseKind.TheVariants.{Automatic}
use Rattle.cfg.specs.declared.basic_blocks.BasicBlock.{BasicBlock}
use Rattle.cfg.specs.declared.machine_instructions.Amount.TheVariants as amount
use Rattle.cfg.specs.declared.machine_instructions.Instruction.{Instruction}
use Rattle.cfg.specs.declared.machine_instructions.Operation.{Operation}
use Rattle.cfg.specs.declared.machine_instructions.Operation.TheVariants as op
use Rattle.cfg.specs.declared.programs.Flow.{Flow}
use Rattle.lower_templates.specs.Views.ProgramViews.{flow_view}
use Rattle.semantics.specs.CfgMachine.FlowStates.{found_in}
use Rattle.semantics.specs.CfgMachine.FlowSteps.{flow_steps}
use Rattle.semantics.specs.CfgMachine.FlowStarts.{flow_begin}
use Rattle.lower_tables.specs.Bases.BaseTables.{TableView}
use Rattle.interval_domain.specs.Numbers.Nearest.{nearest}
use Rattle.interval_domain.specs.Intervals.Spans.{between_or_empty}
use Rattle.interval_domain.specs.Intervals.IntervalLattice.{interval_lattice}
use Rattle.interval_domain.specs.Intervals.IntervalNumbers.{interval_numbers}
use Rattle.interval_domain.specs.declared.intervals.intervals.Interval.{Interval}
use Rattle.pointer_domain.specs.PointerLattice.{no_pointer}
use Rattle.value_domain.specs.Values.Values.{value_lattice}
use Rattle.value_domain.specs.declared.values.row_cells.Cell.{Cell}
use Rattle.value_domain.specs.declared.values.row_cells.Cell.TheVariants.{Value}
use Rattle.memory_model.specs.Effects.Worlds.{Violation}
use Rattle.transfer_edges.specs.StartRows.{empty_row, empty_bases, empty_base, empty_state, start_objects, start_parameters, start_row}
use Rattle.transfer_system.specs.BoundedRows.FittedRows.{row_fit, cell_fit}
use Rattle.transfer_system.specs.BoundedRows.OwnRows.{bases_below}
use Rattle.transfer_instructions.specs.Instructions.Steps.{operate}
use Rattle.transfer_instructions.specs.Instructions.StepViolations.{operation_violations}
use Rattle.transfer_instructions.specs.Values.IntegerSteps.{constant_step, binary_step}
use Rattle.transfer_instructions.specs.Values.ResultTemps.{put_number}
use Rattle.transfer_system.specs.System.FlowMachines.{has_start, start_of}
use Rattle.transfer_system.specs.System.RegularPrograms.{is_regular}
use Rattle.row_bounds.specs.Entries.CutStarts.{type_list}
use Rattle.row_bounds.proofs.entries.BuiltPrograms.{made, one, none}
use Rattle.diagnose.specs.Diagnostics.AdmittedRules.{pairs_of, instruction_pairs, block_pairs, map_pairs}
use Rattle.diagnose.specs.Operands.TypedRows.{has_operands, are_typed, is_typed_block, is_typed_map}
use Rattle.store_cells.specs.FirstZeroWrites.{set_zeros}
use Rattle.store_cells.specs.RowPositions.{value_at}
use Rattle.analysis_determined.specs.Analyses.{row_lattice, machine_of, admitted_pairs}
use Rattle.analysis_sound.specs.Analyses.SoundAnalyses.{IsViolatedIn}
use Rattle.entry_sound.specs.Tables.UnitStarts.{StartsAs}
use Rattle.certificate_text.specs.Lines.LineWords.{Bytes, until, behind, first_byte, same_bytes}
use Rattle.certificate_text.specs.Lines.DecimalWords.{cap, grown, small, capped, number_of, range_of}
use Rattle.certificate_text.specs.Lines.CellReaders.{labels_given, pointer_given, value_given, first_given, state_given, cell_given}
use Rattle.certificate_text.specs.Lines.CellTexts.{bit_text, labels_sum, with_pointer, with_value, with_first, with_state}
use Rattle.certificate_text.specs.Lines.BaseDigits.{bit_value, nibble, used_below, bases_text, with_bit, with_digit}
use Rattle.certificate_text.specs.Lines.MapLines.{reached_text, placed_text, line_given}
use Rattle.certificate_text.specs.Maps.MapTexts.{head_text}
use Rattle.certificate_text.specs.Maps.LeastCells.{is_no_pointer, is_no_value, is_no_state}
use Rattle.certificate_check.specs.Reading.TextPlaces.{line_at, next_place}
use Rattle.certificate_check.specs.Reading.GreatestRows.{greatest_row}
use Rattle.certificate_check.specs.Reading.CellReading.{cell_read}
use Rattle.certificate_check.specs.Reading.BlockReading.{block_read}
use Rattle.certificate_check.specs.Reading.MapReading.{has_head, head_read, map_rows, map_reading, is_whole}
use Rattle.certificate_check.specs.ClosedMaps.MapFaults.{starts_below}
use Rattle.certificate_check.specs.Verdicts.Verdicts.{cert_cells, cert_machine, IsVerdictOn}
use Rattle.certificate_check.specs.declared.verdicts.verdicts.Verdict.TheVariants.{Yes}
use Rattle.certificate_programs.specs.Programs.Certificates.{look_numbers, IsVerified}
use Rattle.certificate_programs.specs.declared.programs.checked_maps.Verified.TheVariants.{Found}

none_some : {A : Type 0} (x : A) → None ≡ Some x → ⊥
none_some x e = cc

-- ---- the certificate

abbrev pub text : Bytes
text = codes "ccheck-cert 1 1 4" ++ (10 ∷ (codes "r 1" ++ (10 ∷ (codes "0 v - 0 0 1 -5:0 0:0 4:4 0 0 0" ++ (10 ∷ [])))))

abbrev nothing : Cell Interval
nothing = Value (value_lattice interval_lattice).least

-- from 5 bytes before the object
abbrev before_object : Cell Interval
before_object = Value (record (value_lattice interval_lattice).least {
  pointer = record (no_pointer interval_lattice) {
    bases = bases_below 1;
    lo = interval_numbers.between (negsuc 4) (pos 0);
    rel = interval_numbers.between (pos 0) (pos 0);
    len = interval_numbers.between (pos 4) (pos 4);
  };
})

abbrev pub row : List (Cell Interval)
row = before_object ∷ (nothing ∷ (nothing ∷ (nothing ∷ [])))

abbrev pub start : List (Cell Interval)
start = nothing ∷ (nothing ∷ (nothing ∷ (nothing ∷ [])))

module _ (some : Flow) where
  abbrev at : ℕ → Place
  at column = record { file = 0; line = 1; col = column }

  abbrev int : IntType
  int = record { bytes = 4; signed = true; rank = 3 }

  abbrev object : BaseInfo
  object = record {
    kind = Automatic;
    size = 4;
    first = 0;
    shape = record { cells = record { offset = 0; class = class.Int; signed = true; stride = 4; count = 1 } ∷ []; zeros = []; heap = false };
  }

  abbrev does : ℕ → Operation → Instruction
  does column o = record { place = at column; operation = o }

  abbrev block : BasicBlock
  block = record {
    instructions = made some (does 1 (op.Constant 0 (pos 1) int) ∷ (does 2 (op.Constant 1 (pos 0) int) ∷ (does 3 (op.Binary 2 Div 0 (amount.Temp 1) int) ∷ (does 4 op.Stop ∷ [])))) (omega arith);
    first_edge = 0;
    edges = 0;
    is_head = false;
  }

  abbrev pub program : Flow
  program = record {
    blocks = one some block;
    edges = none some;
    bases = one some object;
    temps = 3;
    initial = none some;
    parameters = none some;
    entry = at 1;
    structs = record { items = none some };
    width = 4;
    model = lp64;
  }

  -- ---- the unit

  abbrev main : FunctionView
  main = record { name = []; at = at 1; returns = Int int; parameters = 0; locals = []; scope = []; body = []; labels = 0 }

  abbrev pub unit : UnitView
  unit = record { functions = main ∷ []; constants = []; objects = []; structs = []; literals = []; entry = 0; model = lp64 }

  abbrev table : TableView
  table = record { bases = []; width = 0; objects = []; literals = [] }

  pub starts : StartsAs unit program
  starts = record {
    model = refl;
    table = table;
    initial = refl;
    shared = record {
      objects = λ k b o at is. absurd (none_some o at);
      literals = λ k b l at is. absurd (none_some l at);
      own_objects = λ j k b at there. absurd (none_some b at);
      own_literals = λ j k b at there. absurd (none_some b at);
    };
    inputs = record {
      types = refl;
      bases = λ k p at. absurd (none_some p at);
      own = λ j k p q at there same. absurd (none_some p at);
    };
    typed = λ k o at. absurd (none_some o at);
  }

  -- ---- what is supposed of the program

  pub started : has_start interval_lattice interval_numbers program ≡ true
  unfolding start_row empty_row empty_bases empty_base empty_state start_objects start_parameters
  started = refl

  abbrev pub rows : List (Option (List (Cell Interval)))
  rows = Some start ∷ []

  -- no block follows
  none_own : (b : ℕ) → IsOwn (machine_of program type_list) (row_at [] b)
  none_own zero = tt
  none_own (suc b) = tt

  rows_own : (b : ℕ) → IsOwn (machine_of program type_list) (row_at rows b)
  unfolding bases_below between_or_empty
  rows_own zero = refl
  rows_own (suc b) = none_own b

  begins : reached_leq row_lattice (Some (machine_of program type_list).start) (Some start) ≡ true
  unfolding start_of row_fit cell_fit bases_below between_or_empty start_row empty_row empty_bases empty_base empty_state start_objects start_parameters set_zeros nearest
  begins = refl

  no_head : (b : ℕ) → (machine_of program type_list).head b ≡ true → ⊥
  no_head zero h = cc
  no_head (suc zero) h = cc
  no_head (suc (suc b)) h = cc

  pub inductive : IsInductive row_lattice (machine_of program type_list) rows
  inductive = record {
    size = refl;
    own = rows_own;
    entry = begins;
    edge = λ e lt. absurd (omega (arith, lt));
    rounded = λ b h. absurd (no_head b h);
  }

  pub typed : is_typed_map interval_lattice interval_numbers program rows ≡ true
  unfolding is_typed_map is_typed_block are_typed has_operands operate constant_step binary_step put_number value_at between_or_empty
  typed = refl

  pub regular : is_regular program type_list ≡ true
  regular = refl

  -- ---- the certificate is accepted

  pub rows_are : map_rows program text ≡ Some row ∷ []
  unfolding map_rows head_read has_head head_text greatest_row row_fit cell_fit bases_below between_or_empty block_read cell_read line_at next_place until behind first_byte same_bytes
      cap grown small capped number_of range_of labels_given pointer_given value_given first_given state_given cell_given bit_text labels_sum with_pointer with_value with_first with_state
      bit_value nibble used_below bases_text with_bit with_digit reached_text placed_text line_given is_no_pointer is_no_value is_no_state digits nearest
  rows_are = refl

  whole : is_whole text (map_reading program text) ≡ true
  unfolding map_reading head_read has_head head_text greatest_row row_fit cell_fit bases_below between_or_empty block_read cell_read line_at next_place until behind first_byte same_bytes
      cap grown small capped number_of range_of labels_given pointer_given value_given first_given state_given cell_given bit_text labels_sum with_pointer with_value with_first with_state
      bit_value nibble used_below bases_text with_bit with_digit reached_text placed_text line_given is_no_pointer is_no_value is_no_state digits nearest
  whole = refl

  below : starts_below cert_cells (cert_machine program) (Some row ∷ []) ≡ true
  unfolding start_of row_fit cell_fit bases_below between_or_empty start_row empty_row empty_bases empty_base empty_state start_objects start_parameters set_zeros nearest
  below = refl

  abbrev pub diagnostic : Diag
  diagnostic = record { place = at 3; rule = rule.Diverr }

  pairs_are : admitted_pairs program (Some row ∷ []) ≡ diagnostic ∷ []
  unfolding map_pairs block_pairs instruction_pairs pairs_of operation_violations operate constant_step binary_step put_number value_at between_or_empty bases_below
  pairs_are = refl

  abbrev pub found : Vec Diag
  found = one some diagnostic

  ordered : IsOrderedSet (diagnostic ∷ []) (diagnostic ∷ [])
  unfolding IsStrictlySortedBy
  ordered = record { ascending = (tt, tt); kept = λ d h. h; made = λ d h. h }

  accepted : IsVerdictOn program text Yes
  accepted = (whole, (subst (λ rs. starts_below cert_cells (cert_machine program) rs ≡ true) (sym rows_are) below, λ e lt. absurd (omega (arith, lt))))

  -- by the certificate's own rows operands lie within their types
  row_typed : is_typed_map interval_lattice interval_numbers program (Some row ∷ []) ≡ true
  unfolding is_typed_map is_typed_block are_typed has_operands operate constant_step binary_step put_number value_at between_or_empty bases_below
  row_typed = refl

  look_regular : is_regular program look_numbers ≡ true
  look_regular = refl

  pub verified : IsVerified program text (Found found)
  verified = record {
    accepted = accepted;
    pairs = subst (λ rs. IsOrderedSet (admitted_pairs program rs) found.items) (sym rows_are) (subst (λ ps. IsOrderedSet ps found.items) (sym pairs_are) ordered);
    looked_at = record { started = started; regular = look_regular; checked = record { parts = refl; structs = refl; reaches = refl } };
    typing = text;
    typed = record { accepted = accepted; typed = subst (λ rs. is_typed_map interval_lattice interval_numbers program rs ≡ true) (sym rows_are) row_typed };
  }

  pub beyond : (machine_of program type_list).own row ≡ false
  unfolding bases_below between_or_empty nearest
  beyond = refl

  -- ---- a run

  abbrev pub violation : Violation
  violation = record { at = at 3; rule = rule.Diverr }

  divides : found_in (flow_steps (flow_view program) 4 (flow_begin unit (flow_view program) [])) ≡ violation ∷ []
  divides = refl

  pub violated : IsViolatedIn program unit violation
  violated = record { draws = []; steps = 4; there = subst (λ vs. Contains vs violation) (sym divides) (0, omega arith, refl) }
