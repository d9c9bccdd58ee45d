-- What an edge makes of the row at the end of its block: the row that comes to its target, None where
-- no run takes it.
use Rattle.std.specs.Prelude.{ℕ, ◌-◌, ℤ, int_le, Bool, true, false, cond, not, ◌&&◌, ◌||◌, Option, Some, None, List, [], ◌∷◌, length, slice_get}
use Rattle.std.specs.Ordering.{int_eq}
use Rattle.cc_base.specs.Lattices.{LatticeOf}
use Rattle.cc_base.specs.IntegerDomains.{IntegersOf}
use Rattle.cc_base.specs.NumberRanges.{Range}
use Rattle.cc_base.specs.Truths.{can_hold, can_fail}
use Rattle.cc_base.specs.declared.integer_operators.Tri.{Tri}
use Rattle.cfg.specs.declared.programs.Flow.{Flow}
use Rattle.cfg.specs.declared.basic_blocks.BasicBlock.{BasicBlock}
use Rattle.cfg.specs.declared.flow_edges.Edge.{Edge}
use Rattle.cfg.specs.declared.flow_edges.EdgeKind.{EdgeKind}
use Rattle.cfg.specs.declared.flow_edges.EdgeKind.TheVariants as kind
use Rattle.cfg.specs.declared.flow_edges.Test.{Test}
use Rattle.cfg.specs.declared.flow_edges.CaseTest.{CaseTest}
use Rattle.cfg.specs.declared.machine_instructions.Instruction.{Instruction}
use Rattle.cfg.specs.declared.machine_instructions.Operation.{Operation}
use Rattle.cfg.specs.declared.machine_instructions.Operation.TheVariants as op
use Rattle.value_domain.specs.declared.values.row_cells.Cell.{Cell}
use Rattle.value_domain.specs.Values.LabelSets.{no_labels}
use Rattle.value_domain.specs.Values.ValueTables.{number_value, pointer_value, value_truth}
use Rattle.store_cells.specs.ByteWrites.{null_pointer}
use Rattle.transfer_checks.specs.Temporaries.{temp_value, put_temp}
use Rattle.transfer_edges.specs.declared.branch_edges.LineCall.{LineCall}
use Rattle.transfer_edges.specs.Refinements.{refine, refine_case}
use Rattle.transfer_instructions.specs.Instructions.CallSteps.{write_line}

-- ---- the instruction that ends a block

abbrev pub last_of : Option BasicBlock → Option Instruction
last_of None = None
last_of (Some block) = slice_get block.instructions.items (length block.instructions.items - 1)

abbrev pub last_instruction : Flow → ℕ → Option Instruction
last_instruction flow block = last_of (slice_get flow.blocks.items block)

abbrev pub deciding_operand : Operation → Option ℕ
deciding_operand (op.Branch temp scalar) = Some temp
deciding_operand (op.Switch temp int_type) = Some temp
deciding_operand _ = None

abbrev pub deciding_of : Option Instruction → Option ℕ
deciding_of None = None
deciding_of (Some i) = deciding_operand i.operation

-- the temporary by which a branch or a switch goes on
abbrev pub deciding_temp : Flow → ℕ → Option ℕ
deciding_temp flow block = deciding_of (last_instruction flow block)

abbrev pub line_of : Operation → Option LineCall
line_of (op.ReadLine to line count stream) = Some (record { to_temp = to; line = line; count = count; stream = stream })
line_of _ = None

abbrev pub line_call_of : Option Instruction → Option LineCall
line_call_of None = None
line_call_of (Some i) = line_of i.operation

-- the call of `fgets` that ends a block
abbrev pub line_call : Flow → ℕ → Option LineCall
line_call flow block = line_call_of (last_instruction flow block)

-- ---- conditions

abbrev pub truth_can_be : Tri → Bool → Bool
truth_can_be t truth = cond truth (can_hold t) (can_fail t)

abbrev pub includes : Range → ℤ → Bool
includes None number = false
includes (Some p) number = int_le p.0 number && int_le number p.1

abbrev pub has_label : List ℤ → ℤ → Bool
has_label [] number = false
has_label (label ∷ labels) number = int_eq label number || has_label labels number

-- a number that is no label, where there are several numbers or the one is none
abbrev pub is_other_than : Range → List ℤ → Bool
is_other_than None labels = false
is_other_than (Some p) labels = not (int_eq p.0 p.1) || not (has_label labels p.0)

module _ {I : Type 0} where
  -- the scalar of a branch can be true, or false
  abbrev pub can_be : LatticeOf I → IntegersOf I → Flow → List (Cell I) → Option ℕ → Bool → Bool
  can_be l n flow row None truth = false
  can_be l n flow row (Some temp) truth = truth_can_be (value_truth n (temp_value l n flow row temp)) truth

  -- ---- branches

  -- a temporary takes 0 or 1
  unfoldable pub put_kept : LatticeOf I → IntegersOf I → Flow → Option (ℕ × ℤ) → List (Cell I) → List (Cell I)
  put_kept l n flow None row = row
  put_kept l n flow (Some p) row = put_temp flow row p.0 (number_value l (n.one p.1) no_labels)

  unfoldable pub refine_if : LatticeOf I → IntegersOf I → Flow → Option Test → List (Cell I) → Option (List (Cell I))
  refine_if l n flow None row = Some row
  refine_if l n flow (Some test) row = refine l n flow test row

  abbrev pub kept_behind : LatticeOf I → IntegersOf I → Flow → Option (ℕ × ℤ) → Option (List (Cell I)) → Option (List (Cell I))
  kept_behind l n flow kept None = None
  kept_behind l n flow kept (Some row) = Some (put_kept l n flow kept row)

  unfoldable pub behind_test : LatticeOf I → IntegersOf I → Flow → Option Test → Option (ℕ × ℤ) → List (Cell I) → Option (List (Cell I))
  behind_test l n flow test kept row = kept_behind l n flow kept (refine_if l n flow test row)

  unfoldable pub branch_edge : LatticeOf I → IntegersOf I → Flow → List (Cell I) → Option ℕ → Bool → Option Test → Option (ℕ × ℤ) → Option (List (Cell I))
  branch_edge l n flow row temp truth test kept = cond (can_be l n flow row temp truth) (behind_test l n flow test kept row) None

  -- ---- switches

  -- the numbers of the value that is switched on
  abbrev pub switched : LatticeOf I → IntegersOf I → Flow → List (Cell I) → Option ℕ → Range
  switched l n flow row None = None
  switched l n flow row (Some temp) = n.bounds (temp_value l n flow row temp).num

  abbrev pub refine_named_case : LatticeOf I → IntegersOf I → Flow → Option ℕ → ℤ → List (Cell I) → Option (List (Cell I))
  refine_named_case l n flow None number row = Some row
  refine_named_case l n flow (Some base) number row = refine_case l n flow base number row

  unfoldable pub refine_object : LatticeOf I → IntegersOf I → Flow → CaseTest → List (Cell I) → Option (List (Cell I))
  refine_object l n flow test row = refine_named_case l n flow test.object test.value row

  unfoldable pub case_edge : LatticeOf I → IntegersOf I → Flow → List (Cell I) → Option ℕ → CaseTest → Option (List (Cell I))
  case_edge l n flow row temp test = cond (includes (switched l n flow row temp) test.value) (refine_object l n flow test row) None

  -- ---- the two edges of `fgets`

  abbrev pub put_null : LatticeOf I → Flow → Option ℕ → List (Cell I) → List (Cell I)
  put_null l flow None row = row
  put_null l flow (Some temp) row = put_temp flow row temp (pointer_value l (null_pointer l))

  unfoldable pub no_line_edge : LatticeOf I → Flow → List (Cell I) → Option LineCall → Option (List (Cell I))
  no_line_edge l flow row None = None
  no_line_edge l flow row (Some c) = Some (put_null l flow c.to_temp row)

  unfoldable pub line_edge : LatticeOf I → IntegersOf I → Flow → List (Cell I) → Option LineCall → Option (List (Cell I))
  line_edge l n flow row None = None
  line_edge l n flow row (Some c) = write_line l n flow row c.to_temp c.line c.count c.stream

  -- ---- all edges

  unfoldable pub follow : LatticeOf I → IntegersOf I → Flow → List (Cell I) → ℕ → EdgeKind → Option (List (Cell I))
  follow l n flow row from kind.Jump = Some row
  follow l n flow row from (kind.When truth test kept) = branch_edge l n flow row (deciding_temp flow from) truth test kept
  follow l n flow row from (kind.Case test) = case_edge l n flow row (deciding_temp flow from) test
  follow l n flow row from (kind.Other labels) = cond (is_other_than (switched l n flow row (deciding_temp flow from)) labels.items) (Some row) None
  follow l n flow row from kind.NoLine = no_line_edge l flow row (line_call flow from)
  follow l n flow row from kind.Line = line_edge l n flow row (line_call flow from)

  abbrev pub follow_if : LatticeOf I → IntegersOf I → Flow → List (Cell I) → Option Edge → Option (List (Cell I))
  follow_if l n flow row None = None
  follow_if l n flow row (Some e) = follow l n flow row e.from e.kind

  unfoldable pub edge : LatticeOf I → IntegersOf I → Flow → List (Cell I) → ℕ → Option (List (Cell I))
  edge l n flow row number = follow_if l n flow row (slice_get flow.edges.items number)
