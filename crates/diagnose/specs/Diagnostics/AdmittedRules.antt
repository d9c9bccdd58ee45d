-- The rules that a program may break, by the rows of its blocks.
use Rattle.std.specs.Prelude.{ℕ, ◌+◌, Bool, cond, Option, Some, None, List, [], ◌∷◌, ◌++◌, slice_get}
use Rattle.cc_base.specs.Lattices.{LatticeOf}
use Rattle.cc_base.specs.IntegerDomains.{IntegersOf}
use Rattle.cc_base.specs.declared.diagnostics.Diag.{Diag}
use Rattle.cc_base.specs.declared.diagnostics.Place.{Place}
use Rattle.cc_base.specs.declared.diagnostics.Rule.{Rule}
use Rattle.cc_base.specs.declared.diagnostics.Rule.TheVariants.{Accfree, Chrsgnext, Dblfree, Diverr, Insufmem, Intoflow, Invptr, Libptr, Nonnullcs, Nullref, Ptrobj, Strmod, Taintsink, Uninitref, Xfree}
use Rattle.cfg.specs.declared.programs.Flow.{Flow}
use Rattle.cfg.specs.declared.basic_blocks.BasicBlock.{BasicBlock}
use Rattle.cfg.specs.declared.machine_instructions.Instruction.{Instruction}
use Rattle.value_domain.specs.declared.values.row_cells.Cell.{Cell}
use Rattle.transfer_checks.specs.declared.violation_sets.Violations.{Violations}
use Rattle.transfer_checks.specs.ViolationSets.{violates}
use Rattle.transfer_instructions.specs.Instructions.Steps.{operate}
use Rattle.transfer_instructions.specs.Instructions.StepViolations.{operation_violations, violations_at}

-- the rules on runs, in the order of their tags
abbrev pub run_rules : List Rule
run_rules = Accfree ∷ (Chrsgnext ∷ (Dblfree ∷ (Diverr ∷ (Insufmem ∷ (Intoflow ∷ (Invptr ∷ (Libptr ∷ (Nonnullcs ∷ (Nullref ∷ (Ptrobj ∷ (Strmod ∷ (Taintsink ∷ (Uninitref ∷ (Xfree ∷ []))))))))))))))

abbrev pub with_pair : Place → Violations → Rule → List Diag → List Diag
with_pair place v rule rest = cond (violates v rule) (record { place = place; rule = rule } ∷ rest) rest

-- the rules of the set that are in a list, each with the place
abbrev pub pairs_among : Place → Violations → List Rule → List Diag
pairs_among place v [] = []
pairs_among place v (rule ∷ rules) = with_pair place v rule (pairs_among place v rules)

unfoldable pub pairs_of : Place → Violations → List Diag
pairs_of place v = pairs_among place v run_rules

abbrev pub instructions_in : Option BasicBlock → List Instruction
instructions_in None = []
instructions_in (Some block) = block.instructions.items

-- the instructions of a block
abbrev pub instructions_of : Flow → ℕ → List Instruction
instructions_of flow number = instructions_in (slice_get flow.blocks.items number)

module _ {I : Type 0} where
  -- a row that is reached
  abbrev pub reached_row : Bool → List (Cell I) → Option (List (Cell I))
  reached_row reached row = cond reached (Some row) None

  -- an instruction of a block may break the rule in the row before it
  abbrev pub admits : LatticeOf I → IntegersOf I → Flow → List (Cell I) → ℕ → ℕ → Rule → Bool
  admits l n flow row block at rule = violates (violations_at l n flow row block at) rule

  -- what an instruction may break in the row before it, where that is reached
  abbrev pub pairs_at : LatticeOf I → IntegersOf I → Flow → Instruction → Option (List (Cell I)) → List Diag
  pairs_at l n flow i None = []
  pairs_at l n flow i (Some row) = pairs_of i.place (operation_violations l n flow row i.operation)

  -- the row behind it
  abbrev pub row_behind : LatticeOf I → IntegersOf I → Flow → Instruction → Option (List (Cell I)) → Option (List (Cell I))
  row_behind l n flow i None = None
  row_behind l n flow i (Some row) = operate l n flow row i.operation

  -- what instructions may break, each in the row before it, as far as the row goes on
  abbrev pub pairs_from : LatticeOf I → IntegersOf I → Flow → Option (List (Cell I)) → List Instruction → List Diag
  pairs_from l n flow row [] = []
  pairs_from l n flow row (i ∷ is) = pairs_at l n flow i row ++ pairs_from l n flow (row_behind l n flow i row) is

  unfoldable pub instruction_pairs : LatticeOf I → IntegersOf I → Flow → List Instruction → List (Cell I) → List Diag
  instruction_pairs l n flow instructions row = pairs_from l n flow (Some row) instructions

  -- what the instructions of a block may break from the row at its start
  unfoldable pub block_pairs : LatticeOf I → IntegersOf I → Flow → ℕ → List (Cell I) → List Diag
  block_pairs l n flow number row = instruction_pairs l n flow (instructions_of flow number) row

  abbrev pub entry_pairs : LatticeOf I → IntegersOf I → Flow → ℕ → Option (List (Cell I)) → List Diag
  entry_pairs l n flow number None = []
  entry_pairs l n flow number (Some row) = block_pairs l n flow number row

  abbrev pub rows_pairs : LatticeOf I → IntegersOf I → Flow → ℕ → List (Option (List (Cell I))) → List Diag
  rows_pairs l n flow number [] = []
  rows_pairs l n flow number (entry ∷ entries) = entry_pairs l n flow number entry ++ rows_pairs l n flow (number + 1) entries

  -- what a map admits: a place and a rule for each reached instruction that may break it
  unfoldable pub map_pairs : LatticeOf I → IntegersOf I → Flow → List (Option (List (Cell I))) → List Diag
  map_pairs l n flow rows = rows_pairs l n flow 0 rows
