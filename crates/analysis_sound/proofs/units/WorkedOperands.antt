-- By every map of the worked program operands lie within their types: one temporary alone is a size, and 4.
use Rattle.std.specs.Prelude.{◌≡◌, ◌+◌, ◌&&◌, ℕ, zero, suc, pos, Bool, true, false, Option, Some, None, List, [], ◌∷◌, slice_get, set, refl}
use Rattle.std.specs.List.{list_all}
use Rattle.std.specs.Option.{unwrap_or}
use Rattle.std.proofs.lemmas.Bool.{and_parts}
use Rattle.cfg.specs.declared.machine_instructions.Instruction.{Instruction}
use Rattle.cfg.specs.declared.machine_instructions.Operation.{Operation}
use Rattle.cfg.specs.declared.machine_instructions.Operation.TheVariants as op
use Rattle.cfg.specs.declared.programs.Flow.{Flow}
use Rattle.interval_domain.specs.declared.intervals.intervals.Interval.{Interval}
use Rattle.interval_domain.specs.Intervals.IntervalLattice.{interval_lattice}
use Rattle.interval_domain.specs.Intervals.IntervalNumbers.{interval_numbers}
use Rattle.interval_domain.specs.Intervals.Spans.{between_or_empty}
use Rattle.value_domain.specs.Values.LabelSets.{no_labels}
use Rattle.value_domain.specs.Values.ValueTables.{number_value}
use Rattle.value_domain.specs.declared.values.row_cells.Cell.{Cell}
use Rattle.value_domain.specs.declared.values.row_cells.Cell.TheVariants.{Nothing, Value}
use Rattle.store_cells.specs.NearValues.{near_number}
use Rattle.store_cells.specs.RowPositions.{value_at, value_in}
use Rattle.transfer_instructions.specs.Values.IntegerSteps.{constant_step}
use Rattle.transfer_instructions.specs.Values.ResultTemps.{put_number}
use Rattle.transfer_instructions.specs.Instructions.Steps.{operate}
use Rattle.diagnose.specs.Diagnostics.AdmittedRules.{row_behind}
use Rattle.diagnose.specs.Operands.TypedRows.{is_natural, has_operands, is_typed_at, are_typed_from, are_typed, is_typed_block, is_typed_entry, are_typed_rows, is_typed_map}
use Rattle.analysis_sound.proofs.units.WorkedProgram.{program, allocation, entry_rest, head_instructions, turn_instructions, last_instructions}

abbrev Row : Type 0
Row = List (Cell Interval)

both : (a b : Bool) → a ≡ true → b ≡ true → (a && b) ≡ true
both true true p q = refl
both false b p q = absurd (cc)
both true false p q = absurd (cc)

-- what is put at a place is there, or there is nothing
put_there : {X : Type 0} (p : Option X → Type 0) (xs : List X) (k : ℕ) (x : X) → p None → p (Some x) → p (slice_get (set xs k x) k)
put_there p [] k x none some = none
put_there p (y ∷ ys) zero x none some = some
put_there p (y ∷ ys) (suc k) x none some = put_there p ys k x none some

-- nothing is asked of the operands
abbrev is_free : Operation → Bool
is_free (op.Binary to o left right kind) = false
is_free (op.Unary to o operand kind) = false
is_free (op.Convert to operand from kind) = false
is_free (op.Library to name arguments newest size) = false
is_free _ = true

module _ (flow : Flow) where
  free_operands : (row : Row) (o : Operation) → is_free o ≡ true → has_operands interval_lattice interval_numbers flow row o ≡ true
  unfolding has_operands
  free_operands row (op.Binary to o left right kind) h = absurd (cc)
  free_operands row (op.Unary to o operand kind) h = absurd (cc)
  free_operands row (op.Convert to operand from kind) h = absurd (cc)
  free_operands row (op.Library to name arguments newest size) h = absurd (cc)
  free_operands row _ h = refl

  free_at : (i : Instruction) (row : Option Row) → is_free i.operation ≡ true → is_typed_at interval_lattice interval_numbers flow i row ≡ true
  free_at i None h = refl
  free_at i (Some row) h = free_operands row i.operation h

  free_typed : (is : List Instruction) → list_all (λ i. is_free i.operation) is ≡ true → (row : Option Row) → are_typed_from interval_lattice interval_numbers flow row is ≡ true
  free_typed [] h row = refl
  free_typed (i ∷ is) h row =
      let p = and_parts (is_free i.operation) (list_all (λ i. is_free i.operation) is) h in
      both (is_typed_at interval_lattice interval_numbers flow i row) (are_typed_from interval_lattice interval_numbers flow (row_behind interval_lattice interval_numbers flow i row) is) (free_at i row p.0) (free_typed is p.1 (row_behind interval_lattice interval_numbers flow i row))

module _ (some : Flow) where
  abbrev four : Cell Interval
  four = Value (number_value interval_lattice (interval_numbers.one (pos 4)) no_labels)

  -- the size of the allocation, where it has been put
  size_put : (row : Row) → is_typed_at interval_lattice interval_numbers (program some) (allocation some) (Some (set row 21 four)) ≡ true
  unfolding has_operands value_at between_or_empty
  size_put row = put_there (λ o. (is_natural (interval_numbers.bounds (near_number interval_lattice interval_numbers (value_in interval_lattice (unwrap_or o Nothing)).num)) && true) ≡ true) row 21 four refl refl

  entry_typed : (row : Row) → is_typed_block interval_lattice interval_numbers (program some) 0 row ≡ true
  unfolding is_typed_block are_typed has_operands operate constant_step put_number between_or_empty
  entry_typed row =
      let behind = row_behind interval_lattice interval_numbers (program some) (allocation some) (Some (set row 21 four)) in
      both (is_typed_at interval_lattice interval_numbers (program some) (allocation some) (Some (set row 21 four))) (are_typed_from interval_lattice interval_numbers (program some) behind (entry_rest some)) (size_put row) (free_typed (program some) (entry_rest some) refl behind)

  block_typed : (number : ℕ) (row : Row) → is_typed_block interval_lattice interval_numbers (program some) number row ≡ true
  unfolding is_typed_block are_typed
  block_typed zero row = entry_typed row
  block_typed (suc zero) row = free_typed (program some) (head_instructions some) refl (Some row)
  block_typed (suc (suc zero)) row = free_typed (program some) (turn_instructions some) refl (Some row)
  block_typed (suc (suc (suc zero))) row = free_typed (program some) (last_instructions some) refl (Some row)
  block_typed (suc (suc (suc (suc k)))) row = refl

  row_typed : (number : ℕ) (row : Option Row) → is_typed_entry interval_lattice interval_numbers (program some) number row ≡ true
  row_typed number None = refl
  row_typed number (Some row) = block_typed number row

  rows_typed : (number : ℕ) (rows : List (Option Row)) → are_typed_rows interval_lattice interval_numbers (program some) number rows ≡ true
  rows_typed number [] = refl
  rows_typed number (row ∷ rows) = both (is_typed_entry interval_lattice interval_numbers (program some) number row) (are_typed_rows interval_lattice interval_numbers (program some) (number + 1) rows) (row_typed number row) (rows_typed (number + 1) rows)

  pub all_typed : (rows : List (Option Row)) → is_typed_map interval_lattice interval_numbers (program some) rows ≡ true
  unfolding is_typed_map
  all_typed rows = rows_typed 0 rows
