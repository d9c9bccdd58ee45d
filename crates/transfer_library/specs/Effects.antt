-- The effect of a call on a row: the row after it, None where it does not go on.
use Rattle.std.specs.Prelude.{ℕ, ◌+◌, ◌^◌, ◌-◌, min, Bool, true, false, cond, Option, Some, None, List}
use Rattle.cc_base.specs.Lattices.{LatticeOf}
use Rattle.cc_base.specs.IntegerDomains.{IntegersOf}
use Rattle.cfg.specs.declared.programs.Flow.{Flow}
use Rattle.value_domain.specs.declared.values.values.Value.{Value}
use Rattle.value_domain.specs.declared.values.row_cells.Cell.{Cell}
use Rattle.value_domain.specs.Values.ValueTables.{pointer_value}
use Rattle.store_objects.specs.declared.allocation.Fresh.{Fresh}
use Rattle.store_objects.specs.declared.allocation.Fresh.TheVariants as fresh
use Rattle.store_objects.specs.Allocations.{renew, renewed_pointer, site_of}
use Rattle.store_objects.specs.Freeing.{free}
use Rattle.store.specs.NearValues.{near_number}
use Rattle.transfer_checks.specs.Temporaries.{put_temp}
use Rattle.transfer_library_plans.specs.declared.call_plans.Effect.{Effect}
use Rattle.transfer_library_plans.specs.declared.call_plans.Effect.TheVariants.{Unreached, Result, Text, Fill, Copy, Allocate, Reallocate, Free}
use Rattle.transfer_library_writes.specs.TextWrites.{write_text}
use Rattle.transfer_library_writes.specs.FillWrites.{write_fill}
use Rattle.transfer_library_writes.specs.CopyWrites.{write_copy}

abbrev pub older_of : ℕ → ℕ
older_of newest = min (newest + 1) (2 ^ 32 - 1)

module _ {I : Type 0} where
  -- the effects that write bytes, or nothing but a result
  abbrev pub is_write : Effect I → Bool
  is_write Unreached = false
  is_write (Result v) = true
  is_write (Text write v) = true
  is_write (Fill write v) = true
  is_write (Copy write v) = true
  is_write (Allocate size zero) = false
  is_write (Reallocate size old) = false
  is_write (Free p) = false

  -- the result in its temporary, where it has one
  abbrev pub put_result : Flow → Option ℕ → Value I → List (Cell I) → List (Cell I)
  put_result flow None v row = row
  put_result flow (Some temp) v row = put_temp flow row temp v

  abbrev pub allocated_at : LatticeOf I → IntegersOf I → Flow → Option ℕ → ℕ → I → Fresh I → List (Cell I) → List (Cell I)
  allocated_at l n flow to newest size fresh row =
      put_result flow to (pointer_value l (renewed_pointer l n flow.bases.items (site_of newest (older_of newest)) size)) (renew l n flow.model flow.bases.items newest (older_of newest) size fresh row)

  -- an allocation at the site whose newest base has this number; the older one follows it
  abbrev pub allocated : LatticeOf I → IntegersOf I → Flow → Option ℕ → Option ℕ → I → Fresh I → List (Cell I) → Option (List (Cell I))
  allocated l n flow to None size fresh row = None
  allocated l n flow to (Some newest) size fresh row = Some (allocated_at l n flow to newest (near_number l n size) fresh row)

  -- what an effect makes of a row
  unfoldable pub apply : LatticeOf I → IntegersOf I → Flow → Option ℕ → Option ℕ → Effect I → List (Cell I) → Option (List (Cell I))
  apply l n flow to newest Unreached row = None
  apply l n flow to newest (Result v) row = Some (put_result flow to v row)
  apply l n flow to newest (Text write v) row = Some (put_result flow to v (write_text l n flow write row))
  apply l n flow to newest (Fill write v) row = Some (put_result flow to v (write_fill l n flow write row))
  apply l n flow to newest (Copy write v) row = Some (put_result flow to v (write_copy l n flow write row))
  apply l n flow to newest (Allocate size zero) row = allocated l n flow to newest size (cond zero fresh.Zero fresh.Blank) row
  apply l n flow to newest (Reallocate size old) row = allocated l n flow to newest size (fresh.Old old) row
  apply l n flow to newest (Free p) row = Some (free l n flow.bases.items p row)
