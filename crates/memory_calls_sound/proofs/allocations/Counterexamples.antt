-- Without sizes that are not negative the law is false: the machine takes -5 for 5 bytes, and the analysis has no
-- size left for an instance, so that the result is null alone. Without a site it is false too: the analysis says
-- that no run goes on.
use Rattle.std.proofs.Common.{◌≡◌, ℕ, true, false, Option, Some, None, List, refl}
use Rattle.std.specs.Prelude.{pos, negsuc}
use Rattle.cc_base.specs.Lattices.{LatticeOf}
use Rattle.cc_base.specs.IntegerDomains.{IntegersOf}
use Rattle.cc_base.specs.NumberRanges.{range_met}
use Rattle.c_layout.specs.declared.shapes.BaseInfo.{BaseInfo}
use Rattle.cfg.specs.WellFormed.{is_site}
use Rattle.cfg.specs.declared.programs.Flow.{Flow}
use Rattle.value_domain.specs.declared.values.row_cells.Cell.{Cell}
use Rattle.transfer_library.specs.Effects.{apply}
use Rattle.transfer_library_plans.specs.declared.call_plans.Effect.TheVariants as effect
use Rattle.memory_model.specs.Effects.LibraryChecks.{size_of}

machine_takes_five : size_of (negsuc 4) ≡ 5
machine_takes_five = refl

no_size_is_left : range_met (Some (negsuc 4, negsuc 4)) (pos 0) (pos 8) ≡ None
no_size_is_left = refl

fits_without_site : (bases : List BaseInfo) → is_site bases None ≡ true
fits_without_site bases = refl

module _ {I : Type 0} (l : LatticeOf I) (n : IntegersOf I) (flow : Flow) (row : List (Cell I)) (size : I) where
  ends_without_site : (to : Option ℕ) → apply l n flow to None (effect.Allocate size false) row ≡ None
  unfolding apply
  ends_without_site to = refl
