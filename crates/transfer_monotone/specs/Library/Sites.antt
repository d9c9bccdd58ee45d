-- Sites of allocations whose two bases match.
use Rattle.std.specs.Prelude.{◌≡◌, ℕ, true, Some, slice_get}
use Rattle.c_layout.specs.declared.shapes.BaseInfo.{BaseInfo}
use Rattle.cfg.specs.declared.programs.Flow.{Flow}
use Rattle.cfg.specs.WellFormed.{is_site}
use Rattle.pointer_domain.specs.declared.base_sets.Bases.{Bases}
use Rattle.pointer_domain.specs.BaseSets.{bases_has}
use Rattle.store_monotone.specs.Operations.StoreLaws.{IsSite}
use Rattle.transfer_system.specs.Effects.{older_of}

-- the older base is one of the set of all, and has a place for all that the newest has
pub record SiteFits (all : Bases) (flow : Flow) (newest : ℕ) : Type 0 where
  pub older : bases_has all (older_of newest) ≡ true
  pub shapes : (new old : BaseInfo) → slice_get flow.bases.items newest ≡ Some new → slice_get flow.bases.items (older_of newest) ≡ Some old → IsSite new old

abbrev pub HasSites : Bases → Flow → Type 0
HasSites all flow = (newest : ℕ) → is_site flow.bases.items (Some newest) ≡ true → SiteFits all flow newest
