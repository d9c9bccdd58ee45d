-- Programs whose rows are those of their bases and temporaries.
use Rattle.std.specs.Prelude.{◌≡◌, ℕ, ◌+◌, ◌^◌, ◌<◌, true, length}
use Rattle.cfg.specs.WellFormed.{all_values}
use Rattle.cfg.specs.declared.programs.Flow.{Flow}
use Rattle.pointer_domain.specs.declared.base_sets.Bases.{Bases}
use Rattle.pointer_domain.specs.BaseSets.{bases_within}
use Rattle.domain_theorems.specs.Values.Consistency.{AreWords}
use Rattle.store_objects.specs.LiveBases.{only_base}
use Rattle.store_monotone.specs.Operations.StoreLaws.{IsLayout}

-- bases of regular shapes that follow each other, all of them in a set of words, and the temporaries behind them
pub record IsLaidOut (all : Bases) (flow : Flow) : Type 0 where
  pub layout : IsLayout flow.model flow.bases.items
  pub width : flow.width ≡ all_values flow.bases.items + flow.temps
  pub near : flow.width < 2 ^ 64
  pub words : AreWords all
  pub named : (number : ℕ) → number < length flow.bases.items → bases_within (only_base number) all ≡ true
