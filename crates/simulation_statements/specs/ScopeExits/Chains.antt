-- The way between two places of a function.
use Rattle.std.specs.Prelude.{◌≡◌, ℕ, List}
use Rattle.lower_templates.specs.Worklist.Settings.{SettingView}
use Rattle.semantics.specs.SourceMachine.Scopes.{all_of, inwards, without}
use Rattle.simulation_terms.specs.Scopes.Chains.{Chain, AreApart}
use Rattle.simulation_statements.specs.ScopeExits.Between.{Between}

-- the way between two scopes leaves and enters what the source does between two such places
pub record IsWay (s : SettingView) (from to : ℕ) (here there : List (List ℕ)) : Type 0 where
  pub leaves : List ℕ
  pub enters : List ℕ
  pub between : Between s from to leaves enters
  pub left : without (all_of there) (all_of here) ≡ leaves
  pub entered : without (all_of here) (inwards there) ≡ enters

-- between any two places of a function there is such a way
abbrev pub ChainsHaveWays : Type 0
ChainsHaveWays = (s : SettingView) → AreApart s → (from to : ℕ) (here there : List (List ℕ)) → Chain s from here → Chain s to there → IsWay s from to here there
