-- No run of a unit that is answered is stuck: each step of it is defined.
use Rattle.std.specs.Prelude.{◌≡◌, ℕ, ℤ, true, List}
use Rattle.c_layout.specs.CheckedUnits.{UnitView, unit_view}
use Rattle.c_layout.specs.declared.unit_tokens.Unit7.{Unit7}
use Rattle.c_layout.specs.declared.syntax_tree.declarations.Tree7.{Tree7}
use Rattle.c_layout.specs.declared.checked_tree.checked_units.Checked.{Checked}
use Rattle.lower_preconditions.specs.Units.RegularUnits.{is_regular_unit}
use Rattle.cfg.specs.declared.programs.Flow.{Flow}
use Rattle.memory_model.specs.Effects.Worlds.{World, Stuck, Violation}
use Rattle.semantics.specs.SourceMachine.SourceRuns.{stopped, Run}
use Rattle.simulation_units.specs.CheckedUnits.LookedRuns.{PassesLooks}
use Rattle.cli_units.specs.Judging.{SettingView, Judgement, IsParsed, IsTyped, IsLooked, IsJudged}
use Rattle.cli_units.specs.Certifying.{IsProgram}
use Rattle.cli_units.specs.Replaying.{RunAnswer, IsReplayed}

-- what typing makes of tokens passes the looks at its terms and scopes, where what it does not ask was looked at
abbrev pub TypedUnitsPassLooks : Type 0
TypedUnitsPassLooks = (unit : Unit7) (s : SettingView) (tree : Tree7) (checked : Checked) → IsParsed unit tree → IsTyped s tree checked → IsLooked unit s → is_regular_unit (unit_view checked) ≡ true → PassesLooks (unit_view checked)

-- whatever comes from the outside, and after any number of turns
abbrev pub IsNeverStuck : UnitView → Type 0
IsNeverStuck u = (draws : List ℤ) (turns : ℕ) (w : World) (found : List Violation) (steps : ℕ) → Run u draws turns ≡ stopped Stuck w found steps → ⊥

-- so it is of a unit that is judged, of one whose program has a certificate or is checked by one, and of one that is replayed
pub record RunsAreDefined : Type 0 where
  pub judged : (unit : Unit7) (s : SettingView) (j : Judgement) (is : IsJudged unit s j) → IsNeverStuck (unit_view is.checked)
  pub certified : (unit : Unit7) (s : SettingView) (flow : Flow) (is : IsProgram unit s flow) → IsNeverStuck (unit_view is.checked)
  pub replayed : (unit : Unit7) (s : SettingView) (draws : List ℤ) (steps : ℕ) (answer : RunAnswer) (is : IsReplayed unit s draws steps answer) → IsNeverStuck (unit_view is.checked)
