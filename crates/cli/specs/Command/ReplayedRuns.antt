-- What is told of a unit holds what replays of it find.
use Rattle.std.specs.Prelude.{ℕ, ℤ, List, Option}
use Rattle.std.specs.List.{Contains}
use Rattle.cc_base.specs.declared.diagnostics.Diag.{Diag}
use Rattle.c_layout.specs.declared.data_model.Model.{Model}
use Rattle.c_layout.specs.declared.unit_tokens.Unit7.{Unit7}
use Rattle.interp.specs.Runs.OutcomeViews.{OutcomeView}
use Rattle.cli_units.specs.Judging.{judging, Judgement, IsJudged}
use Rattle.cli_units.specs.Replaying.{ran, IsReplayed}

-- each pair of a replay is among the pairs of the same unit, where it is judged under the same model and from the same entry on
abbrev pub ReplaysAreTold : Type 0
ReplaysAreTold =
    (unit : Unit7) (m : Model) (entry : List ℕ) (turns other : Option ℕ) (j : Judgement) (draws : List ℤ) (steps : ℕ) (outcome : OutcomeView) → IsJudged unit (judging m entry turns) j → IsReplayed unit (judging m entry other) draws steps (ran outcome)
    → (d : Diag) → Contains outcome.diags d → Contains j.pairs d
