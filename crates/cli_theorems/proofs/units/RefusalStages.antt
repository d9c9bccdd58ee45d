-- Where neither the expansion nor the work behind it refuses a unit, no stage does.
use Rattle.std.specs.Prelude.{List, Err}
use Rattle.std.proofs.Common.{inl, inr}
use Rattle.cc_base.specs.declared.refusals.Fault.{Fault}
use Rattle.cc_base.specs.declared.refusals.Stop.TheVariants as stop
use Rattle.cli_texts.specs.Reports.{Bytes}
use Rattle.cli_units.specs.Judging.{SettingView}
use Rattle.cli_units.specs.declared.stages.Stage.{Stage}
use Rattle.cli_units.specs.declared.stages.Stage.TheVariants as stage
use Rattle.cli_answers.specs.Verdicts.{Gives, IsLaterRefusal, IsStaged}

pub not_staged : (given : Gives) (s : SettingView) (names : List Bytes) (why : Fault) (at : Stage) → (given names (Err (stop.Refused why)) → ⊥) → (IsLaterRefusal given s names why → ⊥) → IsStaged given s names why at → ⊥
not_staged given s names why stage.Expansion early later h = early h
not_staged given s names why stage.Numbers early later (inl h) = early h
not_staged given s names why stage.Numbers early later (inr h) = later h
not_staged given s names why stage.Grammar early later h = later h
not_staged given s names why stage.Typing early later h = later h
not_staged given s names why stage.Counting early later h = later h
