use Rattle.std.proofs.Common.{subst, sym}
use Rattle.cli_units.specs.Judging.{setting_view, StopsUnit}
use Rattle.cli_units.proofs.Staging.{typing_stops}
use Rattle.cli_units.proofs.unit_answers.typed.Goals as goal

pub returns-in-Err-clause-stops : goal.returns-in-Err-clause-stops
returns-in-Err-clause-stops c =
    subst (λ s. StopsUnit c.args.unit.now (setting_view c.args.setting) s) (sym c.stop_at.ensures) (typing_stops c.args.unit.now (setting_view c.args.setting) c.args.tree.now c.requires.parsed c.in-Err.stop c.in-Err.ensures.checked)
