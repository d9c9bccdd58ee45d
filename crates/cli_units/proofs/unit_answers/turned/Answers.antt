use Rattle.std.proofs.Common.{subst, sym}
use Rattle.cli_units.specs.Judging.{setting_view, IsUnrolled, StopsUnit}
use Rattle.cli_units.proofs.Staging.{turning_stops}
use Rattle.cli_units.proofs.unit_answers.turned.Goals as goal

pub returns-in-Ok-clause-turned : goal.returns-in-Ok-clause-turned
returns-in-Ok-clause-turned c = subst (λ t. IsUnrolled t c.args.flow.now c.in-Ok.made) (sym c.requires.turns) c.in-Ok.ensures.split

pub returns-in-Err-clause-stops : goal.returns-in-Err-clause-stops
returns-in-Err-clause-stops c =
    subst (λ s. StopsUnit c.args.unit.now (setting_view c.args.setting) s) (sym c.stop_at.ensures)
    (turning_stops c.args.unit.now (setting_view c.args.setting) c.args.tree.now c.requires.parsed c.args.checked.now c.requires.typed c.args.flow.now c.requires.lowered c.args.turns c.requires.turns c.standard.result c.standard.ensures c.in-Err.stop c.in-Err.ensures.cause)
