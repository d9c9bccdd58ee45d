use Rattle.std.proofs.Common.{ap, ◌∙◌}
use Rattle.std.specs.Option.{option_map}
use Rattle.std.proofs.lemmas.Result.{err_from_is_err_and}
use Rattle.memory_model.specs.Effects.Tests.{object}
use Rattle.interp_stack.specs.TestViews as tests
use Rattle.interp_steps.specs.MachineItems.MachineViews.{state_view}
use Rattle.interp_steps.specs.MachineItems.Moves.{tested_as}
use Rattle.interp.proofs.machine.branch_turns.tested_side.Goals as goal

pub returns-in_err-side-in-Object : goal.returns-in_err-side-in-Object
returns-in_err-side-in-Object c = λ u.
    let names = (state_view u c.args.m.now).names in
    let lost = c.in_err-side-in-Object.ensures u in
    let p = err_from_is_err_and c.from_residual.result c.from_residual.ensures.1 in
    rw (p.1, p.2) (lost.0, ap (λ n. tested_as names (tests.side_view n)) c.in-Object.is ∙ ap (option_map (λ i. object i c.in-Object.found.kind)) lost.1)

pub returns-in_ok-side-in-Object : goal.returns-in_ok-side-in-Object
returns-in_ok-side-in-Object c = λ u.
    ap (λ n. tested_as (state_view u c.args.m.now).names (tests.side_view n)) c.in-Object.is ∙ c.in_ok-side-in-Object.ensures u
