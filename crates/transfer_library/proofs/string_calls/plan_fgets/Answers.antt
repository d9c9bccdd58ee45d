use Rattle.std.proofs.Common.{◌∙◌, ap}
use Rattle.transfer_library_plans.specs.Calls.{call_view}
use Rattle.transfer_library_plans.specs.Arguments.{argument_value}
use Rattle.transfer_library.specs.StringCalls.{fgets_given, plan_fgets}
use Rattle.transfer_library.proofs.string_calls.plan_fgets.Goals as goal

pub returns : goal.returns
unfolding plan_fgets
returns g c =
    c.fgets_given.ensures
    ∙ ap (λ v. fgets_given g.I.Lattice.lattice g.I.IntDomain.numbers (call_view c.args.call) v c.argument_at-to.result) c.argument_value-n.ensures.value
    ∙ ap (λ to. fgets_given g.I.Lattice.lattice g.I.IntDomain.numbers (call_view c.args.call) (argument_value g.I.Lattice.lattice g.I.IntDomain.numbers (call_view c.args.call) c.args.row.now 1) to) c.argument_at-to.ensures.value
