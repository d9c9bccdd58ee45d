use Rattle.std.proofs.Common.{◌∙◌, ap}
use Rattle.transfer_library_plans.specs.Calls.{call_view}
use Rattle.transfer_library_plans.specs.Arguments.{argument_value}
use Rattle.transfer_library.specs.MemoryCalls.{fill_given, plan_fill}
use Rattle.transfer_library.proofs.memory_calls.plan_fill.Goals as goal

pub returns : goal.returns
unfolding plan_fill
returns g c =
    c.fill_given.ensures
    ∙ ap (λ v. fill_given g.I.Lattice.lattice g.I.IntDomain.numbers (call_view c.args.call) v c.argument_value-n.result c.argument_at.result) c.argument_value-c.ensures.value
    ∙ ap (λ v. fill_given g.I.Lattice.lattice g.I.IntDomain.numbers (call_view c.args.call) (argument_value g.I.Lattice.lattice g.I.IntDomain.numbers (call_view c.args.call) c.args.row.now 1) v c.argument_at.result) c.argument_value-n.ensures.value
    ∙ ap (λ to. fill_given g.I.Lattice.lattice g.I.IntDomain.numbers (call_view c.args.call) (argument_value g.I.Lattice.lattice g.I.IntDomain.numbers (call_view c.args.call) c.args.row.now 1) (argument_value g.I.Lattice.lattice g.I.IntDomain.numbers (call_view c.args.call) c.args.row.now 2) to) c.argument_at.ensures.value
