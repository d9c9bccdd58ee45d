use Rattle.std.proofs.Common.{◌∙◌, ap}
use Rattle.transfer_library_plans.specs.Calls.{call_view}
use Rattle.transfer_library_plans.specs.Arguments.{argument_value}
use Rattle.transfer_library_plans.specs.Outputs.{argument_at}
use Rattle.transfer_library.specs.MemoryCalls.{copy_both, plan_copy}
use Rattle.transfer_library.proofs.memory_calls.plan_copy.Goals as goal

pub returns : goal.returns
unfolding plan_copy
returns g c =
    c.copy_both.ensures
    ∙ ap (λ v. copy_both g.I.Lattice.lattice g.I.IntDomain.numbers (call_view c.args.call) c.args.row.now v c.argument_at-to.result c.argument_at-from.result) c.argument_value-n.ensures.value
    ∙ ap (λ to. copy_both g.I.Lattice.lattice g.I.IntDomain.numbers (call_view c.args.call) c.args.row.now (argument_value g.I.Lattice.lattice g.I.IntDomain.numbers (call_view c.args.call) c.args.row.now 2) to c.argument_at-from.result) c.argument_at-to.ensures.value
    ∙ ap (λ from. copy_both g.I.Lattice.lattice g.I.IntDomain.numbers (call_view c.args.call) c.args.row.now (argument_value g.I.Lattice.lattice g.I.IntDomain.numbers (call_view c.args.call) c.args.row.now 2) (argument_at g.I.Lattice.lattice g.I.IntDomain.numbers (call_view c.args.call) c.args.row.now 0) from) c.argument_at-from.ensures.value
