use Rattle.std.proofs.Common.{◌∙◌, ap}
use Rattle.transfer_library_plans.specs.Calls.{call_view}
use Rattle.transfer_library_plans.specs.Outputs.{argument_at}
use Rattle.transfer_library.specs.StringCalls.{strcpy_scanned, strcpy_given, plan_strcpy}
use Rattle.transfer_library.proofs.string_calls.plan_strcpy.Goals as goal

pub returns : goal.returns
unfolding plan_strcpy
returns g c =
    c.strcpy_scanned.ensures
    ∙ ap (λ found. strcpy_scanned g.I.Lattice.lattice g.I.IntDomain.numbers (call_view c.args.call) c.args.row.now c.argument_at-to.result c.argument_at-from.result found) c.scan_at-found.ensures.value
    ∙ ap (λ to. strcpy_given g.I.Lattice.lattice g.I.IntDomain.numbers (call_view c.args.call) c.args.row.now to c.argument_at-from.result) c.argument_at-to.ensures.value
    ∙ ap (λ from. strcpy_given g.I.Lattice.lattice g.I.IntDomain.numbers (call_view c.args.call) c.args.row.now (argument_at g.I.Lattice.lattice g.I.IntDomain.numbers (call_view c.args.call) c.args.row.now 0) from) c.argument_at-from.ensures.value
