use Rattle.std.proofs.Common.{◌∙◌, ap}
use Rattle.transfer_library_plans.specs.Calls.{call_view}
use Rattle.transfer_library_plans.specs.Outputs.{argument_at, scan_at}
use Rattle.transfer_library.specs.StringCalls.{strcat_scanned, strcat_given, plan_strcat}
use Rattle.transfer_library.proofs.string_calls.plan_strcat.Goals as goal

pub returns : goal.returns
unfolding plan_strcat
returns g c =
    c.strcat_scanned.ensures
    ∙ ap (λ there. strcat_scanned g.I.Lattice.lattice g.I.IntDomain.numbers (call_view c.args.call) c.args.row.now c.argument_at-to.result c.argument_at-from.result there c.scan_at-added.result) c.scan_at-there.ensures.value
    ∙ ap (λ added. strcat_scanned g.I.Lattice.lattice g.I.IntDomain.numbers (call_view c.args.call) c.args.row.now c.argument_at-to.result c.argument_at-from.result (scan_at g.I.Lattice.lattice g.I.IntDomain.numbers (call_view c.args.call) c.args.row.now c.argument_at-to.result) added) c.scan_at-added.ensures.value
    ∙ ap (λ to. strcat_given g.I.Lattice.lattice g.I.IntDomain.numbers (call_view c.args.call) c.args.row.now to c.argument_at-from.result) c.argument_at-to.ensures.value
    ∙ ap (λ from. strcat_given g.I.Lattice.lattice g.I.IntDomain.numbers (call_view c.args.call) c.args.row.now (argument_at g.I.Lattice.lattice g.I.IntDomain.numbers (call_view c.args.call) c.args.row.now 0) from) c.argument_at-from.ensures.value
