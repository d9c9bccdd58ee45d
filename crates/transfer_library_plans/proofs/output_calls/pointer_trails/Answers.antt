use Rattle.std.proofs.Common.{◌≡◌, arith, subst}
use Rattle.transfer_library_plans.specs.Calls.{call_view}
use Rattle.transfer_library_plans.specs.Outputs.{pointer_trails}
use Rattle.transfer_library_plans.proofs.output_calls.pointer_trails.Goals as goal

pub returns : goal.returns
returns g c =
    let e : c.loop-at.at ≡ c.args.count = omega arith in
    subst (λ k. c.loop-at.checked ≡ pointer_trails g.I.Lattice.lattice g.I.IntDomain.numbers (call_view c.args.call) c.args.row.now k c.args.trail) e c.loop-at.invariant
