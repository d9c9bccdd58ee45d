use Rattle.std.proofs.Common.{arith}
use Rattle.std.proofs.lemmas.Grind.{common_steps}
use Rattle.cfg_bases_checks.proofs.PartsLeft.{nothing_left}
use Rattle.cfg_bases_checks.proofs.first_zero_parts.lie_over.Goals as goal

pub returns : goal.returns
returns c =
    let left = nothing_left c.loop-leaf.done c.args.parts.now c.loop-leaf.at (omega (arith, c.loop-leaf.invariant.1)) in
    grind (arith, common_steps, left)
