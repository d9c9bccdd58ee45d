use Rattle.std.proofs.Common.{◌≡◌, ◌<◌, ◌+◌, false, length, arith}
use Rattle.std.proofs.lemmas.Grind.{common_steps}
use Rattle.cfg.specs.WellFormed.{leads}
use Rattle.cfg_checks.specs.Bodies.{is_on}
use Rattle.cfg_checks.proofs.Bodies.{ends_between}
use Rattle.cfg_checks.proofs.block_bodies.is_body.Goals as goal

pub returns-else-at-instructions : goal.returns-else-at-instructions
returns-else-at-instructions c =
    let more : c.loop-at.at + 1 < length c.args.instructions.now = grind (arith, common_steps) in
    let off : is_on (leads c.index-instructions-at.result.operation) ≡ false = grind (arith, common_steps) in
    let none = ends_between c.args.instructions.now c.loop-at.at c.index-instructions-at.result c.args.own.now more c.index-instructions-at.is off in
    grind (arith, common_steps, none)
