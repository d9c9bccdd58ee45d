use Rattle.std.proofs.Common.{sym, arith}
use Rattle.cfg_bases_checks.proofs.SameLengths.{other_lengths}
use Rattle.cfg_bases_checks.proofs.apart_leaves.same_leaves.Goals as goal

pub returns-then-a-b : goal.returns-then-a-b
returns-then-a-b c = sym (other_lengths c.args.a.now c.args.b.now (λ same. omega (arith, same, c.if-a-b.true)))
