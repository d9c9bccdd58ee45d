use Rattle.std.proofs.Common.{sym, ◌∙◌}
use Rattle.c_preproc_directives.proofs.Definitions.{rest_longer}
use Rattle.c_preproc_directives.proofs.macro_definitions.same_rest.Goals as goal

pub returns-in-empty : goal.returns-in-empty
returns-in-empty c = sym (rest_longer c.args.x.now c.loop-a.others.now c.loop-a.a-index c.loop-a-test.true c.in-empty.len_below) ∙ c.loop-a.invariant
