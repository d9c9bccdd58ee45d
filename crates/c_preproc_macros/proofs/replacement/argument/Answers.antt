use Rattle.std.proofs.Common.{◌∙◌}
use Rattle.c_preproc_macros.proofs.Along.{nth_list-none, nth_list-some}
use Rattle.c_preproc_macros.proofs.replacement.argument.Goals as goal

pub returns-in-None : goal.returns-in-None
returns-in-None c = let h = c.in-None.ensures.lookup in nth_list-none c.args.arguments.now c.args.k h.3

pub returns-in-Some : goal.returns-in-Some
returns-in-Some c =
    let h = c.in-Some.ensures.lookup in
    c.as_slice.ensures.value ∙ nth_list-some c.args.arguments.now c.args.k c.in-Some.list.now h.3.0 h.1
