use Rattle.std.proofs.Common.{◌≡◌, Some, sym, ◌∙◌}
use Rattle.c_preproc_conditions.proofs.Complete.{reads_expression}
use Rattle.c_preproc_conditions.proofs.theorems.one_value.Goals as goal

pub returns : goal.returns
returns c = λ ts v w h k. let both : Some v ≡ Some w = sym (reads_expression ts v h) ∙ reads_expression ts w k in cc
