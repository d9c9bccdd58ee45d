use Rattle.c_preproc_directives.proofs.Groups.{section-takes_first}
use Rattle.c_preproc_directives.proofs.theorems.first_group_is_taken.Goals as goal

pub returns : goal.returns
returns c = section-takes_first
