use Rattle.std.proofs.Common.{◌≡◌, [], length}
use Rattle.c_preproc_macros.specs.Numbering.{texts_of}
use Rattle.c_preproc_directives.specs.Definitions.{heading, is_barred}
use Rattle.c_preproc_directives.proofs.macro_definitions.listed.Given as goal

abbrev pub invariant-names : goal.invariant-names
invariant-names l = heading (is_barred (texts_of l.spellings)) [] l.rest ≡ heading (is_barred (texts_of l.spellings)) l.names.keys l.left

abbrev pub decreases-names : goal.decreases-names
decreases-names l = length l.left
