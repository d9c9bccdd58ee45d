use Rattle.std.proofs.Common.{◌≡◌, length}
use Rattle.c_preproc_macros.specs.Numbering.{texts_of}
use Rattle.c_preproc_directives.specs.OpenFiles.{cut_text}
use Rattle.c_preproc_directives.proofs.OpenFiles.{joined}
use Rattle.c_preproc_directives.proofs.open_files.take_text.Given as goal

abbrev pub invariant-tokens : goal.invariant-tokens
invariant-tokens l = joined l.list.items (cut_text (texts_of l.spellings) l.unread.items) ≡ cut_text (texts_of l.spellings) l.initial.unread.items

abbrev pub decreases-tokens : goal.decreases-tokens
decreases-tokens l = length l.unread.items
