use Rattle.std.proofs.Common.{◌≡◌, length}
use Rattle.c_preproc_directives.specs.OpenFiles.{cut_line}
use Rattle.c_preproc_directives.proofs.OpenFiles.{joined}
use Rattle.c_preproc_directives.proofs.open_files.take_line.Given as goal

abbrev pub invariant-tokens : goal.invariant-tokens
invariant-tokens l = joined l.list.items (cut_line l.unread.items) ≡ cut_line l.initial.unread.items

abbrev pub decreases-tokens : goal.decreases-tokens
decreases-tokens l = length l.unread.items
