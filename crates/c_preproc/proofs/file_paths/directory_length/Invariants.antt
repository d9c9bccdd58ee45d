use Rattle.std.proofs.Common.{◌≡◌, ◌≤◌, drop}
use Rattle.c_preproc.specs.Searching.{slash_end}
use Rattle.c_preproc.proofs.file_paths.directory_length.Given as goal

abbrev pub invariant-loop-at : goal.invariant-loop-at
invariant-loop-at l = (slash_end l.at l.last (drop l.at l.name) ≡ slash_end 0 0 l.name) × (l.last ≤ l.at)
