use Rattle.std.proofs.Common.{◌≡◌, ◌++◌, drop, map, string_bytes}
use Rattle.c_preproc.specs.Searching.{in_directory}
use Rattle.c_preproc.proofs.file_paths.candidates.Given as goal

abbrev pub invariant-loop-dir : goal.invariant-loop-dir
invariant-loop-dir l = map string_bytes l.names.items ++ map (in_directory l.name) (map string_bytes (drop l.dir-index l.dirs)) ≡ map string_bytes l.initial.names.items ++ map (in_directory l.name) (map string_bytes l.dirs)
