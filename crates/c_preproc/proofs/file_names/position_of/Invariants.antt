use Rattle.std.proofs.Common.{◌≡◌, map, string_bytes, drop}
use Rattle.c_preproc.specs.Names.{position_from}
use Rattle.c_preproc.proofs.file_names.position_of.Given as goal

abbrev pub invariant-loop-at : goal.invariant-loop-at
invariant-loop-at l = position_from l.at l.name (map string_bytes (drop l.at l.names)) ≡ position_from 0 l.name (map string_bytes l.names)
