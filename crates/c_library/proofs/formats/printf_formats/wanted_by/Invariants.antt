use Rattle.std.proofs.Common.{◌≡◌, ◌-◌, length}
use Rattle.c_library.specs.Formats.PrintfFormats.{wanted_within, wanted_by}
use Rattle.c_library.proofs.formats.Formats.{with_all}
use Rattle.c_library.proofs.formats.printf_formats.wanted_by.Given as goal

abbrev pub invariant-loop-turn : goal.invariant-loop-turn
invariant-loop-turn l = with_all l.found.items (wanted_within (length l.format - l._turn) l.rest) ≡ wanted_by l.format
