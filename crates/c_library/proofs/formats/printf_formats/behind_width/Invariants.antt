use Rattle.std.proofs.Common.{◌≡◌, ◌+◌, length}
use Rattle.c_library.specs.Formats.PrintfFormats.{behind_width}
use Rattle.c_library.proofs.formats.printf_formats.behind_width.Given as goal

abbrev pub invariant-loop-turn : goal.invariant-loop-turn
invariant-loop-turn l = (behind_width l.rest ≡ behind_width l.text) × (length l.rest + l._turn ≡ length l.text)
