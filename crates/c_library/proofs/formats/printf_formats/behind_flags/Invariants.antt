use Rattle.std.proofs.Common.{◌≡◌, ◌+◌, length}
use Rattle.c_library.specs.Formats.PrintfFormats.{behind_flags}
use Rattle.c_library.proofs.formats.printf_formats.behind_flags.Given as goal

abbrev pub invariant-loop-turn : goal.invariant-loop-turn
invariant-loop-turn l = (behind_flags l.rest ≡ behind_flags l.text) × (length l.rest + l._turn ≡ length l.text)
