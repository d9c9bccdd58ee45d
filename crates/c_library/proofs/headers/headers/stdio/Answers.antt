use Rattle.std.proofs.Common.{ap, sym}
use Rattle.c_library.specs.Headers.Headers.{stdio_text}
use Rattle.c_library.proofs.headers.headers.stdio.Goals as goal

pub returns-in-Long : goal.returns-in-Long
unfolding stdio_text
returns-in-Long c = ap stdio_text (sym c.in-Long.is)

pub returns-in-Int : goal.returns-in-Int
unfolding stdio_text
returns-in-Int c = ap stdio_text (sym c.in-Int.is)

pub returns-in-LongLong : goal.returns-in-LongLong
unfolding stdio_text
returns-in-LongLong c = ap stdio_text (sym c.in-LongLong.is)
