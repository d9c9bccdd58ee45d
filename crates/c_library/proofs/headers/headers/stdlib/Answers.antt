use Rattle.std.proofs.Common.{ap, sym}
use Rattle.c_library.specs.Headers.Headers.{stdlib_text}
use Rattle.c_library.proofs.headers.headers.stdlib.Goals as goal

pub returns-in-Long : goal.returns-in-Long
unfolding stdlib_text
returns-in-Long c = ap stdlib_text (sym c.in-Long.is)

pub returns-in-Int : goal.returns-in-Int
unfolding stdlib_text
returns-in-Int c = ap stdlib_text (sym c.in-Int.is)

pub returns-in-LongLong : goal.returns-in-LongLong
unfolding stdlib_text
returns-in-LongLong c = ap stdlib_text (sym c.in-LongLong.is)
