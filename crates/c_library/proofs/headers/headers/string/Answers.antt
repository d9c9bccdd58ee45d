use Rattle.std.proofs.Common.{ap, sym}
use Rattle.c_library.specs.Headers.Headers.{string_text}
use Rattle.c_library.proofs.headers.headers.string.Goals as goal

pub returns-in-Long : goal.returns-in-Long
unfolding string_text
returns-in-Long c = ap string_text (sym c.in-Long.is)

pub returns-in-Int : goal.returns-in-Int
unfolding string_text
returns-in-Int c = ap string_text (sym c.in-Int.is)

pub returns-in-LongLong : goal.returns-in-LongLong
unfolding string_text
returns-in-LongLong c = ap string_text (sym c.in-LongLong.is)
