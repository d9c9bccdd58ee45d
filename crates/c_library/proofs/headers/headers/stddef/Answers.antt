use Rattle.std.proofs.Common.{ap, sym}
use Rattle.c_library.specs.Headers.Headers.{stddef_text}
use Rattle.c_library.proofs.headers.headers.stddef.Goals as goal

pub returns-in-Long : goal.returns-in-Long
unfolding stddef_text
returns-in-Long c = ap stddef_text (sym c.in-Long.is)

pub returns-in-Int : goal.returns-in-Int
unfolding stddef_text
returns-in-Int c = ap stddef_text (sym c.in-Int.is)

pub returns-in-LongLong : goal.returns-in-LongLong
unfolding stddef_text
returns-in-LongLong c = ap stddef_text (sym c.in-LongLong.is)
