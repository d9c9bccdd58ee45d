-- How a unit is refused, by what its tokens are to the grammar.
use Rattle.std.specs.Prelude.{◌≡◌, Result, Ok, Err, List, ◌⊎◌}
use Rattle.cc_base.specs.declared.refusals.Fault.{Fault}
use Rattle.cc_base.specs.declared.refusals.Stop.{Stop}
use Rattle.cc_base.specs.declared.refusals.Stop.TheVariants as stop
use Rattle.c_parser_tokens.specs.declared.terminals.Terminal.{Terminal}
use Rattle.c_parser.specs.UnitResults.{StopsUnread}

-- a unit with a number of a bad form or a word that is left out is refused for that; every other one
-- with `Syntax` at the first terminal of the first piece in which the readers find nothing
abbrev pub Refuses : Result (List Terminal) Fault → Stop → Type 0
Refuses (Err fault) e = (e ≡ stop.Memory) ⊎ (e ≡ stop.Refused fault)
Refuses (Ok ts) e = StopsUnread ts e
