-- What refuses the tokens of a unit refuses the unit.
use Rattle.std.proofs.Common.{◌≡◌, Result, Ok, Err, List, inl, subst, sym}
use Rattle.cc_base.specs.declared.refusals.Fault.{Fault}
use Rattle.cc_base.specs.declared.refusals.Stop.{Stop}
use Rattle.c_parser_tokens.specs.Classes.{IsStop}
use Rattle.c_parser_tokens.specs.declared.terminals.Terminal.{Terminal}
use Rattle.c_parser.specs.Refusals.{Refuses}
use Rattle.c_parser.specs.UnitResults.{StopsUnread}

pub by_tokens : (c : Result (List Terminal) Fault) (e : Stop) → IsStop c e → Refuses c e
by_tokens (Ok ts) e s = inl s
by_tokens (Err fault) e s = s

pub by_piece : (c : Result (List Terminal) Fault) (ts : List Terminal) (e : Stop) → c ≡ Ok ts → StopsUnread ts e → Refuses c e
by_piece c ts e c-is s = subst (λ (r : Result (List Terminal) Fault). Refuses r e) (sym c-is) s
