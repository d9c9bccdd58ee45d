-- What the answers of a call that makes tokens mean.
use Rattle.std.specs.Prelude.{Result, Ok, Err, List}
use Rattle.cc_base.specs.declared.lexemes.Token.{Token}
use Rattle.cc_base.specs.declared.refusals.Fault.{Fault}
use Rattle.cc_base.specs.declared.refusals.Stop.{Stop}
use Rattle.cc_base.specs.declared.refusals.Stop.TheVariants as stop

-- where the file is refused, this holds of the refusal; nothing is said of want of memory, and there is no other error
abbrev pub IfRefused : Result (List Token) Stop → (Fault → Type 0) → Type 0
IfRefused (Ok ts) P = Unit {0}
IfRefused (Err (stop.Refused f)) P = P f
IfRefused (Err stop.Memory) P = Unit {0}
IfRefused (Err stop.NotHeld) P = ⊥
IfRefused (Err stop.ReadFault) P = ⊥
