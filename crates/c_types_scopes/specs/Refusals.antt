-- Rules of typing that have no result, and their refusals at their places.
use Rattle.std.specs.Prelude.{Result, Err, Option, Some, None, Ok}
use Rattle.cc_base.specs.declared.diagnostics.Place.{Place}
use Rattle.cc_base.specs.declared.refusals.Refusal.{Refusal}
use Rattle.cc_base.specs.declared.refusals.Refusal.TheVariants as refusal
use Rattle.cc_base.specs.declared.refusals.Fault.{Fault}
use Rattle.cc_base.specs.declared.refusals.Stop.{Stop}
use Rattle.cc_base.specs.declared.refusals.Stop.TheVariants as stop

-- what a rule of typing gives: a value, or a refusal at its place
abbrev pub Ruled : Type 0 → Type 0
Ruled V = Result V Fault

abbrev pub stopped : Place → Refusal → Stop
stopped at why = stop.Refused (record { place = at; refusal = why })

abbrev pub refused : {V : Type 0} → Place → Refusal → Ruled V
refused at why = Err (record { place = at; refusal = why })

abbrev pub undeclared : {V : Type 0} → Place → Ruled V
undeclared at = refused at refusal.Undeclared

abbrev pub redeclared : {V : Type 0} → Place → Ruled V
redeclared at = refused at refusal.Redeclared

abbrev pub type_fault : {V : Type 0} → Place → Ruled V
type_fault at = refused at refusal.TypeFault

abbrev pub pointer_integer : {V : Type 0} → Place → Ruled V
pointer_integer at = refused at refusal.PointerInteger

abbrev pub constant_needed : {V : Type 0} → Place → Ruled V
constant_needed at = refused at refusal.ConstantNeeded

abbrev pub format_fault : {V : Type 0} → Place → Ruled V
format_fault at = refused at refusal.FormatFault

-- a value, where there is one, else the fault of its type
abbrev pub or_type_fault : {V : Type 0} → Place → Option V → Ruled V
or_type_fault at (Some v) = Ok v
or_type_fault at None = type_fault at
