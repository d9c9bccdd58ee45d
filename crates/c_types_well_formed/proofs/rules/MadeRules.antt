-- Values of operands are made, conversions give terms of their types, and terms that are not used are marked.
use Rattle.std.proofs.Common.{not}
use Rattle.c_types_operands.specs.Operands.{is_void, term_type}
use Rattle.c_types_well_formed.specs.WellFormed.MadeLaws.{ValuesAreMade, ConversionsGive, UnusedIsWellTyped}
use Rattle.c_types_well_formed.proofs.rules.MadeConversions as conversions
use Rattle.c_types_well_formed.proofs.rules.MadeValues.{value_made}
use Rattle.c_types_well_formed.proofs.rules.UnusedTerms.{unused_well_typed}

pub values_are_made : ValuesAreMade
values_are_made u k ground x made = value_made u k ground x made

pub conversions_give : ConversionsGive
conversions_give u k ground at e to made known = conversions.conversions_give u k ground at e to made known

pub unused_is_well_typed : UnusedIsWellTyped
unused_is_well_typed u k ground e made = unused_well_typed u (not (is_void (term_type e))) e made.well_typed
