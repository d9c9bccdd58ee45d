-- Where what is expanded stands.
use Rattle.std.specs.Prelude.{Result, Ok, Err}
use Rattle.std.specs.List.{All}
use Rattle.cc_base.specs.declared.diagnostics.Place.{Place}
use Rattle.c_preproc_macros.specs.declared.lexeme.Lexeme.{Lexeme}
use Rattle.c_preproc_macros.specs.declared.machine.Expansion.{Expansion}
use Rattle.c_preproc_macros.specs.declared.trouble.Failure.{Failure}
use Rattle.c_preproc_macros.specs.declared.trouble.Failure.TheVariants.{Refused, Memory}
use Rattle.c_preproc_macros.specs.Lexemes.{mark_of}

-- a token stands at a place with a property
abbrev pub StandsBy : (Place → Type 0) → Lexeme → Type 0
StandsBy P x = P (mark_of x).place

-- the tokens of an expansion, or its refusal, stand at places with a property
abbrev pub IfPlaced : (Place → Type 0) → Result Expansion Failure → Type 0
IfPlaced P (Ok e) = All (StandsBy P) e.words.items
IfPlaced P (Err (Refused r)) = P r.place
IfPlaced P (Err Memory) = Unit {0}
