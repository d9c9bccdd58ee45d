-- What the reading of pieces and units returns, by what the readers as definitions answer.
use Rattle.std.specs.Prelude.{◌≡◌, List, [], ◌∷◌, take, Option, Some, None, Result, MatchResult, ◌⊎◌}
use Rattle.cc_base.specs.declared.diagnostics.Place.{Place}
use Rattle.cc_base.specs.declared.refusals.Refusal.TheVariants as refusal
use Rattle.cc_base.specs.declared.refusals.Stop.{Stop}
use Rattle.cc_base.specs.declared.refusals.Stop.TheVariants as stop
use Rattle.c_layout.specs.DeclarationTrees.{ExternalTree}
use Rattle.c_parser_tokens.specs.declared.terminals.Terminal.{Terminal}
use Rattle.c_parser_expression_grammar.specs.declared.heights.Trouble.{Trouble}
use Rattle.c_parser_expression_grammar.specs.declared.heights.Trouble.TheVariants as trouble
use Rattle.c_parser.specs.Externals.{ArePieces, in_force_behind}
use Rattle.c_parser.specs.Pieces.{piece_length}
use Rattle.c_parser.specs.UnitReaders.{piece}

-- what trouble with a piece at a place means
abbrev pub stop_of : Trouble → Place → Stop
stop_of trouble.Syntax at = stop.Refused (record { place = at; refusal = refusal.Syntax })
stop_of trouble.Memory at = stop.Memory

-- `Syntax` at a place, where there is nothing; or want of memory
abbrev pub StopsWithout : {X : Type 0} → Place → Option X → Stop → Type 0
StopsWithout at reading e = (e ≡ stop.Memory) ⊎ ((e ≡ stop.Refused (record { place = at; refusal = refusal.Syntax })) × (reading ≡ None))

abbrev pub ReadsOrStops : {A X : Type 0} → (A → X) → Result A Stop → Place → Option X → Type 0
ReadsOrStops view result at reading = MatchResult result (λ a. reading ≡ Some (view a)) (StopsWithout at reading)

-- `Syntax` at the first terminal of a piece in which the readers find nothing, with the typedef names that the pieces before
-- it leave in force, each of which has a derivation
pub record IsUnreadAt (ts : List Terminal) (e : Stop) : Type 0 where
  pub before : List ExternalTree
  pub first : Terminal
  pub more : List Terminal
  pub derive : ArePieces before [] ts (first ∷ more)
  pub none : piece (in_force_behind [] before) (take (piece_length (first ∷ more)) (first ∷ more)) ≡ None
  pub stops : e ≡ stop.Refused (record { place = first.place; refusal = refusal.Syntax })

-- or want of memory
abbrev pub StopsUnread : List Terminal → Stop → Type 0
StopsUnread ts e = (e ≡ stop.Memory) ⊎ IsUnreadAt ts e
