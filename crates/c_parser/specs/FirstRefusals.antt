-- The first piece of a unit that has no derivation.
use Rattle.std.specs.Prelude.{◌≡◌, List, [], ◌∷◌, take, ◌⊎◌}
use Rattle.cc_base.specs.declared.refusals.Refusal.TheVariants as refusal
use Rattle.cc_base.specs.declared.refusals.Stop.{Stop}
use Rattle.cc_base.specs.declared.refusals.Stop.TheVariants as stop
use Rattle.c_layout.specs.DeclarationTrees.{ExternalTree}
use Rattle.c_parser_tokens.specs.declared.terminals.Terminal.{Terminal}
use Rattle.c_parser.specs.Externals.{IsPiece, ArePieces, in_force_behind}
use Rattle.c_parser.specs.Pieces.{piece_length}

-- at `rest` a piece begins that has no derivation, with the typedef names that the pieces before it, which
-- have one each, leave in force
pub record IsRefusedAt (terminals rest : List Terminal) : Type 0 where
  pub before : List ExternalTree
  pub derive : ArePieces before [] terminals rest
  pub some : rest ≡ [] → ⊥
  pub none : (e : ExternalTree) → IsPiece (in_force_behind [] before) e (take (piece_length rest) rest) → ⊥

-- `Syntax` at the first terminal of that piece
pub record IsFirstRefusal (terminals : List Terminal) (e : Stop) : Type 0 where
  pub first : Terminal
  pub more : List Terminal
  pub refused : IsRefusedAt terminals (first ∷ more)
  pub stops : e ≡ stop.Refused (record { place = first.place; refusal = refusal.Syntax })

-- or want of memory
abbrev pub StopsFirst : List Terminal → Stop → Type 0
StopsFirst ts e = (e ≡ stop.Memory) ⊎ IsFirstRefusal ts e
