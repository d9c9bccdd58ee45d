-- Worked rows of the shapes of bases.
use Rattle.std.proofs.Common.{◌≡◌, ℕ, true, false, [], ◌∷◌, Some, refl}
use Rattle.c_layout.specs.Models.{lp64}
use Rattle.c_layout.specs.declared.leaf_lists.Class.{Class}
use Rattle.c_layout.specs.declared.leaf_lists.Class.TheVariants.{Char, Short, Int}
use Rattle.c_layout.specs.declared.leaf_lists.Leaf.{Leaf}
use Rattle.c_layout.specs.declared.shapes.ZeroPart.{ZeroPart}
use Rattle.cfg.specs.BaseShapes.{are_leaves, lie_over, is_room_or_apart, is_place}

abbrev leaf : ℕ → Class → ℕ → ℕ → Leaf
leaf at class stride count = record { offset = at; class = class; signed = true; stride = stride; count = count }

abbrev text : ℕ → ℕ → ZeroPart
text at size = record { offset = at; size = Some size }

-- a folded array of structs of an int and a character, and two scalars
elements : are_leaves lp64 800 (leaf 0 Int 8 100 ∷ (leaf 4 Char 8 100 ∷ [])) ≡ true
elements = refl

shared_byte : are_leaves lp64 800 (leaf 0 Int 8 100 ∷ (leaf 3 Char 8 100 ∷ [])) ≡ false
shared_byte = refl

shared_scalar : are_leaves lp64 8 (leaf 0 Int 4 1 ∷ (leaf 2 Short 2 1 ∷ [])) ≡ false
shared_scalar = refl

past_the_end : are_leaves lp64 799 (leaf 0 Int 8 100 ∷ (leaf 4 Char 8 100 ∷ [])) ≡ false
past_the_end = refl

-- a text over its characters, folded or one by one, and over an int
long_text : lie_over 0 (leaf 0 Int 4 1 ∷ (leaf 4 Char 1 80 ∷ [])) (text 4 80 ∷ []) ≡ true
long_text = refl

short_text : lie_over 0 (leaf 0 Char 1 1 ∷ (leaf 1 Char 1 1 ∷ [])) (text 0 2 ∷ []) ≡ true
short_text = refl

over_an_int : lie_over 0 (leaf 0 Int 4 1 ∷ (leaf 4 Char 1 80 ∷ [])) (text 0 84 ∷ []) ≡ false
over_an_int = refl

half_a_text : lie_over 0 (leaf 0 Char 1 1 ∷ []) (text 0 2 ∷ []) ≡ false
half_a_text = refl

-- a text is spelled into a whole part or beside it
whole : is_room_or_apart 4 80 (text 4 80) ≡ true
whole = refl

beside : is_room_or_apart 0 4 (text 4 80) ≡ true
beside = refl

a_piece : is_room_or_apart 4 79 (text 4 80) ≡ false
a_piece = refl

-- the places of a folded leaf
third_place : is_place Int 16 (leaf 0 Int 8 100) ≡ true
third_place = refl

between_places : is_place Int 4 (leaf 0 Int 8 100) ≡ false
between_places = refl
