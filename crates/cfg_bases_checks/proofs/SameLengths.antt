-- Lists of leaves of different lengths are not the same.
use Rattle.std.proofs.Common.{◌≡◌, false, List, [], ◌∷◌, length, refl, ap}
use Rattle.c_layout.specs.declared.leaf_lists.Leaf.{Leaf}
use Rattle.cfg.specs.BaseShapes.{same_leaf, same_leaves}
use Rattle.std.specs.Prelude.{Bool, true, ◌&&◌, suc}

and_none : (a b : Bool) → b ≡ false → (a && b) ≡ false
and_none true b is = is
and_none false b is = refl

pub other_lengths : (xs ys : List Leaf) → (length xs ≡ length ys → ⊥) → same_leaves xs ys ≡ false
other_lengths [] [] other = absurd (other refl)
other_lengths [] (y ∷ ys) other = refl
other_lengths (x ∷ xs) [] other = refl
other_lengths (x ∷ xs) (y ∷ ys) other = and_none (same_leaf x y) (same_leaves xs ys) (other_lengths xs ys (λ same. other (ap suc same)))
