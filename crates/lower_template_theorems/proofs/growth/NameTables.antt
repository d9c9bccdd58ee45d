-- Names that stand in a table, also where more come behind them.
use Rattle.std.proofs.Common.{◌≡◌, ℕ, zero, suc, List, [], ◌∷◌, ◌++◌, length, Some, slice_get, refl}
use Rattle.lower_templates.specs.Worklist.Pieces.{NameView}

pub there_still : (xs ys : List NameView) (n : ℕ) (x : NameView) → slice_get xs n ≡ Some x → slice_get (xs ++ ys) n ≡ Some x
there_still [] ys n x e = absurd (cc)
there_still (y ∷ xs) ys zero x e = e
there_still (y ∷ xs) ys (suc n) x e = there_still xs ys n x e

pub there_last : (xs : List NameView) (x : NameView) → slice_get (xs ++ x ∷ []) (length xs) ≡ Some x
there_last [] x = refl
there_last (y ∷ xs) x = there_last xs x
