-- Items of a list that are changed, one after another, each in its place.
use Rattle.std.specs.Prelude.{ℕ, zero, suc, List, [], ◌∷◌, slice_get, slice_set, Option, Some, None}

abbrev pub changed_at : {V : Type 0} → (V → V) → ℕ → List V → Option V → List V
changed_at f i vs None = vs
changed_at f i vs (Some v) = slice_set vs i (f v)

-- a list whose item with a number is changed
abbrev pub changed : {V : Type 0} → (V → V) → ℕ → List V → List V
changed f i vs = changed_at f i vs (slice_get vs i)

-- a list of which so many items are changed
abbrev pub done : {V : Type 0} → (V → V) → ℕ → List V → List V
done f zero vs = vs
done f (suc n) [] = []
done f (suc n) (v ∷ vs) = f v ∷ done f n vs
