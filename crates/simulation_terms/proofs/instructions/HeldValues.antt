-- Values in temporaries.
use Rattle.std.proofs.Common.{◌≡◌, ◌≤◌, ◌<◌, ℕ, ◌==◌, Bool, true, false, List, [], ◌∷◌, length, Option, Some, refl, arith, ap, ◌∙◌}
use Rattle.std.proofs.lemmas.Bool.{eq-eqb, eqb-true}
use Rattle.memory_model.specs.Memory.Scalars.{Scalar}
use Rattle.memory_model.specs.Effects.NumberedTables.{put_at}
use Rattle.simulation_terms.specs.Instructions.Acts.{Holds}

not_same : (m n : ℕ) → m < n → (m == n) ≡ false
not_same m n less = by (m == n) refl
  where
    apart : m ≡ n → ⊥
    apart e = omega (arith, less, e)

    by : (b : Bool) → (m == n) ≡ b → (m == n) ≡ false
    by false e = e
    by true e = absurd (apart (eqb-true m n e))

pub put_here : (temps : ℕ → Option Scalar) (n : ℕ) (v : Scalar) → put_at temps n v n ≡ Some v
put_here temps n v = ap (λ (b : Bool). elim b [ true ↦ Some v | false ↦ temps n ]) (eq-eqb n n refl)

put_below : (temps : ℕ → Option Scalar) (m n : ℕ) (v : Scalar) → m < n → put_at temps n v m ≡ temps m
put_below temps m n v less = ap (λ (b : Bool). elim b [ true ↦ Some v | false ↦ temps m ]) (not_same m n less)

-- what is put behind the values changes none of them
pub holds_below : (vs : List Scalar) (temps : ℕ → Option Scalar) (n : ℕ) (v : Scalar) → length vs ≤ n → Holds vs temps → Holds vs (put_at temps n v)
holds_below [] temps n v le holds = tt
holds_below (x ∷ vs) temps n v le (here, rest) = (put_below temps (length vs) n v (omega (arith, le)) ∙ here, holds_below vs temps n v (omega (arith, le)) rest)

pub holds_put : (v : Scalar) (vs : List Scalar) (temps : ℕ → Option Scalar) → Holds vs temps → Holds (v ∷ vs) (put_at temps (length vs) v)
holds_put v vs temps holds = (put_here temps (length vs) v, holds_below vs temps (length vs) v (omega arith) holds)
