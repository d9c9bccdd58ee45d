-- What is known of temporaries below another one, and of that one.
use Rattle.std.proofs.Common.{◌≡◌, ◌≤◌, ◌<◌, ℕ, ◌==◌, Bool, true, false, cond, nat_lt, Option, Some, None, refl, arith, ap, sym, subst, ◌∙◌}
use Rattle.std.proofs.lemmas.Bool.{eqb-true, ltb-true, lt-ltb}
use Rattle.memory_model.specs.Effects.NumberedTables.{set_at}
use Rattle.typed_programs.specs.Types.PointedTypes.{Known, IsStorable}
use Rattle.typed_programs.specs.Types.TypedPrograms.{IsKept, Gives}
use Rattle.typed_programs.specs.Types.TypedStates.{Temporaries}
use Rattle.typed_lowering.specs.Conversions.KnownValues.{below, with_value}
use Rattle.typed_lowering.proofs.conversions.KeptKnowledge.{IsLessIf, less_same, less_if_same, kept_if}

-- ---- tables

pub set_here : {A : Type 0} (f : ℕ → Option A) (n : ℕ) (x : Option A) (m : ℕ) → m ≡ n → set_at f n x m ≡ x
set_here f n x m same = grind arith

pub set_else : {A : Type 0} (f : ℕ → Option A) (n : ℕ) (x : Option A) (m : ℕ) → (m ≡ n → ⊥) → set_at f n x m ≡ f m
set_else f n x m other = grind arith

pub below_here : (depth : ℕ) (known : Temporaries) (t : ℕ) → t < depth → below depth known t ≡ known t
below_here depth known t less = ap (λ b. cond b (known t) None) (lt-ltb t depth less)

pub value_here : (depth : ℕ) (value : Option Known) (before : Temporaries) → with_value depth value before depth ≡ value
value_here depth value before = set_here (below depth before) depth value depth refl

-- ---- the same below a temporary

pub at_most : (n : ℕ) → n ≤ n
at_most n = omega arith

abbrev pub Agrees : ℕ → Temporaries → Temporaries → Type 0
Agrees depth known before = (t : ℕ) → t < depth → known t ≡ before t

pub agrees_same : (depth : ℕ) (before : Temporaries) → Agrees depth before before
agrees_same depth before t less = refl

apart : (t depth to : ℕ) → t < depth → depth ≤ to → t ≡ to → ⊥
apart t depth to less most same = omega (arith, less, most, same)

lower : (t depth to : ℕ) → t < depth → depth ≤ to → t < to
lower t depth to less most = omega (arith, less, most)

pub agrees_set : (depth to : ℕ) (value : Option Known) (known before : Temporaries) → depth ≤ to → Agrees depth known before → Agrees depth (set_at known to value) before
agrees_set depth to value known before most agree t less = set_else known to value t (apart t depth to less most) ∙ agree t less

pub agrees_below : (depth to : ℕ) (known before : Temporaries) → depth ≤ to → Agrees depth known before → Agrees depth (below to known) before
agrees_below depth to known before most agree t less = below_here to known t (lower t depth to less most) ∙ agree t less

pub agrees_value : (depth to : ℕ) (value : Option Known) (known before : Temporaries) → depth ≤ to → Agrees depth known before → Agrees depth (with_value to value known) before
agrees_value depth to value known before most agree = agrees_set depth to value (below to known) before most (agrees_below depth to known before most agree)

-- what is known of a lower one stays
pub value_else : (depth : ℕ) (value : Option Known) (before : Temporaries) (t : ℕ) → t < depth → with_value depth value before t ≡ before t
value_else depth value before t less = agrees_value depth depth value before before (at_most depth) (agrees_same depth before) t less

-- ---- less knowledge

pub less_of : (value old : Option Known) → IsStorable value old → IsLessIf old value
less_of None old is = tt
less_of (Some k) old (w, e, less) = subst (λ z. IsLessIf z (Some k)) (sym e) less

pub storable_same : (value : Option Known) → IsStorable value value
storable_same None = tt
storable_same (Some k) = (k, refl, less_same k)

pub to_value : (depth : ℕ) (value : Option Known) (known before : Temporaries) → Agrees depth known before → IsStorable value (known depth) → IsKept known (with_value depth value before)
to_value depth value known before agree is = kept_if known (with_value depth value before) (λ t. by t (t == depth) refl (nat_lt t depth) refl)
  where
    by : (t : ℕ) (b : Bool) → (t == depth) ≡ b → (c : Bool) → nat_lt t depth ≡ c → IsLessIf (known t) (elim b [ true ↦ value | false ↦ cond c (before t) None ])
    by t true e c d = subst (λ z. IsLessIf (known z) value) (sym (eqb-true t depth e)) (less_of value (known depth) is)
    by t false e true d = subst (λ z. IsLessIf z (before t)) (sym (agree t (ltb-true t depth d))) (less_if_same (before t))
    by t false e false d = tt

pub to_below : (depth : ℕ) (known before : Temporaries) → Agrees depth known before → IsKept known (below depth before)
to_below depth known before agree = kept_if known (below depth before) (λ t. by t (nat_lt t depth) refl)
  where
    by : (t : ℕ) (c : Bool) → nat_lt t depth ≡ c → IsLessIf (known t) (cond c (before t) None)
    by t true d = subst (λ z. IsLessIf z (before t)) (sym (agree t (ltb-true t depth d))) (less_if_same (before t))
    by t false d = tt

-- ---- an act gives a value to a temporary

pub gives_value : (depth : ℕ) (value given : Option Known) (known before : Temporaries) → Agrees depth known before → IsStorable value given → Gives depth given known (with_value depth value before)
gives_value depth value given known before agree is = to_value depth value (set_at known depth given) before (agrees_set depth depth given known before (at_most depth) agree) (subst (IsStorable value) (sym (set_here known depth given depth refl)) is)

-- to a temporary from that one on, of which no more is asked
pub gives_below : (depth to : ℕ) (given : Option Known) (known before : Temporaries) → depth ≤ to → Agrees depth known before → Gives to given known (below depth before)
gives_below depth to given known before most agree = to_below depth (set_at known to given) before (agrees_set depth to given known before most agree)
