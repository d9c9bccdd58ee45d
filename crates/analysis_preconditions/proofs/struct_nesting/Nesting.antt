-- Depths at which structs nest.
use Rattle.std.specs.Prelude.{◌≡◌, ℕ, zero, suc, ◌≤◌, ◌<◌, Bool, true, List, [], ◌∷◌, refl}
use Rattle.std.proofs.Common.{arith, subst, inl, inr}
use Rattle.std.proofs.lemmas.Bool.{and_parts, and_from, cases_lt}
use Rattle.c_layout.specs.StructViews.{FieldView, StructView, struct_at}
use Rattle.c_layout.specs.Types.{Ty, Int, Pointer, Array, Struct, Void}
use Rattle.analysis_preconditions.specs.StructNesting.OrderedStructs.{is_made_of, are_made_of, nests_within, are_below}

-- ---- what passes two tests passes a third

made_more : (p q r : ℕ → Bool) → ((k : ℕ) → p k ≡ true → q k ≡ true → r k ≡ true) → (t : Ty) → is_made_of p t ≡ true → is_made_of q t ≡ true → is_made_of r t ≡ true
made_more p q r h (Int k) a b = refl
made_more p q r h (Pointer t) a b = refl
made_more p q r h (Array t n) a b = made_more p q r h t a b
made_more p q r h (Struct i) a b = h i a b
made_more p q r h Void a b = a

pub all_more : (p q r : ℕ → Bool) → ((k : ℕ) → p k ≡ true → q k ≡ true → r k ≡ true) → (fs : List FieldView) → are_made_of p fs ≡ true → are_made_of q fs ≡ true → are_made_of r fs ≡ true
all_more p q r h [] a b = refl
all_more p q r h (f ∷ fs) a b =
    let c = and_parts (is_made_of p f.ctype) (are_made_of p fs) a in
    let d = and_parts (is_made_of q f.ctype) (are_made_of q fs) b in
    and_from (is_made_of r f.ctype) (are_made_of r fs) (made_more p q r h f.ctype c.0 d.0) (all_more p q r h fs c.1 d.1)

-- ---- depths

deeper : (structs : List StructView) (depth i : ℕ) → nests_within structs depth i ≡ true → nests_within structs (suc depth) i ≡ true
deeper structs zero i h = absurd (cc)
deeper structs (suc depth) i h = all_more (nests_within structs depth) (nests_within structs depth) (nests_within structs (suc depth)) (λ k a b. deeper structs depth k a) (struct_at structs i).fields h h

pub as_deep : (structs : List StructView) (depth more i : ℕ) → nests_within structs depth i ≡ true → depth ≤ more → nests_within structs more i ≡ true
as_deep structs depth zero i h less = let e : depth ≡ 0 = omega (arith, less) in subst (λ d. nests_within structs d i ≡ true) e h
as_deep structs depth (suc more) i h less = elim (cases_lt more depth) [
  | inl k ↦ (let e : depth ≡ suc more = omega (arith, k, less) in subst (λ d. nests_within structs d i ≡ true) e h)
  | inr k ↦ deeper structs more i (as_deep structs depth more i h k)
]

-- ---- a table

pub below_from : (passes : ℕ → Bool) (count : ℕ) → ((i : ℕ) → i < count → passes i ≡ true) → are_below passes count ≡ true
below_from passes zero h = refl
below_from passes (suc count) h = and_from (passes count) (are_below passes count) (h count (omega arith)) (below_from passes count (λ i less. h i (omega (arith, less))))
