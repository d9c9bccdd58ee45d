-- The values of bases stand behind each other in a row.
use Rattle.std.proofs.Common.{◌≡◌, ℕ, zero, suc, ◌+◌, ◌-◌, ◌^◌, ◌<◌, ◌≤◌, true, ◌&&◌, Some, List, [], ◌∷◌, arith, subst, inl, inr}
use Rattle.std.specs.Prelude.{slice_get, ◌==◌}
use Rattle.std.proofs.lemmas.Bool.{and_parts, eqb-true, cases_order}
use Rattle.c_layout.specs.declared.shapes.BaseInfo.{BaseInfo}
use Rattle.cfg.specs.BaseShapes.{is_extent}
use Rattle.cfg.specs.WellFormed.{base_values, all_values, are_placed}
use Rattle.store_sound.specs.Operations.Shapes.{AreLaid}

-- values from a first one on, none behind a last one
record IsBetween (base : BaseInfo) (first behind : ℕ) : Type 0 where
  from : first ≤ base.first
  to : base.first + base_values base ≤ behind

record IsPlaced (first : ℕ) (x : BaseInfo) (xs : List BaseInfo) : Type 0 where
  here : x.first ≡ first
  rest : are_placed (first + base_values x) xs ≡ true

placed_as : (first : ℕ) (x : BaseInfo) (xs : List BaseInfo) → are_placed first (x ∷ xs) ≡ true → IsPlaced first x xs
placed_as first x xs h =
    let p = and_parts (x.first == first) (is_extent x.size && are_placed (first + base_values x) xs) h in
    record { here = eqb-true x.first first p.0; rest = (and_parts (is_extent x.size) (are_placed (first + base_values x) xs) p.1).1 }

placed_within : (first : ℕ) (bases : List BaseInfo) (b : ℕ) (base : BaseInfo) → are_placed first bases ≡ true → slice_get bases b ≡ Some base → IsBetween base first (first + all_values bases)
placed_within first [] b base h e = cc
placed_within first (x ∷ xs) zero base h e =
    let p = (placed_as first x xs h).here in
    let d : x ≡ base = cc in
    subst (λ z. IsBetween z first (first + all_values (x ∷ xs))) d (record { from = omega (arith, p); to = omega (arith, p) })
placed_within first (x ∷ xs) (suc b) base h e =
    let r = placed_within (first + base_values x) xs b base (placed_as first x xs h).rest e in
    let u = r.from in
    let v = r.to in
    record { from = omega (arith, u); to = omega (arith, v) }

placed_before : (first : ℕ) (bases : List BaseInfo) (b c : ℕ) (base other : BaseInfo) → are_placed first bases ≡ true → slice_get bases b ≡ Some base → slice_get bases c ≡ Some other → b < c → base.first + base_values base ≤ other.first
placed_before first [] b c base other h e f g = cc
placed_before first (x ∷ xs) b zero base other h e f g = absurd (omega (arith, g))
placed_before first (x ∷ xs) zero (suc c) base other h e f g =
    let p = placed_as first x xs h in
    let w = p.here in
    let u = (placed_within (first + base_values x) xs c other p.rest f).from in
    let d : x ≡ base = cc in
    subst (λ z. z.first + base_values z ≤ other.first) d (omega (arith, u, w))
placed_before first (x ∷ xs) (suc b) (suc c) base other h e f g = placed_before (first + base_values x) xs b c base other (placed_as first x xs h).rest e f (omega (arith, g))

pub placed_laid : (bases : List BaseInfo) → are_placed 0 bases ≡ true → all_values bases ≤ 2 ^ 64 - 1 → AreLaid bases (all_values bases)
placed_laid bases h s = record {
  small = s;
  close = λ b base e. let r = (placed_within 0 bases b base h e).to in omega (arith, r);
  apart = λ b c base other e f ne. elim (cases_order b c) [
    | inl d ↦ absurd (ne d)
    | inr t ↦ elim t [ inl g ↦ inl (placed_before 0 bases b c base other h e f g) | inr g ↦ inr (placed_before 0 bases c b other base h f e g) ]
  ];
}
