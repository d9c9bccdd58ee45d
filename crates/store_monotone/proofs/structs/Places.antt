-- A place of a leaf in a window makes the test of it true.
use Rattle.std.specs.Prelude.{◌≡◌, ℕ, suc, zero, ◌+◌, ◌-◌, ◌*◌, ◌/◌, ◌≤◌, ◌<◌, ◌==◌, Bool, true, false, cond, ◌||◌, nat_lt, nat_le}
use Rattle.std.proofs.Common.{arith, sym, subst, inl, inr, ◌∙◌}
use Rattle.std.proofs.lemmas.Nat.{le-div, div_below}
use Rattle.std.proofs.lemmas.Bool.{cases_Bool, cases_lt, and_from, or_from, or_left, or_right, or_cases, le-leb, lt-ltb, le-ltb, leb-false, ne_eqb, cond-false}
use Rattle.c_layout.specs.declared.leaf_lists.Leaf.{Leaf}
use Rattle.store_cells.specs.declared.access_windows.Window.{Window}
use Rattle.store.specs.LeafSelection.{places_before, turns_into, has_place_in}
use Rattle.store_monotone.proofs.operations.PlacesOfLeaves.{Place, place_of_test}
use Rattle.store_struct_leaves.specs.CopyPlaces.{any_below}

before_least : (o s lo i : ℕ) → 0 < s → lo ≤ o + i * s → cond (nat_le lo o) 0 (((lo - o) - 1) / s + 1) ≤ i
before_least o s lo i h k = elim (cases_Bool (nat_le lo o)) [
  | inl e ↦ subst (λ b. cond b 0 (((lo - o) - 1) / s + 1) ≤ i) (sym e) (omega arith)
  | inr e ↦ subst (λ b. cond b 0 (((lo - o) - 1) / s + 1) ≤ i) (sym e) (let a = leb-false lo o e in let d = div_below ((lo - o) - 1) s i h (omega arith) in omega arith)
]

pub test_of_place : (leaf : Leaf) (w : Window) → Place leaf w → has_place_in leaf w ≡ true
test_of_place leaf w p =
    let s = p.apart in let b = p.below in let f = p.from in let t = p.to in
    let c = before_least leaf.offset leaf.stride w.lo p.turn s f in
    let d = le-div p.turn (w.hi - leaf.offset) leaf.stride s (omega arith) in
    let z : (leaf.stride == 0) ≡ false = ne_eqb leaf.stride 0 (λ (e : leaf.stride ≡ 0). omega arith) in
    let y : nat_lt w.hi leaf.offset ≡ false = le-ltb w.hi leaf.offset (omega arith) in
    cond-false (leaf.stride == 0 || nat_lt w.hi leaf.offset) false (turns_into leaf w) (or_from (leaf.stride == 0) (nat_lt w.hi leaf.offset) z y)
    ∙ and_from (nat_lt (places_before leaf w.lo) leaf.count) (nat_le (places_before leaf w.lo) ((w.hi - leaf.offset) / leaf.stride)) (lt-ltb (places_before leaf w.lo) leaf.count (omega arith)) (le-leb (places_before leaf w.lo) ((w.hi - leaf.offset) / leaf.stride) (omega arith))

pub window_more : (leaf : Leaf) (w u : Window) → u.lo ≤ w.lo → w.hi ≤ u.hi → has_place_in leaf w ≡ true → has_place_in leaf u ≡ true
window_more leaf w u a b e =
    let p = place_of_test leaf w e in
    let f = p.from in let t = p.to in
    test_of_place leaf u (record { turn = p.turn; below = p.below; from = omega arith; to = omega arith; apart = p.apart })

-- ---- some number below a count

pub any_more : (p q : ℕ → Bool) (count : ℕ) → ((k : ℕ) → k < count → p k ≡ true → q k ≡ true) → any_below p count ≡ true → any_below q count ≡ true
any_more p q zero h e = absurd (cc)
any_more p q (suc count) h e = elim (or_cases (any_below p count) (p count) e) [
  | inl f ↦ or_left (any_below q count) (q count) (any_more p q count (λ k l. h k (omega arith)) f)
  | inr f ↦ or_right (any_below q count) (q count) (h count (omega arith) f)
]

pub any_at : (p : ℕ → Bool) (k count : ℕ) → k < count → p k ≡ true → any_below p count ≡ true
any_at p k zero h e = absurd (omega arith)
any_at p k (suc count) h e = elim (cases_lt k count) [
  | inl a ↦ or_left (any_below p count) (p count) (any_at p k count a e)
  | inr a ↦ or_right (any_below p count) (p count) (let f : k ≡ count = omega arith in subst (λ j. p j ≡ true) f e)
]

-- the number for which it holds
pub record Found (p : ℕ → Bool) (count : ℕ) : Type 0 where
  pub number : ℕ
  pub below : number < count
  pub holds : p number ≡ true

pub any_found : (p : ℕ → Bool) (count : ℕ) → any_below p count ≡ true → Found p count
any_found p zero e = absurd (cc)
any_found p (suc count) e = elim (or_cases (any_below p count) (p count) e) [
  | inl f ↦ (let r = any_found p count f in let b = r.below in record { number = r.number; below = omega arith; holds = r.holds })
  | inr f ↦ record { number = count; below = omega arith; holds = f }
]
