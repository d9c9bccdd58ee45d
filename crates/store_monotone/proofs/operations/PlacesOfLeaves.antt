-- The place of a leaf that lies in a window.
use Rattle.std.specs.Prelude.{◌≡◌, ℕ, zero, suc, ◌+◌, ◌-◌, ◌*◌, ◌/◌, ◌≤◌, ◌<◌, ◌==◌, Bool, true, false, cond, ◌||◌, nat_lt, nat_le, refl}
use Rattle.std.proofs.Common.{arith, sym, subst, inl, inr}
use Rattle.std.proofs.lemmas.Bool.{cases_Bool, and_parts, or_parts, leb-true, leb-false, ltb-true, ltb-false, eqb-false}
use Rattle.std.proofs.lemmas.Nat.{div-add-mod', mul-le}
use Rattle.c_layout.specs.declared.leaf_lists.Leaf.{Leaf}
use Rattle.store_cells.specs.declared.access_windows.Window.{Window}
use Rattle.store.specs.LeafSelection.{places_before, turns_into, has_place_in}

-- a place of the leaf in the window
pub record Place (leaf : Leaf) (w : Window) : Type 0 where
  pub turn : ℕ
  pub below : turn < leaf.count
  pub from : w.lo ≤ leaf.offset + turn * leaf.stride
  pub to : leaf.offset + turn * leaf.stride ≤ w.hi
  pub apart : 0 < leaf.stride

turn_after : (x s : ℕ) → 0 < s → x < (x / s + 1) * s
turn_after x s h = let e = div-add-mod' x s in let f : (x / s + 1) * s ≡ x / s * s + s = omega arith in omega arith

first_place : (o s lo : ℕ) → 0 < s → lo ≤ o + cond (nat_le lo o) 0 (((lo - o) - 1) / s + 1) * s
first_place o s lo h = elim (cases_Bool (nat_le lo o)) [
  | inl e ↦ subst (λ b. lo ≤ o + cond b 0 (((lo - o) - 1) / s + 1) * s) (sym e) (let a = leb-true lo o e in omega arith)
  | inr e ↦ subst (λ b. lo ≤ o + cond b 0 (((lo - o) - 1) / s + 1) * s) (sym e) (let a = leb-false lo o e in let t = turn_after ((lo - o) - 1) s h in omega arith)
]

pub place_of_test : (leaf : Leaf) (w : Window) → has_place_in leaf w ≡ true → Place leaf w
place_of_test leaf w e = by_test (leaf.stride == 0 || nat_lt w.hi leaf.offset) refl e
  where
    by_test : (c : Bool) → (leaf.stride == 0 || nat_lt w.hi leaf.offset) ≡ c → cond c false (turns_into leaf w) ≡ true → Place leaf w
    by_test true d e = absurd (cc)
    by_test false d e =
        let p = or_parts (leaf.stride == 0) (nat_lt w.hi leaf.offset) d in
        let q = and_parts (nat_lt (places_before leaf w.lo) leaf.count) (nat_le (places_before leaf w.lo) ((w.hi - leaf.offset) / leaf.stride)) e in
        let a = eqb-false leaf.stride 0 p.0 in
        let s : 0 < leaf.stride = pos_of leaf.stride a in
        let h = ltb-false w.hi leaf.offset p.1 in
        let t = leb-true (places_before leaf w.lo) ((w.hi - leaf.offset) / leaf.stride) q.1 in
        let m : places_before leaf w.lo * leaf.stride ≤ (w.hi - leaf.offset) / leaf.stride * leaf.stride = mul-le (places_before leaf w.lo) leaf.stride ((w.hi - leaf.offset) / leaf.stride) leaf.stride t (omega arith) in
        let f = div-add-mod' (w.hi - leaf.offset) leaf.stride in
        record { turn = places_before leaf w.lo; below = ltb-true (places_before leaf w.lo) leaf.count q.0; from = first_place leaf.offset leaf.stride w.lo s; to = omega arith; apart = s }
      where
        pos_of : (s : ℕ) → (s ≡ 0 → ⊥) → 0 < s
        pos_of zero h = absurd (h refl)
        pos_of (suc s) h = omega arith
