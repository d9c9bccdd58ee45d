-- Lists of leaves that agree with leaves by number: arrays and members keep this.
use Rattle.std.specs.Prelude.{◌≡◌, ℕ, zero, suc, ◌+◌, ◌*◌, ◌/◌, ◌%◌, ◌^◌, ◌≤◌, ◌<◌, Bool, true, false, cond, ◌==◌, nat_lt, Option, Some, None, List, [], ◌∷◌, ◌++◌, length, slice_get, refl}
use Rattle.std.proofs.Common.{append_assoc, arith, sym, ap, ◌∙◌}
use Rattle.std.proofs.Math.Nat.{add-mul}
use Rattle.std.proofs.lemmas.Bool.{ltb-true, ltb-false, eqb-true, eqb-false}
use Rattle.std.proofs.lemmas.List.{length-append}
use Rattle.std.proofs.lemmas.Nat.{div-add-mod', mul-le}
use Rattle.std.proofs.lemmas.Option.{slice_get_past}
use Rattle.std.proofs.Math.Nat.{lt-div-mul-add}
use Rattle.c_layout.specs.declared.leaf_lists.Leaf.{Leaf}
use Rattle.c_layout.specs.Leaves.{repeated}
use Rattle.store_cells.specs.RowPositions.{capped}
use Rattle.store_structs.specs.LeafNumbers.{element_with}
use Rattle.store_monotone.proofs.layouts.Extents.{in_element}

-- leaves by number at an offset are those of a list, as many as are recorded, and no more than bytes
pub record AreLeaves (leaf : ℕ → ℕ → Option Leaf) (list : ℕ → List Leaf) (size recorded count : ℕ) : Type 0 where
  pub kept : recorded ≡ count
  pub few : count ≤ size
  pub long : (at : ℕ) → length (list at) ≡ count
  pub each : (number at : ℕ) → number < count → at + size ≤ 2 ^ 30 → slice_get (list at) number ≡ leaf number at

pub left_of : {V : Type 0} (xs ys : List V) (i : ℕ) → i < length xs → slice_get (xs ++ ys) i ≡ slice_get xs i
left_of [] ys i h = absurd (omega (arith, h))
left_of (x ∷ xs) ys zero h = refl
left_of (x ∷ xs) ys (suc i) h = left_of xs ys i (omega (arith, h))

pub right_of : {V : Type 0} (xs ys : List V) (i j : ℕ) → i ≡ length xs + j → slice_get (xs ++ ys) i ≡ slice_get ys j
right_of [] ys i j h = let e : i ≡ j = omega (arith, h) in ap (slice_get ys) e
right_of (x ∷ xs) ys zero j h = absurd (omega (arith, h))
right_of (x ∷ xs) ys (suc i) j h = right_of xs ys i j (omega (arith, h))

pub one_more : (m g : ℕ) → suc m * g ≡ g + m * g
one_more m g =
    let e : suc m ≡ 1 + m = omega arith in
    let f : (1 + m) * g ≡ 1 * g + m * g = add-mul 1 m g in
    let h : suc m * g ≡ (1 + m) * g = ap (λ z. z * g) e in
    omega (arith, f, h)

-- ---- arrays

module _ (list : ℕ → List Leaf) (count : ℕ) (long : (at : ℕ) → length (list at) ≡ count) where
  pub repeated_long : (n at step : ℕ) → length (repeated n at step list) ≡ n * count
  repeated_long zero at step = omega arith
  repeated_long (suc n) at step =
      let a = length-append (list at) (repeated n (at + step) step list) in
      let b = repeated_long n (at + step) step in
      let c = long at in
      let d = one_more n count in
      omega (arith, a, b, c, d)

  repeated_at : (n at step i r : ℕ) → i < n → r < count → slice_get (repeated n at step list) (i * count + r) ≡ slice_get (list (at + i * step)) r
  repeated_at zero at step i r h k = absurd (omega (arith, h))
  repeated_at (suc n) at step zero r h k =
      let e : 0 * count + r ≡ r = omega arith in
      let f : at ≡ at + 0 * step = omega arith in
      let c = long at in
      ap (slice_get (list at ++ repeated n (at + step) step list)) e ∙ left_of (list at) (repeated n (at + step) step list) r (omega (arith, c, k)) ∙ ap (λ z. slice_get (list z) r) f
  repeated_at (suc n) at step (suc i) r h k =
      let c = long at in
      let d = one_more i count in
      let e = one_more i step in
      let f : (at + step) + i * step ≡ at + suc i * step = omega (arith, e) in
      right_of (list at) (repeated n (at + step) step list) (suc i * count + r) (i * count + r) (omega (arith, c, d))
      ∙ repeated_at n (at + step) step i r (omega (arith, h)) k ∙ ap (λ z. slice_get (list z) r) f

  repeated_past : (n at step number : ℕ) → n * count ≤ number → slice_get (repeated n at step list) number ≡ None
  repeated_past n at step number h = let a = repeated_long n at step in slice_get_past (repeated n at step list) number (omega (arith, a, h))

module _ (leaf : ℕ → ℕ → Option Leaf) (list : ℕ → List Leaf) (size recorded count : ℕ) (h : AreLeaves leaf list size recorded count) where
  element_each : (n number at : ℕ) → at + n * size ≤ 2 ^ 30 → slice_get (repeated n at size list) number ≡ in_element leaf at size (element_with number n count)
  element_each n number at room = by_tests (count == 0) (nat_lt (number / count) n) refl refl
    where
      by_tests : (c d : Bool) → (count == 0) ≡ c → nat_lt (number / count) n ≡ d → slice_get (repeated n at size list) number ≡ in_element leaf at size (cond c None (cond d (Some (number / count, number % count)) None))
      by_tests true d f g =
          let e = eqb-true count 0 f in
          let z : n * count ≡ n * 0 = ap (λ z. n * z) e in
          repeated_past list count h.long n at size number (omega (arith, z))
      by_tests false false f g =
          let a = ltb-false (number / count) n g in
          let b = div-add-mod' number count in
          let c = mul-le n count (number / count) count a (omega arith) in
          repeated_past list count h.long n at size number (omega (arith, b, c))
      by_tests false true f g =
          let z = eqb-false count 0 f in
          let some : 0 < count = omega (arith, z) in
          let sum = div-add-mod' number count in
          let less = lt-div-mul-add {a = number} some in
          let below = ltb-true (number / count) n g in
          let step = mul-le (number / count + 1) size n size (omega (arith, below)) (omega arith) in
          let more = one_more (number / count) size in
          let plus : (number / count + 1) * size ≡ suc (number / count) * size = ap (λ k. k * size) (let e : number / count + 1 ≡ suc (number / count) = omega arith in e) in
          let same : at + (number / count) * size ≡ capped (at + capped ((number / count) * size)) = omega (arith, step, more, plus, room) in
          ap (slice_get (repeated n at size list)) (sym sum)
          ∙ repeated_at list count h.long n at size (number / count) (number % count) below (omega (arith, sum, less))
          ∙ h.each (number % count) (at + (number / count) * size) (omega (arith, sum, less)) (omega (arith, step, more, plus, room))
          ∙ ap (leaf (number % count)) same

  pub array_leaves : (n : ℕ) → n * size ≤ 2 ^ 30 → AreLeaves (λ number at. in_element leaf at size (element_with number n count)) (λ at. repeated n at size list) (n * size) (n * recorded) (capped (n * count))
  array_leaves n near =
      let f = mul-le n count n size (omega arith) h.few in
      let k : n * recorded ≡ n * count = ap (λ z. n * z) h.kept in
      record {
        kept = omega (arith, f, k, near);
        few = omega (arith, f);
        long = λ at. let a = repeated_long list count h.long n at size in omega (arith, a, f, near);
        each = λ number at below room. element_each n number at room;
      }

pub leaves_as : (leaf other : ℕ → ℕ → Option Leaf) (list same : ℕ → List Leaf) (size bytes recorded more count few : ℕ) → AreLeaves other same bytes more few
    → ((number at : ℕ) → at + size ≤ 2 ^ 30 → leaf number at ≡ other number at) → ((at : ℕ) → list at ≡ same at) → size ≡ bytes → recorded ≡ more → count ≡ few → AreLeaves leaf list size recorded count
leaves_as leaf other list same size bytes recorded more count few h l s z r c = record {
  kept = r ∙ h.kept ∙ sym c;
  few = let a = h.few in omega (arith, a, z, c);
  long = λ at. ap length (s at) ∙ h.long at ∙ sym c;
  each = λ number at below room. ap (λ xs. slice_get xs number) (s at) ∙ h.each number at (omega (arith, below, c)) (omega (arith, room, z)) ∙ sym (l number at room);
}

-- an array of no elements
pub no_leaves : (leaf : ℕ → ℕ → Option Leaf) (list : ℕ → List Leaf) (size recorded count : ℕ) → recorded ≡ 0 → count ≡ 0 → ((at : ℕ) → list at ≡ []) → AreLeaves leaf list size recorded count
no_leaves leaf list size recorded count r c none = record {
  kept = r ∙ sym c;
  few = omega (arith, c);
  long = λ at. ap length (none at) ∙ sym c;
  each = λ number at below room. absurd (omega (arith, below, c));
}

-- ---- what stands so often, in groups

module _ (step : ℕ) (unit : ℕ → List Leaf) where
  both_repeated : (a b at : ℕ) → repeated (a + b) at step unit ≡ repeated a at step unit ++ repeated b (at + a * step) step unit
  both_repeated zero b at =
      let e : at ≡ at + 0 * step = omega arith in
      let f : 0 + b ≡ b = omega arith in
      ap (λ z. repeated z at step unit) f ∙ ap (λ z. repeated b z step unit) e
  both_repeated (suc a) b at =
      let e = one_more a step in
      let f : (at + step) + a * step ≡ at + suc a * step = omega (arith, e) in
      let g : suc a + b ≡ suc (a + b) = omega arith in
      ap (λ z. repeated z at step unit) g ∙ ap (λ z. unit at ++ z) (both_repeated a b (at + step) ∙ ap (λ z. repeated a (at + step) step unit ++ repeated b z step unit) f)
      ∙ sym (append_assoc (unit at) (repeated a (at + step) step unit) (repeated b (at + suc a * step) step unit))

  pub in_groups : (n count at : ℕ) → repeated (n * count) at step unit ≡ repeated n at (count * step) (λ z. repeated count z step unit)
  in_groups zero count at = let e : 0 * count ≡ 0 = omega arith in ap (λ z. repeated z at step unit) e
  in_groups (suc n) count at =
      ap (λ z. repeated z at step unit) (one_more n count) ∙ both_repeated count (n * count) at
      ∙ ap (λ z. repeated count at step unit ++ z) (in_groups n count (at + count * step))
