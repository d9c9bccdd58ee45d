-- The leaves of bases of well-formed programs are short; those of heap bases begin one behind the other.
use Rattle.std.specs.Prelude.{◌≡◌, ℕ, ◌+◌, ◌*◌, ◌^◌, ◌≤◌, ◌<◌, ◌==◌, Bool, true, false, cond, ◌&&◌, nat_lt, nat_le, List, [], ◌∷◌, refl}
use Rattle.std.specs.List.{list_all}
use Rattle.std.proofs.Common.{arith, subst, ap, ◌∙◌}
use Rattle.std.proofs.lemmas.Nat.{mul-le}
use Rattle.std.proofs.lemmas.Bool.{and_parts, leb-true, leb-false, ltb-true, eqb-true, eq-eqb}
use Rattle.c_layout.specs.declared.data_model.Model.{Model}
use Rattle.c_layout.specs.declared.leaf_lists.Leaf.{Leaf}
use Rattle.c_layout.specs.Models.{is_model}
use Rattle.cfg.specs.BaseShapes.{is_extent, leaf_end, array_end, has_extents, is_stride, is_behind, is_beside, is_apart, follows, first_of, are_apart, is_single}
use Rattle.cfg.specs.ModelKinds as flow
use Rattle.store_monotone.specs.Operations.Placements.{EachFrom}
use Rattle.store_monotone.proofs.operations.Loads.{some_bytes}
use Rattle.store_monotone.proofs.shapes.LeafBytes.{same_bytes}
use Rattle.store_monotone.proofs.structs.MetLeaves.{IsShort}

-- a leaf is no longer than its stride
bytes_within : (size stride count : ℕ) → cond (count == 1) (stride == size) (nat_le size stride) ≡ true → size ≤ stride
bytes_within size stride count = by_count (count == 1)
  where
    by_count : (c : Bool) → cond c (stride == size) (nat_le size stride) ≡ true → size ≤ stride
    by_count true h = let e = eqb-true stride size h in omega arith
    by_count false h = leb-true size stride h

-- a leaf that follows others
record IsNext (m : Model) (room : ℕ) (first : Leaf) (taken : ℕ) (leaf : Leaf) : Type 0 where
  offset : leaf.offset ≤ 2 ^ 30
  stride : leaf.stride ≤ 2 ^ 30
  count : leaf.count ≤ 2 ^ 30
  bytes : flow.class_bytes m leaf.class ≤ leaf.stride
  some : 0 < flow.class_bytes m leaf.class
  apart : is_apart m room first taken leaf ≡ true
  step : is_stride m leaf ≡ true

next_of : (m : Model) → is_model m ≡ true → (room : ℕ) (first : Leaf) (taken : ℕ) (leaf : Leaf) → follows m room first taken leaf ≡ true → IsNext m room first taken leaf
next_of m model room first taken leaf h =
    let a = and_parts (has_extents leaf && is_stride m leaf) (is_apart m room first taken leaf) h in
    let b = and_parts (has_extents leaf) (is_stride m leaf) a.0 in
    let c = and_parts (is_extent leaf.offset) (is_extent leaf.stride && is_extent leaf.count) b.0 in
    let d = and_parts (is_extent leaf.stride) (is_extent leaf.count) c.1 in
    let e = same_bytes m model leaf.class in
    let f = some_bytes m leaf.class in
    record {
      offset = leb-true leaf.offset (2 ^ 30) c.0;
      stride = leb-true leaf.stride (2 ^ 30) d.0;
      count = leb-true leaf.count (2 ^ 30) d.1;
      bytes = bytes_within (flow.class_bytes m leaf.class) leaf.stride leaf.count b.1;
      some = omega arith;
      apart = a.1;
      step = b.1;
    }

-- ---- short leaves

counted : (m : Model) (room : ℕ) (first : Leaf) (taken : ℕ) (leaf : Leaf) → (0 < array_end first → 0 < first.count) → is_apart m room first taken leaf ≡ true → (0 < leaf.count) × (0 < array_end (first_of first leaf) → 0 < (first_of first leaf).count)
counted m room first taken leaf n h = by_behind (is_behind first leaf) refl h
  where
    by_behind : (c : Bool) → is_behind first leaf ≡ c → cond c (nat_lt 0 leaf.count && nat_le (array_end leaf) room) (is_beside m first taken leaf) ≡ true → (0 < leaf.count) × (0 < array_end (cond c leaf first) → 0 < (cond c leaf first).count)
    by_behind true f k = let p = ltb-true 0 leaf.count (and_parts (nat_lt 0 leaf.count) (nat_le (array_end leaf) room) k).0 in (p, λ q. p)
    by_behind false f k =
        let p = and_parts ((leaf.stride == first.stride) && (leaf.count == first.count)) (nat_le taken leaf.offset && nat_le (leaf_end m leaf) (first.offset + first.stride)) k in
        let q = eqb-true leaf.count first.count (and_parts (leaf.stride == first.stride) (leaf.count == first.count) p.0).1 in
        let u = leb-false (array_end first) leaf.offset f in
        let v = n (omega arith) in
        (omega arith, λ w. v)

pub all_short : (m : Model) → is_model m ≡ true → (room : ℕ) (first : Leaf) (taken : ℕ) (at : ℕ) (leaves : List Leaf) → (0 < array_end first → 0 < first.count) → are_apart m room first taken leaves ≡ true → EachFrom (λ leaf at. IsShort leaf) at leaves
all_short m model room first taken at [] n h = tt
all_short m model room first taken at (leaf ∷ leaves) n h =
    let a = and_parts (follows m room first taken leaf) (are_apart m room (first_of first leaf) (leaf_end m leaf) leaves) h in
    let p = next_of m model room first taken leaf a.0 in
    let d = counted m room first taken leaf n p.apart in
    let t : leaf.count * leaf.stride ≤ 2 ^ 30 * 2 ^ 30 = mul-le leaf.count leaf.stride (2 ^ 30) (2 ^ 30) p.count p.stride in
    let o = p.offset in let b = p.bytes in let s = p.some in
    (record { some = d.0; apart = omega arith; near = omega arith }, all_short m model room (first_of first leaf) (leaf_end m leaf) (at + 1) leaves d.1 a.1)

-- ---- leaves of one place

pub record IsOne (leaf : Leaf) : Type 0 where
  pub count : leaf.count ≡ 1
  pub apart : 0 < leaf.stride
  pub near : leaf.offset ≤ 2 ^ 30

-- leaves of one place each, of which each begins behind the one before
abbrev pub AreOnes : ℕ → List Leaf → Type 0
AreOnes from [] = Unit {0}
AreOnes from (leaf ∷ leaves) = (from ≤ leaf.offset) × IsOne leaf × AreOnes (leaf.offset + 1) leaves

ones_before : (from to : ℕ) → to ≤ from → (leaves : List Leaf) → AreOnes from leaves → AreOnes to leaves
ones_before from to h [] k = tt
ones_before from to h (leaf ∷ leaves) k = let a = k.0 in (omega arith, k.1, k.2)

-- what stands once is behind what stands before it, as the first of its element
behind : (m : Model) (room : ℕ) (first : Leaf) (taken : ℕ) (leaf : Leaf) → array_end first ≡ taken → first.offset + first.stride ≤ taken → 0 < flow.class_bytes m leaf.class → is_apart m room first taken leaf ≡ true → (taken ≤ leaf.offset) × (first_of first leaf ≡ leaf)
behind m room first taken leaf e t some h = by_behind (is_behind first leaf) refl h
  where
    by_behind : (c : Bool) → is_behind first leaf ≡ c → cond c (nat_lt 0 leaf.count && nat_le (array_end leaf) room) (is_beside m first taken leaf) ≡ true → (taken ≤ leaf.offset) × (cond c leaf first ≡ leaf)
    by_behind true f k = (let g = leb-true (array_end first) leaf.offset f in omega arith, refl)
    by_behind false f k =
        let p = and_parts ((leaf.stride == first.stride) && (leaf.count == first.count)) (nat_le taken leaf.offset && nat_le (leaf_end m leaf) (first.offset + first.stride)) k in
        let q = and_parts (nat_le taken leaf.offset) (nat_le (leaf_end m leaf) (first.offset + first.stride)) p.1 in
        let u = leb-true taken leaf.offset q.0 in
        let v = leb-true (leaf_end m leaf) (first.offset + first.stride) q.1 in
        absurd (omega arith)

once_stride : (size stride count : ℕ) → count ≡ 1 → cond (count == 1) (stride == size) (nat_le size stride) ≡ true → stride ≡ size
once_stride size stride count e h = eqb-true stride size (subst (λ c. cond c (stride == size) (nat_le size stride) ≡ true) (eq-eqb count 1 e) h)

pub all_ones : (m : Model) → is_model m ≡ true → (room : ℕ) (first : Leaf) (taken : ℕ) (leaves : List Leaf) → array_end first ≡ taken → first.offset + first.stride ≤ taken → are_apart m room first taken leaves ≡ true → list_all is_single leaves ≡ true → AreOnes taken leaves
all_ones m model room first taken [] e t h k = tt
all_ones m model room first taken (leaf ∷ leaves) e t h k =
    let a = and_parts (follows m room first taken leaf) (are_apart m room (first_of first leaf) (leaf_end m leaf) leaves) h in
    let p = next_of m model room first taken leaf a.0 in
    let s = and_parts (is_single leaf) (list_all is_single leaves) k in
    let one : leaf.count ≡ 1 = eqb-true leaf.count 1 s.0 in
    let b = behind m room first taken leaf e t p.some p.apart in
    let own = once_stride (flow.class_bytes m leaf.class) leaf.stride leaf.count one p.step in
    let times : leaf.stride * leaf.count ≡ leaf.stride = ap (λ z. leaf.stride * z) one ∙ (omega arith) in
    let some = p.some in (
      b.0,
      record { count = one; apart = omega arith; near = p.offset },
      ones_before (leaf_end m leaf) (leaf.offset + 1) (omega arith) leaves (all_ones m model room leaf (leaf_end m leaf) leaves (omega arith) (omega arith) (subst (λ g. are_apart m room g (leaf_end m leaf) leaves ≡ true) b.1 a.1) s.1),
    )
