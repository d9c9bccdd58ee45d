-- Which offsets the bytes of a folded leaf have.
use Rattle.std.specs.Prelude.{◌≡◌, ℕ, ◌+◌, ◌-◌, ◌*◌, ◌/◌, ◌%◌, ◌^◌, ◌≤◌, ◌<◌, ◌==◌, min, Bool, true, false, cond, ◌||◌, nat_lt, nat_le, refl, ◌⊎◌}
use Rattle.std.proofs.Common.{arith, sym, ap, ◌∙◌, inl, inr}
use Rattle.std.proofs.lemmas.Bool.{and_parts, eqb-true, cases_lt, cond_both, or_left, cond-false, cond-true, or_from, ne_eqb, le-leb, lt-leb, lt-ltb, le-ltb}
use Rattle.std.proofs.lemmas.Nat.{div-add-mod', div-mul-add, mod-mul-add, mul-le}
use Rattle.std.proofs.Math.Nat.{lt-div-mul-add}
use Rattle.c_layout.specs.declared.data_model.Model.{Model}
use Rattle.c_layout.specs.declared.leaf_lists.Class.{Class}
use Rattle.c_layout.specs.declared.leaf_lists.Class.TheVariants.{Char, Short, Int, Long, LongLong, Pointer}
use Rattle.c_layout.specs.declared.leaf_lists.Leaf.{Leaf}
use Rattle.c_layout.specs.Models.{short_fits, int_fits, long_fits, long_long_fits, pointer_fits, is_model}
use Rattle.cfg.specs.ModelKinds as flow
use Rattle.store_cells.specs.ScalarTypes.{class_bytes}
use Rattle.store_cells.specs.RowPositions.{capped}
use Rattle.store.specs.LeafSelection.{turn_bytes, bytes_behind, bytes_below}

two_of : (a c d : ℕ) → (a == c || a == d) ≡ true → a ≡ cond (a == c) c d
two_of a c d h = by_first (a == c) refl h
  where
    by_first : (t : Bool) → (a == c) ≡ t → (t || a == d) ≡ true → a ≡ cond t c d
    by_first true e k = eqb-true a c e
    by_first false e k = eqb-true a d k

pub few_bytes : (m : Model) (c : Class) → class_bytes m c ≤ 8
few_bytes m Char = omega arith
few_bytes m Short = omega arith
few_bytes m Int = cond_both (m.int == 2) 2 4 (λ b. b ≤ 8) (λ e. omega arith) (λ e. omega arith)
few_bytes m Long = cond_both (m.long == 4) 4 8 (λ b. b ≤ 8) (λ e. omega arith) (λ e. omega arith)
few_bytes m LongLong = omega arith
few_bytes m Pointer = cond_both (m.pointer == 4) 4 8 (λ b. b ≤ 8) (λ e. omega arith) (λ e. omega arith)

-- the sizes of the program's classes are those of the store
pub same_bytes : (m : Model) → is_model m ≡ true → (c : Class) → flow.class_bytes m c ≡ class_bytes m c
same_bytes m h Char = refl
same_bytes m h Short = eqb-true m.short 2 (and_parts (short_fits m.short) _ h).0
same_bytes m h Int = let a = and_parts (short_fits m.short) _ h in two_of m.int 2 4 (and_parts (int_fits m.int) _ a.1).0
same_bytes m h Long = let a = and_parts (short_fits m.short) _ h in let c = and_parts (int_fits m.int) _ a.1 in two_of m.long 4 8 (and_parts (long_fits m.long) _ c.1).0
same_bytes m h LongLong = let a = and_parts (short_fits m.short) _ h in let c = and_parts (int_fits m.int) _ a.1 in let d = and_parts (long_fits m.long) _ c.1 in eqb-true m.long_long 8 (and_parts (long_long_fits m.long_long) _ d.1).0
same_bytes m h Pointer =
    let a = and_parts (short_fits m.short) _ h in
    let c = and_parts (int_fits m.int) _ a.1 in
    let d = and_parts (long_fits m.long) _ c.1 in
    let e = and_parts (long_long_fits m.long_long) (pointer_fits m.int m.long m.long_long m.pointer) d.1 in
    two_of m.pointer 4 8 (and_parts (m.pointer == 4 || m.pointer == 8) _ e.1).0

-- an offset is one of a byte of a place of the leaf
pub record Covers (leaf : Leaf) (size x : ℕ) : Type 0 where
  pub turn : ℕ
  pub rest : ℕ
  pub at : x ≡ leaf.offset + (turn * leaf.stride + rest)
  pub among : turn < leaf.count
  pub within : rest < size

-- bytes below a distance, by the turn and the rest of it
module _ (size stride count : ℕ) (fits : size ≤ stride) (few : count ≤ 2 ^ 30) (short : size ≤ 8) where
  abbrev pub behind : ℕ → ℕ
  behind apart = cond (nat_lt (apart / stride) count) (turn_bytes size (apart / stride) (apart % stride)) (capped (count * size))

  product_small : (q : ℕ) → q ≤ count → q * size ≤ 2 ^ 30 * 8
  product_small q h = mul-le q size (2 ^ 30) 8 (omega arith) short

  behind_at : (a q r : ℕ) → a ≡ q * stride + r → r < stride → q < count → behind a ≡ q * size + min r size
  behind_at a q r e h k =
      let d : a / stride ≡ q = ap (λ z. z / stride) e ∙ div-mul-add q stride r h in
      let f : a % stride ≡ r = ap (λ z. z % stride) e ∙ mod-mul-add q stride r h in
      let p = product_small q (omega arith) in
      cond-true (nat_lt (a / stride) count) (turn_bytes size (a / stride) (a % stride)) (capped (count * size)) (lt-ltb (a / stride) count (omega arith))
      ∙ ap (λ z. turn_bytes size z (a % stride)) d ∙ ap (λ z. turn_bytes size q z) f ∙ (omega arith)

  behind_past : (a q r : ℕ) → a ≡ q * stride + r → r < stride → count ≤ q → behind a ≡ count * size
  behind_past a q r e h k =
      let d : a / stride ≡ q = ap (λ z. z / stride) e ∙ div-mul-add q stride r h in
      let p = product_small count (omega arith) in
      cond-false (nat_lt (a / stride) count) (turn_bytes size (a / stride) (a % stride)) (capped (count * size)) (le-ltb (a / stride) count (omega arith)) ∙ (omega arith)

  -- one byte more, where the rest is below the size
  pub record Grows (a q r : ℕ) : Type 0 where
    pub less : behind a ≤ behind (a + 1)
    pub by : (behind (a + 1) - behind a ≡ 0) ⊎ ((behind (a + 1) - behind a ≡ 1) × (q < count) × (r < size))

  grows_inside : (a q r : ℕ) → a ≡ q * stride + r → r < stride → q < count → Grows a q r
  grows_inside a q r e h k =
      let x = behind_at a q r e h k in
      elim (cases_lt (r + 1) stride) [
        | inl s ↦ (let y = behind_at (a + 1) q (r + 1) (omega arith) s k in
            elim (cases_lt r size) [
              | inl t ↦ record { less = omega arith; by = inr (omega arith, k, t) }
              | inr t ↦ record { less = omega arith; by = inl (omega arith) }
            ])
        | inr s ↦ (let n : (q + 1) * size ≡ q * size + size = omega arith in
            let f : a + 1 ≡ (q + 1) * stride + 0 = omega arith in
            let y : behind (a + 1) ≡ q * size + size = elim (cases_lt (q + 1) count) [
              | inl u ↦ behind_at (a + 1) (q + 1) 0 f (omega arith) u ∙ (omega arith)
              | inr u ↦ behind_past (a + 1) (q + 1) 0 f (omega arith) u ∙ (let v : count ≡ q + 1 = omega arith in ap (λ z. z * size) v ∙ n)
            ] in
            elim (cases_lt r size) [
              | inl t ↦ record { less = omega arith; by = inr (omega arith, k, t) }
              | inr t ↦ record { less = omega arith; by = inl (omega arith) }
            ])
      ]

  grows_past : (a q r : ℕ) → a ≡ q * stride + r → r < stride → count ≤ q → Grows a q r
  grows_past a q r e h k =
      let x = behind_past a q r e h k in
      let y : behind (a + 1) ≡ count * size = elim (cases_lt (r + 1) stride) [
        | inl s ↦ behind_past (a + 1) q (r + 1) (omega arith) s k
        | inr s ↦ behind_past (a + 1) (q + 1) 0 (omega arith) (omega arith) (omega arith)
      ] in
      record { less = omega arith; by = inl (omega arith) }

  pub grows : (a q r : ℕ) → a ≡ q * stride + r → r < stride → Grows a q r
  grows a q r e h = elim (cases_lt q count) [ inl k ↦ grows_inside a q r e h k | inr k ↦ grows_past a q r e h k ]

module _ (m : Model) (leaf : Leaf) (some : 0 < class_bytes m leaf.class) (fits : class_bytes m leaf.class ≤ leaf.stride) (few : leaf.count ≤ 2 ^ 30) where
  -- from the first place on, the bytes below an offset are those behind a distance
  below_is : (x : ℕ) → leaf.offset ≤ x → bytes_below m leaf x ≡ bytes_behind m leaf (x - leaf.offset)
  below_is x h = elim (cases_lt leaf.offset x) [
    | inl a ↦ cond-false (nat_le x leaf.offset || leaf.stride == 0) 0 (bytes_behind m leaf (x - leaf.offset)) (or_from (nat_le x leaf.offset) (leaf.stride == 0) (lt-leb x leaf.offset a) (ne_eqb leaf.stride 0 (λ (e : leaf.stride ≡ 0). omega arith)))
    | inr a ↦ (let e : x - leaf.offset ≡ 0 * leaf.stride + 0 = omega arith in
        cond-true (nat_le x leaf.offset || leaf.stride == 0) 0 (bytes_behind m leaf (x - leaf.offset)) (or_left (nat_le x leaf.offset) (leaf.stride == 0) (le-leb x leaf.offset a))
        ∙ sym (elim (cases_lt 0 leaf.count) [
          | inl k ↦ behind_at (class_bytes m leaf.class) leaf.stride leaf.count fits few (few_bytes m leaf.class) (x - leaf.offset) 0 0 e (omega arith) k ∙ (omega arith)
          | inr k ↦ behind_past (class_bytes m leaf.class) leaf.stride leaf.count fits few (few_bytes m leaf.class) (x - leaf.offset) 0 0 e (omega arith) k ∙ (let z : leaf.count ≡ 0 = omega arith in ap (λ c. c * class_bytes m leaf.class) z ∙ (omega arith))
        ]))
  ]

  -- at an offset stands no byte of the leaf or one
  pub leaf_step : (x : ℕ) → (bytes_below m leaf (x + 1) - bytes_below m leaf x ≡ 0) ⊎ ((bytes_below m leaf (x + 1) - bytes_below m leaf x ≡ 1) × Covers leaf (class_bytes m leaf.class) x)
  leaf_step x = elim (cases_lt x leaf.offset) [
    | inl h ↦ inl (let e = cond-true (nat_le (x + 1) leaf.offset || leaf.stride == 0) 0 (bytes_behind m leaf ((x + 1) - leaf.offset)) (or_left (nat_le (x + 1) leaf.offset) (leaf.stride == 0) (le-leb (x + 1) leaf.offset (omega arith))) in omega arith)
    | inr h ↦ (let a = below_is x h in
        let c = below_is (x + 1) (omega arith) in
        let d : (x + 1) - leaf.offset ≡ (x - leaf.offset) + 1 = omega arith in
        let f : bytes_behind m leaf ((x + 1) - leaf.offset) ≡ bytes_behind m leaf ((x - leaf.offset) + 1) = ap (bytes_behind m leaf) d in
        let s : 0 < leaf.stride = omega arith in
        let e = div-add-mod' (x - leaf.offset) leaf.stride in
        let l = lt-div-mul-add {a = x - leaf.offset} s in
        let g = grows (class_bytes m leaf.class) leaf.stride leaf.count fits few (few_bytes m leaf.class) (x - leaf.offset) ((x - leaf.offset) / leaf.stride) ((x - leaf.offset) % leaf.stride) (omega arith) (omega arith) in
        elim (g.by) [
          | inl z ↦ inl (omega arith)
          | inr z ↦ inr (omega arith, record { turn = (x - leaf.offset) / leaf.stride; rest = (x - leaf.offset) % leaf.stride; at = omega arith; among = z.1; within = z.2 })
        ])
  ]
