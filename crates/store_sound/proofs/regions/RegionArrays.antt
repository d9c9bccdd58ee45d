-- The arrays that a region meets, and their first zeros.
use Rattle.std.proofs.Common.{◌≡◌, ℕ, zero, suc, ◌+◌, ◌-◌, ◌^◌, ◌<◌, ◌≤◌, Option, Some, None, List, [], ◌∷◌, length, drop, arith, subst, sym, refl, ap, ◌∙◌, inl, inr, ◌⊎◌}
use Rattle.std.specs.Prelude.{slice_get, ℤ, pos, ◌<ℤ◌}
use Rattle.std.proofs.lemmas.Int.{ints}
use Rattle.std.proofs.lemmas.Bool.{cases_lt}
use Rattle.std.proofs.lemmas.List.{length-take, length-drop}
use Rattle.std.proofs.lemmas.Option.{same_Some}
use Rattle.cc_base.specs.Lattices.{LatticeOf, OrderLaws}
use Rattle.cc_base.specs.IntegerDomains.{IntegersOf, BoundLaws}
use Rattle.c_layout.specs.declared.shapes.ZeroPart.{ZeroPart}
use Rattle.value_domain.specs.Strings.FirstZeros.{the_end}
use Rattle.value_domain.specs.declared.strings.first_zeros.FirstZero.{FirstZero}
use Rattle.value_domain.specs.declared.values.row_cells.Cell.{Cell}
use Rattle.value_domain.specs.declared.values.row_cells.Cell.TheVariants.{First}
use Rattle.store_cells.specs.FirstZeroWrites.{any_zero}
use Rattle.store_cells.specs.NearValues.{near_number}
use Rattle.store_cells.specs.RowPositions.{zero_at, zero_in, put_zero}
use Rattle.memory_model.specs.Memory.Bytes.{Byte}
use Rattle.memory_model.specs.Memory.Instances.{Memory, bytes_at, byte_at}
use Rattle.store_sound.specs.Concretization.FirstZeroBytes.{Seen, unknown, end, character, seen_as, one_more, zero_by, first_zero, zero_offset}
use Rattle.store_sound.specs.Concretization.ValueMeaning.{Naming, InGammaZero}
use Rattle.store_sound.specs.Concretization.RowMeaning.{array_of, array_bytes}
use Rattle.store_sound.proofs.operations.Only.{cell_put}
use Rattle.store_sound.proofs.operations.Slices.{get_drop}
use Rattle.store_sound.proofs.operations.StoreZeros.{same_slices, take_by, zero_small, offset_near, some_between, any_stands}
use Rattle.store_sound.proofs.operations.TouchedRest.{near_stands}
use Rattle.store_sound.proofs.chars.ByteArrays.{IsIn, in_or_not}
use Rattle.domain_theorems.specs.Values.ZeroMeaning.{WroteText}
use Rattle.store_sound.specs.Regions.RegionWrites.{IsRegion}

-- ---- arrays

-- what stands in an array
pub array_get : (size : Option ℕ) (start : ℕ) (bytes : List Byte) (k : ℕ) → (IsIn size start (start + k) → slice_get (array_of size (drop start bytes)) k ≡ slice_get bytes (start + k)) × ((IsIn size start (start + k) → ⊥) → slice_get (array_of size (drop start bytes)) k ≡ None)
array_get None start bytes k = (λ h. get_drop start bytes k (start + k) refl, λ n. absurd (n (omega arith)))
array_get (Some size) start bytes k =
    let r = take_by size (drop start bytes) k in (
      λ (h : (start ≤ start + k) × (start + k < start + size)). let a = h.1 in r.0 (omega (arith, a)) ∙ get_drop start bytes k (start + k) refl,
      λ (n : (start ≤ start + k) × (start + k < start + size) → ⊥). r.1 (elim (cases_lt k size) [ inl e ↦ absurd (n (omega arith, omega (arith, e))) | inr e ↦ e ]),
    )

pub starts_in : (size : Option ℕ) (start offset : ℕ) → IsIn size start offset → start ≤ offset
starts_in None start offset h = h
starts_in (Some size) start offset h = h.0

-- an offset from the array's start on, below one of the array's, is one of it
pub before_in : (size : Option ℕ) (start offset x : ℕ) → IsIn size start offset → start ≤ x → x ≤ offset → IsIn size start x
before_in None start offset x h from to = from
before_in (Some size) start offset x h from to = let a = h.1 in (from, omega (arith, a, to))

pub array_short : (part : ZeroPart) (bytes : List Byte) → length (array_bytes part bytes) ≤ length bytes
array_short part bytes = by_size part.size
  where
    by_size : (size : Option ℕ) → length (array_of size (drop part.offset bytes)) ≤ length bytes
    by_size None = let e = length-drop part.offset bytes in omega (arith, e)
    by_size (Some size) = let e = length-drop part.offset bytes in let f = length-take size (drop part.offset bytes) in omega (arith, e, f)

module _ {old new : Memory} {i offset size : ℕ} (s : IsRegion old new i offset size) (part : ZeroPart) where
  -- an array that has no byte of the region
  pub array_apart : (j : ℕ) → (j ≡ i → (o : ℕ) → IsIn part.size part.offset o → offset ≤ o → o < offset + size → ⊥) → array_bytes part (bytes_at new j) ≡ array_bytes part (bytes_at old j)
  unfolding byte_at
  array_apart j none = same_slices _ _ (λ k. elim (in_or_not part.size part.offset (part.offset + k)) [
    | inl e ↦ (array_get part.size part.offset (bytes_at new j) k).0 e ∙ (s.outside j (part.offset + k) (λ d from to. none d (part.offset + k) e from to) ∙ sym ((array_get part.size part.offset (bytes_at old j) k).0 e))
    | inr e ↦ (array_get part.size part.offset (bytes_at new j) k).1 e ∙ sym ((array_get part.size part.offset (bytes_at old j) k).1 e)
  ])

  -- the bytes of an array in front of the region
  pub array_before : (k : ℕ) → part.offset + k < offset → slice_get (array_bytes part (bytes_at new i)) k ≡ slice_get (array_bytes part (bytes_at old i)) k
  unfolding byte_at
  array_before k h = elim (in_or_not part.size part.offset (part.offset + k)) [
    | inl e ↦ (array_get part.size part.offset (bytes_at new i) k).0 e ∙ (s.outside i (part.offset + k) (λ d from to. omega (arith, h, from)) ∙ sym ((array_get part.size part.offset (bytes_at old i) k).0 e))
    | inr e ↦ (array_get part.size part.offset (bytes_at new i) k).1 e ∙ sym ((array_get part.size part.offset (bytes_at old i) k).1 e)
  ]

  pub array_there : (bytes : Memory) (k : ℕ) (b : Byte) → IsIn part.size part.offset (part.offset + k) → byte_at bytes i (part.offset + k) ≡ Some b → slice_get (array_bytes part (bytes_at bytes i)) k ≡ Some b
  unfolding byte_at
  array_there bytes k b e h = (array_get part.size part.offset (bytes_at bytes i) k).0 e ∙ h

-- ---- texts

-- two texts that are the same up to a zero have the same first zero
pub same_first_zero : (xs ys : List Byte) (k : ℕ) (a b : Byte) → ((j : ℕ) → j < k → slice_get xs j ≡ slice_get ys j) → slice_get xs k ≡ Some a → slice_get ys k ≡ Some b → seen_as a.content ≡ end → seen_as b.content ≡ end → first_zero xs ≡ first_zero ys
same_first_zero [] ys k a b same e f z w = cc
same_first_zero (x ∷ xs) [] k a b same e f z w = cc
same_first_zero (x ∷ xs) (y ∷ ys) zero a b same e f z w =
    let c : x ≡ a = same_Some x a e in
    let d : y ≡ b = same_Some y b f in
    let u : seen_as x.content ≡ end = ap (λ t. seen_as t.content) c ∙ z in
    let v : seen_as y.content ≡ end = ap (λ t. seen_as t.content) d ∙ w in
    ap (λ t. zero_by t (first_zero xs)) u ∙ sym (ap (λ t. zero_by t (first_zero ys)) v)
same_first_zero (x ∷ xs) (y ∷ ys) (suc k) a b same e f z w =
    let c : x ≡ y = same_Some x y (same 0 (omega arith)) in
    let r = same_first_zero xs ys k a b (λ j h. same (suc j) (omega (arith, h))) e f z w in
    ap (λ t. zero_by (seen_as t.content) (first_zero xs)) c ∙ ap (zero_by (seen_as y.content)) r

-- characters from an offset on, and then a zero
pub record IsText (bytes : List Byte) (k t : ℕ) : Type 0 where
  pub characters : (j : ℕ) → j < t → (b : Byte) × (slice_get bytes (k + j) ≡ Some b) × (seen_as b.content ≡ character)
  pub closed : (b : Byte) × (slice_get bytes (k + t) ≡ Some b) × (seen_as b.content ≡ end)

more_text : (x : Byte) (xs : List Byte) (k t : ℕ) → IsText (x ∷ xs) (suc k) t → IsText xs k t
more_text x xs k t h = record {
  characters = λ j u. let e : suc k + j ≡ suc (k + j) = omega arith in let r = h.characters j u in (r.0, ap (slice_get (x ∷ xs)) (sym e) ∙ r.1, r.2);
  closed = let e : suc k + t ≡ suc (k + t) = omega arith in let r = h.closed in (r.0, ap (slice_get (x ∷ xs)) (sym e) ∙ r.1, r.2);
}

text_length : (bytes : List Byte) (t : ℕ) → IsText bytes 0 t → first_zero bytes ≡ Some t
text_length [] t h = let e = h.closed.1 in cc
text_length (x ∷ xs) zero h =
    let r = h.closed in
    let c : x ≡ r.0 = same_Some x r.0 r.1 in
    ap (λ u. zero_by u (first_zero xs)) (ap (λ u. seen_as u.content) c ∙ r.2)
text_length (x ∷ xs) (suc t) h =
    let r = h.characters 0 (omega arith) in
    let c : x ≡ r.0 = same_Some x r.0 r.1 in
    let e = text_length xs t (record {
      characters = λ j u. let d : 0 + suc j ≡ suc (0 + j) = omega arith in let w = h.characters (suc j) (omega (arith, u)) in (w.0, ap (slice_get (x ∷ xs)) (sym d) ∙ w.1, w.2);
      closed = let d : 0 + suc t ≡ suc (0 + t) = omega arith in let w = h.closed in (w.0, ap (slice_get (x ∷ xs)) (sym d) ∙ w.1, w.2);
    }) in
    ap (λ u. zero_by u (first_zero xs)) (ap (λ u. seen_as u.content) c ∙ r.2) ∙ ap one_more e

-- what a text at k makes of a first zero
record IsTextAt (k t : ℕ) (f g : Option ℕ) : Type 0 where
  behind : (m : ℕ) → f ≡ Some m → k ≤ m → g ≡ Some (k + t)
  before : (m : ℕ) → f ≡ Some m → m < k → g ≡ Some m
  none : f ≡ None → (g ≡ Some (k + t)) ⊎ (g ≡ None)
  start : k ≡ 0 → g ≡ Some t

one_is : (f : Option ℕ) (m : ℕ) → one_more f ≡ Some m → (j : ℕ) × (f ≡ Some j) × (m ≡ suc j)
one_is None m e = cc
one_is (Some j) m e = (j, refl, cc)

none_is : (f : Option ℕ) → one_more f ≡ None → f ≡ None
none_is None e = refl
none_is (Some j) e = cc

next : (k t : ℕ) → suc (k + t) ≡ suc k + t
next k t = omega arith

text_by : (s : Seen) (k t : ℕ) (f g : Option ℕ) → IsTextAt k t f g → IsTextAt (suc k) t (zero_by s f) (zero_by s g)
text_by unknown k t f g h = record { behind = λ m e u. cc; before = λ m e u. cc; none = λ e. inr refl; start = λ (e : suc k ≡ 0). absurd (omega (arith, e)) }
text_by end k t f g h = record {
  behind = λ m e u. let c : 0 ≡ m = same_Some 0 m e in absurd (omega (arith, c, u));
  before = λ m e u. e;
  none = λ e. cc;
  start = λ (e : suc k ≡ 0). absurd (omega (arith, e));
}
text_by character k t f g h = record {
  behind = λ m e u. let r = one_is f m e in let w = r.2 in ap one_more (h.behind r.0 r.1 (omega (arith, u, w))) ∙ ap Some (next k t);
  before = λ m e u. let r = one_is f m e in let w = r.2 in ap one_more (h.before r.0 r.1 (omega (arith, u, w))) ∙ ap Some (sym r.2);
  none = λ e. elim (h.none (none_is f e)) [ inl u ↦ inl (ap one_more u ∙ ap Some (next k t)) | inr u ↦ inr (ap one_more u) ];
  start = λ (e : suc k ≡ 0). absurd (omega (arith, e));
}

text_at : (xs ys : List Byte) (k t : ℕ) → ((j : ℕ) → j < k → slice_get xs j ≡ slice_get ys j) → IsText ys k t → k < length xs → IsTextAt k t (first_zero xs) (first_zero ys)
text_at xs ys zero t same h few = let e = text_length ys t h in let d : t ≡ 0 + t = omega arith in record {
  behind = λ m f u. e ∙ ap Some d;
  before = λ m f u. absurd (omega (arith, u));
  none = λ f. inl (e ∙ ap Some d);
  start = λ f. e;
}
text_at [] ys (suc k) t same h few = absurd (omega (arith, few))
text_at (x ∷ xs) [] (suc k) t same h few = let e : Some x ≡ None = same 0 (omega arith) in cc
text_at (x ∷ xs) (y ∷ ys) (suc k) t same h few =
    let c : x ≡ y = same_Some x y (same 0 (omega arith)) in
    let r = text_at xs ys k t (λ j u. same (suc j) (omega (arith, u))) (more_text y ys k t h) (omega (arith, few)) in
    subst (λ z. IsTextAt (suc k) t (zero_by (seen_as x.content) (first_zero xs)) (zero_by (seen_as z.content) (first_zero ys))) c (text_by (seen_as x.content) k t (first_zero xs) (first_zero ys) r)

offset_of : Option ℕ → ℕ
offset_of None = 0
offset_of (Some k) = k

is_some_at : (f : Option ℕ) → (zero_offset f ≡ the_end → ⊥) → (m : ℕ) × (f ≡ Some m)
is_some_at None n = absurd (n refl)
is_some_at (Some m) n = (m, refl)

is_none_at : (f : Option ℕ) → ((m : ℕ) → f ≡ Some m → m < 2 ^ 64) → zero_offset f ≡ the_end → f ≡ None
is_none_at None small e = refl
is_none_at (Some m) small e = let a = small m refl in let b : pos m ≡ pos (2 ^ 64) = e in absurd (omega (arith, ints, a, b))

pub wrote_text : (xs ys : List Byte) (k t : ℕ) → ((j : ℕ) → j < k → slice_get xs j ≡ slice_get ys j) → IsText ys k t → k < length xs → length xs ≤ 2 ^ 64 - 1 → length ys ≤ 2 ^ 64 - 1 → WroteText (zero_offset (first_zero xs)) (pos k) (pos t) (zero_offset (first_zero ys))
wrote_text xs ys k t same h few short long =
    let r = text_at xs ys k t same h few in
    let f = first_zero xs in
    let g = first_zero ys in
    let small : (m : ℕ) → first_zero xs ≡ Some m → m < 2 ^ 64 = λ m e. let w = zero_small xs m e in omega (arith, w, short) in
    let limits = offset_near (first_zero ys) (λ m e. let w = zero_small ys m e in omega (arith, w, long)) in
    record {
      behind = λ u v.
          let m = is_some_at (first_zero xs) (λ (e : zero_offset (first_zero xs) ≡ the_end). omega (arith, ints, e, v)) in
          let d : zero_offset (first_zero xs) ≡ pos m.0 = ap zero_offset m.1 in
          let e : zero_offset (first_zero ys) ≡ pos (k + t) = ap zero_offset (r.behind m.0 m.1 (omega (arith, ints, d, u))) in
          omega (arith, ints, e);
      before = λ u.
          let last : pos k <ℤ the_end = omega (arith, ints, few, short) in
          let m = is_some_at (first_zero xs) (λ (e : zero_offset (first_zero xs) ≡ the_end). omega (arith, ints, e, u, last)) in
          let d : zero_offset (first_zero xs) ≡ pos m.0 = ap zero_offset m.1 in
          ap zero_offset (r.before m.0 m.1 (omega (arith, ints, d, u))) ∙ sym d;
      none = λ u. elim (r.none (is_none_at (first_zero xs) small u)) [
        | inl e ↦ (let w : zero_offset (first_zero ys) ≡ pos (k + t) = ap zero_offset e in inl (omega (arith, ints, w)))
        | inr e ↦ inr (ap zero_offset e)
      ];
      start = λ u. ap zero_offset (r.start (omega (arith, ints, u)));
      within = limits.1;
    }

-- ---- first zeros in rows

module _ {I : Type 0} {l : LatticeOf I} {n : IntegersOf I} {gamma : I → ℤ → Type 0} (o : OrderLaws l) (q : BoundLaws l n gamma) (naming : Naming) (memory : Memory) where
  pub zero_is_put : (row : List (Cell I)) (p : ℕ) (f : FirstZero I) → p < length row → zero_at l n (put_zero row p f) p ≡ record { at = near_number l n f.at }
  unfolding zero_at
  zero_is_put row p f h = ap (λ c. record { at = near_number l n (zero_in l c).at }) (cell_put row p (First f) h)

  pub put_zero_stands : (row : List (Cell I)) (p : ℕ) (f : FirstZero I) (bytes : List Byte) → p < length row → length bytes ≤ 2 ^ 64 - 1 → InGammaZero gamma naming memory f bytes → InGammaZero gamma naming memory (zero_at l n (put_zero row p f) p) bytes
  put_zero_stands row p f bytes there small h =
      let a = offset_near (first_zero bytes) (λ k e. let w = zero_small bytes k e in omega (arith, w, small)) in
      let a0 = a.0 in
      let a1 = a.1 in
      subst (λ z. InGammaZero gamma naming memory z bytes) (sym (zero_is_put row p f there)) (near_stands o q f.at (zero_offset (first_zero bytes)) (omega (arith, ints, a0)) (omega (arith, ints, a1)) h)

  -- anything is known of an array of which nothing is
  pub any_zero_stands : (bytes : List Byte) → length bytes ≤ 2 ^ 64 - 1 → InGammaZero gamma naming memory (any_zero l n) bytes
  any_zero_stands bytes small = any_stands o q naming memory (any_zero l n) bytes small (ap (λ x. record { at = x }) (some_between o q (pos 0) the_end (omega (arith, ints))))
