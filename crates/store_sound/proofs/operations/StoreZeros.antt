-- The first zeros behind a store of a class other than char.
use Rattle.std.proofs.Common.{◌≡◌, ℕ, zero, suc, ◌+◌, ◌-◌, ◌^◌, ◌<◌, ◌≤◌, Bool, true, false, cond, Option, Some, None, List, [], ◌∷◌, length, take, drop, arith, subst, sym, refl, ap, ◌∙◌, inl, inr, ◌⊎◌}
use Rattle.std.specs.Prelude.{slice_get, ℤ, pos, ◌≤ℤ◌, is_some, int_le, min, max, nat_le}
use Rattle.std.proofs.lemmas.Int.{ints}
use Rattle.std.proofs.lemmas.Bool.{cases_Bool, cases_lt, le-leb}
use Rattle.std.proofs.lemmas.Option.{same_Some}
use Rattle.cc_base.specs.Lattices.{LatticeOf, OrderLaws}
use Rattle.cc_base.specs.IntegerDomains.{IntegersOf, BoundLaws, between_or_least}
use Rattle.c_layout.specs.declared.shapes.ZeroPart.{ZeroPart}
use Rattle.value_domain.specs.declared.strings.first_zeros.FirstZero.{FirstZero}
use Rattle.value_domain.specs.Strings.FirstZeros.{the_end, zero_of}
use Rattle.value_domain.specs.declared.values.row_cells.Cell.{Cell}
use Rattle.value_domain.specs.declared.values.row_cells.Cell.TheVariants.{First}
use Rattle.store_cells.specs.declared.access_windows.Window.{Window}
use Rattle.store_cells.specs.AccessWindows.{last_offset}
use Rattle.store_cells.specs.NearValues.{near_number}
use Rattle.store_cells.specs.RowPositions.{cell_at, zero_in, zero_at, put_zero}
use Rattle.store_cells.specs.FirstZeroWrites.{zero_target, forget_target, any_zero}
use Rattle.memory_model.specs.Memory.Bytes.{Byte}
use Rattle.memory_model.specs.Memory.Instances.{Memory}
use Rattle.store_sound.specs.Concretization.FirstZeroBytes.{Seen, unknown, end, character, seen_as, one_more, zero_by, first_zero, zero_offset}
use Rattle.store_sound.specs.Concretization.ValueMeaning.{Naming, InGammaZero}
use Rattle.store_sound.proofs.operations.Slices.{get_drop}
use Rattle.store_sound.proofs.operations.Only.{cell_put, Turned}
use Rattle.store_sound.proofs.operations.Near.{near_number_from}
use Rattle.store_sound.proofs.operations.StoreValues.{same_zero}

-- ---- lists with the same items

pub same_slices : {X : Type 0} (xs ys : List X) → ((k : ℕ) → slice_get xs k ≡ slice_get ys k) → xs ≡ ys
same_slices [] [] h = refl
same_slices [] (y ∷ ys) h = let e = h 0 in cc
same_slices (x ∷ xs) [] h = let e = h 0 in cc
same_slices (x ∷ xs) (y ∷ ys) h = let e = same_Some x y (h 0) in let f = same_slices xs ys (λ k. h (suc k)) in λ i. e i ∷ f i

pub take_by : {X : Type 0} (n : ℕ) (xs : List X) (k : ℕ) → (k < n → slice_get (take n xs) k ≡ slice_get xs k) × (n ≤ k → slice_get (take n xs) k ≡ None)
take_by zero xs k = (λ h. absurd (omega arith), λ h. refl)
take_by (suc n) [] k = (λ h. refl, λ h. refl)
take_by (suc n) (x ∷ xs) zero = (λ h. refl, λ h. absurd (omega arith))
take_by (suc n) (x ∷ xs) (suc k) = let r = take_by n xs k in (λ h. r.0 (omega arith), λ h. r.1 (omega arith))

pub same_array : {X : Type 0} (offset size : ℕ) (xs ys : List X) → ((o : ℕ) → offset ≤ o → o < offset + size → slice_get xs o ≡ slice_get ys o) → take size (drop offset xs) ≡ take size (drop offset ys)
same_array offset size xs ys h = same_slices _ _ (λ k. elim (cases_lt k size) [
  | inl f ↦ (take_by size (drop offset xs) k).0 f ∙ (get_drop offset xs k (offset + k) refl ∙ (h (offset + k) (omega arith) (omega arith) ∙ (sym (get_drop offset ys k (offset + k) refl) ∙ sym ((take_by size (drop offset ys) k).0 f))))
  | inr f ↦ (take_by size (drop offset xs) k).1 f ∙ sym ((take_by size (drop offset ys) k).1 f)
])

-- ---- every first zero

one_more_small : (o : Option ℕ) (m : ℕ) → ((k : ℕ) → o ≡ Some k → k < m) → (k : ℕ) → one_more o ≡ Some k → k < suc m
one_more_small None m h k e = cc
one_more_small (Some j) m h k e = let f = h j refl in let g : suc j ≡ k = cc in omega arith

by_small : (s : Seen) (o : Option ℕ) (m : ℕ) → ((k : ℕ) → o ≡ Some k → k < m) → (k : ℕ) → zero_by s o ≡ Some k → k < suc m
by_small unknown o m h k e = cc
by_small end o m h k e = let g : 0 ≡ k = cc in omega arith
by_small character o m h k e = one_more_small o m h k e

pub zero_small : (bytes : List Byte) (k : ℕ) → first_zero bytes ≡ Some k → k < length bytes
zero_small [] k e = cc
zero_small (b ∷ bs) k e = by_small (seen_as b.content) (first_zero bs) (length bs) (zero_small bs) k e

pub offset_near : (o : Option ℕ) → ((k : ℕ) → o ≡ Some k → k < 2 ^ 64) → (pos 0 ≤ℤ zero_offset o) × (zero_offset o ≤ℤ the_end)
offset_near None h = (omega (arith, ints), omega (arith, ints))
offset_near (Some k) h = let g = h k refl in (omega (arith, ints), omega (arith, ints))

met_some : (part : ZeroPart) (w : Window) (offset : ℕ) → part.size ≡ None → part.offset ≡ 0 → w.lo ≤ offset → offset ≤ w.hi → offset ≤ last_offset → is_some (zero_target part w) ≡ true
met_some part w offset e f a b c =
    let g : nat_le (max w.lo 0) (min w.hi (2 ^ 64 - 1)) ≡ true = le-leb _ _ (omega arith) in
    rw (e, f, g) refl

module _ {I : Type 0} {l : LatticeOf I} {n : IntegersOf I} {gamma : I → ℤ → Type 0} (o : OrderLaws l) (q : BoundLaws l n gamma) where
  -- a number from a to b is stood for by all of them
  pub between_stands : (a b z : ℤ) → a ≤ℤ z → z ≤ℤ b → gamma (n.between a b) z
  between_stands a b z h k = q.larger (n.one z) (n.between a b) z (q.below_between (n.one z) z z a b (q.one_bounds z) h k) (q.one_stands z)

  pub some_between : (a b : ℤ) → a ≤ℤ b → between_or_least l n a b ≡ n.between a b
  some_between a b h = elim (cases_Bool (int_le a b)) [ inl e ↦ rw e refl | inr e ↦ absurd (grind (arith, ints)) ]

  all_zeros : any_zero l n ≡ zero_of (n.between (pos 0) the_end)
  all_zeros = ap zero_of (some_between (pos 0) the_end (omega (arith, ints)))

  put_any : (row : List (Cell I)) (p : ℕ) → p < length row → zero_at l n (put_zero row p (any_zero l n)) p ≡ zero_of (n.between (pos 0) the_end)
  unfolding zero_at
  put_any row p h =
      let e : zero_in l (cell_at (put_zero row p (any_zero l n)) p) ≡ zero_of (n.between (pos 0) the_end) = ap (zero_in l) (cell_put row p (First (any_zero l n)) h) ∙ all_zeros in
      ap (λ f. zero_of (near_number l n f.at)) e ∙ ap zero_of (near_number_from o q (n.between (pos 0) the_end) (pos 0) the_end (q.between_bounds (pos 0) the_end (omega (arith, ints))) (omega (arith, ints)) (omega (arith, ints)))

  -- the first zero of a heap base that the store reaches is any
  pub forgotten : (row after : List (Cell I)) (p : ℕ) (part : ZeroPart) (window : Window) (offset : ℕ) (wanted : Bool) → p < length row → part.size ≡ None → part.offset ≡ 0 → window.lo ≤ offset → offset ≤ window.hi → offset ≤ last_offset
      → Turned p (λ r. cond wanted (forget_target l n r p (zero_target part window)) r) row after → (wanted ≡ false × (zero_at l n after p ≡ zero_at l n row p)) ⊎ (zero_at l n after p ≡ zero_of (n.between (pos 0) the_end))
  unfolding forget_target
  forgotten row after p part window offset false h e f a b c t = inl (refl, same_zero l n row after p (t.turn ∙ t.same))
  forgotten row after p part window offset true h e f a b c t =
      let d : is_some (zero_target part window) ≡ true = met_some part window offset e f a b c in
      let g = t.long in
      let k : cell_at after p ≡ cell_at (put_zero t.before p (any_zero l n)) p = t.turn ∙ rw d refl in
      inr (same_zero l n (put_zero t.before p (any_zero l n)) after p k ∙ put_any t.before p (omega arith))

  pub any_stands : (naming : Naming) (memory : Memory) (f : FirstZero I) (bytes : List Byte) → length bytes ≤ last_offset → f ≡ zero_of (n.between (pos 0) the_end) → InGammaZero gamma naming memory f bytes
  any_stands naming memory f bytes h e =
      let r = offset_near (first_zero bytes) (λ k g. let w = zero_small bytes k g in omega arith) in
      subst (λ z. gamma z.at (zero_offset (first_zero bytes))) (sym e) (between_stands (pos 0) the_end (zero_offset (first_zero bytes)) r.0 r.1)
