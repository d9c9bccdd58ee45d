-- A window that lies in an array of characters up to its first zero has determinate bytes alone.
use Rattle.std.proofs.Common.{◌≡◌, ℕ, zero, suc, ◌+◌, ◌-◌, ◌≤◌, Bool, true, false, cond, not, ◌||◌, Option, Some, None, List, [], ◌∷◌, drop, arith, subst, sym, refl, ap, ◌∙◌, inl, inr, ◌⊎◌}
use Rattle.std.specs.Prelude.{slice_get, ℤ, pos, ◌≤ℤ◌, int_le, nat_le, max, min}
use Rattle.std.specs.Ordering.{int_eq}
use Rattle.std.proofs.lemmas.Int.{ints}
use Rattle.std.proofs.lemmas.Bool.{cases_Bool, and_parts, leb-true}
use Rattle.std.proofs.lemmas.Option.{same_Some}
use Rattle.cc_base.specs.Lattices.{LatticeOf}
use Rattle.cc_base.specs.IntegerDomains.{IntegersOf, BoundLaws, IsNear}
use Rattle.cc_base.specs.NumberRanges.{Range}
use Rattle.c_layout.specs.declared.data_model.Model.{Model}
use Rattle.c_layout.specs.declared.leaf_lists.Class.{Class}
use Rattle.c_layout.specs.declared.shapes.BaseInfo.{BaseInfo}
use Rattle.c_layout.specs.declared.shapes.ZeroPart.{ZeroPart}
use Rattle.cfg.specs.declared.programs.Flow.{Flow}
use Rattle.value_domain.specs.Strings.FirstZeros.{the_end}
use Rattle.value_domain.specs.declared.values.row_cells.Cell.{Cell}
use Rattle.value_domain.specs.declared.values.values.Value.{Value}
use Rattle.store_cells.specs.declared.access_windows.Window.{Window}
use Rattle.store_cells.specs.Walks.{walk}
use Rattle.store_cells.specs.ClassNumbers.{is_pointer}
use Rattle.store_cells.specs.CellReads.{as_read, same_sign, byte_read, only_flag}
use Rattle.store_cells.specs.NearValues.{is_near, near_part, part_near, near_number}
use Rattle.store_cells.specs.RowPositions.{cell_at, zero_in, zero_at, zero_position}
use Rattle.store_cells.specs.AccessWindows.{window_from, window_lies_within}
use Rattle.store_cells.specs.FirstZeroWrites.{last_of, has_no_bytes, covered, first_covered, covering_part, lies_up_to}
use Rattle.store.specs.Loads.{is_text, is_text_in}
use Rattle.memory_model.specs.Memory.Bytes.{Content, indeterminate, number, part, Byte}
use Rattle.memory_model.specs.Memory.Instances.{byte_at, bytes_at}
use Rattle.store_sound.specs.Concretization.FirstZeroBytes.{one_more, first_zero, zero_offset}
use Rattle.store_sound.specs.Concretization.ValueMeaning.{Naming}
use Rattle.store_sound.specs.Concretization.RowMeaning.{MachineState, IsLiveOf, InGamma, array_of, array_bytes}
use Rattle.store_sound.proofs.operations.Slices.{get_drop}
use Rattle.store_sound.proofs.operations.MachineStores.{take_at}

-- ---- flags

module _ {I : Type 0} (l : LatticeOf I) (n : IntegersOf I) (m : Model) where
  flag_only : (b : Bool) → b ≡ true → (only_flag l b).indeterminate ≡ true
  flag_only true h = refl
  flag_only false h = cc

  by_case : (c : Bool) (x y : Value I) → x.indeterminate ≡ true → y.indeterminate ≡ true → (cond c x y).indeterminate ≡ true
  by_case true x y h k = h
  by_case false x y h k = k

  pub byte_flag : (v : Value I) (class : Class) (signed : Bool) → v.indeterminate ≡ true → (byte_read l n m v class signed).indeterminate ≡ true
  byte_flag v class signed h = by_case (not (is_pointer class) || v.pointer.null) _ (only_flag l v.indeterminate) h (flag_only v.indeterminate h)

pub read_flag : {I : Type 0} (n : IntegersOf I) (m : Model) (v : Value I) (class : Class) (from to : Bool) → v.indeterminate ≡ true → (as_read n m v class from to).indeterminate ≡ true
read_flag n m v class from to h = elim (cases_Bool (is_pointer class || same_sign from to)) [ inl e ↦ rw e h | inr e ↦ rw e h ]

-- ---- the bytes up to the first zero

pub more_is : (o : Option ℕ) (k : ℕ) → one_more o ≡ Some k → (j : ℕ) × (o ≡ Some j) × (k ≡ suc j)
more_is None k h = cc
more_is (Some j) k h = (j, refl, cc)

-- each byte up to the first zero is determinate
abbrev IsDeterminate : List Byte → Type 0
IsDeterminate bs = (k j : ℕ) (b : Byte) → first_zero bs ≡ Some k → j ≤ k → slice_get bs j ≡ Some b → b.content ≡ indeterminate → ⊥

step : (x : Byte) (xs : List Byte) (c : Content) → x.content ≡ c → IsDeterminate xs → IsDeterminate (x ∷ xs)
step x xs indeterminate d back k j b e h f g = let w : None ≡ Some k = rw d at e in cc
step x xs (number zero labels) d back k zero b e h f g = let y : x ≡ b = cc in let z : number zero labels ≡ indeterminate = sym d ∙ (ap (λ a. a.content) y ∙ g) in cc
step x xs (number zero labels) d back k (suc j) b e h f g = let w : Some 0 ≡ Some k = rw d at e in let v : 0 ≡ k = same_Some 0 k w in absurd (omega arith)
step x xs (number (suc n) labels) d back k zero b e h f g = let y : x ≡ b = cc in let z : number (suc n) labels ≡ indeterminate = sym d ∙ (ap (λ a. a.content) y ∙ g) in cc
step x xs (number (suc n) labels) d back k (suc j) b e h f g = let w : one_more (first_zero xs) ≡ Some k = rw d at e in let r = more_is (first_zero xs) k w in let v = r.2 in back r.0 j b r.1 (omega arith) f g
step x xs (part p i) d back k zero b e h f g = let y : x ≡ b = cc in let z : part p i ≡ indeterminate = sym d ∙ (ap (λ a. a.content) y ∙ g) in cc
step x xs (part p i) d back k (suc j) b e h f g = let w : one_more (first_zero xs) ≡ Some k = rw d at e in let r = more_is (first_zero xs) k w in let v = r.2 in back r.0 j b r.1 (omega arith) f g

up_to_zero : (bs : List Byte) → IsDeterminate bs
up_to_zero [] k j b e h f g = cc
up_to_zero (x ∷ xs) k j b e h f g = step x xs x.content refl (up_to_zero xs) k j b e h f g

-- ---- the part that has all of the window

pub record HasWhole (part : ZeroPart) (w local : Window) : Type 0 where
  pub bytes : has_no_bytes part.size ≡ false
  pub from : part.offset ≤ w.lo
  pub to : w.hi ≤ last_of part.offset part.size
  pub end : local.hi ≡ w.hi - part.offset
  pub start : local.lo ≡ w.lo - part.offset

whole_is : (at : ℕ) (p : ZeroPart) (w : Window) (r : ℕ × Window) → covered at p w ≡ Some r → (r.0 ≡ at) × HasWhole p w r.1
whole_is at p w r h = elim (cases_Bool (has_no_bytes p.size)) [
  | inl e ↦ (let g : None ≡ Some r = rw e at h in cc)
  | inr e ↦ elim (cases_Bool (nat_le (max w.lo p.offset) (min w.hi (last_of p.offset p.size)))) [
    | inr f ↦ (let g : None ≡ Some r = rw (e, f) at h in cc)
    | inl f ↦ elim (cases_Bool (window_lies_within w p.offset (last_of p.offset p.size))) [
      | inr k ↦ (let g : None ≡ Some r = rw (e, f, k) at h in cc)
      | inl k ↦ (let met : Window = record { lo = max w.lo p.offset; hi = min w.hi (last_of p.offset p.size) } in
          let g : Some (at, window_from met p.offset) ≡ Some r = rw (e, f, k) at h in
          let d = same_Some (at, window_from met p.offset) r g in
          let t = and_parts (nat_le p.offset w.lo) (nat_le w.hi (last_of p.offset p.size)) k in
          let lo = leb-true _ _ t.0 in
          let hi = leb-true _ _ t.1 in
          let a : at ≡ r.0 = ap (λ z. z.0) d in
          let b : (min w.hi (last_of p.offset p.size)) - p.offset ≡ r.1.hi = ap (λ z. z.1.hi) d in
          let c : (max w.lo p.offset) - p.offset ≡ r.1.lo = ap (λ z. z.1.lo) d in
          (sym a, record { bytes = e; from = lo; to = hi; end = omega arith; start = omega arith }))
    ]
  ]
]

walk_found : (w : Window) (at : ℕ) (ps : List ZeroPart) (s : Option (ℕ × Window)) (r : ℕ × Window) → walk (first_covered w) at ps s ≡ Some r → (s ≡ Some r) ⊎ ((j : ℕ) × (p : ZeroPart) × (slice_get ps j ≡ Some p) × (covered (at + j) p w ≡ Some r))
walk_found w at [] s r h = inl h
walk_found w at (p ∷ ps) (Some q) r h = elim (walk_found w (at + 1) ps (Some q) r h) [
  | inl e ↦ inl e
  | inr e ↦ inr (suc e.0, e.1, e.2, let d : (at + 1) + e.0 ≡ at + suc e.0 = omega arith in subst (λ z. covered z e.1 w ≡ Some r) d e.3)
]
walk_found w at (p ∷ ps) None r h = elim (walk_found w (at + 1) ps (covered at p w) r h) [
  | inl e ↦ inr (0, p, refl, let d : at ≡ at + 0 = omega arith in subst (λ z. covered z p w ≡ Some r) d e)
  | inr e ↦ inr (suc e.0, e.1, e.2, let d : (at + 1) + e.0 ≡ at + suc e.0 = omega arith in subst (λ z. covered z e.1 w ≡ Some r) d e.3)
]

pub found_part : (base : BaseInfo) (w : Window) (r : ℕ × Window) → covering_part base w ≡ Some r → (p : ZeroPart) × (slice_get base.shape.zeros r.0 ≡ Some p) × HasWhole p w r.1
found_part base w r h = elim (walk_found w 0 base.shape.zeros None r h) [
  | inl e ↦ (let g : None ≡ Some r = e in cc)
  | inr e ↦ (let k = whole_is (0 + e.0) e.1 w r e.3 in
      let a = k.0 in
      let d : e.0 ≡ r.0 = omega arith in
      (e.1, subst (λ z. slice_get base.shape.zeros z ≡ Some e.1) d e.2, k.1))
]

-- a byte of the instance in the array
in_size : (size : Option ℕ) (offset hi o : ℕ) (bytes : List Byte) (b : Byte) → has_no_bytes size ≡ false → hi ≤ last_of offset size → o ≤ hi → offset ≤ o → slice_get bytes o ≡ Some b → slice_get (array_of size (drop offset bytes)) (o - offset) ≡ Some b
in_size None offset hi o bytes b e h k m f = get_drop offset bytes (o - offset) o (omega arith) ∙ f
in_size (Some zero) offset hi o bytes b e h k m f = cc
in_size (Some (suc size)) offset hi o bytes b e h k m f = take_at (suc size) (drop offset bytes) (o - offset) (omega arith) ∙ (get_drop offset bytes (o - offset) o (omega arith) ∙ f)

pub offset_is : (o : Option ℕ) → (zero_offset o ≡ the_end → ⊥) → (k : ℕ) × (o ≡ Some k)
offset_is None h = absurd (h refl)
offset_is (Some k) h = (k, refl)

up_to : (p : ℤ × ℤ) (at : ℕ) → lies_up_to (Some p) at ≡ true → (pos at ≤ℤ p.0) × (p.1 ≡ the_end → ⊥)
up_to p at h = let r = and_parts (int_le (pos at) p.0) (not (int_eq p.1 the_end)) h in (grind (arith, ints), λ (e : p.1 ≡ the_end). grind (arith, ints))

module _ {I : Type 0} {l : LatticeOf I} {n : IntegersOf I} {gamma : I → ℤ → Type 0} (q : BoundLaws l n gamma) where
  near_bounds : (x : I) → IsNear (n.bounds (near_number l n x))
  near_bounds x = elim (cases_Bool (is_near (n.bounds x))) [
    | inl e ↦ near_if (n.bounds x) e (λ (f : near_number l n x ≡ x) (g : IsNear (n.bounds x)). subst (λ z. IsNear (n.bounds z)) (sym f) g) (rw e refl)
    | inr e ↦ (let f : near_number l n x ≡ near_part l n x = rw e refl in subst (λ z. IsNear (n.bounds z)) (sym f) (part_near q x))
  ]
    where
      near_if : (r : Range) → is_near r ≡ true → ((f : near_number l n x ≡ x) → IsNear r → IsNear (n.bounds (near_number l n x))) → near_number l n x ≡ x → IsNear (n.bounds (near_number l n x))
      near_if None e k f = cc
      near_if (Some p) e k f = k f (grind (arith, ints), grind (arith, ints))

  pub zero_near : (row : List (Cell I)) (p : ℕ) → IsNear (n.bounds (zero_at l n row p).at)
  unfolding zero_at
  zero_near row p = near_bounds (zero_in l (cell_at row p)).at

  -- a first zero that lies behind the window's bytes
  zero_behind : (x : I) (z : ℤ) (hi : ℕ) (r : Range) → n.bounds x ≡ r → IsNear r → gamma x z → lies_up_to r hi ≡ true → (pos hi ≤ℤ z) × (z ≡ the_end → ⊥)
  zero_behind x z hi None e h s k = let t = q.inside x z s in let f : ◌≡◌ {A = Range} None (Some (t.0, t.1)) = sym e ∙ t.2 in cc
  zero_behind x z hi (Some p) e h s k =
      let t = q.inside x z s in
      let f : Some p ≡ Some (t.0, t.1) = sym e ∙ t.2 in
      let g = same_Some p (t.0, t.1) f in
      let a : p.0 ≡ t.0 = ap (λ y. y.0) g in
      let b : p.1 ≡ t.1 = ap (λ y. y.1) g in
      let u = up_to p hi k in
      let c = t.3 in
      let d = t.4 in
      let v = u.0 in
      let w = h.1 in
      (omega (arith, ints), λ (y : z ≡ the_end). u.1 (omega (arith, ints)))

  module _ (flow : Flow) (naming : Naming) (row : List (Cell I)) (state : MachineState) (s : InGamma l n gamma flow naming row state) (i offset b : ℕ) (base : BaseInfo) (at : slice_get flow.bases.items b ≡ Some base) (alive : IsLiveOf naming state.memory b i) (w : Window) (from : w.lo ≤ offset) (to : offset ≤ w.hi) (byte : Byte) (here : byte_at state.memory i offset ≡ Some byte) (blank : byte.content ≡ indeterminate) where
    none_found : (r : Option (ℕ × Window)) → covering_part base w ≡ r → is_text_in l n base row r ≡ true → ⊥
    unfolding byte_at
    none_found None e h = cc
    none_found (Some r) e h =
        let f = found_part base w r e in
        let k = f.2 in
        let low = k.from in
        let z = s.zeros b r.0 i base f.0 at f.1 alive in
        let v = zero_behind (zero_at l n row (zero_position base r.0)).at (zero_offset (first_zero (array_bytes f.0 (bytes_at state.memory i)))) r.1.hi (n.bounds (zero_at l n row (zero_position base r.0)).at) refl (zero_near row (zero_position base r.0)) z h in
        let o = offset_is (first_zero (array_bytes f.0 (bytes_at state.memory i))) v.1 in
        let y : pos r.1.hi ≤ℤ pos o.0 = subst (λ a. pos r.1.hi ≤ℤ zero_offset a) o.1 v.0 in
        let d = k.end in
        let g = in_size f.0.size f.0.offset w.hi offset (bytes_at state.memory i) byte k.bytes k.to to (omega arith) here in
        up_to_zero (array_bytes f.0 (bytes_at state.memory i)) o.0 (offset - f.0.offset) byte o.1 (omega (arith, ints)) g blank

    pub no_text : is_text l n base row w ≡ true → ⊥
    unfolding is_text
    no_text h = none_found (covering_part base w) refl h
