-- What a store of a class other than char leaves as it was, and what becomes of a cell.
use Rattle.std.proofs.Common.{◌≡◌, ℕ, ◌+◌, ◌-◌, ◌<◌, ◌≤◌, Bool, false, Option, Some, None, List, length, arith, subst, sym, ap, ◌∙◌, inl, inr, ◌⊎◌}
use Rattle.std.specs.Prelude.{slice_get, ℤ}
use Rattle.std.proofs.lemmas.Bool.{cases_eq, cases_lt}
use Rattle.std.proofs.lemmas.Option.{same_Some}
use Rattle.cc_base.specs.Lattices.{LatticeOf}
use Rattle.cc_base.specs.IntegerDomains.{IntegersOf, BoundLaws}
use Rattle.c_layout.specs.declared.leaf_lists.Class.{Class}
use Rattle.cfg.specs.declared.programs.Flow.{Flow}
use Rattle.pointer_domain.specs.declared.pointer_sets.Pointers.{Pointers}
use Rattle.value_domain.specs.declared.values.values.Value.{Value}
use Rattle.store_cells.specs.ClassNumbers.{is_pointer}
use Rattle.memory_model.specs.Memory.ScalarSizes.{class_bytes}
use Rattle.memory_model.specs.Memory.Bytes.{MachinePointer, null, into, Content, indeterminate, number, part, Tag, Byte}
use Rattle.memory_model.specs.Memory.Instances.{Memory, Life, live, ended, freed, bytes_at, byte_at, life_at}
use Rattle.memory_model.specs.Memory.Numbers.{Labelled, number_of}
use Rattle.store_sound.specs.Concretization.Matching.{Fits, Matched, number_in, Holds}
use Rattle.memory_model.specs.Memory.Tags.{tag_of}
use Rattle.memory_model.specs.Memory.Scalars.{Scalar, integer, pointer}
use Rattle.store_sound.specs.Concretization.ValueMeaning.{Naming, InGammaInto, InGammaByLife, InGammaPointer, InGammaScalar, InGammaContent}
use Rattle.store_sound.specs.Concretization.SoundMemory.{IsWithin, IsPointerIn, IsScalarIn}
use Rattle.store_sound.specs.Concretization.RowMeaning.{IsLiveOf, InGammaCell}
use Rattle.store_sound.proofs.operations.Larger.{ValueBelow, content_larger}
use Rattle.store_sound.proofs.operations.Slices.{get_there}
use Rattle.store_sound.proofs.operations.Classes.{class_above}
use Rattle.store_sound.proofs.operations.MachineStores.{IsStore}

-- memory whose instances live as before and are as long
pub record IsAlike (old new : Memory) : Type 0 where
  pub lives : (j : ℕ) → life_at new j ≡ life_at old j
  pub lengths : (j : ℕ) → length (bytes_at new j) ≡ length (bytes_at old j)
  pub made : length new ≡ length old

pub alike : {old new : Memory} {i offset size : ℕ} {class : Class} {cs : List Content} → IsStore old new i offset class size cs → IsAlike old new
alike s = record { lives = s.lives; lengths = s.lengths; made = s.made }

module _ {old new : Memory} (a : IsAlike old new) where
  pub within_moves : (i offset lo hi : ℕ) → IsWithin old i offset lo hi → IsWithin new i offset lo hi
  within_moves i offset lo hi w =
      let e = a.lengths i in
      let f = a.made in
      let h = w.made in
      let k = w.within in
      record { made = omega arith; above = w.above; below = w.below; within = omega arith }

  pub pointer_in_moves : (p : MachinePointer) → IsPointerIn old p → IsPointerIn new p
  pointer_in_moves null w = w
  pointer_in_moves (into i offset lo hi) w = within_moves i offset lo hi w

  pub scalar_in_moves : (v : Scalar) → IsScalarIn old v → IsScalarIn new v
  scalar_in_moves (integer n labels) w = w
  scalar_in_moves (pointer p) w = pointer_in_moves p w

  pub live_moves : (naming : Naming) (b i : ℕ) → IsLiveOf naming new b i → IsLiveOf naming old b i
  live_moves naming b i h = record { named = h.named; alive = sym (a.lives i) ∙ h.alive }

  module _ {I : Type 0} (gamma : I → ℤ → Type 0) (naming : Naming) where
    into_moves : (v : Pointers I) (i offset lo hi : ℕ) → InGammaInto gamma naming old v i offset lo hi → InGammaInto gamma naming new v i offset lo hi
    into_moves v i offset lo hi s = record {
      base = s.base;
      named = s.named;
      among = s.among;
      lower = s.lower;
      relative = s.relative;
      room = s.room;
      whole = λ e. let r = s.whole e in (r.0, r.1 ∙ sym (a.lengths i));
    }

    life_moves : (v : Pointers I) (life : Life) (i offset lo hi : ℕ) → InGammaByLife gamma naming old v life i offset lo hi → InGammaByLife gamma naming new v life i offset lo hi
    life_moves v live i offset lo hi s = into_moves v i offset lo hi s
    life_moves v ended i offset lo hi s = s
    life_moves v freed i offset lo hi s = into_moves v i offset lo hi s

    pub pointer_moves : (v : Pointers I) (p : MachinePointer) → InGammaPointer gamma naming old v p → InGammaPointer gamma naming new v p
    pointer_moves v null s = s
    pointer_moves v (into i offset lo hi) s = subst (λ z. InGammaByLife gamma naming new v z i offset lo hi) (sym (a.lives i)) (life_moves v (life_at old i) i offset lo hi s)

    pub scalar_moves : (v : Value I) (x : Scalar) → InGammaScalar gamma naming old v x → InGammaScalar gamma naming new v x
    scalar_moves v (integer n labels) s = s
    scalar_moves v (pointer p) s = pointer_moves v.pointer p s

    pub content_moves : (v : Value I) (class : Class) (c : Content) → InGammaContent gamma naming old v class c → InGammaContent gamma naming new v class c
    content_moves v class indeterminate s = s
    content_moves v class (number n labels) s = s
    content_moves v class (part p k) s = pointer_moves v.pointer p s

-- ---- what is seen of the bytes

tag_is : (d class : Class) (k e : ℕ) (tag : Option Tag) → Fits d k tag → tag ≡ tag_of class e → (d ≡ class) × (e ≡ k)
tag_is d class k e None f h = cc
tag_is d class k e (Some t) f h = (sym f.0 ∙ cc, cc)

-- what was stored is seen as what it is alone
pub record IsStored (offset size : ℕ) (class : Class) (cs : List Content) (o k : ℕ) (d : Class) (c : Content) : Type 0 where
  pub own : d ≡ class
  pub there : o ≡ offset + k
  pub small : k < size
  pub content : slice_get cs k ≡ Some c

module _ {old new : Memory} {i offset size : ℕ} {class : Class} {cs : List Content} (s : IsStore old new i offset class size cs) where
  pub matched_out : (j o k : ℕ) (d : Class) (c : Content) → Matched new j o d k c → (j ≡ i → offset ≤ o → o < offset + size → ⊥) → Matched old j o d k c
  matched_out j o k d c m n = record { tag = m.tag; here = sym (s.outside j o n) ∙ m.here; fits = m.fits }

  pub matched_in : (o k : ℕ) (d : Class) (c : Content) → Matched new i o d k c → offset ≤ o → o < offset + size → IsStored offset size class cs o k d c
  matched_in o k d c m h n =
      let e : ℕ = o - offset in
      let l = s.long in
      let x = get_there cs e (omega arith) in
      let f : o ≡ offset + e = omega arith in
      let g : byte_at new i o ≡ Some (record { content = x.0; tag = tag_of class e }) = subst (λ z. byte_at new i z ≡ Some (record { content = x.0; tag = tag_of class e })) (sym f) (s.inside e x.0 x.1) in
      let y : Byte = record { content = c; tag = m.tag } in
      let z : Byte = record { content = x.0; tag = tag_of class e } in
      let w : y ≡ z = same_Some y z (sym m.here ∙ g) in
      let a : m.tag ≡ tag_of class e = ap (λ r. r.tag) w in
      let b : c ≡ x.0 = ap (λ r. r.content) w in
      let t = tag_is d class k e m.tag m.fits a in
      let q = t.1 in
      record { own = t.0; there = omega arith; small = omega arith; content = subst (λ z. slice_get cs z ≡ Some c) q (x.1 ∙ ap Some (sym b)) }

-- ---- a cell

pub in_or_out : (j i o offset size : ℕ) → ((j ≡ i) × (offset ≤ o) × (o < offset + size)) ⊎ (j ≡ i → offset ≤ o → o < offset + size → ⊥)
in_or_out j i o offset size = elim (cases_eq j i) [
  | inr n ↦ inr (λ e a b. n e)
  | inl e ↦ elim (cases_lt o offset) [
    | inl f ↦ inr (λ e a b. omega arith)
    | inr f ↦ elim (cases_lt o (offset + size)) [ inl g ↦ inl (e, f, g) | inr g ↦ inr (λ e a b. omega arith) ]
  ]
]

module _ {I : Type 0} {l : LatticeOf I} {n : IntegersOf I} {gamma : I → ℤ → Type 0} (q : BoundLaws l n gamma) (flow : Flow) (naming : Naming) {old new : Memory} {i offset : ℕ} {class : Class} {cs : List Content} (s : IsStore old new i offset class (class_bytes flow.model class) cs) where
  module _ (b : ℕ) (d : Class) (signed : Bool) (Place Owns : ℕ → ℕ → Type 0) (v x : Value I) (cell : InGammaCell gamma flow naming old b d signed Place Owns v)
      (keeps_place : (j o : ℕ) → IsLiveOf naming old b j → Place (length (bytes_at old j)) o → (j ≡ i → o ≡ offset → d ≡ class → ⊥) → ValueBelow l v x)
      (keeps_byte : (j o k : ℕ) → IsLiveOf naming old b j → Owns o k → (j ≡ i → offset ≤ o → o < offset + class_bytes flow.model class → ⊥) → ValueBelow l v x)
      (fresh_place : IsLiveOf naming old b i → d ≡ class → Place (length (bytes_at old i)) offset → is_pointer d ≡ false → (ns : List Labelled) → Holds flow.model new i offset class ns → gamma x.num (number_of signed ns))
      (fresh_byte : IsLiveOf naming old b i → d ≡ class → (k : ℕ) (c : Content) → Owns (offset + k) k → slice_get cs k ≡ Some c → InGammaContent gamma naming new x d c) where
    -- a place whose bytes are none of the stored ones
    old_place : (j o : ℕ) (ns : List Labelled) → IsLiveOf naming new b j → Place (length (bytes_at new j)) o → is_pointer d ≡ false → Holds flow.model new j o d ns → (j ≡ i → o ≡ offset → ⊥) → gamma x.num (number_of signed ns)
    old_place j o ns alive place p h ne =
        let u = live_moves (alike s) naming b j alive in
        let z = subst (λ y. Place y o) (s.lengths j) place in
        let g : Holds flow.model old j o d ns = record {
          size = h.size;
          each = λ k y small e. let m = h.each k y small e in elim (in_or_out j i (o + k) offset (class_bytes flow.model class)) [
            | inr out ↦ matched_out s j (o + k) k d (number_in y) m out
            | inl r ↦ (let t = matched_in s (o + k) k d (number_in y) (subst (λ a. Matched new a (o + k) d k (number_in y)) r.0 m) r.1 r.2 in let w = t.there in absurd (ne r.0 (omega arith)))
          ];
        } in
        q.larger v.num x.num (number_of signed ns) (keeps_place j o u z (λ e f w. ne e f)).num (cell.whole j o ns u z p g)

    -- the stored place
    new_place : (ns : List Labelled) → IsLiveOf naming new b i → Place (length (bytes_at new i)) offset → is_pointer d ≡ false → Holds flow.model new i offset d ns → gamma x.num (number_of signed ns)
    new_place ns alive place p h =
        let a = class_above flow.model d in
        let f = class_above flow.model class in
        let g = h.size in
        let y = get_there ns 0 (omega arith) in
        let t = matched_in s (offset + 0) 0 d (number_in y.0) (h.each 0 y.0 (omega arith) y.1) (omega arith) (omega arith) in
        fresh_place (live_moves (alike s) naming b i alive) t.own (subst (λ z. Place z offset) (s.lengths i) place) p ns (subst (λ z. Holds flow.model new i offset z ns) t.own h)

    whole_place : (j o : ℕ) (ns : List Labelled) → IsLiveOf naming new b j → Place (length (bytes_at new j)) o → is_pointer d ≡ false → Holds flow.model new j o d ns → gamma x.num (number_of signed ns)
    whole_place j o ns alive place p h = elim (cases_eq j i) [
      | inr n ↦ old_place j o ns alive place p h (λ e f. n e)
      | inl e ↦ elim (cases_eq o offset) [
        | inr n ↦ old_place j o ns alive place p h (λ e f. n f)
        | inl f ↦ new_place ns (subst (IsLiveOf naming new b) e alive) (subst (λ z. Place (length (bytes_at new i)) z) f (subst (λ z. Place (length (bytes_at new z)) o) e place)) p
            (subst (λ z. Holds flow.model new i z d ns) f (subst (λ z. Holds flow.model new z o d ns) e h))
      ]
    ]

    each_byte : (j o k : ℕ) (c : Content) → IsLiveOf naming new b j → Owns o k → Matched new j o d k c → InGammaContent gamma naming new x d c
    each_byte j o k c alive owns m =
        let u = live_moves (alike s) naming b j alive in
        elim (in_or_out j i o offset (class_bytes flow.model class)) [
          | inr out ↦ content_moves (alike s) gamma naming x d c (content_larger q naming old v x d c (keeps_byte j o k u owns out) (cell.byte j o k c u owns (matched_out s j o k d c m out)))
          | inl r ↦ (let t = matched_in s o k d c (subst (λ a. Matched new a o d k c) r.0 m) r.1 r.2 in
              fresh_byte (subst (IsLiveOf naming old b) r.0 u) t.own k c (subst (λ z. Owns z k) t.there owns) t.content)
        ]

    pub cell_stored : InGammaCell gamma flow naming new b d signed Place Owns x
    cell_stored = record { whole = whole_place; byte = each_byte }
