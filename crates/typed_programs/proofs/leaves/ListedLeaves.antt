-- Lists of leaves that are those of the scalars that bytes say, from an offset on.
use Rattle.std.proofs.Common.{◌≡◌, ℕ, zero, suc, ◌+◌, ◌-◌, ◌<◌, Bool, true, false, cond, nat_lt, List, [], ◌∷◌, ◌++◌, ◌⊎◌, inl, inr, Option, Some, None, slice_get, arith, ap, sym, subst, refl, ◌∙◌}
use Rattle.std.specs.Option.{option_or}
use Rattle.std.proofs.lemmas.Bool.{lt-ltb}
use Rattle.std.proofs.lemmas.Option.{same_Some, none-some}
use Rattle.c_layout.specs.declared.data_model.Model.{Model}
use Rattle.c_layout.specs.declared.leaf_lists.Leaf.{Leaf}
use Rattle.c_layout.specs.Leaves.{repeated}
use Rattle.c_layout.specs.Types.{Ty}
use Rattle.memory_model.specs.Memory.ScalarSizes.{class_bytes}
use Rattle.typed_programs.specs.Types.TypeBytes.{behind, repeated_bytes, ScalarByte}
use Rattle.typed_programs.specs.Types.LeafTypes.{IsLeafOf, HasLeaf}
use Rattle.typed_programs.proofs.layouts.RepeatedBytes.{Ends, behind_on}
use Rattle.typed_programs.proofs.leaves.ByteEnds.{or_is, behind_is, own_byte}

-- ---- lists behind one another

has_left : (xs ys : List Leaf) (t : Ty) (at : ℕ) → HasLeaf xs t at → HasLeaf (xs ++ ys) t at
has_left xs ys t at h = record { number = h.number; leaf = h.leaf; among = left xs h.number h.leaf h.among; is = h.is; there = h.there }
  where
    left : (zs : List Leaf) (number : ℕ) (l : Leaf) → slice_get zs number ≡ Some l → slice_get (zs ++ ys) number ≡ Some l
    left [] number l e = absurd (none-some l e)
    left (z ∷ zs) zero l e = e
    left (z ∷ zs) (suc number) l e = left zs number l e

has_right : (xs ys : List Leaf) (t : Ty) (at : ℕ) → HasLeaf ys t at → HasLeaf (xs ++ ys) t at
has_right [] ys t at h = h
has_right (x ∷ xs) ys t at h = let k = has_right xs ys t at h in record { number = suc k.number; leaf = k.leaf; among = k.among; is = k.is; there = k.there }

one_of : (xs ys : List Leaf) (number : ℕ) (l : Leaf) → slice_get (xs ++ ys) number ≡ Some l → ((k : ℕ) × (slice_get xs k ≡ Some l)) ⊎ ((k : ℕ) × (slice_get ys k ≡ Some l))
one_of [] ys number l e = inr (number, e)
one_of (x ∷ xs) ys zero l e = inl (0, e)
one_of (x ∷ xs) ys (suc number) l e = elim (one_of xs ys number l e) [
  | inl p ↦ inl (suc (p.0), p.1)
  | inr p ↦ inr p
]

has_at : (xs : List Leaf) (t : Ty) (a b : ℕ) → a ≡ b → HasLeaf xs t a → HasLeaf xs t b
has_at xs t a b e h = record { number = h.number; leaf = h.leaf; among = h.among; is = h.is; there = h.there ∙ e }

-- ---- leaves of scalars

-- a leaf of the list stands where the scalar of a byte begins
pub record IsListed (xs : List Leaf) (at x : ℕ) (s : ScalarByte) : Type 0 where
  pub place : ℕ
  pub there : place + s.at ≡ x
  pub has : HasLeaf xs s.ctype (at + place)

module _ (m : Model) where
  -- the bytes of a leaf are those of one scalar
  pub record IsScalar (at : ℕ) (f : ℕ → Option ScalarByte) (leaf : Leaf) : Type 0 where
    pub scalar : Ty
    pub place : ℕ
    pub is : IsLeafOf scalar leaf
    pub there : leaf.offset ≡ at + place
    pub bytes : (k : ℕ) → k < class_bytes m leaf.class → f (place + k) ≡ Some (record { ctype = scalar; at = k })

  pub record AreLeaves (at : ℕ) (f : ℕ → Option ScalarByte) (xs : List Leaf) : Type 0 where
    pub scalars : (x : ℕ) (s : ScalarByte) → f x ≡ Some s → IsListed xs at x s
    pub leaves : (number : ℕ) (leaf : Leaf) → slice_get xs number ≡ Some leaf → IsScalar at f leaf

  pub no_leaves : (at : ℕ) (f : ℕ → Option ScalarByte) → ((x : ℕ) → f x ≡ None) → AreLeaves at f []
  no_leaves at f none = record {
    scalars = λ x s e. absurd (none-some s (sym (none x) ∙ e));
    leaves = λ number leaf e. absurd (none-some leaf e);
  }

  -- a scalar of so many bytes
  pub one_leaf : (at : ℕ) (t : Ty) (size : ℕ) (leaf : Leaf) → IsLeafOf t leaf → leaf.offset ≡ at → class_bytes m leaf.class ≡ size → AreLeaves at (λ x. cond (nat_lt x size) (Some (own_byte t x)) None) (leaf ∷ [])
  one_leaf at t size leaf is there bytes = record { scalars = listed; leaves = scalar }
    where
      listed : (x : ℕ) (s : ScalarByte) → cond (nat_lt x size) (Some (own_byte t x)) None ≡ Some s → IsListed (leaf ∷ []) at x s
      listed x s = by_test (nat_lt x size)
        where
          here : IsListed (leaf ∷ []) at x (own_byte t x)
          here = record { place = 0; there = omega arith; has = record { number = 0; leaf = leaf; among = refl; is = is; there = omega (arith, there) } }

          by_test : (c : Bool) → cond c (Some (own_byte t x)) None ≡ Some s → IsListed (leaf ∷ []) at x s
          by_test true e = subst (IsListed (leaf ∷ []) at x) (same_Some (own_byte t x) s e) here
          by_test false e = absurd (none-some s e)

      byte_there : (k : ℕ) → k < class_bytes m leaf.class → cond (nat_lt (0 + k) size) (Some (own_byte t (0 + k))) None ≡ Some (own_byte t k)
      byte_there k less =
          let e : 0 + k ≡ k = omega arith in
          ap (λ x. cond (nat_lt x size) (Some (own_byte t x)) None) e ∙ ap (λ c. cond c (Some (own_byte t k)) None) (lt-ltb k size (omega (arith, less, bytes)))

      first : IsScalar at (λ x. cond (nat_lt x size) (Some (own_byte t x)) None) leaf
      first = record { scalar = t; place = 0; is = is; there = omega (arith, there); bytes = byte_there }

      scalar : (number : ℕ) (l : Leaf) → slice_get (leaf ∷ []) number ≡ Some l → IsScalar at (λ x. cond (nat_lt x size) (Some (own_byte t x)) None) l
      scalar zero l e = subst (IsScalar at (λ x. cond (nat_lt x size) (Some (own_byte t x)) None)) (same_Some leaf l e) first
      scalar (suc number) l e = absurd (none-some l e)

  pub leaves_as : (at : ℕ) (f : ℕ → Option ScalarByte) (xs ys : List Leaf) → xs ≡ ys → AreLeaves at f xs → AreLeaves at f ys
  leaves_as at f xs ys e h = subst (AreLeaves at f) e h

  pub leaves_behind : (at o : ℕ) (f : ℕ → Option ScalarByte) (xs : List Leaf) → AreLeaves (at + o) f xs → AreLeaves at (behind o f) xs
  leaves_behind at o f xs h = record {
    scalars = λ x s e.
        let p = behind_is o f x s e in
        let r = h.scalars (x - o) s p.1 in
        let less = p.0 in
        let there = r.there in
        record { place = o + r.place; there = omega (arith, less, there); has = has_at xs s.ctype ((at + o) + r.place) (at + (o + r.place)) (omega arith) r.has };
    leaves = λ number leaf e.
        let r = h.leaves number leaf e in
        let there = r.there in
        record {
          scalar = r.scalar;
          place = o + r.place;
          is = r.is;
          there = omega (arith, there);
          bytes = λ k less.
              let d : ((o + r.place) + k) - o ≡ r.place + k = omega arith in
              behind_on o f ((o + r.place) + k) (omega arith) ∙ (ap f d ∙ r.bytes k less);
        };
  }

  -- where there is a byte of the second, there is none of the first
  pub leaves_joined : (at : ℕ) (f g : ℕ → Option ScalarByte) (xs ys : List Leaf) → ((x : ℕ) (s : ScalarByte) → g x ≡ Some s → f x ≡ None) → AreLeaves at f xs → AreLeaves at g ys → AreLeaves at (λ x. option_or (f x) (g x)) (xs ++ ys)
  leaves_joined at f g xs ys apart h k = record {
    scalars = λ x s e. elim (or_is (f x) (g x) s e) [
      | inl p ↦ (let r = h.scalars x s p in record { place = r.place; there = r.there; has = has_left xs ys s.ctype (at + r.place) r.has })
      | inr p ↦ (let r = k.scalars x s p in record { place = r.place; there = r.there; has = has_right xs ys s.ctype (at + r.place) r.has })
    ];
    leaves = λ number leaf e. elim (one_of xs ys number leaf e) [
      | inl p ↦ (let r = h.leaves (p.0) leaf (p.1) in record { scalar = r.scalar; place = r.place; is = r.is; there = r.there; bytes = λ n less. ap (λ o. option_or o (g (r.place + n))) (r.bytes n less) })
      | inr p ↦ (let r = k.leaves (p.0) leaf (p.1) in record { scalar = r.scalar; place = r.place; is = r.is; there = r.there; bytes = λ n less. ap (λ o. option_or o (g (r.place + n))) (apart (r.place + n) (record { ctype = r.scalar; at = n }) (r.bytes n less)) ∙ r.bytes n less })
    ];
  }

  pub leaves_repeated : (size : ℕ) (f : ℕ → Option ScalarByte) (element : ℕ → List Leaf) → Ends size f → ((at : ℕ) → AreLeaves at f (element at)) → (n at : ℕ) → AreLeaves at (repeated_bytes n size f) (repeated n at size element)
  leaves_repeated size f element ends each zero at = no_leaves at (repeated_bytes 0 size f) (λ x. refl)
  leaves_repeated size f element ends each (suc n) at =
      let a = leaves_joined at f (behind size (repeated_bytes n size f)) (element at) (repeated n (at + size) size element)
      (λ x s e. ends x (behind_is size (repeated_bytes n size f) x s e).0)
      (each at)
      (leaves_behind at size (repeated_bytes n size f) (repeated n (at + size) size element) (leaves_repeated size f element ends each n (at + size))) in
      record { scalars = a.scalars; leaves = a.leaves }
