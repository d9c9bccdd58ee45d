-- Of which part a byte is, and where the scalars of a type end.
use Rattle.std.proofs.Common.{◌≡◌, ℕ, ◌+◌, ◌-◌, ◌^◌, ◌<◌, ◌≤◌, Bool, true, false, cond, nat_le, nat_lt, List, [], ◌∷◌, ◌⊎◌, inl, inr, Option, Some, None, arith, ap, refl, ◌∙◌}
use Rattle.std.specs.Option.{option_or}
use Rattle.std.proofs.lemmas.Bool.{and_parts, leb-true, ltb-true}
use Rattle.std.proofs.lemmas.Option.{none-some}
use Rattle.c_layout.specs.declared.data_model.Model.{Model}
use Rattle.c_layout.specs.Layout.{size_of_type}
use Rattle.c_layout.specs.StructViews.{FieldView, StructView}
use Rattle.c_layout.specs.Types.{Ty, Int, Pointer, Array, Struct, Void}
use Rattle.store_structs.specs.LeafCounts.{bytes_in}
use Rattle.store_structs.specs.LaidApart.{is_member_in, are_members_in, are_laid_apart}
use Rattle.store_monotone.proofs.tags.TypeTags.{member_is}
use Rattle.typed_programs.specs.Types.TypeBytes.{behind, member_bytes, bytes_with, struct_bytes, ScalarByte, own_scalar, scalar_byte}
use Rattle.typed_programs.proofs.layouts.RepeatedBytes.{Ends, behind_before}
use Rattle.typed_programs.proofs.layouts.TypeEnds.{EndsAlone, nested_ends, type_ends}

module _ {A : Type 0} where
  pub or_is : (a b : Option A) (s : A) → option_or a b ≡ Some s → (a ≡ Some s) ⊎ (b ≡ Some s)
  or_is None b s e = inr e
  or_is (Some x) b s e = inl e

  pub behind_is : (o : ℕ) (f : ℕ → Option A) (x : ℕ) (s : A) → behind o f x ≡ Some s → (o ≤ x) × (f (x - o) ≡ Some s)
  behind_is o f x s = by_test (nat_le o x) refl
    where
      by_test : (c : Bool) → nat_le o x ≡ c → cond c (f (x - o)) None ≡ Some s → (o ≤ x) × (f (x - o) ≡ Some s)
      by_test true e k = (leb-true o x e, k)
      by_test false e k = absurd (none-some s k)

  pub none_before : (m : Model) (structs : List StructView) (bytes : Ty → ℕ → Option A) (room start : ℕ) (fs : List FieldView) → room ≤ 2 ^ 30 → are_members_in m structs room start fs ≡ true → (x : ℕ) → x < start → member_bytes bytes fs x ≡ None
  none_before m structs bytes room start [] small h x k = refl
  none_before m structs bytes room start (f ∷ fs) small h x k =
      let p = and_parts (is_member_in m structs room start f) (are_members_in m structs room (f.offset + bytes_in structs m.pointer f.ctype) fs) h in
      let from = (member_is m structs room start f small p.0).from in
      ap (λ o. option_or o (member_bytes bytes fs x)) (behind_before f.offset (bytes f.ctype) x (omega (arith, from, k)))
      ∙ none_before m structs bytes room (f.offset + bytes_in structs m.pointer f.ctype) fs small p.1 x (omega (arith, from, k))

-- ---- scalars

abbrev pub own_byte : Ty → ℕ → ScalarByte
own_byte t x = record { ctype = t; at = x }

own_ends : (t : Ty) (size : ℕ) → Ends size (λ x. cond (nat_lt x size) (Some (own_byte t x)) None)
own_ends t size x h = by_test (nat_lt x size) refl
  where
    by_test : (b : Bool) → nat_lt x size ≡ b → cond b (Some (own_byte t x)) None ≡ None
    by_test true g = absurd (let k = ltb-true x size g in omega (arith, k, h))
    by_test false g = refl

module _ (m : Model) (structs : List StructView) where
  scalars_end : EndsAlone m structs (own_scalar structs m.pointer)
  scalars_end (Int k) x h = own_ends (Int k) k.bytes x h
  scalars_end (Pointer t) x h = own_ends (Pointer t) m.pointer x h
  scalars_end (Array t n) x h = refl
  scalars_end (Struct i) x h = refl
  scalars_end Void x h = refl

  -- through structures that nest at most so deep
  abbrev pub bytes_at : ℕ → Ty → ℕ → Option ScalarByte
  bytes_at depth = bytes_with structs m.pointer (own_scalar structs m.pointer) (struct_bytes structs m.pointer (own_scalar structs m.pointer) depth)

  pub ends_at : are_laid_apart m structs ≡ true → (depth : ℕ) (t : Ty) → Ends (size_of_type structs m.pointer t) (bytes_at depth t)
  ends_at apart depth t = nested_ends m structs (own_scalar structs m.pointer) scalars_end apart depth t

  pub scalar_ends : are_laid_apart m structs ≡ true → (t : Ty) → Ends (size_of_type structs m.pointer t) (scalar_byte structs m.pointer t)
  unfolding scalar_byte
  scalar_ends apart t = type_ends m structs (own_scalar structs m.pointer) scalars_end apart t
