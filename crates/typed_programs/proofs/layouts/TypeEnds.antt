-- Behind the end of a type there are no bytes of it, where what it says itself ends there.
use Rattle.std.proofs.Common.{◌≡◌, ℕ, zero, suc, ◌+◌, ◌^◌, ◌≤◌, true, List, [], ◌∷◌, length, Option, arith, ap, refl, ◌∙◌}
use Rattle.std.specs.Option.{option_or}
use Rattle.std.proofs.lemmas.Bool.{and_parts}
use Rattle.c_layout.specs.declared.data_model.Model.{Model}
use Rattle.c_layout.specs.Layout.{size_of_type}
use Rattle.c_layout.specs.StructViews.{FieldView, StructView, struct_at}
use Rattle.c_layout.specs.Types.{Ty, Int, Pointer, Array, Struct, Void}
use Rattle.store_structs.specs.LeafCounts.{bytes_in}
use Rattle.store_structs.specs.LaidApart.{is_member_in, are_members_in, are_laid_apart}
use Rattle.store_monotone.proofs.tags.TypeTags.{member_is, laid_out}
use Rattle.typed_programs.specs.Types.TypeBytes.{member_bytes, bytes_with, struct_bytes, type_bytes}
use Rattle.typed_programs.proofs.layouts.RepeatedBytes.{Ends, behind_ends, repeated_ends}

module _ {A : Type 0} (m : Model) (structs : List StructView) (own : Ty → ℕ → Option A) where
  abbrev size : Ty → ℕ
  size = size_of_type structs m.pointer

  abbrev pub EndsAlone : Type 0
  EndsAlone = (t : Ty) → Ends (size t) (own t)

  with_ends : EndsAlone → (struct : ℕ → ℕ → Option A) → ((i : ℕ) → Ends (struct_at structs i).size (struct i)) → (t : Ty) → Ends (size t) (bytes_with structs m.pointer own struct t)
  with_ends ends struct each (Int k) = ends (Int k)
  with_ends ends struct each (Pointer t) = ends (Pointer t)
  with_ends ends struct each (Array t n) = repeated_ends n (size t) (bytes_with structs m.pointer own struct t) (with_ends ends struct each t)
  with_ends ends struct each (Struct i) = each i
  with_ends ends struct each Void = λ x h. refl

  member_ends : (bytes : Ty → ℕ → Option A) → ((t : Ty) → Ends (size t) (bytes t)) → (room start : ℕ) (fs : List FieldView) → room ≤ 2 ^ 30 → are_members_in m structs room start fs ≡ true → Ends room (member_bytes bytes fs)
  member_ends bytes each room start [] small h x k = refl
  member_ends bytes each room start (f ∷ fs) small h x k =
      let p = and_parts (is_member_in m structs room start f) (are_members_in m structs room (f.offset + bytes_in structs m.pointer f.ctype) fs) h in
      let to = (member_is m structs room start f small p.0).to in
      ap (λ o. option_or o (member_bytes bytes fs x)) (behind_ends f.offset (size f.ctype) (bytes f.ctype) (each f.ctype) x (omega (arith, to, k)))
      ∙ member_ends bytes each room (f.offset + bytes_in structs m.pointer f.ctype) fs small p.1 x k

  struct_ends : EndsAlone → are_laid_apart m structs ≡ true → (depth i : ℕ) → Ends (struct_at structs i).size (struct_bytes structs m.pointer own depth i)
  struct_ends ends apart zero i x h = refl
  struct_ends ends apart (suc depth) i x h =
      let a = laid_out m structs apart i in
      let bytes : Ty → ℕ → Option A = bytes_with structs m.pointer own (struct_bytes structs m.pointer own depth) in
      ap (λ o. option_or o (member_bytes bytes (struct_at structs i).fields x)) (ends (Struct i) x h)
      ∙ member_ends bytes (with_ends ends (struct_bytes structs m.pointer own depth) (struct_ends ends apart depth)) (struct_at structs i).size 0 (struct_at structs i).fields a.small a.members x h

  pub nested_ends : EndsAlone → are_laid_apart m structs ≡ true → (depth : ℕ) (t : Ty) → Ends (size t) (bytes_with structs m.pointer own (struct_bytes structs m.pointer own depth) t)
  nested_ends ends apart depth = with_ends ends (struct_bytes structs m.pointer own depth) (struct_ends ends apart depth)

  pub type_ends : EndsAlone → are_laid_apart m structs ≡ true → (t : Ty) → Ends (size t) (type_bytes structs m.pointer own t)
  type_ends ends apart = nested_ends ends apart (length structs)
