-- A small type has no folded leaf.
use Rattle.std.proofs.Common.{◌≡◌, ℕ, zero, suc, ◌+◌, Bool, true, List, [], ◌∷◌, ◌++◌, length, refl, ap, sym, subst, ◌∙◌}
use Rattle.std.specs.Prelude.{if◌then◌else◌}
use Rattle.c_layout.specs.Types.{Ty, Int, Pointer, Array, Struct, Void}
use Rattle.c_layout.specs.StructViews.{FieldView, StructView, struct_at}
use Rattle.c_layout.specs.Layout.{size_of_type}
use Rattle.c_layout.specs.Leaves.{short_count, behind_short, behind_all, repeated, of_fields, folded_unit, folded_leaves, leaves_of}
use Rattle.c_layout.specs.declared.leaf_lists.Leaf.{Leaf}
use Rattle.typed_programs.specs.PlainUnits.ShortArrays.{are_short, have_short_arrays, has_short_members, has_short_arrays_within, has_short_arrays}
use Rattle.typed_programs.proofs.plain_worklists.LeadingWorks.{both}
use Rattle.typed_lowering.specs.PlainPrograms.PlainBases.{AreAlone}

alone_append : (xs ys : List Leaf) → AreAlone xs → AreAlone ys → AreAlone (xs ++ ys)
alone_append [] ys a b = b
alone_append (x ∷ xs) ys (one, a) b = (one, alone_append xs ys a b)

alone_repeated : (n at step : ℕ) (element : ℕ → List Leaf) → ((at : ℕ) → AreAlone (element at)) → AreAlone (repeated n at step element)
alone_repeated zero at step element all = tt
alone_repeated (suc n) at step element all = alone_append (element at) (repeated n (at + step) step element) (all at) (alone_repeated n (at + step) step element all)

alone_fields : (small : Ty → Bool) (field : Ty → ℕ → List Leaf) → ((t : Ty) (at : ℕ) → small t ≡ true → AreAlone (field t at)) → (fs : List FieldView) (at : ℕ) → have_short_arrays small fs ≡ true → AreAlone (of_fields fs at field)
alone_fields small field all [] at is = tt
alone_fields small field all (f ∷ fs) at is = let x = both _ _ is in alone_append (field f.ctype (at + f.offset)) (of_fields fs at field) (all f.ctype (at + f.offset) x.0) (alone_fields small field all fs at x.1)

-- short arrays on the outside are all of them
all_short : (t : Ty) → are_short t ≡ true → behind_short t ≡ behind_all t
all_short (Int k) is = refl
all_short (Pointer t) is = refl
all_short (Array t n) is = let x = both _ _ is in ap (λ b. if b then behind_short t else Array t n) x.0 ∙ all_short t x.1
all_short (Struct i) is = refl
all_short Void is = refl

-- what stands behind all arrays is none
data IsElement : Ty → Type 0 where
  of_int : (k : _) → IsElement (Int k)
  of_pointer : (t : Ty) → IsElement (Pointer t)
  of_struct : (i : ℕ) → IsElement (Struct i)
  of_void : IsElement Void

is_element : (t : Ty) → IsElement (behind_all t)
is_element (Int k) = of_int k
is_element (Pointer t) = of_pointer t
is_element (Array t n) = is_element t
is_element (Struct i) = of_struct i
is_element Void = of_void

module _ (structs : List StructView) (pointer : ℕ) where
  alone_unit : (depth : ℕ) (small : Ty → Bool) (member : Ty → ℕ → List Leaf) → ((t : Ty) (at : ℕ) → small t ≡ true → AreAlone (member t at)) → (t : Ty) → IsElement t → has_short_members small structs t ≡ true → (at : ℕ) → AreAlone (folded_unit depth structs pointer member t at)
  alone_unit depth small member all _ (of_int k) is at = (refl, tt)
  alone_unit depth small member all _ (of_pointer t) is at = (refl, tt)
  alone_unit depth small member all _ (of_struct i) is at = alone_fields small member all (struct_at structs i).fields at is
  alone_unit depth small member all _ of_void is at = tt

  alone_folded : (depth : ℕ) (t : Ty) (at : ℕ) → has_short_arrays_within depth structs t ≡ true → AreAlone (folded_leaves depth structs pointer t at)
  alone_folded zero t at is = tt
  alone_folded (suc depth) t at is =
      let x = both _ _ is in
      alone_repeated (short_count t) at (size_of_type structs pointer (behind_short t)) (folded_unit (suc depth) structs pointer (folded_leaves depth structs pointer) (behind_short t))
      (λ at. subst (λ u. AreAlone (folded_unit (suc depth) structs pointer (folded_leaves depth structs pointer) u at)) (sym (all_short t x.0)) (alone_unit (suc depth) (has_short_arrays_within depth structs) (folded_leaves depth structs pointer) (λ t at small. alone_folded depth t at small) (behind_all t) (is_element t) x.1 at))

  pub alone_leaves : (t : Ty) → has_short_arrays structs t ≡ true → AreAlone (leaves_of structs pointer t)
  unfolding leaves_of
  alone_leaves t is = alone_folded (length structs + 1) t 0 is
