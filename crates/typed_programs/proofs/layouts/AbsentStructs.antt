-- What nests less deep than a structure has none of its bytes.
use Rattle.std.proofs.Common.{◌≡◌, ℕ, zero, suc, Bool, true, false, cond, ◌&&◌, nat_lt, List, [], ◌∷◌, Option, Some, None, arith, ap, sym, subst, refl, ◌∙◌}
use Rattle.std.specs.Prelude.{◌==◌}
use Rattle.std.specs.Option.{option_or}
use Rattle.std.proofs.lemmas.Bool.{and_parts, eqb-true, true≢false, false_from_ne_true}
use Rattle.c_layout.specs.Layout.{size_of_type}
use Rattle.c_layout.specs.StructViews.{FieldView, StructView, struct_at}
use Rattle.c_layout.specs.Types.{Ty, Int, Pointer, Array, Struct, Void}
use Rattle.analysis_preconditions.specs.StructNesting.OrderedStructs.{is_made_of, are_made_of, nests_within}
use Rattle.analysis_preconditions.proofs.struct_nesting.Nesting.{as_deep}
use Rattle.typed_programs.specs.Types.TypeBytes.{member_bytes, bytes_with, struct_bytes, own_struct}
use Rattle.typed_programs.proofs.layouts.RepeatedBytes.{behind_none, repeated_none}

module _ (structs : List StructView) (pointer_size index : ℕ) where
  abbrev own : Ty → ℕ → Option ℕ
  own = own_struct structs pointer_size index

  -- another structure is none of that number
  pub other : (i x : ℕ) → (i == index) ≡ false → own (Struct i) x ≡ None
  other i x e = ap (λ b. cond (b && nat_lt x (struct_at structs i).size) (Some x) None) e

  absent_type : (struct : ℕ → ℕ → Option ℕ) (passes : ℕ → Bool) → ((i : ℕ) → passes i ≡ true → (x : ℕ) → struct i x ≡ None) → (t : Ty) → is_made_of passes t ≡ true → (x : ℕ) → bytes_with structs pointer_size own struct t x ≡ None
  absent_type struct passes each (Int k) h x = refl
  absent_type struct passes each (Pointer t) h x = refl
  absent_type struct passes each (Array t n) h x = repeated_none n (size_of_type structs pointer_size t) (bytes_with structs pointer_size own struct t) (absent_type struct passes each t h) x
  absent_type struct passes each (Struct i) h x = each i h x
  absent_type struct passes each Void h x = refl

  absent_members : (bytes : Ty → ℕ → Option ℕ) (passes : ℕ → Bool) → ((t : Ty) → is_made_of passes t ≡ true → (x : ℕ) → bytes t x ≡ None) → (fs : List FieldView) → are_made_of passes fs ≡ true → (x : ℕ) → member_bytes bytes fs x ≡ None
  absent_members bytes passes each [] h x = refl
  absent_members bytes passes each (f ∷ fs) h x =
      let a = and_parts (is_made_of passes f.ctype) (are_made_of passes fs) h in
      ap (λ o. option_or o (member_bytes bytes fs x)) (behind_none f.offset (bytes f.ctype) (each f.ctype a.0) x)
      ∙ absent_members bytes passes each fs a.1 x

  -- what nests so deep is no structure that does not
  not_it : (nested i : ℕ) → nests_within structs nested index ≡ false → nests_within structs nested i ≡ true → (i == index) ≡ false
  not_it nested i less h = false_from_ne_true (i == index) (λ e. true≢false (sym (subst (λ z. nests_within structs nested z ≡ true) (eqb-true i index e) h) ∙ less))

  -- nor does it a level lower
  no_lower : (nested : ℕ) → nests_within structs (suc nested) index ≡ false → nests_within structs nested index ≡ false
  no_lower nested less = false_from_ne_true (nests_within structs nested index) (λ e. true≢false (sym (as_deep structs nested (suc nested) index e (omega arith)) ∙ less))

  absent_struct : (depth nested i : ℕ) → nests_within structs nested index ≡ false → nests_within structs nested i ≡ true → (x : ℕ) → struct_bytes structs pointer_size own depth i x ≡ None
  absent_struct zero nested i less h x = refl
  absent_struct (suc depth) zero i less h x = absurd (cc)
  absent_struct (suc depth) (suc nested) i less h x =
      let bytes : Ty → ℕ → Option ℕ = bytes_with structs pointer_size own (struct_bytes structs pointer_size own depth) in
      ap (λ o. option_or o (member_bytes bytes (struct_at structs i).fields x)) (other i x (not_it (suc nested) i less h))
      ∙ absent_members bytes (nests_within structs nested) (absent_type (struct_bytes structs pointer_size own depth) (nests_within structs nested) (λ j k. absent_struct depth nested j (no_lower nested less) k)) (struct_at structs i).fields h x

  pub absent : (depth nested : ℕ) (t : Ty) → nests_within structs nested index ≡ false → is_made_of (nests_within structs nested) t ≡ true → (x : ℕ) → bytes_with structs pointer_size own (struct_bytes structs pointer_size own depth) t x ≡ None
  absent depth nested t less made x = absent_type (struct_bytes structs pointer_size own depth) (nests_within structs nested) (λ j k. absent_struct depth nested j less k) t made x
