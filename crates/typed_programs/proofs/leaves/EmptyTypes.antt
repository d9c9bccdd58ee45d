-- A type of no bytes has no leaves.
use Rattle.std.proofs.Common.{◌≡◌, ℕ, zero, suc, ◌+◌, ◌*◌, ◌^◌, ◌<◌, ◌≤◌, Bool, true, false, cond, List, [], ◌∷◌, ◌++◌, length, arith, ap, sym, refl, ◌∙◌}
use Rattle.std.proofs.lemmas.Bool.{and_parts, eqb-true, leb-false}
use Rattle.c_layout.specs.declared.data_model.Model.{Model}
use Rattle.c_layout.specs.declared.leaf_lists.Class.TheVariants as class
use Rattle.c_layout.specs.declared.leaf_lists.Leaf.{Leaf}
use Rattle.c_layout.specs.Layout.{size_of_type}
use Rattle.c_layout.specs.Leaves.{class_of, is_short, short_count, behind_short, long_count, behind_long, full_count, behind_all, repeated, of_fields, plain_unit, plain_leaves, folded_unit, folded_leaves, leaves_of}
use Rattle.c_layout.specs.StructViews.{FieldView, StructView, struct_at}
use Rattle.c_layout.specs.Types.{Ty, Int, Pointer, Array, Struct, Void}
use Rattle.cfg.specs.ModelKinds as flow
use Rattle.store_structs.specs.LeafCounts.{bytes_in}
use Rattle.store_structs.specs.LaidApart.{has_class_bytes, is_member_in, are_members_in}
use Rattle.store_monotone.proofs.tags.TypeTags.{model_bytes, some_bytes, full_size, long_size, short_size, member_is, laid_out}
use Rattle.typed_programs.specs.Types.StandingTypes.{AreLaidOut}

-- of so many of a size, none or each of them has no bytes
no_product : (n size : ℕ) → suc n * size ≡ 0 → size ≡ 0
no_product n size h = let e : suc n * size ≡ size + n * size = grind arith in omega (arith, e, h)

some_product : (n size : ℕ) → 0 < n → n * size ≡ 0 → size ≡ 0
some_product zero size some h = absurd (omega (arith, some))
some_product (suc n) size some h = no_product n size h

repeated_none : (element : ℕ → List Leaf) → ((at : ℕ) → element at ≡ []) → (n at step : ℕ) → repeated n at step element ≡ []
repeated_none element none zero at step = refl
repeated_none element none (suc n) at step = ap (λ xs. xs ++ repeated n (at + step) step element) (none at) ∙ repeated_none element none n (at + step) step

elements_none : (element : ℕ → List Leaf) (n size total at : ℕ) → total ≡ n * size → total ≡ 0 → (size ≡ 0 → (at : ℕ) → element at ≡ []) → repeated n at size element ≡ []
elements_none element zero size total at e h none = refl
elements_none element (suc n) size total at e h none = repeated_none element (none (no_product n size (sym e ∙ h))) (suc n) at size

some_long : (t : Ty) → 0 < long_count t
some_long (Int k) = omega arith
some_long (Pointer t) = omega arith
some_long (Array t n) = by_length (is_short n) refl (some_long t)
  where
    by_length : (c : Bool) → is_short n ≡ c → 0 < long_count t → 0 < cond c 1 (n * long_count t)
    by_length true e some = omega arith
    by_length false e some =
        let many = leb-false n 64 e in
        some_more n (long_count t) (omega (arith, many)) some
      where
        some_more : (a b : ℕ) → 0 < a → 0 < b → 0 < a * b
        some_more zero b h k = absurd (omega (arith, h))
        some_more (suc a) b h k = let e : suc a * b ≡ b + a * b = grind arith in omega (arith, e, k)
some_long (Struct i) = omega arith
some_long Void = omega arith

module _ (m : Model) (structs : List StructView) (laid : AreLaidOut m structs) where
  abbrev size : Ty → ℕ
  size = size_of_type structs m.pointer

  some_int : (k : _) → has_class_bytes m (Int k) ≡ true → k.bytes ≡ 0 → ⊥
  some_int k kind none =
      let e = eqb-true k.bytes (flow.class_bytes m (class_of k)) kind ∙ model_bytes m laid.model (class_of k) in
      let some = some_bytes m (class_of k) in
      omega (arith, e, some, none)

  some_pointer : m.pointer ≡ 0 → ⊥
  some_pointer none =
      let e = model_bytes m laid.model class.Pointer in
      let some = some_bytes m class.Pointer in
      omega (arith, e, some, none)

  -- no leaves of types of no bytes
  abbrev AreNone : (Ty → ℕ → List Leaf) → Type 0
  AreNone list = (t : Ty) → has_class_bytes m t ≡ true → size t ≡ 0 → (at : ℕ) → list t at ≡ []

  no_members : (list : Ty → ℕ → List Leaf) → AreNone list → (room start : ℕ) (fs : List FieldView) → room ≤ 2 ^ 30 → room ≡ 0 → are_members_in m structs room start fs ≡ true → (at : ℕ) → of_fields fs at list ≡ []
  no_members list none room start [] small empty h at = refl
  no_members list none room start (f ∷ fs) small empty h at =
      let p = and_parts (is_member_in m structs room start f) (are_members_in m structs room (f.offset + bytes_in structs m.pointer f.ctype) fs) h in
      let a = member_is m structs room start f small p.0 in
      let to = a.to in
      ap (λ xs. xs ++ of_fields fs at list) (none f.ctype a.kind (omega (arith, to, empty)) (at + f.offset))
      ∙ no_members list none room (f.offset + bytes_in structs m.pointer f.ctype) fs small empty p.1 at

  no_struct_leaves : (list : Ty → ℕ → List Leaf) → AreNone list → (i : ℕ) → size (Struct i) ≡ 0 → (at : ℕ) → of_fields (struct_at structs i).fields at list ≡ []
  no_struct_leaves list none i empty at =
      let a = laid_out m structs laid.apart i in
      no_members list none (struct_at structs i).size 0 (struct_at structs i).fields a.small empty a.members at

  -- ---- where no array is folded

  no_plain_unit : (stride count : ℕ) (list : Ty → ℕ → List Leaf) → AreNone list → (t : Ty) → has_class_bytes m t ≡ true → size (behind_all t) ≡ 0 → (at : ℕ) → plain_unit structs (record { stride = stride; count = count }) list (behind_all t) at ≡ []
  no_plain_unit stride count list none (Int k) kind empty at = absurd (some_int k kind empty)
  no_plain_unit stride count list none (Pointer t) kind empty at = absurd (some_pointer empty)
  no_plain_unit stride count list none (Array t n) kind empty at = no_plain_unit stride count list none t kind empty at
  no_plain_unit stride count list none (Struct i) kind empty at = no_struct_leaves list none i empty at
  no_plain_unit stride count list none Void kind empty at = refl

  no_plain : (stride count : ℕ) (depth : ℕ) → AreNone (plain_leaves depth structs m.pointer (record { stride = stride; count = count }))
  no_plain stride count zero t kind empty at = refl
  no_plain stride count (suc depth) t kind empty at =
      elements_none (plain_unit structs (record { stride = stride; count = count }) (plain_leaves depth structs m.pointer (record { stride = stride; count = count })) (behind_all t)) (full_count t) (size (behind_all t)) (size t) at (full_size structs m.pointer t) empty
      (no_plain_unit stride count (plain_leaves depth structs m.pointer (record { stride = stride; count = count })) (no_plain stride count depth) t kind)

  -- ---- where long arrays are folded

  long_kind : (t : Ty) → has_class_bytes m t ≡ true → has_class_bytes m (behind_long t) ≡ true
  long_kind (Int k) h = h
  long_kind (Pointer t) h = h
  long_kind (Array t n) h = by_test (is_short n) (long_kind t h)
    where
      by_test : (c : Bool) → has_class_bytes m (behind_long t) ≡ true → has_class_bytes m (cond c (Array t n) (behind_long t)) ≡ true
      by_test true k = h
      by_test false k = k
  long_kind (Struct i) h = h
  long_kind Void h = h

  no_long : (depth : ℕ) (list : Ty → ℕ → List Leaf) (t : Ty) (n : ℕ) → has_class_bytes m t ≡ true → is_short n ≡ false → size (Array t n) ≡ 0 → (at : ℕ) → folded_unit depth structs m.pointer list (Array t n) at ≡ []
  no_long depth list t n kind long empty at =
      let many = leb-false n 64 long in
      let inner : size t ≡ 0 = some_product n (size t) (omega (arith, many)) empty in
      no_plain (size (behind_long t)) (n * long_count t) depth (behind_long t) (long_kind t kind) (some_product (long_count t) (size (behind_long t)) (some_long t) (sym (long_size structs m.pointer t) ∙ inner)) at

  no_unit : (depth : ℕ) (list : Ty → ℕ → List Leaf) → AreNone list → (t : Ty) → has_class_bytes m t ≡ true → size (behind_short t) ≡ 0 → (at : ℕ) → folded_unit depth structs m.pointer list (behind_short t) at ≡ []
  no_unit depth list none (Int k) kind empty at = absurd (some_int k kind empty)
  no_unit depth list none (Pointer t) kind empty at = absurd (some_pointer empty)
  no_unit depth list none (Array t n) kind empty at = by_length (is_short n) refl (no_unit depth list none t kind) empty at
    where
      by_length : (c : Bool) → is_short n ≡ c → (size (behind_short t) ≡ 0 → (at : ℕ) → folded_unit depth structs m.pointer list (behind_short t) at ≡ [])
          → size (cond c (behind_short t) (Array t n)) ≡ 0 → (at : ℕ) → folded_unit depth structs m.pointer list (cond c (behind_short t) (Array t n)) at ≡ []
      by_length true e inner empty at = inner empty at
      by_length false e inner empty at = no_long depth list t n kind e empty at
  no_unit depth list none (Struct i) kind empty at = no_struct_leaves list none i empty at
  no_unit depth list none Void kind empty at = refl

  no_folded : (depth : ℕ) → AreNone (folded_leaves depth structs m.pointer)
  no_folded zero t kind empty at = refl
  no_folded (suc depth) t kind empty at =
      elements_none (folded_unit (suc depth) structs m.pointer (folded_leaves depth structs m.pointer) (behind_short t)) (short_count t) (size (behind_short t)) (size t) at (short_size structs m.pointer t) empty
      (no_unit (suc depth) (folded_leaves depth structs m.pointer) (no_folded depth) t kind)

  pub no_bytes : (t : Ty) → has_class_bytes m t ≡ true → size t ≡ 0 → leaves_of structs m.pointer t ≡ []
  unfolding leaves_of
  no_bytes t kind empty = no_folded (length structs + 1) t kind empty 0
