-- The leaves of a type are its scalars, where each array has few elements.
use Rattle.std.proofs.Common.{◌≡◌, ℕ, zero, suc, ◌+◌, ◌*◌, ◌^◌, ◌≤◌, Bool, true, false, cond, ◌&&◌, List, [], ◌∷◌, ◌++◌, length, inl, inr, Option, Some, None, arith, ap, sym, subst, refl, ◌∙◌, add-one, append_assoc}
use Rattle.std.proofs.lemmas.Bool.{and_parts, and_from, eqb-true, cases_lt}
use Rattle.std.proofs.lemmas.List.{append-nil}
use Rattle.std.proofs.lemmas.Option.{none-some}
use Rattle.c_layout.specs.declared.data_model.Model.{Model}
use Rattle.c_layout.specs.declared.leaf_lists.Class.TheVariants as class
use Rattle.c_layout.specs.declared.leaf_lists.Leaf.{Leaf}
use Rattle.c_layout.specs.Layout.{size_of_type}
use Rattle.c_layout.specs.Leaves.{class_of, is_short, short_count, behind_short, behind_all, repeated, of_fields, leaf, alone, folded_unit, folded_leaves, leaves_of}
use Rattle.c_layout.specs.StructViews.{FieldView, StructView, struct_at}
use Rattle.c_layout.specs.Types.{Ty, Int, Pointer, Array, Struct, Void}
use Rattle.cfg.specs.ModelKinds as flow
use Rattle.typed_programs.specs.PlainUnits.ShortArrays.{are_short, have_short_arrays, has_short_members, has_short_arrays_within, has_short_arrays}
use Rattle.memory_model.specs.Memory.ScalarSizes.{class_bytes}
use Rattle.store_structs.specs.LeafCounts.{bytes_in}
use Rattle.store_structs.specs.LaidApart.{has_class_bytes, is_member_in, are_members_in}
use Rattle.store_monotone.proofs.tags.TypeTags.{model_bytes, short_size, member_is, laid_out}
use Rattle.typed_programs.specs.Types.TypeBytes.{behind, repeated_bytes, member_bytes, struct_bytes, ScalarByte, own_scalar, scalar_byte}
use Rattle.typed_programs.specs.Types.StandingTypes.{AreLaidOut}
use Rattle.typed_programs.specs.Types.LeafTypes.{ScalarsAreLeaves, LeavesAreScalars}
use Rattle.typed_programs.proofs.layouts.RepeatedBytes.{Ends, behind_ends}
use Rattle.typed_programs.proofs.leaves.ByteEnds.{none_before, bytes_at, ends_at}
use Rattle.typed_programs.proofs.leaves.ListedLeaves.{AreLeaves, no_leaves, one_leaf, leaves_as, leaves_behind, leaves_joined, leaves_repeated}

-- ---- elements of elements

repeated_more : (step : ℕ) (element : ℕ → List Leaf) (a b at : ℕ) → repeated (a + b) at step element ≡ repeated a at step element ++ repeated b (at + a * step) step element
repeated_more step element zero b at =
    let e : 0 + b ≡ b = omega arith in
    let d : at ≡ at + 0 * step = omega arith in
    ap (λ n. repeated n at step element) e ∙ ap (λ z. repeated b z step element) d
repeated_more step element (suc a) b at =
    let e : suc a + b ≡ suc (a + b) = omega arith in
    let d : (at + step) + a * step ≡ at + suc a * step = grind arith in
    ap (λ n. repeated n at step element) e
    ∙ (ap (λ z. element at ++ z) (repeated_more step element a b (at + step))
    ∙ (sym (append_assoc (element at) (repeated a (at + step) step element) (repeated b ((at + step) + a * step) step element))
    ∙ ap (λ z. repeated (suc a) at step element ++ repeated b z step element) d))

in_groups : (step : ℕ) (element : ℕ → List Leaf) (n k at : ℕ) → repeated (n * k) at step element ≡ repeated n at (k * step) (λ z. repeated k z step element)
in_groups step element zero k at = (let e : 0 * k ≡ 0 = omega arith in ap (λ z. repeated z at step element) e)
in_groups step element (suc n) k at =
    let e : suc n * k ≡ k + n * k = grind arith in
    ap (λ z. repeated z at step element) e
    ∙ (repeated_more step element k (n * k) at
    ∙ ap (λ z. repeated k at step element ++ z) (in_groups step element n k (at + k * step)))

module _ (m : Model) (structs : List StructView) (laid : AreLaidOut m structs) where
  abbrev size : Ty → ℕ
  size = size_of_type structs m.pointer

  abbrev list : ℕ → Ty → ℕ → List Leaf
  list depth = folded_leaves depth structs m.pointer

  members_leaves : (bytes : Ty → ℕ → Option ScalarByte) (member : Ty → ℕ → List Leaf) (short : Ty → Bool) → ((t : Ty) → Ends (size t) (bytes t)) → ((t : Ty) → has_class_bytes m t ≡ true → short t ≡ true → (at : ℕ) → AreLeaves m at (bytes t) (member t at))
      → (room start : ℕ) (fs : List FieldView) → room ≤ 2 ^ 30 → are_members_in m structs room start fs ≡ true → have_short_arrays short fs ≡ true → (at : ℕ) → AreLeaves m at (member_bytes bytes fs) (of_fields fs at member)
  members_leaves bytes member short ends each room start [] small h few at = no_leaves m at (member_bytes bytes []) (λ x. refl)
  members_leaves bytes member short ends each room start (f ∷ fs) small h few at =
      let p = and_parts (is_member_in m structs room start f) (are_members_in m structs room (f.offset + bytes_in structs m.pointer f.ctype) fs) h in
      let q = and_parts (short f.ctype) (have_short_arrays short fs) few in
      let a = member_is m structs room start f small p.0 in
      let b = leaves_joined m at (behind f.offset (bytes f.ctype)) (member_bytes bytes fs) (member f.ctype (at + f.offset)) (of_fields fs at member)
      (λ x s e. not_both x s e a.same p.1)
      (leaves_behind m at f.offset (bytes f.ctype) (member f.ctype (at + f.offset)) (each f.ctype a.kind q.0 (at + f.offset)))
      (members_leaves bytes member short ends each room (f.offset + bytes_in structs m.pointer f.ctype) fs small p.1 q.1 at) in
      record { scalars = b.scalars; leaves = b.leaves }
    where
      not_both : (x : ℕ) (s : ScalarByte) → member_bytes bytes fs x ≡ Some s → bytes_in structs m.pointer f.ctype ≡ size f.ctype → are_members_in m structs room (f.offset + bytes_in structs m.pointer f.ctype) fs ≡ true → behind f.offset (bytes f.ctype) x ≡ None
      not_both x s e same k = elim (cases_lt x (f.offset + size f.ctype)) [
        | inl less ↦ absurd (none-some s (sym (none_before m structs bytes room (f.offset + bytes_in structs m.pointer f.ctype) fs small k x (omega (arith, less, same))) ∙ e))
        | inr more ↦ behind_ends f.offset (size f.ctype) (bytes f.ctype) (ends f.ctype) x more
      ]

  -- the leaves of an array are those of its elements
  array_list : (depth : ℕ) (t : Ty) (n : ℕ) → is_short n ≡ true → (at : ℕ) → repeated n at (size t) (list (suc depth) t) ≡ list (suc depth) (Array t n) at
  array_list depth t n short at = sym (
      ap (λ b. repeated (cond b (n * short_count t) 1) at (size (cond b (behind_short t) (Array t n))) (unit (cond b (behind_short t) (Array t n)))) short
      ∙ (in_groups (size (behind_short t)) (unit (behind_short t)) n (short_count t) at
      ∙ ap (λ s. repeated n at s (list (suc depth) t)) (sym (short_size structs m.pointer t)))
      )
    where
      unit : Ty → ℕ → List Leaf
      unit = folded_unit (suc depth) structs m.pointer (list depth)

  -- of each type that has short arrays alone, where those of structs are so
  type_leaves : (depth : ℕ) → ((i : ℕ) → has_short_arrays_within (suc depth) structs (Struct i) ≡ true → (at : ℕ) → AreLeaves m at (struct_bytes structs m.pointer (own_scalar structs m.pointer) depth i) (of_fields (struct_at structs i).fields at (list depth)))
      → (t : Ty) → has_class_bytes m t ≡ true → has_short_arrays_within (suc depth) structs t ≡ true → (at : ℕ) → AreLeaves m at (bytes_at m structs depth t) (list (suc depth) t at)
  type_leaves depth each (Int k) kind short at =
      let e = eqb-true k.bytes (flow.class_bytes m (class_of k)) kind ∙ model_bytes m laid.model (class_of k) in
      let a = one_leaf m at (Int k) k.bytes (leaf at (class_of k) k.signed (alone k.bytes)) (record { class = refl; signed = refl; alone = refl }) refl (sym e) in
      record { scalars = a.scalars; leaves = a.leaves }
  type_leaves depth each (Pointer t) kind short at =
      let a = one_leaf m at (Pointer t) m.pointer (leaf at class.Pointer false (alone m.pointer)) (record { class = refl; signed = refl; alone = refl }) refl (sym (model_bytes m laid.model class.Pointer)) in
      record { scalars = a.scalars; leaves = a.leaves }
  type_leaves depth each (Array t n) kind short at =
      let p = and_parts (is_short n && are_short t) (has_short_members (has_short_arrays_within depth structs) structs (behind_all t)) short in
      let q = and_parts (is_short n) (are_short t) p.0 in
      let inner = type_leaves depth each t kind (and_from (are_short t) (has_short_members (has_short_arrays_within depth structs) structs (behind_all t)) q.1 p.1) in
      let a = leaves_as m at (repeated_bytes n (size t) (bytes_at m structs depth t)) (repeated n at (size t) (list (suc depth) t)) (list (suc depth) (Array t n) at) (array_list depth t n q.0 at)
      (leaves_repeated m (size t) (bytes_at m structs depth t) (list (suc depth) t) (ends_at m structs laid.apart depth t) inner n at) in
      record { scalars = a.scalars; leaves = a.leaves }
  type_leaves depth each (Struct i) kind short at =
      let a = leaves_as m at (struct_bytes structs m.pointer (own_scalar structs m.pointer) depth i) (of_fields (struct_at structs i).fields at (list depth)) (list (suc depth) (Struct i) at) (sym (append-nil (of_fields (struct_at structs i).fields at (list depth)))) (each i short at) in
      record { scalars = a.scalars; leaves = a.leaves }
  type_leaves depth each Void kind short at = no_leaves m at (bytes_at m structs depth Void) (λ x. refl)

  no_members : (fs : List FieldView) (at : ℕ) → of_fields fs at (list 0) ≡ []
  no_members [] at = refl
  no_members (f ∷ fs) at = no_members fs at

  struct_leaves : (depth i : ℕ) → has_short_arrays_within (suc depth) structs (Struct i) ≡ true → (at : ℕ) → AreLeaves m at (struct_bytes structs m.pointer (own_scalar structs m.pointer) depth i) (of_fields (struct_at structs i).fields at (list depth))
  struct_leaves zero i short at = leaves_as m at (λ x. None) [] (of_fields (struct_at structs i).fields at (list 0)) (sym (no_members (struct_at structs i).fields at)) (no_leaves m at (λ x. None) (λ x. refl))
  struct_leaves (suc depth) i short at =
      let a = laid_out m structs laid.apart i in
      let b = members_leaves (bytes_at m structs depth) (list (suc depth)) (has_short_arrays_within (suc depth) structs) (ends_at m structs laid.apart depth) (type_leaves depth (struct_leaves depth)) (struct_at structs i).size 0 (struct_at structs i).fields a.small a.members short at in
      record { scalars = b.scalars; leaves = b.leaves }

  all_leaves : (t : Ty) → has_class_bytes m t ≡ true → has_short_arrays structs t ≡ true → AreLeaves m 0 (scalar_byte structs m.pointer t) (leaves_of structs m.pointer t)
  unfolding leaves_of scalar_byte
  all_leaves t kind short =
      let e = add-one (length structs) in
      let a = leaves_as m 0 (bytes_at m structs (length structs) t) (list (suc (length structs)) t 0) (list (length structs + 1) t 0) (ap (λ d. list d t 0) (sym e))
      (type_leaves (length structs) (struct_leaves (length structs)) t kind (subst (λ d. has_short_arrays_within d structs t ≡ true) e short) 0) in
      record { scalars = a.scalars; leaves = a.leaves }

pub scalars_are_leaves : ScalarsAreLeaves
scalars_are_leaves m structs laid t kind short x k scalar e =
    let r = (all_leaves m structs laid t kind short).scalars x (record { ctype = scalar; at = k }) e in
    let h = r.has in
    let there : h.leaf.offset ≡ r.place = (let d = h.there in omega (arith, d)) in
    (r.place, r.there, record { number = h.number; leaf = h.leaf; among = h.among; is = h.is; there = there })

pub leaves_are_scalars : LeavesAreScalars
leaves_are_scalars m structs laid t kind short number leaf e =
    let r = (all_leaves m structs laid t kind short).leaves number leaf e in
    let there = r.there in
    let d : leaf.offset ≡ r.place = omega (arith, there) in
    record { scalar = r.scalar; is = r.is; bytes = λ k less. ap (λ z. scalar_byte structs m.pointer t (z + k)) d ∙ r.bytes k less }
