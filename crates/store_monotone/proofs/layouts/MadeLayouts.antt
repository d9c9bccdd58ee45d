-- Layouts that are made member by member have members that stand apart.
use Rattle.std.specs.Prelude.{◌≡◌, ℕ, ◌+◌, ◌-◌, ◌*◌, ◌≤◌, ◌<◌, Bool, true, false, cond, ◌&&◌, nat_le, nat_lt, Some, None, List, [], ◌∷◌, ◌++◌, length, refl}
use Rattle.std.proofs.Common.{arith, subst, ap, ◌∙◌}
use Rattle.std.proofs.lemmas.Bool.{and_parts, and_from, leb-true, le-leb, ltb-true}
use Rattle.std.proofs.Math.Nat.{lt-div-mul-add}
use Rattle.c_layout.specs.declared.data_model.Model.{Model}
use Rattle.c_layout.specs.declared.leaf_lists.Class.TheVariants as class
use Rattle.c_layout.specs.Layout.{most_bytes, round_up, size_of_type, align_of_type, is_complete}
use Rattle.c_layout.specs.Models.{is_model}
use Rattle.c_layout.specs.StructLayouts.{Partial, no_members, added, finished}
use Rattle.c_layout.specs.StructViews.{FieldView, StructView, struct_at}
use Rattle.c_layout.specs.Types.{Ty, Int, Pointer, Array, Struct, Void}
use Rattle.cfg.specs.BaseShapes.{is_extent}
use Rattle.store_cells.specs.RowPositions.{capped}
use Rattle.store_structs.specs.LeafCounts.{bytes_in}
use Rattle.store_monotone.proofs.operations.Loads.{some_bytes}
use Rattle.store_monotone.proofs.shapes.LeafBytes.{same_bytes}
use Rattle.store_structs.specs.LaidApart.{has_class_bytes, is_member_in, are_members_in, is_laid_apart}
use Rattle.store_monotone.specs.Layouts.MadeLayouts.{Declared, all_added, layout_of, is_declarable, are_declarable}
use Rattle.store_monotone.proofs.layouts.Extents.{some_same, none_some}

-- ---- types

-- the next multiple of an alignment is not before
rounded_up : (n align : ℕ) → 0 < align → n ≤ round_up n align
rounded_up n align some = let less = lt-div-mul-add {a = (n + align) - 1} some in omega arith

module _ (m : Model) (structs : List StructView) (pointer : 0 < m.pointer) where
  some_align : (t : Ty) → is_complete structs m.pointer t ≡ true → 0 < align_of_type structs m.pointer t
  some_align (Int k) h = ltb-true 0 k.bytes (and_parts (nat_lt 0 k.bytes) (nat_le k.bytes 8) h).0
  some_align (Pointer t) h = pointer
  some_align (Array t n) h = some_align t (and_parts (is_complete structs m.pointer t) _ h).0
  some_align (Struct i) h =
      let a = and_parts (nat_lt i (length structs)) _ h in
      let b = and_parts ((struct_at structs i).complete && nat_lt 0 (struct_at structs i).align) _ a.1 in
      ltb-true 0 (struct_at structs i).align (and_parts (struct_at structs i).complete (nat_lt 0 (struct_at structs i).align) b.0).1
  some_align Void h = absurd (cc)

  -- of a complete type the sizes are the same
  same_size : (t : Ty) → is_complete structs m.pointer t ≡ true → bytes_in structs m.pointer t ≡ size_of_type structs m.pointer t
  same_size (Int k) h = refl
  same_size (Pointer t) h = refl
  same_size (Array t n) h =
      let a = and_parts (is_complete structs m.pointer t) (nat_le (n * size_of_type structs m.pointer t) most_bytes) h in
      let few = leb-true (n * size_of_type structs m.pointer t) most_bytes a.1 in
      ap (λ z. capped (n * z)) (same_size t a.0) ∙ (omega arith)
  same_size (Struct i) h = refl
  same_size Void h = refl

  -- ---- members

  -- the end of the last member
  abbrev last_end : ℕ → List FieldView → ℕ
  last_end from [] = from
  last_end from (f ∷ fs) = last_end (f.offset + bytes_in structs m.pointer f.ctype) fs

  last_of : (from : ℕ) (fs : List FieldView) (f : FieldView) → last_end from (fs ++ (f ∷ [])) ≡ f.offset + bytes_in structs m.pointer f.ctype
  last_of from [] f = refl
  last_of from (g ∷ fs) f = last_of (g.offset + bytes_in structs m.pointer g.ctype) fs f

  with_last : (room from : ℕ) (fs : List FieldView) (f : FieldView) → are_members_in m structs room from fs ≡ true → is_member_in m structs room (last_end from fs) f ≡ true → are_members_in m structs room from (fs ++ (f ∷ [])) ≡ true
  with_last room from [] f h k = and_from _ _ k refl
  with_last room from (g ∷ fs) f h k =
      let p = and_parts (is_member_in m structs room from g) (are_members_in m structs room (g.offset + bytes_in structs m.pointer g.ctype) fs) h in
      and_from _ _ p.0 (with_last room (g.offset + bytes_in structs m.pointer g.ctype) fs f p.1 k)

  record IsInOrder (p : Partial) : Type 0 where
    last : last_end 0 p.fields ≡ p.end
    align : 0 < p.align
    members : (room : ℕ) → p.end ≤ room → are_members_in m structs room 0 p.fields ≡ true

  one_added : (p : Partial) (d : Declared) → is_declarable m structs d ≡ true → IsInOrder p → IsInOrder (added structs m.pointer p d.0 d.1)
  one_added p d h o =
      let a = and_parts (is_complete structs m.pointer d.1) (has_class_bytes m d.1) h in
      let behind = rounded_up p.end (align_of_type structs m.pointer d.1) (some_align d.1 a.0) in
      let same = same_size d.1 a.0 in
      let align = o.align in let last = o.last in
      let f : FieldView = record { name = d.0; ctype = d.1; offset = round_up p.end (align_of_type structs m.pointer d.1) } in
      record {
        last = last_of 0 p.fields f ∙ ap (λ z. round_up p.end (align_of_type structs m.pointer d.1) + z) same;
        align = omega arith;
        members = λ room within. with_last room 0 p.fields f (o.members room (omega arith))
            (and_from _ _ a.1 (and_from _ _ (le-leb (last_end 0 p.fields) (round_up p.end (align_of_type structs m.pointer d.1)) (omega arith))
            (and_from _ _ (le-leb (round_up p.end (align_of_type structs m.pointer d.1)) room (omega arith)) (le-leb (bytes_in structs m.pointer d.1) (room - round_up p.end (align_of_type structs m.pointer d.1)) (omega arith)))));
      }

  all_in_order : (p : Partial) (members : List Declared) → are_declarable m structs members ≡ true → IsInOrder p → IsInOrder (all_added structs m.pointer p members)
  all_in_order p [] h o = o
  all_in_order p (d ∷ ds) h o =
      let a = and_parts (is_declarable m structs d) (are_declarable m structs ds) h in
      all_in_order (added structs m.pointer p d.0 d.1) ds a.1 (one_added p d a.0 o)

  made_of : (p : Partial) (s : StructView) → IsInOrder p → finished p ≡ Some s → is_laid_apart m structs s ≡ true
  made_of p s o = by_size (nat_le (round_up p.end p.align) most_bytes) refl
    where
      made : StructView
      made = record { fields = p.fields; complete = true; size = round_up p.end p.align; align = p.align; leaves = p.leaves; plain_leaves = p.plain_leaves }

      by_size : (c : Bool) → nat_le (round_up p.end p.align) most_bytes ≡ c → cond c (Some made) None ≡ Some s → is_laid_apart m structs s ≡ true
      by_size true f e = subst (λ z. is_laid_apart m structs z ≡ true) (some_same made s e) (and_from (is_extent made.size) _ f (o.members (round_up p.end p.align) (rounded_up p.end p.align o.align)))
      by_size false f e = absurd (none_some s e)

pub made_apart : (m : Model) → is_model m ≡ true → (structs : List StructView) (members : List Declared) → are_declarable m structs members ≡ true → (s : StructView) → layout_of structs m.pointer members ≡ Some s → is_laid_apart m structs s ≡ true
made_apart m model structs members h s e =
    let same = same_bytes m model class.Pointer in
    let some = some_bytes m class.Pointer in
    let pointer : 0 < m.pointer = omega arith in
    let empty : IsInOrder m structs pointer no_members = record { last = refl; align = omega arith; members = λ room within. refl } in
    made_of m structs pointer (all_added structs m.pointer no_members members) s (all_in_order m structs pointer no_members members h empty) e
