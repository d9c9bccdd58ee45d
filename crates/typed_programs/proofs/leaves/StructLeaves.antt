-- Where a structure stands in an object, its leaves are those of the object there.
use Rattle.std.proofs.Common.{◌≡◌, ℕ, zero, suc, ◌+◌, ◌-◌, ◌*◌, ◌<◌, ◌≤◌, true, cond, nat_lt, ◌&&◌, List, length, inl, inr, Some, None, slice_get, arith, ap, sym, refl, ◌∙◌}
use Rattle.std.specs.Option.{option_or}
use Rattle.std.proofs.lemmas.Bool.{cases_lt, eq-eqb, lt-ltb}
use Rattle.std.proofs.lemmas.Option.{slice_get_within, get_or_from_slice_get, none-some}
use Rattle.c_layout.specs.declared.data_model.Model.{Model}
use Rattle.c_layout.specs.declared.leaf_lists.Leaf.{Leaf}
use Rattle.c_layout.specs.Leaves.{leaves_of}
use Rattle.c_layout.specs.StructViews.{StructView, no_struct, struct_at}
use Rattle.c_layout.specs.Types.{Ty, Struct}
use Rattle.typed_programs.specs.PlainUnits.ShortArrays.{has_short_arrays}
use Rattle.store_sound.specs.Concretization.Places.{OwnedByLeaf}
use Rattle.store_monotone.proofs.tags.TypeTags.{some_bytes}
use Rattle.run_exact.specs.TypedCopies.{IsSameLeaf, HasOwnLeaf, HasStructLeaf}
use Rattle.typed_programs.specs.Types.TypeBytes.{ScalarByte, own_struct, member_bytes, bytes_with, struct_bytes, scalar_byte, struct_byte}
use Rattle.typed_programs.specs.Types.StandingTypes.{AreLaidOut, Stands}
use Rattle.typed_programs.specs.Types.LeafTypes.{IsLeafOf, HasScalar}
use Rattle.typed_programs.specs.Types.TypedPrograms.{structs_of}
use Rattle.typed_programs.specs.Leaves.StructureLeaves.{StructuresHaveLeaves}
use Rattle.typed_programs.proofs.leaves.ByteEnds.{scalar_ends}
use Rattle.typed_programs.proofs.leaves.ScalarLeaves.{scalars_are_leaves, leaves_are_scalars}
use Rattle.typed_programs.proofs.leaves.EmptyTypes.{no_bytes}
use Rattle.typed_programs.proofs.leaves.ShortParts.{part_short}

-- the first byte of a structure that has bytes
first_byte : (structs : List StructView) (pointer_size index : ℕ) → index < length structs → 0 < (struct_at structs index).size → struct_byte structs pointer_size index (Struct index) 0 ≡ Some 0
unfolding struct_byte
first_byte structs pointer_size index there some = by_depth (length structs) (omega (arith, there))
  where
    own : own_struct structs pointer_size index (Struct index) 0 ≡ Some 0
    own = ap (λ c. cond (c && nat_lt 0 (struct_at structs index).size) (Some 0) None) (eq-eqb index index refl) ∙ ap (λ c. cond c (Some 0) None) (lt-ltb 0 (struct_at structs index).size some)

    by_depth : (depth : ℕ) → 0 < depth → struct_bytes structs pointer_size (own_struct structs pointer_size index) depth index 0 ≡ Some 0
    by_depth zero h = absurd (omega (arith, h))
    by_depth (suc depth) h = ap (λ o. option_or o (member_bytes (bytes_with structs pointer_size (own_struct structs pointer_size index) (struct_bytes structs pointer_size (own_struct structs pointer_size index) depth)) (struct_at structs index).fields 0)) own

module _ (m : Model) (structs : List StructView) (laid : AreLaidOut m structs) (outer : Ty) (index offset : ℕ) (there : index < length structs) (stands : Stands structs m.pointer outer (Struct index) offset) (small : has_short_arrays structs outer ≡ true) where
  abbrev leaves : List Leaf
  leaves = leaves_of structs m.pointer (Struct index)

  struct_short : 0 < (struct_at structs index).size → has_short_arrays structs (Struct index) ≡ true
  struct_short some = part_short structs m.pointer index outer small (offset + 0) 0 (stands.structures index 0 0 (first_byte structs m.pointer index there some))

  -- a structure that has leaves has bytes
  some_size : (number : ℕ) (leaf : Leaf) → slice_get leaves number ≡ Some leaf → 0 < (struct_at structs index).size
  some_size number leaf e = elim (cases_lt 0 (struct_at structs index).size) [
    | inl some ↦ some
    | inr none ↦ absurd (none-some leaf (sym (ap (λ xs. slice_get xs number) (no_bytes m structs laid (Struct index) refl (omega (arith, none)))) ∙ e))
  ]

  -- a byte of a scalar within the structure
  is_inside : (x : ℕ) (s : ScalarByte) → scalar_byte structs m.pointer (Struct index) x ≡ Some s → x < (struct_at structs index).size
  is_inside x s e = elim (cases_lt x (struct_at structs index).size) [
    | inl less ↦ less
    | inr more ↦ absurd (none-some s (sym (scalar_ends m structs laid.apart (Struct index) x more) ∙ e))
  ]

  -- a byte of the object is one of the structure
  inner_byte : (x at : ℕ) (s : ScalarByte) → at ≡ x → offset ≤ x → x - offset < (struct_at structs index).size → scalar_byte structs m.pointer outer at ≡ Some s → scalar_byte structs m.pointer (Struct index) (x - offset) ≡ Some s
  inner_byte x at s e from inside byte =
      let d : offset + (x - offset) ≡ at = omega (arith, e, from) in
      sym (stands.scalars (x - offset) inside) ∙ (ap (scalar_byte structs m.pointer outer) d ∙ byte)

-- the first byte of a leaf's scalar
first_scalar : (m : Model) (structs : List StructView) (t : Ty) (leaf : Leaf) (s : HasScalar m structs t leaf) → scalar_byte structs m.pointer t leaf.offset ≡ Some (record { ctype = s.scalar; at = 0 })
first_scalar m structs t leaf s = (let e : leaf.offset ≡ leaf.offset + 0 = omega arith in ap (scalar_byte structs m.pointer t) e ∙ s.bytes 0 (some_bytes m leaf.class))

same_leaf : (scalar : Ty) (leaf own : Leaf) (offset : ℕ) → IsLeafOf scalar leaf → IsLeafOf scalar own → own.offset ≡ offset + leaf.offset → IsSameLeaf leaf own offset
same_leaf scalar leaf own offset a b there = record { alone = a.alone; class = b.class ∙ sym a.class; signed = b.signed ∙ sym a.signed; there = there }

pub structures_have_leaves : StructuresHaveLeaves
structures_have_leaves flow outer base index offset view laid object found stands = record { leaves = own_leaf; only = struct_leaf }
  where
    there : index < length (structs_of flow)
    there = slice_get_within (structs_of flow) index view found

    size : (struct_at (structs_of flow) index).size ≡ view.size
    size = ap (λ (s : StructView). s.size) (get_or_from_slice_get (structs_of flow) index view no_struct found)

    short : 0 < (struct_at (structs_of flow) index).size → has_short_arrays (structs_of flow) (Struct index) ≡ true
    short some = struct_short flow.model (structs_of flow) laid outer index offset there stands object.small some

    own_leaf : (number : ℕ) (leaf : Leaf) → slice_get (leaves_of (structs_of flow) flow.model.pointer (Struct index)) number ≡ Some leaf → HasOwnLeaf flow index view base offset leaf
    own_leaf number leaf e =
        let s = leaves_are_scalars flow.model (structs_of flow) laid (Struct index) refl (short (some_size flow.model (structs_of flow) laid outer index offset there stands object.small number leaf e)) number leaf e in
        let first = first_scalar flow.model (structs_of flow) (Struct index) leaf s in
        let inside = is_inside flow.model (structs_of flow) laid outer index offset there stands object.small leaf.offset (record { ctype = s.scalar; at = 0 }) first in
        let r = scalars_are_leaves flow.model (structs_of flow) laid outer object.kinds object.small (offset + leaf.offset) 0 s.scalar (stands.scalars leaf.offset inside ∙ first) in
        let own = r.2 in
        let sum : r.0 + 0 ≡ offset + leaf.offset = r.1 in
        let begins : own.leaf.offset ≡ r.0 = own.there in
        record {
          number = own.number;
          own = own.leaf;
          among = ap (λ cells. slice_get cells own.number) object.leaves ∙ own.among;
          same = same_leaf s.scalar leaf own.leaf offset s.is own.is (omega (arith, sum, begins));
        }

    struct_leaf : (number x k : ℕ) (own : Leaf) → slice_get base.shape.cells number ≡ Some own → offset ≤ x → x < offset + view.size → OwnedByLeaf flow.model own x k → HasStructLeaf flow index view base offset own
    struct_leaf number x k own e from to owned =
        let s = leaves_are_scalars flow.model (structs_of flow) laid outer object.kinds object.small number own (ap (λ cells. slice_get cells number) (sym object.leaves) ∙ e) in
        let few = owned.place.few in
        let one = s.is.alone in
        let turn : owned.place.turn ≡ 0 = omega (arith, few, one) in
        let begins : owned.start ≡ own.offset + own.stride * 0 = owned.place.there ∙ ap (λ t. own.offset + own.stride * t) turn in
        let sum = owned.there in
        let at : own.offset + k ≡ x = omega (arith, begins, sum) in
        let inside : x - offset < (struct_at (structs_of flow) index).size = omega (arith, from, to, size) in
        let byte = inner_byte flow.model (structs_of flow) laid outer index offset there stands object.small x (own.offset + k) (record { ctype = s.scalar; at = k }) at from inside (s.bytes k owned.small) in
        let r = scalars_are_leaves flow.model (structs_of flow) laid (Struct index) refl (short (omega (arith, inside))) (x - offset) k s.scalar byte in
        let has = r.2 in
        let rest : r.0 + k ≡ x - offset = r.1 in
        let first : has.leaf.offset ≡ r.0 = has.there in
        record {
          number = has.number;
          leaf = has.leaf;
          among = has.among;
          same = same_leaf s.scalar has.leaf own offset has.is s.is (omega (arith, at, rest, first, from));
        }
