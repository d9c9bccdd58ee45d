-- A value that is loaded where a pointer to its type points is of the type.
use Rattle.std.proofs.Common.{◌≡◌, ◌⊎◌, inl, inr, ℕ, ◌<◌, true, cond, Option, Some, None, List, [], ◌∷◌, refl, sym, ap, ◌∙◌, subst, arith}
use Rattle.std.specs.Prelude.{slice_get, ◌==◌}
use Rattle.std.proofs.lemmas.Bool.{cases_Bool, and_parts, eqb-true}
use Rattle.std.proofs.lemmas.Option.{same_Some}
use Rattle.c_layout.specs.StructViews.{StructView}
use Rattle.c_layout.specs.Types.{Ty, Pointer}
use Rattle.c_layout.specs.declared.data_model.Model.{Model}
use Rattle.c_layout.specs.declared.leaf_lists.Class.TheVariants as class
use Rattle.cfg.specs.declared.machine_instructions.Scalar as declared
use Rattle.cfg.specs.declared.machine_instructions.Scalar.TheVariants as of
use Rattle.memory_model.specs.Memory.Bytes.{MachinePointer, null, Content, indeterminate, number, part}
use Rattle.memory_model.specs.Memory.Instances.{bytes_at}
use Rattle.memory_model.specs.Memory.ScalarSizes.{class_bytes}
use Rattle.memory_model.specs.Memory.Scalars.{Scalar, pointer}
use Rattle.memory_model.specs.Effects.Worlds.{World, goes}
use Rattle.memory_model.specs.Effects.Accesses.{same_pointer, is_part, are_parts, are_zeros, pointer_of_parts, pointer_in, pointer_scalar, scalar_in, load}
use Rattle.memory_model.specs.Effects.ScalarBytes.{region}
use Rattle.store_sound.proofs.operations.Classes.{class_above}
use Rattle.store_sound.proofs.operations.MachineLoads.{load_goes, load_same}
use Rattle.store_sound.proofs.operations.Reading.{region_at}
use Rattle.store_sound.proofs.operations.Slices.{get_map}
use Rattle.typed_programs.specs.Types.PointedTypes.{Target, Element, target_type, Known, Pointing, Points, Has, IsOfKind, number_kind, pointer_kind}
use Rattle.typed_programs.specs.Types.StandingTypes.{Stands}
use Rattle.typed_programs.specs.Types.TypedStates.{IsTypedMemory}
use Rattle.typed_programs.specs.Types.EffectLaws.{HasIf, LoadsAreTyped}
use Rattle.typed_programs.proofs.memory.PointedPlaces.{points_at, pointer_there, pointer_wide}

-- what contents are as a pointer: null, or the pointer whose first part is the first of them
record IsPointerOf (cs : List Content) (p : MachinePointer) : Type 0 where
  is : (p ≡ null) ⊎ (slice_get cs 0 ≡ Some (part p 0))

parts_first : (p : MachinePointer) (k : ℕ) (cs : List Content) → are_parts p 0 (part p k ∷ cs) ≡ true → k ≡ 0
parts_first p k cs are =
    let a = and_parts (is_part p 0 (part p k)) (are_parts p 1 cs) are in
    let b = and_parts (same_pointer p p) (0 == k) a.0 in
    sym (eqb-true 0 k b.1)

by_parts : (p q : MachinePointer) (k : ℕ) (cs : List Content) → pointer_of_parts p (part p k ∷ cs) ≡ Some q → IsPointerOf (part p k ∷ cs) q
by_parts p q k cs is = elim (cases_Bool (are_parts p 0 (part p k ∷ cs))) [
  | inl e ↦ (let f : Some p ≡ Some q = rw e at is in
      let same : p ≡ q = same_Some p q f in
      record { is = inr (ap (λ j. Some (part p j)) (parts_first p k cs e) ∙ ap (λ z. Some (part z 0)) same) })
  | inr e ↦ (let f : ◌≡◌ {A = Option MachinePointer} None (Some q) = rw e at is in absurd (cc))
]

by_zeros : (q : MachinePointer) (cs ds : List Content) → cond (are_zeros ds) (Some null) None ≡ Some q → IsPointerOf cs q
by_zeros q cs ds is = elim (cases_Bool (are_zeros ds)) [
  | inl e ↦ (let f : Some null ≡ Some q = rw e at is in record { is = inl (sym (same_Some null q f)) })
  | inr e ↦ (let f : ◌≡◌ {A = Option MachinePointer} None (Some q) = rw e at is in absurd (cc))
]

pointer_of : (cs : List Content) (q : MachinePointer) → pointer_in cs ≡ Some q → IsPointerOf cs q
pointer_of [] q is = absurd (cc)
pointer_of (indeterminate ∷ cs) q is = by_zeros q (indeterminate ∷ cs) (indeterminate ∷ cs) is
pointer_of (number n labels ∷ cs) q is = by_zeros q (number n labels ∷ cs) (number n labels ∷ cs) is
pointer_of (part p k ∷ cs) q is = by_parts p q k cs is

scalar_of : (cs : List Content) (v : Scalar) → scalar_in of.Pointer cs ≡ Some v → (q : MachinePointer) × (v ≡ pointer q) × IsPointerOf cs q
scalar_of cs v is = by_found (pointer_in cs) refl is
  where
    by_found : (o : Option MachinePointer) → pointer_in cs ≡ o → pointer_scalar o ≡ Some v → (q : MachinePointer) × (v ≡ pointer q) × IsPointerOf cs q
    by_found None e f = absurd (cc)
    by_found (Some q) e f = (q, sym (same_Some (pointer q) v f), pointer_of cs q e)

module _ (m : Model) (structs : List StructView) (types : ℕ → Option Ty) (p : MachinePointer) (v : Scalar) (w after : World) where
  loaded_pointer : (target : Target) (t : Ty) → 0 < m.pointer → target_type target ≡ Pointer t → IsTypedMemory structs m.pointer types w.memory → Points structs m.pointer types target p → load m of.Pointer (pointer p) w ≡ goes v after → Has structs m.pointer types (Pointing (Element t)) v
  loaded_pointer target t wide is typed points goes_on =
      let r = load_goes m of.Pointer p w after v goes_on in
      let cs = r.0 in
      let read = r.1 in
      let found = scalar_of cs v r.3 in
      let at = points_at structs m.pointer types target read.i read.offset read.lo read.hi (class_bytes m class.Pointer) (subst (Points structs m.pointer types target) read.pointer points) (class_above m class.Pointer) read.below in
      let there = pointer_there structs m.pointer types at.outer t read.offset wide (subst (λ z. Stands structs m.pointer at.outer z read.offset) is at.stands) in
      subst (Has structs m.pointer types (Pointing (Element t))) (sym found.1) (elim found.2.is [
        | inl none ↦ subst (Points structs m.pointer types (Element t)) (sym none) tt
        | inr first ↦ (let bytes = region (bytes_at w.memory read.i) read.offset (class_bytes m class.Pointer) in
            let g = get_map (λ b. b.content) bytes 0 (part found.0 0) (sym (ap (λ z. slice_get z 0) read.here) ∙ first) in
            let byte = region_at (bytes_at w.memory read.i) read.offset (class_bytes m class.Pointer) 0 read.offset g.0 g.1 (omega arith) in
            typed read.i read.offset at.outer t g.0 found.0 at.is byte.1 g.2 there)
      ])

  by_kind : (target : Target) (t : Ty) (kind : declared.Scalar) (known : Option Known) → 0 < m.pointer → target_type target ≡ t → IsOfKind t kind known → IsTypedMemory structs m.pointer types w.memory → Points structs m.pointer types target p → load m kind (pointer p) w ≡ goes v after → HasIf structs m.pointer types known v
  by_kind target _ _ _ wide is (number_kind k some) typed points goes_on = tt
  by_kind target _ _ _ wide is (pointer_kind t) typed points goes_on = loaded_pointer target t wide is typed points goes_on

pub loads : LoadsAreTyped
loads m structs types target kind known p v w after model typed points is goes_on = record {
  has = by_kind m structs types p v w after target (target_type target) kind known (pointer_wide m model) refl is typed points goes_on;
  memory = load_same m kind p w after v goes_on;
}
