-- A value that is stored where a pointer to its type points leaves memory typed.
use Rattle.std.proofs.Common.{◌≡◌, inl, inr, ℕ, ◌<◌, ℤ, true, Option, Some, List, refl, sym, ◌∙◌, subst}
use Rattle.std.proofs.lemmas.Bool.{cases_Bool}
use Rattle.std.proofs.lemmas.Option.{same_Some}
use Rattle.c_layout.specs.StructViews.{StructView}
use Rattle.c_layout.specs.Types.{Ty, Pointer}
use Rattle.c_layout.specs.declared.data_model.Model.{Model}
use Rattle.c_layout.specs.declared.leaf_lists.Class.{Class}
use Rattle.c_layout.specs.declared.leaf_lists.Class.TheVariants as class
use Rattle.c_layout.specs.Leaves.{class_of}
use Rattle.cc_base.specs.declared.int_types.IntType.{IntType}
use Rattle.cfg.specs.declared.machine_instructions.Scalar as declared
use Rattle.cfg.specs.declared.machine_instructions.Scalar.TheVariants as of
use Rattle.memory_model.specs.Memory.Bytes.{MachinePointer}
use Rattle.memory_model.specs.Memory.Instances.{bytes_at}
use Rattle.memory_model.specs.Memory.Labels.{Labels}
use Rattle.memory_model.specs.Memory.ScalarSizes.{class_bytes}
use Rattle.memory_model.specs.Memory.Scalars.{Scalar, integer, pointer}
use Rattle.memory_model.specs.Effects.Worlds.{World, Reply, goes, stops, Left}
use Rattle.memory_model.specs.Effects.Accesses.{class_in, stored_bytes, stored, may_store, store_at, store_through, store}
use Rattle.memory_model.specs.Effects.ScalarBytes.{bits_in, scalar_bytes}
use Rattle.memory_model.specs.Effects.Touches.{Spot, touched, is_allocated, storage_at}
use Rattle.store_sound.proofs.operations.Classes.{class_above}
use Rattle.store_sound.proofs.operations.Reading.{behind_goes, IsTouched, touched_goes}
use Rattle.typed_programs.specs.Types.PointedTypes.{Target, Element, target_type, Known, Points, IsOfKind, number_kind, pointer_kind}
use Rattle.typed_programs.specs.Types.StandingTypes.{Stands}
use Rattle.typed_programs.specs.Types.TypedStates.{AreDeclared, IsTypedMemory}
use Rattle.typed_programs.specs.Types.EffectLaws.{HasIf, KeepsTypes, StoresKeepTypes}
use Rattle.typed_programs.proofs.memory.PointedPlaces.{points_at, pointer_there, same_pointed, pointer_wide}
use Rattle.typed_programs.proofs.memory.TypedBytes.{AreTypedBytes, AreTypedContents, typed_at, typed_refilled, numbers_typed, pointer_typed, set_keeps}

-- a store that goes on has written the bytes of the value
record IsStored (m : Model) (class : Class) (v : Scalar) (p : MachinePointer) (w after : World) : Type 0 where
  spot : Spot
  touches : IsTouched w p (class_bytes m class) true spot w
  made : after ≡ stored w class spot (scalar_bytes (class_bytes m class) v)

at_spot : (m : Model) (class : Class) (v kept : Scalar) (spot : Spot) (w after : World) → store_at m class v spot w ≡ goes kept after → after ≡ stored w class spot (scalar_bytes (class_bytes m class) v)
at_spot m class v kept spot w after goes_on = elim (cases_Bool (may_store m w class spot)) [
  | inl e ↦ (let g : goes v (stored w class spot (scalar_bytes (class_bytes m class) v)) ≡ goes kept after = rw e at goes_on in cc)
  | inr e ↦ (let g : ◌≡◌ {A = Reply Scalar} (stops Left w) (goes kept after) = rw e at goes_on in cc)
]

through : (m : Model) (kind : declared.Scalar) (v kept : Scalar) (p : MachinePointer) (w after : World) → store_through m kind v p w ≡ goes kept after → IsStored m (class_in kind) v p w after
through m kind v kept p w after goes_on =
    let class = class_in kind in
    let b = behind_goes (touched w p (class_bytes m class) true) (store_at m class v) kept after goes_on in
    let t = touched_goes w p (class_bytes m class) true b.0 b.1 b.2 in
    record {
      spot = b.0;
      touches = subst (IsTouched w p (class_bytes m class) true b.0) t.same t;
      made = at_spot m class v kept b.0 w after (subst (λ z. store_at m class v b.0 z ≡ goes kept after) t.same b.3);
    }

module _ (m : Model) (structs : List StructView) (types : ℕ → Option Ty) (p : MachinePointer) (w after : World) (are : AreDeclared types w.memory) (typed : IsTypedMemory structs m.pointer types w.memory) where
  -- contents that keep to types are written under the tags that are there
  written : (kind : declared.Scalar) (v : Scalar) (s : IsStored m (class_in kind) v p w after)
      → ((outer : Ty) → types s.spot.instance ≡ Some outer → AreTypedContents structs m.pointer types outer s.spot.offset (scalar_bytes (class_bytes m (class_in kind)) v)) → KeepsTypes structs m.pointer types w after
  written kind v s new =
      let i = s.spot.instance in
      let cs = scalar_bytes (class_bytes m (class_in kind)) v in
      subst (KeepsTypes structs m.pointer types w) (sym s.made)
      (set_keeps structs m.pointer types w i (stored_bytes (is_allocated (storage_at w.memory i)) (class_in kind) (bytes_at w.memory i) s.spot.offset cs) typed (λ outer is.
      subst (λ b. AreTypedBytes structs m.pointer types outer (stored_bytes b (class_in kind) (bytes_at w.memory i) s.spot.offset cs)) (sym (are i outer is))
      (typed_refilled structs m.pointer types outer (bytes_at w.memory i) s.spot.offset cs (typed_at structs m.pointer types w.memory typed i outer is) (new outer is))))

  stored_number : (k : IntType) (n : ℤ) (labels : Labels) (kept : Scalar) → store_through m (of.Int k) (integer n labels) p w ≡ goes kept after → KeepsTypes structs m.pointer types w after
  stored_number k n labels kept goes_on =
      let s = through m (of.Int k) (integer n labels) kept p w after goes_on in
      written (of.Int k) (integer n labels) s (λ outer is. numbers_typed structs m.pointer types outer s.spot.offset (class_bytes m (class_of k)) (bits_in (class_bytes m (class_of k)) n) labels)

  stored_pointer : (target : Target) (t : Ty) (q : MachinePointer) (kept : Scalar) → 0 < m.pointer → target_type target ≡ Pointer t → Points structs m.pointer types target p → Points structs m.pointer types (Element t) q → store_through m of.Pointer (pointer q) p w ≡ goes kept after → KeepsTypes structs m.pointer types w after
  stored_pointer target t q kept wide is points has goes_on =
      let s = through m of.Pointer (pointer q) kept p w after goes_on in
      let at = points_at structs m.pointer types target s.spot.instance s.spot.offset s.touches.lo s.touches.hi (class_bytes m class.Pointer) (subst (Points structs m.pointer types target) s.touches.pointer points) (class_above m class.Pointer) s.touches.below in
      written of.Pointer (pointer q) s (λ outer named.
      let same : at.outer ≡ outer = same_Some at.outer outer (sym at.is ∙ named) in
      let stands : Stands structs m.pointer outer (Pointer t) s.spot.offset = subst (λ z. Stands structs m.pointer z (Pointer t) s.spot.offset) same (subst (λ z. Stands structs m.pointer at.outer z s.spot.offset) is at.stands) in
      let there = pointer_there structs m.pointer types outer t s.spot.offset wide stands in
      pointer_typed structs m.pointer types outer s.spot.offset (class_bytes m class.Pointer) q (λ u byte. subst (λ z. Points structs m.pointer types (Element z) q) (same_pointed structs m.pointer types outer t u s.spot.offset there byte) has))

  by_kind : (target : Target) (t : Ty) (kind : declared.Scalar) (known : Option Known) (v kept : Scalar) → 0 < m.pointer → target_type target ≡ t → IsOfKind t kind known → Points structs m.pointer types target p → HasIf structs m.pointer types known v → store m kind (pointer p) v w ≡ goes kept after → KeepsTypes structs m.pointer types w after
  by_kind target _ _ _ (integer n labels) kept wide is (number_kind k some) points has goes_on = stored_number k n labels kept goes_on
  by_kind target _ _ _ (pointer q) kept wide is (number_kind k some) points has goes_on = absurd (cc)
  by_kind target _ _ _ (integer n labels) kept wide is (pointer_kind t) points has goes_on = absurd has
  by_kind target _ _ _ (pointer q) kept wide is (pointer_kind t) points has goes_on = stored_pointer target t q kept wide is points has goes_on

pub stores : StoresKeepTypes
stores m structs types target kind known p v kept w after model are typed points is has goes_on = by_kind m structs types p w after are typed target (target_type target) kind known v kept (pointer_wide m model) refl is points has goes_on
