-- What effects on memory do to pointers that have types, where they go on.
use Rattle.std.specs.Prelude.{◌≡◌, ℕ, ◌+◌, ◌<◌, ℤ, Bool, true, List, Option, Some, None, length}
use Rattle.cc_base.specs.declared.int_types.IntType.{IntType}
use Rattle.c_layout.specs.CheckedUnits.{UnitView}
use Rattle.c_layout.specs.Layout.{size_of_type}
use Rattle.c_layout.specs.Models.{is_model}
use Rattle.c_layout.specs.StructViews.{StructView}
use Rattle.c_layout.specs.Types.{Ty, Struct}
use Rattle.c_layout.specs.declared.data_model.Model.{Model}
use Rattle.c_layout.specs.declared.leaf_lists.Leaf.{Leaf}
use Rattle.cfg.specs.declared.machine_instructions.Scalar as declared
use Rattle.memory_model.specs.Memory.Bytes.{MachinePointer}
use Rattle.memory_model.specs.Memory.Scalars.{Scalar, pointer}
use Rattle.memory_model.specs.Effects.Worlds.{World, goes}
use Rattle.memory_model.specs.Effects.Accesses.{load, store}
use Rattle.memory_model.specs.Effects.NumberedTables.{put_at}
use Rattle.memory_model.specs.Effects.ObjectEffects.{next_instance, entered, left, forgotten, cleared, spelled}
use Rattle.memory_model.specs.Effects.PointerEffects.{narrow, shift}
use Rattle.memory_model.specs.Effects.StructCopies.{copy_struct}
use Rattle.memory_model.specs.Effects.Tests.{SideTest, pass_test, pass_case}
use Rattle.memory_model.specs.Effects.Touches.{storage_at}
use Rattle.memory_model.specs.Effects.UnitStarts.{start_world}
use Rattle.typed_programs.specs.Types.StandingTypes.{Stands}
use Rattle.typed_programs.specs.Types.PointedTypes.{Target, Element, target_type, Known, Pointing, Points, Has, IsOfKind}
use Rattle.typed_programs.specs.Types.TypedStates.{AreDeclared, IsTypedMemory}
use Rattle.typed_programs.specs.Types.TypedPrograms.{first_types, HasTypedObjects}

abbrev pub HasIf : List StructView → ℕ → (ℕ → Option Ty) → Option Known → Scalar → Type 0
HasIf structs pointer_size types None v = Unit {0}
HasIf structs pointer_size types (Some k) v = Has structs pointer_size types k v

-- memory stays as it is, and the value has what is known of it
pub record GivesKnown (structs : List StructView) (pointer_size : ℕ) (types : ℕ → Option Ty) (known : Option Known) (v : Scalar) (before after : World) : Type 0 where
  pub has : HasIf structs pointer_size types known v
  pub memory : after.memory ≡ before.memory

-- pointers in memory keep to types, and there are as many instances of the same storage
pub record KeepsTypes (structs : List StructView) (pointer_size : ℕ) (types : ℕ → Option Ty) (before after : World) : Type 0 where
  pub memory : IsTypedMemory structs pointer_size types after.memory
  pub long : length after.memory ≡ length before.memory
  pub storages : (i : ℕ) → storage_at after.memory i ≡ storage_at before.memory i

-- ---- pointers

abbrev pub NarrowsAreTyped : Type 0
NarrowsAreTyped = (structs : List StructView) (pointer_size : ℕ) (types : ℕ → Option Ty) (target : Target) (inner : Ty) (p : MachinePointer) (offset size : ℕ) (v : Scalar) (w after : World)
    → Points structs pointer_size types target p → Stands structs pointer_size (target_type target) inner offset → size ≡ size_of_type structs pointer_size inner → 0 < size
    → narrow (pointer p) offset size w ≡ goes v after → GivesKnown structs pointer_size types (Some (Pointing (Element inner))) v w after

abbrev pub ShiftsAreTyped : Type 0
ShiftsAreTyped = (structs : List StructView) (pointer_size : ℕ) (types : ℕ → Option Ty) (t : Ty) (p : MachinePointer) (by : Scalar) (size : ℕ) (back : Bool) (v : Scalar) (w after : World)
    → Points structs pointer_size types (Element t) p → size ≡ size_of_type structs pointer_size t → 0 < size
    → shift (pointer p) by size back w ≡ goes v after → GivesKnown structs pointer_size types (Some (Pointing (Element t))) v w after

-- ---- accesses

abbrev pub LoadsAreTyped : Type 0
LoadsAreTyped = (m : Model) (structs : List StructView) (types : ℕ → Option Ty) (target : Target) (kind : declared.Scalar) (known : Option Known) (p : MachinePointer) (v : Scalar) (w after : World)
    → is_model m ≡ true → IsTypedMemory structs m.pointer types w.memory → Points structs m.pointer types target p → IsOfKind (target_type target) kind known
    → load m kind (pointer p) w ≡ goes v after → GivesKnown structs m.pointer types known v w after

-- the value is that which was stored; a store to an allocated object that is too short would move bytes
abbrev pub StoresKeepTypes : Type 0
StoresKeepTypes = (m : Model) (structs : List StructView) (types : ℕ → Option Ty) (target : Target) (kind : declared.Scalar) (known : Option Known) (p : MachinePointer) (v kept : Scalar) (w after : World)
    → is_model m ≡ true → AreDeclared types w.memory → IsTypedMemory structs m.pointer types w.memory → Points structs m.pointer types target p → IsOfKind (target_type target) kind known → HasIf structs m.pointer types known v
    → store m kind (pointer p) v w ≡ goes kept after → KeepsTypes structs m.pointer types w after

-- a struct is copied between places of its type; the pointer to the target is given
abbrev pub CopiesKeepTypes : Type 0
CopiesKeepTypes = (m : Model) (structs : List StructView) (types : ℕ → Option Ty) (to from : Target) (index : ℕ) (leaves : List Leaf) (p q : MachinePointer) (v : Scalar) (w after : World)
    → IsTypedMemory structs m.pointer types w.memory → Points structs m.pointer types to p → target_type to ≡ Struct index → Points structs m.pointer types from q → target_type from ≡ Struct index
    → copy_struct m leaves (size_of_type structs m.pointer (Struct index)) (pointer p) (pointer q) w ≡ goes v after → KeepsTypes structs m.pointer types w after × (v ≡ pointer p)

-- ---- objects

-- a fresh instance of any type has no pointers yet, and pointers of before point to what they did
abbrev pub EntersKeepTypes : Type 0
EntersKeepTypes = (m : Model) (structs : List StructView) (pointer_size : ℕ) (types : ℕ → Option Ty) (t : Ty) (leaves : List Leaf) (size : ℕ) (w : World)
    → ((i : ℕ) (u : Ty) → types i ≡ Some u → i < length w.memory) → AreDeclared types w.memory → IsTypedMemory structs pointer_size types w.memory
    → IsTypedMemory structs pointer_size (put_at types (next_instance w) t) (entered m leaves size w).memory × (length (entered m leaves size w).memory ≡ length w.memory + 1) × AreDeclared (put_at types (next_instance w) t) (entered m leaves size w).memory

abbrev pub LeavesKeepTypes : Type 0
LeavesKeepTypes = (structs : List StructView) (pointer_size : ℕ) (types : ℕ → Option Ty) (i : ℕ) (w : World) → IsTypedMemory structs pointer_size types w.memory → KeepsTypes structs pointer_size types w (left i w)

abbrev pub ForgetsKeepTypes : Type 0
ForgetsKeepTypes = (structs : List StructView) (pointer_size : ℕ) (types : ℕ → Option Ty) (i : ℕ) (w : World) → IsTypedMemory structs pointer_size types w.memory → KeepsTypes structs pointer_size types w (forgotten i w)

abbrev pub ClearsKeepTypes : Type 0
ClearsKeepTypes = (structs : List StructView) (pointer_size : ℕ) (types : ℕ → Option Ty) (i : ℕ) (w : World) → IsTypedMemory structs pointer_size types w.memory → KeepsTypes structs pointer_size types w (cleared i w)

abbrev pub SpellsKeepTypes : Type 0
SpellsKeepTypes = (structs : List StructView) (pointer_size : ℕ) (types : ℕ → Option Ty) (i offset room : ℕ) (text : List ℕ) (w : World) → IsTypedMemory structs pointer_size types w.memory → KeepsTypes structs pointer_size types w (spelled i offset room text w)

-- ---- tests

-- a test on an edge drops labels alone
abbrev pub TestsKeepTypes : Type 0
TestsKeepTypes = (m : Model) (structs : List StructView) (pointer_size : ℕ) (types : ℕ → Option Ty) (t : SideTest) (w after : World) (done : _) → IsTypedMemory structs pointer_size types w.memory → pass_test m t w ≡ goes done after → KeepsTypes structs pointer_size types w after

abbrev pub CasesKeepTypes : Type 0
CasesKeepTypes = (m : Model) (structs : List StructView) (pointer_size : ℕ) (types : ℕ → Option Ty) (i : ℕ) (kind : IntType) (value : ℤ) (w after : World) (done : _) → IsTypedMemory structs pointer_size types w.memory → pass_case m i kind value w ≡ goes done after → KeepsTypes structs pointer_size types w after

-- ---- the start

-- the first memory of a unit whose initializers are typed
abbrev pub StartsAreTyped : Type 0
StartsAreTyped = (u : UnitView) (draws : List ℤ) (w : World) (done : _) → HasTypedObjects u → start_world u draws ≡ goes done w
    → IsTypedMemory u.structs u.model.pointer (first_types u) w.memory × ((i : ℕ) (t : Ty) → first_types u i ≡ Some t → i < length w.memory) × AreDeclared (first_types u) w.memory
