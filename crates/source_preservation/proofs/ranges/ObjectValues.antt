-- The values of named objects in proper memory, and of loads from it.
use Rattle.std.proofs.Common.{◌≡◌, ℕ, ◌+◌, ◌≤◌, true, Option, Some, None, List, length, drop, arith, subst, sym, refl, ap, ◌∙◌}
use Rattle.std.specs.Prelude.{ℤ}
use Rattle.std.proofs.lemmas.List.{length-take, length-map}
use Rattle.cc_base.specs.IntegerTypes.{in_type}
use Rattle.cc_base.specs.declared.int_types.IntType.{IntType}
use Rattle.c_layout.specs.declared.data_model.Model.{Model}
use Rattle.lower_conditions.specs.declared.branch_tests.NamedObject.{NamedObject}
use Rattle.cfg.specs.declared.machine_instructions.Scalar.TheVariants as of
use Rattle.memory_model.specs.Memory.Labels.{Labels}
use Rattle.memory_model.specs.Memory.Bytes.{MachinePointer, Content, Byte}
use Rattle.memory_model.specs.Memory.Instances.{Memory, bytes_at}
use Rattle.memory_model.specs.Memory.Numbers.{Labelled}
use Rattle.memory_model.specs.Memory.ScalarSizes.{class_bytes}
use Rattle.memory_model.specs.Memory.Scalars.{integer, pointer}
use Rattle.memory_model.specs.Effects.Worlds.{World, goes}
use Rattle.memory_model.specs.Effects.ScalarBytes.{region, contents}
use Rattle.memory_model.specs.Effects.Accesses.{class_in, numbers_in, integer_in, pointer_in, pointer_scalar, scalar_in, load}
use Rattle.memory_model.specs.Effects.Tests.{object, object_bytes, side_scalar}
use Rattle.store_sound.proofs.operations.Slices.{get_map}
use Rattle.store_sound.proofs.operations.Reading.{region_at}
use Rattle.store_sound.proofs.operations.MachineLoads.{HasRead, load_goes}
use Rattle.source_preservation.specs.ValueTyping.Marks.{IsNumber, IsPointer}
use Rattle.source_preservation.specs.ValueTyping.ProperMemory.{IsProper, IsProperMemory}
use Rattle.source_preservation.specs.ValueTyping.MarkOperations.{IsKind}
use Rattle.source_preservation.proofs.ranges.LoadedNumbers.{AreProper, loaded_in}

-- ---- contents of memory

proper_region : (m : Model) (memory : Memory) (i offset size : ℕ) → IsProperMemory m memory → AreProper m (contents (region (bytes_at memory i) offset size))
proper_region m memory i offset size proper k c e =
    let r = get_map (λ b. b.content) (region (bytes_at memory i) offset size) k c e in
    let s = region_at (bytes_at memory i) offset size k (offset + k) r.0 r.1 refl in
    let p : IsProper m r.0.content = proper i (offset + k) r.0 s.1 in
    subst (IsProper m) r.2 p

pub region_long : (bytes : List Byte) (offset size : ℕ) → length (contents (region bytes offset size)) ≤ size
region_long bytes offset size = let e = length-map (region bytes offset size) (λ b. b.content) in let f = length-take size (drop offset bytes) in omega arith

-- ---- scalars of a kind

no_pointer : (kind : IntType) (o : Option (List Labelled)) (p : MachinePointer) → integer_in kind o ≡ Some (pointer p) → ⊥
no_pointer kind None p e = cc
no_pointer kind (Some ns) p e = cc

no_number : (o : Option MachinePointer) (n : ℤ) (labels : Labels) → pointer_scalar o ≡ Some (integer n labels) → ⊥
no_number None n labels e = cc
no_number (Some p) n labels e = cc

-- an integer object's value is a number, and a pointer object's a pointer
pub integer_read : (kind : IntType) (cs : List Content) (p : MachinePointer) → scalar_in (of.Int kind) cs ≡ Some (pointer p) → ⊥
integer_read kind cs p e = no_pointer kind (numbers_in cs) p e

pub pointer_read : (cs : List Content) (n : ℤ) (labels : Labels) → scalar_in of.Pointer cs ≡ Some (integer n labels) → ⊥
pointer_read cs n labels e = no_number (pointer_in cs) n labels e

-- ---- objects

module _ (m : Model) (names : ℕ → Option ℕ) (memory : Memory) where
  pub integer_object : (o : NamedObject) (kind : IntType) (p : MachinePointer) → o.kind ≡ of.Int kind → IsPointer m names memory o p → ⊥
  integer_object o kind p is value = integer_read kind (contents (object_bytes m memory value.instance (of.Int kind))) p (subst (λ k. side_scalar m memory (object value.instance k) ≡ Some (pointer p)) is value.is)

  pub pointer_object : (o : NamedObject) (n : ℤ) → o.kind ≡ of.Pointer → IsNumber m names memory o n → ⊥
  pointer_object o n is value = pointer_read (contents (object_bytes m memory value.instance of.Pointer)) n value.labels (subst (λ k. side_scalar m memory (object value.instance k) ≡ Some (integer n value.labels)) is value.is)

  -- the value of an integer object is a number of its type
  pub object_in : (o : NamedObject) (kind : IntType) (n : ℤ) → IsProperMemory m memory → IsKind m kind → o.kind ≡ of.Int kind → IsNumber m names memory o n → in_type kind n ≡ true
  object_in o kind n proper is_kind is value =
      let read : side_scalar m memory (object value.instance (of.Int kind)) ≡ Some (integer n value.labels) = subst (λ k. side_scalar m memory (object value.instance k) ≡ Some (integer n value.labels)) is value.is in
      loaded_in m kind (contents (region (bytes_at memory value.instance) 0 kind.bytes)) n value.labels is_kind.size (region_long (bytes_at memory value.instance) 0 kind.bytes) (proper_region m memory value.instance 0 kind.bytes proper) read

-- ---- loads

-- what is loaded as an integer
pub loads_number : (m : Model) (kind : IntType) (p : MachinePointer) (w after : World) (n : ℤ) (labels : Labels) → IsProperMemory m w.memory → IsKind m kind → load m (of.Int kind) (pointer p) w ≡ goes (integer n labels) after → in_type kind n ≡ true
loads_number m kind p w after n labels proper is_kind e =
    let r = load_goes m (of.Int kind) p w after (integer n labels) e in
    let read : HasRead m (of.Int kind) w p r.0 = r.1 in
    let size : class_bytes m (class_in (of.Int kind)) ≡ kind.bytes = is_kind.bytes in
    let cs : List Content = contents (region (bytes_at w.memory read.i) read.offset (class_bytes m (class_in (of.Int kind)))) in
    let long : length cs ≤ kind.bytes = subst (λ n. length cs ≤ n) size (region_long (bytes_at w.memory read.i) read.offset (class_bytes m (class_in (of.Int kind)))) in
    let value : scalar_in (of.Int kind) cs ≡ Some (integer n labels) = ap (scalar_in (of.Int kind)) (sym read.here) ∙ r.3 in
    loaded_in m kind cs n labels is_kind.size long (proper_region m w.memory read.i read.offset _ proper) value
