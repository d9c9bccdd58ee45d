-- What is loaded and stored through the pointer to a whole object that has its bytes.
use Rattle.std.proofs.Common.{◌≡◌, ℕ, suc, ◌<◌, ◌≤◌, Bool, true, not, ◌&&◌, ◌==◌, Option, Some, List, [], ◌∷◌, ◌++◌, length, take, arith, subst, sym, refl, ap, ◌∙◌, inl, inr}
use Rattle.std.specs.Prelude.{slice_get}
use Rattle.std.proofs.lemmas.Bool.{cases_Bool, cond_both}
use Rattle.std.proofs.lemmas.Option.{slice_get_within}
use Rattle.c_layout.specs.declared.data_model.Model.{Model}
use Rattle.c_layout.specs.declared.leaf_lists.Class.{Class}
use Rattle.c_layout.specs.declared.leaf_lists.Class.TheVariants.{Char, Pointer}
use Rattle.lower_conditions.specs.declared.branch_tests.NamedObject.{NamedObject}
use Rattle.cfg.specs.declared.machine_instructions.Scalar as declared
use Rattle.cfg.specs.declared.machine_instructions.Scalar.TheVariants as of
use Rattle.memory_model.specs.Memory.Labels.{Labels}
use Rattle.memory_model.specs.Memory.Bytes.{MachinePointer, null, into, Content, Byte}
use Rattle.memory_model.specs.Memory.Instances.{Memory, Instance, bytes_of, bytes_at}
use Rattle.memory_model.specs.Memory.ScalarSizes.{same_class, class_bytes}
use Rattle.memory_model.specs.Memory.Scalars.{Scalar, integer, pointer}
use Rattle.memory_model.specs.Effects.Worlds.{World, Reply, goes, stops, Left, Stuck}
use Rattle.memory_model.specs.Effects.Operands.{is_of_kind}
use Rattle.memory_model.specs.Effects.ScalarBytes.{scalar_bytes, filled, tagged_from, replaced, refilled, region, contents}
use Rattle.memory_model.specs.Effects.Touches.{Spot, touched, is_allocated, storage_at, set_bytes}
use Rattle.memory_model.specs.Effects.Accesses.{class_in, scalar_in, stored_bytes, stored, may_store, store_at, store_through, store, load}
use Rattle.memory_model.specs.Effects.Tests.{object, side_scalar, scalar_size}
use Rattle.semantics.specs.SourceMachine.SourceStates.{instance_of}
use Rattle.store_sound.proofs.operations.Slices.{get_set_same}
use Rattle.store_sound.proofs.operations.Reading.{behind_goes, touched_goes}
use Rattle.store_sound.proofs.operations.MachineLoads.{HasRead, load_goes}
use Rattle.store_sound.proofs.operations.MachineStores.{scalar_length, set_is, instance_in, store_spot}
use Rattle.source_preservation.specs.ValueTyping.Marks.{IsWhole, IsValue, Has, mark_of}
use Rattle.source_preservation.specs.ValueTyping.MarkOperations.{IsScalar}
use Rattle.source_preservation.proofs.ranges.ReadBack.{number_back, pointer_back}

-- ---- the first bytes of an object

tagged_contents : (class : Class) (from : ℕ) (cs : List Content) (rest : List Byte) → contents (take (length cs) (tagged_from class from cs ++ rest)) ≡ cs
tagged_contents class from [] rest = refl
tagged_contents class from (c ∷ cs) rest = ap (λ cs. c ∷ cs) (tagged_contents class (suc from) cs rest)

filled_contents : (bs : List Byte) (cs : List Content) → length cs ≤ length bs → contents (take (length cs) (filled bs cs)) ≡ cs
filled_contents bs [] h = refl
filled_contents [] (c ∷ cs) h = absurd (omega arith)
filled_contents (b ∷ bs) (c ∷ cs) h = ap (λ cs. c ∷ cs) (filled_contents bs cs (omega arith))

-- what is stored at the start is read there
stored_contents : (allocated : Bool) (class : Class) (old : List Byte) (cs : List Content) → length cs ≤ length old → contents (take (length cs) (stored_bytes allocated class old 0 cs)) ≡ cs
stored_contents allocated class old cs h = cond_both (allocated && not (same_class class Char)) (replaced old 0 (tagged_from class 0 cs)) (refilled old 0 cs) (λ bytes. contents (take (length cs) bytes) ≡ cs) (λ _. tagged_contents class 0 cs _) (λ _. filled_contents old cs h)

bytes_set : (memory : Memory) (i : ℕ) (it : Instance) (bytes : List Byte) → slice_get memory i ≡ Some it → bytes_at (set_bytes memory i bytes) i ≡ bytes
bytes_set memory i it bytes e = ap (λ m. bytes_at m i) (set_is memory i it bytes e) ∙ ap bytes_of (get_set_same memory i (record it { bytes = bytes }) (slice_get_within memory i it e))

-- ---- sizes

size_is : (m : Model) (kind : declared.Scalar) → IsScalar m kind → scalar_size m kind ≡ class_bytes m (class_in kind)
size_is m (of.Int kind) is = sym is.bytes
size_is m of.Pointer is = refl

-- ---- pointers

abbrev instance_of_pointer : MachinePointer → ℕ
instance_of_pointer null = 0
instance_of_pointer (into i offset lo hi) = i

abbrev offset_of_pointer : MachinePointer → ℕ
offset_of_pointer null = 0
offset_of_pointer (into i offset lo hi) = offset

abbrev end_of_pointer : MachinePointer → ℕ
end_of_pointer null = 0
end_of_pointer (into i offset lo hi) = hi

module _ (m : Model) (names : ℕ → Option ℕ) where
  -- ---- values

  -- a scalar of the object's bytes is its value
  value_of : (o : NamedObject) (memory : Memory) (v : Scalar) (i : ℕ) → instance_of names o.object ≡ Some i → side_scalar m memory (object i o.kind) ≡ Some v → IsValue m names memory o v
  value_of o memory (integer n labels) i named is = record { instance = i; labels = labels; named = named; is = is }
  value_of o memory (pointer p) i named is = record { instance = i; named = named; is = is }

  -- ---- loads

  pub loaded_whole : (o : NamedObject) (p : MachinePointer) (w after : World) (v : Scalar) → IsScalar m o.kind → IsWhole m names w.memory o.object p → load m o.kind (pointer p) w ≡ goes v after → IsValue m names w.memory o v
  loaded_whole o p w after v scalar whole e =
      let r = load_goes m o.kind p w after v e in
      let read : HasRead m o.kind w p r.0 = r.1 in
      let same : into read.i read.offset read.lo read.hi ≡ into whole.instance 0 0 whole.size = sym read.pointer ∙ whole.is in
      let i : read.i ≡ whole.instance = ap instance_of_pointer same in
      let at : read.offset ≡ 0 = ap offset_of_pointer same in
      let size : class_bytes m (class_in o.kind) ≡ scalar_size m o.kind = sym (size_is m o.kind scalar) in
      let first : r.0 ≡ contents (take (scalar_size m o.kind) (bytes_at w.memory whole.instance)) =
      read.here ∙ (ap (λ i. contents (region (bytes_at w.memory i) read.offset (class_bytes m (class_in o.kind)))) i
      ∙ (ap (λ at. contents (region (bytes_at w.memory whole.instance) at (class_bytes m (class_in o.kind)))) at
      ∙ ap (λ n. contents (take n (bytes_at w.memory whole.instance))) size)) in
      value_of o w.memory v whole.instance whole.named (ap (scalar_in o.kind) (sym first) ∙ r.3)

  -- ---- stores

  -- a scalar that is read back, labels apart
  abbrev IsReadBack : declared.Scalar → List Content → Scalar → Type 0
  IsReadBack kind cs (integer n labels) = (read : Labels) × (scalar_in kind cs ≡ Some (integer n read))
  IsReadBack kind cs (pointer p) = scalar_in kind cs ≡ Some (pointer p)

  read_value : (o : NamedObject) (memory : Memory) (v : Scalar) (i : ℕ) → instance_of names o.object ≡ Some i → IsReadBack o.kind (contents (take (scalar_size m o.kind) (bytes_at memory i))) v → IsValue m names memory o v
  read_value o memory (integer n labels) i named is = record { instance = i; labels = is.0; named = named; is = is.1 }
  read_value o memory (pointer p) i named is = record { instance = i; named = named; is = is }

  pointer_some : 0 < class_bytes m Pointer
  pointer_some = cond_both (m.pointer == 4) 4 8 (λ n. 0 < n) (λ _. omega arith) (λ _. omega arith)

  scalar_back : (kind : declared.Scalar) (memory : Memory) (v : Scalar) → IsScalar m kind → Has m names memory (mark_of kind) v → IsReadBack kind (scalar_bytes (class_bytes m (class_in kind)) v) v
  scalar_back (of.Int kind) memory (integer n labels) is has = subst (λ size. IsReadBack (of.Int kind) (scalar_bytes size (integer n labels)) (integer n labels)) (sym is.bytes) (number_back kind n labels is.size has)
  scalar_back (of.Int kind) memory (pointer p) is has = absurd has
  scalar_back of.Pointer memory (integer n labels) is has = absurd has
  scalar_back of.Pointer memory (pointer p) is has = pointer_back (class_bytes m Pointer) p pointer_some

  -- memory behind a store at the start of an instance
  stored_first : (kind : declared.Scalar) (v : Scalar) (spot : Spot) (w : World) (it : Instance) → spot.offset ≡ 0 → slice_get w.memory spot.instance ≡ Some it → class_bytes m (class_in kind) ≤ length (bytes_at w.memory spot.instance) → contents (take (class_bytes m (class_in kind)) (bytes_at (stored w (class_in kind) spot (scalar_bytes (class_bytes m (class_in kind)) v)).memory spot.instance)) ≡ scalar_bytes (class_bytes m (class_in kind)) v
  stored_first kind v spot w it start there room =
      let size : ℕ = class_bytes m (class_in kind) in
      let cs : List Content = scalar_bytes size v in
      let old : List Byte = bytes_at w.memory spot.instance in
      let allocated : Bool = is_allocated (storage_at w.memory spot.instance) in
      let long : length cs ≡ size = scalar_length size v in
      let new : bytes_at (stored w (class_in kind) spot cs).memory spot.instance ≡ stored_bytes allocated (class_in kind) old spot.offset cs = bytes_set w.memory spot.instance it _ there in
      let first : contents (take (length cs) (stored_bytes allocated (class_in kind) old 0 cs)) ≡ cs = stored_contents allocated (class_in kind) old cs (omega arith) in
      ap (λ bytes. contents (take size bytes)) new
      ∙ (ap (λ at. contents (take size (stored_bytes allocated (class_in kind) old at cs))) start
      ∙ (ap (λ n. contents (take n (stored_bytes allocated (class_in kind) old 0 cs))) (sym long) ∙ first))

  through_stored : (o : NamedObject) (p : MachinePointer) (w after : World) (v r : Scalar) → IsScalar m o.kind → IsWhole m names w.memory o.object p → Has m names w.memory (mark_of o.kind) v → store_through m o.kind v p w ≡ goes r after → IsValue m names after.memory o v
  through_stored o p w after v r scalar whole has e =
      let size : ℕ = class_bytes m (class_in o.kind) in
      let cs : List Content = scalar_bytes size v in
      let b = behind_goes (touched w p size true) (store_at m (class_in o.kind) v) r after e in
      let t = touched_goes w p size true b.0 b.1 b.2 in
      let spot : Spot = b.0 in
      let g = store_spot m (class_in o.kind) v r spot w after (subst (λ z. store_at m (class_in o.kind) v spot z ≡ goes r after) t.same b.3) in
      let it = instance_in (slice_get w.memory spot.instance) t.alive in
      let same : into spot.instance spot.offset t.lo t.hi ≡ into whole.instance 0 0 whole.size = sym t.pointer ∙ whole.is in
      let i : spot.instance ≡ whole.instance = ap instance_of_pointer same in
      let at : spot.offset ≡ 0 = ap offset_of_pointer same in
      let end : t.hi ≡ whole.size = ap end_of_pointer same in
      let below = t.below in
      let there = whole.there in
      let room : size ≤ length (bytes_at w.memory spot.instance) = subst (λ i. size ≤ length (bytes_at w.memory i)) (sym i) (omega arith) in
      let read : contents (take size (bytes_at (stored w (class_in o.kind) spot cs).memory spot.instance)) ≡ cs = stored_first o.kind v spot w it.0 at it.1 room in
      let now : contents (take (scalar_size m o.kind) (bytes_at after.memory whole.instance)) ≡ cs =
      ap (λ n. contents (take n (bytes_at after.memory whole.instance))) (size_is m o.kind scalar)
      ∙ (ap (λ z. contents (take size (bytes_at z.memory whole.instance))) g.1
      ∙ (ap (λ i. contents (take size (bytes_at (stored w (class_in o.kind) spot cs).memory i))) (sym i) ∙ read)) in
      read_value o after.memory v whole.instance whole.named (subst (λ cs. IsReadBack o.kind cs v) (sym now) (scalar_back o.kind w.memory v scalar has))

  pub stored_whole : (o : NamedObject) (p : MachinePointer) (w after : World) (v r : Scalar) → IsScalar m o.kind → IsWhole m names w.memory o.object p → Has m names w.memory (mark_of o.kind) v → store m o.kind (pointer p) v w ≡ goes r after → IsValue m names after.memory o v
  stored_whole o p w after v r scalar whole has e = elim (cases_Bool (is_of_kind o.kind v)) [
    | inl f ↦ (let g : store_through m o.kind v p w ≡ goes r after = rw f at e in through_stored o p w after v r scalar whole has g)
    | inr f ↦ (let g : ◌≡◌ {A = Reply Scalar} (stops Stuck w) (goes r after) = rw f at e in cc)
  ]

-- ---- what a store gives

at_given : (m : Model) (class : Class) (v r : Scalar) (spot : Spot) (w u : World) → store_at m class v spot w ≡ goes r u → r ≡ v
at_given m class v r spot w u h = elim (cases_Bool (may_store m w class spot)) [
  | inl e ↦ (let g : goes v (stored w class spot (scalar_bytes (class_bytes m class) v)) ≡ goes r u = rw e at h in cc)
  | inr e ↦ (let g : ◌≡◌ {A = Reply Scalar} (stops Left w) (goes r u) = rw e at h in cc)
]

-- the value that is stored
pub store_given : (m : Model) (kind : declared.Scalar) (p : MachinePointer) (v r : Scalar) (w after : World) → store m kind (pointer p) v w ≡ goes r after → r ≡ v
store_given m kind p v r w after e = elim (cases_Bool (is_of_kind kind v)) [
  | inl f ↦ (let g : store_through m kind v p w ≡ goes r after = rw f at e in
      let b = behind_goes (touched w p (class_bytes m (class_in kind)) true) (store_at m (class_in kind) v) r after g in
      at_given m (class_in kind) v r b.0 b.1 after b.3)
  | inr f ↦ (let g : ◌≡◌ {A = Reply Scalar} (stops Stuck w) (goes r after) = rw f at e in cc)
]
