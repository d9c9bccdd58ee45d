-- The cells of an object of static storage that is cleared and initialized stand for its bytes.
use Rattle.std.proofs.Common.{◌≡◌, ℕ, ◌<◌, Bool, true, false, Option, Some, [], length, arith, subst, sym, refl, ap, ◌∙◌}
use Rattle.std.specs.Prelude.{ℤ, pos, ◌≤ℤ◌, ◌-ℤ◌, int_le, not, ◌||◌, ◌==◌}
use Rattle.std.proofs.lemmas.Int.{ints}
use Rattle.std.proofs.lemmas.Bool.{and_parts, eqb-true}
use Rattle.cc_base.specs.Lattices.{LatticeOf, OrderLaws}
use Rattle.cc_base.specs.IntegerDomains.{IntegersOf, BoundLaws}
use Rattle.cc_base.specs.IntegerTypes.{is_size, least_of, greatest_of}
use Rattle.c_layout.specs.CheckedUnits.{UnitView}
use Rattle.c_layout.specs.Models.{is_model}
use Rattle.c_layout.specs.declared.leaf_lists.Class.TheVariants.{Pointer}
use Rattle.c_layout.specs.declared.checked_tree.checked_units.StaticValue.{StaticValue}
use Rattle.c_layout.specs.declared.checked_tree.checked_units.StaticValue.TheVariants.{Number, Null, Address}
use Rattle.cfg.specs.ModelKinds.{is_int_type}
use Rattle.cfg.specs.ModelKinds as kinds
use Rattle.cfg.specs.declared.machine_instructions.Scalar as declared
use Rattle.cfg.specs.declared.machine_instructions.Scalar.TheVariants as of
use Rattle.cfg.specs.declared.programs.Flow.{Flow}
use Rattle.store_objects.specs.LiveBases.{most_bases}
use Rattle.store_cells.specs.NearValues.{near_value}
use Rattle.transfer_system.specs.StartRows.{static_class, pointer_into, static_pointer, static_value}
use Rattle.memory_model.specs.Memory.Labels.{no_labels}
use Rattle.memory_model.specs.Memory.ScalarSizes.{class_bytes}
use Rattle.memory_model.specs.Memory.Bytes.{null, into}
use Rattle.memory_model.specs.Memory.Instances.{Memory, live, bytes_at, life_at}
use Rattle.memory_model.specs.Memory.Scalars.{Scalar, integer, pointer}
use Rattle.memory_model.specs.Effects.Accesses as machine
use Rattle.memory_model.specs.Effects.NumberedTables.{empty_table}
use Rattle.memory_model.specs.Effects.Operands.{is_of_kind}
use Rattle.memory_model.specs.Effects.ScalarBytes.{scalar_bytes}
use Rattle.memory_model.specs.Effects.UnitStarts.{base_instance, value_bytes}
use Rattle.semantics.specs.CfgMachine.FlowStates.{ProgramState}
use Rattle.store_sound.specs.Concretization.SoundMemory.{IsMemoryOf, IsScalarIn}
use Rattle.store_sound.specs.Concretization.ValueMeaning.{Naming, InGammaByLife, InGammaPointer, InGammaScalar}
use Rattle.store_sound.specs.Operations.Scalars.{signed_in}
use Rattle.store_sound.proofs.operations.Frames.{IsAlike}
use Rattle.store_sound.specs.Programs.Premises.{HasPremises}
use Rattle.store_sound.proofs.programs.Sizes.{same_bytes}
use Rattle.library_sound.proofs.NearScalars.{IsNearScalar, near_scalar_stands}
use Rattle.library_sound.proofs.ScalarClasses.{class_pair}
use Rattle.store_sound.proofs.operations.FreshValues.{type_near}
use Rattle.store_sound.proofs.operations.Sets.{only_has}
use Rattle.entry_sound.specs.Cells.StaticObjects.{IsValueOf}

-- the state of a run with these objects in a memory, before anything is done
abbrev pub standing : (ℕ → Option ℕ) → Memory → ProgramState
standing entered memory = record { block = 0; at = 0; temps = empty_table; bases = entered; world = record { memory = memory; draws = []; violated = [] } }

-- ---- a value of an initializer as a scalar

abbrev pub kind_of_value : StaticValue → declared.Scalar
kind_of_value (Number k kind) = of.Int kind
kind_of_value Null = of.Pointer
kind_of_value (Address object offset lo hi) = of.Pointer

abbrev pub scalar_of : UnitView → StaticValue → Scalar
scalar_of u (Number k kind) = integer k no_labels
scalar_of u Null = pointer null
scalar_of u (Address object offset lo hi) = pointer (into (base_instance u object) offset lo hi)

pub kind_is : (u : UnitView) (v : StaticValue) → is_of_kind (kind_of_value v) (scalar_of u v) ≡ true
kind_is u (Number k kind) = refl
kind_is u Null = refl
kind_is u (Address object offset lo hi) = refl

pub class_is : (v : StaticValue) → static_class v ≡ (machine.class_in (kind_of_value v), signed_in (kind_of_value v))
class_is (Number k kind) = class_pair (of.Int kind)
class_is Null = refl
class_is (Address object offset lo hi) = refl

module _ (u : UnitView) (flow : Flow) (same : u.model ≡ flow.model) (model : is_model flow.model ≡ true) (naming : Naming) (memory : Memory) where
  pointer_is : class_bytes flow.model Pointer ≡ u.model.pointer
  pointer_is = sym (same_bytes flow.model Pointer model) ∙ ap (λ m. m.pointer) (sym same)

  -- the bytes that an initializer writes are those of the scalar
  pub bytes_are : (v : StaticValue) → IsValueOf u flow naming memory v → scalar_bytes (class_bytes flow.model (machine.class_in (kind_of_value v))) (scalar_of u v) ≡ value_bytes u v
  bytes_are (Number k kind) h =
      let a = and_parts (is_size kind.bytes) _ h.0 in
      let b = and_parts (kind.bytes == kinds.class_bytes flow.model (machine.class_in (of.Int kind))) _ a.1 in
      let e : kind.bytes ≡ kinds.class_bytes flow.model (machine.class_in (of.Int kind)) = eqb-true kind.bytes (kinds.class_bytes flow.model (machine.class_in (of.Int kind))) b.0 in
      ap (λ z. scalar_bytes z (integer k no_labels)) (sym (e ∙ same_bytes flow.model (machine.class_in (of.Int kind)) model))
  bytes_are Null h = ap (λ z. scalar_bytes z (pointer null)) pointer_is
  bytes_are (Address object offset lo hi) h = ap (λ z. scalar_bytes z (pointer (into (base_instance u object) offset lo hi))) pointer_is

-- ---- values stand for scalars

module _ {I : Type 0} {l : LatticeOf I} {n : IntegersOf I} {gamma : I → ℤ → Type 0} (o : OrderLaws l) (q : BoundLaws l n gamma) (u : UnitView) (flow : Flow) (p : HasPremises flow) (naming : Naming) where
  -- a pointer to a place of a live instance with a base
  pub into_stands : (memory : Memory) (i base size offset lo hi : ℕ) → naming i ≡ Some base → base < most_bases → life_at memory i ≡ live → length (bytes_at memory i) ≡ size → InGammaPointer gamma naming memory (pointer_into n base size offset lo hi) (into i offset lo hi)
  into_stands memory i base size offset lo hi named small alive long = subst (λ z. InGammaByLife gamma naming memory (pointer_into n base size offset lo hi) z i offset lo hi) (sym alive) (record {
    base = base;
    named = named;
    among = only_has base small;
    lower = q.one_stands (pos lo);
    relative = q.one_stands (pos offset -ℤ pos lo);
    room = q.one_stands (pos hi -ℤ pos lo);
    whole = λ e. let a = whole_parts (lo == 0) (hi == size) e in (eqb-true lo 0 a.0, eqb-true hi size a.1 ∙ sym long);
  })
    where
      whole_parts : (a b : Bool) → (not a || not b) ≡ false → (a ≡ true) × (b ≡ true)
      whole_parts true true e = (refl, refl)
      whole_parts true false e = absurd (cc)
      whole_parts false b e = absurd (cc)

  pub base_small : (memory : Memory) (i base : ℕ) → (naming i ≡ Some base → base < length flow.bases.items) → naming i ≡ Some base → base < most_bases
  base_small memory i base few named = let a = few named in let b = p.shaped.few in omega (arith, a, b)

  module _ (start memory : Memory) (alike : IsAlike start memory) (sane : IsMemoryOf flow.model flow.bases.items naming memory) where
    pub scalar_in : (v : StaticValue) → IsValueOf u flow naming start v → IsScalarIn memory (scalar_of u v)
    scalar_in (Number k kind) h = tt
    scalar_in Null h = tt
    scalar_in (Address object offset lo hi) h =
        let long = h.long in
        let same = alike.lengths (base_instance u object) in
        let within = h.within in
        record { made = sane.made (base_instance u object) h.base h.named; above = h.above; below = h.below; within = omega (arith, long, same, within) }

    scalar_near : (v : StaticValue) → IsValueOf u flow naming start v → IsNearScalar (scalar_of u v)
    scalar_near (Number k kind) h =
        let size = (and_parts (is_size kind.bytes) _ h.0).0 in
        let r = and_parts (int_le (least_of kind) k) (int_le k (greatest_of kind)) h.1 in
        let near = type_near kind k k size (int_le_true _ _ r.0) (int_le_true _ _ r.1) in
        record { from = near.0; to = near.1 }
      where
        int_le_true : (a b : ℤ) → int_le a b ≡ true → a ≤ℤ b
        int_le_true a b e = grind (arith, ints)
    scalar_near Null h = tt
    scalar_near (Address object offset lo hi) h = tt

    plain_value : (v : StaticValue) → IsValueOf u flow naming start v → InGammaScalar gamma naming memory (static_value l n flow.initial.items v) (scalar_of u v)
    plain_value (Number k kind) h = (q.one_stands k, refl)
    plain_value Null h = refl
    plain_value (Address object offset lo hi) h =
        subst (λ z. InGammaPointer gamma naming memory (static_pointer l n z offset lo hi) (into (base_instance u object) offset lo hi)) (sym h.is)
        (into_stands memory (base_instance u object) h.base h.size offset lo hi h.named (base_small memory (base_instance u object) h.base (sane.few (base_instance u object) h.base) h.named)
        (alike.lives (base_instance u object) ∙ h.alive) (alike.lengths (base_instance u object) ∙ h.long))

    pub value_stands : (v : StaticValue) → IsValueOf u flow naming start v → InGammaScalar gamma naming memory (near_value l n (static_value l n flow.initial.items v)) (scalar_of u v)
    value_stands v h = near_scalar_stands q flow.model flow.bases.items naming memory sane (static_value l n flow.initial.items v) (scalar_of u v) (scalar_in v h) (scalar_near v h) (plain_value v h)
