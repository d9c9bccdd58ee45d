-- What is known of the values that are pending.
use Rattle.std.specs.Prelude.{◌≡◌, ◌≤◌, ℕ, ℤ, Bool, true, false, not, List, [], ◌∷◌, length, Option, Some}
use Rattle.cc_base.specs.IntegerTypes.{in_type, wrap_into}
use Rattle.cc_base.specs.declared.int_types.IntType.{IntType}
use Rattle.c_layout.specs.Types.{Ty}
use Rattle.c_layout.specs.declared.data_model.Model.{Model}
use Rattle.c_layout.specs.declared.checked_tree.checked_terms.ObjectRef.{ObjectRef}
use Rattle.lower_conditions.specs.declared.branch_tests.NamedObject.{NamedObject}
use Rattle.lower_templates.specs.Worklist.TermKinds.{scalar_of}
use Rattle.cfg.specs.declared.machine_instructions.Scalar as declared
use Rattle.cfg.specs.declared.machine_instructions.Scalar.TheVariants as of
use Rattle.memory_model.specs.Memory.Labels.{Labels}
use Rattle.memory_model.specs.Memory.Bytes.{MachinePointer, null, into}
use Rattle.memory_model.specs.Memory.Instances.{Memory, bytes_at}
use Rattle.memory_model.specs.Memory.Scalars.{Scalar, integer, pointer, is_false}
use Rattle.memory_model.specs.Effects.LibraryChecks.{most_size}
use Rattle.memory_model.specs.Effects.Tests.{TestedSide, object, constant, nothing, side_scalar, test_holds}
use Rattle.semantics.specs.SourceMachine.BranchSteps.{relation_on}
use Rattle.semantics.specs.SourceMachine.Items as item
use Rattle.semantics.specs.SourceMachine.Items.{NamedSide, NamedTest}
use Rattle.semantics.specs.SourceMachine.SourceStates.{instance_of}

pub data Mark : Type 0 where
  -- a number of an integer type, and that number
  Ranged : (kind : IntType) → Mark
  Exactly : (n : ℤ) → Mark
  -- a pointer, that to the whole of a named object, and null
  Pointing : Mark
  Naming : (object : ObjectRef) → Mark
  Null : Mark
  -- as long as memory stays as it is: the value of a named object, that value in an integer type, and a truth value
  -- that agrees with a test
  Loaded : (object : NamedObject) → Mark
  Converted : (object : NamedObject) (kind : IntType) → Mark
  Tested : (test : NamedTest) → Mark

-- ---- marks by types

abbrev pub mark_of : declared.Scalar → Mark
mark_of (of.Int kind) = Ranged kind
mark_of of.Pointer = Pointing

-- what is known of the value of a term of a type; that of a struct is its address
abbrev pub mark_of_type : Ty → Mark
mark_of_type t = mark_of (scalar_of t)

-- whether a mark holds whatever becomes of memory
abbrev pub is_stable : Mark → Bool
is_stable (Loaded o) = false
is_stable (Converted o kind) = false
is_stable (Tested test) = false
is_stable mark = true

-- whether it holds whatever objects are named
abbrev pub is_free : Mark → Bool
is_free (Naming o) = false
is_free mark = is_stable mark

abbrev pub AreStable : List Mark → Type 0
AreStable [] = Unit {0}
AreStable (k ∷ ks) = (is_stable k ≡ true) × AreStable ks

abbrev pub AreFree : List Mark → Type 0
AreFree [] = Unit {0}
AreFree (k ∷ ks) = (is_free k ≡ true) × AreFree ks

-- ---- pointers

-- a pointer's offset and its upper bound are sizes that an object may have
pub record IsInBounds (m : Model) (offset hi : ℕ) : Type 0 where
  pub below : offset ≤ most_size m
  pub end : hi ≤ most_size m

abbrev pub IsBounded : Model → MachinePointer → Type 0
IsBounded m null = Unit {0}
IsBounded m (into i offset lo hi) = IsInBounds m offset hi

-- ---- what marks say

module _ (m : Model) (names : ℕ → Option ℕ) (memory : Memory) where
  -- the pointer to the whole of an object, which has its bytes
  pub record IsWhole (o : ObjectRef) (p : MachinePointer) : Type 0 where
    pub instance : ℕ
    pub size : ℕ
    pub named : instance_of names o ≡ Some instance
    pub is : p ≡ into instance 0 0 size
    pub small : size ≤ most_size m
    pub there : size ≤ length (bytes_at memory instance)

  -- the value of an object now, labels apart
  pub record IsNumber (o : NamedObject) (n : ℤ) : Type 0 where
    pub instance : ℕ
    pub labels : Labels
    pub named : instance_of names o.object ≡ Some instance
    pub is : side_scalar m memory (object instance o.kind) ≡ Some (integer n labels)

  pub record IsPointer (o : NamedObject) (p : MachinePointer) : Type 0 where
    pub instance : ℕ
    pub named : instance_of names o.object ≡ Some instance
    pub is : side_scalar m memory (object instance o.kind) ≡ Some (pointer p)

  abbrev pub IsValue : NamedObject → Scalar → Type 0
  IsValue o (integer n labels) = IsNumber o n
  IsValue o (pointer p) = IsPointer o p

  pub record IsConverted (o : NamedObject) (kind : IntType) (n : ℤ) : Type 0 where
    pub from : ℤ
    pub value : IsNumber o from
    pub is : n ≡ wrap_into kind from

  -- a side of a test, by the instances that are named
  abbrev pub IsSide : NamedSide → TestedSide → Type 0
  IsSide (item.named o) side = (i : ℕ) × (instance_of names o.object ≡ Some i) × (side ≡ object i o.kind)
  IsSide (item.number n) side = side ≡ constant n
  IsSide item.nothing side = side ≡ nothing

  -- where a value is true the test holds of memory, and where it is false the opposite one does
  pub record Agrees (test : NamedTest) (value : Scalar) : Type 0 where
    pub left : TestedSide
    pub right : TestedSide
    pub is_left : IsSide test.left left
    pub is_right : IsSide test.right right
    pub holds : test_holds m memory (record { left = left; rel = relation_on (not (is_false value)) test.rel; right = right; common = test.common }) ≡ true

  abbrev pub Has : Mark → Scalar → Type 0
  Has (Ranged kind) (integer n labels) = in_type kind n ≡ true
  Has (Exactly k) (integer n labels) = n ≡ k
  Has Pointing (pointer p) = IsBounded m p
  Has (Naming o) (pointer p) = IsWhole o p
  Has Null (pointer p) = p ≡ null
  Has (Loaded o) v = IsValue o v
  Has (Converted o kind) (integer n labels) = IsConverted o kind n
  Has (Tested test) v = Agrees test v
  Has mark v = ⊥

  -- values have marks, one after the other
  abbrev pub AreWellTyped : List Mark → List Scalar → Type 0
  AreWellTyped [] [] = Unit {0}
  AreWellTyped (k ∷ ks) (v ∷ vs) = Has k v × AreWellTyped ks vs
  AreWellTyped ks vs = ⊥
