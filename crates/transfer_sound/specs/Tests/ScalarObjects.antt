-- Objects that tests on edges name: each is one scalar, of the kind that the test reads.
use Rattle.std.specs.Prelude.{◌≡◌, ℕ, ℤ, true, Some, None, [], ◌∷◌, slice_get}
use Rattle.cc_base.specs.Lattices.{LatticeOf}
use Rattle.cc_base.specs.IntegerDomains.{IntegersOf}
use Rattle.cc_base.specs.IntegerTypes.{is_size}
use Rattle.cc_base.specs.declared.int_types.IntType.{IntType}
use Rattle.c_layout.specs.declared.leaf_lists.Leaf.{Leaf}
use Rattle.c_layout.specs.declared.shapes.BaseInfo.{BaseInfo}
use Rattle.cfg.specs.WellFormed.{is_declared, is_number}
use Rattle.cfg.specs.declared.flow_edges.Side.{Side}
use Rattle.cfg.specs.declared.flow_edges.Side.TheVariants as side
use Rattle.cfg.specs.declared.flow_edges.Test.{Test}
use Rattle.cfg.specs.declared.machine_instructions.Scalar as declared
use Rattle.cfg.specs.declared.machine_instructions.Scalar.TheVariants as of
use Rattle.cfg.specs.declared.programs.Flow.{Flow}
use Rattle.transfer_system.specs.Refinements.{named_by}
use Rattle.memory_model.specs.Memory.ScalarSizes.{class_bytes}
use Rattle.memory_model.specs.Effects.Accesses.{class_in}
use Rattle.memory_model.specs.Effects.Tests.{scalar_size}
use Rattle.store_sound.specs.Operations.Scalars.{signed_in}
use Rattle.store_sound.specs.Programs.Premises.{HasPremises}
use Rattle.transfer_sound.specs.Edges.EdgeSteps.{TestIsSound, CaseIsSound}

-- a base of one scalar of the kind, and of nothing else
pub record IsScalarObject (flow : Flow) (b : ℕ) (kind : declared.Scalar) : Type 0 where
  pub info : BaseInfo
  pub leaf : Leaf
  pub is : slice_get flow.bases.items b ≡ Some info
  pub declared : is_declared (Some info.kind) ≡ true
  pub cells : info.shape.cells ≡ leaf ∷ []
  pub offset : leaf.offset ≡ 0
  pub class : leaf.class ≡ class_in kind
  pub signed : leaf.signed ≡ signed_in kind
  pub count : leaf.count ≡ 1
  pub size : info.size ≡ class_bytes flow.model (class_in kind)
  pub bytes : scalar_size flow.model kind ≡ class_bytes flow.model (class_in kind)

abbrev pub NamesScalar : Flow → Side → Type 0
NamesScalar flow (side.Object b kind) = IsScalarObject flow b kind
NamesScalar flow (side.Number z) = is_number z ≡ true
NamesScalar flow side.Null = Unit {0}

-- an object that is switched on: one integer, of whatever rank
pub record IsCaseObject (flow : Flow) (b : ℕ) : Type 0 where
  pub kind : IntType
  pub scalar : IsScalarObject flow b (of.Int kind)

-- a test on integers of two sides, of which both are scalars
pub record IsIntegerTest (flow : Flow) (test : Test) : Type 0 where
  pub left : NamesScalar flow test.left
  pub right : NamesScalar flow test.right
  pub common : IntType
  pub is : test.common ≡ Some common
  pub size : is_size common.bytes ≡ true

-- a test of pointers other than of an object against a null constant: it refines nothing
pub record IsPointerTest (test : Test) : Type 0 where
  pub is : test.common ≡ None
  pub plain : named_by test.left test.right ≡ None

-- a test of an object that is one pointer against a null constant
pub record IsNullTest (flow : Flow) (test : Test) : Type 0 where
  pub base : ℕ
  pub object : IsScalarObject flow base of.Pointer
  pub left : test.left ≡ side.Object base of.Pointer
  pub right : test.right ≡ side.Null
  pub is : test.common ≡ None

module _ {I : Type 0} (l : LatticeOf I) (n : IntegersOf I) (gamma : I → ℤ → Type 0) (flow : Flow) where
  abbrev pub IntegerTestsAreSound : Type 0
  IntegerTestsAreSound = HasPremises flow → (test : Test) → IsIntegerTest flow test → TestIsSound l n gamma flow (Some test)

  abbrev pub PointerTestsAreSound : Type 0
  PointerTestsAreSound = (test : Test) → IsPointerTest test → TestIsSound l n gamma flow (Some test)

  abbrev pub NullTestsAreSound : Type 0
  NullTestsAreSound = HasPremises flow → (test : Test) → IsNullTest flow test → TestIsSound l n gamma flow (Some test)

  abbrev pub CasesAreSound : Type 0
  CasesAreSound = HasPremises flow → (value : ℤ) (b : ℕ) → IsCaseObject flow b → CaseIsSound l n gamma flow value (Some b)
