-- Whether the tests and the cases of edges name scalar objects, of the kinds that they read.
use Rattle.std.specs.Prelude.{ℕ, Bool, true, false, not, ◌&&◌, ◌==◌, Option, Some, None, List, [], ◌∷◌, slice_get}
use Rattle.std.specs.List.{list_all}
use Rattle.cc_base.specs.IntegerTypes.{is_size}
use Rattle.cc_base.specs.declared.int_types.IntType.{IntType}
use Rattle.c_layout.specs.Leaves.{class_of}
use Rattle.c_layout.specs.declared.data_model.Model.{Model}
use Rattle.c_layout.specs.declared.leaf_lists.Class.TheVariants.{Pointer}
use Rattle.c_layout.specs.declared.leaf_lists.Leaf.{Leaf}
use Rattle.c_layout.specs.declared.shapes.BaseInfo.{BaseInfo}
use Rattle.cfg.specs.BaseShapes.{same_truth}
use Rattle.cfg.specs.WellFormed.{is_declared, is_number}
use Rattle.cfg.specs.declared.flow_edges.EdgeKind.{EdgeKind}
use Rattle.cfg.specs.declared.flow_edges.EdgeKind.TheVariants as kind
use Rattle.cfg.specs.declared.flow_edges.Side.{Side}
use Rattle.cfg.specs.declared.flow_edges.Side.TheVariants as side
use Rattle.cfg.specs.declared.flow_edges.Test.{Test}
use Rattle.cfg.specs.declared.machine_instructions.Scalar.{Scalar}
use Rattle.cfg.specs.declared.machine_instructions.Scalar.TheVariants as of
use Rattle.cfg.specs.declared.programs.Flow.{Flow}
use Rattle.memory_model.specs.Memory.ScalarSizes.{class_bytes, same_class, is_pointer}

-- ---- objects

-- one scalar at the start
abbrev pub is_alone : Leaf → Bool
is_alone leaf = (leaf.offset == 0) && (leaf.count == 1)

abbrev pub is_leaf_of : Model → Scalar → Leaf → Bool
is_leaf_of m (of.Int kind) leaf = same_class leaf.class (class_of kind) && (same_truth leaf.signed kind.signed && (kind.bytes == class_bytes m leaf.class))
is_leaf_of m of.Pointer leaf = same_class leaf.class Pointer && not leaf.signed

-- an object of one leaf, of its size
abbrev pub is_whole_leaf : Model → BaseInfo → Leaf → Bool
is_whole_leaf m info leaf = is_declared (Some info.kind) && (is_alone leaf && (info.size == class_bytes m leaf.class))

abbrev pub is_scalar_of : Model → Scalar → BaseInfo → List Leaf → Bool
is_scalar_of m kind info (leaf ∷ []) = is_whole_leaf m info leaf && is_leaf_of m kind leaf
is_scalar_of m kind info _ = false

-- a base is one scalar of the kind, and nothing else
abbrev pub is_scalar_object : Model → Scalar → Option BaseInfo → Bool
is_scalar_object m kind None = false
is_scalar_object m kind (Some info) = is_scalar_of m kind info info.shape.cells

abbrev pub is_integer_of : Model → BaseInfo → List Leaf → Bool
is_integer_of m info (leaf ∷ []) = is_whole_leaf m info leaf && not (is_pointer leaf.class)
is_integer_of m info _ = false

-- a base is one integer, and nothing else
abbrev pub is_integer_object : Model → Option BaseInfo → Bool
is_integer_object m None = false
is_integer_object m (Some info) = is_integer_of m info info.shape.cells

-- ---- edges

abbrev pub names_scalar : Model → List BaseInfo → Side → Bool
names_scalar m bases (side.Object base kind) = is_scalar_object m kind (slice_get bases base)
names_scalar m bases (side.Number z) = is_number z
names_scalar m bases side.Null = true

abbrev pub is_pointer_kind : Scalar → Bool
is_pointer_kind (of.Int kind) = false
is_pointer_kind of.Pointer = true

-- a test of an object against a null constant is of one that is a pointer
abbrev pub compares_pointer : Model → List BaseInfo → ℕ → Scalar → Side → Bool
compares_pointer m bases base kind (side.Object other against) = true
compares_pointer m bases base kind (side.Number z) = true
compares_pointer m bases base kind side.Null = is_pointer_kind kind && is_scalar_object m of.Pointer (slice_get bases base)

abbrev pub compares_pointers : Model → List BaseInfo → Side → Side → Bool
compares_pointers m bases (side.Object base kind) right = compares_pointer m bases base kind right
compares_pointers m bases (side.Number z) right = true
compares_pointers m bases side.Null right = true

abbrev pub compares_scalars : Model → List BaseInfo → Test → Option IntType → Bool
compares_scalars m bases test (Some common) = is_size common.bytes && (names_scalar m bases test.left && names_scalar m bases test.right)
compares_scalars m bases test None = compares_pointers m bases test.left test.right

abbrev pub tests_scalars : Model → List BaseInfo → Option Test → Bool
tests_scalars m bases None = true
tests_scalars m bases (Some test) = compares_scalars m bases test test.common

abbrev pub matches_integer : Model → List BaseInfo → Option ℕ → Bool
matches_integer m bases None = true
matches_integer m bases (Some base) = is_integer_object m (slice_get bases base)

abbrev pub follows_scalars : Model → List BaseInfo → EdgeKind → Bool
follows_scalars m bases (kind.When truth test kept) = tests_scalars m bases test
follows_scalars m bases (kind.Case test) = matches_integer m bases test.object
follows_scalars m bases _ = true

abbrev pub all_follow_scalars : Flow → Bool
all_follow_scalars flow = list_all (λ e. follows_scalars flow.model flow.bases.items e.kind) flow.edges.items
