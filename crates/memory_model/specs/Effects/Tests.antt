-- The tests of edges: what they say of memory, and which labels they drop from the objects that they name.
use Rattle.std.specs.Prelude.{ℕ, ℤ, Bool, true, false, not, cond, List, [], ◌∷◌, map, take, drop, ◌++◌, Option, Some, None}
use Rattle.std.specs.Ordering.{int_eq}
use Rattle.cc_base.specs.IntegerTypes.{wrap_into}
use Rattle.cc_base.specs.MachineArithmetic.{holds}
use Rattle.cc_base.specs.declared.int_types.IntType.{IntType}
use Rattle.cc_base.specs.declared.integer_operators.Rel.{Rel}
use Rattle.cc_base.specs.declared.integer_operators.Rel.TheVariants.{Lt, Le, Gt, Ge, Eq, Ne}
use Rattle.c_layout.specs.declared.data_model.Model.{Model}
use Rattle.c_layout.specs.declared.leaf_lists.Class.TheVariants.{Pointer}
use Rattle.cfg.specs.declared.machine_instructions.Scalar.TheVariants as of
use Rattle.cfg.specs.declared.machine_instructions.Scalar as declared
use Rattle.memory_model.specs.Memory.Labels.{Labels, no_labels, labels_join, is_unlabelled, dropped_labels}
use Rattle.memory_model.specs.Memory.ScalarSizes.{class_bytes}
use Rattle.memory_model.specs.Memory.Bytes.{MachinePointer, null, Content, indeterminate, number, part, Byte}
use Rattle.memory_model.specs.Memory.Instances.{Memory, bytes_at}
use Rattle.memory_model.specs.Memory.Scalars.{Scalar, integer, pointer}
use Rattle.memory_model.specs.Effects.Worlds.{World, with_memory, Reply, stops, done, Stuck}
use Rattle.memory_model.specs.Effects.ScalarBytes.{contents}
use Rattle.memory_model.specs.Effects.Touches.{set_bytes}
use Rattle.memory_model.specs.Effects.Accesses.{scalar_in}
use Rattle.memory_model.specs.Effects.PointerEffects.{are_equal}

-- ---- relations

-- the relation that holds where this one does not
abbrev pub opposite : Rel → Rel
opposite Lt = Ge
opposite Le = Gt
opposite Gt = Le
opposite Ge = Lt
opposite Eq = Ne
opposite Ne = Eq

-- the relation with its sides exchanged
abbrev pub turned : Rel → Rel
turned Lt = Gt
turned Le = Ge
turned Gt = Lt
turned Ge = Le
turned Eq = Eq
turned Ne = Ne

-- ---- sides

-- a side of a test: a scalar object at the start of an instance, a number, or a null pointer
pub data TestedSide : Type 0 where
  object : (instance : ℕ) (kind : declared.Scalar) → TestedSide
  constant : (value : ℤ) → TestedSide
  nothing : TestedSide

-- a relation of two sides; of integers in their common type, of pointers where there is none
pub record SideTest : Type 0 where
  pub left : TestedSide
  pub rel : Rel
  pub right : TestedSide
  pub common : Option IntType

abbrev pub scalar_size : Model → declared.Scalar → ℕ
scalar_size m (of.Int kind) = kind.bytes
scalar_size m of.Pointer = class_bytes m Pointer

abbrev pub object_bytes : Model → Memory → ℕ → declared.Scalar → List Byte
object_bytes m memory i kind = take (scalar_size m kind) (bytes_at memory i)

-- what a side is now, where its bytes are a scalar
abbrev pub side_scalar : Model → Memory → TestedSide → Option Scalar
side_scalar m memory (object i kind) = scalar_in kind (contents (object_bytes m memory i kind))
side_scalar m memory (constant n) = Some (integer n no_labels)
side_scalar m memory nothing = Some (pointer null)

-- ---- what a test says

abbrev pub pointers_hold : Rel → MachinePointer → MachinePointer → Bool
pointers_hold Eq p q = are_equal p q
pointers_hold Ne p q = not (are_equal p q)
pointers_hold rel p q = false

abbrev pub scalars_hold : Rel → Option IntType → Scalar → Scalar → Bool
scalars_hold rel (Some common) (integer a s) (integer b t) = holds rel (wrap_into common a) (wrap_into common b)
scalars_hold rel None (pointer p) (pointer q) = pointers_hold rel p q
scalars_hold rel common v w = false

abbrev pub sides_hold : Rel → Option IntType → Option Scalar → Option Scalar → Bool
sides_hold rel common (Some v) (Some w) = scalars_hold rel common v w
sides_hold rel common v w = false

-- whether a test agrees with memory
abbrev pub test_holds : Model → Memory → SideTest → Bool
test_holds m memory t = sides_hold t.rel t.common (side_scalar m memory t.left) (side_scalar m memory t.right)

-- ---- the labels that it drops

abbrev pub labels_of : Content → Labels
labels_of (number n labels) = labels
labels_of indeterminate = no_labels
labels_of (part p k) = no_labels

abbrev pub joined : List Byte → Labels
joined [] = no_labels
joined (b ∷ bs) = labels_join (labels_of b.content) (joined bs)

-- the labels that a side has now; a constant has none
abbrev pub side_labels : Model → Memory → TestedSide → Labels
side_labels m memory (object i kind) = joined (object_bytes m memory i kind)
side_labels m memory (constant n) = no_labels
side_labels m memory nothing = no_labels

abbrev pub relabelled : (Labels → Labels) → Content → Content
relabelled f (number n labels) = number n (f labels)
relabelled f indeterminate = indeterminate
relabelled f (part p k) = part p k

abbrev pub byte_relabelled : (Labels → Labels) → Byte → Byte
byte_relabelled f b = record b { content = relabelled f b.content }

abbrev pub all_relabelled : (Labels → Labels) → List Byte → List Byte
all_relabelled f bytes = map (byte_relabelled f) bytes

-- the bytes of an object with other labels
abbrev pub object_relabelled : Model → (Labels → Labels) → ℕ → declared.Scalar → Memory → Memory
object_relabelled m f i kind memory = set_bytes memory i (all_relabelled f (object_bytes m memory i kind) ++ drop (scalar_size m kind) (bytes_at memory i))

abbrev pub with_labels : Model → (Labels → Labels) → TestedSide → Memory → Memory
with_labels m f (object i kind) memory = object_relabelled m f i kind memory
with_labels m f (constant n) memory = memory
with_labels m f nothing memory = memory

-- a side loses labels where the other one has none
abbrev pub bounded : Model → Rel → IntType → TestedSide → Labels → Memory → Memory
bounded m rel common side other memory = cond (is_unlabelled other) (with_labels m (λ s. dropped_labels rel s common) side memory) memory

-- both sides are seen as they are before
abbrev pub both_bounded : Model → Rel → IntType → TestedSide → TestedSide → Memory → Memory
both_bounded m rel common left right memory = bounded m (turned rel) common right (side_labels m memory left) (bounded m rel common left (side_labels m memory right) memory)

-- a test of pointers drops none
abbrev pub after_test : Model → Option IntType → SideTest → Memory → Memory
after_test m None t memory = memory
after_test m (Some common) t memory = both_bounded m t.rel common t.left t.right memory

-- ---- edges

abbrev pub passing : Bool → World → Reply (Unit {0})
passing true w = done w
passing false w = stops Stuck w

-- the run goes on along an edge with a test that agrees with memory
abbrev pub pass_test : Model → SideTest → World → Reply (Unit {0})
pass_test m t w = passing (test_holds m w.memory t) (with_memory w (after_test m t.common t w.memory))

abbrev pub is_number : ℤ → Option Scalar → Bool
is_number value (Some (integer n labels)) = int_eq n value
is_number value _ = false

-- the run goes on at a case label where the integer object that is switched on has its value; the object
-- loses its labels
abbrev pub pass_case : Model → ℕ → IntType → ℤ → World → Reply (Unit {0})
pass_case m i kind value w = passing (is_number value (side_scalar m w.memory (object i (of.Int kind)))) (with_memory w (object_relabelled m (λ s. no_labels) i (of.Int kind) w.memory))
