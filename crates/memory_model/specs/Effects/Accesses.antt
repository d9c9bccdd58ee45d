-- Loads and stores of scalars (6.3.2.1, 6.5p7, 6.5.16).
use Rattle.std.specs.Prelude.{ℕ, zero, suc, Bool, true, false, not, cond, ◌&&◌, ◌||◌, ◌==◌, List, [], ◌∷◌, Option, Some, None}
use Rattle.cc_base.specs.declared.int_types.IntType.{IntType}
use Rattle.cc_base.specs.declared.diagnostics.Rule.TheVariants as rule
use Rattle.c_layout.specs.declared.data_model.Model.{Model}
use Rattle.c_layout.specs.declared.leaf_lists.Class.{Class}
use Rattle.c_layout.specs.declared.leaf_lists.Class.TheVariants.{Char, Pointer}
use Rattle.c_layout.specs.Leaves.{class_of}
use Rattle.cfg.specs.declared.machine_instructions.Scalar.TheVariants as of
use Rattle.cfg.specs.declared.machine_instructions.Scalar as declared
use Rattle.memory_model.specs.Memory.Labels.{Labels}
use Rattle.memory_model.specs.Memory.Labels.{no_labels, labels_join}
use Rattle.memory_model.specs.Memory.ScalarSizes.{same_class}
use Rattle.memory_model.specs.Memory.ScalarSizes.{class_bytes}
use Rattle.memory_model.specs.Memory.Bytes.{MachinePointer, null, into, Content, indeterminate, number, part, Byte}
use Rattle.memory_model.specs.Memory.Instances.{Memory, Life, freed, bytes_at, life_at}
use Rattle.memory_model.specs.Memory.Numbers.{Labelled, number_of}
use Rattle.memory_model.specs.Memory.Scalars.{Scalar, integer, pointer}
use Rattle.memory_model.specs.Effects.Worlds.{World, Reply, goes, stops, behind, with_memory, noted, stopped_by, Left, Stuck}
use Rattle.memory_model.specs.Effects.Operands.{with_pointer, is_of_kind}
use Rattle.memory_model.specs.Memory.Tags.{fit_from}
use Rattle.memory_model.specs.Effects.ScalarBytes.{scalar_bytes, tagged_from, replaced, refilled, region, contents}
use Rattle.memory_model.specs.Effects.Touches.{Spot, touched, is_allocated, storage_at, set_bytes}

abbrev pub class_in : declared.Scalar → Class
class_in (of.Int kind) = class_of kind
class_in of.Pointer = Pointer

abbrev pub is_unsigned : declared.Scalar → Bool
is_unsigned (of.Int kind) = not kind.signed
is_unsigned of.Pointer = false

-- ---- what contents are as a scalar

abbrev pub is_blank : Content → Bool
is_blank indeterminate = true
is_blank (number n labels) = false
is_blank (part p k) = false

abbrev pub has_blank : List Content → Bool
has_blank [] = false
has_blank (c ∷ cs) = is_blank c || has_blank cs

-- a number more, where the content is one
abbrev pub and_number : Content → Option (List Labelled) → Option (List Labelled)
and_number (number n labels) (Some ns) = Some (record { number = n; labels = labels } ∷ ns)
and_number c ns = None

-- the numbers that contents are, where all are numbers
abbrev pub numbers_in : List Content → Option (List Labelled)
numbers_in [] = Some []
numbers_in (c ∷ cs) = and_number c (numbers_in cs)

abbrev pub joined_labels : List Labelled → Labels
joined_labels [] = no_labels
joined_labels (n ∷ ns) = labels_join n.labels (joined_labels ns)

abbrev pub same_place : ℕ → ℕ → ℕ → ℕ → MachinePointer → Bool
same_place i offset lo hi null = false
same_place i offset lo hi (into j o l h) = (i == j) && ((offset == o) && ((lo == l) && (hi == h)))

abbrev pub same_pointer : MachinePointer → MachinePointer → Bool
same_pointer (into i offset lo hi) q = same_place i offset lo hi q
same_pointer null q = false

abbrev pub is_part : MachinePointer → ℕ → Content → Bool
is_part p k (part q j) = same_pointer p q && (k == j)
is_part p k c = false

-- the contents are the parts of one pointer in order, from a part on
abbrev pub are_parts : MachinePointer → ℕ → List Content → Bool
are_parts p k [] = true
are_parts p k (c ∷ cs) = is_part p k c && are_parts p (suc k) cs

abbrev pub is_zero : Content → Bool
is_zero (number zero labels) = true
is_zero c = false

abbrev pub are_zeros : List Content → Bool
are_zeros [] = true
are_zeros (c ∷ cs) = is_zero c && are_zeros cs

abbrev pub pointer_of_parts : MachinePointer → List Content → Option MachinePointer
pointer_of_parts p cs = cond (are_parts p 0 cs) (Some p) None

abbrev pub pointer_by : Content → List Content → Option MachinePointer
pointer_by (part p k) cs = pointer_of_parts p cs
pointer_by c cs = cond (are_zeros cs) (Some null) None

-- the pointer that contents are, where they are all parts of one, or all zeros
abbrev pub pointer_in : List Content → Option MachinePointer
pointer_in [] = None
pointer_in (c ∷ cs) = pointer_by c (c ∷ cs)

abbrev pub integer_in : IntType → Option (List Labelled) → Option Scalar
integer_in kind None = None
integer_in kind (Some ns) = Some (integer (number_of kind.signed ns) (joined_labels ns))

abbrev pub pointer_scalar : Option MachinePointer → Option Scalar
pointer_scalar None = None
pointer_scalar (Some p) = Some (pointer p)

abbrev pub scalar_in : declared.Scalar → List Content → Option Scalar
scalar_in (of.Int kind) cs = integer_in kind (numbers_in cs)
scalar_in of.Pointer cs = pointer_scalar (pointer_in cs)

-- ---- loads

-- whether a pointer points into a freed instance
abbrev pub is_freed_life : Life → Bool
is_freed_life freed = true
is_freed_life _ = false

abbrev pub points_into_freed : Memory → Scalar → Bool
points_into_freed memory (pointer (into i offset lo hi)) = is_freed_life (life_at memory i)
points_into_freed memory _ = false

-- a pointer into a freed instance is a violation, behind which the run goes on
abbrev pub given : World → Option Scalar → Reply Scalar
given w None = stops Left w
given w (Some v) = goes v (noted w (points_into_freed w.memory v) rule.Accfree)

-- an indeterminate byte stops the run, which is no violation of an unsigned character
abbrev pub read_blank : World → declared.Scalar → Reply Scalar
read_blank w kind = cond (same_class (class_in kind) Char && is_unsigned kind) (stops Left w) (stopped_by w rule.Uninitref)

abbrev pub read_contents : World → declared.Scalar → List Content → Reply Scalar
read_contents w kind cs = cond (has_blank cs) (read_blank w kind) (given w (scalar_in kind cs))

-- characters are read under each tag, other scalars under their own alone
abbrev pub is_seen_as : Bool → Class → List Byte → Bool
is_seen_as allocated class bytes = same_class class Char || fit_from allocated class 0 bytes

abbrev pub bytes_seen : Model → World → Class → Spot → List Byte
bytes_seen m w class spot = region (bytes_at w.memory spot.instance) spot.offset (class_bytes m class)

abbrev pub load_at : Model → declared.Scalar → Spot → World → Reply Scalar
load_at m kind spot w =
    cond (is_seen_as (is_allocated (storage_at w.memory spot.instance)) (class_in kind) (bytes_seen m w (class_in kind) spot))
    (read_contents w kind (contents (bytes_seen m w (class_in kind) spot)))
    (stops Left w)

-- the scalar that a pointer points to
abbrev pub load_through : Model → declared.Scalar → MachinePointer → World → Reply Scalar
load_through m kind p w = behind (touched w p (class_bytes m (class_in kind)) false) (load_at m kind)

abbrev pub load : Model → declared.Scalar → Scalar → World → Reply Scalar
load m kind at w = with_pointer at w (load_through m kind)

-- ---- stores

-- a store to an allocated object gives its bytes the tags of the scalar, unless it is a character
abbrev pub stored_bytes : Bool → Class → List Byte → ℕ → List Content → List Byte
stored_bytes allocated class bytes offset cs = cond (allocated && not (same_class class Char)) (replaced bytes offset (tagged_from class 0 cs)) (refilled bytes offset cs)

abbrev pub stored : World → Class → Spot → List Content → World
stored w class spot cs = with_memory w (set_bytes w.memory spot.instance (stored_bytes (is_allocated (storage_at w.memory spot.instance)) class (bytes_at w.memory spot.instance) spot.offset cs))

-- a declared object is stored to under its own tags
abbrev pub may_store : Model → World → Class → Spot → Bool
may_store m w class spot = is_allocated (storage_at w.memory spot.instance) || is_seen_as false class (bytes_seen m w class spot)

abbrev pub store_at : Model → Class → Scalar → Spot → World → Reply Scalar
store_at m class v spot w = cond (may_store m w class spot) (goes v (stored w class spot (scalar_bytes (class_bytes m class) v))) (stops Left w)

-- a scalar is stored where a pointer points to
abbrev pub store_through : Model → declared.Scalar → Scalar → MachinePointer → World → Reply Scalar
store_through m kind v p w = behind (touched w p (class_bytes m (class_in kind)) true) (store_at m (class_in kind) v)

-- a value is stored where its kind is that of the scalar
abbrev pub store : Model → declared.Scalar → Scalar → Scalar → World → Reply Scalar
store m kind at v w = with_pointer at w (λ p w. cond (is_of_kind kind v) (store_through m kind v p w) (stops Stuck w))
