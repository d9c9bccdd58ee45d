-- The start of a run: objects of static storage and literals are made, and the entry's parameters take
-- numbers of the outside.
use Rattle.std.specs.Prelude.{ℕ, ◌+◌, ℤ, List, [], ◌∷◌, ◌++◌, length, map, take, Option, Some, None, slice_get}
use Rattle.cc_base.specs.IntegerTypes.{least_of, greatest_of}
use Rattle.cc_base.specs.declared.int_types.IntType.{IntType}
use Rattle.c_layout.specs.Types.{Ty, Int}
use Rattle.c_layout.specs.Layout.{size_of_type}
use Rattle.c_layout.specs.Leaves.{leaves_of}
use Rattle.c_layout.specs.CheckedUnits.{LocalView, StaticStoreView, SetValue, SetText, StaticView, LiteralView, FunctionView, UnitView}
use Rattle.c_layout.specs.declared.leaf_lists.Class.TheVariants.{Char}
use Rattle.c_layout.specs.declared.checked_tree.checked_units.StaticBase.{StaticBase}
use Rattle.c_layout.specs.declared.checked_tree.checked_units.StaticBase.TheVariants as base
use Rattle.c_layout.specs.declared.checked_tree.checked_units.StaticValue.{StaticValue}
use Rattle.c_layout.specs.declared.checked_tree.checked_units.StaticValue.TheVariants as static_value
use Rattle.memory_model.specs.Memory.Labels.{no_labels, input_labels}
use Rattle.memory_model.specs.Memory.Bytes.{null, into, Content, number, Byte}
use Rattle.memory_model.specs.Memory.Tags.{tag_of}
use Rattle.memory_model.specs.Memory.Instances.{static, literal, automatic, Memory, Instance}
use Rattle.memory_model.specs.Memory.Scalars.{integer}
use Rattle.memory_model.specs.Effects.Worlds.{World, Stuck, Reply, stops, behind, done, drawn}
use Rattle.memory_model.specs.Effects.ScalarBytes.{scalar_bytes, pointer_bytes, refilled}
use Rattle.memory_model.specs.Effects.ObjectEffects.{blank_bytes, fresh, with_instance, all_of, characters}

-- objects of static storage and then literals are the first instances, and the entry's parameters the next
abbrev pub literal_instance : UnitView → ℕ → ℕ
literal_instance u n = length u.objects + n

abbrev pub parameter_instance : UnitView → ℕ → ℕ
parameter_instance u n = (length u.objects + length u.literals) + n

abbrev pub base_instance : UnitView → StaticBase → ℕ
base_instance u (base.Object n) = n
base_instance u (base.Literal n) = literal_instance u n

-- ---- static objects and literals

abbrev pub value_bytes : UnitView → StaticValue → List Content
value_bytes u (static_value.Number n kind) = scalar_bytes kind.bytes (integer n no_labels)
value_bytes u static_value.Null = pointer_bytes u.model.pointer null
value_bytes u (static_value.Address b offset lo hi) = pointer_bytes u.model.pointer (into (base_instance u b) offset lo hi)

abbrev pub stored : UnitView → StaticStoreView → List Byte → List Byte
stored u (SetValue offset value) bytes = refilled bytes offset (value_bytes u value)
stored u (SetText offset room text) bytes = refilled bytes offset (take room (characters text ++ number 0 no_labels ∷ []))

abbrev pub all_stored : UnitView → List StaticStoreView → List Byte → List Byte
all_stored u [] bytes = bytes
all_stored u (x ∷ xs) bytes = all_stored u xs (stored u x bytes)

abbrev pub typed_bytes : UnitView → Ty → List Byte
typed_bytes u t = blank_bytes u.model (leaves_of u.structs u.model.pointer t) 0 (size_of_type u.structs u.model.pointer t)

-- all zero, and then the stores of the initializer in order
abbrev pub static_instance : UnitView → StaticView → Instance
static_instance u o = fresh static (all_stored u o.stores (all_of (number 0 no_labels) (typed_bytes u o.ctype)))

abbrev pub character_byte : Content → Byte
character_byte c = record { content = c; tag = tag_of Char 0 }

-- the characters and a closing zero
abbrev pub literal_made : LiteralView → Instance
literal_made l = fresh literal (map character_byte (characters l.bytes ++ number 0 no_labels ∷ []))

abbrev pub start_memory : UnitView → Memory
start_memory u = map (static_instance u) u.objects ++ map literal_made u.literals

-- ---- the entry's parameters

abbrev pub input : UnitView → IntType → ℤ → World → World
input u kind n w = with_instance w (fresh automatic (refilled (typed_bytes u (Int kind)) 0 (scalar_bytes kind.bytes (integer n (input_labels kind)))))

-- a parameter takes a number of its type from the outside
abbrev pub with_parameter : UnitView → Ty → World → Reply (Unit {0})
with_parameter u (Int kind) w = behind (drawn w (least_of kind) (greatest_of kind)) (λ n w. done (input u kind n w))
with_parameter u t w = stops Stuck w

abbrev pub with_parameters : UnitView → List LocalView → World → Reply (Unit {0})
with_parameters u [] w = done w
with_parameters u (l ∷ ls) w = behind (with_parameter u l.ctype w) (λ _ w. with_parameters u ls w)

abbrev pub parameters_of : Option FunctionView → List LocalView
parameters_of None = []
parameters_of (Some f) = take f.parameters f.locals

abbrev pub entry_parameters : UnitView → List LocalView
entry_parameters u = parameters_of (slice_get u.functions u.entry)

abbrev pub world_before : UnitView → List ℤ → World
world_before u draws = record { memory = start_memory u; draws = draws; violated = [] }

-- the world in which a run under some numbers of the outside begins, unless it stops before
abbrev pub start_world : UnitView → List ℤ → Reply (Unit {0})
start_world u draws = with_parameters u (entry_parameters u) (world_before u draws)
