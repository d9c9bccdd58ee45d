-- Looks at types: whether integer types are those of the data model, and whether two types give values of one mark.
use Rattle.std.specs.Prelude.{◌==◌, ℤ, pos, negsuc, Bool, true, false, ◌&&◌, ◌||◌}
use Rattle.cc_base.specs.IntegerTypes.{is_size, least_of, greatest_of, in_type}
use Rattle.cc_base.specs.declared.int_types.IntType.{IntType}
use Rattle.cc_base.specs.declared.integer_operators.IntOp.{IntOp}
use Rattle.cc_base.specs.declared.integer_operators.IntOp.TheVariants.{Shl, Shr}
use Rattle.c_layout.specs.Leaves.{class_of}
use Rattle.c_layout.specs.Types.{Ty, Int, Pointer, Array, Struct, Void, same_kind, same_type}
use Rattle.c_layout.specs.CheckedUnits.{UnitView}
use Rattle.c_layout.specs.declared.data_model.Model.{Model}
use Rattle.lower_templates.specs.Worklist.TermKinds.{scalar_of}
use Rattle.lower_templates.specs.declared.worklist.term_kinds.OperatorMeaning.{OperatorMeaning}
use Rattle.lower_templates.specs.declared.worklist.term_kinds.OperatorMeaning.TheVariants as meant
use Rattle.cfg.specs.declared.machine_instructions.Scalar.{Scalar}
use Rattle.cfg.specs.declared.machine_instructions.Scalar.TheVariants as of
use Rattle.memory_model.specs.Memory.ScalarSizes.{class_bytes}
use Rattle.memory_model.specs.Effects.LibraryChecks.{most_size}

-- ---- integer types

-- an integer type of a data model
abbrev pub is_kind : Model → IntType → Bool
is_kind m kind = is_size kind.bytes && class_bytes m (class_of kind) == kind.bytes

-- whether a type has all numbers of another one
abbrev pub is_wider : IntType → IntType → Bool
is_wider narrow wide = in_type wide (least_of narrow) && in_type wide (greatest_of narrow)

abbrev pub has_truths : IntType → Bool
has_truths kind = in_type kind (pos 0) && in_type kind (pos 1)

-- the count of a shift may have another type than what is shifted
abbrev pub counts_as : IntOp → IntType → IntType → Bool
counts_as Shl kind count = true
counts_as Shr kind count = true
counts_as sign kind count = same_kind count kind

-- ---- scalars

abbrev pub is_scalar : Model → Scalar → Bool
is_scalar m (of.Int kind) = is_kind m kind
is_scalar m of.Pointer = true

abbrev pub is_pointer : Scalar → Bool
is_pointer (of.Int kind) = false
is_pointer of.Pointer = true

abbrev pub same_scalar : Scalar → Scalar → Bool
same_scalar (of.Int a) (of.Int b) = same_kind a b
same_scalar of.Pointer of.Pointer = true
same_scalar a b = false

-- ---- types

abbrev pub is_scalar_type : UnitView → Ty → Bool
is_scalar_type u t = is_scalar u.model (scalar_of t)

-- whether a value of a type is a pointer; that of a struct is its address
abbrev pub is_address : Ty → Bool
is_address t = is_pointer (scalar_of t)

-- whether values of two types have the same mark
abbrev pub same_mark : Ty → Ty → Bool
same_mark t s = same_scalar (scalar_of t) (scalar_of s)

-- whether a type is one of integers of which something holds
abbrev pub is_such : (IntType → Bool) → Ty → Bool
is_such look (Int kind) = look kind
is_such look (Pointer t) = false
is_such look (Array t n) = false
is_such look (Struct i) = false
is_such look Void = false

abbrev pub is_integer : Ty → Bool
is_integer t = is_such (λ kind. true) t

abbrev pub has_number : ℤ → Ty → Bool
has_number n t = is_such (λ kind. in_type kind n) t

abbrev pub is_truth : Ty → Bool
is_truth t = is_such has_truths t

-- the type of a difference of pointers
abbrev pub subtracts : UnitView → Ty → Bool
subtracts u t = is_such (λ kind. in_type kind (pos (most_size u.model)) && in_type kind (negsuc (most_size u.model))) t

-- ---- the operands of operators and their results

-- of an operator on two integers
abbrev pub combines : UnitView → OperatorMeaning → Ty → Ty → Ty → Bool
combines u (meant.Number sign) a b t = is_such (λ kind. is_kind u.model kind && (is_such (λ left. same_kind left kind) a && is_such (λ count. counts_as sign kind count) b)) t
combines u (meant.Truth rel) a b t = is_integer a && (is_integer b && is_truth t)

-- a pointer and an integer
abbrev pub adds_to : Ty → Ty → Bool
adds_to a b = (is_address a && is_integer b) || (is_integer a && is_address b)

-- `++` and `--`, which compute in a type of their own
abbrev pub steps_in : UnitView → IntType → Ty → Ty → Bool
steps_in u kind l t = is_such (λ old. is_kind u.model old) l && (is_kind u.model kind && same_type t l)

-- a compound assignment, which does too
abbrev pub compounds : UnitView → IntOp → IntType → Ty → Ty → Ty → Bool
compounds u sign kind l a t = is_such (λ count. counts_as sign kind count) a && steps_in u kind l t

-- a conversion between two types
abbrev pub converts : Scalar → Scalar → Bool
converts (of.Int new) (of.Int old) = true
converts of.Pointer of.Pointer = true
converts new old = false
