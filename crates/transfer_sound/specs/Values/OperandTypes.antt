-- What instructions suppose of their operands: the rows of an analysis speak of numbers of the type alone, and neither
-- the machine nor the checks of a program look at it.
use Rattle.std.specs.Prelude.{◌≡◌, ◌≤ℤ◌, ℕ, ℤ, pos, true, Option, Some, List, [], ◌∷◌}
use Rattle.cc_base.specs.IntegerTypes.{in_type}
use Rattle.cc_base.specs.declared.int_types.IntType.{IntType}
use Rattle.c_layout.specs.declared.library_functions.LibFn.{LibFn}
use Rattle.c_layout.specs.declared.library_functions.LibFn.TheVariants as f
use Rattle.cfg.specs.declared.machine_instructions.Scalar as declared
use Rattle.cfg.specs.declared.machine_instructions.Operation.{Operation}
use Rattle.cfg.specs.declared.machine_instructions.Operation.TheVariants as op
use Rattle.memory_model.specs.Memory.Labels.{Labels}
use Rattle.memory_model.specs.Memory.Scalars.{Scalar, integer}
use Rattle.store_sound.specs.Operations.Scalars.{IsOfKind}

-- a number that the temporary has is one of the type
abbrev pub HasNumberOf : IntType → Option Scalar → Type 0
HasNumberOf kind v = (n : ℤ) (labels : Labels) → v ≡ Some (integer n labels) → in_type kind n ≡ true

-- what the temporary has is of the kind
abbrev pub HasKind : declared.Scalar → Option Scalar → Type 0
HasKind kind v = (x : Scalar) → v ≡ Some x → IsOfKind kind x

-- a size that the temporary has is not negative
abbrev pub HasSize : Option Scalar → Type 0
HasSize v = (n : ℤ) (labels : Labels) → v ≡ Some (integer n labels) → pos 0 ≤ℤ n

-- a third argument is a size
abbrev pub HasThirdSize : List ℕ → (ℕ → Option Scalar) → Type 0
HasThirdSize (first ∷ (second ∷ (third ∷ []))) temps = HasSize (temps third)
HasThirdSize arguments temps = Unit {0}

-- each argument is a size, or no number
abbrev pub HasSizes : List ℕ → (ℕ → Option Scalar) → Type 0
HasSizes [] temps = Unit {0}
HasSizes (temp ∷ rest) temps = HasSize (temps temp) × HasSizes rest temps

-- what a function takes as a size is one, as it is of an unsigned type
abbrev pub TakesSize : LibFn → List ℕ → (ℕ → Option Scalar) → Type 0
TakesSize f.Malloc arguments temps = HasSizes arguments temps
TakesSize f.Calloc arguments temps = HasSizes arguments temps
TakesSize f.Realloc arguments temps = HasSizes arguments temps
TakesSize f.Memset arguments temps = HasThirdSize arguments temps
TakesSize f.Memcpy arguments temps = HasThirdSize arguments temps
TakesSize f.Memmove arguments temps = HasThirdSize arguments temps
TakesSize f.Strncpy arguments temps = HasThirdSize arguments temps
TakesSize _ arguments temps = Unit {0}

-- the left operand of an operator is of the operator's type, what is converted is of the type from which it is converted,
-- and a size is not negative
abbrev pub HasOperands : Operation → (ℕ → Option Scalar) → Type 0
HasOperands (op.Binary to o left right kind) temps = HasNumberOf kind (temps left)
HasOperands (op.Unary to o operand kind) temps = HasNumberOf kind (temps operand)
HasOperands (op.Convert to operand from kind) temps = HasKind from (temps operand)
HasOperands (op.Library to name arguments newest size) temps = TakesSize name arguments.items temps
HasOperands _ temps = Unit {0}
