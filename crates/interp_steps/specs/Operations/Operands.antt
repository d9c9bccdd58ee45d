-- Operations by how many of the values that are pending they take.
use Rattle.std.specs.Prelude.{List, ◌∷◌}
use Rattle.c_layout.specs.CheckedUnits.{UnitView}
use Rattle.memory_model.specs.Memory.Scalars.{Scalar}
use Rattle.memory_model.specs.Effects.Accesses.{load, store}
use Rattle.memory_model.specs.Effects.IntegerEffects.{plain_one, binary, unary, compare_numbers, negation, convert}
use Rattle.memory_model.specs.Effects.PointerEffects.{narrow, shift, difference, compare}
use Rattle.memory_model.specs.Effects.StructCopies.{copy_struct}
use Rattle.memory_model.specs.Effects.Worlds.{World, Stuck, Reply, stops}
use Rattle.semantics.specs.SourceMachine.Operations as op
use Rattle.semantics.specs.SourceMachine.Operations.{Operation, Order, size_of, leaves}

-- what an operation of one value gives
abbrev pub one_of : UnitView → Operation → Scalar → World → Reply Scalar
one_of u (op.Load kind) a w = load u.model kind a w
one_of u (op.Narrow offset size) a w = narrow a offset size w
one_of u (op.ShiftByOne size back) a w = shift a plain_one size back w
one_of u (op.BinaryByOne sign kind) a w = binary sign kind a plain_one w
one_of u (op.Unary sign kind) a w = unary sign kind a w
one_of u op.Not a w = negation a w
one_of u (op.Convert kind) a w = convert kind a w
one_of u operation a w = stops Stuck w

-- what an operation of two values gives
abbrev pub two_of : UnitView → Operation → Scalar → Scalar → World → Reply Scalar
two_of u (op.Store kind) a b w = store u.model kind a b w
two_of u (op.Copy t) a b w = copy_struct u.model (leaves u t) (size_of u t) a b w
two_of u (op.Shift order size back) a b w = shift a b size back w
two_of u (op.Binary order sign kind) a b w = binary sign kind a b w
two_of u (op.Compare rel) a b w = compare_numbers rel a b w
two_of u (op.Difference size) a b w = difference a b size w
two_of u (op.ComparePointers rel) a b w = compare rel a b w
two_of u operation a b w = stops Stuck w

-- which of two operands was computed first
abbrev pub order_of : Operation → Order
order_of (op.Shift order size back) = order
order_of (op.Binary order sign kind) = order
order_of operation = op.LeftFirst

-- two operands above other values
abbrev pub two_above : Order → Scalar → Scalar → List Scalar → List Scalar
two_above op.LeftFirst a b vs = b ∷ (a ∷ vs)
two_above op.RightFirst a b vs = a ∷ (b ∷ vs)
