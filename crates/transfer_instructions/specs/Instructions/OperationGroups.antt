-- Operations by what they are on.
use Rattle.std.specs.Prelude.{Bool, true, false}
use Rattle.cfg.specs.declared.machine_instructions.Operation.{Operation}
use Rattle.cfg.specs.declared.machine_instructions.Operation.TheVariants as op

abbrev pub is_on_values : Operation → Bool
is_on_values (op.Constant to number kind) = true
is_on_values (op.Binary to o left right kind) = true
is_on_values (op.Unary to o operand kind) = true
is_on_values (op.Compare to rel left right) = true
is_on_values (op.Not to operand kind) = true
is_on_values (op.Convert to operand from kind) = true
is_on_values _ = false

abbrev pub is_on_pointers : Operation → Bool
is_on_pointers (op.Address to base offset) = true
is_on_pointers (op.Narrow to pointer offset size) = true
is_on_pointers (op.Shift to pointer amount scale backwards) = true
is_on_pointers (op.Difference to left right size) = true
is_on_pointers (op.ComparePointers to rel left right) = true
is_on_pointers _ = false

-- on all bytes of a named object, or spelling a text into it
abbrev pub is_on_objects : Operation → Bool
is_on_objects (op.Enter base) = true
is_on_objects (op.Leave base) = true
is_on_objects (op.Forget base) = true
is_on_objects (op.Clear base) = true
is_on_objects (op.Spell base offset room text) = true
is_on_objects _ = false
