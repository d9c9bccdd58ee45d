-- Tests of a program, as those of the machine.
use Rattle.semantics.specs.SourceMachine.Items as machine
use Rattle.semantics.specs.SourceMachine.Items.{NamedSide, NamedTest}
use Rattle.interp_stack.specs.declared.named_tests.NamedSide7.{NamedSide7}
use Rattle.interp_stack.specs.declared.named_tests.NamedSide7.TheVariants as side
use Rattle.interp_stack.specs.declared.named_tests.NamedTest7.{NamedTest7}

abbrev pub side_view : NamedSide7 → NamedSide
side_view (side.Object o) = machine.named o
side_view (side.Number n) = machine.number n
side_view side.Nothing = machine.nothing

abbrev pub test_view : NamedTest7 → NamedTest
test_view t = record { left = machine.named t.left; rel = t.rel; right = side_view t.right; common = t.common }
