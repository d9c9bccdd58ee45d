-- Sides of tests, to the machines.
use Rattle.memory_model.specs.Effects.Tests.{TestedSide, object, constant, nothing, SideTest}
use Rattle.interp_operators.specs.declared.tests.test_sides.Side7.{Side7}
use Rattle.interp_operators.specs.declared.tests.test_sides.Side7.TheVariants as side
use Rattle.interp_operators.specs.declared.tests.test_sides.Test7.{Test7}

abbrev pub side_view : Side7 → TestedSide
side_view (side.Object i kind) = object i kind
side_view (side.Constant n) = constant n
side_view side.Nothing = nothing

abbrev pub test_view : Test7 → SideTest
test_view t = record { left = side_view t.left; rel = t.rel; right = side_view t.right; common = t.common }
