-- Groups of terms by their forms.
use Rattle.std.specs.Prelude.{Bool, true, false, not, ◌||◌}
use Rattle.c_layout.specs.CheckedTrees as tree
use Rattle.c_layout.specs.CheckedTrees.{TermTree, Typed}

-- an operator with more operands than one
abbrev pub is_operation : TermTree → Bool
is_operation (Typed at t parens constant (tree.Integer sign a b)) = true
is_operation (Typed at t parens constant (tree.Shift back size a b)) = true
is_operation (Typed at t parens constant (tree.Difference size a b)) = true
is_operation (Typed at t parens constant (tree.Compare sign a b)) = true
is_operation (Typed at t parens constant (tree.Logical sign a b)) = true
is_operation (Typed at t parens constant (tree.Conditional c a b)) = true
is_operation (Typed at t parens constant (tree.Comma a b)) = true
is_operation other = false

-- an assignment or a step
abbrev pub is_assignment : TermTree → Bool
is_assignment (Typed at t parens constant (tree.Assign l a)) = true
is_assignment (Typed at t parens constant (tree.Compound sign kind l a)) = true
is_assignment (Typed at t parens constant (tree.CompoundShift back size l a)) = true
is_assignment (Typed at t parens constant (tree.Step sign time kind l)) = true
is_assignment (Typed at t parens constant (tree.StepPointer sign time size l)) = true
is_assignment other = false

abbrev pub is_call : TermTree → Bool
is_call (Typed at t parens constant (tree.Call function args is_used)) = true
is_call (Typed at t parens constant (tree.Library function args target)) = true
is_call other = false

-- a number, what an lvalue has, or an operator with one operand
abbrev pub is_simple : TermTree → Bool
is_simple e = not (is_operation e || (is_assignment e || is_call e))
