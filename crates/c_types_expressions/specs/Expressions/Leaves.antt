-- What expressions have besides expressions: names, and the first argument of a call as it stands (6.5.1, 6.5.2.2).
use Rattle.std.specs.Prelude.{ℕ, List, Option, Some, None, Ok}
use Rattle.cc_base.specs.declared.diagnostics.Place.{Place}
use Rattle.c_layout.specs.SyntaxTrees.{Tree, Trees, End, More}
use Rattle.c_types_scopes.specs.Refusals.{Ruled}
use Rattle.c_types_scopes.specs.States.{State}
use Rattle.c_types_operands.specs.Operands.{OperandView}
use Rattle.c_types_primary.specs.Primaries.{name}
use Rattle.c_types_primary.specs.Calls.{callee_named, noted}
use Rattle.c_types_primary.specs.declared.calls.Callee.{Callee}

-- a name that is not called
unfoldable pub named : State → Place → List ℕ → Ruled OperandView
named s at text = name s at text

-- what a called name means
unfoldable pub callee_of : State → List ℕ → Callee
callee_of s text = callee_named s text

-- the same; the call is noted before its arguments
unfoldable pub noted_callee : State → Place → List ℕ → Ruled (Callee × State)
noted_callee s at text = Ok (callee_of s text, noted s at (callee_of s text))

-- the first argument
abbrev pub first_tree : Trees → Option Tree
first_tree End = None
first_tree (More e es) = Some e
