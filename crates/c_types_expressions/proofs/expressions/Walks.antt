-- Loops over lists of expressions, each typed in the state that the one before it leaves.
use Rattle.std.proofs.Common.{ℕ, List, ◌++◌, map, drop, Ok}
use Rattle.c_layout.specs.SyntaxTrees.{Trees, trees, tree_of}
use Rattle.c_layout.specs.declared.syntax_tree.expressions.Expr.{Expr}
use Rattle.c_types_scopes.specs.Refusals.{Ruled}
use Rattle.c_types_scopes.specs.States.{State}

-- values behind those that were made
abbrev pub behind : {V : Type 0} → List V → List V → State → Ruled (List V × State)
behind made vs t = Ok (made ++ vs, t)

-- the expressions from the one with a number on
abbrev pub rest_of : List Expr → ℕ → Trees
rest_of es i = trees (map tree_of (drop i es))
