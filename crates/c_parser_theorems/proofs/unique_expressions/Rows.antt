-- Worked rows: why one tree needs what stands behind it. From `x + y` both `x`, in front of the sign, and the sum
-- derive; only the sum ends before what stands there.
use Rattle.std.proofs.Common.{ℕ, List, [], ◌∷◌, refl, arith, codes}
use Rattle.cc_base.specs.declared.diagnostics.Place.{Place}
use Rattle.c_layout.specs.SyntaxTrees.{Name, Binary}
use Rattle.c_layout.specs.declared.syntax_tree.expressions.BinaryOp.TheVariants as binary
use Rattle.c_parser_tokens.specs.declared.terminals.Punctuator.TheVariants as p
use Rattle.c_parser_tokens.specs.declared.terminals.Symbol.TheVariants as symbol
use Rattle.c_parser_tokens.specs.declared.terminals.Terminal.{Terminal}
use Rattle.c_parser_expression_grammar.specs.Expressions.{Derives}
use Rattle.c_parser_expression_grammar.specs.Fronts.{IsName, IsSign}
use Rattle.c_parser_theorems.specs.UniqueExpressions.Endings.{EndsBefore}

abbrev at : ℕ → Place
at n = record { file = 0; line = 1; col = n }

abbrev name : List ℕ → ℕ → Terminal
name text n = record { place = at n; symbol = symbol.Identifier; text = text }

abbrev plus : Terminal
plus = record { place = at 3; symbol = symbol.Punctuator p.Plus; text = [] }

abbrev behind_x : List Terminal
behind_x = plus ∷ (name (codes "y") 5 ∷ [])

abbrev whole : List Terminal
whole = name (codes "x") 1 ∷ behind_x

x_derives : Derives (Name (at 1) (codes "x")) [] 0 whole behind_x
x_derives = record { symbol = refl; other = refl; place = refl; spelled = refl; behind = refl }

sum_derives : Derives (Binary (at 3) binary.Add (Name (at 1) (codes "x")) (Name (at 5) (codes "y"))) [] 0 whole []
sum_derives =
    let x : IsName [] (at 1) (codes "x") whole behind_x = record { symbol = refl; other = refl; place = refl; spelled = refl; behind = refl } in
    let sign : IsSign p.Plus behind_x (name (codes "y") 5 ∷ []) = record { symbol = refl; behind = refl } in
    let y : IsName [] (at 5) (codes "y") (name (codes "y") 5 ∷ []) [] = record { symbol = refl; other = refl; place = refl; spelled = refl; behind = refl } in
    (omega arith, behind_x, name (codes "y") 5 ∷ [], refl, x, sign, y)

sum_ends : EndsBefore 0 []
sum_ends = omega arith

-- at the level of a factor the sign ends the name, and at that of a sum it does not
factor_ends : EndsBefore 12 behind_x
factor_ends = omega arith

sum_goes_on : EndsBefore 11 behind_x → ⊥
sum_goes_on h = omega arith
