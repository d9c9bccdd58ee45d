-- The operators of a condition (6.5) and how they are written.
use Rattle.std.specs.Prelude.{ℕ, ◌&&◌, ◌==◌, cond, List, [], ◌∷◌}
use Rattle.c_preproc_conditions.specs.declared.operations.Unary.TheVariants.{Complement, Not}
use Rattle.c_preproc_conditions.specs.declared.operations.Binary.{Binary}
use Rattle.c_preproc_conditions.specs.declared.operations.Binary.TheVariants.{Multiply, Divide, Remainder, Add, Subtract, ShiftLeft, ShiftRight, Less, Greater, LessEqual, GreaterEqual, Equal, NotEqual, And, Xor, Or, LogicalAnd, LogicalOr}
use Rattle.c_preproc_conditions.specs.declared.condition_symbols.Symbol.{Symbol}
use Rattle.c_preproc_conditions.specs.declared.condition_symbols.Symbol.TheVariants.{Question, Colon, Plus, Minus, Prefix, Infix, Foreign}

-- how tightly an operator binds: 10 for `*` down to 1 for `||`
abbrev pub precedence : Binary → ℕ
precedence Multiply = 10
precedence Divide = 10
precedence Remainder = 10
precedence Add = 9
precedence Subtract = 9
precedence ShiftLeft = 8
precedence ShiftRight = 8
precedence Less = 7
precedence Greater = 7
precedence LessEqual = 7
precedence GreaterEqual = 7
precedence Equal = 6
precedence NotEqual = 6
precedence And = 5
precedence Xor = 4
precedence Or = 3
precedence LogicalAnd = 2
precedence LogicalOr = 1

-- a punctuator of one byte
abbrev pub short_punctuator : ℕ → Symbol
short_punctuator b =
    cond (b == 43) Plus (cond (b == 45) Minus (cond (b == 63) Question (cond (b == 58) Colon
    (cond (b == 126) (Prefix Complement) (cond (b == 33) (Prefix Not)
    (cond (b == 42) (Infix Multiply) (cond (b == 47) (Infix Divide) (cond (b == 37) (Infix Remainder)
    (cond (b == 60) (Infix Less) (cond (b == 62) (Infix Greater)
    (cond (b == 38) (Infix And) (cond (b == 94) (Infix Xor) (cond (b == 124) (Infix Or) Foreign)))))))))))))

abbrev pub long_punctuator : ℕ → ℕ → Symbol
long_punctuator a b =
    cond (a == 60 && b == 60) (Infix ShiftLeft) (cond (a == 62 && b == 62) (Infix ShiftRight)
    (cond (a == 60 && b == 61) (Infix LessEqual) (cond (a == 62 && b == 61) (Infix GreaterEqual)
    (cond (a == 61 && b == 61) (Infix Equal) (cond (a == 33 && b == 61) (Infix NotEqual)
    (cond (a == 38 && b == 38) (Infix LogicalAnd) (cond (a == 124 && b == 124) (Infix LogicalOr) Foreign)))))))

-- what a punctuator is in a condition
abbrev pub punctuator : List ℕ → Symbol
punctuator (b ∷ []) = short_punctuator b
punctuator (a ∷ (b ∷ [])) = long_punctuator a b
punctuator _ = Foreign
