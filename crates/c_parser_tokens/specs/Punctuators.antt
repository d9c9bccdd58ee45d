-- Punctuators (6.4.6).
use Rattle.std.specs.Prelude.{ℕ, List, Option, Some, None, codes, if◌then◌else◌, nat_eq}
use Rattle.std.specs.Cmp.Lexicographic.{pointwise}
use Rattle.c_parser_tokens.specs.declared.terminals.Punctuator.{Punctuator}
use Rattle.c_parser_tokens.specs.declared.terminals.Punctuator.TheVariants as p

-- the brackets and the marks that stand between parts
abbrev pub separator : List ℕ → Option Punctuator
separator text =
    (if pointwise nat_eq text (codes "[") then Some p.LeftBracket else
    (if pointwise nat_eq text (codes "]") then Some p.RightBracket else
    (if pointwise nat_eq text (codes "(") then Some p.LeftParenthesis else
    (if pointwise nat_eq text (codes ")") then Some p.RightParenthesis else
    (if pointwise nat_eq text (codes "{") then Some p.LeftBrace else
    (if pointwise nat_eq text (codes "}") then Some p.RightBrace else
    (if pointwise nat_eq text (codes ".") then Some p.Dot else
    (if pointwise nat_eq text (codes "->") then Some p.Arrow else
    (if pointwise nat_eq text (codes "?") then Some p.Question else
    (if pointwise nat_eq text (codes ":") then Some p.Colon else
    (if pointwise nat_eq text (codes ";") then Some p.Semicolon else
    (if pointwise nat_eq text (codes ",") then Some p.Comma else
    None))))))))))))

-- the signs that stand before an operand, and those of multiplication
abbrev pub arithmetic_sign : List ℕ → Option Punctuator
arithmetic_sign text =
    (if pointwise nat_eq text (codes "++") then Some p.Increment else
    (if pointwise nat_eq text (codes "--") then Some p.Decrement else
    (if pointwise nat_eq text (codes "&") then Some p.Ampersand else
    (if pointwise nat_eq text (codes "*") then Some p.Star else
    (if pointwise nat_eq text (codes "+") then Some p.Plus else
    (if pointwise nat_eq text (codes "-") then Some p.Minus else
    (if pointwise nat_eq text (codes "~") then Some p.Tilde else
    (if pointwise nat_eq text (codes "!") then Some p.Exclamation else
    (if pointwise nat_eq text (codes "/") then Some p.Slash else
    (if pointwise nat_eq text (codes "%") then Some p.Percent else
    None))))))))))

-- the signs of shifts, comparisons and bitwise and logical operators
abbrev pub comparison_sign : List ℕ → Option Punctuator
comparison_sign text =
    (if pointwise nat_eq text (codes "<<") then Some p.ShiftLeft else
    (if pointwise nat_eq text (codes ">>") then Some p.ShiftRight else
    (if pointwise nat_eq text (codes "<") then Some p.Less else
    (if pointwise nat_eq text (codes ">") then Some p.Greater else
    (if pointwise nat_eq text (codes "<=") then Some p.LessEqual else
    (if pointwise nat_eq text (codes ">=") then Some p.GreaterEqual else
    (if pointwise nat_eq text (codes "==") then Some p.EqualEqual else
    (if pointwise nat_eq text (codes "!=") then Some p.NotEqual else
    (if pointwise nat_eq text (codes "^") then Some p.Caret else
    (if pointwise nat_eq text (codes "|") then Some p.Bar else
    (if pointwise nat_eq text (codes "&&") then Some p.AndAnd else
    (if pointwise nat_eq text (codes "||") then Some p.OrOr else
    None))))))))))))

-- the assignment operators
abbrev pub assignment_sign : List ℕ → Option Punctuator
assignment_sign text =
    (if pointwise nat_eq text (codes "=") then Some p.Assign else
    (if pointwise nat_eq text (codes "*=") then Some p.StarAssign else
    (if pointwise nat_eq text (codes "/=") then Some p.SlashAssign else
    (if pointwise nat_eq text (codes "%=") then Some p.PercentAssign else
    (if pointwise nat_eq text (codes "+=") then Some p.PlusAssign else
    (if pointwise nat_eq text (codes "-=") then Some p.MinusAssign else
    (if pointwise nat_eq text (codes "<<=") then Some p.ShiftLeftAssign else
    (if pointwise nat_eq text (codes ">>=") then Some p.ShiftRightAssign else
    (if pointwise nat_eq text (codes "&=") then Some p.AndAssign else
    (if pointwise nat_eq text (codes "^=") then Some p.XorAssign else
    (if pointwise nat_eq text (codes "|=") then Some p.OrAssign else
    None)))))))))))

abbrev pub or_else : Option Punctuator → Option Punctuator → Option Punctuator
or_else (Some k) other = Some k
or_else None other = other

-- the punctuator that is spelled so; none for the three that are left out
abbrev pub punctuator_of : List ℕ → Option Punctuator
punctuator_of text = or_else (separator text) (or_else (arithmetic_sign text) (or_else (comparison_sign text) (assignment_sign text)))
