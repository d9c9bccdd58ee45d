-- Keywords (6.4.1), and the words that are left out.
use Rattle.std.specs.Prelude.{ℕ, Bool, ◌||◌, List, Option, Some, None, codes, if◌then◌else◌, nat_eq}
use Rattle.std.specs.Cmp.Lexicographic.{pointwise}
use Rattle.c_parser_tokens.specs.declared.terminals.Keyword.{Keyword}
use Rattle.c_parser_tokens.specs.declared.terminals.Keyword.TheVariants as k

-- the keywords of storage classes, qualifiers, structures and enumerations
abbrev pub declaration_keyword : List ℕ → Option Keyword
declaration_keyword text =
    (if pointwise nat_eq text (codes "auto") then Some k.Auto else
    (if pointwise nat_eq text (codes "const") then Some k.Const else
    (if pointwise nat_eq text (codes "enum") then Some k.Enum else
    (if pointwise nat_eq text (codes "extern") then Some k.Extern else
    (if pointwise nat_eq text (codes "inline") then Some k.Inline else
    (if pointwise nat_eq text (codes "register") then Some k.Register else
    (if pointwise nat_eq text (codes "restrict") then Some k.Restrict else
    (if pointwise nat_eq text (codes "static") then Some k.Static else
    (if pointwise nat_eq text (codes "struct") then Some k.Struct else
    (if pointwise nat_eq text (codes "typedef") then Some k.Typedef else
    None))))))))))

-- the keywords of integer types and void
abbrev pub type_keyword : List ℕ → Option Keyword
type_keyword text =
    (if pointwise nat_eq text (codes "char") then Some k.Char else
    (if pointwise nat_eq text (codes "int") then Some k.Int else
    (if pointwise nat_eq text (codes "long") then Some k.Long else
    (if pointwise nat_eq text (codes "short") then Some k.Short else
    (if pointwise nat_eq text (codes "signed") then Some k.Signed else
    (if pointwise nat_eq text (codes "unsigned") then Some k.Unsigned else
    (if pointwise nat_eq text (codes "void") then Some k.Void else
    None)))))))

-- the keywords of statements, and sizeof
abbrev pub statement_keyword : List ℕ → Option Keyword
statement_keyword text =
    (if pointwise nat_eq text (codes "break") then Some k.Break else
    (if pointwise nat_eq text (codes "case") then Some k.Case else
    (if pointwise nat_eq text (codes "continue") then Some k.Continue else
    (if pointwise nat_eq text (codes "default") then Some k.Default else
    (if pointwise nat_eq text (codes "do") then Some k.Do else
    (if pointwise nat_eq text (codes "else") then Some k.Else else
    (if pointwise nat_eq text (codes "for") then Some k.For else
    (if pointwise nat_eq text (codes "goto") then Some k.Goto else
    (if pointwise nat_eq text (codes "if") then Some k.If else
    (if pointwise nat_eq text (codes "return") then Some k.Return else
    (if pointwise nat_eq text (codes "sizeof") then Some k.Sizeof else
    (if pointwise nat_eq text (codes "switch") then Some k.Switch else
    (if pointwise nat_eq text (codes "while") then Some k.While else
    None)))))))))))))

abbrev pub or_else : Option Keyword → Option Keyword → Option Keyword
or_else (Some k) other = Some k
or_else None other = other

-- the keyword that is spelled so
abbrev pub keyword_of : List ℕ → Option Keyword
keyword_of text = or_else (declaration_keyword text) (or_else (type_keyword text) (statement_keyword text))

-- the words that are left out
abbrev pub is_left_out : List ℕ → Bool
is_left_out text =
    pointwise nat_eq text (codes "float")
    || pointwise nat_eq text (codes "double")
    || pointwise nat_eq text (codes "union")
    || pointwise nat_eq text (codes "volatile")
    || pointwise nat_eq text (codes "_Bool")
    || pointwise nat_eq text (codes "_Complex")
    || pointwise nat_eq text (codes "_Imaginary")
    || pointwise nat_eq text (codes "_Atomic")
    || pointwise nat_eq text (codes "_Alignas")
    || pointwise nat_eq text (codes "_Alignof")
    || pointwise nat_eq text (codes "_Generic")
    || pointwise nat_eq text (codes "_Noreturn")
    || pointwise nat_eq text (codes "_Static_assert")
    || pointwise nat_eq text (codes "_Thread_local")
    || pointwise nat_eq text (codes "asm")
    || pointwise nat_eq text (codes "__asm__")
    || pointwise nat_eq text (codes "__attribute__")
