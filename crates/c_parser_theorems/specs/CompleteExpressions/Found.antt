-- Which expressions the readers find: those that derive, within the budget, where nothing goes on with them.
use Rattle.std.specs.Prelude.{◌≡◌, ◌≤◌, ◌<◌, ℕ, zero, suc, List, Some}
use Rattle.c_layout.specs.SyntaxTrees.{Tree, Trees, End, More, TypeNameView}
use Rattle.c_parser_tokens.specs.declared.terminals.Punctuator.TheVariants as p
use Rattle.c_parser_tokens.specs.declared.terminals.Terminal.{Terminal}
use Rattle.c_parser_expression_grammar.specs.Expressions.{Derives, DeriveEach, height_of, heights_of}
use Rattle.c_parser_expression_grammar.specs.Fronts.{IsSign}
use Rattle.c_parser_expression_grammar.specs.Spans.{Span}
use Rattle.c_parser_expression_grammar.specs.TypeNames.{IsTypeName, type_name_height}
use Rattle.c_parser_theorems.specs.UniqueExpressions.Endings.{EndsBefore}
use Rattle.c_parser_expression_grammar.specs.Readings.{Reading, got}
use Rattle.c_parser_expression_grammar.specs.ExpressionReaders.{NameReaders, Readers, no_readers, readers, inside}

-- an expression of a level and of a height below the bound is what the reader answers
abbrev pub Reads : List (List ℕ) → (List Terminal → Reading) → ℕ → ℕ → Tree → Type 0
Reads known reader l bound e =
    (ts rest : List Terminal) → Derives e known l ts rest → EndsBefore l rest → height_of e < bound → reader ts ≡ Some (got e (height_of e) rest)

pub record Finds (known : List (List ℕ)) (r : Readers) (bound : ℕ) (e : Tree) : Type 0 where
  pub expression : Reads known r.expression 0 bound e
  pub assignment : Reads known r.assignment 1 bound e
  pub conditional : Reads known r.conditional 2 bound e
  pub binary : (l : ℕ) → 3 ≤ l → l ≤ 13 → Reads known (r.binary l) l bound e
  pub cast : Reads known r.cast 13 bound e
  pub unary : Reads known r.unary 14 bound e
  pub postfix : Reads known r.postfix 15 bound e

-- an expression is found by the readers of each budget
abbrev pub IsFound : NameReaders → List (List ℕ) → Tree → Type 0
IsFound name known e = (b : ℕ) → Finds known (readers name known b) (suc b) e

abbrev pub AllFound : NameReaders → List (List ℕ) → Trees → Type 0
AllFound name known End = Unit {0}
AllFound name known (More e more) = IsFound name known e × AllFound name known more

-- the reader of type names finds those that derive before a `)`, where the lengths of their arrays are found
abbrev pub FindsNames : NameReaders → List (List ℕ) → Type 0
FindsNames name known =
    (b : ℕ) (n : TypeNameView) (es : Trees) (spans : List Span) (ts rest last : List Terminal) → AllFound name known es → DeriveEach es known 2 spans → IsTypeName known n spans ts rest → IsSign p.RightParenthesis rest last →
    type_name_height n (heights_of es) ≤ b → name.name b (inside name known b) ts ≡ Some (record { name = n; lengths = es; height = type_name_height n (heights_of es); rest = rest })
