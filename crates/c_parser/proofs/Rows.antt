-- Worked rows of the grammar of statements and units.
use Rattle.std.proofs.Common.{◌≡◌, ℕ, ◌≤◌, true, false, List, [], ◌∷◌, Some, None, refl, arith, codes}
use Rattle.cc_base.specs.declared.diagnostics.Place.{Place}
use Rattle.c_layout.specs.SyntaxTrees.{Tree, Name}
use Rattle.c_layout.specs.DeclarationTrees.{NameView, InitDeclaratorView, Object, LocalView, StatementTree, Declaration, Label, Block, Expression, If, IfElse, While, Break, NoStatement, SpecTree, SpecTrees, StorageWord, Qualifier, TypeOf, StructTag, StructBody, EnumTag, EnumBody, TypedefName, NoWord, MoreWords, ExternalTree, Declared, Defined, spec_trees}
use Rattle.c_layout.specs.declared.syntax_tree.declarations.Storage.TheVariants as storage
use Rattle.c_layout.specs.declared.syntax_tree.declarations.TypeWord.TheVariants as type_word
use Rattle.c_parser_tokens.specs.declared.terminals.Keyword.TheVariants as k
use Rattle.c_parser_tokens.specs.declared.terminals.Punctuator.TheVariants as p
use Rattle.c_parser_tokens.specs.declared.terminals.Symbol.TheVariants as symbol
use Rattle.c_parser_tokens.specs.declared.terminals.Terminal.{Terminal}
use Rattle.c_parser_expression_grammar.specs.Fronts.{IsName}
use Rattle.c_parser_declarations.specs.Grammar.Specifiers.{DeriveWord, IsSpec}
use Rattle.c_parser_declarations.proofs.readers.Rows.{at, sign, word, name, sign_at, word_at, name_at}
use Rattle.c_parser.specs.Externals.{in_force, IsExternal, external_height}
use Rattle.c_parser.specs.Pieces.{piece_length}
use Rattle.c_parser.specs.Statements.{Condition, DeriveStatement, statement_height}

-- ---- statements

-- `;`
null : DeriveStatement (Expression (at 1) None) [] (sign p.Semicolon 1 ∷ []) []
null = (refl, sign p.Semicolon 1 ∷ [], refl, sign_at p.Semicolon 1 [])

-- `if ( a ) ; else ;`
abbrev last : List Terminal
last = sign p.Semicolon 7 ∷ []

abbrev other : List Terminal
other = word k.Else 6 ∷ last

abbrev first : List Terminal
first = sign p.Semicolon 5 ∷ other

abbrev inside : List Terminal
inside = name (codes "a") 3 ∷ (sign p.RightParenthesis 4 ∷ first)

test : Condition [] (Name (at 3) (codes "a")) (sign p.LeftParenthesis 2 ∷ inside) first
test = (inside, sign p.RightParenthesis 4 ∷ first, sign_at p.LeftParenthesis 2 inside, name_at (codes "a") 3 (sign p.RightParenthesis 4 ∷ first), sign_at p.RightParenthesis 4 first)

with_else : DeriveStatement (IfElse (at 1) (Name (at 3) (codes "a")) (Expression (at 5) None) (Expression (at 7) None)) [] (word k.If 1 ∷ (sign p.LeftParenthesis 2 ∷ inside)) []
with_else = (
  refl,
  sign p.LeftParenthesis 2 ∷ inside,
  first,
  other,
  last,
  word_at k.If 1 (sign p.LeftParenthesis 2 ∷ inside),
  test,
  refl,
  refl,
  (refl, first, refl, sign_at p.Semicolon 5 other),
  word_at k.Else 6 last,
  refl,
  (refl, last, refl, sign_at p.Semicolon 7 []),
)

-- an `else` goes with no outer `if`, whatever the terminals
not_outer : (x y : Tree) (s t : StatementTree) (m n : Place) (known : List (List ℕ)) (ts rest : List Terminal) → DeriveStatement (IfElse m x (If n y s) t) known ts rest → ⊥
not_outer x y s t m n known ts rest d = let closed : true ≡ false = d.8 in cc

-- nor through a loop or a label
not_through : (x y z : Tree) (label : NameView) (s t : StatementTree) (m n o : Place) (known : List (List ℕ)) (ts rest : List Terminal) →
    DeriveStatement (IfElse m x (While n y (Label label (If o z s))) t) known ts rest → ⊥
not_through x y z label s t m n o known ts rest d = let closed : true ≡ false = d.8 in cc

-- a label stands before a statement, and a declaration is none
not_labelled : (label : NameView) (l : LocalView) (known : List (List ℕ)) (ts rest : List Terminal) → DeriveStatement (Label label (Declaration l)) known ts rest → ⊥
not_labelled label l known ts rest d = let statement : false ≡ true = d.4 in cc

-- heights: `;` has 0, `break;` and `{}` 1, and each `else if` adds 1
no_height : statement_height (Expression (at 1) None) ≡ 0
no_height = refl

one_high : statement_height (Break (at 1)) ≡ 1
one_high = refl

block_high : statement_height (Block (at 1) NoStatement) ≡ 1
block_high = refl

else_if : (x y : Tree) (s t : StatementTree) (m n : Place) → statement_height (IfElse m x (Expression m None) (IfElse n y s t)) ≤ 256 → statement_height (IfElse n y s t) ≤ 255
else_if x y s t m n h = omega (arith, h)

-- ---- pieces

-- `int f ( ) { ; } ;`: the body of the function ends its piece, and the last `;` is a piece of its own
abbrev body : List Terminal
body = sign p.LeftBrace 5 ∷ (sign p.Semicolon 6 ∷ (sign p.RightBrace 7 ∷ (sign p.Semicolon 8 ∷ [])))

function_piece : piece_length (word k.Int 1 ∷ (name (codes "f") 2 ∷ (sign p.LeftParenthesis 3 ∷ (sign p.RightParenthesis 4 ∷ body)))) ≡ 7
function_piece = refl

-- `struct s { } ; ..`: other braces do not
struct_piece : piece_length (word k.Struct 1 ∷ (name (codes "s") 2 ∷ body)) ≡ 6
struct_piece = refl

-- ---- external declarations

abbrev declares : ℕ → List ℕ → InitDeclaratorView
declares n text = Object (record { layers = record { stars = []; arrays = [] } ∷ []; name = Some (record { at = at n; text = text }) })

-- `int x ;`
plain : IsExternal [] (Declared (at 1) (TypeOf (at 1) type_word.Int ∷ []) (declares 2 (codes "x") ∷ [])) (word k.Int 1 ∷ (name (codes "x") 2 ∷ (sign p.Semicolon 3 ∷ []))) []
plain =
    let behind : List Terminal = name (codes "x") 2 ∷ (sign p.Semicolon 3 ∷ []) in
    let end : List Terminal = sign p.Semicolon 3 ∷ [] in (
      refl,
      behind,
      end,
      record { derive = (behind, (refl, k.Int, refl, word_at k.Int 1 behind), refl); one_type = refl },
      (end, record { behind = end; declarator = record { derives = (refl, behind, end, refl, name_at (codes "x") 2 end, refl); named = refl }; initializer = refl }, refl),
      sign_at p.Semicolon 3 [],
    )

plain_height : external_height (Declared (at 1) (TypeOf (at 1) type_word.Int ∷ []) (declares 2 (codes "x") ∷ [])) ≡ 1
plain_height = refl

-- `typedef int T ;` puts T in force, `int T ;` nothing
gives : in_force [] (Declared (at 1) (StorageWord (at 1) storage.Typedef ∷ (TypeOf (at 2) type_word.Int ∷ [])) (declares 3 (codes "T") ∷ [])) ≡ codes "T" ∷ []
gives = refl

gives_nothing : in_force [] (Declared (at 1) (TypeOf (at 1) type_word.Int ∷ []) (declares 2 (codes "T") ∷ [])) ≡ []
gives_nothing = refl

-- then T is no name any more, so that no second declarator of it derives
no_name : (ts rest : List Terminal) (n : ℕ) (m : Place) (text : List ℕ) → IsName (codes "T" ∷ []) m text (name (codes "T") n ∷ ts) rest → ⊥
no_name ts rest n m text d = let other : true ≡ false = d.other in cc

-- no specifiers begin with `;`
no_word : (w : SpecTree) (known : List (List ℕ)) (ts a : List Terminal) → DeriveWord w known (sign p.Semicolon 1 ∷ ts) a → ⊥
no_word (StorageWord n class) known ts a d = let e : symbol.Punctuator p.Semicolon ≡ symbol.Keyword d.1 = d.3.symbol in cc
no_word (Qualifier n) known ts a d = let e : symbol.Punctuator p.Semicolon ≡ symbol.Keyword d.1 = d.3.symbol in cc
no_word (TypeOf n named) known ts a d = let e : symbol.Punctuator p.Semicolon ≡ symbol.Keyword d.1 = d.3.symbol in cc
no_word (StructTag n tag) known ts a d = let e : symbol.Punctuator p.Semicolon ≡ symbol.Keyword k.Struct = d.3.symbol in cc
no_word (StructBody n tag members) known ts a d = let e : symbol.Punctuator p.Semicolon ≡ symbol.Keyword k.Struct = d.6.symbol in cc
no_word (EnumTag n tag) known ts a d = let e : symbol.Punctuator p.Semicolon ≡ symbol.Keyword k.Enum = d.3.symbol in cc
no_word (EnumBody n tag enumerators) known ts a d = let e : symbol.Punctuator p.Semicolon ≡ symbol.Keyword k.Enum = d.5.symbol in cc
no_word (TypedefName n) known ts a d = let e : symbol.Punctuator p.Semicolon ≡ symbol.Identifier = d.symbol in cc

no_spec : (ws : SpecTrees) (known : List (List ℕ)) (ts a : List Terminal) → IsSpec known ws (sign p.Semicolon 1 ∷ ts) a → ⊥
no_spec NoWord known ts a d = let one : false ≡ true = d.one_type in cc
no_spec (MoreWords w ws) known ts a d = no_word w known ts d.derive.0 d.derive.1

-- so a piece that begins with `;` has no derivation
not_alone : (e : ExternalTree) (known : List (List ℕ)) (ts rest : List Terminal) → IsExternal known e (sign p.Semicolon 1 ∷ ts) rest → ⊥
not_alone (Declared n words ds) known ts rest d = no_spec (spec_trees words) known ts d.1 d.3
not_alone (Defined n words f items) known ts rest d = no_spec (spec_trees words) known ts d.1 d.3
