-- Worked rows of the grammar of expressions.
use Rattle.std.proofs.Common.{◌≡◌, ℕ, ◌≤◌, true, false, List, [], ◌∷◌, refl, arith, codes}
use Rattle.cc_base.specs.declared.diagnostics.Place.{Place}
use Rattle.c_layout.specs.SyntaxTrees.{Tree, Name, Binary, Conditional, Assign}
use Rattle.c_layout.specs.declared.syntax_tree.declarations.TypeWord.TheVariants as type_word
use Rattle.c_layout.specs.declared.syntax_tree.expressions.AssignOp.TheVariants as assign
use Rattle.c_layout.specs.declared.syntax_tree.expressions.BinaryOp.TheVariants as binary
use Rattle.c_layout.specs.declared.syntax_tree.expressions.TypeNameWord.TheVariants as word
use Rattle.c_parser_tokens.specs.declared.terminals.Punctuator.{Punctuator}
use Rattle.c_parser_tokens.specs.declared.terminals.Punctuator.TheVariants as p
use Rattle.c_parser_tokens.specs.declared.terminals.Symbol.TheVariants as symbol
use Rattle.c_parser_tokens.specs.declared.terminals.Terminal.{Terminal}
use Rattle.c_parser_expression_grammar.specs.Expressions.{Derives, height_of}
use Rattle.c_parser_expression_grammar.specs.Fronts.{IsName, IsSign}
use Rattle.c_parser_expression_grammar.specs.TypeNames.{counts_of, is_one_type, words_height}

abbrev at : ℕ → Place
at n = record { file = 0; line = 1; col = n }

abbrev sign : Punctuator → ℕ → Terminal
sign s n = record { place = at n; symbol = symbol.Punctuator s; text = [] }

abbrev name : List ℕ → ℕ → Terminal
name text n = record { place = at n; symbol = symbol.Identifier; text = text }

name_at : (text : List ℕ) (n : ℕ) (ts : List Terminal) → IsName [] (at n) text (name text n ∷ ts) ts
name_at text n ts = record { symbol = refl; other = refl; place = refl; spelled = refl; behind = refl }

sign_at : (s : Punctuator) (n : ℕ) (ts : List Terminal) → IsSign s (sign s n ∷ ts) ts
sign_at s n ts = record { symbol = refl; behind = refl }

abbrev difference : List Terminal
difference = name (codes "a") 1 ∷ (sign p.Minus 2 ∷ (name (codes "b") 3 ∷ (sign p.Minus 4 ∷ (name (codes "c") 5 ∷ []))))

abbrev behind_two : List Terminal
behind_two = sign p.Minus 4 ∷ (name (codes "c") 5 ∷ [])

-- `a - b - c` is `(a - b) - c`
left : Derives (Binary (at 4) binary.Subtract (Binary (at 2) binary.Subtract (Name (at 1) (codes "a")) (Name (at 3) (codes "b"))) (Name (at 5) (codes "c"))) [] 0 difference []
left = (
  omega arith,
  behind_two,
  name (codes "c") 5 ∷ [],
  refl,
  (
    omega arith,
    sign p.Minus 2 ∷ (name (codes "b") 3 ∷ behind_two),
    name (codes "b") 3 ∷ behind_two,
    refl,
    name_at (codes "a") 1 (sign p.Minus 2 ∷ (name (codes "b") 3 ∷ behind_two)),
    sign_at p.Minus 2 (name (codes "b") 3 ∷ behind_two),
    name_at (codes "b") 3 behind_two,
  ),
  sign_at p.Minus 4 (name (codes "c") 5 ∷ []),
  name_at (codes "c") 5 [],
)

-- and not `a - (b - c)`, whatever the terminals
not_right : (x y z : Tree) (q r : Place) (known : List (List ℕ)) (l : ℕ) (ts rest : List Terminal) → Derives (Binary q binary.Subtract x (Binary r binary.Subtract y z)) known l ts rest → ⊥
not_right x y z q r known l ts rest d = let low : 12 ≤ 11 = d.6.0 in omega arith

-- `+` binds tighter than `<<`: a shift is no operand of a sum
not_shifted : (x y z : Tree) (q r : Place) (known : List (List ℕ)) (l : ℕ) (ts rest : List Terminal) → Derives (Binary q binary.Add (Binary r binary.ShiftLeft x y) z) known l ts rest → ⊥
not_shifted x y z q r known l ts rest d = let low : 11 ≤ 10 = d.4.0 in omega arith

-- nothing is assigned to `a ? b : c`
not_assigned : (x y z w : Tree) (q r : Place) (known : List (List ℕ)) (l : ℕ) (ts rest : List Terminal) → Derives (Assign q assign.Simple (Conditional r x y z) w) known l ts rest → ⊥
not_assigned x y z w q r known l ts rest d = let low : 14 ≤ 2 = d.6.0 in omega arith

-- a typedef name in force is no expression
not_named : (ts rest : List Terminal) (n : Place) → IsName (codes "T" ∷ []) n (codes "T") (name (codes "T") 1 ∷ ts) rest → ⊥
not_named ts rest n d = let other : true ≡ false = d.other in cc

height : height_of (Binary (at 4) binary.Subtract (Binary (at 2) binary.Subtract (Name (at 1) (codes "a")) (Name (at 3) (codes "b"))) (Name (at 5) (codes "c"))) ≡ 2
height = refl

-- `long unsigned const int long` names a type, `int char` and `const` do not
long_long : is_one_type (counts_of (word.Type (at 1) type_word.Long ∷ (word.Type (at 2) type_word.Unsigned ∷ (word.Qualifier (at 3) ∷ (word.Type (at 4) type_word.Int ∷ (word.Type (at 5) type_word.Long ∷ [])))))) ≡ true
long_long = refl

two_types : is_one_type (counts_of (word.Type (at 1) type_word.Int ∷ (word.Type (at 2) type_word.Char ∷ []))) ≡ false
two_types = refl

no_type : is_one_type (counts_of (word.Qualifier (at 1) ∷ [])) ≡ false
no_type = refl

-- one word adds nothing to the height, two add 1
one_word : words_height (word.Type (at 1) type_word.Int ∷ []) ≡ 0
one_word = refl

two_words : words_height (word.Qualifier (at 1) ∷ (word.Type (at 2) type_word.Int ∷ [])) ≡ 1
two_words = refl
