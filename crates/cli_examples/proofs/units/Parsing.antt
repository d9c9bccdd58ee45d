-- The tokens derive the tree.
use Rattle.std.proofs.Common.{◌≡◌, ℕ, List, [], ◌∷◌, Some, Ok, ap, refl, arith, codes}
use Rattle.c_layout.specs.Models.{lp64}
use Rattle.cc_base.specs.declared.lexemes.Token.{Token}
use Rattle.c_layout.specs.SyntaxTrees as syntax
use Rattle.c_layout.specs.SyntaxTrees.{Tree}
use Rattle.c_layout.specs.DeclarationTrees.{ExternalTree, Defined, StatementTree, Return, NoStatement, MoreStatements}
use Rattle.c_layout.specs.declared.data_model.Model.{Model}
use Rattle.c_parser_tokens.specs.declared.terminals.Keyword.{Keyword}
use Rattle.c_parser_tokens.specs.declared.terminals.Keyword.TheVariants as k
use Rattle.c_parser_tokens.specs.declared.terminals.Punctuator.{Punctuator}
use Rattle.c_parser_tokens.specs.declared.terminals.Punctuator.TheVariants as p
use Rattle.c_parser_tokens.specs.declared.terminals.Terminal.{Terminal}
use Rattle.c_parser_tokens.specs.Classes.{classified}
use Rattle.c_parser_expression_grammar.specs.Expressions.{Derives}
use Rattle.c_parser_expression_grammar.specs.Fronts.{IsSign, IsWord, IsConstant}
use Rattle.c_parser.specs.Externals.{ArePieces, IsUnit}
use Rattle.c_parser.specs.Statements.{DeriveStatement, IsBlock}
use Rattle.cli_examples.specs.Units.WorkedPlaces.{at}
use Rattle.cli_examples.specs.Units.WorkedTexts.{tokens_with}
use Rattle.cli_examples.specs.Units.WorkedTrees.{sign, word, number, constant, main_name, behind_brace, terminals_with, quotient, tree_with}
use Rattle.cli_examples.specs.Units.WorkedUnits.{IsParsedTo}

sign_at : (s : Punctuator) (n : ℕ) (ts : List Terminal) → IsSign s (sign s n ∷ ts) ts
sign_at s n ts = record { symbol = refl; behind = refl }

word_at : (w : Keyword) (n : ℕ) (ts : List Terminal) → IsWord w (word w n ∷ ts) ts
word_at w n ts = record { symbol = refl; behind = refl }

number_at : (n value : ℕ) (ts : List Terminal) → IsConstant (at n) (constant value) (number n value ∷ ts) ts
number_at n value ts = record { symbol = refl; place = refl; behind = refl }

classes : classified lp64 (tokens_with (codes "0")) ≡ Ok (terminals_with 0)
classes = refl

also_classes : classified lp64 (tokens_with (codes "1")) ≡ Ok (terminals_with 1)
also_classes = refl

module _ (value : ℕ) where
  abbrev end : List Terminal
  end = sign p.RightBrace 27 ∷ []

  abbrev behind_quotient : List Terminal
  behind_quotient = sign p.Semicolon 26 ∷ end

  abbrev behind_slash : List Terminal
  behind_slash = number 25 value ∷ behind_quotient

  abbrev behind_one : List Terminal
  behind_one = sign p.Slash 24 ∷ behind_slash

  abbrev behind_return : List Terminal
  behind_return = number 23 1 ∷ behind_one

  abbrev behind_parentheses : List Terminal
  behind_parentheses = sign p.LeftBrace 15 ∷ behind_brace value

  abbrev behind_void : List Terminal
  behind_void = sign p.RightParenthesis 14 ∷ behind_parentheses

  abbrev behind_parenthesis : List Terminal
  behind_parenthesis = word k.Void 10 ∷ behind_void

  abbrev behind_name : List Terminal
  behind_name = sign p.LeftParenthesis 9 ∷ behind_parenthesis

  abbrev behind_int : List Terminal
  behind_int = main_name ∷ behind_name

  divides : Derives (quotient value) [] 0 behind_return behind_quotient
  divides = (omega arith, behind_one, behind_slash, refl, number_at 23 1 behind_one, sign_at p.Slash 24 behind_slash, number_at 25 value behind_quotient)

  returned : DeriveStatement (Return (at 16) (Some (quotient value))) [] (behind_brace value) end
  returned = (refl, behind_return, behind_quotient, word_at k.Return 16 behind_return, divides, sign_at p.Semicolon 26 end)

  body : IsBlock [] (MoreStatements (Return (at 16) (Some (quotient value))) NoStatement) behind_parentheses []
  body = record {
    inside = behind_brace value;
    last = end;
    opens = sign_at p.LeftBrace 15 (behind_brace value);
    derive = (end, returned, refl);
    closes = sign_at p.RightBrace 27 [];
  }

  piece : ArePieces (tree_with value) [] (terminals_with value) []
  piece = (
    record {
      derives = (
        refl,
        behind_int,
        behind_parentheses,
        record { derive = (behind_int, (refl, k.Int, refl, word_at k.Int 1 behind_int), refl); one_type = refl },
        record {
          behind_stars = behind_int;
          behind_name = behind_name;
          inside = behind_parenthesis;
          last = behind_void;
          stars = refl;
          name = record { symbol = refl; other = refl; place = refl; spelled = refl; behind = refl };
          opens = sign_at p.LeftParenthesis 9 behind_parenthesis;
          parameters = word_at k.Void 10 behind_void;
          closes = sign_at p.RightParenthesis 14 behind_parentheses;
        },
        body,
      );
      height = omega arith;
    },
    refl,
  )

parsed : IsUnit lp64 (tokens_with (codes "0")) (tree_with 0)
parsed = record { terminals = terminals_with 0; classes = classes; pieces = piece 0 }

also_parsed : IsUnit lp64 (tokens_with (codes "1")) (tree_with 1)
also_parsed = record { terminals = terminals_with 1; classes = also_classes; pieces = piece 1 }

-- ---- no other tree

-- the right operand of what a unit of one function returns
right_of_term : Tree → ℕ
right_of_term (syntax.Binary at op x (syntax.Number place c)) = c.value
right_of_term _ = 2

right_of_body : List StatementTree → ℕ
right_of_body (Return at (Some e) ∷ []) = right_of_term e
right_of_body _ = 2

right_of : List ExternalTree → ℕ
right_of (Defined at words f body ∷ []) = right_of_body body
right_of _ = 2

other_tree : tree_with 1 ≡ tree_with 0 → ⊥
unfolding right_of right_of_body right_of_term
other_tree e = let same : 1 ≡ 0 = ap right_of e in omega (arith, same)

pub parsed_to : ((model : Model) (tokens : List Token) (es ds : List ExternalTree) → IsUnit model tokens es → IsUnit model tokens ds → es ≡ ds) → IsParsedTo
parsed_to one_tree = record {
  there = parsed;
  no_other = λ tree is. one_tree lp64 (tokens_with (codes "0")) tree (tree_with 0) is parsed;
  also_there = also_parsed;
  apart = λ is. other_tree (one_tree lp64 (tokens_with (codes "0")) (tree_with 1) (tree_with 0) is parsed);
}
