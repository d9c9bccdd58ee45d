-- The tokens of a condition's line, and what the line means.
use Rattle.std.specs.Prelude.{◌≡◌, Bool, false, cond, not, ℕ, pos, List, [], ◌∷◌, ◌++◌, Option, Some, None, Result, Ok, Err}
use Rattle.cc_base.specs.declared.diagnostics.Place.{Place}
use Rattle.cc_base.specs.declared.lexemes.Kind.{Kind}
use Rattle.cc_base.specs.declared.lexemes.Kind.TheVariants as kind
use Rattle.c_preproc_macros.specs.declared.lexeme.Lexeme.{Lexeme}
use Rattle.c_preproc_macros.specs.declared.lexeme.Lexeme.TheVariants.{Name, Painted, Open, Close, Comma, Other}
use Rattle.c_preproc_macros.specs.declared.spelling_numbers.Spellings.{Spellings}
use Rattle.c_preproc_macros.specs.Numbering.{texts_of, text_at}
use Rattle.c_preproc_conditions.specs.declared.condition_symbols.Symbol.{Symbol}
use Rattle.c_preproc_conditions.specs.declared.condition_symbols.Symbol.TheVariants as symbol
use Rattle.c_preproc_conditions.specs.declared.condition_value.Number.{Number}
use Rattle.c_preproc_conditions.specs.declared.condition_value.Number.TheVariants.{Signed}
use Rattle.c_preproc_conditions.specs.declared.condition_value.Value.{Value}
use Rattle.c_preproc_conditions.specs.declared.evaluation.ConditionFault.{ConditionFault}
use Rattle.c_preproc_conditions.specs.declared.evaluation.ConditionFault.TheVariants.{NumberForm, Malformed, Memory}
use Rattle.c_preproc_conditions.specs.ConditionValues.{is_zero}
use Rattle.c_preproc_conditions.specs.NumberForms.{integer_constant, character_constant}
use Rattle.c_preproc_conditions.specs.Symbols.{punctuator}
use Rattle.c_preproc_conditions.specs.Expressions.{IsExpression}
use Rattle.std.proofs.Common.{Vec, Global}

-- a constant, or the place of a token that is none
abbrev pub constant : Option Number → Place → Result Symbol Place
constant (Some n) place = Ok (symbol.Constant n)
constant None place = Err place

abbrev pub other_symbol : Kind → List ℕ → Bool → Place → Result Symbol Place
other_symbol kind.Number text char_signed place = constant (integer_constant text) place
other_symbol kind.Char text char_signed place = constant (character_constant text char_signed) place
other_symbol kind.Punct text char_signed place = Ok (punctuator text)
other_symbol k text char_signed place = Ok symbol.Foreign

-- what a token is in a condition: a name that is left is 0
abbrev pub symbol_in : List (List ℕ) → Bool → Lexeme → Result Symbol Place
symbol_in texts char_signed (Name n m) = Ok (symbol.Constant (Signed (pos 0)))
symbol_in texts char_signed (Painted n m) = Ok (symbol.Constant (Signed (pos 0)))
symbol_in texts char_signed (Open m) = Ok symbol.Open
symbol_in texts char_signed (Close m) = Ok symbol.Close
symbol_in texts char_signed (Comma m) = Ok symbol.Foreign
symbol_in texts char_signed (Other k n m) = other_symbol k (text_at texts n) char_signed m.place

abbrev pub symbol_of : Spellings → Bool → Lexeme → Result Symbol Place
symbol_of spellings char_signed x = symbol_in (texts_of spellings) char_signed x

abbrev pub before : Result Symbol Place → Result (List Symbol) Place → Result (List Symbol) Place
before (Err place) rest = Err place
before (Ok x) (Err place) = Err place
before (Ok x) (Ok xs) = Ok (x ∷ xs)

-- the tokens of a line, or the place of the first that has a form that is not in
abbrev pub symbols_in : List (List ℕ) → Bool → List Lexeme → Result (List Symbol) Place
symbols_in texts char_signed [] = Ok []
symbols_in texts char_signed (x ∷ xs) = before (symbol_in texts char_signed x) (symbols_in texts char_signed xs)

abbrev pub symbols_of : Spellings → Bool → List Lexeme → Result (List Symbol) Place
symbols_of spellings char_signed line = symbols_in (texts_of spellings) char_signed line

-- a condition holds where its value is not 0; it has no value where it is no expression, or where what is evaluated
-- of it is undefined
abbrev pub HoldsBy : Result (List Symbol) Place → Result Bool ConditionFault → Type 0
HoldsBy (Ok ts) (Ok b) = (v : Value) × IsExpression ts v × (v.faulty ≡ false) × (b ≡ not (is_zero v.number))
HoldsBy (Ok ts) (Err Malformed) = (v : Value) → IsExpression ts v → v.faulty ≡ false → ⊥
HoldsBy (Ok ts) (Err (NumberForm place)) = ⊥
HoldsBy (Err first) (Err (NumberForm place)) = place ≡ first
HoldsBy (Err first) (Err Malformed) = ⊥
HoldsBy (Err first) (Ok b) = ⊥
HoldsBy symbols (Err Memory) = Unit {0}

-- the truth of a value
abbrev pub decided : Value → Result Bool ConditionFault
decided v = cond v.faulty (Err Malformed) (Ok (not (is_zero v.number)))

-- the tokens are collected, or the place is told, unless memory ran out
abbrev pub Collects : Result (List Symbol) Place → Result (Vec Symbol Global) ConditionFault → Type 0
Collects symbols (Ok ts) = symbols ≡ Ok ts.items
Collects symbols (Err (NumberForm place)) = symbols ≡ Err place
Collects symbols (Err Malformed) = ⊥
Collects symbols (Err Memory) = Unit {0}

abbrev pub IsAdded : Result Symbol Place → List Symbol → List Symbol → Type 0
IsAdded (Ok x) old new = new ≡ old ++ x ∷ []
IsAdded (Err place) old new = ⊥

-- one token is added, or its place is told, unless memory ran out
abbrev pub Adds : {A : Type 0} → Result Symbol Place → List Symbol → List Symbol → Result A ConditionFault → Type 0
Adds next old new (Ok _) = IsAdded next old new
Adds next old new (Err (NumberForm place)) = next ≡ Err place
Adds next old new (Err Malformed) = ⊥
Adds next old new (Err Memory) = Unit {0}
