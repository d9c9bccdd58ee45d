-- `defined` in a condition, before its macros are expanded (6.10.1p1).
use Rattle.std.specs.Prelude.{◌≡◌, ℕ, zero, suc, Bool, false, cond, codes, nat_eq, is_some, List, [], ◌∷◌, length, Option, Some, None, option_map, Result, Ok, Err}
use Rattle.std.specs.Cmp.Lexicographic.{pointwise}
use Rattle.cc_base.specs.declared.lexemes.Kind.TheVariants as kind
use Rattle.c_preproc_macros.specs.declared.lexeme.Mark.{Mark}
use Rattle.c_preproc_macros.specs.declared.lexeme.Lexeme.{Lexeme}
use Rattle.c_preproc_macros.specs.declared.lexeme.Lexeme.TheVariants.{Name, Open, Close, Other}
use Rattle.c_preproc_macros.specs.Lexemes.{mark_of}
use Rattle.c_preproc_macros.specs.Numbering.{text_at}
use Rattle.c_preproc_macros.specs.Rules.{Defined, defined_in}
use Rattle.c_preproc_conditions.specs.declared.defined_names.Digits.{Digits}
use Rattle.c_preproc_conditions.specs.declared.evaluation.ConditionFault.{ConditionFault}
use Rattle.c_preproc_conditions.specs.declared.evaluation.ConditionFault.TheVariants.{NumberForm, Malformed, Memory}
use Rattle.std.proofs.Common.{Bor, Vec, Global}

-- a name, and what stands behind it or behind its `)`
pub record Named : Type 0 where
  pub name : ℕ
  pub rest : List Lexeme

abbrev pub named_of : ℕ × Bor (List Lexeme) → Named
named_of p = record { name = p.0; rest = p.1.now }

abbrev pub closed_by : ℕ → Lexeme → List Lexeme → Option Named
closed_by n (Close m) more = Some (record { name = n; rest = more })
closed_by n x more = None

abbrev pub parenthesized : Lexeme → Lexeme → List Lexeme → Option Named
parenthesized (Name n m) y more = closed_by n y more
parenthesized x y more = None

abbrev pub in_parentheses : List Lexeme → Option Named
in_parentheses [] = None
in_parentheses (x ∷ []) = None
in_parentheses (x ∷ y ∷ more) = parenthesized x y more

abbrev pub named_by : Lexeme → List Lexeme → Option Named
named_by (Name n m) more = Some (record { name = n; rest = more })
named_by (Open m) more = in_parentheses more
named_by x more = None

-- what the rest of a line behind `defined` names: a name, or a name in parentheses
abbrev pub named : List Lexeme → Option Named
named [] = None
named (x ∷ more) = named_by x more

abbrev pub digit : Digits → Bool → Mark → Lexeme
digit digits holds m = Other kind.Number (cond holds digits.one digits.zero) m

abbrev pub is_defined_word : List (List ℕ) → Lexeme → Bool
is_defined_word texts (Name n m) = pointwise nat_eq (text_at texts n) (codes "defined")
is_defined_word texts x = false

abbrev pub is_defined : List (ℕ × Defined) → ℕ → Bool
is_defined macros n = is_some (defined_in macros n)

abbrev pub put_before : Lexeme → Option (List Lexeme) → Option (List Lexeme)
put_before x o = option_map (λ xs. x ∷ xs) o

-- `defined` and its name are one digit, and the line goes on behind them
abbrev pub put_digit : List (ℕ × Defined) → Digits → Mark → Option Named → (List Lexeme → Option (List Lexeme)) → Option (List Lexeme)
put_digit macros digits m None go = None
put_digit macros digits m (Some p) go = put_before (digit digits (is_defined macros p.name) m) (go p.rest)

-- along a line, by a count that is at least its length
abbrev pub replaced_by : List (List ℕ) → List (ℕ × Defined) → Digits → ℕ → List Lexeme → Option (List Lexeme)
replaced_by texts macros digits turns [] = Some []
replaced_by texts macros digits zero (x ∷ xs) = None
replaced_by texts macros digits (suc turns) (x ∷ xs) =
    cond (is_defined_word texts x) (put_digit macros digits (mark_of x) (named xs) (replaced_by texts macros digits turns)) (put_before x (replaced_by texts macros digits turns xs))

-- a line with each `defined` and its name replaced by 1 or 0; None where a `defined` has no name behind it
abbrev pub replaced : List (List ℕ) → List (ℕ × Defined) → Digits → List Lexeme → Option (List Lexeme)
replaced texts macros digits line = replaced_by texts macros digits (length line) line

-- the line is replaced so, unless memory ran out
abbrev pub Replaces : Option (List Lexeme) → Result (Vec Lexeme Global) ConditionFault → Type 0
Replaces line (Ok made) = line ≡ Some made.items
Replaces line (Err Malformed) = line ≡ None
Replaces line (Err (NumberForm place)) = ⊥
Replaces line (Err Memory) = Unit {0}
