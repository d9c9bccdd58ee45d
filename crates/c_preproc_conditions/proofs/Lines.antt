-- Collecting the tokens of a line, and what is decided of them.
use Rattle.std.proofs.Common.{◌≡◌, ℕ, suc, ◌+◌, ◌<◌, Bool, true, false, cond, not, List, [], ◌∷◌, ◌++◌, length, drop, get_or, Some, Result, Ok, Err, refl, sym, ◌∙◌, ap, subst, arith}
use Rattle.std.proofs.Math.Seq.{drop-cons}
use Rattle.cc_base.specs.declared.diagnostics.Place.{Place}
use Rattle.c_preproc_macros.specs.declared.lexeme.Lexeme.{Lexeme}
use Rattle.c_preproc_macros.specs.declared.lexeme.Lexeme.TheVariants.{Name}
use Rattle.c_preproc_macros.specs.declared.spelling_numbers.Spellings.{Spellings}
use Rattle.c_preproc_conditions.specs.declared.condition_symbols.Symbol.{Symbol}
use Rattle.c_preproc_conditions.specs.declared.condition_value.Value.{Value}
use Rattle.c_preproc_conditions.specs.declared.evaluation.ConditionFault.{ConditionFault}
use Rattle.c_preproc_conditions.specs.declared.evaluation.ConditionFault.TheVariants.{NumberForm, Malformed, Memory}
use Rattle.c_preproc_conditions.specs.ConditionValues.{is_zero}
use Rattle.c_preproc_conditions.specs.Expressions.{IsExpression}
use Rattle.c_preproc_conditions.specs.Lines.{symbol_of, before, symbols_of, decided, HoldsBy, Collects, IsAdded, Adds}
use Rattle.c_preproc_conditions.specs.Readings.{Evaluates}
use Rattle.c_preproc_conditions.proofs.Complete.{reads_expression}

-- tokens that were collected, and the rest
abbrev pub prepended : List Symbol → Result (List Symbol) Place → Result (List Symbol) Place
prepended [] rest = rest
prepended (x ∷ xs) rest = before (Ok x) (prepended xs rest)

prepended-append : (xs : List Symbol) (x : Symbol) (rest : Result (List Symbol) Place) → prepended (xs ++ x ∷ []) rest ≡ prepended xs (before (Ok x) rest)
prepended-append [] x rest = refl
prepended-append (y ∷ ys) x rest = ap (before (Ok y)) (prepended-append ys x rest)

prepended-err : (xs : List Symbol) (place : Place) → prepended xs (Err place) ≡ Err place
prepended-err [] place = refl
prepended-err (y ∷ ys) place = ap (before (Ok y)) (prepended-err ys place)

pub prepended-nil : (xs : List Symbol) → prepended xs (Ok []) ≡ Ok xs
prepended-nil [] = refl
prepended-nil (y ∷ ys) = ap (before (Ok y)) (prepended-nil ys)

module _ (spellings : Spellings) (char_signed : Bool) where
  line-drop : (line : List Lexeme) (i : ℕ) (x : Lexeme) → i < length line → symbols_of spellings char_signed (drop i line) ≡ before (symbol_of spellings char_signed (get_or line i x)) (symbols_of spellings char_signed (drop (i + 1) line))
  line-drop line i x h =
      let next : suc i ≡ i + 1 = omega arith in
      ap (symbols_of spellings char_signed) (drop-cons line i x h) ∙ ap (λ k. before (symbol_of spellings char_signed (get_or line i x)) (symbols_of spellings char_signed (drop k line))) next

  added : (next : Result Symbol Place) (old new : List Symbol) (rest : Result (List Symbol) Place) → IsAdded next old new → prepended old (before next rest) ≡ prepended new rest
  added (Ok x) old new rest h = sym (prepended-append old x rest) ∙ ap (λ l. prepended l rest) (sym h)
  added (Err place) old new rest h = absurd h

  pub goes_on : (line : List Lexeme) (i : ℕ) (x : Lexeme) (old new : List Symbol) → i < length line → symbols_of spellings char_signed line ≡ prepended old (symbols_of spellings char_signed (drop i line))
      → IsAdded (symbol_of spellings char_signed (get_or line i x)) old new → symbols_of spellings char_signed line ≡ prepended new (symbols_of spellings char_signed (drop (i + 1) line))
  goes_on line i x old new h e a = e ∙ ap (prepended old) (line-drop line i x h) ∙ added (symbol_of spellings char_signed (get_or line i x)) old new (symbols_of spellings char_signed (drop (i + 1) line)) a

  pub fails : (line : List Lexeme) (i : ℕ) (x : Lexeme) (old new : List Symbol) (fault : ConditionFault) → i < length line → symbols_of spellings char_signed line ≡ prepended old (symbols_of spellings char_signed (drop i line))
      → Adds {A = Unit {0}} (symbol_of spellings char_signed (get_or line i x)) old new (Err fault) → Collects (symbols_of spellings char_signed line) (Err fault)
  fails line i x old new (NumberForm place) h e a =
      e ∙ ap (prepended old) (line-drop line i x h ∙ ap (λ s. before s (symbols_of spellings char_signed (drop (i + 1) line))) a) ∙ prepended-err old place
  fails line i x old new Malformed h e a = a
  fails line i x old new Memory h e a = tt

-- a value that is decided
decides : (ts : List Symbol) (v : Value) → IsExpression ts v → (b : Bool) → v.faulty ≡ b → HoldsBy (Ok ts) (cond b (Err Malformed) (Ok (not (is_zero v.number))))
decides ts v h true e = λ w k whole.
    let both : Some v ≡ Some w = sym (reads_expression ts v h) ∙ reads_expression ts w k in
    let same : v ≡ w = cc in
    let clash : true ≡ false = sym e ∙ ap (λ u. u.faulty) same ∙ whole in
    cc
decides ts v h false e = (v, h, e, refl)

pub value_decides : (ts : List Symbol) (v : Value) → Evaluates ts (Ok v) → HoldsBy (Ok ts) (decided v)
value_decides ts v h = decides ts v h v.faulty refl

pub no_value : (ts : List Symbol) (fault : ConditionFault) → Evaluates ts (Err fault) → HoldsBy (Ok ts) (Err fault)
no_value ts Malformed h = λ w k whole. h w k
no_value ts (NumberForm place) h = h
no_value ts Memory h = tt

memory_holds : (symbols : Result (List Symbol) Place) → HoldsBy symbols (Err Memory)
memory_holds (Ok ts) = tt
memory_holds (Err place) = tt

pub no_tokens : (symbols : Result (List Symbol) Place) (fault : ConditionFault) → Collects symbols (Err fault) → HoldsBy symbols (Err fault)
no_tokens symbols (NumberForm place) h = subst (λ s. HoldsBy s (Err (NumberForm place))) (sym h) refl
no_tokens symbols Malformed h = absurd h
no_tokens symbols Memory h = memory_holds symbols

abbrev pub any_lexeme : Lexeme
any_lexeme = Name 0 (record { place = record { file = 0; line = 0; col = 0 }; first = false; space = false })
