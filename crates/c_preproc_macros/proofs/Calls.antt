-- A call that begins inside an argument lies in it.
use Rattle.std.proofs.Common.{◌≡◌, ℕ, zero, suc, List, [], ◌∷◌, Option, Some, None, refl, ◌∙◌, ap, subst}
use Rattle.c_preproc_macros.specs.declared.lexeme.Lexeme.{Lexeme}
use Rattle.c_preproc_macros.specs.declared.lexeme.Lexeme.TheVariants.{Open, Close, Comma}
use Rattle.c_preproc_macros.specs.Expanding.{Split, with_first, next_argument, arguments}

abbrev pub plus : ℕ → ℕ → ℕ
plus d zero = d
plus d (suc e) = suc (plus d e)

-- what is known of a list behind `(` of a call, with `e` parentheses open in the call's argument, where the call
-- stands at a depth of `d` parentheses in an argument whose end is at `q`
pub record Local (d e : ℕ) (ts : List Lexeme) (q : Split) : Type 0 where
  pub call : Split
  pub behind : Split
  pub inner : arguments e ts ≡ Some call
  pub after : arguments d call.rest ≡ Some behind
  pub others : q.others ≡ behind.others
  pub rest : q.rest ≡ behind.rest
  pub inside : arguments e q.first ≡ Some (record { first = call.first; others = call.others; rest = behind.first })

abbrev pub LocalIf : ℕ → ℕ → List Lexeme → Option Split → Type 0
LocalIf d e ts None = Unit {0}
LocalIf d e ts (Some q) = Local d e ts q

-- a token that lies in an argument of the call
taken : (d e e1 : ℕ) (x : Lexeme) (ts : List Lexeme) → ((l : List Lexeme) → arguments e (x ∷ l) ≡ with_first x (arguments e1 l)) → (o : Option Split) → LocalIf d e1 ts o → LocalIf d e (x ∷ ts) (with_first x o)
taken d e e1 x ts step None h = tt
taken d e e1 x ts step (Some q) h = record {
  call = record { first = x ∷ h.call.first; others = h.call.others; rest = h.call.rest };
  behind = h.behind;
  inner = step ts ∙ ap (with_first x) h.inner;
  after = h.after;
  others = h.others;
  rest = h.rest;
  inside = step q.first ∙ ap (with_first x) h.inside;
}

comma_taken : (d : ℕ) (x : Lexeme) (ts : List Lexeme) → ((l : List Lexeme) → arguments zero (x ∷ l) ≡ next_argument (arguments zero l)) → (o : Option Split) → LocalIf d zero ts o → LocalIf d zero (x ∷ ts) (with_first x o)
comma_taken d x ts step None h = tt
comma_taken d x ts step (Some q) h = record {
  call = record { first = []; others = h.call.first ∷ h.call.others; rest = h.call.rest };
  behind = h.behind;
  inner = step ts ∙ ap next_argument h.inner;
  after = h.after;
  others = h.others;
  rest = h.rest;
  inside = step q.first ∙ ap next_argument h.inside;
}

close_taken : (d : ℕ) (x : Lexeme) (ts : List Lexeme) → ((l : List Lexeme) → arguments zero (x ∷ l) ≡ Some (record { first = []; others = []; rest = l })) → (o : Option Split) → arguments d ts ≡ o → LocalIf d zero (x ∷ ts) (with_first x o)
close_taken d x ts step None e = tt
close_taken d x ts step (Some q) e = record {
  call = record { first = []; others = []; rest = ts };
  behind = q;
  inner = step ts;
  after = e;
  others = refl;
  rest = refl;
  inside = step q.first;
}

pub local : (d e : ℕ) (ts : List Lexeme) → LocalIf d e ts (arguments (suc (plus d e)) ts)
local d e [] = tt
local d e (Open m ∷ ts) = taken d e (suc e) (Open m) ts (λ l. refl) (arguments (suc (plus d (suc e))) ts) (local d (suc e) ts)
local d zero (Close m ∷ ts) = close_taken d (Close m) ts (λ l. refl) (arguments d ts) refl
local d (suc e) (Close m ∷ ts) = taken d (suc e) e (Close m) ts (λ l. refl) (arguments (suc (plus d e)) ts) (local d e ts)
local d zero (Comma m ∷ ts) = comma_taken d (Comma m) ts (λ l. refl) (arguments (suc d) ts) (local d zero ts)
local d (suc e) (Comma m ∷ ts) = taken d (suc e) (suc e) (Comma m) ts (λ l. refl) (arguments (suc (plus d (suc e))) ts) (local d (suc e) ts)
local d e (x ∷ ts) = taken d e e x ts (λ l. refl) (arguments (suc (plus d e)) ts) (local d e ts)

from_split : (d : ℕ) (ts : List Lexeme) (q : Split) (o : Option Split) → LocalIf d zero ts o → o ≡ Some q → Local d zero ts q
from_split d ts q None h e = cc
from_split d ts q (Some p) h e = let same : p ≡ q = cc in subst (Local d zero ts) same h

-- the call that begins behind `(` at a depth of an argument
pub call_within : (d : ℕ) (ts : List Lexeme) (q : Split) → arguments (suc d) ts ≡ Some q → Local d zero ts q
call_within d ts q e = from_split d ts q (arguments (suc d) ts) (local d zero ts) e
