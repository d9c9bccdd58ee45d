-- A unit has no more terminals than tokens.
use Rattle.std.proofs.Common.{◌≡◌, ◌∙◌, ◌≤◌, ◌+◌, ℕ, suc, Bool, true, false, ◌&&◌, ◌++◌, cond, List, [], ◌∷◌, length, Option, Some, None, Result, Ok, Err, find, refl, sym, arith}
use Rattle.cc_base.specs.declared.lexemes.Token.{Token}
use Rattle.cc_base.specs.declared.diagnostics.Place.{Place}
use Rattle.c_layout.specs.declared.data_model.Model.{Model}
use Rattle.c_parser_tokens.specs.declared.terminals.Terminal.{Terminal}
use Rattle.c_parser_tokens.specs.Classes.{joined, terminal_of, terminal_with, terminals_after, is_literal, is_unsupported, without_left_out, judged, classified}

chosen_short : (b : Bool) (x y z : Terminal) → length (cond b (x ∷ []) (y ∷ (z ∷ []))) ≤ 2
chosen_short true x y z = omega arith
chosen_short false x y z = omega arith

joined_short : (ts : List Terminal) (t : Terminal) → length (joined ts t) ≤ length ts + 1
joined_short [] t = omega arith
joined_short (x ∷ []) t = chosen_short (is_literal x.symbol && is_literal t.symbol) (terminal_with x.place x.symbol (x.text ++ t.text)) x t
joined_short (x ∷ (y ∷ more)) t = let tail = joined_short (y ∷ more) t in omega arith

ok_same : {a b : List Terminal} {E : Type 0} {r : Result (List Terminal) E} → r ≡ Ok a → r ≡ Ok b → a ≡ b
ok_same {a} {b} {E} {r} is also = cc

no_error : {a : List Terminal} {E : Type 0} {e : E} {r : Result (List Terminal) E} → r ≡ Err e → r ≡ Ok a → ⊥
no_error {a} {E} {e} {r} is also = let h : Err e ≡ Ok a = sym is ∙ also in absurd (cc h)

next_short : (model : Model) (before ts : List Terminal) (tokens : List Token) (at : Place) (next : Option Terminal) → ((t : Terminal) → terminals_after model (joined before t) tokens ≡ Ok ts → length ts ≤ length (joined before t) + length tokens) → (◌≡◌ {A = Result (List Terminal) Place} (elim next [ None ↦ Err at | Some t ↦ terminals_after model (joined before t) tokens ]) (Ok ts)) → length ts ≤ length before + suc (length tokens)
next_short model before ts tokens at None tail is = absurd (no_error refl is)
next_short model before ts tokens at (Some t) tail is = let all = tail t is in let one = joined_short before t in omega arith

after_short : (model : Model) (before ts : List Terminal) (tokens : List Token) → terminals_after model before tokens ≡ Ok ts → length ts ≤ length before + length tokens
after_short model before ts [] is = let same : before ≡ ts = ok_same refl is in rw (sym same) (omega arith)
after_short model before ts (t ∷ tokens) is = next_short model before ts tokens t.place (terminal_of model t) (λ next. after_short model (joined before next) ts tokens) is

kept_same : (all ts : List Terminal) (found : Option Terminal) → without_left_out all found ≡ Ok ts → all ≡ ts
kept_same all ts None is = ok_same refl is
kept_same all ts (Some t) is = absurd (no_error refl is)

judged_short : (most : ℕ) (all : Result (List Terminal) Place) (ts : List Terminal) → ((before : List Terminal) → all ≡ Ok before → length before ≤ most) → judged all ≡ Ok ts → length ts ≤ most
judged_short most (Err at) ts short is = absurd (no_error refl is)
judged_short most (Ok all) ts short is = let same = kept_same all ts (find (λ t. is_unsupported t.symbol) all) is in rw same at (short all refl)

from_none : (model : Model) (tokens : List Token) (ts : List Terminal) → terminals_after model [] tokens ≡ Ok ts → length ts ≤ length tokens
from_none model tokens ts is = let all : length ts ≤ 0 + length tokens = after_short model [] ts tokens is in omega arith

pub terminals_short : (model : Model) (tokens : List Token) (ts : List Terminal) → classified model tokens ≡ Ok ts → length ts ≤ length tokens
terminals_short model tokens ts is = judged_short (length tokens) (terminals_after model [] tokens) ts (λ before all. from_none model tokens before all) is
