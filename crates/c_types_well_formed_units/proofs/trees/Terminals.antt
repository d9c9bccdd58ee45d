-- The terminals of tokens that are of bytes are proper.
use Rattle.std.proofs.Common.{◌≡◌, ℕ, Bool, true, false, ◌&&◌, cond, List, [], ◌∷◌, ◌++◌, Option, Some, None, Ok, Err, refl, sym, subst, ap, ◌∙◌}
use Rattle.std.specs.List.{list_all}
use Rattle.std.specs.Option.{option_and_then}
use Rattle.std.specs.Prelude.{Result, find}
use Rattle.std.proofs.lemmas.Option.{option_and_then_some, same_Some}
use Rattle.cc_base.specs.declared.diagnostics.Place.{Place}
use Rattle.cc_base.specs.declared.lexemes.Kind.{Kind}
use Rattle.cc_base.specs.declared.lexemes.Kind.TheVariants as kind
use Rattle.cc_base.specs.declared.lexemes.Token.{Token}
use Rattle.c_layout.specs.Models.{is_model}
use Rattle.c_layout.specs.declared.data_model.Model.{Model}
use Rattle.c_layout.specs.declared.syntax_tree.expressions.Constant.{Constant}
use Rattle.c_parser_tokens.specs.declared.terminals.Keyword.{Keyword}
use Rattle.c_parser_tokens.specs.declared.terminals.Punctuator.{Punctuator}
use Rattle.c_parser_tokens.specs.declared.terminals.Symbol.{Symbol}
use Rattle.c_parser_tokens.specs.declared.terminals.Symbol.TheVariants as symbol
use Rattle.c_parser_tokens.specs.declared.terminals.Terminal.{Terminal}
use Rattle.c_parser_tokens.specs.CharacterCodes.{character_constant, literal_bytes}
use Rattle.c_parser_tokens.specs.Classes.{keyword_symbol, symbol_of_name, punctuator_symbol, constant_symbol, symbol_by, symbol_of, kept_text, terminal_with, terminal_of, is_literal, joined_two, joined, terminals_after, is_unsupported, without_left_out, judged, classified}
use Rattle.c_parser_tokens.specs.ConstantTypes.{integer_constant}
use Rattle.c_parser_tokens.specs.Keywords.{is_left_out, keyword_of}
use Rattle.c_parser_tokens.specs.Punctuators.{punctuator_of}
use Rattle.source_preservation.proofs.checks.Truths.{both_true, no_some}
use Rattle.c_layout.specs.ByteTexts.{are_bytes, has_byte_text}
use Rattle.c_types_well_formed.specs.WellFormed.ProperTrees.{IsProperConstant}
use Rattle.c_types_well_formed_units.specs.Trees.ByteTokens.{IsProperTerminal, AreProperTerminals}
use Rattle.c_types_well_formed_units.proofs.trees.Characters.{bytes_both, literal_is_of_bytes}
use Rattle.c_types_well_formed_units.proofs.trees.Constants.{integer_proper, character_proper}

-- ---- symbols

plain_terminal : (m : Model) (at : Place) (s : Symbol) (text : List ℕ) → ((c : Constant) → s ≡ symbol.Constant c → ⊥) → (s ≡ symbol.Literal → ⊥) → IsProperTerminal m (terminal_with at s text)
plain_terminal m at s text no_constant no_literal = record { constant = λ c is. absurd (no_constant c is); literal = λ is. absurd (no_literal is) }

constant_terminal : (m : Model) (at : Place) (c : Constant) (text : List ℕ) → IsProperConstant m c → IsProperTerminal m (terminal_with at (symbol.Constant c) text)
constant_terminal m at c text h = record { constant = λ d is. subst (IsProperConstant m) (same c d is) h; literal = λ is. absurd (apart c is) }
  where
    same : (a b : Constant) → symbol.Constant a ≡ symbol.Constant b → a ≡ b
    same a b e = cc

    apart : (a : Constant) → symbol.Constant a ≡ symbol.Literal → ⊥
    apart a e = cc

name_no_constant : (b : Bool) (o : Option Keyword) (c : Constant) → cond b symbol.Unsupported (keyword_symbol o) ≡ symbol.Constant c → ⊥
name_no_constant true o c e = cc
name_no_constant false (Some word) c e = cc
name_no_constant false None c e = cc

name_no_literal : (b : Bool) (o : Option Keyword) → cond b symbol.Unsupported (keyword_symbol o) ≡ symbol.Literal → ⊥
name_no_literal true o e = cc
name_no_literal false (Some word) e = cc
name_no_literal false None e = cc

sign_no_constant : (o : Option Punctuator) (c : Constant) → punctuator_symbol o ≡ symbol.Constant c → ⊥
sign_no_constant (Some sign) c e = cc
sign_no_constant None c e = cc

sign_no_literal : (o : Option Punctuator) → punctuator_symbol o ≡ symbol.Literal → ⊥
sign_no_literal (Some sign) e = cc
sign_no_literal None e = cc

header_no_constant : (c : Constant) → symbol.HeaderName ≡ symbol.Constant c → ⊥
header_no_constant c e = cc

header_no_literal : symbol.HeaderName ≡ symbol.Literal → ⊥
header_no_literal e = cc

-- ---- one token

of_constant : (m : Model) (at : Place) (found : Option Constant) (s : Symbol) (kept : List ℕ) → ((c : Constant) → found ≡ Some c → IsProperConstant m c) → option_and_then constant_symbol found ≡ Some s → IsProperTerminal m (terminal_with at s kept)
of_constant m at found s kept proper is = option_and_then_some constant_symbol found s is (λ c e e1. subst (λ x. IsProperTerminal m (terminal_with at x kept)) (same_Some (symbol.Constant c) s e1) (constant_terminal m at c kept (proper c e)))

by_kind : (m : Model) (at : Place) (k : Kind) (text : List ℕ) (s : Symbol) (kept : List ℕ) → is_model m ≡ true → are_bytes text ≡ true → symbol_by m k text ≡ Some s → kept_text s text ≡ Some kept → IsProperTerminal m (terminal_with at s kept)
by_kind m at kind.Name text s kept proper h is same =
    subst (λ x. IsProperTerminal m (terminal_with at x kept)) (same_Some (symbol_of_name text) s is) (plain_terminal m at (symbol_of_name text) kept (name_no_constant (is_left_out text) (keyword_of text)) (name_no_literal (is_left_out text) (keyword_of text)))
by_kind m at kind.Number text s kept proper h is same = of_constant m at (integer_constant m text) s kept (λ c e. integer_proper m text c proper e) is
by_kind m at kind.Char text s kept proper h is same = of_constant m at (character_constant m text) s kept (λ c e. character_proper m text c proper h e) is
by_kind m at kind.Str text s kept proper h is same =
    let literal : symbol.Literal ≡ s = same_Some symbol.Literal s is in
    record {
      constant = λ c e. absurd (apart c (literal ∙ e));
      literal = λ e. literal_is_of_bytes text kept h (ap (λ x. kept_text x text) literal ∙ same);
    }
  where
    apart : (c : Constant) → symbol.Literal ≡ symbol.Constant c → ⊥
    apart c e = cc
by_kind m at kind.Punct text s kept proper h is same =
    subst (λ x. IsProperTerminal m (terminal_with at x kept)) (same_Some (punctuator_symbol (punctuator_of text)) s is) (plain_terminal m at (punctuator_symbol (punctuator_of text)) kept (sign_no_constant (punctuator_of text)) (sign_no_literal (punctuator_of text)))
by_kind m at kind.HeaderName text s kept proper h is same = subst (λ x. IsProperTerminal m (terminal_with at x kept)) (same_Some symbol.HeaderName s is) (plain_terminal m at symbol.HeaderName kept header_no_constant header_no_literal)

one_token : (m : Model) (t : Token) (x : Terminal) → is_model m ≡ true → has_byte_text t ≡ true → terminal_of m t ≡ Some x → IsProperTerminal m x
one_token m t x proper h is =
    option_and_then_some (λ s. option_and_then (λ text. Some (terminal_with t.place s text)) (kept_text s t.text)) (symbol_of m t) x is (λ s e e1.
    option_and_then_some (λ text. Some (terminal_with t.place s text)) (kept_text s t.text) x e1 (λ kept e2 e3. subst (IsProperTerminal m) (same_Some (terminal_with t.place s kept) x e3) (by_kind m t.place t.kind t.text s kept proper h e e2)))

-- ---- tokens one behind another

both_literals : (m : Model) (a b : Terminal) (t : Bool) → (is_literal a.symbol && is_literal b.symbol) ≡ t → IsProperTerminal m a → IsProperTerminal m b → AreProperTerminals m (cond t (terminal_with a.place a.symbol (a.text ++ b.text) ∷ []) (a ∷ (b ∷ [])))
both_literals m a b true is h g =
    let x = both_true (is_literal a.symbol) (is_literal b.symbol) is in
    (record { constant = h.constant; literal = λ e. bytes_both a.text b.text (h.literal e) (g.literal (of_literal b.symbol x.1)) }, tt)
  where
    of_literal : (s : Symbol) → is_literal s ≡ true → s ≡ symbol.Literal
    of_literal symbol.Literal e = refl
    of_literal symbol.Identifier e = absurd (let d : ⊥ = cc in d)
    of_literal (symbol.Constant c) e = absurd (let d : ⊥ = cc in d)
    of_literal (symbol.Keyword w) e = absurd (let d : ⊥ = cc in d)
    of_literal (symbol.Punctuator p) e = absurd (let d : ⊥ = cc in d)
    of_literal symbol.Unsupported e = absurd (let d : ⊥ = cc in d)
    of_literal symbol.HeaderName e = absurd (let d : ⊥ = cc in d)
    of_literal symbol.End e = absurd (let d : ⊥ = cc in d)
both_literals m a b false is h g = (h, (g, tt))

joined_proper : (m : Model) (ts : List Terminal) (t : Terminal) → AreProperTerminals m ts → IsProperTerminal m t → AreProperTerminals m (joined ts t)
joined_proper m [] t h g = (g, tt)
joined_proper m (x ∷ []) t h g = both_literals m x t (is_literal x.symbol && is_literal t.symbol) refl h.0 g
joined_proper m (x ∷ (y ∷ more)) t h g = (h.0, joined_proper m (y ∷ more) t h.1 g)

-- those behind a token with its terminal, if it has one
abbrev with_token : Model → List Terminal → Token → List Token → Option Terminal → Result (List Terminal) Place
with_token m before t ts None = Err t.place
with_token m before t ts (Some next) = terminals_after m (joined before next) ts

all_tokens : (m : Model) (tokens : List Token) (before found : List Terminal) → is_model m ≡ true → list_all has_byte_text tokens ≡ true → AreProperTerminals m before → terminals_after m before tokens ≡ Ok found → AreProperTerminals m found
all_tokens m [] before found proper h g is = subst (AreProperTerminals m) (same before found is) g
  where
    same : (a b : List Terminal) → ◌≡◌ {A = Result (List Terminal) Place} (Ok a) (Ok b) → a ≡ b
    same a b e = cc
all_tokens m (t ∷ ts) before found proper h g is = by (λ x made e. all_tokens m ts (joined before x) found proper parts.1 (joined_proper m before x g (one_token m t x proper parts.0 made)) e) (terminal_of m t) refl is
  where
    parts : (has_byte_text t ≡ true) × (list_all has_byte_text ts ≡ true)
    parts = both_true (has_byte_text t) (list_all has_byte_text ts) h

    refused : (at : Place) → ◌≡◌ {A = Result (List Terminal) Place} (Err at) (Ok found) → ⊥
    refused at e = cc

    by : ((x : Terminal) → terminal_of m t ≡ Some x → terminals_after m (joined before x) ts ≡ Ok found → AreProperTerminals m found) → (o : Option Terminal) → terminal_of m t ≡ o → with_token m before t ts o ≡ Ok found → AreProperTerminals m found
    by next None made e = absurd (refused t.place e)
    by next (Some x) made e = next x made e

-- the terminals of a unit
pub classified_proper : (m : Model) (tokens : List Token) (found : List Terminal) → is_model m ≡ true → list_all has_byte_text tokens ≡ true → classified m tokens ≡ Ok found → AreProperTerminals m found
classified_proper m tokens found proper h is = by (terminals_after m [] tokens) refl is
  where
    by_left_out : (ts : List Terminal) (o : Option Terminal) → without_left_out ts o ≡ Ok found → ts ≡ found
    by_left_out ts None e = cc
    by_left_out ts (Some t) e = absurd (let d : ⊥ = cc in d)

    by : (r : Result (List Terminal) Place) → terminals_after m [] tokens ≡ r → judged r ≡ Ok found → AreProperTerminals m found
    by (Err at) made e = absurd (let d : ⊥ = cc in d)
    by (Ok ts) made e = all_tokens m tokens [] found proper h tt (made ∙ ap (λ x. Ok x) (by_left_out ts (find (λ t. is_unsupported t.symbol) ts) e))
