-- Calls of functions of the unit, of the library and of printf are made.
use Rattle.std.proofs.Common.{◌≡◌, ◌+◌, ◌==◌, ℕ, List, [], ◌∷◌, Option, Some, None, Ok, Err, slice_get, length, refl, ap, subst, sym, ◌∙◌, arith}
use Rattle.std.specs.Prelude.{Bool, true, false, cond, not, ◌&&◌, ◌||◌, is_none, unwrap_or}
use Rattle.std.proofs.lemmas.Bool.{and_from}
use Rattle.cc_base.specs.declared.diagnostics.Place.{Place}
use Rattle.c_layout.specs.Models.{is_model}
use Rattle.c_layout.specs.Types.{Ty, Int, Pointer, Array, Struct, Void, same_kind}
use Rattle.c_layout.specs.CheckedTrees as tree
use Rattle.c_layout.specs.CheckedTrees.{TermTree, TermTrees, LvalueTree, term_trees}
use Rattle.c_layout.specs.CheckedUnits.{FunctionView, UnitView}
use Rattle.c_layout.specs.SyntaxTrees.{Tree}
use Rattle.c_layout.specs.declared.library_functions.LibFn.{LibFn}
use Rattle.c_layout.specs.declared.library_functions.LibFn.TheVariants as lib
use Rattle.c_types_rules.specs.Rules.IntegerKinds.{promoted}
use Rattle.c_types_rules.specs.declared.rules.type_conversions.Conversion.TheVariants.{Same, Converted}
use Rattle.c_types_scopes.specs.DeclaredTypes.{SignatureView}
use Rattle.c_types_scopes.specs.Known.{Known}
use Rattle.c_types_scopes.specs.Refusals.{Ruled, undeclared, format_fault}
use Rattle.c_types_scopes.specs.States.{State, is_evaluated}
use Rattle.c_types_operands.specs.Conversions.{assigned_by, implicit}
use Rattle.c_types_operands.specs.Operands.{OperandForm, AsValue, AsLvalue, OperandView, Begins, Decays, form_value, value_by, term_of, term_type, is_void, wrapped}
use Rattle.c_types_primary.specs.Calls as calls
use Rattle.c_types_primary.specs.Calls.{called, called_with, converted_arguments, each_formatted, formatted, formatted_arguments, is_wanted, literal_bytes, promoted_argument, takes_format}
use Rattle.c_types_primary.specs.Lists.{with_first, if_first}
use Rattle.c_library.specs.Formats.PrintfFormats.{wanted_by}
use Rattle.c_types_primary.specs.Primaries.{no_number}
use Rattle.c_types_primary.specs.declared.calls.Callee.{Callee}
use Rattle.c_types_primary.specs.declared.calls.Callee.TheVariants as callee
use Rattle.c_library.specs.declared.formats.printf_formats.Wanted.{Wanted}
use Rattle.c_library.specs.declared.formats.printf_formats.Wanted.TheVariants as want
use Rattle.lower_functions.specs.Functions.Functions.{local_type}
use Rattle.lower_templates.specs.Worklist.TermKinds as flow
use Rattle.source_items.specs.StackKinds.KindedTerms.{argument_kinds}
use Rattle.source_items.specs.Operations.Kinds.{kind_of_type}
use Rattle.source_preservation.specs.Checks.LookedTerms as look
use Rattle.source_preservation.specs.Checks.LookedTerms.{begins_with_address, is_well_typed_term, are_well_typed_terms, have_parameters, has_tests}
use Rattle.source_preservation.specs.Checks.LookedTypes.{same_mark}
use Rattle.c_types_well_formed.specs.WellFormed.KnownTypes.{HasTypes}
use Rattle.c_types_well_formed.specs.WellFormed.MadeLaws.{ValuesAreMade, ConversionsGive}
use Rattle.c_types_well_formed.specs.WellFormed.MadeTerms.{IsMade, IsMadeOperand, IsGiven, Gives, Makes}
use Rattle.c_types_well_formed.specs.WellFormed.ModelTypes.{IsTypeOf, IsGround}
use Rattle.c_types_well_formed.specs.WellFormed.UnitParts.{IsPartOf, IsThere}
use Rattle.c_types_well_formed.proofs.rules.ModelKinds.{mark_same, promoted_known}
use Rattle.c_types_well_formed.proofs.terms.Arguments.{AreMade, AreGiven, GivesAll, arguments_given, given_well_typed, given_parameters, type_is}
use Rattle.c_types_well_formed.proofs.terms.LibraryCalls.{library_called_made, library_call_made}
use Rattle.c_types_well_formed.proofs.terms.Parts.{in_model}
use Rattle.c_types_well_formed.proofs.terms.Primaries.{in_unit}
use Rattle.c_types_well_formed.proofs.terms.Steps.{Holds, ground}

-- ---- functions of the unit

returned_same : (t : Ty) → ((not (not (is_void t)) || not (is_void t)) && (not (not (is_void t)) || (not (flow.is_void t) && same_mark t t))) ≡ true
returned_same (Int kind) = mark_same (Int kind)
returned_same (Pointer t) = refl
returned_same (Array t n) = refl
returned_same (Struct i) = refl
returned_same Void = refl

returned : (t r : Ty) → r ≡ t → ((not (not (is_void t)) || not (is_void t)) && (not (not (is_void t)) || (not (flow.is_void r) && same_mark t r))) ≡ true
returned t r e = subst (λ x. ((not (not (is_void t)) || not (is_void t)) && (not (not (is_void t)) || (not (flow.is_void x) && same_mark t x))) ≡ true) (sym e) (returned_same t)

calls_there : (t : Ty) (args : TermTrees) (f : FunctionView) (o : Option FunctionView) → o ≡ Some f → f.returns ≡ t → have_parameters f 0 args ≡ true → look.calls (not (is_void t)) (not (is_void t)) t args o ≡ true
calls_there t args f o is returns given = subst (λ x. look.calls (not (is_void t)) (not (is_void t)) t args x ≡ true) (sym is) (and_from _ _ given (returned t f.returns returns))

no_tests : (u : UnitView) (at : Place) (t : Ty) (g : ℕ) (args : TermTrees) (used : Bool) (is_test : Bool) → has_tests u is_test (tree.Typed at t 0 None (tree.Call g args used)) ≡ true
no_tests u at t g args used true = refl
no_tests u at t g args used false = refl

called_made : (u : UnitView) (at : Place) (f : SignatureView) (n : ℕ) (es : List TermTree) → f.number ≡ Some n → IsThere u f n → IsTypeOf u.model f.result.ctype → AreGiven u es f.parameters → IsMadeOperand u (called at f es)
called_made u at f n es number there typed given = record {
  well_typed = and_from _ _ (given_well_typed u es f.parameters given) (
      calls_there f.result.ctype (term_trees es) there.function (slice_get u.functions (unwrap_or f.number no_number)) (ap (λ o. slice_get u.functions (unwrap_or o no_number)) number ∙ there.found) there.head.returns
      (given_parameters u there.function 0 es f.parameters given (λ i t is. let at_i : i ≡ 0 + i = omega arith in subst (λ j. same_mark t (local_type there.function j) ≡ true) at_i (there.head.parameters i t is)) (let counted = there.head.counted in omega (arith, counted))));
  typed = typed;
  bare = refl;
  constant = λ k e. absurd (cc);
  null = λ e. absurd (cc);
  tests = λ e is_test. no_tests u at f.result.ctype (unwrap_or f.number no_number) (term_trees es) (not (is_void f.result.ctype)) is_test;
}

-- what is evaluated is defined
unless_missing : (u : UnitView) (at : Place) (number : Option ℕ) (b : Bool) (r : Ruled OperandView) → b ≡ true → ((n : ℕ) → number ≡ Some n → Makes u r) → Makes u (cond (is_none number && b) (undeclared at) r)
unless_missing u at (Some n) b r h made = made n refl
unless_missing u at None true r h made = tt
unless_missing u at None false r h made = absurd (cc)

-- ---- formats

-- an array that has a name or is a literal
abbrev pub IsText : OperandForm → Type 0
IsText (AsLvalue (tree.Designates at (Array t n) parens f)) = Unit {0}
IsText f = ⊥

pub text_wrapped : (f : OperandForm) → IsText f → IsText (wrapped f)
text_wrapped (AsLvalue (tree.Designates at (Array t n) parens f)) h = tt
text_wrapped (AsLvalue (tree.Designates at (Int kind) parens f)) h = absurd h
text_wrapped (AsLvalue (tree.Designates at (Pointer t) parens f)) h = absurd h
text_wrapped (AsLvalue (tree.Designates at (Struct i) parens f)) h = absurd h
text_wrapped (AsLvalue (tree.Designates at Void parens f)) h = absurd h
text_wrapped (AsValue e) h = absurd h

array_value : (at : Place) (parens : ℕ) (l : LvalueTree) (t : Ty) (b : Bool) → term_type (value_by at parens l (cond b (Begins (Pointer t)) (Decays (Pointer t)))) ≡ Pointer t
array_value at parens l t true = refl
array_value at parens l t false = refl

text_value : (f : OperandForm) (fixed : Bool) → IsText f → (t : Ty) × (term_type (form_value f fixed).term ≡ Pointer t)
text_value (AsLvalue (tree.Designates at (Array t n) parens f)) fixed h = (t, array_value at parens (tree.Designates at (Array t n) parens f) t (n == 0))
text_value (AsLvalue (tree.Designates at (Int kind) parens f)) fixed h = absurd h
text_value (AsLvalue (tree.Designates at (Pointer t) parens f)) fixed h = absurd h
text_value (AsLvalue (tree.Designates at (Struct i) parens f)) fixed h = absurd h
text_value (AsLvalue (tree.Designates at Void parens f)) fixed h = absurd h
text_value (AsValue e) fixed h = absurd h

abbrev pub BeginsWithText : List OperandView → Type 0
BeginsWithText [] = Unit {0}
BeginsWithText (x ∷ xs) = IsText x.form

-- the arguments of a call whose first one is a literal
abbrev pub IsSpelled : Option Tree → List OperandView → Type 0
IsSpelled None xs = Unit {0}
IsSpelled (Some e) xs = (bytes : List ℕ) → literal_bytes e ≡ Some bytes → BeginsWithText xs

abbrev AreWellTyped : UnitView → Ruled (List TermTree) → Type 0
AreWellTyped u r = Holds (λ (es : List TermTree). are_well_typed_terms u (term_trees es) ≡ true) r

abbrev IsWellTyped : UnitView → Ruled TermTree → Type 0
IsWellTyped u r = Holds (λ (e : TermTree). is_well_typed_term u true e ≡ true) r

with_first_well_typed : (u : UnitView) (e : TermTree) (rs : Ruled (List TermTree)) → is_well_typed_term u true e ≡ true → AreWellTyped u rs → AreWellTyped u (with_first e rs)
with_first_well_typed u e (Ok es) g h = and_from _ _ g h
with_first_well_typed u e (Err f) g h = tt

if_first_well_typed : (u : UnitView) (r : Ruled TermTree) (rs : Ruled (List TermTree)) → IsWellTyped u r → AreWellTyped u rs → AreWellTyped u (if_first r rs)
if_first_well_typed u (Ok e) rs g h = with_first_well_typed u e rs g h
if_first_well_typed u (Err f) rs g h = tt

nothing_wanted : (k : Known) (w : Wanted) → is_wanted k w Void ≡ true → ⊥
nothing_wanted k want.Text h = cc
nothing_wanted k want.Character h = cc
nothing_wanted k (want.Number extent) h = cc

module _ (u : UnitView) (k : Known) (known : IsGround u k) (values : ValuesAreMade) (conversions : ConversionsGive) where
  -- an integer in its promoted type
  given_by : (at : Place) (e : TermTree) (to : Ty) (b : Bool) → Gives u to (assigned_by k at e to (cond b Same Converted)) → IsGiven u (cond b e (implicit k e to)) to
  given_by at e to true h = h
  given_by at e to false h = h

  promoted_well_typed : (w : Wanted) (e : TermTree) → IsMade u e → is_wanted k w (term_type (promoted_argument k e)) ≡ true → is_well_typed_term u true (promoted_argument k e) ≡ true
  promoted_well_typed w (tree.Typed at (Int kind) parens constant f) made is =
      let kind_known = in_model k.numbers u.model (Int (promoted k.numbers kind)) (sym known.same) (promoted_known k.numbers kind (in_model u.model k.numbers (Int kind) known.same made.typed)) in
      let given = conversions u k known at (tree.Typed at (Int kind) parens constant f) (Int (promoted k.numbers kind)) made kind_known in
      (given_by at (tree.Typed at (Int kind) parens constant f) (Int (promoted k.numbers kind)) (same_kind kind (promoted k.numbers kind)) given).well_typed
  promoted_well_typed w (tree.Typed at (Pointer t) parens constant f) made is = made.well_typed
  promoted_well_typed w (tree.Typed at (Array t n) parens constant f) made is = made.well_typed
  promoted_well_typed w (tree.Typed at (Struct i) parens constant f) made is = made.well_typed
  promoted_well_typed w (tree.Typed at Void parens constant f) made is = absurd (nothing_wanted k w is)

  wanted_well_typed : (at : Place) (e : TermTree) (b : Bool) → (b ≡ true → is_well_typed_term u true e ≡ true) → IsWellTyped u (cond b (Ok e) (format_fault at))
  wanted_well_typed at e true h = h refl
  wanted_well_typed at e false h = tt

  formatted_well_typed : (at : Place) (w : Wanted) (x : OperandView) → IsMadeOperand u x → IsWellTyped u (formatted k at w x)
  formatted_well_typed at w x made = wanted_well_typed at (promoted_argument k (term_of x)) (is_wanted k w (term_type (promoted_argument k (term_of x)))) (λ is. promoted_well_typed w (term_of x) (values u k known x made) is)

  each_well_typed : (at : Place) (ws : List Wanted) (xs : List OperandView) → AreMade u xs → AreWellTyped u (each_formatted k at ws xs)
  unfolding each_formatted
  each_well_typed at [] [] made = refl
  each_well_typed at (w ∷ ws) [] made = refl
  each_well_typed at [] (x ∷ xs) made = tt
  each_well_typed at (w ∷ ws) (x ∷ xs) made = if_first_well_typed u (formatted k at w x) (each_formatted k at ws xs) (formatted_well_typed at w x made.0) (each_well_typed at ws xs made.1)

  arguments_well_typed : (at : Place) (ws : List Wanted) (xs : List OperandView) (b : Bool) → AreMade u xs → AreWellTyped u (cond b (each_formatted k at ws xs) (format_fault at))
  arguments_well_typed at ws xs true made = each_well_typed at ws xs made
  arguments_well_typed at ws xs false made = tt

  printed_made : (at : Place) (format : OperandView) (r : Ruled (List TermTree)) → IsMadeOperand u format → IsText format.form → AreWellTyped u r → Makes u (calls.printed k at (term_of format) r)
  printed_made at format (Err f) made text well_typed = tt
  printed_made at format (Ok es) made text well_typed =
      let value = text_value format.form format.fixed text in
      library_called_made u k.numbers at 0 lib.Printf (term_of format ∷ es) known.same (subst (λ m. is_model m ≡ true) known.same known.proper)
      (and_from _ _ (subst (λ t. is_well_typed_term u (not (is_void t)) (term_of format) ≡ true) value.1 (values u k known format made).well_typed) well_typed)
      (subst (λ t. begins_with_address (kind_of_type t ∷ argument_kinds (term_trees es)) ≡ true) (sym (type_is (term_of format) ∙ value.1)) refl)

  printf_with_made : (at : Place) (ws : List Wanted) (xs : List OperandView) → AreMade u xs → BeginsWithText xs → Makes u (calls.printf_with k at ws xs)
  printf_with_made at ws [] made text = tt
  printf_with_made at ws (x ∷ xs) made text = printed_made at x (formatted_arguments k at ws xs) made.0 text (arguments_well_typed at ws xs (length xs == length ws) made.1)

  printf_wanting_made : (at : Place) (xs : List OperandView) (o : Option (List Wanted)) → AreMade u xs → BeginsWithText xs → Makes u (calls.printf_wanting k at xs o)
  printf_wanting_made at xs None made text = tt
  printf_wanting_made at xs (Some ws) made text = printf_with_made at ws xs made text

  printf_spelled_made : (at : Place) (xs : List OperandView) (o : Option (List ℕ)) → AreMade u xs → ((bytes : List ℕ) → o ≡ Some bytes → BeginsWithText xs) → Makes u (calls.printf_spelled k at xs o)
  printf_spelled_made at xs None made text = tt
  printf_spelled_made at xs (Some bytes) made text = printf_wanting_made at xs (wanted_by bytes) made (text bytes refl)

  printf_made : (at : Place) (format : Option Tree) (xs : List OperandView) → AreMade u xs → IsSpelled format xs → Makes u (calls.printf_call k at format xs)
  printf_made at None xs made text = tt
  printf_made at (Some format) xs made text = printf_spelled_made at xs (literal_bytes format) made text

-- ---- calls

module _ (s : State) (u : UnitView) (h : HasTypes s) (evaluated : is_evaluated s ≡ true) (p : IsPartOf s u) (values : ValuesAreMade) (conversions : ConversionsGive) where
  called_with_made : (at : Place) (f : SignatureView) (n : ℕ) (r : Ruled (List TermTree)) → f.number ≡ Some n → IsThere u f n → IsTypeOf u.model f.result.ctype → GivesAll u f.parameters r → Makes u (called_with at f r)
  called_with_made at f n (Err e) number there typed given = tt
  called_with_made at f n (Ok es) number there typed given = called_made u at f n es number there typed given

  own_made : (at : Place) (declared : ℕ) (xs : List OperandView) (o : Option SignatureView) → slice_get s.functions declared ≡ o → AreMade u xs → Makes u (calls.own_by s at xs o)
  own_made at declared xs None is made = tt
  own_made at declared xs (Some f) is made = unless_missing u at f.number (is_evaluated s) (calls.own_with s.known at f xs) evaluated (λ n number.
      called_with_made at f n (converted_arguments s.known at xs f.parameters) number (p.functions declared f n is number) (in_unit s u f.result.ctype p (h.results declared f is))
      (arguments_given u s.known (ground s u h p) values conversions at xs f.parameters made (λ i t at_i. in_unit s u t p (h.parameters declared f is i t at_i))))

  library_made : (at : Place) (f : LibFn) (format : Option Tree) (xs : List OperandView) (b : Bool) → takes_format f ≡ b → AreMade u xs → IsSpelled format xs → Makes u (cond b (calls.printf_call s.known at format xs) (calls.library_call s at f xs))
  library_made at f format xs true is made text = printf_made u s.known (ground s u h p) values conversions at format xs made text
  library_made at f format xs false is made text = library_call_made s u h p values conversions at f xs is made

  pub call_made : (at : Place) (c : Callee) (format : Option Tree) (xs : List OperandView) → AreMade u xs → IsSpelled format xs → Makes u (calls.call s at c format xs)
  call_made at (callee.Own declared) format xs made text = own_made at declared xs (slice_get s.functions declared) refl made
  call_made at (callee.Library f) format xs made text = library_made at f format xs (takes_format f) refl made text
  call_made at callee.Other format xs made text = tt
  call_made at callee.Unknown format xs made text = tt
