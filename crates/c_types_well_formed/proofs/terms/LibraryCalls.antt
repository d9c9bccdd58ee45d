-- Calls of library functions are made.
use Rattle.std.proofs.Common.{◌≡◌, inl, inr, ◌-◌, ◌*◌, ◌^◌, ℕ, pos, negsuc, List, [], ◌∷◌, map, None, Ok, Err, refl, subst, sym}
use Rattle.std.specs.Prelude.{ℤ, Bool, true, false, not, ◌&&◌, ◌||◌}
use Rattle.std.proofs.lemmas.Bool.{and_from}
use Rattle.cc_base.specs.IntegerTypes.{in_type}
use Rattle.cc_base.specs.declared.diagnostics.Place.{Place}
use Rattle.c_layout.specs.Models.{is_model}
use Rattle.c_layout.specs.Types.{Ty}
use Rattle.c_layout.specs.CheckedTrees as tree
use Rattle.c_layout.specs.CheckedTrees.{TermTree, TermTrees, term_trees}
use Rattle.c_layout.specs.CheckedUnits.{UnitView}
use Rattle.c_layout.specs.declared.data_model.Model.{Model}
use Rattle.c_layout.specs.declared.library_functions.LibFn.{LibFn}
use Rattle.c_layout.specs.declared.library_functions.LibFn.TheVariants as lib
use Rattle.c_types_rules.specs.Rules.IntegerKinds.{kind_of, size_rank, bytes_of, number_of}
use Rattle.c_types_rules.specs.declared.rules.integer_kinds.Rank.TheVariants as rank
use Rattle.c_types_scopes.specs.LibraryTypes.{slot_types, library_result, library_parameters}
use Rattle.c_types_scopes.specs.Refusals.{Ruled}
use Rattle.c_types_scopes.specs.States.{State}
use Rattle.c_types_operands.specs.Operands.{OperandView, is_void}
use Rattle.c_types_primary.specs.Calls as calls
use Rattle.c_types_primary.specs.Calls.{library_called, takes_format}
use Rattle.lower_expressions.specs.Calls.{gives}
use Rattle.lower_templates.specs.Worklist.TermKinds.{scalar_of}
use Rattle.source_items.specs.StackKinds.KindedTerms.{argument_kinds}
use Rattle.source_items.specs.Operations.Kinds.{kind_of_type}
use Rattle.source_items.specs.Operations.TakenKinds.{result_kind}
use Rattle.source_preservation.specs.Checks.LookedTerms.{accepts, is_given, has_tests, are_well_typed_terms}
use Rattle.c_types_well_formed.specs.WellFormed.KnownTypes.{HasTypes}
use Rattle.c_types_well_formed.specs.WellFormed.MadeLaws.{ValuesAreMade, ConversionsGive}
use Rattle.c_types_well_formed.specs.WellFormed.MadeTerms.{IsMadeOperand, Makes}
use Rattle.c_types_well_formed.specs.WellFormed.ModelTypes.{IsKindOf, IsTypeOf, Each}
use Rattle.c_types_well_formed.specs.WellFormed.UnitParts.{IsPartOf}
use Rattle.c_types_well_formed.proofs.rules.ModelKinds.{model_numbers}
use Rattle.c_types_well_formed.proofs.terms.Arguments.{AreMade, GivesAll, arguments_given, given_well_typed, given_kinds}
use Rattle.c_types_well_formed.proofs.terms.Parts.{kind_is, in_model, each_none, each_first}
use Rattle.c_types_well_formed.proofs.terms.Primaries.{in_unit}
use Rattle.c_types_well_formed.proofs.terms.Steps.{ground}

-- ---- types

int_typed : (m : Model) → IsKindOf m (kind_of m rank.Int true)
int_typed m = kind_is m rank.Int true

size_typed : (m : Model) → IsKindOf m (kind_of m (size_rank m) false)
size_typed m = kind_is m (size_rank m) false

text_typed : (m : Model) → IsKindOf m (kind_of m rank.Char m.char_signed)
text_typed m = kind_is m rank.Char m.char_signed

result_typed : (m : Model) (stream : ℕ) (f : LibFn) → IsTypeOf m (library_result m stream f)
result_typed m stream lib.Malloc = tt
result_typed m stream lib.Calloc = tt
result_typed m stream lib.Realloc = tt
result_typed m stream lib.Free = tt
result_typed m stream lib.Memcpy = tt
result_typed m stream lib.Memmove = tt
result_typed m stream lib.Memset = tt
result_typed m stream lib.Strlen = size_typed m
result_typed m stream lib.Strcpy = text_typed m
result_typed m stream lib.Strncpy = text_typed m
result_typed m stream lib.Strcat = text_typed m
result_typed m stream lib.Strcmp = int_typed m
result_typed m stream lib.Isalpha = int_typed m
result_typed m stream lib.Isdigit = int_typed m
result_typed m stream lib.Isspace = int_typed m
result_typed m stream lib.Isupper = int_typed m
result_typed m stream lib.Islower = int_typed m
result_typed m stream lib.Isalnum = int_typed m
result_typed m stream lib.Toupper = int_typed m
result_typed m stream lib.Tolower = int_typed m
result_typed m stream lib.Getchar = int_typed m
result_typed m stream lib.Fgets = text_typed m
result_typed m stream lib.Putchar = int_typed m
result_typed m stream lib.Puts = int_typed m
result_typed m stream lib.Printf = int_typed m
result_typed m stream lib.Exit = tt
result_typed m stream lib.Abort = tt

-- types, each of the model
abbrev AreTypesOf : Model → List Ty → Type 0
AreTypesOf m [] = Unit {0}
AreTypesOf m (t ∷ ts) = IsTypeOf m t × AreTypesOf m ts

each_typed : (m : Model) (ts : List Ty) → AreTypesOf m ts → Each (IsTypeOf m) ts
each_typed m [] h = each_none (IsTypeOf m)
each_typed m (t ∷ ts) h = each_first (IsTypeOf m) t ts h.0 (each_typed m ts h.1)

parameters_are : (m : Model) (stream : ℕ) (f : LibFn) → AreTypesOf m (library_parameters m stream f)
unfolding slot_types
parameters_are m stream lib.Malloc = (size_typed m, tt)
parameters_are m stream lib.Calloc = (size_typed m, (size_typed m, tt))
parameters_are m stream lib.Realloc = (tt, (size_typed m, tt))
parameters_are m stream lib.Free = (tt, tt)
parameters_are m stream lib.Memcpy = (tt, (tt, (size_typed m, tt)))
parameters_are m stream lib.Memmove = (tt, (tt, (size_typed m, tt)))
parameters_are m stream lib.Memset = (tt, (int_typed m, (size_typed m, tt)))
parameters_are m stream lib.Strlen = (text_typed m, tt)
parameters_are m stream lib.Strcpy = (text_typed m, (text_typed m, tt))
parameters_are m stream lib.Strncpy = (text_typed m, (text_typed m, (size_typed m, tt)))
parameters_are m stream lib.Strcat = (text_typed m, (text_typed m, tt))
parameters_are m stream lib.Strcmp = (text_typed m, (text_typed m, tt))
parameters_are m stream lib.Isalpha = (int_typed m, tt)
parameters_are m stream lib.Isdigit = (int_typed m, tt)
parameters_are m stream lib.Isspace = (int_typed m, tt)
parameters_are m stream lib.Isupper = (int_typed m, tt)
parameters_are m stream lib.Islower = (int_typed m, tt)
parameters_are m stream lib.Isalnum = (int_typed m, tt)
parameters_are m stream lib.Toupper = (int_typed m, tt)
parameters_are m stream lib.Tolower = (int_typed m, tt)
parameters_are m stream lib.Getchar = tt
parameters_are m stream lib.Fgets = (text_typed m, (int_typed m, (tt, tt)))
parameters_are m stream lib.Putchar = (int_typed m, tt)
parameters_are m stream lib.Puts = (text_typed m, tt)
parameters_are m stream lib.Printf = tt
parameters_are m stream lib.Exit = (int_typed m, tt)
parameters_are m stream lib.Abort = tt

parameters_typed : (m : Model) (stream : ℕ) (f : LibFn) → Each (IsTypeOf m) (library_parameters m stream f)
parameters_typed m stream f = each_typed m (library_parameters m stream f) (parameters_are m stream f)

-- ---- what functions take and give

slots_accepted : (m : Model) (stream : ℕ) (f : LibFn) → takes_format f ≡ false → accepts f (map kind_of_type (library_parameters m stream f)) ≡ true
unfolding slot_types
slots_accepted m stream lib.Printf h = absurd (cc)
slots_accepted m stream _ h = refl

used_given : (m : Model) (stream : ℕ) (f : LibFn) → (not (not (is_void (library_result m stream f))) || gives f) ≡ true
used_given m stream lib.Malloc = refl
used_given m stream _ = refl

-- an int has two or four bytes
by_int : (m : Model) (P : ℕ → Bool) → is_model m ≡ true → P 2 ≡ true → P 4 ≡ true → P m.int ≡ true
by_int m P h two four = elim (model_numbers m h).int [ inl e ↦ subst (λ n. P n ≡ true) (sym e) two | inr e ↦ subst (λ n. P n ≡ true) (sym e) four ]

by_pointer : (m : Model) (P : ℕ → Bool) → is_model m ≡ true → P 4 ≡ true → P 8 ≡ true → P m.pointer ≡ true
by_pointer m P h four eight = elim (model_numbers m h).pointer [ inl e ↦ subst (λ n. P n ≡ true) (sym e) four | inr e ↦ subst (λ n. P n ≡ true) (sym e) eight ]

int_has : (m : Model) (a b : ℤ) → is_model m ≡ true → (in_type (record { bytes = 2; signed = true; rank = 3 }) a && in_type (record { bytes = 2; signed = true; rank = 3 }) b) ≡ true → (in_type (record { bytes = 4; signed = true; rank = 3 }) a && in_type (record { bytes = 4; signed = true; rank = 3 }) b) ≡ true
    → (in_type (record { bytes = m.int; signed = true; rank = 3 }) a && in_type (record { bytes = m.int; signed = true; rank = 3 }) b) ≡ true
int_has m a b h two four = by_int m (λ n. in_type (record { bytes = n; signed = true; rank = 3 }) a && in_type (record { bytes = n; signed = true; rank = 3 }) b) h two four

size_has : (m : Model) (r : ℕ) → is_model m ≡ true → (in_type (record { bytes = bytes_of m (size_rank m); signed = false; rank = r }) (pos 0) && in_type (record { bytes = bytes_of m (size_rank m); signed = false; rank = r }) (pos (2 ^ (8 * m.pointer - 1) - 1))) ≡ true
size_has m r h =
    subst (λ n. (in_type (record { bytes = n; signed = false; rank = r }) (pos 0) && in_type (record { bytes = n; signed = false; rank = r }) (pos (2 ^ (8 * m.pointer - 1) - 1))) ≡ true) (sym (model_numbers m h).size)
    (by_pointer m (λ n. in_type (record { bytes = n; signed = false; rank = r }) (pos 0) && in_type (record { bytes = n; signed = false; rank = r }) (pos (2 ^ (8 * n - 1) - 1))) h refl refl)

result_given : (m : Model) (stream : ℕ) (f : LibFn) → is_model m ≡ true → (not (gives f) || is_given m f (result_kind f) (scalar_of (library_result m stream f))) ≡ true
result_given m stream lib.Strlen h = size_has m (number_of (size_rank m)) h
result_given m stream lib.Strcmp h = int_has m (negsuc 0) (pos 1) h refl refl
result_given m stream lib.Isalpha h = int_has m (pos 0) (pos 1) h refl refl
result_given m stream lib.Isdigit h = int_has m (pos 0) (pos 1) h refl refl
result_given m stream lib.Isspace h = int_has m (pos 0) (pos 1) h refl refl
result_given m stream lib.Isupper h = int_has m (pos 0) (pos 1) h refl refl
result_given m stream lib.Islower h = int_has m (pos 0) (pos 1) h refl refl
result_given m stream lib.Isalnum h = int_has m (pos 0) (pos 1) h refl refl
result_given m stream lib.Toupper h = int_has m (negsuc 0) (pos 255) h refl refl
result_given m stream lib.Tolower h = int_has m (negsuc 0) (pos 255) h refl refl
result_given m stream lib.Getchar h = int_has m (negsuc 0) (pos 255) h refl refl
result_given m stream lib.Putchar h = int_has m (pos 0) (pos 255) h refl refl
result_given m stream lib.Puts h = int_has m (pos 0) (pos 1) h refl refl
result_given m stream lib.Printf h = by_int m (λ n. in_type (record { bytes = n; signed = true; rank = 3 }) (pos 0) && in_type (record { bytes = n; signed = true; rank = 3 }) (pos (2 ^ (8 * n - 1) - 1))) h refl refl
result_given m stream _ h = refl

-- ---- terms

no_tests : (u : UnitView) (at : Place) (t : Ty) (f : LibFn) (args : TermTrees) (is_test : Bool) → has_tests u is_test (tree.Typed at t 0 None (tree.Library f args None)) ≡ true
no_tests u at t f args true = refl
no_tests u at t f args false = refl

-- a call of a function that takes its arguments
pub library_called_made : (u : UnitView) (m : Model) (at : Place) (stream : ℕ) (f : LibFn) (es : List TermTree) → u.model ≡ m → is_model m ≡ true → are_well_typed_terms u (term_trees es) ≡ true → accepts f (argument_kinds (term_trees es)) ≡ true → IsMadeOperand u (library_called at (library_result m stream f) f es)
library_called_made u m at stream f es same proper well_typed accepted = record {
  well_typed = and_from _ _ well_typed (and_from _ _ accepted (and_from _ _ (used_given m stream f) (subst (λ x. (not (gives f) || is_given x f (result_kind f) (scalar_of (library_result m stream f))) ≡ true) (sym same) (result_given m stream f proper))));
  typed = in_model m u.model (library_result m stream f) (sym same) (result_typed m stream f);
  bare = refl;
  constant = λ n e. absurd (cc);
  null = λ e. absurd (cc);
  tests = λ e is_test. no_tests u at (library_result m stream f) f (term_trees es) is_test;
}

module _ (s : State) (u : UnitView) (h : HasTypes s) (p : IsPartOf s u) (values : ValuesAreMade) (conversions : ConversionsGive) where
  library_with_made : (at : Place) (f : LibFn) (r : Ruled (List TermTree)) → takes_format f ≡ false → GivesAll u (library_parameters s.known.numbers s.stream f) r → Makes u (calls.library_with at (library_result s.known.numbers s.stream f) f r)
  library_with_made at f (Err e) plain given = tt
  library_with_made at f (Ok es) plain given =
      library_called_made u s.known.numbers at s.stream f es p.model h.proper (given_well_typed u es (library_parameters s.known.numbers s.stream f) given)
      (subst (λ ks. accepts f ks ≡ true) (sym (given_kinds u es (library_parameters s.known.numbers s.stream f) given)) (slots_accepted s.known.numbers s.stream f plain))

  -- a call of a function with a prototype
  pub library_call_made : (at : Place) (f : LibFn) (xs : List OperandView) → takes_format f ≡ false → AreMade u xs → Makes u (calls.library_call s at f xs)
  library_call_made at f xs plain made =
      library_with_made at f (calls.converted_arguments s.known at xs (library_parameters s.known.numbers s.stream f)) plain
      (arguments_given u s.known (ground s u h p) values conversions at xs (library_parameters s.known.numbers s.stream f) made
      (λ i t is. in_unit s u t p (parameters_typed s.known.numbers s.stream f i t is)))
