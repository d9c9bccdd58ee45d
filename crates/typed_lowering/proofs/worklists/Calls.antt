-- Calls of functions of the unit, and of the library.
use Rattle.std.proofs.Common.{◌≡◌, ◌≤◌, ◌<◌, ℕ, zero, suc, ◌+◌, ◌==◌, ℤ, Bool, true, false, not, cond, ◌&&◌, ◌||◌, List, [], ◌∷◌, length, take, Option, Some, None, slice_get, refl, arith, ap, sym, subst, ◌∙◌}
use Rattle.std.proofs.lemmas.Bool.{and_parts, eqb-true}
use Rattle.cc_base.specs.declared.diagnostics.Place.{Place}
use Rattle.c_layout.specs.CheckedTrees as tree
use Rattle.c_layout.specs.CheckedTrees.{TermTree, TermTrees, Typed}
use Rattle.c_layout.specs.CheckedUnits.{LocalView, FunctionView}
use Rattle.c_layout.specs.Types.{Ty, Void, same_type}
use Rattle.c_layout.specs.declared.library_functions.LibFn.{LibFn}
use Rattle.c_layout.specs.declared.library_functions.LibFn.TheVariants.{Isalpha, Isdigit, Isspace, Isupper, Islower, Isalnum, Toupper, Tolower, Putchar, Exit, Abort}
use Rattle.c_types_rules.proofs.SameTypes.{type_is}
use Rattle.lower_expressions.specs.Calls.{argued, argument_temps, own_call, result_temp, gives, target_size, library_call}
use Rattle.lower_functions.specs.Functions.Functions.{type_or}
use Rattle.typed_programs.specs.PlainUnits.PlainTerms.{is_plain_library, is_plain_term, are_plain_terms}
use Rattle.lower_templates.specs.Worklist.Acts as acts
use Rattle.lower_templates.specs.Worklist.Plans.{Plan, done}
use Rattle.lower_templates.specs.Worklist.Settings.{SettingView}
use Rattle.lower_templates.specs.Worklist.TermKinds.{is_void}
use Rattle.lower_templates.specs.Worklist.Works as jobs
use Rattle.lower_preconditions.specs.Units.RegularTerms.{argument_count, is_callable, is_regular_term, are_regular_terms}
use Rattle.typed_programs.specs.Types.PointedTypes.{Known, IsStorable}
use Rattle.typed_programs.specs.Types.TypedPrograms.{IsKept, GivesIf}
use Rattle.typed_programs.specs.Types.TypedStates.{Temporaries}
use Rattle.typed_lowering.specs.Conversions.KnownValues.{type_known, term_known, with_value, if_used}
use Rattle.typed_lowering.specs.Conversions.TypedActs as typed
use Rattle.typed_lowering.specs.Conversions.TypedPieces.{State, ArePassed, IsTypedCall}
use Rattle.typed_lowering.specs.Conversions.TypedTerms.{is_integer, is_scalar, is_stored_as, local_types, parameter_types, are_passed, gives_type, is_typed_call, is_typed_term, are_typed_terms}
use Rattle.typed_lowering.proofs.conversions.KeptKnowledge.{kept_same}
use Rattle.typed_lowering.proofs.worklists.FormGoals.{never, term_goal, to_goal, gives_goal, value_goal, comes_to, comes_do, integer_unknown, known_by_type, nothing_asked, stored_as, behind_parts}
use Rattle.typed_lowering.proofs.worklists.KnownTables.{at_most, Agrees, agrees_same, agrees_value, value_here, storable_same, to_below}
use Rattle.typed_lowering.proofs.worklists.Numbers.{IsLookedForm}
use Rattle.typed_lowering.proofs.worklists.PlannedWorks.{Site, Labels, Planned, Comes, plan_value, plan_call}

-- ---- arguments

-- what is known behind arguments, each in a temporary of its own
abbrev pub argued_known : TermTrees → ℕ → Temporaries → Temporaries
argued_known tree.End depth known = known
argued_known (tree.More e rest) depth known = argued_known rest (jobs.behind depth 1) (with_value depth (term_known e) known)

module _ (c : Site) where
  abbrev pub AreLookedArguments : ℕ → TermTrees → Type 0
  AreLookedArguments depth es = (are_typed_terms c.u c.f es ≡ true) × (are_plain_terms c.calls es ≡ true) × (are_regular_terms c.u c.f depth es ≡ true)

  -- the first argument and the others, which stand behind it
  record HasFirst (depth : ℕ) (e : TermTree) (rest : TermTrees) : Type 0 where
    first : (is_typed_term c.u c.f e ≡ true) × (is_plain_term c.calls e ≡ true) × (is_regular_term c.u c.f true depth e ≡ true)
    next : jobs.behind depth 1 ≡ depth + 1
    others : AreLookedArguments (jobs.behind depth 1) rest

  has_first : (depth : ℕ) (e : TermTree) (rest : TermTrees) → AreLookedArguments depth (tree.More e rest) → HasFirst depth e rest
  has_first depth e rest looked =
      let x = and_parts _ _ looked.0 in let y = and_parts _ _ looked.1 in
      let z = behind_parts depth (is_regular_term c.u c.f true depth e) (are_regular_terms c.u c.f (depth + 1) rest) looked.2 in
      record { first = (x.0, y.0, z.left); next = z.next; others = (x.1, y.1, subst (λ n. are_regular_terms c.u c.f n rest ≡ true) (sym z.next) z.right) }

  no_less : (depth n : ℕ) → n ≡ depth + 1 → depth ≤ n
  no_less depth n e = omega (arith, e)

  lower : (t depth n : ℕ) → n ≡ depth + 1 → t < depth → t < n
  lower t depth n e less = omega (arith, e, less)

  argued_agree : (es : TermTrees) (depth : ℕ) (known before : Temporaries) → AreLookedArguments depth es → Agrees depth known before → Agrees depth (argued_known es depth known) before
  argued_agree tree.End depth known before looked agree t less = agree t less
  argued_agree (tree.More e rest) depth known before looked agree t less =
      let h = has_first depth e rest looked in
      let here = with_value depth (term_known e) known in
      argued_agree rest (jobs.behind depth 1) here here h.others (agrees_same (jobs.behind depth 1) here) t (lower t depth (jobs.behind depth 1) h.next less)
      ∙ agrees_value depth depth (term_known e) known before (at_most depth) agree t less

  one_less : (depth n : ℕ) → n ≡ depth + 1 → depth + 0 < n
  one_less depth n e = omega (arith, e)

  no_more : (n : ℕ) → n + 0 ≡ n
  no_more n = omega arith

  one_further : (depth n i : ℕ) → n ≡ depth + 1 → depth + suc i ≡ n + i
  one_further depth n i e = omega (arith, e)

  -- an argument is a value that may be stored where its parameter stands
  argument_stored : (ts : List Ty) (es : TermTrees) (depth : ℕ) (known : Temporaries) → AreLookedArguments depth es → are_passed ts es ≡ true → (i : ℕ) (t : Ty) → slice_get ts i ≡ Some t → IsStorable (type_known t) (argued_known es depth known (depth + i))
  argument_stored [] es depth known looked passed i t is = absurd (cc)
  argument_stored (s ∷ ts) tree.End depth known looked passed i t is = never passed
  argument_stored (s ∷ ts) (tree.More e rest) depth known looked passed zero t is =
      let h = has_first depth e rest looked in
      let here = with_value depth (term_known e) known in
      let same : s ≡ t = cc in
      let there = argued_agree rest (jobs.behind depth 1) here here h.others (agrees_same (jobs.behind depth 1) here) (depth + 0) (one_less depth (jobs.behind depth 1) h.next) ∙ ap here (no_more depth) ∙ value_here depth (term_known e) known in
      subst (λ z. IsStorable (type_known t) z) (sym there) (subst (λ z. IsStorable (type_known z) (term_known e)) same (stored_as s e (and_parts (is_stored_as s e) (are_passed ts rest) passed).0).storable)
  argument_stored (s ∷ ts) (tree.More e rest) depth known looked passed (suc i) t is =
      let h = has_first depth e rest looked in
      let here = with_value depth (term_known e) known in
      subst (λ n. IsStorable (type_known t) (argued_known rest (jobs.behind depth 1) here n)) (sym (one_further depth (jobs.behind depth 1) i h.next)) (argument_stored ts rest (jobs.behind depth 1) here h.others (and_parts (is_stored_as s e) (are_passed ts rest) passed).1 i t is)

-- ---- parameters

passed_count : (ts : List Ty) (es : TermTrees) → are_passed ts es ≡ true → length ts ≡ argument_count es
passed_count [] tree.End passed = refl
passed_count [] (tree.More e rest) passed = never passed
passed_count (t ∷ ts) tree.End passed = never passed
passed_count (t ∷ ts) (tree.More e rest) passed = ap suc (passed_count ts rest (and_parts (is_stored_as t e) (are_passed ts rest) passed).1) ∙ one_more (argument_count rest)
  where
    one_more : (n : ℕ) → suc n ≡ n + 1
    one_more n = omega arith

type_there : (ts : List Ty) (i : ℕ) → i < length ts → (t : Ty) × (slice_get ts i ≡ Some t)
type_there [] i less = absurd (omega (arith, less))
type_there (t ∷ ts) zero less = (t, refl)
type_there (t ∷ ts) (suc i) less = type_there ts i (omega (arith, less))

parameter_is : (returns : Ty) (n : ℕ) (ls : List LocalView) (i : ℕ) (t : Ty) → slice_get (local_types (take n ls)) i ≡ Some t → type_or (slice_get ls i) returns ≡ t
parameter_is returns zero ls i t is = absurd (cc)
parameter_is returns (suc n) [] i t is = absurd (cc)
parameter_is returns (suc n) (l ∷ ls) zero t is = cc
parameter_is returns (suc n) (l ∷ ls) (suc i) t is = parameter_is returns n ls i t is

returned : (s t : Ty) → gives_type s t ≡ true → s ≡ t
returned s t is = type_is s t (and_parts (is_void s || is_scalar s) (same_type s t) is).1

-- ---- calls

module _ {c : Site} {L : Labels → Type 0} {start : State} {count : ℕ} where
  plan_arguments : (es : TermTrees) (depth : ℕ) (before : Temporaries) (p : Plan) → AreLookedArguments c depth es → Planned c L start count (Some before) p → Planned c L start count (Some (argued_known es depth before)) (argued es depth p)
  plan_arguments tree.End depth before p looked k = k
  plan_arguments (tree.More e rest) depth before p looked k = let h = has_first c depth e rest looked in plan_arguments rest (jobs.behind depth 1) (with_value depth (term_known e) before) _ h.others (plan_value e depth p h.first k)

module _ {c : Site} {L : Labels → Type 0} {start : State} {count : ℕ} (s : SettingView) (at : Place) (t : Ty) (parens : ℕ) (constant : Option ℤ) (depth : ℕ) (used : Bool) (before : Temporaries) (p : Plan) (k : Planned c L start count (Some before) p) where
  -- ---- functions of the unit

  abbrev e_of_call : ℕ → TermTrees → Bool → TermTree
  e_of_call function es is_used = Typed at t parens constant (tree.Call function es is_used)

  -- a call's value is taken where the term's is used
  result_goal : (e : TermTree) (is_used : Bool) (returns : Ty) (known : Temporaries) → (not used || is_used) ≡ true → Agrees depth known before → IsStorable (term_known e) (type_known returns) → IsKept (with_value depth (if_used is_used (type_known returns)) known) (term_goal used depth e before)
  result_goal e is_used returns known fits agree is = by used is_used fits
    where
      by : (used is_used : Bool) → (not used || is_used) ≡ true → IsKept (with_value depth (if_used is_used (type_known returns)) known) (term_goal used depth e before)
      by true true fits = value_goal true depth e (type_known returns) known before agree is
      by true false fits = never fits
      by false is_used fits = to_below depth (with_value depth (if_used is_used (type_known returns)) known) before (agrees_value depth depth (if_used is_used (type_known returns)) known before (at_most depth) agree)

  passed : (g : FunctionView) (es : TermTrees) → AreLookedArguments c depth es → are_passed (parameter_types g) es ≡ true → g.parameters ≡ argument_count es → ArePassed g depth (argued_known es depth before)
  passed g es looked is count i less room =
      let all = passed_count (parameter_types g) es is in
      let there = type_there (parameter_types g) i (subst (λ n. i < n) (count ∙ sym all) less) in
      subst (λ z. IsStorable (type_known z) (argued_known es depth before (depth + i))) (sym (parameter_is g.returns g.parameters g.locals i there.0 there.1)) (argument_stored c (parameter_types g) es depth before looked is i there.0 there.1)

  typed_call : (function : ℕ) (es : TermTrees) (is_used : Bool) → AreLookedArguments c depth es → (o : Option FunctionView) → slice_get c.u.functions function ≡ o → is_typed_call t es o ≡ true → is_callable used is_used (argument_count es) o ≡ true → (labels : Labels)
      → IsTypedCall c.u c.f c.used c.names labels (Some (argued_known es depth before)) (record { place = at; function = function; depth = depth; used = is_used }) (term_goal used depth (e_of_call function es is_used) before)
  typed_call function es is_used looked None stands is callable labels = never is
  typed_call function es is_used looked (Some g) stands is callable labels =
      let x = and_parts (are_passed (parameter_types g) es) (gives_type g.returns t) is in
      let y = and_parts (g.parameters == argument_count es) ((not used || is_used) && (not is_used || not (is_void g.returns))) callable in
      let e = e_of_call function es is_used in
      record {
        callee = g;
        stands = stands;
        before = argued_known es depth before;
        leads = kept_same (argued_known es depth before);
        arguments = passed g es looked x.0 (eqb-true g.parameters (argument_count es) y.0);
        behind = result_goal e is_used g.returns (argued_known es depth before) (and_parts _ _ y.1).0 (argued_agree c es depth before before looked (agrees_same depth before))
            (subst (λ z. IsStorable z (type_known g.returns)) (sym (known_by_type at parens constant t (tree.Call function es is_used) refl)) (subst (λ z. IsStorable (type_known t) (type_known z)) (sym (returned g.returns t x.1)) (storable_same (type_known t))));
      }

  pub own_call_comes : (function : ℕ) (es : TermTrees) (is_used : Bool) → IsLookedForm c used depth at t parens constant (tree.Call function es is_used) → Comes c L start count (Some (term_goal used depth (e_of_call function es is_used) before)) (own_call at function es is_used depth p)
  own_call_comes function es is_used looked =
      let x = and_parts _ _ looked.0 in let y = and_parts _ _ looked.1 in let z = and_parts _ _ looked.2 in
      let all : AreLookedArguments c depth es = (x.0, y.1, z.0) in
      comes_to (plan_call (term_goal used depth (e_of_call function es is_used) before) _ _ (typed_call function es is_used all (slice_get c.u.functions function) refl x.1 z.1) (plan_arguments es depth before p all k)) (kept_same (term_goal used depth (e_of_call function es is_used) before))

  -- ---- the library

  unknown : (b : Bool) → is_integer t ≡ b → (b || same_type t Void) ≡ true → type_known t ≡ None
  unknown true is fits = integer_unknown t is
  unknown false is fits = ap type_known (type_is t Void fits)

  module _ (es : TermTrees) (target : Option Ty) (looked : AreLookedArguments c depth es) (nothing : type_known t ≡ None) where
    abbrev library : LibFn → TermTree
    library function = Typed at t parens constant (tree.Library function es target)

    abbrev Behind : LibFn → Temporaries
    Behind function = term_goal used depth (library function) before

    asked : (function : LibFn) (known : Option Known) → IsStorable (term_known (library function)) known
    asked function known = nothing_asked _ known (known_by_type at parens constant t (tree.Library function es target) refl ∙ nothing)

    agree : Agrees depth (argued_known es depth before) before
    agree = argued_agree c es depth before before looked (agrees_same depth before)

    gives_if : (function : LibFn) (b : Bool) → GivesIf (cond b (Some depth) None) None (argued_known es depth before) (Behind function)
    gives_if function true = gives_goal used depth (library function) None (argued_known es depth before) before agree (asked function None)
    gives_if function false = to_goal used depth (library function) (argued_known es depth before) before agree (asked function (argued_known es depth before depth))

    called : (function : LibFn) → is_plain_library function ≡ true → Comes c L start count (Some (Behind function)) (done at (acts.Library (result_temp function depth) function (argument_temps es depth) None (target_size s target)) (argued es depth p))
    called function is = comes_do (Behind function) _ _ (typed.calls (result_temp function depth) function (argument_temps es depth) None (target_size s target) is (gives_if function (gives function))) (plan_arguments es depth before p looked k)

    by_function : (function : LibFn) → is_plain_library function ≡ true → Comes c L start count (Some (Behind function)) (library_call s at function es target depth p)
    by_function Isalpha is = called Isalpha is
    by_function Isdigit is = called Isdigit is
    by_function Isspace is = called Isspace is
    by_function Isupper is = called Isupper is
    by_function Islower is = called Islower is
    by_function Isalnum is = called Isalnum is
    by_function Toupper is = called Toupper is
    by_function Tolower is = called Tolower is
    by_function Putchar is = called Putchar is
    by_function Exit is = called Exit is
    by_function Abort is = called Abort is
    by_function other is = never is

  pub library_comes : (function : LibFn) (es : TermTrees) (target : Option Ty) → IsLookedForm c used depth at t parens constant (tree.Library function es target) → Comes c L start count (Some (term_goal used depth (Typed at t parens constant (tree.Library function es target)) before)) (library_call s at function es target depth p)
  library_comes function es target looked =
      let x = and_parts _ _ looked.0 in let y = and_parts _ _ looked.1 in let z = and_parts _ _ looked.2 in
      by_function es target (x.0, y.1, z.0) (unknown (is_integer t) refl x.1) function y.0
