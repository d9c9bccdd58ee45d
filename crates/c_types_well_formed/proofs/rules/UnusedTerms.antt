-- Terms whose values are not used are marked where they are marked as used ones.
use Rattle.std.proofs.Common.{◌≡◌, Bool, true, false, not, ◌&&◌, ◌||◌, Option, Some, None, refl}
use Rattle.std.proofs.lemmas.Bool.{and_from}
use Rattle.c_layout.specs.CheckedTrees as tree
use Rattle.c_layout.specs.CheckedTrees.{TermTree, TermTrees, Typed}
use Rattle.c_layout.specs.CheckedUnits.{FunctionView, UnitView}
use Rattle.c_layout.specs.Types.{Ty}
use Rattle.c_layout.specs.declared.library_functions.LibFn.{LibFn}
use Rattle.c_types_operands.specs.Conversions.{unused}
use Rattle.lower_expressions.specs.Calls.{gives}
use Rattle.lower_templates.specs.Worklist.TermKinds.{is_void, scalar_of, term_type}
use Rattle.semantics.specs.SourceMachine.SourceStates.{function_at}
use Rattle.source_items.specs.StackKinds.KindedTerms.{argument_kinds}
use Rattle.source_preservation.specs.Checks.LookedTypes.{same_mark}
use Rattle.source_items.specs.Operations.TakenKinds.{result_kind}
use Rattle.source_preservation.specs.Checks.LookedTerms.{has_tests, have_parameters, calls, accepts, is_given, calls_library, is_well_typed_term, are_well_typed_terms}
use Rattle.source_preservation.proofs.checks.Truths.{both_true}

abbrev gives_value : Bool → Ty → FunctionView → Bool
gives_value is_used t f = not is_used || (not (is_void f.returns) && same_mark t f.returns)

call_unused : (used is_used : Bool) (t : Ty) (args : TermTrees) (o : Option FunctionView) → calls used is_used t args o ≡ true → calls false is_used t args o ≡ true
call_unused used is_used t args None h = h
call_unused used is_used t args (Some f) h =
    let x = both_true (have_parameters f 0 args) ((not used || is_used) && gives_value is_used t f) h in
    and_from (have_parameters f 0 args) (gives_value is_used t f) x.0 (both_true (not used || is_used) (gives_value is_used t f) x.1).1

call_alone : (used is_used : Bool) (t : Ty) (args : TermTrees) (o : Option FunctionView) → calls used is_used t args o ≡ true → calls false false t args o ≡ true
call_alone used is_used t args None h = h
call_alone used is_used t args (Some f) h = and_from (have_parameters f 0 args) true (both_true (have_parameters f 0 args) ((not used || is_used) && gives_value is_used t f) h).0 refl

library_unused : (u : UnitView) (used : Bool) (t : Ty) (function : LibFn) (args : TermTrees) → calls_library u used t function args ≡ true → calls_library u false t function args ≡ true
library_unused u used t function args h =
    let given : Bool = not (gives function) || is_given u.model function (result_kind function) (scalar_of t) in
    let x = both_true (accepts function (argument_kinds args)) ((not used || gives function) && given) h in
    and_from (accepts function (argument_kinds args)) given x.0 (both_true (not used || gives function) given x.1).1

module _ (u : UnitView) where
  -- two terms behind a condition, marked as values that are not used
  arms : (c t a b a' b' s : Bool) → (a ≡ true → a' ≡ true) → (b ≡ true → b' ≡ true) → (c && (t && (a && (b && s)))) ≡ true → (c && (t && (a' && (b' && s)))) ≡ true
  arms c t a b a' b' s f g h =
      let x = both_true c (t && (a && (b && s))) h in
      let y = both_true t (a && (b && s)) x.1 in
      let z = both_true a (b && s) y.1 in
      let w = both_true b s z.1 in
      and_from c (t && (a' && (b' && s))) x.0 (and_from t (a' && (b' && s)) y.0 (and_from a' (b' && s) (f z.0) (and_from b' s (g w.0) w.1)))

  last : (a b b' s : Bool) → (b ≡ true → b' ≡ true) → (a && (b && s)) ≡ true → (a && (b' && s)) ≡ true
  last a b b' s f h =
      let x = both_true a (b && s) h in
      let y = both_true b s x.1 in
      and_from a (b' && s) x.0 (and_from b' s (f y.0) y.1)

  -- what is not used need not be given
  pub still_well_typed : (used : Bool) (e : TermTree) → is_well_typed_term u used e ≡ true → is_well_typed_term u false e ≡ true
  still_well_typed used (Typed at t parens fixed (tree.Discard a)) h = and_from (is_well_typed_term u false a) true (both_true (is_well_typed_term u false a) (not used) h).0 refl
  still_well_typed used (Typed at t parens fixed (tree.Conditional c a b)) h =
      arms (is_well_typed_term u true c) (has_tests u true c) (is_well_typed_term u used a) (is_well_typed_term u used b) (is_well_typed_term u false a) (is_well_typed_term u false b) (same_mark (term_type a) t && same_mark (term_type b) t) (λ x. still_well_typed used a x) (λ x. still_well_typed used b x) h
  still_well_typed used (Typed at t parens fixed (tree.Comma a b)) h = last (is_well_typed_term u false a) (is_well_typed_term u used b) (is_well_typed_term u false b) (same_mark (term_type b) t) (λ x. still_well_typed used b x) h
  still_well_typed used (Typed at t parens fixed (tree.Call g args is_used)) h =
      let x = both_true (are_well_typed_terms u args) (calls used is_used t args (function_at u g)) h in
      and_from (are_well_typed_terms u args) (calls false is_used t args (function_at u g)) x.0 (call_unused used is_used t args (function_at u g) x.1)
  still_well_typed used (Typed at t parens fixed (tree.Library function args allocated)) h =
      let x = both_true (are_well_typed_terms u args) (calls_library u used t function args) h in
      and_from (are_well_typed_terms u args) (calls_library u false t function args) x.0 (library_unused u used t function args x.1)
  still_well_typed used (Typed at t parens fixed f) h = h

  pub unused_well_typed : (used : Bool) (e : TermTree) → is_well_typed_term u used e ≡ true → is_well_typed_term u false (unused e) ≡ true
  unused_well_typed used (Typed at t parens fixed (tree.Call g args is_used)) h =
      let x = both_true (are_well_typed_terms u args) (calls used is_used t args (function_at u g)) h in
      and_from (are_well_typed_terms u args) (calls false false t args (function_at u g)) x.0 (call_alone used is_used t args (function_at u g) x.1)
  unused_well_typed used (Typed at t parens fixed f) h = still_well_typed used (Typed at t parens fixed f) h
