-- Terms that pass the look have operands of the marks that their operators take.
use Rattle.std.proofs.Common.{◌≡◌, ℕ, ◌+◌, pos, Bool, true, false, not, ◌&&◌, ◌||◌, List, [], ◌∷◌, Option, Some, None, slice_get, refl, ap}
use Rattle.std.proofs.lemmas.Bool.{eqb-true}
use Rattle.cc_base.specs.IntegerTypes.{in_type}
use Rattle.c_layout.specs.Types.{Ty}
use Rattle.c_layout.specs.CheckedTrees as tree
use Rattle.c_layout.specs.CheckedTrees.{TermTree, TermTrees, Typed, LvalueTree, Designates}
use Rattle.c_layout.specs.CheckedUnits.{FunctionView, UnitView}
use Rattle.c_layout.specs.declared.data_model.Model.{Model}
use Rattle.c_layout.specs.declared.library_functions.LibFn.{LibFn}
use Rattle.c_layout.specs.declared.library_functions.LibFn.TheVariants as f
use Rattle.lower_expressions.specs.Assignments.{number_operator}
use Rattle.lower_expressions.specs.Calls.{gives}
use Rattle.lower_functions.specs.Functions.Functions.{local_type}
use Rattle.lower_templates.specs.Worklist.TermKinds.{meaning, is_void, scalar_of, integer_type, term_type, lvalue_type}
use Rattle.cfg.specs.declared.machine_instructions.Scalar.{Scalar}
use Rattle.cfg.specs.declared.machine_instructions.Scalar.TheVariants as of
use Rattle.semantics.specs.SourceMachine.SourceStates.{function_at}
use Rattle.source_items.specs.Operations.Kinds.{Kind, Number, Address, kind_of}
use Rattle.source_items.specs.Operations.TakenKinds.{Accepts, result_kind}
use Rattle.source_items.specs.StackKinds.KindedTerms.{argument_kinds}
use Rattle.source_preservation.specs.ValueTyping.Marks.{mark_of}
use Rattle.source_preservation.specs.ValueTyping.MarkOperations.{AreOfKinds, least_given, greatest_given, IsGiven}
use Rattle.source_preservation.specs.WellTyped.WellTypedTerms.{argument_marks, HaveParameters, CallsFunction, CallsLibrary, WellTypedTerm, WellTypedPlace, WellTypedTerms, WellTypedCondition}
use Rattle.source_preservation.specs.Checks.LookedTypes.{same_mark}
use Rattle.source_preservation.specs.Checks.LookedTerms.{has_tests, have_parameters, calls, same_kinds, begins_with_address, accepts, is_given, calls_library, is_well_typed_term, is_well_typed_place, are_well_typed_terms, is_well_typed_condition}
use Rattle.source_preservation.proofs.checks.Truths.{never, there, implied, is_false, both_true, both, three, four, five, six, one_of}
use Rattle.c_types_rules.proofs.SameTypes.{type_is}
use Rattle.source_preservation.proofs.checks.SameTypes.{mark_is, address_is, scalar_type, number, integer, integer_there, truth, subtracted, combined, added, stepped, compounded, converted}
use Rattle.source_preservation.proofs.checks.ExactNumbers.{zero_is}
use Rattle.source_preservation.proofs.checks.LookedOperands.{object_there, tests}

-- ---- calls of functions

parameters_are : (f : FunctionView) (n : ℕ) (args : TermTrees) → have_parameters f n args ≡ true → HaveParameters f n args
parameters_are f n tree.End h = eqb-true n f.parameters h
parameters_are f n (tree.More e rest) h = both (same_mark (term_type e) (local_type f n)) (have_parameters f (n + 1) rest) (mark_is (term_type e) (local_type f n)) (λ x. parameters_are f (n + 1) rest x) h

called : (u : UnitView) (used is_used : Bool) (t : Ty) (g : ℕ) (args : TermTrees) → calls used is_used t args (function_at u g) ≡ true → CallsFunction u used is_used t g args
called u used is_used t g args h = by (function_at u g) refl h
  where
    by : (o : Option FunctionView) → function_at u g ≡ o → calls used is_used t args o ≡ true → CallsFunction u used is_used t g args
    by None is h = never h
    by (Some f) is h =
        let value : Bool = not (is_void f.returns) && same_mark t f.returns in
        let x = three (have_parameters f 0 args) (not used || is_used) (not is_used || value) (parameters_are f 0 args) (implied used is_used) (implied is_used value) h in
        record {
          function = f;
          is = is;
          arguments = x.0;
          given = x.1;
          result = λ e. both (not (is_void f.returns)) (same_mark t f.returns) (is_false (is_void f.returns)) (mark_is t f.returns) (x.2 e);
        }

-- ---- calls of the library

marks_of_kinds : (args : TermTrees) → AreOfKinds (argument_marks args) (argument_kinds args)
marks_of_kinds tree.End = refl
marks_of_kinds (tree.More e rest) = by (scalar_of (term_type e)) (marks_of_kinds rest)
  where
    by : (a : Scalar) → AreOfKinds (argument_marks rest) (argument_kinds rest) → AreOfKinds (mark_of a ∷ argument_marks rest) (kind_of a ∷ argument_kinds rest)
    by (of.Int kind) are = (argument_kinds rest, refl, are)
    by of.Pointer are = (argument_kinds rest, refl, are)

kinds_are : (ks ls : List Kind) → same_kinds ks ls ≡ true → ks ≡ ls
kinds_are [] [] h = refl
kinds_are (Number ∷ ks) (Number ∷ ls) h = ap (λ more. Number ∷ more) (kinds_are ks ls h)
kinds_are (Address ∷ ks) (Address ∷ ls) h = ap (λ more. Address ∷ more) (kinds_are ks ls h)
kinds_are ks ls h = never h

address_first : (ks : List Kind) → begins_with_address ks ≡ true → (more : List Kind) × (ks ≡ Address ∷ more)
address_first (Address ∷ ks) h = (ks, refl)
address_first ks h = never h

accepted : (function : LibFn) (ks : List Kind) → accepts function ks ≡ true → Accepts function ks
accepted f.Printf ks h = address_first ks h
accepted f.Malloc ks h = kinds_are ks _ h
accepted f.Calloc ks h = kinds_are ks _ h
accepted f.Realloc ks h = kinds_are ks _ h
accepted f.Free ks h = kinds_are ks _ h
accepted f.Memcpy ks h = kinds_are ks _ h
accepted f.Memmove ks h = kinds_are ks _ h
accepted f.Memset ks h = kinds_are ks _ h
accepted f.Strlen ks h = kinds_are ks _ h
accepted f.Strcpy ks h = kinds_are ks _ h
accepted f.Strncpy ks h = kinds_are ks _ h
accepted f.Strcat ks h = kinds_are ks _ h
accepted f.Strcmp ks h = kinds_are ks _ h
accepted f.Getchar ks h = kinds_are ks _ h
accepted f.Fgets ks h = kinds_are ks _ h
accepted f.Puts ks h = kinds_are ks _ h
accepted f.Exit ks h = kinds_are ks _ h
accepted f.Abort ks h = kinds_are ks _ h
accepted character ks h = kinds_are ks _ h

given : (m : Model) (function : LibFn) (kind : Kind) (a : Scalar) → is_given m function kind a ≡ true → IsGiven m function kind (mark_of a)
given m function Address of.Pointer h = refl
given m function Address (of.Int kind) h = never h
given m function Number (of.Int kind) h = both_true (in_type kind (least_given function)) (in_type kind (greatest_given m function)) h
given m function Number of.Pointer h = never h

library : (u : UnitView) (used : Bool) (t : Ty) (function : LibFn) (args : TermTrees) → calls_library u used t function args ≡ true → CallsLibrary u used t function args
library u used t function args h =
    let value : Bool = is_given u.model function (result_kind function) (scalar_of t) in
    let x = three (accepts function (argument_kinds args)) (not used || gives function) (not (gives function) || value) (accepted function (argument_kinds args)) (implied used (gives function)) (implied (gives function) value) h in
    record { kinds = argument_kinds args; are = marks_of_kinds args; accepts = x.0; given = x.1; result = λ e. given u.model function (result_kind function) (scalar_of t) (x.2 e) }

-- ---- terms

module _ (u : UnitView) where
  mutual
    pub well_typed : (used : Bool) (e : TermTree) → is_well_typed_term u used e ≡ true → WellTypedTerm u used e
    well_typed used (Typed at t parens fixed (tree.Number n)) h = number n t h
    well_typed used (Typed at t parens fixed (tree.SizeofType n is_pointer)) h = number (pos n) t h
    well_typed used (Typed at t parens fixed (tree.Sizeof n operand is_pointer)) h = number (pos n) t h
    well_typed used (Typed at t parens fixed (tree.Load l)) h = three _ _ _ (λ x. placed l x) (scalar_type u (lvalue_type l)) (mark_is (lvalue_type l) t) h
    well_typed used (Typed at t parens fixed (tree.AddressOf l)) h = both _ _ (λ x. placed l x) (address_is t) h
    well_typed used (Typed at t parens fixed (tree.Decay l)) h = both _ _ (λ x. placed l x) (address_is t) h
    well_typed used (Typed at t parens fixed (tree.Convert sort a)) h =
        both _ _ (scalar_type u t) (one_of _ _ (both _ _ (λ x. well_typed true a x) (converted u.model (scalar_of t) (scalar_of (term_type a)))) (both _ _ (address_is t) (zero_is u.model a))) h
    well_typed used (Typed at t parens fixed (tree.Discard a)) h = both _ _ (λ x. well_typed false a x) (is_false used) h
    well_typed used (Typed at t parens fixed (tree.Plus a)) h = both _ _ (λ x. well_typed true a x) (mark_is (term_type a) t) h
    well_typed used (Typed at t parens fixed (tree.Minus a)) h = three _ _ _ (λ x. well_typed true a x) (type_is (term_type a) t) (integer_there u t) h
    well_typed used (Typed at t parens fixed (tree.Complement a)) h = three _ _ _ (λ x. well_typed true a x) (type_is (term_type a) t) (integer_there u t) h
    well_typed used (Typed at t parens fixed (tree.Not a)) h = both _ _ (λ x. well_typed true a x) (truth t) h
    well_typed used (Typed at t parens fixed (tree.Integer sign a b)) h = three _ _ _ (λ x. well_typed true a x) (λ x. well_typed true b x) (combined u (meaning sign) (term_type a) (term_type b) t) h
    well_typed used (Typed at t parens fixed (tree.Shift back size a b)) h = four _ _ _ _ (λ x. well_typed true a x) (λ x. well_typed true b x) (added (term_type a) (term_type b)) (address_is t) h
    well_typed used (Typed at t parens fixed (tree.Difference size a b)) h = five _ _ _ _ _ (λ x. well_typed true a x) (λ x. well_typed true b x) (address_is (term_type a)) (address_is (term_type b)) (subtracted u t) h
    well_typed used (Typed at t parens fixed (tree.Compare sign a b)) h = five _ _ _ _ _ (λ x. well_typed true a x) (λ x. well_typed true b x) (address_is (term_type a)) (address_is (term_type b)) (truth t) h
    well_typed used (Typed at t parens fixed (tree.Logical sign a b)) h = three _ _ _ (λ x. well_typed true a x) (λ x. well_typed true b x) (truth t) h
    well_typed used (Typed at t parens fixed (tree.Conditional c a b)) h = six _ _ _ _ _ _ (λ x. well_typed true c x) (tests u true c) (λ x. well_typed used a x) (λ x. well_typed used b x) (mark_is (term_type a) t) (mark_is (term_type b) t) h
    well_typed used (Typed at t parens fixed (tree.Comma a b)) h = three _ _ _ (λ x. well_typed false a x) (λ x. well_typed used b x) (mark_is (term_type b) t) h
    well_typed used (Typed at t parens fixed (tree.Assign l a)) h = five _ _ _ _ _ (λ x. placed l x) (λ x. well_typed true a x) (scalar_type u (lvalue_type l)) (mark_is (term_type a) (lvalue_type l)) (mark_is (lvalue_type l) t) h
    well_typed used (Typed at t parens fixed (tree.Compound sign kind l a)) h = three _ _ _ (λ x. placed l x) (λ x. well_typed true a x) (compounded u (number_operator (meaning sign)) (integer_type kind) (lvalue_type l) (term_type a) t) h
    well_typed used (Typed at t parens fixed (tree.CompoundShift back size l a)) h = five _ _ _ _ _ (λ x. placed l x) (λ x. well_typed true a x) (integer (term_type a)) (address_is (lvalue_type l)) (address_is t) h
    well_typed used (Typed at t parens fixed (tree.Step sign time kind l)) h = both _ _ (λ x. placed l x) (stepped u (integer_type kind) (lvalue_type l) t) h
    well_typed used (Typed at t parens fixed (tree.StepPointer sign time size l)) h = three _ _ _ (λ x. placed l x) (address_is (lvalue_type l)) (address_is t) h
    well_typed used (Typed at t parens fixed (tree.Struct l)) h = both _ _ (λ x. placed l x) (address_is t) h
    well_typed used (Typed at t parens fixed (tree.Call g args is_used)) h = both _ _ (λ x. all_marked args x) (called u used is_used t g args) h
    well_typed used (Typed at t parens fixed (tree.Library function args allocated)) h = both _ _ (λ x. all_marked args x) (library u used t function args) h

    pub placed : (l : LvalueTree) → is_well_typed_place u l ≡ true → WellTypedPlace u l
    placed (Designates at t parens (tree.Object o)) h = object_there u o h
    placed (Designates at t parens (tree.Literal n)) h = there (slice_get u.literals n) h
    placed (Designates at t parens (tree.Target e)) h = both _ _ (λ x. well_typed true e x) (address_is (term_type e)) h
    placed (Designates at t parens (tree.Member outer offset)) h = placed outer h
    placed (Designates at t parens (tree.Copied target source)) h = both _ _ (λ x. placed target x) (λ x. placed source x) h
    placed (Designates at t parens (tree.Then left right)) h = both _ _ (λ x. well_typed false left x) (λ x. placed right x) h

    all_marked : (args : TermTrees) → are_well_typed_terms u args ≡ true → WellTypedTerms u args
    all_marked tree.End h = tt
    all_marked (tree.More e rest) h = both _ _ (λ x. well_typed true e x) (λ x. all_marked rest x) h

  pub condition : (is_test : Bool) (e : TermTree) → is_well_typed_condition u is_test e ≡ true → WellTypedCondition u is_test e
  condition is_test e h = both (is_well_typed_term u true e) (has_tests u is_test e) (well_typed true e) (tests u is_test e) h
