-- The case labels of each switch of a checked unit are distinct.
use Rattle.std.proofs.Common.{◌≡◌, ℕ, Bool, true, false, List, [], ◌∷◌, ◌++◌, Ok, Err, refl, subst}
use Rattle.std.specs.Prelude.{cond, is_some}
use Rattle.std.specs.List.{list_all}
use Rattle.std.proofs.lemmas.Bool.{and_parts, and_from}
use Rattle.cc_base.specs.declared.diagnostics.Place.{Place}
use Rattle.c_layout.specs.CheckedUnits.{FunctionView}
use Rattle.c_layout.specs.DeclarationTrees as syntax
use Rattle.c_layout.specs.DeclarationTrees.{SpecTree, FunctionDeclaratorView, StatementTrees, ExternalTree, Declared, Defined, spec_trees, statement_trees}
use Rattle.c_types_scopes.specs.Answers.{after}
use Rattle.c_types_scopes.specs.Names.{number_in}
use Rattle.c_types_scopes.specs.Refusals.{Ruled, type_fault}
use Rattle.c_types_scopes.specs.States.{State, first_state}
use Rattle.c_types_declarations.specs.FunctionHeads.{HeadView}
use Rattle.c_types_declarations.specs.Specifiers.{SpecifiedView}
use Rattle.c_types_declarations.specs.SpecifierTrees.{specifiers}
use Rattle.c_types_statement_rules.specs.Objects.LocalObjects.{PartsView}
use Rattle.c_types_statement_rules.specs.Objects.UnitObjects.{finished_objects}
use Rattle.c_types_statement_rules.specs.StatementRules.BodyFlow.{FlowView, no_flow, with_label, with_new_label, label_of}
use Rattle.c_types_statement_rules.specs.StatementRules.Points.{Point, point}
use Rattle.c_types_statement_rules.specs.StatementRules.StatementNodes.{no_parts}
use Rattle.c_types_statements.specs.LabelNumbers.{labelled, with_labels, with_all_labels}
use Rattle.c_types_statements.specs.LocalDeclarations.{local_declaration}
use Rattle.c_types_statements.specs.Statements.{items}
use Rattle.c_types.specs.FileScope.ExternalDeclarations.{external_declaration, is_typedef}
use Rattle.c_types.specs.Units.FunctionDefinitions as functions
use Rattle.c_types.specs.Units.Streams.{with_stream}
use Rattle.c_types.specs.Units.UnitChecks as checks
use Rattle.c_types.specs.Units.UnitDefinitions.{with_externals}
use Rattle.c_types.specs.Units.UnitEntries.{judged}
use Rattle.c_types_theorems.proofs.entries.Entries.{same_value}
use Rattle.unit_exact.specs.CaseLabels.DistinctCases.{is_distinct_function, is_distinct_unit}
use Rattle.unit_exact.specs.CaseLabels.DistinctChecks.{CheckedCasesAreDistinct}
use Rattle.unit_exact.proofs.case_labels.OpenSwitches.{AreApart}
use Rattle.unit_exact.proofs.case_labels.Declared.{HasParts, Gives, behind, then}
use Rattle.unit_exact.proofs.case_labels.Stated.{Comes, items_stated}

-- ---- labels of the body open no switch

new_label : (f : FlowView) (name : ℕ) → AreApart f.switches → AreApart (with_label f name).switches
new_label f name h = by_label (is_some (label_of f name))
  where
    by_label : (b : Bool) → AreApart (cond b f (with_new_label f name)).switches
    by_label true = h
    by_label false = h

mutual
  labels_keep : (t : syntax.StatementTree) (p : Point) → AreApart p.flow.switches → AreApart (with_labels t p).flow.switches
  labels_keep (syntax.Declaration l) p h = h
  labels_keep (syntax.Label n t) p h = labels_keep t (labelled n p) (new_label p.flow (number_in p.state.scopes.names n.text) h)
  labels_keep (syntax.Case at e t) p h = labels_keep t p h
  labels_keep (syntax.Default at t) p h = labels_keep t p h
  labels_keep (syntax.Block at ts) p h = all_labels_keep ts p h
  labels_keep (syntax.Expression at e) p h = h
  labels_keep (syntax.If at c t) p h = labels_keep t p h
  labels_keep (syntax.IfElse at c t u) p h = labels_keep u (with_labels t p) (labels_keep t p h)
  labels_keep (syntax.Switch at e t) p h = labels_keep t p h
  labels_keep (syntax.While at c t) p h = labels_keep t p h
  labels_keep (syntax.Do at t c) p h = labels_keep t p h
  labels_keep (syntax.For at f c step t) p h = labels_keep t p h
  labels_keep (syntax.Goto at n) p h = h
  labels_keep (syntax.Continue at) p h = h
  labels_keep (syntax.Break at) p h = h
  labels_keep (syntax.Return at e) p h = h

  all_labels_keep : (ts : StatementTrees) (p : Point) → AreApart p.flow.switches → AreApart (with_all_labels ts p).flow.switches
  all_labels_keep syntax.NoStatement p h = h
  all_labels_keep (syntax.MoreStatements t ts) p h = all_labels_keep ts (with_labels t p) (labels_keep t p h)

-- ---- functions

abbrev IsDistinct : FunctionView → Type 0
IsDistinct f = is_distinct_function f ≡ true

abbrev HasBody : PartsView × ℕ → Type 0
HasBody b = HasParts b.0

body_has : (h : HeadView) (ts : StatementTrees) (s : State) → Gives HasBody (functions.body_parts h ts s)
body_has h ts s = counted (items local_declaration before no_parts ts) (items_stated before no_parts ts (all_labels_keep ts (point s (no_flow h.declared.ctype)) tt) refl)
  where
    before : Point
    before = functions.before_body h ts s

    counted : (r : Ruled (PartsView × Point)) → Comes HasParts r → Gives HasBody (functions.counted r)
    counted (Ok p) g = g.1
    counted (Err f) g = tt

function_defines : (s : State) (at : Place) (words : List SpecTree) (f : FunctionDeclaratorView) (body : List syntax.StatementTree) → Gives IsDistinct (functions.function_definition s at words f body)
function_defines s at words f body = behind IsDistinct (specifiers s at false (spec_trees words)) (functions.defined_by f ts) (λ base t. by_typedef base t (is_typedef base.storage))
  where
    ts : StatementTrees
    ts = statement_trees body

    of_head : (h : HeadView) (t : State) → Gives IsDistinct (functions.with_body f.name ts h t)
    of_head h t = then HasBody IsDistinct (functions.body_parts h ts t) (functions.function_of_parts f.name h) (body_has h ts t) (λ b u g. g)

    by_typedef : (base : SpecifiedView) (t : State) (b : Bool) → Gives IsDistinct (cond b (type_fault f.name.at) (functions.defined f ts base t))
    by_typedef base t true = tt
    by_typedef base t false =
        then IsDistinct IsDistinct (after (functions.defined_head t base f) (functions.with_body f.name ts)) functions.ended
        (behind IsDistinct (functions.defined_head t base f) (functions.with_body f.name ts) of_head)
        (λ g u h. h)

-- ---- units

abbrev AreDistinct : List FunctionView → Type 0
AreDistinct fs = list_all is_distinct_function fs ≡ true

all_with : (fs : List FunctionView) (f : FunctionView) → AreDistinct fs → IsDistinct f → AreDistinct (fs ++ f ∷ [])
all_with [] f all one = and_from (is_distinct_function f) true one refl
all_with (g ∷ fs) f all one =
    let p = and_parts (is_distinct_function g) (list_all is_distinct_function fs) all in
    and_from (is_distinct_function g) (list_all is_distinct_function (fs ++ f ∷ [])) p.0 (all_with fs f p.1 one)

external_gives : (s : State) (made : List FunctionView) (e : ExternalTree) → AreDistinct made → Gives AreDistinct (checks.external s made e)
external_gives s made (Declared at words ds) all = behind AreDistinct (external_declaration s at words ds) (checks.functions_kept made) (λ u t. all)
external_gives s made (Defined at words f body) all = then IsDistinct AreDistinct (functions.function_definition s at words f body) (checks.with_function made) (function_defines s at words f body) (λ g t one. all_with made g all one)

externals_give : (es : List ExternalTree) (s : State) (made : List FunctionView) → AreDistinct made → Gives AreDistinct (checks.externals s made es)
externals_give [] s made all = all
externals_give (e ∷ es) s made all = then AreDistinct AreDistinct (checks.external s made e) (λ more t. checks.externals t more es) (external_gives s made e all) (λ more t h. externals_give es t more h)

unit_gives : (s : State) (es : List ExternalTree) → Gives AreDistinct (checks.typed_unit s es)
unit_gives s es =
    then AreDistinct AreDistinct (checks.externals (with_externals es (with_stream s)) [] es) checks.finished (externals_give es (with_externals es (with_stream s)) [] refl)
    (λ made t all. behind AreDistinct (finished_objects t) (checks.functions_kept made) (λ u v. all))

pub cases_are_distinct : CheckedCasesAreDistinct
cases_are_distinct m name es u is = of_unit (checks.typed_unit (first_state m) es) (unit_gives (first_state m) es) is
  where
    of_entry : (fs : List FunctionView) (s : State) (r : Ruled ℕ) → AreDistinct fs → checks.entered m fs s r ≡ Ok u → is_distinct_unit u ≡ true
    of_entry fs s (Ok entry) all e = subst (λ v. is_distinct_unit v ≡ true) (same_value (checks.unit_of m fs s entry) u e) all
    of_entry fs s (Err f) all e = absurd (cc)

    of_unit : (r : Ruled (List FunctionView × State)) → Gives AreDistinct r → checks.judged_unit m name r ≡ Ok u → is_distinct_unit u ≡ true
    of_unit (Ok p) all h = of_entry p.0 p.1 (judged p.0 name p.1.calls) all h
    of_unit (Err f) all h = absurd (cc)
