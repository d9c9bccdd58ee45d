-- Of the program of a unit two edges of one block are labels apart, where its switches have distinct cases.
use Rattle.std.proofs.Common.{◌≡◌, ℕ, zero, suc, ◌==◌, true, List, [], ◌∷◌, slice_get, Option, Some, None, sym, ap, subst}
use Rattle.std.specs.List.{list_all}
use Rattle.std.proofs.lemmas.Bool.{and_parts}
use Rattle.std.proofs.lemmas.Option.{same_Some}
use Rattle.c_layout.specs.CheckedUnits.{FunctionView, UnitView}
use Rattle.unit_exact.specs.CaseLabels.DistinctCases.{is_distinct_function, is_distinct_unit}
use Rattle.lower_templates.specs.Worklist.Pieces.{TemplateView}
use Rattle.lower_objects.specs.declared.counts.function_counts.FunctionCounts.{FunctionCounts}
use Rattle.lower_tables.specs.Counts.Preparations.{IsPrepared}
use Rattle.lower_templates.specs.Views.ProgramViews.{EdgeView}
use Rattle.lower.specs.Inlining.Inlinings.{joined, template_at, whole, resolved_edge, resolved}
use Rattle.unit_exact.specs.CaseEdges.ApartSwitches.{are_apart_pieces}
use Rattle.unit_exact.specs.CaseEdges.ApartEdges.{EdgesAreApart, ProgramsSwitchApart}
use Rattle.unit_exact.proofs.case_edges.ApartTemplates.{template_apart}
use Rattle.unit_exact.proofs.case_edges.NormalizedApart.{normalized_apart}
use Rattle.unit_exact.proofs.case_edges.ApartRuns.{Beside, Pairwise, goes_whole, pairs_at}

function_at : (fs : List FunctionView) (n : ℕ) (f : FunctionView) → list_all is_distinct_function fs ≡ true → slice_get fs n ≡ Some f → is_distinct_function f ≡ true
function_at [] n f all is = absurd (cc)
function_at (g ∷ fs) zero f all is = subst (λ h. is_distinct_function h ≡ true) (same_Some g f is) (and_parts (is_distinct_function g) (list_all is_distinct_function fs) all).0
function_at (g ∷ fs) (suc n) f all is = function_at fs n f (and_parts (is_distinct_function g) (list_all is_distinct_function fs) all).1 is

-- ---- templates

template_there : (o : Option (Option TemplateView)) (t : TemplateView) → joined o ≡ Some t → o ≡ Some (Some t)
template_there None t is = absurd (cc)
template_there (Some r) t is = ap Some is

each_apart : (u : UnitView) (ts : List (Option TemplateView)) (table : List (Option FunctionCounts)) → IsPrepared u ts table → is_distinct_unit u ≡ true → (n : ℕ) (t : TemplateView) → template_at ts n ≡ Some t → are_apart_pieces t.pieces ≡ true
each_apart u ts table prepared apart n t is =
    let x = prepared.are_normalized n t (template_there (slice_get ts n) t is) in
    let plain = template_apart u.structs u.model.pointer u.model.int x.function (n == u.entry) x.template x.is_template.is_template (function_at u.functions n x.function apart x.is_template.stands) in
    subst (λ r. are_apart_pieces r.pieces ≡ true) (sym x.settles) (normalized_apart x.table x.template plain)

-- ---- edges that lead to blocks

beside_resolved : (labels : List ℕ) (e : EdgeView) (es : List EdgeView) → Beside e es → Beside (resolved_edge labels e) (resolved labels es)
beside_resolved labels e [] h = tt
beside_resolved labels e (d ∷ es) h = (h.0, beside_resolved labels e es h.1)

pairs_resolved : (labels : List ℕ) (es : List EdgeView) → Pairwise es → Pairwise (resolved labels es)
pairs_resolved labels [] h = tt
pairs_resolved labels (e ∷ es) h = (beside_resolved labels e es h.0, pairs_resolved labels es h.1)

pub edges_apart : ProgramsSwitchApart
edges_apart u limits f is apart =
    let m = (whole u is.templates is.entry.at).program in
    let g = goes_whole u is.templates (each_apart u is.templates is.is_counted.table is.is_counted.is_prepared apart) is.entry.at in
    subst (λ r. EdgesAreApart r.edges) (sym is.opens) (λ j k d e isd ise same other. pairs_at (resolved m.labels m.edges) j k d e (pairs_resolved m.labels m.edges g.made.pairs) isd ise same other)
