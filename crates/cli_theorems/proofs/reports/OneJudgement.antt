-- A unit has one judgement.
use Rattle.std.specs.Prelude.{◌≡◌, ℕ, ℤ, List, ◌++◌, length, Contains, Option, Some, None}
use Rattle.std.proofs.Common.{sym, ap, ap₂, subst, ◌∙◌}
use Rattle.cc_base.specs.DiagnosticOrder.{IsOrderedSet}
use Rattle.cc_base.specs.declared.diagnostics.Diag.{Diag}
use Rattle.c_layout.specs.CheckedUnits.{unit_view}
use Rattle.c_layout.specs.declared.unit_tokens.Unit7.{Unit7}
use Rattle.c_layout.specs.declared.checked_tree.checked_units.Checked.{Checked}
use Rattle.syntactic_rules.specs.StatementPlaces.{unit_places}
use Rattle.analysis_determined.proofs.syntactic_pairs.SameUnits.{same_places}
use Rattle.cfg.specs.declared.programs.Flow.{Flow}
use Rattle.lower_templates.specs.Views.ProgramViews.{FlowView, flow_view}
use Rattle.analysis_determined.proofs.program_views.SameNumbers.{one_list_of_views}
use Rattle.loop_unrolling.specs.Turns.{split}
use Rattle.analysis_determined.specs.Analyses.{IsAnalysis}
use Rattle.analysis_determined.proofs.least_maps.OrderedSets as ordered
use Rattle.analysis_determined.proofs.analysis_views.OneAnalysis.{one_analysis}
use Rattle.cli_units.specs.Judging.{SettingView, IsUnrolled, IsFound, Judgement, cells_from, IsJudged}
use Rattle.cli_theorems.proofs.units.OneParse.{one_checked, one_flow}

-- ordered sets of the same pairs are the same
pub one_set : (pairs others xs ys : List Diag) → pairs ≡ others → IsOrderedSet pairs xs → IsOrderedSet others ys → xs ≡ ys
one_set pairs others xs ys same p q =
    ordered.one_list xs ys p.ascending q.ascending
    (λ d e. q.kept d (subst (λ (ds : List Diag). Contains ds d) same (p.made d e)))
    (λ d e. p.kept d (subst (λ (ds : List Diag). Contains ds d) (sym same) (q.made d e)))

-- programs that look alike look alike with turns unrolled
turned_same : (turns : Option ℕ) (f g x y : Flow) → flow_view f ≡ flow_view g → IsUnrolled turns f x → IsUnrolled turns g y → flow_view x ≡ flow_view y
turned_same None f g x y h p q = ap flow_view p ∙ (h ∙ sym (ap flow_view q))
turned_same (Some turns) f g x y h p q = p ∙ (ap (split turns) h ∙ sym q)

found_same : (c d : Checked) (f g x y : Flow) (pairs others : List Diag) → unit_view c ≡ unit_view d → flow_view f ≡ flow_view g → flow_view x ≡ flow_view y → IsFound c f x pairs → IsFound d g y others → pairs ≡ others
found_same c d f g x y pairs others unit program turned p q =
    let list : p.list ≡ q.list = one_list_of_views f g program p.list q.list p.thresholds q.thresholds p.ascending q.ascending in
    let runs : p.runs ≡ q.runs = one_analysis x y turned p.list p.runs q.runs p.by_runs (subst (λ (l : List ℤ). IsAnalysis y l q.runs) (sym list) q.by_runs) in
    let texts : p.texts ≡ q.texts = one_set (unit_places c) (unit_places d) p.texts q.texts (same_places c d unit) p.by_texts q.by_texts in
    p.both ∙ (ap₂ (λ (a b : List Diag). a ++ b) texts runs ∙ sym q.both)

pub one_judgement : (unit : Unit7) (s : SettingView) (j k : Judgement) → IsJudged unit s j → IsJudged unit s k → j ≡ k
one_judgement unit s j k a b =
    let checked : unit_view a.checked ≡ unit_view b.checked = one_checked unit s a.tree b.tree a.checked b.checked a.parsed b.parsed a.typed b.typed in
    let program : flow_view a.flow ≡ flow_view b.flow = one_flow a.checked b.checked a.flow b.flow checked a.lowered b.lowered in
    let turned : flow_view a.analysed ≡ flow_view b.analysed = turned_same s.turns a.flow b.flow a.analysed b.analysed program a.turned b.turned in
    let pairs : j.pairs ≡ k.pairs = found_same a.checked b.checked a.flow b.flow a.analysed b.analysed j.pairs k.pairs checked program turned a.found b.found in
    let bases : j.bases ≡ k.bases = a.bases ∙ (ap (λ (v : FlowView). length v.bases) program ∙ sym b.bases) in
    let cells : j.cells ≡ k.cells = a.cells ∙ (ap (λ (v : FlowView). cells_from 0 v.bases) program ∙ sym b.cells) in
    λ i. record { pairs = pairs i; bases = bases i; cells = cells i }
