-- Of each program that a checked unit is lowered to the labels of each switch are apart.
use Rattle.std.proofs.Common.{◌≡◌, ℕ, ℤ, true, ◌||◌, List, [], ◌∷◌, Vec, Some, slice_get, option_map, refl, sym, ap, subst, ◌∙◌}
use Rattle.std.specs.Global.{Global}
use Rattle.std.specs.List.{list_any}
use Rattle.std.specs.Ordering.{int_eq}
use Rattle.std.proofs.lemmas.Bool.{both_ways, not-true}
use Rattle.std.proofs.lemmas.Bool.Decides.{Decides-int_eq}
use Rattle.std.proofs.lemmas.Option.{same_Some, slice_get-map}
use Rattle.cfg.specs.declared.flow_edges.CaseTest.{CaseTest}
use Rattle.cfg.specs.declared.flow_edges.Edge.{Edge}
use Rattle.cfg.specs.declared.flow_edges.EdgeKind.TheVariants as kind
use Rattle.cfg.specs.declared.programs.Flow.{Flow}
use Rattle.lower_templates.specs.Worklist.Pieces.{way}
use Rattle.lower_templates.specs.Views.ProgramViews.{edge, flow_view}
use Rattle.transfer_edges.specs.Edges.{has_label}
use Rattle.unit_exact.specs.CaseLabels.DistinctChecks.{CheckedCasesAreDistinct}
use Rattle.unit_exact.proofs.case_labels.DistinctValues.{same_back}
use Rattle.unit_exact.specs.CaseEdges.ApartSwitches.{Label, CaseOf, AllBut, label, is_beside}
use Rattle.unit_exact.specs.CaseEdges.ApartEdges.{EdgesAreApart, ProgramsSwitchApart}
use Rattle.run_exact.specs.Runs.SingleRuns.{SwitchesAreApart}
use Rattle.unit_exact.specs.Switches.UnitSwitches.{UnitSwitchesAreApart}

labels_same : (ns : List ℤ) (n : ℤ) → has_label ns n ≡ list_any (int_eq n) ns
labels_same [] n = refl
labels_same (m ∷ ns) n = ap (λ b. b || has_label ns n) (same_back m n) ∙ ap (λ b. int_eq n m || b) (labels_same ns n)

module _ (program : Flow) (apart : EdgesAreApart (flow_view program).edges) where
  there : (k : ℕ) (e : Edge) → slice_get program.edges.items k ≡ Some e → slice_get (flow_view program).edges k ≡ Some (edge e)
  there k e is = slice_get-map edge program.edges.items k ∙ ap (option_map edge) is

  -- the labels of two edges of one block
  beside : (j k : ℕ) (d e : Edge) (x y : Label) → slice_get program.edges.items j ≡ Some d → slice_get program.edges.items k ≡ Some e → d.from ≡ e.from → (k ≡ j → ⊥) → label (way d.kind) ≡ x → label (way e.kind) ≡ y → is_beside x y ≡ true
  beside j k d e x y isd ise same other isx isy = subst (λ z. is_beside x z ≡ true) isy (subst (λ z. is_beside z (label (way e.kind)) ≡ true) isx (apart j k (edge d) (edge e) (there j d isd) (there k e ise) same other))

  -- a case is not the way for other values
  another : (j k : ℕ) (d e : Edge) (a : CaseTest) (values : Vec ℤ Global) → slice_get program.edges.items j ≡ Some d → slice_get program.edges.items k ≡ Some e → d.kind ≡ kind.Case a → e.kind ≡ kind.Other values → k ≡ j → ⊥
  another j k d e a values isd ise one two is =
      let i : d ≡ e = same_Some d e (sym isd ∙ (ap (slice_get program.edges.items) (sym is) ∙ ise)) in
      let b : kind.Case a ≡ kind.Other values = sym one ∙ (ap (λ x. x.kind) i ∙ two) in
      cc

  of_program : SwitchesAreApart program
  of_program = record {
    cases = λ j k d e a b isd ise same other one two is.
        let h = beside j k d e (CaseOf a.value) (CaseOf b.value) isd ise same other (ap (λ x. label (way x)) one) (ap (λ x. label (way x)) two) in
        both_ways (int_eq a.value b.value) (not-true (int_eq a.value b.value) h) ((Decides-int_eq a.value b.value).1 is);
    others = λ j k d e a values isd ise same one two.
        let h = beside j k d e (CaseOf a.value) (AllBut values.items) isd ise same (another j k d e a values isd ise one two) (ap (λ x. label (way x)) one) (ap (λ x. label (way x)) two) in
        labels_same values.items a.value ∙ h;
  }

pub switches_apart : CheckedCasesAreDistinct → ProgramsSwitchApart → UnitSwitchesAreApart
switches_apart distinct programs u limits program o = of_program program (programs u limits (flow_view program) o.is (distinct o.model o.name o.tree u o.checked))
