-- The labels of a function lead to what is left to do from them, for any number of turns: for one turn more, where they do
-- for fewer.
use Rattle.std.proofs.Common.{◌≡◌, ◌≤◌, ◌<◌, ℕ, zero, suc, false, true, List, [], ◌∷◌, ◌++◌, Some, arith, sym, subst, ◌∙◌}
use Rattle.c_layout.specs.CheckedTrees.{statement_trees}
use Rattle.c_layout.specs.CheckedUnits.{FunctionView}
use Rattle.lower_templates.specs.Worklist.Pieces.{PieceView}
use Rattle.lower_templates.specs.Worklist.Plans.{Plan}
use Rattle.lower_templates.specs.Worklist.Settings.{SettingView}
use Rattle.lower_functions.specs.Functions.Functions.{outermost}
use Rattle.lower_template_theorems.specs.Worklists.Derivations.{Makes}
use Rattle.semantics.specs.SourceMachine.Items as item
use Rattle.semantics.specs.SourceMachine.Items.{Item}
use Rattle.semantics.specs.SourceMachine.LabelSearch.{label, from_label}
use Rattle.semantics.specs.SourceMachine.StatementItems.{statements}
use Rattle.simulation_terms.specs.SimulationRelation.Activations.{Activation}
use Rattle.simulation_terms.specs.SimulationRelation.Simulates.{Simulates}
use Rattle.simulation_terms.proofs.simulation_relation.FewerTurns.{less}
use Rattle.simulation_terms.specs.Worklists.TemplateParts.{IsOfUnit, IsKnown, Stands, Ends}
use Rattle.simulation_terms.specs.Scopes.Chains as chains
use Rattle.simulation_terms.specs.Scopes.Contexts.{LabelsReach, LabelsReachBefore, Within}
use Rattle.simulation_terms.specs.Scopes.SuitedStatements.{not_enclosed, AllSuitIn}
use Rattle.simulation_terms.proofs.scopes.FunctionBodies.{same_found}
use Rattle.simulation_terms.proofs.scopes.Positions.{position, numbers}
use Rattle.simulation_statements.specs.SwitchLabels.Choices.{AllHaveChoices}
use Rattle.simulation_statements.specs.Gotos.Gotos.{HasLabels}
use Rattle.simulation_statements.proofs.statements.Sequences.{statement_jobs}
use Rattle.simulation_statements.specs.Dispatches.LabelMarks.{of_label}
use Rattle.simulation_statements.proofs.bodies.Statements.{all_about, all_finds}

-- what is left to do behind the statements of a function
abbrev pub behind_statements : FunctionView → List Item
behind_statements f = item.Leaves f.scope ∷ (item.EndBody ∷ [])

more_labels : (a b n : ℕ) → a ≤ b → n < a → n < b
more_labels a b n le less = omega (arith, le, less)

same_function : (f g : FunctionView) → Some f ≡ Some g → f ≡ g
same_function f g e = cc

never : false ≡ true → ⊥
never never_so = cc

module _ (s : SettingView) (t : Activation) (fits : IsOfUnit t s) (f : FunctionView) (has : HasLabels t s f) (ends : Ends s t f) (suits : AllSuitIn t.unit f not_enclosed (f.scope ++ []) (statement_trees f.body))
    (q : Plan) (none : q.jobs ≡ []) (begun : position q ≡ numbers 2 0) (choices : AllHaveChoices s (statement_trees f.body) 1 2 0) (few : f.labels ≤ q.labels) (ps : List PieceView) (r : Plan) (made : Makes s q (statement_jobs (statement_trees f.body) (outermost s.end)) ps r) (known : IsKnown t r)
    (rest : List PieceView) (stands : Stands t (ps ++ rest)) where
  -- no loop is around the statements of a function
  body_within : (n : ℕ) → LabelsReachBefore t n → Within s t n (outermost s.end) not_enclosed (f.scope ++ []) (behind_statements f)
  body_within n before = record { within = λ x there. there; chain = chains.inside 1 0 f.scope [] has.outermost chains.outermost; labels = before; on_break = λ no. absurd (never no); on_continue = λ no. absurd (never no) }

  labels_reach : (n : ℕ) → LabelsReachBefore t n → Simulates t n 0 (behind_statements f) rest → LabelsReach t n
  labels_reach n before last g is l to there from =
      let same = same_function g f (sym is ∙ has.is) in
      let is_to = same_found t.unit (label l) f.body (behind_statements f) ∙ subst (λ h. from_label t.unit h l ≡ Some to) same from in
      (all_finds s t fits f has ends (statement_trees f.body) n (outermost s.end) not_enclosed (f.scope ++ []) (numbers 2 0) suits (has.body, choices)).from
      q none begun ps r made known (behind_statements f) rest stands (body_within n before) last (label l) l (of_label l (more_labels f.labels q.labels l few (subst (λ h. l < h.labels) same there))) to is_to

  pub labels_before : (n : ℕ) → Simulates t n 0 (behind_statements f) rest → LabelsReachBefore t n
  labels_before zero last = tt
  labels_before (suc n) last = let fewer = less n 0 (behind_statements f) rest last in labels_reach n (labels_before n fewer) fewer

  -- so the statements of the function follow
  pub statements_go : (n : ℕ) → Simulates t n 0 (behind_statements f) rest → Simulates t n 0 (statements (statement_trees f.body) ++ behind_statements f) (ps ++ rest)
  statements_go n last = (all_about s t fits f has ends (statement_trees f.body) n (outermost s.end) not_enclosed (f.scope ++ []) (numbers 2 0) suits (has.body, choices)).from q none begun ps r made known (behind_statements f) rest stands (body_within n (labels_before n last)) last
