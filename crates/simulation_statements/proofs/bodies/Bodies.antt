-- The body of a function follows in its pieces, between what is entered and what is left.
use Rattle.std.proofs.Common.{◌≡◌, ◌≤◌, ℕ, Bool, true, false, cond, nat_lt, List, [], ◌∷◌, ◌++◌, Some, arith, sym, subst, append_assoc}
use Rattle.c_layout.specs.CheckedTrees.{statement_trees}
use Rattle.c_layout.specs.CheckedUnits.{FunctionView}
use Rattle.lower_template_theorems.specs.PendingLabels.Marks.{all_labels_in, IsLabelled}
use Rattle.lower_templates.specs.Worklist.Acts as act
use Rattle.lower_templates.specs.Worklist.Pieces.{PieceView}
use Rattle.lower_templates.specs.Worklist.Plans.{Plan}
use Rattle.lower_templates.specs.Worklist.Scopes.{function_scopes}
use Rattle.lower_templates.specs.Worklist.Settings.{SettingView}
use Rattle.lower_templates.specs.Worklist.Works.{Job}
use Rattle.lower_functions.specs.Functions.Functions.{outermost}
use Rattle.lower_template_theorems.proofs.growth.GrowingWorks.{grows, jobs_none}
use Rattle.lower_template_theorems.specs.Worklists.Derivations.{Makes}
use Rattle.lower_template_theorems.proofs.worklists.Derivations.{parted}
use Rattle.semantics.specs.SourceMachine.Items as item
use Rattle.semantics.specs.SourceMachine.Items.{Item}
use Rattle.semantics.specs.SourceMachine.SourceStates.{function_at}
use Rattle.semantics.specs.SourceMachine.StatementItems.{statements}
use Rattle.simulation_terms.specs.SimulationRelation.Activations.{Activation}
use Rattle.simulation_terms.specs.SimulationRelation.Simulates.{Simulates}
use Rattle.simulation_terms.specs.Worklists.TemplateParts.{IsOfUnit, IsKnown, Stands, Ends}
use Rattle.simulation_terms.proofs.worklists.Runs.{Runs, stands_behind, joined, split}
use Rattle.simulation_terms.proofs.worklists.Laying.{known_between}
use Rattle.simulation_terms.specs.Scopes.Chains.{AreApart}
use Rattle.simulation_terms.specs.Scopes.SuitedStatements.{not_enclosed, AllSuitIn}
use Rattle.simulation_terms.proofs.scopes.Objects.{object_jobs, objects_are_terms, NamedFrom, enters, leaves}
use Rattle.simulation_terms.proofs.scopes.Positions.{position, numbers}
use Rattle.simulation_terms.proofs.scopes.ScopeTrees.{of_function}
use Rattle.simulation_statements.proofs.labels.FoundLabels.{found_there}
use Rattle.simulation_statements.proofs.switch_tables.NotedChoices.{noted}
use Rattle.simulation_statements.specs.Gotos.Gotos.{HasLabels}
use Rattle.simulation_statements.proofs.statements.Sequences.{statement_jobs}
use Rattle.simulation_statements.proofs.statements.Selections.{count_terms}
use Rattle.simulation_statements.proofs.bodies.CoveredCases.{few_cases}
use Rattle.simulation_statements.proofs.bodies.FunctionLabels.{behind_statements, statements_go}

abbrev pub body_items : FunctionView → List Item → List Item
body_items f items = item.Enters f.scope ∷ ((statements (statement_trees f.body) ++ item.Leaves f.scope ∷ []) ++ items)

abbrev pub body_jobs : SettingView → FunctionView → ℕ → ℕ → List Job
body_jobs s f first second = object_jobs act.Enter s.at f.scope first ++ (statement_jobs (statement_trees f.body) (outermost s.end) ++ object_jobs act.Leave s.at f.scope second)

through : (a b c : ℕ) → a ≤ b → b ≤ c → a ≤ c
through a b c x y = omega (arith, x, y)

at_most_once : (b : Bool) (a : ℕ) → a ≤ cond b 1 0 → a ≤ 1
at_most_once true a le = le
at_most_once false a le = omega (arith, le)

-- the labels of a function whose scopes are those of a setting
pub has_labels : (s : SettingView) (t : Activation) (f : FunctionView) → function_at t.unit t.function ≡ Some f → s.scopes ≡ function_scopes f → AreApart s → AllSuitIn t.unit f not_enclosed (f.scope ++ []) (statement_trees f.body) → IsLabelled f → HasLabels t s f
has_labels s t f is tree apart suits labelled =
    let scopes = of_function s f tree in
    record { is = is; tree = tree; apart = apart; outermost = scopes.outermost; body = scopes.body; once = λ l. at_most_once (nat_lt l f.labels) (all_labels_in l (statement_trees f.body)) (labelled.labels l); found = λ l there. found_there t.unit f not_enclosed (f.scope ++ []) suits l there }

module _ (s : SettingView) (t : Activation) (fits : IsOfUnit t s) (f : FunctionView) (has : HasLabels t s f) (ends : Ends s t f) (suits : AllSuitIn t.unit f not_enclosed (f.scope ++ []) (statement_trees f.body)) (labelled : IsLabelled f) where
  -- behind it the function ends
  pub body_from : (n first second : ℕ) → NamedFrom t first f.scope → NamedFrom t second f.scope → (p : Plan) → p.jobs ≡ [] → position p ≡ numbers 2 0 → f.labels ≤ p.labels → (ps : List PieceView) (r : Plan) → Makes s p (body_jobs s f first second) ps r → IsKnown t r
      → (rest : List PieceView) → Stands t (ps ++ rest) → Simulates t n 0 (item.EndBody ∷ []) rest → Simulates t n 0 (body_items f (item.EndBody ∷ [])) (ps ++ rest)
  body_from n first second named again p none begun few ps r m known rest stands end =
      let trees = statement_trees f.body in
      let js = statement_jobs trees (outermost s.end) in
      let ins = object_jobs act.Enter s.at f.scope first in
      let outs = object_jobs act.Leave s.at f.scope second in
      let y = parted s p ins (js ++ outs) ps r m in
      let z = parted s y.between js outs y.back r y.second in
      let none_in = jobs_none s p ins y.front y.between y.first none in
      let none_out = jobs_none s y.between js z.front z.between z.first none_in in
      let begun_in = count_terms s (numbers 2 0) ins (objects_are_terms act.Enter s.at f.scope first) p none begun y.front y.between y.first in
      let few_in = through f.labels p.labels y.between.labels few (grows s p ins y.front y.between y.first).labels in
      let at_front = split s t n ps y.front y.back rest y.all stands in
      let at_body = split s t n y.back z.front z.back rest z.all (stands_behind t y.front (y.back ++ rest) at_front) in
      let left : Runs s t n outs (item.Leaves f.scope ∷ []) 0 0 = subst (λ at. Runs s t n (object_jobs act.Leave at f.scope second) (item.Leaves f.scope ∷ []) 0 0) (sym fits.place) (leaves s t fits n f.scope second 0 again) in
      let last : Simulates t n 0 (behind_statements f) (z.back ++ rest) = left.from z.between none_out z.back r z.second known (item.EndBody ∷ []) rest (stands_behind t z.front (z.back ++ rest) at_body) end in
      let choices = noted s t.unit f not_enclosed (f.scope ++ []) has.tree suits labelled (few_cases s f (outermost s.end) p none ins outs ps r m known.labels) in
      let inside = joined s t n 0 (statements trees ++ behind_statements f) y.back z.front z.back rest z.all
      (statements_go s t fits f has ends suits y.between none_in begun_in choices few_in z.front z.between z.first (known_between s t z.between outs z.back r z.second known) (z.back ++ rest) at_body n last) in
      let entered : Runs s t n ins (item.Enters f.scope ∷ []) 0 0 = subst (λ at. Runs s t n (object_jobs act.Enter at f.scope first) (item.Enters f.scope ∷ []) 0 0) (sym fits.place) (enters s t fits n f.scope first 0 named) in
      let front = entered.from p none y.front y.between y.first (known_between s t y.between (js ++ outs) y.back r y.second known) (statements trees ++ behind_statements f) (y.back ++ rest) at_front inside in
      subst (λ xs. Simulates t n 0 (item.Enters f.scope ∷ xs) (ps ++ rest)) (sym (append_assoc (statements trees) (item.Leaves f.scope ∷ []) (item.EndBody ∷ [])))
      (joined s t n 0 (item.Enters f.scope ∷ (statements trees ++ behind_statements f)) ps y.front y.back rest y.all front)
