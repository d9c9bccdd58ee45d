-- The jump of a `goto`, by the scope that is noted for its label.
use Rattle.std.proofs.Common.{◌≡◌, ◌<◌, ℕ, suc, List, [], ◌∷◌, ◌++◌, Option, Some, None, get_or, refl, ap, sym, subst, ◌∙◌}
use Rattle.c_layout.specs.CheckedTrees as tree
use Rattle.c_layout.specs.CheckedTrees.{statement_trees}
use Rattle.c_layout.specs.CheckedUnits.{FunctionView}
use Rattle.lower_templates.specs.Worklist.Pieces.{PieceView}
use Rattle.lower_templates.specs.Worklist.Plans.{Plan}
use Rattle.lower_templates.specs.Worklist.Scopes.{TreeView}
use Rattle.lower_templates.specs.Worklist.Settings.{SettingView}
use Rattle.lower_templates.specs.Worklist.Works as jobs
use Rattle.lower_templates.specs.declared.worklist.pending_works.Landing.{Landing}
use Rattle.lower_templates.specs.declared.worklist.pending_works.Surroundings.{Surroundings}
use Rattle.lower_functions.specs.Statements.Jumps.{label_scope}
use Rattle.lower_template_theorems.specs.Worklists.Derivations.{Makes}
use Rattle.semantics.specs.SourceMachine.Items as item
use Rattle.semantics.specs.SourceMachine.Items.{Item}
use Rattle.semantics.specs.SourceMachine.LabelSearch.{label, from_label}
use Rattle.semantics.specs.SourceMachine.Scopes.{open_scopes}
use Rattle.simulation_terms.specs.SimulationRelation.Activations.{Activation}
use Rattle.simulation_terms.specs.SimulationRelation.Simulates as simulates
use Rattle.simulation_terms.specs.SimulationRelation.Simulates.{Leads, Simulates}
use Rattle.simulation_terms.specs.Worklists.TemplateParts.{IsOfUnit, IsKnown, Stands}
use Rattle.simulation_terms.proofs.worklists.Runs.{opened}
use Rattle.simulation_terms.specs.Scopes.Chains.{Chain}
use Rattle.simulation_statements.specs.JumpSimulation.Leaps.{Lies}
use Rattle.simulation_statements.proofs.jump_simulation.Leaps.{leaps}
use Rattle.simulation_statements.specs.Labels.LabelScopes.{all_stand_in, IsFound, missing, there}
use Rattle.simulation_statements.proofs.labels.LabelScopes.{of_function}
use Rattle.simulation_statements.proofs.labels.NotedScopes.{in_function}
use Rattle.simulation_statements.specs.Gotos.Gotos.{HasLabels}

-- the scope of a label that is found
record HasScope (s : SettingView) (noted : Option ℕ) (to : List Item) : Type 0 where
  number : ℕ
  is : noted ≡ Some number
  chain : Chain s number (open_scopes to)

scope_of : (s : SettingView) (found : Option (List Item)) (noted : Option ℕ) (to : List Item) → IsFound s found noted → found ≡ Some to → HasScope s noted to
scope_of s _ _ to missing e = absurd (no e)
  where
    no : None ≡ Some to → ⊥
    no e = cc
scope_of s _ _ to (there other number chain) e = record { number = number; is = refl; chain = subst (λ xs. Chain s number (open_scopes xs)) (same e) chain }
  where
    same : Some other ≡ Some to → other ≡ to
    same e = cc

module _ (t : Activation) (s : SettingView) (fits : IsOfUnit t s) (f : FunctionView) (has : HasLabels t s f) where
  -- what is left to do from a label on lies behind it, in the scope that is noted
  lies : (n l other : ℕ) (to : List Item) (w : List PieceView) → l < f.labels → from_label t.unit f l ≡ Some to → Leads t l w → Simulates t n 0 to w → Lies s t n (record { label = l; scope = label_scope s l other }) to
  lies n l other to w less is leads go =
      let x = scope_of s (from_label t.unit f l) (all_stand_in (label l) (statement_trees f.body) 1 2) to (of_function t s f has.outermost has.body l) is in
      let noted : label_scope s l other ≡ x.number = ap (λ (u : TreeView). get_or u.labels l other) has.tree ∙ in_function f l x.number other less (has.once l) x.is in
      record { scopes = subst (λ k. Chain s k (open_scopes to)) (sym noted) x.chain; there = w; leads = leads; simulates = go }

  pub simulates_goto : (n l : ℕ) (around : Surroundings) (items to : List Item) (w : List PieceView) → Chain s around.scope (open_scopes items) → l < f.labels → from_label t.unit f l ≡ Some to → Leads t l w → Simulates t n 0 to w
      → (p : Plan) → p.jobs ≡ [] → (ps : List PieceView) (r : Plan) → Makes s p (jobs.Statement (tree.Goto l) around ∷ []) ps r → IsKnown t r → (rest : List PieceView) → Stands t (ps ++ rest) → Simulates t (suc (suc n)) 0 (item.Statement (tree.Goto l) ∷ items) (ps ++ rest)
  simulates_goto n l around items to w chain less is leads go p none ps r m known rest stands =
      let landing : Landing = record { label = l; scope = label_scope s l around.scope } in
      let jumps = leaps s t fits has.apart n around.scope landing items to chain (lies n l around.scope to w less is leads go) p none ps r (opened s p (jobs.Statement (tree.Goto l) around) ps r refl m) known rest stands in
      simulates.statement (suc n) 0 (tree.Goto l) items (ps ++ rest) (simulates.go_to n 0 l f items to (ps ++ rest) has.is is jumps)
