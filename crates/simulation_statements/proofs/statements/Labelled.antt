-- Statements with a label before them.
use Rattle.std.proofs.Common.{◌≡◌, ℕ, List, [], ◌∷◌, refl, subst, ◌∙◌}
use Rattle.c_layout.specs.CheckedTrees.{StatementTree}
use Rattle.lower_templates.specs.Worklist.Pieces.{PieceView, Mark}
use Rattle.lower_templates.specs.Worklist.Plans.{Plan, with_work}
use Rattle.lower_templates.specs.Worklist.Settings.{SettingView}
use Rattle.lower_templates.specs.Worklist.Works as jobs
use Rattle.lower_templates.specs.Worklist.Works.{Job}
use Rattle.lower_templates.specs.declared.worklist.pending_works.Surroundings.{Surroundings}
use Rattle.lower_functions.specs.Statements.Loops.{part}
use Rattle.lower_functions.specs.Functions.Turns.{planless}
use Rattle.lower_template_theorems.specs.Worklists.Derivations.{parts, Makes}
use Rattle.semantics.specs.SourceMachine.Items as item
use Rattle.semantics.specs.SourceMachine.Items.{Item}
use Rattle.simulation_terms.specs.SimulationRelation.Activations.{Activation}
use Rattle.simulation_terms.specs.SimulationRelation.Simulates.{Simulates}
use Rattle.simulation_terms.specs.Worklists.TemplateParts.{IsOfUnit}
use Rattle.simulation_terms.proofs.worklists.Runs.{two_jobs}
use Rattle.simulation_terms.proofs.scopes.Positions.{Position, position}
use Rattle.simulation_terms.proofs.scopes.InScopes.{Goes, plainly, goes_on, gives_way}
use Rattle.simulation_terms.proofs.scopes.Objects.{marks}

abbrev pub labelled_jobs : ℕ → StatementTree → Surroundings → List Job
labelled_jobs l body around = jobs.Ready (Mark l) ∷ (jobs.Statement body around ∷ [])

pub labelled_planned : (l : ℕ) (body : StatementTree) (around : Surroundings) (p : Plan) → p.jobs ≡ [] → (part l body around p).jobs ≡ labelled_jobs l body around
labelled_planned l body around p none = two_jobs (jobs.Ready (Mark l)) (jobs.Statement body around) p none

pub labelled_scopes : (l : ℕ) (body : StatementTree) (around : Surroundings) (p : Plan) → position (part l body around p) ≡ position p
unfolding with_work
labelled_scopes l body around p = refl

module _ (s : SettingView) (t : Activation) (fits : IsOfUnit t s) (n : ℕ) (c last : Position) (K : List Item → Type 0) (body : StatementTree) (around : Surroundings) where
  labelled_goes : (l : ℕ) → Goes s t n c last K (jobs.Statement body around ∷ []) (item.Statement body ∷ []) → Goes s t n c last K (labelled_jobs l body around) (item.Statement body ∷ [])
  labelled_goes l goes =
      goes_on s t n c c last K (λ items. Unit {0}) (jobs.Ready (Mark l) ∷ []) (jobs.Statement body around ∷ []) [] (item.Statement body ∷ []) (λ items k. tt)
      (plainly s t n c (λ items. Unit {0}) (jobs.Ready (Mark l) ∷ []) [] (tt, tt) (marks s t fits n l 0)) goes

  pub of_labelled : (i : StatementTree) (mark : Plan → ℕ) → ((p : Plan) → parts s (jobs.Statement i around) p ≡ part (mark p) body around p) → ((items : List Item) (ps : List PieceView) → Simulates t n 0 (item.Statement body ∷ items) ps → Simulates t n 0 (item.Statement i ∷ items) ps)
      → Goes s t n c last K (jobs.Statement body around ∷ []) (item.Statement body ∷ []) → Goes s t n c last K (jobs.Statement i around ∷ []) (item.Statement i ∷ [])
  of_labelled i mark same gives goes = gives_way s t n c last K (jobs.Statement i around) (item.Statement i) (item.Statement body ∷ []) refl gives
      (λ p none begun ps r m known items rest stands k f.
      let all = part (mark p) body around p in
      (labelled_goes (mark p) goes).from (planless all) refl (labelled_scopes (mark p) body around p ∙ begun) ps r (subst (λ ks. Makes s (planless all) ks ps r) (labelled_planned (mark p) body around p none) (subst (λ q. Makes s (planless q) q.jobs ps r) (same p) m)) known items rest stands k f)
      (λ p none begun ps r m.
      let all = part (mark p) body around p in
      (labelled_goes (mark p) goes).ends (planless all) refl (labelled_scopes (mark p) body around p ∙ begun) ps r (subst (λ ks. Makes s (planless all) ks ps r) (labelled_planned (mark p) body around p none) (subst (λ q. Makes s (planless q) q.jobs ps r) (same p) m)))
