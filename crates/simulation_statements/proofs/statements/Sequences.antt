-- Statements one after the other, and blocks.
use Rattle.std.proofs.Common.{◌≡◌, ℕ, List, [], ◌∷◌, ◌++◌, refl, sym, subst, ◌∙◌, append_assoc}
use Rattle.std.proofs.lemmas.List.{append-nil}
use Rattle.c_layout.specs.CheckedTrees as tree
use Rattle.c_layout.specs.CheckedTrees.{StatementTree, StatementTrees}
use Rattle.c_layout.specs.CheckedUnits.{FunctionView}
use Rattle.lower_templates.specs.Worklist.Acts as act
use Rattle.lower_templates.specs.Worklist.Plans.{Plan, with_work}
use Rattle.lower_templates.specs.Worklist.Settings.{SettingView}
use Rattle.lower_templates.specs.Worklist.Works as jobs
use Rattle.lower_templates.specs.Worklist.Works.{Job}
use Rattle.lower_templates.specs.declared.worklist.pending_works.Surroundings.{Surroundings}
use Rattle.lower_functions.specs.Statements.PlainStatements.{all_statements}
use Rattle.semantics.specs.SourceMachine.Items as item
use Rattle.semantics.specs.SourceMachine.Items.{Item}
use Rattle.semantics.specs.SourceMachine.Scopes.{open_scopes, past_loop, past_iteration}
use Rattle.semantics.specs.SourceMachine.StatementItems.{statements}
use Rattle.simulation_terms.specs.SimulationRelation.Activations.{Activation}
use Rattle.simulation_terms.specs.SimulationRelation.Simulates.{own}
use Rattle.simulation_terms.specs.Worklists.TemplateParts.{IsOfUnit}
use Rattle.simulation_terms.proofs.worklists.Assignments.{nothing_done}
use Rattle.simulation_terms.specs.Scopes.Scopes.{HasScopes, AllHaveScopes}
use Rattle.simulation_statements.specs.SwitchLabels.Choices.{HasChoices, AllHaveChoices}
use Rattle.simulation_terms.specs.Scopes.SuitedStatements.{Enclosure, SuitsIn, AllSuitIn}
use Rattle.simulation_terms.specs.Scopes.Contexts.{Context, Within}
use Rattle.simulation_terms.proofs.scopes.Positions.{Position, position, past, past_all, none_past, past_both}
use Rattle.simulation_terms.proofs.scopes.InScopes.{Goes, plainly, goes_on}
use Rattle.simulation_terms.proofs.scopes.QuietItems.{IsQuiet, statements_quiet}
use Rattle.simulation_terms.proofs.scopes.Objects.{object_jobs, objects_are_terms, NamedFrom, enters, leaves}

-- ---- works

abbrev pub statement_jobs : StatementTrees → Surroundings → List Job
statement_jobs tree.NoMore around = []
statement_jobs (tree.And first rest) around = jobs.Statement first around ∷ statement_jobs rest around

pub record Listed (items : StatementTrees) (around : Surroundings) (p q : Plan) : Type 0 where
  pub jobs : q.jobs ≡ p.jobs ++ statement_jobs items around
  pub names : q.names ≡ p.names
  pub scopes : position q ≡ position p

pub listed : (items : StatementTrees) (around : Surroundings) (p : Plan) → Listed items around p (all_statements items around p)
unfolding with_work
listed tree.NoMore around p = record { jobs = sym (append-nil p.jobs); names = refl; scopes = refl }
listed (tree.And first rest) around p =
    let later = listed rest around (with_work (jobs.Statement first around) p) in
    record { jobs = later.jobs ∙ append_assoc p.jobs (jobs.Statement first around ∷ []) (statement_jobs rest around); names = later.names; scopes = later.scopes }

-- ---- items before which nothing changes

pub quiet_within : (s : SettingView) (t : Activation) (n : ℕ) (around : Surroundings) (looping : Enclosure) (known : List ℕ) (xs items : List Item) → IsQuiet xs → Within s t n around looping known items → Within s t n around looping known (xs ++ items)
quiet_within s t n around looping known xs items quiet k =
    subst (λ ys. Context s t n around looping known ys (past_loop (xs ++ items)) (past_iteration (xs ++ items))) (sym (quiet.scopes items))
    (subst (λ ys. Context s t n around looping known (open_scopes items) ys (past_iteration (xs ++ items))) (sym (quiet.after_loop items))
    (subst (λ ys. Context s t n around looping known (open_scopes items) (past_loop items) ys) (sym (quiet.after_turn items)) k))

-- the scopes and the switches of a statement stand in the tree
abbrev pub HasParts : SettingView → StatementTree → ℕ → Position → Type 0
HasParts s i k c = HasScopes s i k c.scopes × HasChoices s i k c.scopes c.switches

abbrev pub AllHaveParts : SettingView → StatementTrees → ℕ → Position → Type 0
AllHaveParts s items k c = AllHaveScopes s items k c.scopes × AllHaveChoices s items k c.scopes c.switches

-- what is proved of a statement
abbrev pub AboutStatement : SettingView → Activation → FunctionView → StatementTree → Type 0
AboutStatement s t g i = (n : ℕ) (around : Surroundings) (looping : Enclosure) (known : List ℕ) (c : Position) → SuitsIn t.unit g looping known i → HasParts s i around.scope c → Goes s t n c (past c i) (Within s t n around looping known) (jobs.Statement i around ∷ []) (item.Statement i ∷ [])

abbrev pub AboutStatements : SettingView → Activation → FunctionView → StatementTrees → Type 0
AboutStatements s t g items = (n : ℕ) (around : Surroundings) (looping : Enclosure) (known : List ℕ) (c : Position) → AllSuitIn t.unit g looping known items → AllHaveParts s items around.scope c → Goes s t n c (past_all c items) (Within s t n around looping known) (statement_jobs items around) (statements items)

module _ (s : SettingView) (t : Activation) (g : FunctionView) where
  pub of_none : AboutStatements s t g tree.NoMore
  of_none n around looping known c suits scopes = subst (λ k. Goes s t n c k (Within s t n around looping known) [] []) (none_past c) (plainly s t n c (Within s t n around looping known) [] [] tt (nothing_done s t n 0))

  pub of_more : (first : StatementTree) (rest : StatementTrees) → AboutStatement s t g first → AboutStatements s t g rest → AboutStatements s t g (tree.And first rest)
  of_more first rest one others n around looping known c suits scopes =
      subst (λ k. Goes s t n c k (Within s t n around looping known) (jobs.Statement first around ∷ statement_jobs rest around) (item.Statement first ∷ statements rest)) (past_both c first rest)
      (goes_on s t n c (past c first) (past_all (past c first) rest) (Within s t n around looping known) (Within s t n around looping known) (jobs.Statement first around ∷ []) (statement_jobs rest around) (item.Statement first ∷ []) (statements rest)
      (λ items k. quiet_within s t n around looping known (statements rest) items (statements_quiet rest) k) (one n around looping known c suits.0 (scopes.0.0, scopes.1.0)) (others n around looping known (past c first) suits.1 (scopes.0.1, scopes.1.1)))

module _ (s : SettingView) (t : Activation) (fits : IsOfUnit t s) where
  -- objects are entered, then what comes inside, then they are left
  pub enclosed : (n : ℕ) (c last : Position) (objects : List ℕ) (first second : ℕ) (K L : List Item → Type 0) (js : List Job) (is : List Item) → ((items : List Item) → K items → L (item.Leaves objects ∷ items)) → NamedFrom t first objects → NamedFrom t second objects → Goes s t n c last L js is
      → Goes s t n c last K (object_jobs act.Enter s.at objects first ++ (js ++ object_jobs act.Leave s.at objects second)) (item.Enters objects ∷ (is ++ item.Leaves objects ∷ []))
  enclosed n c last objects first second K L js is onwards named again inside =
      subst (λ at. Goes s t n c last K (object_jobs act.Enter at objects first ++ (js ++ object_jobs act.Leave at objects second)) (item.Enters objects ∷ (is ++ item.Leaves objects ∷ []))) (sym fits.place)
      (goes_on s t n c c last K Anything (object_jobs act.Enter (own t) objects first) (js ++ object_jobs act.Leave (own t) objects second) (item.Enters objects ∷ []) (is ++ item.Leaves objects ∷ []) (λ items k. tt)
      (plainly s t n c Anything (object_jobs act.Enter (own t) objects first) (item.Enters objects ∷ []) (objects_are_terms act.Enter (own t) objects first) (enters s t fits n objects first 0 named))
      (goes_on s t n c last last K L js (object_jobs act.Leave (own t) objects second) is (item.Leaves objects ∷ []) onwards inside
      (plainly s t n last K (object_jobs act.Leave (own t) objects second) (item.Leaves objects ∷ []) (objects_are_terms act.Leave (own t) objects second) (leaves s t fits n objects second 0 again))))
    where
      Anything : List Item → Type 0
      Anything items = Unit {0}
