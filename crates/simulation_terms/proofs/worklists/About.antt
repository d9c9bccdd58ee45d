-- What is proved of a term, an lvalue and arguments.
use Rattle.std.proofs.Common.{◌≡◌, ◌≤◌, ℕ, suc, ◌+◌, ◌-◌, ◌^◌, true, false, List, [], ◌∷◌, ◌++◌, Some, refl, subst}
use Rattle.c_layout.specs.CheckedTrees as tree
use Rattle.c_layout.specs.CheckedTrees.{TermTree, TermTrees, LvalueTree}
use Rattle.lower_templates.specs.Worklist.Pieces.{PieceView}
use Rattle.lower_templates.specs.Worklist.Plans.{Plan}
use Rattle.lower_templates.specs.Worklist.Settings.{SettingView}
use Rattle.lower_templates.specs.Worklist.Works as jobs
use Rattle.lower_templates.specs.Worklist.Works.{Job, behind}
use Rattle.lower_templates.specs.declared.worklist.pending_works.Decision.{Decision}
use Rattle.lower_conditions.specs.Conditions.{LineCallView, line_call}
use Rattle.lower_template_theorems.specs.Worklists.Derivations.{parts, Makes}
use Rattle.semantics.specs.SourceMachine.Items as item
use Rattle.semantics.specs.SourceMachine.Items.{Item}
use Rattle.semantics.specs.SourceMachine.TermItems.{address_items, arguments, argument_count}
use Rattle.semantics.specs.SourceMachine.ConditionItems.{term_items, condition}
use Rattle.simulation_terms.specs.SimulationRelation.Activations.{Activation}
use Rattle.simulation_terms.specs.SimulationRelation.Simulates.{Leads, Simulates}
use Rattle.simulation_terms.proofs.simulation_relation.Constructions.{gives_value, gives_unused, gives_address}
use Rattle.simulation_terms.specs.Worklists.Rooms.{room, room_of_place, room_of_all}
use Rattle.simulation_terms.specs.Worklists.SuitedTerms.{Suits, SuitsAsPlace, SuitAll}
use Rattle.simulation_terms.specs.Worklists.TemplateParts.{IsKnown, Stands}
use Rattle.simulation_terms.proofs.worklists.Runs.{Runs, consists}

-- so many temporaries from one on are there
abbrev pub Fits : ℕ → ℕ → Type 0
Fits d k = d + k ≤ 2 ^ 32 - 1

-- arguments, each in a temporary of its own
abbrev pub argument_jobs : TermTrees → ℕ → List Job
argument_jobs tree.End d = []
argument_jobs (tree.More e rest) d = jobs.Value e d ∷ argument_jobs rest (behind d 1)

module _ (s : SettingView) (t : Activation) (n : ℕ) where
  abbrev pub Valued : TermTree → ℕ → Type 0
  Valued e d = Runs s t n (jobs.Value e d ∷ []) (item.Value e ∷ []) d (suc d)

  abbrev pub Done : TermTree → ℕ → Type 0
  Done e d = Runs s t n (jobs.Unused e d ∷ []) (item.Unused e ∷ []) d d

  abbrev pub Addressed : LvalueTree → ℕ → Type 0
  Addressed l d = Runs s t n (jobs.Address l d ∷ []) (item.Address l ∷ []) d (suc d)

  abbrev pub Argued : TermTrees → ℕ → Type 0
  Argued args d = Runs s t n (argument_jobs args d) (arguments args) d (d + argument_count args)

  -- items that go one of two ways
  abbrev pub DecidesFrom : Plan → List Job → Decision → (List Item → List Item → List Item) → Type 0
  DecidesFrom p js decision is = (ps : List PieceView) (r : Plan) → Makes s p js ps r → IsKnown t r → (held failed items : List Item) (rest on_yes on_no : List PieceView) → Stands t (ps ++ rest) → Leads t decision.targets.yes on_yes → Leads t decision.targets.no on_no
      → Simulates t n decision.depth (held ++ items) on_yes → Simulates t n decision.depth (failed ++ items) on_no → Simulates t n decision.depth (is held failed ++ items) (ps ++ rest)

  abbrev pub Decided : TermTree → Decision → Type 0
  Decided e decision = (p : Plan) → p.jobs ≡ [] → DecidesFrom p (jobs.Condition e decision ∷ []) decision (condition t.unit decision.is_test e)

  -- a call that reads a line, in so many temporaries
  pub record Reads (args : TermTrees) (k : ℕ) : Type 0 where
    pub three : argument_count args ≡ 3
    pub few : room_of_all args ≤ k
    pub runs : (d : ℕ) → Fits d (room_of_all args) → Argued args d

  pub record About (e : TermTree) : Type 0 where
    pub value : (d : ℕ) → Suits t.unit true e → Fits d (room e) → Valued e d
    pub done : (d : ℕ) → Suits t.unit false e → Fits d (room e) → Done e d
    pub decided : (decision : Decision) → Suits t.unit true e → Fits decision.depth (room e) → Decided e decision
    pub reads : (c : LineCallView) → line_call e ≡ Some c → Suits t.unit true e → Reads c.arguments (room e)

  abbrev pub AboutPlace : LvalueTree → Type 0
  AboutPlace l = (d : ℕ) → SuitsAsPlace t.unit l → Fits d (room_of_place l) → Addressed l d

  abbrev pub AboutAll : TermTrees → Type 0
  AboutAll args = (d : ℕ) → SuitAll t.unit args → Fits d (room_of_all args) → Argued args d

  -- ---- from the parts of a work to the work

  pub valued : (e : TermTree) (d : ℕ) (js : List Job) → ((p : Plan) → p.jobs ≡ [] → (parts s (jobs.Value e d) p).jobs ≡ js) → Runs s t n js (term_items t.unit true e) d (suc d) → Valued e d
  valued e d js same runs = consists s t n (jobs.Value e d) js (item.Value e) (term_items t.unit true e) d (suc d) refl (gives_value n d e) same runs

  pub done : (e : TermTree) (d : ℕ) (js : List Job) → ((p : Plan) → p.jobs ≡ [] → (parts s (jobs.Unused e d) p).jobs ≡ js) → Runs s t n js (term_items t.unit false e) d d → Done e d
  done e d js same runs = consists s t n (jobs.Unused e d) js (item.Unused e) (term_items t.unit false e) d d refl (gives_unused n d e) same runs

  pub addressed : (l : LvalueTree) (d : ℕ) (js : List Job) → ((p : Plan) → p.jobs ≡ [] → (parts s (jobs.Address l d) p).jobs ≡ js) → Runs s t n js (address_items t.unit l) d (suc d) → Addressed l d
  addressed l d js same runs = consists s t n (jobs.Address l d) js (item.Address l) (address_items t.unit l) d (suc d) refl (gives_address n d l) same runs

  -- a value one temporary behind
  pub moved : (e : TermTree) (d x : ℕ) → suc d ≡ x → Valued e (suc d) → Runs s t n (jobs.Value e x ∷ []) (item.Value e ∷ []) (suc d) (suc (suc d))
  moved e d x is runs = subst (λ x. Runs s t n (jobs.Value e x ∷ []) (item.Value e ∷ []) (suc d) (suc (suc d))) is runs

  pub moved_address : (l : LvalueTree) (d x : ℕ) → suc d ≡ x → Addressed l (suc d) → Runs s t n (jobs.Address l x ∷ []) (item.Address l ∷ []) (suc d) (suc (suc d))
  moved_address l d x is runs = subst (λ x. Runs s t n (jobs.Address l x ∷ []) (item.Address l ∷ []) (suc d) (suc (suc d))) is runs
