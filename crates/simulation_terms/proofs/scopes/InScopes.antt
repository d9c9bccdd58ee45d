-- Works and items that stand in scopes and loops.
use Rattle.std.proofs.Common.{◌≡◌, ℕ, zero, suc, false, List, [], ◌∷◌, ◌++◌, sym, subst, ◌∙◌, append_assoc}
use Rattle.lower_templates.specs.Worklist.Pieces.{PieceView}
use Rattle.lower_templates.specs.Worklist.Plans.{Plan}
use Rattle.lower_templates.specs.Worklist.Settings.{SettingView}
use Rattle.lower_templates.specs.Worklist.Works.{Job}
use Rattle.lower_templates.specs.declared.worklist.pending_works.Landing.{Landing}
use Rattle.lower_templates.specs.declared.worklist.pending_works.Surroundings.{Surroundings}
use Rattle.lower_functions.specs.Functions.Turns.{planless}
use Rattle.lower_template_theorems.specs.Worklists.Derivations.{is_piece, parts, Makes}
use Rattle.lower_template_theorems.proofs.worklists.Derivations.{parted}
use Rattle.lower_template_theorems.proofs.growth.GrowingWorks.{grows, jobs_none}
use Rattle.semantics.specs.SourceMachine.Items.{Item}
use Rattle.simulation_terms.specs.SimulationRelation.Activations.{Activation}
use Rattle.simulation_terms.specs.SimulationRelation.Simulates.{Simulates}
use Rattle.simulation_terms.proofs.simulation_relation.FewerTurns.{less}
use Rattle.simulation_terms.specs.Worklists.TemplateParts.{IsKnown, Stands}
use Rattle.simulation_terms.proofs.worklists.Runs.{Runs, known_before, stands_behind, opened, joined, split}
use Rattle.simulation_terms.proofs.scopes.Positions.{Position, position}
use Rattle.simulation_terms.proofs.scopes.KeptScopes.{AreTerms}
use Rattle.simulation_terms.proofs.scopes.ScopesOfTerms.{scopes_kept}
use Rattle.simulation_terms.specs.Scopes.SuitedStatements.{Enclosure}
use Rattle.simulation_terms.specs.Scopes.Contexts.{Reaches, LabelsReachBefore, Lands, Context}

module _ (s : SettingView) (t : Activation) where
  -- ---- fewer turns

  lands_less : (n : ℕ) (scopes : List (List ℕ)) (to : List Item) (from : ℕ) (landing : Landing) → Lands s t (suc n) scopes to from landing → Lands s t n scopes to from landing
  lands_less n scopes to from landing l = record { objects = l.objects; up = l.up; leaves = l.leaves; stays = l.stays; within = l.within; there = l.there; leads = l.leads; simulates = less n 0 to l.there l.simulates }

  pub reaches_less : (n l : ℕ) (to : List Item) → Reaches t (suc n) l to → Reaches t n l to
  reaches_less n l to x = record { there = x.there; leads = x.leads; simulates = less n 0 to x.there x.simulates }

  pub labels_less : (n : ℕ) → LabelsReachBefore t (suc n) → LabelsReachBefore t n
  labels_less zero all = tt
  labels_less (suc n) all = λ f is l to there from. reaches_less n l to (all f is l to there from)

  pub context_less : (n : ℕ) (around : Surroundings) (enclosed : Enclosure) (known : List ℕ) (scopes : List (List ℕ)) (after_loop after_turn : List Item) → Context s t (suc n) around enclosed known scopes after_loop after_turn → Context s t n around enclosed known scopes after_loop after_turn
  context_less n around enclosed known scopes after_loop after_turn c = record {
    within = c.within;
    chain = c.chain;
    labels = labels_less n c.labels;
    on_break = λ e. lands_less n scopes after_loop around.scope around.on_break (c.on_break e);
    on_continue = λ e. lands_less n scopes after_turn around.scope around.on_continue (c.on_continue e);
  }

  -- ---- works and their items

  -- so many scopes were begun before and are begun behind, and something is known of the items behind
  abbrev pub GoesFrom : ℕ → Position → (List Item → Type 0) → Plan → List Job → List Item → Type 0
  GoesFrom n last K p js is = (ps : List PieceView) (r : Plan) → Makes s p js ps r → IsKnown t r → (items : List Item) (rest : List PieceView) → Stands t (ps ++ rest) → K items → Simulates t n 0 items rest → Simulates t n 0 (is ++ items) (ps ++ rest)

  pub record Goes (n : ℕ) (first last : Position) (K : List Item → Type 0) (js : List Job) (is : List Item) : Type 0 where
    pub from : (p : Plan) → p.jobs ≡ [] → position p ≡ first → GoesFrom n last K p js is
    pub ends : (p : Plan) → p.jobs ≡ [] → position p ≡ first → (ps : List PieceView) (r : Plan) → Makes s p js ps r → position r ≡ last

  -- terms begin no scopes
  pub plainly : (n : ℕ) (c : Position) (K : List Item → Type 0) (js : List Job) (is : List Item) → AreTerms js → Runs s t n js is 0 0 → Goes n c c K js is
  plainly n c K js is terms runs = record {
    from = λ p none begun ps r m known items rest stands k f. runs.from p none ps r m known items rest stands f;
    ends = λ p none begun ps r m. (scopes_kept s p js ps r m (nothing p none) terms).0 ∙ begun;
  }
    where
      nothing : (p : Plan) → p.jobs ≡ [] → AreTerms p.jobs
      nothing p none = subst AreTerms (sym none) tt

  pub goes_on : (n : ℕ) (first middle last : Position) (K L : List Item → Type 0) (js ks : List Job) (is hs : List Item) → ((items : List Item) → K items → L (hs ++ items)) → Goes n first middle L js is → Goes n middle last K ks hs → Goes n first last K (js ++ ks) (is ++ hs)
  goes_on n first middle last K L js ks is hs onwards one other = record {
    from = λ p none begun ps r m known items rest stands k f.
        let x = parted s p js ks ps r m in
        let here = split s t n ps x.front x.back rest x.all stands in
        let grown = grows s x.between ks x.back r x.second in
        let later = other.from x.between (jobs_none s p js x.front x.between x.first none) (one.ends p none begun x.front x.between x.first) x.back r x.second known items rest (stands_behind t x.front (x.back ++ rest) here) k f in
        let all = one.from p none begun x.front x.between x.first (known_before t x.between r grown known) (hs ++ items) (x.back ++ rest) here (onwards items k) later in
        joined s t n 0 ((is ++ hs) ++ items) ps x.front x.back rest x.all (subst (λ xs. Simulates t n 0 xs (x.front ++ (x.back ++ rest))) (sym (append_assoc is hs items)) all);
    ends = λ p none begun ps r m.
        let x = parted s p js ks ps r m in
        other.ends x.between (jobs_none s p js x.front x.between x.first none) (one.ends p none begun x.front x.between x.first) x.back r x.second;
  }

  -- a statement gives way to its parts
  pub gives_way : (n : ℕ) (first last : Position) (K : List Item → Type 0) (j : Job) (i : Item) (is : List Item) → is_piece j ≡ false → ((items : List Item) (ps : List PieceView) → Simulates t n 0 (is ++ items) ps → Simulates t n 0 (i ∷ items) ps)
      → ((p : Plan) → p.jobs ≡ [] → position p ≡ first → GoesFrom n last K (planless (parts s j p)) (parts s j p).jobs is)
      → ((p : Plan) → p.jobs ≡ [] → position p ≡ first → (ps : List PieceView) (r : Plan) → Makes s (planless (parts s j p)) (parts s j p).jobs ps r → position r ≡ last)
      → Goes n first last K (j ∷ []) (i ∷ [])
  gives_way n first last K j i is other gives inner ends = record {
    from = λ p none begun ps r m known items rest stands k f. gives items (ps ++ rest) (inner p none begun ps r (opened s p j ps r other m) known items rest stands k f);
    ends = λ p none begun ps r m. ends p none begun ps r (opened s p j ps r other m);
  }
