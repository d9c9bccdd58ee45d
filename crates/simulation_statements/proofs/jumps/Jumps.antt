-- `break`, `continue` and `goto`.
use Rattle.std.proofs.Common.{◌≡◌, ◌≤◌, ℕ, zero, suc, true, List, [], ◌∷◌, ◌++◌, length, refl, ap, sym, subst, ◌∙◌, append_assoc}
use Rattle.c_layout.specs.CheckedTrees as tree
use Rattle.c_layout.specs.CheckedUnits.{FunctionView}
use Rattle.lower_templates.specs.Worklist.Acts as act
use Rattle.lower_templates.specs.Worklist.Pieces.{PieceView}
use Rattle.lower_templates.specs.Worklist.Plans.{Plan, with_work}
use Rattle.lower_templates.specs.Worklist.Settings.{SettingView}
use Rattle.lower_templates.specs.Worklist.Works as jobs
use Rattle.lower_templates.specs.Worklist.Works.{Job}
use Rattle.lower_templates.specs.declared.worklist.pending_works.Landing.{Landing}
use Rattle.lower_templates.specs.declared.worklist.pending_works.Surroundings.{Surroundings}
use Rattle.lower_expressions.specs.Branches as branches
use Rattle.lower_functions.specs.Statements.Jumps as lowered
use Rattle.lower_functions.specs.Statements.ScopeJumps as scopes
use Rattle.lower_functions.specs.Statements.ScopeJumps.{leap, all_left}
use Rattle.lower_functions.specs.Functions.Turns.{planless}
use Rattle.lower_functions.proofs.StatementPlans.{kept_leap}
use Rattle.lower_template_theorems.specs.Worklists.Derivations.{parts, Makes}
use Rattle.lower_template_theorems.proofs.worklists.Derivations.{parted}
use Rattle.lower_template_theorems.proofs.growth.GrowingWorks.{jobs_none}
use Rattle.semantics.specs.SourceMachine.Items as item
use Rattle.semantics.specs.SourceMachine.Items.{Item}
use Rattle.semantics.specs.SourceMachine.Scopes.{jump, all_of, open_scopes, without, inwards, past_loop, past_iteration}
use Rattle.simulation_terms.specs.SimulationRelation.Activations.{Activation}
use Rattle.simulation_terms.specs.SimulationRelation.Simulates as simulates
use Rattle.simulation_terms.specs.SimulationRelation.Simulates.{Simulates}
use Rattle.simulation_terms.proofs.simulation_relation.FewerTurns.{less}
use Rattle.simulation_terms.proofs.simulation_relation.Constructions.{gives_statement, gives_no_enters}
use Rattle.simulation_terms.specs.Worklists.TemplateParts.{IsOfUnit, IsKnown, Stands}
use Rattle.simulation_terms.proofs.worklists.Runs.{Runs, then_ends, stands_behind, joined, split, opened}
use Rattle.simulation_terms.proofs.worklists.Assignments.{one_more_job, nothing_done}
use Rattle.simulation_terms.proofs.terms.Choices.{jumping, hops}
use Rattle.simulation_terms.proofs.worklists.Laying.{known_between}
use Rattle.simulation_terms.specs.Scopes.SuitedStatements.{Enclosure, HasLabel}
use Rattle.simulation_terms.specs.Scopes.Chains.{Chain}
use Rattle.simulation_terms.proofs.scopes.Positions.{Position, position}
use Rattle.simulation_terms.proofs.scopes.KeptScopes.{AreTerms, Keeps, keeping}
use Rattle.simulation_terms.proofs.scopes.ScopesOfTerms.{scopes_kept}
use Rattle.simulation_terms.specs.Scopes.Contexts.{LabelsReachBefore, Lands, Within}
use Rattle.simulation_terms.proofs.scopes.InScopes.{Goes, gives_way, reaches_less}
use Rattle.simulation_statements.specs.Gotos.Gotos.{HasLabels}
use Rattle.simulation_statements.proofs.gotos.Gotos.{simulates_goto}
use Rattle.simulation_terms.proofs.scopes.Objects.{object_jobs, Planned, left_planned, named_from, locals, leaves}
use Rattle.simulation_terms.proofs.scopes.Ways.{way_up, all_in, chain_there}

pub work_names : (j : Job) (p : Plan) → (with_work j p).names ≡ p.names
unfolding with_work
work_names j p = refl

-- a `goto` follows for more turns than its label leads somewhere for
goto_turns : (s : SettingView) (t : Activation) → IsOfUnit t s → (f : FunctionView) → HasLabels t s f → (l : ℕ) → HasLabel f l → (around : Surroundings) (items : List Item) → Chain s around.scope (open_scopes items)
    → (p : Plan) → p.jobs ≡ [] → (ps : List PieceView) (r : Plan) → Makes s p (jobs.Statement (tree.Goto l) around ∷ []) ps r → IsKnown t r → (rest : List PieceView) → Stands t (ps ++ rest) → (n : ℕ) → LabelsReachBefore t n → Simulates t n 0 (item.Statement (tree.Goto l) ∷ items) (ps ++ rest)
goto_turns s t fits f has l is_there around items chain p none ps r m known rest stands zero all = simulates.enough _ _ _
goto_turns s t fits f has l is_there around items chain p none ps r m known rest stands (suc zero) all = simulates.statement 0 0 (tree.Goto l) items (ps ++ rest) (simulates.enough _ _ _)
goto_turns s t fits f has l is_there around items chain p none ps r m known rest stands (suc (suc n)) all =
    let x = has.found l is_there in
    let y = reaches_less s t n l x.to (all f has.is l x.to is_there.0 x.is) in
    simulates_goto t s fits f has n l around items x.to y.there chain is_there.0 x.is y.leads y.simulates p none ps r m known rest stands

module _ (s : SettingView) (t : Activation) (fits : IsOfUnit t s) (n : ℕ) where
  -- a work whose plan begins no scope
  pub no_scopes : (j : Job) (c : Position) → ((p : Plan) → p.jobs ≡ [] → Keeps p (parts s j p)) → (p : Plan) → p.jobs ≡ [] → position p ≡ c → (ps : List PieceView) (r : Plan) → Makes s (planless (parts s j p)) (parts s j p).jobs ps r → position r ≡ c
  no_scopes j c keeps p none begun ps r m = (scopes_kept s (planless (parts s j p)) (parts s j p).jobs ps r m tt (keeps p none).terms).0 ∙ (keeps p none).scopes ∙ begun

  -- some works, and then objects are left and a piece ends the block
  pub leaves_and : (q : Plan) (xs : List ℕ) (p : Plan) → Planned act.Leave s.at xs p q → (front : List Job) (is : List Item) → p.jobs ≡ front → Runs s t n front is 0 0 → (last : PieceView) (all : Plan) → all.jobs ≡ q.jobs ++ jobs.Ready last ∷ [] → all.names ≡ q.names → (ps : List PieceView) (r : Plan) → Makes s (planless all) all.jobs ps r → IsKnown t r → (items hs : List Item) (rest : List PieceView) → Stands t (ps ++ rest)
      → ((w : List PieceView) → Simulates t n 0 (item.Leaves xs ∷ items) w → Simulates t n 0 hs w) → ((w : List PieceView) → Simulates t n 0 items (last ∷ w)) → Simulates t n 0 (is ++ hs) (ps ++ rest)
  leaves_and q xs p planned front is before runs last all jobs_are names_are ps r m known items hs rest stands wrap end =
      let known_all = known_between s t (planless all) all.jobs ps r m known in
      let named = named_from t (planless all) p.names xs [] known_all (names_are ∙ planned.names ∙ ap (λ ns. p.names ++ ns) (nothing (locals xs))) in
      let js = object_jobs act.Leave s.at xs (length p.names) in
      let is_js : all.jobs ≡ front ++ (js ++ jobs.Ready last ∷ []) = jobs_are ∙ ap (λ ks. ks ++ jobs.Ready last ∷ []) (planned.jobs ∙ ap (λ ks. ks ++ js) before) ∙ append_assoc front js (jobs.Ready last ∷ []) in
      let left : Runs s t n js (item.Leaves xs ∷ []) 0 0 = subst (λ at. Runs s t n (object_jobs act.Leave at xs (length p.names)) (item.Leaves xs ∷ []) 0 0) (sym fits.place) (leaves s t fits n xs (length p.names) 0 named) in
      let x = parted s (planless all) front (js ++ jobs.Ready last ∷ []) ps r (subst (λ ks. Makes s (planless all) ks ps r) is_js m) in
      let here = split s t n ps x.front x.back rest x.all stands in
      let none_between = jobs_none s (planless all) front x.front x.between x.first refl in
      let later = then_ends s t n js (item.Leaves xs ∷ []) 0 0 x.between none_between (left.from x.between none_between) last x.back r x.second known items rest (stands_behind t x.front (x.back ++ rest) here) end in
      joined s t n 0 (is ++ hs) ps x.front x.back rest x.all (runs.from (planless all) refl x.front x.between x.first (known_between s t x.between (js ++ jobs.Ready last ∷ []) x.back r x.second known) hs (x.back ++ rest) here (wrap (x.back ++ rest) later))
    where
      nothing : {A : Type 0} (xs : List A) → xs ≡ xs ++ []
      nothing [] = refl
      nothing (x ∷ xs) = ap (λ ys. x ∷ ys) (nothing xs)

  gives_break : (items : List Item) (ps : List PieceView) → Simulates t n 0 (jump items (past_loop items)) ps → Simulates t n 0 (item.BreakOut ∷ items) ps
  gives_break items ps f = by n f
    where
      by : (n : ℕ) → Simulates t n 0 (jump items (past_loop items)) ps → Simulates t n 0 (item.BreakOut ∷ items) ps
      by zero f = simulates.enough _ _ _
      by (suc n) f = simulates.break_out n 0 items ps (less n 0 _ ps f)

  gives_continue : (items : List Item) (ps : List PieceView) → Simulates t n 0 (jump items (past_iteration items)) ps → Simulates t n 0 (item.NextIteration ∷ items) ps
  gives_continue items ps f = by n f
    where
      by : (n : ℕ) → Simulates t n 0 (jump items (past_iteration items)) ps → Simulates t n 0 (item.NextIteration ∷ items) ps
      by zero f = simulates.enough _ _ _
      by (suc n) f = simulates.next_turn n 0 items ps (less n 0 _ ps f)

  -- some works, others behind them, and then a piece that ends the block
  pub works_and : (front js : List Job) (is ls : List Item) (last : PieceView) (all : Plan) → all.jobs ≡ (front ++ js) ++ jobs.Ready last ∷ [] → (IsKnown t (planless all) → Runs s t n front is 0 0) → (IsKnown t (planless all) → Runs s t n js ls 0 0) → (ps : List PieceView) (r : Plan) → Makes s (planless all) all.jobs ps r → IsKnown t r → (items hs : List Item) (rest : List PieceView) → Stands t (ps ++ rest)
      → ((w : List PieceView) → Simulates t n 0 (ls ++ items) w → Simulates t n 0 hs w) → ((w : List PieceView) → Simulates t n 0 items (last ∷ w)) → Simulates t n 0 (is ++ hs) (ps ++ rest)
  works_and front js is ls last all jobs_are runs others ps r m known items hs rest stands wrap end =
      let known_all = known_between s t (planless all) all.jobs ps r m known in
      let is_js : all.jobs ≡ front ++ (js ++ jobs.Ready last ∷ []) = jobs_are ∙ append_assoc front js (jobs.Ready last ∷ []) in
      let x = parted s (planless all) front (js ++ jobs.Ready last ∷ []) ps r (subst (λ ks. Makes s (planless all) ks ps r) is_js m) in
      let here = split s t n ps x.front x.back rest x.all stands in
      let none_between = jobs_none s (planless all) front x.front x.between x.first refl in
      let later = then_ends s t n js ls 0 0 x.between none_between ((others known_all).from x.between none_between) last x.back r x.second known items rest (stands_behind t x.front (x.back ++ rest) here) end in
      joined s t n 0 (is ++ hs) ps x.front x.back rest x.all ((runs known_all).from (planless all) refl x.front x.between x.first (known_between s t x.between (js ++ jobs.Ready last ∷ []) x.back r x.second known) hs (x.back ++ rest) here (wrap (x.back ++ rest) later))

  -- a jump outwards
  jumps : (from : ℕ) (landing : Landing) (items to : List Item) → from ≤ length s.scopes.scopes → Lands s t n (open_scopes items) to from landing → (p : Plan) → p.jobs ≡ [] → (ps : List PieceView) (r : Plan) → Makes s (planless (leap s from landing p)) (leap s from landing p).jobs ps r → IsKnown t r → (rest : List PieceView) → Stands t (ps ++ rest)
      → Simulates t n 0 (jump items to) (ps ++ rest)
  jumps from landing items to enough l p none ps r m known rest stands =
      let q = all_left s.at l.objects p in
      let all = branches.jump s.at landing.label q in
      let is_all : leap s from landing p ≡ all = ap (branches.jump s.at landing.label) (way_up s s.scopes.scopes from landing.scope l.objects l.up enough p) in
      subst (λ xs. Simulates t n 0 (item.Leaves xs ∷ (item.Enters (without (all_of (open_scopes items)) (inwards (open_scopes to))) ∷ (item.Hop ∷ to))) (ps ++ rest)) (sym l.leaves)
      (subst (λ xs. Simulates t n 0 (item.Leaves l.objects ∷ (item.Enters xs ∷ (item.Hop ∷ to))) (ps ++ rest)) (sym (all_in (all_of (open_scopes items)) (inwards (open_scopes to)) l.stays))
      (leaves_and q l.objects p (left_planned s.at l.objects p) [] [] none (nothing_done s t n 0) (jumping s.at landing.label) all (one_more_job q.jobs (jobs.Ready (jumping s.at landing.label)) q refl) (work_names (jobs.Ready (jumping s.at landing.label)) q) ps r (subst (λ x. Makes s (planless x) x.jobs ps r) is_all m) known (item.Enters [] ∷ (item.Hop ∷ to)) (item.Leaves l.objects ∷ (item.Enters [] ∷ (item.Hop ∷ to))) rest stands
      (λ w f. f) (λ w. gives_no_enters n 0 (item.Hop ∷ to) (jumping s.at landing.label ∷ w) (hops s t fits n 0 landing.label to w l.there l.leads l.simulates))))

  module _ (around : Surroundings) (looping : Enclosure) (known : List ℕ) (c : Position) where
    pub breaks : looping.breaks ≡ true → Goes s t n c c (Within s t n around looping known) (jobs.Statement tree.Break around ∷ []) (item.Statement tree.Break ∷ [])
    breaks e = gives_way s t n c c (Within s t n around looping known) (jobs.Statement tree.Break around) (item.Statement tree.Break) (item.BreakOut ∷ []) refl (gives_statement n 0 tree.Break)
        (λ p none begun ps r m known items rest stands k f. gives_break items (ps ++ rest) (jumps around.scope around.on_break items (past_loop items) (chain_there s around.scope (open_scopes items) k.chain) (k.on_break e) p none ps r m known rest stands))
        (no_scopes (jobs.Statement tree.Break around) c (λ p none. kept_leap (keeping p).terms s around.scope around.on_break p (record { scopes = refl; terms = subst AreTerms (sym none) tt })))

    pub continues : looping.continues ≡ true → Goes s t n c c (Within s t n around looping known) (jobs.Statement tree.Continue around ∷ []) (item.Statement tree.Continue ∷ [])
    continues e = gives_way s t n c c (Within s t n around looping known) (jobs.Statement tree.Continue around) (item.Statement tree.Continue) (item.NextIteration ∷ []) refl (gives_statement n 0 tree.Continue)
        (λ p none begun ps r m known items rest stands k f. gives_continue items (ps ++ rest) (jumps around.scope around.on_continue items (past_iteration items) (chain_there s around.scope (open_scopes items) k.chain) (k.on_continue e) p none ps r m known rest stands))
        (no_scopes (jobs.Statement tree.Continue around) c (λ p none. kept_leap (keeping p).terms s around.scope around.on_continue p (record { scopes = refl; terms = subst AreTerms (sym none) tt })))

    pub goes_to : (f : FunctionView) → HasLabels t s f → (l : ℕ) → HasLabel f l → Goes s t n c c (Within s t n around looping known) (jobs.Statement (tree.Goto l) around ∷ []) (item.Statement (tree.Goto l) ∷ [])
    goes_to f has l is_there = record {
      from = λ p none begun ps r m known items rest stands k go. goto_turns s t fits f has l is_there around items k.chain p none ps r m known rest stands n k.labels;
      ends = λ p none begun ps r m.
          let j = jobs.Statement (tree.Goto l) around in
          no_scopes j c (λ p none. kept_leap (keeping p).terms s around.scope (record { label = l; scope = lowered.label_scope s l around.scope }) p (record { scopes = refl; terms = subst AreTerms (sym none) tt })) p none begun ps r (opened s p j ps r refl m);
    }
