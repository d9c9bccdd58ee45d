-- What lies behind the edges of a switch: the label itself, or a block that enters objects and jumps there.
use Rattle.std.proofs.Common.{◌≡◌, ◌≤◌, ◌<◌, ℕ, zero, suc, ◌+◌, false, not, List, [], ◌∷◌, ◌++◌, length, Some, slice_get, refl, arith, ap, sym, subst, ◌∙◌, length-append}
use Rattle.std.proofs.lemmas.List.{length-map}
use Rattle.c_layout.specs.CheckedTrees.{StatementTree}
use Rattle.lower_templates.specs.Worklist.Acts as act
use Rattle.lower_templates.specs.Worklist.Pieces.{NameView, Local, PieceView, Mark}
use Rattle.lower_templates.specs.Worklist.Plans.{Plan}
use Rattle.lower_templates.specs.Worklist.Settings.{SettingView}
use Rattle.lower_templates.specs.Worklist.Works as jobs
use Rattle.lower_templates.specs.Worklist.Works.{Job}
use Rattle.lower_templates.specs.declared.worklist.pending_works.Landing.{Landing}
use Rattle.lower_template_theorems.proofs.growth.GrowingWorks.{grows, jobs_none}
use Rattle.lower_functions.specs.Statements.ScopeJumps.{enters_between, is_empty}
use Rattle.lower_functions.specs.Statements.Switches.{edge_block, edge_blocks}
use Rattle.lower_functions.specs.declared.statements.switch_statements.CaseArm.{CaseArm}
use Rattle.lower_template_theorems.specs.Worklists.Derivations.{Makes}
use Rattle.lower_template_theorems.proofs.worklists.Derivations.{parted}
use Rattle.semantics.specs.SourceMachine.BranchSteps.{landing}
use Rattle.semantics.specs.SourceMachine.Items as item
use Rattle.semantics.specs.SourceMachine.Items.{Item}
use Rattle.semantics.specs.SourceMachine.LabelSearch.{Sought, case, found}
use Rattle.semantics.specs.SourceMachine.Scopes.{entered_between, entering_first}
use Rattle.simulation_terms.specs.SimulationRelation.Activations.{Activation}
use Rattle.simulation_terms.specs.SimulationRelation.Simulates.{Leads, Simulates}
use Rattle.simulation_terms.specs.Worklists.TemplateParts.{IsOfUnit, IsKnown, Stands}
use Rattle.simulation_terms.proofs.worklists.Runs.{Runs, headed, known_before, then_ends, stands_after, stands_behind, split}
use Rattle.simulation_terms.proofs.worklists.Laying.{led}
use Rattle.simulation_terms.proofs.terms.Choices.{jumping, hops}
use Rattle.simulation_terms.specs.Scopes.Contexts.{Reaches}
use Rattle.simulation_terms.proofs.scopes.KeptScopes.{AreTerms}
use Rattle.simulation_terms.proofs.scopes.Objects as objects
use Rattle.simulation_terms.proofs.scopes.Objects.{object_jobs, NamedFrom, locals}
use Rattle.simulation_statements.specs.Switches.SwitchTargets.{IsTarget}
use Rattle.simulation_statements.specs.ScopeExits.Between.{Between}
use Rattle.simulation_statements.proofs.dispatches.SwitchArms.{IsTargeted, one_block, block_terms, Blocked, blocked_none, blocked_on, block_planned, enters_some}

-- from a label of a switch on, or behind the switch, where it has no such label
pub data Comes (t : Activation) (body : StatementTree) (items : List Item) (l : Sought) (mark after : ℕ) : List Item → ℕ → Type 0 where
  to_label : (to : List Item) → found t.unit l body (item.LoopEnd ∷ items) ≡ Some to → Comes t body items l mark after to mark
  to_end : Comes t body items l mark after items after

-- where a label leads: what is left to do from there, and what is entered on the way
pub record Goal (t : Activation) (s : SettingView) (body : StatementTree) (items : List Item) (from : ℕ) (l : Sought) (mark after : ℕ) (to_scope : Landing) : Type 0 where
  pub to : List Item
  pub comes : Comes t body items l mark after to to_scope.label
  pub lands : landing l (found t.unit l body (item.LoopEnd ∷ items)) (item.LoopEnd ∷ items) ≡ Some to
  pub objects : List ℕ
  pub between : Between s from to_scope.scope [] objects
  pub entered : entered_between (item.LoopEnd ∷ items) to ≡ objects
  pub is_there : to_scope.scope ≤ length s.scopes.scopes

plus_zero : (a : ℕ) → a + 0 ≡ a
plus_zero a = omega arith

one_on : (a i : ℕ) → suc a + i ≡ a + suc i
one_on a i = omega arith

locals_length : (xs : List ℕ) → length (locals xs) ≡ length xs
locals_length xs = length-map xs Local

next_base : (names : List NameView) (xs : List ℕ) → length (names ++ locals xs) ≡ length names + length xs
next_base names xs = length-append names (locals xs) ∙ ap (λ k. length names + k) (locals_length xs)

terms_on : (js ks : List Job) → AreTerms js → AreTerms ks → AreTerms (js ++ ks)
terms_on [] ks all more = more
terms_on (j ∷ js) ks all more = (all.0, terms_on js ks all.1 more)

itself : (a : ℕ) → a ≤ a
itself a = omega arith

module _ (t : Activation) (s : SettingView) (fits : IsOfUnit t s) (n : ℕ) where
  -- ---- one block

  -- where its label leads somewhere, the block leads there by a label of its own
  abbrev pub Entered : ℕ → ℕ → List ℕ → Type 0
  Entered to label [] = Unit {0}
  Entered to label (x ∷ xs) = (items : List Item) (there : List PieceView) → Leads t label there → Simulates t n 0 items there → Reaches t n to (item.Enters (x ∷ xs) ∷ (item.Hop ∷ items))

  pub one_leads : (to label : ℕ) (xs : List ℕ) (base : ℕ) (p : Plan) → p.jobs ≡ [] → (front : List PieceView) (r : Plan) → Makes s p (one_block s.at to label xs base) front r → IsKnown t r → NamedFrom t base xs → (is_empty xs ≡ false → to < p.labels) → (w : List PieceView) → Stands t (front ++ w) → Entered to label xs
  one_leads to label [] base p none front r m known named less w stands = tt
  one_leads to label (x ∷ xs) base p none front r m known named less w stands = λ items there leads f.
      let ys = x ∷ xs in
      let js = object_jobs act.Enter s.at ys base in
      let h = headed s p (Mark to) (js ++ jobs.Ready (jumping s.at label) ∷ []) front r m in
      let at_mark = subst (λ zs. Stands t (zs ++ w)) h.is stands in
      let few = (known_before t p r (grows s p _ front r m) known).labels in
      let entered : Runs s t n js (item.Enters ys ∷ []) 0 0 = subst (λ at. Runs s t n (object_jobs act.Enter at ys base) (item.Enters ys ∷ []) 0 0) (sym fits.place) (objects.enters s t fits n ys base 0 named) in
      record {
        there = h.back ++ w;
        leads = led s t fits to p.labels p.labels (h.back ++ w) (less refl) (itself p.labels) few at_mark;
        simulates = then_ends s t n js (item.Enters ys ∷ []) 0 0 p none (entered.from p none) (jumping s.at label) h.back r h.made known (item.Hop ∷ items) w (stands_after t (Mark to) (h.back ++ w) at_mark)
            (λ v. hops s t fits n 0 label items v there leads f);
      }

  -- ---- all blocks

  module _ (body : StatementTree) (items : List Item) (from : ℕ) (enough : from ≤ length s.scopes.scopes) (after : ℕ) (mark : Sought → ℕ) where
    abbrev pub GoalAt : Sought → Landing → Type 0
    GoalAt l x = Goal t s body items from l (mark l) after x

    -- each arm has its goal, counted from a case on
    abbrev pub AllGoals : ℕ → List CaseArm → Type 0
    AllGoals first [] = Unit {0}
    AllGoals first (a ∷ arms) = GoalAt (case first) a.landing × AllGoals (suc first) arms

    pub all_goals : (first : ℕ) (arms : List CaseArm) → ((i : ℕ) (a : CaseArm) → slice_get arms i ≡ Some a → GoalAt (case (first + i)) a.landing) → AllGoals first arms
    all_goals first [] each = tt
    all_goals first (a ∷ arms) each = (subst (λ i. GoalAt (case i) a.landing) (plus_zero first) (each 0 a refl), all_goals (suc first) arms (λ i b e. subst (λ j. GoalAt (case j) b.landing) (sym (one_on first i)) (each (suc i) b e)))

    abbrev pub edge_jobs : (first : ℕ) (arms : List CaseArm) → AllGoals first arms → ℕ → List Job
    edge_jobs first [] goals base = []
    edge_jobs first (a ∷ arms) goals base = one_block s.at a.to a.landing.label goals.0.objects base ++ edge_jobs (suc first) arms goals.1 (base + length goals.0.objects)

    pub edge_terms : (first : ℕ) (arms : List CaseArm) (goals : AllGoals first arms) (base : ℕ) → AreTerms (edge_jobs first arms goals base)
    edge_terms first [] goals base = tt
    edge_terms first (a ∷ arms) goals base = terms_on (one_block s.at a.to a.landing.label goals.0.objects base) _ (block_terms s.at a.to a.landing.label goals.0.objects base) (edge_terms (suc first) arms goals.1 (base + length goals.0.objects))

    abbrev pub entered_in : (first : ℕ) (arms : List CaseArm) → AllGoals first arms → List ℕ
    entered_in first [] goals = []
    entered_in first (a ∷ arms) goals = goals.0.objects ++ entered_in (suc first) arms goals.1

    pub edges_planned : (first : ℕ) (arms : List CaseArm) (goals : AllGoals first arms) (p : Plan) → Blocked (edge_jobs first arms goals (length p.names)) (entered_in first arms goals) p (edge_blocks s from arms p)
    edges_planned first [] goals p = blocked_none p
    edges_planned first (a ∷ arms) goals p =
        let g = goals.0 in
        let q = edge_block s from a.to a.landing p in
        let one = block_planned s from enough a.to a.landing g.objects g.between g.is_there p in
        let rest = edges_planned (suc first) arms goals.1 q in
        blocked_on (one_block s.at a.to a.landing.label g.objects (length p.names)) (edge_jobs (suc first) arms goals.1 (length p.names + length g.objects)) g.objects (entered_in (suc first) arms goals.1) p q (edge_blocks s from arms q) one
        (subst (λ b. Blocked (edge_jobs (suc first) arms goals.1 b) (entered_in (suc first) arms goals.1) q (edge_blocks s from arms q)) (ap (λ ns. length ns) one.names ∙ next_base p.names g.objects) rest)

    abbrev pub AllEntered : (first : ℕ) (arms : List CaseArm) → AllGoals first arms → Type 0
    AllEntered first [] goals = Unit {0}
    AllEntered first (a ∷ arms) goals = Entered a.to a.landing.label goals.0.objects × AllEntered (suc first) arms goals.1

    -- names of objects that are entered in some blocks one after the other
    named_parts : (base : ℕ) (xs ys : List ℕ) → NamedFrom t base (xs ++ ys) → NamedFrom t base xs × NamedFrom t (base + length xs) ys
    named_parts base [] ys named = (tt, subst (λ b. NamedFrom t b ys) (sym (plus_zero base)) named)
    named_parts base (x ∷ xs) ys named = let rest = named_parts (suc base) xs ys named.1 in ((named.0, rest.0), subst (λ b. NamedFrom t b ys) (one_on base (length xs)) rest.1)

    pub all_lead : (last first : ℕ) (arms : List CaseArm) (goals : AllGoals first arms) (base : ℕ) → ((i : ℕ) (a : CaseArm) → slice_get arms i ≡ Some a → IsTargeted s from a.landing a.to last) → (p : Plan) → p.jobs ≡ [] → last ≤ p.labels → (front : List PieceView) (r : Plan) → Makes s p (edge_jobs first arms goals base) front r → IsKnown t r → NamedFrom t base (entered_in first arms goals)
        → (w : List PieceView) → Stands t (front ++ w) → AllEntered first arms goals
    all_lead last first [] goals base targets p none le front r m known named w stands = tt
    all_lead last first (a ∷ arms) goals base targets p none le front r m known named w stands =
        let g = goals.0 in
        let js = one_block s.at a.to a.landing.label g.objects base in
        let ks = edge_jobs (suc first) arms goals.1 (base + length g.objects) in
        let x = parted s p js ks front r m in
        let here = split s t n front x.front x.back w x.all stands in
        let names = named_parts base g.objects (entered_in (suc first) arms goals.1) named in
        let known_first = known_before t x.between r (grows s x.between ks x.back r x.second) known in
        let enters = enters_some s from enough a.landing g.objects g.between g.is_there in
        let target = targets 0 a refl in (
          one_leads a.to a.landing.label g.objects base p none x.front x.between x.first known_first names.0 (λ some. below a.to last p.labels (target.own (enters ∙ ap not some)) le) (x.back ++ w) here,
          all_lead last (suc first) arms goals.1 (base + length g.objects) (λ i b e. targets (suc i) b e) x.between (jobs_none s p js x.front x.between x.first none) (through last p.labels x.between.labels le (grows s p js x.front x.between x.first).labels) x.back r x.second known names.1 w (stands_behind t x.front (x.back ++ w) here),
        )
      where
        below : (a b c : ℕ) → a < b → b ≤ c → a < c
        below a b c x y = omega (arith, x, y)

        through : (a b c : ℕ) → a ≤ b → b ≤ c → a ≤ c
        through a b c x y = omega (arith, x, y)

    -- ---- targets

    pub target_of : (l : Sought) (to_scope : Landing) (to last : ℕ) (g : GoalAt l to_scope) → IsTargeted s from to_scope to last → Entered to to_scope.label g.objects → Reaches t n to_scope.label g.to → IsTarget t n 0 body (item.LoopEnd ∷ items) l to
    target_of l to_scope to last g target entered reached = by g.objects g.entered entered (enters_some s from enough to_scope g.objects g.between g.is_there)
      where
        by : (xs : List ℕ) → entered_between (item.LoopEnd ∷ items) g.to ≡ xs → Entered to to_scope.label xs → enters_between s from to_scope.scope ≡ not (is_empty xs) → IsTarget t n 0 body (item.LoopEnd ∷ items) l to
        by [] same blocks enters = record { to = g.to; there = reached.there; lands = g.lands; leads = subst (λ k. Leads t k reached.there) (sym (target.plain enters)) reached.leads; simulates = subst (λ xs. Simulates t n 0 (entering_first xs g.to) reached.there) (sym same) reached.simulates }
        by (x ∷ xs) same blocks enters =
            let y = blocks g.to reached.there reached.leads reached.simulates in
            record { to = g.to; there = y.there; lands = g.lands; leads = y.leads; simulates = subst (λ zs. Simulates t n 0 (entering_first zs g.to) y.there) (sym same) y.simulates }

    abbrev pub AllReached : (first : ℕ) (arms : List CaseArm) → AllGoals first arms → Type 0
    AllReached first [] goals = Unit {0}
    AllReached first (a ∷ arms) goals = Reaches t n a.landing.label goals.0.to × AllReached (suc first) arms goals.1

    pub all_reached : (first : ℕ) (arms : List CaseArm) (goals : AllGoals first arms) → ((i : ℕ) (a : CaseArm) → slice_get arms i ≡ Some a → (g : GoalAt (case (first + i)) a.landing) → Reaches t n a.landing.label g.to) → AllReached first arms goals
    all_reached first [] goals each = tt
    all_reached first (a ∷ arms) goals each = (
      subst (λ j. (g : GoalAt (case j) a.landing) → Reaches t n a.landing.label g.to) (plus_zero first) (each 0 a refl) goals.0,
      all_reached (suc first) arms goals.1 (λ i b e. subst (λ j. (g : GoalAt (case j) b.landing) → Reaches t n b.landing.label g.to) (sym (one_on first i)) (each (suc i) b e)),
    )

    pub all_targets : (last first : ℕ) (arms : List CaseArm) (goals : AllGoals first arms) → ((i : ℕ) (a : CaseArm) → slice_get arms i ≡ Some a → IsTargeted s from a.landing a.to last) → AllEntered first arms goals → AllReached first arms goals → (i : ℕ) (a : CaseArm) → slice_get arms i ≡ Some a → IsTarget t n 0 body (item.LoopEnd ∷ items) (case (first + i)) a.to
    all_targets last first [] goals targets entered reached i a there = absurd (never i a there)
      where
        never : (i : ℕ) (a : CaseArm) → slice_get [] i ≡ Some a → ⊥
        never i a e = cc
    all_targets last first (x ∷ arms) goals targets entered reached zero a there = subst (λ k. IsTarget t n 0 body (item.LoopEnd ∷ items) (case k) a.to) (sym (plus_zero first)) (subst (λ (b : CaseArm). IsTarget t n 0 body (item.LoopEnd ∷ items) (case first) b.to) (same there) (target_of (case first) x.landing x.to last goals.0 (targets 0 x refl) entered.0 reached.0))
      where
        same : Some x ≡ Some a → x ≡ a
        same e = cc
    all_targets last first (x ∷ arms) goals targets entered reached (suc i) a there = subst (λ k. IsTarget t n 0 body (item.LoopEnd ∷ items) (case k) a.to) (one_on first i) (all_targets last (suc first) arms goals.1 (λ j b e. targets (suc j) b e) entered.1 reached.1 i a there)
