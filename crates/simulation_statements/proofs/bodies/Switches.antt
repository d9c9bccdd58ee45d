-- `switch`: each value leads to its label in the body, through the block of its edge, or behind the switch.
use Rattle.std.proofs.Common.{◌≡◌, ◌≤◌, ◌<◌, ℕ, ℤ, ◌+◌, ◌-◌, ◌^◌, Bool, not, List, [], ◌∷◌, ◌++◌, length, Option, Some, None, slice_get, refl, arith, ap, sym, subst, ◌∙◌, append_assoc}
use Rattle.std.proofs.lemmas.List.{append-nil}
use Rattle.cc_base.specs.declared.diagnostics.Place.{Place}
use Rattle.c_layout.specs.CheckedTrees as tree
use Rattle.c_layout.specs.CheckedTrees.{TermTree, StatementTree}
use Rattle.c_layout.specs.CheckedUnits.{FunctionView}
use Rattle.c_layout.specs.declared.checked_tree.checked_statements.CaseLabel.{CaseLabel}
use Rattle.lower_templates.specs.Worklist.Pieces.{PieceView, Mark}
use Rattle.lower_templates.specs.Worklist.Plans.{Plan}
use Rattle.lower_templates.specs.Worklist.Settings.{SettingView}
use Rattle.lower_templates.specs.Worklist.TermKinds.{integer_type, term_type}
use Rattle.lower_templates.specs.Worklist.Works as jobs
use Rattle.lower_templates.specs.Worklist.Works.{Job}
use Rattle.lower_templates.specs.declared.worklist.pending_works.Surroundings.{Surroundings}
use Rattle.lower_templates.specs.declared.worklist.template_builder.Dispatch.{Dispatch}
use Rattle.lower_conditions.specs.Tests.{named}
use Rattle.lower_functions.specs.Functions.Turns.{planless}
use Rattle.lower_template_theorems.specs.Growth.Growth.{Grows}
use Rattle.lower_template_theorems.proofs.growth.Growth.{grows_on}
use Rattle.lower_template_theorems.proofs.growth.GrowingWorks.{grows, planless_grows}
use Rattle.lower_functions.specs.Statements.Switches as lowered
use Rattle.lower_functions.specs.Statements.Switches.{landing_of, choice_at, in_switch}
use Rattle.lower_functions.specs.declared.statements.switch_statements.CaseArm.{CaseArm}
use Rattle.lower_template_theorems.specs.Worklists.Derivations.{parts, Makes}
use Rattle.semantics.specs.SourceMachine.Items as item
use Rattle.semantics.specs.SourceMachine.Items.{Item}
use Rattle.semantics.specs.SourceMachine.LabelSearch as sought
use Rattle.semantics.specs.SourceMachine.LabelSearch.{Sought, case, other, found}
use Rattle.semantics.specs.SourceMachine.Scopes.{open_scopes}
use Rattle.semantics.specs.SourceMachine.StatementItems.{of_statement}
use Rattle.simulation_terms.specs.SimulationRelation.Activations.{Activation, of_entry}
use Rattle.simulation_terms.specs.SimulationRelation.Simulates as simulates
use Rattle.simulation_terms.specs.SimulationRelation.Simulates.{Leads, Simulates}
use Rattle.simulation_terms.proofs.simulation_relation.Constructions.{gives_statement, gives_loop_end}
use Rattle.simulation_terms.specs.Worklists.TemplateParts.{IsOfUnit, IsKnown, Stands}
use Rattle.simulation_terms.proofs.worklists.Runs.{known_before, stands_after, stands_behind}
use Rattle.simulation_terms.proofs.worklists.Laying.{from_piece, from_none, from_work, led, known_between}
use Rattle.simulation_terms.proofs.terms.Terms.{terms}
use Rattle.simulation_terms.specs.Scopes.Chains.{Chain, AreApart}
use Rattle.simulation_terms.specs.Scopes.Contexts.{Reaches, Within}
use Rattle.simulation_terms.specs.Scopes.SuitedStatements.{Enclosure, by_switch, SuitsIn}
use Rattle.simulation_terms.proofs.scopes.Contexts.{in_body}
use Rattle.simulation_terms.proofs.scopes.InScopes.{Goes, gives_way}
use Rattle.simulation_terms.proofs.scopes.Objects.{named_from, locals}
use Rattle.simulation_terms.proofs.scopes.Positions as positions
use Rattle.simulation_terms.proofs.scopes.Positions.{Position, position, past}
use Rattle.simulation_terms.proofs.scopes.Ways.{chain_there}
use Rattle.simulation_statements.specs.Labels.LabelScopes as labels
use Rattle.simulation_statements.specs.Labels.LabelScopes.{stands_in, IsFound}
use Rattle.simulation_statements.proofs.labels.LabelScopes.{in_scopes}
use Rattle.simulation_statements.specs.SwitchLabels.Choices.{IsChoice}
use Rattle.simulation_statements.specs.Gotos.Gotos.{HasLabels}
use Rattle.simulation_statements.specs.Switches.SwitchTargets.{IsTarget, HasTargets}
use Rattle.simulation_statements.proofs.switches.SwitchTargets.{switch_simulates}
use Rattle.simulation_statements.proofs.statements.Sequences.{HasParts, AboutStatement}
use Rattle.simulation_statements.proofs.statements.Selections.{count_terms, count_on, kept_one}
use Rattle.simulation_statements.proofs.statements.ForLoops.{from_many, kept_many}
use Rattle.simulation_statements.specs.Dispatches.LabelMarks.{IsMark, of_label, of_case, of_other}
use Rattle.simulation_statements.proofs.bodies.Finding.{finds_way, mark_kept}
use Rattle.simulation_statements.proofs.bodies.FoundSelections.{FoundStatement}
use Rattle.simulation_statements.proofs.dispatches.SwitchArms.{IsTargeted, all_arms, aimed, one_block, block_terms, block_planned, enters_some}
use Rattle.simulation_statements.proofs.dispatches.SwitchBlocks.{Comes, to_label, to_end, Goal, one_leads, AllGoals, all_goals, edge_jobs, edge_terms, entered_in, edges_planned, all_lead, all_reached, all_targets, target_of}
use Rattle.simulation_statements.proofs.dispatches.SwitchGoals.{goal_found, goal_behind, goal_of_case, is_found}
use Rattle.simulation_statements.proofs.dispatches.SwitchPlans.{dispatch_of, after_of, begun_of, started, begins, start_position, switch_mark, case_is_mark, other_is_mark, past_switch, arms_at, other_at, other_to, switched, dispatch_piece, valued, edged, dispatched, switch_plan, dispatch_keeps, start_grows, named_grows, other_grows, whole_grows, whole_jobs, whole_position, whole_names, valued_jobs, mention_jobs, same_switched}

no_label : (to : List Item) → None ≡ Some to → ⊥
no_label to e = cc

one_next : (a : ℕ) → a < a + 1
one_next a = omega arith

itself : (a : ℕ) → a ≤ a
itself a = omega arith

from_zero : (i : ℕ) → i ≡ 0 + i
from_zero i = omega arith

first_few : (a count : ℕ) → ((a + count) + 1) + 1 ≤ 2 ^ 32 - 1 → a + count ≤ 2 ^ 32 - 1
first_few a count few = omega (arith, few)

through : (a b c : ℕ) → a ≤ b → b ≤ c → a ≤ c
through a b c x y = omega (arith, x, y)

below : (a b c : ℕ) → a < b → b ≤ c → a < c
below a b c x y = omega (arith, x, y)

-- what is left to do from a label of the switch on, or behind it
reach : (t : Activation) (n : ℕ) (body : StatementTree) (items : List Item) (l : Sought) (mark after : ℕ) → ((to : List Item) → found t.unit l body (item.LoopEnd ∷ items) ≡ Some to → Reaches t n mark to) → Reaches t n after items → (to : List Item) (label : ℕ) → Comes t body items l mark after to label → Reaches t n label to
reach t n body items l mark after finds ends _ _ (to_label to is) = finds to is
reach t n body items l mark after finds ends _ _ to_end = ends

-- where the default label leads, or behind the switch
other_goal : (t : Activation) (s : SettingView) (apart : AreApart s) (body : StatementTree) (items : List Item) (from : ℕ) → Chain s from (open_scopes items) → (label after : ℕ) (d : Dispatch) → d.fallback ≡ label → (o : Option (List Item)) (noted : Option ℕ) → IsFound s o noted → found t.unit other body (item.LoopEnd ∷ items) ≡ o → Goal t s body items from other label after (landing_of noted d (record { label = after; scope = from }))
other_goal t s apart body items from chain label after d is_label _ _ labels.missing is = goal_behind t s apart body items from chain label after is
other_goal t s apart body items from chain label after d is_label _ _ (labels.there to number into) is = goal_found t s apart body items from chain other label after (record { label = d.fallback; scope = number }) to is is_label into

module _ (s : SettingView) (t : Activation) (fits : IsOfUnit t s) (f : FunctionView) (has : HasLabels t s f) (at : Place) (e : TermTree) (cases : List CaseLabel) (has_default : Bool) (values : Option (List ℤ)) (body : StatementTree) where
  abbrev whole : StatementTree
  whole = tree.Switch at e cases has_default values body

  abbrev plan : Surroundings → Plan → Plan
  plan around p = switch_plan s at e cases around.scope p body around

  abbrev inner : Surroundings → Plan → Surroundings
  inner around p = in_switch around (begun_of (length cases) around.scope p)

  parts_are : (around : Surroundings) (p : Plan) → parts s (jobs.Statement whole around) p ≡ plan around p
  parts_are around p = ap (λ b. lowered.switch_behind s at e cases body around b) (begins (length cases) around.scope p)

  -- ---- the body

  -- the end of the switch is where `break` goes
  inside : (n : ℕ) (around : Surroundings) (looping : Enclosure) (known : List ℕ) (p : Plan) (items : List Item) (rest : List PieceView) → Leads t (after_of (length cases) p) rest → Simulates t n 0 items rest → Within s t n around looping known items → Within s t n (inner around p) (by_switch looping) known (item.LoopEnd ∷ items)
  inside n around looping known p items rest to_after g k =
      let after = after_of (length cases) p in
      let ends = in_body s t n around looping known items (item.IterationEnd ∷ (item.LoopEnd ∷ items)) (item.LoopEnd ∷ items) after after rest rest refl refl refl refl to_after to_after g (gives_loop_end n 0 items rest g) k in
      record { within = k.within; chain = k.chain; labels = k.labels; on_break = λ e. ends.on_break refl; on_continue = k.on_continue }

  module _ (found_body : FoundStatement s t f body) (n : ℕ) (around : Surroundings) (looping : Enclosure) (known : List ℕ) (c : Position) (suits : SuitsIn t.unit f looping known whole) (stand : HasParts s whole around.scope c) where
    abbrev count : ℕ
    count = length cases

    -- labels of the body, where it stands in its pieces
    finds_in : (p po : Plan) → po.jobs ≡ [] → position po ≡ positions.in_switch c → (fb : List PieceView) (pb : Plan) → Makes s po (jobs.Statement body (inner around p) ∷ []) fb pb → IsKnown t pb → (items : List Item) (rest : List PieceView) → Stands t (fb ++ Mark (after_of count p) ∷ rest) → after_of count p + 1 ≤ 2 ^ 32 - 1 → Within s t n around looping known items → Simulates t n 0 items rest
        → (l : Sought) (mark : ℕ) → IsMark po (length p.dispatches) l mark → (to : List Item) → found t.unit l body (item.LoopEnd ∷ items) ≡ Some to → Reaches t n mark to
    finds_in p po none begun fb pb mb known_b items rest stands few k g l mark is to is_to =
        let after = after_of count p in
        let to_after = led s t fits after (after + 1) (after + 1) rest (one_next after) (itself (after + 1)) few (stands_behind t fb (Mark after ∷ rest) stands) in
        (found_body n (inner around p) (by_switch looping) known (positions.in_switch c) suits.4 (stand.0, stand.1.1)).from po none begun fb pb mb known_b (item.LoopEnd ∷ items) (Mark after ∷ rest) stands (inside n around looping known p items rest to_after g k)
        (simulates.by_mark n 0 after (item.LoopEnd ∷ items) rest (gives_loop_end n 0 items rest g)) l mark is to is_to

    begun_in : (p : Plan) → p.jobs ≡ [] → position p ≡ c → position (planless (plan around p)) ≡ positions.in_switch c
    begun_in p none begun = whole_position s at e cases around.scope p body around ∙ (dispatch_keeps s at e cases around.scope p none).scopes ∙ start_position count p ∙ ap positions.in_switch begun

    start_to : (p : Plan) → Grows (started count p) (planless (plan around p))
    start_to p = grows_on (started count p) (dispatched s at e cases around.scope p) (planless (plan around p)) (start_grows s at e cases around.scope p) (planless_grows (dispatched s at e cases around.scope p) (plan around p) (whole_grows s at e cases around.scope p body around))

    -- ---- labels of the function

    label_from : (p : Plan) → p.jobs ≡ [] → position p ≡ c → (ps : List PieceView) (r : Plan) → Makes s (planless (plan around p)) (plan around p).jobs ps r → IsKnown t r → (items : List Item) (rest : List PieceView) → Stands t (ps ++ rest) → Within s t n around looping known items → Simulates t n 0 items rest
        → (l : ℕ) → l < (planless (plan around p)).labels → (to : List Item) → found t.unit (sought.label l) body (item.LoopEnd ∷ items) ≡ Some to → Reaches t n l to
    label_from p none begun ps r m known_r items rest stands k g l less to is_to =
        let all = plan around p in
        let start = planless all in
        let after = after_of count p in
        let js = (dispatched s at e cases around.scope p).jobs in
        let tail : List Job = jobs.Statement body (inner around p) ∷ (jobs.Ready (Mark after) ∷ []) in
        let known_all = known_between s t start all.jobs ps r m known_r in
        let few = (known_before t (started count p) start (start_to p) known_all).labels in
        let G : List PieceView → Type 0 = λ w. Stands t w → Reaches t n l to in
        from_many s t fits f r rest start js tail ps G refl (subst (λ ks. Makes s start ks ps r) (whole_jobs s at e cases around.scope p body around) m)
        (λ fo po b1 mo none_o m1. from_work s r rest po (jobs.Statement body (inner around p)) _ b1 (λ w. G (fo ++ w)) none_o m1
        (λ fb pb b2 mb none_b m2. from_piece s r rest pb (Mark after) [] b2 (λ w. G (fo ++ (fb ++ w))) m2
        (λ b3 m3. from_none s r rest pb b3 (λ w. G (fo ++ (fb ++ Mark after ∷ w))) m3
        (λ stands.
        let begun_o = kept_many s t fits f start js fo po (dispatch_keeps s at e cases around.scope p none).terms refl mo ∙ begun_in p none begun in
        finds_in p po none_o begun_o fb pb mb (known_between s t pb _ _ r m2 known_r) items rest (stands_behind t fo (fb ++ Mark after ∷ rest) stands) few k g (sought.label l) l (of_label l (below l start.labels po.labels less (grows s start js fo po mo).labels)) to is_to)))) stands

    -- ---- the dispatch

    switch_from : (p : Plan) → p.jobs ≡ [] → position p ≡ c → (ps : List PieceView) (r : Plan) → Makes s (planless (plan around p)) (plan around p).jobs ps r → IsKnown t r → (items : List Item) (rest : List PieceView) → Stands t (ps ++ rest) → Within s t n around looping known items → Simulates t n 0 items rest
        → Simulates t n 0 (item.Value e ∷ (item.Select at (named e) cases body ∷ (item.LoopEnd ∷ items))) (ps ++ rest)
    switch_from p none begun ps r m known_r items rest stands k g =
        let from = around.scope in
        let all = plan around p in
        let start = planless all in
        let after = after_of count p in
        let number = length p.dispatches in
        let choice : IsChoice s number count body from c.scopes = subst (λ b. IsChoice s b count body from c.scopes) (sym (ap (λ (x : Position). x.switches) begun)) stand.1.0 in
        let enough = chain_there s from (open_scopes items) k.chain in
        let known_all = known_between s t start all.jobs ps r m known_r in
        let few = (known_before t (started count p) start (start_to p) known_all).labels in
        let armed = arms_at s at e cases from p in
        let arms = all_arms s from cases p.labels (choice_at s number).first (started count p) (first_few p.labels count few) choice.few in
        let last = other_at s at e cases from p in
        let last_to = other_to s at e cases from p in
        let one = aimed s from last armed.after in
        let mark : Sought → ℕ = switch_mark count p in
        let goals : AllGoals t s fits n body items from enough after mark 0 armed.arms = all_goals t s fits n body items from enough after mark 0 armed.arms (λ i a there. let y = arms.each i a there in
        subst (λ j. Goal t s body items from (case j) (mark (case j)) after a.landing) (from_zero i) (goal_of_case t s has.apart body items from k.chain c.scopes stand.0 i (p.labels + i) after a.landing (is_found t.unit f i body (by_switch looping) known (item.LoopEnd ∷ items) suits.4 (suits.3 i y.0)) y.1.label_is (λ scope is. y.1.scope_is ∙ choice.cases i scope y.0 is))) in
        let goal : Goal t s body items from other (p.labels + count) after last = subst (λ noted. Goal t s body items from other (p.labels + count) after (landing_of noted (dispatch_of count p) (record { label = after; scope = from }))) (sym choice.fallback)
        (other_goal t s has.apart body items from k.chain (p.labels + count) after (dispatch_of count p) refl (found t.unit other body (item.LoopEnd ∷ items)) (stands_in other body from c.scopes) (in_scopes t s other body from c.scopes (item.LoopEnd ∷ items) stand.0 k.chain) refl) in
        let v = valued s at e cases from p in
        let ev = edged s at e cases from p in
        let dv = dispatched s at e cases from p in
        let sw = switched s at e cases from p in
        let piece = dispatch_piece s at e cases from p in
        let edges = edges_planned t s fits n body items from enough after mark 0 armed.arms goals v in
        let end = block_planned s from enough last_to.to last goal.objects goal.between goal.is_there ev in
        let ej = edge_jobs t s fits n body items from enough after mark 0 armed.arms goals (length v.names) in
        let bj = one_block s.at last_to.to last.label goal.objects (length ev.names) in
        let xs = entered_in t s fits n body items from enough after mark 0 armed.arms goals in
        let tail : List Job = jobs.Statement body (inner around p) ∷ (jobs.Ready (Mark after) ∷ []) in
        let heads : List Job = jobs.Value e 0 ∷ (jobs.Ready piece ∷ []) in
        let none_named = mention_jobs (named e) last_to.after ∙ one.jobs ∙ arms.jobs ∙ none in
        let jobs_are : all.jobs ≡ jobs.Value e 0 ∷ (jobs.Ready piece ∷ (ej ++ (bj ++ tail))) =
        whole_jobs s at e cases from p body around ∙ ap (λ js. js ++ tail) (end.jobs ∙ ap (λ js. js ++ bj) (edges.jobs ∙ ap (λ js. js ++ ej) (valued_jobs s at e cases from p none_named)))
        ∙ append_assoc (heads ++ ej) bj tail ∙ append_assoc heads ej (bj ++ tail) in
        let names_are = whole_names s at e cases from p body around ∙ end.names ∙ ap (λ ns. ns ++ locals goal.objects) edges.names ∙ append_assoc v.names (locals xs) (locals goal.objects) in
        let named_edges = named_from t start v.names xs (locals goal.objects) known_all names_are in
        let named_end = named_from t start ev.names goal.objects [] known_all (whole_names s at e cases from p body around ∙ end.names ∙ ap (λ ns. ev.names ++ ns) (sym (append-nil (locals goal.objects)))) in
        let grown_all = planless_grows dv all (whole_grows s at e cases from p body around) in
        let other_all = grows_on last_to.after dv start (other_grows s at e cases from p) grown_all in
        let known_sw = known_before t sw.after start (grows_on sw.after dv start (named_grows s at e cases from p) grown_all) known_all in
        let same = same_switched t f has.is (named e) suits.1 last_to.after known_sw in
        let select : List Item = item.Select at (named e) cases body ∷ (item.LoopEnd ∷ items) in
        let G : List PieceView → Type 0 = λ w. Stands t w → Simulates t n 0 (item.Value e ∷ select) w in
        from_work s r rest start (jobs.Value e 0) _ ps G refl (subst (λ ks. Makes s start ks ps r) jobs_are m)
        (λ fv pv b1 mv none_v m1. from_piece s r rest pv piece _ b1 (λ w. G (fv ++ w)) m1
        (λ b2 m2. from_many s t fits f r rest pv ej (bj ++ tail) b2 (λ w. G (fv ++ piece ∷ w)) none_v m2
        (λ fe pe b3 me none_e m3. from_many s t fits f r rest pe bj tail b3 (λ w. G (fv ++ piece ∷ (fe ++ w))) none_e m3
        (λ fo po b4 mo none_o m4. from_work s r rest po (jobs.Statement body (inner around p)) _ b4 (λ w. G (fv ++ piece ∷ (fe ++ (fo ++ w)))) none_o m4
        (λ fb pb b5 mb none_b m5. from_piece s r rest pb (Mark after) [] b5 (λ w. G (fv ++ piece ∷ (fe ++ (fo ++ (fb ++ w))))) m5
        (λ b6 m6. from_none s r rest pb b6 (λ w. G (fv ++ piece ∷ (fe ++ (fo ++ (fb ++ Mark after ∷ w))))) m6
        (λ stands.
        let wb = fb ++ Mark after ∷ rest in
        let we = fo ++ wb in
        let wd = fe ++ we in
        let at_edges = stands_after t piece wd (stands_behind t fv (piece ∷ wd) stands) in
        let at_end = stands_behind t fe we at_edges in
        let at_body = stands_behind t fo wb at_end in
        let at_last = stands_behind t fb (Mark after ∷ rest) at_body in
        let to_after = led s t fits after (after + 1) (after + 1) rest (one_next after) (itself (after + 1)) few at_last in
        let begun_o = kept_many s t fits f pe bj fo po (block_terms s.at last_to.to last.label goal.objects (length ev.names)) none_e mo ∙ kept_many s t fits f pv ej fe pe (edge_terms t s fits n body items from enough after mark 0 armed.arms goals (length v.names)) none_v me ∙ kept_one s start (jobs.Value e 0) fv pv tt refl mv ∙ begun_in p none begun in
        let grown_v = grows s start (jobs.Value e 0 ∷ []) fv pv mv in
        let grown_e = grows s pv ej fe pe me in
        let grown_o = grows_on (started count p) pe po (grows_on (started count p) pv pe (grows_on (started count p) start pv (start_to p) grown_v) grown_e) (grows s pe bj fo po mo) in
        let finds = finds_in p po none_o begun_o fb pb mb (known_between s t pb _ _ r m5 known_r) items rest at_body few k g in
        let ends : Reaches t n after items = record { there = rest; leads = to_after; simulates = g } in
        let reached = all_reached t s fits n body items from enough after mark 0 armed.arms goals (λ i a there. let y = arms.each i a there in
        subst (λ j. (x : Goal t s body items from (case j) (mark (case j)) after a.landing) → Reaches t n a.landing.label x.to) (from_zero i)
        (λ x. reach t n body items (case i) (p.labels + i) after (λ to is. finds (case i) (p.labels + i) (mark_kept (started count p) po number (case i) (p.labels + i) grown_o (case_is_mark count p i y.0 few)) to is) ends x.to a.landing.label x.comes)) in
        let reached_end = reach t n body items other (p.labels + count) after (λ to is. finds other (p.labels + count) (mark_kept (started count p) po number other (p.labels + count) grown_o (other_is_mark count p)) to is) ends goal.to last.label goal.comes in
        let enough_v = through armed.after.labels last_to.after.labels pv.labels one.labels (through last_to.after.labels start.labels pv.labels other_all.labels grown_v.labels) in
        let enough_e = through last_to.after.labels pv.labels pe.labels (through last_to.after.labels start.labels pv.labels other_all.labels grown_v.labels) grown_e.labels in
        let targets_are : (i : ℕ) (a : CaseArm) → slice_get armed.arms i ≡ Some a → IsTargeted s from a.landing a.to armed.after.labels = λ i a there. (arms.each i a there).1.target in
        let entered = all_lead t s fits n body items from enough after mark armed.after.labels 0 armed.arms goals (length v.names) targets_are pv none_v enough_v fe pe me (known_between s t pe _ _ r m3 known_r) named_edges we at_edges in
        let entered_end = one_leads t s fits n last_to.to last.label goal.objects (length ev.names) pe none_e fo po mo (known_between s t po _ _ r m4 known_r) named_end
        (λ some. below last_to.to last_to.after.labels pe.labels (one.target.own (enters_some s from enough last goal.objects goal.between goal.is_there ∙ ap not some)) enough_e) wb at_end in
        let targets : HasTargets t n 0 body (item.LoopEnd ∷ items) armed.arms last_to.to = record {
          cases = λ i a there. subst (λ j. IsTarget t n 0 body (item.LoopEnd ∷ items) (case j) a.to) (sym (from_zero i)) (all_targets t s fits n body items from enough after mark armed.after.labels 0 armed.arms goals targets_are entered reached i a there);
          others = target_of t s fits n body items from enough after mark other last last_to.to last_to.after.labels goal one.target entered_end reached_end;
        } in
        ((terms s t fits n e).value 0 suits.0.0 suits.0.1).from start refl fv pv mv (known_between s t pv _ _ r m1 known_r) select (piece ∷ wd) stands
        (switch_simulates t n 0 at (integer_type (term_type e)) (named e) sw.base cases armed.arms last_to.to body (item.LoopEnd ∷ items) wd arms.are same targets)))))))) stands

  -- ---- the statement

  pub of_switch : AboutStatement s t f body → FoundStatement s t f body → AboutStatement s t f whole
  of_switch about found_body n around looping known c suits stand =
      let j = jobs.Statement whole around in
      let last = past (positions.in_switch c) body in
      subst (λ k. Goes s t n c k (Within s t n around looping known) (j ∷ []) (item.Statement whole ∷ [])) (past_switch c body)
      (gives_way s t n c last (Within s t n around looping known) j (item.Statement whole) (of_statement t.unit (of_entry t) whole) refl (gives_statement n 0 whole)
      (λ p none begun ps r m known_r items rest stands k g. switch_from found_body n around looping known c suits stand p none begun ps r (subst (λ q. Makes s (planless q) q.jobs ps r) (parts_are around p) m) known_r items rest stands k g)
      (λ p none begun ps r m.
      let all = plan around p in
      let in_plan = subst (λ q. Makes s (planless q) q.jobs ps r) (parts_are around p) m in
      let ends = (about n (inner around p) (by_switch looping) known (positions.in_switch c) suits.4 (stand.0, stand.1.1)).ends in
      let js = (dispatched s at e cases around.scope p).jobs in
      count_on s (positions.in_switch c) (positions.in_switch c) last js (jobs.Statement body (inner around p) ∷ (jobs.Ready (Mark (after_of (length cases) p)) ∷ [])) (count_terms s (positions.in_switch c) js (dispatch_keeps s at e cases around.scope p none).terms)
      (count_on s (positions.in_switch c) last last (jobs.Statement body (inner around p) ∷ []) (jobs.Ready (Mark (after_of (length cases) p)) ∷ []) ends (count_terms s last (jobs.Ready (Mark (after_of (length cases) p)) ∷ []) (tt, tt)))
      (planless all) refl (begun_in found_body n around looping known c suits stand p none begun) ps r (subst (λ ks. Makes s (planless all) ks ps r) (whole_jobs s at e cases around.scope p body around) in_plan)))

  pub found_switch : FoundStatement s t f body → FoundStatement s t f whole
  unfolding found
  found_switch found_body n around looping known c suits stand =
      finds_way s t n around.choice c (Within s t n around looping known) (jobs.Statement whole around) (λ l items. sought.inside_switch l (found t.unit l body (item.LoopEnd ∷ items))) refl
      (λ p none begun ps r m known_r items rest stands k g l mark is to is_to. by p none begun ps r (subst (λ q. Makes s (planless q) q.jobs ps r) (parts_are around p) m) known_r items rest stands k g l mark (subst (λ q. IsMark (planless q) around.choice l mark) (parts_are around p) is) to is_to)
    where
      by : (p : Plan) → p.jobs ≡ [] → position p ≡ c → (ps : List PieceView) (r : Plan) → Makes s (planless (plan around p)) (plan around p).jobs ps r → IsKnown t r → (items : List Item) (rest : List PieceView) → Stands t (ps ++ rest) → Within s t n around looping known items → Simulates t n 0 items rest
          → (l : Sought) (mark : ℕ) → IsMark (planless (plan around p)) around.choice l mark → (to : List Item) → sought.inside_switch l (found t.unit l body (item.LoopEnd ∷ items)) ≡ Some to → Reaches t n mark to
      by p none begun ps r m known_r items rest stands k g _ _ (of_label l less) to is_to = label_from found_body n around looping known c suits stand p none begun ps r m known_r items rest stands k g l less to is_to
      by p none begun ps r m known_r items rest stands k g _ _ (of_case i there less) to is_to = absurd (no_label to is_to)
      by p none begun ps r m known_r items rest stands k g _ _ (of_other there less) to is_to = absurd (no_label to is_to)
