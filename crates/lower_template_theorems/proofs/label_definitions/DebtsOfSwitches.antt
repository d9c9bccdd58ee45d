-- The marks that a switch is to make: those of its cases, of its default label, of its edges and of its end.
use Rattle.std.proofs.Common.{◌≡◌, ◌≤◌, ◌<◌, ℕ, ◌+◌, ◌-◌, ◌^◌, ◌==◌, Bool, true, false, cond, nat_le, nat_lt, List, [], ◌∷◌, ◌++◌, length, Option, Some, None, slice_get, inl, refl, arith, ap, sym, subst, ◌∙◌, length-append}
use Rattle.std.proofs.lemmas.Bool.{leb-true, leb-false, ltb-true, ltb-false}
use Rattle.std.proofs.lemmas.Option.{slice_get-get_or}
use Rattle.std.proofs.lemmas.List.{get_or_append_left}
use Rattle.std.proofs.Math.Seq.{get_or-append_seam}
use Rattle.cc_base.specs.declared.diagnostics.Place.{Place}
use Rattle.c_layout.specs.CheckedTrees.{TermTree, StatementTree}
use Rattle.c_layout.specs.declared.checked_tree.checked_statements.CaseLabel.{CaseLabel}
use Rattle.lower_conditions.specs.Tests.{named}
use Rattle.lower_conditions.specs.declared.branch_tests.NamedObject.{NamedObject}
use Rattle.cfg.specs.declared.machine_instructions.Scalar.{Scalar}
use Rattle.cfg.specs.declared.machine_instructions.Scalar.TheVariants as scalar
use Rattle.lower_functions.specs.Statements.ScopeJumps.{leap, enters_between}
use Rattle.lower_functions.specs.Statements.Switches.{no_dispatch, mention_of, mention_if, switched_object, targeted, edge_target, case_arms, case_landing, edge_block, edge_blocks, dispatch_exits, begin_switch, dispatch, choice_at, other_landing, in_switch, switch}
use Rattle.lower_functions.specs.declared.statements.switch_statements.SwitchBegun.{SwitchBegun}
use Rattle.lower_functions.specs.declared.statements.switch_statements.CaseArm.{CaseArm}
use Rattle.lower_templates.specs.Worklist.Acts as acts
use Rattle.lower_templates.specs.Worklist.TermKinds.{integer_type, term_type}
use Rattle.lower_templates.specs.Worklist.Works as jobs
use Rattle.lower_templates.specs.Worklist.Plans.{Plan, with_work, with_labels, with_dispatch, ended, begun}
use Rattle.lower_templates.specs.Worklist.Settings.{SettingView}
use Rattle.lower_templates.specs.declared.worklist.template_builder.Dispatch.{Dispatch}
use Rattle.lower_templates.specs.declared.worklist.pending_works.Landing.{Landing}
use Rattle.lower_templates.specs.declared.worklist.pending_works.Surroundings.{Surroundings}
use Rattle.lower_template_theorems.specs.Growth.Growth.{Grows}
use Rattle.lower_template_theorems.specs.PendingLabels.Marks.{one, below, labels_in, cases_in, defaults_in, IsSelected, AreSelected}
use Rattle.lower_template_theorems.proofs.growth.Growth.{grows_not, works}
use Rattle.lower_template_theorems.proofs.growth.GrowingStatements.{grows_mention, grows_dispatch_behind, grows_dispatch_of}
use Rattle.lower_template_theorems.proofs.pending_labels.MarkArithmetic.{one_below, below_more, below_yes, below_no}
use Rattle.lower_template_theorems.proofs.pending_labels.Debts.{dispatched, HasRoom, IsSound, Owed, owed_none, owed_mark, owed_statement, debts}
use Rattle.lower_template_theorems.proofs.pending_labels.DebtsOfTerms.{Paid, labels_of}
use Rattle.lower_template_theorems.proofs.label_definitions.DebtsOfStatements.{owed_leap}

-- ---- the edges of the dispatch

abbrev arm_marks : ℕ → SettingView → ℕ → CaseArm → ℕ
arm_marks l s from a = cond (enters_between s from a.landing.scope) (one l a.to) 0

abbrev arms_marks : ℕ → SettingView → ℕ → List CaseArm → ℕ
arms_marks l s from [] = 0
arms_marks l s from (a ∷ arms) = arm_marks l s from a + arms_marks l s from arms

nothing_more : (k : ℕ) → k ≡ k + 0
nothing_more k = omega arith

owed_edge : {ds : List Dispatch} {l k : ℕ} (s : SettingView) (from to : ℕ) (landing : Landing) (p : Plan) → Owed ds l k p → Owed ds l (k + cond (enters_between s from landing.scope) (one l to) 0) (edge_block s from to landing p)
owed_edge {ds = ds} {l = l} {k = k} s from to landing p o = by (enters_between s from landing.scope)
  where
    by : (b : Bool) → Owed ds l (k + cond b (one l to) 0) (cond b (leap s from landing (begun to p)) p)
    by true = owed_leap s from landing (begun to p) (owed_mark to p o)
    by false = subst (λ n. Owed ds l n p) (nothing_more k) o

owed_edges : {ds : List Dispatch} {l : ℕ} (s : SettingView) (from : ℕ) (arms : List CaseArm) (p : Plan) (k : ℕ) → Owed ds l k p → Owed ds l (k + arms_marks l s from arms) (edge_blocks s from arms p)
owed_edges {ds = ds} {l = l} s from [] p k o = subst (λ n. Owed ds l n p) (nothing_more k) o
owed_edges {ds = ds} {l = l} s from (a ∷ arms) p k o =
    let rest = owed_edges s from arms (edge_block s from a.to a.landing p) (k + arm_marks l s from a) (owed_edge s from a.to a.landing p o) in
    subst (λ n. Owed ds l n (edge_blocks s from (a ∷ arms) p)) (assoc k (arm_marks l s from a) (arms_marks l s from arms)) rest
  where
    assoc : (x y z : ℕ) → (x + y) + z ≡ x + (y + z)
    assoc x y z = omega arith

target_below : (l : ℕ) (s : SettingView) (from : ℕ) (to : Landing) (p : Plan) → cond (enters_between s from to.scope) (one l (edge_target s from to p).to) 0 + below l p.labels ≤ below l (edge_target s from to p).after.labels
target_below l s from to p = by (enters_between s from to.scope)
  where
    given : one l p.labels + below l p.labels ≤ below l (with_labels 1 p).labels
    given = subst (λ n. one l p.labels + below l p.labels ≤ below l n) (sym (labels_of 1 p)) (one_below l p.labels)

    same : (n : ℕ) → 0 + n ≤ n
    same n = omega arith

    by : (b : Bool) → cond b (one l (cond b (targeted p.labels (with_labels 1 p)) (targeted to.label p)).to) 0 + below l p.labels ≤ below l (cond b (targeted p.labels (with_labels 1 p)) (targeted to.label p)).after.labels
    by true = given
    by false = same (below l p.labels)

arms_below : (l : ℕ) (s : SettingView) (from label number : ℕ) (cs : List CaseLabel) (p : Plan) → arms_marks l s from (case_arms s from label number cs p).arms + below l p.labels ≤ below l (case_arms s from label number cs p).after.labels
arms_below l s from label number [] p = same (below l p.labels)
  where
    same : (n : ℕ) → 0 + n ≤ n
    same n = omega arith
arms_below l s from label number (c ∷ cs) p =
    let to = case_landing s label number in
    sum _ _ _ _ _ (target_below l s from to p) (arms_below l s from (jobs.behind label 1) (jobs.behind number 1) cs (edge_target s from to p).after)
  where
    sum : (x y a b c : ℕ) → x + a ≤ b → y + b ≤ c → (x + y) + a ≤ c
    sum x y a b c p q = omega (arith, p, q)

-- ---- parts that owe nothing

owed_mention_of : {ds : List Dispatch} {l k : ℕ} (o : NamedObject) (kind : Scalar) (p : Plan) → Owed ds l k p → Owed ds l k (mention_of o kind p).after
owed_mention_of o (scalar.Int kind) p g = search debts
owed_mention_of o scalar.Pointer p g = g

owed_mention : {ds : List Dispatch} {l k : ℕ} (o : Option NamedObject) (p : Plan) → Owed ds l k p → Owed ds l k (mention_if o p).after
owed_mention None p g = g
owed_mention (Some o) p g = owed_mention_of o o.kind p g

owed_target : {ds : List Dispatch} {l k : ℕ} (s : SettingView) (from : ℕ) (to : Landing) (p : Plan) → Owed ds l k p → Owed ds l k (edge_target s from to p).after
owed_target {ds = ds} {l = l} {k = k} s from to p g = by (enters_between s from to.scope)
  where
    by : (b : Bool) → Owed ds l k (cond b (targeted p.labels (with_labels 1 p)) (targeted to.label p)).after
    by true = search debts
    by false = g

owed_arms : {ds : List Dispatch} {l k : ℕ} (s : SettingView) (from label number : ℕ) (cs : List CaseLabel) (p : Plan) → Owed ds l k p → Owed ds l k (case_arms s from label number cs p).after
owed_arms s from label number [] p g = g
owed_arms s from label number (c ∷ cs) p g = owed_arms s from (jobs.behind label 1) (jobs.behind number 1) cs (edge_target s from (case_landing s label number) p).after (owed_target s from (case_landing s label number) p g)

-- ---- what a switch gives away

abbrev own_dispatch : ℕ → Plan → Dispatch
own_dispatch count p = record { cases = p.labels; fallback = p.labels + count }

begins_choice : (count scope : ℕ) (p : Plan) → (begin_switch count scope p).begun.choice ≡ length p.dispatches
unfolding with_labels
begins_choice count scope p = refl

begins_dispatch : (count scope : ℕ) (p : Plan) → (begin_switch count scope p).begun.dispatch ≡ own_dispatch count p
unfolding with_labels
begins_dispatch count scope p = refl

begins_dispatches : (count scope : ℕ) (p : Plan) → (begin_switch count scope p).after.dispatches ≡ p.dispatches ++ own_dispatch count p ∷ []
unfolding with_labels with_dispatch
begins_dispatches count scope p = refl

begins_end : (count scope : ℕ) (p : Plan) → (begin_switch count scope p).begun.after.label ≡ p.labels + count + 1
unfolding with_labels with_dispatch
begins_end count scope p = refl

begins_labels : (count scope : ℕ) (p : Plan) → (begin_switch count scope p).after.labels ≡ p.labels + count + 1 + 1
unfolding with_labels with_dispatch
begins_labels count scope p = refl

-- ---- the labels in the body

cases_below : (l first count : ℕ) (body : StatementTree) → IsSelected count body → cond (nat_le first l) (cases_in (l - first) body) 0 + below l first ≤ below l (first + count)
cases_below l first count body selected = by (nat_le first l) refl
  where
    shifted : first ≤ l → below (l - first) count ≤ below l (first + count)
    shifted le = at (nat_le (first + count) l) refl
      where
        none : (x y : ℕ) → x ≡ 0 → x ≤ y
        none x y e = omega (arith, e)

        same : (x y : ℕ) → x ≡ 1 → y ≡ 1 → x ≤ y
        same x y e f = omega (arith, e, f)

        at : (b : Bool) → nat_le (first + count) l ≡ b → below (l - first) count ≤ below l (first + count)
        at true e = let past = leb-true (first + count) l e in none _ _ (below_no (l - first) count (omega (arith, past, le)))
        at false e = let before = leb-false (first + count) l e in same _ _ (below_yes (l - first) count (omega (arith, before, le))) (below_yes l (first + count) before)

    sum : (c b x y : ℕ) → c ≤ x → b ≡ 0 → x ≤ y → c + b ≤ y
    sum c b x y p q r = omega (arith, p, q, r)

    early : (x y : ℕ) → x ≡ 1 → y ≡ 1 → 0 + x ≤ y
    early x y e f = omega (arith, e, f)

    by : (b : Bool) → nat_le first l ≡ b → cond b (cases_in (l - first) body) 0 + below l first ≤ below l (first + count)
    by true e = let le = leb-true first l e in sum _ _ _ _ (selected.cases (l - first)) (below_no l first le) (shifted le)
    by false e = let less = leb-false first l e in early _ _ (below_yes l first less) (below_yes l (first + count) (omega (arith, less)))

default_below : (l fallback count : ℕ) (body : StatementTree) → IsSelected count body → cond (l == fallback) (defaults_in body) 0 ≤ one l fallback
default_below l fallback count body selected = by (l == fallback)
  where
    by : (b : Bool) → cond b (defaults_in body) 0 ≤ cond b 1 0
    by true = selected.fallback
    by false = omega arith

body_below : (l count : ℕ) (body : StatementTree) (p : Plan) → IsSelected count body → dispatched l (Some (own_dispatch count p)) body + below l p.labels ≤ below l (p.labels + count + 1)
body_below l count body p selected =
    let a = cases_below l p.labels count body selected in
    let b = default_below l (p.labels + count) count body selected in
    let c = one_below l (p.labels + count) in
    omega (arith, a, b, c)

-- ---- the dispatch

-- what the dispatch owes, and no more than the labels of its edges
record Sends (ds : List Dispatch) (l : ℕ) (q r : Plan) : Type 0 where
  marks : ℕ
  owed : Owed ds l marks r
  most : marks + below l q.labels ≤ below l r.labels

sends : {ds : List Dispatch} {l : ℕ} (s : SettingView) (at : Place) (e : TermTree) (cases : List CaseLabel) (from : ℕ) (b : SwitchBegun) (q : Plan) → Owed ds l 0 q → Sends ds l q (dispatch s at e cases from b q)
sends {ds = ds} {l = l} s at e cases from b q began =
    let landing = other_landing (choice_at s b.choice) b.dispatch b.after in
    let first = (choice_at s b.choice).first in
    let a = case_arms s from b.dispatch.cases first cases q in
    let other = edge_target s from landing a.after in
    let mention = switched_object e other.after in
    let found : Owed ds l 0 mention.after = owed_mention (named e) other.after (owed_target s from landing a.after (owed_arms s from b.dispatch.cases first cases q began)) in
    let sent = ended at (acts.Switch 0 (integer_type (term_type e))) (dispatch_exits a.arms cases mention.base other.to) (with_work (jobs.Value e 0) mention.after) in
    let valued : Owed ds l 0 sent = search debts depth 30 in
    let edged = owed_edges s from a.arms sent 0 valued in
    let done = owed_edge s from other.to landing (edge_blocks s from a.arms sent) edged in
    let known : Grows other.after mention.after = grows_mention (named e) other.after (grows_not other.after) in
    let grown : Grows other.after (dispatch s at e cases from b q) = grows_dispatch_behind s at e cases from landing a.arms other.to mention known in
    record {
      marks = (0 + arms_marks l s from a.arms) + cond (enters_between s from landing.scope) (one l other.to) 0;
      owed = done;
      most = sum _ _ _ _ _ _ (arms_below l s from b.dispatch.cases first cases q) (target_below l s from landing a.after) (below_more l other.after.labels (dispatch s at e cases from b q).labels grown.labels);
    }
  where
    sum : (x y a b c d : ℕ) → x + a ≤ b → y + b ≤ c → c ≤ d → ((0 + x) + y) + a ≤ d
    sum x y a b c d p q r = omega (arith, p, q, r)

-- ---- a switch

own_found : (p : Plan) (d : Dispatch) (ds more : List Dispatch) → ds ≡ (p.dispatches ++ d ∷ []) ++ more → slice_get ds (length p.dispatches) ≡ Some d
own_found p d ds more e =
    let own = p.dispatches ++ d ∷ [] in
    let counted = length-append p.dispatches (d ∷ []) in
    let there : length p.dispatches < length own = omega (arith, counted) in
    let all = length-append own more in
    let inside : length p.dispatches < length (own ++ more) = omega (arith, all, there) in
    subst (λ xs. slice_get xs (length p.dispatches) ≡ Some d) (sym e)
    (slice_get-get_or (own ++ more) (length p.dispatches) no_dispatch inside ∙ ap Some (get_or_append_left own more no_dispatch (length p.dispatches) there ∙ get_or-append_seam p.dispatches d [] no_dispatch))

own_inside : (p : Plan) (d : Dispatch) (ds more : List Dispatch) → ds ≡ (p.dispatches ++ d ∷ []) ++ more → length p.dispatches < length ds
own_inside p d ds more e =
    let own = p.dispatches ++ d ∷ [] in
    let counted = length-append p.dispatches (d ∷ []) in
    let all = length-append own more in
    let there : length p.dispatches < length (own ++ more) = omega (arith, counted, all) in
    subst (λ xs. length p.dispatches < length xs) (sym e) there

own_same : (d x : Dispatch) → Some d ≡ Some x → d ≡ x
own_same d x e = cc

-- the cases of a switch have their labels before the last number
room_of : (first count : ℕ) (body : StatementTree) → IsSelected count body → first + count + 1 + 1 ≤ 2 ^ 32 - 1 → (n : ℕ) → 1 ≤ cases_in n body → first + n ≤ 2 ^ 32 - 1
room_of first count body selected most n some = by (nat_lt n count) refl
  where
    by : (b : Bool) → nat_lt n count ≡ b → first + n ≤ 2 ^ 32 - 1
    by true e = let less = ltb-true n count e in omega (arith, less, most)
    by false e = let none = below_no n count (ltb-false n count e) in let le = selected.cases n in absurd (no none le)
      where
        no : below n count ≡ 0 → cases_in n body ≤ below n count → ⊥
        no none le = omega (arith, some, none, le)

pub paid_switch : (l : ℕ) (s : SettingView) (at : Place) (e : TermTree) (cases : List CaseLabel) (body : StatementTree) (around : Surroundings) (p : Plan) (before : ℕ) → p.jobs ≡ [] → IsSelected (length cases) body → AreSelected body → labels_in l body ≤ before → (switch s at e cases body around p).labels ≤ 2 ^ 32 - 1 → Paid (switch s at e cases body around p).dispatches l before p (switch s at e cases body around p)
paid_switch l s at e cases body around p before none selected all_selected enough few =
    let count = length cases in
    let b = begin_switch count around.scope p in
    let r = switch s at e cases body around p in
    let ds = r.dispatches in
    let own = own_dispatch count p in
    let start : Owed ds l 0 p = owed_none p none in
    let began : Owed ds l 0 b.after = search debts depth 30 in
    let sent = sends s at e cases around.scope b.begun b.after began in
    let d = dispatch s at e cases around.scope b.begun b.after in
    let way : Grows b.after d = grows_dispatch_of s at e cases around.scope b.begun b.after (grows_not b.after) in
    let grown : Grows b.after r = search works depth 30 in
    let here : Grows d d = grows_not d in
    let last : Grows d r = search works depth 30 in
    let all : ds ≡ (p.dispatches ++ own ∷ []) ++ grown.more_dispatches = grown.dispatches ∙ ap (λ xs. xs ++ grown.more_dispatches) (begins_dispatches count around.scope p) in
    let inside : b.begun.choice < length ds = subst (λ c. c < length ds) (sym (begins_choice count around.scope p)) (own_inside p own ds grown.more_dispatches all) in
    let found : slice_get ds b.begun.choice ≡ Some own = ap (λ c. slice_get ds c) (begins_choice count around.scope p) ∙ own_found p own ds grown.more_dispatches all in
    let most : p.labels + count + 1 + 1 ≤ 2 ^ 32 - 1 = (let labelled = begins_labels count around.scope p in let more = grown.labels in omega (arith, labelled, more, few)) in
    let room : (x : Dispatch) → slice_get ds b.begun.choice ≡ Some x → HasRoom x body = λ x is. subst (λ y. HasRoom y body) (own_same own x (sym found ∙ is)) (room_of p.labels count body selected most) in
    let sound : IsSound ds body b.begun.choice = record { placed = inl (record { there = inside; room = room }); switches = all_selected } in
    let stated = owed_statement body (in_switch around b.begun) d sound sent.owed in
    let done = owed_mark b.begun.after.label (with_work (jobs.Statement body (in_switch around b.begun)) d) stated in
    record {
      most = sum _ _ _ _ _ _ _ _ _ _ _ _ _ done.most enough sent.most (ap (λ x. dispatched l x body) found) (body_below l count body p selected)
          (subst (λ n. one l n + below l (p.labels + count + 1) ≤ below l (p.labels + count + 1 + 1)) (sym (begins_end count around.scope p)) (one_below l (p.labels + count + 1)))
          (ap (below l) (begins_labels count around.scope p)) (below_more l d.labels r.labels last.labels);
      sound = done.sound;
    }
  where
    -- what is owed; the dispatch, labels, cases and the end; the labels before and behind
    sum : (o x n c y before start middle inner outer end labels last : ℕ) → o ≡ (x + (n + c)) + y → n ≤ before → x + labels ≤ middle → c ≡ inner → inner + start ≤ end → y + end ≤ outer → labels ≡ outer → middle ≤ last → o + start ≤ before + last
    sum o x n c y before start middle inner outer end labels last p q r t u v w z = omega (arith, p, q, r, t, u, v, w, z)
