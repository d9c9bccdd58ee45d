-- Each label of a function's template is marked at most once.
use Rattle.std.proofs.Common.{◌≡◌, ◌≤◌, inr, ℕ, ◌+◌, ◌-◌, ◌^◌, Bool, true, false, cond, List, [], ◌∷◌, slice_get, refl, arith, ap, sym, subst}
use Rattle.cc_base.specs.declared.diagnostics.Place.{Place}
use Rattle.c_layout.specs.Types.{Ty}
use Rattle.c_layout.specs.CheckedTrees as tree
use Rattle.c_layout.specs.CheckedTrees.{StatementTree, statement_trees}
use Rattle.c_layout.specs.CheckedUnits.{FunctionView}
use Rattle.c_layout.specs.StructViews.{StructView}
use Rattle.lower_templates.specs.Worklist.Acts.{Step}
use Rattle.lower_templates.specs.Worklist.Pieces.{TemplateView, DoIfUsed, Mark}
use Rattle.lower_templates.specs.Worklist.Works as jobs
use Rattle.lower_templates.specs.Worklist.Plans.{Plan, with_work, with_labels}
use Rattle.lower_templates.specs.Worklist.Settings.{SettingView}
use Rattle.lower_templates.specs.declared.worklist.template_builder.Dispatch.{Dispatch}
use Rattle.lower_functions.specs.Statements.ScopeJumps.{all_entered}
use Rattle.lower_functions.specs.Functions.Functions.{arguments, argument, parameters, outcome, outermost, body, entry, called, function, setting_of, no_plan, IsTemplate}
use Rattle.lower_functions.specs.Functions.Turns.{planless}
use Rattle.lower_template_theorems.proofs.worklists.Derivations.{derived}
use Rattle.lower_template_theorems.specs.Growth.Growth.{Grows}
use Rattle.lower_template_theorems.specs.PendingLabels.Marks.{one, below, all_marked, all_labels_in, IsLabelled}
use Rattle.lower_template_theorems.proofs.growth.Growth.{grows_not, works}
use Rattle.lower_template_theorems.proofs.growth.GrowingStatements.{grows_entered, grows_left, grows_statements}
use Rattle.lower_template_theorems.proofs.pending_labels.MarkArithmetic.{one_below, below_more, at_most_one}
use Rattle.lower_template_theorems.proofs.pending_labels.Debts.{dispatched, Owed, owed_none, owed_silent, debts}
use Rattle.lower_template_theorems.proofs.label_definitions.DebtsOfStatements.{owed_entered, owed_left, owed_statements}
use Rattle.lower_template_theorems.proofs.label_definitions.MarkedOnce.{free_owes, marks_made}

-- ---- parameters and the result owe nothing

owed_if_used : {ds : List Dispatch} {l k : ℕ} (s : Step) (p : Plan) → Owed ds l k p → Owed ds l k (with_work (jobs.Ready (DoIfUsed s)) p)
owed_if_used s p o = owed_silent (jobs.Ready (DoIfUsed s)) p refl tt o

owed_arguments : {ds : List Dispatch} {l k : ℕ} (at : Place) (f : FunctionView) (ns : List ℕ) (p : Plan) → Owed ds l k p → Owed ds l k (arguments at f ns p)
owed_arguments at f [] p o = o
owed_arguments at f (n ∷ ns) p o = owed_arguments at f ns (argument at f.parameters n _ p) (search debts depth 30)

owed_parameters : {ds : List Dispatch} {l k : ℕ} (s : SettingView) (f : FunctionView) (p : Plan) → Owed ds l k p → Owed ds l k (parameters s f p)
owed_parameters s f p o = search (debts, owed_arguments, owed_entered) depth 30

owed_outcome : {ds : List Dispatch} {l k : ℕ} (at : Place) (t : Ty) (p : Plan) → Owed ds l k p → Owed ds l k (outcome at t p)
owed_outcome at t p o = search (debts, owed_if_used) depth 30

grows_arguments : {start : Plan} (at : Place) (f : FunctionView) (ns : List ℕ) (p : Plan) → Grows start p → Grows start (arguments at f ns p)
grows_arguments at f [] p g = g
grows_arguments at f (n ∷ ns) p g = grows_arguments at f ns (argument at f.parameters n _ p) (search works depth 30)

grows_outcome : {start : Plan} (at : Place) (t : Ty) (p : Plan) → Grows start p → Grows start (outcome at t p)
grows_outcome at t p g = search works depth 30

-- ---- the first works of a function

abbrev block_of : FunctionView → StatementTree
block_of f = tree.Block [] (statement_trees f.body)

module _ (ds : List Dispatch) (l : ℕ) (f : FunctionView) (labelled : IsLabelled f) (s : SettingView) where
  abbrev body_owes : ℕ
  body_owes = all_labels_in l (statement_trees f.body) + dispatched l (slice_get ds 0) (block_of f)

  few_in_body : body_owes ≤ below l f.labels
  few_in_body = let most = labelled.labels l in let none = free_owes l (block_of f) (slice_get ds 0) (record { cases = labelled.cases; defaults = labelled.defaults }) in omega (arith, most, none)

  owed_body : (k : ℕ) (p : Plan) → Owed ds l k p → Owed ds l (k + body_owes) (body s f p)
  owed_body k p o =
      owed_left s.at f.scope _
      (owed_statements (statement_trees f.body) (outermost s.end) (all_entered s.at f.scope p) k (inr (record { cases = labelled.cases; defaults = labelled.defaults })) labelled.switches (owed_entered s.at f.scope p o))

  grows_body : {start : Plan} (p : Plan) → Grows start p → Grows start (body s f p)
  grows_body p g = search (works, grows_left, grows_statements, grows_entered) depth 30

  pub record Starts (p : Plan) : Type 0 where
    pub owes : ℕ
    pub owed : Owed ds l owes p
    pub few : owes ≤ below l p.labels

  starts_entry : Starts (entry s f (no_plan f.labels))
  starts_entry =
      let p = no_plan f.labels in
      let start : Owed ds l 0 p = owed_none p refl in
      let inner = owed_body 0 p start in
      let o : Owed ds l (0 + body_owes) (entry s f p) = search debts depth 30 in
      let opened = grows_body p (grows_not p) in
      let g : Grows p (entry s f p) = search works depth 30 in
      let a = below_more l f.labels p.labels (omega arith) in
      let b = below_more l p.labels (entry s f p).labels g.labels in
      record { owes = 0 + body_owes; owed = o; few = sum _ _ _ _ few_in_body a b }
    where
      sum : (n x y z : ℕ) → n ≤ x → x ≤ y → y ≤ z → 0 + n ≤ z
      sum n x y z p q r = omega (arith, p, q, r)

  labels_two : (p : Plan) → (with_labels 2 p).labels ≡ p.labels + 2
  unfolding with_labels
  labels_two p = refl

  starts_called : s.end ≡ f.labels → Starts (called s f (no_plan f.labels))
  starts_called e =
      let p = no_plan f.labels in
      let m = p.labels in
      let start : Owed ds l 0 p = owed_none p refl in
      let marked = with_work (jobs.Ready (Mark m)) (with_labels 2 p) in
      let first : Owed ds l (0 + one l m) marked = search debts depth 30 in
      let entered = with_work (jobs.Ready (Mark (m + 1))) (parameters s f marked) in
      let second : Owed ds l ((0 + one l m) + one l (m + 1)) entered = search (debts, owed_parameters) depth 30 in
      let inner : Owed ds l (((0 + one l m) + one l (m + 1)) + body_owes) (body s f entered) = owed_body ((0 + one l m) + one l (m + 1)) entered second in
      let o : Owed ds l ((((0 + one l m) + one l (m + 1)) + body_owes) + one l s.end) (called s f p) = search (debts, owed_left, owed_outcome) depth 30 in
      let opened : Grows (with_labels 2 p) (with_labels 2 p) = grows_not (with_labels 2 p) in
      let g : Grows (with_labels 2 p) (called s f p) = search (works, grows_body, grows_arguments, grows_entered, grows_left, grows_outcome) depth 40 in
      let a = one_below l f.labels in
      let b = one_below l (f.labels + 1) in
      let c = one_below l (f.labels + 1 + 1) in
      let d = below_more l (f.labels + 1 + 1 + 1) (called s f p).labels (enough (with_labels 2 p).labels (called s f p).labels (labels_two p) g.labels) in
      record { owes = (((0 + one l m) + one l (m + 1)) + body_owes) + one l s.end; owed = o; few = sum _ _ _ _ _ _ _ _ _ _ few_in_body (ap (one l) e) a b c d }
    where
      enough : (x y : ℕ) → x ≡ f.labels + 1 + 2 → x ≤ y → f.labels + 1 + 1 + 1 ≤ y
      enough x y e le = omega (arith, e, le)

      sum : (x y n z w start one_more two_more three_more last : ℕ) → n ≤ start → z ≡ w → w + start ≤ one_more → x + one_more ≤ two_more → y + two_more ≤ three_more → three_more ≤ last → (((0 + x) + y) + n) + z ≤ last
      sum x y n z w start one_more two_more three_more last p q a b c d = omega (arith, p, q, a, b, c, d)

  starts : s.end ≡ f.labels → Starts (function s f (no_plan f.labels))
  starts e = by s.is_entry
    where
      by : (b : Bool) → Starts (cond b (entry s f (no_plan f.labels)) (called s f (no_plan f.labels)))
      by true = starts_entry
      by false = starts_called e

-- ---- templates

pub marked_below : (structs : List StructView) (pointer int_bytes : ℕ) (f : FunctionView) (is_entry : Bool) (t : TemplateView) → IsTemplate structs pointer int_bytes f is_entry t → IsLabelled f → t.labels ≤ 2 ^ 32 - 1 → (l : ℕ) → all_marked l t.pieces ≤ below l t.labels
marked_below structs pointer int_bytes f is_entry t is labelled few l =
    let s = setting_of structs pointer int_bytes f is_entry in
    let p = function s f (no_plan f.labels) in
    let d = derived s p t is in
    let x = starts p.dispatches l f labelled s refl in
    let made = marks_made l s (planless p) p.jobs t.pieces d.last d.pieces refl x.owed.sound (subst (λ n. n ≤ 2 ^ 32 - 1) d.labels few) in
    subst (λ n. all_marked l t.pieces ≤ below l n) (sym d.labels) (sum _ _ _ _ _ made x.owed.most x.few)
  where
    sum : (all owe k start last : ℕ) → all + start ≤ owe + last → owe ≡ k → k ≤ start → all ≤ last
    sum all owe k start last p q r = omega (arith, p, q, r)

pub marked_once : (structs : List StructView) (pointer int_bytes : ℕ) (f : FunctionView) (is_entry : Bool) (t : TemplateView) → IsTemplate structs pointer int_bytes f is_entry t → IsLabelled f → t.labels ≤ 2 ^ 32 - 1 → (l : ℕ) → all_marked l t.pieces ≤ 1
marked_once structs pointer int_bytes f is_entry t is labelled few l =
    let below_it = marked_below structs pointer int_bytes f is_entry t is labelled few l in
    let one_most = at_most_one l t.labels in
    omega (arith, below_it, one_most)
