-- The edges of each block that is made are labels apart.
use Rattle.std.proofs.Common.{◌≡◌, ◌<◌, ℕ, zero, suc, ◌+◌, ◌-◌, ◌^◌, Bool, true, false, cond, List, [], ◌∷◌, ◌++◌, map, length, slice_get, Option, Some, None, refl, sym, ap, subst, ◌∙◌, arith, append_assoc, length-append}
use Rattle.std.specs.List.{list_all}
use Rattle.std.proofs.lemmas.Bool.{and_parts}
use Rattle.std.proofs.lemmas.List.{append-nil}
use Rattle.std.proofs.lemmas.Option.{same_Some}
use Rattle.cc_base.specs.declared.diagnostics.Place.{Place}
use Rattle.c_layout.specs.CheckedUnits.{FunctionView, UnitView}
use Rattle.lower_templates.specs.Worklist.Acts.{Act, Jump, Step}
use Rattle.lower_templates.specs.Worklist.Pieces.{Way, Always, When, Case, Other, NoLine, Line, ExitView, PieceView, Do, DoIfUsed, End, Mark, Call, TemplateView}
use Rattle.lower_templates.specs.declared.worklist.template_pieces.OwnCall.{OwnCall}
use Rattle.lower_templates.specs.Views.ProgramViews.{EdgeView}
use Rattle.lower.specs.Inlining.MovedActs.{own_base}
use Rattle.lower.specs.Inlining.Inlinings as o
use Rattle.lower.specs.Inlining.Inlinings.{Made, CopyView, Placed, Inlined, is_none, placed}
use Rattle.lower.specs.Inlining.WellMade.{AllFrom}
use Rattle.lower.proofs.inlining.NamedAside.{along_own, along_way}
use Rattle.unit_exact.specs.CaseEdges.ApartSwitches.{Label, label, is_beside, are_apart, exit_labels, is_apart_piece, are_apart_pieces}
use Rattle.unit_exact.proofs.case_edges.ApartLabels.{beside_back}

abbrev pub edge_label : EdgeView → Label
edge_label e = label e.taken

abbrev pub edge_labels : List EdgeView → List Label
edge_labels es = map edge_label es

-- ---- edges of which those of one block are apart

abbrev pub Beside : EdgeView → List EdgeView → Type 0
Beside e [] = Unit {0}
Beside e (d ∷ ds) = (e.from ≡ d.from → is_beside (edge_label e) (edge_label d) ≡ true) × Beside e ds

abbrev pub Pairwise : List EdgeView → Type 0
Pairwise [] = Unit {0}
Pairwise (e ∷ es) = Beside e es × Pairwise es

-- all leave blocks below a number
abbrev pub AllBelow : ℕ → List EdgeView → Type 0
AllBelow at [] = Unit {0}
AllBelow at (e ∷ es) = (e.from < at) × AllBelow at es

-- those of one block
own_beside : (e : EdgeView) (ds : List EdgeView) → list_all (is_beside (edge_label e)) (edge_labels ds) ≡ true → Beside e ds
own_beside e [] h = tt
own_beside e (d ∷ ds) h = let p = and_parts (is_beside (edge_label e) (edge_label d)) (list_all (is_beside (edge_label e)) (edge_labels ds)) h in (λ same. p.0, own_beside e ds p.1)

own_pairwise : (es : List EdgeView) → are_apart (edge_labels es) ≡ true → Pairwise es
own_pairwise [] h = tt
own_pairwise (e ∷ es) h = let p = and_parts (list_all (is_beside (edge_label e)) (edge_labels es)) (are_apart (edge_labels es)) h in (own_beside e es p.0, own_pairwise es p.1)

-- an edge of a block below, beside those of a block
below_beside : (at : ℕ) (e : EdgeView) (own : List EdgeView) → e.from < at → AllFrom at own → Beside e own
below_beside at e [] less from = tt
below_beside at e (d ∷ own) less from = (λ same. absurd (let is = from.0 in omega (arith, less, is, same)), below_beside at e own less from.1)

beside_both : (e : EdgeView) (ds own : List EdgeView) → Beside e ds → Beside e own → Beside e (ds ++ own)
beside_both e [] own h k = k
beside_both e (d ∷ ds) own h k = (h.0, beside_both e ds own h.1 k)

pairwise_more : (at : ℕ) (es own : List EdgeView) → Pairwise es → AllBelow at es → AllFrom at own → Pairwise own → Pairwise (es ++ own)
pairwise_more at [] own h below from k = k
pairwise_more at (e ∷ es) own h below from k = (beside_both e es own h.0 (below_beside at e own below.0 from), pairwise_more at es own h.1 below.1 from k)

below_own : (at : ℕ) (own : List EdgeView) → AllFrom at own → AllBelow (suc at) own
below_own at [] from = tt
below_own at (e ∷ own) from = (let is = from.0 in omega (arith, is), below_own at own from.1)

below_more : (at : ℕ) (es own : List EdgeView) → AllBelow at es → AllFrom at own → AllBelow (suc at) (es ++ own)
below_more at [] own below from = below_own at own from
below_more at (e ∷ es) own below from = (let less = below.0 in omega (arith, less), below_more at es own below.1 from)

-- ---- what is made

pub record IsApart (m : Made) : Type 0 where
  pub pairs : Pairwise m.edges
  pub below : AllBelow (length m.blocks) m.edges

-- a block ends with its edges
ends_apart : (first : ℕ) (m n : Made) (own : List EdgeView) → IsApart m → n.blocks ≡ m.blocks → n.edges ≡ m.edges ++ own → AllFrom (length m.blocks) own → are_apart (edge_labels own) ≡ true → IsApart (o.ended first n)
ends_apart first m n own h same all from apart =
    let b = o.ended_block n.ready first (length n.edges - first) in
    let long : length (n.blocks ++ b ∷ []) ≡ suc (length m.blocks) = (let e = length-append n.blocks (b ∷ []) in let l = ap length same in omega (arith, e, l)) in
    record {
      pairs = subst Pairwise (sym all) (pairwise_more (length m.blocks) m.edges own h.pairs h.below from (own_pairwise own apart));
      below = subst (λ k. AllBelow k n.edges) (sym long) (subst (AllBelow (suc (length m.blocks))) (sym all) (below_more (length m.blocks) m.edges own h.below from));
    }

-- what has no part in this: the same blocks, edges and pieces to come
record Same (p q : Placed) : Type 0 where
  blocks : q.program.blocks ≡ p.program.blocks
  edges : q.program.edges ≡ p.program.edges
  rest : q.within.rest ≡ p.within.rest

stays : (p : Placed) → Same p p
stays p = record { blocks = refl; edges = refl; rest = refl }

both : (p q r : Placed) → Same p q → Same q r → Same p r
both p q r a b = record { blocks = b.blocks ∙ a.blocks; edges = b.edges ∙ a.edges; rest = b.rest ∙ a.rest }

same_base : (u : UnitView) (n : ℕ) (p : Placed) → Same p (o.with_base u n p)
same_base u n p = record { blocks = refl; edges = refl; rest = refl }

same_own : (u : UnitView) (n : Option ℕ) (p : Placed) → Same p (o.with_own u n p)
same_own u n p = along_own u Same stays both (same_base u) n p

same_way : (u : UnitView) (w : Way) (p : Placed) → Same p (o.with_way u w p)
same_way u w p = along_way u Same stays both (same_base u) w p

same_act : (u : UnitView) (at : Place) (a : Act) (p : Placed) → Same p (o.with_act u at a p)
same_act u at a p = let s = same_own u (own_base a) p in record { blocks = s.blocks; edges = s.edges; rest = s.rest }

apart_same : (p q : Placed) → Same p q → IsApart p.program → IsApart q.program
apart_same p q s h = record { pairs = subst Pairwise (sym s.edges) h.pairs; below = subst (λ bs. AllBelow (length bs) q.program.edges) (sym s.blocks) (subst (AllBelow (length p.program.blocks)) (sym s.edges) h.below) }

-- ---- the edges of a block

way_same : (u : UnitView) (x : Way) (p : Placed) → label (o.way_moved u x p) ≡ label x
way_same u Always p = refl
way_same u (When truth test puts) p = refl
way_same u (Case c) p = refl
way_same u (Other values) p = refl
way_same u NoLine p = refl
way_same u Line p = refl

-- ways on become edges with their labels
record Added (at : ℕ) (es : List ExitView) (p q : Placed) : Type 0 where
  own : List EdgeView
  all : q.program.edges ≡ p.program.edges ++ own
  from : AllFrom at own
  labels : edge_labels own ≡ exit_labels es
  blocks : q.program.blocks ≡ p.program.blocks
  rest : q.within.rest ≡ p.within.rest

exits_added : (u : UnitView) (at : ℕ) (es : List ExitView) (p : Placed) → Added at es p (o.with_exits u at es p)
exits_added u at [] p = record { own = []; all = sym (append-nil p.program.edges); from = tt; labels = refl; blocks = refl; rest = refl }
exits_added u at (e ∷ es) p =
    let w = o.with_way u e.taken p in
    let s = same_way u e.taken p in
    let made : EdgeView = o.edge_to at (e.to + p.within.labels) (o.way_moved u e.taken p) in
    let a = exits_added u at es (o.with_exit u at e p) in
    let one : w.program.edges ++ made ∷ [] ≡ p.program.edges ++ made ∷ [] = ap (λ ds. ds ++ made ∷ []) s.edges in
    record {
      own = made ∷ a.own;
      all = a.all ∙ (ap (λ ds. ds ++ a.own) one ∙ append_assoc p.program.edges (made ∷ []) a.own);
      from = (refl, a.from);
      labels = ap (λ x. x ∷ edge_labels a.own) (way_same u e.taken p) ∙ ap (λ xs. label e.taken ∷ xs) a.labels;
      blocks = a.blocks ∙ s.blocks;
      rest = a.rest ∙ s.rest;
    }

-- ---- turns

-- the pieces that are still to come
abbrev pub AreToCome : List CopyView → Type 0
AreToCome [] = Unit {0}
AreToCome (c ∷ cs) = (are_apart_pieces c.rest ≡ true) × AreToCome cs

pub record Goes (x : Inlined) : Type 0 where
  pub made : IsApart x.program
  pub to_come : AreToCome x.stack

module _ (u : UnitView) (ts : List (Option TemplateView)) (each : (n : ℕ) (t : TemplateView) → o.template_at ts n ≡ Some t → are_apart_pieces t.pieces ≡ true) where
  goes_same : (p q : Placed) (stack : List CopyView) → Same p q → IsApart p.program → are_apart_pieces p.within.rest ≡ true → AreToCome stack → Goes (o.back_in stack q)
  goes_same p q stack s h one all = record { made = apart_same p q s h; to_come = (subst (λ r. are_apart_pieces r ≡ true) (sym s.rest) one, all) }

  goes_closed : (s : Step) (exits : List ExitView) (p : Placed) (stack : List CopyView) → are_apart (exit_labels exits) ≡ true → IsApart p.program → are_apart_pieces p.within.rest ≡ true → AreToCome stack → Goes (o.back_in stack (o.closed u s exits p))
  goes_closed s exits p stack apart h one all =
      let acted = o.with_act u s.at s.does p in
      let same = same_act u s.at s.does p in
      let a = exits_added u (length p.program.blocks) exits acted in
      record {
        made = ends_apart (length p.program.edges) p.program (o.with_exits u (length p.program.blocks) exits acted).program a.own h (a.blocks ∙ same.blocks) (a.all ∙ ap (λ ds. ds ++ a.own) same.edges) a.from (subst (λ xs. are_apart xs ≡ true) (sym a.labels) apart);
        to_come = (subst (λ r. are_apart_pieces r ≡ true) (sym (a.rest ∙ same.rest)) one, all);
      }

  jumped_apart : (at : Place) (n : ℕ) (m : Made) → IsApart m → IsApart (o.jumped at n m)
  jumped_apart at n m h =
      let e = o.edge_to (length m.blocks) n Always in
      ends_apart (length m.edges) m (o.with_edge e (o.with_ready (o.instruction at Jump) m)) (e ∷ []) h refl refl (refl, tt) refl

  marked_apart : (at : Place) (n : ℕ) (m : Made) → IsApart m → IsApart (o.marked at n m)
  marked_apart at n m h = by_none (is_none m.ready)
    where
      by_none : (b : Bool) → IsApart (o.labelled n (cond b m (o.jumped at n m)))
      by_none true = record { pairs = h.pairs; below = h.below }
      by_none false = let j = jumped_apart at n m h in record { pairs = j.pairs; below = j.below }

  same_if_used : (a : Act) (p : Placed) → Same p (o.with_act_if_used u a p)
  same_if_used a p = by_used p.within.used
    where
      by_used : (b : Bool) → Same p (cond b (o.with_act u p.within.at a p) p)
      by_used true = same_act u p.within.at a p
      by_used false = stays p

  goes_entered : (c : OwnCall) (stack : List CopyView) (m : Made) (f : Option FunctionView) (t : Option TemplateView) → o.template_at ts c.function ≡ t → IsApart m → AreToCome stack → Goes (o.entered c stack m f t)
  goes_entered c stack m None t is h all = record { made = h; to_come = all }
  goes_entered c stack m (Some f) None is h all = record { made = h; to_come = all }
  goes_entered c stack m (Some f) (Some t) is h all = record { made = record { pairs = h.pairs; below = h.below }; to_come = (each c.function t is, all) }

  goes_turn : (q : PieceView) (c : CopyView) (stack : List CopyView) (m : Made) → is_apart_piece q ≡ true → IsApart m → are_apart_pieces c.rest ≡ true → AreToCome stack → Goes (o.turn u ts q c stack m)
  goes_turn (Do s) c stack m apart h one all = goes_same (placed m c) (o.with_act u s.at s.does (placed m c)) stack (same_act u s.at s.does (placed m c)) h one all
  goes_turn (DoIfUsed s) c stack m apart h one all = goes_same (placed m c) (o.with_act_if_used u s.does (placed m c)) stack (same_if_used s.does (placed m c)) h one all
  goes_turn (End s exits) c stack m apart h one all = goes_closed s exits (placed m c) stack apart h one all
  goes_turn (Mark n) c stack m apart h one all = record { made = marked_apart c.at (n + c.labels) m h; to_come = (one, all) }
  goes_turn (Call call) c stack m apart h one all = goes_entered (o.inner call c) (c ∷ stack) m (slice_get u.functions call.function) (o.template_at ts call.function) refl h (one, all)

  goes_next : (qs : List PieceView) (c : CopyView) (stack : List CopyView) (m : Made) → are_apart_pieces qs ≡ true → IsApart m → AreToCome stack → Goes (o.next_piece u ts qs c stack m)
  goes_next [] c stack m apart h all = record { made = h; to_come = all }
  goes_next (q ∷ qs) c stack m apart h all = let p = and_parts (is_apart_piece q) (are_apart_pieces qs) apart in goes_turn q (o.with_rest qs c) stack m p.0 h p.1 all

  goes_run : (n : ℕ) (stack : List CopyView) (m : Made) → IsApart m → AreToCome stack → Goes (o.run u ts n stack m)
  goes_run zero stack m h all = record { made = h; to_come = all }
  goes_run (suc n) [] m h all = record { made = h; to_come = all }
  goes_run (suc n) (c ∷ stack) m h all =
      let g = goes_next c.rest c stack m all.0 h all.1 in
      goes_run n (o.next u ts c stack m).stack (o.next u ts c stack m).program g.made g.to_come

  same_parameters : (n : ℕ) (p : Placed) → Same p (o.with_parameters u n p)
  same_parameters zero p = stays p
  same_parameters (suc n) p = let before = same_parameters n p in record { blocks = before.blocks; edges = before.edges; rest = before.rest }

  goes_entry : (stack : List CopyView) (m : Made) → IsApart m → AreToCome stack → Goes (o.entry_run u ts stack m)
  goes_entry [] m h all = record { made = h; to_come = all }
  goes_entry (c ∷ stack) m h all =
      let p = o.with_parameters u c.function.parameters (placed m c) in
      let s = same_parameters c.function.parameters (placed m c) in
      goes_run (2 ^ 64 - 1) (p.within ∷ stack) p.program (apart_same (placed m c) p s h) (subst (λ r. are_apart_pieces r ≡ true) (sym s.rest) all.0, all.1)

  pub goes_whole : (at : Place) → Goes (o.whole u ts at)
  goes_whole at =
      let c = o.with_call u ts (o.entry_call at u.entry) [] (o.nothing_made u) in
      let g = goes_entered (o.entry_call at u.entry) [] (o.nothing_made u) (slice_get u.functions u.entry) (o.template_at ts u.entry) refl (record { pairs = tt; below = tt }) tt in
      goes_entry c.stack c.program g.made g.to_come

-- ---- positions

pub beside_at : (e : EdgeView) (ds : List EdgeView) (k : ℕ) (d : EdgeView) → Beside e ds → slice_get ds k ≡ Some d → e.from ≡ d.from → is_beside (edge_label e) (edge_label d) ≡ true
beside_at e [] k d h is same = absurd (cc)
beside_at e (x ∷ ds) zero d h is same = let i = same_Some x d is in subst (λ y. is_beside (edge_label e) (edge_label y) ≡ true) i (h.0 (same ∙ ap (λ y. y.from) (sym i)))
beside_at e (x ∷ ds) (suc k) d h is same = beside_at e ds k d h.1 is same

pub pairs_at : (es : List EdgeView) (j k : ℕ) (d e : EdgeView) → Pairwise es → slice_get es j ≡ Some d → slice_get es k ≡ Some e → d.from ≡ e.from → (k ≡ j → ⊥) → is_beside (edge_label d) (edge_label e) ≡ true
pairs_at [] j k d e h isd ise same other = absurd (cc)
pairs_at (x ∷ es) zero zero d e h isd ise same other = absurd (other refl)
pairs_at (x ∷ es) zero (suc k) d e h isd ise same other = let i = same_Some x d isd in subst (λ y. is_beside (edge_label y) (edge_label e) ≡ true) i (beside_at x es k e h.0 ise (ap (λ y. y.from) i ∙ same))
pairs_at (x ∷ es) (suc j) zero d e h isd ise same other =
    let i = same_Some x e ise in
    subst (λ y. is_beside (edge_label d) (edge_label y) ≡ true) i (beside_back (edge_label x) (edge_label d) (beside_at x es j d h.0 isd (ap (λ y. y.from) i ∙ sym same)))
pairs_at (x ∷ es) (suc j) (suc k) d e h isd ise same other = pairs_at es j k d e h.1 isd ise same (λ is. other (ap suc is))
