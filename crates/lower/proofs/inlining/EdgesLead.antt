-- Every edge of a program that is lowered leads to one of its blocks.
use Rattle.std.proofs.Common.{◌≡◌, ◌==◌, ◌≤◌, ◌<◌, ℕ, zero, suc, ◌+◌, ◌-◌, ◌^◌, Bool, true, false, List, [], ◌∷◌, ◌++◌, length, replicate, get_or, Option, Some, None, refl, arith, ap, sym, subst, ◌∙◌, length-append}
use Rattle.std.specs.List.{slice_get, slice_set}
use Rattle.std.proofs.lemmas.Bool.{eq-eqb}
use Rattle.cc_base.specs.declared.diagnostics.Place.{Place}
use Rattle.cc_base.specs.declared.limit_table.Limits.{Limits}
use Rattle.c_layout.specs.CheckedUnits.{FunctionView, UnitView}
use Rattle.lower_templates.specs.Worklist.Acts.{Act, Jump, Step}
use Rattle.lower_templates.specs.Worklist.Pieces.{Way, Always, ExitView, PieceView, Do, DoIfUsed, End, Mark, Call, TemplateView}
use Rattle.lower_templates.specs.declared.worklist.template_pieces.OwnCall.{OwnCall}
use Rattle.lower_objects.specs.declared.counts.function_counts.FunctionCounts.{FunctionCounts}
use Rattle.lower_tables.specs.Counts.Preparations.{begun, IsPrepared}
use Rattle.lower_functions.specs.Functions.Functions.{IsTemplate}
use Rattle.lower.specs.TemplateLaws.PieceOrder.{is_end, last_ends, ends_block}
use Rattle.lower.proofs.template_laws.TemplateOrder.{entry_ends}
use Rattle.lower.proofs.template_laws.NormalizedOrder.{normalized_ends}
use Rattle.lower_templates.specs.Views.ProgramViews.{EdgeView, FlowView}
use Rattle.lower.specs.Inlining.MovedActs.{own_base}
use Rattle.lower.specs.Inlining.Inlinings as o
use Rattle.lower.specs.Inlining.Inlinings.{Made, CopyView, Placed, Inlined, placed, is_none}
use Rattle.lower.specs.Inlining.Lowerings.{IsLowering}
use Rattle.lower.specs.Inlining.WellMade.{AllLead}
use Rattle.lower.proofs.inlining.NamedAside.{along_own, along_way}
use Rattle.lower.proofs.inlining.WellMadeEdges.{cond_keeps}
use Rattle.lower.proofs.inlining.WellMadeHeads.{length_heads}
use Rattle.lower.proofs.inlining.CountedCalls.{IsKnown, known}

abbrev AllUnder : ℕ → List ℕ → Type 0
AllUnder count [] = Unit {0}
AllUnder count (n ∷ ns) = (n < count) × AllUnder count ns

under_more : (count more : ℕ) (ns : List ℕ) → count ≤ more → AllUnder count ns → AllUnder more ns
under_more count more [] le all = tt
under_more count more (n ∷ ns) le (one, all) = (omega arith, under_more count more ns le all)

under_set : (count at n : ℕ) (ns : List ℕ) → n < count → AllUnder count ns → AllUnder count (slice_set ns at n)
under_set count at n [] less all = tt
under_set count zero n (k ∷ ns) less (one, all) = (less, all)
under_set count (suc at) n (k ∷ ns) less (one, all) = (one, under_set count at n ns less all)

under_zeros : (count n : ℕ) (ns : List ℕ) → 0 < count → AllUnder count ns → AllUnder count (ns ++ replicate n 0)
under_zeros count zero [] less all = tt
under_zeros count (suc n) [] less all = (less, under_zeros count n [] less tt)
under_zeros count n (k ∷ ns) less (one, all) = (one, under_zeros count n ns less all)

under_at : (count at : ℕ) (ns : List ℕ) → 0 < count → AllUnder count ns → get_or ns at 0 < count
under_at count at [] less all = less
under_at count zero (n ∷ ns) less (one, all) = one
under_at count (suc at) (n ∷ ns) less (one, all) = under_at count at ns less all

-- labels lead to blocks, or to the one that is made
abbrev Led : Made → Type 0
Led m = AllUnder (suc (length m.blocks)) m.labels

-- to blocks alone, of which there is one
record Leads (m : Made) : Type 0 where
  some : 0 < length m.blocks
  all : AllUnder (length m.blocks) m.labels

-- what has no part in this: the same blocks and labels
record Same (p q : Placed) : Type 0 where
  blocks : q.program.blocks ≡ p.program.blocks
  labels : q.program.labels ≡ p.program.labels
  rest : q.within.rest ≡ p.within.rest

stays : (p : Placed) → Same p p
stays p = record { blocks = refl; labels = refl; rest = refl }

both : (p q r : Placed) → Same p q → Same q r → Same p r
both p q r a b = record { blocks = b.blocks ∙ a.blocks; labels = b.labels ∙ a.labels; rest = b.rest ∙ a.rest }

same_base : (u : UnitView) (n : ℕ) (p : Placed) → Same p (o.with_base u n p)
same_base u n p = record { blocks = refl; labels = refl; rest = refl }

same_own : (u : UnitView) (n : Option ℕ) (p : Placed) → Same p (o.with_own u n p)
same_own u n p = along_own u Same stays both (same_base u) n p

same_way : (u : UnitView) (w : Way) (p : Placed) → Same p (o.with_way u w p)
same_way u w p = along_way u Same stays both (same_base u) w p

same_exit : (u : UnitView) (from : ℕ) (e : ExitView) (p : Placed) → Same p (o.with_exit u from e p)
same_exit u from e p = let s = same_way u e.taken p in record { blocks = s.blocks; labels = s.labels; rest = s.rest }

same_exits : (u : UnitView) (from : ℕ) (es : List ExitView) (p : Placed) → Same p (o.with_exits u from es p)
same_exits u from [] p = stays p
same_exits u from (e ∷ es) p = both p (o.with_exit u from e p) (o.with_exits u from es (o.with_exit u from e p)) (same_exit u from e p) (same_exits u from es (o.with_exit u from e p))

same_act : (u : UnitView) (at : Place) (a : Act) (p : Placed) → Same p (o.with_act u at a p)
same_act u at a p = let s = same_own u (own_base a) p in record { blocks = s.blocks; labels = s.labels; rest = s.rest }

led_same : (p q : Placed) → Same p q → Led p.program → Led q.program
led_same p q s led = subst (λ ls. AllUnder (suc (length q.program.blocks)) ls) (sym s.labels) (subst (λ bs. AllUnder (suc (length bs)) p.program.labels) (sym s.blocks) led)

-- a block ends, so labels lead to blocks
ended_leads : (first : ℕ) (m : Made) → Led m → Leads (o.ended first m)
ended_leads first m led =
    let b = o.ended_block m.ready first (length m.edges - first) in
    let e = length-append m.blocks (b ∷ []) in
    record {
      some = omega (arith, e);
      all = under_more (suc (length m.blocks)) (length (m.blocks ++ b ∷ [])) m.labels (omega (arith, e)) led;
    }

led_leads : (m : Made) → Leads m → Led m
led_leads m leads = under_more (length m.blocks) (suc (length m.blocks)) m.labels (omega arith) leads.all

led_marked : (at : Place) (label : ℕ) (m : Made) → Led m → Led (o.marked at label m)
led_marked at label m led =
    let n = o.jumped_if at label m in
    let before = cond_keeps Led (is_none m.ready) m (o.jumped at label m) led (led_leads (o.jumped at label m) (ended_leads (length m.edges) (o.with_edge (o.edge_to (length m.blocks) label Always) (o.with_ready (o.instruction at Jump) m)) led)) in
    under_set (suc (length n.blocks)) label (length n.blocks) n.labels (omega arith) before

-- whether labels lead to blocks when the copies are finished: where the last piece ends a block
abbrev Good : Bool → List CopyView → Type 0
Good b [] = b ≡ true
Good b (c ∷ cs) = Good (last_ends b c.rest) cs

at_rest : (rest : List PieceView) (cs : List CopyView) → (Good false cs → Good true cs) → Good (last_ends false rest) cs → Good (last_ends true rest) cs
at_rest [] cs more g = more g
at_rest (p ∷ ps) cs more g = g

good_more : (cs : List CopyView) → Good false cs → Good true cs
good_more [] g = refl
good_more (c ∷ cs) g = at_rest c.rest cs (λ h. good_more cs h) g

rest_any : (b : Bool) (rest : List PieceView) (cs : List CopyView) → Good (last_ends false rest) cs → Good (last_ends b rest) cs
rest_any false rest cs g = g
rest_any true rest cs g = at_rest rest cs (λ h. good_more cs h) g

-- what every turn leaves
record Going (x : Inlined) : Type 0 where
  is_ended : Bool
  led : Led x.program
  leads : is_ended ≡ true → Leads x.program
  good : Good is_ended x.stack

not_ended : {A : Type 0} → false ≡ true → A
not_ended is = cc

-- a piece that ends no block
going_on : (p q : Placed) (stack : List CopyView) → Same p q → Led p.program → Good (last_ends false p.within.rest) stack → Going (o.back_in stack q)
going_on p q stack s led good = record {
  is_ended = false;
  led = led_same p q s led;
  leads = λ is. not_ended is;
  good = subst (λ rest. Good (last_ends false rest) stack) (sym s.rest) good;
}

same_if_used : (u : UnitView) (a : Act) (p : Placed) → Same p (o.with_act_if_used u a p)
same_if_used u a p = cond_keeps (Same p) p.within.used (o.with_act u p.within.at a p) p (same_act u p.within.at a p) (stays p)

going_closed : (u : UnitView) (s : Step) (exits : List ExitView) (p : Placed) (stack : List CopyView) → Led p.program → Good (last_ends true p.within.rest) stack → Going (o.back_in stack (o.closed u s exits p))
going_closed u s exits p stack led good =
    let acted = o.with_act u s.at s.does p in
    let q = o.with_exits u (length p.program.blocks) exits acted in
    let same = both p acted q (same_act u s.at s.does p) (same_exits u (length p.program.blocks) exits acted) in
    let leads = ended_leads (length p.program.edges) q.program (led_same p q same led) in
    record {
      is_ended = true;
      led = led_leads (o.ended (length p.program.edges) q.program) leads;
      leads = λ is. leads;
      good = subst (λ rest. Good (last_ends true rest) stack) (sym same.rest) good;
    }

going_entered : (c : OwnCall) (caller : CopyView) (stack : List CopyView) (m : Made) (f : Option FunctionView) (t : Option TemplateView) → Led m → Good (last_ends false caller.rest) stack → Going (o.entered c (caller ∷ stack) m f t)
going_entered c caller stack m None t led good = record { is_ended = false; led = led; leads = λ is. not_ended is; good = good }
going_entered c caller stack m (Some f) None led good = record { is_ended = false; led = led; leads = λ is. not_ended is; good = good }
going_entered c caller stack m (Some f) (Some t) led good = record {
  is_ended = false;
  led = under_zeros (suc (length m.blocks)) t.labels m.labels (omega arith) led;
  leads = λ is. not_ended is;
  good = rest_any (last_ends false t.pieces) caller.rest stack good;
}

going_turn : (u : UnitView) (ts : List (Option TemplateView)) (q : PieceView) (c : CopyView) (stack : List CopyView) (m : Made) → Led m → Good (last_ends (is_end q) c.rest) stack → Going (o.turn u ts q c stack m)
going_turn u ts (Do s) c stack m led good = going_on (placed m c) (o.with_act u s.at s.does (placed m c)) stack (same_act u s.at s.does (placed m c)) led good
going_turn u ts (DoIfUsed s) c stack m led good = going_on (placed m c) (o.with_act_if_used u s.does (placed m c)) stack (same_if_used u s.does (placed m c)) led good
going_turn u ts (End s exits) c stack m led good = going_closed u s exits (placed m c) stack led good
going_turn u ts (Mark label) c stack m led good = record { is_ended = false; led = led_marked c.at (label + c.labels) m led; leads = λ is. not_ended is; good = good }
going_turn u ts (Call call) c stack m led good = going_entered (o.inner call c) c stack m (slice_get u.functions call.function) (o.template_at ts call.function) led good

going_next : (u : UnitView) (ts : List (Option TemplateView)) (b : Bool) (qs : List PieceView) (c : CopyView) (stack : List CopyView) (m : Made) → Led m → (b ≡ true → Leads m) → Good (last_ends b qs) stack → Going (o.next_piece u ts qs c stack m)
going_next u ts b [] c stack m led leads good = record { is_ended = b; led = led; leads = leads; good = good }
going_next u ts b (q ∷ qs) c stack m led leads good = going_turn u ts q (o.with_rest qs c) stack m led good

going_run : (u : UnitView) (ts : List (Option TemplateView)) (n : ℕ) (b : Bool) (stack : List CopyView) (m : Made) → Led m → (b ≡ true → Leads m) → Good b stack → Going (o.run u ts n stack m)
going_run u ts zero b stack m led leads good = record { is_ended = b; led = led; leads = leads; good = good }
going_run u ts (suc n) b [] m led leads good = record { is_ended = b; led = led; leads = leads; good = good }
going_run u ts (suc n) b (c ∷ stack) m led leads good =
    let g = going_next u ts b c.rest c stack m led leads good in
    going_run u ts n g.is_ended (o.next u ts c stack m).stack (o.next u ts c stack m).program g.led g.leads g.good

same_parameters : (u : UnitView) (n : ℕ) (p : Placed) → Same p (o.with_parameters u n p)
same_parameters u zero p = stays p
same_parameters u (suc n) p = let before = same_parameters u n p in record { blocks = before.blocks; labels = before.labels; rest = before.rest }

entry_last : (u : UnitView) (ts : List (Option TemplateView)) (table : List (Option FunctionCounts)) (k : IsKnown u ts table u.entry) → ends_block k.template.pieces ≡ true
entry_last u ts table k =
    let is_entry : (u.entry == u.entry) ≡ true = eq-eqb u.entry u.entry refl in
    let is = subst (λ b. IsTemplate u.structs u.model.pointer u.model.int k.function b k.plain) is_entry k.is_template.is_template in
    ap (λ t. ends_block t.pieces) k.settles ∙ normalized_ends table k.plain (entry_ends u.structs u.model.pointer u.model.int k.function k.plain is)

going_whole : (u : UnitView) (ts : List (Option TemplateView)) (table : List (Option FunctionCounts)) (at : Place) → IsPrepared u ts table → Going (o.whole u ts at)
going_whole u ts table at prepared =
    let k = known u ts table u.entry prepared begun in
    let call = o.entry_call at u.entry in
    let c = o.copied call 0 k.function k.template in
    let m = o.with_labels k.template.labels (o.nothing_made u) in
    let is : o.whole u ts at ≡ o.entry_run u ts (c ∷ []) m = λ i. o.unresolved u ts (o.entered call [] (o.nothing_made u) (k.is_template.stands i) (k.is_there i)) in
    let p = o.with_parameters u k.function.parameters (placed m c) in
    let same = same_parameters u k.function.parameters (placed m c) in
    let led = led_same (placed m c) p same (under_zeros 1 k.template.labels [] (omega arith) tt) in
    let good = subst (λ rest. last_ends false rest ≡ true) (sym same.rest) (entry_last u ts table k) in
    subst Going (sym is) (going_run u ts (2 ^ 64 - 1) false (p.within ∷ []) p.program led (λ e. not_ended e) good)

whole_leads : (x : Inlined) → Going x → x.stack ≡ [] → Leads x.program
whole_leads x g ends = g.leads (subst (Good g.is_ended) ends g.good)

lead_resolved : (count : ℕ) (labels : List ℕ) (es : List EdgeView) → 0 < count → AllUnder count labels → AllLead count (o.resolved labels es)
lead_resolved count labels [] some all = tt
lead_resolved count labels (e ∷ es) some all = (under_at count e.to labels some all, lead_resolved count labels es some all)

pub edges_lead : (u : UnitView) (limits : Limits) (f : FlowView) → IsLowering u limits f → AllLead (length f.blocks) f.edges
edges_lead u limits f is =
    let x = o.whole u is.templates is.entry.at in
    let m = x.program in
    let leads = whole_leads x (going_whole u is.templates is.is_counted.table is.entry.at is.is_counted.is_prepared) is.ends in
    let es = o.resolved m.labels m.edges in
    subst (λ g. AllLead (length g.blocks) g.edges) (sym is.opens) (subst (λ n. AllLead n es) (sym (length_heads es m.blocks)) (lead_resolved (length m.blocks) m.labels m.edges leads.some leads.all))
