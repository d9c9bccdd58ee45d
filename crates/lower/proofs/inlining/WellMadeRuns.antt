-- What every turn of an opening leaves: bases that follow each other, blocks with all their edges.
use Rattle.std.proofs.Common.{◌<◌, ◌||◌, ℕ, zero, suc, ◌+◌, ◌-◌, ◌^◌, List, [], ◌∷◌, length, Option, Some, None, slice_get, refl, ap, sym, subst, ◌∙◌}
use Rattle.std.specs.List.{list_any}
use Rattle.cc_base.specs.declared.diagnostics.Place.{Place}
use Rattle.cc_base.specs.declared.limit_table.Limits.{Limits}
use Rattle.c_layout.specs.CheckedUnits.{FunctionView, UnitView}
use Rattle.cfg.specs.declared.flow_edges.Side.{Side}
use Rattle.cfg.specs.declared.flow_edges.Side.TheVariants as side
use Rattle.cfg.specs.declared.flow_edges.Test.{Test}
use Rattle.lower_templates.specs.Worklist.Acts.{Act, Jump, Step}
use Rattle.lower_templates.specs.Worklist.Pieces.{Local, Way, Always, When, Case, Other, NoLine, Line, ExitView, PieceView, Do, DoIfUsed, End, Mark, Call, TemplateView}
use Rattle.lower_templates.specs.declared.worklist.template_pieces.OwnCall.{OwnCall}
use Rattle.lower.specs.Inlining.MovedActs.{own_base}
use Rattle.lower.specs.Inlining.Inlinings as o
use Rattle.lower.specs.Inlining.Inlinings.{Made, CopyView, Placed, Inlined, is_none, placed, name_at}
use Rattle.lower_templates.specs.Views.ProgramViews.{FlowView}
use Rattle.lower.specs.Inlining.Lowerings.{lowered, IsLowering}
use Rattle.lower.specs.Inlining.WellMade.{goes_back, IsWellMade}
use Rattle.lower.proofs.inlining.WellMadeBases.{Stand, named_stands}
use Rattle.lower.proofs.inlining.WellMadeEdges.{Whole, Edging, begun, one_edge, ended, leave_resolved, leave_heads, cond_keeps}
use Rattle.lower.proofs.inlining.WellMadeHeads.{length_heads, heads_at}

abbrev Sound : Made → Type 0
Sound m = Whole m.blocks m.edges × Stand m.bases

-- the same, and behind the blocks some edges of the next one
abbrev Going : ℕ → ℕ → Made → Type 0
Going first at m = Edging first at m.blocks m.edges × Stand m.bases

sound_own : (u : UnitView) (n : Option ℕ) (p : Placed) → Sound p.program → Sound (o.with_own u n p).program
sound_own u None p s = s
sound_own u (Some n) p s = (s.0, named_stands u p.within.function (name_at p.within.names n) p.within.locals p.program.bases s.1)

going_base : (u : UnitView) (first at n : ℕ) (p : Placed) → Going first at p.program → Going first at (o.with_base u n p).program
going_base u first at n p g = (g.0, named_stands u p.within.function (name_at p.within.names n) p.within.locals p.program.bases g.1)

going_own : (u : UnitView) (first at : ℕ) (n : Option ℕ) (p : Placed) → Going first at p.program → Going first at (o.with_own u n p).program
going_own u first at None p g = g
going_own u first at (Some n) p g = going_base u first at n p g

going_side : (u : UnitView) (first at : ℕ) (s : Side) (p : Placed) → Going first at p.program → Going first at (o.with_side u s p).program
going_side u first at (side.Object n kind) p g = going_base u first at n p g
going_side u first at (side.Number n) p g = g
going_side u first at side.Null p g = g

going_test : (u : UnitView) (first at : ℕ) (t : Option Test) (p : Placed) → Going first at p.program → Going first at (o.with_test u t p).program
going_test u first at None p g = g
going_test u first at (Some t) p g = going_side u first at t.right (o.with_side u t.left p) (going_side u first at t.left p g)

going_way : (u : UnitView) (first at : ℕ) (w : Way) (p : Placed) → Going first at p.program → Going first at (o.with_way u w p).program
going_way u first at Always p g = g
going_way u first at (When truth test puts) p g = going_test u first at test p g
going_way u first at (Case c) p g = going_own u first at c.object p g
going_way u first at (Other values) p g = g
going_way u first at NoLine p g = g
going_way u first at Line p g = g

going_exit : (u : UnitView) (first at : ℕ) (e : ExitView) (p : Placed) → Going first at p.program → Going first at (o.with_exit u at e p).program
going_exit u first at e p g =
    let w = going_way u first at e.taken p g in
    (one_edge first at (o.with_way u e.taken p).program.blocks (o.with_way u e.taken p).program.edges (o.edge_to at (e.to + p.within.labels) (o.way_moved u e.taken p)) refl w.0, w.1)

going_exits : (u : UnitView) (first at : ℕ) (es : List ExitView) (p : Placed) → Going first at p.program → Going first at (o.with_exits u at es p).program
going_exits u first at [] p g = g
going_exits u first at (e ∷ es) p g = going_exits u first at es (o.with_exit u at e p) (going_exit u first at e p g)

going_begun : (m : Made) → Sound m → Going (length m.edges) (length m.blocks) m
going_begun m s = (begun m.blocks m.edges s.0, s.1)

sound_ended : (first at : ℕ) (m : Made) → Going first at m → Sound (o.ended first m)
sound_ended first at m g = (ended first at m.blocks m.edges m.ready g.0, g.1)

sound_closed : (u : UnitView) (s : Step) (exits : List ExitView) (p : Placed) → Sound p.program → Sound (o.closed u s exits p).program
sound_closed u s exits p w =
    let first = length p.program.edges in
    let at = length p.program.blocks in
    let acted = o.with_act u s.at s.does p in
    sound_ended first at (o.with_exits u at exits acted).program (going_exits u first at exits acted (going_own u first at (own_base s.does) p (going_begun p.program w)))

sound_jumped : (at : Place) (label : ℕ) (m : Made) → Sound m → Sound (o.jumped at label m)
sound_jumped at label m s =
    let e = o.edge_to (length m.blocks) label Always in
    sound_ended (length m.edges) (length m.blocks) (o.with_edge e (o.with_ready (o.instruction at Jump) m)) (one_edge (length m.edges) (length m.blocks) m.blocks m.edges e refl (begun m.blocks m.edges s.0), s.1)

sound_marked : (at : Place) (label : ℕ) (m : Made) → Sound m → Sound (o.marked at label m)
sound_marked at label m s = cond_keeps Sound (is_none m.ready) m (o.jumped at label m) s (sound_jumped at label m s)

sound_if_used : (u : UnitView) (a : Act) (p : Placed) → Sound p.program → Sound (o.with_act_if_used u a p).program
sound_if_used u a p s = cond_keeps (λ q. Sound q.program) p.within.used (o.with_act u p.within.at a p) p (sound_own u (own_base a) p s) s

sound_piece : (u : UnitView) (q : PieceView) (p : Placed) → Sound p.program → Sound (o.with_piece u q p).program
sound_piece u (Do t) p s = sound_own u (own_base t.does) p s
sound_piece u (DoIfUsed t) p s = sound_if_used u t.does p s
sound_piece u (End t exits) p s = sound_closed u t exits p s
sound_piece u (Mark label) p s = sound_marked p.within.at (label + p.within.labels) p.program s
sound_piece u (Call c) p s = s

sound_entered : (c : OwnCall) (stack : List CopyView) (m : Made) (f : Option FunctionView) (t : Option TemplateView) → Sound m → Sound (o.entered c stack m f t).program
sound_entered c stack m None t s = s
sound_entered c stack m (Some f) None s = s
sound_entered c stack m (Some f) (Some t) s = s

sound_call : (u : UnitView) (ts : List (Option TemplateView)) (c : OwnCall) (stack : List CopyView) (m : Made) → Sound m → Sound (o.with_call u ts c stack m).program
sound_call u ts c stack m s = sound_entered c stack m (slice_get u.functions c.function) (o.template_at ts c.function) s

sound_turn : (u : UnitView) (ts : List (Option TemplateView)) (q : PieceView) (c : CopyView) (stack : List CopyView) (m : Made) → Sound m → Sound (o.turn u ts q c stack m).program
sound_turn u ts (Do t) c stack m s = sound_piece u (Do t) (placed m c) s
sound_turn u ts (DoIfUsed t) c stack m s = sound_piece u (DoIfUsed t) (placed m c) s
sound_turn u ts (End t exits) c stack m s = sound_piece u (End t exits) (placed m c) s
sound_turn u ts (Mark label) c stack m s = sound_piece u (Mark label) (placed m c) s
sound_turn u ts (Call d) c stack m s = sound_call u ts (o.inner d c) (c ∷ stack) m s

sound_next : (u : UnitView) (ts : List (Option TemplateView)) (qs : List PieceView) (c : CopyView) (stack : List CopyView) (m : Made) → Sound m → Sound (o.next_piece u ts qs c stack m).program
sound_next u ts [] c stack m s = s
sound_next u ts (q ∷ qs) c stack m s = sound_turn u ts q (o.with_rest qs c) stack m s

sound_run : (u : UnitView) (ts : List (Option TemplateView)) (n : ℕ) (stack : List CopyView) (m : Made) → Sound m → Sound (o.run u ts n stack m).program
sound_run u ts zero stack m s = s
sound_run u ts (suc n) [] m s = s
sound_run u ts (suc n) (c ∷ stack) m s = sound_run u ts n (o.next u ts c stack m).stack (o.next u ts c stack m).program (sound_next u ts c.rest c stack m s)

sound_parameters : (u : UnitView) (n : ℕ) (p : Placed) → Sound p.program → Sound (o.with_parameters u n p).program
sound_parameters u zero p s = s
sound_parameters u (suc n) p s =
    let q = o.with_parameters u n p in
    let before = sound_parameters u n p s in
    (before.0, named_stands u q.within.function (Local n) q.within.locals q.program.bases before.1)

sound_entry : (u : UnitView) (ts : List (Option TemplateView)) (stack : List CopyView) (m : Made) → Sound m → Sound (o.entry_run u ts stack m).program
sound_entry u ts [] m s = s
sound_entry u ts (c ∷ stack) m s =
    let p = o.with_parameters u c.function.parameters (placed m c) in
    sound_run u ts (2 ^ 64 - 1) (p.within ∷ stack) p.program (sound_parameters u c.function.parameters (placed m c) s)

sound_nothing : (u : UnitView) → Sound (o.nothing_made u)
sound_nothing u = (record { leave = refl; plain = λ n. refl }, record { follow = tt; all = refl })

sound_whole : (u : UnitView) (ts : List (Option TemplateView)) (at : Place) → Sound (o.whole u ts at).program
sound_whole u ts at =
    let c = o.with_call u ts (o.entry_call at u.entry) [] (o.nothing_made u) in
    sound_entry u ts c.stack c.program (sound_call u ts (o.entry_call at u.entry) [] (o.nothing_made u) (sound_nothing u))

-- what is made of a unit, and finished
made_well : (u : UnitView) (f : FunctionView) (m : Made) (temps : ℕ) → Sound m → IsWellMade (lowered u f (o.finished m) temps)
made_well u f m temps s =
    let es = o.resolved m.labels m.edges in
    record {
      follow = s.1.follow;
      width = ap (λ n. n + temps) s.1.all;
      leave = leave_heads es m.blocks es (leave_resolved m.labels 0 0 m.blocks m.edges s.0.leave);
      heads = λ n within. heads_at es m.blocks n (subst (λ k. n < k) (length_heads es m.blocks) within) ∙ ap (λ b. b || list_any (goes_back n) es) (s.0.plain n);
    }

pub lowered_well : (u : UnitView) (f : FunctionView) (ts : List (Option TemplateView)) (at : Place) (temps : ℕ) → IsWellMade (lowered u f (o.program u ts at) temps)
lowered_well u f ts at temps = made_well u f (o.whole u ts at).program temps (sound_whole u ts at)

pub lowering_well : (u : UnitView) (limits : Limits) (f : FlowView) → IsLowering u limits f → IsWellMade f
lowering_well u limits f is = subst (λ g. IsWellMade g) (sym is.opens) (lowered_well u is.entry is.templates is.entry.at is.counts.temps)
