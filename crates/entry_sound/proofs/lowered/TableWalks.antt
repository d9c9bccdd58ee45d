-- What every naming of a base keeps, each turn of an opening keeps.
use Rattle.std.proofs.Common.{ℕ, zero, suc, Bool, true, false, cond, List, [], ◌∷◌, Option, Some, None, slice_get}
use Rattle.cc_base.specs.declared.diagnostics.Place.{Place}
use Rattle.c_layout.specs.CheckedUnits.{FunctionView, UnitView}
use Rattle.cfg.specs.declared.flow_edges.Side.{Side}
use Rattle.cfg.specs.declared.flow_edges.Side.TheVariants as side
use Rattle.cfg.specs.declared.flow_edges.Test.{Test}
use Rattle.lower_templates.specs.Worklist.Acts.{Act}
use Rattle.lower_templates.specs.Worklist.Pieces.{NameView, Way, Always, When, Case, Other, NoLine, Line, ExitView, PieceView, Do, DoIfUsed, End, Mark, Call, TemplateView}
use Rattle.lower_templates.specs.declared.worklist.template_pieces.OwnCall.{OwnCall}
use Rattle.lower_tables.specs.Bases.BaseTables.{TableView, base}
use Rattle.lower.specs.Inlining.MovedActs.{own_base}
use Rattle.lower.specs.Inlining.Inlinings as o
use Rattle.lower.specs.Inlining.Inlinings.{Made, CopyView, Placed, is_none, placed, name_at}

cond_keeps : {A : Type 0} (P : A → Type 0) (b : Bool) (x y : A) → P x → P y → P (cond b x y)
cond_keeps P true x y p q = p
cond_keeps P false x y p q = q

module _ (u : UnitView) (Kept : TableView → Type 0) (named : (f : FunctionView) (n : NameView) (locals : List (Option ℕ)) (b : TableView) → Kept b → Kept (base u f n locals b).after) where
  abbrev Sound : Made → Type 0
  Sound m = Kept m.bases

  sound_base : (n : ℕ) (p : Placed) → Sound p.program → Sound (o.with_base u n p).program
  sound_base n p s = named p.within.function (name_at p.within.names n) p.within.locals p.program.bases s

  sound_own : (n : Option ℕ) (p : Placed) → Sound p.program → Sound (o.with_own u n p).program
  sound_own None p s = s
  sound_own (Some n) p s = sound_base n p s

  sound_side : (x : Side) (p : Placed) → Sound p.program → Sound (o.with_side u x p).program
  sound_side (side.Object n kind) p s = sound_base n p s
  sound_side (side.Number n) p s = s
  sound_side side.Null p s = s

  sound_test : (t : Option Test) (p : Placed) → Sound p.program → Sound (o.with_test u t p).program
  sound_test None p s = s
  sound_test (Some t) p s = sound_side t.right (o.with_side u t.left p) (sound_side t.left p s)

  sound_way : (w : Way) (p : Placed) → Sound p.program → Sound (o.with_way u w p).program
  sound_way Always p s = s
  sound_way (When truth test puts) p s = sound_test test p s
  sound_way (Case c) p s = sound_own c.object p s
  sound_way (Other values) p s = s
  sound_way NoLine p s = s
  sound_way Line p s = s

  sound_exits : (from : ℕ) (es : List ExitView) (p : Placed) → Sound p.program → Sound (o.with_exits u from es p).program
  sound_exits from [] p s = s
  sound_exits from (e ∷ es) p s = sound_exits from es (o.with_exit u from e p) (sound_way e.taken p s)

  sound_marked : (at : Place) (label : ℕ) (m : Made) → Sound m → Sound (o.marked at label m)
  sound_marked at label m s = cond_keeps Sound (is_none m.ready) m (o.jumped at label m) s s

  sound_if_used : (a : Act) (p : Placed) → Sound p.program → Sound (o.with_act_if_used u a p).program
  sound_if_used a p s = cond_keeps (λ q. Sound q.program) p.within.used (o.with_act u p.within.at a p) p (sound_own (own_base a) p s) s

  sound_piece : (q : PieceView) (p : Placed) → Sound p.program → Sound (o.with_piece u q p).program
  sound_piece (Do t) p s = sound_own (own_base t.does) p s
  sound_piece (DoIfUsed t) p s = sound_if_used t.does p s
  sound_piece (End t exits) p s = sound_exits _ exits (o.with_act u t.at t.does p) (sound_own (own_base t.does) p s)
  sound_piece (Mark label) p s = sound_marked p.within.at _ p.program s
  sound_piece (Call c) p s = s

  sound_entered : (c : OwnCall) (stack : List CopyView) (m : Made) (f : Option FunctionView) (t : Option TemplateView) → Sound m → Sound (o.entered c stack m f t).program
  sound_entered c stack m None t s = s
  sound_entered c stack m (Some f) None s = s
  sound_entered c stack m (Some f) (Some t) s = s

  sound_call : (ts : List (Option TemplateView)) (c : OwnCall) (stack : List CopyView) (m : Made) → Sound m → Sound (o.with_call u ts c stack m).program
  sound_call ts c stack m s = sound_entered c stack m (slice_get u.functions c.function) (o.template_at ts c.function) s

  sound_turn : (ts : List (Option TemplateView)) (q : PieceView) (c : CopyView) (stack : List CopyView) (m : Made) → Sound m → Sound (o.turn u ts q c stack m).program
  sound_turn ts (Do t) c stack m s = sound_piece (Do t) (placed m c) s
  sound_turn ts (DoIfUsed t) c stack m s = sound_piece (DoIfUsed t) (placed m c) s
  sound_turn ts (End t exits) c stack m s = sound_piece (End t exits) (placed m c) s
  sound_turn ts (Mark label) c stack m s = sound_piece (Mark label) (placed m c) s
  sound_turn ts (Call d) c stack m s = sound_call ts (o.inner d c) (c ∷ stack) m s

  sound_next : (ts : List (Option TemplateView)) (qs : List PieceView) (c : CopyView) (stack : List CopyView) (m : Made) → Sound m → Sound (o.next_piece u ts qs c stack m).program
  sound_next ts [] c stack m s = s
  sound_next ts (q ∷ qs) c stack m s = sound_turn ts q (o.with_rest qs c) stack m s

  pub sound_run : (ts : List (Option TemplateView)) (n : ℕ) (stack : List CopyView) (m : Made) → Sound m → Sound (o.run u ts n stack m).program
  sound_run ts zero stack m s = s
  sound_run ts (suc n) [] m s = s
  sound_run ts (suc n) (c ∷ stack) m s = sound_run ts n (o.next u ts c stack m).stack (o.next u ts c stack m).program (sound_next ts c.rest c stack m s)
