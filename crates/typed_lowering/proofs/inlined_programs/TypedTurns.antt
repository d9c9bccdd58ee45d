-- Each turn of the opening leaves a program whose instructions and edges keep to what is known.
use Rattle.std.proofs.Common.{◌≡◌, ◌≤◌, ◌<◌, ℕ, suc, ◌+◌, ◌-◌, Bool, true, false, cond, List, [], ◌∷◌, length, Option, Some, None, slice_get, refl, arith, sym, subst}
use Rattle.cc_base.specs.declared.diagnostics.Place.{Place}
use Rattle.c_layout.specs.CheckedUnits.{UnitView}
use Rattle.c_layout.specs.Types.{Ty}
use Rattle.lower.specs.Inlining.MovedActs.{own_base, moved}
use Rattle.lower.specs.Inlining.Inlinings as o
use Rattle.lower.specs.Inlining.Inlinings.{CopyView, Placed, placed}
use Rattle.lower_tables.specs.Bases.BaseTables.{TableView}
use Rattle.typed_programs.specs.PlainWorklists.LeadingPieces.{AllTo}
use Rattle.lower_templates.specs.Worklist.Acts.{Act, Step}
use Rattle.lower_templates.specs.Worklist.Pieces.{ExitView, TemplateView}
use Rattle.typed_programs.specs.Types.TypedPrograms.{IsKept, IsTypedWay}
use Rattle.typed_programs.specs.Types.TypedStates.{Temporaries}
use Rattle.lower_templates.specs.Views.ProgramViews.{EdgeView}
use Rattle.typed_lowering.specs.Conversions.TypedActs.{IsTypedAct}
use Rattle.typed_lowering.specs.Conversions.TypedBases.{HasOwnTypes, NamesAreTyped}
use Rattle.typed_lowering.specs.Conversions.TypedPieces.{State, Leads, IsWeaker, base_type, IsDone, IsEnded, DoneIf, AreTypedExits}
use Rattle.typed_lowering.proofs.conversions.KeptKnowledge.{kept_same, way_between}
use Rattle.typed_lowering.proofs.inlined_programs.LiftedActs.{act_lifted, way_lifted}
use Rattle.typed_lowering.proofs.inlined_programs.LiftedKnowledge.{lifted}
use Rattle.typed_lowering.proofs.inlined_programs.TypedBlocks.{changed, changed_here, Grows, grows_same, grows_twice, IsTypedEdge, StepKeeps, IsTypedMade, made_more, made_step, made_edge, made_closing, made_ended}
use Rattle.typed_lowering.proofs.inlined_programs.TypedCopies.{lifted_state, lead_lifted, weaker_lifted, behind_copy, CanName, IsOwnLabel, IsTypedCopy, AreStanding, standing_more, Holds, HoldsIn, enter, Opens, IsNamed, own_named, way_named}

module _ (u : UnitView) (ts : List (Option TemplateView)) (laws : NamesAreTyped) (own : HasOwnTypes u) where
  -- ---- instructions

  module _ (stack : List CopyView) (at : ℕ → Temporaries) (outer : Temporaries) (labels : ℕ → Temporaries) (s r : State) (count bound : ℕ) (first last : ℕ → Temporaries) where
    -- while a piece of a copy is put in, behind which `r` is known
    pub record IsTurning (now : Temporaries) (types : List Ty) (p : Placed) : Type 0 where
      pub copy : IsTypedCopy u ts at (length p.program.labels) outer labels s p.within
      pub weaker : IsWeaker r (lifted_state p.within.depth outer s)
      pub others : AreStanding u ts types at (length p.program.labels) (behind_copy outer p.within) stack
      pub made : IsTypedMade u types at count bound first last now p.program.blocks p.program.edges p.program.labels p.program.ready

    turning_stays : (now : Temporaries) (types more : List Ty) (p : Placed) (b : TableView) (locals : List (Option ℕ)) → Grows (slice_get types) (slice_get more) → IsTurning now types p → IsTurning now more (placed (o.with_bases b p.program) (o.with_locals locals p.within))
    turning_stays now types more p b locals grows k = record {
      copy = record { pieces = k.copy.pieces; own = k.copy.own; there = k.copy.there };
      weaker = k.weaker;
      others = standing_more u ts types more grows at at (length p.program.labels) (length p.program.labels) (no_less (length p.program.labels)) (λ l is. refl) (behind_copy outer p.within) stack k.others;
      made = made_more u at count bound first last p.program.blocks p.program.edges p.program.labels types more now p.program.ready grows k.made;
    }
      where
        no_less : (n : ℕ) → n ≤ n
        no_less n = omega arith

    -- an instruction of the copy, beside what else holds of the copy whatever its bases are
    module _ (E : ℕ → CopyView → Type 0) (keeps : (n : ℕ) (c : CopyView) (locals : List (Option ℕ)) → E n c → E n (o.with_locals locals c)) where
      abbrev Extra : Placed → Type 0
      Extra p = E (length p.program.labels) p.within

      acted : (place : Place) (a : Act) (types : List Ty) (p : Placed) (before after : Temporaries) → CanName u ts types p → IsTurning (lifted p.within.depth outer before) types p → Extra p → IsTypedAct u.structs u.model.pointer (base_type u p.within.function p.within.names) before after a
          → IsNamed u ts (λ more q. IsTurning (lifted p.within.depth outer after) more q × Extra q) types (o.with_act u place a p)
      acted place a types p before after can turns extra is =
          let d = p.within.depth in
          let now = lifted d outer before in
          let named = own_named u ts laws own (λ more q. IsTurning now more q × Extra q) (λ few more q b locals grows k. (turning_stays now few more q b locals grows k.0, keeps (length q.program.labels) q.within locals k.1)) (own_base a) types p can (turns, extra) in
          let x = named.0 in
          let q = o.with_own u (own_base a) p in
          let number = o.own_number u (own_base a) p in
          let step = o.instruction place (moved d number a) in
          let one : StepKeeps u x.more now (lifted d outer after) (moved d number a) = λ more grows low. act_lifted u.structs u.model.pointer (base_type u p.within.function p.within.names) more before after outer d number a is (λ n t there known. grows number t (named.1 n t there known)) low in
          let t = x.holds.0 in
          record {
            more = x.more;
            grows = x.grows;
            can = record { bases = x.can.bases; names = x.can.names };
            holds = (
              record {
                copy = t.copy;
                weaker = t.weaker;
                others = t.others;
                made = made_step u at count bound first last q.program.blocks q.program.edges q.program.labels x.more now (lifted d outer after) q.program.ready step one t.made;
              },
              x.holds.1,
            );
          }

  opens_turned : (stack : List CopyView) (at : ℕ → Temporaries) (outer : Temporaries) (labels : ℕ → Temporaries) (s : State) (now : Temporaries) (count : ℕ) (first last : ℕ → Temporaries) (types : List Ty) (p : Placed) → CanName u ts types p → IsTurning stack at outer labels s (Some now) count count first last now types p → Opens u ts (o.back_in stack p)
  opens_turned stack at outer labels s now count first last types p can k = record {
    types = types;
    at = at;
    now = Some now;
    bases = can.bases;
    standing = (record { outer = outer; labels = labels; state = s; weaker = k.weaker; copy = k.copy; names = can.names }, k.others);
    holds = record { count = count; first = first; last = last; made = k.made };
  }

  -- a piece of a copy that goes on with the state behind it
  pub record IsNext (stack : List CopyView) (types : List Ty) (at : ℕ → Temporaries) (outer : Temporaries) (labels : ℕ → Temporaries) (now s after : State) (p : Placed) : Type 0 where
    pub can : CanName u ts types p
    pub copy : IsTypedCopy u ts at (length p.program.labels) outer labels after p.within
    pub others : AreStanding u ts types at (length p.program.labels) (behind_copy outer p.within) stack
    pub weaker : IsWeaker now (lifted_state p.within.depth outer s)
    pub holds : HoldsIn u ts types at now p.program

  abbrev Nothing : ℕ → CopyView → Type 0
  Nothing n c = Unit {0}

  module _ (stack : List CopyView) (types : List Ty) (at : ℕ → Temporaries) (outer : Temporaries) (labels : ℕ → Temporaries) (now s : State) (p : Placed) where
    abbrev Next : State → Type 0
    Next after = IsNext stack types at outer labels now s after p

    -- before a piece that is led to
    pub entered_from : (after : State) (before : Temporaries) → Next after → Leads s before → Holds u ts types at (lifted p.within.depth outer before) p.program
    entered_from after before k leads = enter u ts types at now p.program (lifted p.within.depth outer before) k.holds (lead_lifted now s p.within.depth outer before k.weaker leads)

    pub opens_done : (place : Place) (a : Act) (after : Temporaries) → Next (Some after) → IsDone u p.within.function p.within.used p.within.names labels s a after → Opens u ts (o.back_in stack (o.with_act u place a p))
    opens_done place a after k is =
        let h = entered_from (Some after) is.before k is.leads in
        let later = lifted p.within.depth outer after in
        let x = acted stack at outer labels (Some after) (Some later) h.count h.count h.first h.last Nothing (λ n c locals e. tt) place a types p is.before after k.can (record { copy = k.copy; weaker = kept_same later; others = k.others; made = h.made }) tt is.acts in
        opens_turned stack at outer labels (Some after) later h.count h.first h.last x.more (o.with_act u place a p) x.can x.holds.0

    opens_same : (after : State) → Next after → IsWeaker s after → Opens u ts (o.back_in stack p)
    opens_same after k weaker = record {
      types = types;
      at = at;
      now = now;
      bases = k.can.bases;
      standing = (record { outer = outer; labels = labels; state = after; weaker = weaker_lifted now s after p.within.depth outer k.weaker weaker; copy = k.copy; names = k.can.names }, k.others);
      holds = k.holds;
    }

    pub opens_if_used : (place : Place) (a : Act) (after : State) (b : Bool) → Next after → DoneIf u p.within.function p.within.used p.within.names labels b s a after → Opens u ts (o.back_in stack (cond b (o.with_act u place a p) p))
    opens_if_used place a None true k is = absurd is
    opens_if_used place a (Some after) true k is = opens_done place a after k is
    opens_if_used place a after false k is = opens_same after k is

  -- ---- the edges of a block that ends

  module _ (stack : List CopyView) (at : ℕ → Temporaries) (outer : Temporaries) (labels : ℕ → Temporaries) (count : ℕ) (first last : ℕ → Temporaries) (now behind_it : Temporaries) where
    -- edges that are still to come
    record IsLeft (es : List ExitView) (n : ℕ) (c : CopyView) : Type 0 where
      to : AllTo (IsOwnLabel u ts at n outer labels c) es
      knows : IsKept (last count) (lifted c.depth outer behind_it)
      exits : AreTypedExits u c.function c.used c.names labels behind_it es

    left_stays : (es : List ExitView) (n : ℕ) (c : CopyView) (locals : List (Option ℕ)) → IsLeft es n c → IsLeft es n (o.with_locals locals c)
    left_stays es n c locals k = record { to = k.to; knows = k.knows; exits = k.exits }

    abbrev IsClosing : List Ty → Placed → Type 0
    IsClosing types p = IsTurning stack at outer labels None None count (suc count) first last now types p

    closing_stays : (types more : List Ty) (p : Placed) (b : TableView) (locals : List (Option ℕ)) → Grows (slice_get types) (slice_get more) → IsClosing types p → IsClosing more (placed (o.with_bases b p.program) (o.with_locals locals p.within))
    closing_stays = turning_stays stack at outer labels None None count (suc count) first last now

    abbrev IsLeftIn : List ExitView → Placed → Type 0
    IsLeftIn es p = IsLeft es (length p.program.labels) p.within

    abbrev IsEdgeIn : EdgeView → Placed → Type 0
    IsEdgeIn e p = IsTypedEdge at (suc count) last p.program.labels e

    below_next : (n : ℕ) → n < suc n
    below_next n = omega arith

    exit_typed : (e : ExitView) (es : List ExitView) (p : Placed) → IsLeftIn (e ∷ es) p → IsEdgeIn (o.edge_to count (e.to + p.within.labels) (o.way_moved u e.taken p)) p
    exit_typed e es p left =
        let d = p.within.depth in
        let label = left.to.0 in
        let way = way_lifted u e.taken p outer behind_it (labels e.to) left.exits.0 in
        let taken = o.way_moved u e.taken p in
        record {
          there = below_next count;
          room = label.0;
          way = subst (IsTypedWay taken (last count)) (sym label.1) (way_between taken (last count) (lifted d outer behind_it) (lifted d outer (labels e.to)) (lifted d outer (labels e.to)) left.knows (kept_same (lifted d outer (labels e.to))) way);
        }

    exit_made : (e : ExitView) (es : List ExitView) (types : List Ty) (p : Placed) → CanName u ts types p → IsClosing types p → IsLeftIn (e ∷ es) p → IsNamed u ts (λ more q. IsClosing more q × IsLeftIn es q) types (o.with_exit u count e p)
    exit_made e es types p can k left =
        let new = o.edge_to count (e.to + p.within.labels) (o.way_moved u e.taken p) in
        let x = way_named u ts laws own (λ more q. IsClosing more q × IsLeftIn es q × IsEdgeIn new q)
        (λ few more q b locals grows y. (closing_stays few more q b locals grows y.0, left_stays es (length q.program.labels) q.within locals y.1, record { there = y.2.there; room = y.2.room; way = y.2.way }))
        e.taken types p can (k, record { to = left.to.1; knows = left.knows; exits = left.exits.1 }, exit_typed e es p left) in
        let q = o.with_way u e.taken p in
        let t = x.holds.0 in
        record {
          more = x.more;
          grows = x.grows;
          can = record { bases = x.can.bases; names = x.can.names };
          holds = (
            record {
              copy = t.copy;
              weaker = t.weaker;
              others = t.others;
              made = made_edge u at count (suc count) first last q.program.blocks q.program.edges q.program.labels x.more now q.program.ready new x.holds.2 t.made;
            },
            x.holds.1,
          );
        }

    exits_made : (es : List ExitView) (types : List Ty) (p : Placed) → CanName u ts types p → IsClosing types p → IsLeftIn es p → IsNamed u ts IsClosing types (o.with_exits u count es p)
    exits_made [] types p can k left = record { more = types; grows = grows_same (slice_get types); can = can; holds = k }
    exits_made (e ∷ es) types p can k left =
        let x = exit_made e es types p can k left in
        let y = exits_made es x.more (o.with_exit u count e p) x.can x.holds.0 x.holds.1 in
        record { more = y.more; grows = grows_twice (slice_get types) (slice_get x.more) (slice_get y.more) x.grows y.grows; can = y.can; holds = y.holds }

    -- the block ends, and nothing comes to what stands behind it
    opens_ended : (edges : ℕ) (types : List Ty) (p : Placed) → IsKept now (last count) → CanName u ts types p → IsClosing types p → Opens u ts (o.back_in stack (o.block_ended edges p))
    opens_ended edges types p kept can k = record {
      types = types;
      at = at;
      now = None;
      bases = can.bases;
      standing = (record { outer = outer; labels = labels; state = None; weaker = k.weaker; copy = k.copy; names = can.names }, k.others);
      holds = λ known. record {
        count = suc count;
        first = changed first (suc count) known;
        last = last;
        made = made_ended u at count first last p.program.blocks p.program.edges p.program.labels types now p.program.ready (o.ended_block p.program.ready edges (length p.program.edges - edges)) refl kept known k.made;
      };
    }

  pub opens_closed : (stack : List CopyView) (types : List Ty) (at : ℕ → Temporaries) (outer : Temporaries) (labels : ℕ → Temporaries) (now s : State) (p : Placed) (x : Step) (exits : List ExitView)
      → IsNext stack types at outer labels now s None p → AllTo (IsOwnLabel u ts at (length p.program.labels) outer labels p.within) exits → IsEnded u p.within.function p.within.used p.within.names labels s x.does exits → Opens u ts (o.back_in stack (o.closed u x exits p))
  opens_closed stack types at outer labels now s p x exits k to is =
      let h = entered_from stack types at outer labels now s p None is.done.before k is.done.leads in
      let later = lifted p.within.depth outer is.behind in
      let last = changed h.last h.count later in
      let known : last h.count ≡ later = changed_here h.last h.count later h.count refl in
      let kept : IsKept (last h.count) later = subst (λ z. IsKept z later) (sym known) (kept_same later) in
      let E = IsLeft stack at outer labels h.count h.first last later is.behind exits in
      let a = acted stack at outer labels None None h.count h.count h.first h.last E (left_stays stack at outer labels h.count h.first last later is.behind exits) x.at x.does types p is.done.before is.behind k.can
      (record { copy = k.copy; weaker = refl; others = k.others; made = h.made }) (record { to = to; knows = kept; exits = is.leads }) is.done.acts in
      let q = o.with_act u x.at x.does p in
      let t = a.holds.0 in
      let made = made_closing u at h.count h.first h.last q.program.blocks q.program.edges q.program.labels a.more later q.program.ready t.made in
      let y = exits_made stack at outer labels h.count h.first last later is.behind exits a.more q a.can (record { copy = t.copy; weaker = t.weaker; others = t.others; made = made }) a.holds.1 in
      subst (λ n. Opens u ts (o.back_in stack (o.block_ended (length p.program.edges) (o.with_exits u n exits q)))) (sym h.made.counted)
      (opens_ended stack at outer labels h.count h.first last later is.behind (length p.program.edges) y.more (o.with_exits u h.count exits q) (subst (IsKept later) (sym known) (kept_same later)) y.can y.holds)
