-- A pass of the solver over the edges.
use Rattle.std.proofs.Common.{◌≡◌, ◌+◌, ◌-◌, ◌<◌, ◌≤◌, ◌||◌, ℕ, Bool, true, false, cond, if◌then◌else◌, List, map, length, set, Option, Some, None, slice_index_or, refl, sym, ap, subst, arith, ◌∙◌, inl}
use Rattle.std.proofs.lemmas.List.{map-set, set-get_or, length-map}
use Rattle.cc_base.specs.Lattices.{LatticeOf, OrderLaws, RoundLaws}
use Rattle.cc_base.specs.Machine.{Machine, MachineLaws}
use Rattle.cc_base.specs.InductiveMap.{row_at, IsOwn, IsInductive}
use Rattle.cc_base.specs.RowLaws.{by_test}
use Rattle.fixpoint.specs.Pool.Pool.{Pool, IsTaken, IsWhole}
use Rattle.fixpoint.specs.declared.pool.row_name.Row.{Row}
use Rattle.fixpoint.specs.Solver.SolverState.{State, begins, entered, follows_now, turned, turn_grows, advance, head_grows}
use Rattle.fixpoint.specs.Solver.Progress.{IsSound, HasEntry, IsSwept, potential}
use Rattle.fixpoint.specs.Solver.RowMap.{slot_row, slot_mark, slot_index, unmarked, rows_in, state_in, IsHeldBeside, Changed, SlotChanged}
use Rattle.fixpoint.specs.Solver.Entering.{entered_map, follows_map}
use Rattle.fixpoint.proofs.solver.ArrivalLaws.{IsAttained-own}
use Rattle.fixpoint.proofs.solver.MapLaws.{map-changed, map-rows, row_at-rows_in, mark_at-marks, same_state}
use Rattle.fixpoint.proofs.solver.SpareLaws.{Changed-trans, Changed-refl}
use Rattle.fixpoint.proofs.solver.Passes.{entered-rows, swept-inductive, turn-sound, turn-entry, turn-potential, turn-swept}

slot-unmarked : {C : Type 0} (p : Pool C) (slot : Option Row) → IsWhole p → ((i : ℕ) → slot_index slot ≡ Some i → IsTaken p i) → SlotChanged p slot p (unmarked slot)
slot-unmarked p None whole taken = record {
  width = refl;
  whole = whole;
  others = λ s t out. (t, refl);
  index = λ i e. absurd (cc);
  room = refl;
}
slot-unmarked p (Some row) whole taken = record {
  width = refl;
  whole = whole;
  others = λ s t out. (t, refl);
  index = λ i e. (taken i e, inl e);
  room = refl;
}

unmarked-row : {C : Type 0} (p : Pool C) (slot : Option Row) → slot_row p (unmarked slot) ≡ slot_row p slot
unmarked-row p None = refl
unmarked-row p (Some row) = refl

unmarked-mark : (slot : Option Row) → slot_mark (unmarked slot) ≡ false
unmarked-mark None = refl
unmarked-mark (Some row) = refl

module _ {C : Type 0} (m : Machine C) (e : ℕ) (p : Pool C) (slots : List (Option Row)) (spare : ℕ) (lt : m.source e < length slots) (h : IsHeldBeside p slots spare) where
  abbrev here : Option Row
  here = slice_index_or slots (m.source e) None

  change : SlotChanged p here p (unmarked here)
  change = slot-unmarked p here h.whole (λ i f. h.held.taken (m.source e) i f)

  off_state : state_in p (set slots (m.source e) (unmarked here)) ≡ (let st : State C = record { rows = rows_in p slots; marks = set (map slot_mark slots) (m.source e) false } in st)
  off_state =
      same_state
      (map-rows p p slots (m.source e) here (unmarked here) spare lt refl h change
      ∙ ap (set (rows_in p slots) (m.source e)) (unmarked-row p here ∙ sym (row_at-rows_in p slots (m.source e)))
      ∙ set-get_or (rows_in p slots) (m.source e) None)
      (map-set slot_mark slots (m.source e) (unmarked here) ∙ ap (set (map slot_mark slots) (m.source e)) (unmarked-mark here))

  enter-changed : Changed p slots spare p (entered_map m e slots)
  enter-changed =
      by_test (begins m e)
      (λ (t : begins m e ≡ true). rw t (map-changed p p slots (m.source e) here (unmarked here) spare lt refl h change))
      (λ (t : begins m e ≡ false). rw t (Changed-refl p slots spare h))

  enter-state : state_in p (entered_map m e slots) ≡ entered m e (state_in p slots)
  enter-state =
      by_test (begins m e)
      (λ (t : begins m e ≡ true). rw t off_state)
      (λ (t : begins m e ≡ false). rw t refl)

  enter-follows : (following : Bool) → follows_map m e slots following ≡ follows_now m e (state_in p slots) following
  enter-follows following =
      by_test (begins m e)
      (λ (t : begins m e ≡ true). rw t (sym (mark_at-marks slots (m.source e))))
      (λ (t : begins m e ≡ false). rw t refl)

-- what holds in a pass that has come to the edge e
pub record Sweeping {C : Type 0} (o : LatticeOf C) (m : Machine C) (p0 : Pool C) (slots0 : List (Option Row)) (spare : ℕ) (p : Pool C) (slots : List (Option Row)) (following : Bool) (e : ℕ) (grew : Bool) : Type 0 where
  pub changed : Changed p0 slots0 spare p slots
  pub sound : IsSound o m (rows_in p slots)
  pub entry : HasEntry o m (rows_in p slots)
  pub swept : IsSwept o m (state_in p slots) following (m.source (e - 1)) e grew
  pub idle : e ≡ 0 → following ≡ false
  pub falls : potential m (rows_in p slots) + cond grew 1 0 ≤ potential m (rows_in p0 slots0)

both_grow : (a b : Bool) (p q u : ℕ) → p + cond b 1 0 ≤ q → q + cond a 1 0 ≤ u → p + cond (a || b) 1 0 ≤ u
both_grow true true p q u h k = omega arith
both_grow true false p q u h k = omega arith
both_grow false true p q u h k = omega arith
both_grow false false p q u h k = omega arith

pub length-marks : {C : Type 0} (p : Pool C) (slots : List (Option Row)) → length (map slot_mark slots) ≡ length (rows_in p slots)
length-marks p slots = length-map slots slot_mark ∙ sym (length-map slots (slot_row p))

module _ {C : Type 0} (o : LatticeOf C) (k : OrderLaws o) (r : RoundLaws o) (m : Machine C) (law : MachineLaws o m) where
  module _ (p0 : Pool C) (slots0 : List (Option Row)) (spare : ℕ) (p : Pool C) (slots : List (Option Row)) (following : Bool) (e : ℕ) (grew : Bool) (lt : e < m.edges) (sw : Sweeping o m p0 slots0 spare p slots following e grew) where
    source_in : m.source e < length slots
    source_in =
        let a : m.source e < m.blocks = law.source_below e lt in
        let b : length (rows_in p slots) ≡ m.blocks = sw.sound.size in
        let c : length (rows_in p slots) ≡ length slots = length-map slots (slot_row p) in
        omega arith

    marks_size : length (map slot_mark slots) ≡ m.blocks
    marks_size = length-marks p slots ∙ sw.sound.size

    -- the rows are own after the mark is taken off
    pub turn-own : (b : ℕ) → IsOwn m (row_at (rows_in p (entered_map m e slots)) b)
    turn-own b =
        subst (λ rows. IsOwn m (row_at rows b))
        (sym (ap (λ (st : State C). st.rows) (enter-state m e p slots spare source_in sw.changed.held) ∙ entered-rows o k r m law e (state_in p slots)))
        (IsAttained-own o k r m law (row_at (rows_in p slots) b) (sw.sound.attained b))

    pub turn-changed : Changed p slots spare p (entered_map m e slots)
    turn-changed = enter-changed m e p slots spare source_in sw.changed.held

    pub sweep-turn : (q : Pool C) (slots' : List (Option Row)) (f g : Bool) → f ≡ follows_map m e slots following → Changed p (entered_map m e slots) spare q slots' → state_in q slots' ≡ (if f then advance o m e (state_in p (entered_map m e slots)) else state_in p (entered_map m e slots)) → g ≡ (if f then head_grows o m e (state_in p (entered_map m e slots)) else false) → Sweeping o m p0 slots0 spare q slots' f (e + 1) (grew || g)
    sweep-turn q slots' f g fe ch st ge =
        let entering : state_in p (entered_map m e slots) ≡ entered m e (state_in p slots) = enter-state m e p slots spare source_in sw.changed.held in
        let now : f ≡ follows_now m e (state_in p slots) following = fe ∙ enter-follows m e p slots spare source_in sw.changed.held following in
        let state : state_in q slots' ≡ turned o m e (state_in p slots) following =
        st
        ∙ ap (λ s. if f then advance o m e s else s) entering
        ∙ ap (λ b. if b then advance o m e (entered m e (state_in p slots)) else entered m e (state_in p slots)) now in
        let grown : g ≡ turn_grows o m e (state_in p slots) following =
        ge
        ∙ ap (λ s. if f then head_grows o m e s else false) entering
        ∙ ap (λ b. if b then head_grows o m e (entered m e (state_in p slots)) else false) now in
        let rows : rows_in q slots' ≡ (turned o m e (state_in p slots) following).rows = ap (λ (s : State C). s.rows) state in
        let back : e + 1 - 1 ≡ e = omega arith in
        record {
          changed = Changed-trans p0 p q slots0 slots slots' spare sw.changed (Changed-trans p p q slots (entered_map m e slots) slots' spare turn-changed ch);
          sound = subst (IsSound o m) (sym rows) (turn-sound o k r m law e (state_in p slots) following lt marks_size sw.sound);
          entry = subst (HasEntry o m) (sym rows) (turn-entry o k r m law e (state_in p slots) following lt marks_size sw.sound sw.entry);
          swept =
              subst (λ s. IsSwept o m s f (m.source (e + 1 - 1)) (e + 1) (grew || g)) (sym state)
              (subst (λ n. IsSwept o m (turned o m e (state_in p slots) following) f (m.source n) (e + 1) (grew || g)) (sym back)
              (subst (λ b. IsSwept o m (turned o m e (state_in p slots) following) b (m.source e) (e + 1) (grew || g)) (sym now)
              (subst (λ b. IsSwept o m (turned o m e (state_in p slots) following) (follows_now m e (state_in p slots) following) (m.source e) (e + 1) (grew || b)) (sym grown)
              (turn-swept o k r m law e (state_in p slots) following lt marks_size sw.sound grew sw.swept sw.idle))));
          idle = λ z. absurd (omega arith);
          falls =
              both_grow grew g (potential m (rows_in q slots')) (potential m (rows_in p slots)) (potential m (rows_in p0 slots0))
              (subst (λ rs. potential m rs + cond g 1 0 ≤ potential m (rows_in p slots)) (sym rows)
              (subst (λ b. potential m (turned o m e (state_in p slots) following).rows + cond b 1 0 ≤ potential m (rows_in p slots)) (sym grown)
              (turn-potential o k r m law e (state_in p slots) following lt marks_size sw.sound)))
              sw.falls;
        }

  pub sweep-inductive : (p0 : Pool C) (slots0 : List (Option Row)) (spare : ℕ) (p : Pool C) (slots : List (Option Row)) (following grew : Bool) → Sweeping o m p0 slots0 spare p slots following m.edges grew → grew ≡ false → IsInductive o m (rows_in p slots)
  sweep-inductive p0 slots0 spare p slots following grew sw none =
      swept-inductive o k r m law (state_in p slots) following (m.source (m.edges - 1)) sw.sound sw.entry
      (subst (IsSwept o m (state_in p slots) following (m.source (m.edges - 1)) m.edges) none sw.swept)
