-- An edge that is followed keeps what holds of a solver's rows, and is then settled.
use Rattle.std.proofs.Common.{◌≡◌, ◌+◌, ◌<◌, ◌≤◌, ℕ, true, false, cond, ◌&&◌, List, length, Option, Some, None, refl, arith}
use Rattle.cc_base.specs.Lattices.{LatticeOf, OrderLaws, RoundLaws}
use Rattle.cc_base.specs.Rows.{reached_leq}
use Rattle.cc_base.specs.RowLaws.{reached_leq-refl, reached_leq-trans}
use Rattle.cc_base.specs.Machine.{Machine, MachineLaws, IsMonotone}
use Rattle.cc_base.specs.InductiveMap.{row_at, step, IsInductive}
use Rattle.fixpoint.specs.Solver.SolverState.{State, mark_at, arrive_if, grows_if, advance, head_grows}
use Rattle.fixpoint.specs.Solver.Progress.{IsAttained, IsSound, potential}
use Rattle.fixpoint.proofs.solver.ArrivalLaws.{step-monotone, step-attained}
use Rattle.fixpoint.proofs.solver.Advance.{arrive-rises, arrive-above, arrive-sound, arrive-potential, arrive-mark, arrive-unmarked}

module _ {C : Type 0} (o : LatticeOf C) (k : OrderLaws o) (r : RoundLaws o) (m : Machine C) (law : MachineLaws o m) where
  -- what an edge makes of a sound row is at or below the target's row of each inductive map
  step-least : (e : ℕ) (rows : List (Option (List C))) → e < m.edges → IsSound o m rows → IsMonotone o m → (other : List (Option (List C))) → IsInductive o m other → reached_leq o (step m e (row_at rows (m.source e))) (row_at other (m.target e)) ≡ true
  step-least e rows lt s mono other ind =
      reached_leq-trans o k (step m e (row_at rows (m.source e))) (step m e (row_at other (m.source e))) (row_at other (m.target e))
      (step-monotone o k r m law mono e (row_at rows (m.source e)) (row_at other (m.source e)) lt
      (s.attained (m.source e)) (ind.own (m.source e)) (s.least mono other ind (m.source e)))
      (ind.edge e lt)

  module _ (b : ℕ) (st : State C) (here : b < m.blocks) (marked : b < length st.marks) (s : IsSound o m st.rows) where
    pub if-rises : (v : Option (List C)) → IsAttained m v → (c : ℕ) → reached_leq o (row_at st.rows c) (row_at (arrive_if o m b v st).rows c) ≡ true
    if-rises None h c = reached_leq-refl o k (row_at st.rows c)
    if-rises (Some x) h c = arrive-rises o k r m law b x st here s h c

    pub if-above : (v : Option (List C)) → IsAttained m v → reached_leq o v (row_at (arrive_if o m b v st).rows b) ≡ true
    if-above None h = refl
    if-above (Some x) h = arrive-above o k r m law b x st here s h

    pub if-sound : (v : Option (List C)) → IsAttained m v → (IsMonotone o m → (other : List (Option (List C))) → IsInductive o m other → reached_leq o v (row_at other b) ≡ true) → IsSound o m (arrive_if o m b v st).rows
    if-sound None h below = s
    if-sound (Some x) h below = arrive-sound o k r m law b x st here s h below

    pub if-potential : (v : Option (List C)) → IsAttained m v → potential m (arrive_if o m b v st).rows + cond (grows_if o (row_at st.rows b) v && m.head b) 1 0 ≤ potential m st.rows
    if-potential None h = omega arith
    if-potential (Some x) h = arrive-potential o k r m law b x st here s h

    pub if-mark : (v : Option (List C)) → IsAttained m v → (c : ℕ) → mark_at (arrive_if o m b v st).marks c ≡ false → (mark_at st.marks c ≡ false) × (row_at (arrive_if o m b v st).rows c ≡ row_at st.rows c)
    if-mark None h c e = (e, refl)
    if-mark (Some x) h c e = arrive-mark o k r m law b x st here s h c marked e

    pub if-unmarked : (v : Option (List C)) → IsAttained m v → (c : ℕ) → mark_at st.marks c ≡ false → (c ≡ b → grows_if o (row_at st.rows b) v ≡ false) → mark_at (arrive_if o m b v st).marks c ≡ false
    if-unmarked None h c e f = e
    if-unmarked (Some x) h c e f = arrive-unmarked o k r m law b x st here s h c marked e f

  module _ (e : ℕ) (st : State C) (lt : e < m.edges) (size : length st.marks ≡ m.blocks) (s : IsSound o m st.rows) where
    in_blocks : m.target e < m.blocks
    in_blocks = law.target_below e lt

    in_marks : m.target e < length st.marks
    in_marks = let h : m.target e < m.blocks = law.target_below e lt in omega arith

    is_attained : IsAttained m (step m e (row_at st.rows (m.source e)))
    is_attained = step-attained o k r m law e (row_at st.rows (m.source e)) lt (s.attained (m.source e))

    pub advance-rises : (c : ℕ) → reached_leq o (row_at st.rows c) (row_at (advance o m e st).rows c) ≡ true
    advance-rises = if-rises (m.target e) st in_blocks in_marks s (step m e (row_at st.rows (m.source e))) is_attained

    pub advance-above : reached_leq o (step m e (row_at st.rows (m.source e))) (row_at (advance o m e st).rows (m.target e)) ≡ true
    advance-above = if-above (m.target e) st in_blocks in_marks s (step m e (row_at st.rows (m.source e))) is_attained

    pub advance-sound : IsSound o m (advance o m e st).rows
    advance-sound = if-sound (m.target e) st in_blocks in_marks s (step m e (row_at st.rows (m.source e))) is_attained (step-least e st.rows lt s)

    pub advance-potential : potential m (advance o m e st).rows + cond (head_grows o m e st) 1 0 ≤ potential m st.rows
    advance-potential = if-potential (m.target e) st in_blocks in_marks s (step m e (row_at st.rows (m.source e))) is_attained

    pub advance-mark : (c : ℕ) → mark_at (advance o m e st).marks c ≡ false → (mark_at st.marks c ≡ false) × (row_at (advance o m e st).rows c ≡ row_at st.rows c)
    advance-mark = if-mark (m.target e) st in_blocks in_marks s (step m e (row_at st.rows (m.source e))) is_attained

    pub advance-unmarked : (c : ℕ) → mark_at st.marks c ≡ false → (c ≡ m.target e → grows_if o (row_at st.rows (m.target e)) (step m e (row_at st.rows (m.source e))) ≡ false) → mark_at (advance o m e st).marks c ≡ false
    advance-unmarked = if-unmarked (m.target e) st in_blocks in_marks s (step m e (row_at st.rows (m.source e))) is_attained
