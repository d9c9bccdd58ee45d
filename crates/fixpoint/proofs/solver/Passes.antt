-- A pass over the edges: once no head grew, each edge is settled.
use Rattle.std.proofs.Common.{◌≡◌, ◌≢◌, ◌+◌, ◌-◌, ◌<◌, ◌≤◌, ℕ, Bool, true, false, not, cond, ◌&&◌, ◌||◌, ◌⊎◌, length, set, Some, refl, sym, subst, arith, ◌∙◌, inl, inr, ⊎_elim, get_or-set_same, get_or-set_other, length-set}
use Rattle.std.proofs.Common.{eqb}
use Rattle.std.proofs.lemmas.Bool.{cases_eq, cases_lt}
use Rattle.std.proofs.lemmas.Bool.Decides.{eqb_tells}
use Rattle.cc_base.specs.Lattices.{LatticeOf, OrderLaws, RoundLaws}
use Rattle.cc_base.specs.Rows.{reached_leq}
use Rattle.cc_base.specs.RowLaws.{by_test, reached_leq-refl, reached_leq-trans}
use Rattle.cc_base.specs.Machine.{Machine, MachineLaws}
use Rattle.cc_base.specs.InductiveMap.{row_at, step, IsInductive}
use Rattle.fixpoint.specs.Solver.SolverState.{State, mark_at, advance, head_grows, begins, entered, follows_now, turned, turn_grows}
use Rattle.fixpoint.specs.Solver.Progress.{IsSound, HasEntry, IsSettled, IsSwept, potential}
use Rattle.fixpoint.proofs.solver.ArrivalLaws.{IsAttained-own}
use Rattle.fixpoint.proofs.solver.Advance.{or_left, or_right}
use Rattle.fixpoint.proofs.solver.FollowingLaws.{advance-rises, advance-above, advance-sound, advance-potential, advance-mark, advance-unmarked}

and_false : (a b : Bool) → (a && b) ≡ false → b ≡ true → a ≡ false
and_false true b h t = cc
and_false false b h t = refl

module _ {C : Type 0} (o : LatticeOf C) (k : OrderLaws o) (r : RoundLaws o) (m : Machine C) (law : MachineLaws o m) where
  pub swept-follow : (e : ℕ) (st : State C) (grew : Bool) → e < m.edges → length st.marks ≡ m.blocks → IsSound o m st.rows → IsSwept o m st true (m.source e) e grew → (grew ≡ false → mark_at st.marks (m.source e) ≡ false) → IsSwept o m (advance o m e st) true (m.source e) (e + 1) (grew || head_grows o m e st)
  swept-follow e st grew lt size s sw current = record {
    settled = λ d below unmarked p.
        let was : (mark_at st.marks (m.source d) ≡ false) × (row_at (advance o m e st).rows (m.source d) ≡ row_at st.rows (m.source d)) =
        advance-mark o k r m law e st lt size s (m.source d) unmarked in
        subst (λ v. reached_leq o (step m d v) (row_at (advance o m e st).rows (m.target d)) ≡ true) (sym was.1)
        (⊎_elim
        (λ (same : d ≡ e).
        subst (λ i. reached_leq o (step m i (row_at st.rows (m.source i))) (row_at (advance o m e st).rows (m.target i)) ≡ true) (sym same)
        (advance-above o k r m law e st lt size s))
        (λ (ne : d ≡ e → ⊥).
        let ne' : d ≢ e = ne in
        let before : IsSettled o m st.rows d =
        sw.settled d below was.0 (λ f g. let i : d < e + 1 = p f g in omega arith) in
        reached_leq-trans o k (step m d (row_at st.rows (m.source d))) (row_at st.rows (m.target d)) _ before
        (advance-rises o k r m law e st lt size s (m.target d)))
        (cases_eq d e));
    clean = λ none d below.
        let no : grew ≡ false = or_left _ _ none in
        let quiet : head_grows o m e st ≡ false = or_right grew _ none in
        let was : mark_at st.marks (m.source d) ≡ false =
        ⊎_elim
        (λ (same : d ≡ e). subst (λ i. mark_at st.marks (m.source i) ≡ false) (sym same) (current no))
        (λ (ne : d ≡ e → ⊥). let ne' : d ≢ e = ne in sw.clean no d (omega arith))
        (cases_eq d e) in
        advance-unmarked o k r m law e st lt size s (m.source d) was
        (λ back.
        let up : m.source d ≤ m.source e = law.by_source d e (omega arith) lt in
        let is_head : m.head (m.target e) ≡ true = law.back_to_head e lt (omega arith) in
        and_false _ _ quiet is_head);
  }

  pub swept-skip : (e : ℕ) (st : State C) (s : ℕ) (grew : Bool) → IsSwept o m st false s e grew → (grew ≡ false → mark_at st.marks (m.source e) ≡ false) → IsSwept o m st false (m.source e) (e + 1) (grew || false)
  swept-skip e st s grew sw current = record {
    settled = λ d below unmarked p. sw.settled d below unmarked (λ f g. absurd (cc));
    clean = λ none d below.
        let no : grew ≡ false = or_left _ _ none in
        ⊎_elim
        (λ (same : d ≡ e). subst (λ i. mark_at st.marks (m.source i) ≡ false) (sym same) (current no))
        (λ (ne : d ≡ e → ⊥). let ne' : d ≢ e = ne in sw.clean no d (omega arith))
        (cases_eq d e);
  }

  -- the first edge of a block takes the mark off
  swept-begin : (e : ℕ) (st : State C) (following grew : Bool) → e < m.edges → length st.marks ≡ m.blocks → IsSwept o m st following (m.source (e - 1)) e grew → (e ≡ 0 → following ≡ false) → (e ≡ 0) ⊎ (m.source (e - 1) ≡ m.source e → ⊥) → IsSwept o m (record st { marks = set st.marks (m.source e) false }) (mark_at st.marks (m.source e)) (m.source e) e grew
  swept-begin e st following grew lt size sw idle new = record {
    settled = λ d below unmarked p.
        let in_marks : m.source e < length st.marks = let h : m.source e < m.blocks = law.source_below e lt in omega arith in
        let pending : following ≡ true → m.source d ≡ m.source (e - 1) → d < e = λ f g.
        ⊎_elim
        (λ (i : d < e). i)
        (λ (i : e ≤ d).
        ⊎_elim
        (λ (z : e ≡ 0). let f' : following ≡ false = idle z in absurd (cc))
        (λ (ne : m.source (e - 1) ≡ m.source e → ⊥).
        let up : m.source e ≤ m.source d = law.by_source e d i below in
        let low : m.source (e - 1) ≤ m.source e = law.by_source (e - 1) e (omega arith) lt in
        absurd (ne (omega arith)))
        new)
        (cases_lt d e) in
        ⊎_elim
        (λ (same : m.source d ≡ m.source e).
        by_test (mark_at st.marks (m.source e))
        (λ (t : mark_at st.marks (m.source e) ≡ true).
        let i : d < e = p t same in
        ⊎_elim
        (λ (z : e ≡ 0). absurd (omega arith))
        (λ (ne : m.source (e - 1) ≡ m.source e → ⊥).
        let up : m.source d ≤ m.source (e - 1) = law.by_source d (e - 1) (omega arith) (omega arith) in
        let low : m.source (e - 1) ≤ m.source e = law.by_source (e - 1) e (omega arith) lt in
        absurd (ne (omega arith)))
        new)
        (λ (t : mark_at st.marks (m.source e) ≡ false).
        sw.settled d below (subst (λ b. mark_at st.marks b ≡ false) (sym same) t) pending))
        (λ (ne : m.source d ≡ m.source e → ⊥).
        sw.settled d below (sym (get_or-set_other st.marks (m.source e) (m.source d) false false ne) ∙ unmarked) pending)
        (cases_eq (m.source d) (m.source e));
    clean = λ no d below.
        let in_marks : m.source e < length st.marks = let h : m.source e < m.blocks = law.source_below e lt in omega arith in
        ⊎_elim
        (λ (same : m.source d ≡ m.source e).
        subst (λ b. mark_at (set st.marks (m.source e) false) b ≡ false) (sym same)
        (get_or-set_same st.marks (m.source e) false false in_marks))
        (λ (ne : m.source d ≡ m.source e → ⊥).
        get_or-set_other st.marks (m.source e) (m.source d) false false ne ∙ sw.clean no d below)
        (cases_eq (m.source d) (m.source e));
  }

  -- the mark of the block is off
  current-begin : (e : ℕ) (st : State C) → e < m.edges → length st.marks ≡ m.blocks → mark_at (set st.marks (m.source e) false) (m.source e) ≡ false
  current-begin e st lt size =
      let below : m.source e < m.blocks = law.source_below e lt in
      get_or-set_same st.marks (m.source e) false false (omega arith)

  begins-yes : (e : ℕ) → begins m e ≡ true → (e ≡ 0) ⊎ (m.source (e - 1) ≡ m.source e → ⊥)
  begins-yes e h =
      ⊎_elim
      (λ (z : (eqb e 0 ≡ true) × (e ≡ 0)). inl z.1)
      (λ (nz : (eqb e 0 ≡ false) × (e ≢ 0)).
      ⊎_elim
      (λ (same : (eqb (m.source (e - 1)) (m.source e) ≡ true) × (m.source (e - 1) ≡ m.source e)).
      let h' : (false || not true) ≡ true = rw (nz.0, same.0) at h in absurd (cc))
      (λ (ne : (eqb (m.source (e - 1)) (m.source e) ≡ false) × (m.source (e - 1) ≢ m.source e)). inr ne.1)
      (eqb_tells (m.source (e - 1)) (m.source e)))
      (eqb_tells e 0)

  begins-no : (e : ℕ) → begins m e ≡ false → (0 < e) × (m.source (e - 1) ≡ m.source e)
  begins-no e h =
      ⊎_elim
      (λ (z : (eqb e 0 ≡ true) × (e ≡ 0)). let h' : (true || not (eqb (m.source (e - 1)) (m.source e))) ≡ false = rw z.0 at h in absurd (cc))
      (λ (nz : (eqb e 0 ≡ false) × (e ≢ 0)).
      let ne' : e ≢ 0 = nz.1 in
      ⊎_elim
      (λ (same : (eqb (m.source (e - 1)) (m.source e) ≡ true) × (m.source (e - 1) ≡ m.source e)). (omega arith, same.1))
      (λ (ne : (eqb (m.source (e - 1)) (m.source e) ≡ false) × (m.source (e - 1) ≢ m.source e)).
      let h' : (false || not false) ≡ false = rw (nz.0, ne.0) at h in absurd (cc))
      (eqb_tells (m.source (e - 1)) (m.source e)))
      (eqb_tells e 0)

  pub swept-enter : (e : ℕ) (st : State C) (following grew : Bool) → e < m.edges → length st.marks ≡ m.blocks → IsSwept o m st following (m.source (e - 1)) e grew → (e ≡ 0 → following ≡ false) → IsSwept o m (entered m e st) (follows_now m e st following) (m.source e) e grew × (grew ≡ false → mark_at (entered m e st).marks (m.source e) ≡ false)
  swept-enter e st following grew lt size sw idle =
      by_test (begins m e)
      (λ (t : begins m e ≡ true).
      rw t (swept-begin e st following grew lt size sw idle (begins-yes e t), λ no. current-begin e st lt size))
      (λ (t : begins m e ≡ false).
      let same : (0 < e) × (m.source (e - 1) ≡ m.source e) = begins-no e t in
      let at : IsSwept o m st following (m.source e) e grew = subst (λ b. IsSwept o m st following b e grew) same.1 sw in
      rw t (at, λ no. subst (λ b. mark_at st.marks b ≡ false) same.1 (sw.clean no (e - 1) (omega arith))))

  pub entered-rows : (e : ℕ) (st : State C) → (entered m e st).rows ≡ st.rows
  entered-rows e st =
      by_test (begins m e)
      (λ (t : begins m e ≡ true). rw t refl)
      (λ (t : begins m e ≡ false). rw t refl)

  pub entered-size : (e : ℕ) (st : State C) → length (entered m e st).marks ≡ length st.marks
  entered-size e st =
      by_test (begins m e)
      (λ (t : begins m e ≡ true). rw t (length-set st.marks (m.source e) false))
      (λ (t : begins m e ≡ false). rw t refl)

  pub swept-inductive : (st : State C) (following : Bool) (s : ℕ) → IsSound o m st.rows → HasEntry o m st.rows → IsSwept o m st following s m.edges false → IsInductive o m st.rows
  swept-inductive st following s sound entry sw = record {
    size = sound.size;
    own = λ b. IsAttained-own o k r m law (row_at st.rows b) (sound.attained b);
    entry = entry;
    edge = λ e lt. sw.settled e lt (sw.clean refl e lt) (λ f g. lt);
    rounded = sound.rounded;
  }

  module _ (e : ℕ) (st : State C) (following : Bool) (lt : e < m.edges) (size : length st.marks ≡ m.blocks) (s : IsSound o m st.rows) where
    size' : length (entered m e st).marks ≡ m.blocks
    size' = entered-size e st ∙ size

    sound' : IsSound o m (entered m e st).rows
    sound' = subst (IsSound o m) (sym (entered-rows e st)) s

    pub turn-sound : IsSound o m (turned o m e st following).rows
    turn-sound =
        by_test (follows_now m e st following)
        (λ (t : follows_now m e st following ≡ true). rw t (advance-sound o k r m law e (entered m e st) lt size' sound'))
        (λ (t : follows_now m e st following ≡ false). rw t sound')

    pub turn-rises : (c : ℕ) → reached_leq o (row_at st.rows c) (row_at (turned o m e st following).rows c) ≡ true
    turn-rises c =
        subst (λ rows. reached_leq o (row_at rows c) (row_at (turned o m e st following).rows c) ≡ true) (entered-rows e st)
        (by_test (follows_now m e st following)
        (λ (t : follows_now m e st following ≡ true). rw t (advance-rises o k r m law e (entered m e st) lt size' sound' c))
        (λ (t : follows_now m e st following ≡ false). rw t (reached_leq-refl o k (row_at (entered m e st).rows c))))

    pub turn-entry : HasEntry o m st.rows → HasEntry o m (turned o m e st following).rows
    turn-entry h = reached_leq-trans o k (Some m.start) (row_at st.rows 0) _ h (turn-rises 0)

    pub turn-potential : potential m (turned o m e st following).rows + cond (turn_grows o m e st following) 1 0 ≤ potential m st.rows
    turn-potential =
        subst (λ rows. potential m (turned o m e st following).rows + cond (turn_grows o m e st following) 1 0 ≤ potential m rows) (entered-rows e st)
        (by_test (follows_now m e st following)
        (λ (t : follows_now m e st following ≡ true). rw t (advance-potential o k r m law e (entered m e st) lt size' sound'))
        (λ (t : follows_now m e st following ≡ false). rw t (omega arith)))

    pub turn-swept : (grew : Bool) → IsSwept o m st following (m.source (e - 1)) e grew → (e ≡ 0 → following ≡ false) → IsSwept o m (turned o m e st following) (follows_now m e st following) (m.source e) (e + 1) (grew || turn_grows o m e st following)
    turn-swept grew sw idle =
        let entering : IsSwept o m (entered m e st) (follows_now m e st following) (m.source e) e grew × (grew ≡ false → mark_at (entered m e st).marks (m.source e) ≡ false) =
        swept-enter e st following grew lt size sw idle in
        by_test (follows_now m e st following)
        (λ (t : follows_now m e st following ≡ true).
        let now : IsSwept o m (entered m e st) true (m.source e) e grew = subst (λ f. IsSwept o m (entered m e st) f (m.source e) e grew) t entering.0 in
        rw t (swept-follow e (entered m e st) grew lt size' sound' now entering.1))
        (λ (t : follows_now m e st following ≡ false).
        let now : IsSwept o m (entered m e st) false (m.source e) e grew = subst (λ f. IsSwept o m (entered m e st) f (m.source e) e grew) t entering.0 in
        rw t (swept-skip e (entered m e st) (m.source e) grew now entering.1))
