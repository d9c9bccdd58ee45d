-- A row that arrives at a block keeps what holds of a solver's rows.
use Rattle.std.proofs.Common.{◌≡◌, ◌≢◌, ◌+◌, ◌*◌, ◌<◌, ◌≤◌, ℕ, zero, suc, Bool, true, false, cond, ◌&&◌, ◌||◌, List, length, set, Option, Some, None, refl, sym, ap, subst, arith, ◌∙◌, ⊎_elim, length-set, get_or-set_same, get_or-set_other}
use Rattle.std.proofs.lemmas.Bool.{cases_eq}
use Rattle.cc_base.specs.Lattices.{LatticeOf, OrderLaws, RoundLaws}
use Rattle.cc_base.specs.Rows.{reached_leq}
use Rattle.cc_base.specs.RowLaws.{by_test, reached_leq-refl}
use Rattle.cc_base.specs.Machine.{Machine, MachineLaws, IsMonotone}
use Rattle.cc_base.specs.InductiveMap.{row_at, IsRoundedOrNone, IsInductive, heads_below}
use Rattle.fixpoint.specs.Solver.SolverState.{State, mark_at, arrived, grows, arrive}
use Rattle.fixpoint.specs.Solver.Progress.{IsAttained, IsSound, weight, weight_at, total, potential}
use Rattle.fixpoint.proofs.solver.ArrivalLaws.{arrived-attained, arrived-above, arrived-rises, arrived-below, arrived-rounded, arrived-same, arrived-room}

pub or_left : (a b : Bool) → (a || b) ≡ false → a ≡ false
or_left true b h = h
or_left false b h = refl

pub or_right : (a b : Bool) → (a || b) ≡ false → b ≡ false
or_right true b h = cc
or_right false b h = h

pub or_both : (a b : Bool) → a ≡ false → b ≡ false → (a || b) ≡ false
or_both true b h j = h
or_both false b h j = j

cond_le : (t : Bool) (a b : ℕ) → (t ≡ true → a ≤ b) → cond t a 0 ≤ cond t b 0
cond_le true a b h = h refl
cond_le false a b h = omega arith

cond_lt : (t : Bool) (a b : ℕ) → t ≡ true → a < b → cond t a 0 < cond t b 0
cond_lt true a b e h = h
cond_lt false a b e h = absurd (cc)

one_less : (g t : Bool) (p q : ℕ) → p ≤ q → (g ≡ true → t ≡ true → p < q) → p + cond (g && t) 1 0 ≤ q
one_less true true p q le lt = let h : p < q = lt refl refl in omega arith
one_less true false p q le lt = omega arith
one_less false t p q le lt = omega arith

-- what holds of the row of each block after a write at one
pub on_set : {C : Type 0} (P : ℕ → Option (List C) → Type 0) (rows : List (Option (List C))) (t : ℕ) (v : Option (List C)) → t < length rows → P t v → ((b : ℕ) → P b (row_at rows b)) → (b : ℕ) → P b (row_at (set rows t v) b)
on_set P rows t v lt here else b =
    ⊎_elim
    (λ (e : b ≡ t). subst (λ n. P n (row_at (set rows t v) n)) (sym e) (subst (P t) (sym (get_or-set_same rows t v None lt)) here))
    (λ (ne : b ≡ t → ⊥). subst (P b) (sym (get_or-set_other rows t b v None ne)) (else b))
    (cases_eq b t)

pub total-le : (f g : ℕ → ℕ) (n : ℕ) → ((b : ℕ) → b < n → f b ≤ g b) → total f n ≤ total g n
total-le f g zero h = omega arith
total-le f g (suc n) h =
    let rest : total f n ≤ total g n = total-le f g n (λ b lt. h b (omega arith)) in
    let last : f n ≤ g n = h n (omega arith) in
    omega arith

pub total-lt : (f g : ℕ → ℕ) (n t : ℕ) → t < n → ((b : ℕ) → b < n → f b ≤ g b) → f t < g t → total f n < total g n
total-lt f g zero t lt h fall = absurd (omega arith)
total-lt f g (suc n) t lt h fall =
    let last : f n ≤ g n = h n (omega arith) in
    ⊎_elim
    (λ (e : t ≡ n).
    let rest : total f n ≤ total g n = total-le f g n (λ b below. h b (omega arith)) in
    let fall' : f n < g n = subst (λ i. f i < g i) e fall in
    omega arith)
    (λ (ne : t ≡ n → ⊥).
    let ne' : t ≢ n = ne in
    let rest : total f n < total g n = total-lt f g n t (omega arith) (λ b below. h b (omega arith)) fall in
    omega arith)
    (cases_eq t n)

-- the rows of heads can grow no more often than this
pub total-heads : (head : ℕ → Bool) (f : ℕ → ℕ) (most n : ℕ) → ((b : ℕ) → f b ≤ cond (head b) most 0) → total f n ≤ heads_below head n * most
total-heads head f most zero h = omega arith
total-heads head f most (suc n) h =
    let rest : total f n ≤ heads_below head n * most = total-heads head f most n h in
    let last : f n ≤ cond (head n) most 0 = h n in
    by_test (head n)
    (λ (t : head n ≡ true). let last' : f n ≤ most = rw t at last in rw t (omega arith))
    (λ (t : head n ≡ false). let last' : f n ≤ 0 = rw t at last in rw t (omega arith))

module _ {C : Type 0} (o : LatticeOf C) (k : OrderLaws o) (r : RoundLaws o) (m : Machine C) (law : MachineLaws o m) where
  weight-bounded : (v : Option (List C)) → weight m v ≤ m.height + 1
  weight-bounded None = omega arith
  weight-bounded (Some x) = let le : m.room x ≤ m.height = law.room_bounded x in omega arith

  pub potential-bounded : (rows : List (Option (List C))) → potential m rows ≤ heads_below m.head m.blocks * (m.height + 1)
  potential-bounded rows =
      total-heads m.head (weight_at m rows) (m.height + 1) m.blocks
      (λ b.
      by_test (m.head b)
      (λ (t : m.head b ≡ true). rw t (weight-bounded (row_at rows b)))
      (λ (t : m.head b ≡ false). rw t (omega arith)))

  module _ (b : ℕ) (x : List C) (st : State C) (here : b < m.blocks) (s : IsSound o m st.rows) (att : m.attained x ≡ true) where
    in_rows : b < length st.rows
    in_rows = let e : length st.rows ≡ m.blocks = s.size in omega arith

    is_rounded : m.head b ≡ true → IsRoundedOrNone o m (row_at st.rows b)
    is_rounded t = s.rounded b t

    abbrev new_row : List C
    new_row = arrived o m.list (m.head b) (row_at st.rows b) x

    pub arrive-rises : (c : ℕ) → reached_leq o (row_at st.rows c) (row_at (arrive o m b x st).rows c) ≡ true
    arrive-rises =
        on_set (λ c v. reached_leq o (row_at st.rows c) v ≡ true) st.rows b (Some new_row) in_rows
        (arrived-rises o k r m law (m.head b) (row_at st.rows b) x (s.attained b) att is_rounded)
        (λ c. reached_leq-refl o k (row_at st.rows c))

    pub arrive-above : reached_leq o (Some x) (row_at (arrive o m b x st).rows b) ≡ true
    arrive-above =
        subst (λ v. reached_leq o (Some x) v ≡ true) (sym (get_or-set_same st.rows b (Some new_row) None in_rows))
        (arrived-above o k r m law (m.head b) (row_at st.rows b) x (s.attained b) att is_rounded)

    pub arrive-other : (c : ℕ) → (c ≡ b → ⊥) → row_at (arrive o m b x st).rows c ≡ row_at st.rows c
    arrive-other c ne = get_or-set_other st.rows b c _ None ne

    pub arrive-same : grows o (row_at st.rows b) x ≡ false → (c : ℕ) → row_at (arrive o m b x st).rows c ≡ row_at st.rows c
    arrive-same g =
        on_set (λ c v. v ≡ row_at st.rows c) st.rows b (Some new_row) in_rows
        (arrived-same o k r m law (m.head b) (row_at st.rows b) x g)
        (λ c. refl)

    pub arrive-sound : (IsMonotone o m → (other : List (Option (List C))) → IsInductive o m other → reached_leq o (Some x) (row_at other b) ≡ true) → IsSound o m (arrive o m b x st).rows
    arrive-sound below = record {
      size = length-set st.rows b (Some new_row) ∙ s.size;
      attained =
          on_set (λ c v. IsAttained m v) st.rows b (Some new_row) in_rows
          (arrived-attained o k r m law (m.head b) (row_at st.rows b) x (s.attained b) att is_rounded) s.attained;
      rounded =
          on_set (λ c v. m.head c ≡ true → IsRoundedOrNone o m v) st.rows b (Some new_row) in_rows
          (λ t. arrived-rounded o k r m law (m.head b) (row_at st.rows b) x (s.attained b) att is_rounded t) s.rounded;
      least = λ mono other ind.
          on_set (λ c v. reached_leq o v (row_at other c) ≡ true) st.rows b (Some new_row) in_rows
          (least_here (row_at other b) (below mono other ind) (s.least mono other ind b) (λ t. ind.rounded b t)) (s.least mono other ind);
    } where
      least_here : (v : Option (List C)) → reached_leq o (Some x) v ≡ true → reached_leq o (row_at st.rows b) v ≡ true → (m.head b ≡ true → IsRoundedOrNone o m v) → reached_leq o (Some new_row) v ≡ true
      least_here None h j f = cc
      least_here (Some z) h j f = arrived-below o k r m law (m.head b) (row_at st.rows b) x z (s.attained b) att is_rounded j h f

    weight-here : m.head b ≡ true → weight m (Some new_row) ≤ weight m (row_at st.rows b)
    weight-here t =
        by_test (grows o (row_at st.rows b) x)
        (λ (g : grows o (row_at st.rows b) x ≡ true).
        let lt : weight m (Some new_row) < weight m (row_at st.rows b) =
        arrived-room o k r m law (m.head b) (row_at st.rows b) x (s.attained b) att is_rounded t g in
        omega arith)
        (λ (g : grows o (row_at st.rows b) x ≡ false).
        let e : weight m (Some new_row) ≡ weight m (row_at st.rows b) =
        ap (weight m) (arrived-same o k r m law (m.head b) (row_at st.rows b) x g) in
        omega arith)

    weight-falls : (c : ℕ) → weight_at m (arrive o m b x st).rows c ≤ weight_at m st.rows c
    weight-falls =
        on_set (λ c v. cond (m.head c) (weight m v) 0 ≤ weight_at m st.rows c) st.rows b (Some new_row) in_rows
        (cond_le (m.head b) (weight m (Some new_row)) (weight m (row_at st.rows b)) weight-here)
        (λ c. let e : weight_at m st.rows c ≡ weight_at m st.rows c = refl in omega arith)

    at_block : row_at (arrive o m b x st).rows b ≡ Some new_row
    at_block = get_or-set_same st.rows b (Some new_row) None in_rows

    potential-lt : grows o (row_at st.rows b) x ≡ true → m.head b ≡ true → potential m (arrive o m b x st).rows < potential m st.rows
    potential-lt g t =
        let fall : weight m (Some new_row) < weight m (row_at st.rows b) =
        arrived-room o k r m law (m.head b) (row_at st.rows b) x (s.attained b) att is_rounded t g in
        let fall' : weight m (row_at (arrive o m b x st).rows b) < weight m (row_at st.rows b) =
        subst (λ v. weight m v < weight m (row_at st.rows b)) (sym at_block) fall in
        total-lt (weight_at m (arrive o m b x st).rows) (weight_at m st.rows) m.blocks b here (λ c below. weight-falls c)
        (cond_lt (m.head b) _ _ t fall')

    pub arrive-potential : potential m (arrive o m b x st).rows + cond (grows o (row_at st.rows b) x && m.head b) 1 0 ≤ potential m st.rows
    arrive-potential =
        one_less (grows o (row_at st.rows b) x) (m.head b) _ _
        (total-le (weight_at m (arrive o m b x st).rows) (weight_at m st.rows) m.blocks (λ c below. weight-falls c))
        potential-lt

    pub arrive-mark : (c : ℕ) → b < length st.marks → mark_at (arrive o m b x st).marks c ≡ false → (mark_at st.marks c ≡ false) × (row_at (arrive o m b x st).rows c ≡ row_at st.rows c)
    arrive-mark c lt h =
        ⊎_elim
        (λ (e : c ≡ b).
        let at : mark_at (arrive o m b x st).marks b ≡ (grows o (row_at st.rows b) x || mark_at st.marks b) = get_or-set_same st.marks b _ false lt in
        let off : (grows o (row_at st.rows b) x || mark_at st.marks b) ≡ false = sym at ∙ (rw e at h) in
        let no : grows o (row_at st.rows b) x ≡ false = or_left _ _ off in
        let unmarked : mark_at st.marks b ≡ false = or_right _ _ off in
        (rw e unmarked, arrive-same no c))
        (λ (ne : c ≡ b → ⊥).
        (sym (get_or-set_other st.marks b c _ false ne) ∙ h, arrive-other c ne))
        (cases_eq c b)

    pub arrive-unmarked : (c : ℕ) → b < length st.marks → mark_at st.marks c ≡ false → (c ≡ b → grows o (row_at st.rows b) x ≡ false) → mark_at (arrive o m b x st).marks c ≡ false
    arrive-unmarked c lt h f =
        ⊎_elim
        (λ (e : c ≡ b).
        let at : mark_at (arrive o m b x st).marks b ≡ (grows o (row_at st.rows b) x || mark_at st.marks b) = get_or-set_same st.marks b _ false lt in
        let no : grows o (row_at st.rows b) x ≡ false = f e in
        let h' : mark_at st.marks b ≡ false = rw e at h in
        rw e (at ∙ or_both _ _ no h'))
        (λ (ne : c ≡ b → ⊥). get_or-set_other st.marks b c _ false ne ∙ h)
        (cases_eq c b)
