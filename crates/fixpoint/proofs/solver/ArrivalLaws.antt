-- A row that arrives: the new row is the least one that will do.
use Rattle.std.proofs.Common.{◌≡◌, ◌<◌, ◌≤◌, ℕ, ℤ, Bool, true, false, not, List, length, Option, Some, None, refl, sym, ap, arith, ◌∙◌}
use Rattle.cc_base.specs.Lattices.{LatticeOf, OrderLaws, RoundLaws}
use Rattle.cc_base.specs.Rows.{row_leq, row_join, row_round, row_rounded_if, row_absorbed, reached_leq}
use Rattle.cc_base.specs.RowLaws.{by_test, row_leq-refl, row_leq-trans, row_join-left, row_join-right, row_join-least, row_round-rises, row_round-monotone, row_round-idempotent, row_absorbed-is, row_absorbed-same}
use Rattle.cc_base.specs.Machine.{Machine, MachineLaws, IsRounded, IsMonotone}
use Rattle.cc_base.specs.InductiveMap.{step, IsOwn, IsRoundedOrNone}
use Rattle.fixpoint.specs.Solver.SolverState.{arrived, grows}
use Rattle.fixpoint.specs.Solver.Progress.{IsAttained, weight}

keeps : {C : Type 0} (o : LatticeOf C) (list : List ℤ) (rounding : Bool) (old : List C) → (rounding ≡ true → IsRounded o list old) → row_rounded_if o list rounding old ≡ old
keeps o list true old h = h refl
keeps o list false old h = refl

module _ {C : Type 0} (o : LatticeOf C) (r : RoundLaws o) (list : List ℤ) where
  rounded_if-rises : (rounding : Bool) (x : List C) → row_leq o x x ≡ true → row_leq o x (row_rounded_if o list rounding x) ≡ true
  rounded_if-rises true x h = row_round-rises o r list x
  rounded_if-rises false x h = h

  rounded_if-below : (rounding : Bool) (x z : List C) → row_leq o x z ≡ true → (rounding ≡ true → IsRounded o list z) → row_leq o (row_rounded_if o list rounding x) z ≡ true
  rounded_if-below true x z h f =
      let up : row_leq o (row_round o list x) (row_round o list z) ≡ true = row_round-monotone o r list x z h in
      let e : row_round o list z ≡ z = f refl in
      rw e at up
  rounded_if-below false x z h f = h

  rounded_if-rounded : (rounding : Bool) (x : List C) → rounding ≡ true → IsRounded o list (row_rounded_if o list rounding x)
  rounded_if-rounded true x h = row_round-idempotent o r list x
  rounded_if-rounded false x h = cc

module _ {C : Type 0} (o : LatticeOf C) (k : OrderLaws o) (r : RoundLaws o) (m : Machine C) (law : MachineLaws o m) where
  rounded_if-attained : (rounding : Bool) (x : List C) → m.attained x ≡ true → m.attained (row_rounded_if o m.list rounding x) ≡ true
  rounded_if-attained true x h = law.round_attained x h
  rounded_if-attained false x h = h

  same_width : (x y : List C) → m.attained x ≡ true → m.attained y ≡ true → length x ≡ length y
  same_width x y h j = law.own_width x (law.attained_own x h) ∙ sym (law.own_width y (law.attained_own y j))

  absorbed_is : (rounding : Bool) (old x : List C) → m.attained old ≡ true → m.attained x ≡ true → (rounding ≡ true → IsRounded o m.list old) → row_absorbed o m.list rounding old x ≡ row_rounded_if o m.list rounding (row_join o old x)
  absorbed_is rounding old x h j f =
      row_absorbed-is o k m.list rounding old x (same_width old x h j) (keeps o m.list rounding old f)

  pub arrived-attained : (rounding : Bool) (old : Option (List C)) (x : List C) → IsAttained m old → m.attained x ≡ true → (rounding ≡ true → IsRoundedOrNone o m old) → m.attained (arrived o m.list rounding old x) ≡ true
  arrived-attained rounding None x h j f = rounded_if-attained rounding x j
  arrived-attained rounding (Some old) x h j f =
      rw (absorbed_is rounding old x h j f) (rounded_if-attained rounding (row_join o old x) (law.join_attained old x h j))

  pub arrived-above : (rounding : Bool) (old : Option (List C)) (x : List C) → IsAttained m old → m.attained x ≡ true → (rounding ≡ true → IsRoundedOrNone o m old) → row_leq o x (arrived o m.list rounding old x) ≡ true
  arrived-above rounding None x h j f = rounded_if-rises o r m.list rounding x (row_leq-refl o k x)
  arrived-above rounding (Some old) x h j f =
      rw (absorbed_is rounding old x h j f)
      (row_leq-trans o k x (row_join o old x) _ (row_join-right o k old x (same_width old x h j))
      (rounded_if-rises o r m.list rounding (row_join o old x) (row_leq-refl o k (row_join o old x))))

  pub arrived-rises : (rounding : Bool) (old : Option (List C)) (x : List C) → IsAttained m old → m.attained x ≡ true → (rounding ≡ true → IsRoundedOrNone o m old) → reached_leq o old (Some (arrived o m.list rounding old x)) ≡ true
  arrived-rises rounding None x h j f = refl
  arrived-rises rounding (Some old) x h j f =
      rw (absorbed_is rounding old x h j f)
      (row_leq-trans o k old (row_join o old x) _ (row_join-left o k old x (same_width old x h j))
      (rounded_if-rises o r m.list rounding (row_join o old x) (row_leq-refl o k (row_join o old x))))

  pub arrived-below : (rounding : Bool) (old : Option (List C)) (x z : List C) → IsAttained m old → m.attained x ≡ true → (rounding ≡ true → IsRoundedOrNone o m old) → reached_leq o old (Some z) ≡ true → row_leq o x z ≡ true → (rounding ≡ true → IsRounded o m.list z) → row_leq o (arrived o m.list rounding old x) z ≡ true
  arrived-below rounding None x z h j f a b g = rounded_if-below o r m.list rounding x z b g
  arrived-below rounding (Some old) x z h j f a b g =
      rw (absorbed_is rounding old x h j f) (rounded_if-below o r m.list rounding (row_join o old x) z (row_join-least o k old x z a b) g)

  pub arrived-rounded : (rounding : Bool) (old : Option (List C)) (x : List C) → IsAttained m old → m.attained x ≡ true → (rounding ≡ true → IsRoundedOrNone o m old) → rounding ≡ true → IsRounded o m.list (arrived o m.list rounding old x)
  arrived-rounded rounding None x h j f t = rounded_if-rounded o r m.list rounding x t
  arrived-rounded rounding (Some old) x h j f t =
      rw (absorbed_is rounding old x h j f) (rounded_if-rounded o r m.list rounding (row_join o old x) t)

  pub arrived-same : (rounding : Bool) (old : Option (List C)) (x : List C) → grows o old x ≡ false → Some (arrived o m.list rounding old x) ≡ old
  arrived-same rounding None x h = cc
  arrived-same rounding (Some old) x h =
      by_test (row_leq o x old)
      (λ (t : row_leq o x old ≡ true). ap Some (row_absorbed-same o k m.list rounding old x t))
      (λ (f : row_leq o x old ≡ false). let h' : not false ≡ false = rw f at h in cc)

  pub arrived-room : (rounding : Bool) (old : Option (List C)) (x : List C) → IsAttained m old → m.attained x ≡ true → (rounding ≡ true → IsRoundedOrNone o m old) → rounding ≡ true → grows o old x ≡ true → weight m (Some (arrived o m.list rounding old x)) < weight m old
  arrived-room rounding None x h j f t g =
      let le : m.room (row_rounded_if o m.list rounding x) ≤ m.height = law.room_bounded _ in omega arith
  arrived-room rounding (Some old) x h j f t g =
      let new : List C = row_absorbed o m.list rounding old x in
      let att : m.attained (row_absorbed o m.list rounding old x) ≡ true = arrived-attained rounding (Some old) x h j f in
      let rnd : IsRounded o m.list (row_absorbed o m.list rounding old x) = arrived-rounded rounding (Some old) x h j f t in
      let up : row_leq o old (row_absorbed o m.list rounding old x) ≡ true = arrived-rises rounding (Some old) x h j f in
      let above : row_leq o x (row_absorbed o m.list rounding old x) ≡ true = arrived-above rounding (Some old) x h j f in
      law.room_falls old (row_absorbed o m.list rounding old x) h att (f t) rnd up
      (by_test (row_leq o (row_absorbed o m.list rounding old x) old)
      (λ (le : row_leq o (row_absorbed o m.list rounding old x) old ≡ true).
      let low : row_leq o x old ≡ true = row_leq-trans o k x _ old above le in
      let g' : not true ≡ true = rw low at g in cc)
      (λ (no : row_leq o (row_absorbed o m.list rounding old x) old ≡ false). no))

  pub step-monotone : IsMonotone o m → (e : ℕ) (a b : Option (List C)) → e < m.edges → IsAttained m a → IsOwn m b → reached_leq o a b ≡ true → reached_leq o (step m e a) (step m e b) ≡ true
  step-monotone mono e None b lt h j le = refl
  step-monotone mono e (Some x) None lt h j le = cc
  step-monotone mono e (Some x) (Some y) lt h j le = mono e x y lt h j le

  pub step-attained : (e : ℕ) (a : Option (List C)) → e < m.edges → IsAttained m a → IsAttained m (step m e a)
  step-attained e None lt h = tt
  step-attained e (Some x) lt h = through_is (m.through e x) refl where
    through_is : (v : Option (List C)) → m.through e x ≡ v → IsAttained m v
    through_is None same = tt
    through_is (Some y) same = law.through_attained e x y lt h same

  pub IsAttained-own : (a : Option (List C)) → IsAttained m a → IsOwn m a
  IsAttained-own None h = tt
  IsAttained-own (Some x) h = law.attained_own x h
