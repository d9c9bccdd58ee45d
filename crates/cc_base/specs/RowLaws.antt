-- Rows of lattice values are ordered, joined and rounded as their cells are.
use Rattle.std.proofs.Common.{◌≡◌, ℤ, Bool, true, false, ◌&&◌, List, [], ◌∷◌, length, Option, Some, None, refl, sym, arith}
use Rattle.cc_base.specs.Lattices.{LatticeOf, OrderLaws, RoundLaws}
use Rattle.cc_base.specs.Rows.{row_leq, row_join, row_round, rounded_if, absorbed, row_rounded_if, row_absorbed, reached_leq}

pub and_left : (a b : Bool) → (a && b) ≡ true → a ≡ true
and_left true b h = refl
and_left false b h = h

pub and_right : (a b : Bool) → (a && b) ≡ true → b ≡ true
and_right true b h = h
and_right false b h = cc

pub and_both : (a b : Bool) → a ≡ true → b ≡ true → (a && b) ≡ true
and_both true b h k = k
and_both false b h k = h

-- a fact for each outcome of a test holds
pub by_test : {P : Type 0} (b : Bool) → (b ≡ true → P) → (b ≡ false → P) → P
by_test true t f = t refl
by_test false t f = f refl

pub row_leq-length : {C : Type 0} (o : LatticeOf C) (xs ys : List C) → row_leq o xs ys ≡ true → length xs ≡ length ys
row_leq-length o [] [] h = refl
row_leq-length o [] (y ∷ ys) h = cc
row_leq-length o (x ∷ xs) [] h = cc
row_leq-length o (x ∷ xs) (y ∷ ys) h =
    let e : length xs ≡ length ys = row_leq-length o xs ys (and_right (o.leq x y) _ h) in omega arith

pub length-row_absorbed : {C : Type 0} (o : LatticeOf C) (list : List ℤ) (rounding : Bool) (xs ys : List C) → length (row_absorbed o list rounding xs ys) ≡ length xs
length-row_absorbed o list rounding [] ys = refl
length-row_absorbed o list rounding (x ∷ xs) [] = refl
length-row_absorbed o list rounding (x ∷ xs) (y ∷ ys) =
    let e : length (row_absorbed o list rounding xs ys) ≡ length xs = length-row_absorbed o list rounding xs ys in omega arith

module _ {C : Type 0} (o : LatticeOf C) (k : OrderLaws o) where
  pub row_leq-refl : (xs : List C) → row_leq o xs xs ≡ true
  row_leq-refl [] = refl
  row_leq-refl (x ∷ xs) = and_both _ _ (k.reflexive x) (row_leq-refl xs)

  pub row_leq-trans : (xs ys zs : List C) → row_leq o xs ys ≡ true → row_leq o ys zs ≡ true → row_leq o xs zs ≡ true
  row_leq-trans [] [] zs h j = j
  row_leq-trans [] (y ∷ ys) zs h j = cc
  row_leq-trans (x ∷ xs) [] zs h j = cc
  row_leq-trans (x ∷ xs) (y ∷ ys) [] h j = cc
  row_leq-trans (x ∷ xs) (y ∷ ys) (z ∷ zs) h j =
      and_both _ _ (k.transitive x y z (and_left _ _ h) (and_left _ _ j))
      (row_leq-trans xs ys zs (and_right (o.leq x y) _ h) (and_right (o.leq y z) _ j))

  pub row_leq-antisym : (xs ys : List C) → row_leq o xs ys ≡ true → row_leq o ys xs ≡ true → xs ≡ ys
  row_leq-antisym [] [] h j = refl
  row_leq-antisym [] (y ∷ ys) h j = cc
  row_leq-antisym (x ∷ xs) [] h j = cc
  row_leq-antisym (x ∷ xs) (y ∷ ys) h j =
      let e : x ≡ y = k.antisymmetric x y (and_left _ _ h) (and_left _ _ j) in
      let f : xs ≡ ys = row_leq-antisym xs ys (and_right (o.leq x y) _ h) (and_right (o.leq y x) _ j) in
      cc

  pub row_join-left : (xs ys : List C) → length xs ≡ length ys → row_leq o xs (row_join o xs ys) ≡ true
  row_join-left [] ys e = refl
  row_join-left (x ∷ xs) [] e = absurd (omega arith)
  row_join-left (x ∷ xs) (y ∷ ys) e = and_both _ _ (k.join_left x y) (row_join-left xs ys (omega arith))

  pub row_join-right : (xs ys : List C) → length xs ≡ length ys → row_leq o ys (row_join o xs ys) ≡ true
  row_join-right [] [] e = refl
  row_join-right [] (y ∷ ys) e = absurd (omega arith)
  row_join-right (x ∷ xs) [] e = absurd (omega arith)
  row_join-right (x ∷ xs) (y ∷ ys) e = and_both _ _ (k.join_right x y) (row_join-right xs ys (omega arith))

  pub row_join-least : (xs ys zs : List C) → row_leq o xs zs ≡ true → row_leq o ys zs ≡ true → row_leq o (row_join o xs ys) zs ≡ true
  row_join-least [] ys zs h j = h
  row_join-least (x ∷ xs) [] [] h j = cc
  row_join-least (x ∷ xs) [] (z ∷ zs) h j = cc
  row_join-least (x ∷ xs) (y ∷ ys) [] h j = cc
  row_join-least (x ∷ xs) (y ∷ ys) (z ∷ zs) h j =
      and_both _ _ (k.join_least x y z (and_left _ _ h) (and_left _ _ j))
      (row_join-least xs ys zs (and_right (o.leq x z) _ h) (and_right (o.leq y z) _ j))

  pub reached_leq-refl : (a : Option (List C)) → reached_leq o a a ≡ true
  reached_leq-refl None = refl
  reached_leq-refl (Some x) = row_leq-refl x

  pub reached_leq-trans : (a b c : Option (List C)) → reached_leq o a b ≡ true → reached_leq o b c ≡ true → reached_leq o a c ≡ true
  reached_leq-trans None b c h j = refl
  reached_leq-trans (Some x) None c h j = cc
  reached_leq-trans (Some x) (Some y) None h j = cc
  reached_leq-trans (Some x) (Some y) (Some z) h j = row_leq-trans x y z h j

module _ {C : Type 0} (o : LatticeOf C) (r : RoundLaws o) (list : List ℤ) where
  pub row_round-rises : (xs : List C) → row_leq o xs (row_round o list xs) ≡ true
  row_round-rises [] = refl
  row_round-rises (x ∷ xs) = and_both _ _ (r.rises list x) (row_round-rises xs)

  pub row_round-monotone : (xs ys : List C) → row_leq o xs ys ≡ true → row_leq o (row_round o list xs) (row_round o list ys) ≡ true
  row_round-monotone [] [] h = refl
  row_round-monotone [] (y ∷ ys) h = cc
  row_round-monotone (x ∷ xs) [] h = cc
  row_round-monotone (x ∷ xs) (y ∷ ys) h =
      and_both _ _ (r.monotone list x y (and_left _ _ h)) (row_round-monotone xs ys (and_right (o.leq x y) _ h))

  pub row_round-idempotent : (xs : List C) → row_round o list (row_round o list xs) ≡ row_round o list xs
  row_round-idempotent [] = refl
  row_round-idempotent (x ∷ xs) =
      let e : o.round list (o.round list x) ≡ o.round list x = r.idempotent list x in
      let f : row_round o list (row_round o list xs) ≡ row_round o list xs = row_round-idempotent xs in
      cc

-- a cell that is rounded, if that is asked for, absorbs another one by join and rounding
absorbed-is : {C : Type 0} (o : LatticeOf C) (k : OrderLaws o) (list : List ℤ) (rounding : Bool) (x y : C) → rounded_if o list rounding x ≡ x → absorbed o list rounding x y ≡ rounded_if o list rounding (o.join x y)
absorbed-is o k list rounding x y e =
    by_test (o.leq y x)
    (λ (h : o.leq y x ≡ true).
    let low : o.leq (o.join x y) x ≡ true = k.join_least x y x (k.reflexive x) h in
    let same : x ≡ o.join x y = k.antisymmetric x (o.join x y) (k.join_left x y) low in
    rw h (rw (← same) (sym e)))
    (λ (h : o.leq y x ≡ false). rw h refl)

head_rounded : {C : Type 0} (o : LatticeOf C) (list : List ℤ) (rounding : Bool) (x : C) (xs : List C) → row_rounded_if o list rounding (x ∷ xs) ≡ x ∷ xs → rounded_if o list rounding x ≡ x
head_rounded o list true x xs e = cc
head_rounded o list false x xs e = refl

tail_rounded : {C : Type 0} (o : LatticeOf C) (list : List ℤ) (rounding : Bool) (x : C) (xs : List C) → row_rounded_if o list rounding (x ∷ xs) ≡ x ∷ xs → row_rounded_if o list rounding xs ≡ xs
tail_rounded o list true x xs e = cc
tail_rounded o list false x xs e = refl

rounded_cons : {C : Type 0} (o : LatticeOf C) (list : List ℤ) (rounding : Bool) (x : C) (xs : List C) → row_rounded_if o list rounding (x ∷ xs) ≡ rounded_if o list rounding x ∷ row_rounded_if o list rounding xs
rounded_cons o list true x xs = refl
rounded_cons o list false x xs = refl

rounded_nil : {C : Type 0} (o : LatticeOf C) (list : List ℤ) (rounding : Bool) → row_rounded_if o list rounding [] ≡ []
rounded_nil o list true = refl
rounded_nil o list false = refl

module _ {C : Type 0} (o : LatticeOf C) (k : OrderLaws o) (list : List ℤ) where
  -- so does a row
  pub row_absorbed-is : (rounding : Bool) (xs ys : List C) → length xs ≡ length ys → row_rounded_if o list rounding xs ≡ xs → row_absorbed o list rounding xs ys ≡ row_rounded_if o list rounding (row_join o xs ys)
  row_absorbed-is rounding [] ys e h = sym (rounded_nil o list rounding)
  row_absorbed-is rounding (x ∷ xs) [] e h = absurd (omega arith)
  row_absorbed-is rounding (x ∷ xs) (y ∷ ys) e h =
      let one : absorbed o list rounding x y ≡ rounded_if o list rounding (o.join x y) = absorbed-is o k list rounding x y (head_rounded o list rounding x xs h) in
      let rest : row_absorbed o list rounding xs ys ≡ row_rounded_if o list rounding (row_join o xs ys) = row_absorbed-is rounding xs ys (omega arith) (tail_rounded o list rounding x xs h) in
      rw (rounded_cons o list rounding (o.join x y) (row_join o xs ys), one, rest) refl

  -- a row that is at or above another one absorbs it without a change
  pub row_absorbed-same : (rounding : Bool) (xs ys : List C) → row_leq o ys xs ≡ true → row_absorbed o list rounding xs ys ≡ xs
  row_absorbed-same rounding [] ys h = refl
  row_absorbed-same rounding (x ∷ xs) [] h = refl
  row_absorbed-same rounding (x ∷ xs) (y ∷ ys) h =
      let e : o.leq y x ≡ true = and_left _ _ h in
      let f : row_absorbed o list rounding xs ys ≡ xs = row_absorbed-same rounding xs ys (and_right (o.leq y x) _ h) in
      rw (e, f) refl
