-- Lattices made of lattices: pairs, flags, and records seen as pairs. Their laws follow from those of the parts.
use Rattle.std.specs.Prelude.{◌≡◌, ℕ, ◌+◌, ◌≤◌, ◌<◌, ℤ, Bool, true, false, cond, not, ◌&&◌, ◌||◌, List, refl}
use Rattle.std.proofs.Common.{arith, ap, ◌∙◌, sym, subst, inl, inr, ◌⊎◌}
use Rattle.std.proofs.lemmas.Bool.{and_from, and_parts, cases_Bool}
use Rattle.cc_base.specs.Lattices.{LatticeOf, OrderLaws, RoundLaws, HeightLaws}

-- ---- flags: a flag that is set is above one that is not

-- a flag that is set stays set
abbrev pub flag_leq : Bool → Bool → Bool
flag_leq a b = not a || b

abbrev pub flag_lattice : LatticeOf Bool
flag_lattice = record {
  least = false;
  join = λ x y. x || y;
  leq = flag_leq;
  round = λ list x. x;
  within = λ list x. true;
  rank = λ list x. cond x 0 1;
  height = λ t. 1;
}

flag_reflexive : (x : Bool) → flag_leq x x ≡ true
flag_reflexive true = refl
flag_reflexive false = refl

flag_transitive : (x y z : Bool) → flag_leq x y ≡ true → flag_leq y z ≡ true → flag_leq x z ≡ true
flag_transitive true true z h k = k
flag_transitive true false z h k = cc
flag_transitive false y z h k = refl

flag_antisymmetric : (x y : Bool) → flag_leq x y ≡ true → flag_leq y x ≡ true → x ≡ y
flag_antisymmetric true true h k = refl
flag_antisymmetric true false h k = cc
flag_antisymmetric false true h k = cc
flag_antisymmetric false false h k = refl

flag_left : (x y : Bool) → flag_leq x (x || y) ≡ true
flag_left true y = refl
flag_left false y = refl

flag_right : (x y : Bool) → flag_leq y (x || y) ≡ true
flag_right true true = refl
flag_right true false = refl
flag_right false y = flag_reflexive y

flag_least : (x y z : Bool) → flag_leq x z ≡ true → flag_leq y z ≡ true → flag_leq (x || y) z ≡ true
flag_least true y z h k = h
flag_least false y z h k = k

flag_falls : (x y : Bool) → flag_leq x y ≡ true → flag_leq y x ≡ false → cond {A = ℕ} y 0 1 < cond x 0 1
flag_falls true true h k = cc
flag_falls true false h k = cc
flag_falls false true h k = omega arith
flag_falls false false h k = cc

flag_bounded : (x : Bool) → cond {A = ℕ} x 0 1 ≤ 1
flag_bounded true = omega arith
flag_bounded false = omega arith

pub flag_order : OrderLaws flag_lattice
flag_order = record {
  reflexive = flag_reflexive;
  transitive = flag_transitive;
  antisymmetric = flag_antisymmetric;
  least_below = λ x. refl;
  join_left = flag_left;
  join_right = flag_right;
  join_least = flag_least;
}

pub flag_rounding : RoundLaws flag_lattice
flag_rounding = record {
  rises = λ list x. flag_reflexive x;
  monotone = λ list x y h. h;
  idempotent = λ list x. refl;
}

pub flag_heights : HeightLaws flag_lattice
flag_heights = record {
  least_within = λ list. refl;
  join_within = λ list x y h k. refl;
  round_within = λ list x h. refl;
  falls = λ list x y a b c d h k. flag_falls x y h k;
  bounded = λ list x. flag_bounded x;
}

-- ---- pairs, by components

module _ {A B : Type 0} where
  abbrev pub pair_lattice : LatticeOf A → LatticeOf B → LatticeOf (A × B)
  pair_lattice a b = record {
    least = (a.least, b.least);
    join = λ x y. (a.join x.0 y.0, b.join x.1 y.1);
    leq = λ x y. a.leq x.0 y.0 && b.leq x.1 y.1;
    round = λ list x. (a.round list x.0, b.round list x.1);
    within = λ list x. a.within list x.0 && b.within list x.1;
    rank = λ list x. a.rank list x.0 + b.rank list x.1;
    height = λ t. a.height t + b.height t;
  }

module _ {A B : Type 0} {a : LatticeOf A} {b : LatticeOf B} (o : OrderLaws a) (p : OrderLaws b) where
  pub pair_order : OrderLaws (pair_lattice a b)
  pair_order = record {
    reflexive = λ x. and_from _ _ (o.reflexive x.0) (p.reflexive x.1);
    transitive = λ x y z h k.
        let m = and_parts _ _ h in
        let n = and_parts _ _ k in
        and_from _ _ (o.transitive x.0 y.0 z.0 m.0 n.0) (p.transitive x.1 y.1 z.1 m.1 n.1);
    antisymmetric = λ x y h k.
        let m = and_parts _ _ h in
        let n = and_parts _ _ k in
        let e = o.antisymmetric x.0 y.0 m.0 n.0 in
        let f = p.antisymmetric x.1 y.1 m.1 n.1 in
        λ i. (e i, f i);
    least_below = λ x. and_from _ _ (o.least_below x.0) (p.least_below x.1);
    join_left = λ x y. and_from _ _ (o.join_left x.0 y.0) (p.join_left x.1 y.1);
    join_right = λ x y. and_from _ _ (o.join_right x.0 y.0) (p.join_right x.1 y.1);
    join_least = λ x y z h k.
        let m = and_parts _ _ h in
        let n = and_parts _ _ k in
        and_from _ _ (o.join_least x.0 y.0 z.0 m.0 n.0) (p.join_least x.1 y.1 z.1 m.1 n.1);
  }

  -- where one is below the other, they are the same or the rank falls
  same_or_falls : {L : Type 0} {l : LatticeOf L} → OrderLaws l → HeightLaws l → (list : List ℤ) (x y : L) → l.within list x ≡ true → l.within list y ≡ true → l.round list x ≡ x → l.round list y ≡ y → l.leq x y ≡ true → (x ≡ y) ⊎ (l.rank list y < l.rank list x)
  same_or_falls {L} {l} q g list x y s t u v h = elim (cases_Bool (l.leq y x)) [ inl e ↦ inl (q.antisymmetric x y h e) | inr e ↦ inr (g.falls list x y s t u v h e) ]

  ranks_fall : (g : HeightLaws a) (k : HeightLaws b) (list : List ℤ) (x y : A × B) → (x.0 ≡ y.0) ⊎ (a.rank list y.0 < a.rank list x.0) → (x.1 ≡ y.1) ⊎ (b.rank list y.1 < b.rank list x.1) → (a.leq y.0 x.0 && b.leq y.1 x.1) ≡ false → a.rank list y.0 + b.rank list y.1 < a.rank list x.0 + b.rank list x.1
  ranks_fall g k list x y (inl e) (inl f) n =
      let c : a.leq y.0 x.0 ≡ true = subst (λ z. a.leq y.0 z ≡ true) (sym e) (o.reflexive y.0) in
      let d : b.leq y.1 x.1 ≡ true = subst (λ z. b.leq y.1 z ≡ true) (sym f) (p.reflexive y.1) in
      absurd (grind arith)
  ranks_fall g k list x y (inl e) (inr r) n = let c : a.rank list x.0 ≡ a.rank list y.0 = ap (a.rank list) e in omega arith
  ranks_fall g k list x y (inr r) (inl f) n = let d : b.rank list x.1 ≡ b.rank list y.1 = ap (b.rank list) f in omega arith
  ranks_fall g k list x y (inr r) (inr s) n = omega arith

  pub pair_heights : HeightLaws a → HeightLaws b → HeightLaws (pair_lattice a b)
  pair_heights g k = record {
    least_within = λ list. and_from _ _ (g.least_within list) (k.least_within list);
    join_within = λ list x y h j.
        let m = and_parts _ _ h in
        let n = and_parts _ _ j in
        and_from _ _ (g.join_within list x.0 y.0 m.0 n.0) (k.join_within list x.1 y.1 m.1 n.1);
    round_within = λ list x h.
        let m = and_parts _ _ h in
        and_from _ _ (g.round_within list x.0 m.0) (k.round_within list x.1 m.1);
    falls = λ list x y s t u v h n.
        let s' = and_parts _ _ s in
        let t' = and_parts _ _ t in
        let h' = and_parts _ _ h in
        ranks_fall g k list x y
        (same_or_falls o g list x.0 y.0 s'.0 t'.0 (ap (λ z. z.0) u) (ap (λ z. z.0) v) h'.0)
        (same_or_falls p k list x.1 y.1 s'.1 t'.1 (ap (λ z. z.1) u) (ap (λ z. z.1) v) h'.1) n;
    bounded = λ list x. let c = g.bounded list x.0 in let d = k.bounded list x.1 in omega arith;
  }

module _ {A B : Type 0} {a : LatticeOf A} {b : LatticeOf B} (o : RoundLaws a) (p : RoundLaws b) where
  pub pair_rounding : RoundLaws (pair_lattice a b)
  pair_rounding = record {
    rises = λ list x. and_from _ _ (o.rises list x.0) (p.rises list x.1);
    monotone = λ list x y h.
        let m = and_parts _ _ h in
        and_from _ _ (o.monotone list x.0 y.0 m.0) (p.monotone list x.1 y.1 m.1);
    idempotent = λ list x. let e = o.idempotent list x.0 in let f = p.idempotent list x.1 in λ i. (e i, f i);
  }

-- ---- a type seen as another one

module _ {A B : Type 0} (to : B → A) (from : A → B) where
  abbrev pub image_lattice : LatticeOf A → LatticeOf B
  image_lattice l = record {
    least = from l.least;
    join = λ x y. from (l.join (to x) (to y));
    leq = λ x y. l.leq (to x) (to y);
    round = λ list x. from (l.round list (to x));
    within = λ list x. l.within list (to x);
    rank = λ list x. l.rank list (to x);
    height = l.height;
  }

module _ {A B : Type 0} (to : B → A) (from : A → B) (there : (x : A) → to (from x) ≡ x) (back : (y : B) → from (to y) ≡ y) where
  pub image_order : {l : LatticeOf A} → OrderLaws l → OrderLaws (image_lattice to from l)
  image_order {l} o = record {
    reflexive = λ x. o.reflexive (to x);
    transitive = λ x y z h k. o.transitive (to x) (to y) (to z) h k;
    antisymmetric = λ x y h k. sym (back x) ∙ ap from (o.antisymmetric (to x) (to y) h k) ∙ back y;
    least_below = λ x. subst (λ z. l.leq z (to x) ≡ true) (sym (there l.least)) (o.least_below (to x));
    join_left = λ x y. subst (λ z. l.leq (to x) z ≡ true) (sym (there (l.join (to x) (to y)))) (o.join_left (to x) (to y));
    join_right = λ x y. subst (λ z. l.leq (to y) z ≡ true) (sym (there (l.join (to x) (to y)))) (o.join_right (to x) (to y));
    join_least = λ x y z h k. subst (λ w. l.leq w (to z) ≡ true) (sym (there (l.join (to x) (to y)))) (o.join_least (to x) (to y) (to z) h k);
  }

  pub image_rounding : {l : LatticeOf A} → RoundLaws l → RoundLaws (image_lattice to from l)
  image_rounding {l} o = record {
    rises = λ list x. subst (λ z. l.leq (to x) z ≡ true) (sym (there (l.round list (to x)))) (o.rises list (to x));
    monotone = λ list x y h. subst (λ z. l.leq (to (from (l.round list (to x)))) z ≡ true) (sym (there (l.round list (to y)))) (subst (λ z. l.leq z (l.round list (to y)) ≡ true) (sym (there (l.round list (to x)))) (o.monotone list (to x) (to y) h));
    idempotent = λ list x. ap (λ z. from (l.round list z)) (there (l.round list (to x))) ∙ ap from (o.idempotent list (to x));
  }

  pub image_heights : {l : LatticeOf A} → HeightLaws l → HeightLaws (image_lattice to from l)
  image_heights {l} g = record {
    least_within = λ list. subst (λ z. l.within list z ≡ true) (sym (there l.least)) (g.least_within list);
    join_within = λ list x y h k. subst (λ z. l.within list z ≡ true) (sym (there (l.join (to x) (to y)))) (g.join_within list (to x) (to y) h k);
    round_within = λ list x h. subst (λ z. l.within list z ≡ true) (sym (there (l.round list (to x)))) (g.round_within list (to x) h);
    falls = λ list x y s t u v h n. g.falls list (to x) (to y) s t (sym (there (l.round list (to x))) ∙ ap to u) (sym (there (l.round list (to y))) ∙ ap to v) h n;
    bounded = λ list x. g.bounded list (to x);
  }
