-- The lattice of cells: those of the kinds side by side, between a least and a greatest cell.
use Rattle.std.specs.Prelude.{◌≡◌, ℕ, ◌+◌, ◌≤◌, ◌<◌, ℤ, Bool, true, false, List, length, refl}
use Rattle.std.proofs.Common.{arith, ap}
use Rattle.cc_base.specs.Lattices.{LatticeOf, OrderLaws, RoundLaws, HeightLaws}
use Rattle.value_domain.specs.declared.strings.first_zeros.FirstZero.{FirstZero}
use Rattle.value_domain.specs.Strings.FirstZeros.{zero_lattice, zero_order, zero_rounding, zero_heights}
use Rattle.value_domain.specs.declared.values.values.Value as value_type
use Rattle.value_domain.specs.declared.values.alloc_states.AllocState.{AllocState}
use Rattle.value_domain.specs.declared.values.row_cells.Cell.{Cell}
use Rattle.value_domain.specs.declared.values.row_cells.Cell.TheVariants.{Nothing, Value, First, State, Mixed}
use Rattle.value_domain.specs.Values.Values.{value_lattice, value_order, value_rounding, value_heights}
use Rattle.value_domain.specs.Values.AllocStates.{state_lattice, state_order, state_rounding, state_heights}

module _ {I : Type 0} where
  abbrev pub cell_join : LatticeOf I → Cell I → Cell I → Cell I
  cell_join l Nothing y = y
  cell_join l (Value v) Nothing = Value v
  cell_join l (Value v) (Value w) = Value ((value_lattice l).join v w)
  cell_join l (Value v) (First w) = Mixed
  cell_join l (Value v) (State w) = Mixed
  cell_join l (Value v) Mixed = Mixed
  cell_join l (First v) Nothing = First v
  cell_join l (First v) (Value w) = Mixed
  cell_join l (First v) (First w) = First ((zero_lattice l).join v w)
  cell_join l (First v) (State w) = Mixed
  cell_join l (First v) Mixed = Mixed
  cell_join l (State v) Nothing = State v
  cell_join l (State v) (Value w) = Mixed
  cell_join l (State v) (First w) = Mixed
  cell_join l (State v) (State w) = State ((state_lattice l).join v w)
  cell_join l (State v) Mixed = Mixed
  cell_join l Mixed y = Mixed

  abbrev pub cell_leq : LatticeOf I → Cell I → Cell I → Bool
  cell_leq l Nothing y = true
  cell_leq l (Value v) Nothing = false
  cell_leq l (Value v) (Value w) = (value_lattice l).leq v w
  cell_leq l (Value v) (First w) = false
  cell_leq l (Value v) (State w) = false
  cell_leq l (Value v) Mixed = true
  cell_leq l (First v) Nothing = false
  cell_leq l (First v) (Value w) = false
  cell_leq l (First v) (First w) = (zero_lattice l).leq v w
  cell_leq l (First v) (State w) = false
  cell_leq l (First v) Mixed = true
  cell_leq l (State v) Nothing = false
  cell_leq l (State v) (Value w) = false
  cell_leq l (State v) (First w) = false
  cell_leq l (State v) (State w) = (state_lattice l).leq v w
  cell_leq l (State v) Mixed = true
  cell_leq l Mixed Nothing = false
  cell_leq l Mixed (Value w) = false
  cell_leq l Mixed (First w) = false
  cell_leq l Mixed (State w) = false
  cell_leq l Mixed Mixed = true

  abbrev pub cell_round : LatticeOf I → List ℤ → Cell I → Cell I
  cell_round l list Nothing = Nothing
  cell_round l list (Value v) = Value ((value_lattice l).round list v)
  cell_round l list (First v) = First ((zero_lattice l).round list v)
  cell_round l list (State v) = State ((state_lattice l).round list v)
  cell_round l list Mixed = Mixed

  abbrev pub cell_within : LatticeOf I → List ℤ → Cell I → Bool
  cell_within l list Nothing = true
  cell_within l list (Value v) = (value_lattice l).within list v
  cell_within l list (First v) = (zero_lattice l).within list v
  cell_within l list (State v) = (state_lattice l).within list v
  cell_within l list Mixed = true

  -- a cell can grow as its kind does, then to the greatest one; the least cell can grow more often than each kind
  abbrev pub cell_height : LatticeOf I → ℕ → ℕ
  cell_height l t = (value_lattice l).height t + ((zero_lattice l).height t + ((state_lattice l).height t + 2))

  abbrev pub cell_rank : LatticeOf I → List ℤ → Cell I → ℕ
  cell_rank l list Nothing = cell_height l (length list)
  cell_rank l list (Value v) = (value_lattice l).rank list v + 1
  cell_rank l list (First v) = (zero_lattice l).rank list v + 1
  cell_rank l list (State v) = (state_lattice l).rank list v + 1
  cell_rank l list Mixed = 0

  abbrev pub cell_lattice : LatticeOf I → LatticeOf (Cell I)
  cell_lattice l = record {
    least = Nothing;
    join = cell_join l;
    leq = cell_leq l;
    round = cell_round l;
    within = cell_within l;
    rank = cell_rank l;
    height = cell_height l;
  }

  abbrev value_in : value_type.Value I → Cell I → value_type.Value I
  value_in d Nothing = d
  value_in d (Value v) = v
  value_in d (First v) = d
  value_in d (State v) = d
  value_in d Mixed = d

  abbrev first_in : FirstZero I → Cell I → FirstZero I
  first_in d Nothing = d
  first_in d (Value v) = d
  first_in d (First v) = v
  first_in d (State v) = d
  first_in d Mixed = d

  abbrev state_in : AllocState I → Cell I → AllocState I
  state_in d Nothing = d
  state_in d (Value v) = d
  state_in d (First v) = d
  state_in d (State v) = v
  state_in d Mixed = d

module _ {I : Type 0} {l : LatticeOf I} (o : OrderLaws l) where
  reflexive : (x : Cell I) → cell_leq l x x ≡ true
  reflexive Nothing = refl
  reflexive (Value v) = (value_order o).reflexive v
  reflexive (First v) = (zero_order o).reflexive v
  reflexive (State v) = (state_order o).reflexive v
  reflexive Mixed = refl

  top : (x : Cell I) → cell_leq l x Mixed ≡ true
  top Nothing = refl
  top (Value v) = refl
  top (First v) = refl
  top (State v) = refl
  top Mixed = refl

  transitive : (x y z : Cell I) → cell_leq l x y ≡ true → cell_leq l y z ≡ true → cell_leq l x z ≡ true
  transitive Nothing y z h k = refl
  transitive x y Mixed h k = top x
  transitive x Mixed Nothing h k = cc
  transitive x Mixed (Value w) h k = cc
  transitive x Mixed (First w) h k = cc
  transitive x Mixed (State w) h k = cc
  transitive (Value v) Nothing z h k = cc
  transitive (Value v) (First w) z h k = cc
  transitive (Value v) (State w) z h k = cc
  transitive (Value v) (Value w) Nothing h k = k
  transitive (Value v) (Value w) (First u) h k = k
  transitive (Value v) (Value w) (State u) h k = k
  transitive (Value v) (Value w) (Value u) h k = (value_order o).transitive v w u h k
  transitive (First v) Nothing z h k = cc
  transitive (First v) (Value w) z h k = cc
  transitive (First v) (State w) z h k = cc
  transitive (First v) (First w) Nothing h k = k
  transitive (First v) (First w) (Value u) h k = k
  transitive (First v) (First w) (State u) h k = k
  transitive (First v) (First w) (First u) h k = (zero_order o).transitive v w u h k
  transitive (State v) Nothing z h k = cc
  transitive (State v) (Value w) z h k = cc
  transitive (State v) (First w) z h k = cc
  transitive (State v) (State w) Nothing h k = k
  transitive (State v) (State w) (Value u) h k = k
  transitive (State v) (State w) (First u) h k = k
  transitive (State v) (State w) (State u) h k = (state_order o).transitive v w u h k
  transitive Mixed Nothing z h k = cc
  transitive Mixed (Value w) z h k = cc
  transitive Mixed (First w) z h k = cc
  transitive Mixed (State w) z h k = cc

  antisymmetric : (x y : Cell I) → cell_leq l x y ≡ true → cell_leq l y x ≡ true → x ≡ y
  antisymmetric Nothing Nothing h k = refl
  antisymmetric Nothing (Value w) h k = cc
  antisymmetric Nothing (First w) h k = cc
  antisymmetric Nothing (State w) h k = cc
  antisymmetric Nothing Mixed h k = cc
  antisymmetric (Value v) Nothing h k = cc
  antisymmetric (Value v) (Value w) h k = ap Value ((value_order o).antisymmetric v w h k)
  antisymmetric (Value v) (First w) h k = cc
  antisymmetric (Value v) (State w) h k = cc
  antisymmetric (Value v) Mixed h k = cc
  antisymmetric (First v) Nothing h k = cc
  antisymmetric (First v) (Value w) h k = cc
  antisymmetric (First v) (First w) h k = ap First ((zero_order o).antisymmetric v w h k)
  antisymmetric (First v) (State w) h k = cc
  antisymmetric (First v) Mixed h k = cc
  antisymmetric (State v) Nothing h k = cc
  antisymmetric (State v) (Value w) h k = cc
  antisymmetric (State v) (First w) h k = cc
  antisymmetric (State v) (State w) h k = ap State ((state_order o).antisymmetric v w h k)
  antisymmetric (State v) Mixed h k = cc
  antisymmetric Mixed Nothing h k = cc
  antisymmetric Mixed (Value w) h k = cc
  antisymmetric Mixed (First w) h k = cc
  antisymmetric Mixed (State w) h k = cc
  antisymmetric Mixed Mixed h k = refl

  join_left : (x y : Cell I) → cell_leq l x (cell_join l x y) ≡ true
  join_left Nothing y = refl
  join_left (Value v) Nothing = (value_order o).reflexive v
  join_left (Value v) (Value w) = (value_order o).join_left v w
  join_left (Value v) (First w) = refl
  join_left (Value v) (State w) = refl
  join_left (Value v) Mixed = refl
  join_left (First v) Nothing = (zero_order o).reflexive v
  join_left (First v) (Value w) = refl
  join_left (First v) (First w) = (zero_order o).join_left v w
  join_left (First v) (State w) = refl
  join_left (First v) Mixed = refl
  join_left (State v) Nothing = (state_order o).reflexive v
  join_left (State v) (Value w) = refl
  join_left (State v) (First w) = refl
  join_left (State v) (State w) = (state_order o).join_left v w
  join_left (State v) Mixed = refl
  join_left Mixed y = refl

  join_right : (x y : Cell I) → cell_leq l y (cell_join l x y) ≡ true
  join_right Nothing y = reflexive y
  join_right x Nothing = refl
  join_right (Value v) (Value w) = (value_order o).join_right v w
  join_right (Value v) (First w) = refl
  join_right (Value v) (State w) = refl
  join_right (Value v) Mixed = refl
  join_right (First v) (Value w) = refl
  join_right (First v) (First w) = (zero_order o).join_right v w
  join_right (First v) (State w) = refl
  join_right (First v) Mixed = refl
  join_right (State v) (Value w) = refl
  join_right (State v) (First w) = refl
  join_right (State v) (State w) = (state_order o).join_right v w
  join_right (State v) Mixed = refl
  join_right Mixed (Value w) = refl
  join_right Mixed (First w) = refl
  join_right Mixed (State w) = refl
  join_right Mixed Mixed = refl

  join_least : (x y z : Cell I) → cell_leq l x z ≡ true → cell_leq l y z ≡ true → cell_leq l (cell_join l x y) z ≡ true
  join_least Nothing y z h k = k
  join_least x y Mixed h k = top (cell_join l x y)
  join_least (Value v) Nothing z h k = h
  join_least (First v) Nothing z h k = h
  join_least (State v) Nothing z h k = h
  join_least (Value v) y Nothing h k = cc
  join_least (Value v) y (First u) h k = cc
  join_least (Value v) y (State u) h k = cc
  join_least (Value v) (Value w) (Value u) h k = (value_order o).join_least v w u h k
  join_least (Value v) (First w) (Value u) h k = cc
  join_least (Value v) (State w) (Value u) h k = cc
  join_least (Value v) Mixed (Value u) h k = cc
  join_least (First v) y Nothing h k = cc
  join_least (First v) y (Value u) h k = cc
  join_least (First v) y (State u) h k = cc
  join_least (First v) (First w) (First u) h k = (zero_order o).join_least v w u h k
  join_least (First v) (Value w) (First u) h k = cc
  join_least (First v) (State w) (First u) h k = cc
  join_least (First v) Mixed (First u) h k = cc
  join_least (State v) y Nothing h k = cc
  join_least (State v) y (Value u) h k = cc
  join_least (State v) y (First u) h k = cc
  join_least (State v) (State w) (State u) h k = (state_order o).join_least v w u h k
  join_least (State v) (Value w) (State u) h k = cc
  join_least (State v) (First w) (State u) h k = cc
  join_least (State v) Mixed (State u) h k = cc
  join_least Mixed y Nothing h k = cc
  join_least Mixed y (Value u) h k = cc
  join_least Mixed y (First u) h k = cc
  join_least Mixed y (State u) h k = cc

  pub cell_order : OrderLaws (cell_lattice l)
  cell_order = record {
    reflexive = reflexive;
    transitive = transitive;
    antisymmetric = antisymmetric;
    least_below = λ x. refl;
    join_left = join_left;
    join_right = join_right;
    join_least = join_least;
  }

module _ {I : Type 0} {l : LatticeOf I} (k : RoundLaws l) where
  rises : (list : List ℤ) (x : Cell I) → cell_leq l x (cell_round l list x) ≡ true
  rises list Nothing = refl
  rises list (Value v) = (value_rounding k).rises list v
  rises list (First v) = (zero_rounding k).rises list v
  rises list (State v) = (state_rounding k).rises list v
  rises list Mixed = refl

  monotone : (list : List ℤ) (x y : Cell I) → cell_leq l x y ≡ true → cell_leq l (cell_round l list x) (cell_round l list y) ≡ true
  monotone list Nothing y h = refl
  monotone list (Value v) Nothing h = h
  monotone list (Value v) (Value w) h = (value_rounding k).monotone list v w h
  monotone list (Value v) (First w) h = h
  monotone list (Value v) (State w) h = h
  monotone list (Value v) Mixed h = refl
  monotone list (First v) Nothing h = h
  monotone list (First v) (Value w) h = h
  monotone list (First v) (First w) h = (zero_rounding k).monotone list v w h
  monotone list (First v) (State w) h = h
  monotone list (First v) Mixed h = refl
  monotone list (State v) Nothing h = h
  monotone list (State v) (Value w) h = h
  monotone list (State v) (First w) h = h
  monotone list (State v) (State w) h = (state_rounding k).monotone list v w h
  monotone list (State v) Mixed h = refl
  monotone list Mixed Nothing h = h
  monotone list Mixed (Value w) h = h
  monotone list Mixed (First w) h = h
  monotone list Mixed (State w) h = h
  monotone list Mixed Mixed h = refl

  idempotent : (list : List ℤ) (x : Cell I) → cell_round l list (cell_round l list x) ≡ cell_round l list x
  idempotent list Nothing = refl
  idempotent list (Value v) = ap Value ((value_rounding k).idempotent list v)
  idempotent list (First v) = ap First ((zero_rounding k).idempotent list v)
  idempotent list (State v) = ap State ((state_rounding k).idempotent list v)
  idempotent list Mixed = refl

  pub cell_rounding : RoundLaws (cell_lattice l)
  cell_rounding = record { rises = rises; monotone = monotone; idempotent = idempotent }

module _ {I : Type 0} {l : LatticeOf I} (o : OrderLaws l) (g : HeightLaws l) where
  join_within : (list : List ℤ) (x y : Cell I) → cell_within l list x ≡ true → cell_within l list y ≡ true → cell_within l list (cell_join l x y) ≡ true
  join_within list Nothing y h k = k
  join_within list (Value v) Nothing h k = h
  join_within list (Value v) (Value w) h k = (value_heights o g).join_within list v w h k
  join_within list (Value v) (First w) h k = refl
  join_within list (Value v) (State w) h k = refl
  join_within list (Value v) Mixed h k = refl
  join_within list (First v) Nothing h k = h
  join_within list (First v) (Value w) h k = refl
  join_within list (First v) (First w) h k = (zero_heights g).join_within list v w h k
  join_within list (First v) (State w) h k = refl
  join_within list (First v) Mixed h k = refl
  join_within list (State v) Nothing h k = h
  join_within list (State v) (Value w) h k = refl
  join_within list (State v) (First w) h k = refl
  join_within list (State v) (State w) h k = (state_heights o g).join_within list v w h k
  join_within list (State v) Mixed h k = refl
  join_within list Mixed y h k = refl

  round_within : (list : List ℤ) (x : Cell I) → cell_within l list x ≡ true → cell_within l list (cell_round l list x) ≡ true
  round_within list Nothing h = refl
  round_within list (Value v) h = (value_heights o g).round_within list v h
  round_within list (First v) h = (zero_heights g).round_within list v h
  round_within list (State v) h = (state_heights o g).round_within list v h
  round_within list Mixed h = refl

  bounded : (list : List ℤ) (x : Cell I) → cell_rank l list x ≤ cell_height l (length list)
  bounded list Nothing = omega arith
  bounded list (Value v) = let h = (value_heights o g).bounded list v in omega arith
  bounded list (First v) = let h = (zero_heights g).bounded list v in omega arith
  bounded list (State v) = let h = (state_heights o g).bounded list v in omega arith
  bounded list Mixed = omega arith

  falls : (list : List ℤ) (x y : Cell I) → cell_within l list x ≡ true → cell_within l list y ≡ true → cell_round l list x ≡ x → cell_round l list y ≡ y → cell_leq l x y ≡ true → cell_leq l y x ≡ false → cell_rank l list y < cell_rank l list x
  falls list Nothing Nothing a b c d h k = cc
  falls list Nothing (Value w) a b c d h k = let e = (value_heights o g).bounded list w in omega arith
  falls list Nothing (First w) a b c d h k = let e = (zero_heights g).bounded list w in omega arith
  falls list Nothing (State w) a b c d h k = let e = (state_heights o g).bounded list w in omega arith
  falls list Nothing Mixed a b c d h k = omega arith
  falls list (Value v) Nothing a b c d h k = cc
  falls list (Value v) (Value w) a b c d h k =
      let r = (value_heights o g).falls list v w a b (ap (value_in v) c) (ap (value_in w) d) h k in omega arith
  falls list (Value v) (First w) a b c d h k = cc
  falls list (Value v) (State w) a b c d h k = cc
  falls list (Value v) Mixed a b c d h k = omega arith
  falls list (First v) Nothing a b c d h k = cc
  falls list (First v) (Value w) a b c d h k = cc
  falls list (First v) (First w) a b c d h k =
      let r = (zero_heights g).falls list v w a b (ap (first_in v) c) (ap (first_in w) d) h k in omega arith
  falls list (First v) (State w) a b c d h k = cc
  falls list (First v) Mixed a b c d h k = omega arith
  falls list (State v) Nothing a b c d h k = cc
  falls list (State v) (Value w) a b c d h k = cc
  falls list (State v) (First w) a b c d h k = cc
  falls list (State v) (State w) a b c d h k =
      let r = (state_heights o g).falls list v w a b (ap (state_in v) c) (ap (state_in w) d) h k in omega arith
  falls list (State v) Mixed a b c d h k = omega arith
  falls list Mixed Nothing a b c d h k = cc
  falls list Mixed (Value w) a b c d h k = cc
  falls list Mixed (First w) a b c d h k = cc
  falls list Mixed (State w) a b c d h k = cc
  falls list Mixed Mixed a b c d h k = cc

  pub cell_heights : HeightLaws (cell_lattice l)
  cell_heights = record {
    least_within = λ list. refl;
    join_within = join_within;
    round_within = round_within;
    falls = falls;
    bounded = bounded;
  }
