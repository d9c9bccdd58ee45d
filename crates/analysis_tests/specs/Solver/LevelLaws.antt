-- The numbers with their rungs are a lattice whose rounded values grow at most twice.
use Rattle.std.proofs.Common.{◌≡◌, ◌<◌, ◌≤◌, ℕ, false, max, leb, refl, arith}
use Rattle.std.proofs.lemmas.Bool.{leb-true, le-leb}
use Rattle.std.proofs.lemmas.Bool.Decides.{nat_tests}
use Rattle.std.proofs.Math.Nat.{le-max_left, le-max_right, max-le}
use Rattle.cc_base.specs.Lattices.{OrderLaws, RoundLaws, HeightLaws}
use Rattle.analysis_tests.specs.Solver.Levels.{level_lattice, rung_above, rungs_above}

not_le : (a b : ℕ) → leb a b ≡ false → b < a
not_le a b h = grind (arith, nat_tests)

pub level_order : OrderLaws level_lattice
level_order = record {
  reflexive = λ x. le-leb x x (omega arith);
  transitive = λ x y z h j. le-leb x z (let a : x ≤ y = leb-true x y h in let b : y ≤ z = leb-true y z j in omega arith);
  antisymmetric = λ x y h j. let a : x ≤ y = leb-true x y h in let b : y ≤ x = leb-true y x j in omega arith;
  least_below = λ x. le-leb 0 x (omega arith);
  join_left = λ x y. le-leb x (max x y) (le-max_left x y);
  join_right = λ x y. le-leb y (max x y) (le-max_right x y);
  join_least = λ x y z h j. le-leb (max x y) z (max-le (leb-true x z h) (leb-true y z j));
}

rung-rises : (x : ℕ) → x ≤ rung_above x
rung-rises x = grind (arith, nat_tests)

rung-monotone : (x y : ℕ) → x ≤ y → rung_above x ≤ rung_above y
rung-monotone x y h = grind (arith, nat_tests)

rung-idempotent : (x : ℕ) → rung_above (rung_above x) ≡ rung_above x
rung-idempotent x = grind (arith, nat_tests)

pub rung-within : (x : ℕ) → x ≤ 255 → rung_above x ≤ 255
rung-within x h = grind (arith, nat_tests)

pub rung-falls : (x y : ℕ) → y ≤ 255 → rung_above x ≡ x → rung_above y ≡ y → x < y → rungs_above y < rungs_above x
rung-falls x y h a b lt = grind (arith, nat_tests)

pub rungs-bounded : (x : ℕ) → rungs_above x ≤ 2
rungs-bounded x = grind (arith, nat_tests)

pub level_rounding : RoundLaws level_lattice
level_rounding = record {
  rises = λ list x. le-leb x (rung_above x) (rung-rises x);
  monotone = λ list x y h. le-leb (rung_above x) (rung_above y) (rung-monotone x y (leb-true x y h));
  idempotent = λ list x. rung-idempotent x;
}

pub level_heights : HeightLaws level_lattice
level_heights = record {
  least_within = λ list. refl;
  join_within = λ list x y h j. le-leb (max x y) 255 (max-le (leb-true x 255 h) (leb-true y 255 j));
  round_within = λ list x h. le-leb (rung_above x) 255 (rung-within x (leb-true x 255 h));
  falls = λ list x y h j a b up down. rung-falls x y (leb-true y 255 j) a b (not_le y x down);
  bounded = λ list x. rungs-bounded x;
}
