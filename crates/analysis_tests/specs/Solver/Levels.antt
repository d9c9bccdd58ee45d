-- A small lattice: numbers that are rounded up to 0, 10, or 255.
use Rattle.std.specs.Prelude.{ℕ, cond, nat_le, max}
use Rattle.cc_base.specs.Lattices.{LatticeOf}

abbrev pub rung_above : ℕ → ℕ
rung_above x = cond (nat_le x 0) 0 (cond (nat_le x 10) 10 (cond (nat_le x 255) 255 x))

-- how many rungs are above a rung
abbrev pub rungs_above : ℕ → ℕ
rungs_above x = cond (nat_le x 0) 2 (cond (nat_le x 10) 1 0)

abbrev pub level_lattice : LatticeOf ℕ
level_lattice = record {
  least = 0;
  join = max;
  leq = nat_le;
  round = λ list x. rung_above x;
  within = λ list x. nat_le x 255;
  rank = λ list x. rungs_above x;
  height = λ n. 2;
}
