-- The lattice of intervals.
use Rattle.std.specs.Prelude.{refl}
use Rattle.cc_base.specs.Lattices.{LatticeOf, OrderLaws, RoundLaws, HeightLaws}
use Rattle.interval_domain.specs.declared.intervals.intervals.Interval.{Interval}
use Rattle.interval_domain.specs.declared.intervals.intervals.Interval.TheVariants.{Bottom}
use Rattle.interval_domain.specs.Intervals.IntervalOrder.{interval_leq, interval_join, leq_reflexive, leq_transitive, leq_antisymmetric, leq_join_left, leq_join_right, leq_join_least}
use Rattle.interval_domain.specs.Intervals.IntervalRound.{interval_round, interval_within, interval_rank, interval_height, round_rises, round_monotone, round_idempotent, join_within, round_within, rank_falls, rank_bounded}

abbrev pub interval_lattice : LatticeOf Interval
interval_lattice = record {
  least = Bottom;
  join = interval_join;
  leq = interval_leq;
  round = interval_round;
  within = interval_within;
  rank = interval_rank;
  height = interval_height;
}

pub interval_order : OrderLaws interval_lattice
interval_order = record {
  reflexive = leq_reflexive;
  transitive = leq_transitive;
  antisymmetric = leq_antisymmetric;
  least_below = λ x. refl;
  join_left = leq_join_left;
  join_right = leq_join_right;
  join_least = leq_join_least;
}

pub interval_rounding : RoundLaws interval_lattice
interval_rounding = record {
  rises = round_rises;
  monotone = round_monotone;
  idempotent = round_idempotent;
}

pub interval_heights : HeightLaws interval_lattice
interval_heights = record {
  least_within = λ list. refl;
  join_within = join_within;
  round_within = round_within;
  falls = rank_falls;
  bounded = rank_bounded;
}
