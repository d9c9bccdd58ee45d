-- Relations between intervals: their truth values, and refining by them.
use Rattle.std.specs.Prelude.{ℤ, pos, ◌+ℤ◌, ◌-ℤ◌, Bool, not, cond, ◌&&◌, int_le, int_lt}
use Rattle.std.specs.Int.{int_min, int_max}
use Rattle.std.specs.Ordering.{int_eq}
use Rattle.cc_base.specs.declared.integer_operators.Rel.{Rel}
use Rattle.cc_base.specs.declared.integer_operators.Rel.TheVariants.{Lt, Le, Gt, Ge, Eq, Ne}
use Rattle.cc_base.specs.declared.integer_operators.Tri.{Tri}
use Rattle.cc_base.specs.declared.integer_operators.Tri.TheVariants.{Never}
use Rattle.cc_base.specs.Truths.{tri_of}
use Rattle.interval_domain.specs.declared.intervals.spans.Span.{Span}
use Rattle.interval_domain.specs.declared.intervals.intervals.Interval.{Interval}
use Rattle.interval_domain.specs.declared.intervals.intervals.Interval.TheVariants.{Bottom, Of}
use Rattle.interval_domain.specs.Intervals.Spans.{between_or_empty}

-- whether some numbers of the two are equal
abbrev pub can_equal : Span → Span → Bool
can_equal s t = int_le s.lo t.hi && int_le t.lo s.hi

-- whether some numbers of the two are different
abbrev pub can_differ : Span → Span → Bool
can_differ s t = not (int_eq s.lo t.hi && int_eq t.lo s.hi)

-- whether some numbers of the two have the relation
abbrev pub can_hold : Rel → Span → Span → Bool
can_hold Lt s t = int_lt s.lo t.hi
can_hold Le s t = int_le s.lo t.hi
can_hold Gt s t = int_lt t.lo s.hi
can_hold Ge s t = int_le t.lo s.hi
can_hold Eq s t = can_equal s t
can_hold Ne s t = can_differ s t

-- the relation that holds where the given one does not
abbrev pub opposite : Rel → Rel
opposite Lt = Ge
opposite Le = Gt
opposite Gt = Le
opposite Ge = Lt
opposite Eq = Ne
opposite Ne = Eq

abbrev pub interval_compare : Rel → Interval → Interval → Tri
interval_compare rel Bottom y = Never
interval_compare rel (Of s) Bottom = Never
interval_compare rel (Of s) (Of t) = tri_of (can_hold rel s t) (can_hold (opposite rel) s t)

-- s without n, where n is at an end
abbrev pub without_end : Span → ℤ → Interval
without_end s n = between_or_empty (cond (int_eq s.lo n) (s.lo +ℤ pos 1) s.lo) (cond (int_eq s.hi n) (s.hi -ℤ pos 1) s.hi)

abbrev pub refined : Rel → Span → Span → Interval
refined Lt s t = between_or_empty s.lo (int_min s.hi (t.hi -ℤ pos 1))
refined Le s t = between_or_empty s.lo (int_min s.hi t.hi)
refined Gt s t = between_or_empty (int_max s.lo (t.lo +ℤ pos 1)) s.hi
refined Ge s t = between_or_empty (int_max s.lo t.lo) s.hi
refined Eq s t = between_or_empty (int_max s.lo t.lo) (int_min s.hi t.hi)
refined Ne s t = cond (int_eq t.lo t.hi) (without_end s t.lo) (Of s)

abbrev pub interval_refine : Rel → Interval → Interval → Interval
interval_refine rel Bottom y = Bottom
interval_refine rel (Of s) Bottom = Bottom
interval_refine rel (Of s) (Of t) = refined rel s t
