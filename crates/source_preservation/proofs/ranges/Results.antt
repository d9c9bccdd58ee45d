-- What operators give for numbers of their type lies in it.
use Rattle.std.proofs.Common.{◌≡◌, true, Some, arith}
use Rattle.std.specs.Prelude.{ℤ}
use Rattle.std.proofs.lemmas.Int.{ints}
use Rattle.cc_base.specs.IntegerTypes.{is_size, in_type}
use Rattle.cc_base.specs.MachineArithmetic.{binary_result, unary_result}
use Rattle.cc_base.specs.declared.int_types.IntType.{IntType}
use Rattle.cc_base.specs.declared.integer_operators.IntOp.{IntOp}
use Rattle.cc_base.specs.declared.integer_operators.UnOp.{UnOp}
use Rattle.interval_domain.specs.declared.intervals.intervals.Interval.{Interval}
use Rattle.interval_domain.specs.Intervals.Spans.{between_or_empty, Stands}
use Rattle.interval_domain.specs.Intervals.Arithmetic.{interval_arith, interval_unary}
use Rattle.interval_domain.specs.Intervals.IntervalNumbers.{interval_bounding, interval_ranges}
use Rattle.domain_theorems.specs.Intervals.Kit.{in_type_between}
use Rattle.domain_theorems.specs.Intervals.Operations.{interval_sound}

-- the interval of one number stands for it
one_stands : (a : ℤ) → Stands (between_or_empty a a) a
one_stands a = interval_bounding.one_stands a

-- the count of a shift may be of any type
pub binary_in : (op : IntOp) (kind : IntType) (a b c : ℤ) → is_size kind.bytes ≡ true → in_type kind a ≡ true → binary_result op kind a b ≡ Some c → in_type kind c ≡ true
binary_in op kind a b c h i e =
    let x : Interval = between_or_empty a a in
    let y : Interval = between_or_empty b b in
    let s : Stands (interval_arith op x y kind) c = interval_sound.arith_stands op kind x y a b c h (one_stands a) (one_stands b) i e in
    let n = interval_bounding.inside (interval_arith op x y kind) c s in
    let w = interval_ranges.arith_fits op x y kind n.0 n.1 h n.2 in
    let p = n.3 in
    let q = n.4 in
    in_type_between kind c (omega (arith, ints)) (omega (arith, ints))

pub unary_in : (op : UnOp) (kind : IntType) (a c : ℤ) → is_size kind.bytes ≡ true → in_type kind a ≡ true → unary_result op kind a ≡ Some c → in_type kind c ≡ true
unary_in op kind a c h i e =
    let x : Interval = between_or_empty a a in
    let s : Stands (interval_unary op x kind) c = interval_sound.unary_stands op kind x a c h (one_stands a) i e in
    let n = interval_bounding.inside (interval_unary op x kind) c s in
    let w = interval_ranges.unary_fits op x kind n.0 n.1 h n.2 in
    let p = n.3 in
    let q = n.4 in
    in_type_between kind c (omega (arith, ints)) (omega (arith, ints))
