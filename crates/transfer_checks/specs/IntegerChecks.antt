-- Rules on integers.
use Rattle.std.specs.Prelude.{ℤ, pos, negsuc, int_le, int_lt, Bool, false, not, ◌&&◌, ◌||◌, Some, None, is_some}
use Rattle.cc_base.specs.IntegerTypes.{least_of}
use Rattle.cc_base.specs.IntegerDomains.{IntegersOf}
use Rattle.cc_base.specs.NumberRanges.{Range}
use Rattle.cc_base.specs.declared.int_types.IntType.{IntType}
use Rattle.cc_base.specs.declared.integer_operators.IntOp.{IntOp}
use Rattle.cc_base.specs.declared.integer_operators.IntOp.TheVariants.{Add, Sub, Mul, Div, Rem, And, Or, Xor, Shl, Shr}
use Rattle.cc_base.specs.declared.integer_operators.UnOp.{UnOp}
use Rattle.value_domain.specs.declared.values.label_sets.Labels.{Labels}
use Rattle.value_domain.specs.declared.values.values.Value.{Value}
use Rattle.value_domain.specs.Values.LabelSets.{is_unlabelled}
use Rattle.value_domain.specs.Values.ValueTables.{ranges_leave, negated_leave}
use Rattle.transfer_checks.specs.declared.violation_sets.Violations.{Violations}
use Rattle.transfer_checks.specs.ViolationSets.{no_violations}

abbrev pub has_number : Range → ℤ → Bool
has_number None a = false
has_number (Some p) a = int_le p.0 a && int_le a p.1

-- the least number of a signed type may be divided by -1
abbrev pub divides_least : IntType → Range → Range → Bool
divides_least k a b = k.signed && (has_number a (least_of k) && has_number b (negsuc 0))

abbrev pub division_violations : IntType → Range → Range → Violations
division_violations k a b = record no_violations { diverr = divides_least k a b || (is_some a && has_number b (pos 0)); intoflow = divides_least k a b }

-- a negative number of a signed type may be shifted to the left
abbrev pub shifts_negative : IntType → Range → Range → Bool
shifts_negative k None b = false
shifts_negative k (Some p) b = k.signed && (int_lt p.0 (pos 0) && is_some b)

-- a result may be outside a signed type
abbrev pub leaves_signed : IntOp → IntType → Range → Range → Bool
leaves_signed op k a b = k.signed && ranges_leave op k a b

abbrev pub overflow_violations : Bool → Violations
overflow_violations leaves = record no_violations { intoflow = leaves }

abbrev pub ranges_violate : IntOp → IntType → Range → Range → Violations
ranges_violate Div k a b = division_violations k a b
ranges_violate Rem k a b = division_violations k a b
ranges_violate Add k a b = overflow_violations (leaves_signed Add k a b)
ranges_violate Sub k a b = overflow_violations (leaves_signed Sub k a b)
ranges_violate Mul k a b = overflow_violations (leaves_signed Mul k a b)
ranges_violate Shl k a b = overflow_violations (leaves_signed Shl k a b || shifts_negative k a b)
ranges_violate And k a b = no_violations
ranges_violate Or k a b = no_violations
ranges_violate Xor k a b = no_violations
ranges_violate Shr k a b = no_violations

abbrev pub sink_violations : Labels → Violations
sink_violations labels = record no_violations { taintsink = not (is_unlabelled labels) }

-- some number is outside -1 to 255
abbrev pub is_no_character : Range → Bool
is_no_character None = false
is_no_character (Some p) = int_lt p.0 (negsuc 0) || int_lt (pos 255) p.1

module _ {I : Type 0} where
  abbrev pub binary_violations : IntegersOf I → IntOp → IntType → Value I → Value I → Violations
  binary_violations n op k a b = ranges_violate op k (n.bounds a.num) (n.bounds b.num)

  abbrev pub unary_violations : IntegersOf I → UnOp → IntType → Value I → Violations
  unary_violations n op k a = overflow_violations (k.signed && negated_leave op k (n.bounds a.num))

  abbrev pub character_violations : IntegersOf I → Value I → Violations
  character_violations n c = record no_violations { chrsgnext = is_no_character (n.bounds c.num) }
