-- Products whose bounds need more than 128 bits.
use Rattle.std.specs.Prelude.{◌≡◌, ◌-◌, ◌*◌, ◌^◌, ℤ, pos, negsuc, ◌+ℤ◌, ◌-ℤ◌, ◌≤ℤ◌, ◌<ℤ◌, false, cond}
use Rattle.std.specs.Int.{int_min, int_max, int_div_euclid, int_rem_euclid, saturate_signed, w128}
use Rattle.std.proofs.Common.{arith, ap, ap₂, ◌∙◌, sym}
use Rattle.std.proofs.lemmas.Int.{ints, clamps, by_lt_z}
use Rattle.cc_base.specs.IntegerTypes.{modulus, least_of, greatest_of, wrap_into, block_of}
use Rattle.cc_base.specs.declared.int_types.IntType.{IntType}
use Rattle.interval_domain.specs.declared.intervals.intervals.Interval.{Interval}
use Rattle.interval_domain.specs.declared.numbers.turned_numbers.Turned.{Turned}
use Rattle.interval_domain.specs.Intervals.Spans.{between_or_empty, between_none}
use Rattle.interval_domain.specs.Numbers.TurnedNumbers.{turned, one_block}
use Rattle.interval_domain.specs.Intervals.Blocks.{hull_wraps}
use Rattle.interval_domain.specs.Intervals.Arithmetic.{least_of_four, greatest_of_four, whole, wrapped, clamped}

-- the block of a type that holds z, and the number of the type
abbrev pub in_block : IntType → ℤ → Turned
in_block k z = record { turns = block_of k z; rest = wrap_into k z }

-- ---- the blocks of an unsigned type

pub turned_in_block : (k : IntType) (z : ℤ) → k.signed ≡ false → turned (modulus k) z ≡ in_block k z
turned_in_block k z e =
    let l : least_of k ≡ pos 0 = ap (λ s. cond s (negsuc (2 ^ (8 * k.bytes - 1) - 1)) (pos 0)) e in
    let p : z ≡ (z -ℤ least_of k) = omega (arith, ints) in
    let q : int_div_euclid z (pos (modulus k)) ≡ block_of k z = ap (λ x. int_div_euclid x (pos (modulus k))) p in
    let r : int_rem_euclid z (pos (modulus k)) ≡ int_rem_euclid (z -ℤ least_of k) (pos (modulus k)) = ap (λ x. int_rem_euclid x (pos (modulus k))) p in
    let s : int_rem_euclid z (pos (modulus k)) ≡ wrap_into k z = omega (arith, ints) in
    λ i. record { turns = q i; rest = s i }

abbrev pub turned_hull : IntType → Turned → Turned → Turned → Turned → Interval
turned_hull k a b c d = cond (one_block a.turns b.turns c.turns d.turns) (between_or_empty (least_of_four a.rest b.rest c.rest d.rest) (greatest_of_four a.rest b.rest c.rest d.rest)) (whole k)

pub turned_hull_wraps : (k : IntType) (x y z w : ℤ) (a b c d : Turned) → k.signed ≡ false → a ≡ turned (modulus k) x → b ≡ turned (modulus k) y → c ≡ turned (modulus k) z → d ≡ turned (modulus k) w → turned_hull k a b c d ≡ wrapped k (least_of_four x y z w) (greatest_of_four x y z w)
turned_hull_wraps k x y z w a b c d s p q r t =
    ap (λ v. turned_hull k v b c d) (p ∙ turned_in_block k x s)
    ∙ (ap (λ v. turned_hull k (in_block k x) v c d) (q ∙ turned_in_block k y s)
    ∙ (ap (λ v. turned_hull k (in_block k x) (in_block k y) v d) (r ∙ turned_in_block k z s)
    ∙ (ap (λ v. turned_hull k (in_block k x) (in_block k y) (in_block k z) v) (t ∙ turned_in_block k w s)
    ∙ hull_wraps k x y z w)))

-- ---- numbers that are clamped alike

-- z moved to the nearest number from l to u
abbrev pub clip : ℤ → ℤ → ℤ → ℤ
clip l u z = int_max l (int_min u z)

clip_least : (l u a b : ℤ) → clip l u (int_min a b) ≡ int_min (clip l u a) (clip l u b)
clip_least l u a b = omega (arith, ints, clamps)

clip_greatest : (l u a b : ℤ) → clip l u (int_max a b) ≡ int_max (clip l u a) (clip l u b)
clip_greatest l u a b = omega (arith, ints, clamps)

clip_least_four : (l u a b c d : ℤ) → clip l u (least_of_four a b c d) ≡ least_of_four (clip l u a) (clip l u b) (clip l u c) (clip l u d)
clip_least_four l u a b c d = clip_least l u (int_min a b) (int_min c d) ∙ ap₂ int_min (clip_least l u a b) (clip_least l u c d)

clip_greatest_four : (l u a b c d : ℤ) → clip l u (greatest_of_four a b c d) ≡ greatest_of_four (clip l u a) (clip l u b) (clip l u c) (clip l u d)
clip_greatest_four l u a b c d = clip_greatest l u (int_max a b) (int_max c d) ∙ ap₂ int_max (clip_greatest l u a b) (clip_greatest l u c d)

abbrev pub past_ends : IntType → ℤ → ℤ
past_ends k z = clip (least_of k -ℤ pos 1) (greatest_of k +ℤ pos 1) z

clamped_clip : (k : IntType) (a b : ℤ) → least_of k ≤ℤ greatest_of k → clamped k a b ≡ clamped k (past_ends k a) (past_ends k b)
clamped_clip k a b h = by_lt_z (greatest_of k) a
    (λ (p : greatest_of k <ℤ a). between_none _ _ (omega (arith, ints, clamps)) ∙ sym (between_none _ _ (omega (arith, ints, clamps))))
    (λ (p : a ≤ℤ greatest_of k). by_lt_z b (least_of k)
    (λ (q : b <ℤ least_of k). between_none _ _ (omega (arith, ints, clamps)) ∙ sym (between_none _ _ (omega (arith, ints, clamps))))
    (λ (q : least_of k ≤ℤ b). ap₂ between_or_empty (omega (arith, ints, clamps)) (omega (arith, ints, clamps))))

pub clamped_alike : (k : IntType) (a b c d : ℤ) → least_of k ≤ℤ greatest_of k → past_ends k a ≡ past_ends k c → past_ends k b ≡ past_ends k d → clamped k a b ≡ clamped k c d
clamped_alike k a b c d h e f = clamped_clip k a b h ∙ (ap₂ (clamped k) e f ∙ sym (clamped_clip k c d h))

saturated_alike : (l u z : ℤ) → negsuc (2 ^ 64) ≤ℤ l → l ≤ℤ pos 0 → u ≤ℤ pos (2 ^ 64) → pos 0 ≤ℤ u → clip l u (saturate_signed w128 z) ≡ clip l u z
saturated_alike l u (pos n) a b c d = omega (arith, ints, clamps)
saturated_alike l u (negsuc n) a b c d = omega (arith, ints, clamps)

-- products that are moved to the nearest number of 128 bits are clamped alike
pub products_alike : (k : IntType) (x y z w a b c d : ℤ) → negsuc (2 ^ 63 - 1) ≤ℤ least_of k → least_of k ≤ℤ pos 0 → pos 127 ≤ℤ greatest_of k → greatest_of k ≤ℤ pos (2 ^ 64 - 1)
    → a ≡ saturate_signed w128 x → b ≡ saturate_signed w128 y → c ≡ saturate_signed w128 z → d ≡ saturate_signed w128 w
    → clamped k (least_of_four a b c d) (greatest_of_four a b c d) ≡ clamped k (least_of_four x y z w) (greatest_of_four x y z w)
products_alike k x y z w a b c d low flat wide high e f g h =
    let l = least_of k -ℤ pos 1 in
    let u = greatest_of k +ℤ pos 1 in
    let s : (v : ℤ) → clip l u (saturate_signed w128 v) ≡ clip l u v = λ v. saturated_alike l u v (omega (arith, ints)) (omega (arith, ints)) (omega (arith, ints)) (omega (arith, ints)) in
    let p : clip l u a ≡ clip l u x = ap (clip l u) e ∙ s x in
    let q : clip l u b ≡ clip l u y = ap (clip l u) f ∙ s y in
    let r : clip l u c ≡ clip l u z = ap (clip l u) g ∙ s z in
    let t : clip l u d ≡ clip l u w = ap (clip l u) h ∙ s w in
    clamped_alike k _ _ _ _ (omega (arith, ints))
    (clip_least_four l u a b c d ∙ ((λ i. least_of_four (p i) (q i) (r i) (t i)) ∙ sym (clip_least_four l u x y z w)))
    (clip_greatest_four l u a b c d ∙ ((λ i. greatest_of_four (p i) (q i) (r i) (t i)) ∙ sym (clip_greatest_four l u x y z w)))
