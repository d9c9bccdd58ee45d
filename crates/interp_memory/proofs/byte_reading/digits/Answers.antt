use Rattle.std.proofs.Common.{◌≡◌, ◌<◌, ◌≤◌, ◌+◌, ◌-◌, ◌*◌, ◌^◌, Some, length, sym, ap, subst, ◌∙◌, arith, rules, Fits, w8}
use Rattle.memory_model.specs.Effects.Accesses.{numbers_in}
use Rattle.interp_memory.specs.ByteViews.{labels_view, content_view}
use Rattle.interp_memory.specs.Digits.{digits_of}
use Rattle.interp_memory.proofs.NumberSteps.{below_byte}
use Rattle.interp_memory.proofs.DigitSteps.{contents_from, number_below, digits_more, digits_end, digits_none}
use Rattle.interp_memory.proofs.byte_reading.digits.Goals as goal

pub loop-at-init : goal.loop-at-init
loop-at-init c =
    let none : length c.args.bytes.now - length c.args.bytes.now ≡ 0 = omega arith in
    (digits_end c.args.bytes.now, subst (λ k. 0 < 256 ^ k) (sym none) (omega arith), omega arith)

pub loop-at-preserved : goal.loop-at-preserved
loop-at-preserved c =
    let (value, small, within) = c.loop-at.invariant in
    let byte : Fits w8 c.in-Number.n = search rules in
    let back : c.loop-at.at ≡ (c.loop-at.at - 1) + 1 = omega (arith, c.loop-at-test.true) in
    let more : 256 ^ (length c.args.bytes.now - (c.loop-at.at - 1)) ≡ 256 ^ ((length c.args.bytes.now - c.loop-at.at) + 1) = ap (λ k. 256 ^ k) (omega (arith, c.loop-at-test.true, within)) in (
      ap (λ n. Some (n + 256 * c.loop-at.number, labels_view c.union_of-labels.result)) c.from.ensures
          ∙ ap (λ l. Some (c.in-Number.n + 256 * c.loop-at.number, l)) c.union_of-labels.ensures
          ∙ digits_more c.args.bytes.now (c.loop-at.at - 1) _ c.in-Number.n c.loop-at.number (labels_view c.in-Number.own) (labels_view c.loop-at.labels) (omega (arith, c.loop-at-test.true, within)) (ap content_view c.in-Number.is) (subst (λ k. Some (c.loop-at.number, labels_view c.loop-at.labels) ≡ digits_of (numbers_in (contents_from c.args.bytes.now k))) back value),
      subst (λ k. c.from.result + 256 * c.loop-at.number < k) (sym more) (number_below c.from.result (length c.args.bytes.now - c.loop-at.at) c.loop-at.number (omega (arith, c.from.ensures, byte)) small),
      omega (arith, within),
    )

pub returns-in_default : goal.returns-in_default
returns-in_default c = record {
  value = digits_none c.args.bytes.now (c.loop-at.at - 1) _ (omega (arith, c.loop-at-test.true, c.loop-at.auto.at)) c.in_default.not-Number;
  small = tt;
}

pub overflow_mul-number : goal.overflow_mul-number
overflow_mul-number c =
    let few : length c.args.bytes.now - c.loop-at.at ≤ 7 = omega (arith, c.requires, c.loop-at-test.true) in
    let small : c.loop-at.number < 2 ^ 56 = below_byte c.loop-at.number (length c.args.bytes.now - c.loop-at.at) c.loop-at.invariant.1 few in
    omega (arith, small)

pub overflow_add-number : goal.overflow_add-number
overflow_add-number c =
    let byte : Fits w8 c.in-Number.n = search rules in
    let few : length c.args.bytes.now - c.loop-at.at ≤ 7 = omega (arith, c.requires, c.loop-at-test.true) in
    let small : c.loop-at.number < 2 ^ 56 = below_byte c.loop-at.number (length c.args.bytes.now - c.loop-at.at) c.loop-at.invariant.1 few in
    omega (arith, c.from.ensures, small, byte)

pub returns-clause-value : goal.returns-clause-value
returns-clause-value c =
    let done : c.loop-at.at ≡ 0 = omega (arith, c.loop-at-test.false) in
    c.loop-at.invariant.0 ∙ ap (λ k. digits_of (numbers_in (contents_from c.args.bytes.now k))) done

pub returns-clause-small : goal.returns-clause-small
returns-clause-small c =
    let all : length c.args.bytes.now - c.loop-at.at ≡ length c.args.bytes.now = omega (arith, c.loop-at-test.false) in
    subst (λ k. c.loop-at.number < 256 ^ k) all c.loop-at.invariant.1
