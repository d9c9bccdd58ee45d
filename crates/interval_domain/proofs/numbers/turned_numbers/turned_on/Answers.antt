use Rattle.std.proofs.Common.{◌≡◌, arith, ◌∙◌, rules, FitsSigned, ◌*◌, ◌%◌, ◌+◌}
use Rattle.std.specs.Int.{w128}
use Rattle.std.proofs.lemmas.Int.{ints, to_z-of_z}
use Rattle.std.proofs.lemmas.Nat.{pow_pos}
use Rattle.cc_base.specs.IntegerTypes.{modulus}
use Rattle.interval_domain.specs.Numbers.TurnedNumbers.{turned_next}
use Rattle.interval_domain.proofs.numbers.turned_numbers.turned_on.Goals as goal

pub returns-then-rest-modulus : goal.returns-then-rest-modulus
returns-then-rest-modulus c =
    let f : FitsSigned w128 c.turns_of-turns.result = search rules in
    let e = to_z-of_z w128 _ f ∙ c.turns_of-turns.ensures.value in
    let h : c.args.n % modulus c.args.kind + 1 ≡ modulus c.args.kind = omega (arith, ints) in
    c.next_block.ensures ∙ turned_next c.args.n (modulus c.args.kind) _ (pow_pos (8 * c.args.kind.bytes)) e h
