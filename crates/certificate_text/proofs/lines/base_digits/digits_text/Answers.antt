use Rattle.std.proofs.Common.{◌≡◌, ◌<◌, ◌-◌, ◌≤◌, ◌∷◌, [], ◌++◌, arith, rules}
use Rattle.certificate_text.specs.Lines.BaseDigits.{nibble, hex_digit, digits_below}
use Rattle.certificate_text.proofs.lines.Digits.{digits_grow}
use Rattle.certificate_text.proofs.lines.base_digits.digits_text.Goals as goal

pub loop-left-preserved : goal.loop-left-preserved
loop-left-preserved c =
    let more : 0 < c.loop-left.left = search rules in
    let added : c.push.new.self.items ≡ c.loop-left.text.items ++ (hex_digit (nibble c.args.set (c.loop-left.left - 1)) ∷ []) = search rules in
    let within : c.loop-left.left - 1 ≤ 254 = omega arith in
    (within, digits_grow c.args.set c.loop-left.text.items c.push.new.self.items (digits_below c.args.set c.args.count) c.loop-left.left more c.loop-left.invariant.1 added)
