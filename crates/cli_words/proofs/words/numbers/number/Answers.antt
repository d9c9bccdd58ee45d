use Rattle.std.proofs.Common.{◌≡◌, ◌∙◌, true, rules}
use Rattle.cli_words.specs.Numerals.{is_plain}
use Rattle.cli_words.proofs.numerals.PlainNumbers.{number_read}
use Rattle.cli_words.proofs.words.numbers.number.Goals as goal

pub returns-then-is_plain : goal.returns-then-is_plain
returns-then-is_plain c =
    let plain : is_plain c.args.text.now ≡ true = search rules in
    c.ok.ensures.value ∙ number_read _ 32 c.args.text.now c.parse.result plain c.parse.ensures.value.0
