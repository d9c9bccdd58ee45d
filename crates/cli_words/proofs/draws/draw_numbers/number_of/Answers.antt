use Rattle.std.proofs.Common.{◌≡◌, ◌∙◌, rules}
use Rattle.std.specs.Str.Parse.{ParsesUnsigned}
use Rattle.cli_words.proofs.numerals.PlainNumbers.{number_read, plain_text}
use Rattle.cli_words.proofs.draws.draw_numbers.number_of.Goals as goal

pub returns-in-Ok : goal.returns-in-Ok
returns-in-Ok c =
    let same : c.in-Ok.text.now ≡ c.args.digits.now = search rules in
    let read : ParsesUnsigned 64 10 c.args.digits.now c.parse.result = rw (← same) c.parse.ensures.value.0 in
    c.ok.ensures.value ∙ number_read _ 64 c.args.digits.now c.parse.result c.requires read

pub returns-in-Err : goal.returns-in-Err
returns-in-Err c = absurd (c.in-Err.ensures.cases.0 (plain_text c.args.digits.now c.requires))
