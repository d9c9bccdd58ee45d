use Rattle.std.proofs.Common.{◌∙◌, ap, codes, string_bytes}
use Rattle.clap.specs.Matches.{found_of}
use Rattle.clap.specs.Walk.{rows_of}
use Rattle.cli_words.specs.Words.Requests.{Gate, command_in, gate_in}
use Rattle.cli_words.proofs.words.Values.{name_given, no_name}
use Rattle.cli_words.proofs.words.reading.gate_of.Goals as goal

pub returns-in_ok-from_str-in-Some : goal.returns-in_ok-from_str-in-Some
returns-in_ok-from_str-in-Some c =
    let command = command_in (rows_of (found_of c.args.matches.now)) c.args.values in
    ap (λ v. Gate v (string_bytes c.in_ok-from_str-in-Some.field-0)) c.in_ok-command_of-in-Some.ensures
    ∙ ap (λ b. Gate command b) c.in_ok-from_str-in-Some.ensures.ok
    ∙ ap (λ o. gate_in o command) (name_given c.get_str.result c.in-Some.name (found_of c.args.matches.now) (codes "base") c.get_str.ensures c.in-Some.is)

pub returns-in-None : goal.returns-in-None
returns-in-None c = ap (λ o. gate_in o (command_in (rows_of (found_of c.args.matches.now)) c.args.values)) (no_name c.get_str.result (found_of c.args.matches.now) (codes "base") c.get_str.ensures c.in-None.is)
