use Rattle.std.proofs.Common.{◌∙◌, ap, Some}
use Rattle.clap.specs.Matches.{found_of}
use Rattle.cli_words.proofs.words.Values.{name_given, no_name}
use Rattle.cli_words.proofs.words.reading.name_of.Goals as goal

pub returns-in_ok-from_str-in-Some : goal.returns-in_ok-from_str-in-Some
returns-in_ok-from_str-in-Some c = ap Some c.in_ok-from_str-in-Some.ensures.ok ∙ name_given c.get_str.result c.in-Some.text (found_of c.args.matches.now) c.args.name.now c.get_str.ensures c.in-Some.is

pub returns-in-None : goal.returns-in-None
returns-in-None c = no_name c.get_str.result (found_of c.args.matches.now) c.args.name.now c.get_str.ensures c.in-None.is
