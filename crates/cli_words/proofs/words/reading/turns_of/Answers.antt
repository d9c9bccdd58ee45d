use Rattle.std.proofs.Common.{◌∙◌, codes}
use Rattle.clap.specs.Matches.{found_of}
use Rattle.cli_words.proofs.words.Values.{turns_given, no_turns}
use Rattle.cli_words.proofs.words.reading.turns_of.Goals as goal

pub returns-in-Some : goal.returns-in-Some
returns-in-Some c = c.turns_named.ensures ∙ turns_given c.get_str.result c.in-Some.text (found_of c.args.matches.now) (codes "turns") c.get_str.ensures c.in-Some.is

pub returns-in-None : goal.returns-in-None
returns-in-None c = no_turns c.get_str.result (found_of c.args.matches.now) (codes "turns") c.get_str.ensures c.in-None.is
