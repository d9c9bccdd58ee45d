use Rattle.clap.specs.Matches.{found_of}
use Rattle.cli_words.proofs.words.Values.{text_given, no_text}
use Rattle.cli_words.proofs.words.reading.text_of.Goals as goal

pub returns-in-Some : goal.returns-in-Some
returns-in-Some c = text_given c.get_str.result c.in-Some.text (found_of c.args.matches.now) c.args.name.now c.get_str.ensures c.in-Some.is

pub returns-in-None : goal.returns-in-None
returns-in-None c = no_text c.get_str.result (found_of c.args.matches.now) c.args.name.now c.get_str.ensures c.in-None.is
