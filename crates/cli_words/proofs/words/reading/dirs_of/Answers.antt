use Rattle.std.proofs.Common.{◌∙◌, ap, map, string_bytes, codes}
use Rattle.std.proofs.lemmas.Result.{IfOk-weaker}
use Rattle.clap.specs.Matches.{found_of}
use Rattle.cli_words.proofs.words.Values.{texts_given, no_texts}
use Rattle.cli_words.proofs.words.reading.dirs_of.Goals as goal

pub returns-in-Some : goal.returns-in-Some
returns-in-Some c = IfOk-weaker c.copied.result _ _ (λ v h. h ∙ texts_given c.get_strs.result c.in-Some.names (found_of c.args.matches.now) (codes "dirs") c.get_strs.ensures c.in-Some.is) c.copied.ensures

pub returns-in-None : goal.returns-in-None
returns-in-None c = ap (map string_bytes) c.new.ensures.items ∙ no_texts c.get_strs.result (found_of c.args.matches.now) (codes "dirs") c.get_strs.ensures c.in-None.is
