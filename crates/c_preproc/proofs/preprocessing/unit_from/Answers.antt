use Rattle.std.proofs.Common.{◌∙◌, ap, Err, length, map, string_bytes}
use Rattle.c_preproc.proofs.Searches.{if_caused_from, caused_from}
use Rattle.c_preproc.proofs.Whole.{stands_stop, long_in}
use Rattle.c_preproc.proofs.preprocessing.unit_from.Goals as goal

pub returns-in-Ok-clause-cause : goal.returns-in-Ok-clause-cause
returns-in-Ok-clause-cause g c = if_caused_from c.unit_of.result c.args.main.now _ _ (g.T.Tree.files c.unit_of.new.tree) _ _ _ _ _ _ (map string_bytes c.args.dirs.now) c.args.model.now c.unit_of.new.files
    c.read.ensures.files c.read.ensures.faults c.read.ensures.taken c.unit_of.ensures.cause

pub returns-in-Err-TooLong-clause-cause : goal.returns-in-Err-TooLong-clause-cause
returns-in-Err-TooLong-clause-cause g c = caused_from c.args.main.now _ (map string_bytes c.args.dirs.now) c.args.model.now c.too_long.new.files c.too_long.result
    (c.too_long.ensures.cause _ _ _ (c.read.ensures.too_long (c.in-Err-TooLong.is ∙ ap Err c.in-Err-TooLong.field-0-is)))

pub returns-in-Err-TooLong-clause-placed : goal.returns-in-Err-TooLong-clause-placed
returns-in-Err-TooLong-clause-placed g c = stands_stop (length c.too_long.new.files) c.too_long.result (long_in c.args.main.now c.args.files.now c.too_long.new.files c.too_long.result c.too_long.ensures.long)
