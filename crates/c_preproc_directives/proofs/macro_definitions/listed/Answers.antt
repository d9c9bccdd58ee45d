use Rattle.std.proofs.Common.{◌∙◌}
use Rattle.c_preproc_macros.specs.Numbering.{texts_of}
use Rattle.c_preproc_directives.specs.Definitions.{is_barred}
use Rattle.c_preproc_directives.proofs.Definitions.{goes_on}
use Rattle.c_preproc_directives.proofs.macro_definitions.listed.Goals as goal

pub names-preserved : goal.names-preserved
names-preserved c =
    c.names.invariant ∙ goes_on (is_barred (texts_of c.args.spellings.now)) c.names.names.keys c.add_parameter.new.names.keys c.names.left.now c.in-Some-false.field-0 c.in-len2-up.len_at_least c.in-Ok.ensures c.in-Some-false.ensures c.in-Some-false.field-0-test
