use Rattle.std.proofs.Common.{◌∙◌, ap, map}
use Rattle.c_preproc_macros.proofs.Tables.{entry_of, map-swap_remove_entry}
use Rattle.c_preproc_macros.proofs.macro_table.Macros.undefine.Goals as goal

pub returns-clause-macros : goal.returns-clause-macros
returns-clause-macros c = ap (map entry_of) c.swap_remove.ensures.entries ∙ map-swap_remove_entry c.args.self.now.table.entries c.args.name
