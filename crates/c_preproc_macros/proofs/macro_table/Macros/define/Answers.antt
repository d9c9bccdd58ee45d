use Rattle.std.proofs.Common.{◌∙◌, ap, map}
use Rattle.c_preproc_macros.proofs.Tables.{entry_of, map-insert_entry}
use Rattle.c_preproc_macros.proofs.macro_table.Macros.define.Goals as goal

pub returns-clause-macros : goal.returns-clause-macros
returns-clause-macros c = ap (map entry_of) c.in_ok-insert.ensures.entries ∙ map-insert_entry c.args.self.now.table.entries c.args.name c.args.rule
