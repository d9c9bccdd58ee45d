use Rattle.c_preproc_macros.proofs.Along.{rule_got}
use Rattle.c_preproc_macros.proofs.Tables.{macro_got}
use Rattle.c_preproc_macros.proofs.macro_table.Macros.get.Goals as goal

pub returns-clause-rule : goal.returns-clause-rule
returns-clause-rule c = rule_got c.get.result c.args.self.now.table.entries c.args.name c.get.ensures.value

pub returns-clause-defined : goal.returns-clause-defined
returns-clause-defined c = macro_got c.get.result c.args.self.now.table.entries c.args.name c.get.ensures.value
