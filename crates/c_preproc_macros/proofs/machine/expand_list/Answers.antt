use Rattle.std.proofs.Common.{◌≡◌, true, subst}
use Rattle.c_preproc_macros.specs.Expanding.{expansion}
use Rattle.c_preproc_macros.specs.States.{setting_of, Expands}
use Rattle.c_preproc_macros.specs.declared.machine.TheConstants.{LIMIT}
use Rattle.c_preproc_macros.proofs.Places.{list-placed}
use Rattle.c_preproc_macros.proofs.Tables.{rules-are}
use Rattle.c_preproc_macros.proofs.machine.expand_list.Goals as goal

pub returns-clause-value : goal.returns-clause-value
returns-clause-value c = subst (λ t. Expands (expansion (record { table = t; limit = LIMIT }) c.args.text.now c.args.used) c.run.result) (rules-are c.args.macros.now) c.run.ensures

pub returns-clause-placed : goal.returns-clause-placed
returns-clause-placed c = λ p h. list-placed (λ at. p at ≡ true) (setting_of c.args.macros.now) c.args.text.now c.args.used c.run.result c.run.ensures h
