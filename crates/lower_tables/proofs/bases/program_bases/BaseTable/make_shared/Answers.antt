use Rattle.std.proofs.Common.{◌-◌, ◌^◌, ◌++◌, ◌∷◌, [], ap, ◌∙◌}
use Rattle.c_layout.specs.CheckedUnits.{unit_view}
use Rattle.lower_tables.specs.Bases.BaseTables.{table}
use Rattle.lower_tables.proofs.bases.SharedTurns.{begun_at}
use Rattle.lower_tables.proofs.bases.program_bases.BaseTable.make_shared.Goals as goal

pub returns : goal.returns
returns c = c.in_ok-make_all.ensures ∙ begun_at (unit_view c.args.unit.now) (2 ^ 64 - 1) c.args.first c.push.new.self.items (table c.args.self.now) (c.in_ok-push.ensures.items ∙ ap (λ xs. xs ++ c.args.first ∷ []) c.new-stack.ensures.items)
