use Rattle.c_types_scopes.proofs.Newest.{indexed_none}
use Rattle.c_types_scopes.proofs.scope_table.ScopeTable.new.Goals as goal

pub invariant_of-result : goal.invariant_of-result
invariant_of-result c = indexed_none c.new.result.items c.new-2.result.items c.new.ensures.items c.new-2.ensures.items
