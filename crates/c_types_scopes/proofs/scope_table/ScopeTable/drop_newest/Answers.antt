use Rattle.c_types_scopes.proofs.Newest.{indexed_less}
use Rattle.c_types_scopes.proofs.scope_table.ScopeTable.drop_newest.Goals as goal

pub invariant_of-self : goal.invariant_of-self
invariant_of-self c =
    indexed_less c.self.inside.entries.items c.pop.new.self.items c.self.inside.newest.items c.set_newest.new.newest.items c.in-Some.entry c.self.invariant c.in-Some.ensures.items c.set_newest.ensures
