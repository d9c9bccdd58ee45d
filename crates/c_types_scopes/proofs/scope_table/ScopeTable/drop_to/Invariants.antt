use Rattle.std.proofs.Common.{◌≡◌, take, length}
use Rattle.c_types_scopes.proofs.scope_table.ScopeTable.drop_to.Given as goal

abbrev pub invariant-loop-self : goal.invariant-loop-self
invariant-loop-self l = record {
  front : take l.mark l.self.entries ≡ take l.mark l.initial.self.entries;
  marks : l.self.marks ≡ l.initial.self.marks;
}

abbrev pub decreases-loop-self : goal.decreases-loop-self
decreases-loop-self l = length l.self.entries
