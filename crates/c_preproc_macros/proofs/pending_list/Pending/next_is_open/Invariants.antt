use Rattle.std.proofs.Common.{◌≡◌, drop}
use Rattle.c_preproc_macros.specs.Pending.{next_open}
use Rattle.c_preproc_macros.proofs.pending_list.Pending.next_is_open.Given as goal

abbrev pub invariant-loop-i : goal.invariant-loop-i
invariant-loop-i l = next_open l.self.items.items ≡ next_open (drop l.i l.self.items.items)
