use Rattle.std.proofs.Common.{◌≡◌, ◌-◌, drop, length}
use Rattle.c_preproc_macros.specs.Pending.{counts_of, pushed}
use Rattle.c_preproc_macros.proofs.pending_list.Pending.push_list.Given as goal

abbrev pub invariant-loop-i : goal.invariant-loop-i
invariant-loop-i l = (l.counts.closed.items ≡ counts_of (drop (length l.list - l.i) l.list)) × (l.self.items.items ≡ pushed (drop (length l.list - l.i) l.list) l.initial.self.items.items)
