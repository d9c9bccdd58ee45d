use Rattle.cc_base.proofs.Names.{found_first, found_later}
use Rattle.cc_base.proofs.memory_tree.held.Goals as goal

pub returns-then-is_name : goal.returns-then-is_name
returns-then-is_name c =
    found_first _ _ _ _ c.in-Some.entry.now _ c.loop-entry.invariant c.in-Some.ensures.steps c.is_name.ensures c.if-is_name.true

pub loop-entry-preserved : goal.loop-entry-preserved
loop-entry-preserved c =
    found_later _ _ _ _ c.in-Some.entry.now _ c.loop-entry.invariant c.in-Some.ensures.steps c.is_name.ensures c.if-is_name.false
