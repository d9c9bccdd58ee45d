use Rattle.std.proofs.Common.{not, cond, ◌++◌, ap, ◌∙◌}
use Rattle.c_layout.specs.CheckedTrees.{term_tree}
use Rattle.c_layout.specs.CheckedUnits.{unit_view}
use Rattle.interp_memory.specs.ByteViews.{scalar_view}
use Rattle.interp_accesses.specs.WorldViews.{world_view}
use Rattle.semantics.specs.SourceMachine.TermTests.{test_if}
use Rattle.interp_stack.specs.StackViews.{standing}
use Rattle.interp_steps.specs.Operations.Pending.{pending}
use Rattle.interp_steps.specs.MachineItems.MachineViews.{state_view}
use Rattle.interp.proofs.machine.Followed.{chosen}
use Rattle.interp.proofs.machine.branch_turns.choose.Goals as goal

pub returns-in-Ok : goal.returns-in-Ok
returns-in-Ok c =
    let u = unit_view c.args.unit.now in
    let st = standing u c.args.m.now.control.items in
    let holds = not c.is_false_value-holds.result in
    chosen u (test_if u c.args.is_test (term_tree c.args.term.now)) st.yes st.no (standing u c.follow.new.control.items).items (record (state_view u c.args.m.now) { control = st.items }) (state_view u c.pass_known.new.m) (scalar_view c.in_ok-value.value) (pending c.args.m.now.values.items) (pending c.pop_value.new.values.items) holds (world_view c.pass_known.new.m.world)
    c.in_ok-value.ensures
    (ap not c.is_false_value-holds.ensures)
    c.in_ok-pass_known.ensures.moves
    (c.in-Ok.ensures u
    ∙ ap (λ control. cond holds (standing u control).yes (standing u control).no ++ (standing u c.pass_known.new.m.control.items).items) (ap (λ v. v.items) c.in_ok-pass_known.ensures.control))
