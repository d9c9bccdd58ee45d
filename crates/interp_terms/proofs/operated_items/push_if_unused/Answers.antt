use Rattle.std.proofs.Common.{ap, sym}
use Rattle.semantics.specs.SourceMachine.Items as machine
use Rattle.interp_stack.specs.StackViews.{with_item, unless_used, standing}
use Rattle.interp_stack.proofs.Sequels.{goes_on}
use Rattle.interp_terms.proofs.operated_items.push_if_unused.Goals as goal

pub returns-else-used : goal.returns-else-used
returns-else-used c = λ u.
    let s = standing u c.args.control.now.items in
    goes_on c.push_item.result (standing u c.push_item.new.control.items) (with_item machine.Drop s) (unless_used c.args.used s) (ap (λ used. unless_used used s) (sym c.if-used.false)) (c.push_item.ensures u)
