use Rattle.interp_stack.proofs.Stacks.{stacked}
use Rattle.interp_stack.proofs.store_items.push_item.Goals as goal

pub returns-then-len-capacity : goal.returns-then-len-capacity
returns-then-len-capacity c = λ u. stacked u c.args.control.now.items c.push_reserved.new.self.items c.args.item c.push_reserved.ensures.items
