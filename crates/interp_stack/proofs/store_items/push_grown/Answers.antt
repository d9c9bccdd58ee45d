use Rattle.interp_stack.proofs.Stacks.{stacked}
use Rattle.interp_stack.proofs.store_items.push_grown.Goals as goal

pub returns : goal.returns
returns c = λ u. stacked u c.args.control.now.items c.push.new.self.items c.args.item c.in_ok-push.ensures.items
