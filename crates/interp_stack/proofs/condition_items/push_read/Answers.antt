use Rattle.lower_conditions.specs.Conditions.{read_view_of}
use Rattle.interp_stack.specs.StackViews.{standing}
use Rattle.interp_stack.proofs.Conditions.{line_read}
use Rattle.interp_stack.proofs.condition_items.push_read.Goals as goal

pub returns : goal.returns
returns c = λ u. rw (c.in_ok-push_item-2.ensures u, c.in_ok-push_item.ensures u) (line_read (read_view_of c.args.read) c.args.read.wants_line (standing u c.args.control.now.items))
