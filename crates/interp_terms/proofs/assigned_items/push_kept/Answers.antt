use Rattle.std.proofs.Common.{◌++◌, ap, sym}
use Rattle.semantics.specs.SourceMachine.Items as machine
use Rattle.semantics.specs.SourceMachine.TermItems as spec
use Rattle.interp_stack.specs.StackViews.{with_item, standing}
use Rattle.interp_stack.proofs.Sequels.{items_go_on}
use Rattle.interp_terms.proofs.assigned_items.push_kept.Goals as goal

pub returns-then-keeps : goal.returns-then-keeps
returns-then-keeps c = λ u.
    let s = standing u c.args.control.now.items in
    items_go_on c.push_item.result (standing u c.push_item.new.control.items) (with_item machine.Again s) (spec.kept c.args.keeps ++ s.items) (ap (λ keeps. spec.kept keeps ++ s.items) (sym c.if-keeps.true)) (c.push_item.ensures u)
