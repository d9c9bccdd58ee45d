use Rattle.std.proofs.Common.{None, sym, ◌∙◌}
use Rattle.c_layout.specs.CheckedTrees.{statement_tree}
use Rattle.semantics.specs.SourceMachine.BranchSteps.{landing}
use Rattle.semantics.specs.SourceMachine.LabelSearch.{found}
use Rattle.interp_stack.specs.StackViews.{standing}
use Rattle.interp_statements.specs.LabelViews.{sought_view}
use Rattle.interp.proofs.machine.Jumped.{landing_behind, lands_behind, lands_as}
use Rattle.interp.proofs.machine.branch_turns.land_on.Goals as goal

pub returns-else-is_in : goal.returns-else-is_in
returns-else-is_in c = λ u.
    let l = sought_view c.args.sought in
    let items = (standing u c.args.control.now.items).items in
    let now = (standing u c.land_behind.new.control.items).items in
    let to = found u l (statement_tree c.args.body.now) items in
    lands_behind (landing l to items) (landing l None items) c.land_behind.result now (landing_behind l to items (sym (c.is_in.ensures u items) ∙ c.if-is_in.false))
    (lands_as (landing l None items) c.land_behind.result now (c.land_behind.ensures u))
