use Rattle.std.proofs.Common.{◌≡◌, [], List, refl, ap, sym, subst}
use Rattle.c_layout.specs.CheckedTrees.{statement_tree}
use Rattle.semantics.specs.SourceMachine.Items.{Item}
use Rattle.interp_stack.specs.ItemViews.{next_items}
use Rattle.interp_stack.specs.StackViews.{following, on_statement, standing}
use Rattle.interp_stack.specs.declared.items.Way7.{Way7}
use Rattle.interp_statements.specs.Choices.{followed}
use Rattle.interp_statements.proofs.Ends.{met_item, stays_item, met_as}
use Rattle.interp_statements.proofs.choices.meet_statement.Goals as goal

pub returns-in-After-clause-met : goal.returns-in-After-clause-met
returns-in-After-clause-met c = λ u.
    let s = standing u c.args.control.now.items in
    let whole : Way7 → List Item = λ how. followed c.args.holds (on_statement how (statement_tree c.args.statement.now) s) in
    met_as u c.meet_next.result c.meet_next.new.control.items (followed c.args.holds (following (next_items c.in-After.next (statement_tree c.args.statement.now)) s)) (whole c.args.way) (ap whole (sym c.in-After.is)) (c.meet_next.ensures.met u)

pub returns-in-Whole-clause-met : goal.returns-in-Whole-clause-met
returns-in-Whole-clause-met c = λ u.
    let s = standing u c.args.control.now.items in
    let family : Way7 → Type 0 = λ how. ((on_statement how (statement_tree c.args.statement.now) s).yes ≡ []) × ((on_statement how (statement_tree c.args.statement.now) s).no ≡ []) in
    met_item u c.args.holds (on_statement c.args.way (statement_tree c.args.statement.now) s) c.meet_item.result c.meet_item.new.control.items (subst family (sym c.in-Whole.is) (refl, refl)) c.meet_item.ensures.none (c.meet_item.ensures.pushed u)

pub returns-in-Whole-clause-stays : goal.returns-in-Whole-clause-stays
returns-in-Whole-clause-stays c = stays_item c.args.control.now.items c.meet_item.result c.meet_item.new.control.items c.meet_item.ensures.none

pub returns-in-Turn-clause-met : goal.returns-in-Turn-clause-met
returns-in-Turn-clause-met c = λ u.
    let s = standing u c.args.control.now.items in
    let family : Way7 → Type 0 = λ how. ((on_statement how (statement_tree c.args.statement.now) s).yes ≡ []) × ((on_statement how (statement_tree c.args.statement.now) s).no ≡ []) in
    met_item u c.args.holds (on_statement c.args.way (statement_tree c.args.statement.now) s) c.meet_item-in-Turn.result c.meet_item-in-Turn.new.control.items (subst family (sym c.in-Turn.is) (refl, refl)) c.meet_item-in-Turn.ensures.none (c.meet_item-in-Turn.ensures.pushed u)

pub returns-in-Turn-clause-stays : goal.returns-in-Turn-clause-stays
returns-in-Turn-clause-stays c = stays_item c.args.control.now.items c.meet_item-in-Turn.result c.meet_item-in-Turn.new.control.items c.meet_item-in-Turn.ensures.none

pub returns-in-Select-clause-met : goal.returns-in-Select-clause-met
returns-in-Select-clause-met c = λ u.
    let s = standing u c.args.control.now.items in
    let family : Way7 → Type 0 = λ how. ((on_statement how (statement_tree c.args.statement.now) s).yes ≡ []) × ((on_statement how (statement_tree c.args.statement.now) s).no ≡ []) in
    met_item u c.args.holds (on_statement c.args.way (statement_tree c.args.statement.now) s) c.meet_item-in-Select.result c.meet_item-in-Select.new.control.items (subst family (sym c.in-Select.is) (refl, refl)) c.meet_item-in-Select.ensures.none (c.meet_item-in-Select.ensures.pushed u)

pub returns-in-Select-clause-stays : goal.returns-in-Select-clause-stays
returns-in-Select-clause-stays c = stays_item c.args.control.now.items c.meet_item-in-Select.result c.meet_item-in-Select.new.control.items c.meet_item-in-Select.ensures.none
