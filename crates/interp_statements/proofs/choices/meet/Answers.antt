use Rattle.std.proofs.Common.{[], List, ap, sym}
use Rattle.c_layout.specs.CheckedTrees.{term_tree, statement_tree}
use Rattle.semantics.specs.SourceMachine.Items.{Item}
use Rattle.semantics.specs.SourceMachine.ConditionItems.{truth_of}
use Rattle.interp_stack.specs.StackViews.{following, on_item, on_term, on_statement, standing}
use Rattle.interp_stack.specs.declared.items.Item7.{Item7}
use Rattle.interp_statements.specs.Choices.{followed}
use Rattle.interp_statements.proofs.Ends.{met_item, stays_item, met_as, met_alone}
use Rattle.interp_statements.proofs.Entries.{no_part, no_ways}
use Rattle.interp_statements.proofs.choices.meet.Goals as goal

pub returns-in-AfterNothing-clause-met : goal.returns-in-AfterNothing-clause-met
returns-in-AfterNothing-clause-met c = λ u.
    let s = standing u c.args.control.now.items in
    let whole : Item7 → List Item = λ i. followed c.args.holds (on_item u i s) in
    met_alone u c.meet_nothing.result c.meet_nothing.new.control.items (followed c.args.holds (following [] s)) (whole c.args.item) (ap whole (sym c.in-AfterNothing.is)) (c.meet_nothing.ensures.met u)

pub returns-in-AfterTruth-clause-met : goal.returns-in-AfterTruth-clause-met
returns-in-AfterTruth-clause-met c = λ u.
    let s = standing u c.args.control.now.items in
    let whole : Item7 → List Item = λ how. followed c.args.holds (on_item u how s) in
    met_as u c.meet_truth.result c.meet_truth.new.control.items (followed c.args.holds (following (truth_of c.in-AfterTruth.truth) s)) (whole c.args.item) (ap whole (sym c.in-AfterTruth.is)) (c.meet_truth.ensures.met u)

pub returns-in-Term-clause-met : goal.returns-in-Term-clause-met
returns-in-Term-clause-met c = λ u.
    let s = standing u c.args.control.now.items in
    let whole : Item7 → List Item = λ how. followed c.args.holds (on_item u how s) in
    met_as u c.meet_term.result c.meet_term.new.control.items (followed c.args.holds (on_term u c.in-Term.how (term_tree c.in-Term.term.now) s)) (whole c.args.item) (ap whole (sym c.in-Term.is)) (c.meet_term.ensures.met u)

pub returns-in-Statement-clause-met : goal.returns-in-Statement-clause-met
returns-in-Statement-clause-met c = λ u.
    let s = standing u c.args.control.now.items in
    let whole : Item7 → List Item = λ how. followed c.args.holds (on_item u how s) in
    met_as u c.meet_statement.result c.meet_statement.new.control.items (followed c.args.holds (on_statement c.in-Statement.way (statement_tree c.in-Statement.statement.now) s)) (whole c.args.item) (ap whole (sym c.in-Statement.is)) (c.meet_statement.ensures.met u)

pub returns-in_default : goal.returns-in_default
returns-in_default c =
    let whole = no_part c.args.item c.in_default.not-AfterNothing c.in_default.not-AfterTruth c.in_default.not-Negated c.in_default.not-Term c.in_default.not-Statement in
    record {
      met = λ u. met_item u c.args.holds (on_item u c.args.item (standing u c.args.control.now.items)) c.meet_item.result c.meet_item.new.control.items (no_ways u c.args.item (standing u c.args.control.now.items) whole) c.meet_item.ensures.none (c.meet_item.ensures.pushed u);
      stays = stays_item c.args.control.now.items c.meet_item.result c.meet_item.new.control.items c.meet_item.ensures.none;
    }
