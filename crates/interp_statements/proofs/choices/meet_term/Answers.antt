use Rattle.std.proofs.Common.{◌≡◌, [], List, refl, ap, sym, subst}
use Rattle.c_layout.specs.CheckedTrees.{term_tree}
use Rattle.semantics.specs.SourceMachine.Items.{Item}
use Rattle.interp_stack.specs.ItemViews.{arm_items}
use Rattle.interp_stack.specs.StackViews.{following, on_term, standing}
use Rattle.interp_stack.specs.declared.items.Use7.{Use7}
use Rattle.interp_stack.specs.declared.items.Use7.TheVariants as use_of
use Rattle.interp_statements.specs.Choices.{followed}
use Rattle.interp_statements.proofs.Ends.{met_item, stays_item, met_as}
use Rattle.interp_statements.proofs.choices.meet_term.Goals as goal

pub returns-in-After-clause-met : goal.returns-in-After-clause-met
returns-in-After-clause-met c = λ u.
    let s = standing u c.args.control.now.items in
    let whole : Use7 → List Item = λ how. followed c.args.holds (on_term u how (term_tree c.args.term.now) s) in
    met_as u c.meet_arm.result c.meet_arm.new.control.items (followed c.args.holds (following (arm_items c.in-After.arm (term_tree c.args.term.now)) s)) (whole c.args.how) (ap whole (sym c.in-After.is)) (c.meet_arm.ensures.met u)

pub returns-in-AndThen-clause-met : goal.returns-in-AndThen-clause-met
returns-in-AndThen-clause-met c = λ u.
    let s = standing u c.args.control.now.items in
    let whole : Use7 → List Item = λ how. followed c.args.holds (on_term u how (term_tree c.args.term.now) s) in
    met_as u c.meet_and.result c.meet_and.new.control.items (followed c.args.holds (on_term u (use_of.AndThen c.in-AndThen.is_test) (term_tree c.args.term.now) s)) (whole c.args.how) (ap whole (sym c.in-AndThen.is)) (c.meet_and.ensures.met u)

pub returns-in-OrElse-clause-met : goal.returns-in-OrElse-clause-met
returns-in-OrElse-clause-met c = λ u.
    let s = standing u c.args.control.now.items in
    let whole : Use7 → List Item = λ how. followed c.args.holds (on_term u how (term_tree c.args.term.now) s) in
    met_as u c.meet_or.result c.meet_or.new.control.items (followed c.args.holds (on_term u (use_of.OrElse c.in-OrElse.is_test) (term_tree c.args.term.now) s)) (whole c.args.how) (ap whole (sym c.in-OrElse.is)) (c.meet_or.ensures.met u)

pub returns-in-Pick-clause-met : goal.returns-in-Pick-clause-met
returns-in-Pick-clause-met c = λ u.
    let s = standing u c.args.control.now.items in
    let whole : Use7 → List Item = λ how. followed c.args.holds (on_term u how (term_tree c.args.term.now) s) in
    met_as u c.meet_pick.result c.meet_pick.new.control.items (followed c.args.holds (on_term u use_of.Pick (term_tree c.args.term.now) s)) (whole c.args.how) (ap whole (sym c.in-Pick.is)) (c.meet_pick.ensures.met u)

pub returns-in-Value-clause-met : goal.returns-in-Value-clause-met
returns-in-Value-clause-met c = λ u.
    let s = standing u c.args.control.now.items in
    let family : Use7 → Type 0 = λ how. ((on_term u how (term_tree c.args.term.now) s).yes ≡ []) × ((on_term u how (term_tree c.args.term.now) s).no ≡ []) in
    met_item u c.args.holds (on_term u c.args.how (term_tree c.args.term.now) s) c.meet_item.result c.meet_item.new.control.items (subst family (sym c.in-Value.is) (refl, refl)) c.meet_item.ensures.none (c.meet_item.ensures.pushed u)

pub returns-in-Value-clause-stays : goal.returns-in-Value-clause-stays
returns-in-Value-clause-stays c = stays_item c.args.control.now.items c.meet_item.result c.meet_item.new.control.items c.meet_item.ensures.none

pub returns-in-Unused-clause-met : goal.returns-in-Unused-clause-met
returns-in-Unused-clause-met c = λ u.
    let s = standing u c.args.control.now.items in
    let family : Use7 → Type 0 = λ how. ((on_term u how (term_tree c.args.term.now) s).yes ≡ []) × ((on_term u how (term_tree c.args.term.now) s).no ≡ []) in
    met_item u c.args.holds (on_term u c.args.how (term_tree c.args.term.now) s) c.meet_item-in-Unused.result c.meet_item-in-Unused.new.control.items (subst family (sym c.in-Unused.is) (refl, refl)) c.meet_item-in-Unused.ensures.none (c.meet_item-in-Unused.ensures.pushed u)

pub returns-in-Unused-clause-stays : goal.returns-in-Unused-clause-stays
returns-in-Unused-clause-stays c = stays_item c.args.control.now.items c.meet_item-in-Unused.result c.meet_item-in-Unused.new.control.items c.meet_item-in-Unused.ensures.none

pub returns-in-Choose-clause-met : goal.returns-in-Choose-clause-met
returns-in-Choose-clause-met c = λ u.
    let s = standing u c.args.control.now.items in
    let family : Use7 → Type 0 = λ how. ((on_term u how (term_tree c.args.term.now) s).yes ≡ []) × ((on_term u how (term_tree c.args.term.now) s).no ≡ []) in
    met_item u c.args.holds (on_term u c.args.how (term_tree c.args.term.now) s) c.meet_item-in-Choose.result c.meet_item-in-Choose.new.control.items (subst family (sym c.in-Choose.is) (refl, refl)) c.meet_item-in-Choose.ensures.none (c.meet_item-in-Choose.ensures.pushed u)

pub returns-in-Choose-clause-stays : goal.returns-in-Choose-clause-stays
returns-in-Choose-clause-stays c = stays_item c.args.control.now.items c.meet_item-in-Choose.result c.meet_item-in-Choose.new.control.items c.meet_item-in-Choose.ensures.none
