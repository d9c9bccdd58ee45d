use Rattle.std.proofs.Common.{rules, ◌≡◌, ◌∷◌, ℤ, Vec, Global, ap, sym, ◌∙◌}
use mir.Val.{SFits, of_z, to_z}
use Rattle.std.specs.Int.{w128}
use Rattle.std.specs.Option.{option_map}
use Rattle.std.proofs.lemmas.Int.{to_z-of_z}
use Rattle.c_layout.specs.CheckedTrees as tree
use Rattle.c_layout.specs.CheckedTrees.{StatementTree, term_tree, statement_tree}
use Rattle.c_layout.specs.CheckedUnits.{unit_view}
use Rattle.c_layout.specs.declared.checked_tree.checked_statements.CheckedStatement as of_statement
use Rattle.lower_conditions.specs.Tests.{named}
use Rattle.memory_model.specs.Effects.Worlds.{Reply, behind}
use Rattle.interp_memory.specs.ByteViews.{scalar_view, labels_view}
use Rattle.interp_accesses.specs.WorldViews.{world_view}
use Rattle.semantics.specs.SourceMachine.BranchSteps.{on_case, land}
use Rattle.interp_memory.specs.declared.byte_forms.Value7.TheVariants as value
use Rattle.semantics.specs.SourceMachine.LabelSearch.{case_of}
use Rattle.semantics.specs.SourceMachine.SourceStates.{State}
use Rattle.semantics.specs.SourceMachine.SourceSteps.{turn_by}
use Rattle.interp_stack.specs.StackViews.{on_statement, standing}
use Rattle.interp_stack.specs.declared.items.Way7.TheVariants as way
use Rattle.interp_steps.specs.Operations.Pending.{pending}
use Rattle.interp_statements.specs.LabelViews.{sought_view}
use Rattle.interp_steps.specs.MachineItems.MachineViews.{state_view}
use Rattle.interp.proofs.machine.Selected.{selects_by, selected}
use Rattle.interp_steps.proofs.machine_items.ToldTurns.{moves_same}
use Rattle.interp.proofs.machine.branch_turns.select.Goals as goal

pub returns-in_ok-on_case-in-Int : goal.returns-in_ok-on_case-in-Int
returns-in_ok-on_case-in-Int c =
    let u = unit_view c.args.unit.now in
    let s = state_view u c.args.m.now in
    let st = standing u c.args.m.now.control.items in
    let whole : StatementTree → Reply State = λ x. (turn_by u s (on_statement way.Select x st).items).reply in
    let e = term_tree c.in-Switch.switched in
    let labels = c.in-Switch.labels.items in
    let body = statement_tree c.deref.result.now in
    let seen = tree.Switch c.in-Switch.field-0 e labels c.in-Switch.field-3 (option_map (λ (v : Vec ℤ Global). v.items) c.in-Switch.field-4) body in
    let is : statement_tree c.args.statement.now ≡ seen = search (rules, of_statement.the_lemmas) in
    let n = c.in-Int.value in
    let fits : SFits w128 n = search rules in
    let back : to_z w128 (of_z w128 n) ≡ n = to_z-of_z w128 n fits in
    let l = sought_view c.case_of-sought.result in
    let rest = pending c.pop_value.new.values.items in
    let below = record s { values = rest } in
    let popped : pending c.args.m.now.values.items ≡ scalar_view (value.Int n c.in-Int.field-1) ∷ rest = c.in_ok-pop_value-in-Switch.ensures ∙ ap (λ v. scalar_view v ∷ rest) c.in-Int.is in
    let by : whole seen ≡ behind (on_case u (named e) l n below) (λ t w. land u body l t) =
    selects_by u (named e) labels body s (pending c.args.m.now.values.items) rest n (labels_view c.in-Int.field-1) l popped (c.case_of-sought.ensures ∙ ap (case_of c.as_slice.result.now 0) back ∙ ap (λ ls. case_of ls 0 n) c.as_slice.ensures.value) in
    moves_same u (behind (on_case u (named e) l n below) (λ t w. land u body l t)) (whole (statement_tree c.args.statement.now)) c.land.result c.land.new.m (sym (ap whole is ∙ by))
    (selected u (named e) body below (state_view u c.on_case.new.m) n l (world_view c.on_case.new.m.world) c.land.result c.land.new.m (ap (λ k. on_case u (named e) l k below) (sym back) ∙ c.in_ok-on_case-in-Int.ensures) (c.land.ensures u))
