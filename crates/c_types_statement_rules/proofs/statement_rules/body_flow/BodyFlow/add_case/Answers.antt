use Rattle.std.proofs.Common.{◌-◌, ◌∙◌, map, length, slice_set, Some, sym, ap, to_z-of_z}
use Rattle.c_types_statement_rules.specs.StatementRules.BodyFlow.{FlowView, flow_view, switch_view, added_case, with_case, added_in, case_in}
use Rattle.c_types_statement_rules.proofs.statement_rules.Switches.{innermost_is, innermost_set}
use Rattle.c_types_statement_rules.proofs.statement_rules.body_flow.BodyFlow.add_case.Goals as goal

pub returns-in_ok-add-in-Some-clause-added : goal.returns-in_ok-add-in-Some-clause-added
returns-in_ok-add-in-Some-clause-added c =
    ap Some c.in_ok-add-in-Some.ensures.added
    ∙ ap (λ n. Some (added_case (switch_view c.in-Some.open.now) n)) (to_z-of_z c.ranges.value)
    ∙ sym (ap (λ o. added_in o c.args.value) (innermost_is c.args.self.now.switches.items c.args.self.now.switches.len c.in-Some.open.now c.args.self.now.switches.ok.0 c.in-Some.ensures.item.3.0 c.in-Some.ensures.value))

pub returns-in_ok-add-in-Some-clause-after : goal.returns-in_ok-add-in-Some-clause-after
returns-in_ok-add-in-Some-clause-after c =
    let f : FlowView = flow_view c.args.self.now in
    ap (λ l. record f { switches = l }) (innermost_set c.args.self.now.switches.items c.args.self.now.switches.len c.add.new.self c.args.self.now.switches.ok.0
    ∙ ap (slice_set (map switch_view c.args.self.now.switches.items) (length (map switch_view c.args.self.now.switches.items) - 1)) (c.in_ok-add-in-Some.ensures.after ∙ ap (with_case (switch_view c.in-Some.open.now) c.args.place) (to_z-of_z c.ranges.value)))
    ∙ sym (ap (case_in f c.args.place c.args.value) (innermost_is c.args.self.now.switches.items c.args.self.now.switches.len c.in-Some.open.now c.args.self.now.switches.ok.0 c.in-Some.ensures.item.3.0 c.in-Some.ensures.value))
