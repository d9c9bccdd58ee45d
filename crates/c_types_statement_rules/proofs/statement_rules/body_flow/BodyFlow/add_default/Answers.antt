use Rattle.std.proofs.Common.{◌-◌, ◌∙◌, true, sym, ap}
use Rattle.c_types_statement_rules.specs.StatementRules.BodyFlow.{FlowView, flow_view, defaulted_in}
use Rattle.c_types_statement_rules.proofs.statement_rules.Switches.{innermost_is, innermost_set}
use Rattle.c_types_statement_rules.proofs.statement_rules.body_flow.BodyFlow.add_default.Goals as goal

pub returns-in-Some-clause-after : goal.returns-in-Some-clause-after
returns-in-Some-clause-after c =
    let f : FlowView = flow_view c.args.self.now in
    ap (λ l. record f { switches = l }) (innermost_set c.args.self.now.switches.items c.args.self.now.switches.len (record c.in-Some.open.now { has_default = true }) c.args.self.now.switches.ok.0)
    ∙ sym (ap (defaulted_in f) (innermost_is c.args.self.now.switches.items c.args.self.now.switches.len c.in-Some.open.now c.args.self.now.switches.ok.0 c.in-Some.ensures.item.3.0 c.in-Some.ensures.value))
