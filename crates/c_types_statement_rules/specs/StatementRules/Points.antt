-- What typing knows at a statement: what it knows in the unit, and what the statement may refer to in its body.
use Rattle.c_types_scopes.specs.States.{State}
use Rattle.c_types_statement_rules.specs.StatementRules.BodyFlow.{FlowView}

pub record Point : Type 0 where
  pub state : State
  pub flow : FlowView

abbrev pub point : State → FlowView → Point
point s f = record { state = s; flow = f }
