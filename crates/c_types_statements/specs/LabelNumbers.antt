-- The labels of a body, known before its first statement is typed (6.2.1p3).
use Rattle.c_layout.specs.DeclarationTrees.{NameView, StatementTree, StatementTrees, Declaration, Label, Case, Default, Block, Expression, If, IfElse, Switch, While, Do, For, Goto, Continue, Break, Return, NoStatement, MoreStatements}
use Rattle.c_types_scopes.specs.Names.{number_in}
use Rattle.c_types_scopes.specs.States.{with_name}
use Rattle.c_types_statement_rules.specs.StatementRules.BodyFlow.{with_label}
use Rattle.c_types_statement_rules.specs.StatementRules.Points.{Point, point}

-- a label by its name
abbrev pub labelled : NameView → Point → Point
labelled n p = point (with_name p.state n.text) (with_label p.flow (number_in p.state.scopes.names n.text))

abbrev mutual
  -- with the labels of a statement, in reading order
  pub with_labels : StatementTree → Point → Point
  with_labels (Declaration l) p = p
  with_labels (Label name s) p = with_labels s (labelled name p)
  with_labels (Case at e s) p = with_labels s p
  with_labels (Default at s) p = with_labels s p
  with_labels (Block at ss) p = with_all_labels ss p
  with_labels (Expression at e) p = p
  with_labels (If at c s) p = with_labels s p
  with_labels (IfElse at c s t) p = with_labels t (with_labels s p)
  with_labels (Switch at e s) p = with_labels s p
  with_labels (While at c s) p = with_labels s p
  with_labels (Do at s c) p = with_labels s p
  with_labels (For at f c step s) p = with_labels s p
  with_labels (Goto at name) p = p
  with_labels (Continue at) p = p
  with_labels (Break at) p = p
  with_labels (Return at e) p = p

  pub with_all_labels : StatementTrees → Point → Point
  with_all_labels NoStatement p = p
  with_all_labels (MoreStatements s ss) p = with_all_labels ss (with_labels s p)
