use Rattle.std.proofs.Common.{ap, ◌∙◌}
use Rattle.c_lexer.specs.Splicing.{is_no_cell}
use Rattle.c_lexer.proofs.Splices.{empty_tells}
use Rattle.c_lexer.proofs.splicing.Cursor.is_empty.Goals as goal

pub returns : goal.returns
returns c = c.is_empty.ensures ∙ (empty_tells c.self.inside.line c.self.inside.column _ c.self.invariant.0 ∙ ap is_no_cell c.self.view_is)
