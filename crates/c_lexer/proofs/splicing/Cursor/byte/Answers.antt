use Rattle.std.proofs.Common.{◌<◌, length, subst, sym, ap, ◌∙◌}
use Rattle.c_lexer.specs.Splicing.{first_byte}
use Rattle.c_lexer.proofs.Splices.{some_left, byte_is}
use Rattle.c_lexer.proofs.splicing.Cursor.byte.Goals as goal

pub bounds-self-inside-0 : goal.bounds-self-inside-0
bounds-self-inside-0 c = some_left c.self.inside.line c.self.inside.column _ (subst (λ v. 0 < length v) (sym c.self.view_is) c.requires)

pub returns : goal.returns
returns c = byte_is c.self.inside.line c.self.inside.column _ c.self.invariant.0
    (some_left c.self.inside.line c.self.inside.column _ (subst (λ v. 0 < length v) (sym c.self.view_is) c.requires)) ∙ ap first_byte c.self.view_is
