use Rattle.std.proofs.Common.{◌<◌, length, subst, sym, ap, ◌∙◌}
use Rattle.c_lexer.specs.Splicing.{place_of}
use Rattle.c_lexer.proofs.Splices.{some_left, place_is}
use Rattle.c_lexer.proofs.splicing.Cursor.place.Goals as goal

pub returns : goal.returns
returns c = place_is c.args.file c.self.inside.line c.self.inside.column _ c.self.invariant.0
    (some_left c.self.inside.line c.self.inside.column _ (subst (λ v. 0 < length v) (sym c.self.view_is) c.requires)) ∙ ap (place_of c.args.file) c.self.view_is
