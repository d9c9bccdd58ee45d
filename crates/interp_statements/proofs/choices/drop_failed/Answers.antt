use Rattle.std.proofs.Common.{◌∙◌}
use Rattle.interp_statements.proofs.Lasts.{taken_target}
use Rattle.interp_statements.proofs.choices.drop_failed.Goals as goal

pub returns : goal.returns
returns c = λ u. taken_target u c.args.control.now.items c.pop.new.self.items c.pop.result c.pop.ensures.items (λ items item e. c.if-not-ends_in_target.ensures items item (c.as_slice.ensures.value ∙ e))
