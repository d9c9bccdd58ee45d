use Rattle.std.proofs.Common.{◌∙◌, ap}
use Rattle.cfg.specs.Nearest.{not_among, nearest_of}
use Rattle.cfg.proofs.Nearest.{chosen_are}
use Rattle.cfg.proofs.threshold_choice.chosen.Goals as goal

pub returns-clause-exact : goal.returns-clause-exact
returns-clause-exact c =
    chosen_are c.args.limits.items c.args.numbers.now c.in_ok-without_limits.field-0.items c.ordered-others.result.items c.nearest.result.now c.extend_from_slice.new.self.items c.ordered.result.items
    (c.in_ok-without_limits.ensures ∙ ap (λ l. not_among l c.args.numbers.now) c.as_slice.ensures.value)
    c.ordered-others.ensures.ascending
    c.ordered-others.ensures.kept
    c.ordered-others.ensures.made
    (c.nearest.ensures.value ∙ ap nearest_of c.as_slice-2.ensures.value)
    c.in_ok-extend_from_slice.ensures.items
    c.ordered.ensures.kept
    c.ordered.ensures.made
