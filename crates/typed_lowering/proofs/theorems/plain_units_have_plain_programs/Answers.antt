use Rattle.typed_lowering.proofs.plain_programs.PlainPrograms.{plain_flow}
use Rattle.typed_lowering.proofs.theorems.plain_units_have_plain_programs.Goals as goal

pub returns : goal.returns
returns c =
    λ u limits flow o plain. plain_flow
    (record {
      suit = c.regular_functions_suit.ensures;
      regular = c.functions_are_regular.ensures;
      labelled = c.functions_are_labelled.ensures;
      marked = c.labels_are_marked_below.ensures;
      lead = c.templates_lead_on.ensures;
    })
    u limits flow o plain
