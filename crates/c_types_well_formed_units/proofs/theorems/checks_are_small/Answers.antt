use Rattle.c_types_well_formed.specs.Initializers.PartLaws.{HasLaws}
use Rattle.c_types_well_formed_units.proofs.sizes.Units.{checks_small}
use Rattle.c_types_well_formed_units.proofs.theorems.checks_are_small.Goals as goal

pub returns : goal.returns
returns c = checks_small laws c.heads_keep.ensures
  where
    laws : HasLaws
    laws = record {
      expressions = c.expressions_are_made.ensures c.operators_make.ensures c.values_are_made.ensures c.conversions_give.ensures;
      values = c.values_are_made.ensures;
      conversions = c.conversions_give.ensures;
      unused = c.unused_is_well_typed.ensures;
      switches = c.switches_select.ensures;
      specifiers = c.specifiers_keep.ensures;
      declarators = c.declarators_keep.ensures;
    }
