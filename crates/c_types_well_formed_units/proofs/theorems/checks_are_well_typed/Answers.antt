use Rattle.c_types_well_formed.specs.Initializers.PartLaws.{HasLaws}
use Rattle.c_types_well_formed_units.proofs.units.Units.{checks_well_typed}
use Rattle.c_types_well_formed_units.proofs.theorems.checks_are_well_typed.Goals as goal

pub returns : goal.returns
returns c = checks_well_typed laws c.heads_keep.ensures c.entries_take_integers.ensures c.units_have_heads.ensures
  where
    laws : HasLaws
    laws = record {
      expressions = c.expressions_are_made.ensures c.operators_make.ensures c.values_are_made.ensures c.conversions_give.ensures;
      values = c.values_are_made.ensures;
      conversions = c.conversions_give.ensures;
      unused = c.unused_is_well_typed.ensures;
      switches = c.switches_select.ensures;
      specifiers = c.specifiers_keep.ensures;
      declarators = c.declarators_keep.ensures;
    }
