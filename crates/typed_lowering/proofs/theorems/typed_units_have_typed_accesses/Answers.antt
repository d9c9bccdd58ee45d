use Rattle.typed_lowering.proofs.units.TypedUnits.{Laws, typed_units, looped_units}
use Rattle.typed_lowering.proofs.theorems.typed_units_have_typed_accesses.Goals as goal

pub returns : goal.returns
returns c =
    let laws : Laws = record {
      regular = c.functions_are_regular.ensures;
      labelled = c.functions_are_labelled.ensures;
      marked = c.labels_are_marked_below.ensures;
      calm = c.looped_templates_are_calm.ensures;
      low = c.well_formed_programs_are_low.ensures;
      typed = c.typed_works_make_typed_templates.ensures c.works_are_typed.ensures c.types_stand_where_they_begin.ensures;
      normalized = c.normalized_templates_are_typed.ensures;
      normalized_calm = c.normalized_templates_are_calm.ensures;
      own_types = c.short_types_are_own.ensures;
      own_locals = c.looped_locals_are_own.ensures;
      objects = c.typed_objects_are_typed.ensures;
      inlined = c.typed_names_make_typed_inlinings.ensures c.names_are_typed.ensures;
      first = c.first_objects_are_typed.ensures;
      programs = c.typed_programs_have_typed_accesses.ensures;
    } in
    record { plain = typed_units laws; looped = looped_units laws }
