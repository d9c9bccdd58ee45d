use Rattle.std.proofs.Common.{ap}
use Rattle.c_layout.specs.CheckedUnits.{static_view}
use Rattle.c_types_scopes.specs.States.{state}
use Rattle.c_types_statement_rules.specs.Objects.UnitObjects.{with_statics, completed_object}
use Rattle.c_types_statement_rules.proofs.objects.InPlace.{changed_in}
use Rattle.c_types_statement_rules.proofs.objects.unit_objects.complete_at.Goals as goal

pub returns-in-Some : goal.returns-in-Some
returns-in-Some c = ap (with_statics (state c.args.cx.now)) (changed_in static_view completed_object c.args.cx.now.statics.items c.args.at c.in-Some.object.now c.complete.new.object c.in-Some.ensures.item.3.0 c.in-Some.ensures.value c.complete.ensures)
