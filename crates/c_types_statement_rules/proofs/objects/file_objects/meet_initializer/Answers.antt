use Rattle.std.proofs.Common.{ap, refl, true}
use Rattle.c_types_scopes.specs.DeclaredTypes.{object_view}
use Rattle.c_types_scopes.specs.States.{State, state}
use Rattle.c_types_statement_rules.specs.Objects.FileObjects.{initialized_object}
use Rattle.c_types_statement_rules.proofs.objects.InPlace.{changed_in}
use Rattle.c_types_statement_rules.proofs.objects.file_objects.meet_initializer.Goals as goal

pub returns-in-Some-clause-after : goal.returns-in-Some-clause-after
returns-in-Some-clause-after c =
    let s : State = state c.args.cx.now in
    ap (λ l. record s { objects = l }) (changed_in object_view initialized_object c.args.cx.now.objects.items c.args.index c.in-Some.object.now (record c.in-Some.object.now { initialized = true }) c.in-Some.ensures.item.3.0 c.in-Some.ensures.value refl)
