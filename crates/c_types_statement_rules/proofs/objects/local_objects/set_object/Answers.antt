use Rattle.std.proofs.Common.{ap, refl}
use Rattle.c_layout.specs.Types as types
use Rattle.c_types_scopes.specs.DeclaredTypes.{object_view}
use Rattle.c_types_scopes.specs.States.{State, state}
use Rattle.c_types_statement_rules.specs.Objects.LocalObjects.{typed_object}
use Rattle.c_types_statement_rules.proofs.objects.InPlace.{changed_in}
use Rattle.c_types_statement_rules.proofs.objects.local_objects.set_object.Goals as goal

pub returns-in-Some : goal.returns-in-Some
returns-in-Some c =
    let s : State = state c.args.cx.now in
    ap (λ l. record s { objects = l }) (changed_in object_view (typed_object (types.view c.args.ctype)) c.args.cx.now.objects.items c.args.index c.in-Some.object.now (record c.in-Some.object.now { declared = record c.in-Some.object.now.declared { ctype = c.args.ctype } }) c.in-Some.ensures.item.3.0 c.in-Some.ensures.value refl)
