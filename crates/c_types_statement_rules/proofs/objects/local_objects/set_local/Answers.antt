use Rattle.std.proofs.Common.{ap, refl}
use Rattle.c_layout.specs.Types as types
use Rattle.c_layout.specs.CheckedUnits.{local_view}
use Rattle.c_types_scopes.specs.States.{State, state}
use Rattle.c_types_statement_rules.specs.Objects.LocalObjects.{typed_local}
use Rattle.c_types_statement_rules.proofs.objects.InPlace.{changed_in}
use Rattle.c_types_statement_rules.proofs.objects.local_objects.set_local.Goals as goal

pub returns-in-Some : goal.returns-in-Some
returns-in-Some c =
    let s : State = state c.args.cx.now in
    ap (λ l. record s { body = record s.body { locals = l } }) (changed_in local_view (typed_local (types.view c.args.ctype)) c.args.cx.now.body.locals.items c.args.number c.in-Some.object.now (record c.in-Some.object.now { ctype = c.args.ctype }) c.in-Some.ensures.item.3.0 c.in-Some.ensures.value refl)
