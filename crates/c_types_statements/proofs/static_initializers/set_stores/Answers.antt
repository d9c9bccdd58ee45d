use Rattle.std.proofs.Common.{ap, refl}
use Rattle.c_layout.specs.CheckedUnits.{static_view}
use Rattle.c_types_scopes.specs.States.{State, state}
use Rattle.c_types_initializers.specs.StaticStores.{stores_view}
use Rattle.c_types_statement_rules.proofs.objects.InPlace.{changed_in}
use Rattle.c_types_statements.specs.StaticInitializers.{stored_static}
use Rattle.c_types_statements.proofs.static_initializers.set_stores.Goals as goal

pub returns-in-Some : goal.returns-in-Some
returns-in-Some c =
    let s : State = state c.args.cx.now in
    ap (λ l. record s { statics = l }) (changed_in static_view (stored_static (stores_view c.args.stores)) c.args.cx.now.statics.items c.args.number c.in-Some.object.now (record c.in-Some.object.now { stores = c.args.stores }) c.in-Some.ensures.item.3.0 c.in-Some.ensures.value refl)
