use Rattle.std.proofs.Common.{ap, refl}
use Rattle.c_types_scopes.specs.DeclaredTypes.{declared_view, signature_view}
use Rattle.c_types_scopes.specs.States.{State, state}
use Rattle.c_types_statement_rules.proofs.objects.InPlace.{changed_in}
use Rattle.c_types.specs.FileScope.FunctionDeclarations.{resulting_signature}
use Rattle.c_types.proofs.file_scope.function_declarations.give_result.Goals as goal

pub returns-in-Some : goal.returns-in-Some
returns-in-Some c =
    let s : State = state c.args.cx.now in
    ap (λ l. record s { functions = l }) (changed_in signature_view (resulting_signature (declared_view c.args.declared)) c.args.cx.now.functions.items c.args.number c.in-Some.function.now (record c.in-Some.function.now { result = c.args.declared }) c.in-Some.ensures.item.3.0 c.in-Some.ensures.value refl)
