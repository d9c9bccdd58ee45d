use Rattle.std.proofs.Common.{ap, refl, true}
use Rattle.c_types_scopes.specs.DeclaredTypes.{signature_view}
use Rattle.c_types_scopes.specs.States.{State, state}
use Rattle.c_types.specs.FileScope.FunctionDeclarations.{defined_signature}
use Rattle.c_types_statement_rules.proofs.objects.InPlace.{changed_in}
use Rattle.c_types.proofs.file_scope.function_declarations.meet_definition.Goals as goal

pub returns-in-Some-clause-after : goal.returns-in-Some-clause-after
returns-in-Some-clause-after c =
    let s : State = state c.args.cx.now in
    ap (λ l. record s { functions = l }) (changed_in signature_view defined_signature c.args.cx.now.functions.items c.args.number c.in-Some.function.now (record c.in-Some.function.now { is_defined = true }) c.in-Some.ensures.item.3.0 c.in-Some.ensures.value refl)
