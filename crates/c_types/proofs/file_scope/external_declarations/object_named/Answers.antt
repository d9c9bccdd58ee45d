use Rattle.std.proofs.Common.{◌∙◌, ℕ, sym}
use Rattle.c_layout.specs.DeclarationTrees.{name_view}
use Rattle.c_types_scopes.specs.DeclaredTypes.{declared_view}
use Rattle.c_types_scopes.specs.States.{state}
use Rattle.c_types.proofs.file_scope.Names.{named}
use Rattle.c_types.proofs.file_scope.external_declarations.object_named.Goals as goal

pub returns : goal.returns
returns c = named (λ (n : ℕ). n) (name_view c.args.name.now) (declared_view c.args.declared) (state c.args.cx.now) (state c.name.new.self) (state c.object_by.new.cx) c.in_ok-known.known c.object_by.result (sym c.is_library_name.ensures ∙ c.if-is_library_name.false) c.in_ok-known.ensures.number c.in_ok-known.ensures.after c.object_by.ensures
