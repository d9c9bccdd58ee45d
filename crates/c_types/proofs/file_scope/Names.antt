-- Objects by their names.
use Rattle.std.proofs.Common.{◌≡◌, ◌∙◌, ℕ, false, cond, Result, sym, ap}
use Rattle.cc_base.specs.declared.refusals.Stop.{Stop}
use Rattle.c_layout.specs.DeclarationTrees.{NameView}
use Rattle.c_types_scopes.specs.Answers.{Leads}
use Rattle.c_types_scopes.specs.DeclaredTypes.{DeclaredView}
use Rattle.c_types_scopes.specs.Names.{number_in}
use Rattle.c_types_scopes.specs.Refusals.{redeclared}
use Rattle.c_types_scopes.specs.States.{State, with_name}
use Rattle.c_types_declarations.specs.Specifiers.{is_library_name}
use Rattle.c_types_statements.proofs.Steps.{as_well}
use Rattle.c_types.specs.FileScope.ExternalDeclarations as spec

-- an object whose name is none of the library
pub named : {A : Type 0} (view : A → ℕ) (n : NameView) (d : DeclaredView) (s s1 s2 : State) (name : ℕ) (result : Result A Stop)
    → is_library_name n.text ≡ false → name ≡ number_in s.scopes.names n.text → s1 ≡ with_name s n.text
    → Leads view (spec.object_by name n d s1) result s2 → Leads view (spec.object_named n d s) result s2
named view n d s s1 s2 name result free number met h =
    as_well view (spec.object_by name n d s1) (spec.object_named n d s) result s2
    (ap (λ b. cond b (redeclared n.at) (spec.object_by (number_in s.scopes.names n.text) n d (with_name s n.text))) free
    ∙ ap (λ m. spec.object_by m n d (with_name s n.text)) (sym number)
    ∙ ap (spec.object_by name n d) (sym met)) h
