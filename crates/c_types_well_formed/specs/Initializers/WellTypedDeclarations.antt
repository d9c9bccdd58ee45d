-- The law of declarations in blocks: the statements that they add are marked.
use Rattle.std.specs.Prelude.{◌≡◌, true}
use Rattle.c_layout.specs.Types.{Ty}
use Rattle.c_layout.specs.CheckedTrees.{statement_trees}
use Rattle.c_layout.specs.CheckedUnits.{FunctionView, UnitView}
use Rattle.c_layout.specs.DeclarationTrees.{LocalView}
use Rattle.c_layout.specs.declared.data_model.Model.{Model}
use Rattle.c_types_scopes.specs.States.{State}
use Rattle.c_types_statement_rules.specs.Objects.LocalObjects.{PartsView}
use Rattle.c_types_statements.specs.LocalDeclarations.{local_declaration}
use Rattle.source_preservation.specs.UnitChecks.LookedStatements.{are_well_typed_statements}
use Rattle.c_types_well_formed.specs.WellFormed.ProperStatements.{IsProperLocal}
use Rattle.c_types_well_formed.specs.Initializers.ReadyStates.{IsReady, Goes}
use Rattle.c_types_well_formed.specs.Initializers.PartLaws.{HasLaws}

-- the statements of a block of a function with some result
abbrev pub AreWellTypedParts : Ty → UnitView → PartsView → Type 0
AreWellTypedParts returns u parts = (f : FunctionView) → f.returns ≡ returns → are_well_typed_statements u f (statement_trees parts.statements) ≡ true

-- of each declaration behind some parts of a block
abbrev pub DeclarationsAreWellTyped : Type 0
DeclarationsAreWellTyped = HasLaws → (m : Model) (returns : Ty) (s : State) (l : LocalView) (parts : PartsView) → IsReady m s → IsProperLocal m l
    → Goes m s (λ (q : PartsView). Unit {0}) (λ u q. AreWellTypedParts returns u parts → AreWellTypedParts returns u q) (local_declaration s l parts)
