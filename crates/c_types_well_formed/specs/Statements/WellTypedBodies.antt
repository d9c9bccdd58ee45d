-- The law of bodies: what typing makes of their statements is marked.
use Rattle.std.specs.Prelude.{ℕ}
use Rattle.c_layout.specs.DeclarationTrees.{StatementTrees}
use Rattle.c_layout.specs.declared.data_model.Model.{Model}
use Rattle.c_types_scopes.specs.States.{State}
use Rattle.c_types_declarations.specs.FunctionHeads.{HeadView}
use Rattle.c_types_statement_rules.specs.Objects.LocalObjects.{PartsView}
use Rattle.c_types.specs.Units.FunctionDefinitions.{body_parts}
use Rattle.c_types_well_formed.specs.WellFormed.ModelTypes.{IsTypeOf}
use Rattle.c_types_well_formed.specs.WellFormed.ProperStatements.{AreProperStatements}
use Rattle.c_types_well_formed.specs.Initializers.ReadyStates.{IsReady, Goes}
use Rattle.c_types_well_formed.specs.Initializers.PartLaws.{HasLaws}
use Rattle.c_types_well_formed.specs.Initializers.WellTypedDeclarations.{AreWellTypedParts}

-- of each body whose function gives no value or one of a type of the data model
abbrev pub BodiesAreWellTyped : Type 0
BodiesAreWellTyped = HasLaws → (m : Model) (s : State) (h : HeadView) (ts : StatementTrees) → IsReady m s → IsTypeOf m h.declared.ctype → AreProperStatements m ts → Goes m s (λ (b : PartsView × ℕ). Unit {0}) (λ u b. AreWellTypedParts h.declared.ctype u b.0) (body_parts h ts s)
