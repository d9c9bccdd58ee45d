-- What typing makes of bodies is marked.
use Rattle.std.proofs.Common.{ℕ, Ok, Err, refl}
use Rattle.c_types_scopes.specs.Refusals.{Ruled}
use Rattle.c_types_statement_rules.specs.Objects.LocalObjects.{PartsView}
use Rattle.c_types_statement_rules.specs.StatementRules.BodyFlow.{no_flow}
use Rattle.c_types_statement_rules.specs.StatementRules.Points.{Point, point}
use Rattle.c_types_statement_rules.specs.StatementRules.StatementNodes.{no_parts}
use Rattle.c_types_statements.specs.LocalDeclarations.{local_declaration}
use Rattle.c_types_statements.specs.Statements.{items}
use Rattle.c_types.specs.Units.FunctionDefinitions.{before_body, counted}
use Rattle.c_types_well_formed.specs.Initializers.ReadyStates.{Goes}
use Rattle.c_types_well_formed.specs.Initializers.WellTypedDeclarations.{AreWellTypedParts}
use Rattle.c_types_well_formed.specs.Statements.WellTypedBodies.{BodiesAreWellTyped}
use Rattle.c_types_well_formed.proofs.statements.Stating.{Stands, IsLabelled, items_come, all_labels_come}

pub bodies_are_well_typed : BodiesAreWellTyped
bodies_are_well_typed laws m s h ts ready result proper = of_items (items local_declaration (before_body h ts s) no_parts ts) (items_come laws m h.declared.ctype result ts (before_body h ts s) no_parts labelled.0 labelled.1 proper)
  where
    labelled : IsLabelled laws m h.declared.ctype result s (before_body h ts s)
    labelled = all_labels_come laws m h.declared.ctype result ts (point s (no_flow h.declared.ctype)) ready refl

    of_items : (r : Ruled (PartsView × Point)) → Stands laws m h.declared.ctype result (before_body h ts s).state no_parts r → Goes m s (λ (b : PartsView × ℕ). Unit {0}) (λ u b. AreWellTypedParts h.declared.ctype u b.0) (counted r)
    of_items (Ok p) g = (g.0, tt, λ u part. (let a = g.2 u part in (labelled.2 u a.0, a.1 (λ f same. refl))))
    of_items (Err f) g = tt
