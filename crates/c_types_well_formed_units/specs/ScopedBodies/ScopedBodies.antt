-- What stands in a block makes new objects, and names what lives.
use Rattle.std.specs.Prelude.{◌≡◌, ◌<◌, ◌≤◌, ◌⊎◌, ℕ, true, List, ◌++◌, Ok, Err}
use Rattle.c_layout.specs.Types.{Ty}
use Rattle.c_layout.specs.CheckedTrees.{StatementTree, statement_trees}
use Rattle.c_layout.specs.CheckedUnits.{FunctionView}
use Rattle.c_layout.specs.DeclarationTrees.{StatementTrees}
use Rattle.c_types_scopes.specs.Refusals.{Ruled}
use Rattle.c_types_scopes.specs.States.{State}
use Rattle.c_types_statement_rules.specs.Objects.LocalObjects.{PartsView}
use Rattle.c_types_statement_rules.specs.StatementRules.Points.{Point}
use Rattle.c_types_statements.specs.LocalDeclarations.{local_declaration}
use Rattle.c_types_statements.specs.Statements.{items}
use Rattle.semantics.specs.SourceMachine.Scopes.{is_in}
use Rattle.source_preservation.specs.UnitChecks.LookedScopes.{are_scoped_statements}
use Rattle.source_items.specs.Returns.EndedObjects.{AreAmong}
use Rattle.c_types_well_formed_units.specs.Scoped.BlockDeclarations.{DeclareInBlocks}
use Rattle.c_types_well_formed_units.specs.Scoped.SeenObjects.{SeesAt, Follows, count}

-- what lives was there before a step, or comes behind it, or is new in it
abbrev pub Apart : List ℕ → ℕ → ℕ → List ℕ → Type 0
Apart alive few many new = (k : ℕ) → is_in k alive ≡ true → (k < few) ⊎ ((many ≤ k) ⊎ (is_in k new ≡ true))

-- what stands in a scope behind some parts: new objects, and statements in which they live
pub record Adds (s t : State) (returned : Ty) (parts more : PartsView) : Type 0 where
  pub new : List ℕ
  pub made : List StatementTree
  pub follows : Follows s t new
  pub objects : more.objects ≡ parts.objects ++ new
  pub statements : more.statements ≡ parts.statements ++ made
  pub scoped : (f : FunctionView) → f.returns ≡ returned → (alive : List ℕ) → AreAmong new alive → SeesAt alive s → Apart alive (count s) (count t) new → are_scoped_statements f alive (statement_trees made) ≡ true

-- items stand in a scope behind some parts
abbrev pub Itemized : Point → PartsView → Ruled (PartsView × Point) → Type 0
Itemized p parts (Ok v) = (v.1.flow.returns ≡ p.flow.returns) × Adds p.state v.1.state p.flow.returns parts v.0
Itemized p parts (Err f) = Unit {0}

-- the items of a block whose statements declare nothing but in blocks
abbrev pub BodiesAreScoped : Type 0
BodiesAreScoped = (p : Point) (parts : PartsView) (ts : StatementTrees) → DeclareInBlocks ts → Itemized p parts (items local_declaration p parts ts)
