-- The objects that the switches of a function are on, in its trees and in its template.
use Rattle.std.specs.Prelude.{◌≡◌, ℕ, Bool, true, List, [], ◌∷◌, Option, Some, None, slice_get}
use Rattle.c_layout.specs.CheckedTrees as tree
use Rattle.c_layout.specs.CheckedTrees.{StatementTree, StatementTrees, statement_trees}
use Rattle.c_layout.specs.CheckedUnits.{FunctionView}
use Rattle.c_layout.specs.StructViews.{StructView}
use Rattle.cfg.specs.declared.machine_instructions.Scalar.{Scalar}
use Rattle.cfg.specs.declared.machine_instructions.Scalar.TheVariants as scalar
use Rattle.lower_templates.specs.Worklist.Pieces.{NameView, Way, Always, When, Case, Other, NoLine, Line, ExitView, PieceView, Do, DoIfUsed, End, Mark, Call, TemplateView}
use Rattle.lower_templates.specs.Worklist.Plans.{name_of_object}
use Rattle.lower_conditions.specs.Tests.{named}
use Rattle.lower_conditions.specs.declared.branch_tests.NamedObject.{NamedObject}
use Rattle.lower_functions.specs.Functions.Functions.{IsTemplate}

-- an object of an integer type is such
abbrev pub IsSuchKind : (NameView → Type 0) → NamedObject → Scalar → Type 0
IsSuchKind R o (scalar.Int kind) = R (name_of_object o.object)
IsSuchKind R o scalar.Pointer = Unit {0}

abbrev pub IsSuchObject : (NameView → Type 0) → Option NamedObject → Type 0
IsSuchObject R None = Unit {0}
IsSuchObject R (Some o) = IsSuchKind R o o.kind

abbrev mutual
  -- the objects of integer types that the switches of a statement name are such
  pub SwitchesStatement : (NameView → Type 0) → StatementTree → Type 0
  SwitchesStatement R (tree.Block objects items) = SwitchesStatements R items
  SwitchesStatement R (tree.If e body) = SwitchesStatement R body
  SwitchesStatement R (tree.IfElse e first second) = SwitchesStatement R first × SwitchesStatement R second
  SwitchesStatement R (tree.While e body) = SwitchesStatement R body
  SwitchesStatement R (tree.Do body e) = SwitchesStatement R body
  SwitchesStatement R (tree.For objects first e step body) = SwitchesStatements R first × SwitchesStatement R body
  SwitchesStatement R (tree.Switch at e labels has_default values body) = IsSuchObject R (named e) × SwitchesStatement R body
  SwitchesStatement R (tree.Case n body) = SwitchesStatement R body
  SwitchesStatement R (tree.Default body) = SwitchesStatement R body
  SwitchesStatement R (tree.Label n body) = SwitchesStatement R body
  SwitchesStatement R other = Unit {0}

  pub SwitchesStatements : (NameView → Type 0) → StatementTrees → Type 0
  SwitchesStatements R tree.NoMore = Unit {0}
  SwitchesStatements R (tree.And first rest) = SwitchesStatement R first × SwitchesStatements R rest

-- what a case names is there, and such
abbrev pub IsCaseOf : (NameView → Type 0) → List NameView → Way → Type 0
IsCaseOf R names Always = Unit {0}
IsCaseOf R names (When truth test puts) = Unit {0}
IsCaseOf R names (Case test) = (n : ℕ) → test.object ≡ Some n → (x : NameView) × (slice_get names n ≡ Some x) × R x
IsCaseOf R names (Other values) = Unit {0}
IsCaseOf R names NoLine = Unit {0}
IsCaseOf R names Line = Unit {0}

abbrev pub AreCasesOf : (NameView → Type 0) → List NameView → List ExitView → Type 0
AreCasesOf R names [] = Unit {0}
AreCasesOf R names (e ∷ es) = IsCaseOf R names e.taken × AreCasesOf R names es

abbrev pub IsPieceOf : (NameView → Type 0) → List NameView → PieceView → Type 0
IsPieceOf R names (Do s) = Unit {0}
IsPieceOf R names (DoIfUsed s) = Unit {0}
IsPieceOf R names (End s exits) = AreCasesOf R names exits
IsPieceOf R names (Mark label) = Unit {0}
IsPieceOf R names (Call c) = Unit {0}

abbrev pub ArePiecesOf : (NameView → Type 0) → List NameView → List PieceView → Type 0
ArePiecesOf R names [] = Unit {0}
ArePiecesOf R names (p ∷ ps) = IsPieceOf R names p × ArePiecesOf R names ps

-- a template switches on what its function does: what passes a test for all objects of integer types that switches of the
-- trees name passes it for all that cases of the template name
abbrev pub TemplatesSwitchAsTrees : Type 0
TemplatesSwitchAsTrees = (passes : NameView → Bool) (structs : List StructView) (pointer int_bytes : ℕ) (f : FunctionView) (is_entry : Bool) (t : TemplateView) → IsTemplate structs pointer int_bytes f is_entry t → SwitchesStatements (λ x. passes x ≡ true) (statement_trees f.body)
    → ArePiecesOf (λ x. passes x ≡ true) t.names t.pieces
