-- The laws of the rules of typing: of what is made they make what is made.
use Rattle.std.specs.Prelude.{◌≡◌, ℕ, true, false, Option, Some, None}
use Rattle.cc_base.specs.declared.diagnostics.Place.{Place}
use Rattle.cc_base.specs.declared.int_types.IntType.{IntType}
use Rattle.c_layout.specs.Types.{Ty, Int}
use Rattle.c_layout.specs.CheckedTrees.{TermTree}
use Rattle.c_layout.specs.CheckedUnits.{UnitView}
use Rattle.c_layout.specs.declared.checked_tree.checked_terms.StepTime.{StepTime}
use Rattle.c_layout.specs.declared.syntax_tree.expressions.AssignOp.{AssignOp}
use Rattle.c_layout.specs.declared.syntax_tree.expressions.BinaryOp.{BinaryOp}
use Rattle.c_layout.specs.declared.syntax_tree.expressions.LogicalOp.{LogicalOp}
use Rattle.c_layout.specs.declared.syntax_tree.expressions.StepOp.{StepOp}
use Rattle.c_layout.specs.declared.syntax_tree.expressions.UnaryOp.{UnaryOp}
use Rattle.c_types_rules.specs.Rules.IntegerKinds.{promoted}
use Rattle.c_types_scopes.specs.Known.{Known}
use Rattle.c_types_operands.specs.Operands.{OperandView, parenthesized, term_of, term_type}
use Rattle.c_types_operands.specs.Comparisons.{binary}
use Rattle.c_types_operands.specs.Conversions.{assigned, integer_as, unused}
use Rattle.c_types_operands.specs.Indirections.{indirection, subscript}
use Rattle.c_types_operators.specs.Assignments.{assignment}
use Rattle.c_types_operators.specs.Choices.{logical, conditional, comma}
use Rattle.c_types_operators.specs.SizesAndCasts.{size_of_operand, size_of_type, cast}
use Rattle.c_types_operators.specs.UnaryOperators.{unary, step}
use Rattle.lower_conditions.specs.Tests.{named}
use Rattle.source_preservation.specs.Checks.LookedTerms.{is_well_typed_term}
use Rattle.source_preservation.specs.UnitChecks.LookedStatements.{selects_by}
use Rattle.c_types_well_formed.specs.WellFormed.ModelTypes.{IsTypeOf, IsGround}
use Rattle.c_types_well_formed.specs.WellFormed.MadeTerms.{IsMade, IsMadeOperand, Makes, Gives}

-- the rules of operators
pub record OperatorsMakeFor (u : UnitView) (k : Known) : Type 0 where
  pub parenthesized : (x : OperandView) → IsMadeOperand u x → IsMadeOperand u (parenthesized x)
  pub binary : (at : Place) (op : BinaryOp) (x y : OperandView) → IsMadeOperand u x → IsMadeOperand u y → Makes u (binary k at op x y)
  pub indirection : (at : Place) (x : OperandView) → IsMadeOperand u x → Makes u (indirection k at (term_of x))
  pub subscript : (at : Place) (x y : OperandView) → IsMadeOperand u x → IsMadeOperand u y → Makes u (subscript k at x y)
  pub unary : (at : Place) (op : UnaryOp) (x : OperandView) → IsMadeOperand u x → Makes u (unary k at op x)
  pub step : (at : Place) (op : StepOp) (time : StepTime) (x : OperandView) → IsMadeOperand u x → Makes u (step k at op time x)
  pub size_of_operand : (at : Place) (x : OperandView) → Makes u (size_of_operand k at x)
  pub size_of_type : (at : Place) (t : Ty) → Makes u (size_of_type k at t)
  pub cast : (at : Place) (t : Ty) (x : OperandView) → IsTypeOf u.model t → IsMadeOperand u x → Makes u (cast k at t x)
  pub logical : (at : Place) (op : LogicalOp) (x y : OperandView) → IsMadeOperand u x → IsMadeOperand u y → Makes u (logical k at op x y)
  pub conditional : (at : Place) (x y z : OperandView) → IsMadeOperand u x → IsMadeOperand u y → IsMadeOperand u z → Makes u (conditional k at x y z)
  pub comma : (at : Place) (x y : OperandView) → IsMadeOperand u x → IsMadeOperand u y → IsMadeOperand u (comma at x y)
  pub assignment : (at : Place) (op : AssignOp) (x y : OperandView) → IsMadeOperand u x → IsMadeOperand u y → Makes u (assignment k at op x y)

abbrev pub OperatorsMake : Type 0
OperatorsMake = (u : UnitView) (k : Known) → IsGround u k → OperatorsMakeFor u k

-- the value of an operand
abbrev pub ValuesAreMade : Type 0
ValuesAreMade = (u : UnitView) (k : Known) → IsGround u k → (x : OperandView) → IsMadeOperand u x → IsMade u (term_of x)

-- what is assigned, passed or returned has the type that it is converted to
abbrev pub ConversionsGive : Type 0
ConversionsGive = (u : UnitView) (k : Known) → IsGround u k → (at : Place) (e : TermTree) (to : Ty) → IsMade u e → IsTypeOf u.model to → Gives u to (assigned k at e to)

-- a term whose value is not used
abbrev pub UnusedIsWellTyped : Type 0
UnusedIsWellTyped = (u : UnitView) (k : Known) → IsGround u k → (e : TermTree) → IsMade u e → is_well_typed_term u false (unused e) ≡ true

-- what a switch selects by
abbrev pub SwitchesSelect : Type 0
SwitchesSelect = (u : UnitView) (k : Known) → IsGround u k → (e : TermTree) (kind : IntType) → IsMade u e → term_type e ≡ Int kind → selects_by u (integer_as k e (promoted k.numbers kind)) (named (integer_as k e (promoted k.numbers kind))) ≡ true
