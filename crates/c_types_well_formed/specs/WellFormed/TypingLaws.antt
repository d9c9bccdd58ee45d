-- The laws of typing: what it makes is marked in each unit that comes of it, and what it knows has types of the data model.
use Rattle.std.specs.Prelude.{◌≡◌, true, Ok, Err}
use Rattle.c_layout.specs.SyntaxTrees.{Tree}
use Rattle.c_layout.specs.CheckedUnits.{UnitView}
use Rattle.c_types_scopes.specs.Refusals.{Ruled}
use Rattle.c_types_scopes.specs.States.{State, is_evaluated}
use Rattle.c_types_operands.specs.Operands.{OperandView}
use Rattle.c_types_expressions.specs.Expressions.Expressions.{typed}
use Rattle.c_types_well_formed.specs.WellFormed.MadeTerms.{IsMadeOperand}
use Rattle.c_types_well_formed.specs.WellFormed.KnownTypes.{HasTypes}
use Rattle.c_types_well_formed.specs.WellFormed.UnitParts.{IsPartOf}
use Rattle.c_types_well_formed.specs.WellFormed.ProperTrees.{IsProperTree}

-- a step of typing
pub record Keeps (s t : State) : Type 0 where
  pub model : t.known.numbers ≡ s.known.numbers
  pub unevaluated : t.unevaluated ≡ s.unevaluated
  pub types : HasTypes t
  pub parts : (u : UnitView) → IsPartOf t u → IsPartOf s u

-- what a step leads to, where it does not refuse
abbrev pub LeadsOn : {V : Type 0} → State → (V → State → Type 0) → Ruled (V × State) → Type 0
LeadsOn s P (Ok p) = Keeps s p.1 × P p.0 p.1
LeadsOn s P (Err f) = Unit {0}

abbrev pub MakesOperand : OperandView → State → Type 0
MakesOperand o t = (u : UnitView) → IsPartOf t u → IsMadeOperand u o

-- of an expression that is evaluated
abbrev pub ExpressionsAreMade : Type 0
ExpressionsAreMade = (s : State) (e : Tree) → HasTypes s → is_evaluated s ≡ true → IsProperTree s.known.numbers e → LeadsOn s MakesOperand (typed s e)

-- of any expression
abbrev pub ExpressionsKeep : Type 0
ExpressionsKeep = (s : State) (e : Tree) → HasTypes s → IsProperTree s.known.numbers e → LeadsOn s (λ o t. Unit {0}) (typed s e)
