-- What typing of expressions makes and keeps, where its rules make what is made.
use Rattle.c_layout.specs.SyntaxTrees.{Tree}
use Rattle.c_types_scopes.specs.States.{State}
use Rattle.c_types_expressions.specs.Expressions.Expressions.{length}
use Rattle.c_types_well_formed.specs.WellFormed.KnownTypes.{HasTypes}
use Rattle.c_types_well_formed.specs.WellFormed.MadeLaws.{OperatorsMake, ValuesAreMade, ConversionsGive}
use Rattle.c_types_well_formed.specs.WellFormed.ProperTrees.{IsProperTree}
use Rattle.c_types_well_formed.specs.WellFormed.TypingLaws.{LeadsOn, ExpressionsAreMade}

abbrev pub RulesMakeExpressions : Type 0
RulesMakeExpressions = OperatorsMake → ValuesAreMade → ConversionsGive → ExpressionsAreMade

-- the lengths of arrays
abbrev pub LengthsKeep : Type 0
LengthsKeep = (s : State) (e : Tree) → HasTypes s → IsProperTree s.known.numbers e → LeadsOn s (λ n t. Unit {0}) (length s e)
