-- The rules of operators make what is made of what is made.
use Rattle.c_types_operands.specs.Operands.{term_of}
use Rattle.c_types_well_formed.specs.WellFormed.MadeLaws.{OperatorsMake}
use Rattle.c_types_well_formed.proofs.operators.MadeAssignments.{assignment_made}
use Rattle.c_types_well_formed.proofs.operators.MadeChoices.{logical_made, conditional_made, comma_made}
use Rattle.c_types_well_formed.proofs.rules.MadeComparisons.{binary_made}
use Rattle.c_types_well_formed.proofs.operators.MadeSizes.{operand_size_made, type_size_made, cast_made}
use Rattle.c_types_well_formed.proofs.rules.MadeSums.{indirection_made, subscript_made}
use Rattle.c_types_well_formed.proofs.operators.MadeUnary.{step_made, unary_made}
use Rattle.c_types_well_formed.proofs.rules.MadeValues.{value_made, parenthesized_made}

pub operators_make : OperatorsMake
operators_make u k ground = record {
  parenthesized = λ x made. parenthesized_made u k ground x made;
  binary = λ at op x y p q. binary_made u k ground at op x y p q;
  indirection = λ at x made. indirection_made u k ground at (term_of x) (value_made u k ground x made);
  subscript = λ at x y p q. subscript_made u k ground at x y p q;
  unary = λ at op x made. unary_made u k ground at op x made;
  step = λ at op time x made. step_made u k ground at op time x made;
  size_of_operand = λ at x. operand_size_made u k ground at x;
  size_of_type = λ at t. type_size_made u k ground at t;
  cast = λ at t x known made. cast_made u k ground at t x known made;
  logical = λ at op x y p q. logical_made u k ground at op x y p q;
  conditional = λ at x y z p q r. conditional_made u k ground at x y z p q r;
  comma = λ at x y p q. comma_made u k ground at x y p q;
  assignment = λ at op x y p q. assignment_made u k ground at op x y p q;
}
