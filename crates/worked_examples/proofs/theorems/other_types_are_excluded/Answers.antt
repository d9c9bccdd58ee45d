use Rattle.worked_examples.proofs.typed_unit.ExcludedPointers.{untyped, ends_point, none_behind, parts_point, null_points}
use Rattle.worked_examples.proofs.theorems.other_types_are_excluded.Goals as goal

pub returns : goal.returns
returns c = record {
  misreads = λ flow u typing inner base temp block at reads object is. untyped flow u typing inner base temp block at reads object is;
  ends = λ structs pointer_size types is. ends_point structs pointer_size types is;
  behind = λ structs pointer_size stands. none_behind structs pointer_size stands;
  parts = λ structs pointer_size types target is object points. parts_point structs pointer_size types target is object points;
  null = λ structs pointer_size types target. null_points structs pointer_size types target;
}
