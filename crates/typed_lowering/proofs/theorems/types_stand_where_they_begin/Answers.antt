use Rattle.typed_lowering.proofs.starts.StandingStarts.{begun_stands}
use Rattle.typed_lowering.proofs.theorems.types_stand_where_they_begin.Goals as goal

pub returns : goal.returns
returns c = λ u laid outer t x begin. begun_stands u laid outer t x begin
