use Rattle.transfer_sound.proofs.operands.TypedOperands.{operands_have}
use Rattle.transfer_sound.proofs.theorems.typed_rows_type_operands.Goals as goal

pub returns : goal.returns
returns g c = λ flow naming row state there o h. operands_have g.met.I.IntDomain.bounding flow naming row state there o h
