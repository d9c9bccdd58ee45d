use Rattle.struct_copies_sound.proofs.spans.SpanBytes.{spans_see}
use Rattle.struct_copies_sound.proofs.theorems.spans_see_bytes.Goals as goal

pub returns : goal.returns
returns g m = spans_see m
