use Rattle.row_bounds.proofs.entries.WideTexts.{list_reaches, wide_program, wide_is_cut}
use Rattle.row_bounds.proofs.theorems.wide_texts_are_cut.Goals as goal

pub returns : goal.returns
returns c = record { reaches = list_reaches; cut = λ some. (wide_program some, wide_is_cut some) }
