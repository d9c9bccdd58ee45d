use Rattle.entry_sound.proofs.entries.EntryRows.{entry_stands}
use Rattle.entry_sound.proofs.theorems.entry_rows_stand.Goals as goal

pub returns : goal.returns
returns c = λ flow list. entry_stands flow list
