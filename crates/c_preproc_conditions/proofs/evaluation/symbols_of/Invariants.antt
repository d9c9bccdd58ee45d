use Rattle.std.proofs.Common.{◌≡◌, drop}
use Rattle.c_preproc_conditions.specs.Lines.{symbols_of}
use Rattle.c_preproc_conditions.proofs.Lines.{prepended}
use Rattle.c_preproc_conditions.proofs.evaluation.symbols_of.Given as goal

abbrev pub invariant-loop-x : goal.invariant-loop-x
invariant-loop-x l = symbols_of l.spellings l.char_signed l.line ≡ prepended l.symbols.items (symbols_of l.spellings l.char_signed (drop l.x-index l.line))
