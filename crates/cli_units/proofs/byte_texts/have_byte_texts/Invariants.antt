use Rattle.std.proofs.Common.{◌≡◌, drop}
use Rattle.c_layout.specs.ByteTexts.{have_byte_texts}
use Rattle.cli_units.proofs.byte_texts.have_byte_texts.Given as goal

abbrev pub invariant-loop-at : goal.invariant-loop-at
invariant-loop-at l = have_byte_texts (drop l.at l.tokens) ≡ have_byte_texts l.tokens
