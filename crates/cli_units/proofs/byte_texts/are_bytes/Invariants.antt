use Rattle.std.proofs.Common.{◌≡◌, drop}
use Rattle.c_layout.specs.ByteTexts.{are_bytes}
use Rattle.cli_units.proofs.byte_texts.are_bytes.Given as goal

abbrev pub invariant-loop-byte : goal.invariant-loop-byte
invariant-loop-byte l = are_bytes (drop l.byte-index l.text) ≡ are_bytes l.text
