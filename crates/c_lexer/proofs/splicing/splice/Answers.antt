use Rattle.std.proofs.Common.{sym, ◌∙◌}
use Rattle.c_lexer.proofs.Splices.{plain_bytes}
use Rattle.c_lexer.proofs.splicing.splice.Goals as goal

pub returns-then-is_plain : goal.returns-then-is_plain
returns-then-is_plain c = simp (plain_bytes 1 1 c.args.bytes.now (sym c.is_plain.ensures ∙ c.if-is_plain.true)) c.from_slice.ensures.items
