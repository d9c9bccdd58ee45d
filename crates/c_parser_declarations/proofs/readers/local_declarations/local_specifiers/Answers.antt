use Rattle.std.proofs.Common.{sym}
use Rattle.c_parser_declarations.proofs.grammar.Reading.{local_judged}
use Rattle.c_parser_declarations.proofs.readers.local_declarations.local_specifiers.Goals as goal

pub returns-then-not-are_local-clause-read : goal.returns-then-not-are_local-clause-read
returns-then-not-are_local-clause-read c = λ s. local_judged c.args.scope.typedefs.now c.args.budget c.args.reader.now _ _ _ _ c.in_ok-words.ensures.read (sym (rw c.as_slice.ensures.value at c.if-not-are_local.ensures))

pub returns-clause-read : goal.returns-clause-read
returns-clause-read c = local_judged c.args.scope.typedefs.now c.args.budget c.args.reader.now _ _ _ _ c.in_ok-words.ensures.read (sym (rw c.as_slice.ensures.value at c.if-not-are_local.ensures))
