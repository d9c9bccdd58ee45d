use Rattle.std.proofs.Common.{arith}
use Rattle.c_types_scopes.specs.States.{state}
use Rattle.c_types_primary.specs.TypeNames.{said_view}
use Rattle.c_types_primary.proofs.Words.{one_more, no_more, refused_word}
use Rattle.c_types_primary.proofs.type_names.words_said.Goals as goal

pub loop-next-preserved : goal.loop-next-preserved
loop-next-preserved c =
    one_more (state c.loop-next.cx) (state c.one_word.new.cx) c.args.place (said_view c.loop-next.said) (said_view c.in_ok-said.said) c.args.words.now c.loop-next.next-index c.next-item.result _
    c.loop-next-test.true c.loop-next.invariant c.next-item.is c.in_ok-said.ensures

pub returns-in_err-said : goal.returns-in_err-said
returns-in_err-said c =
    refused_word (state c.loop-next.cx) (state c.one_word.new.cx) c.args.place (said_view c.loop-next.said) c.args.words.now c.loop-next.next-index c.next-item.result _ c.in_err-said.field-0.0 c.from_residual.result
    c.loop-next-test.true c.loop-next.invariant c.next-item.is c.in_err-said.ensures c.from_residual.ensures.1

pub returns : goal.returns
returns c = no_more (state c.loop-next.cx) c.args.place (said_view c.loop-next.said) c.args.words.now c.loop-next.next-index _ (omega arith) c.loop-next.invariant
