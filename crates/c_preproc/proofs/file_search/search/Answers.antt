use Rattle.std.proofs.Common.{[], arith, string_bytes}
use Rattle.c_preproc.proofs.Searches.{drop_all, found_here, missed_here, caused_earlier}
use Rattle.c_preproc.proofs.Told.{reads_as, seek_missed, seek_found, seek_refused, seek_built_in}
use Rattle.c_preproc.proofs.file_search.search.Goals as goal

pub returns-in-Err-clause-answer : goal.returns-in-Err-clause-answer
returns-in-Err-clause-answer g c = λ dirs. caused_earlier _ _ (g.T.Tree.files c.read_if_held.new.tree) _ _ _ _ _ _ dirs c.args.model.now _ c.in-Err.stop c.loop-candidate.invariant.along.went (c.in-Err.ensures.answer dirs c.args.model.now)

pub returns-in-Some-clause-answer : goal.returns-in-Some-clause-answer
returns-in-Some-clause-answer g c = λ dirs. found_here string_bytes _ _ (g.T.Tree.files c.read_if_held.new.tree) _ _ _ _ _ _ dirs c.read_if_held.new.files _ c.loop-candidate.candidate-index c.candidate-item.result _ c.args.name.now c.args.model.now c.in-Ok.held c.in-Some.found
    c.loop-candidate.invariant.along (omega arith) c.candidate-item.is c.as_str.ensures.value c.in-Ok.ensures.went (c.in-Ok.ensures.answer dirs c.args.model.now) c.in-Some.is

pub returns-in-Err-clause-seeks : goal.returns-in-Err-clause-seeks
returns-in-Err-clause-seeks g c = seek_refused string_bytes _ _ _ c.loop-candidate.candidate-index c.candidate-item.result _ _ _ _ c.in-Err.stop c.loop-candidate.invariant.seeking (omega arith) c.candidate-item.is c.as_str.ensures.value
    (reads_as _ _ _ _ _ _ c.loop-candidate.invariant.along.went.same c.in-Err.ensures.reads)

pub returns-in-Some-clause-seeks : goal.returns-in-Some-clause-seeks
returns-in-Some-clause-seeks g c = seek_found string_bytes _ _ _ c.loop-candidate.candidate-index c.candidate-item.result _ _ _ _ c.in-Ok.held c.in-Some.found c.loop-candidate.invariant.seeking (omega arith) c.candidate-item.is c.as_str.ensures.value
    (reads_as _ _ _ _ _ _ c.loop-candidate.invariant.along.went.same c.in-Ok.ensures.reads) c.in-Some.is

pub loop-candidate-preserved : goal.loop-candidate-preserved
loop-candidate-preserved g c = record {
  along = missed_here string_bytes _ _ (g.T.Tree.files c.read_if_held.new.tree) _ _ _ _ _ _ [] c.read_if_held.new.files _ c.loop-candidate.candidate-index c.candidate-item.result _ c.args.model.now c.in-Ok.held
      c.loop-candidate.invariant.along (omega arith) c.candidate-item.is c.as_str.ensures.value c.in-Ok.ensures.went (c.in-Ok.ensures.answer [] c.args.model.now) c.in-None.is;
  seeking = seek_missed string_bytes _ _ _ c.loop-candidate.candidate-index c.candidate-item.result _ _ _ _ c.in-Ok.held c.loop-candidate.invariant.seeking (omega arith) c.candidate-item.is c.as_str.ensures.value
      (reads_as _ _ _ _ _ _ c.loop-candidate.invariant.along.went.same c.in-Ok.ensures.reads) c.in-None.is;
}

pub returns-clause-seeks : goal.returns-clause-seeks
returns-clause-seeks g c = seek_built_in _ _ _ _ _ c.args.name.now c.args.model.now c.built_in.result c.loop-candidate.invariant.seeking (drop_all string_bytes c.args.searched.now c.loop-candidate.candidate-index (omega arith)) c.built_in.ensures.value c.built_in.ensures.error
