use Rattle.std.proofs.Common.{map, string_bytes, drop}
use Rattle.c_preproc.specs.Searching.{built_in}
use Rattle.c_preproc.proofs.Searches.{Along}
use Rattle.c_preproc.proofs.Told.{Seeking}
use Rattle.c_preproc.proofs.file_search.search.Given as goal

abbrev pub invariant-loop-candidate : goal.invariant-loop-candidate
invariant-loop-candidate g l = record {
  along : Along (g.T.Tree.files l.initial.tree) (g.T.Tree.files l.tree) (g.T.Tree.faults l.initial.tree) (g.T.Tree.faults l.tree)
      (g.T.Tree.taken l.initial.tree) (g.T.Tree.taken l.tree) (map string_bytes l.searched) (map string_bytes (drop l.candidate-index l.searched));
  seeking : Seeking (g.T.Tree.files l.initial.tree) (built_in l.name l.model) (map string_bytes l.searched) (map string_bytes (drop l.candidate-index l.searched)) l.initial.files l.files;
}
