use Rattle.std.proofs.Common.{◌≡◌, Some, length, map, string_bytes}
use Rattle.cc_base.specs.Outside.{Files}
use Rattle.c_preproc_directives.specs.OpenFiles.{opened_of}
use Rattle.c_preproc.specs.Causes.{Went}
use Rattle.c_preproc.specs.Known.{known_of}
use Rattle.c_preproc.specs.Units.{world_of, sought, course, file_read}
use Rattle.c_preproc.specs.Placed.{OpenIn, KnownIn}
use Rattle.c_preproc.proofs.FilesMet.{StackIn}
use Rattle.c_preproc.proofs.Files.{left_of}
use Rattle.c_preproc.proofs.preprocessing.read_all.Given as goal

abbrev pub invariant-steps : goal.invariant-steps
invariant-steps g l = record {
  went : Went (g.T.Tree.files l.initial.tree) (g.T.Tree.files l.tree) (g.T.Tree.faults l.initial.tree) (g.T.Tree.faults l.tree) (g.T.Tree.taken l.initial.tree) (g.T.Tree.taken l.tree);
  told : (held : Files) → g.T.Tree.files l.initial.tree ≡ Some held
      → left_of (world_of (sought held) (map string_bytes l.dirs) l.model) (map opened_of l.stack.items) (course (known_of l.state) l.files)
      ≡ file_read (world_of (sought held) (map string_bytes l.dirs) l.model) 16 (opened_of l.fn.main) (course (known_of l.initial.state) l.initial.files);
  placed : OpenIn (length l.initial.files) (opened_of l.fn.main) → KnownIn (length l.initial.files) (known_of l.initial.state) → StackIn (length l.initial.files) (map opened_of l.stack.items) (course (known_of l.state) l.files);
}
