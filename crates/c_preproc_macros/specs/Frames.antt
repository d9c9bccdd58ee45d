-- The levels of the code as frames.
use Rattle.std.specs.Prelude.{List, map, vec_items}
use Rattle.c_preproc_macros.specs.declared.levels.Level.{Level}
use Rattle.c_preproc_macros.specs.declared.levels.Level.TheVariants.{Within, Calling}
use Rattle.c_preproc_macros.specs.Machine.{Frame}
use Rattle.c_preproc_macros.specs.Machine.Frame.{inside, calling}

abbrev pub frame_of : Level → Frame
frame_of (Within n) = inside n
frame_of (Calling c) = calling c.name c.depth c.outer.items (map vec_items c.finished.items)

abbrev pub frames_of : List Level → List Frame
frames_of levels = map frame_of levels
