use Rattle.std.proofs.Common.{◌≡◌, take}
use Rattle.memory_model.specs.Effects.ObjectEffects.{characters}
use Rattle.interp_memory.specs.ByteViews.{contents_view}
use Rattle.interp_starts.proofs.starts.texts.characters_of.Given as goal

abbrev pub invariant-loop-c : goal.invariant-loop-c
invariant-loop-c l = contents_view l.contents.items ≡ characters (take l.c-index l.text)
