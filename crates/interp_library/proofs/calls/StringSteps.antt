-- Replies behind strings that are reached already.
use Rattle.std.proofs.Common.{List, ◌++◌}
use Rattle.memory_model.specs.Effects.Worlds.{Reply, goes, behind}
use Rattle.memory_model.specs.Effects.LibraryChecks.{Reach}

abbrev pub behind_reaches : List Reach → Reply (List Reach) → Reply (List Reach)
behind_reaches before reply = behind reply (λ rs w. goes (before ++ rs) w)
