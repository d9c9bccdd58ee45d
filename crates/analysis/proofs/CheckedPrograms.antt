-- What was looked at of a program and of a list is what soundness asks.
use Rattle.std.specs.Prelude.{◌≡◌, ℤ, true, List}
use Rattle.c_layout.specs.StructViews.{structs_view}
use Rattle.analysis_preconditions.specs.StructNesting.OrderedStructs.{are_ordered}
use Rattle.cfg.specs.declared.programs.Flow.{Flow}
use Rattle.analysis_preconditions.specs.Objects.SoundParts.{has_sound_parts}
use Rattle.analysis.specs.CheckedPrograms.{reaches_types, IsChecked}

pub checked_of : (flow : Flow) (list : List ℤ) → has_sound_parts flow ≡ true → are_ordered (structs_view flow.structs) ≡ true → reaches_types list ≡ true → IsChecked flow list
checked_of flow list parts structs reaches = record { parts = parts; structs = structs; reaches = reaches }
