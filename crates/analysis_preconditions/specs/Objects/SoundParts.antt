-- Whether the parts of a program are such as the theorems on single instructions and edges ask.
use Rattle.std.specs.Prelude.{Bool, ◌&&◌}
use Rattle.cfg.specs.declared.programs.Flow.{Flow}
use Rattle.analysis_preconditions.specs.Objects.Sites.{has_sites, ends_with_lines}
use Rattle.analysis_preconditions.specs.Objects.SpelledTexts.{spells_over_characters}
use Rattle.analysis_preconditions.specs.Objects.ScalarTests.{all_follow_scalars}

abbrev pub has_sound_parts : Flow → Bool
has_sound_parts flow = has_sites flow && (ends_with_lines flow && (spells_over_characters flow && all_follow_scalars flow))
