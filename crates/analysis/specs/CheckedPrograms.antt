-- What soundness asks of a program and of a list, which is looked at before a program is solved.
use Rattle.std.specs.Prelude.{◌≡◌, ◌-◌, ◌^◌, ℤ, negsuc, int_le, Bool, true, List}
use Rattle.std.specs.List.{list_any}
use Rattle.c_layout.specs.StructViews.{structs_view}
use Rattle.analysis_preconditions.specs.StructNesting.OrderedStructs.{are_ordered}
use Rattle.cfg.specs.declared.programs.Flow.{Flow}
use Rattle.analysis_preconditions.specs.Objects.SoundParts.{has_sound_parts}

-- a number is at most the least number of any integer type, -2^63
abbrev pub is_below_types : ℤ → Bool
is_below_types number = int_le number (negsuc (2 ^ 63 - 1))

-- one of the list is
abbrev pub reaches_types : List ℤ → Bool
reaches_types list = list_any (λ m. is_below_types m) list

-- the parts of the program are such as the theorems on single instructions and edges ask, its structs stand in no circle,
-- and the list goes as far down as the integer types
pub record IsChecked (flow : Flow) (list : List ℤ) : Type 0 where
  pub parts : has_sound_parts flow ≡ true
  pub structs : are_ordered (structs_view flow.structs) ≡ true
  pub reaches : reaches_types list ≡ true
