-- Lists in order that are one.
use Rattle.std.specs.Prelude.{◌≡◌, ℤ, true, List, Contains}
use Rattle.cc_base.specs.Ascending.{is_ascending}
use Rattle.cfg.specs.Nearest.{AreThresholds}
use Rattle.cfg.specs.StructNumbers.{flow_numbers}
use Rattle.cfg.specs.ThresholdNumbers.{limits_of}
use Rattle.cfg.specs.declared.programs.Flow.{Flow}
use Rattle.lower_templates.specs.Views.ProgramViews.{flow_view}

-- ascending lists of the same numbers
abbrev pub OneList : Type 0
OneList = (xs ys : List ℤ) → is_ascending xs ≡ true → is_ascending ys ≡ true → ((n : ℤ) → Contains xs n → Contains ys n) → ((n : ℤ) → Contains ys n → Contains xs n) → xs ≡ ys

-- ascending lists of thresholds for the same limits and numbers
abbrev pub OneThresholds : Type 0
OneThresholds = (limits numbers xs ys : List ℤ) → AreThresholds limits numbers xs → AreThresholds limits numbers ys → is_ascending xs ≡ true → is_ascending ys ≡ true → xs ≡ ys

-- those of programs with the same view
abbrev pub OneListOfThresholds : Type 0
OneListOfThresholds =
    (f g : Flow) → flow_view f ≡ flow_view g → (xs ys : List ℤ) → AreThresholds (limits_of f.model) (flow_numbers f) xs → AreThresholds (limits_of g.model) (flow_numbers g) ys →
    is_ascending xs ≡ true → is_ascending ys ≡ true → xs ≡ ys
