-- What holds of what a reply gives and of the world behind it, where the run goes on.
use Rattle.std.specs.Prelude.{◌≡◌, Option, Some, None, List, [], ◌∷◌}
use Rattle.c_layout.specs.declared.data_model.Model.{Model}
use Rattle.memory_model.specs.Memory.Instances.{Memory}
use Rattle.memory_model.specs.Memory.Scalars.{Scalar, integer, pointer}
use Rattle.memory_model.specs.Effects.Worlds.{World, Reply, goes, stops}
use Rattle.source_preservation.specs.ValueTyping.Marks.{IsBounded}
use Rattle.source_preservation.specs.ValueTyping.ProperMemory.{Evolves}

-- where the run goes on
abbrev pub WhenGoing : {A : Type 0} → (A → World → Type 0) → Reply A → Type 0
WhenGoing P (goes x w) = P x w
WhenGoing P (stops why w) = Unit {0}

abbrev pub IsNumeral : Scalar → Type 0
IsNumeral (integer n labels) = Unit {0}
IsNumeral (pointer p) = ⊥

-- a number, or a pointer that is bounded
abbrev pub IsProperScalar : Model → Scalar → Type 0
IsProperScalar m (integer n labels) = Unit {0}
IsProperScalar m (pointer p) = IsBounded m p

abbrev pub AreProperScalars : Model → List Scalar → Type 0
AreProperScalars m [] = Unit {0}
AreProperScalars m (v ∷ vs) = IsProperScalar m v × AreProperScalars m vs

abbrev pub IsProperResult : Model → Option Scalar → Type 0
IsProperResult m None = Unit {0}
IsProperResult m (Some v) = IsProperScalar m v

-- ---- memory

-- whatever is given, memory is as before
abbrev pub Same : {A : Type 0} → Memory → A → World → Type 0
Same before x w = w.memory ≡ before

-- it stays proper, and nothing gets shorter
abbrev pub Developed : {A : Type 0} → Model → Memory → A → World → Type 0
Developed m before x w = Evolves m before w.memory

-- a number is given, and memory is as before
abbrev pub Told : Memory → Scalar → World → Type 0
Told before v w = IsNumeral v × (w.memory ≡ before)

-- a proper value is given, and memory is as before
abbrev pub Read : Model → Memory → Scalar → World → Type 0
Read m before v w = IsProperScalar m v × (w.memory ≡ before)

-- a proper value is given, and memory evolves
abbrev pub Given : Model → Memory → Scalar → World → Type 0
Given m before v w = IsProperScalar m v × Evolves m before w.memory

-- ---- where the run goes on

abbrev pub Keeps : {A : Type 0} → Memory → Reply A → Type 0
Keeps before r = WhenGoing (Same before) r

abbrev pub Develops : {A : Type 0} → Model → Memory → Reply A → Type 0
Develops m before r = WhenGoing (Developed m before) r

abbrev pub Tells : Memory → Reply Scalar → Type 0
Tells before r = WhenGoing (Told before) r

abbrev pub Reads : Model → Memory → Reply Scalar → Type 0
Reads m before r = WhenGoing (Read m before) r

abbrev pub Gives : Model → Memory → Reply Scalar → Type 0
Gives m before r = WhenGoing (Given m before) r
