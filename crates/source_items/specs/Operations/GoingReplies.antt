-- What holds of replies, as far as the run goes on, and where it does not.
use Rattle.memory_model.specs.Effects.Worlds.{Why, Stuck, Reply, goes, stops}

-- it holds of what a reply gives, where the run goes on
abbrev pub IfGoes : {A : Type 0} → (A → Type 0) → Reply A → Type 0
IfGoes P (goes x w) = P x
IfGoes P (stops why w) = Unit {0}

abbrev pub IsDefined : Why → Type 0
IsDefined Stuck = ⊥
IsDefined why = Unit {0}

-- where the run stops, it is not for want of a step
abbrev pub NotStuck : {A : Type 0} → Reply A → Type 0
NotStuck (goes x w) = Unit {0}
NotStuck (stops why w) = IsDefined why
