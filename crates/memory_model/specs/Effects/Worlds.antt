-- What a step acts on, and how it ends.
use Rattle.std.specs.Prelude.{ℤ, Bool, true, false, cond, ◌&&◌, int_le, List, [], ◌∷◌, ◌++◌}
use Rattle.cc_base.specs.declared.diagnostics.Place.{Place}
use Rattle.cc_base.specs.declared.diagnostics.Rule.{Rule}
use Rattle.memory_model.specs.Memory.Instances.{Memory}

-- memory, the numbers that the outside still gives, and the rules that the step at hand has violated
pub record World : Type 0 where
  pub memory : Memory
  pub draws : List ℤ
  pub violated : List Rule

-- why a run stops
pub data Why : Type 0 where
  -- the entry has returned, or `exit` or `abort` was called
  Ended : Why
  -- the last step violates a rule that ends the run
  Violated : Why
  -- the outside gives no number, or one that is out of its range
  OutOfDraws : Why
  -- the unit does something that violates no rule and is not looked at any further
  Left : Why
  -- no step is defined; no unit that was accepted is to come here
  Stuck : Why

-- a step gives something and the run goes on, or the run stops
pub data Reply (A : Type 0) : Type 0 where
  goes : (value : A) (world : World) → Reply A
  stops : (why : Why) (world : World) → Reply A

abbrev pub world_of : {A : Type 0} → Reply A → World
world_of (goes value w) = w
world_of (stops why w) = w

-- one after the other, as far as the run goes
abbrev pub behind : {A B : Type 0} → Reply A → (A → World → Reply B) → Reply B
behind (goes value w) next = next value w
behind (stops why w) next = stops why w

-- a step that gives nothing
abbrev pub done : World → Reply (Unit {0})
done w = goes tt w

abbrev pub with_memory : World → Memory → World
with_memory w memory = record w { memory = memory }

abbrev pub violating : World → List Rule → World
violating w rules = record w { violated = w.violated ++ rules }

-- a step begins with no violation of its own
abbrev pub unviolated : World → World
unviolated w = record w { violated = [] }

-- the run stops at a violation
abbrev pub stopped_by : {A : Type 0} → World → Rule → Reply A
stopped_by w rule = stops Violated (violating w (rule ∷ []))

-- a rule that is violated where the run goes on
abbrev pub noted : World → Bool → Rule → World
noted w violates rule = violating w (cond violates (rule ∷ []) [])

-- the run stops at a violation where something holds
abbrev pub unless : {A : Type 0} → World → Bool → Rule → Reply A → Reply A
unless w holds rule reply = cond holds (stopped_by w rule) reply

abbrev pub drawn_in : Bool → ℤ → World → Reply ℤ
drawn_in true n w = goes n w
drawn_in false n w = stops OutOfDraws w

-- a number that is out of its range is taken all the same
abbrev pub drawn_from : World → ℤ → ℤ → List ℤ → Reply ℤ
drawn_from w least most [] = stops OutOfDraws w
drawn_from w least most (n ∷ ns) = drawn_in (int_le least n && int_le n most) n (record w { draws = ns })

-- the next number of the outside
abbrev pub drawn : World → ℤ → ℤ → Reply ℤ
drawn w least most = drawn_from w least most w.draws

-- a rule that is violated at a place
pub record Violation : Type 0 where
  pub at : Place
  pub rule : Rule
