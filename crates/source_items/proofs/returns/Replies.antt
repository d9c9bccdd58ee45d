-- What holds of the state in which a run goes on.
use Rattle.std.proofs.Common.{◌≡◌, ℤ, Option, Some, None, refl, sym, subst}
use Rattle.memory_model.specs.Memory.Scalars.{Scalar, integer, pointer}
use Rattle.memory_model.specs.Memory.Labels.{Labels}
use Rattle.memory_model.specs.Effects.Worlds.{World, Reply, goes, stops, behind}
use Rattle.memory_model.specs.Effects.Operands.{with_number}
use Rattle.semantics.specs.SourceMachine.SourceStates.{State, if_some}
use Rattle.source_items.specs.Operations.GoingReplies.{IfGoes}
use Rattle.source_items.proofs.stack_kinds.FoundItems.{IfSome}

module _ {A B : Type 0} (P : B → Type 0) where
  pub goes_behind : (Q : A → Type 0) (r : Reply A) (next : A → World → Reply B) → IfGoes Q r → ((x : A) (w : World) → Q x → IfGoes P (next x w)) → IfGoes P (behind r next)
  goes_behind Q (goes x w) next q h = h x w q
  goes_behind Q (stops why w) next q h = tt

  pub goes_on : (r : Reply A) (next : A → World → Reply B) → ((x : A) (w : World) → IfGoes P (next x w)) → IfGoes P (behind r next)
  goes_on (goes x w) next h = h x w
  goes_on (stops why w) next h = tt

  pub goes_if_some : (s : State) (o : Option A) (use_it : A → Reply B) → ((x : A) → o ≡ Some x → IfGoes P (use_it x)) → IfGoes P (if_some s o use_it)
  goes_if_some s None use_it h = tt
  goes_if_some s (Some x) use_it h = h x refl

  pub goes_if_such : (Q : A → Type 0) (s : State) (o : Option A) (use_it : A → Reply B) → IfSome Q o → ((x : A) → Q x → IfGoes P (use_it x)) → IfGoes P (if_some s o use_it)
  goes_if_such Q s None use_it q h = tt
  goes_if_such Q s (Some x) use_it q h = h x q

  pub goes_if_known : (s : State) (o : Option A) (x : A) (use_it : A → Reply B) → o ≡ Some x → IfGoes P (use_it x) → IfGoes P (if_some s o use_it)
  goes_if_known s o x use_it is h = subst (λ o. IfGoes P (if_some s o use_it)) (sym is) h

pub goes_with_number : {B : Type 0} (P : B → Type 0) (v : Scalar) (w : World) (use_it : ℤ → Labels → World → Reply B) → ((n : ℤ) (l : Labels) (w : World) → IfGoes P (use_it n l w)) → IfGoes P (with_number v w use_it)
goes_with_number P (integer n l) w use_it h = h n l w
goes_with_number P (pointer p) w use_it h = tt
