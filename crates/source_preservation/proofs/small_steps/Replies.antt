-- Replies that go on to what holds, or stop at a step that is defined.
use Rattle.std.proofs.Common.{◌≡◌, Option, Some, sym, subst}
use Rattle.memory_model.specs.Effects.Worlds.{World, Reply, goes, stops, behind}
use Rattle.semantics.specs.SourceMachine.SourceStates.{State, if_some}
use Rattle.source_preservation.specs.ValueTyping.MarkLaws.{Comes}

module _ {A B : Type 0} (P : B → World → Type 0) where
  pub comes_behind : (Q : A → World → Type 0) (r : Reply A) (next : A → World → Reply B) → Comes Q r → ((x : A) (w : World) → Q x w → Comes P (next x w)) → Comes P (behind r next)
  comes_behind Q (goes x w) next q h = h x w q
  comes_behind Q (stops why w) next q h = q

  -- what is there is used
  pub comes_at : (s : State) (o : Option A) (x : A) (use_it : A → Reply B) → o ≡ Some x → Comes P (use_it x) → Comes P (if_some s o use_it)
  comes_at s o x use_it is h = subst (λ o. Comes P (if_some s o use_it)) (sym is) h
