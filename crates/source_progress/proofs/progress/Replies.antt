-- Replies that are not stuck.
use Rattle.std.proofs.Common.{◌≡◌, true, false, Option, Some, None, is_some, refl, sym, subst}
use Rattle.memory_model.specs.Effects.Worlds.{World, Reply, goes, stops, behind}
use Rattle.semantics.specs.SourceMachine.SourceStates.{State, if_some}
use Rattle.source_items.specs.Operations.GoingReplies.{NotStuck}
use Rattle.source_items.specs.StackKinds.KindedTerms.{IsThere}

pub apart : true ≡ false → ⊥
apart e = cc

pub steps_behind : {A B : Type 0} (r : Reply A) (next : A → World → Reply B) → NotStuck r → ((x : A) (w : World) → NotStuck (next x w)) → NotStuck (behind r next)
steps_behind (goes x w) next steps h = h x w
steps_behind (stops why w) next steps h = steps

-- what is there is used
pub step_at : {A B : Type 0} (s : State) (o : Option A) (x : A) (use_it : A → Reply B) → o ≡ Some x → NotStuck (use_it x) → NotStuck (if_some s o use_it)
step_at s o x use_it is steps = subst (λ o. NotStuck (if_some s o use_it)) (sym is) steps

pub step_there : {A B : Type 0} (s : State) (o : Option A) (use_it : A → Reply B) → IsThere o → ((x : A) → NotStuck (use_it x)) → NotStuck (if_some s o use_it)
step_there s o use_it there h = step_at s o there.0 use_it there.1 (h there.0)

pub there : {A : Type 0} (o : Option A) → is_some o ≡ true → IsThere o
there None is = absurd (apart (sym is))
there (Some x) is = (x, refl)
