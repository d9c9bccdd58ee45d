-- Steps of typing that lead from a state to one that stands in a relation to it.
use Rattle.std.proofs.Common.{Ok, Err}
use Rattle.std.specs.Prelude.{Bool, true, false, cond}
use Rattle.c_types_scopes.specs.Refusals.{Ruled}
use Rattle.c_types_scopes.specs.Answers.{after, kept}
use Rattle.c_types_scopes.specs.States.{State}

-- the state behind a step that is not refused
abbrev pub Leads : {V : Type 0} → (State → State → Type 0) → State → Ruled (V × State) → Type 0
Leads R s (Ok p) = R s p.1
Leads R s (Err f) = Unit {0}

-- the same, and what the step gives
abbrev pub Yields : {V : Type 0} → (State → State → Type 0) → (V → State → Type 0) → State → Ruled (V × State) → Type 0
Yields R P s (Ok p) = R s p.1 × P p.0 p.1
Yields R P s (Err f) = Unit {0}

pub kept_leads : {V : Type 0} (R : State → State → Type 0) (s t : State) (rule : Ruled V) → R s t → Leads R s (kept t rule)
kept_leads R s t (Ok v) h = h
kept_leads R s t (Err f) h = tt

pub cond_leads : {V : Type 0} (R : State → State → Type 0) (s : State) (b : Bool) (x y : Ruled (V × State)) → Leads R s x → Leads R s y → Leads R s (cond b x y)
cond_leads R s true x y g h = g
cond_leads R s false x y g h = h

module _ (R : State → State → Type 0) (trans : (s t u : State) → R s t → R t u → R s u) where
  pub onward : {V : Type 0} (s t : State) (r : Ruled (V × State)) → R s t → Leads R t r → Leads R s r
  onward s t (Ok p) a b = trans s t p.1 a b
  onward s t (Err f) a b = tt

  -- a step after another one
  pub then : {U V : Type 0} (s : State) (r : Ruled (U × State)) (next : U → State → Ruled (V × State)) → Leads R s r → ((u : U) (t : State) → Leads R t (next u t)) → Leads R s (after r next)
  then s (Ok p) next a b = onward s p.1 (next p.0 p.1) a (b p.0 p.1)
  then s (Err f) next a b = tt
