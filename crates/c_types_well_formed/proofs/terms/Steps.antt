-- Steps of typing that keep what is known, one after another.
use Rattle.std.proofs.Common.{◌≡◌, ◌==◌, ℕ, List, length, Ok, Err, slice_get, refl, ap, subst, sym, ◌∙◌}
use Rattle.std.specs.Prelude.{Bool, true, false, cond, nat_le}
use Rattle.cc_base.specs.declared.diagnostics.Place.{Place}
use Rattle.c_layout.specs.Models.{is_model}
use Rattle.c_layout.specs.CheckedTrees.{TermTree}
use Rattle.c_layout.specs.CheckedUnits.{UnitView}
use Rattle.c_layout.specs.declared.data_model.Model.{Model}
use Rattle.c_types_scopes.specs.Refusals.{Ruled}
use Rattle.c_types_scopes.specs.Answers.{after, kept}
use Rattle.c_types_scopes.specs.States.{State, is_evaluated, with_name, with_constant, with_call}
use Rattle.c_types_well_formed.specs.WellFormed.ModelTypes.{IsGround}
use Rattle.c_types_well_formed.specs.WellFormed.KnownTypes.{HasTypes}
use Rattle.c_types_well_formed.specs.WellFormed.UnitParts.{IsPartOf}
use Rattle.c_types_well_formed.specs.WellFormed.TypingLaws.{Keeps, LeadsOn}

-- a state of a data model, whose types are of it
pub record IsAt (m : Model) (s : State) : Type 0 where
  pub same : s.known.numbers ≡ m
  pub types : HasTypes s

pub keeps_same : (s : State) → HasTypes s → Keeps s s
keeps_same s h = record { model = refl; unevaluated = refl; types = h; parts = λ u p. p }

pub keeps_twice : (s t v : State) → Keeps s t → Keeps t v → Keeps s v
keeps_twice s t v g h = record { model = h.model ∙ g.model; unevaluated = h.unevaluated ∙ g.unevaluated; types = h.types; parts = λ u p. g.parts u (h.parts u p) }

pub at_later : (m : Model) (s t : State) → IsAt m s → Keeps s t → IsAt m t
at_later m s t a k = record { same = k.model ∙ a.same; types = k.types }

pub evaluated_still : (s t : State) → Keeps s t → is_evaluated s ≡ true → is_evaluated t ≡ true
evaluated_still s t k h = ap (λ n. n == 0) k.unevaluated ∙ h

pub ground : (t : State) (u : UnitView) → HasTypes t → IsPartOf t u → IsGround u t.known
ground t u h p = record { same = p.model; proper = subst (λ m. is_model m ≡ true) (sym p.model) h.proper }

-- a state with the same objects, functions and literals, and other things of which the types are known
pub keeps_by : (s t : State) → t.known.numbers ≡ s.known.numbers → t.unevaluated ≡ s.unevaluated → t.objects ≡ s.objects → t.literals ≡ s.literals → t.functions ≡ s.functions → HasTypes t → Keeps s t
keeps_by s t m e o l f h = record {
  model = m;
  unevaluated = e;
  types = h;
  parts = λ u p. record {
    model = p.model ∙ m;
    objects = λ i x n is. p.objects i x n (ap (λ xs. slice_get xs i) o ∙ is);
    literals = subst (λ xs. nat_le (length xs) (length u.literals) ≡ true) l p.literals;
    functions = λ i x n is. p.functions i x n (ap (λ xs. slice_get xs i) f ∙ is);
  };
}

-- ---- steps one after another

pub onward : {V : Type 0} (s t : State) (P : V → State → Type 0) (r : Ruled (V × State)) → Keeps s t → LeadsOn t P r → LeadsOn s P r
onward s t P (Ok p) k h = (keeps_twice s t p.1 k h.0, h.1)
onward s t P (Err f) k h = tt

pub then : {U V : Type 0} (s : State) (P : U → State → Type 0) (Q : V → State → Type 0) (r : Ruled (U × State)) (next : U → State → Ruled (V × State)) → LeadsOn s P r → ((x : U) (t : State) → Keeps s t → P x t → LeadsOn t Q (next x t)) → LeadsOn s Q (after r next)
then s P Q (Ok p) next a b = onward s p.1 Q (next p.0 p.1) a.0 (b p.0 p.1 a.0 a.1)
then s P Q (Err f) next a b = tt

-- what else a step gives
pub weaker : {V : Type 0} (s : State) (P Q : V → State → Type 0) (r : Ruled (V × State)) → ((x : V) (t : State) → Keeps s t → P x t → Q x t) → LeadsOn s P r → LeadsOn s Q r
weaker s P Q (Ok p) f h = (h.0, f p.0 p.1 h.0 h.1)
weaker s P Q (Err e) f h = tt

-- a rule that changes nothing
abbrev pub Holds : {V : Type 0} → (V → Type 0) → Ruled V → Type 0
Holds P (Ok v) = P v
Holds P (Err f) = Unit {0}

pub stays : {V : Type 0} (t : State) (P : V → State → Type 0) (r : Ruled V) → HasTypes t → Holds (λ v. P v t) r → LeadsOn t P (kept t r)
stays t P (Ok v) h g = (keeps_same t h, g)
stays t P (Err f) h g = tt

pub cond_on : {V : Type 0} (s : State) (P : V → State → Type 0) (b : Bool) (x y : Ruled (V × State)) → LeadsOn s P x → LeadsOn s P y → LeadsOn s P (cond b x y)
cond_on s P true x y g h = g
cond_on s P false x y g h = h

-- ---- what changes

pub named_keeps : (s : State) (text : List ℕ) → HasTypes s → Keeps s (with_name s text)
named_keeps s text h = keeps_by s (with_name s text) refl refl refl refl refl (record { proper = h.proper; objects = h.objects; locals = h.locals; statics = h.statics; typedefs = h.typedefs; literals = h.literals; stores = h.stores; results = h.results; parameters = h.parameters; fields = h.fields; meanings = h.meanings })

pub constant_keeps : (s : State) (e : TermTree) → HasTypes s → Keeps s (with_constant s e)
constant_keeps s e h = keeps_by s (with_constant s e) refl refl refl refl refl (record { proper = h.proper; objects = h.objects; locals = h.locals; statics = h.statics; typedefs = h.typedefs; literals = h.literals; stores = h.stores; results = h.results; parameters = h.parameters; fields = h.fields; meanings = h.meanings })

either : (s : State) (b : Bool) (x y : State) → Keeps s x → Keeps s y → Keeps s (cond b x y)
either s true x y g h = g
either s false x y g h = h

pub called_keeps : (s : State) (callee : ℕ) (at : Place) → HasTypes s → Keeps s (with_call s callee at)
called_keeps s callee at h = either s (is_evaluated s) _ s (keeps_by s _ refl refl refl refl refl (record { proper = h.proper; objects = h.objects; locals = h.locals; statics = h.statics; typedefs = h.typedefs; literals = h.literals; stores = h.stores; results = h.results; parameters = h.parameters; fields = h.fields; meanings = h.meanings })) (keeps_same s h)
