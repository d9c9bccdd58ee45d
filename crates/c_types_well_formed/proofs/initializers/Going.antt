-- Steps of typing that lead on from states that are ready, one after another.
use Rattle.std.proofs.Common.{◌≡◌, Ok, Err, ap, subst, sym, ◌∙◌}
use Rattle.std.specs.Prelude.{Bool, true, false, cond, ◌==◌}
use Rattle.c_layout.specs.Models.{is_model}
use Rattle.c_layout.specs.Types.{Ty}
use Rattle.c_layout.specs.CheckedUnits.{UnitView}
use Rattle.c_layout.specs.declared.data_model.Model.{Model}
use Rattle.c_types_scopes.specs.Refusals.{Ruled}
use Rattle.c_types_scopes.specs.Answers.{after, kept}
use Rattle.c_types_scopes.specs.States.{State}
use Rattle.c_types_well_formed.specs.WellFormed.ModelTypes.{IsTypeOf, IsGround}
use Rattle.c_types_well_formed.specs.WellFormed.UnitParts.{IsPartOf}
use Rattle.c_types_well_formed.specs.WellFormed.TypingLaws.{LeadsOn}
use Rattle.c_types_well_formed.specs.Layouts.LaidStructs.{LaidBehind}
use Rattle.c_types_well_formed.specs.Initializers.ReadyStates.{IsReady, Goes}

-- a state is part of the units that come of a later one
abbrev pub IsPassed : State → State → Type 0
IsPassed s t = (u : UnitView) → IsPartOf t u → IsPartOf s u

-- a rule that changes nothing
abbrev pub Rules : {V : Type 0} → State → (V → Type 0) → (UnitView → V → Type 0) → Ruled V → Type 0
Rules t N P (Ok v) = N v × ((u : UnitView) → IsPartOf t u → P u v)
Rules t N P (Err f) = Unit {0}

abbrev pub nothing : {V : Type 0} → V → Type 0
nothing v = Unit {0}

module _ (m : Model) where
  pub unit_model : (t : State) (u : UnitView) → IsReady m t → IsPartOf t u → u.model ≡ m
  unit_model t u h part = part.model ∙ h.numbers

  pub unit_type : (t : State) (u : UnitView) (to : Ty) → IsReady m t → IsPartOf t u → IsTypeOf m to → IsTypeOf u.model to
  unit_type t u to h part typed = subst (λ n. IsTypeOf n to) (sym (unit_model t u h part)) typed

  pub ground : (t : State) (u : UnitView) → IsReady m t → IsPartOf t u → IsGround u t.known
  ground t u h part = record { same = part.model; proper = subst (λ n. is_model n ≡ true) (sym part.model) h.types.proper }

  pub onward : {V : Type 0} (s t : State) (N : V → Type 0) (P : UnitView → V → Type 0) (r : Ruled (V × State)) → IsPassed s t → Goes m t N P r → Goes m s N P r
  onward s t N P (Ok p) passed h = (h.0, h.1, λ u part. (let a = h.2 u part in (passed u a.0, a.1)))
  onward s t N P (Err f) passed h = tt

  pub then : {U V : Type 0} (s : State) (N : U → Type 0) (P : UnitView → U → Type 0) (M : V → Type 0) (Q : UnitView → V → Type 0) (r : Ruled (U × State)) (next : U → State → Ruled (V × State)) → Goes m s N P r
      → ((x : U) (t : State) → IsReady m t → N x → Goes m t M (λ u y. P u x → Q u y) (next x t)) → Goes m s M Q (after r next)
  then {V = V} s N P M Q (Ok p) next h go = on (next p.0 p.1) (go p.0 p.1 h.0 h.1)
    where
      on : (r : Ruled (V × State)) → Goes m p.1 M (λ u y. P u p.0 → Q u y) r → Goes m s M Q r
      on (Ok q) i = (i.0, i.1, λ u part. (let a = i.2 u part in let b = h.2 u a.0 in (b.0, a.1 b.1)))
      on (Err f) i = tt
  then s N P M Q (Err f) next h go = tt

  pub weaker : {V : Type 0} (s : State) (N : V → Type 0) (P Q : UnitView → V → Type 0) (r : Ruled (V × State)) → Goes m s N P r → ((u : UnitView) (x : V) → P u x → Q u x) → Goes m s N Q r
  weaker s N P Q (Ok p) h f = (h.0, h.1, λ u part. (let a = h.2 u part in (a.0, f u p.0 a.1)))
  weaker s N P Q (Err e) h f = tt

  pub kept_goes : {V : Type 0} (t : State) (N : V → Type 0) (P : UnitView → V → Type 0) (r : Ruled V) → IsReady m t → Rules t N P r → Goes m t N P (kept t r)
  kept_goes t N P (Ok v) h g = (h, g.0, λ u part. (part, g.1 u part))
  kept_goes t N P (Err f) h g = tt

  pub cond_goes : {V : Type 0} (s : State) (N : V → Type 0) (P : UnitView → V → Type 0) (b : Bool) (x y : Ruled (V × State)) → Goes m s N P x → Goes m s N P y → Goes m s N P (cond b x y)
  cond_goes s N P true x y g h = g
  cond_goes s N P false x y g h = h

  -- a step that keeps types and layouts
  pub led_goes : {V : Type 0} (s : State) (R : V → State → Type 0) (N : V → Type 0) (P : UnitView → V → Type 0) (r : Ruled (V × State)) → IsReady m s → LeadsOn s R r → LaidBehind r → ((x : V) (t : State) → t.known.numbers ≡ m → R x t → N x × ((u : UnitView) → IsPartOf t u → P u x)) → Goes m s N P r
  led_goes s R N P (Ok p) h g l f =
      let numbers : p.1.known.numbers ≡ m = g.0.model ∙ h.numbers in
      let a = f p.0 p.1 numbers g.1 in (
        record { numbers = numbers; evaluated = ap (λ n. n == 0) g.0.unevaluated ∙ h.evaluated; types = g.0.types; layouts = l },
        a.0,
        λ u part. (g.0.parts u part, a.1 u part),
      )
  led_goes s R N P (Err e) h g l f = tt
