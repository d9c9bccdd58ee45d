-- Each object of static storage that has stores has its initializer among those that were met.
use Rattle.std.proofs.Common.{◌≡◌, ◌⊎◌, inl, inr, ℕ, List, [], ◌∷◌, ◌++◌, length, Some, slice_get, refl, ap, sym, ◌∙◌}
use Rattle.cc_base.specs.declared.diagnostics.Place.{Place}
use Rattle.c_layout.specs.Types.{Ty}
use Rattle.c_layout.specs.CheckedUnits.{StaticView, StaticStoreView}
use Rattle.c_types_scopes.specs.declared.context.StaticInitializer.{StaticInitializer}
use Rattle.c_types_statement_rules.specs.Objects.Changes.{changed}
use Rattle.c_types_statement_rules.specs.Objects.LocalObjects.{typed_static}
use Rattle.c_types_statements.specs.StaticInitializers.{stored_static}
use Rattle.c_types_theorems.proofs.units.Bodies.{changed_is}
use Rattle.c_types_theorems.proofs.units.Kept.{appended_is, front_stays}

abbrev pub IsListed : List StaticInitializer → ℕ → Type 0
IsListed xs number = (j : ℕ) × (x : StaticInitializer) × (slice_get xs j ≡ Some x) × (x.object ≡ number)

abbrev pub AreListed : List StaticInitializer → List StaticView → Type 0
AreListed xs objects = (i : ℕ) (o : StaticView) → slice_get objects i ≡ Some o → (o.stores ≡ []) ⊎ IsListed xs i

-- an object without an initializer so far
pub listed_more : (xs : List StaticInitializer) (objects : List StaticView) (new : StaticView) → new.stores ≡ [] → AreListed xs objects → AreListed xs (objects ++ new ∷ [])
listed_more xs objects new bare h i o at = elim (appended_is objects new i o at) [ inl old ↦ h i o old | inr last ↦ inl (ap (λ (v : StaticView). v.stores) last.1 ∙ bare) ]

pub listed_typed : (xs : List StaticInitializer) (objects : List StaticView) (t : Ty) (number : ℕ) → AreListed xs objects → AreListed xs (changed (typed_static t) number objects)
listed_typed xs objects t number h i o at =
    let c = changed_is (typed_static t) number objects i o at in
    let same : o.stores ≡ c.0.stores = elim c.2 [ inl here ↦ ap (λ (v : StaticView). v.stores) here.1 | inr other ↦ ap (λ (v : StaticView). v.stores) other.1 ] in
    elim (h i c.0 c.1) [ inl bare ↦ inl (same ∙ bare) | inr listed ↦ inr listed ]

newest_is : {A : Type 0} (xs : List A) (y : A) → slice_get (xs ++ y ∷ []) (length xs) ≡ Some y
newest_is [] y = refl
newest_is (z ∷ xs) y = newest_is xs y

-- an initializer more, which gives its object stores
pub listed_stored : (xs : List StaticInitializer) (objects : List StaticView) (equals : Place) (number : ℕ) (stores : List StaticStoreView) → AreListed xs objects → AreListed (xs ++ record { object = number; equals = equals } ∷ []) (changed (stored_static stores) number objects)
listed_stored xs objects equals number stores h i o at =
    let new : StaticInitializer = record { object = number; equals = equals } in
    let c = changed_is (stored_static stores) number objects i o at in
    elim c.2 [
      | inl here ↦ inr (length xs, new, newest_is xs new, sym here.0)
      | inr other ↦ elim (h i c.0 c.1) [
        | inl bare ↦ inl (ap (λ (v : StaticView). v.stores) other.1 ∙ bare)
        | inr listed ↦ inr (listed.0, listed.1, front_stays xs (new ∷ []) listed.0 listed.1 listed.2, listed.3)
      ]
    ]
