-- Effects on the newest values, which give one of a mark in their place and keep memory or change it.
use Rattle.std.proofs.Common.{◌≡◌, ℕ, Option, List, [], ◌∷◌, ◌++◌, refl, sym, subst}
use Rattle.c_layout.specs.CheckedUnits.{UnitView}
use Rattle.memory_model.specs.Memory.Scalars.{Scalar}
use Rattle.memory_model.specs.Effects.Worlds.{World, Reply, goes, stops}
use Rattle.semantics.specs.SourceMachine.Operations.{Order, LeftFirst, RightFirst, pushing, on_one, on_two}
use Rattle.source_items.specs.Operations.GoingReplies.{IfGoes, NotStuck}
use Rattle.source_items.specs.Operations.Kinds.{Kind, IsOf, AreOf}
use Rattle.source_preservation.specs.ValueTyping.Marks.{Mark, AreStable, Has, AreWellTyped}
use Rattle.source_preservation.specs.ValueTyping.ProperMemory.{Evolves}
use Rattle.source_preservation.specs.ValueTyping.MarkOperations.{Replaces, Rewrites, operands}
use Rattle.source_preservation.specs.ValueTyping.MarkLaws.{Comes, Leaves}
use Rattle.source_preservation.specs.Memory.GoingWorlds.{WhenGoing, Keeps}
use Rattle.source_preservation.proofs.memory.Evolving.{evolves_kept}
use Rattle.source_preservation.proofs.operations.StableMarks.{are_stable}

-- ---- replies

pub given_when : {A : Type 0} (P : A → World → Type 0) (r : Reply A) (x : A) (w : World) → WhenGoing P r → r ≡ goes x w → P x w
given_when P r x w h e = subst (WhenGoing P) e h

-- a value that is put before others is given all the same
pub unpushed : (vs : List Scalar) (r : Reply Scalar) → NotStuck (pushing vs r) → NotStuck r
unpushed vs (goes v w) defined = tt
unpushed vs (stops why w) defined = defined

pub kind_given : (k : Kind) (ks : List Kind) (vs : List Scalar) (r : Reply Scalar) (v : Scalar) (w : World) → IfGoes (AreOf (k ∷ ks)) (pushing vs r) → r ≡ goes v w → IsOf k v
kind_given k ks vs r v w h e = let g : IfGoes (AreOf (k ∷ ks)) (pushing vs (goes v w)) = subst (λ r. IfGoes (AreOf (k ∷ ks)) (pushing vs r)) e h in g.0

module _ (u : UnitView) (names : ℕ → Option ℕ) (w : World) where
  -- ---- values that are given

  -- of a mark, with memory as it was
  abbrev pub Makes : Mark → Reply Scalar → Type 0
  Makes g r = Comes (λ v after. Has u.model names w.memory g v × (after.memory ≡ w.memory)) r

  -- of a mark in the memory that there is then
  abbrev pub Changes : Mark → Reply Scalar → Type 0
  Changes g r = Comes (λ v after. Has u.model names after.memory g v × Evolves u.model w.memory after.memory) r

  pub makes : (g : Mark) (r : Reply Scalar) → NotStuck r → Keeps w.memory r → ((v : Scalar) (after : World) → r ≡ goes v after → Has u.model names w.memory g v) → Makes g r
  makes g (goes v after) defined kept has = (has v after refl, kept)
  makes g (stops why after) defined kept has = defined

  pub changes : (g : Mark) (r : Reply Scalar) → NotStuck r → ((v : Scalar) (after : World) → r ≡ goes v after → Has u.model names after.memory g v × Evolves u.model w.memory after.memory) → Changes g r
  changes g (goes v after) defined has = has v after refl
  changes g (stops why after) defined has = defined

  -- ---- above the others

  pub pushed_made : (g : Mark) (below : List Mark) (own rest : List Scalar) (r : Reply Scalar) → AreWellTyped u.model names w.memory below own → Makes g r → Comes (Leaves u names w.memory (g ∷ below) rest) (pushing (own ++ rest) r)
  pushed_made g below own rest (goes v after) are made = record {
    own = v ∷ own;
    is = refl;
    well_typed = subst (λ memory. AreWellTyped u.model names memory (g ∷ below) (v ∷ own)) (sym made.1) (made.0, are);
    evolves = evolves_kept u.model w.memory after.memory made.1;
  }
  pushed_made g below own rest (stops why after) are made = made

  pushed_changed : (g : Mark) (below : List Mark) (own rest : List Scalar) (r : Reply Scalar) → AreStable below → AreWellTyped u.model names w.memory below own → Changes g r → Comes (Leaves u names w.memory (g ∷ below) rest) (pushing (own ++ rest) r)
  pushed_changed g below own rest (goes v after) stable are changed = record {
    own = v ∷ own;
    is = refl;
    well_typed = (changed.0, are_stable u.model names w.memory after.memory changed.1.grows below own stable are);
    evolves = changed.1;
  }
  pushed_changed g below own rest (stops why after) stable are changed = changed

  -- ---- effects on one value and on two

  pub one_made : (k g : Mark) (below : List Mark) (own rest : List Scalar) (effect : Scalar → World → Reply Scalar) → ((v : Scalar) → Has u.model names w.memory k v → Makes g (effect v w)) → AreWellTyped u.model names w.memory (k ∷ below) own → Comes (Leaves u names w.memory (g ∷ below) rest) (on_one (own ++ rest) w effect)
  one_made k g below [] rest effect h are = absurd are
  one_made k g below (v ∷ vs) rest effect h are = pushed_made g below vs rest (effect v w) are.1 (h v are.0)

  pub two_made : (order : Order) (left right g : Mark) (below : List Mark) (own rest : List Scalar) (effect : Scalar → Scalar → World → Reply Scalar) → ((a b : Scalar) → Has u.model names w.memory left a → Has u.model names w.memory right b → Makes g (effect a b w)) → AreWellTyped u.model names w.memory (operands order left right ++ below) own → Comes (Leaves u names w.memory (g ∷ below) rest) (on_two order (own ++ rest) w effect)
  two_made LeftFirst left right g below [] rest effect h are = absurd are
  two_made LeftFirst left right g below (b ∷ []) rest effect h are = absurd are.1
  two_made LeftFirst left right g below (b ∷ (a ∷ vs)) rest effect h are = pushed_made g below vs rest (effect a b w) are.1.1 (h a b are.1.0 are.0)
  two_made RightFirst left right g below [] rest effect h are = absurd are
  two_made RightFirst left right g below (a ∷ []) rest effect h are = absurd are.1
  two_made RightFirst left right g below (a ∷ (b ∷ vs)) rest effect h are = pushed_made g below vs rest (effect a b w) are.1.1 (h a b are.0 are.1.0)

  pub two_changed : (left right g : Mark) (below : List Mark) (own rest : List Scalar) (effect : Scalar → Scalar → World → Reply Scalar) → AreStable below → ((a b : Scalar) → Has u.model names w.memory left a → Has u.model names w.memory right b → Changes g (effect a b w)) → AreWellTyped u.model names w.memory (right ∷ (left ∷ below)) own → Comes (Leaves u names w.memory (g ∷ below) rest) (on_two LeftFirst (own ++ rest) w effect)
  two_changed left right g below [] rest effect stable h are = absurd are
  two_changed left right g below (b ∷ []) rest effect stable h are = absurd are.1
  two_changed left right g below (b ∷ (a ∷ vs)) rest effect stable h are = pushed_changed g below vs rest (effect a b w) stable are.1.1 (h a b are.1.0 are.0)

  -- ---- marks that give place to others

  module _ (before after : List Mark) (own rest : List Scalar) (r : Reply (List Scalar)) (are : AreWellTyped u.model names w.memory before own) where
    pub replacing : (taken given : List Mark) → Replaces taken given before after → ((below : List Mark) → AreWellTyped u.model names w.memory (taken ++ below) own → Comes (Leaves u names w.memory (given ++ below) rest) r) → Comes (Leaves u names w.memory after rest) r
    replacing taken given o h = subst (λ marks. Comes (Leaves u names w.memory marks rest) r) (sym o.2) (h o.0 (subst (λ marks. AreWellTyped u.model names w.memory marks own) o.1 are))

    pub rewriting : (taken given : List Mark) → Rewrites taken given before after → ((below : List Mark) → AreStable below → AreWellTyped u.model names w.memory (taken ++ below) own → Comes (Leaves u names w.memory (given ++ below) rest) r) → Comes (Leaves u names w.memory after rest) r
    rewriting taken given o h = subst (λ marks. Comes (Leaves u names w.memory marks rest) r) (sym o.3) (h o.0 o.1 (subst (λ marks. AreWellTyped u.model names w.memory marks own) o.2 are))
