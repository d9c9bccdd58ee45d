-- A store through a pointer to one object reaches it alone, whatever the row says.
use Rattle.std.proofs.Common.{◌≡◌, ℕ, suc, ◌+◌, ◌<◌, Bool, true, false, not, ◌&&◌, ◌||◌, Some, List, [], ◌∷◌, arith, subst, sym, refl, ap, ◌∙◌, inl, inr}
use Rattle.std.specs.Prelude.{slice_get, ◌⊎◌, nat_lt}
use Rattle.std.proofs.lemmas.Bool.{and_parts, ltb-true, true≢false}
use Rattle.std.proofs.lemmas.Option.{same_Some}
use Rattle.cc_base.specs.Lattices.{LatticeOf}
use Rattle.cc_base.specs.IntegerDomains.{IntegersOf}
use Rattle.c_layout.specs.declared.shapes.BaseInfo.{BaseInfo}
use Rattle.pointer_domain.specs.declared.base_sets.Bases.{Bases}
use Rattle.pointer_domain.specs.BaseSets.{no_base, bases_has}
use Rattle.pointer_domain.specs.BaseFacts.{union_has}
use Rattle.value_domain.specs.declared.values.row_cells.Cell.{Cell}
use Rattle.store_objects.specs.LiveBases.{most_bases, only_base, has_base, with_base_if, may_be_live, is_live_in, add_live, live_of, is_writable_in, writable_of}
use Rattle.store.specs.Stores.{reached_of}
use Rattle.store_cells.specs.Walks.{walk}
use Rattle.store_sound.proofs.operations.Sets.{none_has, only_is}

or_cases : (a b : Bool) → (a || b) ≡ true → (a ≡ true) ⊎ (b ≡ true)
or_cases true b h = inl refl
or_cases false b h = inr h

-- a base that was added is a wanted one
if_has : (wanted : Bool) (at d : ℕ) (found : Bases) → d < most_bases → bases_has (with_base_if wanted at found) d ≡ true → (bases_has found d ≡ true) ⊎ ((wanted ≡ true) × (d ≡ at))
if_has false at d found small h = inl h
if_has true at d found small h = elim (or_cases (bases_has found d) (bases_has (only_base at) d) (sym (union_has found (only_base at) d) ∙ h)) [
  | inl e ↦ inl e
  | inr e ↦ inr (refl, only_is at d small e)
]

walk_has : (wanted : BaseInfo → ℕ → Bool) (P : Type 0) (d : ℕ) → d < most_bases → ((base : BaseInfo) → wanted base d ≡ true → P) → (at : ℕ) (bases : List BaseInfo) (found : Bases) → (bases_has found d ≡ true → P) → bases_has (walk (λ base number s. with_base_if (wanted base number) number s) at bases found) d ≡ true → P
walk_has wanted P d small holds at [] found was h = was h
walk_has wanted P d small holds at (base ∷ bases) found was h = walk_has wanted P d small holds (at + 1) bases (with_base_if (wanted base at) at found)
    (λ g. elim (if_has (wanted base at) at d found small g) [
      | inl e ↦ was e
      | inr e ↦ holds base (subst (λ z. wanted base z ≡ true) (sym e.1) e.0)
    ]) h

module _ {I : Type 0} (l : LatticeOf I) (n : IntegersOf I) (bases : List BaseInfo) where
  live_has : (row : List (Cell I)) (set : Bases) (d : ℕ) → has_base (live_of l n bases row set) d ≡ true → has_base set d ≡ true
  live_has row set d h =
      let a = and_parts (nat_lt d most_bases) (bases_has (live_of l n bases row set) d) h in
      walk_has (is_live_in l n row set) (has_base set d ≡ true) d (ltb-true d most_bases a.0) (λ base e. (and_parts (has_base set d) (may_be_live l n base row) e).0) 0 bases no_base (λ e. absurd (true≢false (sym e ∙ none_has d))) a.1

  -- what is reached is of the set
  pub reached_has : (row : List (Cell I)) (set : Bases) (d : ℕ) → has_base (reached_of l n bases row set) d ≡ true → has_base set d ≡ true
  reached_has row set d h =
      let some : Bases = live_of l n bases row set in
      let a = and_parts (nat_lt d most_bases) (bases_has (writable_of bases some) d) h in
      live_has row set d (walk_has (is_writable_in some) (has_base some d ≡ true) d (ltb-true d most_bases a.0) (λ base e. (and_parts (has_base some d) _ e).0) 0 bases no_base (λ e. absurd (true≢false (sym e ∙ none_has d))) a.1)

  -- it is one base
  pub only_reached : (row : List (Cell I)) (b d : ℕ) → has_base (reached_of l n bases row (only_base b)) d ≡ true → d ≡ b
  only_reached row b d h =
      let a = and_parts (nat_lt d most_bases) (bases_has (only_base b) d) (reached_has row (only_base b) d h) in
      only_is b d (ltb-true d most_bases a.0) a.1

  -- ---- whatever the row says

  walk_same : (f g : BaseInfo → ℕ → Bases → Bases) (at : ℕ) (ks : List BaseInfo) (s : Bases) → ((j a : ℕ) (k : BaseInfo) (t : Bases) → slice_get ks j ≡ Some k → a ≡ at + j → f k a t ≡ g k a t) → walk f at ks s ≡ walk g at ks s
  walk_same f g at [] s h = refl
  walk_same f g at (k ∷ ks) s h = ap (walk f (at + 1) ks) (h 0 at k s refl (omega arith)) ∙ walk_same f g (at + 1) ks (g k at s) (λ j a x t e d. h (suc j) a x t e (omega (arith, d)))

  live_either : (has heap one other : Bool) → (has ≡ true → heap ≡ false) → (has && (not heap || one)) ≡ (has && (not heap || other))
  live_either false heap one other h = refl
  live_either true false one other h = refl
  live_either true true one other h = absurd (true≢false (h refl))

  pub reached_same : (b : ℕ) (info : BaseInfo) → slice_get bases b ≡ Some info → info.shape.heap ≡ false → (row other : List (Cell I)) → reached_of l n bases row (only_base b) ≡ reached_of l n bases other (only_base b)
  reached_same b info at declared row other = ap (writable_of bases) (walk_same (add_live l n row (only_base b)) (add_live l n other (only_base b)) 0 bases no_base (λ j a k t e d.
      ap (λ w. with_base_if w a t) (live_either (has_base (only_base b) a) k.shape.heap _ _ (λ h.
      let p = and_parts (nat_lt a most_bases) (bases_has (only_base b) a) h in
      let i = only_is b a (ltb-true a most_bases p.0) p.1 in
      let same : j ≡ b = omega (arith, d, i) in
      let f : info ≡ k = same_Some info k (sym at ∙ (sym (ap (slice_get bases) same) ∙ e)) in
      ap (λ z. z.shape.heap) (sym f) ∙ declared))))
