-- Sets of one base, and of none, in a program of objects alone.
use Rattle.std.proofs.Common.{◌≡◌, ℕ, ◌<◌, Bool, true, false, cond, not, ◌&&◌, Some, List, arith, refl, ap, ◌∙◌, inl, inr}
use Rattle.std.specs.Prelude.{slice_get, nat_lt}
use Rattle.std.proofs.lemmas.Bool.{cases_Bool, and_from, and_parts, lt-ltb, ltb-true}
use Rattle.std.proofs.Math.Bool.{or-false}
use Rattle.cc_base.specs.Lattices.{LatticeOf}
use Rattle.cc_base.specs.IntegerDomains.{IntegersOf}
use Rattle.c_layout.specs.declared.shapes.BaseInfo.{BaseInfo}
use Rattle.pointer_domain.specs.declared.base_sets.Bases.{Bases}
use Rattle.pointer_domain.specs.BaseSets.{no_base, bases_has, bases_empty}
use Rattle.pointer_domain.specs.BaseFacts.{union_within, with_has_same}
use Rattle.value_domain.specs.declared.values.row_cells.Cell.{Cell}
use Rattle.store_cells.specs.RowPositions.{state_at, state_position}
use Rattle.domain_theorems.proofs.values.BaseChanges.{has_none}
use Rattle.domain_theorems.proofs.values.Bases.{empty_within}
use Rattle.domain_theorems.proofs.values.EqualityStands.{has_some}
use Rattle.store_objects.specs.LiveBases.{most_bases, is_literal_kind, only_base, has_base, with_base_if, add_writable, writable_of, may_be_live, add_live, live_of, is_freed_or, any_freed}
use Rattle.transfer_checks.specs.Touches.{is_literal_or, any_literal}
use Rattle.store_sound.proofs.operations.Sets.{only_is}
use Rattle.transfer_exact.proofs.places.OneTurn.{walk_idle, walk_once}

abbrev pub AreObjects : List BaseInfo → Type 0
AreObjects bases = (b : ℕ) (base : BaseInfo) → slice_get bases b ≡ Some base → base.shape.heap ≡ false

-- ---- one base

pub has_own : (b : ℕ) → b < most_bases → has_base (only_base b) b ≡ true
has_own b h = let e = lt-ltb b most_bases h in and_from _ _ e (rw e (with_has_same no_base b))

pub has_no_other : (b d : ℕ) → (d ≡ b → ⊥) → has_base (only_base b) d ≡ false
has_no_other b d h = elim (cases_Bool (nat_lt d most_bases)) [
  | inr e ↦ rw e refl
  | inl e ↦ elim (cases_Bool (bases_has (only_base b) d)) [
    | inr f ↦ rw (e, f) refl
    | inl f ↦ absurd (h (only_is b d (ltb-true _ _ e) f))
  ]
]

pub not_empty : (b : ℕ) → b < most_bases → bases_empty (only_base b) ≡ false
not_empty b h = has_some (only_base b) b (and_parts (nat_lt b most_bases) (bases_has (only_base b) b) (has_own b h)).1

added : (wanted : Bool) (b : ℕ) → with_base_if wanted b no_base ≡ cond wanted (only_base b) no_base
added true b = union_within no_base (only_base b) (empty_within no_base (only_base b) refl)
added false b = refl

module _ (bases : List BaseInfo) (b : ℕ) (base : BaseInfo) (at : slice_get bases b ≡ Some base) (small : b < most_bases) where
  -- those of the set that may be written
  pub writable_is : writable_of bases (only_base b) ≡ cond (not (is_literal_kind base.kind)) (only_base b) no_base
  writable_is =
      walk_once (add_writable (only_base b)) 0 bases no_base b b base at (omega arith) (λ i d other e f n t. rw (has_no_other b d (λ g. n (omega (arith, f, g)))) refl)
      ∙ (ap (λ z. with_base_if (z && not (is_literal_kind base.kind)) b no_base) (has_own b small) ∙ added (not (is_literal_kind base.kind)) b)

  pub literal_is : any_literal bases (only_base b) ≡ is_literal_kind base.kind
  unfolding any_literal
  literal_is =
      walk_once (is_literal_or (only_base b)) 0 bases false b b base at (omega arith) (λ i d other e f n t. rw (has_no_other b d (λ g. n (omega (arith, f, g)))) (or-false t))
      ∙ ap (λ z. z && is_literal_kind base.kind) (has_own b small)

  module _ {I : Type 0} (l : LatticeOf I) (n : IntegersOf I) (row : List (Cell I)) (object : base.shape.heap ≡ false) where
    pub live_is : live_of l n bases row (only_base b) ≡ only_base b
    live_is =
        walk_once (add_live l n row (only_base b)) 0 bases no_base b b base at (omega arith) (λ i d other e f n t. rw (has_no_other b d (λ g. n (omega (arith, f, g)))) refl)
        ∙ (ap (λ z. with_base_if (z && may_be_live l n base row) b no_base) (has_own b small) ∙ (rw object (added true b)))

-- ---- no base

no_has : (set : Bases) → bases_empty set ≡ true → (b : ℕ) → has_base set b ≡ false
no_has set h b = elim (cases_Bool (bases_has set b)) [ inl e ↦ absurd (has_none set b h e) | inr e ↦ and_no (nat_lt b most_bases) (bases_has set b) e ]
  where
    and_no : (x y : Bool) → y ≡ false → (x && y) ≡ false
    and_no true y h = h
    and_no false y h = refl

module _ (bases : List BaseInfo) (set : Bases) (empty : bases_empty set ≡ true) where
  pub none_literal : any_literal bases set ≡ false
  unfolding any_literal
  none_literal = walk_idle (is_literal_or set) 0 bases false (λ j d other e f. rw (no_has set empty d) refl)

  pub none_live : {I : Type 0} (l : LatticeOf I) (n : IntegersOf I) (row : List (Cell I)) → live_of l n bases row set ≡ no_base
  none_live l n row = walk_idle (add_live l n row set) 0 bases no_base (λ j d other e f. rw (no_has set empty d) refl)

-- ---- nothing is freed where nothing is allocated

and_none : (x y : Bool) → (x && (false && y)) ≡ false
and_none true y = refl
and_none false y = refl

pub none_freed : {I : Type 0} (l : LatticeOf I) (n : IntegersOf I) (bases : List BaseInfo) → AreObjects bases → (row : List (Cell I)) (set : Bases) → any_freed l n bases row set ≡ false
none_freed l n bases objects row set = walk_idle (is_freed_or l n row set) 0 bases false (λ j d base e f. rw (objects j base e) (and_none (has_base set d) (state_at l n row (state_position base)).freed))
