-- The bases that a store reaches.
use Rattle.std.proofs.Common.{◌≡◌, ℕ, suc, ◌+◌, ◌/◌, ◌%◌, ◌<◌, ◌≤◌, Bool, true, false, cond, ◌||◌, Some, List, [], ◌∷◌, length, arith, subst, sym, refl, ap, ◌∙◌, inl, inr}
use Rattle.std.specs.Prelude.{slice_get, nat_lt, ◌==◌}
use Rattle.std.proofs.lemmas.Bool.{cases_Bool, and_parts, and_from, or_cases, or_right, lt-ltb, ltb-true, cases_eq, true≢false}
use Rattle.std.proofs.lemmas.Option.{slice_get_within, same_Some}
use Rattle.std.specs.Int.{bit_at}
use Rattle.std.proofs.lemmas.Nat.Bits.{bit_at-zero}
use Rattle.cc_base.specs.Lattices.{LatticeOf}
use Rattle.cc_base.specs.IntegerDomains.{IntegersOf}
use Rattle.c_layout.specs.declared.shapes.BaseInfo.{BaseInfo}
use Rattle.pointer_domain.specs.declared.base_sets.Bases.{Bases}
use Rattle.pointer_domain.specs.BaseSets.{no_base, word_of, bases_has, bases_with, bases_union, bases_within}
use Rattle.pointer_domain.specs.BaseFacts.{union_has, within_has, with_has_same, with_has_other}
use Rattle.value_domain.specs.declared.values.row_cells.Cell.{Cell}
use Rattle.store_cells.specs.Walks.{walk}
use Rattle.store_objects.specs.LiveBases.{most_bases, is_single_kind, is_literal_kind, only_base, has_base, with_base_if, add_single, single_bases, is_writable_in, add_writable, is_live_in, add_live, live_of}
use Rattle.store.specs.Stores.{reached_of}
use Rattle.store_sound.proofs.operations.Walks.{walk_meets}

or_true : (a b : Bool) → a ≡ true → (a || b) ≡ true
or_true a b h = rw h

union_keeps : (found more : Bases) (b : ℕ) → has_base found b ≡ true → has_base (bases_union found more) b ≡ true
union_keeps found more b h = let p = and_parts (nat_lt b most_bases) (bases_has found b) h in and_from _ _ p.0 (union_has found more b ∙ or_true _ _ p.1)

pub only_has : (b : ℕ) → b < most_bases → bases_has (only_base b) b ≡ true
only_has b h = rw (lt-ltb b most_bases h) (with_has_same no_base b)

union_adds : (found : Bases) (b : ℕ) → b < most_bases → has_base (bases_union found (only_base b)) b ≡ true
union_adds found b h = and_from _ _ (lt-ltb _ _ h) (union_has found (only_base b) b ∙ or_right _ _ (only_has b h))

pub if_keeps : (wanted : Bool) (number : ℕ) (found : Bases) (b : ℕ) → has_base found b ≡ true → has_base (with_base_if wanted number found) b ≡ true
if_keeps true number found b h = union_keeps found (only_base number) b h
if_keeps false number found b h = h

pub if_adds : (wanted : Bool) (found : Bases) (b : ℕ) → wanted ≡ true → b < most_bases → has_base (with_base_if wanted b found) b ≡ true
if_adds true found b e h = union_adds found b h
if_adds false found b e h = cc

module _ {I : Type 0} (l : LatticeOf I) (n : IntegersOf I) (bases : List BaseInfo) (few : length bases ≤ most_bases) (row : List (Cell I)) where
  pub in_live : (set : Bases) (b : ℕ) (base : BaseInfo) → slice_get bases b ≡ Some base → is_live_in l n row set base b ≡ true → has_base (live_of l n bases row set) b ≡ true
  in_live set b base e h =
      let w = slice_get_within bases b base e in
      walk_meets (λ s. has_base s b ≡ true) (add_live l n row set) (λ k at s g. if_keeps (is_live_in l n row set k at) at s b g) 0 bases no_base b b base e (omega arith)
      (λ s. if_adds (is_live_in l n row set base b) s b h (omega arith))

  pub in_reached : (set : Bases) (b : ℕ) (base : BaseInfo) → slice_get bases b ≡ Some base → is_live_in l n row set base b ≡ true → is_literal_kind base.kind ≡ false → has_base (reached_of l n bases row set) b ≡ true
  in_reached set b base e h p =
      let w = slice_get_within bases b base e in
      let g = in_live set b base e h in
      walk_meets (λ s. has_base s b ≡ true) (add_writable (live_of l n bases row set)) (λ k at s g. if_keeps (is_writable_in (live_of l n bases row set) k at) at s b g) 0 bases no_base b b base e (omega arith)
      (λ s. if_adds (is_writable_in (live_of l n bases row set) base b) s b (and_from _ _ g (rw p refl)) (omega arith))

-- ---- one base

zero_cond : (b : Bool) (x : ℕ) → x ≡ 0 → cond b 0 x ≡ 0
zero_cond true x e = refl
zero_cond false x e = e

no_word : (i : ℕ) → word_of no_base i ≡ 0
no_word i = zero_cond (i == 0) _ (zero_cond (i == 1) _ (zero_cond (i == 2) _ (zero_cond (i == 3) _ (zero_cond (i == 4) _ (zero_cond (i == 5) _ (zero_cond (i == 6) 0 refl))))))

pub none_has : (b : ℕ) → bases_has no_base b ≡ false
none_has b = ap (λ w. bit_at w (b % 128) == 1) (no_word (b / 128)) ∙ ap (λ z. z == 1) (bit_at-zero (b % 128))

pub only_is : (c b : ℕ) → b < most_bases → bases_has (only_base c) b ≡ true → b ≡ c
only_is c b s h = elim (cases_Bool (nat_lt c most_bases)) [
  | inr e ↦ (let g : bases_has no_base b ≡ true = rw e at h in absurd (true≢false (sym g ∙ none_has b)))
  | inl e ↦ (let g : bases_has (bases_with no_base c) b ≡ true = rw e at h in
      elim (cases_eq c b) [ inl f ↦ sym f | inr f ↦ (let k = with_has_other no_base c b (ltb-true _ _ e) s f in absurd (true≢false (sym g ∙ (k ∙ none_has b)))) ])
]

module _ (bases : List BaseInfo) (b : ℕ) (base : BaseInfo) (at : slice_get bases b ≡ Some base) (small : b < most_bases) where
  single_if : (kind : Bool) (c : ℕ) (found : Bases) → (bases_has found b ≡ true → is_single_kind base.kind ≡ true) → (b ≡ c → kind ≡ true → is_single_kind base.kind ≡ true) → bases_has (with_base_if kind c found) b ≡ true → is_single_kind base.kind ≡ true
  single_if false c found h k g = h g
  single_if true c found h k g = elim (or_cases (bases_has found b) (bases_has (only_base c) b) (sym (union_has found (only_base c) b) ∙ g)) [
    | inl e ↦ h e
    | inr e ↦ k (only_is c b small e) refl
  ]

  single_walk : (start : ℕ) (ks : List BaseInfo) (found : Bases) → ((j : ℕ) (k : BaseInfo) → slice_get ks j ≡ Some k → slice_get bases (start + j) ≡ Some k) → (bases_has found b ≡ true → is_single_kind base.kind ≡ true) → bases_has (walk add_single start ks found) b ≡ true → is_single_kind base.kind ≡ true
  single_walk start [] found h k g = k g
  single_walk start (x ∷ xs) found h k g = single_walk (start + 1) xs (add_single x start found)
      (λ j y e. subst (λ z. slice_get bases z ≡ Some y) (omega arith) (h (suc j) y e))
      (single_if (is_single_kind x.kind) start found k (λ d e.
      let f : slice_get bases (start + 0) ≡ Some x = h 0 x refl in
      let i : b ≡ start + 0 = omega arith in
      let w : base ≡ x = same_Some base x (sym at ∙ (ap (slice_get bases) i ∙ f)) in
      subst (λ z. is_single_kind z.kind ≡ true) (sym w) e)) g

  -- a set whose bases are all single ones
  pub is_single : (set : Bases) → bases_within set (single_bases bases) ≡ true → bases_has set b ≡ true → is_single_kind base.kind ≡ true
  is_single set w h = single_walk 0 bases no_base (λ j k e. subst (λ z. slice_get bases z ≡ Some k) (omega arith) e) (λ e. absurd (true≢false (sym e ∙ none_has b))) (within_has set (single_bases bases) b w h)
