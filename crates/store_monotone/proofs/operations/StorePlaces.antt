-- Where there is something to store and a place for it, there is for larger values, sets and windows.
use Rattle.std.specs.Prelude.{◌≡◌, ℕ, ◌≤◌, ◌==◌, ℤ, Bool, true, false, cond, not, ◌&&◌, Some, None, is_none, List, [], ◌∷◌, count_by, refl}
use Rattle.std.proofs.lemmas.List.Sums.{sum_by-cons}
use Rattle.std.proofs.Common.{arith, inl, inr}
use Rattle.std.proofs.lemmas.Bool.{and_parts, eq-eqb, or_cases, not_from_false, not-true, ne_eqb}
use Rattle.cc_base.specs.Lattices.{LatticeOf, OrderLaws}
use Rattle.cc_base.specs.NumberRanges.{Range}
use Rattle.cc_base.specs.IntegerDomains.{IntegersOf, BoundLaws}
use Rattle.c_layout.specs.declared.data_model.Model.{Model}
use Rattle.c_layout.specs.declared.leaf_lists.Class.{Class}
use Rattle.c_layout.specs.declared.leaf_lists.Class.TheVariants.{Char}
use Rattle.c_layout.specs.declared.leaf_lists.Leaf.{Leaf}
use Rattle.c_layout.specs.declared.shapes.BaseInfo.{BaseInfo}
use Rattle.pointer_domain.specs.declared.base_sets.Bases.{Bases}
use Rattle.pointer_domain.specs.declared.pointer_sets.Pointers.{Pointers}
use Rattle.pointer_domain.specs.BaseSets.{bases_within, bases_empty}
use Rattle.pointer_domain.specs.PointerTables.{is_any}
use Rattle.value_domain.specs.declared.values.values.Value.{Value}
use Rattle.value_domain.specs.Values.Values.{value_lattice}
use Rattle.store_cells.specs.declared.access_windows.Window.{Window}
use Rattle.store_cells.specs.declared.cell_reads.Access.{Access}
use Rattle.store_cells.specs.ClassNumbers.{is_pointer, same_class}
use Rattle.store.specs.LeafSelection.{selected_count, is_other}
use Rattle.store_objects.specs.LiveBases.{has_base}
use Rattle.store.specs.Stores.{has_own_place, has_other_place, has_place, has_place_or, any_place, is_other_or, any_other, is_nothing}
use Rattle.store_monotone.specs.Operations.Placements.{EachFrom, WindowWithin, IsRegular}
use Rattle.store_monotone.proofs.operations.PairedSteps.{walk_pair, any_each}
use Rattle.domain_theorems.proofs.values.Parts.{PointersBelow, value_parts, pointer_parts}
use Rattle.domain_theorems.proofs.values.Flags.{flag_sets}
use Rattle.store_monotone.proofs.operations.Windows.{selected_monotone, other_monotone}
use Rattle.store_monotone.proofs.operations.LiveSets.{has_monotone}
use Rattle.store_monotone.proofs.operations.Loads.{reaches_monotone}
use Rattle.domain_theorems.proofs.values.Bases.{empty_below}
use Rattle.domain_theorems.proofs.values.Flags.{or_sets, and_sets, not_sets}

counted : (a b : Bool) → (a ≡ true → b ≡ true) → cond {A = ℕ} a 1 0 ≤ cond b 1 0
counted false b h = omega arith
counted true true h = omega arith
counted true false h = absurd (let e : false ≡ true = h refl in cc)

count_monotone : {K : Type 0} (p q : K → Bool) → ((k : K) → p k ≡ true → q k ≡ true) → (ks : List K) → count_by p ks ≤ count_by q ks
count_monotone p q h [] = omega arith
count_monotone p q h (k ∷ ks) = let r = count_monotone p q h ks in let c = counted (p k) (q k) (h k) in let a = sum_by-cons (λ x. cond {A = ℕ} (p x) 1 0) k ks in let d = sum_by-cons (λ x. cond {A = ℕ} (q x) 1 0) k ks in omega arith

not_zero : (a b : ℕ) → a ≤ b → not (a == 0) ≡ true → not (b == 0) ≡ true
not_zero a b h e = not_from_false _ (ne_eqb b 0 (λ (f : b ≡ 0). let g : (a == 0) ≡ true = eq-eqb a 0 (omega arith) in let k = not-true (a == 0) e in absurd (cc)))

module _ {I : Type 0} {l : LatticeOf I} {n : IntegersOf I} {stands : I → ℤ → Type 0} (o : OrderLaws l) (b : BoundLaws l n stands) where
  pub any_monotone : (p q : Pointers I) → PointersBelow l p q → is_any p ≡ true → is_any q ≡ true
  any_monotone p q h = or_sets (not (bases_empty p.bases)) p.null (not (bases_empty q.bases)) q.null (not_sets (bases_empty p.bases) (bases_empty q.bases) (empty_below p.bases q.bases h.bases)) (flag_sets p.null q.null h.null)

  pub bounds_some : (x y : I) (r s : Range) → n.bounds x ≡ r → n.bounds y ≡ s → l.leq x y ≡ true → is_none s ≡ true → is_none r ≡ true
  bounds_some x y None s e f h k = refl
  bounds_some x y (Some p) None e f h k = absurd (let w = b.wider x y p.0 p.1 h e in let g : n.bounds y ≡ Some (w.0, w.1) = w.2 in cc)
  bounds_some x y (Some p) (Some q) e f h k = k

  -- nothing to store of a larger value, nothing of a smaller one
  pub nothing_monotone : (class : Class) (v w : Value I) → (value_lattice l).leq v w ≡ true → is_nothing n class w ≡ true → is_nothing n class v ≡ true
  nothing_monotone class v w h = by_class (is_pointer class)
    where
      by_class : (c : Bool) → cond c (not (is_any w.pointer) && not w.pointer.ended) (is_none (n.bounds w.num)) ≡ true → cond c (not (is_any v.pointer) && not v.pointer.ended) (is_none (n.bounds v.num)) ≡ true
      by_class true = let p = pointer_parts l v.pointer w.pointer (value_parts l v w h).pointer in
          and_sets (not (is_any w.pointer)) (not w.pointer.ended) (not (is_any v.pointer)) (not v.pointer.ended) (not_sets (is_any w.pointer) (is_any v.pointer) (any_monotone v.pointer w.pointer p)) (not_sets w.pointer.ended v.pointer.ended (flag_sets v.pointer.ended w.pointer.ended p.ended))
      by_class false = bounds_some v.num w.num (n.bounds v.num) (n.bounds w.num) refl refl (value_parts l v w h).num

module _ (m : Model) (class : Class) (signed : Bool) (w u : Window) (i : WindowWithin w u) where
  other_any : (leaves : List Leaf) → any_other m leaves w ≡ true → any_other m leaves u ≡ true
  unfolding any_other
  other_any leaves = walk_pair (λ leaf at. Unit {0}) (λ s t. s ≡ true → t ≡ true) (is_other_or m w) (is_other_or m u)
      (λ leaf at s t e h. or_sets s (is_other m leaf w) t (is_other m leaf u) h (other_monotone m leaf w u i)) 0 leaves false false (any_each 0 leaves) (λ h. h)

  place_monotone : (base : BaseInfo) → IsRegular m base → has_place m base (record { class = class; signed = signed; window = w }) ≡ true → has_place m base (record { class = class; signed = signed; window = u }) ≡ true
  unfolding has_place has_own_place has_other_place
  place_monotone base q = or_sets _ _ _ _
      (or_sets _ _ _ _ (not_zero (selected_count base.shape.cells class w) (selected_count base.shape.cells class u) (count_monotone _ _ (λ leaf e. selected_monotone leaf class w u i e) base.shape.cells)) (reaches_monotone m base q class signed w u i))
      (and_sets (same_class class Char) _ (same_class class Char) _ (λ e. e) (or_sets base.shape.heap _ base.shape.heap _ (λ e. e) (or_sets _ _ _ _ (other_any base.shape.cells) (q.padding w u i))))

  -- some base has a place
  pub any_place_monotone : (bases : List BaseInfo) → EachFrom (λ base number. IsRegular m base) 0 bases → (set more : Bases) → bases_within set more ≡ true → any_place m bases set (record { class = class; signed = signed; window = w }) ≡ true → any_place m bases more (record { class = class; signed = signed; window = u }) ≡ true
  unfolding any_place
  any_place_monotone bases each set more within =
      let small : Access = record { class = class; signed = signed; window = w } in
      let large : Access = record { class = class; signed = signed; window = u } in
      walk_pair (λ base number. IsRegular m base) (λ s t. s ≡ true → t ≡ true) (has_place_or m set small) (has_place_or m more large)
      (λ base number s t q h. or_sets s _ t _ h (and_sets (has_base set number) (has_place m base small) (has_base more number) (has_place m base large) (has_monotone set more number within) (place_monotone base q)))
      0 bases false false each (λ h. h)

  -- and so the set is not empty
  pub place_has : (bases : List BaseInfo) (set : Bases) → any_place m bases set (record { class = class; signed = signed; window = w }) ≡ true → (number : ℕ) × (has_base set number ≡ true)
  unfolding any_place
  place_has bases set =
      let small : Access = record { class = class; signed = signed; window = w } in
      walk_pair (λ base number. Unit {0}) (λ s t. s ≡ true → (number : ℕ) × (has_base set number ≡ true)) (has_place_or m set small) (has_place_or m set small)
      (λ base number s t q h e. elim (or_cases s (has_base set number && has_place m base small) e) [ inl f ↦ h f | inr f ↦ (number, (and_parts (has_base set number) (has_place m base small) f).0) ])
      0 bases false false (any_each 0 bases) (λ h. absurd (cc))
