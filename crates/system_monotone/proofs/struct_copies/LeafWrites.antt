-- Leaves of structs that are written to more places of larger rows.
use Rattle.std.specs.Prelude.{◌≡◌, ℕ, ◌+◌, ◌<◌, ◌≤◌, ◌==◌, ℤ, Bool, true, false, cond, not, ◌&&◌, List, length, [], ◌∷◌, refl}
use Rattle.std.proofs.Common.{arith, ap, sym, subst, subst₂, inl, inr, ◌⊎◌}
use Rattle.std.proofs.lemmas.Bool.{and_parts, and_from, eqb-true, eq-eqb, ne_eqb, not-true, not_from_false}
use Rattle.std.proofs.lemmas.List.Sums.{sum_by-cons}
use Rattle.cc_base.specs.Lattices.{LatticeOf, OrderLaws}
use Rattle.cc_base.specs.IntegerDomains.{IntegersOf, BoundLaws, RangeLaws}
use Rattle.cc_base.specs.IntegerLaws.{MonotoneLaws}
use Rattle.c_layout.specs.declared.data_model.Model.{Model}
use Rattle.c_layout.specs.declared.leaf_lists.Class.{Class}
use Rattle.c_layout.specs.declared.leaf_lists.Class.TheVariants.{Char}
use Rattle.c_layout.specs.declared.leaf_lists.Leaf.{Leaf}
use Rattle.c_layout.specs.declared.shapes.BaseInfo.{BaseInfo}
use Rattle.pointer_domain.specs.declared.base_sets.Bases.{Bases}
use Rattle.pointer_domain.specs.BaseSets.{bases_within}
use Rattle.value_domain.specs.declared.values.values.Value as values
use Rattle.value_domain.specs.declared.values.row_cells.Cell.{Cell}
use Rattle.value_domain.specs.declared.values.row_cells.Cell.TheVariants.{Value}
use Rattle.value_domain.specs.Values.Values.{value_order}
use Rattle.domain_theorems.specs.Values.Consistency.{AreWords}
use Rattle.domain_theorems.proofs.values.Flags.{or_sets, and_sets}
use Rattle.store_cells.specs.ByteWrites.{byte_written}
use Rattle.store_cells.specs.CellReads.{as_stored}
use Rattle.store_cells.specs.ClassNumbers.{class_number, class_at, same_class}
use Rattle.store_objects.specs.LiveBases.{has_base}
use Rattle.store_cells.specs.NearValues.{near_value}
use Rattle.store_cells.specs.RowPositions.{cell_at, leaf_position, class_position, join_value}
use Rattle.store_monotone.specs.Operations.Placements.{EachFrom, IsPlaced}
use Rattle.store_monotone.specs.Operations.TopCells.{top_value}
use Rattle.store_monotone.proofs.operations.LiveSets.{has_monotone}
use Rattle.store_monotone.proofs.operations.Loads.{class_small}
use Rattle.store_monotone.proofs.operations.NearCells.{near_value_is}
use Rattle.store_monotone.proofs.operations.PairedSteps.{Step, walk_pair, walk_step, turns_step, then_step, if_step, same_step}
use Rattle.store_monotone.proofs.operations.Windows.{window_is}
use Rattle.store_struct_leaves.specs.declared.copy_places.Span.{Span}
use Rattle.store_struct_leaves.specs.declared.leaf_copies.LeafAccess.{LeafAccess}
use Rattle.store_struct_leaves.specs.CopyPlaces.{span_is_one, is_reached, is_touched, reached_count}
use Rattle.store_struct_leaves.specs.LeafCopies.{reaches_class, is_touched_or, any_touched, has_own_place, has_other_place, has_place, has_place_or, any_place, is_strong, with_flag, write_leaf_at, write_own_leaf, write_class_cell, write_leaves, write_own, write_other_at, write_other_leaf, write_class_byte, write_class_bytes, write_bytes, write_other_leaves, write_others, write_base, write_base_if, write_to, write_all, write_leaf}
use Rattle.store_monotone.specs.Structs.LargerSpans.{SpanWithin, IsMetToo, ReachesMore}
use Rattle.transfer_monotone.specs.Values.RisingRows.{ValuesRise, RowsRise, LeftRise}
use Rattle.transfer_monotone.proofs.values.RisingCells.{left_if}
use Rattle.system_monotone.proofs.library_writes.WrittenCells.{join_rises, write_rises}
use Rattle.system_monotone.proofs.struct_copies.CopiedValues.{even_of, stored_rises, written_rises}
use Rattle.system_monotone.proofs.struct_copies.LeafReads.{access_of, met_leaves, class_more, class_heap}

-- ---- places

counted : (a c : Bool) → (a ≡ true → c ≡ true) → cond {A = ℕ} a 1 0 ≤ cond c 1 0
counted false c h = omega arith
counted true true h = omega arith
counted true false h = absurd (let e : false ≡ true = h refl in cc)

module _ (m : Model) (class : Class) (signed : Bool) (w u : Span) (i : SpanWithin w u) where
  reached_more : (at : ℕ) (leaves : List Leaf) → EachFrom (λ leaf at. IsMetToo m w u leaf) at leaves → reached_count leaves class w ≤ reached_count leaves class u
  unfolding reached_count
  reached_more at [] h = omega arith
  reached_more at (leaf ∷ leaves) h =
      let r = reached_more (at + 1) leaves h.1 in
      let c = counted (is_reached leaf class w) (is_reached leaf class u) (h.0.own class) in
      let a = sum_by-cons (λ x. cond {A = ℕ} (is_reached x class w) 1 0) leaf leaves in
      let d = sum_by-cons (λ x. cond {A = ℕ} (is_reached x class u) 1 0) leaf leaves in
      omega arith

  not_zero : (a c : ℕ) → a ≤ c → not (a == 0) ≡ true → not (c == 0) ≡ true
  not_zero a c h e = not_from_false _ (ne_eqb c 0 (λ (f : c ≡ 0). let g : (a == 0) ≡ true = eq-eqb a 0 (omega arith) in let k = not-true (a == 0) e in absurd (cc)))

  touched_more : (base : BaseInfo) → ReachesMore m base → any_touched m base.shape.cells w ≡ true → any_touched m base.shape.cells u ≡ true
  unfolding any_touched
  touched_more base q = walk_pair (λ leaf at. IsMetToo m w u leaf) (λ s t. s ≡ true → t ≡ true) (is_touched_or m w) (is_touched_or m u)
      (λ leaf at s t e h. or_sets s (is_touched m leaf w) t (is_touched m leaf u) h e.other) 0 base.shape.cells false false (q.leaves w u i) (λ h. h)

  place_more : (base : BaseInfo) → ReachesMore m base → has_place m base (access_of class signed w) ≡ true → has_place m base (access_of class signed u) ≡ true
  unfolding has_place has_own_place has_other_place
  place_more base q = or_sets _ _ _ _
      (or_sets _ _ _ _ (not_zero (reached_count base.shape.cells class w) (reached_count base.shape.cells class u) (reached_more 0 base.shape.cells (q.leaves w u i))) (class_more m base q class signed w u i))
      (and_sets (same_class class Char) _ (same_class class Char) _ (λ e. e) (or_sets base.shape.heap _ base.shape.heap _ (λ e. e) (or_sets _ _ _ _ (touched_more base q) (q.padding w u i))))

  any_more : (bases : List BaseInfo) → EachFrom (λ base number. ReachesMore m base) 0 bases → (set more : Bases) → bases_within set more ≡ true → any_place m bases set (access_of class signed w) ≡ true → any_place m bases more (access_of class signed u) ≡ true
  unfolding any_place
  any_more bases each set more k =
      let small : LeafAccess = access_of class signed w in
      let large : LeafAccess = access_of class signed u in
      walk_pair (λ base number. ReachesMore m base) (λ s t. s ≡ true → t ≡ true) (has_place_or m set small) (has_place_or m more large)
      (λ base number s t q h. or_sets s _ t _ h (and_sets (has_base set number) (has_place m base small) (has_base more number) (has_place m base large) (has_monotone set more number k) (place_more base q)))
      0 bases false false each (λ h. h)

  -- where the larger span is one offset, the smaller one is it
  same_span : span_is_one u ≡ true → w ≡ u
  same_span e =
      let p = and_parts (u.count == 1) (u.first.lo == u.first.hi) e in
      let f = window_is w.first u.first (record { lo = i.lo; some = i.some; hi = i.hi; near = i.near }) (eqb-true u.first.lo u.first.hi p.1) in
      λ j. record { first = f j; stride = i.stride j; count = i.count j }

module _ {I : Type 0} {l : LatticeOf I} {n : IntegersOf I} {stands : I → ℤ → Type 0} (o : OrderLaws l) (b : BoundLaws l n stands) (g : MonotoneLaws l n) (f : RangeLaws l n) (m : Model) (all : Bases) (words : AreWords all) (top : List (Cell I)) where
  abbrev Rise : List (Cell I) → List (Cell I) → Type 0
  Rise r s = RowsRise l n top r s

  module _ (class : Class) (signed : Bool) (w u : Span) (i : SpanWithin w u) (x y : values.Value I) (v : ValuesRise l n all x y) (one two : Bool) where
    abbrev small : LeafAccess
    small = access_of class signed w

    abbrev large : LeafAccess
    large = access_of class signed u

    module _ (base : BaseInfo) (p : IsPlaced n all top base) (q : ReachesMore m base) (on : Bool) (alone : two ≡ true → (on ≡ true) × (one ≡ true)) where
      strong_same : (leaf : Leaf) → is_reached leaf class u ≡ true → is_strong leaf large two ≡ true → (on ≡ true) × (is_reached leaf class w ≡ true) × (is_strong leaf small one ≡ true)
      strong_same leaf e s =
          let c = and_parts two (span_is_one u && (leaf.count == 1)) s in
          let d = and_parts (span_is_one u) (leaf.count == 1) c.1 in
          let z = alone c.0 in
          let same : w ≡ u = same_span m class signed w u i d.0 in
          (z.0, subst (λ t. is_reached leaf class t ≡ true) (sym same) e, and_from _ _ z.1 (subst (λ t. (span_is_one t && (leaf.count == 1)) ≡ true) (sym same) c.1))

      leaves_step : Step Rise on (write_leaves l n m base small x one) (write_leaves l n m base large y two)
      unfolding write_leaves write_leaf_at
      leaves_step = walk_step (λ leaf at. (at < length base.shape.cells) × IsMetToo m w u leaf) Rise on (write_own_leaf l n m base small x one) (write_own_leaf l n m base large y two)
          (λ leaf at e r s j.
          let z = stored_rises o b all words g f m class leaf.signed x y v in
          write_rises o b all top (leaf_position base at) (p.leaf at e.0) r s j (as_stored n m x class leaf.signed) (as_stored n m y class leaf.signed) z.below z.own (even_of o b all words (as_stored n m x class leaf.signed) (as_stored n m y class leaf.signed) z)
          on (is_reached leaf class w) (is_reached leaf class u) (is_strong leaf small one) (is_strong leaf large two) (e.1.own class) (strong_same leaf))
          0 base.shape.cells (met_leaves m base q w u i)

      -- a value that a cell is joined with
      join_step : (at : ℕ) (t z : values.Value I) → ValuesRise l n all t z → (c d : Bool) → (c ≡ true → d ≡ true) → (now : Bool) → cell_at top at ≡ Value (top_value n all) → Step Rise now (λ r. cond c (join_value l n r at t) r) (λ s. cond d (join_value l n s at z) s)
      join_step at t z k c d a now e r s j = join_rises o b all top at e r s j t z k.below k.own (even_of o b all words t z k) now c d a

      class_step : Step Rise on (write_class_cell l n m base small x) (write_class_cell l n m base large y)
      unfolding write_class_cell
      class_step = if_step Rise on (reaches_class base small) (reaches_class base large)
          (λ r. join_value l n r (class_position base (class_number class)) (as_stored n m x class true)) (λ r. join_value l n r (class_position base (class_number class)) (as_stored n m y class true))
          (class_more m base q class signed w u i)
          (λ e now c d. join_step (class_position base (class_number class)) (as_stored n m x class true) (as_stored n m y class true) (stored_rises o b all words g f m class true x y v) true true (λ z. z) now
          (p.class (class_number class) (class_heap base large e) (class_small class)))

      own_step : Step Rise on (write_own l n m base small x one) (write_own l n m base large y two)
      unfolding write_own
      own_step = then_step Rise on (write_class_cell l n m base small x) (write_class_cell l n m base large y) (write_leaves l n m base small x one) (write_leaves l n m base large y two) class_step leaves_step

      others_leaves_step : Step Rise on (write_other_leaves l n m base small x) (write_other_leaves l n m base large y)
      unfolding write_other_leaves write_other_at
      others_leaves_step = walk_step (λ leaf at. (at < length base.shape.cells) × IsMetToo m w u leaf) Rise on (write_other_leaf l n m base small x) (write_other_leaf l n m base large y)
          (λ leaf at e. join_step (leaf_position base at) (with_flag (byte_written l n m leaf.class leaf.signed x.labels) x.indeterminate) (with_flag (byte_written l n m leaf.class leaf.signed y.labels) y.indeterminate)
          (written_rises o b all words m leaf.class leaf.signed x y v) (is_touched m leaf w) (is_touched m leaf u) e.1.other on (p.leaf at e.0))
          0 base.shape.cells (met_leaves m base q w u i)

      class_bytes_step : base.shape.heap ≡ true → Step Rise on (write_class_bytes l n m base x) (write_class_bytes l n m base y)
      unfolding write_class_bytes write_class_byte
      class_bytes_step heap = turns_step Rise on (write_class_byte l n m base x) (write_class_byte l n m base y) 5
          (λ at e. join_step (class_position base (at + 1)) (with_flag (byte_written l n m (class_at (at + 1)) true x.labels) x.indeterminate) (with_flag (byte_written l n m (class_at (at + 1)) true y.labels) y.indeterminate)
          (written_rises o b all words m (class_at (at + 1)) true x y v) true true (λ z. z) on (p.class (at + 1) heap (omega arith)))
          5 (omega arith)

      stay : Step Rise on (λ r. r) (λ s. s)
      stay r s j = by_way on
        where
          by_way : (now : Bool) → Rise (cond now r r) s
          by_way true = j
          by_way false = j

      bytes_step : Step Rise on (write_bytes l n m base x) (write_bytes l n m base y)
      unfolding write_bytes
      bytes_step = same_step Rise on base.shape.heap (write_class_bytes l n m base x) (write_class_bytes l n m base y) (λ r. r) (λ r. r) class_bytes_step (λ e. stay)

      others_step : Step Rise on (write_others l n m base small x) (write_others l n m base large y)
      unfolding write_others
      others_step = then_step Rise on (write_bytes l n m base x) (write_bytes l n m base y) (write_other_leaves l n m base small x) (write_other_leaves l n m base large y) bytes_step others_leaves_step

      base_step : Step Rise on (write_base l n m base small x one) (write_base l n m base large y two)
      unfolding write_base
      base_step = then_step Rise on (write_own l n m base small x one) (write_own l n m base large y two)
          (λ r. cond (same_class class Char) (write_others l n m base small x r) r) (λ r. cond (same_class class Char) (write_others l n m base large y r) r)
          own_step (same_step Rise on (same_class class Char) (write_others l n m base small x) (write_others l n m base large y) (λ r. r) (λ r. r) (λ e. others_step) (λ e. stay))

    -- ---- all bases

    made : (set more : Bases) (number : ℕ) → has_base more number ≡ true → (now : Bool) → (now ≡ false → (true ≡ false) ⊎ (has_base set number ≡ false)) → set ≡ more → now ≡ true
    made set more number e true d same = refl
    made set more number e false d same = elim (d refl) [
      | inl t ↦ absurd (cc)
      | inr t ↦ absurd (let z : has_base set number ≡ has_base more number = ap (λ t. has_base t number) same in cc)
    ]

    all_rise : (bases : List BaseInfo) → EachFrom (λ base number. IsPlaced n all top base × ReachesMore m base) 0 bases → (set more : Bases) → bases_within set more ≡ true → (two ≡ true → (set ≡ more) × (one ≡ true))
        → (r s : List (Cell I)) → Rise r s → Rise (write_all l n m bases set small x one r) (write_all l n m bases more large y two s)
    unfolding write_all write_base_if
    all_rise bases each set more k alone r s j = walk_pair (λ base number. IsPlaced n all top base × ReachesMore m base) Rise (write_to l n m set small x one) (write_to l n m more large y two)
        (λ base number r s p j. if_step Rise true (has_base set number) (has_base more number) (write_base l n m base small x one) (write_base l n m base large y two) (has_monotone set more number k)
        (λ e now c d. base_step base p.0 p.1 now (λ z. (made set more number e now d (alone z).0, (alone z).1))) r s j)
        0 bases r s each j

  reaches_each : (at : ℕ) (bases : List BaseInfo) → EachFrom (λ base number. IsPlaced n all top base × ReachesMore m base) at bases → EachFrom (λ base number. ReachesMore m base) at bases
  reaches_each at [] h = tt
  reaches_each at (base ∷ bases) h = (h.0.1, reaches_each (at + 1) bases h.1)

  near_rises : (x y : values.Value I) → ValuesRise l n all x y → ValuesRise l n all (near_value l n x) (near_value l n y)
  near_rises x y v = subst₂ (λ s t. ValuesRise l n all s t) (sym (near_value_is o b x all ((value_order o).transitive x y (top_value n all) v.below v.own))) (sym (near_value_is o b y all v.own)) v

  -- a larger leaf in more places leaves a larger row
  pub leaf_written : (bases : List BaseInfo) → EachFrom (λ base number. IsPlaced n all top base × ReachesMore m base) 0 bases → (set more : Bases) → bases_within set more ≡ true → (class : Class) (signed : Bool) (w u : Span) → SpanWithin w u
      → (x y : values.Value I) → ValuesRise l n all x y → (one two : Bool) → (two ≡ true → (set ≡ more) × (one ≡ true)) → (r s : List (Cell I)) → RowsRise l n top r s
      → LeftRise l n top (write_leaf l n m bases set (access_of class signed w) x one r) (write_leaf l n m bases more (access_of class signed u) y two s)
  unfolding write_leaf
  leaf_written bases each set more k class signed w u i x y v one two alone r s j =
      left_if l n top (any_place m bases set (access_of class signed w)) (any_place m bases more (access_of class signed u)) _ _
      (any_more m class signed w u i bases (reaches_each 0 bases each) set more k)
      (λ e. all_rise class signed w u i (near_value l n x) (near_value l n y) (near_rises x y v) one two bases each set more k alone r s j)
