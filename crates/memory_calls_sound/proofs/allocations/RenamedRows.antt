-- A row under new names, in which the cells of the newest base of a site are joined into those of the older one.
use Rattle.std.proofs.Common.{◌≡◌, ℕ, zero, suc, ◌+◌, ◌<◌, ◌≤◌, Bool, true, false, cond, List, [], ◌∷◌, length, arith, sym, refl, ap, ◌∙◌, inl, inr}
use Rattle.std.specs.Prelude.{map}
use Rattle.std.proofs.lemmas.Bool.{cases_eq}
use Rattle.std.proofs.lemmas.List.{length-map}
use Rattle.cc_base.specs.Lattices.{LatticeOf}
use Rattle.cc_base.specs.IntegerDomains.{IntegersOf}
use Rattle.c_layout.specs.declared.data_model.Model.{Model}
use Rattle.c_layout.specs.declared.shapes.BaseInfo.{BaseInfo}
use Rattle.cfg.specs.WellFormed.{base_values}
use Rattle.pointer_domain.specs.BaseSets.{bases_has, no_base, bases_with, bases_without}
use Rattle.pointer_domain.specs.declared.pointer_sets.Pointers.{Pointers}
use Rattle.value_domain.specs.Strings.FirstZeros.{zero_lattice}
use Rattle.value_domain.specs.Values.AllocStates.{state_lattice}
use Rattle.value_domain.specs.Values.Values.{value_lattice}
use Rattle.value_domain.specs.declared.values.row_cells.Cell.{Cell}
use Rattle.value_domain.specs.declared.values.row_cells.Cell.TheVariants.{Nothing, Value, First, State, Mixed}
use Rattle.store_objects.specs.Allocations.{is_named, site_of, renamed_cell, join_cell, join_values, join_part, join_zeros, join_state, join_base}
use Rattle.store_cells.specs.NearValues.{near_number, near_value}
use Rattle.store_cells.specs.RowPositions.{leaf_position, zero_position, state_position, value_count, value_in, zero_in, state_in, cell_at, value_at, zero_at, state_at, near_state, join_value, join_zero}
use Rattle.store_cells.specs.Walks.{turns}
use Rattle.store_sound.proofs.operations.Only.{Only, only_more, only_put, only_then, cell_put, Leaves, only_leaves}
use Rattle.store_sound.proofs.operations.Sets.{none_has}
use Rattle.store_sound.proofs.operations.StoreRows.{Fits, zero_is}
use Rattle.store_sound.proofs.operations.StoreValues.{same_value, same_zero, same_state, written, join_is}
use Rattle.store_sound.proofs.regions.Layers.{only_turns, leaves_turns}
use Rattle.memory_calls_sound.proofs.allocations.RenamedNames.{renamed_value, renamed_near}

-- ---- new names

module _ {I : Type 0} (l : LatticeOf I) (n : IntegersOf I) (newest older : ℕ) where
  renamed_at : (row : List (Cell I)) (x : ℕ) → cell_at (map (renamed_cell (site_of newest older)) row) x ≡ renamed_cell (site_of newest older) (cell_at row x)
  renamed_at [] x = refl
  renamed_at (c ∷ cs) zero = refl
  renamed_at (c ∷ cs) (suc x) = renamed_at cs x

  none_by : (named has : Bool) (p : Pointers I) → has ≡ false → cond named (cond has (record p { bases = bases_with (bases_without p.bases newest) older }) p) p ≡ p
  none_by true true p e = cc
  none_by true false p e = refl
  none_by false has p e = refl

  -- the least value has no pointer to rename
  least_renamed : renamed_value newest older (value_lattice l).least ≡ (value_lattice l).least
  least_renamed = ap (λ z. record ((value_lattice l).least) { pointer = z }) (none_by (is_named (site_of newest older)) (bases_has no_base newest) (value_lattice l).least.pointer (none_has newest))

  value_renamed : (c : Cell I) → value_in l (renamed_cell (site_of newest older) c) ≡ renamed_value newest older (value_in l c)
  value_renamed Nothing = sym least_renamed
  value_renamed (Value v) = refl
  value_renamed (First f) = sym least_renamed
  value_renamed (State s) = sym least_renamed
  value_renamed Mixed = sym least_renamed

  zero_renamed : (c : Cell I) → zero_in l (renamed_cell (site_of newest older) c) ≡ zero_in l c
  zero_renamed Nothing = refl
  zero_renamed (Value v) = refl
  zero_renamed (First f) = refl
  zero_renamed (State s) = refl
  zero_renamed Mixed = refl

  state_renamed : (c : Cell I) → state_in l (renamed_cell (site_of newest older) c) ≡ state_in l c
  state_renamed Nothing = refl
  state_renamed (Value v) = refl
  state_renamed (First f) = refl
  state_renamed (State s) = refl
  state_renamed Mixed = refl

  abbrev pub all_renamed : List (Cell I) → List (Cell I)
  all_renamed row = map (renamed_cell (site_of newest older)) row

  pub value_renames : (row : List (Cell I)) (x : ℕ) → value_at l n (all_renamed row) x ≡ renamed_value newest older (value_at l n row x)
  unfolding value_at
  value_renames row x = ap (λ z. near_value l n (value_in l z)) (renamed_at row x) ∙ (ap (near_value l n) (value_renamed (cell_at row x)) ∙ renamed_near newest older l n (value_in l (cell_at row x)))

  pub zero_renames : (row : List (Cell I)) (x : ℕ) → zero_at l n (all_renamed row) x ≡ zero_at l n row x
  unfolding zero_at
  zero_renames row x = ap (λ z. record { at = near_number l n z.at }) (ap (zero_in l) (renamed_at row x) ∙ zero_renamed (cell_at row x))

  pub state_renames : (row : List (Cell I)) (x : ℕ) → state_at l n (all_renamed row) x ≡ state_at l n row x
  unfolding state_at
  state_renames row x = ap (near_state l n) (ap (state_in l) (renamed_at row x) ∙ state_renamed (cell_at row x))

  pub renamed_long : (row : List (Cell I)) → length (all_renamed row) ≡ length row
  renamed_long row = length-map row (renamed_cell (site_of newest older))

-- ---- turns that join

module _ {I : Type 0} (l : LatticeOf I) (n : IntegersOf I) (m : Model) (to from : ℕ → ℕ) (count : ℕ) (apart : (j k : ℕ) → j < count → k < count → (j ≡ k → ⊥) → to j ≡ to k → ⊥) (aside : (j k : ℕ) → j < count → k < count → to j ≡ from k → ⊥) where
  abbrev joins : ℕ → List (Cell I) → List (Cell I)
  joins k row = join_value l n row (to k) (value_at l n row (from k))

  join_leaves : (k x : ℕ) → (x ≡ to k → ⊥) → Leaves x (joins k)
  unfolding join_value
  join_leaves k x ne = only_leaves x (joins k) (only_put (to k) (to k + 1) (to k) (λ row. Value ((value_lattice l).join (value_at l n row (to k)) (value_at l n row (from k)))) (omega arith) (omega arith)) (λ h g. ne (omega (arith, h, g)))

  few_leave : (few x : ℕ) → ((k : ℕ) → k < few → x ≡ to k → ⊥) → Leaves x (turns joins few)
  few_leave few x ne = leaves_turns joins x few (λ k h. join_leaves k x (ne k h))

  pub joined_turn : (few : ℕ) → few ≤ count → (k : ℕ) → k < few → (row : List (Cell I)) → to k < length row → value_at l n (turns joins few row) (to k) ≡ written l n m (value_at l n row (to k)) (value_at l n row (from k)) false
  joined_turn zero h k less row there = absurd (omega (arith, less))
  joined_turn (suc few) h k less row there = elim (cases_eq k few) [
    | inl e ↦ (
        let before : List (Cell I) = turns joins few row in
        let own = few_leave few (to k) (λ j g d. apart k j (omega (arith, h, less)) (omega (arith, h, g)) (λ (f : k ≡ j). omega (arith, e, f, g)) d) in
        let other = few_leave few (from k) (λ j g d. aside j k (omega (arith, h, g)) (omega (arith, h, less)) (sym d)) in
        let long = own.long row in
        ap (λ z. value_at l n (joins z before) (to k)) (sym e)
        ∙ (join_is l n m before (to k) (value_at l n before (from k)) (omega (arith, long, there))
        ∙ (ap (λ z. written l n m z (value_at l n before (from k)) false) (same_value l n row before (to k) (own.keeps row))
        ∙ ap (λ z. written l n m (value_at l n row (to k)) z false) (same_value l n row before (from k) (other.keeps row)))))
    | inr ne ↦ (
        let small : k < few = omega (arith, less, ne) in
        let last = join_leaves few (to k) (apart k few (omega (arith, h, less)) (omega (arith, h)) ne) in
        same_value l n (turns joins few row) (turns joins (suc few) row) (to k) (last.keeps (turns joins few row)) ∙ joined_turn few (omega (arith, h)) k small row there)
  ]

-- ---- the newest base is joined into the older one

-- the two bases of a site: their values stand apart, and as many in each
pub record IsSite (new old : BaseInfo) : Type 0 where
  pub new_fits : Fits new
  pub old_fits : Fits old
  pub new_heap : new.shape.heap ≡ true
  pub old_heap : old.shape.heap ≡ true
  pub cells : new.shape.cells ≡ old.shape.cells
  pub new_zeros : length new.shape.zeros ≡ 1
  pub old_zeros : length old.shape.zeros ≡ 1
  pub apart : (x : ℕ) → new.first ≤ x → x < new.first + base_values new → old.first ≤ x → x < old.first + base_values old → ⊥

module _ {I : Type 0} (l : LatticeOf I) (n : IntegersOf I) (m : Model) (new old : BaseInfo) (site : IsSite new old) where
  count_is : value_count new ≡ length new.shape.cells + 6
  count_is = let six : cond {A = ℕ} new.shape.heap 6 0 ≡ 6 = ap (λ z. cond {A = ℕ} z 6 0) site.new_heap in let fits = site.new_fits in omega (arith, six, fits)

  pub same_count : length new.shape.cells ≡ length old.shape.cells
  same_count = ap length site.cells

  new_size : base_values new ≡ length new.shape.cells + 8
  new_size = let six : cond {A = ℕ} new.shape.heap 6 0 ≡ 6 = ap (λ z. cond {A = ℕ} z 6 0) site.new_heap in let one : cond {A = ℕ} new.shape.heap 1 0 ≡ 1 = ap (λ z. cond {A = ℕ} z 1 0) site.new_heap in let zeros = site.new_zeros in omega (arith, six, one, zeros)

  pub old_size : base_values old ≡ length new.shape.cells + 8
  old_size = let six : cond {A = ℕ} old.shape.heap 6 0 ≡ 6 = ap (λ z. cond {A = ℕ} z 6 0) site.old_heap in let one : cond {A = ℕ} old.shape.heap 1 0 ≡ 1 = ap (λ z. cond {A = ℕ} z 1 0) site.old_heap in let zeros = site.old_zeros in let same = same_count in omega (arith, six, one, zeros, same)

  -- positions of values
  pub new_at : (k : ℕ) → k < length new.shape.cells + 8 → leaf_position new k ≡ new.first + k
  new_at k h = let fits = site.new_fits in let size = new_size in omega (arith, fits, size, h)

  pub old_at : (k : ℕ) → k < length new.shape.cells + 8 → leaf_position old k ≡ old.first + k
  old_at k h = let fits = site.old_fits in let size = old_size in omega (arith, fits, size, h)

  old_apart : (j k : ℕ) → j < value_count new → k < value_count new → (j ≡ k → ⊥) → leaf_position old j ≡ leaf_position old k → ⊥
  old_apart j k h g ne e = let c = count_is in let x = old_at j (omega (arith, c, h)) in let y = old_at k (omega (arith, c, g)) in ne (omega (arith, x, y, e))

  aside : (j k : ℕ) → j < value_count new → k < value_count new → leaf_position old j ≡ leaf_position new k → ⊥
  aside j k h g e =
      let c = count_is in
      let x = old_at j (omega (arith, c, h)) in
      let y = new_at k (omega (arith, c, g)) in
      let a = new_size in
      let b = old_size in
      site.apart (new.first + k) (omega arith) (omega (arith, a, c, g)) (omega (arith, x, y, e)) (omega (arith, x, y, e, b, c, h))

  values_only : Only old.first (old.first + (length new.shape.cells + 6)) (join_values l n new old)
  unfolding join_values join_cell join_value
  values_only = only_turns (join_cell l n new old) old.first (old.first + (length new.shape.cells + 6)) (value_count new) (λ k h.
      let c = count_is in
      let x = old_at k (omega (arith, c, h)) in
      only_more old.first (old.first + (length new.shape.cells + 6)) (join_cell l n new old k) (omega (arith, x)) (omega (arith, x, c, h)) (cell_only k))
    where
      cell_only : (k : ℕ) → Only (leaf_position old k) (leaf_position old k + 1) (join_cell l n new old k)
      cell_only k = only_put (leaf_position old k) (leaf_position old k + 1) (leaf_position old k) (λ row. Value ((value_lattice l).join (value_at l n row (leaf_position old k)) (value_at l n row (leaf_position new k)))) (omega arith) (omega arith)

  -- where the first zeros and the states stand
  zero_new_at : zero_position new 0 ≡ new.first + (length new.shape.cells + 6)
  zero_new_at = let six : cond {A = ℕ} new.shape.heap 6 0 ≡ 6 = ap (λ z. cond {A = ℕ} z 6 0) site.new_heap in let x = zero_is new 0 site.new_fits (omega arith) in omega (arith, six, x)

  zero_old_at : zero_position old 0 ≡ old.first + (length new.shape.cells + 6)
  zero_old_at = let six : cond {A = ℕ} old.shape.heap 6 0 ≡ 6 = ap (λ z. cond {A = ℕ} z 6 0) site.old_heap in let x = zero_is old 0 site.old_fits (omega arith) in let same = same_count in omega (arith, six, x, same)

  state_new_at : state_position new ≡ new.first + (length new.shape.cells + 7)
  state_new_at = let six : cond {A = ℕ} new.shape.heap 6 0 ≡ 6 = ap (λ z. cond {A = ℕ} z 6 0) site.new_heap in let x = zero_is new (length new.shape.zeros) site.new_fits (omega arith) in let zeros = site.new_zeros in omega (arith, six, x, zeros)

  state_old_at : state_position old ≡ old.first + (length new.shape.cells + 7)
  state_old_at = let six : cond {A = ℕ} old.shape.heap 6 0 ≡ 6 = ap (λ z. cond {A = ℕ} z 6 0) site.old_heap in let x = zero_is old (length old.shape.zeros) site.old_fits (omega arith) in let zeros = site.old_zeros in let same = same_count in omega (arith, six, x, zeros, same)

  zeros_are : (row : List (Cell I)) → join_zeros l n new old row ≡ join_zero l n row (zero_position old 0) (zero_at l n row (zero_position new 0))
  unfolding join_zeros join_part
  zeros_are row = ap (λ z. turns (join_part l n new old) z row) site.new_zeros

  zero_only : Only (old.first + (length new.shape.cells + 6)) (old.first + (length new.shape.cells + 7)) (λ row. join_zero l n row (zero_position old 0) (zero_at l n row (zero_position new 0)))
  unfolding join_zero
  zero_only = let x = zero_old_at in only_put _ _ (zero_position old 0) (λ row. First ((zero_lattice l).join (zero_at l n row (zero_position old 0)) (zero_at l n row (zero_position new 0)))) (omega (arith, x)) (omega (arith, x))

  zeros_only : Only (old.first + (length new.shape.cells + 6)) (old.first + (length new.shape.cells + 7)) (join_zeros l n new old)
  zeros_only = record {
    long = λ row. ap length (zeros_are row) ∙ zero_only.long row;
    keeps = λ row at h. ap (λ z. cell_at z at) (zeros_are row) ∙ zero_only.keeps row at h;
  }

  state_only : Only (old.first + (length new.shape.cells + 7)) (old.first + (length new.shape.cells + 8)) (join_state l n new old)
  unfolding join_state
  state_only = let x = state_old_at in only_put _ _ (state_position old) (λ row. State ((state_lattice l).join (state_at l n row (state_position old)) (state_at l n row (state_position new)))) (omega (arith, x)) (omega (arith, x))

  pub joined_only : Only old.first (old.first + base_values old) (join_base l n new old)
  unfolding join_base
  joined_only =
      let size = old_size in
      let a = only_more old.first (old.first + base_values old) (join_values l n new old) (omega arith) (omega (arith, size)) values_only in
      let b = only_more old.first (old.first + base_values old) (join_zeros l n new old) (omega arith) (omega (arith, size)) zeros_only in
      let c = only_more old.first (old.first + base_values old) (join_state l n new old) (omega arith) (omega (arith, size)) state_only in
      only_then _ _ (λ row. join_zeros l n new old (join_values l n new old row)) (join_state l n new old) (only_then _ _ (join_values l n new old) (join_zeros l n new old) a b) c

  -- what the older base has
  pub joined_value : (k : ℕ) → k < length new.shape.cells + 6 → (row : List (Cell I)) → old.first + base_values old ≤ length row → value_at l n (join_base l n new old row) (leaf_position old k) ≡ written l n m (value_at l n row (leaf_position old k)) (value_at l n row (leaf_position new k)) false
  unfolding join_base join_values join_cell
  joined_value k h row long =
      let c = count_is in
      let x = old_at k (omega (arith, h)) in
      let size = old_size in
      let values : List (Cell I) = join_values l n new old row in
      let zeros : List (Cell I) = join_zeros l n new old values in
      same_value l n zeros (join_state l n new old zeros) (leaf_position old k) (state_only.keeps zeros (leaf_position old k) (λ f g. omega (arith, x, h, f)))
      ∙ (same_value l n values zeros (leaf_position old k) (zeros_only.keeps values (leaf_position old k) (λ f g. omega (arith, x, h, f)))
      ∙ joined_turn l n m (leaf_position old) (leaf_position new) (value_count new) old_apart aside (value_count new) (omega arith) k (omega (arith, c, h)) row (omega (arith, x, h, size, long)))

  pub joined_zero : (row : List (Cell I)) → old.first + base_values old ≤ length row → zero_at l n (join_base l n new old row) (zero_position old 0) ≡ record { at = near_number l n (l.join (zero_at l n row (zero_position old 0)).at (zero_at l n row (zero_position new 0)).at) }
  unfolding join_base join_zero zero_at
  joined_zero row long =
      let x = zero_old_at in
      let y = zero_new_at in
      let size = old_size in
      let other = new_size in
      let values : List (Cell I) = join_values l n new old row in
      let zeros : List (Cell I) = join_zeros l n new old values in
      let same_long = values_only.long row in
      let own = same_zero l n row values (zero_position old 0) (values_only.keeps row (zero_position old 0) (λ f g. omega (arith, x, g))) in
      let from = same_zero l n row values (zero_position new 0) (values_only.keeps row (zero_position new 0) (λ f g. site.apart (zero_position new 0) (omega (arith, y)) (omega (arith, y, other)) f (omega (arith, g, size)))) in
      same_zero l n zeros (join_state l n new old zeros) (zero_position old 0) (state_only.keeps zeros (zero_position old 0) (λ f g. omega (arith, x, f)))
      ∙ (ap (λ z. zero_at l n z (zero_position old 0)) (zeros_are values)
      ∙ (ap (λ z. record { at = near_number l n (zero_in l z).at }) (cell_put values (zero_position old 0) (First ((zero_lattice l).join (zero_at l n values (zero_position old 0)) (zero_at l n values (zero_position new 0)))) (omega (arith, x, size, long, same_long)))
      ∙ (ap (λ z. record { at = near_number l n (l.join z.at (zero_at l n values (zero_position new 0)).at) }) own ∙ ap (λ z. record { at = near_number l n (l.join (zero_at l n row (zero_position old 0)).at z.at) }) from)))

  pub joined_state : (row : List (Cell I)) → old.first + base_values old ≤ length row → state_at l n (join_base l n new old row) (state_position old) ≡ near_state l n ((state_lattice l).join (state_at l n row (state_position old)) (state_at l n row (state_position new)))
  unfolding join_base join_state state_at
  joined_state row long =
      let x = state_old_at in
      let y = state_new_at in
      let size = old_size in
      let other = new_size in
      let values : List (Cell I) = join_values l n new old row in
      let zeros : List (Cell I) = join_zeros l n new old values in
      let first_long = values_only.long row in
      let same_long = zeros_only.long values in
      let own = same_state l n values zeros (state_position old) (zeros_only.keeps values (state_position old) (λ f g. omega (arith, x, g))) ∙ same_state l n row values (state_position old) (values_only.keeps row (state_position old) (λ f g. omega (arith, x, g))) in
      let away : (f : old.first ≤ state_position new) → state_position new < old.first + base_values old → ⊥ = λ f g. site.apart (state_position new) (omega (arith, y)) (omega (arith, y, other)) f g in
      let from = same_state l n values zeros (state_position new) (zeros_only.keeps values (state_position new) (λ f g. away (omega (arith, f)) (omega (arith, g, size)))) ∙ same_state l n row values (state_position new) (values_only.keeps row (state_position new) (λ f g. away f (omega (arith, g, size)))) in
      ap (λ z. near_state l n (state_in l z)) (cell_put zeros (state_position old) (State ((state_lattice l).join (state_at l n zeros (state_position old)) (state_at l n zeros (state_position new)))) (omega (arith, x, size, long, same_long, first_long)))
      ∙ (ap (λ z. near_state l n ((state_lattice l).join z (state_at l n zeros (state_position new)))) own ∙ ap (λ z. near_state l n ((state_lattice l).join (state_at l n row (state_position old)) z)) from)
