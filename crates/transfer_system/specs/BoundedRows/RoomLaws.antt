-- Own rows can grow only so often.
use Rattle.std.proofs.Common.{◌≡◌, ◌-◌, ◌<◌, ◌≤◌, ℕ, zero, suc, ℤ, true, false, List, [], ◌∷◌, length, refl, ap, arith}
use Rattle.cc_base.specs.Lattices.{LatticeOf, OrderLaws, HeightLaws}
use Rattle.cc_base.specs.IntegerDomains.{IntegersOf}
use Rattle.cc_base.specs.Rows.{row_leq}
use Rattle.cc_base.specs.RowLaws.{by_test, and_left, and_right, and_both}
use Rattle.cc_base.specs.Machine.{IsRounded}
use Rattle.pointer_domain.specs.BaseSets.{bases_within}
use Rattle.value_domain.specs.Strings.FirstZeros.{zero_lattice, zero_heights}
use Rattle.value_domain.specs.declared.strings.first_zeros.FirstZero.{FirstZero}
use Rattle.value_domain.specs.declared.values.values.Value as values
use Rattle.value_domain.specs.declared.values.alloc_states.AllocState.{AllocState}
use Rattle.value_domain.specs.declared.values.row_cells.Cell.{Cell}
use Rattle.value_domain.specs.declared.values.row_cells.Cell.TheVariants.{Nothing, Value, First, State, Mixed}
use Rattle.value_domain.specs.Values.Values.{value_lattice, value_heights}
use Rattle.value_domain.specs.Values.AllocStates.{state_lattice, state_heights}
use Rattle.value_domain.specs.Values.Cells.{cell_lattice, cell_within, cell_order}
use Rattle.transfer_system.specs.declared.bounded_rows.cell_kinds.CellKind.{CellKind}
use Rattle.transfer_system.specs.declared.bounded_rows.cell_kinds.CellKind.TheVariants as kind
use Rattle.transfer_system.specs.declared.bounded_rows.own_cells.Reach.{Reach}
use Rattle.transfer_system.specs.BoundedRows.BaseRooms.{spare_bases, ranks_spare}
use Rattle.transfer_system.specs.BoundedRows.CellKinds.{first_kind, kinds_behind}
use Rattle.transfer_system.specs.BoundedRows.OwnRows.{reach_of, program_bases, is_known_value, is_own_value, is_own_first, is_own_state, is_own_cell, are_own_cells}
use Rattle.transfer_system.specs.BoundedRows.RowRooms.{cells_within, value_room, first_room, state_room, cell_room, row_room, kind_height, row_height}

module _ {I : Type 0} (l : LatticeOf I) (n : IntegersOf I) (list : List ℤ) (r : Reach I) where
  own_value-within : (x : Cell I) → is_own_value l n list r x ≡ true → cell_within l list x ≡ true
  own_value-within Nothing h = cc
  own_value-within (Value v) h = and_left _ _ h
  own_value-within (First f) h = cc
  own_value-within (State s) h = cc
  own_value-within Mixed h = cc

  own_first-within : (x : Cell I) → is_own_first l list r x ≡ true → cell_within l list x ≡ true
  own_first-within Nothing h = cc
  own_first-within (Value v) h = cc
  own_first-within (First f) h = and_left _ _ h
  own_first-within (State s) h = cc
  own_first-within Mixed h = cc

  own_state-within : (x : Cell I) → is_own_state l list r x ≡ true → cell_within l list x ≡ true
  own_state-within Nothing h = cc
  own_state-within (Value v) h = cc
  own_state-within (First f) h = cc
  own_state-within (State s) h = and_left _ _ h
  own_state-within Mixed h = cc

  own_cell-within : (t : CellKind) (x : Cell I) → is_own_cell l n list r t x ≡ true → cell_within l list x ≡ true
  own_cell-within kind.Value x h = own_value-within x h
  own_cell-within kind.First x h = own_first-within x h
  own_cell-within kind.State x h = own_state-within x h

  pub own_cells-within : (ks : List CellKind) (xs : List (Cell I)) → are_own_cells l n list r ks xs ≡ true → cells_within l list xs ≡ true
  own_cells-within ks [] h = refl
  own_cells-within ks (x ∷ xs) h =
      and_both _ _
      (own_cell-within (first_kind ks) x (and_left _ _ h))
      (own_cells-within (kinds_behind ks) xs (and_right (is_own_cell l n list r (first_kind ks) x) _ h))

module _ {I : Type 0} (l : LatticeOf I) (o : OrderLaws l) (g : HeightLaws l) (list : List ℤ) (spare : ℕ) where
  value-bounded : (x : Cell I) → value_room l list spare x ≤ (value_lattice l).height (length list) - spare
  value-bounded Nothing = omega arith
  value-bounded (Value v) = let h = (value_heights o g).bounded list v in omega arith
  value-bounded (First f) = omega arith
  value-bounded (State s) = omega arith
  value-bounded Mixed = omega arith

  first-bounded : (x : Cell I) → first_room l list x ≤ (zero_lattice l).height (length list)
  first-bounded Nothing = omega arith
  first-bounded (Value v) = omega arith
  first-bounded (First f) = let h = (zero_heights g).bounded list f in omega arith
  first-bounded (State s) = omega arith
  first-bounded Mixed = omega arith

  state-bounded : (x : Cell I) → state_room l list x ≤ (state_lattice l).height (length list)
  state-bounded Nothing = omega arith
  state-bounded (Value v) = omega arith
  state-bounded (First f) = omega arith
  state-bounded (State s) = let h = (state_heights o g).bounded list s in omega arith
  state-bounded Mixed = omega arith

  cell-bounded : (k : CellKind) (x : Cell I) → cell_room l list spare k x ≤ kind_height l (length list) spare k
  cell-bounded kind.Value x = value-bounded x
  cell-bounded kind.First x = first-bounded x
  cell-bounded kind.State x = state-bounded x

  pub room-bounded : (ks : List CellKind) (n : ℕ) (r : List (Cell I)) → row_room l list spare ks n r ≤ row_height l (length list) spare ks n
  room-bounded ks zero r = omega arith
  room-bounded ks (suc n) [] = omega arith
  room-bounded ks (suc n) (x ∷ xs) =
      let a = cell-bounded (first_kind ks) x in
      let b = room-bounded (kinds_behind ks) n xs in
      omega arith

module _ {I : Type 0} (l : LatticeOf I) (o : OrderLaws l) (g : HeightLaws l) (n : IntegersOf I) (list : List ℤ) (count : ℕ) where
  abbrev the_reach : Reach I
  the_reach = reach_of l n list count

  abbrev spare : ℕ
  spare = spare_bases count

  -- a value of the program's own has room for the spare bases
  value-spare : (v : values.Value I) → is_known_value l n list the_reach v ≡ true → spare ≤ (value_lattice l).rank list v
  value-spare v h =
      let p = and_right ((value_lattice l).within list v) _ h in
      let a = ranks_spare count list v.pointer.bases (and_left (bases_within v.pointer.bases (program_bases count)) _ p) in
      omega arith

  value_falls : (v w : values.Value I) → is_known_value l n list the_reach v ≡ true → is_known_value l n list the_reach w ≡ true → (value_lattice l).round list v ≡ v → (value_lattice l).round list w ≡ w → (value_lattice l).leq v w ≡ true → (value_lattice l).leq w v ≡ false → (value_lattice l).rank list w - spare < (value_lattice l).rank list v - spare
  value_falls v w h j a b le up =
      let e = (value_heights o g).falls list v w (and_left _ _ h) (and_left _ _ j) a b le up in
      let s = value-spare w j in
      omega arith

  -- the parts of a cell, or others
  abbrev value_in : values.Value I → Cell I → values.Value I
  value_in d Nothing = d
  value_in d (Value v) = v
  value_in d (First f) = d
  value_in d (State s) = d
  value_in d Mixed = d

  abbrev first_in : FirstZero I → Cell I → FirstZero I
  first_in d Nothing = d
  first_in d (Value v) = d
  first_in d (First f) = f
  first_in d (State s) = d
  first_in d Mixed = d

  abbrev state_in : AllocState I → Cell I → AllocState I
  state_in d Nothing = d
  state_in d (Value v) = d
  state_in d (First f) = d
  state_in d (State s) = s
  state_in d Mixed = d

  -- a rounded own cell of a kind that grows has less room
  value-falls : (x y : Cell I) → is_own_value l n list the_reach x ≡ true → is_own_value l n list the_reach y ≡ true → (cell_lattice l).round list x ≡ x → (cell_lattice l).round list y ≡ y → (cell_lattice l).leq x y ≡ true → (cell_lattice l).leq y x ≡ false → value_room l list spare y < value_room l list spare x
  value-falls Nothing y h j a b le up = cc
  value-falls (First f) y h j a b le up = cc
  value-falls (State s) y h j a b le up = cc
  value-falls Mixed y h j a b le up = cc
  value-falls (Value v) Nothing h j a b le up = cc
  value-falls (Value v) (First f) h j a b le up = cc
  value-falls (Value v) (State s) h j a b le up = cc
  value-falls (Value v) Mixed h j a b le up = cc
  value-falls (Value v) (Value w) h j a b le up = value_falls v w h j (ap (value_in v) a) (ap (value_in w) b) le up

  first-falls : (x y : Cell I) → is_own_first l list the_reach x ≡ true → is_own_first l list the_reach y ≡ true → (cell_lattice l).round list x ≡ x → (cell_lattice l).round list y ≡ y → (cell_lattice l).leq x y ≡ true → (cell_lattice l).leq y x ≡ false → first_room l list y < first_room l list x
  first-falls Nothing y h j a b le up = cc
  first-falls (Value v) y h j a b le up = cc
  first-falls (State s) y h j a b le up = cc
  first-falls Mixed y h j a b le up = cc
  first-falls (First f) Nothing h j a b le up = cc
  first-falls (First f) (Value w) h j a b le up = cc
  first-falls (First f) (State s) h j a b le up = cc
  first-falls (First f) Mixed h j a b le up = cc
  first-falls (First f) (First e) h j a b le up = (zero_heights g).falls list f e (and_left _ _ h) (and_left _ _ j) (ap (first_in f) a) (ap (first_in e) b) le up

  state-falls : (x y : Cell I) → is_own_state l list the_reach x ≡ true → is_own_state l list the_reach y ≡ true → (cell_lattice l).round list x ≡ x → (cell_lattice l).round list y ≡ y → (cell_lattice l).leq x y ≡ true → (cell_lattice l).leq y x ≡ false → state_room l list y < state_room l list x
  state-falls Nothing y h j a b le up = cc
  state-falls (Value v) y h j a b le up = cc
  state-falls (First f) y h j a b le up = cc
  state-falls Mixed y h j a b le up = cc
  state-falls (State s) Nothing h j a b le up = cc
  state-falls (State s) (Value w) h j a b le up = cc
  state-falls (State s) (First f) h j a b le up = cc
  state-falls (State s) Mixed h j a b le up = cc
  state-falls (State s) (State e) h j a b le up = (state_heights o g).falls list s e (and_left _ _ h) (and_left _ _ j) (ap (state_in s) a) (ap (state_in e) b) le up

  cell-falls : (k : CellKind) (x y : Cell I) → is_own_cell l n list the_reach k x ≡ true → is_own_cell l n list the_reach k y ≡ true → (cell_lattice l).round list x ≡ x → (cell_lattice l).round list y ≡ y → (cell_lattice l).leq x y ≡ true → (cell_lattice l).leq y x ≡ false → cell_room l list spare k y < cell_room l list spare k x
  cell-falls kind.Value x y h j a b le up = value-falls x y h j a b le up
  cell-falls kind.First x y h j a b le up = first-falls x y h j a b le up
  cell-falls kind.State x y h j a b le up = state-falls x y h j a b le up

  -- one that grows or stays has no more
  cell-at-most : (k : CellKind) (x y : Cell I) → is_own_cell l n list the_reach k x ≡ true → is_own_cell l n list the_reach k y ≡ true → (cell_lattice l).round list x ≡ x → (cell_lattice l).round list y ≡ y → (cell_lattice l).leq x y ≡ true → cell_room l list spare k y ≤ cell_room l list spare k x
  cell-at-most k x y h j a b le =
      by_test ((cell_lattice l).leq y x)
      (λ (up : (cell_lattice l).leq y x ≡ true).
      let e : x ≡ y = (cell_order o).antisymmetric x y le up in
      let f : cell_room l list spare k x ≡ cell_room l list spare k y = ap (cell_room l list spare k) e in omega arith)
      (λ (up : (cell_lattice l).leq y x ≡ false).
      let f = cell-falls k x y h j a b le up in omega arith)

  head-rounded : (x : Cell I) (xs : List (Cell I)) → IsRounded (cell_lattice l) list (x ∷ xs) → (cell_lattice l).round list x ≡ x
  head-rounded x xs e = cc

  tail-rounded : (x : Cell I) (xs : List (Cell I)) → IsRounded (cell_lattice l) list (x ∷ xs) → IsRounded (cell_lattice l) list xs
  tail-rounded x xs e = cc

  room-at-most : (ks : List CellKind) (m : ℕ) (r s : List (Cell I)) → are_own_cells l n list the_reach ks r ≡ true → are_own_cells l n list the_reach ks s ≡ true → IsRounded (cell_lattice l) list r → IsRounded (cell_lattice l) list s → row_leq (cell_lattice l) r s ≡ true → row_room l list spare ks m s ≤ row_room l list spare ks m r
  room-at-most ks zero r s h j a b le = omega arith
  room-at-most ks (suc m) [] [] h j a b le = omega arith
  room-at-most ks (suc m) [] (y ∷ ys) h j a b le = absurd (cc)
  room-at-most ks (suc m) (x ∷ xs) [] h j a b le = absurd (cc)
  room-at-most ks (suc m) (x ∷ xs) (y ∷ ys) h j a b le =
      let one = cell-at-most (first_kind ks) x y (and_left _ _ h) (and_left _ _ j) (head-rounded x xs a) (head-rounded y ys b) (and_left _ _ le) in
      let rest = room-at-most (kinds_behind ks) m xs ys (and_right (is_own_cell l n list the_reach (first_kind ks) x) _ h) (and_right (is_own_cell l n list the_reach (first_kind ks) y) _ j) (tail-rounded x xs a) (tail-rounded y ys b) (and_right ((cell_lattice l).leq x y) _ le) in
      omega arith

  pub room-falls : (ks : List CellKind) (m : ℕ) (r s : List (Cell I)) → length r ≡ m → are_own_cells l n list the_reach ks r ≡ true → are_own_cells l n list the_reach ks s ≡ true → IsRounded (cell_lattice l) list r → IsRounded (cell_lattice l) list s → row_leq (cell_lattice l) r s ≡ true → row_leq (cell_lattice l) s r ≡ false → row_room l list spare ks m s < row_room l list spare ks m r
  room-falls ks m [] [] e h j a b le up = absurd (cc)
  room-falls ks m [] (y ∷ ys) e h j a b le up = absurd (cc)
  room-falls ks m (x ∷ xs) [] e h j a b le up = absurd (cc)
  room-falls ks zero (x ∷ xs) (y ∷ ys) e h j a b le up = absurd (omega arith)
  room-falls ks (suc m) (x ∷ xs) (y ∷ ys) e h j a b le up =
      let own_x = and_left (is_own_cell l n list the_reach (first_kind ks) x) _ h in
      let own_y = and_left (is_own_cell l n list the_reach (first_kind ks) y) _ j in
      let own_xs = and_right (is_own_cell l n list the_reach (first_kind ks) x) _ h in
      let own_ys = and_right (is_own_cell l n list the_reach (first_kind ks) y) _ j in
      let below : (cell_lattice l).leq x y ≡ true = and_left _ _ le in
      let below_rest : row_leq (cell_lattice l) xs ys ≡ true = and_right ((cell_lattice l).leq x y) _ le in
      by_test ((cell_lattice l).leq y x)
      (λ (same : (cell_lattice l).leq y x ≡ true).
      let off : row_leq (cell_lattice l) ys xs ≡ false = rw same at up in
      let one = cell-at-most (first_kind ks) x y own_x own_y (head-rounded x xs a) (head-rounded y ys b) below in
      let rest = room-falls (kinds_behind ks) m xs ys (omega arith) own_xs own_ys (tail-rounded x xs a) (tail-rounded y ys b) below_rest off in
      omega arith)
      (λ (less : (cell_lattice l).leq y x ≡ false).
      let one = cell-falls (first_kind ks) x y own_x own_y (head-rounded x xs a) (head-rounded y ys b) below less in
      let rest = room-at-most (kinds_behind ks) m xs ys own_xs own_ys (tail-rounded x xs a) (tail-rounded y ys b) below_rest in
      omega arith)
