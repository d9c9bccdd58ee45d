-- Objects that are forgotten, cleared and left.
use Rattle.std.specs.Prelude.{◌≡◌, ℕ, ◌/◌, ◌%◌, ◌^◌, ◌<◌, ℤ, Bool, true, false, cond, nat_lt, bit_and, Option, Some, None, List, [], ◌∷◌, ◌++◌, length, map, replicate, slice_get, zero, suc, refl}
use Rattle.std.specs.Int.{bit_not, w128}
use Rattle.std.proofs.Common.{arith, sym, subst}
use Rattle.std.proofs.lemmas.Nat.Bits.{bit_at_and}
use Rattle.std.proofs.lemmas.Bool.{and_parts, and_from}
use Rattle.cc_base.specs.Lattices.{LatticeOf, OrderLaws}
use Rattle.cc_base.specs.LatticeParts.{flag_leq}
use Rattle.cc_base.specs.Rows.{row_leq}
use Rattle.cc_base.specs.IntegerDomains.{IntegersOf, BoundLaws}
use Rattle.c_layout.specs.declared.shapes.BaseInfo.{BaseInfo}
use Rattle.cfg.specs.WellFormed.{base_cells}
use Rattle.pointer_domain.specs.BaseSets.{word_of, word_within, bases_has, bases_without, bases_within, bases_empty}
use Rattle.pointer_domain.specs.BaseLattice.{bases_order}
use Rattle.pointer_domain.specs.PointerLattice.{pointers_leq}
use Rattle.pointer_domain.specs.PointerTables.{without_bases, if_any_base, ended_at}
use Rattle.pointer_domain.specs.declared.base_sets.Bases.{Bases}
use Rattle.pointer_domain.specs.declared.pointer_sets.Pointers.{Pointers}
use Rattle.value_domain.specs.Strings.FirstZeros.{zero_lattice}
use Rattle.value_domain.specs.declared.values.values.Value as values
use Rattle.value_domain.specs.declared.values.row_cells.Cell.{Cell}
use Rattle.value_domain.specs.declared.values.row_cells.Cell.TheVariants.{Nothing, Value, First, State, Mixed}
use Rattle.value_domain.specs.Values.Values.{value_lattice, value_order}
use Rattle.value_domain.specs.Values.ValueTables.{blank_value}
use Rattle.value_domain.specs.Values.Cells.{cell_lattice, cell_leq}
use Rattle.store_objects.specs.LiveBases.{most_bases}
use Rattle.store_cells.specs.RowPositions.{leaf_position}
use Rattle.store_cells.specs.FirstZeroWrites.{no_zero, zero_first}
use Rattle.store_objects.specs.ObjectLives.{set_values, blank_object, at_base, forget, zero_value, clear_leaf, clear_leaves, clear_object, clear, ended_pointer, ended_cell, leave_object, leave}
use Rattle.domain_theorems.specs.Values.Consistency.{AreWords, is_consistent}
use Rattle.domain_theorems.proofs.values.Parts.{PointersBelow, pointer_parts, pointers_below, value_parts, value_below}
use Rattle.domain_theorems.proofs.values.Renames.{within_from, with_within, own_word, end_monotone}
use Rattle.store_monotone.specs.Operations.TopCells.{top_number, top_value, top_zero, top_state}
use Rattle.store_monotone.specs.Operations.TopRows.{top_base, top_bases, top_row}
use Rattle.store_monotone.specs.Operations.Placements.{EachFrom, IsPlaced}
use Rattle.store_monotone.specs.Operations.RowsBelow.{RowsBelow}
use Rattle.store_monotone.specs.Operations.ConsistentRows.{IsConsistentCell, AreConsistent}
use Rattle.store_monotone.proofs.operations.PairedSteps.{walk_pair, numbers_below}
use Rattle.store_monotone.proofs.operations.OwnValues.{each_get, blank_top, zero_value_top, no_zero_top, zero_first_top, value_put, values_pair, zeros_pair}

-- ---- the greatest cells of a row of values

module _ {I : Type 0} (n : IntegersOf I) (all : Bases) where
  -- a value is the greatest one
  abbrev pub IsGreatest : Cell I → Type 0
  IsGreatest Nothing = Unit {0}
  IsGreatest (Value v) = v ≡ top_value n all
  IsGreatest (First f) = Unit {0}
  IsGreatest (State s) = Unit {0}
  IsGreatest Mixed = Unit {0}

  abbrev pub AreGreatest : List (Cell I) → Type 0
  AreGreatest [] = Unit {0}
  AreGreatest (c ∷ cs) = IsGreatest c × AreGreatest cs

  both_greatest : (xs ys : List (Cell I)) → AreGreatest xs → AreGreatest ys → AreGreatest (xs ++ ys)
  both_greatest [] ys h k = k
  both_greatest (x ∷ xs) ys h k = (h.0, both_greatest xs ys h.1 k)

  many_greatest : (m : ℕ) (c : Cell I) → IsGreatest c → AreGreatest (replicate m c)
  many_greatest zero c h = tt
  many_greatest (suc m) c h = (h, many_greatest m c h)

  base_greatest : (base : BaseInfo) → AreGreatest (top_base n all base)
  base_greatest base = both_greatest (replicate (base_cells base) (Value (top_value n all))) _ (many_greatest (base_cells base) (Value (top_value n all)) refl)
      (both_greatest (replicate (length base.shape.zeros) (First (top_zero n))) _ (many_greatest (length base.shape.zeros) (First (top_zero n)) tt) (many_greatest (cond base.shape.heap 1 0) (State (top_state n)) tt))

  bases_greatest : (bases : List BaseInfo) → AreGreatest (top_bases n all bases)
  bases_greatest [] = tt
  bases_greatest (base ∷ bases) = both_greatest (top_base n all base) (top_bases n all bases) (base_greatest base) (bases_greatest bases)

  pub row_greatest : (bases : List BaseInfo) (temps : ℕ) → AreGreatest (top_row n all bases temps)
  row_greatest bases temps = both_greatest (top_bases n all bases) (replicate temps (Value (top_value n all))) (bases_greatest bases) (many_greatest temps (Value (top_value n all)) refl)

-- ---- a set without a base

under_and : (a m : ℕ) → word_within (bit_and a m) a ≡ true
under_and a m = within_from (bit_and a m) a (λ i. let g = bit_at_and a m i in omega arith)

pub without_within : (s : Bases) (n : ℕ) → bases_within (bases_without s n) s ≡ true
without_within s n = subst (λ t. bases_within (bases_without s n) t ≡ true) (own_word s (n / 128))
    (with_within s s (bases_order.reflexive s) (n / 128) (bit_and (word_of s (n / 128)) (bit_not w128 (2 ^ (n % 128)))) (word_of s (n / 128)) (under_and (word_of s (n / 128)) (bit_not w128 (2 ^ (n % 128)))))

any_flag : (a : Bool) → flag_leq a true ≡ true
any_flag true = refl
any_flag false = refl

module _ {I : Type 0} {l : LatticeOf I} {n : IntegersOf I} {stands : I → ℤ → Type 0} (o : OrderLaws l) (b : BoundLaws l n stands) where
  -- ---- pointers into an object that is left

  module _ (all : Bases) (p : Pointers I) (h : pointers_leq l p (top_value n all).pointer ≡ true) where
    c : PointersBelow l p (top_value n all).pointer
    c = pointer_parts l p (top_value n all).pointer h

    after_top : (number : ℕ) → pointers_leq l (record p { bases = bases_without p.bases number; ended = true }) (top_value n all).pointer ≡ true
    after_top number = pointers_below l (record p { bases = bases_without p.bases number; ended = true }) (top_value n all).pointer (record {
      bases = bases_order.transitive (bases_without p.bases number) p.bases all (without_within p.bases number) c.bases;
      lo = c.lo;
      rel = c.rel;
      len = c.len;
      part = c.part;
      null = c.null;
      ended = refl;
    })

    bare_top : (q : Pointers I) → pointers_leq l (without_bases l q) (top_value n all).pointer ≡ true
    bare_top q = pointers_below l (without_bases l q) (top_value n all).pointer (record {
      bases = bases_order.least_below all;
      lo = o.least_below (top_number n);
      rel = o.least_below (top_number n);
      len = o.least_below (top_number n);
      part = refl;
      null = any_flag q.null;
      ended = any_flag q.ended;
    })

    pub either_top : (t : Bool) (x y : Pointers I) → pointers_leq l x (top_value n all).pointer ≡ true → pointers_leq l y (top_value n all).pointer ≡ true → pointers_leq l (cond t x y) (top_value n all).pointer ≡ true
    either_top true x y u v = u
    either_top false x y u v = v

    ended_top : (number : ℕ) → pointers_leq l (ended_pointer l number p) (top_value n all).pointer ≡ true
    ended_top number = either_top (nat_lt number most_bases) (ended_at l p number) p
        (either_top (bases_has p.bases number) (if_any_base l (record p { bases = bases_without p.bases number; ended = true })) p
        (either_top (bases_empty (bases_without p.bases number)) (without_bases l (record p { bases = bases_without p.bases number; ended = true })) (record p { bases = bases_without p.bases number; ended = true }) (bare_top (record p { bases = bases_without p.bases number; ended = true })) (after_top number)) h) h

  ended_monotone : (number : ℕ) (p q : Pointers I) → AreWords p.bases → is_consistent n p ≡ true → pointers_leq l p q ≡ true → pointers_leq l (ended_pointer l number p) (ended_pointer l number q) ≡ true
  ended_monotone number p q w k h = by_number (nat_lt number most_bases)
    where
      by_number : (t : Bool) → pointers_leq l (cond t (ended_at l p number) p) (cond t (ended_at l q number) q) ≡ true
      by_number true = end_monotone o b p q number w k h
      by_number false = h

  pub with_pointer : (v w : values.Value I) (p q : Pointers I) → (value_lattice l).leq v w ≡ true → pointers_leq l p q ≡ true → (value_lattice l).leq (record v { pointer = p }) (record w { pointer = q }) ≡ true
  with_pointer v w p q h k = let d = value_parts l v w h in value_below l (record v { pointer = p }) (record w { pointer = q }) (record { num = d.num; pointer = k; indeterminate = d.indeterminate; labels = d.labels })

  cell_ended : (number : ℕ) (x y : Cell I) → IsConsistentCell n x → cell_leq l x y ≡ true → cell_leq l (ended_cell l number x) (ended_cell l number y) ≡ true
  cell_ended number Nothing y e h = refl
  cell_ended number (Value v) Nothing e h = cc
  cell_ended number (Value v) (Value w) e h = with_pointer v w (ended_pointer l number v.pointer) (ended_pointer l number w.pointer) h (ended_monotone number v.pointer w.pointer e.0 e.1 (value_parts l v w h).pointer)
  cell_ended number (Value v) (First g) e h = cc
  cell_ended number (Value v) (State g) e h = cc
  cell_ended number (Value v) Mixed e h = refl
  cell_ended number (First f) Nothing e h = cc
  cell_ended number (First f) (Value w) e h = cc
  cell_ended number (First f) (First g) e h = h
  cell_ended number (First f) (State g) e h = cc
  cell_ended number (First f) Mixed e h = refl
  cell_ended number (State s) Nothing e h = cc
  cell_ended number (State s) (Value w) e h = cc
  cell_ended number (State s) (First g) e h = cc
  cell_ended number (State s) (State g) e h = h
  cell_ended number (State s) Mixed e h = refl
  cell_ended number Mixed Nothing e h = cc
  cell_ended number Mixed (Value w) e h = cc
  cell_ended number Mixed (First g) e h = cc
  cell_ended number Mixed (State g) e h = cc
  cell_ended number Mixed Mixed e h = refl

  cell_own : (all : Bases) (number : ℕ) (x y : Cell I) → IsGreatest n all y → cell_leq l x y ≡ true → cell_leq l (ended_cell l number x) y ≡ true
  cell_own all number Nothing y e h = refl
  cell_own all number (Value v) Nothing e h = cc
  cell_own all number (Value v) (Value w) e h =
      let k : (value_lattice l).leq v (top_value n all) ≡ true = subst (λ t. (value_lattice l).leq v t ≡ true) e h in
      subst (λ t. (value_lattice l).leq (record v { pointer = ended_pointer l number v.pointer }) t ≡ true) (sym e)
      (with_pointer v (top_value n all) (ended_pointer l number v.pointer) (top_value n all).pointer k (ended_top all v.pointer (value_parts l v (top_value n all) k).pointer number))
  cell_own all number (Value v) (First g) e h = cc
  cell_own all number (Value v) (State g) e h = cc
  cell_own all number (Value v) Mixed e h = refl
  cell_own all number (First f) y e h = h
  cell_own all number (State s) y e h = h
  cell_own all number Mixed y e h = h

  row_ended : (number : ℕ) (r s : List (Cell I)) → AreConsistent n r → row_leq (cell_lattice l) r s ≡ true → row_leq (cell_lattice l) (map (ended_cell l number) r) (map (ended_cell l number) s) ≡ true
  row_ended number [] [] e h = refl
  row_ended number [] (y ∷ s) e h = cc
  row_ended number (x ∷ r) [] e h = cc
  row_ended number (x ∷ r) (y ∷ s) e h = let p = and_parts (cell_leq l x y) (row_leq (cell_lattice l) r s) h in and_from _ _ (cell_ended number x y e.0 p.0) (row_ended number r s e.1 p.1)

  row_own : (all : Bases) (number : ℕ) (s top : List (Cell I)) → AreGreatest n all top → row_leq (cell_lattice l) s top ≡ true → row_leq (cell_lattice l) (map (ended_cell l number) s) top ≡ true
  row_own all number [] [] e h = refl
  row_own all number [] (y ∷ top) e h = cc
  row_own all number (x ∷ s) [] e h = cc
  row_own all number (x ∷ s) (y ∷ top) e h = let p = and_parts (cell_leq l x y) (row_leq (cell_lattice l) s top) h in and_from _ _ (cell_own all number x y e.0 p.0) (row_own all number s top e.1 p.1)

  -- ---- one object

  module _ (all : Bases) (top : List (Cell I)) (base : BaseInfo) (p : IsPlaced n all top base) (r s : List (Cell I)) (j : RowsBelow l top r s) where
    blank_pair : RowsBelow l top (blank_object l n base r) (blank_object l n base s)
    unfolding blank_object
    blank_pair = zeros_pair o b all top base p (no_zero n) (no_zero n) (o.reflexive (no_zero n).at) (no_zero_top o b) (set_values base (blank_value l) r) (set_values base (blank_value l) s)
        (values_pair o b all top base p (blank_value l) (blank_value l) ((value_order o).reflexive (blank_value l)) (blank_top o b all) r s j)

    cleared_leaves : RowsBelow l top (clear_leaves l n base r) (clear_leaves l n base s)
    unfolding clear_leaves
    cleared_leaves = walk_pair (λ leaf at. at < length base.shape.cells) (RowsBelow l top) (clear_leaf l n base) (clear_leaf l n base)
        (λ leaf at x y e i. value_put o b all top (leaf_position base at) x y (zero_value l n leaf.class) (zero_value l n leaf.class) (p.leaf at e) i ((value_order o).reflexive (zero_value l n leaf.class)) (zero_value_top o b all leaf.class))
        0 base.shape.cells r s (numbers_below (length base.shape.cells) 0 base.shape.cells (omega arith)) j

    clear_pair : RowsBelow l top (clear_object l n base r) (clear_object l n base s)
    unfolding clear_object
    clear_pair = zeros_pair o b all top base p (zero_first n) (zero_first n) (o.reflexive (zero_first n).at) (zero_first_top o b) (clear_leaves l n base r) (clear_leaves l n base s) cleared_leaves

    leave_pair : AreGreatest n all top → AreConsistent n r → (number : ℕ) → RowsBelow l top (leave_object l number base r) (leave_object l number base s)
    unfolding leave_object
    leave_pair g e number = zeros_pair o b all top base p ((zero_lattice l).least) ((zero_lattice l).least) (o.reflexive l.least) (o.least_below (top_zero n).at)
        (set_values base ((value_lattice l).least) (map (ended_cell l number) r)) (set_values base ((value_lattice l).least) (map (ended_cell l number) s))
        (values_pair o b all top base p ((value_lattice l).least) ((value_lattice l).least) ((value_order o).reflexive ((value_lattice l).least)) ((value_order o).least_below (top_value n all)) (map (ended_cell l number) r) (map (ended_cell l number) s)
        (record { small = row_ended number r s e j.small; large = row_own all number s top g j.large }))

  -- ---- the object of a number

  module _ (all : Bases) (top : List (Cell I)) (bases : List BaseInfo) (each : EachFrom (λ base number. IsPlaced n all top base) 0 bases) (number : ℕ) (r s : List (Cell I)) (j : RowsBelow l top r s) where
    pub at_object : (f g : BaseInfo → List (Cell I) → List (Cell I)) → ((base : BaseInfo) → IsPlaced n all top base → RowsBelow l top (f base r) (g base s)) → RowsBelow l top (at_base f (slice_get bases number) r) (at_base g (slice_get bases number) s)
    at_object f g h = by_found (slice_get bases number) refl
      where
        by_found : (found : Option BaseInfo) → slice_get bases number ≡ found → RowsBelow l top (at_base f found r) (at_base g found s)
        by_found None e = j
        by_found (Some base) e = h base (each_get (λ base number. IsPlaced n all top base) 0 number bases base each e)

    pub forget_monotone : RowsBelow l top (forget l n bases number r) (forget l n bases number s)
    unfolding forget
    forget_monotone = at_object (blank_object l n) (blank_object l n) (λ base p. blank_pair all top base p r s j)

    pub clear_monotone : RowsBelow l top (clear l n bases number r) (clear l n bases number s)
    unfolding clear
    clear_monotone = at_object (clear_object l n) (clear_object l n) (λ base p. clear_pair all top base p r s j)

    pub leave_monotone : AreGreatest n all top → AreConsistent n r → RowsBelow l top (leave l bases number r) (leave l bases number s)
    unfolding leave
    leave_monotone g e = at_object (leave_object l number) (leave_object l number) (λ base p. leave_pair all top base p r s j g e number)
