-- The greatest row of bases that follow each other, and that their cells stand in it.
use Rattle.std.specs.Prelude.{◌≡◌, ℕ, zero, suc, ◌+◌, ◌^◌, ◌<◌, ◌==◌, true, cond, ◌&&◌, List, [], ◌∷◌, ◌++◌, length, replicate, refl}
use Rattle.std.proofs.Common.{arith, sym, subst, ap, ◌∙◌, append_assoc, length-append}
use Rattle.std.proofs.lemmas.Bool.{and_parts, eqb-true}
use Rattle.cc_base.specs.IntegerDomains.{IntegersOf}
use Rattle.c_layout.specs.declared.shapes.BaseInfo.{BaseInfo}
use Rattle.cfg.specs.BaseShapes.{is_extent}
use Rattle.cfg.specs.WellFormed.{are_placed, base_cells, base_values}
use Rattle.pointer_domain.specs.declared.base_sets.Bases.{Bases}
use Rattle.value_domain.specs.declared.values.row_cells.Cell.{Cell}
use Rattle.value_domain.specs.declared.values.row_cells.Cell.TheVariants.{Value, First, State}
use Rattle.store_cells.specs.RowPositions.{cell_at, leaf_position, class_position, zero_position, state_position}
use Rattle.store_monotone.specs.Operations.Placements.{EachFrom, IsPlaced}
use Rattle.store_monotone.specs.Operations.TopRows.{top_base, top_bases}
use Rattle.store_monotone.specs.Operations.TopCells.{top_value, top_zero, top_state}

module _ {I : Type 0} where
  at_behind : (pre ys : List (Cell I)) (i k : ℕ) → i ≡ length pre + k → cell_at (pre ++ ys) i ≡ cell_at ys k
  at_behind [] ys i k e = ap (λ j. cell_at ys j) (let f : i ≡ k = omega arith in f)
  at_behind (x ∷ pre) ys zero k e = absurd (omega arith)
  at_behind (x ∷ pre) ys (suc i) k e = at_behind pre ys i k (omega arith)

  at_first : (m : ℕ) (x : Cell I) (ys : List (Cell I)) (i : ℕ) → i < m → cell_at (replicate m x ++ ys) i ≡ x
  at_first zero x ys i h = absurd (omega arith)
  at_first (suc m) x ys zero h = refl
  at_first (suc m) x ys (suc i) h = at_first m x ys i (omega arith)

  replicated : (m : ℕ) (x : Cell I) → length (replicate m x) ≡ m
  replicated zero x = refl
  replicated (suc m) x = let e = replicated m x in omega arith

  at_second : (m : ℕ) (x : Cell I) (ys : List (Cell I)) (i k : ℕ) → i ≡ m + k → cell_at (replicate m x ++ ys) i ≡ cell_at ys k
  at_second m x ys i k e = let f = replicated m x in at_behind (replicate m x) ys i k (omega arith)

  top_length : (n : IntegersOf I) (all : Bases) (base : BaseInfo) → length (top_base n all base) ≡ base_values base
  top_length n all base =
      let zs = replicate (length base.shape.zeros) (First (top_zero n)) in
      let ss = replicate (cond base.shape.heap 1 0) (State (top_state n)) in
      let a = length-append (replicate (base_cells base) (Value (top_value n all))) (zs ++ ss) in
      let b = length-append zs ss in
      let c = replicated (base_cells base) (Value (top_value n all)) in
      let d = replicated (length base.shape.zeros) (First (top_zero n)) in
      let e = replicated (cond base.shape.heap 1 0) (State (top_state n)) in
      omega arith

  module _ (n : IntegersOf I) (all : Bases) (pre post : List (Cell I)) (base : BaseInfo) (first : base.first ≡ length pre) (short : length pre + base_values base < 2 ^ 64) where
    value_there : (i k : ℕ) → i ≡ length pre + k → k < base_cells base → cell_at (pre ++ (top_base n all base ++ post)) i ≡ Value (top_value n all)
    value_there i k e h = at_behind pre (top_base n all base ++ post) i k e ∙ ap (λ ys. cell_at ys k) (append_assoc (replicate (base_cells base) (Value (top_value n all))) _ post) ∙ at_first (base_cells base) (Value (top_value n all)) _ k h

    behind_values : (i k : ℕ) → i ≡ length pre + (base_cells base + k) → cell_at (pre ++ (top_base n all base ++ post)) i ≡ cell_at ((replicate (length base.shape.zeros) (First (top_zero n)) ++ replicate (cond base.shape.heap 1 0) (State (top_state n))) ++ post) k
    behind_values i k e = at_behind pre (top_base n all base ++ post) i (base_cells base + k) e ∙ ap (λ ys. cell_at ys (base_cells base + k)) (append_assoc (replicate (base_cells base) (Value (top_value n all))) _ post) ∙ at_second (base_cells base) (Value (top_value n all)) _ (base_cells base + k) k refl

    zero_there : (i k : ℕ) → i ≡ length pre + (base_cells base + k) → k < length base.shape.zeros → cell_at (pre ++ (top_base n all base ++ post)) i ≡ First (top_zero n)
    zero_there i k e h = behind_values i k e ∙ ap (λ ys. cell_at ys k) (append_assoc (replicate (length base.shape.zeros) (First (top_zero n))) _ post) ∙ at_first (length base.shape.zeros) (First (top_zero n)) _ k h

    state_there : (i : ℕ) → i ≡ length pre + (base_cells base + length base.shape.zeros) → base.shape.heap ≡ true → cell_at (pre ++ (top_base n all base ++ post)) i ≡ State (top_state n)
    state_there i e h = behind_values i (length base.shape.zeros) e ∙ ap (λ ys. cell_at ys (length base.shape.zeros)) (append_assoc (replicate (length base.shape.zeros) (First (top_zero n))) _ post)
        ∙ at_second (length base.shape.zeros) (First (top_zero n)) _ (length base.shape.zeros) 0 (omega arith)
        ∙ ap (λ b. cell_at (replicate (cond b 1 0) (State (top_state n)) ++ post) 0) h

    heap_cells : base.shape.heap ≡ true → base_cells base ≡ length base.shape.cells + 6
    heap_cells h = ap (λ b. length base.shape.cells + cond b 6 0) h

    heap_values : base.shape.heap ≡ true → base_values base ≡ (base_cells base + length base.shape.zeros) + 1
    heap_values h = ap (λ b. (base_cells base + length base.shape.zeros) + cond b 1 0) h

    base_placed : IsPlaced n all (pre ++ (top_base n all base ++ post)) base
    base_placed = record {
      leaf = λ at h. value_there (leaf_position base at) at (omega arith) (omega arith);
      class = λ at h k. let c = heap_cells h in value_there (class_position base at) (length base.shape.cells + at) (omega arith) (omega arith);
      zero = λ at h. zero_there (zero_position base at) at (omega arith) h;
      state = λ h. let v = heap_values h in state_there (state_position base) (omega arith) h;
    }

  -- the cells of bases that follow each other stand in the greatest row
  pub all_placed : (n : IntegersOf I) (all : Bases) (top pre post : List (Cell I)) (at : ℕ) (bases : List BaseInfo) → top ≡ pre ++ (top_bases n all bases ++ post) → length top < 2 ^ 64 → are_placed (length pre) bases ≡ true → EachFrom (λ base number. IsPlaced n all top base) at bases
  all_placed n all top pre post at [] e h k = tt
  all_placed n all top pre post at (base ∷ bases) e h k =
      let p = and_parts (base.first == length pre) (is_extent base.size && are_placed (length pre + base_values base) bases) k in
      let q = and_parts (is_extent base.size) (are_placed (length pre + base_values base) bases) p.1 in
      let f : top ≡ pre ++ (top_base n all base ++ (top_bases n all bases ++ post)) = e ∙ ap (λ ys. pre ++ ys) (append_assoc (top_base n all base) (top_bases n all bases) post) in
      let g : top ≡ (pre ++ top_base n all base) ++ (top_bases n all bases ++ post) = f ∙ sym (append_assoc pre (top_base n all base) (top_bases n all bases ++ post)) in
      let v = top_length n all base in
      let c = length-append pre (top_base n all base) in
      let d = length-append (pre ++ top_base n all base) (top_bases n all bases ++ post) in
      let u : length top ≡ length ((pre ++ top_base n all base) ++ (top_bases n all bases ++ post)) = ap length g in
      let w : length pre + base_values base ≡ length (pre ++ top_base n all base) = omega arith in (
        subst (λ t. IsPlaced n all t base) (sym f) (base_placed n all pre (top_bases n all bases ++ post) base (eqb-true base.first (length pre) p.0) (omega arith)),
        all_placed n all top (pre ++ top_base n all base) post (at + 1) bases g h (subst (λ z. are_placed z bases ≡ true) w q.1),
      )
