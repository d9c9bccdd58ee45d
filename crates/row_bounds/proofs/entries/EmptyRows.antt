-- The row in which nothing is has the least cell of each place.
use Rattle.std.specs.Prelude.{◌≡◌, ℕ, zero, suc, ◌+◌, ◌^◌, ◌<◌, ◌==◌, Bool, true, false, cond, List, [], ◌∷◌, ◌++◌, length, map, replicate, set, refl}
use Rattle.std.proofs.Common.{arith, sym, subst, ap, ◌∙◌, append_assoc, length-append}
use Rattle.std.proofs.lemmas.Bool.{and_parts, eqb-true}
use Rattle.std.proofs.lemmas.List.{length-replicate, replicate-append-replicate}
use Rattle.cc_base.specs.Lattices.{LatticeOf}
use Rattle.c_layout.specs.declared.shapes.BaseInfo.{BaseInfo}
use Rattle.cfg.specs.BaseShapes.{is_extent}
use Rattle.cfg.specs.WellFormed.{are_placed, base_cells, base_values, all_values}
use Rattle.cfg.specs.declared.programs.Flow.{Flow}
use Rattle.value_domain.specs.Strings.FirstZeros.{zero_lattice}
use Rattle.value_domain.specs.declared.values.row_cells.Cell.{Cell}
use Rattle.value_domain.specs.declared.values.row_cells.Cell.TheVariants.{Value, First, State}
use Rattle.value_domain.specs.Values.Values.{value_lattice}
use Rattle.value_domain.specs.Values.AllocStates.{state_lattice}
use Rattle.store_cells.specs.Walks.{walk, turns}
use Rattle.store_cells.specs.RowPositions.{zero_position, state_position}
use Rattle.store_cells.specs.FirstZeroWrites.{set_zeros}
use Rattle.transfer_system.specs.StartRows.{no_value, empty_state, empty_base, empty_base_at, empty_bases, empty_row}

module _ {I : Type 0} where
  -- ---- cells behind others

  set_behind : (pre ys : List (Cell I)) (i k : ℕ) (c : Cell I) → i ≡ length pre + k
      → set (pre ++ ys) i c ≡ pre ++ set ys k c
  set_behind [] ys i k c e = ap (λ j. set ys j c) (let f : i ≡ k = omega arith in f)
  set_behind (x ∷ pre) ys zero k c e = absurd (omega arith)
  set_behind (x ∷ pre) ys (suc i) k c e = ap (λ zs. x ∷ zs) (set_behind pre ys i k c (omega arith))

  pushed : (m : ℕ) (y : Cell I) (zs : List (Cell I)) → replicate m y ++ (y ∷ zs) ≡ replicate (suc m) y ++ zs
  pushed zero y zs = refl
  pushed (suc m) y zs = ap (λ cs. y ∷ cs) (pushed m y zs)

  -- the cell behind as many others
  set_next : (m : ℕ) (y c d : Cell I) (zs : List (Cell I))
      → set (replicate m y ++ (c ∷ zs)) m d ≡ replicate m y ++ (d ∷ zs)
  set_next m y c d zs = let e = length-replicate m y in set_behind (replicate m y) (c ∷ zs) m 0 d (omega arith)

  parted : (a c t : ℕ) (x : Cell I) → t ≡ a + c → replicate t x ≡ replicate a x ++ replicate c x
  parted a c t x e = ap (λ m. replicate m x) e ∙ sym (replicate-append-replicate a c x)

  -- cells that become others one by one
  turned : (pre rest : List (Cell I)) (x y : Cell I) (place : ℕ → ℕ) (most : ℕ)
      → ((at : ℕ) → at < most → place at ≡ length pre + at) → (count left : ℕ) → most ≡ count + left
      → turns (λ at row. set row (place at) y) count (pre ++ (replicate most x ++ rest))
      ≡ pre ++ (replicate count y ++ (replicate left x ++ rest))
  turned pre rest x y place most h zero left e =
      ap (λ m. pre ++ (replicate m x ++ rest)) (let f : most ≡ left = omega arith in f)
  turned pre rest x y place most h (suc count) left e =
      let p = h count (omega arith) in
      let others = replicate left x ++ rest in
      ap (λ row. set row (place count) y) (turned pre rest x y place most h count (suc left) (omega arith))
      ∙ set_behind pre (replicate count y ++ (x ∷ others)) (place count) count y p
      ∙ ap (λ cs. pre ++ cs) (set_next count y x y others ∙ pushed count y others)

abbrev zeros_of : BaseInfo → ℕ
zeros_of base = length base.shape.zeros

abbrev states_of : BaseInfo → ℕ
states_of base = cond base.shape.heap 1 0

module _ {I : Type 0} (l : LatticeOf I) where
  abbrev LeastValue : Cell I
  LeastValue = Value (value_lattice l).least

  abbrev LeastFirst : Cell I
  LeastFirst = First (zero_lattice l).least

  abbrev LeastState : Cell I
  LeastState = State (state_lattice l).least

  -- the least cells of a base, and of all bases with so many temporaries
  abbrev pub least_base : BaseInfo → List (Cell I)
  least_base base =
      replicate (base_cells base) LeastValue
      ++ (replicate (zeros_of base) LeastFirst ++ replicate (states_of base) LeastState)

  abbrev pub least_bases : List BaseInfo → List (Cell I)
  least_bases [] = []
  least_bases (base ∷ bases) = least_base base ++ least_bases bases

  abbrev pub least_row : List BaseInfo → ℕ → List (Cell I)
  least_row bases temps = least_bases bases ++ replicate temps LeastValue

  least_length : (base : BaseInfo) → length (least_base base) ≡ base_values base
  least_length base =
      let zs = replicate (zeros_of base) LeastFirst in
      let ss = replicate (states_of base) LeastState in
      let a = length-append (replicate (base_cells base) LeastValue) (zs ++ ss) in
      let b = length-append zs ss in
      let c = length-replicate (base_cells base) LeastValue in
      let d = length-replicate (zeros_of base) LeastFirst in
      let e = length-replicate (states_of base) LeastState in
      omega arith

  -- ---- a base behind others

  module _ (pre : List (Cell I)) (base : BaseInfo) (rest : ℕ) (first : base.first ≡ length pre)
      (short : length pre + base_values base < 2 ^ 64) where
    abbrev Cells : List (Cell I)
    Cells = replicate (base_cells base) LeastValue

    abbrev Rest : List (Cell I)
    Rest = replicate rest LeastValue

    -- the row with a cell at each first zero, and others behind
    abbrev Zeros : Cell I → List (Cell I) → List (Cell I)
    Zeros c others = (pre ++ Cells) ++ (replicate (zeros_of base) c ++ others)

    -- what is behind the first zeros, where the cell of a state is this one
    abbrev Behind : Cell I → List (Cell I)
    Behind c = replicate (states_of base) c ++ Rest

    before : pre ++ replicate (base_values base + rest) LeastValue ≡ Zeros LeastValue (Behind LeastValue)
    before =
        let all = zeros_of base + (states_of base + rest) in
        let state = parted (states_of base) rest (states_of base + rest) LeastValue refl in
        let zeros = parted (zeros_of base) (states_of base + rest) all LeastValue refl in
        let cells = parted (base_cells base) all (base_values base + rest) LeastValue (omega arith) in
        ap (λ cs. pre ++ cs)
        (cells ∙ ap (λ cs. Cells ++ cs) (zeros ∙ ap (λ cs. replicate (zeros_of base) LeastValue ++ cs) state))
        ∙ sym (append_assoc pre Cells (replicate (zeros_of base) LeastValue ++ Behind LeastValue))

    place_is : (at : ℕ) → at < zeros_of base + 1 → zero_position base at ≡ length (pre ++ Cells) + at
    place_is at h =
        let a = length-append pre Cells in
        let c = length-replicate (base_cells base) LeastValue in
        omega arith

    zeros_set : (others : List (Cell I))
        → set_zeros base (zero_lattice l).least (Zeros LeastValue others) ≡ Zeros LeastFirst others
    unfolding set_zeros
    zeros_set others =
        turned (pre ++ Cells) others LeastValue LeastFirst (zero_position base) (zeros_of base)
        (λ at h. place_is at (omega arith)) (zeros_of base) 0 (omega arith)

    state_set : (heap : Bool) (row : List (Cell I))
        → row ≡ Zeros LeastFirst (replicate (cond heap 1 0) LeastValue ++ Rest)
        → cond heap (set row (state_position base) LeastState) row
        ≡ Zeros LeastFirst (replicate (cond heap 1 0) LeastState ++ Rest)
    state_set false row e = e
    state_set true row e =
        let zs = replicate (zeros_of base) LeastFirst in
        let p = place_is (zeros_of base) (omega arith) in
        ap (λ cs. set cs (state_position base) LeastState) e
        ∙ set_behind (pre ++ Cells) (zs ++ (LeastValue ∷ Rest)) (state_position base) (zeros_of base) LeastState p
        ∙ ap (λ cs. (pre ++ Cells) ++ cs) (set_next (zeros_of base) LeastFirst LeastValue LeastState Rest)

    behind : Zeros LeastFirst (Behind LeastState) ≡ (pre ++ least_base base) ++ Rest
    behind =
        let zs = replicate (zeros_of base) LeastFirst in
        let ss = replicate (states_of base) LeastState in
        append_assoc pre Cells (zs ++ (ss ++ Rest))
        ∙ ap (λ cs. pre ++ (Cells ++ cs)) (sym (append_assoc zs ss Rest))
        ∙ ap (λ cs. pre ++ cs) (sym (append_assoc Cells (zs ++ ss) Rest))
        ∙ sym (append_assoc pre (least_base base) Rest)

    base_emptied : empty_base l base (pre ++ replicate (base_values base + rest) LeastValue)
        ≡ (pre ++ least_base base) ++ Rest
    unfolding empty_base empty_state
    base_emptied =
        let step = set_zeros base (zero_lattice l).least in
        state_set base.shape.heap (step (pre ++ replicate (base_values base + rest) LeastValue))
        (ap step before ∙ zeros_set (Behind LeastValue))
        ∙ behind

  -- ---- all bases

  emptied : (pre : List (Cell I)) (at temps : ℕ) (bases : List BaseInfo) → are_placed (length pre) bases ≡ true
      → length pre + all_values bases < 2 ^ 64
      → walk (empty_base_at l) at bases (pre ++ replicate (all_values bases + temps) LeastValue)
      ≡ pre ++ least_row bases temps
  emptied pre at temps [] h s = ap (λ m. pre ++ replicate m LeastValue) (plain temps)
    where
      plain : (temps : ℕ) → 0 + temps ≡ temps
      plain temps = omega arith
  emptied pre at temps (base ∷ bases) h s =
      let p = and_parts (base.first == length pre) _ h in
      let q = and_parts (is_extent base.size) (are_placed (length pre + base_values base) bases) p.1 in
      let a = length-append pre (least_base base) in
      let c = least_length base in
      let w : length pre + base_values base ≡ length (pre ++ least_base base) = omega arith in
      let t : all_values (base ∷ bases) + temps ≡ base_values base + (all_values bases + temps) = omega arith in
      let others = walk (empty_base_at l) (at + 1) bases in
      let f = eqb-true base.first (length pre) p.0 in
      ap (λ m. others (empty_base l base (pre ++ replicate m LeastValue))) t
      ∙ ap others (base_emptied pre base (all_values bases + temps) f (omega arith))
      ∙ emptied (pre ++ least_base base) (at + 1) temps bases
      (subst (λ z. are_placed z bases ≡ true) w q.1) (omega arith)
      ∙ append_assoc pre (least_base base) (least_row bases temps)
      ∙ ap (λ cs. pre ++ cs) (sym (append_assoc (least_base base) (least_bases bases) (replicate temps LeastValue)))

  no_values : (row : List (Cell I)) → map (no_value l) row ≡ replicate (length row) LeastValue
  no_values [] = refl
  no_values (c ∷ cs) = ap (λ ds. LeastValue ∷ ds) (no_values cs)

  -- whatever row it is made in
  pub empty_is : (flow : Flow) (temps : ℕ) (row : List (Cell I)) → are_placed 0 flow.bases.items ≡ true
      → length row ≡ all_values flow.bases.items + temps → length row < 2 ^ 64
      → empty_row l flow row ≡ least_row flow.bases.items temps
  unfolding empty_row empty_bases
  empty_is flow temps row h e s =
      ap (walk (empty_base_at l) 0 flow.bases.items) (no_values row ∙ ap (λ m. replicate m LeastValue) e)
      ∙ emptied [] 0 temps flow.bases.items h (omega arith)
