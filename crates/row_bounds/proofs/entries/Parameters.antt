-- Parameters of the entry that are given any number of their type leave rows of the program.
use Rattle.std.specs.Prelude.{◌≡◌, ◌⊎◌, ℕ, zero, suc, ◌+◌, ◌<◌, ◌≤◌, ◌^◌, ◌==◌, ℤ, Bool, true, false, cond, not, ◌&&◌, Option, Some, None, List, [], ◌∷◌, ◌++◌, length, replicate, slice_get, refl}
use Rattle.std.specs.List.{list_all}
use Rattle.std.proofs.Common.{arith, sym, subst, ap, ◌∙◌, append_assoc, length-append, inl, inr}
use Rattle.std.proofs.lemmas.Bool.{and_parts, eqb-true, not-true}
use Rattle.std.proofs.lemmas.List.{length-replicate}
use Rattle.cc_base.specs.Lattices.{LatticeOf, OrderLaws}
use Rattle.cc_base.specs.IntegerDomains.{IntegersOf, BoundLaws, RangeLaws}
use Rattle.cc_base.specs.IntegerLaws.{MonotoneLaws}
use Rattle.cc_base.specs.IntegerTypes.{is_size, least_of, greatest_of}
use Rattle.cc_base.specs.declared.int_types.IntType.{IntType}
use Rattle.c_layout.specs.declared.data_model.Model.{Model}
use Rattle.c_layout.specs.declared.leaf_lists.Leaf.{Leaf}
use Rattle.c_layout.specs.declared.shapes.BaseInfo.{BaseInfo}
use Rattle.c_layout.specs.declared.shapes.ZeroPart.{ZeroPart}
use Rattle.cfg.specs.BaseShapes.{is_extent, are_leaves, are_parts, lie_over, is_heap, is_heap_base, is_declared_base, is_shaped}
use Rattle.cfg.specs.WellFormed.{are_placed, base_cells, base_values}
use Rattle.cfg.specs.declared.programs.Flow.{Flow}
use Rattle.cfg.specs.declared.programs.ParameterInput.{ParameterInput}
use Rattle.pointer_domain.specs.declared.base_sets.Bases.{Bases}
use Rattle.pointer_domain.specs.PointerLattice.{pointer_order}
use Rattle.value_domain.specs.Values.LabelSets.{input_labels}
use Rattle.value_domain.specs.Values.Values.{value_order}
use Rattle.value_domain.specs.declared.values.label_sets.Labels.{Labels}
use Rattle.value_domain.specs.declared.values.row_cells.Cell.{Cell}
use Rattle.value_domain.specs.declared.values.row_cells.Cell.TheVariants.{Value, First, State}
use Rattle.domain_theorems.proofs.values.Parts.{value_below}
use Rattle.store_cells.specs.CellReads.{whole_range}
use Rattle.store_cells.specs.RowPositions.{cell_at, leaf_position, put_value}
use Rattle.store_cells.specs.Walks.{walk}
use Rattle.store_monotone.specs.Operations.TopCells.{top_value, top_zero, top_state}
use Rattle.store_monotone.specs.Operations.TopRows.{top_base, top_bases, top_row}
use Rattle.store_monotone.proofs.operations.CellReads.{labels_top}
use Rattle.store_monotone.proofs.operations.Consistent.{even_bare}
use Rattle.transfer_system.specs.StartRows.{put_parameter, start_parameter, parameter_at, start_parameters, started}
use Rattle.system_monotone.specs.LaidOut.{IsLaidOut}
use Rattle.system_monotone.specs.RisingRows.{ValuesRise}
use Rattle.system_monotone.proofs.IntegerSteps.{near_ends}
use Rattle.system_monotone.proofs.RisingCells.{put_rises}
use Rattle.system_monotone.proofs.Touches.{range_near}
use Rattle.system_monotone.proofs.FilledSteps.{fill_set}
use Rattle.system_monotone.proofs.MemorySteps.{row_near}
use Rattle.row_bounds.proofs.entries.StaticValues.{flag_true}
use Rattle.row_bounds.proofs.entries.StartSteps.{IsKept, IsLeftKept}

-- ---- bases without leaves

over_none : (leaves : List Leaf) (parts : List ZeroPart) → length leaves ≡ 0 → lie_over 0 leaves parts ≡ true
    → length parts ≡ 0
over_none [] [] e h = refl
over_none [] (p ∷ parts) e h = absurd (cc)
over_none (leaf ∷ leaves) parts e h = absurd (omega arith)

heap_cells : (heap : Bool) → heap ≡ true → ◌≡◌ {A = ℕ} (cond heap 6 0) 6
heap_cells heap e = ap (λ t. cond {A = ℕ} t 6 0) e

no_state : (heap : Bool) → heap ≡ false → ◌≡◌ {A = ℕ} (cond heap 1 0) 0
no_state heap e = ap (λ t. cond {A = ℕ} t 1 0) e

-- a base without leaves has no cells at all
no_values : (m : Model) (base : BaseInfo) → is_shaped m base ≡ true → base_cells base ≡ 0 → base_values base ≡ 0
no_values m base h e = by_kind (is_heap base.kind) h
  where
    by_kind : (t : Bool) → cond t (is_heap_base m base) (is_declared_base m base) ≡ true → base_values base ≡ 0
    by_kind true h =
        let a = and_parts (base.shape.heap && (base.size == 0)) _ h in
        let c = and_parts base.shape.heap (base.size == 0) a.0 in
        let six = heap_cells base.shape.heap c.0 in
        absurd (omega arith)
    by_kind false h =
        let a = and_parts (not base.shape.heap && is_extent base.size)
        (are_leaves m base.size base.shape.cells &&
        (are_parts base.size 0 base.shape.zeros && lie_over 0 base.shape.cells base.shape.zeros)) h in
        let c = and_parts (not base.shape.heap) (is_extent base.size) a.0 in
        let d = and_parts (are_leaves m base.size base.shape.cells)
        (are_parts base.size 0 base.shape.zeros && lie_over 0 base.shape.cells base.shape.zeros) a.1 in
        let f = and_parts (are_parts base.size 0 base.shape.zeros) (lie_over 0 base.shape.cells base.shape.zeros) d.1 in
        let none = over_none base.shape.cells base.shape.zeros (omega arith) f.1 in
        let plain = no_state base.shape.heap (not-true base.shape.heap c.0) in
        omega arith

module _ {I : Type 0} (n : IntegersOf I) (all : Bases) where
  abbrev TopValue : Cell I
  TopValue = Value (top_value n all)

  at_behind : (pre ys : List (Cell I)) (i k : ℕ) → i ≡ length pre + k → cell_at (pre ++ ys) i ≡ cell_at ys k
  at_behind [] ys i k e = ap (cell_at ys) (let f : i ≡ k = omega arith in f)
  at_behind (x ∷ pre) ys zero k e = absurd (omega arith)
  at_behind (x ∷ pre) ys (suc i) k e = at_behind pre ys i k (omega arith)

  no_cells : (xs : List (Cell I)) → length xs ≡ 0 → xs ≡ []
  no_cells [] e = refl
  no_cells (x ∷ xs) e = absurd (omega arith)

  base_length : (base : BaseInfo) → length (top_base n all base) ≡ base_values base
  base_length base =
      let zs = replicate (length base.shape.zeros) (First (top_zero n)) in
      let ss = replicate (cond base.shape.heap 1 0) (State (top_state n)) in
      let a = length-append (replicate (base_cells base) TopValue) (zs ++ ss) in
      let b = length-append zs ss in
      let c = length-replicate (base_cells base) TopValue in
      let d = length-replicate (length base.shape.zeros) (First (top_zero n)) in
      let e = length-replicate (cond base.shape.heap 1 0) (State (top_state n)) in
      omega arith

  -- a value, or nothing behind the row
  abbrev IsValuePlace : List (Cell I) → ℕ → Type 0
  IsValuePlace top i = (cell_at top i ≡ TopValue) ⊎ (length top ≤ i)

  first_temp : (temps : ℕ) → IsValuePlace (replicate temps TopValue) 0
  first_temp zero = inr (omega arith)
  first_temp (suc temps) = inl refl

  -- rows of bases of these shapes begin with a value
  begins : (m : Model) (temps : ℕ) (bases : List BaseInfo) → list_all (is_shaped m) bases ≡ true
      → IsValuePlace (top_row n all bases temps) 0
  begins m temps [] h = first_temp temps
  begins m temps (base ∷ bases) h =
      let p = and_parts (is_shaped m base) (list_all (is_shaped m) bases) h in
      by_cells (base_cells base) refl p.0 (begins m temps bases p.1)
    where
      by_cells : (cells : ℕ) → base_cells base ≡ cells → is_shaped m base ≡ true
          → IsValuePlace (top_row n all bases temps) 0 → IsValuePlace (top_row n all (base ∷ bases) temps) 0
      by_cells zero e s r =
          let v = no_values m base s e in
          let d = base_length base in
          let none : top_base n all base ≡ [] = no_cells (top_base n all base) (omega arith) in
          subst (λ xs. IsValuePlace ((xs ++ top_bases n all bases) ++ replicate temps TopValue) 0) (sym none) r
      by_cells (suc cells) e s r = inl
          (ap (λ m. cell_at (((replicate m TopValue ++ (replicate (length base.shape.zeros)
          (First (top_zero n)) ++ replicate (cond base.shape.heap 1 0)
          (State (top_state n)))) ++ top_bases n all bases) ++ replicate temps TopValue) 0) e)

  -- so does each base
  value_place : (m : Model) (temps number : ℕ) (bases : List BaseInfo) (base : BaseInfo) (pre top : List (Cell I))
      → list_all (is_shaped m) bases ≡ true → are_placed (length pre) bases ≡ true
      → top ≡ pre ++ top_row n all bases temps → length top < 2 ^ 64 → slice_get bases number ≡ Some base
      → IsValuePlace top (leaf_position base 0)
  value_place m temps number [] base pre top h j e s q = absurd (cc)
  value_place m temps zero (x ∷ bases) base pre top h j e s q =
      let p = and_parts (x.first == length pre) (is_extent x.size && are_placed (length pre + base_values x) bases) j in
      let first : x.first ≡ length pre = eqb-true x.first (length pre) p.0 in
      let same : x.first ≡ base.first = (let d : x ≡ base = cc in ap (λ (y : BaseInfo). y.first) d) in
      let a = length-append pre (top_row n all (x ∷ bases) temps) in
      let long : length top ≡ length (pre ++ top_row n all (x ∷ bases) temps) = ap length e in
      elim (begins m temps (x ∷ bases) h) [
        | inl v ↦ inl (ap (λ ys. cell_at ys (leaf_position base 0)) e ∙ at_behind pre
            (top_row n all (x ∷ bases) temps) (leaf_position base 0) 0 (omega arith) ∙ v)
        | inr v ↦ inr (omega arith)
      ]
  value_place m temps (suc number) (x ∷ bases) base pre top h j e s q =
      let p = and_parts (x.first == length pre) (is_extent x.size && are_placed (length pre + base_values x) bases) j in
      let r = and_parts (is_extent x.size) (are_placed (length pre + base_values x) bases) p.1 in
      let a = length-append pre (top_base n all x) in
      let c = base_length x in
      let w : length pre + base_values x ≡ length (pre ++ top_base n all x) = omega arith in
      value_place m temps number bases base (pre ++ top_base n all x) top
      (and_parts (is_shaped m x) (list_all (is_shaped m) bases) h).1
      (subst (λ z. are_placed z bases ≡ true) w r.1)
      (e ∙ ap (λ ys. pre ++ ys) (append_assoc (top_base n all x) (top_bases n all bases) (replicate temps TopValue))
      ∙ sym (append_assoc pre (top_base n all x) (top_row n all bases temps))) s q

module _ {I : Type 0} {l : LatticeOf I} {n : IntegersOf I} {stands : I → ℤ → Type 0} (o : OrderLaws l)
    (b : BoundLaws l n stands) (g : MonotoneLaws l n) (f : RangeLaws l n) (all : Bases) (flow : Flow)
    (k : IsLaidOut all flow) (shaped : list_all (is_shaped flow.model) flow.bases.items ≡ true) where
  whole_own : (kind : IntType) (labels : Labels) → is_size kind.bytes ≡ true
      → ValuesRise l n all (whole_range l n kind labels false) (whole_range l n kind labels false)
  whole_own kind labels s =
      let e = near_ends kind s in
      record {
        below = (value_order o).reflexive (whole_range l n kind labels false);
        own = value_below l (whole_range l n kind labels false) (top_value n all)
            (record {
              num = range_near o b all (Some (least_of kind, greatest_of kind)) (e.0, e.1);
              pointer =
                  (pointer_order o).least_below (top_value n all).pointer;
              indeterminate = flag_true false;
              labels =
                  labels_top labels;
            });
        even = (even_bare o b false false).1;
      }

  put_kept : (kind : IntType) (number : ℕ) (found : Option BaseInfo) → slice_get flow.bases.items number ≡ found
      → (row : List (Cell I)) → IsKept o b g f all flow k row
      → IsKept o b g f all flow k (put_parameter l n kind found row)
  put_kept kind number None e row j = j
  put_kept kind number (Some base) e row j = by_size (is_size kind.bytes) refl
    where
      by_size : (t : Bool) → is_size kind.bytes ≡ t
          → IsKept o b g f all flow k
          (cond t (put_value row (leaf_position base 0) (whole_range l n kind (input_labels kind) false)) row)
      by_size true s = record {
        rows = put_rises o b all k.words (top_row n all flow.bases.items flow.temps) row row j.rows
            (leaf_position base 0)
            (value_place n all flow.model flow.temps number flow.bases.items base []
            (top_row n all flow.bases.items flow.temps) shaped k.layout.placed refl
            (row_near o b g f all flow k) e)
            (whole_range l n kind (input_labels kind) false) (whole_range l n kind (input_labels kind) false)
            (whole_own kind (input_labels kind) s);
        filled = fill_set row (leaf_position base 0)
            (Value (whole_range l n kind (input_labels kind) false)) tt j.filled;
      }
      by_size false s = j

  walk_kept : (at : ℕ) (ps : List ParameterInput) (row : List (Cell I)) → IsKept o b g f all flow k row
      → IsKept o b g f all flow k (walk (parameter_at l n flow) at ps row)
  unfolding start_parameter
  walk_kept at [] row j = j
  walk_kept at (p ∷ ps) row j = walk_kept (at + 1) ps (start_parameter l n flow p row)
      (put_kept p.kind p.base (slice_get flow.bases.items p.base) refl row j)

  pub parameters_kept : (x : Option (List (Cell I))) → IsLeftKept o b g f all flow k x
      → IsLeftKept o b g f all flow k (started l n flow x)
  unfolding start_parameters
  parameters_kept None j = tt
  parameters_kept (Some row) j = walk_kept 0 flow.parameters.items row j
