-- A row that is made one of the program's own stands for what it stood for.
use Rattle.std.proofs.Common.{◌≡◌, ℕ, zero, suc, ◌-◌, ◌<◌, ◌≤◌, ◌^◌, true, Some, List, [], ◌∷◌, length, slice_get, arith, sym, subst, refl, ap, ◌∙◌, inl, inr}
use Rattle.std.specs.Prelude.{ℤ, pos, negsuc}
use Rattle.std.proofs.lemmas.Bool.{cases_lt, lt-ltb}
use Rattle.std.proofs.lemmas.Option.{slice_get_within}
use Rattle.cc_base.specs.Lattices.{LatticeOf}
use Rattle.cc_base.specs.IntegerDomains.{IntegersOf, BoundLaws}
use Rattle.c_layout.specs.declared.shapes.BaseInfo.{BaseInfo}
use Rattle.cfg.specs.WellFormed.{all_values}
use Rattle.cfg.specs.declared.programs.Flow.{Flow}
use Rattle.pointer_domain.specs.BaseFacts.{within_has, with_has_same}
use Rattle.pointer_domain.specs.BaseSets.{no_base, bases_has}
use Rattle.value_domain.specs.declared.values.row_cells.Cell.{Cell}
use Rattle.store_objects.specs.LiveBases.{most_bases, only_base}
use Rattle.store_cells.specs.NearValues.{near_number, near_value}
use Rattle.store_cells.specs.RowPositions.{cell_at, value_in, zero_in, state_in, near_state, value_at, zero_at, state_at}
use Rattle.store_monotone.proofs.operations.OwnValues.{each_get}
use Rattle.transfer_checks.specs.Temporaries.{temp_position}
use Rattle.transfer_monotone.specs.Values.LaidOut.{IsLaidOut}
use Rattle.transfer_monotone.proofs.values.TempPlaces.{at_past}
use Rattle.transfer_system.specs.declared.bounded_rows.cell_kinds.CellKind.{CellKind}
use Rattle.transfer_system.specs.declared.bounded_rows.cell_kinds.CellKind.TheVariants as kind
use Rattle.transfer_system.specs.declared.bounded_rows.own_cells.Reach.{Reach}
use Rattle.transfer_system.specs.BoundedRows.CellKinds.{all_kinds, kinds_behind}
use Rattle.transfer_system.specs.BoundedRows.OwnRows.{program_bases, reach_of}
use Rattle.transfer_system.specs.BoundedRows.FittedRows.{list_ends, cell_fit, cells_fit, row_fit, all_cells}
use Rattle.store_sound.specs.Concretization.ValueMeaning.{Naming}
use Rattle.store_sound.specs.Concretization.RowMeaning.{MachineState, InGamma}
use Rattle.transfer_sound.proofs.invariant_maps.ToldRows.{CountTells, StateTells, ValueTells, row_told}
use Rattle.certificate_theorems.proofs.sound.FittedCells.{zero_fitted, state_fitted, no_state, no_value, value_fitted, least_near}
use Rattle.certificate_theorems.proofs.sound.KindPlaces.{kind_of_cell, HasKinds, base_kinds, temp_kinds}

module _ {I : Type 0} (l : LatticeOf I) (n : IntegersOf I) (list : List ℤ) (r : Reach I) where
  fit_at : (ks : List CellKind) (cs : List (Cell I)) (i : ℕ) → i < length cs → cell_at (cells_fit l n list r ks cs) i ≡ cell_fit l n list r (kind_of_cell ks i) (cell_at cs i)
  fit_at ks [] i h = absurd (omega arith)
  fit_at ks (c ∷ cs) zero h = refl
  fit_at ks (c ∷ cs) (suc i) h = fit_at (kinds_behind ks) cs i (omega arith)

only_has : (b : ℕ) → b < most_bases → bases_has (only_base b) b ≡ true
only_has b h = rw (lt-ltb b most_bases h) (with_has_same no_base b)

module _ {I : Type 0} {l : LatticeOf I} {n : IntegersOf I} {gamma : I → ℤ → Type 0} (q : BoundLaws l n gamma) (list : List ℤ) (wide : list_ends list ≡ Some (negsuc (2 ^ 64 - 1), pos (2 ^ 64)))
    (flow : Flow) (laid : IsLaidOut (program_bases (length flow.bases.items)) flow) (few : length flow.bases.items ≤ most_bases) (row : List (Cell I)) (long : length row ≡ flow.width) where
  abbrev reach : Reach I
  reach = reach_of l n list (length flow.bases.items)

  abbrev pub fitted : List (Cell I)
  fitted = row_fit l n list flow.bases.items flow.width row

  abbrev kinds : List CellKind
  kinds = all_kinds flow.bases.items

  fitted_at : (i : ℕ) (k : CellKind) → kind_of_cell kinds i ≡ k → i < length row → cell_at fitted i ≡ cell_fit l n list reach k (cell_at row i)
  unfolding row_fit
  fitted_at i k e h = ap (λ cs. cell_at (cells_fit l n list reach kinds cs) i) (all_cells flow.width row long) ∙ (fit_at l n list reach kinds row i h ∙ ap (λ t. cell_fit l n list reach t (cell_at row i)) e)

  module _ (naming : Naming) (s : MachineState) (h : InGamma l n gamma flow naming row s) where
    known : (i b : ℕ) → naming i ≡ Some b → bases_has (program_bases (length flow.bases.items)) b ≡ true
    known i b e =
        let small = h.sane.few i b e in
        within_has (only_base b) (program_bases (length flow.bases.items)) b (laid.named b small) (only_has b (omega (arith, small, few)))

    value_told : (i : ℕ) → kind_of_cell kinds i ≡ kind.Value → ValueTells gamma naming s.memory (value_at l n row i) (value_at l n fitted i)
    unfolding value_at
    value_told i e = elim (cases_lt i (length row)) [
      | inl w ↦ subst (λ c. ValueTells gamma naming s.memory (near_value l n (value_in l (cell_at row i))) (near_value l n (value_in l c))) (sym (fitted_at i kind.Value e w)) (value_fitted q list wide reach naming s.memory known (cell_at row i))
      | inr w ↦ subst (λ c. ValueTells gamma naming s.memory (near_value l n (value_in l c)) (near_value l n (value_in l (cell_at fitted i)))) (sym (at_past row i w)) (no_value q list wide reach naming s.memory known (near_value l n (value_in l (cell_at fitted i))))
    ]

    zero_told : (i : ℕ) → kind_of_cell kinds i ≡ kind.First → CountTells gamma (zero_at l n row i).at (zero_at l n fitted i).at
    unfolding zero_at
    zero_told i e = elim (cases_lt i (length row)) [
      | inl w ↦ subst (λ c. CountTells gamma (near_number l n (zero_in l (cell_at row i)).at) (near_number l n (zero_in l c).at)) (sym (fitted_at i kind.First e w)) (zero_fitted q list wide reach (cell_at row i))
      | inr w ↦ subst (λ c. CountTells gamma (near_number l n (zero_in l c).at) (near_number l n (zero_in l (cell_at fitted i)).at)) (sym (at_past row i w)) (λ z m k. absurd (least_near q z k))
    ]

    state_told : (i : ℕ) → kind_of_cell kinds i ≡ kind.State → StateTells gamma (state_at l n row i) (state_at l n fitted i)
    unfolding state_at
    state_told i e = elim (cases_lt i (length row)) [
      | inl w ↦ subst (λ c. StateTells gamma (near_state l n (state_in l (cell_at row i))) (near_state l n (state_in l c))) (sym (fitted_at i kind.State e w)) (state_fitted q list wide reach (cell_at row i))
      | inr w ↦ subst (λ c. StateTells gamma (near_state l n (state_in l c)) (near_state l n (state_in l (cell_at fitted i)))) (sym (at_past row i w)) (no_state q list wide reach (near_state l n (state_in l (cell_at fitted i))))
    ]

    small : all_values flow.bases.items < 2 ^ 64
    small = let w = laid.width in let m = laid.near in omega (arith, w, m)

    kinds_of : (b : ℕ) (base : BaseInfo) → slice_get flow.bases.items b ≡ Some base → HasKinds kinds base
    kinds_of b base e = each_get (λ (k : BaseInfo) number. HasKinds kinds k) 0 b flow.bases.items base (base_kinds flow.bases.items laid.layout.placed small) e

    temp_told : (t : ℕ) → ValueTells gamma naming s.memory (value_at l n row (temp_position flow t)) (value_at l n fitted (temp_position flow t))
    temp_told t =
        let w = laid.width in
        let m = laid.near in
        value_told (temp_position flow t) (temp_kinds flow.bases.items laid.layout.placed small (temp_position flow t) (omega (arith, w, m)))

    pub fitted_stands : InGamma l n gamma flow naming fitted s
    fitted_stands = row_told l n gamma flow naming s row fitted (record {
      leaves = λ b j base leaf e k. value_told _ ((kinds_of b base e).leaf j (slice_get_within base.shape.cells j leaf k));
      classes = λ b c base e heap few. value_told _ ((kinds_of b base e).class c heap few);
      zeros = λ b p base part e k. zero_told _ ((kinds_of b base e).zero p (slice_get_within base.shape.zeros p part k));
      states = λ b base e heap. state_told _ ((kinds_of b base e).state heap);
      temps = λ t. temp_told t;
    }) h
