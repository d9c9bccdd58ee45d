-- Own cells of the system of certificates are found again in a text.
use Rattle.std.proofs.Common.{◌≡◌, ◌∙◌, ◌-◌, ◌^◌, ℕ, zero, suc, min, Bool, true, false, cond, not, ◌&&◌, ◌||◌, List, [], ◌∷◌, length, replicate, refl, sym, ap, subst, arith, inl, inr}
use Rattle.std.specs.Prelude.{pos, negsuc, ◌≤ℤ◌, is_none}
use Rattle.std.proofs.lemmas.Bool.{and_from, and_parts, or_cases, not-true}
use Rattle.std.proofs.lemmas.Int.{ints, clamps}
use Rattle.cc_base.specs.LatticeParts.{flag_leq}
use Rattle.interval_domain.specs.Intervals.Best.{le_true, true_le}
use Rattle.interval_domain.specs.Numbers.Nearest.{nearest}
use Rattle.interval_domain.specs.Intervals.Spans.{between_or_empty, interval_bounds}
use Rattle.interval_domain.specs.Intervals.IntervalOrder.{interval_leq}
use Rattle.interval_domain.specs.Intervals.IntervalRound.{interval_within}
use Rattle.interval_domain.specs.Intervals.IntervalLattice.{interval_lattice}
use Rattle.interval_domain.specs.Intervals.IntervalNumbers.{interval_numbers}
use Rattle.interval_domain.specs.declared.intervals.intervals.Interval.{Interval}
use Rattle.interval_domain.specs.declared.intervals.intervals.Interval.TheVariants.{Bottom, Of}
use Rattle.pointer_domain.specs.BaseSets.{no_base, bases_within, bases_empty}
use Rattle.pointer_domain.specs.BaseLattice.{bases_order}
use Rattle.pointer_domain.specs.PointerLattice.{pointers_leq, no_pointer}
use Rattle.pointer_domain.specs.declared.pointer_sets.Pointers.{Pointers}
use Rattle.value_domain.specs.Strings.FirstZeros.{zero_lattice}
use Rattle.value_domain.specs.declared.strings.first_zeros.FirstZero.{FirstZero}
use Rattle.value_domain.specs.Values.LabelSets.{is_unlabelled}
use Rattle.value_domain.specs.Values.Values.{value_lattice}
use Rattle.value_domain.specs.Values.AllocStates.{state_lattice}
use Rattle.value_domain.specs.declared.values.values.Value as values
use Rattle.value_domain.specs.declared.values.alloc_states.AllocState.{AllocState}
use Rattle.value_domain.specs.declared.values.row_cells.Cell.{Cell}
use Rattle.value_domain.specs.declared.values.row_cells.Cell.TheVariants.{Nothing, Value, First, State, Mixed}
use Rattle.transfer_system.specs.declared.bounded_rows.cell_kinds.CellKind.{CellKind}
use Rattle.transfer_system.specs.declared.bounded_rows.cell_kinds.CellKind.TheVariants as kind
use Rattle.transfer_system.specs.declared.bounded_rows.own_cells.Reach.{Reach}
use Rattle.transfer_system.specs.BoundedRows.CellKinds.{first_kind, kinds_behind}
use Rattle.transfer_system.specs.BoundedRows.FittedRows.{number_fit, count_fit, bases_fit, if_somewhere, pointer_fit, greatest_number, greatest_pointer, greatest_value, greatest_first, greatest_state, cell_fit, cells_fit, cells_of}
use Rattle.transfer_system.specs.BoundedRows.OwnRows.{reach_of, is_consistent, is_nowhere, is_somewhere, is_own_pointer, is_known_value, is_known_first, is_known_state, is_own_cell, are_own_cells}
use Rattle.certificate_text.specs.Maps.LeastCells as least
use Rattle.certificate_text.specs.Maps.LeastCells.{is_least}
use Rattle.certificate_check.specs.Reading.GreatestRows.{cert_numbers}
use Rattle.certificate_theorems.specs.Lines.NearRanges.{IsNearRange, AreFew}
use Rattle.certificate_theorems.specs.Lines.NearCells.{IsNearValue}
use Rattle.certificate_theorems.specs.RoundTrip.ReadableRows.{IsReadableCell, AreReadableCells}
use Rattle.certificate_theorems.proofs.lines.FewBases.{below_few, within_few}
use Rattle.certificate_theorems.proofs.lines.BaseWords.{empty_is}

-- ---- numbers

abbrev top : Interval
top = between_or_empty (negsuc (2 ^ 64 - 1)) (pos (2 ^ 64))

near_of : (x : Interval) → interval_within cert_numbers x ≡ true → IsNearRange x
near_of Bottom h = tt
near_of (Of s) h =
    let a = and_parts _ _ h in
    let order = s.ordered in
    let low : negsuc (2 ^ 64 - 1) ≤ℤ s.lo = elim (or_cases _ _ a.0) [
      | inl e ↦ le_true (negsuc (2 ^ 64 - 1)) s.lo e
      | inr e ↦ elim (or_cases _ _ e) [ inl f ↦ (let g = le_true (pos (2 ^ 64)) s.lo f in omega (arith, ints)) | inr f ↦ absurd (cc) ]
    ] in
    let high : s.hi ≤ℤ pos (2 ^ 64) = elim (or_cases _ _ a.1) [
      | inl e ↦ (let g = le_true s.hi (negsuc (2 ^ 64 - 1)) e in omega (arith, ints))
      | inr e ↦ elim (or_cases _ _ e) [ inl f ↦ le_true s.hi (pos (2 ^ 64)) f | inr f ↦ absurd (cc) ]
    ] in
    (record { least = low; greatest = omega (arith, ints) }, record { least = omega (arith, ints); greatest = high })

top_below : (x : Interval) → IsNearRange x → interval_leq x top ≡ true
unfolding between_or_empty
top_below Bottom h = refl
top_below (Of s) h = and_from _ _ (true_le (negsuc (2 ^ 64 - 1)) s.lo h.0.least) (true_le s.hi (pos (2 ^ 64)) h.1.greatest)

flag_top : (p : Bool) → flag_leq p true ≡ true
flag_top true = refl
flag_top false = refl

-- ---- the greatest cells

module _ (count : ℕ) where
  abbrev pub reach : Reach Interval
  reach = reach_of interval_lattice interval_numbers cert_numbers count

  number_is : number_fit interval_lattice interval_numbers cert_numbers (greatest_number interval_lattice interval_numbers cert_numbers) ≡ top
  unfolding between_or_empty
  number_is = refl

  count_is : count_fit interval_lattice interval_numbers cert_numbers reach reach.counts ≡ top
  unfolding between_or_empty nearest
  count_is = refl

  few : AreFew reach.bases
  few = below_few (min count 1016) (omega (arith, clamps))

  cond_same : {A : Type 0} (t : Bool) (x : A) → cond t x x ≡ x
  cond_same true x = refl
  cond_same false x = refl

  -- all pointers into the program's bases
  abbrev wide : Pointers Interval
  wide = record { bases = reach.bases; lo = top; rel = top; len = top; part = true; null = true; ended = true }

  pointer_is : pointer_fit interval_lattice interval_numbers cert_numbers reach (greatest_pointer interval_lattice interval_numbers cert_numbers reach) ≡ if_somewhere interval_lattice interval_numbers wide
  pointer_is =
      let b : bases_fit reach reach.bases ≡ reach.bases = cond_same (bases_within reach.bases reach.bases) reach.bases in
      λ i. if_somewhere interval_lattice interval_numbers (record { bases = b i; lo = count_is i; rel = number_is i; len = count_is i; part = true; null = true; ended = true })

  somewhere_is : (t : Bool) → bases_empty reach.bases ≡ t → if_somewhere interval_lattice interval_numbers wide ≡ cond t (record (no_pointer interval_lattice) { null = true; ended = true }) wide
  unfolding between_or_empty
  somewhere_is true e = ap (λ t. cond (not t && true) wide (record (no_pointer interval_lattice) { null = true; ended = true })) e
  somewhere_is false e = ap (λ t. cond (not t && true) wide (record (no_pointer interval_lattice) { null = true; ended = true })) e

  -- ---- values

  record IsKnown (v : values.Value Interval) : Type 0 where
    num : IsNearRange v.num
    lo : IsNearRange v.pointer.lo
    rel : IsNearRange v.pointer.rel
    len : IsNearRange v.pointer.len
    within : bases_within v.pointer.bases reach.bases ≡ true
    even : is_consistent interval_numbers v.pointer ≡ true

  known : (v : values.Value Interval) → is_known_value interval_lattice interval_numbers cert_numbers reach v ≡ true → IsKnown v
  known v own =
      let a = and_parts ((value_lattice interval_lattice).within cert_numbers v) (is_own_pointer interval_lattice interval_numbers reach v.pointer) own in
      let w = and_parts (interval_within cert_numbers v.num) _ a.0 in
      let p = and_parts _ _ w.1 in
      let b = and_parts _ _ p.0 in
      let lo = and_parts (interval_within cert_numbers v.pointer.lo) _ b.1 in
      let rel = and_parts (interval_within cert_numbers v.pointer.rel) _ lo.1 in
      let len = and_parts (interval_within cert_numbers v.pointer.len) _ rel.1 in
      let c = and_parts (bases_within v.pointer.bases reach.bases) _ a.1 in
      let d = and_parts (is_consistent interval_numbers v.pointer) _ c.1 in
      record { num = near_of v.num w.0; lo = near_of v.pointer.lo lo.0; rel = near_of v.pointer.rel rel.0; len = near_of v.pointer.len len.0; within = c.0; even = d.0 }

  known_near : (v : values.Value Interval) → IsKnown v → IsNearValue v
  known_near v k = record { num = k.num; pointer = record { few = within_few v.pointer.bases reach.bases k.within few; lo = k.lo; rel = k.rel; len = k.len } }

  none_bottom : (x : Interval) → is_none (interval_bounds x) ≡ true → x ≡ Bottom
  none_bottom Bottom e = refl
  none_bottom (Of s) e = absurd (cc)

  record IsNowhere (p : Pointers Interval) : Type 0 where
    bases : p.bases ≡ no_base
    lo : p.lo ≡ Bottom
    rel : p.rel ≡ Bottom
    len : p.len ≡ Bottom
    part : p.part ≡ false

  nowhere : (p : Pointers Interval) → is_consistent interval_numbers p ≡ true → bases_empty p.bases ≡ true → IsNowhere p
  nowhere p even empty =
      let h : is_nowhere interval_numbers p ≡ true = subst (λ t. cond t (is_nowhere interval_numbers p) (is_somewhere interval_numbers p) ≡ true) empty even in
      let a = and_parts (is_none (interval_bounds p.lo)) _ h in
      let b = and_parts (is_none (interval_bounds p.rel)) _ a.1 in
      let c = and_parts (is_none (interval_bounds p.len)) (not p.part) b.1 in
      record { bases = empty_is p.bases empty; lo = none_bottom p.lo a.0; rel = none_bottom p.rel b.0; len = none_bottom p.len c.0; part = not-true p.part c.1 }

  pointer_below : (v : values.Value Interval) → IsKnown v → (t : Bool) → bases_empty reach.bases ≡ t → pointers_leq interval_lattice v.pointer (cond t (record (no_pointer interval_lattice) { null = true; ended = true }) wide) ≡ true
  pointer_below v k false e =
      and_from _ _ k.within (and_from _ _ (top_below v.pointer.lo k.lo) (and_from _ _ (top_below v.pointer.rel k.rel) (and_from _ _ (top_below v.pointer.len k.len)
      (and_from _ _ (flag_top v.pointer.part) (and_from _ _ (flag_top v.pointer.null) (flag_top v.pointer.ended))))))
  pointer_below v k true e =
      let none : reach.bases ≡ no_base = empty_is reach.bases e in
      let own : bases_within v.pointer.bases no_base ≡ true = subst (λ s. bases_within v.pointer.bases s ≡ true) none k.within in
      let same : v.pointer.bases ≡ no_base = bases_order.antisymmetric v.pointer.bases no_base own (bases_order.least_below v.pointer.bases) in
      let empty : bases_empty v.pointer.bases ≡ true = ap bases_empty same in
      let n = nowhere v.pointer k.even empty in
      and_from _ _ own (and_from _ _ (ap (λ x. interval_leq x Bottom) n.lo) (and_from _ _ (ap (λ x. interval_leq x Bottom) n.rel) (and_from _ _ (ap (λ x. interval_leq x Bottom) n.len)
      (and_from _ _ (ap (λ p. flag_leq p false) n.part) (and_from _ _ (flag_top v.pointer.null) (flag_top v.pointer.ended))))))

  value_below : (v : values.Value Interval) → IsKnown v → (value_lattice interval_lattice).leq v (greatest_value interval_lattice interval_numbers cert_numbers reach) ≡ true
  value_below v k =
      let p = pointer_is ∙ somewhere_is (bases_empty reach.bases) refl in
      and_from _ _ (subst (λ x. interval_leq v.num x ≡ true) (sym number_is) (top_below v.num k.num))
      (and_from _ _ (subst (λ x. pointers_leq interval_lattice v.pointer x ≡ true) (sym p) (pointer_below v k (bases_empty reach.bases) refl))
      (and_from _ _ (flag_top v.indeterminate) (and_from _ _ (flag_top v.labels.lo) (and_from _ _ (flag_top v.labels.hi) (flag_top v.labels.mutated)))))

  none_is : (x : Interval) → least.is_none x ≡ true → x ≡ Bottom
  none_is Bottom e = refl
  none_is (Of s) e = absurd (cc)

  unlabelled : (a b c : Bool) → not (a || (b || c)) ≡ true → (a ≡ false) × ((b ≡ false) × (c ≡ false))
  unlabelled false false false e = (refl, (refl, refl))
  unlabelled true b c e = absurd (cc)
  unlabelled false true c e = absurd (cc)
  unlabelled false false true e = absurd (cc)

  value_least : (v : values.Value Interval) → IsKnown v → least.is_no_value v ≡ true → (value_lattice interval_lattice).least ≡ v
  unfolding least.is_no_value least.is_no_pointer
  value_least v k h =
      let a = and_parts (least.is_none v.num) _ h in
      let b = and_parts _ (not v.indeterminate && is_unlabelled v.labels) a.1 in
      let c = and_parts (bases_empty v.pointer.bases) (not v.pointer.null && not v.pointer.ended) b.0 in
      let d = and_parts (not v.pointer.null) (not v.pointer.ended) c.1 in
      let e = and_parts (not v.indeterminate) (is_unlabelled v.labels) b.1 in
      let n = nowhere v.pointer k.even c.0 in
      let num = none_is v.num a.0 in
      let bases = n.bases in
      let lo = n.lo in
      let rel = n.rel in
      let len = n.len in
      let part = n.part in
      let null = not-true v.pointer.null d.0 in
      let ended = not-true v.pointer.ended d.1 in
      let blank = not-true v.indeterminate e.0 in
      let labels = unlabelled v.labels.lo v.labels.hi v.labels.mutated e.1 in
      let l0 = labels.0 in
      let l1 = labels.1.0 in
      let l2 = labels.1.1 in
      let same : v ≡ (value_lattice interval_lattice).least = λ i. record {
        num = num i;
        pointer = record { bases = bases i; lo = lo i; rel = rel i; len = len i; part = part i; null = null i; ended = ended i };
        indeterminate = blank i;
        labels = record { lo = l0 i; hi = l1 i; mutated = l2 i };
      } in
      sym same

  value_readable : (v : values.Value Interval) → is_known_value interval_lattice interval_numbers cert_numbers reach v ≡ true → IsReadableCell (Value (greatest_value interval_lattice interval_numbers cert_numbers reach)) (Value v)
  value_readable v own =
      let k = known v own in
      record {
        least = λ e. ap (λ z. Value z) (value_least v k e);
        line = λ e. and_from _ _ (value_below v k) (and_from _ _ (ap not e) k.even);
        near = λ e. known_near v k;
      }

  -- ---- first zeros and states

  first_readable : (f : FirstZero Interval) → is_known_first interval_lattice cert_numbers reach f ≡ true → IsReadableCell (First (greatest_first interval_lattice interval_numbers cert_numbers reach)) (First f)
  first_readable f own =
      let a = and_parts (interval_within cert_numbers f.at) (interval_leq f.at reach.counts) own in
      let near = near_of f.at a.0 in
      record {
        least = λ e. (let n = none_is f.at e in let same : f ≡ (zero_lattice interval_lattice).least = λ i. record { at = n i } in ap (λ z. First z) (sym same));
        line = λ e. and_from _ _ (subst (λ x. interval_leq f.at x ≡ true) (sym count_is) (top_below f.at near)) (and_from _ _ (ap not e) refl);
        near = λ e. near;
      }

  state_readable : (s : AllocState Interval) → is_known_state interval_lattice cert_numbers reach s ≡ true → IsReadableCell (State (greatest_state interval_lattice interval_numbers cert_numbers reach)) (State s)
  unfolding least.is_no_state
  state_readable s own =
      let a = and_parts ((state_lattice interval_lattice).within cert_numbers s) (interval_leq s.size reach.counts) own in
      let w = and_parts (interval_within cert_numbers s.size) _ a.0 in
      let near = near_of s.size w.0 in
      record {
        least = λ e.
            let c = and_parts (least.is_none s.size) (not s.live && not s.freed) e in
            let d = and_parts (not s.live) (not s.freed) c.1 in
            let size = none_is s.size c.0 in
            let live = not-true s.live d.0 in
            let freed = not-true s.freed d.1 in
            let same : s ≡ (state_lattice interval_lattice).least = λ i. record { size = size i; live = live i; freed = freed i } in
            ap (λ z. State z) (sym same);
        line = λ e. and_from _ _ (and_from _ _ (subst (λ x. interval_leq s.size x ≡ true) (sym count_is) (top_below s.size near)) (and_from _ _ (flag_top s.live) (flag_top s.freed))) (and_from _ _ (ap not e) refl);
        near = λ e. near;
      }

  -- ---- rows

  abbrev greatest_of : CellKind → Cell Interval
  greatest_of k = cell_fit interval_lattice interval_numbers cert_numbers reach k Nothing

  readable : (k : CellKind) (cell : Cell Interval) → is_own_cell interval_lattice interval_numbers cert_numbers reach k cell ≡ true → IsReadableCell (greatest_of k) cell
  unfolding cell_fit
  readable kind.Value (Value v) own = value_readable v own
  readable kind.Value Nothing own = absurd (cc)
  readable kind.Value (First f) own = absurd (cc)
  readable kind.Value (State s) own = absurd (cc)
  readable kind.Value Mixed own = absurd (cc)
  readable kind.First (First f) own = first_readable f own
  readable kind.First Nothing own = absurd (cc)
  readable kind.First (Value v) own = absurd (cc)
  readable kind.First (State s) own = absurd (cc)
  readable kind.First Mixed own = absurd (cc)
  readable kind.State (State s) own = state_readable s own
  readable kind.State Nothing own = absurd (cc)
  readable kind.State (Value v) own = absurd (cc)
  readable kind.State (First f) own = absurd (cc)
  readable kind.State Mixed own = absurd (cc)

  pub all_readable : (ks : List CellKind) (width : ℕ) (cells : List (Cell Interval)) → length cells ≡ width → are_own_cells interval_lattice interval_numbers cert_numbers reach ks cells ≡ true
      → AreReadableCells (cells_fit interval_lattice interval_numbers cert_numbers reach ks (cells_of width (replicate width Nothing))) cells
  all_readable ks zero [] e own = tt
  all_readable ks zero (c ∷ cs) e own = absurd (omega (arith, e))
  all_readable ks (suc width) [] e own = absurd (omega (arith, e))
  all_readable ks (suc width) (c ∷ cs) e own =
      let a = and_parts (is_own_cell interval_lattice interval_numbers cert_numbers reach (first_kind ks) c) (are_own_cells interval_lattice interval_numbers cert_numbers reach (kinds_behind ks) cs) own in
      (readable (first_kind ks) c a.0, all_readable (kinds_behind ks) width cs (omega (arith, e)) a.1)
