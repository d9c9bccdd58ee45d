-- What is made of a cell by the fit stands for what the cell stands for, where the cell's kind is that of its position.
use Rattle.std.proofs.Common.{◌≡◌, ℕ, ◌≤◌, ◌-◌, ◌^◌, true, false, not, ◌&&◌, Some, None, is_some, List, arith, sym, subst, refl, ◌∙◌}
use Rattle.std.specs.Prelude.{ℤ, pos, negsuc, ◌-ℤ◌, ◌≤ℤ◌}
use Rattle.std.proofs.lemmas.Int.{ints}
use Rattle.std.proofs.lemmas.Bool.{and_from, cond_both, not_from_false}
use Rattle.cc_base.specs.Lattices.{LatticeOf}
use Rattle.cc_base.specs.NumberRanges.{Range}
use Rattle.cc_base.specs.IntegerDomains.{IntegersOf, BoundLaws}
use Rattle.pointer_domain.specs.BaseSets.{bases_has, bases_within, bases_empty}
use Rattle.pointer_domain.specs.PointerLattice.{no_pointer}
use Rattle.pointer_domain.specs.declared.base_sets.Bases.{Bases}
use Rattle.pointer_domain.specs.declared.pointer_sets.Pointers.{Pointers}
use Rattle.value_domain.specs.Values.LabelSets.{labels_order}
use Rattle.value_domain.specs.Values.Values.{value_lattice}
use Rattle.value_domain.specs.Values.AllocStates.{state_lattice}
use Rattle.value_domain.specs.declared.values.values.Value as values
use Rattle.value_domain.specs.declared.values.alloc_states.AllocState.{AllocState}
use Rattle.value_domain.specs.declared.values.row_cells.Cell.{Cell}
use Rattle.value_domain.specs.declared.values.row_cells.Cell.TheVariants.{Nothing, Value, First, State, Mixed}
use Rattle.domain_theorems.proofs.values.EqualityStands.{has_some}
use Rattle.domain_theorems.proofs.values.Numbers.{RangeHas}
use Rattle.store_cells.specs.NearValues.{near_number, near_pointer, near_value}
use Rattle.store_cells.specs.RowPositions.{value_in, zero_in, state_in, near_state}
use Rattle.transfer_system.specs.declared.bounded_rows.cell_kinds.CellKind.TheVariants as kind
use Rattle.transfer_system.specs.declared.bounded_rows.own_cells.Reach.{Reach}
use Rattle.transfer_system.specs.BoundedRows.OwnRows.{is_somewhere, is_own_cell}
use Rattle.transfer_system.specs.BoundedRows.FittedRows.{list_ends, number_fit, count_fit, bases_fit, if_somewhere, pointer_fit, cell_made, cell_fit}
use Rattle.memory_model.specs.Memory.Bytes.{MachinePointer, null, into}
use Rattle.memory_model.specs.Memory.Instances.{Memory, Life, live, ended, freed, life_at}
use Rattle.store_sound.specs.Concretization.SoundMemory.{IsWithin, IsPointerIn}
use Rattle.store_sound.specs.Concretization.ValueMeaning.{Naming, InGammaInto, InGammaByLife, InGammaPointer}
use Rattle.transfer_sound.proofs.invariant_maps.NearBounds.{near_in}
use Rattle.transfer_sound.proofs.invariant_maps.ToldRows.{CountTells, StateTells, ValueTells}
use Rattle.certificate_theorems.proofs.sound.FittedNumbers.{number_told, count_told}

some_has : (r : Range) (z : ℤ) → RangeHas r z → is_some r ≡ true
some_has None z h = absurd h
some_has (Some p) z h = refl

distance_from : (lo hi : ℕ) → lo ≤ hi → pos 0 ≤ℤ (pos hi -ℤ pos lo)
distance_from lo hi h = omega (arith, ints, h)

module _ {I : Type 0} {l : LatticeOf I} {n : IntegersOf I} {gamma : I → ℤ → Type 0} (q : BoundLaws l n gamma) where
  -- for the near part of the least number no number is stood for
  pub least_near : (z : ℤ) → gamma (near_number l n l.least) z → ⊥
  least_near z h = subst (λ r. RangeHas r z) q.least_bounds (near_in q l.least z h).has

  near_some : (x : I) (z : ℤ) → gamma (near_number l n x) z → is_some (n.bounds x) ≡ true
  near_some x z h = some_has (n.bounds x) z (near_in q x z h).has

  module _ (list : List ℤ) (wide : list_ends list ≡ Some (negsuc (2 ^ 64 - 1), pos (2 ^ 64))) (r : Reach I) where
    -- ---- first zeros and states

    zero_made : (c : Cell I) → CountTells gamma (near_number l n (zero_in l c).at) (near_number l n (zero_in l (cell_made l n list r kind.First c)).at)
    zero_made Nothing z m h = absurd (least_near z h)
    zero_made (Value v) z m h = absurd (least_near z h)
    zero_made (First f) z m h = count_told q list wide r f.at z m h
    zero_made (State s) z m h = absurd (least_near z h)
    zero_made Mixed z m h = absurd (least_near z h)

    pub zero_fitted : (c : Cell I) → CountTells gamma (near_number l n (zero_in l c).at) (near_number l n (zero_in l (cell_fit l n list r kind.First c)).at)
    unfolding cell_fit
    zero_fitted c = cond_both (is_own_cell l n list r kind.First c) c (cell_made l n list r kind.First c) (λ d. CountTells gamma (near_number l n (zero_in l c).at) (near_number l n (zero_in l d).at))
        (λ t z m h. h) (λ t. zero_made c)

    pub no_state : (t : AllocState I) → StateTells gamma (near_state l n (state_lattice l).least) t
    no_state t = record { size = λ z m h. absurd (least_near z h); live = λ e. cc; freed = λ e. cc }

    state_made : (c : Cell I) → StateTells gamma (near_state l n (state_in l c)) (near_state l n (state_in l (cell_made l n list r kind.State c)))
    state_made Nothing = no_state _
    state_made (Value v) = no_state _
    state_made (First f) = no_state _
    state_made (State s) = record { size = λ z m h. count_told q list wide r s.size z m h; live = λ e. e; freed = λ e. e }
    state_made Mixed = no_state _

    pub state_fitted : (c : Cell I) → StateTells gamma (near_state l n (state_in l c)) (near_state l n (state_in l (cell_fit l n list r kind.State c)))
    unfolding cell_fit
    state_fitted c = cond_both (is_own_cell l n list r kind.State c) c (cell_made l n list r kind.State c) (λ d. StateTells gamma (near_state l n (state_in l c)) (near_state l n (state_in l d)))
        (λ t. record { size = λ z m h. h; live = λ e. e; freed = λ e. e }) (λ t. state_made c)

    -- ---- values, where instances are named by bases of the program

    module _ (naming : Naming) (memory : Memory) (known : (i b : ℕ) → naming i ≡ Some b → bases_has r.bases b ≡ true) where
      abbrev Tells : values.Value I → values.Value I → Type 0
      Tells v w = ValueTells gamma naming memory v w

      has_fitted : (s : Bases) (i b : ℕ) → naming i ≡ Some b → bases_has s b ≡ true → bases_has (bases_fit r s) b ≡ true
      has_fitted s i b named h = cond_both (bases_within s r.bases) s r.bases (λ t. bases_has t b ≡ true) (λ t. h) (λ t. known i b named)

      -- the parts of a pointer that was fitted, before one without a base or bounds is taken away
      abbrev parts : Pointers I → Pointers I
      parts p = record p { bases = bases_fit r p.bases; lo = count_fit l n list r p.lo; rel = number_fit l n list p.rel; len = count_fit l n list r p.len }

      into_parts : (p : Pointers I) (i offset lo hi : ℕ) → IsWithin memory i offset lo hi → InGammaInto gamma naming memory (near_pointer l n p) i offset lo hi → InGammaInto gamma naming memory (near_pointer l n (parts p)) i offset lo hi
      into_parts p i offset lo hi w h =
          let above = w.above in
          let below = w.below in
          record {
            base = h.base;
            named = h.named;
            among = has_fitted p.bases i h.base h.named h.among;
            lower = count_told q list wide r p.lo (pos lo) (omega (arith, ints)) h.lower;
            relative = number_told q list wide p.rel (pos offset -ℤ pos lo) h.relative;
            room = count_told q list wide r p.len (pos hi -ℤ pos lo) (distance_from lo hi (omega (arith, above, below))) h.room;
            whole = h.whole;
          }

      -- such a one has a base and bounds
      some_parts : (p : Pointers I) (i offset lo hi : ℕ) → InGammaInto gamma naming memory (near_pointer l n p) i offset lo hi → (not (bases_empty p.bases) && is_somewhere n p) ≡ true
      some_parts p i offset lo hi h = and_from _ _ (not_from_false (bases_empty p.bases) (has_some p.bases h.base h.among))
          (and_from _ _ (near_some p.lo (pos lo) h.lower) (and_from _ _ (near_some p.rel (pos offset -ℤ pos lo) h.relative) (near_some p.len (pos hi -ℤ pos lo) h.room)))

      abbrev bare : Pointers I → Pointers I
      bare p = record (no_pointer l) { null = p.null; ended = p.ended }

      into_somewhere : (p : Pointers I) (i offset lo hi : ℕ) → InGammaInto gamma naming memory (near_pointer l n p) i offset lo hi → InGammaInto gamma naming memory (near_pointer l n (if_somewhere l n p)) i offset lo hi
      into_somewhere p i offset lo hi h = cond_both (not (bases_empty p.bases) && is_somewhere n p) p (bare p) (λ z. InGammaInto gamma naming memory (near_pointer l n z) i offset lo hi)
          (λ t. h) (λ t. absurd (let e : true ≡ false = sym (some_parts p i offset lo hi h) ∙ t in cc))

      same_null : (p : Pointers I) → (if_somewhere l n p).null ≡ p.null
      same_null p = cond_both (not (bases_empty p.bases) && is_somewhere n p) p (bare p) (λ z. z.null ≡ p.null) (λ t. refl) (λ t. refl)

      same_ended : (p : Pointers I) → (if_somewhere l n p).ended ≡ p.ended
      same_ended p = cond_both (not (bases_empty p.bases) && is_somewhere n p) p (bare p) (λ z. z.ended ≡ p.ended) (λ t. refl) (λ t. refl)

      life_fitted : (p : Pointers I) (life : Life) (i offset lo hi : ℕ) → IsWithin memory i offset lo hi → InGammaByLife gamma naming memory (near_pointer l n p) life i offset lo hi → InGammaByLife gamma naming memory (near_pointer l n (pointer_fit l n list r p)) life i offset lo hi
      life_fitted p live i offset lo hi w h = into_somewhere (parts p) i offset lo hi (into_parts p i offset lo hi w h)
      life_fitted p ended i offset lo hi w h = same_ended (parts p) ∙ h
      life_fitted p freed i offset lo hi w h = into_somewhere (parts p) i offset lo hi (into_parts p i offset lo hi w h)

      pointer_fitted : (p : Pointers I) (m : MachinePointer) → IsPointerIn memory m → InGammaPointer gamma naming memory (near_pointer l n p) m → InGammaPointer gamma naming memory (near_pointer l n (pointer_fit l n list r p)) m
      pointer_fitted p null w h = same_null (parts p) ∙ h
      pointer_fitted p (into i offset lo hi) w h = life_fitted p (life_at memory i) i offset lo hi w h

      none_into : (life : Life) (i offset lo hi : ℕ) → InGammaByLife gamma naming memory (near_pointer l n (no_pointer l)) life i offset lo hi → ⊥
      none_into live i offset lo hi h = least_near (pos lo) h.lower
      none_into ended i offset lo hi h = cc
      none_into freed i offset lo hi h = least_near (pos lo) h.lower

      none_pointer : (p : Pointers I) (m : MachinePointer) → InGammaPointer gamma naming memory (near_pointer l n (no_pointer l)) m → InGammaPointer gamma naming memory p m
      none_pointer p null h = cc
      none_pointer p (into i offset lo hi) h = absurd (none_into (life_at memory i) i offset lo hi h)

      pub no_value : (w : values.Value I) → Tells (near_value l n (value_lattice l).least) w
      no_value w = record {
        num = λ z h. absurd (least_near z h);
        pointer = λ m inside h. none_pointer w.pointer m h;
        indeterminate = λ e. cc;
        labels = labels_order.least_below w.labels;
      }

      value_made : (c : Cell I) → Tells (near_value l n (value_in l c)) (near_value l n (value_in l (cell_made l n list r kind.Value c)))
      value_made Nothing = no_value _
      value_made (Value v) = record {
        num = λ z h. number_told q list wide v.num z h;
        pointer = pointer_fitted v.pointer;
        indeterminate = λ e. e;
        labels = labels_order.reflexive v.labels;
      }
      value_made (First f) = no_value _
      value_made (State s) = no_value _
      value_made Mixed = no_value _

      same_value : (v : values.Value I) → Tells v v
      same_value v = record { num = λ z h. h; pointer = λ m inside h. h; indeterminate = λ e. e; labels = labels_order.reflexive v.labels }

      pub value_fitted : (c : Cell I) → Tells (near_value l n (value_in l c)) (near_value l n (value_in l (cell_fit l n list r kind.Value c)))
      unfolding cell_fit
      value_fitted c = cond_both (is_own_cell l n list r kind.Value c) c (cell_made l n list r kind.Value c) (λ d. Tells (near_value l n (value_in l c)) (near_value l n (value_in l d)))
          (λ t. same_value (near_value l n (value_in l c))) (λ t. value_made c)
