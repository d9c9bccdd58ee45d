-- A larger row of which no cell is mixed stands for what a smaller one stands for.
use Rattle.std.specs.Prelude.{◌≡◌, ℕ, ℤ, true, List}
use Rattle.std.proofs.lemmas.Bool.{and_parts}
use Rattle.cc_base.specs.Lattices.{LatticeOf, OrderLaws}
use Rattle.cc_base.specs.LatticeParts.{flag_leq}
use Rattle.cc_base.specs.Rows.{row_leq}
use Rattle.cc_base.specs.IntegerDomains.{IntegersOf, BoundLaws}
use Rattle.cfg.specs.declared.programs.Flow.{Flow}
use Rattle.pointer_domain.specs.BaseFacts.{within_has}
use Rattle.pointer_domain.specs.declared.pointer_sets.Pointers.{Pointers}
use Rattle.value_domain.specs.declared.values.values.Value as values
use Rattle.value_domain.specs.declared.values.alloc_states.AllocState.{AllocState}
use Rattle.value_domain.specs.declared.values.row_cells.Cell.{Cell}
use Rattle.value_domain.specs.declared.values.row_cells.Cell.TheVariants.{Nothing, Value, First, State, Mixed}
use Rattle.value_domain.specs.Values.Values.{value_lattice, value_order}
use Rattle.value_domain.specs.Values.AllocStates.{state_lattice, state_order}
use Rattle.value_domain.specs.Values.Cells.{cell_lattice, cell_leq}
use Rattle.store_cells.specs.NearValues.{near_pointer, near_value}
use Rattle.store_cells.specs.RowPositions.{cell_at, value_in, zero_in, state_in, near_state, value_at, zero_at, state_at}
use Rattle.store_monotone.proofs.operations.Rows.{at_monotone}
use Rattle.memory_model.specs.Memory.Bytes.{MachinePointer, null, into}
use Rattle.memory_model.specs.Memory.Instances.{Memory, Life, live, ended, freed, life_at}
use Rattle.store_sound.specs.Concretization.ValueMeaning.{Naming, InGammaInto, InGammaByLife, InGammaPointer}
use Rattle.store_sound.specs.Concretization.RowMeaning.{MachineState, InGamma}
use Rattle.store_sound.proofs.operations.Larger.{PointerBelow, value_below, flag_up}
use Rattle.transfer_sound.specs.InvariantMaps.CarriedMaps.{IsUnmixed, AreUnmixed}
use Rattle.transfer_sound.proofs.invariant_maps.NearBounds.{near_larger}
use Rattle.transfer_sound.proofs.invariant_maps.ToldRows.{StateTells, ValueTells, row_told}
use Rattle.transfer_sound.proofs.invariant_maps.UnmixedRows.{unmixed_at}

module _ {I : Type 0} {l : LatticeOf I} {n : IntegersOf I} {gamma : I → ℤ → Type 0} (o : OrderLaws l) (q : BoundLaws l n gamma) where
  -- ---- cells

  value_up : (c d : Cell I) → cell_leq l c d ≡ true → IsUnmixed d → (value_lattice l).leq (value_in l c) (value_in l d) ≡ true
  value_up Nothing d e k = (value_order o).least_below (value_in l d)
  value_up (First f) d e k = (value_order o).least_below (value_in l d)
  value_up (State s) d e k = (value_order o).least_below (value_in l d)
  value_up c Mixed e k = absurd k
  value_up (Value v) Nothing e k = absurd (cc)
  value_up (Value v) (Value w) e k = e
  value_up (Value v) (First w) e k = absurd (cc)
  value_up (Value v) (State w) e k = absurd (cc)
  value_up Mixed Nothing e k = absurd (cc)
  value_up Mixed (Value w) e k = absurd (cc)
  value_up Mixed (First w) e k = absurd (cc)
  value_up Mixed (State w) e k = absurd (cc)

  zero_up : (c d : Cell I) → cell_leq l c d ≡ true → IsUnmixed d → l.leq (zero_in l c).at (zero_in l d).at ≡ true
  zero_up Nothing d e k = o.least_below (zero_in l d).at
  zero_up (Value v) d e k = o.least_below (zero_in l d).at
  zero_up (State s) d e k = o.least_below (zero_in l d).at
  zero_up c Mixed e k = absurd k
  zero_up (First v) Nothing e k = absurd (cc)
  zero_up (First v) (Value w) e k = absurd (cc)
  zero_up (First v) (First w) e k = e
  zero_up (First v) (State w) e k = absurd (cc)
  zero_up Mixed Nothing e k = absurd (cc)
  zero_up Mixed (Value w) e k = absurd (cc)
  zero_up Mixed (First w) e k = absurd (cc)
  zero_up Mixed (State w) e k = absurd (cc)

  state_up : (c d : Cell I) → cell_leq l c d ≡ true → IsUnmixed d → (state_lattice l).leq (state_in l c) (state_in l d) ≡ true
  state_up Nothing d e k = (state_order o).least_below (state_in l d)
  state_up (Value v) d e k = (state_order o).least_below (state_in l d)
  state_up (First f) d e k = (state_order o).least_below (state_in l d)
  state_up c Mixed e k = absurd k
  state_up (State v) Nothing e k = absurd (cc)
  state_up (State v) (Value w) e k = absurd (cc)
  state_up (State v) (First w) e k = absurd (cc)
  state_up (State v) (State w) e k = e
  state_up Mixed Nothing e k = absurd (cc)
  state_up Mixed (Value w) e k = absurd (cc)
  state_up Mixed (First w) e k = absurd (cc)
  state_up Mixed (State w) e k = absurd (cc)

  -- ---- what they stand for

  module _ (naming : Naming) (memory : Memory) where
    into_larger : (v w : Pointers I) (i offset lo hi : ℕ) → PointerBelow l v w → InGammaInto gamma naming memory (near_pointer l n v) i offset lo hi → InGammaInto gamma naming memory (near_pointer l n w) i offset lo hi
    into_larger v w i offset lo hi b s = record {
      base = s.base;
      named = s.named;
      among = within_has v.bases w.bases s.base b.bases s.among;
      lower = near_larger q v.lo w.lo _ b.lo s.lower;
      relative = near_larger q v.rel w.rel _ b.rel s.relative;
      room = near_larger q v.len w.len _ b.len s.room;
      whole = λ e. s.whole (b.part e);
    }

    life_larger : (v w : Pointers I) (life : Life) (i offset lo hi : ℕ) → PointerBelow l v w → InGammaByLife gamma naming memory (near_pointer l n v) life i offset lo hi → InGammaByLife gamma naming memory (near_pointer l n w) life i offset lo hi
    life_larger v w live i offset lo hi b s = into_larger v w i offset lo hi b s
    life_larger v w ended i offset lo hi b s = b.ended s
    life_larger v w freed i offset lo hi b s = into_larger v w i offset lo hi b s

    pointer_larger : (v w : Pointers I) (p : MachinePointer) → PointerBelow l v w → InGammaPointer gamma naming memory (near_pointer l n v) p → InGammaPointer gamma naming memory (near_pointer l n w) p
    pointer_larger v w null b s = b.null s
    pointer_larger v w (into i offset lo hi) b s = life_larger v w (life_at memory i) i offset lo hi b s

    value_tells : (v w : values.Value I) → (value_lattice l).leq v w ≡ true → ValueTells gamma naming memory (near_value l n v) (near_value l n w)
    value_tells v w e = let b = value_below l v w e in record {
      num = λ z h. near_larger q v.num w.num z b.num h;
      pointer = λ p inside h. pointer_larger v.pointer w.pointer p b.pointer h;
      indeterminate = b.indeterminate;
      labels = b.labels;
    }

  state_tells : (s t : AllocState I) → (state_lattice l).leq s t ≡ true → StateTells gamma (near_state l n s) (near_state l n t)
  state_tells s t e =
      let a = and_parts (l.leq s.size t.size) _ e in
      let b = and_parts (flag_leq s.live t.live) _ a.1 in
      record { size = λ z m h. near_larger q s.size t.size z a.0 h; live = flag_up s.live t.live b.0; freed = flag_up s.freed t.freed b.1 }

  -- ---- rows

  module _ (flow : Flow) (row larger : List (Cell I)) (more : row_leq (cell_lattice l) row larger ≡ true) (unmixed : AreUnmixed larger) where
    value_more : (naming : Naming) (memory : Memory) (i : ℕ) → ValueTells gamma naming memory (value_at l n row i) (value_at l n larger i)
    unfolding value_at
    value_more naming memory i = value_tells naming memory (value_in l (cell_at row i)) (value_in l (cell_at larger i)) (value_up (cell_at row i) (cell_at larger i) (at_monotone l row larger i more) (unmixed_at larger i unmixed))

    zero_more : (i : ℕ) (z : ℤ) → gamma (zero_at l n row i).at z → gamma (zero_at l n larger i).at z
    unfolding zero_at
    zero_more i z h = near_larger q (zero_in l (cell_at row i)).at (zero_in l (cell_at larger i)).at z (zero_up (cell_at row i) (cell_at larger i) (at_monotone l row larger i more) (unmixed_at larger i unmixed)) h

    state_more : (i : ℕ) → StateTells gamma (state_at l n row i) (state_at l n larger i)
    unfolding state_at
    state_more i = state_tells (state_in l (cell_at row i)) (state_in l (cell_at larger i)) (state_up (cell_at row i) (cell_at larger i) (at_monotone l row larger i more) (unmixed_at larger i unmixed))

    pub row_larger : (naming : Naming) (s : MachineState) → InGamma l n gamma flow naming row s → InGamma l n gamma flow naming larger s
    row_larger naming s h = row_told l n gamma flow naming s row larger (record {
      leaves = λ b j base leaf e k. value_more naming s.memory _;
      classes = λ b c base e heap small. value_more naming s.memory _;
      zeros = λ b p base part e k z m. zero_more _ z;
      states = λ b base e heap. state_more _;
      temps = λ t. value_more naming s.memory _;
    }) h
