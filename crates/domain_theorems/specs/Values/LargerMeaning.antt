-- A larger pointer part, first zero, value, allocation state or cell stands for at least as much.
use Rattle.std.specs.Prelude.{◌≡◌, ℕ, ℤ, true, false}
use Rattle.cc_base.specs.Lattices.{LatticeOf}
use Rattle.pointer_domain.specs.PointerLattice.{pointers_leq}
use Rattle.pointer_domain.specs.declared.pointer_sets.Pointers.{Pointers}
use Rattle.value_domain.specs.declared.strings.first_zeros.FirstZero.{FirstZero}
use Rattle.value_domain.specs.Strings.FirstZeros.{zero_lattice}
use Rattle.value_domain.specs.declared.values.label_sets.Labels.{Labels}
use Rattle.value_domain.specs.declared.values.values.Value as values
use Rattle.value_domain.specs.declared.values.alloc_states.AllocState.{AllocState}
use Rattle.value_domain.specs.declared.values.row_cells.Cell.{Cell}
use Rattle.value_domain.specs.declared.values.row_cells.Cell.TheVariants.{Nothing, Value, First, State, Mixed}
use Rattle.value_domain.specs.Values.LabelSets.{labels_leq}
use Rattle.value_domain.specs.Values.Values.{value_lattice}
use Rattle.value_domain.specs.Values.AllocStates.{state_lattice}
use Rattle.value_domain.specs.Values.Cells.{cell_lattice}
use Rattle.domain_theorems.specs.Values.Meaning.{IsInto}

module _ {I : Type 0} (stands : I → ℤ → Type 0) where
  -- the number a with the labels s
  pub record HasNumber (v : values.Value I) (a : ℤ) (s : Labels) : Type 0 where
    pub number : stands v.num a
    pub labels : labels_leq s v.labels ≡ true

  -- an instance of a size that is live, or freed
  pub record HasLive (s : AllocState I) (size : ℤ) : Type 0 where
    pub of_size : stands s.size size
    pub live : s.live ≡ true

  pub record HasFreed (s : AllocState I) (size : ℤ) : Type 0 where
    pub of_size : stands s.size size
    pub freed : s.freed ≡ true

  -- what a cell stands for: of the least cell nothing, of the mixed one all
  abbrev pub CellHasNumber : Cell I → ℤ → Labels → Type 0
  CellHasNumber Nothing a s = ⊥
  CellHasNumber (Value v) a s = HasNumber v a s
  CellHasNumber (First f) a s = ⊥
  CellHasNumber (State t) a s = ⊥
  CellHasNumber Mixed a s = Unit {0}

  abbrev pub CellHasPointer : Cell I → ℕ → ℤ → ℤ → ℤ → Type 0
  CellHasPointer Nothing base low offset high = ⊥
  CellHasPointer (Value v) base low offset high = IsInto stands v.pointer base low offset high
  CellHasPointer (First f) base low offset high = ⊥
  CellHasPointer (State t) base low offset high = ⊥
  CellHasPointer Mixed base low offset high = Unit {0}

  abbrev pub CellHasZero : Cell I → ℤ → Type 0
  CellHasZero Nothing a = ⊥
  CellHasZero (Value v) a = ⊥
  CellHasZero (First f) a = stands f.at a
  CellHasZero (State t) a = ⊥
  CellHasZero Mixed a = Unit {0}

  abbrev pub CellHasLive : Cell I → ℤ → Type 0
  CellHasLive Nothing a = ⊥
  CellHasLive (Value v) a = ⊥
  CellHasLive (First f) a = ⊥
  CellHasLive (State t) a = HasLive t a
  CellHasLive Mixed a = Unit {0}

  abbrev pub CellHasFreed : Cell I → ℤ → Type 0
  CellHasFreed Nothing a = ⊥
  CellHasFreed (Value v) a = ⊥
  CellHasFreed (First f) a = ⊥
  CellHasFreed (State t) a = HasFreed t a
  CellHasFreed Mixed a = Unit {0}

  pub record LargerMeaning (l : LatticeOf I) : Type 0 where
    pub pointers : (p q : Pointers I) (base : ℕ) (low offset high : ℤ) → pointers_leq l p q ≡ true → IsInto stands p base low offset high → IsInto stands q base low offset high
    pub nulls : (p q : Pointers I) → pointers_leq l p q ≡ true → p.null ≡ true → q.null ≡ true
    pub ended : (p q : Pointers I) → pointers_leq l p q ≡ true → p.ended ≡ true → q.ended ≡ true
    -- bounds of whole instances alone are so of the smaller part
    pub whole : (p q : Pointers I) → pointers_leq l p q ≡ true → q.part ≡ false → p.part ≡ false
    pub zeros : (f g : FirstZero I) (a : ℤ) → (zero_lattice l).leq f g ≡ true → stands f.at a → stands g.at a
    pub numbers : (v w : values.Value I) (a : ℤ) (s : Labels) → (value_lattice l).leq v w ≡ true → HasNumber v a s → HasNumber w a s
    pub value_pointers : (v w : values.Value I) (base : ℕ) (low offset high : ℤ) → (value_lattice l).leq v w ≡ true → IsInto stands v.pointer base low offset high → IsInto stands w.pointer base low offset high
    pub blanks : (v w : values.Value I) → (value_lattice l).leq v w ≡ true → v.indeterminate ≡ true → w.indeterminate ≡ true
    pub live : (s t : AllocState I) (size : ℤ) → (state_lattice l).leq s t ≡ true → HasLive s size → HasLive t size
    pub freed : (s t : AllocState I) (size : ℤ) → (state_lattice l).leq s t ≡ true → HasFreed s size → HasFreed t size
    pub cell_numbers : (x y : Cell I) (a : ℤ) (s : Labels) → (cell_lattice l).leq x y ≡ true → CellHasNumber x a s → CellHasNumber y a s
    pub cell_pointers : (x y : Cell I) (base : ℕ) (low offset high : ℤ) → (cell_lattice l).leq x y ≡ true → CellHasPointer x base low offset high → CellHasPointer y base low offset high
    pub cell_zeros : (x y : Cell I) (a : ℤ) → (cell_lattice l).leq x y ≡ true → CellHasZero x a → CellHasZero y a
    pub cell_live : (x y : Cell I) (size : ℤ) → (cell_lattice l).leq x y ≡ true → CellHasLive x size → CellHasLive y size
    pub cell_freed : (x y : Cell I) (size : ℤ) → (cell_lattice l).leq x y ≡ true → CellHasFreed x size → CellHasFreed y size
