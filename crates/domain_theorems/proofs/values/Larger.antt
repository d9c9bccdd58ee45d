-- A larger value of each domain stands for at least as much.
use Rattle.std.specs.Prelude.{◌≡◌, ℕ, ℤ, Bool, true, false, ◌&&◌, refl}
use Rattle.std.proofs.Common.{sym, ◌∙◌}
use Rattle.std.proofs.lemmas.Bool.{and_parts}
use Rattle.cc_base.specs.Lattices.{LatticeOf}
use Rattle.cc_base.specs.LatticeParts.{flag_leq}
use Rattle.cc_base.specs.IntegerDomains.{IntegersOf, BoundLaws}
use Rattle.pointer_domain.specs.BaseFacts.{within_has}
use Rattle.pointer_domain.specs.PointerLattice.{pointers_leq}
use Rattle.pointer_domain.specs.declared.pointer_sets.Pointers.{Pointers}
use Rattle.value_domain.specs.declared.values.label_sets.Labels.{Labels}
use Rattle.value_domain.specs.declared.values.values.Value as values
use Rattle.value_domain.specs.declared.values.alloc_states.AllocState.{AllocState}
use Rattle.value_domain.specs.declared.values.row_cells.Cell.{Cell}
use Rattle.value_domain.specs.declared.values.row_cells.Cell.TheVariants.{Nothing, Value, First, State, Mixed}
use Rattle.value_domain.specs.Values.LabelSets.{labels_order}
use Rattle.value_domain.specs.Values.Values.{value_lattice}
use Rattle.value_domain.specs.Values.AllocStates.{state_lattice}
use Rattle.value_domain.specs.Values.Cells.{cell_leq}
use Rattle.domain_theorems.specs.Values.Meaning.{IsInto}
use Rattle.domain_theorems.specs.Values.LargerMeaning.{HasNumber, HasLive, HasFreed, CellHasNumber, CellHasPointer, CellHasZero, CellHasLive, CellHasFreed, LargerMeaning}
use Rattle.domain_theorems.proofs.values.Flags.{flag_sets}
use Rattle.domain_theorems.proofs.values.Parts.{pointer_parts, value_parts}

clear_below : (a b : Bool) → flag_leq a b ≡ true → b ≡ false → a ≡ false
clear_below true b h e = sym h ∙ e
clear_below false b h e = refl

module _ {I : Type 0} {l : LatticeOf I} {n : IntegersOf I} {stands : I → ℤ → Type 0} (b : BoundLaws l n stands) where
  pointers : (p q : Pointers I) (base : ℕ) (low offset high : ℤ) → pointers_leq l p q ≡ true → IsInto stands p base low offset high → IsInto stands q base low offset high
  pointers p q base low offset high h i =
      let c = pointer_parts l p q h in
      record { among = within_has p.bases q.bases base c.bases i.among; lower = b.larger p.lo q.lo _ c.lo i.lower; relative = b.larger p.rel q.rel _ c.rel i.relative; room = b.larger p.len q.len _ c.len i.room }

  numbers : (v w : values.Value I) (a : ℤ) (s : Labels) → (value_lattice l).leq v w ≡ true → HasNumber stands v a s → HasNumber stands w a s
  numbers v w a s h i = let c = value_parts l v w h in record { number = b.larger v.num w.num a c.num i.number; labels = labels_order.transitive s v.labels w.labels i.labels c.labels }

  value_pointers : (v w : values.Value I) (base : ℕ) (low offset high : ℤ) → (value_lattice l).leq v w ≡ true → IsInto stands v.pointer base low offset high → IsInto stands w.pointer base low offset high
  value_pointers v w base low offset high h i = pointers v.pointer w.pointer base low offset high (value_parts l v w h).pointer i

  live : (s t : AllocState I) (size : ℤ) → (state_lattice l).leq s t ≡ true → HasLive stands s size → HasLive stands t size
  live s t size h i =
      let c = and_parts (l.leq s.size t.size) (flag_leq s.live t.live && flag_leq s.freed t.freed) h in
      let d = and_parts (flag_leq s.live t.live) (flag_leq s.freed t.freed) c.1 in
      record { of_size = b.larger s.size t.size size c.0 i.of_size; live = flag_sets s.live t.live d.0 i.live }

  freed : (s t : AllocState I) (size : ℤ) → (state_lattice l).leq s t ≡ true → HasFreed stands s size → HasFreed stands t size
  freed s t size h i =
      let c = and_parts (l.leq s.size t.size) (flag_leq s.live t.live && flag_leq s.freed t.freed) h in
      let d = and_parts (flag_leq s.live t.live) (flag_leq s.freed t.freed) c.1 in
      record { of_size = b.larger s.size t.size size c.0 i.of_size; freed = flag_sets s.freed t.freed d.1 i.freed }

  cell_numbers : (x y : Cell I) (a : ℤ) (s : Labels) → cell_leq l x y ≡ true → CellHasNumber stands x a s → CellHasNumber stands y a s
  cell_numbers Nothing y a s h i = absurd i
  cell_numbers (Value v) Nothing a s h i = cc
  cell_numbers (Value v) (Value w) a s h i = numbers v w a s h i
  cell_numbers (Value v) (First g) a s h i = cc
  cell_numbers (Value v) (State g) a s h i = cc
  cell_numbers (First f) y a s h i = absurd i
  cell_numbers (State t) y a s h i = absurd i
  cell_numbers Mixed Nothing a s h i = cc
  cell_numbers Mixed (Value w) a s h i = cc
  cell_numbers Mixed (First g) a s h i = cc
  cell_numbers Mixed (State g) a s h i = cc
  cell_numbers x Mixed a s h i = tt

  cell_pointers : (x y : Cell I) (base : ℕ) (low offset high : ℤ) → cell_leq l x y ≡ true → CellHasPointer stands x base low offset high → CellHasPointer stands y base low offset high
  cell_pointers Nothing y base low offset high h i = absurd i
  cell_pointers (Value v) Nothing base low offset high h i = cc
  cell_pointers (Value v) (Value w) base low offset high h i = value_pointers v w base low offset high h i
  cell_pointers (Value v) (First g) base low offset high h i = cc
  cell_pointers (Value v) (State g) base low offset high h i = cc
  cell_pointers (First f) y base low offset high h i = absurd i
  cell_pointers (State t) y base low offset high h i = absurd i
  cell_pointers Mixed Nothing base low offset high h i = cc
  cell_pointers Mixed (Value w) base low offset high h i = cc
  cell_pointers Mixed (First g) base low offset high h i = cc
  cell_pointers Mixed (State g) base low offset high h i = cc
  cell_pointers x Mixed base low offset high h i = tt

  cell_zeros : (x y : Cell I) (a : ℤ) → cell_leq l x y ≡ true → CellHasZero stands x a → CellHasZero stands y a
  cell_zeros Nothing y a h i = absurd i
  cell_zeros (Value v) y a h i = absurd i
  cell_zeros (First f) Nothing a h i = cc
  cell_zeros (First f) (Value w) a h i = cc
  cell_zeros (First f) (First g) a h i = b.larger f.at g.at a h i
  cell_zeros (First f) (State g) a h i = cc
  cell_zeros (State t) y a h i = absurd i
  cell_zeros Mixed Nothing a h i = cc
  cell_zeros Mixed (Value w) a h i = cc
  cell_zeros Mixed (First g) a h i = cc
  cell_zeros Mixed (State g) a h i = cc
  cell_zeros x Mixed a h i = tt

  cell_live : (x y : Cell I) (size : ℤ) → cell_leq l x y ≡ true → CellHasLive stands x size → CellHasLive stands y size
  cell_live Nothing y size h i = absurd i
  cell_live (Value v) y size h i = absurd i
  cell_live (First f) y size h i = absurd i
  cell_live (State t) Nothing size h i = cc
  cell_live (State t) (Value w) size h i = cc
  cell_live (State t) (First g) size h i = cc
  cell_live (State t) (State g) size h i = live t g size h i
  cell_live Mixed Nothing size h i = cc
  cell_live Mixed (Value w) size h i = cc
  cell_live Mixed (First g) size h i = cc
  cell_live Mixed (State g) size h i = cc
  cell_live x Mixed size h i = tt

  cell_freed : (x y : Cell I) (size : ℤ) → cell_leq l x y ≡ true → CellHasFreed stands x size → CellHasFreed stands y size
  cell_freed Nothing y size h i = absurd i
  cell_freed (Value v) y size h i = absurd i
  cell_freed (First f) y size h i = absurd i
  cell_freed (State t) Nothing size h i = cc
  cell_freed (State t) (Value w) size h i = cc
  cell_freed (State t) (First g) size h i = cc
  cell_freed (State t) (State g) size h i = freed t g size h i
  cell_freed Mixed Nothing size h i = cc
  cell_freed Mixed (Value w) size h i = cc
  cell_freed Mixed (First g) size h i = cc
  cell_freed Mixed (State g) size h i = cc
  cell_freed x Mixed size h i = tt

  pub larger_meaning : LargerMeaning stands l
  larger_meaning = record {
    pointers = pointers;
    nulls = λ p q h e. flag_sets p.null q.null (pointer_parts l p q h).null e;
    ended = λ p q h e. flag_sets p.ended q.ended (pointer_parts l p q h).ended e;
    whole = λ p q h e. clear_below p.part q.part (pointer_parts l p q h).part e;
    zeros = λ f g a h i. b.larger f.at g.at a h i;
    numbers = numbers;
    value_pointers = value_pointers;
    blanks = λ v w h e. flag_sets v.indeterminate w.indeterminate (value_parts l v w h).indeterminate e;
    live = live;
    freed = freed;
    cell_numbers = cell_numbers;
    cell_pointers = cell_pointers;
    cell_zeros = cell_zeros;
    cell_live = cell_live;
    cell_freed = cell_freed;
  }
