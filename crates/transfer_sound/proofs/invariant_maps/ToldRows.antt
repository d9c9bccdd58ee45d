-- A row whose cells stand for what another one's stand for, cell by cell, stands for the states of that one.
use Rattle.std.proofs.Common.{◌≡◌, ℕ, ◌<◌, Bool, true, Some, None, List, arith}
use Rattle.std.specs.Prelude.{ℤ, pos, ◌≤ℤ◌, Option, slice_get}
use Rattle.std.proofs.lemmas.Int.{ints}
use Rattle.cc_base.specs.Lattices.{LatticeOf}
use Rattle.cc_base.specs.IntegerDomains.{IntegersOf}
use Rattle.c_layout.specs.declared.leaf_lists.Class.{Class}
use Rattle.c_layout.specs.declared.leaf_lists.Leaf.{Leaf}
use Rattle.c_layout.specs.declared.shapes.BaseInfo.{BaseInfo}
use Rattle.c_layout.specs.declared.shapes.ZeroPart.{ZeroPart}
use Rattle.cfg.specs.declared.programs.Flow.{Flow}
use Rattle.pointer_domain.specs.declared.pointer_sets.Pointers.{Pointers}
use Rattle.value_domain.specs.Values.LabelSets.{labels_leq, labels_order}
use Rattle.value_domain.specs.declared.values.values.Value.{Value}
use Rattle.value_domain.specs.declared.values.alloc_states.AllocState.{AllocState}
use Rattle.value_domain.specs.declared.values.row_cells.Cell.{Cell}
use Rattle.store_cells.specs.RowPositions.{leaf_position, class_position, zero_position, state_position, value_at, zero_at, state_at}
use Rattle.transfer_checks.specs.Temporaries.{temp_value}
use Rattle.memory_model.specs.Memory.Bytes.{MachinePointer, null, Content, indeterminate, number, part}
use Rattle.memory_model.specs.Memory.Instances.{Memory, Life, live, ended, freed, bytes_at}
use Rattle.memory_model.specs.Memory.Scalars.{Scalar, integer, pointer}
use Rattle.store_sound.specs.Concretization.FirstZeroBytes.{first_zero, zero_offset}
use Rattle.store_sound.specs.Concretization.SeenLabels.{as_set}
use Rattle.store_sound.specs.Concretization.SoundMemory.{IsPointerIn, IsScalarIn, IsContentIn, IsMemoryOf}
use Rattle.store_sound.specs.Concretization.ValueMeaning.{Naming, InGammaPointer, InGammaScalar, InGammaContent, InGammaState}
use Rattle.store_sound.specs.Concretization.RowMeaning.{MachineState, InGammaCell, InGamma, array_bytes}

offset_from : (o : Option ℕ) → pos 0 ≤ℤ zero_offset o
offset_from None = omega (arith, ints)
offset_from (Some k) = omega (arith, ints)

module _ {I : Type 0} (gamma : I → ℤ → Type 0) where
  -- the second stands for what the first does
  abbrev pub NumberTells : I → I → Type 0
  NumberTells x y = (z : ℤ) → gamma x z → gamma y z

  -- as far as it is no number below 0
  abbrev pub CountTells : I → I → Type 0
  CountTells x y = (z : ℤ) → pos 0 ≤ℤ z → gamma x z → gamma y z

  pub record StateTells (s t : AllocState I) : Type 0 where
    pub size : CountTells s.size t.size
    pub live : s.live ≡ true → t.live ≡ true
    pub freed : s.freed ≡ true → t.freed ≡ true

  module _ (naming : Naming) (memory : Memory) where
    abbrev pub PointerTells : Pointers I → Pointers I → Type 0
    PointerTells v w = (p : MachinePointer) → IsPointerIn memory p → InGammaPointer gamma naming memory v p → InGammaPointer gamma naming memory w p

    pub record ValueTells (v w : Value I) : Type 0 where
      pub num : NumberTells v.num w.num
      pub pointer : PointerTells v.pointer w.pointer
      pub indeterminate : v.indeterminate ≡ true → w.indeterminate ≡ true
      pub labels : labels_leq v.labels w.labels ≡ true

    scalar_told : (v w : Value I) (x : Scalar) → ValueTells v w → IsScalarIn memory x → InGammaScalar gamma naming memory v x → InGammaScalar gamma naming memory w x
    scalar_told v w (integer z labels) t m s = (t.num z s.0, labels_order.transitive (as_set labels) v.labels w.labels s.1 t.labels)
    scalar_told v w (pointer p) t m s = t.pointer p m s

    content_told : (v w : Value I) (class : Class) (x : Content) (tag : _) → ValueTells v w → IsContentIn memory x tag → InGammaContent gamma naming memory v class x → InGammaContent gamma naming memory w class x
    content_told v w class indeterminate tag t m s = t.indeterminate s
    content_told v w class (number k labels) tag t m s = (labels_order.transitive (as_set labels) v.labels w.labels s.0 t.labels, λ e. t.pointer null tt (s.1 e))
    content_told v w class (part p k) tag t m s = t.pointer p m.0 s

    state_told : (s t : AllocState I) (life : Life) (size : ℕ) → StateTells s t → InGammaState gamma naming memory s life size → InGammaState gamma naming memory t life size
    state_told s t live size m h = (m.size (pos size) (omega (arith, ints)) h.0, m.live h.1)
    state_told s t ended size m h = m.size (pos size) (omega (arith, ints)) h
    state_told s t freed size m h = (m.size (pos size) (omega (arith, ints)) h.0, m.freed h.1)

module _ {I : Type 0} (l : LatticeOf I) (n : IntegersOf I) (gamma : I → ℤ → Type 0) (flow : Flow) (naming : Naming) (s : MachineState) where
  abbrev Tells : Value I → Value I → Type 0
  Tells v w = ValueTells gamma naming s.memory v w

  -- each cell of the second row that belongs to something stands for what that of the first does
  pub record RowTells (row other : List (Cell I)) : Type 0 where
    pub leaves : (b j : ℕ) (base : BaseInfo) (leaf : Leaf) → slice_get flow.bases.items b ≡ Some base → slice_get base.shape.cells j ≡ Some leaf → Tells (value_at l n row (leaf_position base j)) (value_at l n other (leaf_position base j))
    pub classes : (b c : ℕ) (base : BaseInfo) → slice_get flow.bases.items b ≡ Some base → base.shape.heap ≡ true → c < 6 → Tells (value_at l n row (class_position base c)) (value_at l n other (class_position base c))
    pub zeros : (b p : ℕ) (base : BaseInfo) (part : ZeroPart) → slice_get flow.bases.items b ≡ Some base → slice_get base.shape.zeros p ≡ Some part → CountTells gamma (zero_at l n row (zero_position base p)).at (zero_at l n other (zero_position base p)).at
    pub states : (b : ℕ) (base : BaseInfo) → slice_get flow.bases.items b ≡ Some base → base.shape.heap ≡ true → StateTells gamma (state_at l n row (state_position base)) (state_at l n other (state_position base))
    pub temps : (t : ℕ) → Tells (temp_value l n flow row t) (temp_value l n flow other t)

  cell_told : (sane : IsMemoryOf flow.model flow.bases.items naming s.memory) (b : ℕ) (class : Class) (signed : Bool) (Place : ℕ → ℕ → Type 0) (Owns : ℕ → ℕ → Type 0) (v w : Value I) → Tells v w → InGammaCell gamma flow naming s.memory b class signed Place Owns v → InGammaCell gamma flow naming s.memory b class signed Place Owns w
  cell_told sane b class signed Place Owns v w t c = record {
    whole = λ i offset numbers live place plain holds. t.num _ (c.whole i offset numbers live place plain holds);
    byte = λ i offset k content live owns matched. content_told gamma naming s.memory v w class content matched.tag t (sane.bytes i offset (record { content = content; tag = matched.tag }) matched.here) (c.byte i offset k content live owns matched);
  }

  pub row_told : (row other : List (Cell I)) → RowTells row other → InGamma l n gamma flow naming row s → InGamma l n gamma flow naming other s
  row_told row other t h = record {
    sane = h.sane;
    held = h.held;
    lives = h.lives;
    leaves = λ b j base leaf e k. cell_told h.sane b leaf.class leaf.signed _ _ _ _ (t.leaves b j base leaf e k) (h.leaves b j base leaf e k);
    classes = λ b c base e heap small. cell_told h.sane b _ true _ _ _ _ (t.classes b c base e heap small) (h.classes b c base e heap small);
    zeros = λ b p i base part e k live. t.zeros b p base part e k (zero_offset (first_zero (array_bytes part (bytes_at s.memory i)))) (offset_from (first_zero (array_bytes part (bytes_at s.memory i)))) (h.zeros b p i base part e k live);
    states = λ b i base e heap named. state_told gamma naming s.memory _ _ _ _ (t.states b base e heap) (h.states b i base e heap named);
    temps = λ k scalar e. scalar_told gamma naming s.memory _ _ scalar (t.temps k) (h.held.within k scalar e) (h.temps k scalar e);
  }
