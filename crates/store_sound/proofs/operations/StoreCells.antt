-- The cells behind a store of a class other than char stand for the new memory.
use Rattle.std.proofs.Common.{◌≡◌, ℕ, ◌+◌, ◌<◌, ◌≤◌, Bool, true, false, cond, List, length, subst, sym, refl}
use Rattle.std.specs.Prelude.{ℤ}
use Rattle.cc_base.specs.Lattices.{LatticeOf, OrderLaws}
use Rattle.cc_base.specs.IntegerDomains.{IntegersOf, BoundLaws, RangeLaws}
use Rattle.c_layout.specs.declared.leaf_lists.Class.{Class}
use Rattle.cfg.specs.declared.machine_instructions.Scalar as declared
use Rattle.cfg.specs.declared.programs.Flow.{Flow}
use Rattle.value_domain.specs.Values.Values.{value_lattice, value_order}
use Rattle.value_domain.specs.declared.values.values.Value.{Value}
use Rattle.value_domain.specs.declared.values.row_cells.Cell.{Cell}
use Rattle.memory_model.specs.Memory.ScalarSizes.{class_bytes}
use Rattle.store_cells.specs.NearValues.{near_value}
use Rattle.store_cells.specs.RowPositions.{value_at}
use Rattle.memory_model.specs.Memory.Instances.{Memory, bytes_at}
use Rattle.memory_model.specs.Memory.Numbers.{number_of}
use Rattle.memory_model.specs.Memory.Scalars.{Scalar}
use Rattle.store_sound.specs.Concretization.ValueMeaning.{Naming, InGammaScalar}
use Rattle.store_sound.specs.Concretization.RowMeaning.{IsLiveOf, InGammaCell}
use Rattle.memory_model.specs.Effects.Accesses.{class_in}
use Rattle.memory_model.specs.Effects.ScalarBytes.{scalar_bytes}
use Rattle.cc_base.specs.IntegerLaws.{SoundLaws}
use Rattle.store_sound.proofs.operations.Larger.{ValueBelow, value_below, content_larger}
use Rattle.store_sound.specs.Operations.Scalars.{IsOfKind}
use Rattle.store_sound.proofs.operations.MachineStores.{IsStore}
use Rattle.store_sound.proofs.operations.Frames.{cell_stored}
use Rattle.store_sound.proofs.operations.Near.{IsNearValue, near_is, value_at_near, join_near}
use Rattle.store_sound.proofs.operations.FreshValues.{cell_of, fresh_number, fresh_content, cell_near}
use Rattle.store_sound.proofs.operations.StoreValues.{written}

module _ {I : Type 0} {l : LatticeOf I} {n : IntegersOf I} {gamma : I → ℤ → Type 0} (o : OrderLaws l) (q : BoundLaws l n gamma) (c : SoundLaws l n gamma) (flow : Flow) (naming : Naming) {old new : Memory} {i offset : ℕ} (kind : declared.Scalar) (v : Scalar) (of_kind : IsOfKind kind v) (x : Value I) (st : InGammaScalar gamma naming old x v) (s : IsStore old new i offset (class_in kind) (class_bytes flow.model (class_in kind)) (scalar_bytes (class_bytes flow.model (class_in kind)) v)) where
  -- a cell that the store does not reach
  pub cell_apart : (b : ℕ) (d : Class) (signed : Bool) (Place Owns : ℕ → ℕ → Type 0) (y : Value I) → InGammaCell gamma flow naming old b d signed Place Owns y
      → (IsLiveOf naming old b i → d ≡ class_in kind → Place (length (bytes_at old i)) offset → ⊥)
      → (IsLiveOf naming old b i → d ≡ class_in kind → (k : ℕ) → Owns (offset + k) k → ⊥)
      → InGammaCell gamma flow naming new b d signed Place Owns y
  cell_apart b d signed Place Owns y cell no_place no_byte = cell_stored q flow naming s b d signed Place Owns y y cell
      (λ j z a p e. value_below l y y ((value_order o).reflexive y))
      (λ j z k a p e. value_below l y y ((value_order o).reflexive y))
      (λ a e p f ns h. absurd (no_place a e p))
      (λ a e k z w f. absurd (no_byte a e k w))

  -- a cell of the class that gets at least the stored value
  pub cell_reached : (b : ℕ) (signed : Bool) (Place Owns : ℕ → ℕ → Type 0) (y z : Value I) → InGammaCell gamma flow naming old b (class_in kind) signed Place Owns y
      → ((j a : ℕ) → IsLiveOf naming old b j → Place (length (bytes_at old j)) a → (j ≡ i → a ≡ offset → ⊥) → ValueBelow l y z)
      → ((j a k : ℕ) → IsLiveOf naming old b j → Owns a k → (j ≡ i → offset ≤ a → a < offset + class_bytes flow.model (class_in kind) → ⊥) → ValueBelow l y z)
      → ValueBelow l (cell_of n flow.model kind x signed) z
      → InGammaCell gamma flow naming new b (class_in kind) signed Place Owns z
  cell_reached b signed Place Owns y z cell place byte below = cell_stored q flow naming s b (class_in kind) signed Place Owns y z cell
      (λ j a u p e. place j a u p (λ f g. e f g refl))
      byte
      (λ a e p f ns h. q.larger (cell_of n flow.model kind x signed).num z.num (number_of signed ns) below.num (fresh_number c flow.model naming kind v of_kind x st s signed f ns h))
      (λ a e k w g f. content_larger q naming new (cell_of n flow.model kind x signed) z (class_in kind) w below (fresh_content c flow.model naming kind v of_kind x st s signed k w f))

  cell_joined : (b : ℕ) (signed : Bool) (Place Owns : ℕ → ℕ → Type 0) (y : Value I) → InGammaCell gamma flow naming old b (class_in kind) signed Place Owns y → InGammaCell gamma flow naming new b (class_in kind) signed Place Owns ((value_lattice l).join y (cell_of n flow.model kind x signed))
  cell_joined b signed Place Owns y cell =
      let z : Value I = cell_of n flow.model kind x signed in
      let a = value_below l y ((value_lattice l).join y z) ((value_order o).join_left y z) in
      cell_reached b signed Place Owns y ((value_lattice l).join y z) cell (λ j e u p f. a) (λ j e k u p f. a) (value_below l z ((value_lattice l).join y z) ((value_order o).join_right y z))

  -- the one place of a cell
  cell_strong : (b : ℕ) (signed : Bool) (Place Owns : ℕ → ℕ → Type 0) (y : Value I) → InGammaCell gamma flow naming old b (class_in kind) signed Place Owns y
      → ((j a : ℕ) → IsLiveOf naming old b j → Place (length (bytes_at old j)) a → (j ≡ i) × (a ≡ offset))
      → ((j a k : ℕ) → IsLiveOf naming old b j → Owns a k → (j ≡ i) × (offset ≤ a) × (a < offset + class_bytes flow.model (class_in kind)))
      → InGammaCell gamma flow naming new b (class_in kind) signed Place Owns (cell_of n flow.model kind x signed)
  cell_strong b signed Place Owns y cell place byte =
      let z : Value I = cell_of n flow.model kind x signed in
      cell_reached b signed Place Owns y z cell (λ j a u p e. let r = place j a u p in absurd (e r.0 r.1)) (λ j a k u p e. let r = byte j a k u p in absurd (e r.0 r.1 r.2)) (value_below l z z ((value_order o).reflexive z))

  module _ (r : RangeLaws l n) (near : IsNearValue l n x) (row : List (Cell I)) where
    written_near : (p : ℕ) (signed strong : Bool) → near_value l n (cond strong (cell_of n flow.model kind x signed) ((value_lattice l).join (value_at l n row p) (cell_of n flow.model kind x signed))) ≡ cond strong (cell_of n flow.model kind x signed) ((value_lattice l).join (value_at l n row p) (cell_of n flow.model kind x signed))
    written_near p signed true = near_is o q (cell_of n flow.model kind x signed) (cell_near o q r flow.model kind x signed near)
    written_near p signed false = near_is o q ((value_lattice l).join (value_at l n row p) (cell_of n flow.model kind x signed)) (join_near o q (value_at l n row p) (cell_of n flow.model kind x signed) (value_at_near o q row p) (cell_near o q r flow.model kind x signed near))

    pub cell_written : (b p : ℕ) (signed strong : Bool) (Place Owns : ℕ → ℕ → Type 0) → InGammaCell gamma flow naming old b (class_in kind) signed Place Owns (value_at l n row p)
        → (strong ≡ true → (j a : ℕ) → IsLiveOf naming old b j → Place (length (bytes_at old j)) a → (j ≡ i) × (a ≡ offset))
        → (strong ≡ true → (j a k : ℕ) → IsLiveOf naming old b j → Owns a k → (j ≡ i) × (offset ≤ a) × (a < offset + class_bytes flow.model (class_in kind)))
        → InGammaCell gamma flow naming new b (class_in kind) signed Place Owns (written l n flow.model (value_at l n row p) (cell_of n flow.model kind x signed) strong)
    cell_written b p signed true Place Owns cell place byte = subst (InGammaCell gamma flow naming new b (class_in kind) signed Place Owns) (sym (written_near p signed true)) (cell_strong b signed Place Owns (value_at l n row p) cell (place refl) (byte refl))
    cell_written b p signed false Place Owns cell place byte = subst (InGammaCell gamma flow naming new b (class_in kind) signed Place Owns) (sym (written_near p signed false)) (cell_joined b signed Place Owns (value_at l n row p) cell)
