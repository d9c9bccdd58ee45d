-- Loads, stores and copies of structs: what they do to memory, and that what they give is proper.
use Rattle.std.proofs.Common.{◌≡◌, ◌≤◌, ◌+◌, ℕ, suc, Bool, true, false, cond, not, ◌&&◌, List, [], ◌∷◌, length, Option, Some, None, refl, subst, arith}
use Rattle.std.specs.Prelude.{nat_le}
use Rattle.std.proofs.lemmas.Bool.{and_parts, leb-true}
use Rattle.cc_base.specs.declared.int_types.IntType.{IntType}
use Rattle.cc_base.specs.declared.diagnostics.Rule.TheVariants as rule
use Rattle.c_layout.specs.declared.data_model.Model.{Model}
use Rattle.c_layout.specs.declared.leaf_lists.Class.{Class}
use Rattle.c_layout.specs.declared.leaf_lists.Class.TheVariants.{Char}
use Rattle.c_layout.specs.declared.leaf_lists.Leaf.{Leaf}
use Rattle.cfg.specs.declared.machine_instructions.Scalar as declared
use Rattle.cfg.specs.declared.machine_instructions.Scalar.TheVariants as of
use Rattle.memory_model.specs.Memory.Bytes.{MachinePointer, null, into, Content, indeterminate, number, part, Byte}
use Rattle.memory_model.specs.Memory.Instances.{Life, live, ended, freed, Memory, life_at, bytes_at}
use Rattle.memory_model.specs.Memory.Numbers.{Labelled}
use Rattle.memory_model.specs.Memory.Scalars.{Scalar, pointer}
use Rattle.memory_model.specs.Memory.ScalarSizes.{class_bytes, same_class}
use Rattle.memory_model.specs.Effects.Worlds.{World, Reply, goes, stops, Left, Stuck, stopped_by}
use Rattle.memory_model.specs.Effects.Operands.{is_of_kind, as_pointer}
use Rattle.memory_model.specs.Effects.ScalarBytes.{scalar_bytes, tagged_from, replaced, refilled, region, contents}
use Rattle.memory_model.specs.Effects.Touches.{Spot, is_literal, is_allocated, storage_at, touched_live, touched_by, touched}
use Rattle.memory_model.specs.Effects.Accesses.{class_in, are_zeros, are_parts, pointer_in, pointer_scalar, numbers_in, integer_in, scalar_in, given, read_blank, has_blank, read_contents, is_seen_as, bytes_seen, load_at, load_through, load, stored_bytes, stored, may_store, store_at, store_through, store}
use Rattle.memory_model.specs.Effects.StructCopies.{copied, copy_made, may_copy, copy_at, copy_between, copy_struct}
use Rattle.source_preservation.specs.ValueTyping.Marks.{IsBounded}
use Rattle.source_preservation.specs.ValueTyping.ProperMemory.{IsProperMemory, Evolves}
use Rattle.source_preservation.specs.Memory.GoingWorlds.{WhenGoing, IsProperScalar, IsProperResult, Keeps, Gives, Same, Read, Given, Reads}
use Rattle.source_preservation.proofs.memory.Replies.{when_more, when_behind, when_kept, when_either, when_where, when_pointer}
use Rattle.source_preservation.proofs.memory.ProperBytes.{AreProperBytes, AreProperContents, contents_proper, region_proper, scalar_bytes_proper, tagged_proper, replaced_proper, refilled_proper, replaced_long, refilled_long}
use Rattle.source_preservation.proofs.memory.Evolving.{proper_bytes, set_bytes_evolves}

-- ---- touches

-- the bytes end within a bound that the pointer's upper bound keeps
pub record IsTouched (before : Memory) (most size : ℕ) (spot : Spot) (w : World) : Type 0 where
  pub within : spot.offset + size ≤ most
  pub same : w.memory ≡ before

live_touched : (most : ℕ) (w : World) (i offset lo hi size : ℕ) (writes : Bool) → hi ≤ most → WhenGoing (IsTouched w.memory most size) (touched_live w i offset lo hi size writes)
live_touched most w i offset lo hi size writes small =
    when_where (IsTouched w.memory most size) (nat_le lo offset && nat_le (offset + size) hi) (cond (writes && is_literal (storage_at w.memory i)) (stopped_by w rule.Strmod) (goes spot w)) (stopped_by w rule.Invptr) (λ within. when_either (IsTouched w.memory most size) _ (stopped_by w rule.Strmod) (goes spot w) tt (touched_here within)) (λ _. tt)
  where
    spot : Spot
    spot = record { instance = i; offset = offset }

    touched_here : nat_le lo offset && nat_le (offset + size) hi ≡ true → IsTouched w.memory most size spot w
    touched_here within = let h = leb-true (offset + size) hi (and_parts (nat_le lo offset) (nat_le (offset + size) hi) within).1 in record { within = omega (arith, h, small); same = refl }

by_touched : (most : ℕ) (w : World) (life : Life) (i offset lo hi size : ℕ) (writes : Bool) → hi ≤ most → WhenGoing (IsTouched w.memory most size) (touched_by w life i offset lo hi size writes)
by_touched most w live i offset lo hi size writes small = live_touched most w i offset lo hi size writes small
by_touched most w ended i offset lo hi size writes small = tt
by_touched most w freed i offset lo hi size writes small = tt

-- the upper bound of a pointer
abbrev pub EndsWithin : ℕ → MachinePointer → Type 0
EndsWithin most null = Unit {0}
EndsWithin most (into i offset lo hi) = hi ≤ most

pub touched_within : (most : ℕ) (w : World) (p : MachinePointer) (size : ℕ) (writes : Bool) → EndsWithin most p → WhenGoing (IsTouched w.memory most size) (touched w p size writes)
touched_within most w null size writes small = tt
touched_within most w (into i offset lo hi) size writes small = by_touched most w (life_at w.memory i) i offset lo hi size writes small

pub touched_keeps : (w : World) (p : MachinePointer) (size : ℕ) (writes : Bool) → Keeps w.memory (touched w p size writes)
touched_keeps w null size writes = tt
touched_keeps w (into i offset lo hi) size writes = when_more (IsTouched w.memory hi size) (Same w.memory) (touched w (into i offset lo hi) size writes) (λ spot after is. is.same) (touched_within hi w (into i offset lo hi) size writes (omega arith))

module _ (m : Model) where
  -- ---- what contents are as a scalar

  if_parts : (b : Bool) (p : MachinePointer) → IsBounded m p → IsProperResult m (pointer_scalar (cond b (Some p) None))
  if_parts true p is = is
  if_parts false p is = tt

  if_zeros : (b : Bool) → IsProperResult m (pointer_scalar (cond b (Some null) None))
  if_zeros true = tt
  if_zeros false = tt

  pointer_proper : (cs : List Content) → AreProperContents m cs → IsProperResult m (pointer_scalar (pointer_in cs))
  pointer_proper [] are = tt
  pointer_proper (indeterminate ∷ cs) are = if_zeros (are_zeros (indeterminate ∷ cs))
  pointer_proper (number n labels ∷ cs) are = if_zeros (are_zeros (number n labels ∷ cs))
  pointer_proper (part p k ∷ cs) are = if_parts (are_parts p 0 (part p k ∷ cs)) p are.0

  integer_proper : (kind : IntType) (o : Option (List Labelled)) → IsProperResult m (integer_in kind o)
  integer_proper kind None = tt
  integer_proper kind (Some ns) = tt

  pub scalar_in_proper : (kind : declared.Scalar) (cs : List Content) → AreProperContents m cs → IsProperResult m (scalar_in kind cs)
  scalar_in_proper (of.Int kind) cs are = integer_proper kind (numbers_in cs)
  scalar_in_proper of.Pointer cs are = pointer_proper cs are

  -- ---- loads

  -- memory is as before, and the value is proper, where memory is
  pub record IsLoaded (before : Memory) (v : Scalar) (w : World) : Type 0 where
    pub proper : IsProperMemory m before → IsProperScalar m v
    pub same : w.memory ≡ before

  given_loaded : (w : World) (o : Option Scalar) → (IsProperMemory m w.memory → IsProperResult m o) → WhenGoing (IsLoaded w.memory) (given w o)
  given_loaded w None is = tt
  given_loaded w (Some v) is = record { proper = is; same = refl }

  module _ (kind : declared.Scalar) where
    blank_loaded : (w : World) → WhenGoing (IsLoaded w.memory) (read_blank w kind)
    blank_loaded w = when_either (IsLoaded w.memory) _ (stops Left w) (stopped_by w rule.Uninitref) tt tt

    contents_loaded : (w : World) (cs : List Content) → (IsProperMemory m w.memory → AreProperContents m cs) → WhenGoing (IsLoaded w.memory) (read_contents w kind cs)
    contents_loaded w cs are = when_either (IsLoaded w.memory) (has_blank cs) (read_blank w kind) (given w (scalar_in kind cs)) (blank_loaded w) (given_loaded w (scalar_in kind cs) (λ p. scalar_in_proper kind cs (are p)))

    spot_loaded : (spot : Spot) (w : World) → WhenGoing (IsLoaded w.memory) (load_at m kind spot w)
    spot_loaded spot w =
        let bytes : List Byte = bytes_at w.memory spot.instance in
        let size : ℕ = class_bytes m (class_in kind) in
        let cs : List Content = contents (region bytes spot.offset size) in
        when_either (IsLoaded w.memory) (is_seen_as (is_allocated (storage_at w.memory spot.instance)) (class_in kind) (bytes_seen m w (class_in kind) spot)) (read_contents w kind cs) (stops Left w) (contents_loaded w cs (λ p. contents_proper m (region bytes spot.offset size) (region_proper m bytes spot.offset size (proper_bytes m w.memory p spot.instance)))) tt

    pub load_loaded : (at : Scalar) (w : World) → WhenGoing (IsLoaded w.memory) (load m kind at w)
    load_loaded at w = when_pointer (IsLoaded w.memory) at w (load_through m kind) (λ p is. when_kept IsLoaded w.memory (touched w p (class_bytes m (class_in kind)) false) (load_at m kind) (touched_keeps w p (class_bytes m (class_in kind)) false) (λ spot w. spot_loaded spot w))

    pub load_keeps : (at : Scalar) (w : World) → Keeps w.memory (load m kind at w)
    load_keeps at w = when_more (IsLoaded w.memory) (Same w.memory) (load m kind at w) (λ v after is. is.same) (load_loaded at w)

    pub load_gives : (at : Scalar) (w : World) → IsProperMemory m w.memory → Reads m w.memory (load m kind at w)
    load_gives at w proper = when_more (IsLoaded w.memory) (Read m w.memory) (load m kind at w) (λ v after is. (is.proper proper, is.same)) (load_loaded at w)

  -- ---- stores

  which_proper : (b : Bool) (class : Class) (bytes : List Byte) (offset : ℕ) (cs : List Content) → AreProperBytes m bytes → AreProperContents m cs → AreProperBytes m (cond b (replaced bytes offset (tagged_from class 0 cs)) (refilled bytes offset cs))
  which_proper true class bytes offset cs are new = replaced_proper m bytes offset (tagged_from class 0 cs) are (tagged_proper m class 0 cs new)
  which_proper false class bytes offset cs are new = refilled_proper m bytes offset cs are new

  which_long : (b : Bool) (class : Class) (bytes : List Byte) (offset : ℕ) (cs : List Content) → length bytes ≤ length (cond b (replaced bytes offset (tagged_from class 0 cs)) (refilled bytes offset cs))
  which_long true class bytes offset cs = replaced_long bytes offset (tagged_from class 0 cs)
  which_long false class bytes offset cs = let e = refilled_long offset bytes cs in omega (arith, e)

  pub stored_evolves : (w : World) (class : Class) (spot : Spot) (cs : List Content) → AreProperContents m cs → Evolves m w.memory (stored w class spot cs).memory
  stored_evolves w class spot cs new =
      let allocated : Bool = is_allocated (storage_at w.memory spot.instance) in
      let bytes : List Byte = bytes_at w.memory spot.instance in
      let typed : Bool = allocated && not (same_class class Char) in
      set_bytes_evolves m w.memory spot.instance (stored_bytes allocated class bytes spot.offset cs) (λ p. which_proper typed class bytes spot.offset cs (proper_bytes m w.memory p spot.instance) new) (which_long typed class bytes spot.offset cs)

  spot_stored : (class : Class) (v : Scalar) → IsProperScalar m v → (spot : Spot) (w : World) → Gives m w.memory (store_at m class v spot w)
  spot_stored class v is spot w = when_either (Given m w.memory) (may_store m w class spot) (goes v (stored w class spot (scalar_bytes (class_bytes m class) v))) (stops Left w) (is, stored_evolves w class spot (scalar_bytes (class_bytes m class) v) (scalar_bytes_proper m (class_bytes m class) v is)) tt

  through_stored : (kind : declared.Scalar) (v : Scalar) → IsProperScalar m v → (p : MachinePointer) (w : World) → Gives m w.memory (store_through m kind v p w)
  through_stored kind v is p w = when_kept (Given m) w.memory (touched w p (class_bytes m (class_in kind)) true) (store_at m (class_in kind) v) (touched_keeps w p (class_bytes m (class_in kind)) true) (λ spot w. spot_stored (class_in kind) v is spot w)

  pub store_gives : (kind : declared.Scalar) (at v : Scalar) (w : World) → IsProperScalar m v → Gives m w.memory (store m kind at v w)
  store_gives kind at v w proper = when_pointer (Given m w.memory) at w _ (λ p is. when_either (Given m w.memory) (is_of_kind kind v) (store_through m kind v p w) (stops Stuck w) (through_stored kind v proper p w) tt)

  -- ---- copies

  copied_proper : (leaves : List Leaf) (allocated : Bool) (k : ℕ) (tos froms : List Byte) → AreProperBytes m tos → AreProperBytes m froms → AreProperBytes m (copied m leaves allocated k tos froms)
  copied_proper leaves allocated k [] [] one other = tt
  copied_proper leaves allocated k [] (from ∷ froms) one other = tt
  copied_proper leaves allocated k (to ∷ tos) [] one other = one
  copied_proper leaves allocated k (to ∷ tos) (from ∷ froms) one other = (other.0, copied_proper leaves allocated (suc k) tos froms one.1 other.1)

  made_evolves : (leaves : List Leaf) (size : ℕ) (w : World) (to from : Spot) → Evolves m w.memory (copy_made m leaves size w to from).memory
  made_evolves leaves size w to from = set_bytes_evolves m w.memory to.instance (replaced (bytes_at w.memory to.instance) to.offset new) proper (replaced_long (bytes_at w.memory to.instance) to.offset new)
    where
      tos : List Byte
      tos = region (bytes_at w.memory to.instance) to.offset size

      froms : List Byte
      froms = region (bytes_at w.memory from.instance) from.offset size

      new : List Byte
      new = copied m leaves (is_allocated (storage_at w.memory to.instance)) 0 tos froms

      proper : IsProperMemory m w.memory → AreProperBytes m (replaced (bytes_at w.memory to.instance) to.offset new)
      proper p = replaced_proper m (bytes_at w.memory to.instance) to.offset new (proper_bytes m w.memory p to.instance) (copied_proper leaves (is_allocated (storage_at w.memory to.instance)) 0 tos froms (region_proper m (bytes_at w.memory to.instance) to.offset size (proper_bytes m w.memory p to.instance)) (region_proper m (bytes_at w.memory from.instance) from.offset size (proper_bytes m w.memory p from.instance)))

  abbrev GivesPointer : Memory → MachinePointer → World → Type 0
  GivesPointer before p w = IsBounded m p × Evolves m before w.memory

  spots_copied : (leaves : List Leaf) (size : ℕ) (p : MachinePointer) → IsBounded m p → (from to : Spot) (w : World) → WhenGoing (GivesPointer w.memory) (copy_at m leaves size p from to w)
  spots_copied leaves size p is from to w = when_either (GivesPointer w.memory) (may_copy m leaves size w to from) (goes p (copy_made m leaves size w to from)) (stops Left w) (is, made_evolves leaves size w to from) tt

  between_copied : (leaves : List Leaf) (size : ℕ) (p q : MachinePointer) (w : World) → IsBounded m p → WhenGoing (GivesPointer w.memory) (copy_between m leaves size p q w)
  between_copied leaves size p q w is = when_kept GivesPointer w.memory (touched w q size false) _ (touched_keeps w q size false) (λ from w. when_kept GivesPointer w.memory (touched w p size true) (copy_at m leaves size p from) (touched_keeps w p size true) (λ to w. spots_copied leaves size p is from to w))

  pub as_pointer_gives : (before : Memory) (r : Reply MachinePointer) → WhenGoing (GivesPointer before) r → Gives m before (as_pointer r)
  as_pointer_gives before r h = when_behind (GivesPointer before) (Given m before) r _ h (λ p w is. is)

  pub bounded_of : (v : Scalar) (p : MachinePointer) → v ≡ pointer p → IsProperScalar m v → IsBounded m p
  bounded_of v p is proper = subst (IsProperScalar m) is proper

  pub copy_gives : (leaves : List Leaf) (size : ℕ) (to from : Scalar) (w : World) → IsProperScalar m to → Gives m w.memory (copy_struct m leaves size to from w)
  copy_gives leaves size to from w proper = when_pointer (Given m w.memory) to w _ (λ p is. when_pointer (Given m w.memory) from w _ (λ q _. as_pointer_gives w.memory (copy_between m leaves size p q w) (between_copied leaves size p q w (bounded_of to p is proper))))
