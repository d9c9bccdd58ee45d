-- Loads, stores and copies of structs, whose operands are of their kinds.
use Rattle.std.proofs.Common.{ℕ, Bool, true, false, cond, List, Option, Some, None, ◌&&◌, ◌+◌, nat_le}
use Rattle.cc_base.specs.declared.int_types.IntType.{IntType}
use Rattle.cc_base.specs.declared.diagnostics.Rule.TheVariants as rule
use Rattle.c_layout.specs.declared.data_model.Model.{Model}
use Rattle.c_layout.specs.declared.leaf_lists.Class.{Class}
use Rattle.c_layout.specs.declared.leaf_lists.Leaf.{Leaf}
use Rattle.cfg.specs.declared.machine_instructions.Scalar as declared
use Rattle.cfg.specs.declared.machine_instructions.Scalar.TheVariants as of
use Rattle.memory_model.specs.Memory.Bytes.{MachinePointer, null, into, Content}
use Rattle.memory_model.specs.Memory.Instances.{Life, live, ended, freed, life_at}
use Rattle.memory_model.specs.Memory.Numbers.{Labelled}
use Rattle.memory_model.specs.Memory.Scalars.{Scalar, integer, pointer}
use Rattle.memory_model.specs.Effects.Worlds.{World, goes, stops, stopped_by, Left, Stuck}
use Rattle.memory_model.specs.Effects.Operands.{is_of_kind}
use Rattle.memory_model.specs.Effects.ScalarBytes.{contents}
use Rattle.memory_model.specs.Effects.Touches.{Spot, is_literal, storage_at, touched_live, touched_by, touched}
use Rattle.memory_model.specs.Effects.Accesses.{class_in, bytes_seen, numbers_in, pointer_in, integer_in, pointer_scalar, scalar_in, given, read_blank, read_contents, load_at, load, store_at, store_through, store}
use Rattle.memory_model.specs.Effects.StructCopies.{copy_at, copy_between, copy_struct}
use Rattle.source_items.specs.Operations.Kinds.{Kind, Number, Address, kind_of, IsOf}
use Rattle.source_items.proofs.operations.Replies.{Answers, Any, then_any, either_answers, pointer_answers, as_pointer_answers}

-- ---- touches

touched_live_answers : (w : World) (i offset lo hi size : ℕ) (writes : Bool) → Answers Any (touched_live w i offset lo hi size writes)
touched_live_answers w i offset lo hi size writes =
    let spot : Spot = record { instance = i; offset = offset } in
    let unwritten : Bool = writes && is_literal (storage_at w.memory i) in
    either_answers Any (nat_le lo offset && nat_le (offset + size) hi) (cond unwritten (stopped_by w rule.Strmod) (goes spot w)) (stopped_by w rule.Invptr) (either_answers Any unwritten (stopped_by w rule.Strmod) (goes spot w) tt tt) tt

touched_by_answers : (w : World) (life : Life) (i offset lo hi size : ℕ) (writes : Bool) → Answers Any (touched_by w life i offset lo hi size writes)
touched_by_answers w live i offset lo hi size writes = touched_live_answers w i offset lo hi size writes
touched_by_answers w ended i offset lo hi size writes = tt
touched_by_answers w freed i offset lo hi size writes = tt

pub touched_answers : (w : World) (p : MachinePointer) (size : ℕ) (writes : Bool) → Answers Any (touched w p size writes)
touched_answers w null size writes = tt
touched_answers w (into i offset lo hi) size writes = touched_by_answers w (life_at w.memory i) i offset lo hi size writes

-- ---- loads

-- of the kind, where there is one
abbrev IsSuch : Kind → Option Scalar → Type 0
IsSuch k None = Unit {0}
IsSuch k (Some v) = IsOf k v

integer_is : (kind : IntType) (o : Option (List Labelled)) → IsSuch Number (integer_in kind o)
integer_is kind None = tt
integer_is kind (Some ns) = tt

pointer_is : (o : Option MachinePointer) → IsSuch Address (pointer_scalar o)
pointer_is None = tt
pointer_is (Some p) = tt

scalar_is : (kind : declared.Scalar) (cs : List Content) → IsSuch (kind_of kind) (scalar_in kind cs)
scalar_is (of.Int kind) cs = integer_is kind (numbers_in cs)
scalar_is of.Pointer cs = pointer_is (pointer_in cs)

given_answers : (k : Kind) (w : World) (o : Option Scalar) → IsSuch k o → Answers (IsOf k) (given w o)
given_answers k w None is = tt
given_answers k w (Some v) is = is

module _ (m : Model) (kind : declared.Scalar) where
  blank_answers : (w : World) → Answers (IsOf (kind_of kind)) (read_blank w kind)
  blank_answers w = either_answers (IsOf (kind_of kind)) _ (stops Left w) (stopped_by w rule.Uninitref) tt tt

  contents_answer : (w : World) (cs : List Content) → Answers (IsOf (kind_of kind)) (read_contents w kind cs)
  contents_answer w cs = either_answers (IsOf (kind_of kind)) _ (read_blank w kind) (given w (scalar_in kind cs)) (blank_answers w) (given_answers (kind_of kind) w (scalar_in kind cs) (scalar_is kind cs))

  spot_loaded : (spot : Spot) (w : World) → Answers (IsOf (kind_of kind)) (load_at m kind spot w)
  spot_loaded spot w =
      let cs : List Content = contents (bytes_seen m w (class_in kind) spot) in
      either_answers (IsOf (kind_of kind)) _ (read_contents w kind cs) (stops Left w) (contents_answer w cs) tt

  pub load_answers : (at : Scalar) (w : World) → IsOf Address at → Answers (IsOf (kind_of kind)) (load m kind at w)
  load_answers at w is = pointer_answers (IsOf (kind_of kind)) at w _ is (λ p. then_any (IsOf (kind_of kind)) (touched w p _ false) _ (touched_answers w p _ false) (λ spot w. spot_loaded spot w))

-- ---- stores

module _ (m : Model) where
  spot_stored : (k : Kind) (class : Class) (v : Scalar) → IsOf k v → (spot : Spot) (w : World) → Answers (IsOf k) (store_at m class v spot w)
  spot_stored k class v is spot w = either_answers (IsOf k) _ (goes v _) (stops Left w) is tt

  through_stored : (kind : declared.Scalar) (v : Scalar) (p : MachinePointer) (w : World) → IsOf (kind_of kind) v → Answers (IsOf (kind_of kind)) (store_through m kind v p w)
  through_stored kind v p w is = then_any (IsOf (kind_of kind)) (touched w p _ true) _ (touched_answers w p _ true) (λ spot w. spot_stored (kind_of kind) _ v is spot w)

  such_stored : (kind : declared.Scalar) (v : Scalar) (p : MachinePointer) (w : World) → IsOf (kind_of kind) v → Answers (IsOf (kind_of kind)) (cond (is_of_kind kind v) (store_through m kind v p w) (stops Stuck w))
  such_stored (of.Int kind) (integer n labels) p w is = through_stored (of.Int kind) (integer n labels) p w is
  such_stored (of.Int kind) (pointer q) p w is = absurd is
  such_stored of.Pointer (integer n labels) p w is = absurd is
  such_stored of.Pointer (pointer q) p w is = through_stored of.Pointer (pointer q) p w is

  pub store_answers : (kind : declared.Scalar) (at v : Scalar) (w : World) → IsOf Address at → IsOf (kind_of kind) v → Answers (IsOf (kind_of kind)) (store m kind at v w)
  store_answers kind at v w to is = pointer_answers (IsOf (kind_of kind)) at w _ to (λ p. such_stored kind v p w is)

  -- ---- copies

  spots_copied : (leaves : List Leaf) (size : ℕ) (p : MachinePointer) (from to : Spot) (w : World) → Answers Any (copy_at m leaves size p from to w)
  spots_copied leaves size p from to w = either_answers Any _ (goes p _) (stops Left w) tt tt

  between_copied : (leaves : List Leaf) (size : ℕ) (p q : MachinePointer) (w : World) → Answers Any (copy_between m leaves size p q w)
  between_copied leaves size p q w = then_any Any (touched w q size false) _ (touched_answers w q size false) (λ from w. then_any Any (touched w p size true) _ (touched_answers w p size true) (λ to w. spots_copied leaves size p from to w))

  pub copy_answers : (leaves : List Leaf) (size : ℕ) (to from : Scalar) (w : World) → IsOf Address to → IsOf Address from → Answers (IsOf Address) (copy_struct m leaves size to from w)
  copy_answers leaves size to from w one other = pointer_answers (IsOf Address) to w _ one (λ p. pointer_answers (IsOf Address) from w _ other (λ q. as_pointer_answers (copy_between m leaves size p q w) (between_copied leaves size p q w)))
