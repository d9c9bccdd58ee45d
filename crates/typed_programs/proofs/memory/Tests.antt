-- A test on an edge drops labels alone, and leaves memory typed.
use Rattle.std.proofs.Common.{◌≡◌, ℕ, zero, suc, Bool, true, false, cond, Option, Some, None, List, [], ◌∷◌, ◌++◌, take, drop, refl, ap, ◌∙◌, subst}
use Rattle.std.specs.Prelude.{slice_get}
use Rattle.std.proofs.lemmas.Option.{same_Some}
use Rattle.cc_base.specs.declared.int_types.IntType.{IntType}
use Rattle.cc_base.specs.declared.integer_operators.Rel.{Rel}
use Rattle.c_layout.specs.StructViews.{StructView}
use Rattle.c_layout.specs.Types.{Ty}
use Rattle.c_layout.specs.declared.data_model.Model.{Model}
use Rattle.cfg.specs.declared.machine_instructions.Scalar as declared
use Rattle.cfg.specs.declared.machine_instructions.Scalar.TheVariants as of
use Rattle.memory_model.specs.Memory.Labels.{Labels, no_labels, is_unlabelled, dropped_labels}
use Rattle.memory_model.specs.Memory.Bytes.{MachinePointer, Content, indeterminate, number, part, Byte}
use Rattle.memory_model.specs.Memory.Instances.{bytes_at}
use Rattle.memory_model.specs.Effects.Worlds.{World, goes, world_of, with_memory}
use Rattle.memory_model.specs.Effects.Tests.{TestedSide, object, constant, nothing, SideTest, scalar_size, side_scalar, side_labels, turned, test_holds, relabelled, byte_relabelled, all_relabelled, object_relabelled, with_labels, bounded, after_test, passing, is_number}
use Rattle.typed_programs.specs.Types.TypedStates.{IsTypedMemory}
use Rattle.typed_programs.specs.Types.EffectLaws.{KeepsTypes, TestsKeepTypes, CasesKeepTypes}
use Rattle.typed_programs.proofs.memory.TypedBytes.{set_keeps}

-- ---- contents with other labels

relabelled_part : (f : Labels → Labels) (c : Content) (p : MachinePointer) (k : ℕ) → relabelled f c ≡ part p k → c ≡ part p k
relabelled_part f indeterminate p k is = is
relabelled_part f (number n labels) p k is = absurd (cc)
relabelled_part f (part q j) p k is = is

-- a part of a pointer was there
relabelled_at : (f : Labels → Labels) (size : ℕ) (bytes : List Byte) (x : ℕ) (b : Byte) (p : MachinePointer) → slice_get (all_relabelled f (take size bytes) ++ drop size bytes) x ≡ Some b → b.content ≡ part p 0 → (c : Byte) × (slice_get bytes x ≡ Some c) × (c.content ≡ part p 0)
relabelled_at f zero bytes x b p there content = (b, there, content)
relabelled_at f (suc size) [] x b p there content = (b, there, content)
relabelled_at f (suc size) (a ∷ bytes) zero b p there content = (a, refl, relabelled_part f a.content p 0 (ap (λ z. z.content) (same_Some (byte_relabelled f a) b there) ∙ content))
relabelled_at f (suc size) (a ∷ bytes) (suc x) b p there content = relabelled_at f size bytes x b p there content

-- ---- memory

module _ (m : Model) (structs : List StructView) (pointer_size : ℕ) (types : ℕ → Option Ty) where
  kept : (w : World) → IsTypedMemory structs pointer_size types w.memory → KeepsTypes structs pointer_size types w w
  kept w typed = record { memory = typed; long = refl; storages = λ i. refl }

  kept_further : (a b c : World) → KeepsTypes structs pointer_size types a b → KeepsTypes structs pointer_size types b c → KeepsTypes structs pointer_size types a c
  kept_further a b c one two = record { memory = two.memory; long = two.long ∙ one.long; storages = λ i. two.storages i ∙ one.storages i }

  relabelled_keeps : (f : Labels → Labels) (i : ℕ) (kind : declared.Scalar) (w : World) → IsTypedMemory structs pointer_size types w.memory → KeepsTypes structs pointer_size types w (with_memory w (object_relabelled m f i kind w.memory))
  relabelled_keeps f i kind w typed = set_keeps structs pointer_size types w i (all_relabelled f (take (scalar_size m kind) (bytes_at w.memory i)) ++ drop (scalar_size m kind) (bytes_at w.memory i)) typed (λ outer is x t b p there content byte.
      let old = relabelled_at f (scalar_size m kind) (bytes_at w.memory i) x b p there content in
      typed i x outer t old.0 p is old.1 old.2 byte)

  side_keeps : (f : Labels → Labels) (side : TestedSide) (w : World) → IsTypedMemory structs pointer_size types w.memory → KeepsTypes structs pointer_size types w (with_memory w (with_labels m f side w.memory))
  side_keeps f (object i kind) w typed = relabelled_keeps f i kind w typed
  side_keeps f (constant n) w typed = kept w typed
  side_keeps f nothing w typed = kept w typed

  if_bounded : (b : Bool) (f : Labels → Labels) (side : TestedSide) (w : World) → IsTypedMemory structs pointer_size types w.memory → KeepsTypes structs pointer_size types w (with_memory w (cond b (with_labels m f side w.memory) w.memory))
  if_bounded true f side w typed = side_keeps f side w typed
  if_bounded false f side w typed = kept w typed

  bounded_keeps : (rel : Rel) (common : IntType) (side : TestedSide) (other : Labels) (w : World) → IsTypedMemory structs pointer_size types w.memory → KeepsTypes structs pointer_size types w (with_memory w (bounded m rel common side other w.memory))
  bounded_keeps rel common side other w typed = if_bounded (is_unlabelled other) (λ s. dropped_labels rel s common) side w typed

  test_keeps : (common : Option IntType) (t : SideTest) (w : World) → IsTypedMemory structs pointer_size types w.memory → KeepsTypes structs pointer_size types w (with_memory w (after_test m common t w.memory))
  test_keeps None t w typed = kept w typed
  test_keeps (Some common) t w typed =
      let between : World = with_memory w (bounded m t.rel common t.left (side_labels m w.memory t.right) w.memory) in
      let one = bounded_keeps t.rel common t.left (side_labels m w.memory t.right) w typed in
      kept_further w between (with_memory between (bounded m (turned t.rel) common t.right (side_labels m w.memory t.left) between.memory)) one (bounded_keeps (turned t.rel) common t.right (side_labels m w.memory t.left) between one.memory)

passing_goes : (b : Bool) (w after : World) (x : Unit {0}) → passing b w ≡ goes x after → w ≡ after
passing_goes true w after x goes_on = ap world_of goes_on
passing_goes false w after x goes_on = absurd (cc)

pub tests : TestsKeepTypes
tests m structs pointer_size types t w after done typed goes_on =
    subst (KeepsTypes structs pointer_size types w) (passing_goes (test_holds m w.memory t) (with_memory w (after_test m t.common t w.memory)) after done goes_on) (test_keeps m structs pointer_size types t.common t w typed)

pub cases : CasesKeepTypes
cases m structs pointer_size types i kind value w after done typed goes_on =
    subst (KeepsTypes structs pointer_size types w) (passing_goes (is_number value (side_scalar m w.memory (object i (of.Int kind)))) (with_memory w (object_relabelled m (λ s. no_labels) i (of.Int kind) w.memory)) after done goes_on) (relabelled_keeps m structs pointer_size types (λ s. no_labels) i (of.Int kind) w typed)
