-- Lifetimes of objects, what declarations do to their bytes, and labels that tests drop.
use Rattle.std.proofs.Common.{◌≡◌, ◌≤◌, ◌<◌, ℕ, suc, Bool, true, false, cond, List, [], ◌∷◌, ◌++◌, length, take, drop, Option, Some, None, refl, ap, arith, length-append, length-drop}
use Rattle.std.proofs.lemmas.List.{length-take}
use Rattle.cc_base.specs.declared.int_types.IntType.{IntType}
use Rattle.cc_base.specs.declared.integer_operators.Rel.{Rel}
use Rattle.c_layout.specs.declared.data_model.Model.{Model}
use Rattle.c_layout.specs.declared.leaf_lists.Leaf.{Leaf}
use Rattle.cfg.specs.declared.machine_instructions.Scalar as declared
use Rattle.cfg.specs.declared.machine_instructions.Scalar.TheVariants as of
use Rattle.memory_model.specs.Memory.Labels.{Labels, no_labels, is_unlabelled, dropped_labels}
use Rattle.memory_model.specs.Memory.Bytes.{Content, indeterminate, number, part, Byte}
use Rattle.memory_model.specs.Memory.Instances.{automatic, ended, Memory, bytes_at}
use Rattle.memory_model.specs.Effects.Worlds.{World}
use Rattle.memory_model.specs.Effects.ObjectEffects.{blank_bytes, fresh, entered, left, all_of, forgotten, cleared, characters, spelled}
use Rattle.memory_model.specs.Effects.ScalarBytes.{refilled}
use Rattle.memory_model.specs.Effects.Tests.{TestedSide, object, constant, nothing, SideTest, scalar_size, side_labels, turned, relabelled, all_relabelled, object_relabelled, with_labels, bounded, both_bounded, after_test}
use Rattle.source_preservation.specs.ValueTyping.ProperMemory.{IsProper, IsProperMemory, Evolves}
use Rattle.source_preservation.proofs.memory.ProperBytes.{each_taken, each_behind, each_both, AreProperBytes, AreProperContents, IsProperByte, all_long, all_proper, blank_proper, refilled_long, refilled_proper}
use Rattle.source_preservation.proofs.memory.Evolving.{proper_bytes, evolves_same, evolves_further, set_bytes_evolves, with_instance_evolves, set_life_evolves}

-- the bytes of a text
abbrev pub AreSmall : List ℕ → Type 0
AreSmall [] = Unit {0}
AreSmall (b ∷ bs) = (b < 256) × AreSmall bs

relabelled_long : (f : Labels → Labels) (bs : List Byte) → length (all_relabelled f bs) ≡ length bs
relabelled_long f [] = refl
relabelled_long f (b ∷ bs) = ap suc (relabelled_long f bs)

module _ (m : Model) where
  -- ---- lifetimes

  pub entered_evolves : (leaves : List Leaf) (size : ℕ) (w : World) → Evolves m w.memory (entered m leaves size w).memory
  entered_evolves leaves size w = with_instance_evolves m w (fresh automatic (blank_bytes m leaves 0 size)) (λ _. blank_proper m leaves 0 size)

  pub left_evolves : (i : ℕ) (w : World) → Evolves m w.memory (left i w).memory
  left_evolves i w = set_life_evolves m w.memory i ended

  -- ---- declarations

  pub forgotten_evolves : (i : ℕ) (w : World) → Evolves m w.memory (forgotten i w).memory
  forgotten_evolves i w = let e = all_long indeterminate (bytes_at w.memory i) in set_bytes_evolves m w.memory i (all_of indeterminate (bytes_at w.memory i)) (λ _. all_proper m indeterminate (bytes_at w.memory i) tt) (omega (arith, e))

  pub cleared_evolves : (i : ℕ) (w : World) → Evolves m w.memory (cleared i w).memory
  cleared_evolves i w = let e = all_long (number 0 no_labels) (bytes_at w.memory i) in set_bytes_evolves m w.memory i (all_of (number 0 no_labels) (bytes_at w.memory i)) (λ _. all_proper m (number 0 no_labels) (bytes_at w.memory i) (omega arith)) (omega (arith, e))

  -- a text and its closing zero
  pub text_proper : (text : List ℕ) → AreSmall text → AreProperContents m (characters text ++ number 0 no_labels ∷ [])
  text_proper [] small = (omega arith, tt)
  text_proper (b ∷ text) small = (small.0, text_proper text small.1)

  pub spelled_evolves : (i offset room : ℕ) (text : List ℕ) (w : World) → AreSmall text → Evolves m w.memory (spelled i offset room text w).memory
  spelled_evolves i offset room text w small =
      let cs : List Content = take room (characters text ++ number 0 no_labels ∷ []) in
      let e = refilled_long offset (bytes_at w.memory i) cs in
      set_bytes_evolves m w.memory i (refilled (bytes_at w.memory i) offset cs) (λ p. refilled_proper m (bytes_at w.memory i) offset cs (proper_bytes m w.memory p i) (each_taken (IsProper m) room (characters text ++ number 0 no_labels ∷ []) (text_proper text small))) (omega (arith, e))

  -- ---- labels

  relabelled_is : (f : Labels → Labels) (c : Content) → IsProper m c → IsProper m (relabelled f c)
  relabelled_is f indeterminate is = tt
  relabelled_is f (number n labels) is = is
  relabelled_is f (part p k) is = is

  relabelled_are : (f : Labels → Labels) (bs : List Byte) → AreProperBytes m bs → AreProperBytes m (all_relabelled f bs)
  relabelled_are f [] are = tt
  relabelled_are f (b ∷ bs) are = (relabelled_is f b.content are.0, relabelled_are f bs are.1)

  pub relabelled_evolves : (f : Labels → Labels) (i : ℕ) (kind : declared.Scalar) (memory : Memory) → Evolves m memory (object_relabelled m f i kind memory)
  relabelled_evolves f i kind memory = set_bytes_evolves m memory i (all_relabelled f (take size bs) ++ drop size bs) proper long
    where
      size : ℕ
      size = scalar_size m kind

      bs : List Byte
      bs = bytes_at memory i

      proper : IsProperMemory m memory → AreProperBytes m (all_relabelled f (take size bs) ++ drop size bs)
      proper p = each_both (IsProperByte m) (all_relabelled f (take size bs)) (drop size bs) (relabelled_are f (take size bs) (each_taken (IsProperByte m) size bs (proper_bytes m memory p i))) (each_behind (IsProperByte m) size bs (proper_bytes m memory p i))

      long : length bs ≤ length (all_relabelled f (take size bs) ++ drop size bs)
      long = let e = relabelled_long f (take size bs) in simp (length-append, length-drop, e, length-take) (omega arith)

  pub with_labels_evolves : (f : Labels → Labels) (side : TestedSide) (memory : Memory) → Evolves m memory (with_labels m f side memory)
  with_labels_evolves f (object i kind) memory = relabelled_evolves f i kind memory
  with_labels_evolves f (constant n) memory = evolves_same m memory
  with_labels_evolves f nothing memory = evolves_same m memory

  if_bounded : (b : Bool) (f : Labels → Labels) (side : TestedSide) (memory : Memory) → Evolves m memory (cond b (with_labels m f side memory) memory)
  if_bounded true f side memory = with_labels_evolves f side memory
  if_bounded false f side memory = evolves_same m memory

  bounded_evolves : (rel : Rel) (common : IntType) (side : TestedSide) (other : Labels) (memory : Memory) → Evolves m memory (bounded m rel common side other memory)
  bounded_evolves rel common side other memory = if_bounded (is_unlabelled other) (λ s. dropped_labels rel s common) side memory

  both_evolve : (rel : Rel) (common : IntType) (left right : TestedSide) (memory : Memory) → Evolves m memory (both_bounded m rel common left right memory)
  both_evolve rel common left right memory =
      let between : Memory = bounded m rel common left (side_labels m memory right) memory in
      evolves_further m memory between _ (bounded_evolves rel common left (side_labels m memory right) memory) (bounded_evolves (turned rel) common right (side_labels m memory left) between)

  pub after_test_evolves : (common : Option IntType) (t : SideTest) (memory : Memory) → Evolves m memory (after_test m common t memory)
  after_test_evolves None t memory = evolves_same m memory
  after_test_evolves (Some common) t memory = both_evolve t.rel common t.left t.right memory
