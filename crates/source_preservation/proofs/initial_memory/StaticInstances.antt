-- Memory with the objects of static storage and the literals of a unit.
use Rattle.std.proofs.Common.{◌≡◌, ◌+◌, ℕ, zero, suc, List, [], ◌∷◌, ◌++◌, length, map, take, Some, refl, ap, ◌∙◌, arith, length-append}
use Rattle.std.specs.Prelude.{slice_get}
use Rattle.std.proofs.lemmas.Option.{same_Some}
use Rattle.c_layout.specs.Types.{Ty}
use Rattle.c_layout.specs.Leaves.{leaves_of}
use Rattle.c_layout.specs.Layout.{size_of_type}
use Rattle.c_layout.specs.CheckedUnits.{StaticStoreView, SetValue, SetText, StaticView, LiteralView, UnitView}
use Rattle.c_layout.specs.declared.checked_tree.checked_units.StaticValue.{StaticValue}
use Rattle.c_layout.specs.declared.checked_tree.checked_units.StaticValue.TheVariants as static_value
use Rattle.memory_model.specs.Memory.Labels.{no_labels}
use Rattle.memory_model.specs.Memory.Bytes.{null, into, Content, number, Byte}
use Rattle.memory_model.specs.Memory.Instances.{Instance, Memory, bytes_at}
use Rattle.memory_model.specs.Memory.Scalars.{integer}
use Rattle.memory_model.specs.Effects.ObjectEffects.{all_of, characters}
use Rattle.memory_model.specs.Effects.ScalarBytes.{refilled}
use Rattle.memory_model.specs.Effects.UnitStarts.{base_instance, value_bytes, all_stored, typed_bytes, static_instance, character_byte, literal_made, start_memory}
use Rattle.semantics.specs.SourceMachine.Operations.{size_of}
use Rattle.source_preservation.specs.ValueTyping.ProperMemory.{IsProper, IsProperMemory}
use Rattle.source_preservation.specs.WellTyped.WellTypedStatements.{IsProperValue, AreProperStores, WellTypedStatic, WellTypedLiteral, WellTypedUnit}
use Rattle.source_preservation.specs.WellTyped.WellTypedStates.{StaticsHaveRoom}
use Rattle.source_preservation.proofs.memory.ProperBytes.{Each, each_taken, each_both, AreProperBytes, AreProperContents, all_long, blank_long, refilled_long, scalar_bytes_proper, pointer_bytes_proper, refilled_proper, all_proper}
use Rattle.source_preservation.proofs.memory.Evolving.{proper_memory}
use Rattle.source_preservation.proofs.memory.Objects.{text_proper}

-- ---- lists of instances

each_mapped : {A B : Type 0} (P : B → Type 0) (f : A → B) (xs : List A) → ((k : ℕ) (x : A) → slice_get xs k ≡ Some x → P (f x)) → Each P (map f xs)
each_mapped P f [] each = tt
each_mapped P f (x ∷ xs) each = (each 0 x refl, each_mapped P f xs (λ k y is. each (suc k) y is))

mapped_long : {A B : Type 0} (f : A → B) (xs : List A) → length (map f xs) ≡ length xs
mapped_long f [] = refl
mapped_long f (x ∷ xs) = ap suc (mapped_long f xs)

mapped_at : {A : Type 0} (f : A → Instance) (xs : List A) (ys : Memory) (n : ℕ) (x : A) → slice_get xs n ≡ Some x → bytes_at (map f xs ++ ys) n ≡ (f x).bytes
mapped_at f [] ys n x is = absurd cc
mapped_at f (y ∷ xs) ys zero x is = ap (λ z. (f z).bytes) (same_Some y x is)
mapped_at f (y ∷ xs) ys (suc n) x is = mapped_at f xs ys n x is

module _ (u : UnitView) where
  abbrev IsProperInstance : Instance → Type 0
  IsProperInstance it = AreProperBytes u.model it.bytes

  proper_instances : (memory : Memory) → Each IsProperInstance memory → (i : ℕ) → AreProperBytes u.model (bytes_at memory i)
  proper_instances [] are i = tt
  proper_instances (it ∷ memory) are zero = are.0
  proper_instances (it ∷ memory) are (suc i) = proper_instances memory are.1 i

  -- ---- objects of static storage

  value_proper : (v : StaticValue) → IsProperValue u v → AreProperContents u.model (value_bytes u v)
  value_proper (static_value.Number n kind) is = scalar_bytes_proper u.model kind.bytes (integer n no_labels) tt
  value_proper static_value.Null is = pointer_bytes_proper u.model u.model.pointer null tt
  value_proper (static_value.Address base offset lo hi) is = pointer_bytes_proper u.model u.model.pointer (into (base_instance u base) offset lo hi) is

  stores_proper : (ss : List StaticStoreView) (bs : List Byte) → AreProperStores u ss → AreProperBytes u.model bs → AreProperBytes u.model (all_stored u ss bs)
  stores_proper [] bs are proper = proper
  stores_proper (SetValue offset v ∷ ss) bs are proper = stores_proper ss (refilled bs offset (value_bytes u v)) are.1 (refilled_proper u.model bs offset (value_bytes u v) proper (value_proper v are.0))
  stores_proper (SetText offset room text ∷ ss) bs are proper =
      let cs : List Content = characters text ++ number 0 no_labels ∷ [] in
      stores_proper ss (refilled bs offset (take room cs)) are.1 (refilled_proper u.model bs offset (take room cs) proper (each_taken (IsProper u.model) room cs (text_proper u.model text are.0)))

  static_proper : (o : StaticView) → WellTypedStatic u o → IsProperInstance (static_instance u o)
  static_proper o well_typed = stores_proper o.stores (all_of (number 0 no_labels) (typed_bytes u o.ctype)) well_typed.stores (all_proper u.model (number 0 no_labels) (typed_bytes u o.ctype) (omega arith))

  stores_long : (ss : List StaticStoreView) (bs : List Byte) → length (all_stored u ss bs) ≡ length bs
  stores_long [] bs = refl
  stores_long (SetValue offset v ∷ ss) bs = stores_long ss (refilled bs offset (value_bytes u v)) ∙ refilled_long offset bs (value_bytes u v)
  stores_long (SetText offset room text ∷ ss) bs =
      let cs : List Content = take room (characters text ++ number 0 no_labels ∷ []) in
      stores_long ss (refilled bs offset cs) ∙ refilled_long offset bs cs

  pub typed_long : (t : Ty) → length (typed_bytes u t) ≡ size_of u t
  typed_long t = blank_long u.model (leaves_of u.structs u.model.pointer t) 0 (size_of_type u.structs u.model.pointer t)

  static_long : (o : StaticView) → length (static_instance u o).bytes ≡ size_of u o.ctype
  static_long o = stores_long o.stores (all_of (number 0 no_labels) (typed_bytes u o.ctype)) ∙ (all_long (number 0 no_labels) (typed_bytes u o.ctype) ∙ typed_long o.ctype)

  -- ---- literals

  characters_proper : (cs : List Content) → AreProperContents u.model cs → AreProperBytes u.model (map character_byte cs)
  characters_proper [] are = tt
  characters_proper (c ∷ cs) are = (are.0, characters_proper cs are.1)

  literal_proper : (l : LiteralView) → WellTypedLiteral u l → IsProperInstance (literal_made l)
  literal_proper l well_typed = characters_proper (characters l.bytes ++ number 0 no_labels ∷ []) (text_proper u.model l.bytes well_typed.bytes)

  -- ---- memory

  pub start_long : length (start_memory u) ≡ length u.objects + length u.literals
  start_long = length-append (map (static_instance u) u.objects) (map literal_made u.literals) ∙ (ap (λ n. n + length (map literal_made u.literals)) (mapped_long (static_instance u) u.objects) ∙ ap (λ n. length u.objects + n) (mapped_long literal_made u.literals))

  pub start_proper : WellTypedUnit u → IsProperMemory u.model (start_memory u)
  start_proper well_typed = proper_memory u.model (start_memory u) (proper_instances (start_memory u) (each_both IsProperInstance (map (static_instance u) u.objects) (map literal_made u.literals) (each_mapped IsProperInstance (static_instance u) u.objects (λ n o is. static_proper o (well_typed.statics n o is))) (each_mapped IsProperInstance literal_made u.literals (λ n l is. literal_proper l (well_typed.literals n l is)))))

  pub start_has_room : StaticsHaveRoom u (start_memory u)
  start_has_room n o is =
      let e : bytes_at (start_memory u) n ≡ (static_instance u o).bytes = mapped_at (static_instance u) u.objects (map literal_made u.literals) n o is in
      let long : length (bytes_at (start_memory u) n) ≡ size_of u o.ctype = ap length e ∙ static_long o in
      omega (arith, long)
