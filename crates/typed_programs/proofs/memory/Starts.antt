-- The first memory of a unit whose initializers are typed is typed.
use Rattle.std.proofs.Common.{◌≡◌, inl, inr, ℕ, ◌+◌, ◌-◌, ◌<◌, ◌≤◌, ℤ, Bool, true, false, Option, Some, List, [], ◌∷◌, ◌++◌, length, take, refl, sym, ap, ◌∙◌, subst, arith, length-append}
use Rattle.std.specs.Prelude.{slice_get, map, ◌&&◌, int_le}
use Rattle.std.specs.List.{Contains}
use Rattle.std.proofs.lemmas.Bool.{cases_lt}
use Rattle.std.proofs.lemmas.List.{length-map, append_assoc, append-nil}
use Rattle.std.proofs.lemmas.List.Elements.{Contains-append_right}
use Rattle.std.proofs.lemmas.Option.{slice_get_within}
use Rattle.cc_base.specs.IntegerTypes.{least_of, greatest_of}
use Rattle.c_layout.specs.Types.{Ty, Int, Pointer, Array, Struct, Void}
use Rattle.c_layout.specs.CheckedUnits.{LocalView, StaticStoreView, SetValue, SetText, StaticView, LiteralView, UnitView}
use Rattle.c_layout.specs.declared.checked_tree.checked_units.StaticValue.TheVariants as static_value
use Rattle.memory_model.specs.Memory.Labels.{no_labels}
use Rattle.memory_model.specs.Memory.Bytes.{into, Content, number, Byte}
use Rattle.memory_model.specs.Memory.Instances.{automatic, Instance, Memory, bytes_of}
use Rattle.memory_model.specs.Effects.Worlds.{World, goes, world_of, done, drawn_in, drawn_from, drawn}
use Rattle.memory_model.specs.Effects.ObjectEffects.{fresh, all_of, characters}
use Rattle.memory_model.specs.Effects.ScalarBytes.{bits_in, refilled}
use Rattle.memory_model.specs.Effects.Touches.{storage_of, is_allocated}
use Rattle.memory_model.specs.Effects.UnitStarts.{base_instance, value_bytes, all_stored, typed_bytes, static_instance, character_byte, literal_made, start_memory, input, with_parameter, with_parameters, entry_parameters, world_before}
use Rattle.store_sound.proofs.operations.Reading.{behind_goes}
use Rattle.store_sound.proofs.operations.Slices.{get_left, get_right, get_map}
use Rattle.run_exact.specs.FirstStates.{input_bytes}
use Rattle.run_exact.proofs.FirstMemory.{get_mapped}
use Rattle.typed_programs.specs.Types.TypedStates.{AreDeclared, IsTypedMemory}
use Rattle.typed_programs.specs.Types.TypedPrograms.{object_type, text_type, first_types, IsTypedStore, HasTypedObjects}
use Rattle.typed_programs.specs.Types.EffectLaws.{StartsAreTyped}
use Rattle.typed_programs.proofs.memory.Objects.{all_typed}
use Rattle.typed_programs.proofs.memory.TypedBytes.{AreTypedBytes, typed_refilled, numbers_typed, pointer_typed, text_typed, text_plain}

module _ (u : UnitView) where
  -- ---- parameters stand behind the objects and literals

  drawn_same : (b : Bool) (n : ℤ) (w : World) (x : ℤ) (after : World) → drawn_in b n w ≡ goes x after → w ≡ after
  drawn_same true n w x after is = ap world_of is
  drawn_same false n w x after is = absurd (cc)

  drawn_memory : (w : World) (least most : ℤ) (draws : List ℤ) (x : ℤ) (after : World) → drawn_from w least most draws ≡ goes x after → after.memory ≡ w.memory
  drawn_memory w least most [] x after is = absurd (cc)
  drawn_memory w least most (n ∷ ns) x after is = ap (λ z. z.memory) (sym (drawn_same (int_le least n && int_le n most) n (record w { draws = ns }) x after is))

  grown_once : (t : Ty) (w : World) (x : Unit {0}) (after : World) → with_parameter u t w ≡ goes x after → (it : Instance) × (after.memory ≡ w.memory ++ it ∷ [])
  grown_once (Int kind) w x after is =
      let g = behind_goes (drawn w (least_of kind) (greatest_of kind)) (λ n w. done (input u kind n w)) x after is in
      let same = drawn_memory w (least_of kind) (greatest_of kind) w.draws g.0 g.1 g.2 in
      let it : Instance = fresh automatic (input_bytes u kind g.0) in
      (it, ap (λ z. (world_of z).memory) (sym g.3) ∙ ap (λ z. z ++ it ∷ []) same)
  grown_once (Pointer t) w x after is = absurd (cc)
  grown_once (Array t n) w x after is = absurd (cc)
  grown_once (Struct i) w x after is = absurd (cc)
  grown_once Void w x after is = absurd (cc)

  grown : (ls : List LocalView) (w : World) (x : Unit {0}) (after : World) → with_parameters u ls w ≡ goes x after → (more : Memory) × (after.memory ≡ w.memory ++ more)
  grown [] w x after is = ([], ap (λ z. (world_of z).memory) (sym is) ∙ sym (append-nil w.memory))
  grown (l ∷ ls) w x after is =
      let g = behind_goes (with_parameter u l.ctype w) (λ y w. with_parameters u ls w) x after is in
      let one = grown_once l.ctype w g.0 g.1 g.2 in
      let rest = grown ls g.1 x after g.3 in
      (one.0 ∷ rest.0, rest.1 ∙ (ap (λ z. z ++ rest.0) one.1 ∙ append_assoc w.memory (one.0 ∷ []) rest.0))

  -- ---- the bytes of an object

  first_of : {X : Type 0} (x : X) (xs : List X) → Contains (x ∷ xs) x
  first_of x xs = (0, omega arith, refl)

  module _ (outer : Ty) where
    value_typed : (offset : ℕ) (value : _) (bytes : List Byte) → IsTypedStore u outer (SetValue offset value) → AreTypedBytes u.structs u.model.pointer (first_types u) outer bytes → AreTypedBytes u.structs u.model.pointer (first_types u) outer (refilled bytes offset (value_bytes u value))
    value_typed offset (static_value.Number n kind) bytes is typed = typed_refilled u.structs u.model.pointer (first_types u) outer bytes offset (value_bytes u (static_value.Number n kind)) typed (numbers_typed u.structs u.model.pointer (first_types u) outer offset kind.bytes (bits_in kind.bytes n) no_labels)
    value_typed offset static_value.Null bytes is typed = typed_refilled u.structs u.model.pointer (first_types u) outer bytes offset (value_bytes u static_value.Null) typed (numbers_typed u.structs u.model.pointer (first_types u) outer offset u.model.pointer 0 no_labels)
    value_typed offset (static_value.Address b at lo hi) bytes is typed = typed_refilled u.structs u.model.pointer (first_types u) outer bytes offset (value_bytes u (static_value.Address b at lo hi)) typed (pointer_typed u.structs u.model.pointer (first_types u) outer offset u.model.pointer (into (base_instance u b) at lo hi) is)

    stored_typed : (stores : List StaticStoreView) (bytes : List Byte) → ((store : StaticStoreView) → Contains stores store → IsTypedStore u outer store) → AreTypedBytes u.structs u.model.pointer (first_types u) outer bytes → AreTypedBytes u.structs u.model.pointer (first_types u) outer (all_stored u stores bytes)
    stored_typed [] bytes are typed = typed
    stored_typed (SetValue offset value ∷ stores) bytes are typed =
        stored_typed stores (refilled bytes offset (value_bytes u value)) (λ store there. are store (Contains-append_right (SetValue offset value ∷ []) stores store there))
        (value_typed offset value bytes (are (SetValue offset value) (first_of (SetValue offset value) stores)) typed)
    stored_typed (SetText offset room text ∷ stores) bytes are typed =
        let cs : List Content = take room (characters text ++ number 0 no_labels ∷ []) in
        stored_typed stores (refilled bytes offset cs) (λ store there. are store (Contains-append_right (SetText offset room text ∷ []) stores store there))
        (typed_refilled u.structs u.model.pointer (first_types u) outer bytes offset cs typed (text_typed u.structs u.model.pointer (first_types u) outer offset room text))

  -- ---- instances that have a type

  record IsObject (instance : Option Instance) (outer : Ty) : Type 0 where
    number : ℕ
    object : StaticView
    among : slice_get u.objects number ≡ Some object
    ctype : object.ctype ≡ outer
    is : instance ≡ Some (static_instance u object)

  record IsLiteral (instance : Option Instance) : Type 0 where
    literal : LiteralView
    is : instance ≡ Some (literal_made literal)

  module _ (w : World) (more : Memory) (memory : w.memory ≡ start_memory u ++ more) where
    abbrev objects : Memory
    objects = map (static_instance u) u.objects

    abbrev literals : Memory
    literals = map literal_made u.literals

    lengths : (length (map object_type u.objects) ≡ length u.objects) × (length objects ≡ length u.objects) × (length (map (text_type u) u.literals) ≡ length u.literals) × (length literals ≡ length u.literals)
    lengths = (length-map u.objects object_type, length-map u.objects (static_instance u), length-map u.literals (text_type u), length-map u.literals literal_made)

    first_there : (i : ℕ) (outer : Ty) → first_types u i ≡ Some outer → i < length (start_memory u)
    first_there i outer is =
        let inside = slice_get_within (map object_type u.objects ++ map (text_type u) u.literals) i outer is in
        let a = length-append (map object_type u.objects) (map (text_type u) u.literals) in
        let b = length-append objects literals in
        let c = lengths.0 in
        let d = lengths.1 in
        let e = lengths.2 in
        let f = lengths.3 in
        omega (arith, inside, a, b, c, d, e, f)

    there : (i : ℕ) (outer : Ty) → first_types u i ≡ Some outer → slice_get w.memory i ≡ slice_get (start_memory u) i
    there i outer is = ap (λ z. slice_get z i) memory ∙ get_left (start_memory u) more i (first_there i outer is)

    of_object : (i : ℕ) (outer : Ty) → i < length u.objects → first_types u i ≡ Some outer → IsObject (slice_get w.memory i) outer
    of_object i outer inside is =
        let a = lengths.0 in
        let b = lengths.1 in
        let g = get_map object_type u.objects i outer (sym (get_left (map object_type u.objects) (map (text_type u) u.literals) i (omega (arith, inside, a))) ∙ is) in
        record {
          number = i;
          object = g.0;
          among = g.1;
          ctype = g.2;
          is = there i outer is ∙ (get_left objects literals i (omega (arith, inside, b)) ∙ get_mapped (static_instance u) u.objects i g.0 g.1);
        }

    of_literal : (i : ℕ) (outer : Ty) → length u.objects ≤ i → first_types u i ≡ Some outer → IsLiteral (slice_get w.memory i)
    of_literal i outer past is =
        let a = lengths.0 in
        let b = lengths.1 in
        let j : ℕ = i - length u.objects in
        let g = get_map (text_type u) u.literals j outer (sym (get_right (map object_type u.objects) (map (text_type u) u.literals) i j (omega (arith, past, a))) ∙ is) in
        record { literal = g.0; is = there i outer is ∙ (get_right objects literals i j (omega (arith, past, b)) ∙ get_mapped literal_made u.literals j g.0 g.1) }

    started_typed : HasTypedObjects u → IsTypedMemory u.structs u.model.pointer (first_types u) w.memory
    started_typed are i x outer t b p is here content byte = elim (cases_lt i (length u.objects)) [
      | inl inside ↦ (let o = of_object i outer inside is in
          let zeros : List Byte = all_of (number 0 no_labels) (typed_bytes u o.object.ctype) in
          stored_typed outer o.object.stores zeros (λ store listed. subst (λ z. IsTypedStore u z store) o.ctype (are o.number o.object store o.among listed)) (all_typed u.structs u.model.pointer (first_types u) outer (number 0 no_labels) (typed_bytes u o.object.ctype) tt)
          x t b p (sym (ap (λ z. slice_get (bytes_of z) x) o.is) ∙ here) content byte)
      | inr past ↦ (let l = of_literal i outer past is in
          let g = get_map character_byte (characters l.literal.bytes ++ number 0 no_labels ∷ []) x b (sym (ap (λ z. slice_get (bytes_of z) x) l.is) ∙ here) in
          text_plain l.literal.bytes x g.0 p 0 g.1 (ap (λ z. z.content) g.2 ∙ content))
    ]

    started_declared : AreDeclared (first_types u) w.memory
    started_declared i outer is = elim (cases_lt i (length u.objects)) [
      | inl inside ↦ ap (λ z. is_allocated (storage_of z)) (of_object i outer inside is).is
      | inr past ↦ ap (λ z. is_allocated (storage_of z)) (of_literal i outer past is).is
    ]

    started_there : (i : ℕ) (t : Ty) → first_types u i ≡ Some t → i < length w.memory
    started_there i t is =
        let inside = first_there i t is in
        let a = length-append (start_memory u) more in
        let b = ap length memory in
        omega (arith, inside, a, b)

pub starts : StartsAreTyped
starts u draws w x are is =
    let g = grown u (entry_parameters u) (world_before u draws) x w is in
    (started_typed u w g.0 g.1 are, started_there u w g.0 g.1, started_declared u w g.0 g.1)
