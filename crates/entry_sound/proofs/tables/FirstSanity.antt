-- The memory in which a run begins is sound.
use Rattle.std.proofs.Common.{◌≡◌, ℕ, suc, ◌+◌, ◌^◌, ◌<◌, ◌≤◌, Bool, true, false, Option, Some, None, List, [], ◌∷◌, ◌++◌, length, arith, subst, sym, refl, ap, ◌∙◌, ◌⊎◌, inl, inr}
use Rattle.std.specs.Prelude.{slice_get, map, nat_lt, pos, ◌≤ℤ◌, ◌==◌, ◌&&◌, ◌||◌}
use Rattle.std.specs.List.{list_all}
use Rattle.std.proofs.lemmas.Bool.{and_parts, eqb-true, cases_Bool}
use Rattle.std.proofs.lemmas.Int.{ints}
use Rattle.std.proofs.lemmas.List.{length-map, length-append}
use Rattle.std.proofs.lemmas.Option.{same_Some, slice_get_within}
use Rattle.cc_base.specs.IntegerTypes.{greatest_of}
use Rattle.cc_base.specs.declared.int_types.IntType.{IntType}
use Rattle.cc_base.specs.declared.limit_table.Limits.{Limits}
use Rattle.c_layout.specs.Types.{Ty, Int}
use Rattle.c_layout.specs.Layout.{size_of_type}
use Rattle.c_layout.specs.Leaves.{leaves_of}
use Rattle.c_layout.specs.Models.{is_model, short_fits, int_fits, long_fits, long_long_fits, pointer_fits}
use Rattle.c_layout.specs.StructViews.{StructView}
use Rattle.c_layout.specs.CheckedUnits.{UnitView, StaticStoreView, static_store_view}
use Rattle.c_layout.specs.declared.data_model.Model.{Model}
use Rattle.c_layout.specs.declared.leaf_lists.Class.TheVariants.{Char, Pointer}
use Rattle.c_layout.specs.declared.shapes.BaseInfo.{BaseInfo}
use Rattle.c_layout.specs.declared.shapes.BaseKind.{BaseKind}
use Rattle.c_layout.specs.declared.shapes.BaseKind.TheVariants.{Static, Automatic, Literal}
use Rattle.c_layout.specs.declared.shapes.ZeroPart.{ZeroPart}
use Rattle.c_layout.specs.declared.checked_tree.checked_units.StaticBase.{StaticBase}
use Rattle.c_layout.specs.declared.checked_tree.checked_units.StaticStore.{StaticStore}
use Rattle.c_layout.specs.declared.checked_tree.checked_units.StaticStore.TheVariants as one
use Rattle.c_layout.specs.declared.checked_tree.checked_units.StaticValue.{StaticValue}
use Rattle.c_layout.specs.declared.checked_tree.checked_units.StaticValue.TheVariants.{Number, Null, Address}
use Rattle.cfg.specs.StaticStarts.{has_base, fits_value, has_place_in, has_room_in, value_class, fits_store, fits_start, object_count}
use Rattle.cfg.specs.WellFormed.{is_well_formed}
use Rattle.cfg.specs.declared.programs.Flow.{Flow}
use Rattle.cfg.specs.declared.programs.InitialObject.{InitialObject}
use Rattle.cfg.specs.declared.programs.InitialValue.{InitialValue}
use Rattle.cfg.specs.declared.programs.InitialValue.TheVariants as initial_value
use Rattle.cfg.specs.declared.programs.ParameterInput.{ParameterInput}
use Rattle.lower_templates.specs.Views.ProgramViews as views
use Rattle.lower_templates.specs.Views.ProgramViews.{initial, flow_view, Stored, Spelled}
use Rattle.semantics.specs.CfgMachine.FlowStates.{ProgramState}
use Rattle.memory_model.specs.Memory.Labels.{Labels, no_labels, input_labels}
use Rattle.memory_model.specs.Memory.ScalarSizes.{class_bytes}
use Rattle.memory_model.specs.Memory.Bytes.{MachinePointer, into, Content, number, part, Tag, Byte}
use Rattle.memory_model.specs.Memory.Instances.{static, literal, automatic, allocated, live, Memory, Instance, bytes_of, bytes_at, byte_at, life_of, life_at}
use Rattle.memory_model.specs.Memory.Tags.{tag_of, tag_at}
use Rattle.memory_model.specs.Effects.ObjectEffects.{all_of, characters}
use Rattle.memory_model.specs.Effects.ScalarBytes.{bits_in}
use Rattle.memory_model.specs.Effects.UnitStarts.{base_instance, value_bytes, character_byte, typed_bytes}
use Rattle.store_monotone.specs.Operations.StoreLaws.{AreBytes}
use Rattle.store_sound.specs.Concretization.ValueMeaning.{Naming}
use Rattle.store_sound.specs.Concretization.SoundMemory.{storage_for, IsInstanceOf, IsWithin, IsNamed, IsContentIn, IsContentNamed, IsMemoryOf, AreEntered}
use Rattle.store_sound.proofs.operations.Slices.{get_take, get_there, get_map}
use Rattle.store_sound.proofs.operations.TagPlaces.{is_tagged}
use Rattle.store_sound.specs.Programs.Premises.{HasPremises}
use Rattle.store_sound.proofs.programs.ShapedBases.{all_at}
use Rattle.store_sound.proofs.programs.Sizes.{same_bytes}
use Rattle.store_sound.proofs.operations.StoreLeaves.{live_freed}
use Rattle.transfer_system.specs.System.RegularPrograms.{is_byte, spells_bytes, begins_with_bytes, has_initial_bytes}
use Rattle.store_cells.specs.ScalarTypes.{kind_of}
use Rattle.library_sound.specs.SoundSteps.{AreShort}
use Rattle.transfer_system.specs.StartRows.{static_class}
use Rattle.lower_objects.specs.Shapes.FirstZeros.{zero_part, zeros_within, zeros_of}
use Rattle.lower_objects.specs.Counts.SharedObjects.{literal_type}
use Rattle.lower_tables.specs.Bases.BaseTables.{known}
use Rattle.entry_sound.specs.Tables.TypedInitializers.{HasScalar, AreTypedStores}
use Rattle.entry_sound.specs.Tables.UnitStarts.{IsBaseOf, StartsAs}
use Rattle.entry_sound.proofs.memory.Positions.{IsObjectAt, IsLiteralAt}
use Rattle.entry_sound.proofs.memory.StartBytes.{IsNumberByte, numbers_at, parts_at, text_at, stored_long, zeros_long, AreHeldBytes, AreFine, AreFineStores, stored_held, typed_tags, zeros_held, input_long, input_at}
use Rattle.entry_sound.specs.Memory.FirstStates.{IsFirst}
use Rattle.entry_sound.proofs.tables.FirstRoles as roles
use Rattle.entry_sound.proofs.memory.WellStarted.{WellStarted, well_started, are_bytes, IsAimed, aimed}

static_allocated : static ≡ allocated → ⊥
static_allocated e = cc

literal_allocated : literal ≡ allocated → ⊥
literal_allocated e = cc

automatic_allocated : automatic ≡ allocated → ⊥
automatic_allocated e = cc

-- the one first zero of a literal
text_zeros : (structs : List StructView) (pointer : ℕ) (is_signed : Bool) (count : ℕ) → zeros_of structs pointer (literal_type is_signed count) ≡ zero_part 0 (count + 1) ∷ []
unfolding zeros_of
text_zeros structs pointer is_signed count =
    let z : length structs + 1 ≡ suc (length structs) = omega arith in
    ap (λ n. zeros_within n structs pointer (literal_type is_signed count) 0) z ∙ by_length (nat_lt 64 (count + 1)) refl
  where
    by_length : (b : Bool) → nat_lt 64 (count + 1) ≡ b → zeros_within (suc (length structs)) structs pointer (literal_type is_signed count) 0 ≡ zero_part 0 (count + 1) ∷ []
    by_length true is = rw is refl
    by_length false is = rw is refl

literal_long : (text : List ℕ) → length (map character_byte (characters text ++ number 0 no_labels ∷ [])) ≡ length text + 1
literal_long text =
    let a = length-map (characters text ++ number 0 no_labels ∷ []) character_byte in
    let b = length-append (characters text) (number 0 no_labels ∷ []) in
    let c = length-map text (λ x. number x no_labels) in
    omega (arith, a, b, c)

has_some : (o : Option ℕ) → has_base o ≡ true → o ≡ None → ⊥
has_some None h e = absurd (cc)
has_some (Some b) h e = cc

module _ (u : UnitView) (flow : Flow) (limits : Limits) (good : is_well_formed limits flow ≡ true) (texts : has_initial_bytes flow ≡ true) (p : HasPremises flow) (a : StartsAs u flow) (s : ProgramState) (f : IsFirst u (flow_view flow) s) where
  abbrev memory : Memory
  memory = roles.memory u flow a s f

  abbrev naming : Naming
  naming = roles.naming u flow a

  abbrev items : List InitialObject
  items = flow.initial.items

  well : WellStarted flow
  well = well_started limits flow good

  -- ---- sizes

  -- the instance of an initial object is as large as the object
  pub item_size : (k : ℕ) (x : InitialObject) → slice_get items k ≡ Some x → length (bytes_at memory k) ≡ x.size
  item_size k x e = by_place (roles.place u flow a k x e)
    where
      by_place : IsObjectAt u a.table k (initial x) ⊎ IsLiteralAt u a.table k (initial x) → length (bytes_at memory k) ≡ x.size
      by_place (inl h) = ap (λ z. length (bytes_of z)) (f.objects k h.object h.among) ∙ (stored_long u h.object.stores _ ∙ (zeros_long u h.object.ctype ∙ sym (ap (λ v. v.size) h.is)))
      by_place (inr h) =
          ap (λ z. length (bytes_of z)) (ap (slice_get memory) h.behind ∙ f.literals h.at h.literal h.among)
          ∙ (literal_long h.literal.bytes ∙ sym (ap (λ v. v.size) h.is))

  -- ---- what each instance has

  pub role_lives : (i : ℕ) (it : Instance) → roles.Role u flow a s f i it → it.life ≡ live
  role_lives i it (roles.an_object h) = ap (λ z. z.life) h.is
  role_lives i it (roles.a_literal h) = ap (λ z. z.life) h.is
  role_lives i it (roles.an_input h) = ap (λ z. z.life) h.is

  lives_by : (i : ℕ) → i < length memory → life_at memory i ≡ live
  lives_by i h = let g = get_there memory i h in ap life_of g.1 ∙ role_lives i g.0 (roles.role u flow a s f i g.0 g.1)

  pub named_lives : (i b : ℕ) → naming i ≡ Some b → life_at memory i ≡ live
  named_lives i b e = lives_by i (roles.named_made u flow a s f i b e)

  item_made : (k : ℕ) (x : InitialObject) → slice_get items k ≡ Some x → k < length memory
  item_made k x e = let w = slice_get_within items k x e in let m = roles.long u flow a in let l = f.long in omega (arith, w, m, l)

  pub item_lives : (k : ℕ) (x : InitialObject) → slice_get items k ≡ Some x → life_at memory k ≡ live
  item_lives k x e = lives_by k (item_made k x e)

  -- ---- pointers of initializers

  aimed_at : (based : Bool) (object : StaticBase) (at lo hi : ℕ) (h : IsAimed items based object at lo hi) → base_instance u object ≡ h.number
  aimed_at based object at lo hi h = ap (base_instance u) h.same ∙ roles.instance_is u flow a h.number h.item h.among

  aimed_within : (based : Bool) (object : StaticBase) (at lo hi : ℕ) → IsAimed items based object at lo hi → IsWithin memory (base_instance u object) at lo hi
  aimed_within based object at lo hi h = subst (λ i. IsWithin memory i at lo hi) (sym (aimed_at based object at lo hi h)) (record {
    made = item_made h.number h.item h.among;
    above = h.above;
    below = h.below;
    within = let w = h.within in let z = item_size h.number h.item h.among in omega (arith, w, z);
  })

  aimed_named : (based : Bool) (object : StaticBase) (at lo hi : ℕ) → IsAimed items based object at lo hi → based ≡ true → IsNamed naming memory (into (base_instance u object) at lo hi)
  aimed_named based object at lo hi h is alive none = has_some h.item.base (h.has is) (sym (roles.naming_item u flow a h.number h.item h.among) ∙ (sym (ap naming (aimed_at based object at lo hi h)) ∙ none))

  -- ---- contents

  -- a content may stand under a tag; in an object with a base what it points to has one
  abbrev Fits : Bool → Content → Option Tag → Type 0
  Fits based x tag = IsContentIn memory x tag × (based ≡ true → IsContentNamed naming memory x)

  number_fits : (based : Bool) (labels : Labels) (x : Content) (tag : Option Tag) → IsNumberByte labels x → Fits based x tag
  number_fits based labels x tag n = subst (λ z. Fits based z tag) (sym n.is) (n.small, λ is. tt)

  pointer_bytes_are : u.model.pointer ≡ class_bytes u.model Pointer
  pointer_bytes_are = same_bytes u.model Pointer (ap is_model a.model ∙ well.model)

  fine_value : (t : Ty) (based : Bool) (offset : ℕ) (v : StaticValue) → fits_value flow.model items (object_count items) based v ≡ true → HasScalar u t (static_class v).0 offset → AreFine u (typed_tags u t) (Fits based) offset (value_bytes u v)
  fine_value t based offset (Number n kind) fits has k x e = number_fits based no_labels x (typed_tags u t (offset + k)) (numbers_at kind.bytes (bits_in kind.bytes n) no_labels k x e)
  fine_value t based offset Null fits has k x e = number_fits based no_labels x (typed_tags u t (offset + k)) (numbers_at u.model.pointer 0 no_labels k x e)
  fine_value t based offset (Address object at lo hi) fits has k x e =
      let aim = aimed items (object_count items) based object at lo hi fits in
      let q : MachinePointer = into (base_instance u object) at lo hi in
      let r = parts_at q 0 u.model.pointer k x e in
      let z : 0 + k ≡ k = omega arith in
      let few = r.1 in
      let size = pointer_bytes_are in
      let is : x ≡ part q k = r.0 ∙ ap (part q) z in
      subst (λ y. Fits based y (typed_tags u t (offset + k))) (sym is)
      ((aimed_within based object at lo hi aim, has.tags k (omega (arith, few, size))), λ based_is. aimed_named based object at lo hi aim based_is)

  fine_stores : (t : Ty) (base : Option ℕ) (ss : List StaticStore) → list_all (fits_store flow.model flow.bases.items items (object_count items) base) ss ≡ true → list_all spells_bytes ss ≡ true → AreTypedStores u t (map static_store_view ss)
      → AreFineStores u (typed_tags u t) (Fits (has_base base)) (map static_store_view ss)
  fine_stores t base [] fits bytes typed = tt
  fine_stores t base (one.Value offset v ∷ ss) fits bytes typed =
      let g = and_parts (fits_value flow.model items (object_count items) (has_base base) v && has_place_in flow.bases.items base (value_class v) offset) (list_all (fits_store flow.model flow.bases.items items (object_count items) base) ss) fits in
      let h = and_parts (fits_value flow.model items (object_count items) (has_base base) v) (has_place_in flow.bases.items base (value_class v) offset) g.0 in
      (fine_value t (has_base base) offset v h.0 typed.0.1, fine_stores t base ss g.1 bytes typed.1)
  fine_stores t base (one.Spell offset room text ∷ ss) fits bytes typed =
      let g = and_parts (has_room_in flow.bases.items base offset room) (list_all (fits_store flow.model flow.bases.items items (object_count items) base) ss) fits in
      let h = and_parts (list_all is_byte text) (list_all spells_bytes ss) bytes in
      (λ k x e. number_fits (has_base base) no_labels x (typed_tags u t (offset + k)) (text_at text (are_bytes text h.0) k x (get_take room (characters text ++ number 0 no_labels ∷ []) k x e).1), fine_stores t base ss g.1 h.1 typed.1)

  -- the stores of an object's initializer
  pub record HasStores (t : Ty) (stores : List StaticStoreView) (base : Option ℕ) (size : ℕ) (value : InitialValue) : Type 0 where
    pub list : List StaticStore
    pub same : map static_store_view list ≡ stores
    pub fits : list_all (fits_store flow.model flow.bases.items items (object_count items) base) list ≡ true
    pub bytes : list_all spells_bytes list ≡ true
    pub typed : AreTypedStores u t (map static_store_view list)

  has_stores : (t : Ty) (stores : List StaticStoreView) (base : Option ℕ) (size : ℕ) (value : InitialValue) → views.bytes value ≡ Stored stores → fits_start flow.model flow.bases.items items (object_count items) base size value ≡ true → begins_with_bytes value ≡ true → AreTypedStores u t stores → HasStores t stores base size value
  has_stores t stores base size (initial_value.Stores ss) is fits bytes typed =
      let same : map static_store_view ss.items ≡ stores = cc in
      record { list = ss.items; same = same; fits = fits; bytes = bytes; typed = subst (AreTypedStores u t) (sym same) typed }
  has_stores t stores base size (initial_value.Literal text) is fits bytes typed = absurd (cc)

  object_stores : (k : ℕ) (x : InitialObject) (h : IsObjectAt u a.table k (initial x)) → slice_get items k ≡ Some x → HasStores h.object.ctype h.object.stores x.base x.size x.value
  object_stores k x h e = has_stores h.object.ctype h.object.stores x.base x.size x.value (ap (λ v. v.first) h.is) (well.starts k x e) (all_at (λ y. begins_with_bytes y.value) items k x texts e) (a.typed k h.object h.among)

  -- the base of the instance, where it has one
  abbrev base_at : ℕ → Option ℕ
  base_at i = naming i

  -- each byte of an instance is as it may be
  pub record IsSane (i : ℕ) (it : Instance) : Type 0 where
    pub tags : (x : ℕ) (b : Byte) (tag : Tag) → slice_get it.bytes x ≡ Some b → b.tag ≡ Some tag → tag.at < class_bytes u.model tag.class
    pub contents : (x : ℕ) (b : Byte) → slice_get it.bytes x ≡ Some b → IsContentIn memory b.content b.tag
    pub named : (base x : ℕ) (b : Byte) → naming i ≡ Some base → slice_get it.bytes x ≡ Some b → IsContentNamed naming memory b.content
    pub small : length it.bytes ≤ 2 ^ 30

  typed_small : (t : Ty) (x : ℕ) (b : Byte) (tag : Tag) → b.tag ≡ typed_tags u t x → b.tag ≡ Some tag → tag.at < class_bytes u.model tag.class
  typed_small t x b tag is e = let r = is_tagged u.model (leaves_of u.structs u.model.pointer t) x tag (sym is ∙ e) in subst (λ z. tag.at < class_bytes u.model z) (sym r.class) r.owned.small

  based_is : (o : Option ℕ) (b : ℕ) → o ≡ Some b → has_base o ≡ true
  based_is o b e = ap has_base e

  pub object_held : (i : ℕ) (it : Instance) (h : roles.IsObject u flow a s f i it) → AreHeldBytes u (typed_tags u h.place.object.ctype) (Fits (has_base h.item.base)) it.bytes
  object_held i it h x b e =
      let t : Ty = h.place.object.ctype in
      let st = object_stores i h.item h.place h.among in
      let fine = subst (AreFineStores u (typed_tags u t) (Fits (has_base h.item.base))) st.same (fine_stores t h.item.base st.list st.fits st.bytes st.typed) in
      stored_held u (typed_tags u t) (Fits (has_base h.item.base)) h.place.object.stores (all_of (number 0 no_labels) (typed_bytes u t)) fine (zeros_held u t (Fits (has_base h.item.base)) (λ tag. (omega arith, λ is. tt))) x b (sym (ap (λ z. slice_get z.bytes x) h.is) ∙ e)

  object_sane : (i : ℕ) (it : Instance) → roles.IsObject u flow a s f i it → IsSane i it
  object_sane i it h = record {
    tags = λ x b tag e is. typed_small h.place.object.ctype x b tag (object_held i it h x b e).tag is;
    contents = λ x b e. subst (IsContentIn memory b.content) (sym (object_held i it h x b e).tag) (object_held i it h x b e).content.0;
    named = λ base x b is e. (object_held i it h x b e).content.1 (based_is h.item.base base (sym (roles.naming_item u flow a i h.item h.among) ∙ is));
    small =
        let z = item_size i h.item h.among in
        let w = well.sizes i h.item h.among in
        let y = ap (λ o. length (bytes_of o)) (f.objects i h.place.object h.place.among ∙ ap Some (sym h.is)) in
        omega (arith, z, w, y);
  }

  literal_text : (text : List ℕ) (value : InitialValue) → views.bytes value ≡ Spelled text → begins_with_bytes value ≡ true → AreBytes text
  literal_text text (initial_value.Stores ss) is bytes = absurd (cc)
  literal_text text (initial_value.Literal cs) is bytes = let same : cs ≡ text = cc in subst AreBytes same (are_bytes cs bytes)

  pub literal_bytes : (k : ℕ) (x : InitialObject) (h : IsLiteralAt u a.table k (initial x)) → slice_get items k ≡ Some x → AreBytes h.literal.bytes
  literal_bytes k x h e = literal_text h.literal.bytes x.value (ap (λ v. v.first) h.is) (all_at (λ y. begins_with_bytes y.value) items k x texts e)

  -- a byte of a literal
  literal_byte : (text : List ℕ) → AreBytes text → (x : ℕ) (b : Byte) → slice_get (map character_byte (characters text ++ number 0 no_labels ∷ [])) x ≡ Some b → (b.tag ≡ tag_of Char 0) × IsNumberByte no_labels b.content
  literal_byte text small x b e =
      let g = get_map character_byte (characters text ++ number 0 no_labels ∷ []) x b e in
      (sym (ap (λ z. z.tag) g.2), subst (IsNumberByte no_labels) (ap (λ z. z.content) g.2) (text_at text small x g.0 g.1))

  literal_sane : (i : ℕ) (it : Instance) → roles.IsLiteral u flow a s f i it → IsSane i it
  literal_sane i it h =
      let small = literal_bytes i h.item h.place h.among in
      let each : (x : ℕ) (b : Byte) → slice_get it.bytes x ≡ Some b → (b.tag ≡ tag_of Char 0) × IsNumberByte no_labels b.content = λ x b e. literal_byte h.place.literal.bytes small x b (sym (ap (λ z. slice_get z.bytes x) h.is) ∙ e) in
      record {
        tags = λ x b tag e is. char_small tag (sym (each x b e).0 ∙ is);
        contents = λ x b e. (number_fits false no_labels b.content b.tag (each x b e).1).0;
        named = λ base x b is e. (number_fits true no_labels b.content b.tag (each x b e).1).1 refl;
        small =
            let z = item_size i h.item h.among in
            let w = well.sizes i h.item h.among in
            let y = ap (λ o. length (bytes_of o)) (ap (slice_get memory) h.place.behind ∙ (f.literals h.place.at h.place.literal h.place.among ∙ ap Some (sym h.is))) in
            omega (arith, z, w, y);
      }
    where
      char_small : (tag : Tag) → tag_of Char 0 ≡ Some tag → tag.at < class_bytes u.model tag.class
      char_small tag e = subst (λ z. z.at < class_bytes u.model z.class) (same_Some (record { class = Char; at = 0 }) tag e) (omega arith)

  input_size : (j : ℕ) (q : ParameterInput) → slice_get flow.parameters.items j ≡ Some q → q.kind.bytes ≤ 2 ^ 30
  input_size j q e = let b = a.inputs.bases j q e in let z = b.sizes in let w = p.sized q.base b.info b.among in omega (arith, z, w)

  input_sane : (i : ℕ) (it : Instance) → roles.IsTakenInput u flow a s f i it → IsSane i it
  input_sane i it h =
      let kind : IntType = h.parameter.kind in
      let each : (x : ℕ) (b : Byte) → slice_get it.bytes x ≡ Some b → (b.tag ≡ typed_tags u (Int kind) x) × IsNumberByte (input_labels kind) b.content = λ x b e. input_at u kind h.value x b (sym (ap (λ z. slice_get z.bytes x) h.is) ∙ e) in
      record {
        tags = λ x b tag e is. typed_small (Int kind) x b tag (each x b e).0 is;
        contents = λ x b e. (number_fits false (input_labels kind) b.content b.tag (each x b e).1).0;
        named = λ base x b is e. (number_fits true (input_labels kind) b.content b.tag (each x b e).1).1 refl;
        small = let z = ap (λ o. length o.bytes) h.is in let w = input_long u kind h.value in let y = input_size h.at h.parameter h.among in omega (arith, z, w, y);
      }

  role_sane : (i : ℕ) (it : Instance) → roles.Role u flow a s f i it → IsSane i it
  role_sane i it (roles.an_object h) = object_sane i it h
  role_sane i it (roles.a_literal h) = literal_sane i it h
  role_sane i it (roles.an_input h) = input_sane i it h

  sane_at : (i : ℕ) (it : Instance) → slice_get memory i ≡ Some it → IsSane i it
  sane_at i it e = role_sane i it (roles.role u flow a s f i it e)

  -- ---- the memory

  record HasByte (i offset : ℕ) (b : Byte) : Type 0 where
    it : Instance
    there : slice_get memory i ≡ Some it
    byte : slice_get it.bytes offset ≡ Some b

  has_byte : (i offset : ℕ) (b : Byte) → byte_at memory i offset ≡ Some b → HasByte i offset b
  unfolding byte_at
  has_byte i offset b e = by_instance (slice_get memory i) refl
    where
      by_instance : (o : Option Instance) → slice_get memory i ≡ o → HasByte i offset b
      by_instance None is = absurd (no_byte (sym (ap (λ z. slice_get (bytes_of z) offset) is) ∙ e))
        where
          no_byte : slice_get (bytes_of None) offset ≡ Some b → ⊥
          no_byte h = cc
      by_instance (Some it) is = record { it = it; there = is; byte = sym (ap (λ z. slice_get (bytes_of z) offset) is) ∙ e }

  small_at : (i : ℕ) → length (bytes_at memory i) ≤ 2 ^ 30
  small_at i = by_instance (slice_get memory i) refl
    where
      by_instance : (o : Option Instance) → slice_get memory i ≡ o → length (bytes_at memory i) ≤ 2 ^ 30
      by_instance None is = let z = ap (λ o. length (bytes_of o)) is in omega (arith, z)
      by_instance (Some it) is = let z = ap (λ o. length (bytes_of o)) is in let w = (sane_at i it is).small in omega (arith, z, w)

  -- the base of what has one
  pub data BaseRole (b : ℕ) : Type 0 where
    of_static : (t : Ty) → IsBaseOf u flow.bases.items Static t b → BaseRole b
    of_literal : (t : Ty) → IsBaseOf u flow.bases.items Literal t b → BaseRole b
    of_automatic : (t : Ty) → IsBaseOf u flow.bases.items Automatic t b → BaseRole b

  base_role : (i b : ℕ) → naming i ≡ Some b → BaseRole b
  base_role i b e = elim (roles.named_is u flow a i b e) [
    | inl h ↦ elim (roles.item_base u flow a i b h.object h.base (roles.place u flow a i h.object h.among)) [
      | inl g ↦ of_static g.0 g.1
      | inr g ↦ of_literal g.0 g.1
    ]
    | inr h ↦ of_automatic (Int h.parameter.kind) (subst (IsBaseOf u flow.bases.items Automatic (Int h.parameter.kind)) h.base (a.inputs.bases h.at h.parameter h.among))
  ]

  base_few : (b : ℕ) → BaseRole b → b < length flow.bases.items
  base_few b (of_static t g) = slice_get_within flow.bases.items b g.info g.among
  base_few b (of_literal t g) = slice_get_within flow.bases.items b g.info g.among
  base_few b (of_automatic t g) = slice_get_within flow.bases.items b g.info g.among

  info_is : (b : ℕ) (kind : BaseKind) (t : Ty) (g : IsBaseOf u flow.bases.items kind t b) (base : BaseInfo) → slice_get flow.bases.items b ≡ Some base → g.info ≡ base
  info_is b kind t g base e = same_Some g.info base (sym g.among ∙ e)

  kind_is : (b : ℕ) (kind : BaseKind) (t : Ty) → IsBaseOf u flow.bases.items kind t b → (base : BaseInfo) → slice_get flow.bases.items b ≡ Some base → base.kind ≡ kind
  kind_is b kind t g base e = sym (ap (λ z. z.kind) (info_is b kind t g base e)) ∙ g.kinds

  -- what has a base is none of an allocation
  no_allocation : (b : ℕ) (base : BaseInfo) → slice_get flow.bases.items b ≡ Some base → BaseRole b → storage_for base.kind ≡ allocated → ⊥
  no_allocation b base e (of_static t g) is = static_allocated (sym (ap storage_for (kind_is b Static t g base e)) ∙ is)
  no_allocation b base e (of_literal t g) is = literal_allocated (sym (ap storage_for (kind_is b Literal t g base e)) ∙ is)
  no_allocation b base e (of_automatic t g) is = automatic_allocated (sym (ap storage_for (kind_is b Automatic t g base e)) ∙ is)

  -- the tags of an object of the base's type
  tags_are : (b : ℕ) (kind : BaseKind) (t : Ty) → IsBaseOf u flow.bases.items kind t b → (base : BaseInfo) → slice_get flow.bases.items b ≡ Some base → (x : ℕ) → typed_tags u t x ≡ tag_at flow.model base.shape.cells x
  tags_are b kind t g base e x = ap (λ z. tag_at u.model z.cells x) (sym g.shapes ∙ ap (λ z. z.shape) (info_is b kind t g base e)) ∙ ap (λ m. tag_at m base.shape.cells x) a.model

  size_is : (b : ℕ) (kind : BaseKind) (t : Ty) → IsBaseOf u flow.bases.items kind t b → (base : BaseInfo) → slice_get flow.bases.items b ≡ Some base → size_of_type u.structs u.model.pointer t ≡ base.size
  size_is b kind t g base e = sym g.sizes ∙ ap (λ z. z.size) (info_is b kind t g base e)

  -- an object of a literal's type is characters
  pub literal_tags : (b : ℕ) (length_of : ℕ) (g : IsBaseOf u flow.bases.items Literal (literal_type u.model.char_signed length_of) b) → (x : ℕ) → x < length_of + 1 → tag_at flow.model g.info.shape.cells x ≡ tag_of Char 0
  literal_tags b length_of g x h =
      let part : ZeroPart = zero_part 0 (length_of + 1) in
      let zeros : slice_get g.info.shape.zeros 0 ≡ Some part = ap (λ z. slice_get z 0) (ap (λ z. z.zeros) g.shapes ∙ text_zeros u.structs u.model.pointer u.model.char_signed length_of) in
      let t = (p.laid.texts b g.info g.among).texts (ap (λ z. z.heap) g.shapes) 0 part zeros in
      let size : length_of + 1 ≡ t.0 = same_Some (length_of + 1) t.0 t.1 in
      t.2 x (omega arith) (omega (arith, h, size))

  object_instance : (i b : ℕ) (base : BaseInfo) (it : Instance) → naming i ≡ Some b → slice_get flow.bases.items b ≡ Some base → slice_get memory i ≡ Some it → roles.IsObject u flow a s f i it → IsInstanceOf flow.model base it
  object_instance i b base it named e at h =
      let t : Ty = h.place.object.ctype in
      let has : known a.table.objects i ≡ Some b = sym (ap (λ v. v.base) h.place.is) ∙ (sym (roles.naming_item u flow a i h.item h.among) ∙ named) in
      let g = a.shared.objects i b h.place.object h.place.among has in
      record {
        storage = ap (λ z. z.storage) h.is ∙ ap storage_for (sym (kind_is b Static t g base e));
        size = λ declared. ap (λ z. length z.bytes) h.is ∙ (stored_long u h.place.object.stores _ ∙ (zeros_long u t ∙ size_is b Static t g base e));
        tags = λ declared x y there. (object_held i it h x y there).tag ∙ tags_are b Static t g base e x;
      }

  literal_instance : (i b : ℕ) (base : BaseInfo) (it : Instance) → naming i ≡ Some b → slice_get flow.bases.items b ≡ Some base → slice_get memory i ≡ Some it → roles.IsLiteral u flow a s f i it → IsInstanceOf flow.model base it
  literal_instance i b base it named e at h =
      let t : Ty = literal_type u.model.char_signed (length h.place.literal.bytes) in
      let has : known a.table.literals h.place.at ≡ Some b = sym (ap (λ v. v.base) h.place.is) ∙ (sym (roles.naming_item u flow a i h.item h.among) ∙ named) in
      let g = a.shared.literals h.place.at b h.place.literal h.place.among has in
      let small = literal_bytes i h.item h.place h.among in
      let long : length it.bytes ≡ length h.place.literal.bytes + 1 = ap (λ z. length z.bytes) h.is ∙ literal_long h.place.literal.bytes in
      record {
        storage = ap (λ z. z.storage) h.is ∙ ap storage_for (sym (kind_is b Literal t g base e));
        size = λ declared. let z = size_is b Literal t g base e in omega (arith, long, z);
        tags = λ declared x y there.
            let within = slice_get_within it.bytes x y there in
            (literal_byte h.place.literal.bytes small x y (sym (ap (λ z. slice_get z.bytes x) h.is) ∙ there)).0
            ∙ sym (subst (λ z. tag_at flow.model z.shape.cells x ≡ tag_of Char 0) (info_is b Literal t g base e) (literal_tags b (length h.place.literal.bytes) g x (omega (arith, within, long))));
      }

  input_instance : (i b : ℕ) (base : BaseInfo) (it : Instance) → naming i ≡ Some b → slice_get flow.bases.items b ≡ Some base → slice_get memory i ≡ Some it → roles.IsTakenInput u flow a s f i it → IsInstanceOf flow.model base it
  input_instance i b base it named e at h =
      let kind : IntType = h.parameter.kind in
      let is : h.parameter.base ≡ b = same_Some h.parameter.base b (sym (roles.naming_parameter u flow a h.at h.parameter h.among) ∙ (sym (ap naming h.behind) ∙ named)) in
      let g = subst (IsBaseOf u flow.bases.items Automatic (Int kind)) is (a.inputs.bases h.at h.parameter h.among) in
      record {
        storage = ap (λ z. z.storage) h.is ∙ ap storage_for (sym (kind_is b Automatic (Int kind) g base e));
        size = λ declared. ap (λ z. length z.bytes) h.is ∙ (input_long u kind h.value ∙ size_is b Automatic (Int kind) g base e);
        tags = λ declared x y there. (input_at u kind h.value x y (sym (ap (λ z. slice_get z.bytes x) h.is) ∙ there)).0 ∙ tags_are b Automatic (Int kind) g base e x;
      }

  role_instance : (i b : ℕ) (base : BaseInfo) (it : Instance) → naming i ≡ Some b → slice_get flow.bases.items b ≡ Some base → slice_get memory i ≡ Some it → roles.Role u flow a s f i it → IsInstanceOf flow.model base it
  role_instance i b base it named e at (roles.an_object h) = object_instance i b base it named e at h
  role_instance i b base it named e at (roles.a_literal h) = literal_instance i b base it named e at h
  role_instance i b base it named e at (roles.an_input h) = input_instance i b base it named e at h

  -- a base names one instance
  pub one_instance : (i j b : ℕ) → naming i ≡ Some b → naming j ≡ Some b → i ≡ j
  one_instance i j b at there = elim (roles.named_is u flow a i b at) [
    | inl g ↦ elim (roles.named_is u flow a j b there) [
      | inl h ↦ roles.own_items u flow a i j b g.object h.object g.among h.among g.base h.base
      | inr h ↦ absurd (roles.item_parameter u flow a i h.at b g.object h.parameter g.among g.base h.among h.base)
    ]
    | inr g ↦ elim (roles.named_is u flow a j b there) [
      | inl h ↦ absurd (roles.item_parameter u flow a j g.at b h.object g.parameter h.among h.base g.among g.base)
      | inr h ↦ (let same = a.inputs.own g.at h.at g.parameter h.parameter g.among h.among (g.base ∙ sym h.base) in let y = g.behind in let z = h.behind in omega (arith, same, y, z))
    ]
  ]

  pub first_sane : IsMemoryOf flow.model flow.bases.items naming memory
  first_sane = record {
    one = λ i j b base e older at there alive also. one_instance i j b at there;
    few = λ i b e. base_few b (base_role i b e);
    made = λ i b e. roles.named_made u flow a s f i b e;
    instances = λ i b base it named e at. role_instance i b base it named e at (roles.role u flow a s f i it at);
    freed_rightly = λ i it at gone. absurd (live_freed (sym (role_lives i it (roles.role u flow a s f i it at)) ∙ gone));
    small = λ i. let z = small_at i in omega (arith, z);
    bytes = λ i o b e. let h = has_byte i o b e in (sane_at i h.it h.there).contents o b h.byte;
    named = λ i base o b named e. let h = has_byte i o b e in (sane_at i h.it h.there).named base o b named h.byte;
    tags = λ i o b tag e is. let h = has_byte i o b e in subst (λ m. tag.at < class_bytes m tag.class) a.model ((sane_at i h.it h.there).tags o b tag h.byte is);
  }

  pub first_entered : AreEntered flow.bases.items naming memory (roles.entered u flow a)
  first_entered = record {
    sole = λ b i base e automatic named alive. elim (roles.named_is u flow a i b named) [
      | inl h ↦ roles.entered_item u flow a i b h.object h.among h.base
      | inr h ↦ subst (λ z. roles.entered u flow a z ≡ Some i) h.base (roles.entered_parameter u flow a h.at h.parameter h.among ∙ ap Some (sym h.behind))
    ];
    alive = λ b i e. named_lives i b (roles.entered_named u flow a b i e);
    named = λ b i e. roles.entered_named u flow a b i e;
    objects = λ b i base e there is. no_allocation b base e (base_role i b (roles.entered_named u flow a b i there)) is;
  }

  -- the size of pointers of the model
  span : ℕ
  span = flow.model.pointer

  pointer_sized : (flow.model.pointer ≡ 4) ⊎ (flow.model.pointer ≡ 8)
  pointer_sized =
      let m : Model = flow.model in
      let g = and_parts (short_fits m.short) (int_fits m.int && (long_fits m.long && (long_long_fits m.long_long && pointer_fits m.int m.long m.long_long m.pointer))) well.model in
      let c = and_parts (int_fits m.int) (long_fits m.long && (long_long_fits m.long_long && pointer_fits m.int m.long m.long_long m.pointer)) g.1 in
      let d = and_parts (long_fits m.long) (long_long_fits m.long_long && pointer_fits m.int m.long m.long_long m.pointer) c.1 in
      let e = and_parts (long_long_fits m.long_long) (pointer_fits m.int m.long m.long_long m.pointer) d.1 in
      let h = and_parts (m.pointer == 4 || m.pointer == 8) ((m.pointer == m.int || m.pointer == m.long) || m.pointer == m.long_long) e.1 in
      elim (cases_Bool (m.pointer == 4)) [
        | inl k ↦ inl (eqb-true m.pointer 4 k)
        | inr k ↦ (let n : (m.pointer == 8) ≡ true = rw k at h.0 in inr (eqb-true m.pointer 8 n))
      ]

  greatest_difference : pos (2 ^ 30) ≤ℤ greatest_of (kind_of flow.model Pointer true)
  greatest_difference = elim pointer_sized [
    | inl e ↦ rw e (omega (arith, ints))
    | inr e ↦ rw e (omega (arith, ints))
  ]

  pub first_short : AreShort flow.model memory
  first_short i = let z = small_at i in let d = greatest_difference in omega (arith, ints, z, d)
