-- Runs begin with the initial objects and the parameters of the entry, as the row of the entry has them.
use Rattle.std.proofs.Common.{◌≡◌, ℕ, suc, ◌+◌, true, Option, Some, None, List, [], ◌∷◌, ◌++◌, length, arith, subst, sym, refl, ap, ◌∙◌, inl, inr}
use Rattle.std.specs.Prelude.{slice_get, map, ◌==◌, ◌&&◌}
use Rattle.std.specs.List.{list_all}
use Rattle.std.proofs.lemmas.Bool.{and_parts, eqb-true}
use Rattle.std.proofs.lemmas.Option.{same_Some}
use Rattle.cc_base.specs.declared.limit_table.Limits.{Limits}
use Rattle.cc_base.specs.declared.int_types.IntType.{IntType}
use Rattle.c_layout.specs.Types.{Ty, Int}
use Rattle.c_layout.specs.Leaves.{class_of, leaves_of}
use Rattle.c_layout.specs.StructViews.{StructView}
use Rattle.c_layout.specs.CheckedUnits.{UnitView, static_store_view}
use Rattle.c_layout.specs.declared.shapes.BaseInfo.{BaseInfo}
use Rattle.c_layout.specs.declared.shapes.BaseKind.TheVariants.{Static, Literal}
use Rattle.c_layout.specs.declared.checked_tree.checked_units.StaticBase.{StaticBase}
use Rattle.c_layout.specs.declared.checked_tree.checked_units.StaticStore.{StaticStore}
use Rattle.c_layout.specs.declared.checked_tree.checked_units.StaticStore.TheVariants as one
use Rattle.c_layout.specs.declared.checked_tree.checked_units.StaticValue.{StaticValue}
use Rattle.c_layout.specs.declared.checked_tree.checked_units.StaticValue.TheVariants.{Number, Null, Address}
use Rattle.cfg.specs.BaseShapes.{has_room}
use Rattle.cfg.specs.StaticStarts.{has_base, fits_value, has_place_in, has_room_in, value_class, fits_store, fits_start, has_size, has_size_of, object_count}
use Rattle.cfg.specs.WellFormed.{is_well_formed}
use Rattle.cfg.specs.declared.programs.Flow.{Flow}
use Rattle.cfg.specs.declared.programs.InitialObject.{InitialObject}
use Rattle.cfg.specs.declared.programs.InitialValue.{InitialValue}
use Rattle.cfg.specs.declared.programs.InitialValue.TheVariants as initial_value
use Rattle.cfg.specs.declared.programs.ParameterInput.{ParameterInput}
use Rattle.lower_templates.specs.Views.ProgramViews as views
use Rattle.lower_templates.specs.Views.ProgramViews.{initial, flow_view, Stored, Spelled}
use Rattle.semantics.specs.CfgMachine.FlowStates.{ProgramState}
use Rattle.semantics.specs.CfgMachine.FlowStarts.{Names}
use Rattle.lower_objects.specs.Shapes.FirstZeros.{zeros_of}
use Rattle.lower_objects.specs.Counts.SharedObjects.{literal_type}
use Rattle.transfer_system.specs.StartRows.{static_class, with_size, base_in}
use Rattle.memory_model.specs.Memory.Labels.{no_labels}
use Rattle.memory_model.specs.Memory.Bytes.{number}
use Rattle.memory_model.specs.Memory.Instances.{live, Memory, bytes_of, bytes_at, life_at}
use Rattle.memory_model.specs.Memory.ScalarSizes.{class_bytes}
use Rattle.memory_model.specs.Memory.Tags.{tag_at}
use Rattle.memory_model.specs.Effects.ObjectEffects.{all_of, characters}
use Rattle.memory_model.specs.Effects.UnitStarts.{base_instance, static_instance, all_stored, character_byte}
use Rattle.store_monotone.specs.Operations.StoreLaws.{AreBytes}
use Rattle.store_sound.specs.Concretization.ValueMeaning.{Naming}
use Rattle.store_sound.specs.Programs.Premises.{HasPremises}
use Rattle.store_sound.proofs.programs.ShapedBases.{all_at}
use Rattle.transfer_system.specs.System.RegularPrograms.{is_byte, spells_bytes, begins_with_bytes, has_initial_bytes}
use Rattle.entry_sound.specs.Cells.StaticObjects.{IsTarget, IsValueOf, AreStoresOf}
use Rattle.entry_sound.specs.Starts.StartedRows.{HasStart, IsBegun, IsTaken, IsBeginning, IsStartOf}
use Rattle.entry_sound.proofs.starts.StaticBytes.{bytes_are_stored}
use Rattle.entry_sound.specs.Tables.TypedInitializers.{IsTypedValue, type_tag, AreTypedStores}
use Rattle.entry_sound.specs.Tables.UnitStarts.{IsBaseOf, StartsAs}
use Rattle.entry_sound.specs.Tables.Beginnings.{RunsBegin}
use Rattle.entry_sound.proofs.memory.Positions.{base_of, IsObjectAt, IsLiteralAt}
use Rattle.entry_sound.proofs.memory.StartBytes.{input_at}
use Rattle.entry_sound.specs.Memory.FirstStates.{front, IsFirst}
use Rattle.entry_sound.proofs.memory.FirstMemory.{run_first}
use Rattle.entry_sound.proofs.tables.FirstRoles as roles
use Rattle.entry_sound.proofs.memory.WellStarted.{WellStarted, well_started, are_bytes, IsAimed, aimed}
use Rattle.entry_sound.proofs.tables.FirstSanity as sanity

-- the one leaf of an integer
int_leaves : (structs : List StructView) (pointer : ℕ) (kind : IntType) → leaves_of structs pointer (Int kind) ≡ record { offset = 0; class = class_of kind; signed = kind.signed; stride = kind.bytes; count = 1 } ∷ []
unfolding leaves_of
int_leaves structs pointer kind = let z : length structs + 1 ≡ suc (length structs) = omega arith in rw z refl

int_zeros : (structs : List StructView) (pointer : ℕ) (kind : IntType) → zeros_of structs pointer (Int kind) ≡ []
unfolding zeros_of
int_zeros structs pointer kind = let z : length structs + 1 ≡ suc (length structs) = omega arith in rw z refl

base_some : (o : Option ℕ) → has_base o ≡ true → (b : ℕ) × (o ≡ Some b)
base_some None h = absurd (cc)
base_some (Some b) h = (b, refl)

module _ (u : UnitView) (flow : Flow) (limits : Limits) (good : is_well_formed limits flow ≡ true) (texts : has_initial_bytes flow ≡ true) (p : HasPremises flow) (a : StartsAs u flow) (s : ProgramState) (f : IsFirst u (flow_view flow) s) where
  abbrev memory : Memory
  memory = roles.memory u flow a s f

  abbrev naming : Naming
  naming = roles.naming u flow a

  abbrev entered : Names
  entered = roles.entered u flow a

  abbrev items : List InitialObject
  items = flow.initial.items

  well : WellStarted flow
  well = well_started limits flow good

  -- ---- initializers

  target : (object : StaticBase) (at lo hi : ℕ) → IsAimed items true object at lo hi → IsTarget u flow naming memory object at lo hi
  target object at lo hi h =
      let b = base_some h.item.base (h.has refl) in
      let is : base_instance u object ≡ h.number = ap (base_instance u) h.same ∙ roles.instance_is u flow a h.number h.item h.among in
      record {
        base = b.0;
        size = h.item.size;
        is = ap (base_in items) h.same ∙ (base_of u items (roles.instance_is u flow a) h.number h.item h.among ∙ ap (λ z. with_size z h.item.size) b.1);
        named = ap naming is ∙ (roles.naming_item u flow a h.number h.item h.among ∙ b.1);
        alive = subst (λ i. life_at memory i ≡ live) (sym is) (sanity.item_lives u flow limits good texts p a s f h.number h.item h.among);
        long = ap (λ i. length (bytes_at memory i)) is ∙ sanity.item_size u flow limits good texts p a s f h.number h.item h.among;
        above = h.above;
        below = h.below;
        within = h.within;
      }

  value_of : (v : StaticValue) → fits_value flow.model items (object_count items) true v ≡ true → IsTypedValue v → IsValueOf u flow naming memory v
  value_of (Number n kind) fits typed = (fits, typed)
  value_of Null fits typed = tt
  value_of (Address object at lo hi) fits typed = target object at lo hi (aimed items (object_count items) true object at lo hi fits)

  module _ (b : ℕ) (t : Ty) (g : IsBaseOf u flow.bases.items Static t b) where
    tag_is : (x : ℕ) → type_tag u t x ≡ tag_at flow.model g.info.shape.cells x
    tag_is x = ap (λ z. tag_at u.model z.cells x) (sym g.shapes) ∙ ap (λ m. tag_at m g.info.shape.cells x) a.model

    stores_of : (ss : List StaticStore) → list_all (fits_store flow.model flow.bases.items items (object_count items) (Some b)) ss ≡ true → list_all spells_bytes ss ≡ true → AreTypedStores u t (map static_store_view ss) → AreStoresOf u flow naming memory b g.info ss
    stores_of [] fits bytes typed = tt
    stores_of (one.Value offset v ∷ ss) fits bytes typed =
        let h = and_parts (fits_value flow.model items (object_count items) true v && has_place_in flow.bases.items (Some b) (value_class v) offset) (list_all (fits_store flow.model flow.bases.items items (object_count items) (Some b)) ss) fits in
        let k = and_parts (fits_value flow.model items (object_count items) true v) (has_place_in flow.bases.items (Some b) (value_class v) offset) h.0 in
        let inside = typed.0.1.inside in
        let size = g.sizes in
        let same = ap (λ m. class_bytes m (static_class v).0) a.model in
        ((value_of v k.0 typed.0.0, (λ j few. sym (tag_is (offset + j)) ∙ typed.0.1.tags j (omega (arith, few, same)), omega (arith, inside, size, same))), stores_of ss h.1 bytes typed.1)
    stores_of (one.Spell offset room text ∷ ss) fits bytes typed =
        let h = and_parts (has_room_in flow.bases.items (Some b) offset room) (list_all (fits_store flow.model flow.bases.items items (object_count items) (Some b)) ss) fits in
        let k = and_parts (list_all is_byte text) (list_all spells_bytes ss) bytes in
        let has : has_room offset room (Some g.info) ≡ true = subst (λ z. has_room offset room z ≡ true) g.among h.0 in (
          (
            has,
            record {
              some = typed.0.some;
              bytes = are_bytes text k.0;
              over = λ info e x from to. ap (λ z. tag_at flow.model z.shape.cells x) (same_Some info g.info (sym e ∙ g.among)) ∙ (sym (tag_is x) ∙ typed.0.tags x from to);
            },
          ),
          stores_of ss h.1 k.1 typed.1,
        )

  size_is : (b : ℕ) (info : BaseInfo) (x : InitialObject) (k : ℕ) → slice_get items k ≡ Some x → x.base ≡ Some b → slice_get flow.bases.items b ≡ Some info → info.size ≡ x.size
  size_is b info x k e has at =
      let h : has_size_of flow.bases.items (Some b) x.size ≡ true = subst (λ z. has_size_of flow.bases.items z x.size ≡ true) has (well.bases k x e) in
      let j : has_size (Some info) x.size ≡ true = subst (λ z. has_size z x.size ≡ true) at h in
      eqb-true info.size x.size j

  starts_based : (k b : ℕ) (x : InitialObject) → slice_get items k ≡ Some x → x.base ≡ Some b → fits_start flow.model flow.bases.items items (object_count items) (Some b) x.size x.value ≡ true
  starts_based k b x e has = subst (λ z. fits_start flow.model flow.bases.items items (object_count items) z x.size x.value ≡ true) has (well.starts k x e)

  -- ---- objects of static storage

  object_start : (k b : ℕ) (x : InitialObject) (h : IsObjectAt u a.table k (initial x)) → slice_get items k ≡ Some x → x.base ≡ Some b → (g : IsBaseOf u flow.bases.items Static h.object.ctype b)
      → (value : InitialValue) → views.bytes value ≡ Stored h.object.stores → fits_start flow.model flow.bases.items items (object_count items) (Some b) x.size value ≡ true → begins_with_bytes value ≡ true → HasStart u flow naming memory entered b k g.info value
  object_start k b x h e has g (initial_value.Literal text) is fits bytes = absurd (cc)
  object_start k b x h e has g (initial_value.Stores ss) is fits bytes =
      let same : map static_store_view ss.items ≡ h.object.stores = cc in
      let are : bytes_at memory k ≡ (static_instance u h.object).bytes = ap bytes_of (f.objects k h.object h.among) in (
        record { among = g.among; static = g.kinds; there = roles.entered_item u flow a k b x e has },
        (
          stores_of b h.object.ctype g ss.items fits bytes (subst (AreTypedStores u h.object.ctype) (sym same) (a.typed k h.object h.among)),
          are ∙ (bytes_are_stored u h.object ∙ (ap (λ z. all_stored u z (all_of (number 0 no_labels) (static_instance u h.object).bytes)) (sym same) ∙ ap (λ z. all_stored u (map static_store_view ss.items) (all_of (number 0 no_labels) z)) (sym are))),
        ),
      )

  object_begun : (k b : ℕ) (x : InitialObject) → IsObjectAt u a.table k (initial x) → slice_get items k ≡ Some x → x.base ≡ Some b → IsBegun u flow naming memory entered b x
  object_begun k b x h e has =
      let g = a.shared.objects k b h.object h.among (sym (ap (λ v. v.base) h.is) ∙ has) in
      record {
        info = g.info;
        instance = k;
        among = g.among;
        size = size_is b g.info x k e has g.among;
        starts = object_start k b x h e has g x.value (ap (λ v. v.first) h.is) (starts_based k b x e has) (all_at (λ y. begins_with_bytes y.value) items k x texts e);
      }

  -- ---- literals

  literal_start : (k b : ℕ) (x : InitialObject) (h : IsLiteralAt u a.table k (initial x)) → slice_get items k ≡ Some x → x.base ≡ Some b → (g : IsBaseOf u flow.bases.items Literal (literal_type u.model.char_signed (length h.literal.bytes)) b)
      → (value : InitialValue) → views.bytes value ≡ Spelled h.literal.bytes → fits_start flow.model flow.bases.items items (object_count items) (Some b) x.size value ≡ true → HasStart u flow naming memory entered b k g.info value
  literal_start k b x h e has g (initial_value.Stores ss) is fits = absurd (cc)
  literal_start k b x h e has g (initial_value.Literal text) is fits =
      let same : text ≡ h.literal.bytes = cc in
      let size = size_is b g.info x k e has g.among in
      let parts = and_parts (length text + 1 == x.size) (has_room_in flow.bases.items (Some b) 0 x.size) fits in
      let room : has_room 0 x.size (Some g.info) ≡ true = subst (λ z. has_room 0 x.size z ≡ true) g.among parts.1 in
      record {
        among = g.among;
        kind = g.kinds;
        size = size ∙ sym (eqb-true (length text + 1) x.size parts.0);
        room = subst (λ z. has_room 0 z (Some g.info) ≡ true) (sym size) room;
        named = roles.naming_item u flow a k x e ∙ has;
        alive = sanity.item_lives u flow limits good texts p a s f k x e;
        small = subst AreBytes (sym same) (sanity.literal_bytes u flow limits good texts p a s f k x h e);
        bytes = ap bytes_of (ap (slice_get memory) h.behind ∙ f.literals h.at h.literal h.among) ∙ ap (λ z. map character_byte (characters z ++ number 0 no_labels ∷ [])) (sym same);
      }

  literal_begun : (k b : ℕ) (x : InitialObject) → IsLiteralAt u a.table k (initial x) → slice_get items k ≡ Some x → x.base ≡ Some b → IsBegun u flow naming memory entered b x
  literal_begun k b x h e has =
      let g = a.shared.literals h.at b h.literal h.among (sym (ap (λ v. v.base) h.is) ∙ has) in
      record {
        info = g.info;
        instance = k;
        among = g.among;
        size = size_is b g.info x k e has g.among;
        starts = literal_start k b x h e has g x.value (ap (λ v. v.first) h.is) (starts_based k b x e has);
      }

  item_begun : (k b : ℕ) (x : InitialObject) → slice_get items k ≡ Some x → x.base ≡ Some b → IsBegun u flow naming memory entered b x
  item_begun k b x e has = elim (roles.place u flow a k x e) [
    | inl h ↦ object_begun k b x h e has
    | inr h ↦ literal_begun k b x h e has
  ]

  -- ---- parameters

  parameter_taken : (k : ℕ) (q : ParameterInput) → slice_get flow.parameters.items k ≡ Some q → IsTaken u flow naming memory entered q
  parameter_taken k q e =
      let g = a.inputs.bases k q e in
      let t = roles.parameter_there u flow a s f k q e in
      let named = roles.naming_parameter u flow a k q e in
      record {
        info = g.info;
        instance = front u + k;
        object = record {
          among = g.among;
          automatic = g.kinds;
          typed = well.kinds k q e;
          leaf = record { offset = 0; class = class_of q.kind; signed = q.kind.signed; stride = q.kind.bytes; count = 1 };
          cells = ap (λ z. z.cells) g.shapes ∙ int_leaves u.structs u.model.pointer q.kind;
          class = refl;
          sign = refl;
          arrays = ap (λ z. z.zeros) g.shapes ∙ int_zeros u.structs u.model.pointer q.kind;
          named = named;
          alive = sanity.named_lives u flow limits good texts p a s f (front u + k) q.base named;
          input = λ o x there. let r = (input_at u q.kind t.0 o x (sym (ap (λ z. slice_get (bytes_of z) o) t.1) ∙ there)).1 in (r.value, r.is);
        };
      }

  -- ---- all

  beginning : IsBeginning u flow naming memory entered
  beginning = record {
    sane = sanity.first_sane u flow limits good texts p a s f;
    lives = sanity.first_entered u flow limits good texts p a s f;
    short = sanity.first_short u flow limits good texts p a s f;
    objects = λ k b x e has. item_begun k b x e has;
    own_objects = λ j k b x y at there has also. roles.own_items u flow a j k b x y at there has also;
    parameters = λ k q e. parameter_taken k q e;
    own_parameters = λ j k q r at there same. a.inputs.own j k q r at there same;
    all = λ i b e. elim (roles.named_is u flow a i b e) [
      | inl h ↦ inl (record { at = i; object = h.object; among = h.among; base = h.base })
      | inr h ↦ inr (record { at = h.at; parameter = h.parameter; among = h.among; base = h.base })
    ];
  }

  pub start_of : IsStartOf u flow s
  start_of = record { naming = naming; beginning = subst (λ z. IsBeginning u flow naming z.world.memory z.bases) f.is beginning }

pub runs_begin : (flow : Flow) → RunsBegin flow
runs_begin flow limits good texts p u a draws s run = start_of u flow limits good texts p a s (run_first u (flow_view flow) draws s run)
