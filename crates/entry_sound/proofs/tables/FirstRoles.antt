-- What each instance is that is there when a run begins, and which base it has.
use Rattle.std.proofs.Common.{◌≡◌, ℕ, ◌+◌, ◌-◌, ◌<◌, ◌≤◌, Option, Some, None, List, ◌++◌, length, arith, subst, sym, refl, ap, ◌∙◌, ◌⊎◌, inl, inr}
use Rattle.std.specs.Prelude.{slice_get, map, ℤ}
use Rattle.std.proofs.lemmas.Bool.{cases_lt}
use Rattle.std.proofs.lemmas.List.{length-map}
use Rattle.std.proofs.lemmas.Option.{same_Some, slice_get_within, slice_get_past}
use Rattle.cc_base.specs.declared.int_types.IntType.{IntType}
use Rattle.c_layout.specs.Types.{Ty, Int}
use Rattle.c_layout.specs.CheckedUnits.{LocalView, UnitView}
use Rattle.c_layout.specs.declared.shapes.BaseKind.{BaseKind}
use Rattle.c_layout.specs.declared.shapes.BaseKind.TheVariants.{Static, Automatic, Literal}
use Rattle.cfg.specs.declared.programs.Flow.{Flow}
use Rattle.cfg.specs.declared.programs.InitialObject.{InitialObject}
use Rattle.cfg.specs.declared.programs.ParameterInput.{ParameterInput}
use Rattle.lower_templates.specs.Views.ProgramViews.{initial, flow_view}
use Rattle.semantics.specs.CfgMachine.FlowStates.{ProgramState}
use Rattle.semantics.specs.CfgMachine.FlowStarts.{Names, name_objects, start_names}
use Rattle.lower_objects.specs.Counts.SharedObjects.{literal_type}
use Rattle.lower_tables.specs.Bases.BaseTables.{found_in, known}
use Rattle.memory_model.specs.Memory.Instances.{automatic, Memory, Instance}
use Rattle.memory_model.specs.Effects.NumberedTables.{empty_table}
use Rattle.memory_model.specs.Effects.ObjectEffects.{fresh}
use Rattle.memory_model.specs.Effects.UnitStarts.{base_instance, static_instance, literal_made, entry_parameters}
use Rattle.store_sound.specs.Concretization.ValueMeaning.{Naming}
use Rattle.store_sound.proofs.operations.Slices.{get_left, get_right, get_there, get_map}
use Rattle.entry_sound.specs.Tables.UnitStarts.{IsBaseOf, StartsAs}
use Rattle.entry_sound.proofs.memory.Positions.{none_some, IsObjectAt, IsLiteralAt, items_long, item_at, item_instance}
use Rattle.entry_sound.specs.Memory.FirstStates.{input_bytes, front, IsFirst}
use Rattle.entry_sound.proofs.memory.FirstMemory.{get_mapped}
use Rattle.entry_sound.proofs.memory.FirstNames.{objects_named, objects_there, parameters_named, parameters_stay, parameters_there}

module _ (u : UnitView) (flow : Flow) (a : StartsAs u flow) where
  abbrev items : List InitialObject
  items = flow.initial.items

  abbrev ps : List ParameterInput
  ps = flow.parameters.items

  pub long : length items ≡ front u
  long = items_long u a.table items a.initial

  pub place : (k : ℕ) (x : InitialObject) → slice_get items k ≡ Some x → IsObjectAt u a.table k (initial x) ⊎ IsLiteralAt u a.table k (initial x)
  place k x e = item_at u a.table items a.initial k x e

  pub instance_is : (k : ℕ) (x : InitialObject) → slice_get items k ≡ Some x → base_instance u x.object ≡ k
  instance_is k x e = item_instance u a.table items a.initial k x e

  -- ---- bases

  -- the base of an object or of a literal
  pub item_base : (k b : ℕ) (x : InitialObject) → x.base ≡ Some b → IsObjectAt u a.table k (initial x) ⊎ IsLiteralAt u a.table k (initial x)
      → ((t : Ty) × IsBaseOf u flow.bases.items Static t b) ⊎ ((t : Ty) × IsBaseOf u flow.bases.items Literal t b)
  item_base k b x has (inl h) = inl (h.object.ctype, a.shared.objects k b h.object h.among (sym (ap (λ v. v.base) h.is) ∙ has))
  item_base k b x has (inr h) = inr (literal_type u.model.char_signed (length h.literal.bytes), a.shared.literals h.at b h.literal h.among (sym (ap (λ v. v.base) h.is) ∙ has))

  pub same_kind : (b : ℕ) (k m : BaseKind) (t s : Ty) → IsBaseOf u flow.bases.items k t b → IsBaseOf u flow.bases.items m s b → k ≡ m
  same_kind b k m t s g h = sym g.kinds ∙ (ap (λ z. z.kind) (same_Some g.info h.info (sym g.among ∙ h.among)) ∙ h.kinds)

  static_literal : Static ≡ Literal → ⊥
  static_literal e = cc

  static_automatic : Static ≡ Automatic → ⊥
  static_automatic e = cc

  literal_automatic : Literal ≡ Automatic → ⊥
  literal_automatic e = cc

  -- an object or a literal is no parameter
  pub item_parameter : (k j b : ℕ) (x : InitialObject) (q : ParameterInput) → slice_get items k ≡ Some x → x.base ≡ Some b → slice_get ps j ≡ Some q → q.base ≡ b → ⊥
  item_parameter k j b x q at has there is =
      let own : IsBaseOf u flow.bases.items Automatic (Int q.kind) b = subst (IsBaseOf u flow.bases.items Automatic (Int q.kind)) is (a.inputs.bases j q there) in
      elim (item_base k b x has (place k x at)) [
        | inl h ↦ static_automatic (same_kind b Static Automatic h.0 (Int q.kind) h.1 own)
        | inr h ↦ literal_automatic (same_kind b Literal Automatic h.0 (Int q.kind) h.1 own)
      ]

  -- each has a base of its own
  pub own_items : (j k b : ℕ) (x y : InitialObject) → slice_get items j ≡ Some x → slice_get items k ≡ Some y → x.base ≡ Some b → y.base ≡ Some b → j ≡ k
  own_items j k b x y at there has also = by_place (place j x at) (place k y there)
    where
      by_place : IsObjectAt u a.table j (initial x) ⊎ IsLiteralAt u a.table j (initial x) → IsObjectAt u a.table k (initial y) ⊎ IsLiteralAt u a.table k (initial y) → j ≡ k
      by_place (inl g) (inl h) = a.shared.own_objects j k b (sym (ap (λ v. v.base) g.is) ∙ has) (sym (ap (λ v. v.base) h.is) ∙ also)
      by_place (inl g) (inr h) = absurd (static_literal (same_kind b Static Literal g.object.ctype (literal_type u.model.char_signed (length h.literal.bytes))
          (a.shared.objects j b g.object g.among (sym (ap (λ v. v.base) g.is) ∙ has)) (a.shared.literals h.at b h.literal h.among (sym (ap (λ v. v.base) h.is) ∙ also))))
      by_place (inr g) (inl h) = absurd (static_literal (same_kind b Static Literal h.object.ctype (literal_type u.model.char_signed (length g.literal.bytes))
          (a.shared.objects k b h.object h.among (sym (ap (λ v. v.base) h.is) ∙ also)) (a.shared.literals g.at b g.literal g.among (sym (ap (λ v. v.base) g.is) ∙ has))))
      by_place (inr g) (inr h) =
          let same : g.at ≡ h.at = a.shared.own_literals g.at h.at b (sym (ap (λ v. v.base) g.is) ∙ has) (sym (ap (λ v. v.base) h.is) ∙ also) in
          g.behind ∙ (ap (λ m. length u.objects + m) same ∙ sym h.behind)

  -- ---- names

  abbrev listed : List (Option ℕ)
  listed = map (λ o. o.base) items ++ map (λ q. Some q.base) ps

  -- the instances are numbered in order
  pub naming : Naming
  naming i = known listed i

  pub naming_item : (k : ℕ) (x : InitialObject) → slice_get items k ≡ Some x → naming k ≡ x.base
  unfolding naming
  naming_item k x e =
      let within = slice_get_within items k x e in
      let l = length-map items (λ o. o.base) in
      ap found_in (get_left (map (λ o. o.base) items) (map (λ q. Some q.base) ps) k (omega (arith, within, l)) ∙ get_mapped (λ o. o.base) items k x e)

  pub naming_parameter : (j : ℕ) (q : ParameterInput) → slice_get ps j ≡ Some q → naming (front u + j) ≡ Some q.base
  unfolding naming
  naming_parameter j q e =
      let l = length-map items (λ o. o.base) in
      let m = long in
      ap found_in (get_right (map (λ o. o.base) items) (map (λ q. Some q.base) ps) (front u + j) j (omega (arith, l, m)) ∙ get_mapped (λ q. Some q.base) ps j q e)

  pub record IsItem (i b : ℕ) : Type 0 where
    pub object : InitialObject
    pub among : slice_get items i ≡ Some object
    pub base : object.base ≡ Some b

  pub record IsParameter (i b : ℕ) : Type 0 where
    pub at : ℕ
    pub parameter : ParameterInput
    pub among : slice_get ps at ≡ Some parameter
    pub base : parameter.base ≡ b
    pub behind : i ≡ front u + at

  nothing_past : (i : ℕ) → front u + length ps ≤ i → naming i ≡ None
  unfolding naming
  nothing_past i h =
      let l = length-map items (λ o. o.base) in
      let m = long in
      let k = length-map ps (λ q. Some q.base) in
      let j : ℕ = i - front u in
      ap found_in (get_right (map (λ o. o.base) items) (map (λ q. Some q.base) ps) i j (omega (arith, l, m, h)) ∙ slice_get_past (map (λ q. Some q.base) ps) j (omega (arith, k, h)))

  -- what has a base is an initial object or a parameter
  pub named_is : (i b : ℕ) → naming i ≡ Some b → IsItem i b ⊎ IsParameter i b
  named_is i b e = elim (cases_lt i (length items)) [
    | inl h ↦ (let g = get_there items i h in inl (record { object = g.0; among = g.1; base = sym (naming_item i g.0 g.1) ∙ e }))
    | inr h ↦ elim (cases_lt (i - length items) (length ps)) [
      | inl few ↦ (
          let g = get_there ps (i - length items) few in
          let m = long in
          let z : i ≡ front u + (i - length items) = omega (arith, h, m) in
          inr (record { at = i - length items; parameter = g.0; among = g.1; base = same_Some g.0.base b (sym (naming_parameter (i - length items) g.0 g.1) ∙ (sym (ap naming z) ∙ e)); behind = z }))
      | inr most ↦ (let m = long in absurd (none_some b (sym (nothing_past i (omega (arith, h, most, m))) ∙ e)))
    ]
  ]

  -- ---- the bases that name instances

  abbrev pub entered : Names
  entered = start_names u (flow_view flow)

  abbrev before : Names
  before = name_objects u (map initial items) empty_table

  pub entered_item : (k b : ℕ) (x : InitialObject) → slice_get items k ≡ Some x → x.base ≡ Some b → entered b ≡ Some k
  entered_item k b x e has = parameters_stay u 0 ps before b k
      (objects_there u (map initial items) empty_table b k
      (record { at = k; view = initial x; among = get_mapped initial items k x e; base = has; instance = instance_is k x e })
      (λ j v h is. let g = get_map initial items j v h in ap (λ w. base_instance u w.object) (sym g.2) ∙ (instance_is j g.0 g.1 ∙ own_items j k b g.0 x g.1 e (ap (λ w. w.base) g.2 ∙ is) has)))
      (λ j q h is. absurd (item_parameter k j b x q e has h is))

  pub entered_parameter : (j : ℕ) (q : ParameterInput) → slice_get ps j ≡ Some q → entered q.base ≡ Some (front u + j)
  entered_parameter j q e =
      let z : 0 + j ≡ j = omega arith in
      parameters_there u 0 ps before q.base (front u + j)
      (record { at = j; parameter = q; among = e; base = refl; instance = ap (λ m. front u + m) z })
      (λ k r h is. let y : 0 + k ≡ k = omega arith in ap (λ m. front u + m) (y ∙ a.inputs.own k j r q h e is))

  pub entered_named : (b i : ℕ) → entered b ≡ Some i → naming i ≡ Some b
  entered_named b i e = elim (parameters_named u 0 ps before b i e) [
    | inl h ↦ elim (objects_named u (map initial items) empty_table b i h) [
      | inl none ↦ absurd (none_some i none)
      | inr l ↦ (
          let g = get_map initial items l.at l.view l.among in
          let is : l.at ≡ i = sym (instance_is l.at g.0 g.1) ∙ (ap (λ w. base_instance u w.object) g.2 ∙ l.instance) in
          sym (ap naming is) ∙ (naming_item l.at g.0 g.1 ∙ (ap (λ w. w.base) g.2 ∙ l.base)))
    ]
    | inr p ↦ (
        let z : 0 + p.at ≡ p.at = omega arith in
        let is : front u + p.at ≡ i = sym (ap (λ m. front u + m) z) ∙ p.instance in
        sym (ap naming is) ∙ (naming_parameter p.at p.parameter p.among ∙ ap Some p.base))
  ]

  -- ---- instances

  input_local : (j : ℕ) (q : ParameterInput) → slice_get ps j ≡ Some q → (l : LocalView) × (slice_get (entry_parameters u) j ≡ Some l) × (l.ctype ≡ Int q.kind)
  input_local j q e =
      get_map (λ l. l.ctype) (entry_parameters u) j (Int q.kind) (ap (λ z. slice_get z j) a.inputs.types ∙ get_mapped (λ p. Int p.kind) ps j q e)

  input_count : length (entry_parameters u) ≡ length ps
  input_count = sym (length-map (entry_parameters u) (λ l. l.ctype)) ∙ (ap length a.inputs.types ∙ length-map ps (λ p. Int p.kind))

  same_int : (k m : IntType) → Int k ≡ Int m → k ≡ m
  same_int k m e = cc

  module _ (s : ProgramState) (f : IsFirst u (flow_view flow) s) where
    abbrev pub memory : Memory
    memory = f.world.memory

    pub record IsObject (i : ℕ) (it : Instance) : Type 0 where
      pub item : InitialObject
      pub among : slice_get items i ≡ Some item
      pub place : IsObjectAt u a.table i (initial item)
      pub is : it ≡ static_instance u place.object

    pub record IsLiteral (i : ℕ) (it : Instance) : Type 0 where
      pub item : InitialObject
      pub among : slice_get items i ≡ Some item
      pub place : IsLiteralAt u a.table i (initial item)
      pub is : it ≡ literal_made place.literal

    pub record IsTakenInput (i : ℕ) (it : Instance) : Type 0 where
      pub at : ℕ
      pub parameter : ParameterInput
      pub among : slice_get ps at ≡ Some parameter
      pub behind : i ≡ front u + at
      pub value : ℤ
      pub is : it ≡ fresh automatic (input_bytes u parameter.kind value)

    pub data Role (i : ℕ) (it : Instance) : Type 0 where
      an_object : IsObject i it → Role i it
      a_literal : IsLiteral i it → Role i it
      an_input : IsTakenInput i it → Role i it

    pub parameter_there : (j : ℕ) (q : ParameterInput) → slice_get ps j ≡ Some q → (value : ℤ) × (slice_get memory (front u + j) ≡ Some (fresh automatic (input_bytes u q.kind value)))
    parameter_there j q e =
        let l = input_local j q e in
        let g = f.inputs j l.0 l.1 in
        (g.1.value, g.2 ∙ ap Some (g.1.made ∙ ap (λ k. fresh automatic (input_bytes u k g.1.value)) (same_int g.1.kind q.kind (sym g.1.is ∙ l.2))))

    item_role : (i : ℕ) (it : Instance) (x : InitialObject) → slice_get memory i ≡ Some it → slice_get items i ≡ Some x → IsObjectAt u a.table i (initial x) ⊎ IsLiteralAt u a.table i (initial x) → Role i it
    item_role i it x e at (inl h) = an_object (record { item = x; among = at; place = h; is = same_Some it (static_instance u h.object) (sym e ∙ f.objects i h.object h.among) })
    item_role i it x e at (inr h) = a_literal (record { item = x; among = at; place = h; is = same_Some it (literal_made h.literal) (sym e ∙ (ap (slice_get memory) h.behind ∙ f.literals h.at h.literal h.among)) })

    input_role : (i j : ℕ) (it : Instance) (q : ParameterInput) → slice_get memory i ≡ Some it → slice_get ps j ≡ Some q → i ≡ front u + j → Role i it
    input_role i j it q e at behind =
        let t = parameter_there j q at in
        let is : Some it ≡ Some (fresh automatic (input_bytes u q.kind t.0)) = sym e ∙ (ap (slice_get memory) behind ∙ t.1) in
        an_input (record { at = j; parameter = q; among = at; behind = behind; value = t.0; is = same_Some it (fresh automatic (input_bytes u q.kind t.0)) is })

    pub role : (i : ℕ) (it : Instance) → slice_get memory i ≡ Some it → Role i it
    role i it e = elim (cases_lt i (length items)) [
      | inl h ↦ (let g = get_there items i h in item_role i it g.0 e g.1 (place i g.0 g.1))
      | inr h ↦ (
          let within = slice_get_within memory i it e in
          let m = long in
          let l = f.long in
          let c = input_count in
          let g = get_there ps (i - length items) (omega (arith, h, within, m, l, c)) in
          input_role i (i - length items) it g.0 e g.1 (omega (arith, h, m)))
    ]

    pub named_made : (i b : ℕ) → naming i ≡ Some b → i < length memory
    named_made i b e = elim (named_is i b e) [
      | inl h ↦ (let w = slice_get_within items i h.object h.among in let m = long in let l = f.long in omega (arith, w, m, l))
      | inr h ↦ (let w = slice_get_within ps h.at h.parameter h.among in let k = h.behind in let l = f.long in let c = input_count in omega (arith, w, k, l, c))
    ]
