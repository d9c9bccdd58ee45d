-- Each instruction of a typed program that does not end its block leaves a typed state, where the run goes on.
use Rattle.std.proofs.Common.{◌≡◌, ℕ, suc, ◌+◌, ◌*◌, ◌<◌, Bool, true, Option, Some, None, List, length, arith, subst, sym, refl, ap, ◌∙◌, inl, inr}
use Rattle.std.specs.Prelude.{pos, slice_get}
use Rattle.std.specs.Ordering.{int_eq}
use Rattle.std.proofs.lemmas.Bool.{cases_eq}
use Rattle.std.proofs.lemmas.Option.{same_Some}
use Rattle.c_layout.specs.Layout.{size_of_type}
use Rattle.c_layout.specs.StructViews.{StructView}
use Rattle.c_layout.specs.Types.{Ty, Struct}
use Rattle.c_layout.specs.declared.data_model.Model.{Model}
use Rattle.c_layout.specs.declared.library_functions.LibFn.{LibFn}
use Rattle.c_layout.specs.declared.shapes.BaseInfo.{BaseInfo}
use Rattle.cfg.specs.WellFormed.{On, leads}
use Rattle.cfg.specs.declared.machine_instructions.Amount.{Amount}
use Rattle.cfg.specs.declared.machine_instructions.Amount.TheVariants as amount
use Rattle.cfg.specs.declared.machine_instructions.Operation.{Operation}
use Rattle.cfg.specs.declared.machine_instructions.Scalar as declared
use Rattle.cfg.specs.declared.machine_instructions.Scalar.TheVariants as of
use Rattle.cfg.specs.declared.programs.Flow.{Flow}
use Rattle.lower_templates.specs.Worklist.Acts.{act}
use Rattle.memory_model.specs.Memory.Bytes.{MachinePointer, null, into}
use Rattle.memory_model.specs.Memory.Labels.{no_labels}
use Rattle.memory_model.specs.Memory.Scalars.{Scalar, integer, pointer}
use Rattle.memory_model.specs.Effects.Accesses.{load, store}
use Rattle.memory_model.specs.Effects.IntegerEffects.{unary, compare_numbers, negation, pointer_from, convert}
use Rattle.memory_model.specs.Effects.LibraryCalls.{library}
use Rattle.memory_model.specs.Effects.NumberedTables.{put_at, clear_at}
use Rattle.memory_model.specs.Effects.ObjectEffects.{next_instance, entered, left, forgotten, cleared, spelled}
use Rattle.memory_model.specs.Effects.PointerEffects.{narrow, shift, difference, compare}
use Rattle.memory_model.specs.Effects.StructCopies.{copy_struct}
use Rattle.memory_model.specs.Effects.Worlds.{World, Reply, goes, stops, Stuck}
use Rattle.lower_templates.specs.Views.ProgramViews.{FlowView, flow_view}
use Rattle.semantics.specs.CfgMachine.FlowStates.{ProgramState, if_some, put, next, size_in, base_size}
use Rattle.semantics.specs.CfgMachine.FlowActs.{giving, making, keeping, storing, put_result, calling, with_amount, addressing, enter, entering, leaving, changing, struct_leaves, struct_size}
use Rattle.semantics.specs.CfgMachine.FlowSteps.{act_step}
use Rattle.typed_programs.specs.PlainUnits.PlainTerms.{is_plain_library}
use Rattle.source_preservation.specs.Memory.GoingWorlds.{WhenGoing, Keeps, Same}
use Rattle.source_preservation.proofs.memory.Replies.{when_more, when_behind, when_either}
use Rattle.source_preservation.proofs.memory.Computing.{binary_keeps, unary_keeps, negation_keeps, difference_keeps, compare_keeps}
use Rattle.typed_programs.proofs.runs.ComparedNumbers.{compare_numbers_keeps, convert_keeps}
use Rattle.typed_programs.specs.Types.StandingTypes.{AreLaidOut, Stands}
use Rattle.typed_programs.specs.Types.PointedTypes.{Target, Element, Place, Known, Zero, Null, Pointing, IsElement, Points, Has, IsLess, IsOfKind, IsStorable}
use Rattle.typed_programs.specs.Types.TypedStates.{Temporaries}
use Rattle.typed_programs.specs.Types.TypedPrograms.{structs_of, IsObjectOf, IsKept, Gives, GivesIf, Keeps as KeepsValue, PointsTo, IsTypedOperation, gives_zero, gives_number, gives_address, gives_part, loads, stores_in, copies, narrows, shifts, computes, computes_one, compares, inverts, subtracts, compares_pointers, to_number, to_null, to_pointer, calls, enters, leaves_object, forgets, clears, spells, jumps, branches, switches, ends_run}
use Rattle.typed_programs.specs.Types.EffectLaws.{HasIf, GivesKnown, KeepsTypes}
use Rattle.typed_programs.proofs.runs.TypeLaws.{TypeLaws}
use Rattle.typed_programs.proofs.runs.KnownValues.{Types, HaveMore, less_has, IsPointing, pointing}
use Rattle.typed_programs.proofs.runs.PlainCalls.{library_keeps}
use Rattle.typed_programs.proofs.runs.TypedStates.{set_here, set_else, IsTypedBy, world_typed, same_typed, temps_typed, place_typed, cleared_typed, more_known, kept_known, put_known, same_known}

-- ---- replies

pub when_is : {A : Type 0} (P : A → World → Type 0) (reply : Reply A) → ((x : A) (w : World) → reply ≡ goes x w → P x w) → WhenGoing P reply
when_is P (goes x w) h = h x w refl
when_is P (stops why w) h = tt

pub when_some : {A B : Type 0} (P : B → World → Type 0) (s : ProgramState) (o : Option A) (use_it : A → Reply B) → ((x : A) → o ≡ Some x → WhenGoing P (use_it x)) → WhenGoing P (if_some s o use_it)
when_some P s None use_it h = tt
when_some P s (Some x) use_it h = h x refl

module _ (laws : TypeLaws) (flow : Flow) (laid : AreLaidOut flow.model (structs_of flow)) (objects : ℕ → Ty) (objects_are : (b : ℕ) (base : BaseInfo) → slice_get flow.bases.items b ≡ Some base → IsObjectOf flow (objects b) base) where
  abbrev f : FlowView
  f = flow_view flow

  abbrev structs : List StructView
  structs = structs_of flow

  abbrev m : Model
  m = flow.model

  abbrev Typed : Types → Temporaries → ProgramState → Type 0
  Typed types known s = IsTypedBy structs m.pointer objects types known s

  -- the next instruction of the block, in a typed state
  pub record IsNext (after : Temporaries) (s t : ProgramState) (w : World) : Type 0 where
    pub types : Types
    pub typed : Typed types after (record t { world = w })
    pub block : t.block ≡ s.block
    pub at : t.at ≡ suc s.at

  module _ (types : Types) (before after : Temporaries) (s : ProgramState) (h : Typed types before s) where
    abbrev Goes : Reply ProgramState → Type 0
    Goes reply = WhenGoing (IsNext after s) reply

    abbrev Given : Option Known → Scalar → World → Type 0
    Given known v w = GivesKnown structs m.pointer types known v s.world w

    next_goes : (now : Types) (t : ProgramState) → Typed now after t → t.block ≡ s.block → t.at ≡ s.at → Goes (next t)
    next_goes now t typed block at = record { types = now; typed = place_typed structs m.pointer objects now after t t.block (suc t.at) typed; block = block; at = ap suc at }

    -- ---- results

    given : (to : ℕ) (known : Option Known) → Gives to known before after → (reply : Reply Scalar) → WhenGoing (Given known) reply → Goes (giving s to reply)
    given to known gives (goes v w) k = next_goes types (put s to v w) (temps_typed structs m.pointer objects types before after (record s { world = w }) (put_at s.temps to v) (same_typed structs m.pointer objects types before s w h k.memory) (put_known laws m structs laid types before after s.temps to known v h.temps k.has gives)) refl refl
    given to known gives (stops why w) k = tt

    -- a number, of which nothing is known
    numbered : (to : ℕ) → Gives to None before after → (reply : Reply Scalar) → Keeps s.world.memory reply → Goes (giving s to reply)
    numbered to gives reply keeps = given to None gives reply (when_more (Same s.world.memory) (Given None) reply (λ v w same. record { has = tt; memory = same }) keeps)

    made : (w : World) → KeepsTypes structs m.pointer types s.world w → IsKept before after → Goes (making s w)
    made w k kept = next_goes types (record s { world = w }) (temps_typed structs m.pointer objects types before after (record s { world = w }) s.temps (world_typed structs m.pointer objects types before s w h k) (kept_known laws m structs laid types before after s.temps h.temps kept)) refl refl

    -- ---- operands

    has_if : (temp : ℕ) (v : Scalar) → s.temps temp ≡ Some v → HasIf structs m.pointer types (before temp) v
    has_if temp v e = by_known (before temp) refl
      where
        by_known : (known : Option Known) → before temp ≡ known → HasIf structs m.pointer types known v
        by_known None is = tt
        by_known (Some k) is = h.temps temp k v is e

    points_at : (temp : ℕ) (t : Ty) (p : PointsTo flow objects before after temp t) (v : Scalar) → s.temps temp ≡ Some v → IsPointing laws m structs laid types p.target v
    points_at temp t p v e = pointing laws m structs laid types p.known p.target p.less v (h.temps temp p.known v p.has e)

    amount_goes : (a : Amount) (use_it : Scalar → Reply ProgramState) → ((v : Scalar) → Goes (use_it v)) → Goes (with_amount s a use_it)
    amount_goes (amount.Temp t) use_it k = when_some (IsNext after s) s (s.temps t) use_it (λ v e. k v)
    amount_goes amount.One use_it k = k _

    one_numbered : (to from : ℕ) (effect : Scalar → World → Reply Scalar) → Gives to None before after → ((v : Scalar) → Keeps s.world.memory (effect v s.world)) → Goes (if_some s (s.temps from) (λ v. giving s to (effect v s.world)))
    one_numbered to from effect gives keeps = when_some (IsNext after s) s (s.temps from) (λ v. giving s to (effect v s.world)) (λ v e. numbered to gives (effect v s.world) (keeps v))

    two_numbered : (to left right : ℕ) (effect : Scalar → Scalar → World → Reply Scalar) → Gives to None before after → ((a b : Scalar) → Keeps s.world.memory (effect a b s.world)) → Goes (if_some s (s.temps left) (λ a. if_some s (s.temps right) (λ b. giving s to (effect a b s.world))))
    two_numbered to left right effect gives keeps = when_some (IsNext after s) s (s.temps left) _ (λ a e. one_numbered to right (effect a) gives (keeps a))

    -- ---- pointers

    -- the whole object, where there is one
    whole : (base : ℕ) → IsElement structs m.pointer (objects base) (objects base) 0 0 (base_size f base)
    whole base = by_base (slice_get flow.bases.items base) refl
      where
        by_base : (o : Option BaseInfo) → slice_get flow.bases.items base ≡ o → IsElement structs m.pointer (objects base) (objects base) 0 0 (size_in o)
        by_base None e = record { count = 0; index = 0; end = omega arith; at = omega arith; within = omega arith; elements = λ k less. absurd (omega (arith, less)) }
        by_base (Some b) e =
            let size = (objects_are base b e).size in
            record {
              count = 1;
              index = 0;
              end = omega (arith, size);
              at = omega arith;
              within = omega arith;
              elements = λ k less. let there : 0 ≡ 0 + k * size_of_type structs m.pointer (objects base) = (let none : k ≡ 0 = omega (arith, less) in let z : k * size_of_type structs m.pointer (objects base) ≡ 0 * size_of_type structs m.pointer (objects base) = ap (λ z. z * size_of_type structs m.pointer (objects base)) none in omega (arith, z)) in subst (Stands structs m.pointer (objects base) (objects base)) there (laws.themselves structs m.pointer (objects base));
            }

    addressed : (to base offset : ℕ) (target : Target) → Gives to (Some (Pointing target)) before after → ((i : ℕ) → types i ≡ Some (objects base) → Points structs m.pointer types target (into i offset 0 (base_size f base))) → Goes (addressing f s to base offset)
    addressed to base offset target gives points = when_some (IsNext after s) s (s.bases base) _ (λ i e. given to (Some (Pointing target)) gives (goes (pointer (into i offset 0 (base_size f base))) s.world) (record { has = points i (h.bases base i e); memory = refl }))

    loaded : (to from : ℕ) (kind : declared.Scalar) (t : Ty) (known : Option Known) (p : PointsTo flow objects before after from t) → IsOfKind t kind known → Gives to known before after → (v : Scalar) → s.temps from ≡ Some v → Goes (giving s to (load m kind v s.world))
    loaded to from kind t known p of_kind gives v e =
        let q = points_at from t p v e in
        subst (λ z. Goes (giving s to (load m kind z s.world))) (sym q.is) (given to known gives (load m kind (pointer q.p) s.world) (when_is (Given known) (load m kind (pointer q.p) s.world) (λ x w g. laws.loads m structs types p.target kind known q.p x s.world w laid.model h.memory q.points (subst (λ z. IsOfKind z kind known) (sym p.is) of_kind) g)))

    narrowed : (to from offset size : ℕ) (t inner : Ty) (p : PointsTo flow objects before after from t) → Stands structs m.pointer t inner offset → size ≡ size_of_type structs m.pointer inner → 0 < size → Gives to (Some (Pointing (Element inner))) before after → (v : Scalar) → s.temps from ≡ Some v → Goes (giving s to (narrow v offset size s.world))
    narrowed to from offset size t inner p stands is some gives v e =
        let q = points_at from t p v e in
        subst (λ z. Goes (giving s to (narrow z offset size s.world))) (sym q.is) (given to (Some (Pointing (Element inner))) gives (narrow (pointer q.p) offset size s.world) (when_is (Given (Some (Pointing (Element inner)))) (narrow (pointer q.p) offset size s.world) (λ x w g. laws.narrows structs m.pointer types p.target inner q.p offset size x s.world w q.points (subst (λ z. Stands structs m.pointer z inner offset) (sym p.is) stands) is some g)))

    shifted : (to from size : ℕ) (back : Bool) (t : Ty) (known : Known) → before from ≡ Some known → IsLess known (Pointing (Element t)) → size ≡ size_of_type structs m.pointer t → 0 < size → Gives to (Some (Pointing (Element t))) before after → (v by : Scalar) → s.temps from ≡ Some v → Goes (giving s to (shift v by size back s.world))
    shifted to from size back t known has less is some gives v by e =
        let q = pointing laws m structs laid types known (Element t) less v (h.temps from known v has e) in
        subst (λ z. Goes (giving s to (shift z by size back s.world))) (sym q.is) (given to (Some (Pointing (Element t))) gives (shift (pointer q.p) by size back s.world) (when_is (Given (Some (Pointing (Element t)))) (shift (pointer q.p) by size back s.world) (λ x w g. laws.shifts structs m.pointer types t q.p by size back x s.world w q.points is some g)))

    -- ---- conversions

    null_from : (v : Scalar) → Has structs m.pointer types Zero v → WhenGoing (Given (Some Null)) (pointer_from v s.world)
    null_from (integer n labels) e = when_either (Given (Some Null)) (int_eq n (pos 0)) (goes (pointer null) s.world) (stops Stuck s.world) (record { has = refl; memory = refl }) tt
    null_from (pointer p) e = record { has = e; memory = refl }

    pointer_still : (known : Option Known) (v : Scalar) → HasIf structs m.pointer types known v → WhenGoing (Given known) (pointer_from v s.world)
    pointer_still None (integer n labels) e = when_either (Given None) (int_eq n (pos 0)) (goes (pointer null) s.world) (stops Stuck s.world) (record { has = tt; memory = refl }) tt
    pointer_still (Some Zero) (integer n labels) e = when_either (Given (Some Zero)) (int_eq n (pos 0)) (goes (pointer null) s.world) (stops Stuck s.world) (record { has = refl; memory = refl }) tt
    pointer_still (Some Null) (integer n labels) e = absurd e
    pointer_still (Some (Pointing target)) (integer n labels) e = absurd e
    pointer_still known (pointer p) e = record { has = e; memory = refl }

    -- ---- stores and copies

    kept_goes : (w : World) → KeepsTypes structs m.pointer types s.world w → (kept : Option (ℕ × ℕ)) → KeepsValue kept before after → Goes (keeping (record s { world = w }) kept)
    kept_goes w k None keeps = made w k keeps
    kept_goes w k (Some kept) keeps = when_some (IsNext after s) (record s { world = w }) (s.temps kept.1) (λ v. next (put (record s { world = w }) kept.0 v w)) (λ v e. next_goes types (put s kept.0 v w) (temps_typed structs m.pointer objects types before after (record s { world = w }) (put_at s.temps kept.0 v) (world_typed structs m.pointer objects types before s w h k) (put_known laws m structs laid types before after s.temps kept.0 (before kept.1) v h.temps (has_if kept.1 v e) keeps)) refl refl)

    storable_has : (known value : Option Known) (v : Scalar) → IsStorable known value → HasIf structs m.pointer types value v → HasIf structs m.pointer types known v
    storable_has None value v is has = tt
    storable_has (Some k) value v is has = less_has laws m structs laid types is.0 k is.2 v (subst (λ z. HasIf structs m.pointer types z v) is.1 has)

    stored : (to from : ℕ) (kind : declared.Scalar) (kept : Option (ℕ × ℕ)) (t : Ty) (known : Option Known) (p : PointsTo flow objects before after to t) → IsOfKind t kind known → IsStorable known (before from) → KeepsValue kept before after → (a v : Scalar) → s.temps to ≡ Some a → s.temps from ≡ Some v → Goes (storing s kept (store m kind a v s.world))
    stored to from kind kept t known p of_kind storable keeps a v there e =
        let q = points_at to t p a there in
        let has = storable_has known (before from) v storable (has_if from v e) in
        subst (λ z. Goes (storing s kept (store m kind z v s.world))) (sym q.is) (when_behind (λ x w. KeepsTypes structs m.pointer types s.world w) (IsNext after s) (store m kind (pointer q.p) v s.world) (λ x w. keeping (record s { world = w }) kept)
        (when_is (λ x w. KeepsTypes structs m.pointer types s.world w) (store m kind (pointer q.p) v s.world) (λ x w g. laws.stores m structs types p.target kind known q.p v x s.world w laid.model h.declared h.memory q.points (subst (λ z. IsOfKind z kind known) (sym p.is) of_kind) has g))
        (λ x w k. kept_goes w k kept keeps))

    copied : (to : ℕ) (p : MachinePointer) → s.temps to ≡ Some (pointer p) → IsKept before after → (reply : Reply Scalar) → WhenGoing (λ v w. KeepsTypes structs m.pointer types s.world w × (v ≡ pointer p)) reply → Goes (giving s to reply)
    copied to p there kept (goes v w) k = next_goes types (put s to v w) (temps_typed structs m.pointer objects types before after (record s { world = w }) (put_at s.temps to v) (world_typed structs m.pointer objects types before s w h k.0) (kept_known laws m structs laid types before after (put_at s.temps to v) (same_known laws m structs laid types before s.temps to v h.temps (there ∙ ap Some (sym k.1))) kept)) refl refl
    copied to p there kept (stops why w) k = tt

    copied_struct : (to from index : ℕ) (p : PointsTo flow objects before after to (Struct index)) (q : PointsTo flow objects before after from (Struct index)) → IsKept before after → (a b : Scalar) → s.temps to ≡ Some a → s.temps from ≡ Some b → Goes (giving s to (copy_struct m (struct_leaves f index) (struct_size f index) a b s.world))
    copied_struct to from index p q kept a b there e =
        let c = points_at to (Struct index) p a there in
        let d = points_at from (Struct index) q b e in
        subst (λ z. Goes (giving s to (copy_struct m (struct_leaves f index) (struct_size f index) z b s.world))) (sym c.is) (subst (λ z. Goes (giving s to (copy_struct m (struct_leaves f index) (struct_size f index) (pointer c.p) z s.world))) (sym d.is)
        (copied to c.p (there ∙ ap Some c.is) kept (copy_struct m (struct_leaves f index) (struct_size f index) (pointer c.p) (pointer d.p) s.world) (when_is (λ v w. KeepsTypes structs m.pointer types s.world w × (v ≡ pointer c.p)) (copy_struct m (struct_leaves f index) (struct_size f index) (pointer c.p) (pointer d.p) s.world) (λ x w g. laws.copies m structs types p.target q.target index (struct_leaves f index) c.p d.p x s.world w h.memory c.points p.is d.points q.is g))))

    -- ---- calls

    result_goes : (to : Option ℕ) → GivesIf to None before after → (r : Option Scalar) (w : World) → w.memory ≡ s.world.memory → Goes (put_result s to r w)
    result_goes (Some to) gives (Some v) w same = given to None gives (goes v w) (record { has = tt; memory = same })
    result_goes None kept None w same = next_goes types (record s { world = w }) (temps_typed structs m.pointer objects types before after (record s { world = w }) s.temps (same_typed structs m.pointer objects types before s w h same) (kept_known laws m structs laid types before after s.temps h.temps kept)) refl refl
    result_goes (Some to) gives None w same = tt
    result_goes None kept (Some v) w same = tt

    called : (to : Option ℕ) (name : LibFn) (size : Option ℕ) → is_plain_library name ≡ true → GivesIf to None before after → (vs : List Scalar) → Goes (calling s to (library m size name vs s.world))
    called to name size plain gives vs = when_behind (Same s.world.memory) (IsNext after s) (library m size name vs s.world) (put_result s to) (library_keeps m size name plain vs s.world) (λ r w same. result_goes to gives r w same)

    -- ---- objects

    module _ (base : ℕ) (b : BaseInfo) where
      abbrev fresh : ℕ
      fresh = next_instance s.world

      abbrev more : Types
      more = put_at types fresh (objects base)

      abbrev entered_world : World
      entered_world = entered m b.shape.cells b.size s.world

      all_more : HaveMore types more
      all_more i t e = set_else types fresh (Some (objects base)) i (λ same. let l = h.there i t e in omega (arith, l, same)) ∙ e

      named : (c i : ℕ) → put_at s.bases base fresh c ≡ Some i → more i ≡ Some (objects c)
      named c i e = elim (cases_eq c base) [
        | inl same ↦ (let now : fresh ≡ i = same_Some fresh i (sym (set_here s.bases base (Some fresh) c same) ∙ e) in set_here types fresh (Some (objects base)) i (sym now) ∙ ap (λ z. Some (objects z)) (sym same))
        | inr other ↦ all_more i (objects c) (h.bases c i (sym (set_else s.bases base (Some fresh) c other) ∙ e))
      ]

      longer : (i : ℕ) (t : Ty) → length entered_world.memory ≡ length s.world.memory + 1 → more i ≡ Some t → i < length entered_world.memory
      longer i t long e = elim (cases_eq i fresh) [
        | inl same ↦ omega (arith, long, same)
        | inr other ↦ (let l = h.there i t (sym (set_else types fresh (Some (objects base)) i other) ∙ e) in omega (arith, long, l))
      ]

      entered_typed : IsKept before after → Goes (enter f s base (Some b))
      entered_typed kept =
          let k = laws.enters m structs m.pointer types (objects base) b.shape.cells b.size s.world h.there h.declared h.memory in
          next_goes more (record s { bases = put_at s.bases base fresh; world = entered_world }) (record {
            bases = named;
            there = λ i t e. longer i t k.1 e;
            declared = k.2;
            temps = more_known structs m.pointer objects types more after s.temps all_more (kept_known laws m structs laid types before after s.temps h.temps kept);
            memory = k.0;
          }) refl refl

    entering_goes : (base : ℕ) → IsKept before after → (o : Option ℕ) → Goes (entering f s base o)
    entering_goes base kept None = by_base (slice_get flow.bases.items base)
      where
        by_base : (o : Option BaseInfo) → Goes (enter f s base o)
        by_base None = tt
        by_base (Some b) = entered_typed base b kept
    entering_goes base kept (Some i) = tt

    left_goes : (base : ℕ) → IsKept before after → Goes (leaving s base)
    left_goes base kept = when_some (IsNext after s) s (s.bases base) (λ i. making (record s { bases = clear_at s.bases base }) (left i s.world)) (λ i e. next_goes types (record s { bases = clear_at s.bases base; world = left i s.world })
        (cleared_typed structs m.pointer objects types after (record s { world = left i s.world }) base (temps_typed structs m.pointer objects types before after (record s { world = left i s.world }) s.temps (world_typed structs m.pointer objects types before s (left i s.world) h (laws.leaves structs m.pointer types i s.world h.memory)) (kept_known laws m structs laid types before after s.temps h.temps kept))) refl refl)

    changed : (base : ℕ) (change : ℕ → World → World) → ((i : ℕ) → KeepsTypes structs m.pointer types s.world (change i s.world)) → IsKept before after → Goes (changing s base change)
    changed base change keeps kept = when_some (IsNext after s) s (s.bases base) (λ i. making s (change i s.world)) (λ i e. made (change i s.world) (keeps i) kept)

    -- ---- all instructions

    pub instruction : (o : Operation) → IsTypedOperation flow objects before after o → leads o ≡ On → Goes (act_step f (act o) s)
    instruction _ (gives_zero to kind gives) on = given to (Some Zero) gives (goes (integer (pos 0) no_labels) s.world) (record { has = refl; memory = refl })
    instruction _ (gives_number to n kind gives) on = numbered to gives (goes (integer n no_labels) s.world) refl
    instruction _ (gives_address to base gives) on = addressed to base 0 (Element (objects base)) gives (λ i e. (objects base, e, whole base))
    instruction _ (gives_part to base offset t stands gives) on = addressed to base offset (Place t) gives (λ i e. (objects base, e, λ less. stands))
    instruction _ (loads to from kind t known points of_kind gives) on = when_some (IsNext after s) s (s.temps from) _ (loaded to from kind t known points of_kind gives)
    instruction _ (stores_in to from kind kept t known points of_kind storable keeps) on = when_some (IsNext after s) s (s.temps to) _ (λ a there. when_some (IsNext after s) s (s.temps from) _ (λ v e. stored to from kind kept t known points of_kind storable keeps a v there e))
    instruction _ (copies to from index to_points from_points some kept) on = when_some (IsNext after s) s (s.temps to) _ (λ a there. when_some (IsNext after s) s (s.temps from) _ (λ b e. copied_struct to from index to_points from_points kept a b there e))
    instruction _ (narrows to from offset size t inner points stands is some gives) on = when_some (IsNext after s) s (s.temps from) _ (narrowed to from offset size t inner points stands is some gives)
    instruction _ (shifts to from by size back t known has less is some gives) on = when_some (IsNext after s) s (s.temps from) _ (λ v e. amount_goes by _ (λ n. shifted to from size back t known has less is some gives v n e))
    instruction _ (computes to sign first second kind gives) on = when_some (IsNext after s) s (s.temps first) _ (λ a e. amount_goes second _ (λ b. numbered to gives _ (binary_keeps sign kind a b s.world)))
    instruction _ (computes_one to sign from kind gives) on = one_numbered to from (unary sign kind) gives (λ v. unary_keeps sign kind v s.world)
    instruction _ (compares to sign first second gives) on = two_numbered to first second (compare_numbers sign) gives (λ a b. compare_numbers_keeps sign a b s.world)
    instruction _ (inverts to from kind gives) on = one_numbered to from negation gives (λ v. negation_keeps v s.world)
    instruction _ (subtracts to first second size gives) on = two_numbered to first second (λ a b w. difference a b size w) gives (λ a b. difference_keeps a b size s.world)
    instruction _ (compares_pointers to sign first second gives) on = two_numbered to first second (compare sign) gives (λ a b. compare_keeps sign a b s.world)
    instruction _ (to_number to from old kind gives) on = one_numbered to from (convert (of.Int kind)) gives (λ v. convert_keeps (of.Int kind) v s.world)
    instruction _ (to_null to from kind is gives) on = when_some (IsNext after s) s (s.temps from) _ (λ v e. given to (Some Null) gives _ (null_from v (h.temps from Zero v is e)))
    instruction _ (to_pointer to from gives) on = when_some (IsNext after s) s (s.temps from) _ (λ v e. given to (before from) gives _ (pointer_still (before from) v (has_if from v e)))
    instruction _ (calls to name arguments newest size plain gives) on = when_some (IsNext after s) s _ _ (λ vs e. called to name size plain gives vs)
    instruction _ (enters base kept) on = entering_goes base kept (s.bases base)
    instruction _ (leaves_object base kept) on = left_goes base kept
    instruction _ (forgets base kept) on = changed base forgotten (λ i. laws.forgets structs m.pointer types i s.world h.memory) kept
    instruction _ (clears base kept) on = changed base cleared (λ i. laws.clears structs m.pointer types i s.world h.memory) kept
    instruction _ (spells base offset room text kept) on = changed base (λ i w. spelled i offset room text w) (λ i. laws.spells structs m.pointer types i offset room text s.world h.memory) kept
    instruction _ (jumps kept) on = cc
    instruction _ (branches from kind kept) on = cc
    instruction _ (switches from kind kept) on = cc
    instruction _ ends_run on = cc
