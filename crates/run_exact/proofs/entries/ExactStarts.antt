-- The row of the entry tells the state in which a run begins.
use Rattle.std.proofs.Common.{◌≡◌, ℕ, zero, suc, ◌+◌, ◌<◌, ◌≤◌, true, Option, Some, None, List, [], ◌∷◌, length, arith, subst, sym, refl, ap, ◌∙◌, inl, inr}
use Rattle.std.specs.Prelude.{slice_get, ℤ}
use Rattle.std.proofs.lemmas.Option.{same_Some, slice_get_within}
use Rattle.cc_base.specs.Lattices.{LatticeOf, OrderLaws}
use Rattle.cc_base.specs.IntegerDomains.{IntegersOf, BoundLaws, RangeLaws}
use Rattle.cc_base.specs.IntegerLaws.{SoundLaws}
use Rattle.cc_base.specs.declared.limit_table.Limits.{Limits}
use Rattle.c_layout.specs.CheckedUnits.{UnitView}
use Rattle.c_layout.specs.declared.leaf_lists.Leaf.{Leaf}
use Rattle.c_layout.specs.declared.shapes.BaseInfo.{BaseInfo}
use Rattle.c_layout.specs.declared.shapes.BaseKind.TheVariants.{Literal, Older}
use Rattle.cfg.specs.WellFormed.{base_values, is_well_formed}
use Rattle.cfg.specs.declared.programs.Flow.{Flow}
use Rattle.cfg.specs.declared.programs.InitialObject.{InitialObject}
use Rattle.cfg.specs.declared.programs.InitialValue.{InitialValue}
use Rattle.cfg.specs.declared.programs.InitialValue.TheVariants as initial
use Rattle.cfg.specs.declared.programs.ParameterInput.{ParameterInput}
use Rattle.value_domain.specs.declared.values.row_cells.Cell.{Cell}
use Rattle.store_cells.specs.RowPositions.{leaf_position, cell_at, value_at}
use Rattle.store.specs.Spelling.{spell}
use Rattle.store_cells.specs.Walks.{walk}
use Rattle.transfer_edges.specs.StartRows.{empty_row, start_value, start_object, start_objects, parameter_at, start_parameters, started, start_row}
use Rattle.memory_model.specs.Memory.Instances.{Memory}
use Rattle.memory_model.specs.Effects.NumberedTables.{empty_table}
use Rattle.memory_model.specs.Effects.UnitStarts.{start_world}
use Rattle.lower_templates.specs.Views.ProgramViews.{flow_view}
use Rattle.store_sound.specs.Concretization.RowMeaning.{MachineState}
use Rattle.store_sound.specs.Concretization.ValueMeaning.{Naming}
use Rattle.store_sound.proofs.operations.StoreLeaves.{live_ended}
use Rattle.store_sound.proofs.operations.StoreRows.{leaf_is}
use Rattle.store_sound.proofs.operations.StoreValues.{same_value}
use Rattle.store_sound.specs.Programs.Premises.{HasPremises}
use Rattle.entry_sound.specs.Starts.StartedRows.{HasStart, IsBegun, HasParameter, IsBeginning}
use Rattle.entry_sound.proofs.starts.StartedRows.{starts, one_kept, first_of, all_kept, base_apart, empty_long, no_temps}
use Rattle.transfer_exact.specs.Values.ExactNumbers.{ExactLaws}
use Rattle.transfer_exact.specs.Values.SingleRows.{IsPlainProgram, ExactLeaf, ExactState}
use Rattle.transfer_exact.proofs.places.OneLeaf.{place_is}
use Rattle.transfer_exact.specs.Accesses.TypedAccesses.{HasObjects}
use Rattle.transfer_exact.proofs.accesses.ExactStores.{base_fits}
use Rattle.transfer_exact.specs.Spelling.CopyLaws.{StartIsExact}
use Rattle.transfer_exact.proofs.spelling.ExactLiterals.{literal_leaf}
use Rattle.run_exact.proofs.entries.NamedTargets.{NamesTargets, targets_named}
use Rattle.run_exact.proofs.entries.ExactStatics.{static_leaves}

module _ {I : Type 0} {l : LatticeOf I} {n : IntegersOf I} {gamma : I → ℤ → Type 0} (o : OrderLaws l) (q : BoundLaws l n gamma) (c : SoundLaws l n gamma) (ranges : RangeLaws l n) (exact : ExactLaws n) (flow : Flow) (limits : Limits) (good : is_well_formed limits flow ≡ true) (p : HasPremises flow) (objects : HasObjects flow) (plain : IsPlainProgram flow) (u : UnitView) (same : u.model ≡ flow.model)
    (naming : Naming) (memory : Memory) (entered : ℕ → Option ℕ) (g : IsBeginning u flow naming memory entered) (targets : NamesTargets u flow.initial.items entered) where
  abbrev state : MachineState
  state = record { memory = memory; temps = empty_table; entered = entered }

  -- the row tells the object of a base
  abbrev IsExact : ℕ → BaseInfo → List (Cell I) → Type 0
  IsExact b info row = (i : ℕ) → entered b ≡ Some i → (j : ℕ) (leaf : Leaf) → slice_get info.shape.cells j ≡ Some leaf → ExactLeaf l n flow state (value_at l n row (leaf_position info j)) i leaf.offset leaf

  kept_told : (b : ℕ) (info : BaseInfo) → slice_get flow.bases.items b ≡ Some info → (row after : List (Cell I)) → ((x : ℕ) → info.first ≤ x → x < info.first + base_values info → cell_at after x ≡ cell_at row x) → IsExact b info row → IsExact b info after
  kept_told b info at row after cells told i named j leaf e =
      let top = slice_get_within info.shape.cells j leaf e in
      let here = leaf_is info j (base_fits flow p b info at) top in
      subst (λ z. ExactLeaf l n flow state z i leaf.offset leaf) (sym (same_value l n row after (leaf_position info j) (cells (leaf_position info j) (omega (arith, here)) (omega (arith, here, top))))) (told i named j leaf e)

  value_told : (b i : ℕ) (info : BaseInfo) (value : InitialValue) → HasStart u flow naming memory entered b i info value → (row after : List (Cell I)) → length row ≡ flow.width → start_value l n flow b info.size value row ≡ Some after → IsExact b info after
  unfolding start_value
  value_told b i info (initial.Stores stores) h row after long e k named j leaf f =
      subst (λ z. ExactLeaf l n flow state (value_at l n after (leaf_position info j)) z leaf.offset leaf) (same_Some i k (sym h.0.there ∙ named))
      (static_leaves q ranges exact flow p objects plain u same naming memory g.sane entered g.lives targets b i info h.0 stores.items h.1.0 h.1.1 row after long e j leaf f)
  value_told b i info (initial.Literal text) h row after long e k named j leaf f =
      let one : i ≡ k = g.sane.one i k b info h.among (λ d. let x : Literal ≡ Older = sym h.kind ∙ d in absurd (cc)) h.named (g.lives.named b k named) (λ d. live_ended (sym h.alive ∙ d)) (λ d. live_ended (sym (g.lives.alive b k named) ∙ d)) in
      let single = plain.apart b j info leaf h.among f in
      subst (λ z. ExactLeaf l n flow state (value_at l n after (leaf_position info j)) z leaf.offset leaf) one
      (subst (λ z. ExactLeaf l n flow state (value_at l n z (leaf_position info j)) i leaf.offset leaf) (same_Some (spell l n flow.bases.items b 0 info.size text row) after e)
      (literal_leaf q flow p objects plain naming state g.sane b i info text h row long j leaf f leaf.offset (record { turn = 0; few = omega (arith, single); there = omega arith })))

  made_told : (b : ℕ) (base : Option ℕ) (ob : InitialObject) → base ≡ Some b → IsBegun u flow naming memory entered b ob → (row now : List (Cell I)) → length row ≡ flow.width → start_object l n flow base ob.size ob.value row ≡ Some now → (info : BaseInfo) → slice_get flow.bases.items b ≡ Some info → IsExact b info now
  unfolding start_object
  made_told b None ob is h row now long e info at = absurd (cc)
  made_told b (Some d) ob is h row now long e info at =
      let same_number : d ≡ b = same_Some d b is in
      let f : start_value l n flow b ob.size ob.value row ≡ Some now = subst (λ z. start_value l n flow z ob.size ob.value row ≡ Some now) same_number e in
      let k : start_value l n flow b h.info.size ob.value row ≡ Some now = subst (λ z. start_value l n flow b z ob.value row ≡ Some now) (sym h.size) f in
      subst (λ z. IsExact b z now) (same_Some h.info info (sym h.among ∙ at)) (value_told b h.instance h.info ob.value h.starts row now long k)

  abbrev Begun : List InitialObject → Type 0
  Begun os = (k b : ℕ) (x : InitialObject) → slice_get os k ≡ Some x → x.base ≡ Some b → IsBegun u flow naming memory entered b x

  abbrev Own : List InitialObject → Type 0
  Own os = (j k b : ℕ) (x y : InitialObject) → slice_get os j ≡ Some x → slice_get os k ≡ Some y → x.base ≡ Some b → y.base ≡ Some b → j ≡ k

  abbrev begun_from : ℕ → List InitialObject → Option (List (Cell I)) → Option (List (Cell I))
  begun_from at os row = starts o q c ranges flow limits good p u same naming memory entered g at os row

  all_told : (at : ℕ) (os : List InitialObject) → Begun os → Own os → (row after : List (Cell I)) → length row ≡ flow.width → begun_from at os (Some row) ≡ Some after → (k b : ℕ) (ob : InitialObject) → slice_get os k ≡ Some ob → ob.base ≡ Some b → (info : BaseInfo) → slice_get flow.bases.items b ≡ Some info → IsExact b info after
  all_told at [] begun own row after long e k b ob h is info there = absurd (cc)
  all_told at (x ∷ os) begun own row after long e zero b ob h is info there =
      let f = first_of o q c ranges flow limits good p u same naming memory entered g x at os row after e in
      let first : x ≡ ob = same_Some x ob h in
      let here : x.base ≡ Some b = ap (λ z. z.base) first ∙ is in
      let s = made_told b x.base x here (begun 0 b x refl here) row f.now long f.made info there in
      let kept = all_kept o q c ranges flow limits good p u same naming memory entered g (at + 1) os (λ k b y h i. begun (suc k) b y h i) f.now after f.rest in
      kept_told b info there f.now after (λ a from to. kept.cells a (λ k y h2 d i. base_apart o q c ranges flow limits good p u same naming memory entered g b d info there (λ ne. let w : 0 ≡ suc k = own 0 (suc k) b x y refl h2 here (i ∙ ap Some (sym ne)) in absurd (cc)) a from to)) s
  all_told at (x ∷ os) begun own row after long e (suc k) b ob h is info there =
      let f = first_of o q c ranges flow limits good p u same naming memory entered g x at os row after e in
      let one = one_kept o q c ranges flow limits good p u same naming memory entered g x.base x refl (λ b i. begun 0 b x refl i) row f.now f.made in
      all_told (at + 1) os (λ k b y h i. begun (suc k) b y h i) (λ j k b y z h i d w. suc_same j k (own (suc j) (suc k) b y z h i d w)) f.now after (one.long ∙ long) f.rest k b ob h is info there
    where
      suc_same : (j k : ℕ) → suc j ≡ suc k → j ≡ k
      suc_same j k e = omega (arith, e)

  no_parameter : (b : ℕ) → flow.parameters.items ≡ [] → HasParameter u flow naming memory entered b → ⊥
  no_parameter b none h = none_there h.at h.parameter (sym (ap (λ z. slice_get z h.at) none) ∙ h.among)
    where
      none_there : (k : ℕ) (x : ParameterInput) → slice_get [] k ≡ Some x → ⊥
      none_there k x e = cc

  objects_tell : flow.parameters.items ≡ [] → (row mid : List (Cell I)) → length row ≡ flow.width → begun_from 0 flow.initial.items (Some (empty_row l flow row)) ≡ Some mid → ExactState l n flow mid state
  objects_tell none row mid long begun = record {
    temps = λ t scalar e. absurd (cc);
    leaves = λ b j i offset base leaf e f named place.
        let told : IsExact b base mid = elim (g.all i b (g.lives.named b i named)) [
          | inl h ↦ all_told 0 flow.initial.items g.objects g.own_objects (empty_row l flow row) mid (empty_long l n flow row ∙ long) begun h.at b h.object h.among h.base base e
          | inr h ↦ absurd (no_parameter b none h)
        ] in
        subst (λ z. ExactLeaf l n flow state (value_at l n mid (leaf_position base j)) i z leaf) (sym (place_is flow.model base.shape.cells base.size (objects b base e) (λ k other d. plain.apart b k base other e d) j offset leaf f place)) (told i named j leaf f);
  }

  row_tells : flow.parameters.items ≡ [] → (row after : List (Cell I)) → length row ≡ flow.width → start_row l n flow row ≡ Some after → ExactState l n flow after state
  unfolding start_row start_objects start_parameters
  row_tells none row after long e = by_row (begun_from 0 flow.initial.items (Some (empty_row l flow row))) refl
    where
      none_is : started l n flow None ≡ Some after → ⊥
      none_is h = cc

      by_row : (r : Option (List (Cell I))) → begun_from 0 flow.initial.items (Some (empty_row l flow row)) ≡ r → ExactState l n flow after state
      by_row None f = absurd (none_is (subst (λ z. started l n flow z ≡ Some after) f e))
      by_row (Some mid) f =
          let h : walk (parameter_at l n flow) 0 flow.parameters.items mid ≡ after = same_Some (walk (parameter_at l n flow) 0 flow.parameters.items mid) after (subst (λ z. started l n flow z ≡ Some after) f e) in
          let k : mid ≡ after = sym (ap (λ ps. walk (parameter_at l n flow) 0 ps mid) none) ∙ h in
          subst (λ z. ExactState l n flow z state) k (objects_tell none row mid long f)

module _ {I : Type 0} {l : LatticeOf I} {n : IntegersOf I} {gamma : I → ℤ → Type 0} (o : OrderLaws l) (q : BoundLaws l n gamma) (c : SoundLaws l n gamma) (ranges : RangeLaws l n) (exact : ExactLaws n) (flow : Flow) where
  pub start_is_exact : StartIsExact l n gamma flow
  start_is_exact limits good p objects plain none u same begins row after long e draws s run =
      let h = begins draws s run in
      let targets = targets_named u flow h.beginning.own_objects none draws s run in
      subst (λ t. ExactState l n flow after (record { memory = s.world.memory; temps = t; entered = s.bases })) (no_temps u (flow_view flow) (start_world u draws) s run)
      (row_tells o q c ranges exact flow limits good p objects plain u same h.naming s.world.memory s.bases h.beginning targets none row after long e)
