-- The row of the entry stands for the state in which a run begins.
use Rattle.std.proofs.Common.{◌≡◌, ℕ, zero, suc, ◌+◌, ◌<◌, ◌≤◌, Bool, true, false, cond, Option, Some, None, List, [], ◌∷◌, length, arith, subst, sym, refl, ap, ◌∙◌, inl, inr}
use Rattle.std.specs.Prelude.{slice_get, map, ℤ}
use Rattle.std.specs.Option.{unwrap_or}
use Rattle.std.proofs.lemmas.List.{length-map, length-set}
use Rattle.std.proofs.lemmas.Option.{same_Some}
use Rattle.cc_base.specs.Lattices.{LatticeOf, OrderLaws}
use Rattle.cc_base.specs.IntegerDomains.{IntegersOf, BoundLaws, RangeLaws}
use Rattle.cc_base.specs.IntegerLaws.{SoundLaws}
use Rattle.cc_base.specs.IntegerTypes.{is_size}
use Rattle.cc_base.specs.declared.limit_table.Limits.{Limits}
use Rattle.c_layout.specs.CheckedUnits.{UnitView}
use Rattle.c_layout.specs.declared.shapes.BaseInfo.{BaseInfo}
use Rattle.c_layout.specs.declared.shapes.BaseKind.TheVariants.{Static, Literal, Automatic}
use Rattle.cfg.specs.WellFormed.{base_values, is_well_formed}
use Rattle.cfg.specs.declared.programs.Flow.{Flow}
use Rattle.cfg.specs.declared.programs.InitialObject.{InitialObject}
use Rattle.cfg.specs.declared.programs.InitialValue.{InitialValue}
use Rattle.cfg.specs.declared.programs.InitialValue.TheVariants as initial
use Rattle.cfg.specs.declared.programs.ParameterInput.{ParameterInput}
use Rattle.value_domain.specs.Strings.FirstZeros.{zero_lattice}
use Rattle.value_domain.specs.Values.AllocStates.{state_lattice}
use Rattle.value_domain.specs.Values.LabelSets as sets
use Rattle.value_domain.specs.declared.values.row_cells.Cell.{Cell}
use Rattle.value_domain.specs.declared.values.row_cells.Cell.TheVariants.{Nothing, Value, First, State}
use Rattle.store_cells.specs.CellReads.{whole_range}
use Rattle.store_cells.specs.FirstZeroWrites.{set_part, set_zeros}
use Rattle.store_objects.specs.ObjectLives.{at_base, clear_object, clear}
use Rattle.store_cells.specs.RowPositions.{leaf_position, zero_position, state_position, cell_at, put_value, put_state}
use Rattle.store.specs.Spelling.{spell_object, spell}
use Rattle.store_cells.specs.Walks.{walk, turns}
use Rattle.transfer_system.specs.StartRows.{no_value, empty_state, empty_base, empty_base_at, empty_bases, empty_row, store_at, start_stores, start_value, start_object, object_at, start_objects, put_parameter, start_parameter, parameter_at, start_parameters, started, start_row}
use Rattle.memory_model.specs.Memory.Instances.{Memory}
use Rattle.memory_model.specs.Effects.NumberedTables.{empty_table}
use Rattle.memory_model.specs.Effects.Touches.{is_allocated}
use Rattle.memory_model.specs.Effects.UnitStarts.{start_world}
use Rattle.memory_model.specs.Effects.Worlds.{Reply, goes, stops}
use Rattle.lower_templates.specs.Views.ProgramViews.{FlowView, flow_view}
use Rattle.semantics.specs.CfgMachine.FlowStates.{ProgramState, running}
use Rattle.semantics.specs.CfgMachine.FlowStarts.{first_standing, begun_by}
use Rattle.store_sound.specs.Concretization.RowMeaning.{InGamma}
use Rattle.store_sound.specs.Concretization.SoundMemory.{storage_for}
use Rattle.store_sound.specs.Concretization.ValueMeaning.{Naming}
use Rattle.store_sound.proofs.operations.Slices.{get_set_other}
use Rattle.store_sound.proofs.operations.StoreRows as rows
use Rattle.store_sound.specs.Programs.Premises.{HasPremises}
use Rattle.store_sound.specs.Regions.RegionWrites.{InGammaBase}
use Rattle.store_sound.proofs.regions.BaseRows.{same_base}
use Rattle.library_sound.proofs.BlankRows as blank
use Rattle.entry_sound.specs.Starts.Parameters.{IsParameterObject}
use Rattle.entry_sound.specs.Starts.StartedRows.{HasStart, IsBegun, IsTaken, HasObject, HasParameter, IsBeginning, StartRowsStand, RunsBeginInStartRows}
use Rattle.entry_sound.proofs.cells.ClearedCells.{clear_only}
use Rattle.entry_sound.proofs.starts.LiteralCells.{literals_stand}
use Rattle.entry_sound.proofs.cells.OwnCells.{IsBeside, spell_within, stores_beside}
use Rattle.entry_sound.proofs.starts.ParameterCells.{parameters_stand}
use Rattle.entry_sound.proofs.starts.StaticSteps.{static_objects_stand}

-- ---- lengths

module _ {I : Type 0} (l : LatticeOf I) (n : IntegersOf I) (flow : Flow) where
  turns_long : (f : ℕ → List (Cell I) → List (Cell I)) → ((k : ℕ) (r : List (Cell I)) → length (f k r) ≡ length r) → (count : ℕ) (r : List (Cell I)) → length (turns f count r) ≡ length r
  turns_long f h zero r = refl
  turns_long f h (suc count) r = h count (turns f count r) ∙ turns_long f h count r

  empty_base_long : (base : BaseInfo) (r : List (Cell I)) → length (empty_base l base r) ≡ length r
  unfolding empty_base empty_state set_zeros
  empty_base_long base r = by_heap base.shape.heap ∙ turns_long (set_part base (zero_lattice l).least) (λ k x. length-set x (zero_position base k) (First (zero_lattice l).least)) (length base.shape.zeros) r
    where
      by_heap : (heap : Bool) → length (cond heap (put_state (set_zeros base (zero_lattice l).least r) (state_position base) (state_lattice l).least) (set_zeros base (zero_lattice l).least r)) ≡ length (set_zeros base (zero_lattice l).least r)
      by_heap true = length-set (set_zeros base (zero_lattice l).least r) (state_position base) (State (state_lattice l).least)
      by_heap false = refl

  bases_long : (at : ℕ) (ks : List BaseInfo) (r : List (Cell I)) → length (walk (empty_base_at l) at ks r) ≡ length r
  bases_long at [] r = refl
  bases_long at (k ∷ ks) r = bases_long (at + 1) ks (empty_base l k r) ∙ empty_base_long k r

  pub empty_long : (row : List (Cell I)) → length (empty_row l flow row) ≡ length row
  unfolding empty_row empty_bases
  empty_long row = bases_long 0 flow.bases.items (map (no_value l) row) ∙ length-map row (no_value l)

-- ---- rows beside some cells

module _ {I : Type 0} {l : LatticeOf I} {n : IntegersOf I} {gamma : I → ℤ → Type 0} (o : OrderLaws l) (q : BoundLaws l n gamma) (c : SoundLaws l n gamma) (ranges : RangeLaws l n) (flow : Flow) (limits : Limits) (good : is_well_formed limits flow ≡ true) (p : HasPremises flow) (u : UnitView) (same : u.model ≡ flow.model)
    (naming : Naming) (memory : Memory) (entered : ℕ → Option ℕ) (g : IsBeginning u flow naming memory entered) where
  fits : (b : ℕ) (info : BaseInfo) → slice_get flow.bases.items b ≡ Some info → rows.Fits info
  fits b info at = let a = p.laid.laid.close b info at in let d = p.laid.laid.small in omega (arith, a, d)

  heapless : (b i : ℕ) (info : BaseInfo) (value : InitialValue) → slice_get flow.bases.items b ≡ Some info → HasStart u flow naming memory entered b i info value → info.shape.heap ≡ false
  heapless b i info (initial.Stores stores) at h = sym (p.shaped.each b info at).kind ∙ ap (λ k. is_allocated (storage_for k)) h.0.static
  heapless b i info (initial.Literal text) at h = sym (p.shaped.each b info at).kind ∙ ap (λ k. is_allocated (storage_for k)) h.kind

  -- an object that starts leaves the cells of others
  value_beside : (b i size : ℕ) (info : BaseInfo) (value : InitialValue) (at : slice_get flow.bases.items b ≡ Some info) (declared : info.shape.heap ≡ false) → (row after : List (Cell I)) → start_value l n flow b size value row ≡ Some after → IsBeside l n flow info (fits b info at) declared row after
  unfolding start_value start_stores clear spell
  value_beside b i size info (initial.Stores stores) at declared row after e =
      let f : walk (store_at l n flow b size) 0 stores.items (Some (clear_object l n info row)) ≡ Some after = subst (λ z. walk (store_at l n flow b size) 0 stores.items (Some (at_base (clear_object l n) z row)) ≡ Some after) at e in
      let s = stores_beside l n flow info (fits b info at) declared b at size 0 stores.items (clear_object l n info row) after f in
      let k = clear_only l n info (fits b info at) (blank.cells_are flow p b info at declared) in
      record { long = s.long ∙ k.long row; keeps = λ x ne. s.keeps x ne ∙ k.keeps row x ne }
  value_beside b i size info (initial.Literal text) at declared row after e =
      let w = spell_within l n flow info (fits b info at) declared 0 size text in
      let f : spell_object l n 0 size text info row ≡ after = sym (ap (λ z. at_base (spell_object l n 0 size text) z row) at) ∙ same_Some (at_base (spell_object l n 0 size text) (slice_get flow.bases.items b) row) after e in
      subst (IsBeside l n flow info (fits b info at) declared row) f (record { long = w.long row; keeps = w.keeps row })

  -- and its own cells stand for its bytes
  value_stands : (b i : ℕ) (info : BaseInfo) (value : InitialValue) → HasStart u flow naming memory entered b i info value → (row after : List (Cell I)) → length row ≡ flow.width → start_value l n flow b info.size value row ≡ Some after → InGammaBase l n gamma flow naming memory b info after
  unfolding start_value
  value_stands b i info (initial.Stores stores) h row after long e = static_objects_stand o q c ranges flow limits good p u same naming memory entered g.sane g.lives g.short b i info h.0 stores.items h.1.0 h.1.1 row after long e
  value_stands b i info (initial.Literal text) h row after long e =
      subst (InGammaBase l n gamma flow naming memory b info) (same_Some (spell l n flow.bases.items b 0 info.size text row) after e) (literals_stand o q flow limits good p naming memory g.sane b i info text h row long)

  -- ---- objects in order

  -- the position is none of a base
  abbrev pub IsOutside : ℕ → ℕ → Type 0
  IsOutside x b = (info : BaseInfo) → slice_get flow.bases.items b ≡ Some info → info.first ≤ x → x < info.first + base_values info → ⊥

  -- a row behind, as long, with the same cells where something holds of the position
  pub record IsKept (row after : List (Cell I)) (Apart : ℕ → Type 0) : Type 0 where
    pub long : length after ≡ length row
    pub cells : (x : ℕ) → Apart x → cell_at after x ≡ cell_at row x

  abbrev pub AreBegun : List InitialObject → Type 0
  AreBegun os = (k b : ℕ) (x : InitialObject) → slice_get os k ≡ Some x → x.base ≡ Some b → IsBegun u flow naming memory entered b x

  abbrev pub IsApart : InitialObject → ℕ → Type 0
  IsApart ob x = (b : ℕ) → ob.base ≡ Some b → IsOutside x b

  abbrev pub AreApart : List InitialObject → ℕ → Type 0
  AreApart os x = (k : ℕ) (ob : InitialObject) → slice_get os k ≡ Some ob → IsApart ob x

  abbrev pub starts : ℕ → List InitialObject → Option (List (Cell I)) → Option (List (Cell I))
  starts at os row = walk (object_at l n flow) at os row

  pub one_kept : (base : Option ℕ) (ob : InitialObject) → ob.base ≡ base → ((b : ℕ) → ob.base ≡ Some b → IsBegun u flow naming memory entered b ob) → (row after : List (Cell I)) → start_object l n flow base ob.size ob.value row ≡ Some after → IsKept row after (IsApart ob)
  unfolding start_object
  one_kept None ob is begun row after e = subst (λ z. IsKept row z (IsApart ob)) (same_Some row after e) (record { long = refl; cells = λ x apart. refl })
  one_kept (Some b) ob is begun row after e =
      let h = begun b is in
      let s = value_beside b h.instance ob.size h.info ob.value h.among (heapless b h.instance h.info ob.value h.among h.starts) row after e in
      record { long = s.long; cells = λ x apart. s.keeps x (apart b is h.info h.among) }

  none_stays : (k : ℕ) (os : List InitialObject) (after : List (Cell I)) → starts k os None ≡ Some after → ⊥
  none_stays k [] after e = cc
  none_stays k (s ∷ ss) after e = none_stays (k + 1) ss after e

  -- a first object, and those behind it
  pub record IsFirst (ob : InitialObject) (at : ℕ) (os : List InitialObject) (row after : List (Cell I)) : Type 0 where
    pub now : List (Cell I)
    pub made : start_object l n flow ob.base ob.size ob.value row ≡ Some now
    pub rest : starts at os (Some now) ≡ Some after

  pub first_of : (ob : InitialObject) (at : ℕ) (os : List InitialObject) (row after : List (Cell I)) → starts at (ob ∷ os) (Some row) ≡ Some after → IsFirst ob (at + 1) os row after
  first_of ob at os row after e = by_row (start_object l n flow ob.base ob.size ob.value row) refl
    where
      by_row : (r : Option (List (Cell I))) → start_object l n flow ob.base ob.size ob.value row ≡ r → IsFirst ob (at + 1) os row after
      by_row None f = absurd (none_stays (at + 1) os after (subst (λ z. starts (at + 1) os z ≡ Some after) f e))
      by_row (Some now) f = record { now = now; made = f; rest = subst (λ z. starts (at + 1) os z ≡ Some after) f e }

  pub all_kept : (at : ℕ) (os : List InitialObject) → AreBegun os → (row after : List (Cell I)) → starts at os (Some row) ≡ Some after → IsKept row after (AreApart os)
  all_kept at [] begun row after e = subst (λ z. IsKept row z (AreApart [])) (same_Some row after e) (record { long = refl; cells = λ x apart. refl })
  all_kept at (ob ∷ os) begun row after e =
      let f = first_of ob at os row after e in
      let one = one_kept ob.base ob refl (λ b i. begun 0 b ob refl i) row f.now f.made in
      let more = all_kept (at + 1) os (λ k b y h i. begun (suc k) b y h i) f.now after f.rest in
      record { long = more.long ∙ one.long; cells = λ x apart. more.cells x (λ k y h. apart (suc k) y h) ∙ one.cells x (apart 0 ob refl) }

  -- cells of a base are none of another one
  pub base_apart : (b d : ℕ) (info : BaseInfo) → slice_get flow.bases.items b ≡ Some info → (b ≡ d → ⊥) → (x : ℕ) → info.first ≤ x → x < info.first + base_values info → IsOutside x d
  base_apart b d info at ne x from to other e f h = elim (p.laid.laid.apart b d info other at e ne) [ inl y ↦ omega (arith, y, to, f) | inr y ↦ omega (arith, y, from, h) ]

  made_stands : (b : ℕ) (base : Option ℕ) (ob : InitialObject) → base ≡ Some b → IsBegun u flow naming memory entered b ob → (row now : List (Cell I)) → length row ≡ flow.width → start_object l n flow base ob.size ob.value row ≡ Some now → (info : BaseInfo) → slice_get flow.bases.items b ≡ Some info → InGammaBase l n gamma flow naming memory b info now
  unfolding start_object
  made_stands b None ob is h row now long e info at = absurd (cc)
  made_stands b (Some d) ob is h row now long e info at =
      let same_base_number : d ≡ b = same_Some d b is in
      let f : start_value l n flow b ob.size ob.value row ≡ Some now = subst (λ z. start_value l n flow z ob.size ob.value row ≡ Some now) same_base_number e in
      let k : start_value l n flow b h.info.size ob.value row ≡ Some now = subst (λ z. start_value l n flow b z ob.value row ≡ Some now) (sym h.size) f in
      subst (λ z. InGammaBase l n gamma flow naming memory b z now) (same_Some h.info info (sym h.among ∙ at)) (value_stands b h.instance h.info ob.value h.starts row now long k)

  abbrev pub AreOwn : List InitialObject → Type 0
  AreOwn os = (j k b : ℕ) (x y : InitialObject) → slice_get os j ≡ Some x → slice_get os k ≡ Some y → x.base ≡ Some b → y.base ≡ Some b → j ≡ k

  all_stand : (at : ℕ) (os : List InitialObject) → AreBegun os → AreOwn os → (row after : List (Cell I)) → length row ≡ flow.width → starts at os (Some row) ≡ Some after → (k b : ℕ) (ob : InitialObject) → slice_get os k ≡ Some ob → ob.base ≡ Some b → (info : BaseInfo) → slice_get flow.bases.items b ≡ Some info → InGammaBase l n gamma flow naming memory b info after
  all_stand at [] begun own row after long e k b ob h is info there = absurd (cc)
  all_stand at (x ∷ os) begun own row after long e zero b ob h is info there =
      let f = first_of x at os row after e in
      let first : x ≡ ob = same_Some x ob h in
      let here : x.base ≡ Some b = ap (λ z. z.base) first ∙ is in
      let s = made_stands b x.base x here (begun 0 b x refl here) row f.now long f.made info there in
      let kept = all_kept (at + 1) os (λ k b y h i. begun (suc k) b y h i) f.now after f.rest in
      same_base flow naming memory b info f.now after (fits b info there) (λ a from to. kept.cells a (λ k y h2 d i. base_apart b d info there (λ ne. let w : 0 ≡ suc k = own 0 (suc k) b x y refl h2 here (i ∙ ap Some (sym ne)) in absurd (cc)) a from to)) s
  all_stand at (x ∷ os) begun own row after long e (suc k) b ob h is info there =
      let f = first_of x at os row after e in
      let one = one_kept x.base x refl (λ b i. begun 0 b x refl i) row f.now f.made in
      all_stand (at + 1) os (λ k b y h i. begun (suc k) b y h i) (λ j k b y z h i d w. suc_same j k (own (suc j) (suc k) b y z h i d w)) f.now after (one.long ∙ long) f.rest k b ob h is info there
    where
      suc_same : (j k : ℕ) → suc j ≡ suc k → j ≡ k
      suc_same j k e = omega (arith, e)

  -- ---- parameters in order

  abbrev AreTaken : List ParameterInput → Type 0
  AreTaken ps = (k : ℕ) (x : ParameterInput) → slice_get ps k ≡ Some x → IsTaken u flow naming memory entered x

  abbrev AreFar : List ParameterInput → ℕ → Type 0
  AreFar ps x = (k : ℕ) (y : ParameterInput) → slice_get ps k ≡ Some y → IsOutside x y.base

  takes : ℕ → List ParameterInput → List (Cell I) → List (Cell I)
  takes at ps row = walk (parameter_at l n flow) at ps row

  put_kept : (x : ParameterInput) → IsTaken u flow naming memory entered x → (row : List (Cell I)) → IsKept row (put_parameter l n x.kind (slice_get flow.bases.items x.base) row) (λ a. IsOutside a x.base)
  put_kept x h row = subst (λ z. IsKept row (put_parameter l n x.kind z row) (λ a. IsOutside a x.base)) (sym h.object.among) (by_size (is_size x.kind.bytes))
    where
      by_size : (size : Bool) → IsKept row (cond size (put_value row (leaf_position h.info 0) (whole_range l n x.kind (sets.input_labels x.kind) false)) row) (λ a. IsOutside a x.base)
      by_size true = record {
        long = length-set row (leaf_position h.info 0) (Value (whole_range l n x.kind (sets.input_labels x.kind) false));
        cells = λ a apart.
            let few : length h.info.shape.cells ≡ 1 = ap length h.object.cells in
            let here = rows.leaf_is h.info 0 (fits x.base h.info h.object.among) (omega (arith, few)) in
            ap (λ z. unwrap_or z Nothing) (get_set_other row (leaf_position h.info 0) a (Value (whole_range l n x.kind (sets.input_labels x.kind) false)) (λ e. apart h.info h.object.among (omega (arith, e, here)) (omega (arith, e, here, few))));
      }
      by_size false = record { long = refl; cells = λ a apart. refl }

  taken_kept : (at : ℕ) (ps : List ParameterInput) → AreTaken ps → (row : List (Cell I)) → IsKept row (takes at ps row) (AreFar ps)
  unfolding takes start_parameter
  taken_kept at [] taken row = record { long = refl; cells = λ x apart. refl }
  taken_kept at (x ∷ ps) taken row =
      let one = put_kept x (taken 0 x refl) row in
      let more = taken_kept (at + 1) ps (λ k y h. taken (suc k) y h) (put_parameter l n x.kind (slice_get flow.bases.items x.base) row) in
      record { long = more.long ∙ one.long; cells = λ a apart. more.cells a (λ k y h. apart (suc k) y h) ∙ one.cells a (apart 0 x refl) }

  abbrev AreOwnTo : List ParameterInput → Type 0
  AreOwnTo ps = (j k : ℕ) (x y : ParameterInput) → slice_get ps j ≡ Some x → slice_get ps k ≡ Some y → x.base ≡ y.base → j ≡ k

  taken_stand : (at : ℕ) (ps : List ParameterInput) → AreTaken ps → AreOwnTo ps → (row : List (Cell I)) → length row ≡ flow.width → (k : ℕ) (y : ParameterInput) → slice_get ps k ≡ Some y → (info : BaseInfo) → slice_get flow.bases.items y.base ≡ Some info → InGammaBase l n gamma flow naming memory y.base info (takes at ps row)
  unfolding takes start_parameter
  taken_stand at [] taken own row long k y h info there = absurd (cc)
  taken_stand at (x ∷ ps) taken own row long zero y h info there =
      let first : x ≡ y = same_Some x y h in
      let t = taken 0 y (ap Some first) in
      let now : List (Cell I) = put_parameter l n y.kind (slice_get flow.bases.items y.base) row in
      let s : InGammaBase l n gamma flow naming memory y.base info now = subst (λ z. InGammaBase l n gamma flow naming memory y.base z now) (same_Some t.info info (sym t.object.among ∙ there)) (parameters_stand o q flow p naming memory g.sane y.base t.instance t.info y.kind t.object row long) in
      let kept = taken_kept (at + 1) ps (λ k z h. taken (suc k) z h) now in
      let last = same_base flow naming memory y.base info now (takes (at + 1) ps now) (fits y.base info there) (λ a from to. kept.cells a (λ k z h2. base_apart y.base z.base info there (λ ne. let w : 0 ≡ suc k = own 0 (suc k) y z (ap Some first) h2 ne in absurd (cc)) a from to)) s in
      subst (λ z. InGammaBase l n gamma flow naming memory y.base info (takes (at + 1) ps (put_parameter l n z.kind (slice_get flow.bases.items z.base) row))) (sym first) last
  taken_stand at (x ∷ ps) taken own row long (suc k) y h info there =
      let one = put_kept x (taken 0 x refl) row in
      taken_stand (at + 1) ps (λ k z h. taken (suc k) z h) (λ j k z w h i e. suc_same j k (own (suc j) (suc k) z w h i e)) (put_parameter l n x.kind (slice_get flow.bases.items x.base) row) (one.long ∙ long) k y h info there
    where
      suc_same : (j k : ℕ) → suc j ≡ suc k → j ≡ k
      suc_same j k e = omega (arith, e)

  -- ---- the row

  -- an initial object is no parameter
  other_kind : (b i j : ℕ) (info : BaseInfo) (value : InitialValue) (kind : _) → HasStart u flow naming memory entered b i info value → IsParameterObject flow naming memory b j info kind → ⊥
  other_kind b i j info (initial.Stores stores) kind h k = let e : Static ≡ Automatic = sym h.0.static ∙ k.automatic in absurd (cc)
  other_kind b i j info (initial.Literal text) kind h k = let e : Literal ≡ Automatic = sym h.kind ∙ k.automatic in absurd (cc)

  module _ (row mid : List (Cell I)) (long : length row ≡ flow.width) (begun : starts 0 flow.initial.items (Some (empty_row l flow row)) ≡ Some mid) where
    first_long : length (empty_row l flow row) ≡ flow.width
    first_long = empty_long l n flow row ∙ long

    mid_long : length mid ≡ flow.width
    mid_long = (all_kept 0 flow.initial.items g.objects (empty_row l flow row) mid begun).long ∙ first_long

    abbrev last : List (Cell I)
    last = takes 0 flow.parameters.items mid

    object_stands : (b : ℕ) → HasObject u flow naming memory entered b → (info : BaseInfo) → slice_get flow.bases.items b ≡ Some info → InGammaBase l n gamma flow naming memory b info last
    object_stands b h info there =
        let s = all_stand 0 flow.initial.items g.objects g.own_objects (empty_row l flow row) mid first_long begun h.at b h.object h.among h.base info there in
        let kept = taken_kept 0 flow.parameters.items g.parameters mid in
        same_base flow naming memory b info mid last (fits b info there) (λ a from to. kept.cells a (λ k y i. base_apart b y.base info there (λ ne.
        let x = g.objects h.at b h.object h.among h.base in
        let t = g.parameters k y i in
        let same_info : t.info ≡ x.info = same_Some t.info x.info (sym t.object.among ∙ (ap (slice_get flow.bases.items) (sym ne) ∙ x.among)) in
        other_kind b x.instance t.instance x.info h.object.value y.kind x.starts (subst (λ z. IsParameterObject flow naming memory z t.instance x.info y.kind) (sym ne) (subst (λ z. IsParameterObject flow naming memory y.base t.instance z y.kind) same_info t.object))) a from to)) s

    parameter_stands : (b : ℕ) → HasParameter u flow naming memory entered b → (info : BaseInfo) → slice_get flow.bases.items b ≡ Some info → InGammaBase l n gamma flow naming memory b info last
    parameter_stands b h info there = subst (λ z. InGammaBase l n gamma flow naming memory z info last) h.base (taken_stand 0 flow.parameters.items g.parameters g.own_parameters mid mid_long h.at h.parameter h.among info (ap (slice_get flow.bases.items) h.base ∙ there))

    named_stands : (i b : ℕ) → naming i ≡ Some b → (info : BaseInfo) → slice_get flow.bases.items b ≡ Some info → InGammaBase l n gamma flow naming memory b info last
    named_stands i b named info there = elim (g.all i b named) [
      | inl h ↦ object_stands b h info there
      | inr h ↦ parameter_stands b h info there
    ]

    all_stands : InGamma l n gamma flow naming last (record { memory = memory; temps = empty_table; entered = entered })
    all_stands = record {
      sane = g.sane;
      held = record { within = λ t scalar e. absurd (cc); named = λ t x e. absurd (cc) };
      lives = g.lives;
      leaves = λ b j base leaf e f. record {
        whole = λ i a ns w place plain holds. ((named_stands i b w.named base e).leaves j leaf f).whole i a ns w place plain holds;
        byte = λ i a k content w owns m. ((named_stands i b w.named base e).leaves j leaf f).byte i a k content w owns m;
      };
      classes = λ b k base e heap small. record {
        whole = λ i a ns w place plain holds. ((named_stands i b w.named base e).classes k heap small).whole i a ns w place plain holds;
        byte = λ i a j content w owns m. ((named_stands i b w.named base e).classes k heap small).byte i a j content w owns m;
      };
      zeros = λ b z i base array e f w. (named_stands i b w.named base e).zeros z i array f w;
      states = λ b i base e heap named. (named_stands i b named base e).states i heap named;
      temps = λ t scalar e. absurd (cc);
    }

  row_stands : (row after : List (Cell I)) → length row ≡ flow.width → start_row l n flow row ≡ Some after → InGamma l n gamma flow naming after (record { memory = memory; temps = empty_table; entered = entered })
  unfolding start_row start_objects start_parameters takes
  row_stands row after long e = by_row (starts 0 flow.initial.items (Some (empty_row l flow row))) refl
    where
      by_row : (r : Option (List (Cell I))) → starts 0 flow.initial.items (Some (empty_row l flow row)) ≡ r → InGamma l n gamma flow naming after (record { memory = memory; temps = empty_table; entered = entered })
      by_row None f = absurd (none_is (subst (λ z. started l n flow z ≡ Some after) f e))
        where
          none_is : started l n flow None ≡ Some after → ⊥
          none_is h = cc
      by_row (Some mid) f = subst (λ z. InGamma l n gamma flow naming z (record { memory = memory; temps = empty_table; entered = entered })) (same_Some (takes 0 flow.parameters.items mid) after (subst (λ z. started l n flow z ≡ Some after) f e)) (all_stands row mid long f)

  row_long : (row after : List (Cell I)) → length row ≡ flow.width → start_row l n flow row ≡ Some after → length after ≡ flow.width
  unfolding start_row start_objects start_parameters takes
  row_long row after long e = by_row (starts 0 flow.initial.items (Some (empty_row l flow row))) refl
    where
      none_is : started l n flow None ≡ Some after → ⊥
      none_is h = cc

      by_row : (r : Option (List (Cell I))) → starts 0 flow.initial.items (Some (empty_row l flow row)) ≡ r → length after ≡ flow.width
      by_row None f = absurd (none_is (subst (λ z. started l n flow z ≡ Some after) f e))
      by_row (Some mid) f =
          let same_row = same_Some (takes 0 flow.parameters.items mid) after (subst (λ z. started l n flow z ≡ Some after) f e) in
          sym (ap length same_row) ∙ ((taken_kept 0 flow.parameters.items g.parameters mid).long ∙ mid_long row mid long f)

-- no temporary has anything at the start of a run
pub no_temps : (u : UnitView) (f : FlowView) (r : Reply (Unit {0})) (s : ProgramState) → begun_by u f r ≡ running s [] → empty_table ≡ s.temps
no_temps u f (goes x w) s e = let h : first_standing u f w ≡ s = cc in ap (λ z. z.temps) h
no_temps u f (stops why w) s e = absurd (cc)

module _ {I : Type 0} {l : LatticeOf I} {n : IntegersOf I} {gamma : I → ℤ → Type 0} (o : OrderLaws l) (q : BoundLaws l n gamma) (c : SoundLaws l n gamma) (ranges : RangeLaws l n) (flow : Flow) where
  pub runs_begin : RunsBeginInStartRows l n gamma flow
  runs_begin limits good p u same begins row after long e draws s run =
      let h = begins draws s run in
      let st = row_stands o q c ranges flow limits good p u same h.naming s.world.memory s.bases h.beginning row after long e in
      record {
        row = after;
        is = refl;
        long = row_long o q c ranges flow limits good p u same h.naming s.world.memory s.bases h.beginning row after long e;
        naming = h.naming;
        stands_for = subst (λ t. InGamma l n gamma flow h.naming after (record { memory = s.world.memory; temps = t; entered = s.bases })) (no_temps u (flow_view flow) (start_world u draws) s run) st;
        short = h.beginning.short;
      }

  pub start_rows_stand : StartRowsStand l n gamma flow
  start_rows_stand limits good p u same naming memory entered g row after long e = row_stands o q c ranges flow limits good p u same naming memory entered g row after long e
