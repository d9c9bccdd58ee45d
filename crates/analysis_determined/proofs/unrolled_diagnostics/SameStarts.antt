-- The row of the entry hangs on the parts of a program.
use Rattle.std.specs.Prelude.{◌≡◌, ℕ, ◌+◌, cond, Option, Some, None, List, [], ◌∷◌, map, refl}
use Rattle.std.proofs.Common.{sym, ap, ap₂, ◌∙◌}
use Rattle.cc_base.specs.Lattices.{LatticeOf}
use Rattle.cc_base.specs.IntegerDomains.{IntegersOf}
use Rattle.c_layout.specs.CheckedUnits.{StaticStoreView, static_store_view}
use Rattle.c_layout.specs.CheckedUnits as views
use Rattle.c_layout.specs.declared.checked_tree.checked_units.StaticBase.{StaticBase}
use Rattle.c_layout.specs.declared.checked_tree.checked_units.StaticStore.{StaticStore}
use Rattle.c_layout.specs.declared.checked_tree.checked_units.StaticStore.TheVariants as one
use Rattle.c_layout.specs.declared.checked_tree.checked_units.StaticValue.{StaticValue}
use Rattle.c_layout.specs.declared.checked_tree.checked_units.StaticValue.TheVariants as value
use Rattle.cfg.specs.declared.programs.Flow.{Flow}
use Rattle.cfg.specs.declared.programs.InitialObject.{InitialObject}
use Rattle.cfg.specs.declared.programs.InitialValue.{InitialValue}
use Rattle.cfg.specs.declared.programs.InitialValue.TheVariants as init
use Rattle.cfg.specs.declared.programs.ParameterInput.{ParameterInput}
use Rattle.lower_templates.specs.Views.ProgramViews.{Stored, Spelled, bytes, InitialView, initial}
use Rattle.value_domain.specs.declared.values.row_cells.Cell.{Cell}
use Rattle.value_domain.specs.declared.values.values.Value.{Value}
use Rattle.value_domain.specs.Values.ValueTables.{pointer_value}
use Rattle.store_cells.specs.NearValues.{near_pointer, near_value}
use Rattle.store_objects.specs.ObjectLives.{clear}
use Rattle.store.specs.Spelling.{spell}
use Rattle.store.specs.Stores.{store}
use Rattle.store_cells.specs.Walks.{walk}
use Rattle.transfer_system.specs.StartRows.{with_size, same_object, base_in, static_class, pointer_into, static_pointer, static_value, store_static, start_store, store_at, start_stores, start_value, start_object, object_at, start_objects, start_parameter, parameter_at, start_parameters, empty_row, started, start_row}
use Rattle.analysis_determined.specs.UnrolledDiagnostics.SameParts.{SameParts}
use Rattle.analysis_determined.proofs.unrolled_diagnostics.SameOperations.{core, core_is}

-- ---- stores by their views

abbrev store_of : StaticStoreView → StaticStore
store_of (views.SetValue offset v) = one.Value offset v
store_of (views.SetText offset room text) = one.Spell offset room text

store_back : (s : StaticStore) → store_of (static_store_view s) ≡ s
store_back (one.Value offset v) = refl
store_back (one.Spell offset room text) = refl

stores_back : (ss : List StaticStore) → map store_of (map static_store_view ss) ≡ ss
stores_back [] = refl
stores_back (s ∷ ss) = ap₂ (λ x y. x ∷ y) (store_back s) (stores_back ss)

same_stores : (xs ys : List StaticStore) → map static_store_view xs ≡ map static_store_view ys → xs ≡ ys
same_stores xs ys e = sym (stores_back xs) ∙ (ap (map store_of) e ∙ stores_back ys)

stored_same : (xs ys : List StaticStoreView) → Stored xs ≡ Stored ys → xs ≡ ys
stored_same xs ys e = cc

spelled_same : (xs ys : List ℕ) → Spelled xs ≡ Spelled ys → xs ≡ ys
spelled_same xs ys e = cc

-- ---- objects by their views

head_same : (v w : InitialView) (vs ws : List InitialView) → ◌≡◌ {A = List InitialView} (v ∷ vs) (w ∷ ws) → v ≡ w
head_same v w vs ws e = cc

rest_same : (v w : InitialView) (vs ws : List InitialView) → ◌≡◌ {A = List InitialView} (v ∷ vs) (w ∷ ws) → vs ≡ ws
rest_same v w vs ws e = cc

base_in_same : (os ps : List InitialObject) → map initial os ≡ map initial ps → (object : StaticBase) → base_in os object ≡ base_in ps object
base_in_same [] [] e object = refl
base_in_same [] (p ∷ ps) e object = absurd (cc)
base_in_same (o ∷ os) [] e object = absurd (cc)
base_in_same (o ∷ os) (p ∷ ps) e object =
    let v = head_same (initial o) (initial p) (map initial os) (map initial ps) e in
    let r = base_in_same os ps (rest_same (initial o) (initial p) (map initial os) (map initial ps) e) object in
    ap₂ (λ (w : InitialView) z. cond (same_object w.object object) (with_size w.base w.size) z) v r

walk_same : {K S : Type 0} (f g : K → ℕ → S → S) → ((k : K) (at : ℕ) (s : S) → f k at s ≡ g k at s) → (at : ℕ) (ks : List K) (s : S) → walk f at ks s ≡ walk g at ks s
walk_same f g h at [] s = refl
walk_same f g h at (k ∷ ks) s = walk_same f g h (at + 1) ks (f k at s) ∙ ap (walk g (at + 1) ks) (h k at s)

module _ {I : Type 0} (l : LatticeOf I) (n : IntegersOf I) (f g : Flow) (h : SameParts f g) where
  abbrev mid : Flow
  mid = core f g h

  -- ---- stores

  abbrev static_at : Option (ℕ × ℕ) → ℕ → ℕ → ℕ → Value I
  static_at b offset lo hi = pointer_value l (static_pointer l n b offset lo hi)

  static_same : (v : StaticValue) → static_value l n g.initial.items v ≡ static_value l n f.initial.items v
  static_same (value.Number number kind) = refl
  static_same value.Null = refl
  static_same (value.Address object offset lo hi) = ap (λ z. static_at z offset lo hi) (base_in_same g.initial.items f.initial.items (sym h.initial) object)

  static_stored : (base size offset : ℕ) (v : StaticValue) (row : List (Cell I)) → store_static l n mid base size offset v row ≡ store_static l n f base size offset v row
  unfolding store_static
  static_stored base size offset v row = ap (λ z. store l n f.model f.bases.items (near_pointer l n (pointer_into n base size offset 0 size)) (static_class v).0 (static_class v).1 (near_value l n z) row) (static_same v)

  one_stored : (base size : ℕ) (s : StaticStore) (row : List (Cell I)) → start_store l n mid base size s row ≡ start_store l n f base size s row
  unfolding start_store
  one_stored base size (one.Value offset v) row = static_stored base size offset v row
  one_stored base size (one.Spell offset room text) row = refl

  one_behind : (base size : ℕ) (s : StaticStore) (at : ℕ) (x : Option (List (Cell I))) → store_at l n mid base size s at x ≡ store_at l n f base size s at x
  one_behind base size s at None = refl
  one_behind base size s at (Some row) = one_stored base size s row

  all_stored : (base size : ℕ) (ss : List StaticStore) (row : List (Cell I)) → start_stores l n mid base size ss row ≡ start_stores l n f base size ss row
  unfolding start_stores
  all_stored base size ss row = walk_same (store_at l n mid base size) (store_at l n f base size) (one_behind base size) 0 ss (Some row)

  -- ---- objects

  value_same : (base size : ℕ) (v w : InitialValue) → bytes v ≡ bytes w → (row : List (Cell I)) → start_value l n mid base size v row ≡ start_value l n f base size w row
  unfolding start_value
  value_same base size (init.Stores xs) (init.Stores ys) e row =
      all_stored base size xs.items (clear l n f.bases.items base row)
      ∙ ap (λ zs. start_stores l n f base size zs (clear l n f.bases.items base row)) (same_stores xs.items ys.items (stored_same (map static_store_view xs.items) (map static_store_view ys.items) e))
  value_same base size (init.Stores xs) (init.Literal text) e row = absurd (cc)
  value_same base size (init.Literal text) (init.Stores ys) e row = absurd (cc)
  value_same base size (init.Literal text) (init.Literal other) e row = ap (λ zs. Some (spell l n f.bases.items base 0 size zs row)) (spelled_same text other e)

  object_same : (base : Option ℕ) (size : ℕ) (v w : InitialValue) → bytes v ≡ bytes w → (row : List (Cell I)) → start_object l n mid base size v row ≡ start_object l n f base size w row
  unfolding start_object
  object_same None size v w e row = refl
  object_same (Some base) size v w e row = value_same base size v w e row

  object_behind_same : (o p : InitialObject) → initial o ≡ initial p → (at : ℕ) (x : Option (List (Cell I))) → object_at l n mid o at x ≡ object_at l n f p at x
  object_behind_same o p e at None = refl
  object_behind_same o p e at (Some row) =
      object_same o.base o.size o.value p.value (ap (λ (v : InitialView). v.first) e) row
      ∙ ap (λ (v : InitialView). start_object l n f v.base v.size p.value row) e

  objects_same : (os ps : List InitialObject) → map initial os ≡ map initial ps → (at : ℕ) (x : Option (List (Cell I))) → walk (object_at l n mid) at os x ≡ walk (object_at l n f) at ps x
  objects_same [] [] e at x = refl
  objects_same [] (p ∷ ps) e at x = absurd (cc)
  objects_same (o ∷ os) [] e at x = absurd (cc)
  objects_same (o ∷ os) (p ∷ ps) e at x =
      objects_same os ps (rest_same (initial o) (initial p) (map initial os) (map initial ps) e) (at + 1) (object_at l n mid o at x)
      ∙ ap (walk (object_at l n f) (at + 1) ps) (object_behind_same o p (head_same (initial o) (initial p) (map initial os) (map initial ps) e) at x)

  all_objects : (row : List (Cell I)) → start_objects l n mid g.initial.items row ≡ start_objects l n f f.initial.items row
  unfolding start_objects
  all_objects row = objects_same g.initial.items f.initial.items (sym h.initial) 0 (Some row)

  -- ---- parameters

  parameter_same : (p : ParameterInput) (at : ℕ) (row : List (Cell I)) → parameter_at l n mid p at row ≡ parameter_at l n f p at row
  unfolding start_parameter
  parameter_same p at row = refl

  parameters_same : (row : List (Cell I)) → start_parameters l n mid row ≡ start_parameters l n f row
  unfolding start_parameters
  parameters_same row =
      walk_same (parameter_at l n mid) (parameter_at l n f) parameter_same 0 g.parameters.items row
      ∙ ap (λ ps. walk (parameter_at l n f) 0 ps row) (sym h.parameters)

  started_same : (x : Option (List (Cell I))) → started l n mid x ≡ started l n f x
  started_same None = refl
  started_same (Some row) = ap Some (parameters_same row)

  empty_same : (row : List (Cell I)) → empty_row l mid row ≡ empty_row l f row
  unfolding empty_row
  empty_same row = refl

  start_core : (row : List (Cell I)) → start_row l n mid row ≡ start_row l n f row
  unfolding start_row
  start_core row =
      started_same (start_objects l n mid g.initial.items (empty_row l mid row))
      ∙ ap (started l n f) (ap (start_objects l n mid g.initial.items) (empty_same row) ∙ all_objects (empty_row l f row))

  -- programs with the same parts begin with the same row
  pub start_same : (row : List (Cell I)) → start_row l n g row ≡ start_row l n f row
  start_same row = ap (λ z. start_row l n z row) (sym (core_is f g h)) ∙ start_core row
