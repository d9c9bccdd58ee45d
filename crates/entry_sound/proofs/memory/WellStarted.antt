-- What a well-formed program says of what it begins with.
use Rattle.std.proofs.Common.{◌≡◌, ℕ, ◌+◌, ◌^◌, ◌≤◌, Bool, true, false, Option, Some, None, List, [], ◌∷◌, length, refl}
use Rattle.std.specs.Prelude.{slice_get, ◌==◌, ◌&&◌, ◌||◌, not, nat_le, nat_lt}
use Rattle.std.specs.List.{list_all}
use Rattle.std.proofs.lemmas.Bool.{and_parts, leb-true, ltb-true}
use Rattle.cc_base.specs.declared.limit_table.Limits.{Limits}
use Rattle.c_layout.specs.Models.{is_model}
use Rattle.c_layout.specs.StructViews.{structs_view}
use Rattle.c_layout.specs.declared.checked_tree.checked_units.StaticBase.{StaticBase}
use Rattle.cfg.specs.BaseShapes.{is_extent, are_shaped}
use Rattle.cfg.specs.StaticStarts.{same_static, number_of, has_base, fits_target, fits_start, has_size_of, is_started, object_count, are_numbered, are_started}
use Rattle.cfg.specs.StructCounts.{are_counted}
use Rattle.cfg.specs.ModelKinds.{is_int_type}
use Rattle.cfg.specs.WellFormed.{are_blocks, fits_edge, are_placed, all_values, fits_initial_base, is_initial_object, is_automatic, kind_at, is_parameter, is_within, names_of, are_few, is_laid_out, is_well_formed}
use Rattle.cfg.specs.declared.programs.Flow.{Flow}
use Rattle.cfg.specs.declared.programs.InitialObject.{InitialObject}
use Rattle.cfg.specs.declared.programs.ParameterInput.{ParameterInput}
use Rattle.store_monotone.specs.Operations.StoreLaws.{AreBytes}
use Rattle.store_sound.proofs.programs.ShapedBases.{all_at}
use Rattle.transfer_system.specs.System.RegularPrograms.{is_byte}
use Rattle.entry_sound.proofs.memory.Positions.{same_statics}

pub record WellStarted (flow : Flow) : Type 0 where
  pub model : is_model flow.model ≡ true
  pub sizes : (k : ℕ) (x : InitialObject) → slice_get flow.initial.items k ≡ Some x → x.size ≤ 2 ^ 30
  pub bases : (k : ℕ) (x : InitialObject) → slice_get flow.initial.items k ≡ Some x → has_size_of flow.bases.items x.base x.size ≡ true
  pub starts : (k : ℕ) (x : InitialObject) → slice_get flow.initial.items k ≡ Some x → fits_start flow.model flow.bases.items flow.initial.items (object_count flow.initial.items) x.base x.size x.value ≡ true
  pub kinds : (k : ℕ) (p : ParameterInput) → slice_get flow.parameters.items k ≡ Some p → is_int_type flow.model p.kind ≡ true

pub well_started : (limits : Limits) (flow : Flow) → is_well_formed limits flow ≡ true → WellStarted flow
well_started limits f h =
    let a = and_parts (nat_lt 0 (length f.blocks.items)) _ h in
    let b = and_parts (are_blocks (names_of f) (length f.blocks.items) f.edges.items 0 0 f.blocks.items f.edges.items) _ a.1 in
    let c = and_parts (list_all (λ e. fits_edge (names_of f) e.kind) f.edges.items) _ b.1 in
    let d = and_parts (are_placed 0 f.bases.items) _ c.1 in
    let e = and_parts (f.width == all_values f.bases.items + f.temps) _ d.1 in
    let g = and_parts (list_all (is_initial_object f.bases.items) f.initial.items) _ e.1 in
    let i = and_parts (list_all (is_parameter f.model f.bases.items) f.parameters.items) _ g.1 in
    let j = and_parts (is_within limits f) (are_few f && is_laid_out f) i.1 in
    let k = and_parts (are_few f) (is_laid_out f) j.1 in
    let l = and_parts (is_model f.model) (are_shaped f.model f.bases.items && (are_started f.model f.bases.items f.initial.items && are_counted (structs_view f.structs))) k.1 in
    let m = and_parts (are_shaped f.model f.bases.items) (are_started f.model f.bases.items f.initial.items && are_counted (structs_view f.structs)) l.1 in
    let n = and_parts (are_started f.model f.bases.items f.initial.items) (are_counted (structs_view f.structs)) m.1 in
    let o = and_parts (are_numbered 0 0 f.initial.items) (list_all (is_started f.model f.bases.items f.initial.items (object_count f.initial.items)) f.initial.items) n.0 in
    let each : (q : ℕ) (x : InitialObject) → slice_get f.initial.items q ≡ Some x → is_started f.model f.bases.items f.initial.items (object_count f.initial.items) x ≡ true = λ q x at. all_at (is_started f.model f.bases.items f.initial.items (object_count f.initial.items)) f.initial.items q x o.1 at in
    record {
      model = l.0;
      sizes = λ q x at. leb-true x.size (2 ^ 30) (and_parts (is_extent x.size) (fits_initial_base f.bases.items x.base) (all_at (is_initial_object f.bases.items) f.initial.items q x g.0 at)).0;
      bases = λ q x at. (and_parts (has_size_of f.bases.items x.base x.size) (fits_start f.model f.bases.items f.initial.items (object_count f.initial.items) x.base x.size x.value) (each q x at)).0;
      starts = λ q x at. (and_parts (has_size_of f.bases.items x.base x.size) (fits_start f.model f.bases.items f.initial.items (object_count f.initial.items) x.base x.size x.value) (each q x at)).1;
      kinds = λ q p at. (and_parts (is_automatic (kind_at f.bases.items p.base)) (is_int_type f.model p.kind) (all_at (is_parameter f.model f.bases.items) f.parameters.items q p i.0 at)).1;
    }

pub are_bytes : (text : List ℕ) → list_all is_byte text ≡ true → AreBytes text
are_bytes [] h = tt
are_bytes (x ∷ xs) h = let p = and_parts (is_byte x) (list_all is_byte xs) h in (ltb-true x 256 p.0, are_bytes xs p.1)

-- an address constant: what it names is there, and has a base where it must
pub record IsAimed (items : List InitialObject) (based : Bool) (object : StaticBase) (at lo hi : ℕ) : Type 0 where
  pub number : ℕ
  pub item : InitialObject
  pub among : slice_get items number ≡ Some item
  pub same : object ≡ item.object
  pub has : based ≡ true → has_base item.base ≡ true
  pub above : lo ≤ at
  pub below : at ≤ hi
  pub within : hi ≤ item.size

pub aimed : (items : List InitialObject) (objects : ℕ) (based : Bool) (object : StaticBase) (at lo hi : ℕ) → fits_target based object at lo hi (slice_get items (number_of objects object)) ≡ true → IsAimed items based object at lo hi
aimed items objects based object at lo hi h = by_item (slice_get items (number_of objects object)) refl h
  where
    by_item : (o : Option InitialObject) → slice_get items (number_of objects object) ≡ o → fits_target based object at lo hi o ≡ true → IsAimed items based object at lo hi
    by_item None is e = absurd (cc)
    by_item (Some x) is e =
        let a = and_parts (same_static object x.object && (has_base x.base || not based)) (nat_le lo at && (nat_le at hi && nat_le hi x.size)) e in
        let b = and_parts (same_static object x.object) (has_base x.base || not based) a.0 in
        let c = and_parts (nat_le lo at) (nat_le at hi && nat_le hi x.size) a.1 in
        let d = and_parts (nat_le at hi) (nat_le hi x.size) c.1 in
        record {
          number = number_of objects object;
          item = x;
          among = is;
          same = same_statics object x.object b.0;
          has = λ f. has_by (has_base x.base) based b.1 f;
          above = leb-true lo at c.0;
          below = leb-true at hi d.0;
          within = leb-true hi x.size d.1;
        }
      where
        has_by : (y b : Bool) → (y || not b) ≡ true → b ≡ true → y ≡ true
        has_by true b g f = refl
        has_by false true g f = absurd (cc)
        has_by false false g f = absurd (cc)
