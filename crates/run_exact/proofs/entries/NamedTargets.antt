-- When a run begins, bases name what address constants name.
use Rattle.std.proofs.Common.{◌≡◌, ℕ, zero, suc, Bool, true, false, cond, Option, Some, None, List, [], ◌∷◌, subst, sym, refl, ap, ◌∙◌}
use Rattle.std.specs.Prelude.{slice_get, map, ℤ}
use Rattle.std.proofs.lemmas.Bool.{eqb-true}
use Rattle.std.proofs.lemmas.Option.{same_Some}
use Rattle.c_layout.specs.CheckedUnits.{UnitView}
use Rattle.c_layout.specs.declared.checked_tree.checked_units.StaticBase.{StaticBase}
use Rattle.c_layout.specs.declared.checked_tree.checked_units.StaticBase.TheVariants.{Object, Literal}
use Rattle.cfg.specs.declared.programs.Flow.{Flow}
use Rattle.cfg.specs.declared.programs.InitialObject.{InitialObject}
use Rattle.transfer_edges.specs.StartRows.{same_object, with_size, base_in}
use Rattle.memory_model.specs.Effects.NumberedTables.{empty_table}
use Rattle.memory_model.specs.Effects.UnitStarts.{base_instance, start_world}
use Rattle.memory_model.specs.Effects.Worlds.{Reply, goes, stops}
use Rattle.lower_templates.specs.Views.ProgramViews.{FlowView, initial, flow_view}
use Rattle.semantics.specs.CfgMachine.FlowStates.{ProgramState, running}
use Rattle.semantics.specs.CfgMachine.FlowStarts.{name_objects, name_parameters, start_names, first_standing, begun_by, flow_begin}
use Rattle.store_sound.proofs.operations.Slices.{get_map}
use Rattle.entry_sound.proofs.memory.FirstNames.{objects_there}

-- bases name the objects and literals that address constants name
abbrev pub NamesTargets : UnitView → List InitialObject → (ℕ → Option ℕ) → Type 0
NamesTargets u initials entered = (object : StaticBase) (base size : ℕ) → base_in initials object ≡ Some (base, size) → entered base ≡ Some (base_instance u object)

-- ---- the base of an object

same_is : (a b : StaticBase) → same_object a b ≡ true → a ≡ b
same_is (Object m) (Object k) e = ap Object (eqb-true m k e)
same_is (Object m) (Literal k) e = cc
same_is (Literal m) (Object k) e = cc
same_is (Literal m) (Literal k) e = ap Literal (eqb-true m k e)

with_base : (b : Option ℕ) (s base size : ℕ) → with_size b s ≡ Some (base, size) → b ≡ Some base
with_base None s base size e = cc
with_base (Some x) s base size e = ap (λ z. Some z.0) (same_Some (x, s) (base, size) e)

record IsFound (os : List InitialObject) (object : StaticBase) (b : ℕ) : Type 0 where
  at : ℕ
  found : InitialObject
  among : slice_get os at ≡ Some found
  base : found.base ≡ Some b
  is : found.object ≡ object

later : (o : InitialObject) (os : List InitialObject) (object : StaticBase) (b : ℕ) → IsFound os object b → IsFound (o ∷ os) object b
later o os object b h = record { at = suc h.at; found = h.found; among = h.among; base = h.base; is = h.is }

found_in : (os : List InitialObject) (object : StaticBase) (b size : ℕ) → base_in os object ≡ Some (b, size) → IsFound os object b
found_in [] object b size e = cc
found_in (o ∷ os) object b size e = by_same (found_in os object b size) (same_object o.object object) refl
  where
    taken : (c : Bool) → same_object o.object object ≡ c → cond c (with_size o.base o.size) (base_in os object) ≡ Some (b, size)
    taken c f = subst (λ z. cond z (with_size o.base o.size) (base_in os object) ≡ Some (b, size)) f e

    by_same : (base_in os object ≡ Some (b, size) → IsFound os object b) → (c : Bool) → same_object o.object object ≡ c → IsFound (o ∷ os) object b
    by_same more true f = record { at = 0; found = o; among = refl; base = with_base o.base o.size b size (taken true f); is = same_is o.object object f }
    by_same more false f = later o os object b (more (taken false f))

map_at : {X Y : Type 0} (f : X → Y) (xs : List X) (k : ℕ) (x : X) → slice_get xs k ≡ Some x → slice_get (map f xs) k ≡ Some (f x)
map_at f [] k x e = cc
map_at f (y ∷ ys) zero x e = ap (λ z. Some (f z)) (same_Some y x e)
map_at f (y ∷ ys) (suc k) x e = map_at f ys k x e

-- ---- the names at the start of a run

names_are : (u : UnitView) (f : FlowView) (r : Reply (Unit {0})) (s : ProgramState) → begun_by u f r ≡ running s [] → start_names u f ≡ s.bases
names_are u f (goes x w) s e = let h : first_standing u f w ≡ s = cc in ap (λ z. z.bases) h
names_are u f (stops why w) s e = absurd (cc)

module _ (u : UnitView) (flow : Flow) (own : (j k b : ℕ) (o p : InitialObject) → slice_get flow.initial.items j ≡ Some o → slice_get flow.initial.items k ≡ Some p → o.base ≡ Some b → p.base ≡ Some b → j ≡ k) where
  objects_name : NamesTargets u flow.initial.items (name_objects u (map initial flow.initial.items) empty_table)
  objects_name object b size e =
      let h = found_in flow.initial.items object b size e in
      objects_there u (map initial flow.initial.items) empty_table b (base_instance u object) (record {
        at = h.at;
        view = initial h.found;
        among = map_at initial flow.initial.items h.at h.found h.among;
        base = h.base;
        instance = ap (base_instance u) h.is;
      }) (λ k v f g.
      let r = get_map initial flow.initial.items k v f in
      let base : (r.0).base ≡ Some b = ap (λ z. z.base) r.2 ∙ g in
      let place : h.at ≡ k = own h.at k b h.found r.0 h.among r.1 h.base base in
      let same : h.found ≡ r.0 = same_Some h.found r.0 (sym h.among ∙ (ap (slice_get flow.initial.items) place ∙ r.1)) in
      let object_is : v.object ≡ object = sym (ap (λ z. z.object) r.2) ∙ (sym (ap (λ z. z.object) same) ∙ h.is) in
      ap (base_instance u) object_is)

  pub targets_named : flow.parameters.items ≡ [] → (draws : List ℤ) (s : ProgramState) → flow_begin u (flow_view flow) draws ≡ running s [] → NamesTargets u flow.initial.items s.bases
  targets_named none draws s run = subst (NamesTargets u flow.initial.items) (sym (ap (λ ps. name_parameters u 0 ps (name_objects u (map initial flow.initial.items) empty_table)) none) ∙ names_are u (flow_view flow) (start_world u draws) s run) objects_name
