-- Where the objects and literals of a unit stand among what its program begins with.
use Rattle.std.proofs.Common.{◌≡◌, ℕ, zero, suc, ◌+◌, ◌-◌, Bool, true, false, cond, Some, None, List, [], ◌∷◌, length, arith, sym, refl, ap, ◌∙◌, ◌⊎◌, inl, inr}
use Rattle.std.specs.Prelude.{slice_get, map, ◌==◌}
use Rattle.std.specs.Option.{option_map}
use Rattle.std.proofs.lemmas.Bool.{cases_lt, eqb-true}
use Rattle.std.proofs.lemmas.List.{length-append, length-map}
use Rattle.std.proofs.lemmas.Option.{same_Some, slice_get_within, slice_get-map}
use Rattle.c_layout.specs.CheckedUnits.{StaticView, LiteralView, UnitView}
use Rattle.c_layout.specs.declared.checked_tree.checked_units.StaticBase.{StaticBase}
use Rattle.c_layout.specs.declared.checked_tree.checked_units.StaticBase.TheVariants.{Object, Literal}
use Rattle.cfg.specs.declared.programs.InitialObject.{InitialObject}
use Rattle.cfg.specs.StaticStarts.{same_static}
use Rattle.lower_templates.specs.Views.ProgramViews.{InitialView, initial}
use Rattle.lower_tables.specs.Bases.BaseTables.{TableView}
use Rattle.lower_tables.specs.Bases.InitialBytes.{initial_object, initial_literal, objects_from, literals_from, initial_objects}
use Rattle.transfer_system.specs.StartRows.{same_object, with_size, base_in}
use Rattle.memory_model.specs.Effects.UnitStarts.{base_instance}
use Rattle.store_sound.proofs.operations.Slices.{get_left, get_right, get_there}

pub none_some : {A : Type 0} (x : A) → None ≡ Some x → ⊥
none_some x e = cc

pub same_statics : (a b : StaticBase) → same_static a b ≡ true → a ≡ b
same_statics (Object m) (Object n) e = ap Object (eqb-true m n e)
same_statics (Object m) (Literal n) e = absurd (cc)
same_statics (Literal m) (Object n) e = absurd (cc)
same_statics (Literal m) (Literal n) e = ap Literal (eqb-true m n e)

pub same_objects : (a b : StaticBase) → same_object a b ≡ true → a ≡ b
same_objects (Object m) (Object n) e = ap Object (eqb-true m n e)
same_objects (Object m) (Literal n) e = absurd (cc)
same_objects (Literal m) (Object n) e = absurd (cc)
same_objects (Literal m) (Literal n) e = ap Literal (eqb-true m n e)

pub object_self : (a : StaticBase) → same_object a a ≡ true
object_self (Object m) = let e : (m == m) ≡ true = grind arith in e
object_self (Literal m) = let e : (m == m) ≡ true = grind arith in e

-- ---- objects and then literals

module _ (u : UnitView) (t : TableView) where
  objects_at : (n : ℕ) (os : List StaticView) (k : ℕ) (o : StaticView) → slice_get os k ≡ Some o → slice_get (objects_from u t n os) k ≡ Some (initial_object u t (n + k) o)
  objects_at n [] k o e = absurd (none_some o e)
  objects_at n (x ∷ os) zero o e = let z : n ≡ n + 0 = omega arith in ap (λ y. Some (initial_object u t n y)) (same_Some x o e) ∙ ap (λ m. Some (initial_object u t m o)) z
  objects_at n (x ∷ os) (suc k) o e = let z : n + 1 + k ≡ n + suc k = omega arith in objects_at (n + 1) os k o e ∙ ap (λ m. Some (initial_object u t m o)) z

  objects_long : (n : ℕ) (os : List StaticView) → length (objects_from u t n os) ≡ length os
  objects_long n [] = refl
  objects_long n (x ∷ os) = ap suc (objects_long (n + 1) os)

  literals_at : (n : ℕ) (ls : List LiteralView) (k : ℕ) (l : LiteralView) → slice_get ls k ≡ Some l → slice_get (literals_from t n ls) k ≡ Some (initial_literal t (n + k) l)
  literals_at n [] k l e = absurd (none_some l e)
  literals_at n (x ∷ ls) zero l e = let z : n ≡ n + 0 = omega arith in ap (λ y. Some (initial_literal t n y)) (same_Some x l e) ∙ ap (λ m. Some (initial_literal t m l)) z
  literals_at n (x ∷ ls) (suc k) l e = let z : n + 1 + k ≡ n + suc k = omega arith in literals_at (n + 1) ls k l e ∙ ap (λ m. Some (initial_literal t m l)) z

  literals_long : (n : ℕ) (ls : List LiteralView) → length (literals_from t n ls) ≡ length ls
  literals_long n [] = refl
  literals_long n (x ∷ ls) = ap suc (literals_long (n + 1) ls)

  pub initial_long : length (initial_objects u t) ≡ length u.objects + length u.literals
  initial_long =
      let a = length-append (objects_from u t 0 u.objects) (literals_from t 0 u.literals) in
      let b = objects_long 0 u.objects in
      let c = literals_long 0 u.literals in
      omega (arith, a, b, c)

  -- what stands at a place: an object, or behind all objects a literal
  pub record IsObjectAt (k : ℕ) (v : InitialView) : Type 0 where
    pub object : StaticView
    pub among : slice_get u.objects k ≡ Some object
    pub is : v ≡ initial_object u t k object

  pub record IsLiteralAt (k : ℕ) (v : InitialView) : Type 0 where
    pub at : ℕ
    pub behind : k ≡ length u.objects + at
    pub literal : LiteralView
    pub among : slice_get u.literals at ≡ Some literal
    pub is : v ≡ initial_literal t at literal

  pub view_at : (k : ℕ) (v : InitialView) → slice_get (initial_objects u t) k ≡ Some v → IsObjectAt k v ⊎ IsLiteralAt k v
  view_at k v e = elim (cases_lt k (length u.objects)) [
    | inl h ↦ (
        let g = get_there u.objects k h in
        let long = objects_long 0 u.objects in
        let z : 0 + k ≡ k = omega arith in
        let is : slice_get (initial_objects u t) k ≡ Some (initial_object u t k g.0) = get_left (objects_from u t 0 u.objects) (literals_from t 0 u.literals) k (omega (arith, h, long)) ∙ (objects_at 0 u.objects k g.0 g.1 ∙ ap (λ m. Some (initial_object u t m g.0)) z) in
        inl (record { object = g.0; among = g.1; is = same_Some v (initial_object u t k g.0) (sym e ∙ is) }))
    | inr h ↦ (
        let j : ℕ = k - length u.objects in
        let long = objects_long 0 u.objects in
        let more = literals_long 0 u.literals in
        let z : 0 + j ≡ j = omega arith in
        let right : slice_get (initial_objects u t) k ≡ slice_get (literals_from t 0 u.literals) j = get_right (objects_from u t 0 u.objects) (literals_from t 0 u.literals) k j (omega (arith, h, long)) in
        let few = slice_get_within (literals_from t 0 u.literals) j v (sym right ∙ e) in
        let g = get_there u.literals j (omega (arith, few, more)) in
        let is : slice_get (initial_objects u t) k ≡ Some (initial_literal t j g.0) = right ∙ (literals_at 0 u.literals j g.0 g.1 ∙ ap (λ m. Some (initial_literal t m g.0)) z) in
        inr (record { at = j; behind = omega (arith, h); literal = g.0; among = g.1; is = same_Some v (initial_literal t j g.0) (sym e ∙ is) }))
  ]

  -- the instance of what stands at a place has the number of the place
  pub view_instance : (k : ℕ) (v : InitialView) → slice_get (initial_objects u t) k ≡ Some v → base_instance u v.object ≡ k
  view_instance k v e = elim (view_at k v e) [
    | inl h ↦ ap (λ w. base_instance u w.object) h.is
    | inr h ↦ ap (λ w. base_instance u w.object) h.is ∙ sym h.behind
  ]

  module _ (items : List InitialObject) (are : map initial items ≡ initial_objects u t) where
    pub item_view : (k : ℕ) (x : InitialObject) → slice_get items k ≡ Some x → slice_get (initial_objects u t) k ≡ Some (initial x)
    item_view k x e = sym (ap (λ z. slice_get z k) are) ∙ (slice_get-map initial items k ∙ ap (λ o. option_map initial o) e)

    pub items_long : length items ≡ length u.objects + length u.literals
    items_long = sym (length-map items initial) ∙ (ap length are ∙ initial_long)

    pub item_at : (k : ℕ) (x : InitialObject) → slice_get items k ≡ Some x → IsObjectAt k (initial x) ⊎ IsLiteralAt k (initial x)
    item_at k x e = view_at k (initial x) (item_view k x e)

    pub item_instance : (k : ℕ) (x : InitialObject) → slice_get items k ≡ Some x → base_instance u x.object ≡ k
    item_instance k x e = view_instance k (initial x) (item_view k x e)

-- the base of what has its place by its number
module _ (u : UnitView) where
  abbrev AreFrom : ℕ → List InitialObject → Type 0
  AreFrom at os = (j : ℕ) (o : InitialObject) → slice_get os j ≡ Some o → base_instance u o.object ≡ at + j

  base_from : (at : ℕ) (os : List InitialObject) → AreFrom at os → (k : ℕ) (x : InitialObject) → slice_get os k ≡ Some x → base_in os x.object ≡ with_size x.base x.size
  base_from at [] are k x e = absurd (none_some x e)
  base_from at (o ∷ os) are zero x e =
      let same : o ≡ x = same_Some o x e in
      let here : same_object o.object x.object ≡ true = ap (λ z. same_object z.object x.object) same ∙ object_self x.object in
      ap (λ c. cond c (with_size o.base o.size) (base_in os x.object)) here ∙ ap (λ z. with_size z.base z.size) same
  base_from at (o ∷ os) are (suc k) x e = by_same (same_object o.object x.object) refl (base_from (at + 1) os (λ j y h. let z : at + suc j ≡ at + 1 + j = omega arith in are (suc j) y h ∙ z) k x e)
    where
      by_same : (b : Bool) → same_object o.object x.object ≡ b → base_in os x.object ≡ with_size x.base x.size → cond b (with_size o.base o.size) (base_in os x.object) ≡ with_size x.base x.size
      by_same false f rest = rest
      by_same true f rest =
          let here = are 0 o refl in
          let there = are (suc k) x e in
          let same = ap (base_instance u) (same_objects o.object x.object f) in
          absurd (omega (arith, here, there, same))

  pub base_of : (items : List InitialObject) → ((j : ℕ) (o : InitialObject) → slice_get items j ≡ Some o → base_instance u o.object ≡ j) → (k : ℕ) (x : InitialObject) → slice_get items k ≡ Some x → base_in items x.object ≡ with_size x.base x.size
  base_of items are k x e = base_from 0 items (λ j o h. let z : j ≡ 0 + j = omega arith in are j o h ∙ z) k x e
