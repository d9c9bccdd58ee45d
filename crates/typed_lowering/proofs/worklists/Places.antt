-- Pointers to lvalues.
use Rattle.std.proofs.Common.{◌≡◌, ◌<◌, ℕ, ◌+◌, Bool, true, false, ◌&&◌, nat_lt, List, [], ◌∷◌, ◌++◌, length, slice_get, Option, Some, None, refl, ap, sym, subst, ◌∙◌, inl, inr}
use Rattle.std.specs.Prelude.{zero, suc, ◌==◌, ◌||◌}
use Rattle.std.specs.List.{list_any}
use Rattle.std.proofs.lemmas.Bool.{and_parts, eqb-true, ltb-true, cases_lt}
use Rattle.std.proofs.lemmas.List.{get_or_past}
use Rattle.std.proofs.lemmas.Option.{slice_get-get_or}
use Rattle.cc_base.specs.declared.diagnostics.Place.{Place}
use Rattle.c_layout.specs.CheckedTrees as tree
use Rattle.c_layout.specs.CheckedTrees.{TermTree, LvalueTree, LvalueFormTree, Designates}
use Rattle.c_layout.specs.CheckedUnits.{FunctionView, UnitView}
use Rattle.c_layout.specs.Layout.{size_of_type}
use Rattle.c_layout.specs.StructViews.{FieldView, StructView, struct_at, no_struct}
use Rattle.c_layout.specs.Types.{Ty, Int, Pointer, Array, Struct, Void, same_type}
use Rattle.c_layout.specs.declared.checked_tree.checked_terms.ObjectRef.{ObjectRef}
use Rattle.c_layout.specs.declared.checked_tree.checked_terms.ObjectRef.TheVariants as ref
use Rattle.c_types_rules.proofs.SameTypes.{type_is}
use Rattle.lower_expressions.specs.LvaluePointers.{address, base_address}
use Rattle.typed_programs.specs.PlainUnits.PlainTerms.{is_plain_designator, is_plain_term, is_plain_place}
use Rattle.lower_templates.specs.Worklist.Acts as acts
use Rattle.lower_templates.specs.Worklist.Acts.{Act}
use Rattle.lower_templates.specs.Worklist.Pieces.{NameView, Literal}
use Rattle.lower_templates.specs.Worklist.Plans.{Plan, with_work, with_name, name_of_object}
use Rattle.lower_templates.specs.Worklist.Settings.{SettingView}
use Rattle.lower_templates.specs.Worklist.TermKinds.{term_type, lvalue_type, struct_number}
use Rattle.lower_templates.specs.Worklist.Works as jobs
use Rattle.lower_templates.specs.Worklist.Works.{Job}
use Rattle.lower_preconditions.specs.Units.RegularStatements.{object_type}
use Rattle.lower_preconditions.specs.Units.RegularTerms.{is_regular_term, is_regular_place}
use Rattle.lower_preconditions.specs.Units.RegularTerms as regular
use Rattle.typed_programs.specs.Types.PointedTypes.{Element, Known, Pointing, IsStorable}
use Rattle.typed_programs.specs.Types.StandingTypes.{AreLaidOut, Stands}
use Rattle.typed_programs.specs.Types.TypedPrograms.{IsKept}
use Rattle.typed_programs.specs.Types.TypedStates.{Temporaries}
use Rattle.typed_programs.proofs.layouts.StandingTypes.{member_stands}
use Rattle.typed_lowering.specs.Conversions.KnownValues.{term_known, place_known, below, with_value}
use Rattle.typed_lowering.specs.Conversions.TypedActs.{IsTypedAct, gives_address, narrows, copies}
use Rattle.typed_lowering.specs.Conversions.TypedPieces.{name_type, name_type_or, base_type, State}
use Rattle.typed_lowering.specs.Conversions.TypedTerms.{is_struct, has_type, has_member, literal_or, points_to, size, is_typed_designator, is_typed_term, is_typed_place}
use Rattle.typed_lowering.specs.Conversions.WorkLaws.{Extends, IsSettingOf}
use Rattle.typed_lowering.proofs.worklists.KnownTables.{at_most, Agrees, agrees_same, agrees_below, agrees_value, value_here, storable_same, to_value, gives_value}
use Rattle.typed_lowering.proofs.worklists.PlannedWorks.{Site, Labels, Planned, Comes, plan_value, plan_unused, plan_address, plan_name}
use Rattle.typed_lowering.proofs.worklists.FormGoals.{never, comes_to, comes_do, pointer_to, points_as, behind_parts, two_known, two_agree, first_there, second_there}
use Rattle.typed_lowering.proofs.worklists.Pointers.{storable_is, points_there, size_is}

-- ---- names

last_there : {A : Type 0} (xs : List A) (x : A) → slice_get (xs ++ x ∷ []) (length xs) ≡ Some x
last_there [] x = refl
last_there (y ∷ ys) x = last_there ys x

name_there : (j : Job) (x : NameView) (p : Plan) (names : List NameView) → Extends (with_work j (with_name x p)).names names → slice_get names (length p.names) ≡ Some x
unfolding with_work with_name
name_there j x p names all = all (length p.names) x (last_there p.names x)

object_named : (u : UnitView) (f : FunctionView) (o : ObjectRef) → name_type u f (name_of_object o) ≡ object_type u f o
object_named u f (ref.Static n) = refl
object_named u f (ref.Local n) = refl

typed_option : (t : Ty) (o : Option Ty) → has_type t o ≡ true → o ≡ Some t
typed_option t None is = never is
typed_option t (Some s) is = ap Some (type_is s t is)

-- ---- members

record HasMember (fields : List FieldView) (offset : ℕ) (t : Ty) : Type 0 where
  number : ℕ
  member : FieldView
  among : slice_get fields number ≡ Some member
  at : member.offset ≡ offset
  is : member.ctype ≡ t

member_among : (fields : List FieldView) (offset : ℕ) (t : Ty) → list_any (λ (m : FieldView). (m.offset == offset) && same_type m.ctype t) fields ≡ true → HasMember fields offset t
member_among [] offset t is = never is
member_among (m ∷ ms) offset t is = by (λ later. member_among ms offset t later) ((m.offset == offset) && same_type m.ctype t) refl is
  where
    by : (list_any (λ (m : FieldView). (m.offset == offset) && same_type m.ctype t) ms ≡ true → HasMember ms offset t) → (b : Bool) → ((m.offset == offset) && same_type m.ctype t) ≡ b → (b || list_any (λ (m : FieldView). (m.offset == offset) && same_type m.ctype t) ms) ≡ true → HasMember (m ∷ ms) offset t
    by rest true e is = let x = and_parts (m.offset == offset) (same_type m.ctype t) e in record { number = zero; member = m; among = refl; at = eqb-true m.offset offset x.0; is = type_is m.ctype t x.1 }
    by rest false e is = let x = rest is in record { number = suc x.number; member = x.member; among = x.among; at = x.at; is = x.is }

struct_there : (structs : List StructView) (i offset : ℕ) (t : Ty) → HasMember (struct_at structs i).fields offset t → slice_get structs i ≡ Some (struct_at structs i)
struct_there structs i offset t m = elim (cases_lt i (length structs)) [
  | inl less ↦ slice_get-get_or structs i no_struct less
  | inr past ↦ absurd (no m.number m.member (ap (λ (z : StructView). slice_get z.fields m.number) (sym (get_or_past structs i no_struct past)) ∙ m.among))
]
  where
    no : (n : ℕ) (x : FieldView) → slice_get no_struct.fields n ≡ Some x → ⊥
    no n x e = cc

member_there : (u : UnitView) → AreLaidOut u.model u.structs → (outer : Ty) (offset : ℕ) (t : Ty) → has_member u.structs outer offset t ≡ true → Stands u.structs u.model.pointer outer t offset
member_there u laid (Struct i) offset t is =
    let m = member_among (struct_at u.structs i).fields offset t is in
    let stands = member_stands u.model u.structs laid i (struct_at u.structs i) (struct_there u.structs i offset t m) m.number m.member m.among in
    subst (λ t. Stands u.structs u.model.pointer (Struct i) t offset) m.is (subst (λ n. Stands u.structs u.model.pointer (Struct i) m.member.ctype n) m.at stands)
member_there u laid (Int kind) offset t is = never is
member_there u laid (Pointer e) offset t is = never is
member_there u laid (Array e n) offset t is = never is
member_there u laid Void offset t is = never is

-- ---- forms

module _ {c : Site} {L : Labels → Type 0} {start : State} {count : ℕ} (s : SettingView) (at : Place) (t : Ty) (parens : ℕ) (depth : ℕ) (before : Temporaries) (p : Plan) (k : Planned c L start count (Some before) p) where
  abbrev Behind : Temporaries
  Behind = with_value depth (Some (Pointing (Element t))) before

  abbrev Goal : LvalueFormTree → Type 0
  Goal form = Comes c L start count (Some Behind) (address s (Designates at t parens form) depth p)

  abbrev Acts : Temporaries → Temporaries → Act → Type 0
  Acts known after a = IsTypedAct c.u.structs c.u.model.pointer (base_type c.u c.f c.names) known after a

  abbrev Looked : LvalueFormTree → Type 0
  Looked form = (is_typed_designator c.u c.f t form ≡ true) × (is_plain_designator c.calls form ≡ true) × (is_regular_place c.u c.f depth (Designates at t parens form) ≡ true)

  one_agrees : (value : Option Known) → Agrees depth (with_value depth value before) before
  one_agrees value = agrees_value depth depth value before before (at_most depth) (agrees_same depth before)

  -- a base of the type
  base_comes : (at : Place) (x : NameView) → name_type c.u c.f x ≡ Some t → Extends (base_address at x depth p).names c.names → Comes c L start count (Some Behind) (base_address at x depth p)
  base_comes at x is extends =
      comes_do Behind _ _
      (gives_address depth (length p.names) t (ap (name_type_or c.u c.f) (name_there _ x p c.names extends) ∙ is) (gives_value depth (Some (Pointing (Element t))) (Some (Pointing (Element t))) before before (agrees_same depth before) (storable_same (Some (Pointing (Element t))))))
      (plan_name x p k)

  pub object_comes : (o : ObjectRef) → Looked (tree.Object o) → Extends (address s (Designates at t parens (tree.Object o)) depth p).names c.names → Goal (tree.Object o)
  object_comes o looked extends = base_comes at (name_of_object o) (object_named c.u c.f o ∙ typed_option t (object_type c.u c.f o) looked.0) extends

  pub literal_comes : (n : ℕ) → Looked (tree.Literal n) → Extends (address s (Designates at t parens (tree.Literal n)) depth p).names c.names → Goal (tree.Literal n)
  literal_comes n looked extends = base_comes at (Literal n) (typed_option t (literal_or c.u (slice_get c.u.literals n)) looked.0) extends

  pub target_comes : (e : TermTree) → Looked (tree.Target e) → Goal (tree.Target e)
  target_comes e looked =
      let x = and_parts (is_typed_term c.u c.f e) (points_to (term_type e) t) looked.0 in
      comes_to (plan_value e depth p (x.0, looked.1, looked.2) k)
      (to_value depth (Some (Pointing (Element t))) (with_value depth (term_known e) before) before (one_agrees (term_known e)) (subst (IsStorable (Some (Pointing (Element t)))) (sym (value_here depth (term_known e) before)) (points_as e t (pointer_to (term_type e) t x.1))))

  pub member_comes : IsSettingOf c.u s → (outer : LvalueTree) (offset : ℕ) → Looked (tree.Member outer offset) → Goal (tree.Member outer offset)
  member_comes setting outer offset looked =
      let x = and_parts (is_typed_place c.u c.f outer) (has_member c.u.structs (lvalue_type outer) offset t && nat_lt 0 (size c.u c.f t)) looked.0 in
      let y = and_parts (has_member c.u.structs (lvalue_type outer) offset t) (nat_lt 0 (size c.u c.f t)) x.1 in
      let wide = size_is c.u s t setting in
      let known = with_value depth (place_known outer) before in
      comes_do Behind _ _
      (narrows depth depth offset _ (lvalue_type outer) t (points_there c known Behind depth (lvalue_type outer) (lvalue_type outer) (value_here depth (place_known outer) before) refl) (member_there c.u setting.laid (lvalue_type outer) offset t y.0) wide (subst (λ n. 0 < n) (sym wide) (ltb-true 0 (size c.u c.f t) y.1))
      (gives_value depth (Some (Pointing (Element t))) (Some (Pointing (Element t))) known before (one_agrees (place_known outer)) (storable_same (Some (Pointing (Element t))))))
      (plan_address outer depth p (x.0, looked.1, looked.2) k)

  -- ---- copies

  abbrev Both : LvalueTree → LvalueTree → Temporaries
  Both to from = two_known depth (jobs.behind depth 1) (place_known to) (place_known from) before

  copy_act : (to from : LvalueTree) (outer : Ty) → jobs.behind depth 1 ≡ depth + 1 → is_struct outer ≡ true → 0 < size_of_type c.u.structs c.u.model.pointer outer → lvalue_type to ≡ outer → lvalue_type from ≡ outer → IsKept (Both to from) Behind → Acts (Both to from) Behind (acts.Copy depth (jobs.behind depth 1) (struct_number outer))
  copy_act to from (Struct i) next is some first second kept =
      copies depth (jobs.behind depth 1) i
      (points_there c (Both to from) Behind depth (lvalue_type to) (Struct i) (first_there depth (jobs.behind depth 1) next (place_known to) (place_known from) before) first)
      (points_there c (Both to from) Behind (jobs.behind depth 1) (lvalue_type from) (Struct i) (second_there depth (jobs.behind depth 1) next (place_known to) (place_known from) before) second)
      some kept
  copy_act to from (Int kind) next is some first second kept = never is
  copy_act to from (Pointer e) next is some first second kept = never is
  copy_act to from (Array e n) next is some first second kept = never is
  copy_act to from Void next is some first second kept = never is

  pub copied_comes : (to from : LvalueTree) → Looked (tree.Copied to from) → Goal (tree.Copied to from)
  copied_comes to from looked =
      let x = and_parts (is_typed_place c.u c.f to && is_typed_place c.u c.f from) ((is_struct t && nat_lt 0 (size c.u c.f t)) && (same_type t (lvalue_type to) && same_type t (lvalue_type from))) looked.0 in
      let y = and_parts (is_typed_place c.u c.f to) (is_typed_place c.u c.f from) x.0 in
      let z = and_parts (is_struct t && nat_lt 0 (size c.u c.f t)) (same_type t (lvalue_type to) && same_type t (lvalue_type from)) x.1 in
      let is = and_parts (is_struct t) (nat_lt 0 (size c.u c.f t)) z.0 in
      let same = and_parts (same_type t (lvalue_type to)) (same_type t (lvalue_type from)) z.1 in
      let plain = and_parts (is_plain_place c.calls to) (is_plain_place c.calls from) looked.1 in
      let deep = and_parts (regular.is_struct (lvalue_type to)) _ looked.2 in
      let b = behind_parts depth (is_regular_place c.u c.f depth to) (is_regular_place c.u c.f (depth + 1) from) deep.1 in
      let first = type_is t (lvalue_type to) same.0 in
      let second = type_is t (lvalue_type from) same.1 in
      let there = first_there depth (jobs.behind depth 1) b.next (place_known to) (place_known from) before in
      let kept : IsKept (Both to from) Behind = to_value depth (Some (Pointing (Element t))) (Both to from) before (two_agree depth (jobs.behind depth 1) b.next (place_known to) (place_known from) before) (storable_is (Some (Pointing (Element t))) (Both to from depth) (ap (λ z. Some (Pointing (Element z))) first ∙ sym there)) in
      comes_do Behind _ _
      (subst (λ z. Acts (Both to from) Behind (acts.Copy depth (jobs.behind depth 1) (struct_number z))) first (copy_act to from t b.next is.0 (ltb-true 0 (size c.u c.f t) is.1) (sym first) (sym second) kept))
      (plan_address from (jobs.behind depth 1) _ (y.1, plain.1, subst (λ n. is_regular_place c.u c.f n from ≡ true) (sym b.next) b.right) (plan_address to depth p (y.0, plain.0, b.left) k))

  pub then_comes : (left : TermTree) (right : LvalueTree) → Looked (tree.Then left right) → Goal (tree.Then left right)
  then_comes left right looked =
      let x = and_parts (is_typed_term c.u c.f left) (is_typed_place c.u c.f right && same_type t (lvalue_type right)) looked.0 in
      let y = and_parts (is_typed_place c.u c.f right) (same_type t (lvalue_type right)) x.1 in
      let plain = and_parts (is_plain_term c.calls left) (is_plain_place c.calls right) looked.1 in
      let deep = and_parts (is_regular_term c.u c.f false depth left) (is_regular_place c.u c.f depth right) looked.2 in
      comes_to (plan_address right depth _ (y.0, plain.1, deep.1) (plan_unused left depth p (x.0, plain.0, deep.0) k))
      (to_value depth (Some (Pointing (Element t))) (with_value depth (place_known right) (below depth before)) before
      (agrees_value depth depth (place_known right) (below depth before) before (at_most depth) (agrees_below depth depth before before (at_most depth) (agrees_same depth before)))
      (storable_is (Some (Pointing (Element t))) _ (ap (λ z. Some (Pointing (Element z))) (type_is t (lvalue_type right) y.1) ∙ sym (value_here depth (place_known right) (below depth before)))))
