-- Terms that are pointers, or take values by pointers.
use Rattle.std.proofs.Common.{◌≡◌, ◌<◌, ℕ, ◌+◌, ℤ, Bool, true, false, cond, ◌&&◌, ◌||◌, nat_lt, Option, Some, None, refl, ap, sym, subst, ◌∙◌}
use Rattle.std.specs.Prelude.{◌==◌}
use Rattle.std.proofs.lemmas.Bool.{and_parts, eqb-true, ltb-true}
use Rattle.cc_base.specs.declared.diagnostics.Place.{Place}
use Rattle.cc_base.specs.declared.int_types.IntType.{IntType}
use Rattle.c_layout.specs.CheckedTrees as tree
use Rattle.c_layout.specs.CheckedTrees.{TermTree, FormTree, LvalueTree, Typed}
use Rattle.c_layout.specs.CheckedUnits.{UnitView}
use Rattle.c_layout.specs.Layout.{size_of_type}
use Rattle.c_layout.specs.Types.{Ty, Int, Pointer, Array, Struct, Void, same_type}
use Rattle.c_layout.specs.declared.checked_tree.checked_terms.ConversionKind.{ConversionKind}
use Rattle.c_types_rules.proofs.SameTypes.{type_is}
use Rattle.cfg.specs.declared.machine_instructions.Amount.TheVariants as amount
use Rattle.cfg.specs.declared.machine_instructions.Scalar.TheVariants as scalar
use Rattle.lower_expressions.specs.Values.{moved_pointer, of_form}
use Rattle.lower_templates.specs.Worklist.Acts as acts
use Rattle.lower_templates.specs.Worklist.Acts.{Act}
use Rattle.lower_templates.specs.Worklist.Plans.{Plan, with_work}
use Rattle.lower_templates.specs.Worklist.Settings.{SettingView}
use Rattle.lower_templates.specs.Worklist.TermKinds.{scalar_of, term_type, lvalue_type}
use Rattle.lower_templates.specs.Worklist.Works as jobs
use Rattle.typed_programs.specs.Types.PointedTypes.{Element, Known, Zero, Null, Pointing, is_same, is_inner, IsOfKind, IsStorable}
use Rattle.typed_programs.specs.Types.TypedPrograms.{Gives}
use Rattle.typed_programs.specs.Types.TypedStates.{Temporaries}
use Rattle.typed_programs.proofs.layouts.StandingTypes.{stands_itself}
use Rattle.typed_lowering.specs.Conversions.KnownValues.{type_known, term_known, place_known, with_value}
use Rattle.typed_lowering.specs.Conversions.TypedActs.{PointsTo, IsTypedAct, loads, narrows, shifts, to_number, to_null, to_pointer}
use Rattle.typed_lowering.specs.Conversions.TypedPieces.{base_type, State}
use Rattle.typed_lowering.specs.Conversions.TypedTerms.{is_struct, is_scalar, is_zero, is_null, points_to, points_into, converts, integer_first, pointer_of, moves, size, is_typed_term, is_typed_place}
use Rattle.typed_lowering.specs.Conversions.WorkLaws.{IsSettingOf, IsLookedAt}
use Rattle.typed_lowering.proofs.worklists.KnownTables.{at_most, Agrees, agrees_same, agrees_value, value_here, storable_same}
use Rattle.typed_lowering.proofs.worklists.PlannedWorks.{Site, Labels, Planned, Comes, plan_value, plan_address}
use Rattle.typed_lowering.proofs.worklists.FormGoals.{never, term_goal, gives_goal, value_goal, comes_to, comes_do, pointer_to, scalar_kind, known_by_type, null_known, points_as, two_known, two_agree, first_there, second_there, two_looked}
use Rattle.typed_lowering.proofs.worklists.Numbers.{IsLookedForm}

-- ---- pointers that are there

pub storable_is : (value old : Option Known) → value ≡ old → IsStorable value old
storable_is value old e = subst (λ z. IsStorable z old) (sym e) (storable_same old)

pub points_there : (c : Site) (known after : Temporaries) (temp : ℕ) (s t : Ty) → known temp ≡ Some (Pointing (Element s)) → s ≡ t → PointsTo c.u.structs c.u.model.pointer (base_type c.u c.f c.names) known after temp t
points_there c known after temp s t has same = record { known = Pointing (Element s); target = Element s; has = has; less = is_same (Element s); is = same }

pub size_is : (u : UnitView) (s : SettingView) (t : Ty) → IsSettingOf u s → size_of_type s.structs s.pointer t ≡ size_of_type u.structs u.model.pointer t
size_is u s t setting = ap (λ structs. size_of_type structs s.pointer t) setting.structs ∙ ap (λ n. size_of_type u.structs n t) setting.pointer

struct_type : (t : Ty) → is_struct t ≡ true → type_known t ≡ Some (Pointing (Element t))
struct_type (Struct i) is = refl
struct_type (Int kind) is = never is
struct_type (Pointer t) is = never is
struct_type (Array t n) is = never is
struct_type Void is = never is

-- an array as its first element
points_inside : (t s : Ty) → points_into t s ≡ true → IsStorable (type_known t) (Some (Pointing (Element s)))
points_inside t (Array e n) is = subst (λ t. IsStorable (type_known t) (Some (Pointing (Element (Array e n))))) (sym (pointer_to t e is)) (Pointing (Element (Array e n)), refl, is_inner e n)
points_inside t (Int kind) is = never is
points_inside t (Pointer e) is = never is
points_inside t (Struct i) is = never is
points_inside t Void is = never is

-- a pointer that is moved by elements of the size
pub record IsMoved (c : Site) (t : Ty) (n : ℕ) : Type 0 where
  pub inner : Ty
  pub is : t ≡ Pointer inner
  pub size : n ≡ size_of_type c.u.structs c.u.model.pointer inner
  pub some : 0 < n

pub moved : (c : Site) (t : Ty) (n : ℕ) → moves c.u c.f t n ≡ true → IsMoved c t n
moved c (Pointer e) n is = let x = and_parts (n == size c.u c.f e) (nat_lt 0 n) is in record { inner = e; is = refl; size = eqb-true n (size c.u c.f e) x.0; some = ltb-true 0 n x.1 }
moved c (Int kind) n is = never is
moved c (Array e m) n is = never is
moved c (Struct i) n is = never is
moved c Void n is = never is

-- ---- conversions of constants

zero_type : (a : TermTree) → is_zero a ≡ true → (kind : IntType) × (term_type a ≡ Int kind)
zero_type (Typed at (Int kind) parens constant form) is = (kind, refl)
zero_type (Typed at (Pointer t) parens constant form) is = never is
zero_type (Typed at (Array t n) parens constant form) is = never is
zero_type (Typed at (Struct i) parens constant form) is = never is
zero_type (Typed at Void parens constant form) is = never is

zero_known : (a : TermTree) → is_zero a ≡ true → term_known a ≡ Some Zero
zero_known a is = ap (λ b. cond b (Some Zero) (cond (is_null a) (Some Null) (type_known (term_type a)))) is

null_type : (a : TermTree) → is_null a ≡ true → scalar_of (term_type a) ≡ scalar.Pointer
null_type (Typed at (Pointer t) parens constant form) is = refl
null_type (Typed at (Int kind) parens constant form) is = never is
null_type (Typed at (Array t n) parens constant form) is = refl
null_type (Typed at (Struct i) parens constant form) is = refl
null_type (Typed at Void parens constant form) is = refl

module _ {c : Site} {L : Labels → Type 0} {start : State} {count : ℕ} (s : SettingView) (at : Place) (t : Ty) (parens : ℕ) (constant : Option ℤ) (depth : ℕ) (used : Bool) (before : Temporaries) (p : Plan) (k : Planned c L start count (Some before) p) where
  abbrev Goal : FormTree → Type 0
  Goal form = Comes c L start count (Some (term_goal used depth (Typed at t parens constant form) before)) (of_form s (Typed at t parens constant form) form depth used p)

  abbrev Looked : FormTree → Type 0
  Looked form = IsLookedForm c used depth at t parens constant form

  abbrev Behind : FormTree → Temporaries
  Behind form = term_goal used depth (Typed at t parens constant form) before

  abbrev Acts : Temporaries → Temporaries → Act → Type 0
  Acts known after a = IsTypedAct c.u.structs c.u.model.pointer (base_type c.u c.f c.names) known after a

  one_agrees : (value : Option Known) → Agrees depth (with_value depth value before) before
  one_agrees value = agrees_value depth depth value before before (at_most depth) (agrees_same depth before)

  gives_one : (form : FormTree) (value given : Option Known) → IsStorable (term_known (Typed at t parens constant form)) given → Gives depth given (with_value depth value before) (Behind form)
  gives_one form value given is = gives_goal used depth (Typed at t parens constant form) given (with_value depth value before) before (one_agrees value) is

  place_there : (l : LvalueTree) (after : Temporaries) → PointsTo c.u.structs c.u.model.pointer (base_type c.u c.f c.names) (with_value depth (place_known l) before) after depth (lvalue_type l)
  place_there l after = points_there c (with_value depth (place_known l) before) after depth (lvalue_type l) (lvalue_type l) (value_here depth (place_known l) before) refl

  -- ---- by an address

  pub load_comes : (l : LvalueTree) → Looked (tree.Load l) → Goal (tree.Load l)
  load_comes l looked =
      let x = and_parts (is_typed_place c.u c.f l) (is_scalar t && same_type t (lvalue_type l)) looked.0 in
      let y = and_parts (is_scalar t) (same_type t (lvalue_type l)) x.1 in
      let same = type_is t (lvalue_type l) y.1 in
      let kind : IsOfKind (lvalue_type l) (scalar_of (lvalue_type l)) (type_known (lvalue_type l)) = scalar_kind (lvalue_type l) (subst (λ z. is_scalar z ≡ true) same y.0) in
      comes_do (Behind (tree.Load l)) _ _
      (loads depth depth (scalar_of (lvalue_type l)) (lvalue_type l) (type_known (lvalue_type l)) (place_there l (Behind (tree.Load l))) kind (gives_one (tree.Load l) (place_known l) (type_known (lvalue_type l)) (storable_is _ _ (known_by_type at parens constant t (tree.Load l) refl ∙ ap type_known same))))
      (plan_address l depth p (x.0, looked.1, looked.2) k)

  by_address : (form : FormTree) (l : LvalueTree) → IsLookedAt c.u c.f c.calls (jobs.Address l depth) → IsStorable (term_known (Typed at t parens constant form)) (place_known l) → Comes c L start count (Some (Behind form)) (with_work (jobs.Address l depth) p)
  by_address form l looked is = comes_to (plan_address l depth p looked k) (value_goal used depth (Typed at t parens constant form) (place_known l) before before (agrees_same depth before) is)

  pub address_comes : (l : LvalueTree) → Looked (tree.AddressOf l) → Goal (tree.AddressOf l)
  address_comes l looked =
      let x = and_parts (is_typed_place c.u c.f l) (points_to t (lvalue_type l)) looked.0 in
      by_address (tree.AddressOf l) l (x.0, looked.1, looked.2) (storable_is _ _ (known_by_type at parens constant t (tree.AddressOf l) refl ∙ ap type_known (pointer_to t (lvalue_type l) x.1)))

  pub struct_comes : (l : LvalueTree) → Looked (tree.Struct l) → Goal (tree.Struct l)
  struct_comes l looked =
      let x = and_parts (is_typed_place c.u c.f l) (is_struct t && same_type t (lvalue_type l)) looked.0 in
      let y = and_parts (is_struct t) (same_type t (lvalue_type l)) x.1 in
      by_address (tree.Struct l) l (x.0, looked.1, looked.2) (storable_is _ _ (known_by_type at parens constant t (tree.Struct l) refl ∙ struct_type t y.0 ∙ ap (λ z. Some (Pointing (Element z))) (type_is t (lvalue_type l) y.1)))

  pub decay_comes : IsSettingOf c.u s → (l : LvalueTree) → Looked (tree.Decay l) → Goal (tree.Decay l)
  decay_comes setting l looked =
      let x = and_parts (is_typed_place c.u c.f l) (points_into t (lvalue_type l) && nat_lt 0 (size c.u c.f (lvalue_type l))) looked.0 in
      let y = and_parts (points_into t (lvalue_type l)) (nat_lt 0 (size c.u c.f (lvalue_type l))) x.1 in
      let wide = size_is c.u s (lvalue_type l) setting in
      comes_do (Behind (tree.Decay l)) _ _
      (narrows depth depth 0 _ (lvalue_type l) (lvalue_type l) (place_there l (Behind (tree.Decay l))) (stands_itself c.u.structs c.u.model.pointer (lvalue_type l)) wide (subst (λ n. 0 < n) (sym wide) (ltb-true 0 (size c.u c.f (lvalue_type l)) y.1))
      (gives_one (tree.Decay l) (place_known l) (Some (Pointing (Element (lvalue_type l)))) (subst (λ z. IsStorable z (Some (Pointing (Element (lvalue_type l))))) (sym (known_by_type at parens constant t (tree.Decay l) refl)) (points_inside t (lvalue_type l) y.0))))
      (plan_address l depth p (x.0, looked.1, looked.2) k)

  -- ---- pointers that are moved

  abbrev Both : TermTree → TermTree → Temporaries
  Both a b = two_known depth (jobs.behind depth 1) (term_known a) (term_known b) before

  shifted : (backward : Bool) (n : ℕ) (a b e : TermTree) (from : ℕ) (by : _) (m : IsMoved c t n) → Both a b from ≡ term_known e → term_type e ≡ Pointer m.inner → Gives depth (Some (Pointing (Element m.inner))) (Both a b) (Behind (tree.Shift backward n a b)) → Acts (Both a b) (Behind (tree.Shift backward n a b)) (acts.Shift depth from by n backward)
  shifted backward n a b e from by m has is gives = let (v, there, less) = points_as e m.inner is in shifts depth from by n backward m.inner v (has ∙ there) less m.size m.some gives

  moved_act : (backward : Bool) (n : ℕ) (a b : TermTree) (m : IsMoved c t n) (s : Ty) → jobs.behind depth 1 ≡ depth + 1 → term_type (integer_first s a b) ≡ Pointer m.inner → Gives depth (Some (Pointing (Element m.inner))) (Both a b) (Behind (tree.Shift backward n a b)) → Acts (Both a b) (Behind (tree.Shift backward n a b)) (moved_pointer s depth n backward)
  moved_act backward n a b m (Int kind) next is gives = shifted backward n a b b (jobs.behind depth 1) (amount.Temp depth) m (second_there depth (jobs.behind depth 1) next (term_known a) (term_known b) before) is gives
  moved_act backward n a b m (Pointer e) next is gives = shifted backward n a b a depth (amount.Temp (jobs.behind depth 1)) m (first_there depth (jobs.behind depth 1) next (term_known a) (term_known b) before) is gives
  moved_act backward n a b m (Array e i) next is gives = shifted backward n a b a depth (amount.Temp (jobs.behind depth 1)) m (first_there depth (jobs.behind depth 1) next (term_known a) (term_known b) before) is gives
  moved_act backward n a b m (Struct i) next is gives = shifted backward n a b a depth (amount.Temp (jobs.behind depth 1)) m (first_there depth (jobs.behind depth 1) next (term_known a) (term_known b) before) is gives
  moved_act backward n a b m Void next is gives = shifted backward n a b a depth (amount.Temp (jobs.behind depth 1)) m (first_there depth (jobs.behind depth 1) next (term_known a) (term_known b) before) is gives

  pub shift_comes : (backward : Bool) (n : ℕ) (a b : TermTree) → Looked (tree.Shift backward n a b) → Goal (tree.Shift backward n a b)
  shift_comes backward n a b looked =
      let x = and_parts (moves c.u c.f t n && same_type (term_type (pointer_of a b)) t) (is_typed_term c.u c.f a && is_typed_term c.u c.f b) looked.0 in
      let y = and_parts (moves c.u c.f t n) (same_type (term_type (pointer_of a b)) t) x.0 in
      let m = moved c t n y.0 in
      let z = two_looked c depth a b x.1 looked.1 looked.2 in
      let gives : Gives depth (Some (Pointing (Element m.inner))) (Both a b) (Behind (tree.Shift backward n a b)) =
      gives_goal used depth (Typed at t parens constant (tree.Shift backward n a b)) (Some (Pointing (Element m.inner))) (Both a b) before (two_agree depth (jobs.behind depth 1) z.next (term_known a) (term_known b) before) (storable_is _ _ (known_by_type at parens constant t (tree.Shift backward n a b) refl ∙ ap type_known m.is)) in
      comes_do (Behind (tree.Shift backward n a b)) _ _ (moved_act backward n a b m (term_type a) z.next (type_is (term_type (pointer_of a b)) t y.1 ∙ m.is) gives) (plan_value b (jobs.behind depth 1) _ z.right (plan_value a depth p z.left k))

-- ---- conversions

module _ {c : Site} {L : Labels → Type 0} {start : State} {count : ℕ} (s : SettingView) (at : Place) (parens : ℕ) (constant : Option ℤ) (depth : ℕ) (used : Bool) (before : Temporaries) (p : Plan) (k : Planned c L start count (Some before) p) (kind : ConversionKind) (a : TermTree) where
  abbrev converted : Ty → TermTree
  converted t = Typed at t parens constant (tree.Convert kind a)

  abbrev Value : Temporaries
  Value = with_value depth (term_known a) before

  value_agrees : Agrees depth Value before
  value_agrees = agrees_value depth depth (term_known a) before before (at_most depth) (agrees_same depth before)

  abbrev Converts : Ty → Ty → Type 0
  Converts from t = IsTypedAct c.u.structs c.u.model.pointer (base_type c.u c.f c.names) Value (term_goal used depth (converted t) before) (acts.Convert depth depth (scalar_of from) (scalar_of t))

  -- a pointer stays as it is
  same_value : (t : Ty) → scalar_of (term_type a) ≡ scalar.Pointer → IsStorable (term_known (converted (Pointer t))) (term_known a) → Converts (term_type a) (Pointer t)
  same_value t is less = subst (λ z. IsTypedAct c.u.structs c.u.model.pointer (base_type c.u c.f c.names) Value (term_goal used depth (converted (Pointer t)) before) (acts.Convert depth depth z scalar.Pointer)) (sym is)
      (to_pointer depth depth (gives_goal used depth (converted (Pointer t)) (Value depth) Value before value_agrees (subst (IsStorable (term_known (converted (Pointer t)))) (sym (value_here depth (term_known a) before)) less)))

  pointer_act : (t : Ty) (zero null : Bool) → is_zero a ≡ zero → is_null a ≡ null → (zero || (null || same_type (term_type a) (Pointer t))) ≡ true → Converts (term_type a) (Pointer t)
  pointer_act t true null zero_is null_is_ is =
      let number = zero_type a zero_is in
      let known : term_known (converted (Pointer t)) ≡ Some Null = ap (λ b. cond (b || is_null a) (Some Null) (type_known (Pointer t))) zero_is in
      subst (λ z. Converts z (Pointer t)) (sym number.1) (to_null depth depth number.0 (value_here depth (term_known a) before ∙ zero_known a zero_is) (gives_goal used depth (converted (Pointer t)) (Some Null) Value before value_agrees (storable_is _ _ known)))
  pointer_act t false true zero_is null_is_ is =
      let known : term_known (converted (Pointer t)) ≡ Some Null = ap (λ b. cond (b || is_null a) (Some Null) (type_known (Pointer t))) zero_is ∙ ap (λ b. cond b (Some Null) (type_known (Pointer t))) null_is_ in
      same_value t (null_type a null_is_) (storable_is _ _ (known ∙ sym (null_known a null_is_)))
  pointer_act t false false zero_is null_is_ is =
      let known : term_known (converted (Pointer t)) ≡ type_known (Pointer t) = ap (λ b. cond (b || is_null a) (Some Null) (type_known (Pointer t))) zero_is ∙ ap (λ b. cond b (Some Null) (type_known (Pointer t))) null_is_ in
      let same = type_is (term_type a) (Pointer t) is in
      same_value t (ap scalar_of same) (subst (λ z. IsStorable z (term_known a)) (sym known) (points_as a t same))

  convert_act : (t : Ty) → converts t a ≡ true → Converts (term_type a) t
  convert_act (Int new) is = to_number depth depth (scalar_of (term_type a)) new (gives_goal used depth (converted (Int new)) None Value before value_agrees tt)
  convert_act (Pointer t) is = pointer_act t (is_zero a) (is_null a) refl refl is
  convert_act (Array t n) is = never is
  convert_act (Struct i) is = never is
  convert_act Void is = never is

  pub convert_comes : (t : Ty) → IsLookedForm c used depth at t parens constant (tree.Convert kind a) → Comes c L start count (Some (term_goal used depth (converted t) before)) (of_form s (converted t) (tree.Convert kind a) depth used p)
  convert_comes t looked =
      let x = and_parts (is_typed_term c.u c.f a) (converts t a) looked.0 in
      comes_do (term_goal used depth (converted t) before) _ _ (convert_act t x.1) (plan_value a depth p (x.0, looked.1, looked.2) k)
