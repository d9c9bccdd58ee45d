-- Assignments, compound assignments and steps.
use Rattle.std.proofs.Common.{◌≡◌, ◌<◌, ◌≤◌, ◌⊎◌, inl, inr, ℕ, ◌+◌, ◌-◌, ◌^◌, ℤ, Bool, true, false, cond, ◌&&◌, Option, Some, None, refl, arith, ap, sym, subst, ◌∙◌}
use Rattle.std.proofs.lemmas.Bool.{and_parts, ltb-true, le-leb, leb-true, cases_eq}
use Rattle.cc_base.specs.declared.diagnostics.Place.{Place}
use Rattle.cc_base.specs.declared.int_types.IntType.{IntType}
use Rattle.c_layout.specs.CheckedTrees as tree
use Rattle.c_layout.specs.CheckedTrees.{TermTree, FormTree, LvalueTree, Typed}
use Rattle.c_layout.specs.Types.{Ty, Int, Pointer, Array, Struct, Void, same_kind, same_type}
use Rattle.c_layout.specs.declared.checked_tree.checked_terms.StepTime.{StepTime}
use Rattle.c_layout.specs.declared.syntax_tree.expressions.BinaryOp.{BinaryOp}
use Rattle.c_layout.specs.declared.syntax_tree.expressions.StepOp.{StepOp}
use Rattle.c_types_rules.proofs.SameTypes.{type_is}
use Rattle.cfg.specs.declared.machine_instructions.Amount.{Amount}
use Rattle.cfg.specs.declared.machine_instructions.Amount.TheVariants as amount
use Rattle.cfg.specs.declared.machine_instructions.Scalar.{Scalar}
use Rattle.cfg.specs.declared.machine_instructions.Scalar.TheVariants as scalar
use Rattle.lower_expressions.specs.Assignments.{kept, converted, keeps_old, new_value, widened, number_operator}
use Rattle.lower_expressions.specs.Values.{of_form}
use Rattle.typed_programs.specs.PlainUnits.PlainTerms.{is_plain_term, is_plain_place}
use Rattle.lower_templates.specs.Worklist.Acts as acts
use Rattle.lower_templates.specs.Worklist.Acts.{Act}
use Rattle.lower_templates.specs.Worklist.Plans.{Plan, done}
use Rattle.lower_templates.specs.Worklist.Settings.{SettingView}
use Rattle.lower_templates.specs.Worklist.TermKinds.{scalar_of, integer_type, meaning, step_operator, is_backward, lvalue_type}
use Rattle.lower_templates.specs.Worklist.Works as jobs
use Rattle.lower_preconditions.specs.Units.RegularTerms.{has_room, are_behind, is_regular_term, is_regular_place}
use Rattle.typed_programs.specs.Types.PointedTypes.{Element, Known, Pointing, is_same, IsOfKind, number_kind, pointer_kind, IsStorable}
use Rattle.typed_programs.specs.Types.TypedPrograms.{Gives, Keeps}
use Rattle.typed_programs.specs.Types.TypedStates.{Temporaries}
use Rattle.memory_model.specs.Effects.NumberedTables.{set_at}
use Rattle.typed_lowering.specs.Conversions.KnownValues.{type_known, term_known, place_known, below, with_value}
use Rattle.typed_lowering.specs.Conversions.TypedActs.{IsTypedAct, loads, stores_in, shifts, computes, to_number}
use Rattle.typed_lowering.specs.Conversions.TypedPieces.{base_type, State}
use Rattle.typed_lowering.specs.Conversions.TypedTerms.{is_integer, is_stored_as, moves, is_typed_term, is_typed_place}
use Rattle.typed_lowering.specs.Conversions.WorkLaws.{IsLookedAt}
use Rattle.typed_lowering.proofs.conversions.KeptKnowledge.{kept_same}
use Rattle.typed_lowering.proofs.worklists.KnownTables.{at_most, set_here, set_else, below_here, Agrees, agrees_same, agrees_below, agrees_set, agrees_value, value_here, to_below, gives_value, gives_below}
use Rattle.typed_lowering.proofs.worklists.PlannedWorks.{Site, Labels, Planned, Comes, plan_value, plan_address, plan_do}
use Rattle.typed_lowering.proofs.worklists.FormGoals.{never, no_less, term_goal, comes_do, integer_of, integer_known, known_by_type, nothing_asked, stored_as, behind_is, behind_parts, two_known, two_agree, first_there, second_there}
use Rattle.typed_lowering.proofs.worklists.Numbers.{IsLookedForm}
use Rattle.typed_lowering.proofs.worklists.Pointers.{storable_is, points_there, IsMoved, moved}

-- ---- sides

pub record AreSides (c : Site) (depth : ℕ) (l : LvalueTree) (e : TermTree) : Type 0 where
  pub left : IsLookedAt c.u c.f c.calls (jobs.Address l depth)
  pub right : IsLookedAt c.u c.f c.calls (jobs.Value e (jobs.behind depth 1))
  pub next : jobs.behind depth 1 ≡ depth + 1

sides_looked : (c : Site) (depth : ℕ) (l : LvalueTree) (e : TermTree) → (is_typed_place c.u c.f l && is_typed_term c.u c.f e) ≡ true → (is_plain_place c.calls l && is_plain_term c.calls e) ≡ true → are_behind depth (is_regular_place c.u c.f depth l) (is_regular_term c.u c.f true (depth + 1) e) ≡ true → AreSides c depth l e
sides_looked c depth l e typed plain regular =
    let x = and_parts _ _ typed in
    let y = and_parts _ _ plain in
    let z = behind_parts depth (is_regular_place c.u c.f depth l) (is_regular_term c.u c.f true (depth + 1) e) regular in
    record { left = (x.0, y.0, z.left); right = (x.1, y.1, subst (λ n. is_regular_term c.u c.f true n e ≡ true) (sym z.next) z.right); next = z.next }

above : (depth a : ℕ) → a ≡ depth + 1 → depth ≡ a → ⊥
above depth a x e = omega (arith, x, e)

above_two : (depth b : ℕ) → b ≡ depth + 2 → depth ≡ b → ⊥
above_two depth b y e = omega (arith, y, e)

no_less_two : (depth n : ℕ) → n ≡ depth + 2 → depth ≤ n
no_less_two depth n e = omega (arith, e)

fewer : (depth n : ℕ) → n ≡ depth + 1 → depth + 1 ≤ n
fewer depth n e = omega (arith, e)

fewer_two : (depth n : ℕ) → n ≡ depth + 2 → depth + 1 ≤ n
fewer_two depth n e = omega (arith, e)

room_two : (depth : ℕ) → has_room (depth + 2) ≡ true → has_room (depth + 1) ≡ true
room_two depth room = le-leb (depth + 1) (2 ^ 32 - 1) (less (depth + 1) (depth + 2) (2 ^ 32 - 1) (leb-true (depth + 2) (2 ^ 32 - 1) room) (plus depth))
  where
    plus : (d : ℕ) → d + 1 ≤ d + 2
    plus d = omega arith

    less : (a b m : ℕ) → b ≤ m → a ≤ b → a ≤ m
    less a b m x y = omega (arith, x, y)

-- a temporary behind that behind the first one
later : (depth old : ℕ) → old ≡ depth + 1 → has_room (depth + 2) ≡ true → jobs.behind old 1 ≡ depth + 2
later depth old next room = behind_is old 1 (subst (λ n. has_room n ≡ true) (same old depth next) room) ∙ sym (same old depth next)
  where
    same : (old depth : ℕ) → old ≡ depth + 1 → depth + 2 ≡ old + 1
    same old depth next = omega (arith, next)

number_of : (t : Ty) → is_integer t ≡ true → IsOfKind t (scalar.Int (integer_type t)) (type_known t)
number_of (Int kind) is = number_kind kind (ltb-true 0 kind.bytes is)
number_of (Pointer t) is = never is
number_of (Array t n) is = never is
number_of (Struct i) is = never is
number_of Void is = never is

module _ {c : Site} {L : Labels → Type 0} {start : State} {count : ℕ} (s : SettingView) (at : Place) (t : Ty) (parens : ℕ) (constant : Option ℤ) (depth : ℕ) (used : Bool) (before : Temporaries) (p : Plan) (k : Planned c L start count (Some before) p) where
  abbrev Goal : FormTree → Type 0
  Goal form = Comes c L start count (Some (term_goal used depth (Typed at t parens constant form) before)) (of_form s (Typed at t parens constant form) form depth used p)

  abbrev Looked : FormTree → Type 0
  Looked form = IsLookedForm c used depth at t parens constant form

  abbrev Behind : FormTree → Temporaries
  Behind form = term_goal used depth (Typed at t parens constant form) before

  abbrev Acts : Temporaries → Temporaries → Act → Type 0
  Acts known after a = IsTypedAct c.u.structs c.u.model.pointer (base_type c.u c.f c.names) known after a

  -- a store may give its value to the first temporary
  keeps_goal : (b : Bool) (e : TermTree) (from : ℕ) (known : Temporaries) → Agrees depth known before → IsStorable (term_known e) (known from) → Keeps (kept b depth from) known (term_goal b depth e before)
  keeps_goal true e from known agree is = gives_value depth (term_known e) (known from) known before agree is
  keeps_goal false e from known agree is = to_below depth known before agree

  stores : (form : FormTree) (l : LvalueTree) (kind : Scalar) (from shown : ℕ) (known : Temporaries) → Agrees depth known before → known depth ≡ place_known l → IsOfKind (lvalue_type l) kind (type_known (lvalue_type l)) → IsStorable (type_known (lvalue_type l)) (known from) → IsStorable (term_known (Typed at t parens constant form)) (known shown)
      → Acts known (Behind form) (acts.Store depth from kind (kept used depth shown))
  stores form l kind from shown known agree there of_kind is shows = stores_in depth from kind (kept used depth shown) (lvalue_type l) (type_known (lvalue_type l)) (points_there c known (Behind form) depth (lvalue_type l) (lvalue_type l) there refl) of_kind is (keeps_goal used (Typed at t parens constant form) shown known agree shows)

  -- ---- `=`

  abbrev Both : LvalueTree → TermTree → Temporaries
  Both l e = two_known depth (jobs.behind depth 1) (place_known l) (term_known e) before

  pub assign_comes : (l : LvalueTree) (e : TermTree) → Looked (tree.Assign l e) → Goal (tree.Assign l e)
  assign_comes l e looked =
      let x = and_parts (is_typed_place c.u c.f l && is_typed_term c.u c.f e) (is_stored_as (lvalue_type l) e && same_type t (lvalue_type l)) looked.0 in
      let y = and_parts (is_stored_as (lvalue_type l) e) (same_type t (lvalue_type l)) x.1 in
      let z = sides_looked c depth l e x.0 looked.1 looked.2 in
      let n = jobs.behind depth 1 in
      let value = stored_as (lvalue_type l) e y.0 in
      let there = second_there depth n z.next (place_known l) (term_known e) before in
      let is : IsStorable (type_known (lvalue_type l)) (Both l e n) = subst (IsStorable (type_known (lvalue_type l))) (sym there) value.storable in
      let same : term_known (Typed at t parens constant (tree.Assign l e)) ≡ type_known (lvalue_type l) = known_by_type at parens constant t (tree.Assign l e) refl ∙ ap type_known (type_is t (lvalue_type l) y.1) in
      comes_do (Behind (tree.Assign l e)) _ _
      (stores (tree.Assign l e) l (scalar_of (lvalue_type l)) n n (Both l e) (two_agree depth n z.next (place_known l) (term_known e) before) (first_there depth n z.next (place_known l) (term_known e) before) value.kind is (subst (λ z. IsStorable z (Both l e n)) (sym same) is))
      (plan_value e n _ z.right (plan_address l depth p z.left k))

  -- ---- numbers: nothing is known of what stands behind the address

  abbrev Placed : LvalueTree → Temporaries
  Placed l = below (depth + 1) (with_value depth (place_known l) before)

  placed_agrees : (l : LvalueTree) → Agrees depth (Placed l) before
  placed_agrees l = agrees_below depth (depth + 1) (with_value depth (place_known l) before) before (more depth) (agrees_value depth depth (place_known l) before before (at_most depth) (agrees_same depth before))
    where
      more : (n : ℕ) → n ≤ n + 1
      more n = omega arith

  placed_there : (l : LvalueTree) → Placed l depth ≡ place_known l
  placed_there l = below_here (depth + 1) (with_value depth (place_known l) before) depth (less depth) ∙ value_here depth (place_known l) before
    where
      less : (n : ℕ) → n < n + 1
      less n = omega arith

  -- an instruction that gives a number to a temporary behind the address
  gives_placed : (l : LvalueTree) (to : ℕ) → depth + 1 ≤ to → (known : Temporaries) → Agrees (depth + 1) known (with_value depth (place_known l) before) → Gives to None known (Placed l)
  gives_placed l to most known agree = gives_below (depth + 1) to None known (with_value depth (place_known l) before) most agree

  placed_same : (l : LvalueTree) → Agrees (depth + 1) (Placed l) (with_value depth (place_known l) before)
  placed_same l = agrees_below (depth + 1) (depth + 1) (with_value depth (place_known l) before) (with_value depth (place_known l) before) (at_most (depth + 1)) (agrees_same (depth + 1) (with_value depth (place_known l) before))

  again : (l : LvalueTree) (to : ℕ) → depth + 1 ≤ to → Gives to None (Placed l) (Placed l)
  again l to most = gives_placed l to most (Placed l) (placed_same l)

  plan_converted : {m : ℕ} (l : LvalueTree) (at : Place) (to from : ℕ) (old new : IntType) (q : Plan) → depth + 1 ≤ to → Planned c L start m (Some (Placed l)) q → Planned c L start m (Some (Placed l)) (converted at to from old new q)
  plan_converted {m = m} l at to from old new q most k = by (same_kind old new)
    where
      by : (b : Bool) → Planned c L start m (Some (Placed l)) (cond b q (done at (acts.Convert to from (scalar.Int old) (scalar.Int new)) q))
      by true = k
      by false = plan_do (Placed l) _ q (to_number to from (scalar.Int old) new (again l to most)) k

  number_stored : (form : FormTree) (l : LvalueTree) (from shown : ℕ) (is : is_integer (lvalue_type l) ≡ true) → term_known (Typed at t parens constant form) ≡ None → Acts (Placed l) (Behind form) (acts.Store depth from (scalar.Int (integer_type (lvalue_type l))) (kept used depth shown))
  number_stored form l from shown is unknown =
      stores form l (scalar.Int (integer_type (lvalue_type l))) from shown (Placed l) (placed_agrees l) (placed_there l) (number_of (lvalue_type l) is) (nothing_asked _ _ (ap type_known (integer_of (lvalue_type l) is).1)) (nothing_asked _ _ unknown)

  load_number : (l : LvalueTree) (to : ℕ) → depth + 1 ≤ to → is_integer (lvalue_type l) ≡ true → (known : Temporaries) → Agrees (depth + 1) known (with_value depth (place_known l) before) → known depth ≡ place_known l → Acts known (Placed l) (acts.Load to depth (scalar.Int (integer_type (lvalue_type l))))
  load_number l to most is known agree there =
      loads to depth (scalar.Int (integer_type (lvalue_type l))) (lvalue_type l) (type_known (lvalue_type l)) (points_there c known (Placed l) depth (lvalue_type l) (lvalue_type l) there refl) (number_of (lvalue_type l) is)
      (subst (λ z. Gives to z known (Placed l)) (sym (ap type_known (integer_of (lvalue_type l) is).1)) (gives_placed l to most known agree))

  pub compound_comes : (sign : BinaryOp) (kind : Ty) (l : LvalueTree) (e : TermTree) → Looked (tree.Compound sign kind l e) → Goal (tree.Compound sign kind l e)
  compound_comes sign kind l e looked =
      let x = and_parts (is_integer t && is_integer (lvalue_type l)) (is_typed_place c.u c.f l && is_typed_term c.u c.f e) looked.0 in
      let y = and_parts (is_integer t) (is_integer (lvalue_type l)) x.0 in
      let deep = and_parts (has_room (depth + 2)) (are_behind depth (is_regular_place c.u c.f depth l) (is_regular_term c.u c.f true (depth + 1) e)) looked.2 in
      let z = sides_looked c depth l e x.1 looked.1 deep.1 in
      let n = jobs.behind depth 1 in
      let m = jobs.behind depth 2 in
      let low = fewer depth n z.next in
      let high = fewer_two depth m (behind_is depth 2 deep.0) in
      let own = integer_type (lvalue_type l) in
      let agree : Agrees (depth + 1) (Both l e) (with_value depth (place_known l) before) = agrees_value (depth + 1) n (term_known e) (with_value depth (place_known l) before) (with_value depth (place_known l) before) low (agrees_same (depth + 1) (with_value depth (place_known l) before)) in
      comes_do (Behind (tree.Compound sign kind l e)) _ _
      (number_stored (tree.Compound sign kind l e) l n n y.1 (integer_known at parens constant t (tree.Compound sign kind l e) refl y.0))
      (plan_converted l at n n (integer_type kind) own _ low
      (plan_do (Placed l) _ _ (computes n (number_operator (meaning sign)) m (amount.Temp n) (integer_type kind) (again l n low))
      (plan_converted l at m m own (integer_type kind) _ high
      (plan_do (Placed l) _ _ (load_number l m high y.1 (Both l e) agree (first_there depth n z.next (place_known l) (term_known e) before))
      (plan_value e n _ z.right (plan_address l depth p z.left k))))))

  -- ---- steps of numbers

  new_most : (b : Bool) (old : ℕ) → old ≡ depth + 1 → jobs.behind old 1 ≡ depth + 2 → depth + 1 ≤ new_value old b
  new_most true old next later = fewer_two depth (jobs.behind old 1) later
  new_most false old next later = fewer depth old next

  pub step_comes : (sign : StepOp) (time : StepTime) (kind : Ty) (l : LvalueTree) → Looked (tree.Step sign time kind l) → Goal (tree.Step sign time kind l)
  step_comes sign time kind l looked =
      let x = and_parts (is_integer t && is_integer (lvalue_type l)) (is_typed_place c.u c.f l) looked.0 in
      let y = and_parts (is_integer t) (is_integer (lvalue_type l)) x.0 in
      let deep = and_parts (has_room (depth + 2)) (is_regular_place c.u c.f depth l) looked.2 in
      let old = jobs.behind depth 1 in
      let keeps = keeps_old time used in
      let next = behind_is depth 1 (room_two depth deep.0) in
      let low = fewer depth old next in
      let high = new_most keeps old next (later depth old next deep.0) in
      let own = integer_type (lvalue_type l) in
      comes_do (Behind (tree.Step sign time kind l)) _ _
      (number_stored (tree.Step sign time kind l) l (new_value old keeps) old y.1 (integer_known at parens constant t (tree.Step sign time kind l) refl y.0))
      (plan_converted l at (new_value old keeps) (new_value old keeps) (integer_type kind) own _ high
      (plan_do (Placed l) _ _ (computes (new_value old keeps) (step_operator sign) (widened (new_value old keeps) old own (integer_type kind)) amount.One (integer_type kind) (again l (new_value old keeps) high))
      (plan_converted l at (new_value old keeps) old own (integer_type kind) _ high
      (plan_do (Placed l) _ _ (load_number l old low y.1 (with_value depth (place_known l) before) (agrees_same (depth + 1) (with_value depth (place_known l) before)) (value_here depth (place_known l) before))
      (plan_address l depth p (x.1, looked.1, deep.1) k)))))

  -- ---- pointers

  -- a pointer to the elements, behind the address
  abbrev Element_known : Ty → Option Known
  Element_known inner = Some (Pointing (Element inner))

  pointer_stored : (form : FormTree) (l : LvalueTree) (inner : Ty) (from shown : ℕ) (known : Temporaries) → Agrees depth known before → known depth ≡ place_known l → lvalue_type l ≡ Pointer inner → t ≡ Pointer inner → term_known (Typed at t parens constant form) ≡ type_known t → known from ≡ Element_known inner → known shown ≡ Element_known inner → Acts known (Behind form) (acts.Store depth from scalar.Pointer (kept used depth shown))
  pointer_stored form l inner from shown known agree there is own typed_ has shows =
      stores form l scalar.Pointer from shown known agree there (subst (λ z. IsOfKind z scalar.Pointer (type_known z)) (sym is) (pointer_kind inner))
      (storable_is _ _ (ap type_known is ∙ sym has)) (storable_is _ _ (typed_ ∙ ap type_known own ∙ sym shows))

  load_pointer : (l : LvalueTree) (inner : Ty) (to : ℕ) (known : Temporaries) → lvalue_type l ≡ Pointer inner → known depth ≡ place_known l → Acts known (set_at known to (Element_known inner)) (acts.Load to depth scalar.Pointer)
  load_pointer l inner to known is there = loads to depth scalar.Pointer (Pointer inner) (Element_known inner) (points_there c known (set_at known to (Element_known inner)) depth (lvalue_type l) (Pointer inner) there is) (pointer_kind inner) (kept_same (set_at known to (Element_known inner)))

  shift_pointer : (n : ℕ) (m : IsMoved c t n) (to from : ℕ) (by : Amount) (backward : Bool) (known : Temporaries) → known from ≡ Element_known m.inner → Acts known (set_at known to (Element_known m.inner)) (acts.Shift to from by n backward)
  shift_pointer n m to from by backward known has = shifts to from by n backward m.inner (Pointing (Element m.inner)) has (is_same (Element m.inner)) m.size m.some (kept_same (set_at known to (Element_known m.inner)))

  pub compound_shift_comes : (backward : Bool) (n : ℕ) (l : LvalueTree) (e : TermTree) → Looked (tree.CompoundShift backward n l e) → Goal (tree.CompoundShift backward n l e)
  compound_shift_comes backward n l e looked =
      let x = and_parts (moves c.u c.f t n && same_type t (lvalue_type l)) (is_typed_place c.u c.f l && is_typed_term c.u c.f e) looked.0 in
      let y = and_parts (moves c.u c.f t n) (same_type t (lvalue_type l)) x.0 in
      let deep = and_parts (has_room (depth + 2)) (are_behind depth (is_regular_place c.u c.f depth l) (is_regular_term c.u c.f true (depth + 1) e)) looked.2 in
      let z = sides_looked c depth l e x.1 looked.1 deep.1 in
      let v = moved c t n y.0 in
      let a = jobs.behind depth 1 in
      let b = jobs.behind depth 2 in
      let later = behind_is depth 2 deep.0 in
      let is : lvalue_type l ≡ Pointer v.inner = sym (type_is t (lvalue_type l) y.1) ∙ v.is in
      let loaded = set_at (Both l e) b (Element_known v.inner) in
      let shifted = set_at loaded a (Element_known v.inner) in
      let there : Both l e depth ≡ place_known l = first_there depth a z.next (place_known l) (term_known e) before in
      let there_shifted : shifted depth ≡ place_known l = set_else loaded a (Element_known v.inner) depth (above depth a z.next) ∙ set_else (Both l e) b (Element_known v.inner) depth (above_two depth b later) ∙ there in
      let agree : Agrees depth shifted before = agrees_set depth a (Element_known v.inner) loaded before (no_less depth a z.next) (agrees_set depth b (Element_known v.inner) (Both l e) before (no_less_two depth b later) (two_agree depth a z.next (place_known l) (term_known e) before)) in
      let has : shifted a ≡ Element_known v.inner = set_here loaded a (Element_known v.inner) a refl in
      comes_do (Behind (tree.CompoundShift backward n l e)) _ _
      (pointer_stored (tree.CompoundShift backward n l e) l v.inner a a shifted agree there_shifted is v.is (known_by_type at parens constant t (tree.CompoundShift backward n l e) refl) has has)
      (plan_do shifted _ _ (shift_pointer n v a b (amount.Temp a) backward loaded (set_here (Both l e) b (Element_known v.inner) b refl))
      (plan_do loaded _ _ (load_pointer l v.inner b (Both l e) is there) (plan_value e a _ z.right (plan_address l depth p z.left k))))

  -- the old value stands in its place still where it is asked for
  shown_there : (inner : Ty) (old new : ℕ) (known : Temporaries) → known old ≡ Element_known inner → set_at known new (Element_known inner) old ≡ Element_known inner
  shown_there inner old new known has = by_place (cases_eq old new)
    where
      by_place : (old ≡ new) ⊎ (old ≡ new → ⊥) → set_at known new (Element_known inner) old ≡ Element_known inner
      by_place (inl same) = set_here known new (Element_known inner) old same
      by_place (inr other) = set_else known new (Element_known inner) old other ∙ has

  new_no_less : (b : Bool) (old : ℕ) → old ≡ depth + 1 → jobs.behind old 1 ≡ depth + 2 → (depth ≤ new_value old b) × (depth ≡ new_value old b → ⊥)
  new_no_less true old next later = (no_less_two depth (jobs.behind old 1) later, above_two depth (jobs.behind old 1) later)
  new_no_less false old next later = (no_less depth old next, above depth old next)

  pub step_pointer_comes : (sign : StepOp) (time : StepTime) (n : ℕ) (l : LvalueTree) → Looked (tree.StepPointer sign time n l) → Goal (tree.StepPointer sign time n l)
  step_pointer_comes sign time n l looked =
      let x = and_parts (moves c.u c.f t n && same_type t (lvalue_type l)) (is_typed_place c.u c.f l) looked.0 in
      let y = and_parts (moves c.u c.f t n) (same_type t (lvalue_type l)) x.0 in
      let deep = and_parts (has_room (depth + 2)) (is_regular_place c.u c.f depth l) looked.2 in
      let v = moved c t n y.0 in
      let old = jobs.behind depth 1 in
      let keeps = keeps_old time used in
      let new = new_value old keeps in
      let next = behind_is depth 1 (room_two depth deep.0) in
      let places = new_no_less keeps old next (later depth old next deep.0) in
      let is : lvalue_type l ≡ Pointer v.inner = sym (type_is t (lvalue_type l) y.1) ∙ v.is in
      let first = with_value depth (place_known l) before in
      let loaded = set_at first old (Element_known v.inner) in
      let shifted = set_at loaded new (Element_known v.inner) in
      let there : first depth ≡ place_known l = value_here depth (place_known l) before in
      let there_shifted : shifted depth ≡ place_known l = set_else loaded new (Element_known v.inner) depth places.1 ∙ set_else first old (Element_known v.inner) depth (above depth old next) ∙ there in
      let agree : Agrees depth shifted before = agrees_set depth new (Element_known v.inner) loaded before places.0 (agrees_set depth old (Element_known v.inner) first before (no_less depth old next) (agrees_value depth depth (place_known l) before before (at_most depth) (agrees_same depth before))) in
      let has : loaded old ≡ Element_known v.inner = set_here first old (Element_known v.inner) old refl in
      comes_do (Behind (tree.StepPointer sign time n l)) _ _
      (pointer_stored (tree.StepPointer sign time n l) l v.inner new old shifted agree there_shifted is v.is (known_by_type at parens constant t (tree.StepPointer sign time n l) refl) (set_here loaded new (Element_known v.inner) new refl) (shown_there v.inner old new loaded has))
      (plan_do shifted _ _ (shift_pointer n v new old amount.One (is_backward sign) loaded has)
      (plan_do loaded _ _ (load_pointer l v.inner old first is there) (plan_address l depth p (x.1, looked.1, deep.1) k)))
