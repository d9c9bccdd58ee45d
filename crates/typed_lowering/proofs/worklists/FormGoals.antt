-- What the works of a term come to, and what looks at its parts say.
use Rattle.std.proofs.Common.{◌≡◌, ◌≤◌, ◌<◌, ℕ, ◌+◌, ◌-◌, ◌^◌, ℤ, min, Bool, true, false, cond, ◌&&◌, ◌||◌, Option, Some, None, refl, arith, ap, sym, subst, ◌∙◌}
use Rattle.std.proofs.lemmas.Bool.{and_parts, ltb-true, leb-true}
use Rattle.cc_base.specs.declared.diagnostics.Place.{Place}
use Rattle.cc_base.specs.declared.int_types.IntType.{IntType}
use Rattle.c_layout.specs.CheckedTrees as tree
use Rattle.c_layout.specs.CheckedTrees.{TermTree, FormTree, Typed}
use Rattle.c_layout.specs.Types.{Ty, Int, Pointer, Array, Struct, Void, same_type}
use Rattle.c_types_rules.proofs.SameTypes.{type_is}
use Rattle.lower_expressions.specs.Branches.{arm}
use Rattle.typed_programs.specs.PlainUnits.PlainTerms.{is_plain_term}
use Rattle.lower_templates.specs.Worklist.Acts.{Step}
use Rattle.lower_templates.specs.Worklist.Pieces.{Do}
use Rattle.lower_templates.specs.Worklist.TermKinds.{term_type, scalar_of}
use Rattle.lower_templates.specs.Worklist.Works as jobs
use Rattle.lower_templates.specs.Worklist.Plans.{Plan, with_work}
use Rattle.lower_preconditions.specs.Units.RegularTerms.{has_room, are_behind, is_regular_term}
use Rattle.typed_programs.specs.Types.PointedTypes.{Known, Zero, Null, Pointing, Element, IsOfKind, number_kind, pointer_kind, IsStorable}
use Rattle.typed_programs.specs.Types.TypedPrograms.{IsKept, Gives}
use Rattle.typed_programs.specs.Types.TypedStates.{Temporaries}
use Rattle.typed_lowering.specs.Conversions.KnownValues.{type_known, term_known, below, with_value}
use Rattle.typed_lowering.specs.Conversions.TypedActs.{IsTypedAct}
use Rattle.typed_lowering.specs.Conversions.TypedPieces.{base_type, State, IsWeaker}
use Rattle.typed_lowering.specs.Conversions.TypedTerms.{is_integer, is_scalar, is_stored_as, points_to, is_null, is_zero_form, is_null_form, fits, is_typed_term}
use Rattle.typed_lowering.specs.Conversions.WorkLaws.{IsLookedAt}
use Rattle.typed_lowering.proofs.conversions.KeptKnowledge.{kept_same}
use Rattle.typed_lowering.proofs.worklists.KnownTables.{at_most, Agrees, agrees_same, agrees_below, agrees_value, value_here, value_else, storable_same, to_value, to_below, gives_value, gives_below}
use Rattle.typed_lowering.proofs.worklists.PlannedWorks.{Site, Labels, Planned, Comes, plan_value, plan_unused, plan_do}

pub never : {A : Type 0} → false ≡ true → A
never e = absurd (cc)

-- ---- goals

-- what is known behind a term whose value is used or not
abbrev pub term_goal : Bool → ℕ → TermTree → Temporaries → Temporaries
term_goal true depth e before = with_value depth (term_known e) before
term_goal false depth e before = below depth before

pub to_goal : (used : Bool) (depth : ℕ) (e : TermTree) (known before : Temporaries) → Agrees depth known before → IsStorable (term_known e) (known depth) → IsKept known (term_goal used depth e before)
to_goal true depth e known before agree is = to_value depth (term_known e) known before agree is
to_goal false depth e known before agree is = to_below depth known before agree

pub gives_goal : (used : Bool) (depth : ℕ) (e : TermTree) (given : Option Known) (known before : Temporaries) → Agrees depth known before → IsStorable (term_known e) given → Gives depth given known (term_goal used depth e before)
gives_goal true depth e given known before agree is = gives_value depth (term_known e) given known before agree is
gives_goal false depth e given known before agree is = gives_below depth depth given known before (at_most depth) agree

-- a value that is there
pub value_goal : (used : Bool) (depth : ℕ) (e : TermTree) (value : Option Known) (known before : Temporaries) → Agrees depth known before → IsStorable (term_known e) value → IsKept (with_value depth value known) (term_goal used depth e before)
value_goal used depth e value known before agree is = to_goal used depth e (with_value depth value known) before (agrees_value depth depth value known before (at_most depth) agree) (subst (IsStorable (term_known e)) (sym (value_here depth value known)) is)

-- an operand's value, used as the term's own is
pub arm_goal : (used : Bool) (depth : ℕ) (e a : TermTree) (known before : Temporaries) → Agrees depth known before → IsStorable (term_known e) (term_known a) → IsKept (term_goal used depth a known) (term_goal used depth e before)
arm_goal true depth e a known before agree is = value_goal true depth e (term_known a) known before agree is
arm_goal false depth e a known before agree is = to_below depth (below depth known) before (λ t less. under t less ∙ agree t less)
  where
    under : Agrees depth (below depth known) known
    under = agrees_below depth depth known known (at_most depth) (agrees_same depth known)

module _ {c : Site} {L : Labels → Type 0} {start : State} {count : ℕ} where
  pub comes_to : {end goal : State} {p : Plan} → Planned c L start count end p → IsWeaker end goal → Comes c L start count goal p
  comes_to {end = end} k weaker = record { end = end; planned = k; weaker = weaker }

  -- by an instruction that comes last
  pub comes_do : {before : Temporaries} (goal : Temporaries) (x : Step) (p : Plan) → IsTypedAct c.u.structs c.u.model.pointer (base_type c.u c.f c.names) before goal x.does → Planned c L start count (Some before) p → Comes c L start count (Some goal) (with_work (jobs.Ready (Do x)) p)
  comes_do goal x p acts k = comes_to (plan_do goal x p acts k) (kept_same goal)

  pub plan_arm : {before : Temporaries} (used : Bool) (e : TermTree) (depth : ℕ) (p : Plan) → (is_typed_term c.u c.f e ≡ true) × (is_plain_term c.calls e ≡ true) × (is_regular_term c.u c.f used depth e ≡ true) → Planned c L start count (Some before) p
      → Planned c L start count (Some (term_goal used depth e before)) (with_work (arm e depth used) p)
  plan_arm true e depth p looked k = plan_value e depth p looked k
  plan_arm false e depth p looked k = plan_unused e depth p looked k

-- ---- types

pub integer_of : (t : Ty) → is_integer t ≡ true → (kind : IntType) × (t ≡ Int kind) × (0 < kind.bytes)
integer_of (Int kind) e = (kind, refl, ltb-true 0 kind.bytes e)
integer_of (Pointer t) e = never e
integer_of (Array t n) e = never e
integer_of (Struct i) e = never e
integer_of Void e = never e

pub pointer_to : (t s : Ty) → points_to t s ≡ true → t ≡ Pointer s
pointer_to (Pointer t) s e = ap Pointer (type_is t s e)
pointer_to (Int kind) s e = never e
pointer_to (Array t n) s e = never e
pointer_to (Struct i) s e = never e
pointer_to Void s e = never e

pub integer_unknown : (t : Ty) → is_integer t ≡ true → type_known t ≡ None
integer_unknown t e = ap type_known (integer_of t e).1

pub scalar_kind : (t : Ty) → is_scalar t ≡ true → IsOfKind t (scalar_of t) (type_known t)
scalar_kind (Int kind) e = number_kind kind (ltb-true 0 kind.bytes e)
scalar_kind (Pointer t) e = pointer_kind t
scalar_kind (Array t n) e = never e
scalar_kind (Struct i) e = never e
scalar_kind Void e = never e

-- ---- what is known of terms

-- neither a number nor a conversion
abbrev pub is_ordinary : FormTree → Bool
is_ordinary (tree.Number n) = false
is_ordinary (tree.Convert kind a) = false
is_ordinary form = true

no_constant : (t : Ty) (form : FormTree) → is_ordinary form ≡ true → (is_zero_form t form ≡ false) × (is_null_form t form ≡ false)
no_constant (Int kind) (tree.Number n) e = never e
no_constant (Pointer t) (tree.Convert kind a) e = never e
no_constant t form e = (refl, refl)

by_looks : (a b : Bool) (known : Option Known) → a ≡ false → b ≡ false → cond a (Some Zero) (cond b (Some Null) known) ≡ known
by_looks a b known x y = ap (λ a. cond a (Some Zero) (cond b (Some Null) known)) x ∙ ap (λ b. cond b (Some Null) known) y

module _ (at : Place) (parens : ℕ) (constant : Option ℤ) where
  pub known_by_type : (t : Ty) (form : FormTree) → is_ordinary form ≡ true → term_known (Typed at t parens constant form) ≡ type_known t
  known_by_type t form e = let x = no_constant t form e in by_looks (is_zero_form t form) (is_null_form t form) (type_known t) x.0 x.1

  pub integer_known : (t : Ty) (form : FormTree) → is_ordinary form ≡ true → is_integer t ≡ true → term_known (Typed at t parens constant form) ≡ None
  integer_known t form e is = known_by_type t form e ∙ integer_unknown t is

pub nothing_asked : (value old : Option Known) → value ≡ None → IsStorable value old
nothing_asked value old e = subst (λ z. IsStorable z old) (sym e) tt

-- 0 has an integer type, null a pointer's
pub pointer_known : (e : TermTree) (t : Ty) → term_type e ≡ Pointer t → term_known e ≡ cond (is_null e) (Some Null) (type_known (Pointer t))
pointer_known (Typed at s parens constant form) t e = subst (λ s. term_known (Typed at s parens constant form) ≡ cond (is_null (Typed at s parens constant form)) (Some Null) (type_known (Pointer t))) (sym e) refl

pub struct_known : (e : TermTree) (i : ℕ) → term_type e ≡ Struct i → term_known e ≡ type_known (Struct i)
struct_known (Typed at s parens constant form) i e = subst (λ s. term_known (Typed at s parens constant form) ≡ type_known (Struct i)) (sym e) refl

-- a term of the pointer's type has the value of one
pub points_as : (e : TermTree) (t : Ty) → term_type e ≡ Pointer t → IsStorable (Some (Pointing (Element t))) (term_known e)
points_as e t is = subst (IsStorable (Some (Pointing (Element t)))) (sym (pointer_known e t is)) (by (is_null e))
  where
    by : (b : Bool) → IsStorable (Some (Pointing (Element t))) (cond b (Some Null) (Some (Pointing (Element t))))
    by true = (Null, refl, tt)
    by false = storable_same (Some (Pointing (Element t)))

-- null has a pointer's type
pub null_known : (e : TermTree) → is_null e ≡ true → term_known e ≡ Some Null
null_known (Typed at (Pointer t) parens constant form) is = ap (λ b. cond b (Some Null) (Some (Pointing (Element t)))) is
null_known (Typed at (Int kind) parens constant form) is = never is
null_known (Typed at (Array t n) parens constant form) is = never is
null_known (Typed at (Struct i) parens constant form) is = never is
null_known (Typed at Void parens constant form) is = never is

pub fitting : (t : Ty) (e : TermTree) → fits t e ≡ true → IsStorable (type_known t) (term_known e)
fitting (Pointer t) e is = by (is_null e) refl is
  where
    by : (b : Bool) → is_null e ≡ b → (b || same_type (term_type e) (Pointer t)) ≡ true → IsStorable (Some (Pointing (Element t))) (term_known e)
    by true null is = subst (IsStorable (Some (Pointing (Element t)))) (sym (null_known e null)) (Null, refl, tt)
    by false null is = points_as e t (type_is (term_type e) (Pointer t) is)
fitting (Struct i) e is = subst (IsStorable (type_known (Struct i))) (sym (struct_known e i (type_is (term_type e) (Struct i) is))) (storable_same (type_known (Struct i)))
fitting (Int kind) e is = tt
fitting (Array t n) e is = tt
fitting Void e is = tt

-- a value that is stored has the scalar's kind
pub record IsStoredAs (t : Ty) (e : TermTree) : Type 0 where
  pub kind : IsOfKind t (scalar_of t) (type_known t)
  pub storable : IsStorable (type_known t) (term_known e)

pub stored_as : (t : Ty) (e : TermTree) → is_stored_as t e ≡ true → IsStoredAs t e
stored_as (Int kind) e is = record { kind = number_kind kind (ltb-true 0 kind.bytes (and_parts _ _ is).0); storable = tt }
stored_as (Pointer t) e is = record { kind = pointer_kind t; storable = points_as e t (type_is (term_type e) (Pointer t) is) }
stored_as (Array t n) e is = never is
stored_as (Struct i) e is = never is
stored_as Void e is = never is

-- ---- temporaries behind one another

least : (a b : ℕ) → a ≤ b → min a b ≡ a
least a b less = omega (arith, less)

pub behind_is : (depth n : ℕ) → has_room (depth + n) ≡ true → jobs.behind depth n ≡ depth + n
behind_is depth n room = least (depth + n) (2 ^ 32 - 1) (leb-true (depth + n) (2 ^ 32 - 1) room)

-- two operands, one behind the other
pub record AreBehind (depth : ℕ) (first second : Bool) : Type 0 where
  pub left : first ≡ true
  pub next : jobs.behind depth 1 ≡ depth + 1
  pub right : second ≡ true

pub behind_parts : (depth : ℕ) (first second : Bool) → are_behind depth first second ≡ true → AreBehind depth first second
behind_parts depth first second e = let x = and_parts first (has_room (depth + 1) && second) e in let y = and_parts (has_room (depth + 1)) second x.1 in record { left = x.0; next = behind_is depth 1 y.0; right = y.1 }

pub one_more : (depth n : ℕ) → n ≡ depth + 1 → depth < n
one_more depth n e = omega (arith, e)

pub no_less : (depth n : ℕ) → n ≡ depth + 1 → depth ≤ n
no_less depth n e = omega (arith, e)

-- what is known of two values
abbrev pub two_known : (depth n : ℕ) → Option Known → Option Known → Temporaries → Temporaries
two_known depth n first second before = with_value n second (with_value depth first before)

module _ (depth n : ℕ) (next : n ≡ depth + 1) (first second : Option Known) (before : Temporaries) where
  pub two_agree : Agrees depth (two_known depth n first second before) before
  two_agree = agrees_value depth n second (with_value depth first before) before (no_less depth n next) (agrees_value depth depth first before before (at_most depth) (agrees_same depth before))

  pub first_there : two_known depth n first second before depth ≡ first
  first_there = value_else n second (with_value depth first before) depth (one_more depth n next) ∙ value_here depth first before

  pub second_there : two_known depth n first second before n ≡ second
  second_there = value_here n second (with_value depth first before)

-- ---- two terms that are looked at

pub record AreLookedAt (c : Site) (depth : ℕ) (a b : TermTree) : Type 0 where
  pub left : IsLookedAt c.u c.f c.calls (jobs.Value a depth)
  pub right : IsLookedAt c.u c.f c.calls (jobs.Value b (jobs.behind depth 1))
  pub next : jobs.behind depth 1 ≡ depth + 1

module _ (c : Site) (depth : ℕ) where
  pub two_looked : (a b : TermTree) → (is_typed_term c.u c.f a && is_typed_term c.u c.f b) ≡ true → (is_plain_term c.calls a && is_plain_term c.calls b) ≡ true → are_behind depth (is_regular_term c.u c.f true depth a) (is_regular_term c.u c.f true (depth + 1) b) ≡ true → AreLookedAt c depth a b
  two_looked a b typed plain regular =
      let x = and_parts _ _ typed in
      let y = and_parts _ _ plain in
      let z = behind_parts depth (is_regular_term c.u c.f true depth a) (is_regular_term c.u c.f true (depth + 1) b) regular in
      record { left = (x.0, y.0, z.left); right = (x.1, y.1, subst (λ n. is_regular_term c.u c.f true n b ≡ true) (sym z.next) z.right); next = z.next }
