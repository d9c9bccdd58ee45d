-- Terms whose values are numbers, and terms that are computed from the values of others.
use Rattle.std.proofs.Common.{◌≡◌, ℕ, ℤ, pos, Bool, true, false, cond, ◌&&◌, Option, Some, None, refl, sym, subst}
use Rattle.std.specs.Ordering.{int_eq}
use Rattle.std.proofs.lemmas.Bool.{and_parts}
use Rattle.std.proofs.lemmas.Bool.Decides.{Decides-int_eq}
use Rattle.cc_base.specs.declared.diagnostics.Place.{Place}
use Rattle.cc_base.specs.declared.int_types.IntType.{IntType}
use Rattle.c_layout.specs.CheckedTrees as tree
use Rattle.c_layout.specs.CheckedTrees.{TermTree, FormTree, Typed}
use Rattle.c_layout.specs.Types.{Ty, Int, Pointer, Array, Struct, Void}
use Rattle.c_layout.specs.declared.syntax_tree.expressions.BinaryOp.{BinaryOp}
use Rattle.lower_expressions.specs.Values.{integer_act, of_form, two}
use Rattle.typed_programs.specs.PlainUnits.PlainTerms.{is_plain_form}
use Rattle.lower_templates.specs.Worklist.Acts as acts
use Rattle.lower_templates.specs.Worklist.Acts.{Act}
use Rattle.lower_templates.specs.Worklist.Plans.{Plan}
use Rattle.lower_templates.specs.Worklist.Settings.{SettingView}
use Rattle.lower_templates.specs.Worklist.TermKinds.{meaning, integer_type}
use Rattle.lower_templates.specs.Worklist.Works as jobs
use Rattle.lower_templates.specs.declared.worklist.term_kinds.OperatorMeaning.{OperatorMeaning}
use Rattle.lower_templates.specs.declared.worklist.term_kinds.OperatorMeaning.TheVariants.{Number, Truth}
use Rattle.lower_preconditions.specs.Units.RegularTerms.{is_regular_term}
use Rattle.typed_programs.specs.Types.PointedTypes.{Zero, IsStorable}
use Rattle.typed_programs.specs.Types.TypedPrograms.{Gives}
use Rattle.typed_programs.specs.Types.TypedStates.{Temporaries}
use Rattle.typed_lowering.specs.Conversions.KnownValues.{term_known, with_value}
use Rattle.typed_lowering.specs.Conversions.TypedActs.{IsTypedAct, gives_zero, gives_number, computes, computes_one, compares, inverts, subtracts, compares_pointers}
use Rattle.typed_lowering.specs.Conversions.TypedPieces.{base_type, State}
use Rattle.typed_lowering.specs.Conversions.TypedTerms.{is_integer, is_typed_term, is_typed_form}
use Rattle.typed_lowering.proofs.worklists.KnownTables.{at_most, Agrees, agrees_same, agrees_value, storable_same}
use Rattle.typed_lowering.proofs.worklists.PlannedWorks.{Site, Labels, Planned, Comes, plan_value}
use Rattle.typed_lowering.proofs.worklists.FormGoals.{never, term_goal, gives_goal, value_goal, comes_to, comes_do, integer_known, nothing_asked, two_known, two_agree, AreLookedAt, two_looked}

number_known : (at : Place) (parens : ℕ) (constant : Option ℤ) (t : Ty) (n : ℤ) → is_integer t ≡ true → term_known (Typed at t parens constant (tree.Number n)) ≡ cond (int_eq n (pos 0)) (Some Zero) None
number_known at parens constant (Int kind) n is = refl
number_known at parens constant (Pointer t) n is = never is
number_known at parens constant (Array t m) n is = never is
number_known at parens constant (Struct i) n is = never is
number_known at parens constant Void n is = never is

-- what looks say of a form of a term
abbrev pub IsLookedForm : Site → Bool → ℕ → Place → Ty → ℕ → Option ℤ → FormTree → Type 0
IsLookedForm c used depth at t parens constant form = (is_typed_form c.u c.f t form ≡ true) × (is_plain_form c.calls form ≡ true) × (is_regular_term c.u c.f used depth (Typed at t parens constant form) ≡ true)

module _ {c : Site} {L : Labels → Type 0} {start : State} {count : ℕ} (s : SettingView) (at : Place) (t : Ty) (parens : ℕ) (constant : Option ℤ) (depth : ℕ) (used : Bool) (before : Temporaries) (p : Plan) (k : Planned c L start count (Some before) p) where
  abbrev Goal : FormTree → Type 0
  Goal form = Comes c L start count (Some (term_goal used depth (Typed at t parens constant form) before)) (of_form s (Typed at t parens constant form) form depth used p)

  abbrev Looked : FormTree → Type 0
  Looked form = IsLookedForm c used depth at t parens constant form

  abbrev Behind : FormTree → Temporaries
  Behind form = term_goal used depth (Typed at t parens constant form) before

  abbrev Acts : Temporaries → Temporaries → Act → Type 0
  Acts known after a = IsTypedAct c.u.structs c.u.model.pointer (base_type c.u c.f c.names) known after a

  -- nothing is known of a number
  gives_unknown : (form : FormTree) (known : Temporaries) → Agrees depth known before → term_known (Typed at t parens constant form) ≡ None → Gives depth None known (Behind form)
  gives_unknown form known agree unknown = gives_goal used depth (Typed at t parens constant form) None known before agree (nothing_asked _ None unknown)

  number_act : (n : ℤ) (kind : IntType) (b : Bool) → int_eq n (pos 0) ≡ b → term_known (Typed at t parens constant (tree.Number n)) ≡ cond b (Some Zero) None → Acts before (Behind (tree.Number n)) (acts.Constant depth n kind)
  number_act n kind true is known =
      subst (λ z. Acts before (Behind (tree.Number n)) (acts.Constant depth z kind)) (sym ((Decides-int_eq n (pos 0)).0 is))
      (gives_zero depth kind (gives_goal used depth (Typed at t parens constant (tree.Number n)) (Some Zero) before before (agrees_same depth before) (subst (λ z. IsStorable z (Some Zero)) (sym known) (storable_same (Some Zero)))))
  number_act n kind false is known = gives_number depth n kind (gives_unknown (tree.Number n) before (agrees_same depth before) known)

  pub number_comes : (n : ℤ) → Looked (tree.Number n) → Goal (tree.Number n)
  number_comes n looked = comes_do (Behind (tree.Number n)) _ p (number_act n (integer_type t) (int_eq n (pos 0)) refl (number_known at parens constant t n looked.0)) k

  pub size_comes : (n : ℕ) (is_pointer : _) → Looked (tree.SizeofType n is_pointer) → Goal (tree.SizeofType n is_pointer)
  size_comes n is_pointer looked = comes_do (Behind (tree.SizeofType n is_pointer)) _ p (gives_number depth (pos n) (integer_type t) (gives_unknown (tree.SizeofType n is_pointer) before (agrees_same depth before) (integer_known at parens constant t (tree.SizeofType n is_pointer) refl looked.0))) k

  pub operand_size_comes : (n : ℕ) (operand : _) (is_pointer : _) → Looked (tree.Sizeof n operand is_pointer) → Goal (tree.Sizeof n operand is_pointer)
  operand_size_comes n operand is_pointer looked = comes_do (Behind (tree.Sizeof n operand is_pointer)) _ p (gives_number depth (pos n) (integer_type t) (gives_unknown (tree.Sizeof n operand is_pointer) before (agrees_same depth before) (integer_known at parens constant t (tree.Sizeof n operand is_pointer) refl looked.0))) k

  -- ---- one operand

  one_agrees : (a : TermTree) → Agrees depth (with_value depth (term_known a) before) before
  one_agrees a = agrees_value depth depth (term_known a) before before (at_most depth) (agrees_same depth before)

  gives_one : (form : FormTree) (a : TermTree) → term_known (Typed at t parens constant form) ≡ None → Gives depth None (with_value depth (term_known a) before) (Behind form)
  gives_one form a unknown = gives_unknown form (with_value depth (term_known a) before) (one_agrees a) unknown

  pub plus_comes : (a : TermTree) → Looked (tree.Plus a) → Goal (tree.Plus a)
  plus_comes a looked =
      let x = and_parts (is_typed_term c.u c.f a) (is_integer t) looked.0 in
      comes_to (plan_value a depth p (x.0, looked.1, looked.2) k) (value_goal used depth (Typed at t parens constant (tree.Plus a)) (term_known a) before before (agrees_same depth before) (nothing_asked _ (term_known a) (integer_known at parens constant t (tree.Plus a) refl x.1)))

  pub minus_comes : (a : TermTree) → Looked (tree.Minus a) → Goal (tree.Minus a)
  minus_comes a looked =
      let x = and_parts (is_typed_term c.u c.f a) (is_integer t) looked.0 in
      comes_do (Behind (tree.Minus a)) _ _ (computes_one depth _ depth _ (gives_one (tree.Minus a) a (integer_known at parens constant t (tree.Minus a) refl x.1))) (plan_value a depth p (x.0, looked.1, looked.2) k)

  pub complement_comes : (a : TermTree) → Looked (tree.Complement a) → Goal (tree.Complement a)
  complement_comes a looked =
      let x = and_parts (is_typed_term c.u c.f a) (is_integer t) looked.0 in
      comes_do (Behind (tree.Complement a)) _ _ (computes_one depth _ depth _ (gives_one (tree.Complement a) a (integer_known at parens constant t (tree.Complement a) refl x.1))) (plan_value a depth p (x.0, looked.1, looked.2) k)

  pub not_comes : (a : TermTree) → Looked (tree.Not a) → Goal (tree.Not a)
  not_comes a looked =
      let x = and_parts (is_typed_term c.u c.f a) (is_integer t) looked.0 in
      comes_do (Behind (tree.Not a)) _ _ (inverts depth depth _ (gives_one (tree.Not a) a (integer_known at parens constant t (tree.Not a) refl x.1))) (plan_value a depth p (x.0, looked.1, looked.2) k)

  -- ---- two operands

  abbrev Both : TermTree → TermTree → Temporaries
  Both a b = two_known depth (jobs.behind depth 1) (term_known a) (term_known b) before

  two_comes : (form : FormTree) (a b : TermTree) (act : Act) → AreLookedAt c depth a b → term_known (Typed at t parens constant form) ≡ None → (Gives depth None (Both a b) (Behind form) → Acts (Both a b) (Behind form) act) → Comes c L start count (Some (Behind form)) (two at a b depth act p)
  two_comes form a b act looked unknown does =
      comes_do (Behind form) _ _ (does (gives_unknown form (Both a b) (two_agree depth (jobs.behind depth 1) looked.next (term_known a) (term_known b) before) unknown)) (plan_value b (jobs.behind depth 1) _ looked.right (plan_value a depth p looked.left k))

  integer_typed : (form : FormTree) (a b : TermTree) (m : OperatorMeaning) → Gives depth None (Both a b) (Behind form) → Acts (Both a b) (Behind form) (integer_act m t depth)
  integer_typed form a b (Number sign) gives = computes depth sign depth _ _ gives
  integer_typed form a b (Truth rel) gives = compares depth rel depth (jobs.behind depth 1) gives

  pub integer_comes : (sign : BinaryOp) (a b : TermTree) → Looked (tree.Integer sign a b) → Goal (tree.Integer sign a b)
  integer_comes sign a b looked =
      let x = and_parts (is_integer t) (is_typed_term c.u c.f a && is_typed_term c.u c.f b) looked.0 in
      two_comes (tree.Integer sign a b) a b (integer_act (meaning sign) t depth) (two_looked c depth a b x.1 looked.1 looked.2) (integer_known at parens constant t (tree.Integer sign a b) refl x.0) (integer_typed (tree.Integer sign a b) a b (meaning sign))

  pub difference_comes : (size : ℕ) (a b : TermTree) → Looked (tree.Difference size a b) → Goal (tree.Difference size a b)
  difference_comes size a b looked =
      let x = and_parts (is_integer t) (is_typed_term c.u c.f a && is_typed_term c.u c.f b) looked.0 in
      two_comes (tree.Difference size a b) a b _ (two_looked c depth a b x.1 looked.1 looked.2) (integer_known at parens constant t (tree.Difference size a b) refl x.0) (λ gives. subtracts depth depth (jobs.behind depth 1) size gives)

  pub compare_comes : (sign : BinaryOp) (a b : TermTree) → Looked (tree.Compare sign a b) → Goal (tree.Compare sign a b)
  compare_comes sign a b looked =
      let x = and_parts (is_integer t) (is_typed_term c.u c.f a && is_typed_term c.u c.f b) looked.0 in
      two_comes (tree.Compare sign a b) a b _ (two_looked c depth a b x.1 looked.1 looked.2) (integer_known at parens constant t (tree.Compare sign a b) refl x.0) (λ gives. compares_pointers depth _ depth (jobs.behind depth 1) gives)
