-- The works of plain terms lead on.
use Rattle.std.proofs.Common.{◌≡◌, inl, inr, ℕ, ◌+◌, Bool, true, false, List, Option, refl}
use Rattle.cc_base.specs.declared.diagnostics.Place.{Place}
use Rattle.cc_base.specs.declared.int_types.IntType.{IntType}
use Rattle.c_layout.specs.Types.{Ty, Int, Pointer, Array, Struct, Void, same_kind}
use Rattle.c_layout.specs.CheckedTrees as tree
use Rattle.c_layout.specs.CheckedTrees.{TermTree, FormTree, TermTrees, Typed, LvalueTree, Designates}
use Rattle.c_layout.specs.declared.checked_tree.checked_terms.ObjectRef.{ObjectRef}
use Rattle.c_layout.specs.declared.checked_tree.checked_terms.ObjectRef.TheVariants as ref
use Rattle.c_layout.specs.declared.syntax_tree.expressions.LogicalOp.{LogicalOp}
use Rattle.c_layout.specs.declared.syntax_tree.expressions.LogicalOp.TheVariants.{And, Or}
use Rattle.c_layout.specs.declared.library_functions.LibFn.{LibFn}
use Rattle.c_layout.specs.declared.library_functions.LibFn.TheVariants.{Isalpha, Isdigit, Isspace, Isupper, Islower, Isalnum, Toupper, Tolower, Putchar, Exit, Abort}
use Rattle.lower_templates.specs.Worklist.Plans.{Plan, with_work, name_of_object}
use Rattle.lower_templates.specs.Worklist.Settings.{SettingView}
use Rattle.lower_templates.specs.Worklist.TermKinds.{term_at}
use Rattle.lower_templates.specs.Worklist.Works as jobs
use Rattle.lower_templates.specs.declared.worklist.template_builder.Dispatch.{Dispatch}
use Rattle.lower_templates.specs.declared.worklist.term_kinds.OperatorMeaning.{OperatorMeaning}
use Rattle.lower_templates.specs.declared.worklist.term_kinds.OperatorMeaning.TheVariants.{Number, Truth}
use Rattle.lower_expressions.specs.Assignments.{converted}
use Rattle.lower_expressions.specs.Branches.{logical, conditional}
use Rattle.lower_expressions.specs.Calls.{argued, library_call}
use Rattle.lower_expressions.specs.LvaluePointers.{address}
use Rattle.lower_expressions.specs.Values.{integer_act, moved_pointer, of_form, term}
use Rattle.typed_programs.specs.PlainUnits.PlainTerms.{is_plain_library, is_plain_term, is_plain_form, are_plain_terms, is_plain_place}
use Rattle.typed_programs.specs.PlainWorklists.LeadingPieces.{is_plain_act, is_of_object}
use Rattle.typed_programs.proofs.plain_worklists.LeadingWorks.{both, Leading, lead_value, lead_do, lead_end, lead_mark, lead_condition, lead_labels, lead_arm, lead_or, works}

pub object_named : (o : ObjectRef) → is_of_object (name_of_object o) ≡ true
object_named (ref.Static n) = refl
object_named (ref.Local n) = refl

-- which operation a sign is changes nothing
plain_integer_act : (m : OperatorMeaning) (t : Ty) (depth : ℕ) → is_plain_act (integer_act m t depth) ≡ true
plain_integer_act (Number sign) t depth = refl
plain_integer_act (Truth rel) t depth = refl

plain_moved_pointer : (t : Ty) (depth size : ℕ) (backward : Bool) → is_plain_act (moved_pointer t depth size backward) ≡ true
plain_moved_pointer (Int kind) depth size backward = refl
plain_moved_pointer (Pointer t) depth size backward = refl
plain_moved_pointer (Array t n) depth size backward = refl
plain_moved_pointer (Struct i) depth size backward = refl
plain_moved_pointer Void depth size backward = refl

never : {A : Type 0} → false ≡ true → A
never e = absurd (cc)

module _ {calls : ℕ → Bool} {s : SettingView} {ds : List Dispatch} {begun count : ℕ} where
  pub lead_argued : {L : ℕ → Type 0} (args : TermTrees) (depth : ℕ) (p : Plan) → are_plain_terms calls args ≡ true → Leading calls s ds begun count L p → Leading calls s ds begun count L (argued args depth p)
  lead_argued tree.End depth p plain k = k
  lead_argued (tree.More e rest) depth p plain k = let x = both _ _ plain in lead_argued rest (jobs.behind depth 1) (with_work (jobs.Value e depth) p) x.1 (lead_value e depth p x.0 k)

  lead_library : {L : ℕ → Type 0} (at : Place) (function : LibFn) (args : TermTrees) (target : Option Ty) (depth : ℕ) (p : Plan) → is_plain_library function ≡ true → are_plain_terms calls args ≡ true → Leading calls s ds begun count L p → Leading calls s ds begun count L (library_call s at function args target depth p)
  lead_library at Isalpha args target depth p is plain k = lead_do _ _ refl (lead_argued args depth p plain k)
  lead_library at Isdigit args target depth p is plain k = lead_do _ _ refl (lead_argued args depth p plain k)
  lead_library at Isspace args target depth p is plain k = lead_do _ _ refl (lead_argued args depth p plain k)
  lead_library at Isupper args target depth p is plain k = lead_do _ _ refl (lead_argued args depth p plain k)
  lead_library at Islower args target depth p is plain k = lead_do _ _ refl (lead_argued args depth p plain k)
  lead_library at Isalnum args target depth p is plain k = lead_do _ _ refl (lead_argued args depth p plain k)
  lead_library at Toupper args target depth p is plain k = lead_do _ _ refl (lead_argued args depth p plain k)
  lead_library at Tolower args target depth p is plain k = lead_do _ _ refl (lead_argued args depth p plain k)
  lead_library at Putchar args target depth p is plain k = lead_do _ _ refl (lead_argued args depth p plain k)
  lead_library at Exit args target depth p is plain k = lead_do _ _ refl (lead_argued args depth p plain k)
  lead_library at Abort args target depth p is plain k = lead_do _ _ refl (lead_argued args depth p plain k)
  lead_library at other args target depth p is plain k = never is

  lead_converted : {L : ℕ → Type 0} (at : Place) (to from : ℕ) (old new : IntType) (p : Plan) → Leading calls s ds begun count L p → Leading calls s ds begun count L (converted at to from old new p)
  lead_converted at to from old new p k = lead_or (same_kind old new) p _ k (lead_do _ p refl k)

  lead_logical : {L : ℕ → Type 0} (sign : LogicalOp) (left right : TermTree) (depth : ℕ) (p : Plan) → is_plain_term calls left ≡ true → is_plain_term calls right ≡ true → ((L : ℕ → Type 0) → Leading calls s ds begun count L p) → Leading calls s ds begun count L (logical sign left right depth p)
  lead_logical And left right depth p a b start =
      lead_mark (p.labels + 2) _ (lead_end _ _ _ refl (inl refl, (inl refl, tt)) (lead_value right depth _ b (lead_mark (p.labels + 1) _ (lead_end _ _ _ refl (inl refl, (inr (inl refl), tt)) (lead_value left depth _ a (lead_mark p.labels _ (lead_labels 3 p (start _))))))))
  lead_logical Or left right depth p a b start =
      lead_mark (p.labels + 2) _ (lead_end _ _ _ refl (inl refl, (inl refl, tt)) (lead_value right depth _ b (lead_mark (p.labels + 1) _ (lead_end _ _ _ refl (inr (inl refl), (inl refl, tt)) (lead_value left depth _ a (lead_mark p.labels _ (lead_labels 3 p (start _))))))))

  lead_conditional : {L : ℕ → Type 0} (test first second : TermTree) (depth : ℕ) (used : Bool) (p : Plan) → is_plain_term calls test ≡ true → is_plain_term calls first ≡ true → is_plain_term calls second ≡ true → ((L : ℕ → Type 0) → Leading calls s ds begun count L p) → Leading calls s ds begun count L (conditional s test first second depth used p)
  lead_conditional test first second depth used p a b c start =
      lead_mark (p.labels + 3) _ (lead_arm second depth used _ c (lead_mark (p.labels + 2) _ (lead_end _ _ _ refl (inr (inl refl), tt) (lead_arm first depth used _ b
      (lead_mark (p.labels + 1) _ (lead_condition test _ _ a (inl refl) (inr (inl refl)) (lead_mark p.labels _ (lead_labels 4 p (start _)))))))))

  lead_form : {L : ℕ → Type 0} (e : TermTree) (form : FormTree) (depth : ℕ) (used : Bool) (p : Plan) → is_plain_form calls form ≡ true → ((L : ℕ → Type 0) → Leading calls s ds begun count L p) → Leading calls s ds begun count L (of_form s e form depth used p)
  lead_form {L = L} e (tree.Number n) depth used p plain start = let k = start L in search works depth 30
  lead_form {L = L} e (tree.SizeofType n is_pointer) depth used p plain start = let k = start L in search works depth 30
  lead_form {L = L} e (tree.Sizeof n operand is_pointer) depth used p plain start = let k = start L in search works depth 30
  lead_form {L = L} e (tree.Load l) depth used p plain start = let k = start L in search works depth 30
  lead_form {L = L} e (tree.AddressOf l) depth used p plain start = let k = start L in search works depth 30
  lead_form {L = L} e (tree.Decay l) depth used p plain start = let k = start L in search works depth 30
  lead_form {L = L} e (tree.Convert kind inner) depth used p plain start = let k = start L in search works depth 30
  lead_form {L = L} e (tree.Discard inner) depth used p plain start = let k = start L in search works depth 30
  lead_form {L = L} e (tree.Plus inner) depth used p plain start = let k = start L in search works depth 30
  lead_form {L = L} e (tree.Minus inner) depth used p plain start = let k = start L in search works depth 30
  lead_form {L = L} e (tree.Complement inner) depth used p plain start = let k = start L in search works depth 30
  lead_form {L = L} e (tree.Not inner) depth used p plain start = let k = start L in search works depth 30
  lead_form {L = L} e (tree.Integer sign left right) depth used p plain start = let k = start L in let x = both _ _ plain in let a : is_plain_term calls left ≡ true = x.0 in let b : is_plain_term calls right ≡ true = x.1 in search (works, plain_integer_act) depth 30
  lead_form {L = L} e (tree.Shift backward size left right) depth used p plain start = let k = start L in let x = both _ _ plain in let a : is_plain_term calls left ≡ true = x.0 in let b : is_plain_term calls right ≡ true = x.1 in search (works, plain_moved_pointer) depth 30
  lead_form {L = L} e (tree.Difference size left right) depth used p plain start = let k = start L in let x = both _ _ plain in let a : is_plain_term calls left ≡ true = x.0 in let b : is_plain_term calls right ≡ true = x.1 in search works depth 30
  lead_form {L = L} e (tree.Compare sign left right) depth used p plain start = let k = start L in let x = both _ _ plain in let a : is_plain_term calls left ≡ true = x.0 in let b : is_plain_term calls right ≡ true = x.1 in search works depth 30
  lead_form e (tree.Logical sign left right) depth used p plain start = let x = both _ _ plain in lead_logical sign left right depth p x.0 x.1 start
  lead_form e (tree.Conditional test first second) depth used p plain start = let x = both _ _ plain in let y = both _ _ x.1 in lead_conditional test first second depth used p x.0 y.0 y.1 start
  lead_form {L = L} e (tree.Comma left right) depth used p plain start = let k = start L in let x = both _ _ plain in let a : is_plain_term calls left ≡ true = x.0 in let b : is_plain_term calls right ≡ true = x.1 in search works depth 30
  lead_form {L = L} e (tree.Assign l value) depth used p plain start = let k = start L in let x = both _ _ plain in let a : is_plain_place calls l ≡ true = x.0 in let b : is_plain_term calls value ≡ true = x.1 in search works depth 30
  lead_form {L = L} e (tree.Compound sign kind l value) depth used p plain start = let k = start L in let x = both _ _ plain in let a : is_plain_place calls l ≡ true = x.0 in let b : is_plain_term calls value ≡ true = x.1 in search (works, lead_converted) depth 30
  lead_form {L = L} e (tree.CompoundShift backward size l value) depth used p plain start = let k = start L in let x = both _ _ plain in let a : is_plain_place calls l ≡ true = x.0 in let b : is_plain_term calls value ≡ true = x.1 in search works depth 30
  lead_form {L = L} e (tree.Step sign time kind l) depth used p plain start = let k = start L in search (works, lead_converted) depth 30
  lead_form {L = L} e (tree.StepPointer sign time size l) depth used p plain start = let k = start L in search works depth 30
  lead_form {L = L} e (tree.Struct l) depth used p plain start = let k = start L in search works depth 30
  lead_form {L = L} e (tree.Call function args is_used) depth used p plain start = let k = start L in let x = both _ _ plain in let a : calls function ≡ true = x.0 in let b : are_plain_terms calls args ≡ true = x.1 in search (works, lead_argued) depth 30
  lead_form {L = L} e (tree.Library function args target) depth used p plain start = let x = both _ _ plain in lead_library (term_at e) function args target depth p x.0 x.1 (start L)

  pub lead_term : {L : ℕ → Type 0} (e : TermTree) (depth : ℕ) (used : Bool) (p : Plan) → is_plain_term calls e ≡ true → ((L : ℕ → Type 0) → Leading calls s ds begun count L p) → Leading calls s ds begun count L (term s e depth used p)
  lead_term (Typed at t parens constant form) depth used p plain start = lead_form (Typed at t parens constant form) form depth used p plain start

  pub lead_pointer : {L : ℕ → Type 0} (l : LvalueTree) (depth : ℕ) (p : Plan) → is_plain_place calls l ≡ true → Leading calls s ds begun count L p → Leading calls s ds begun count L (address s l depth p)
  lead_pointer (Designates at t parens (tree.Object o)) depth p plain k = search (works, object_named) depth 30
  lead_pointer (Designates at t parens (tree.Literal n)) depth p plain k = search works depth 30
  lead_pointer (Designates at t parens (tree.Target e)) depth p plain k = search works depth 30
  lead_pointer (Designates at t parens (tree.Member outer offset)) depth p plain k = search works depth 30
  lead_pointer (Designates at t parens (tree.Copied target source)) depth p plain k = let x = both _ _ plain in let a : is_plain_place calls target ≡ true = x.0 in let b : is_plain_place calls source ≡ true = x.1 in search works depth 30
  lead_pointer (Designates at t parens (tree.Then left right)) depth p plain k = let x = both _ _ plain in let a : is_plain_term calls left ≡ true = x.0 in let b : is_plain_place calls right ≡ true = x.1 in search works depth 30
