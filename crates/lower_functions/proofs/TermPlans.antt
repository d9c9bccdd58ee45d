-- What terms and lvalues plan keeps what is closed under it.
use Rattle.std.proofs.Common.{◌≡◌, inl, ℕ, ◌+◌, Bool, true, false, cond, List, length, Option, Some, None, refl}
use Rattle.cc_base.specs.declared.diagnostics.Place.{Place}
use Rattle.cc_base.specs.declared.integer_operators.IntOp.{IntOp}
use Rattle.cc_base.specs.declared.int_types.IntType.{IntType}
use Rattle.c_layout.specs.Types.{Ty, Int, Pointer, Array, Struct, Void, same_kind}
use Rattle.c_layout.specs.CheckedTrees as tree
use Rattle.c_layout.specs.CheckedTrees.{TermTree, FormTree, TermTrees, Typed, LvalueTree, Designates}
use Rattle.c_layout.specs.declared.library_functions.LibFn.{LibFn}
use Rattle.c_layout.specs.declared.syntax_tree.expressions.LogicalOp.{LogicalOp}
use Rattle.c_layout.specs.declared.syntax_tree.expressions.LogicalOp.TheVariants.{And, Or}
use Rattle.lower_templates.specs.Worklist.Acts.{Act}
use Rattle.lower_templates.specs.Worklist.Pieces.{NameView, Allocation, ExitView, Do, End, Mark, Call}
use Rattle.lower_templates.specs.Worklist.TermKinds.{meaning, step_operator, integer_type, term_type, term_at, lvalue_type}
use Rattle.lower_templates.specs.Worklist.Works as jobs
use Rattle.lower_templates.specs.Worklist.Plans.{Plan, with_work, with_name, with_labels, done, ended, begun}
use Rattle.lower_templates.specs.Worklist.Settings.{SettingView}
use Rattle.lower_templates.specs.declared.worklist.pending_works.Decision.{Decision}
use Rattle.lower_templates.specs.declared.worklist.pending_works.Targets.{Targets}
use Rattle.lower_templates.specs.declared.worklist.term_kinds.OperatorMeaning.{OperatorMeaning}
use Rattle.lower_templates.specs.declared.worklist.term_kinds.OperatorMeaning.TheVariants.{Number, Truth}
use Rattle.lower_expressions.specs.Assignments.{both_sides, converted, number_operator, computed, keeps_old, new_value, stepped}
use Rattle.lower_expressions.specs.Branches.{branch_exits, left_targets, left_known, both, logical, arm, conditional}
use Rattle.lower_expressions.specs.Calls.{argued, is_allocation, reads_line, sited, allocated, target_size, library_at, read_line, line_value, plain_call, library_call}
use Rattle.lower_expressions.specs.LvaluePointers.{address}
use Rattle.lower_expressions.specs.Values.{integer_act, moved_pointer, of_form, term}
use Rattle.lower_functions.proofs.PlanClosures.{names_base, NamesIt, AreBare, TermClosed}

-- which operation a sign is changes nothing
integers_silent : (m : OperatorMeaning) (t : Ty) (depth : ℕ) → names_base (integer_act m t depth) ≡ false
integers_silent (Number sign) t depth = refl
integers_silent (Truth rel) t depth = refl

moved_silent : (t : Ty) (depth size : ℕ) (backward : Bool) → names_base (moved_pointer t depth size backward) ≡ false
moved_silent (Int kind) depth size backward = refl
moved_silent (Pointer t) depth size backward = refl
moved_silent (Array t n) depth size backward = refl
moved_silent (Struct i) depth size backward = refl
moved_silent Void depth size backward = refl

left_bare : (sign : LogicalOp) (targets : Targets) (depth : ℕ) → AreBare (branch_exits targets (left_known sign depth))
left_bare And targets depth = (refl, (refl, tt))
left_bare Or targets depth = (refl, (refl, tt))

module _ {P : Plan → Type 0} (c : TermClosed P) where
  pub kept_value : (e : TermTree) (depth : ℕ) (p : Plan) → P p → P (with_work (jobs.Value e depth) p)
  kept_value e depth p k = c.work (jobs.Value e depth) p tt k

  pub kept_unused : (e : TermTree) (depth : ℕ) (p : Plan) → P p → P (with_work (jobs.Unused e depth) p)
  kept_unused e depth p k = c.work (jobs.Unused e depth) p tt k

  pub kept_place : (l : LvalueTree) (depth : ℕ) (p : Plan) → P p → P (with_work (jobs.Address l depth) p)
  kept_place l depth p k = c.work (jobs.Address l depth) p tt k

  pub kept_decision : (e : TermTree) (d : Decision) (p : Plan) → P p → P (with_work (jobs.Condition e d) p)
  kept_decision e d p k = c.work (jobs.Condition e d) p tt k

  pub kept_act : (at : Place) (a : Act) (p : Plan) → names_base a ≡ false → P p → P (done at a p)
  kept_act at a p is k = c.work (jobs.Ready (Do (record { at = at; does = a }))) p is k

  pub kept_fresh : (at : Place) (x : NameView) (a : Act) (p : Plan) → NamesIt x (length p.names) a → P p → P (done at a (with_name x p))
  kept_fresh at x a p is k = c.fresh x (record { at = at; does = a }) p is k

  pub kept_end : (at : Place) (a : Act) (exits : List ExitView) (p : Plan) → names_base a ≡ false → AreBare exits → P p → P (ended at a exits p)
  kept_end at a exits p is bare k = c.work (jobs.Ready (End (record { at = at; does = a }) exits)) p (is, bare) k

  pub kept_mark : (label : ℕ) (p : Plan) → P p → P (begun label p)
  kept_mark label p k = c.work (jobs.Ready (Mark label)) p tt k

  pub kept_or : (b : Bool) (p q : Plan) → P p → P q → P (cond b p q)
  kept_or true p q x y = x
  kept_or false p q x y = y

  kept_arm : (e : TermTree) (depth : ℕ) (used : Bool) (p : Plan) → P p → P (with_work (arm e depth used) p)
  kept_arm e depth true p k = kept_value e depth p k
  kept_arm e depth false p k = kept_unused e depth p k

  -- calls
  pub kept_argued : (args : TermTrees) (depth : ℕ) (p : Plan) → P p → P (argued args depth p)
  kept_argued tree.End depth p k = k
  kept_argued (tree.More e rest) depth p k = kept_argued rest (jobs.behind depth 1) (with_work (jobs.Value e depth) p) (kept_value e depth p k)

  pub kept_line : (at : Place) (args : TermTrees) (depth : ℕ) (to : Option ℕ) (none some : ℕ) (p : Plan) → P p → P (read_line at args depth to none some p)
  kept_line at args depth to none some p k = kept_end at _ _ _ refl (tt, (tt, tt)) (kept_argued args depth p k)

  kept_library_at : (at : Place) (function : LibFn) (args : TermTrees) (size : Option ℕ) (depth : ℕ) (target : Option Ty) (p : Plan) → P p → P (library_at at function args size depth (allocated function target p))
  kept_library_at at function args size depth target p k = by_kind (is_allocation function)
    where
      by_kind : (b : Bool) → P (library_at at function args size depth (cond b (sited (Some (length p.names)) (with_name (Allocation target) p)) (sited None p)))
      by_kind true = kept_fresh at (Allocation target) _ p refl k
      by_kind false = kept_act at _ p refl k

  kept_library : (s : SettingView) (at : Place) (function : LibFn) (args : TermTrees) (target : Option Ty) (depth : ℕ) (p : Plan) → P p → P (library_call s at function args target depth p)
  kept_library s at function args target depth p k =
      kept_or (reads_line function) (line_value at args depth p) (plain_call s at function args target depth p)
      (kept_mark p.labels _ (kept_line at args depth (Some depth) p.labels p.labels (with_labels 1 p) (c.labels 1 p k)))
      (kept_library_at at function args (target_size s target) depth target (argued args depth p) (kept_argued args depth p k))

  -- operands and then the instruction
  kept_one : (at : Place) (e : TermTree) (depth : ℕ) (a : Act) (p : Plan) → names_base a ≡ false → P p → P (done at a (with_work (jobs.Value e depth) p))
  kept_one at e depth a p is k = kept_act at a _ is (kept_value e depth p k)

  kept_two : (at : Place) (left right : TermTree) (depth : ℕ) (a : Act) (p : Plan) → names_base a ≡ false → P p → P (done at a (with_work (jobs.Value right (jobs.behind depth 1)) (with_work (jobs.Value left depth) p)))
  kept_two at left right depth a p is k = kept_one at right (jobs.behind depth 1) a _ is (kept_value left depth p k)

  kept_from : (at : Place) (l : LvalueTree) (depth : ℕ) (a : Act) (p : Plan) → names_base a ≡ false → P p → P (done at a (with_work (jobs.Address l depth) p))
  kept_from at l depth a p is k = kept_act at a _ is (kept_place l depth p k)

  kept_sides : (l : LvalueTree) (e : TermTree) (depth : ℕ) (p : Plan) → P p → P (both_sides l e depth p)
  kept_sides l e depth p k = kept_value e (jobs.behind depth 1) _ (kept_place l depth p k)

  kept_converted : (at : Place) (to from : ℕ) (old new : IntType) (p : Plan) → P p → P (converted at to from old new p)
  kept_converted at to from old new p k = kept_or (same_kind old new) p _ k (kept_act at _ p refl k)

  kept_computed : (at : Place) (sign : IntOp) (own kind : IntType) (depth : ℕ) (p : Plan) → P p → P (computed at sign own kind depth p)
  kept_computed at sign own kind depth p k = kept_converted at (jobs.behind depth 1) (jobs.behind depth 1) kind own _ (kept_act at _ _ refl (kept_converted at (jobs.behind depth 2) (jobs.behind depth 2) own kind p k))

  kept_stepped : (at : Place) (sign : IntOp) (own kind : IntType) (old new : ℕ) (p : Plan) → P p → P (stepped at sign own kind old new p)
  kept_stepped at sign own kind old new p k = kept_converted at new new kind own _ (kept_act at _ _ refl (kept_converted at new old own kind p k))

  kept_logical : (sign : LogicalOp) (left right : TermTree) (depth : ℕ) (p : Plan) → P p → P (logical sign left right depth p)
  kept_logical sign left right depth p k =
      let first = kept_end _ _ _ _ refl (left_bare sign (left_targets sign (both (p.labels + 2)) (p.labels + 1)) depth) (kept_value left depth _ (kept_mark p.labels _ (c.labels 3 p k))) in
      kept_mark (p.labels + 2) _ (kept_end _ _ _ _ refl (refl, (refl, tt)) (kept_value right depth _ (kept_mark (p.labels + 1) _ first)))

  kept_conditional : (s : SettingView) (test first second : TermTree) (depth : ℕ) (used : Bool) (p : Plan) → P p → P (conditional s test first second depth used p)
  kept_conditional s test first second depth used p k =
      let one = kept_arm first depth used _ (kept_mark (p.labels + 1) _ (kept_decision test _ _ (kept_mark p.labels _ (c.labels 4 p k)))) in
      kept_mark (p.labels + 3) _ (kept_arm second depth used _ (kept_mark (p.labels + 2) _ (kept_end s.at _ _ _ refl (tt, tt) one)))

  kept_form : (s : SettingView) (e : TermTree) (form : FormTree) (depth : ℕ) (used : Bool) (p : Plan) → P p → P (of_form s e form depth used p)
  kept_form s e (tree.Number n) depth used p k = kept_act _ _ p refl k
  kept_form s e (tree.SizeofType n is_pointer) depth used p k = kept_act _ _ p refl k
  kept_form s e (tree.Sizeof n operand is_pointer) depth used p k = kept_act _ _ p refl k
  kept_form s e (tree.Load l) depth used p k = kept_from _ l depth _ p refl k
  kept_form s e (tree.AddressOf l) depth used p k = kept_place l depth p k
  kept_form s e (tree.Decay l) depth used p k = kept_from _ l depth _ p refl k
  kept_form s e (tree.Convert kind inner) depth used p k = kept_one _ inner depth _ p refl k
  kept_form s e (tree.Discard inner) depth used p k = kept_unused inner depth p k
  kept_form s e (tree.Plus inner) depth used p k = kept_value inner depth p k
  kept_form s e (tree.Minus inner) depth used p k = kept_one _ inner depth _ p refl k
  kept_form s e (tree.Complement inner) depth used p k = kept_one _ inner depth _ p refl k
  kept_form s e (tree.Not inner) depth used p k = kept_one _ inner depth _ p refl k
  kept_form s e (tree.Integer sign left right) depth used p k = kept_two _ left right depth _ p (integers_silent (meaning sign) (term_type e) depth) k
  kept_form s e (tree.Shift backward size left right) depth used p k = kept_two _ left right depth _ p (moved_silent (term_type left) depth size backward) k
  kept_form s e (tree.Difference size left right) depth used p k = kept_two _ left right depth _ p refl k
  kept_form s e (tree.Compare sign left right) depth used p k = kept_two _ left right depth _ p refl k
  kept_form s e (tree.Logical sign left right) depth used p k = kept_logical sign left right depth p k
  kept_form s e (tree.Conditional test first second) depth used p k = kept_conditional s test first second depth used p k
  kept_form s e (tree.Comma left right) depth used p k = kept_arm right depth used _ (kept_unused left depth p k)
  kept_form s e (tree.Assign l value) depth used p k = kept_act _ _ _ refl (kept_sides l value depth p k)
  kept_form s e (tree.Compound sign kind l value) depth used p k =
      kept_act _ _ _ refl (kept_computed (term_at e) (number_operator (meaning sign)) (integer_type (lvalue_type l)) (integer_type kind) depth _ (kept_act _ _ _ refl (kept_sides l value depth p k)))
  kept_form s e (tree.CompoundShift backward size l value) depth used p k = kept_act _ _ _ refl (kept_act _ _ _ refl (kept_act _ _ _ refl (kept_sides l value depth p k)))
  kept_form s e (tree.Step sign time kind l) depth used p k =
      let new = new_value (jobs.behind depth 1) (keeps_old time used) in
      kept_act _ _ _ refl (kept_stepped (term_at e) (step_operator sign) (integer_type (lvalue_type l)) (integer_type kind) (jobs.behind depth 1) new _ (kept_from _ l depth _ p refl k))
  kept_form s e (tree.StepPointer sign time size l) depth used p k = kept_act _ _ _ refl (kept_act _ _ _ refl (kept_from _ l depth _ p refl k))
  kept_form s e (tree.Struct l) depth used p k = kept_place l depth p k
  kept_form s e (tree.Call function args is_used) depth used p k = c.work (jobs.Ready (Call _)) _ tt (kept_argued args depth p k)
  kept_form s e (tree.Library function args target) depth used p k = kept_library s (term_at e) function args target depth p k

  pub kept_term : (s : SettingView) (e : TermTree) (depth : ℕ) (used : Bool) (p : Plan) → P p → P (term s e depth used p)
  kept_term s (Typed at t parens constant form) depth used p k = kept_form s (Typed at t parens constant form) form depth used p k

  pub kept_address : (s : SettingView) (l : LvalueTree) (depth : ℕ) (p : Plan) → P p → P (address s l depth p)
  kept_address s (Designates at t parens (tree.Object o)) depth p k = kept_fresh at _ _ p (refl, inl refl) k
  kept_address s (Designates at t parens (tree.Literal n)) depth p k = kept_fresh at _ _ p (refl, inl refl) k
  kept_address s (Designates at t parens (tree.Target e)) depth p k = kept_value e depth p k
  kept_address s (Designates at t parens (tree.Member outer offset)) depth p k = kept_from _ outer depth _ p refl k
  kept_address s (Designates at t parens (tree.Copied target source)) depth p k = kept_act _ _ _ refl (kept_place source (jobs.behind depth 1) _ (kept_place target depth p k))
  kept_address s (Designates at t parens (tree.Then left right)) depth p k = kept_place right depth _ (kept_unused left depth p k)
