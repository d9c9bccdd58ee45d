-- The marks that terms, lvalues and conditions are to make are those of labels that they give away.
use Rattle.std.proofs.Common.{◌≡◌, ◌≤◌, ℕ, ◌+◌, Bool, true, false, cond, List, [], length, Option, Some, None, refl, arith}
use Rattle.cc_base.specs.declared.diagnostics.Place.{Place}
use Rattle.c_layout.specs.Types.{Ty}
use Rattle.c_layout.specs.CheckedTrees as tree
use Rattle.c_layout.specs.CheckedTrees.{TermTree, FormTree, TermTrees, Typed, LvalueTree, Designates}
use Rattle.c_layout.specs.declared.library_functions.LibFn.{LibFn}
use Rattle.c_layout.specs.declared.syntax_tree.expressions.LogicalOp.{LogicalOp}
use Rattle.lower_templates.specs.Worklist.Pieces.{Allocation}
use Rattle.lower_templates.specs.Worklist.TermKinds.{term_at}
use Rattle.lower_templates.specs.Worklist.Works as jobs
use Rattle.lower_templates.specs.Worklist.Plans.{Plan, with_work, with_name, with_labels}
use Rattle.lower_templates.specs.Worklist.Settings.{SettingView}
use Rattle.lower_templates.specs.declared.worklist.template_builder.Dispatch.{Dispatch}
use Rattle.lower_expressions.specs.Branches.{logical, conditional}
use Rattle.lower_expressions.specs.Calls.{argued, is_allocation, reads_line, sited, allocated, line_value, target_size, library_at, plain_call, library_call}
use Rattle.lower_expressions.specs.LvaluePointers.{address}
use Rattle.lower_expressions.specs.Values.{of_form, term}
use Rattle.lower_template_theorems.specs.Growth.Growth.{Grows}
use Rattle.lower_template_theorems.specs.PendingLabels.Marks.{one, below}
use Rattle.lower_template_theorems.proofs.growth.Growth.{grows_not, works}
use Rattle.lower_template_theorems.proofs.growth.GrowingTerms.{grows_argued}
use Rattle.lower_template_theorems.proofs.pending_labels.MarkArithmetic.{one_below, below_more}
use Rattle.lower_template_theorems.proofs.pending_labels.Debts.{AllSound, all_owe, Owed, owed_none, owed_value, debts}

-- what is planned owes no more than the labels that were given away
pub record Paid (ds : List Dispatch) (l : ℕ) (before : ℕ) (p r : Plan) : Type 0 where
  pub most : all_owe ds l r.jobs + below l p.labels ≤ before + below l r.labels
  pub sound : AllSound ds r.jobs

no_debt : (k n b a c : ℕ) → k ≡ 0 → a ≤ c → k + a ≤ b + c
no_debt k n b a c e le = omega (arith, e, le)

pub paid_silent : {ds : List Dispatch} {l : ℕ} (p r : Plan) → Grows p r → Owed ds l 0 r → Paid ds l 0 p r
paid_silent {ds = ds} {l = l} p r g o = record { most = no_debt _ 0 0 _ _ o.most (below_more l p.labels r.labels g.labels); sound = o.sound }

pub owed_argued : {ds : List Dispatch} {l k : ℕ} (args : TermTrees) (depth : ℕ) (p : Plan) → Owed ds l k p → Owed ds l k (argued args depth p)
owed_argued tree.End depth p o = o
owed_argued (tree.More e rest) depth p o = owed_argued rest (jobs.behind depth 1) (with_work (jobs.Value e depth) p) (owed_value e depth p o)

pub labels_of : (count : ℕ) (p : Plan) → (with_labels count p).labels ≡ p.labels + count
unfolding with_labels
labels_of count p = refl

-- ---- a sum of marks of labels that are given away, and of what parts owe

pub record Balance (l m x k n : ℕ) : Type 0 where
  pub most : x + below l m ≤ k + below l n

pub balance_none : {l : ℕ} (m : ℕ) → Balance l m 0 0 m
balance_none m = record { most = omega arith }

pub balance_mark : {l m x k : ℕ} (n n2 : ℕ) → n + 1 ≤ n2 → Balance l m x k n → Balance l m (x + one l n) k n2
balance_mark {l = l} {m = m} {x = x} {k = k} n n2 le b = let a = one_below l n in let c = below_more l (n + 1) n2 le in let d = b.most in record { most = omega (arith, a, c, d) }

pub balance_part : {l m x k n : ℕ} (y : ℕ) → Balance l m x k n → Balance l m (x + y) (k + y) n
balance_part {l = l} {m = m} {x = x} {k = k} {n = n} y b = let d = b.most in record { most = omega (arith, d) }

pub balance_more : {l m x k n : ℕ} (n2 : ℕ) → n ≤ n2 → Balance l m x k n → Balance l m x k n2
balance_more {l = l} {m = m} {x = x} {k = k} {n = n} n2 le b = let a = below_more l n n2 le in let d = b.most in record { most = omega (arith, a, d) }

paid_sum : (o x b a c k : ℕ) → o ≡ x → x + a ≤ k + c → k ≡ b → o + a ≤ b + c
paid_sum o x b a c k e le f = omega (arith, e, le, f)

pub paid : {ds : List Dispatch} {l x k : ℕ} (before : ℕ) (p r : Plan) → k ≡ before → Balance l p.labels x k r.labels → Owed ds l x r → Paid ds l before p r
paid {ds = ds} {l = l} {x = x} {k = k} before p r e b o = record { most = paid_sum (all_owe ds l r.jobs) x before (below l p.labels) (below l r.labels) k o.most b.most e; sound = o.sound }

-- so many labels were given away
pub labels_least : (count : ℕ) (p r : Plan) → Grows (with_labels count p) r → p.labels + count ≤ r.labels
labels_least count p r g = let e = labels_of count p in let a = g.labels in omega (arith, e, a)

pub at_least_next : (m c d n : ℕ) → m + d ≤ n → c + 1 ≡ d → m + c + 1 ≤ n
at_least_next m c d n le e = omega (arith, le, e)

pub first_number : (m : ℕ) → m + 1 ≤ m + 1
first_number m = omega arith

pub next_number : (m c d : ℕ) → c + 1 ≡ d → m + c + 1 ≤ m + d
next_number m c d e = omega (arith, e)

-- ---- terms

paid_logical : {ds : List Dispatch} {l : ℕ} (s : SettingView) (sign : LogicalOp) (left right : TermTree) (depth : ℕ) (p : Plan) → p.jobs ≡ [] → Paid ds l 0 p (logical sign left right depth p)
paid_logical {ds = ds} {l = l} s sign left right depth p none =
    let start : Owed ds l 0 p = owed_none p none in
    let r = logical sign left right depth p in
    let o : Owed ds l (((0 + one l p.labels) + one l (p.labels + 1)) + one l (p.labels + 2)) r = search debts depth 30 in
    let opened : Grows (with_labels 3 p) (with_labels 3 p) = grows_not (with_labels 3 p) in
    let g : Grows (with_labels 3 p) r = search works depth 30 in
    let m = p.labels in
    paid 0 p r refl (balance_mark (m + 2) r.labels (at_least_next m 2 3 r.labels (labels_least 3 p r g) refl) (balance_mark (m + 1) (m + 2) (next_number m 1 2 refl) (balance_mark m (m + 1) (first_number m) (balance_none m)))) o

paid_conditional : {ds : List Dispatch} {l : ℕ} (s : SettingView) (test first second : TermTree) (depth : ℕ) (used : Bool) (p : Plan) → p.jobs ≡ [] → Paid ds l 0 p (conditional s test first second depth used p)
paid_conditional {ds = ds} {l = l} s test first second depth used p none =
    let start : Owed ds l 0 p = owed_none p none in
    let r = conditional s test first second depth used p in
    let o : Owed ds l ((((0 + one l p.labels) + one l (p.labels + 1)) + one l (p.labels + 2)) + one l (p.labels + 3)) r = search debts depth 30 in
    let opened : Grows (with_labels 4 p) (with_labels 4 p) = grows_not (with_labels 4 p) in
    let g : Grows (with_labels 4 p) r = search works depth 30 in
    let m = p.labels in
    paid 0 p r refl (balance_mark (m + 3) r.labels (at_least_next m 3 4 r.labels (labels_least 4 p r g) refl) (balance_mark (m + 2) (m + 3) (next_number m 2 3 refl) (balance_mark (m + 1) (m + 2) (next_number m 1 2 refl) (balance_mark m (m + 1) (first_number m) (balance_none m))))) o

owed_library_at : {ds : List Dispatch} {l k : ℕ} (at : Place) (function : LibFn) (args : TermTrees) (size : Option ℕ) (depth : ℕ) (target : Option Ty) (p : Plan) → Owed ds l k p → Owed ds l k (library_at at function args size depth (allocated function target p))
owed_library_at {ds = ds} {l = l} {k = k} at function args size depth target p o = by_kind (is_allocation function)
  where
    by_kind : (b : Bool) → Owed ds l k (library_at at function args size depth (cond b (sited (Some (length p.names)) (with_name (Allocation target) p)) (sited None p)))
    by_kind true = search debts
    by_kind false = search debts

paid_line : {ds : List Dispatch} {l : ℕ} (at : Place) (args : TermTrees) (depth : ℕ) (p : Plan) → p.jobs ≡ [] → Paid ds l 0 p (line_value at args depth p)
paid_line {ds = ds} {l = l} at args depth p none =
    let start : Owed ds l 0 p = owed_none p none in
    let r = line_value at args depth p in
    let o : Owed ds l (0 + one l p.labels) r = search (debts, owed_argued) depth 30 in
    let opened : Grows (with_labels 1 p) (with_labels 1 p) = grows_not (with_labels 1 p) in
    let g : Grows (with_labels 1 p) r = search (works, grows_argued) depth 30 in
    let m = p.labels in
    paid 0 p r refl (balance_mark m r.labels (labels_least 1 p r g) (balance_none m)) o

paid_library : {ds : List Dispatch} {l : ℕ} (s : SettingView) (at : Place) (function : LibFn) (args : TermTrees) (target : Option Ty) (depth : ℕ) (p : Plan) → p.jobs ≡ [] → Grows p (library_call s at function args target depth p) → Paid ds l 0 p (library_call s at function args target depth p)
paid_library {ds = ds} {l = l} s at function args target depth p none = by_kind (reads_line function)
  where
    by_kind : (b : Bool) → Grows p (cond b (line_value at args depth p) (plain_call s at function args target depth p)) → Paid ds l 0 p (cond b (line_value at args depth p) (plain_call s at function args target depth p))
    by_kind true g = paid_line at args depth p none
    by_kind false g = paid_silent p _ g (owed_library_at at function args (target_size s target) depth target (argued args depth p) (owed_argued args depth p (owed_none p none)))

paid_form : {ds : List Dispatch} {l : ℕ} (s : SettingView) (e : TermTree) (form : FormTree) (depth : ℕ) (used : Bool) (p : Plan) → p.jobs ≡ [] → Grows p (of_form s e form depth used p) → Paid ds l 0 p (of_form s e form depth used p)
paid_form {ds = ds} {l = l} s e form depth used p none g = by_form form (owed_none p none) g
  where
    by_form : (form : FormTree) → Owed ds l 0 p → Grows p (of_form s e form depth used p) → Paid ds l 0 p (of_form s e form depth used p)
    by_form (tree.Number n) start g = paid_silent p _ g (search debts depth 30)
    by_form (tree.SizeofType n is_pointer) start g = paid_silent p _ g (search debts depth 30)
    by_form (tree.Sizeof n operand is_pointer) start g = paid_silent p _ g (search debts depth 30)
    by_form (tree.Load v) start g = paid_silent p _ g (search debts depth 30)
    by_form (tree.AddressOf v) start g = paid_silent p _ g (search debts depth 30)
    by_form (tree.Decay v) start g = paid_silent p _ g (search debts depth 30)
    by_form (tree.Convert kind inner) start g = paid_silent p _ g (search debts depth 30)
    by_form (tree.Discard inner) start g = paid_silent p _ g (search debts depth 30)
    by_form (tree.Plus inner) start g = paid_silent p _ g (search debts depth 30)
    by_form (tree.Minus inner) start g = paid_silent p _ g (search debts depth 30)
    by_form (tree.Complement inner) start g = paid_silent p _ g (search debts depth 30)
    by_form (tree.Not inner) start g = paid_silent p _ g (search debts depth 30)
    by_form (tree.Integer sign left right) start g = paid_silent p _ g (search debts depth 30)
    by_form (tree.Shift backward size left right) start g = paid_silent p _ g (search debts depth 30)
    by_form (tree.Difference size left right) start g = paid_silent p _ g (search debts depth 30)
    by_form (tree.Compare sign left right) start g = paid_silent p _ g (search debts depth 30)
    by_form (tree.Logical sign left right) start g = paid_logical s sign left right depth p none
    by_form (tree.Conditional test first second) start g = paid_conditional s test first second depth used p none
    by_form (tree.Comma left right) start g = paid_silent p _ g (search debts depth 30)
    by_form (tree.Assign v value) start g = paid_silent p _ g (search debts depth 30)
    by_form (tree.Compound sign kind v value) start g = paid_silent p _ g (search debts depth 30)
    by_form (tree.CompoundShift backward size v value) start g = paid_silent p _ g (search debts depth 30)
    by_form (tree.Step sign time kind v) start g = paid_silent p _ g (search debts depth 30)
    by_form (tree.StepPointer sign time size v) start g = paid_silent p _ g (search debts depth 30)
    by_form (tree.Struct v) start g = paid_silent p _ g (search debts depth 30)
    by_form (tree.Call function args is_used) start g = paid_silent p _ g (search (debts, owed_argued) depth 30)
    by_form (tree.Library function args target) start g = paid_library s (term_at e) function args target depth p none g

pub paid_term : {ds : List Dispatch} {l : ℕ} (s : SettingView) (e : TermTree) (depth : ℕ) (used : Bool) (p : Plan) → p.jobs ≡ [] → Grows p (term s e depth used p) → Paid ds l 0 p (term s e depth used p)
paid_term s (Typed at t parens constant form) depth used p none g = paid_form s (Typed at t parens constant form) form depth used p none g

pub paid_pointer : {ds : List Dispatch} {l : ℕ} (s : SettingView) (v : LvalueTree) (depth : ℕ) (p : Plan) → p.jobs ≡ [] → Grows p (address s v depth p) → Paid ds l 0 p (address s v depth p)
paid_pointer {ds = ds} {l = l} s (Designates at t parens (tree.Object o)) depth p none g = let start : Owed ds l 0 p = owed_none p none in paid_silent p _ g (search debts depth 30)
paid_pointer {ds = ds} {l = l} s (Designates at t parens (tree.Literal n)) depth p none g = let start : Owed ds l 0 p = owed_none p none in paid_silent p _ g (search debts depth 30)
paid_pointer {ds = ds} {l = l} s (Designates at t parens (tree.Target e)) depth p none g = let start : Owed ds l 0 p = owed_none p none in paid_silent p _ g (search debts depth 30)
paid_pointer {ds = ds} {l = l} s (Designates at t parens (tree.Member outer offset)) depth p none g = let start : Owed ds l 0 p = owed_none p none in paid_silent p _ g (search debts depth 30)
paid_pointer {ds = ds} {l = l} s (Designates at t parens (tree.Copied target source)) depth p none g = let start : Owed ds l 0 p = owed_none p none in paid_silent p _ g (search debts depth 30)
paid_pointer {ds = ds} {l = l} s (Designates at t parens (tree.Then left right)) depth p none g = let start : Owed ds l 0 p = owed_none p none in paid_silent p _ g (search debts depth 30)
