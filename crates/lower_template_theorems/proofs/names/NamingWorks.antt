-- What works plan names what their trees name.
use Rattle.std.proofs.Common.{ℕ, Bool, true, false, cond, List, [], ◌∷◌, ◌++◌, length, Option, Some, None}
use Rattle.cc_base.specs.declared.diagnostics.Place.{Place}
use Rattle.cc_base.specs.declared.int_types.IntType.{IntType}
use Rattle.c_layout.specs.Types.{Ty, same_kind}
use Rattle.c_layout.specs.CheckedTrees as tree
use Rattle.c_layout.specs.CheckedTrees.{TermTree, FormTree, TermTrees, Typed, LvalueTree, Designates, StatementTree}
use Rattle.c_layout.specs.declared.library_functions.LibFn.{LibFn}
use Rattle.lower_templates.specs.Worklist.Pieces.{NameView, Outcome, Allocation, PieceView}
use Rattle.lower_templates.specs.Worklist.TermKinds.{term_at}
use Rattle.lower_templates.specs.Worklist.Works as jobs
use Rattle.lower_templates.specs.Worklist.Works.{Job}
use Rattle.lower_templates.specs.Worklist.Plans.{Plan, with_work, with_name, with_labels, with_scope, with_dispatch}
use Rattle.lower_templates.specs.Worklist.Settings.{SettingView}
use Rattle.lower_templates.specs.declared.worklist.template_builder.Dispatch.{Dispatch}
use Rattle.lower_templates.specs.declared.worklist.pending_works.Decision.{Decision}
use Rattle.lower_templates.specs.declared.worklist.pending_works.Surroundings.{Surroundings}
use Rattle.lower_expressions.specs.Assignments.{converted}
use Rattle.lower_expressions.specs.Branches.{arm}
use Rattle.lower_expressions.specs.Calls.{argued, is_allocation, reads_line, sited, allocated, line_value, plain_call, library_call}
use Rattle.lower_expressions.specs.LvaluePointers.{address}
use Rattle.lower_expressions.specs.Values.{of_form, term}
use Rattle.lower_template_theorems.specs.Names.NamedTrees.{NamesTerm, NamesForm, NamesTerms, NamesLvalue, NamesStatement, AllNames}

-- the result and the allocation sites are such
pub record AreFree (Q : NameView → Type 0) : Type 0 where
  pub outcome : Q Outcome
  pub sites : (target : Option Ty) → Q (Allocation target)

-- ---- works

-- what a work names is such; pieces name only what was named before
abbrev pub NamesJob : (NameView → Type 0) → Job → Type 0
NamesJob Q (jobs.Value e depth) = NamesTerm Q e
NamesJob Q (jobs.Unused e depth) = NamesTerm Q e
NamesJob Q (jobs.Address l depth) = NamesLvalue Q l
NamesJob Q (jobs.Condition e decision) = NamesTerm Q e
NamesJob Q (jobs.Statement i around) = NamesStatement Q i
NamesJob Q (jobs.Ready q) = Unit {0}

abbrev pub NameJobs : (NameView → Type 0) → List Job → Type 0
NameJobs Q [] = Unit {0}
NameJobs Q (j ∷ js) = NamesJob Q j × NameJobs Q js

one_more : (Q : NameView → Type 0) (js : List Job) (j : Job) → NameJobs Q js → NamesJob Q j → NameJobs Q (js ++ j ∷ [])
one_more Q [] j is one = (one, tt)
one_more Q (i ∷ js) j (first, is) one = (first, one_more Q js j is one)

name_more : (Q : NameView → Type 0) (xs : List NameView) (x : NameView) → AllNames Q xs → Q x → AllNames Q (xs ++ x ∷ [])
name_more Q [] x is one = (one, tt)
name_more Q (y ∷ xs) x (first, is) one = (first, name_more Q xs x is one)

-- what was named is such, and so is what is planned
pub record IsNaming (Q : NameView → Type 0) (p : Plan) : Type 0 where
  pub names : AllNames Q p.names
  pub works : NameJobs Q p.jobs

pub names_work : {Q : NameView → Type 0} (j : Job) (p : Plan) → NamesJob Q j → IsNaming Q p → IsNaming Q (with_work j p)
unfolding with_work
names_work {Q = Q} j p one known = record { names = known.names; works = one_more Q p.jobs j known.works one }

pub names_name : {Q : NameView → Type 0} (n : NameView) (p : Plan) → Q n → IsNaming Q p → IsNaming Q (with_name n p)
unfolding with_name
names_name {Q = Q} n p is known = record { names = name_more Q p.names n known.names is; works = known.works }

pub names_labels : {Q : NameView → Type 0} (count : ℕ) (p : Plan) → IsNaming Q p → IsNaming Q (with_labels count p)
unfolding with_labels
names_labels count p known = record { names = known.names; works = known.works }

pub names_scope : {Q : NameView → Type 0} (p : Plan) → IsNaming Q p → IsNaming Q (with_scope p)
unfolding with_scope
names_scope p known = record { names = known.names; works = known.works }

pub names_dispatch : {Q : NameView → Type 0} (d : Dispatch) (p : Plan) → IsNaming Q p → IsNaming Q (with_dispatch d p)
unfolding with_dispatch
names_dispatch d p known = record { names = known.names; works = known.works }

pub names_value : {Q : NameView → Type 0} (e : TermTree) (depth : ℕ) (p : Plan) → NamesTerm Q e → IsNaming Q p → IsNaming Q (with_work (jobs.Value e depth) p)
names_value e depth p is known = names_work (jobs.Value e depth) p is known

pub names_unused : {Q : NameView → Type 0} (e : TermTree) (depth : ℕ) (p : Plan) → NamesTerm Q e → IsNaming Q p → IsNaming Q (with_work (jobs.Unused e depth) p)
names_unused e depth p is known = names_work (jobs.Unused e depth) p is known

pub names_address : {Q : NameView → Type 0} (l : LvalueTree) (depth : ℕ) (p : Plan) → NamesLvalue Q l → IsNaming Q p → IsNaming Q (with_work (jobs.Address l depth) p)
names_address l depth p is known = names_work (jobs.Address l depth) p is known

pub names_condition : {Q : NameView → Type 0} (e : TermTree) (d : Decision) (p : Plan) → NamesTerm Q e → IsNaming Q p → IsNaming Q (with_work (jobs.Condition e d) p)
names_condition e d p is known = names_work (jobs.Condition e d) p is known

pub names_statement : {Q : NameView → Type 0} (i : StatementTree) (around : Surroundings) (p : Plan) → NamesStatement Q i → IsNaming Q p → IsNaming Q (with_work (jobs.Statement i around) p)
names_statement i around p is known = names_work (jobs.Statement i around) p is known

pub names_piece : {Q : NameView → Type 0} (q : PieceView) (p : Plan) → IsNaming Q p → IsNaming Q (with_work (jobs.Ready q) p)
names_piece q p known = names_work (jobs.Ready q) p tt known

pub names_or : {Q : NameView → Type 0} (b : Bool) (p q : Plan) → IsNaming Q p → IsNaming Q q → IsNaming Q (cond b p q)
names_or true p q a b = a
names_or false p q a b = b

pub names_arm : {Q : NameView → Type 0} (e : TermTree) (depth : ℕ) (used : Bool) (p : Plan) → NamesTerm Q e → IsNaming Q p → IsNaming Q (with_work (arm e depth used) p)
names_arm e depth true p is known = names_value e depth p is known
names_arm e depth false p is known = names_unused e depth p is known

-- what the constructs are made of
pub ruleset works = (names_value, names_unused, names_address, names_condition, names_statement, names_piece, names_name, names_labels, names_scope, names_dispatch, names_or, names_arm)

-- terms
pub names_argued : {Q : NameView → Type 0} (args : TermTrees) (depth : ℕ) (p : Plan) → NamesTerms Q args → IsNaming Q p → IsNaming Q (argued args depth p)
names_argued tree.End depth p is known = known
names_argued (tree.More e rest) depth p (one, is) known = names_argued rest (jobs.behind depth 1) (with_work (jobs.Value e depth) p) is (names_value e depth p one known)

-- what is planned behind a base that was named is known
names_allocated : {Q : NameView → Type 0} (function : LibFn) (target : Option Ty) (p : Plan) → Q (Allocation target) → IsNaming Q p → IsNaming Q (allocated function target p).after
names_allocated {Q = Q} function target p is known = by_kind (is_allocation function)
  where
    by_kind : (b : Bool) → IsNaming Q (cond b (sited (Some (length p.names)) (with_name (Allocation target) p)) (sited None p)).after
    by_kind true = names_name (Allocation target) p is known
    by_kind false = known

names_library : {Q : NameView → Type 0} (s : SettingView) (at : Place) (function : LibFn) (args : TermTrees) (target : Option Ty) (depth : ℕ) (p : Plan) → Q (Allocation target) → NamesTerms Q args → IsNaming Q p → IsNaming Q (library_call s at function args target depth p)
names_library s at function args target depth p site is known =
    names_or (reads_line function) (line_value at args depth p) (plain_call s at function args target depth p)
    (names_piece _ _ (names_piece _ _ (names_argued args depth (with_labels 1 p) is (names_labels 1 p known))))
    (names_piece _ _ (names_allocated function target (argued args depth p) site (names_argued args depth p is known)))

names_converted : {Q : NameView → Type 0} (at : Place) (to from : ℕ) (old new : IntType) (p : Plan) → IsNaming Q p → IsNaming Q (converted at to from old new p)
names_converted at to from old new p known = names_or (same_kind old new) p _ known (names_piece _ p known)

names_form : {Q : NameView → Type 0} (s : SettingView) (e : TermTree) (form : FormTree) (depth : ℕ) (used : Bool) (p : Plan) → AreFree Q → NamesForm Q form → IsNaming Q p → IsNaming Q (of_form s e form depth used p)
names_form s e (tree.Number n) depth used p free is known = search works depth 30
names_form s e (tree.SizeofType n is_pointer) depth used p free is known = search works depth 30
names_form s e (tree.Sizeof n operand is_pointer) depth used p free is known = search works depth 30
names_form s e (tree.Load l) depth used p free is known = search works depth 30
names_form s e (tree.AddressOf l) depth used p free is known = search works depth 30
names_form s e (tree.Decay l) depth used p free is known = search works depth 30
names_form s e (tree.Convert kind inner) depth used p free is known = search works depth 30
names_form s e (tree.Discard inner) depth used p free is known = search works depth 30
names_form s e (tree.Plus inner) depth used p free is known = search works depth 30
names_form s e (tree.Minus inner) depth used p free is known = search works depth 30
names_form s e (tree.Complement inner) depth used p free is known = search works depth 30
names_form s e (tree.Not inner) depth used p free is known = search works depth 30
names_form s e (tree.Integer sign left right) depth used p free (one, two) known = search works depth 30
names_form s e (tree.Shift backward size left right) depth used p free (one, two) known = search works depth 30
names_form s e (tree.Difference size left right) depth used p free (one, two) known = search works depth 30
names_form s e (tree.Compare sign left right) depth used p free (one, two) known = search works depth 30
names_form s e (tree.Logical sign left right) depth used p free (one, two) known = search works depth 30
names_form s e (tree.Conditional test first second) depth used p free (one, two, three) known = search works depth 30
names_form s e (tree.Comma left right) depth used p free (one, two) known = search works depth 30
names_form s e (tree.Assign l value) depth used p free (one, two) known = search works depth 30
names_form s e (tree.Compound sign kind l value) depth used p free (one, two) known = search (works, names_converted) depth 30
names_form s e (tree.CompoundShift backward size l value) depth used p free (one, two) known = search works depth 30
names_form s e (tree.Step sign time kind l) depth used p free is known = search (works, names_converted) depth 30
names_form s e (tree.StepPointer sign time size l) depth used p free is known = search works depth 30
names_form s e (tree.Struct l) depth used p free is known = search works depth 30
names_form s e (tree.Call function args is_used) depth used p free is known = search (works, names_argued) depth 30
names_form s e (tree.Library function args target) depth used p free is known = names_library s (term_at e) function args target depth p (free.sites target) is known

pub names_term : {Q : NameView → Type 0} (s : SettingView) (e : TermTree) (depth : ℕ) (used : Bool) (p : Plan) → AreFree Q → NamesTerm Q e → IsNaming Q p → IsNaming Q (term s e depth used p)
names_term s (Typed at t parens constant form) depth used p free is known = names_form s (Typed at t parens constant form) form depth used p free is known

pub names_pointer : {Q : NameView → Type 0} (s : SettingView) (l : LvalueTree) (depth : ℕ) (p : Plan) → NamesLvalue Q l → IsNaming Q p → IsNaming Q (address s l depth p)
names_pointer s (Designates at t parens (tree.Object o)) depth p is known = search works depth 30
names_pointer s (Designates at t parens (tree.Literal n)) depth p is known = search works depth 30
names_pointer s (Designates at t parens (tree.Target e)) depth p is known = search works depth 30
names_pointer s (Designates at t parens (tree.Member outer offset)) depth p is known = search works depth 30
names_pointer s (Designates at t parens (tree.Copied target source)) depth p (one, two) known = search works depth 30
names_pointer s (Designates at t parens (tree.Then left right)) depth p (one, two) known = search works depth 30
