-- The marks that planned works are still to make.
use Rattle.std.proofs.Common.{◌≡◌, ◌≤◌, ◌<◌, ◌⊎◌, ℕ, ◌+◌, ◌-◌, ◌^◌, ◌==◌, Bool, true, false, cond, nat_le, List, [], ◌∷◌, ◌++◌, length, Option, Some, None, slice_get, refl, arith, ap, sym, subst, ◌∙◌}
use Rattle.c_layout.specs.CheckedTrees.{StatementTree, TermTree, LvalueTree}
use Rattle.lower_templates.specs.Worklist.Acts.{Step}
use Rattle.lower_templates.specs.Worklist.Pieces.{NameView, ExitView, Do, End, Mark, Call}
use Rattle.lower_templates.specs.Worklist.Works as jobs
use Rattle.lower_templates.specs.Worklist.Works.{Job}
use Rattle.lower_templates.specs.Worklist.Plans.{Plan, with_work, with_name, with_labels, with_scope, with_dispatch}
use Rattle.lower_templates.specs.declared.worklist.template_builder.Dispatch.{Dispatch}
use Rattle.lower_templates.specs.declared.worklist.template_pieces.OwnCall.{OwnCall}
use Rattle.lower_templates.specs.declared.worklist.pending_works.Decision.{Decision}
use Rattle.lower_templates.specs.declared.worklist.pending_works.Surroundings.{Surroundings}
use Rattle.lower_expressions.specs.Branches.{arm}
use Rattle.lower_template_theorems.specs.PendingLabels.Marks.{one, marked, labels_in, cases_in, defaults_in, AreSelected}

-- the labels of the innermost switch
abbrev pub dispatched : ℕ → Option Dispatch → StatementTree → ℕ
dispatched l None i = 0
dispatched l (Some d) i = cond (nat_le d.cases l) (cases_in (l - d.cases) i) 0 + cond (l == d.fallback) (defaults_in i) 0

abbrev pub owes : List Dispatch → ℕ → Job → ℕ
owes ds l (jobs.Value e depth) = 0
owes ds l (jobs.Unused e depth) = 0
owes ds l (jobs.Address lvalue depth) = 0
owes ds l (jobs.Condition e decision) = 0
owes ds l (jobs.Statement i around) = labels_in l i + dispatched l (slice_get ds around.choice) i
owes ds l (jobs.Ready q) = marked l q

abbrev pub all_owe : List Dispatch → ℕ → List Job → ℕ
all_owe ds l [] = 0
all_owe ds l (j ∷ js) = owes ds l j + all_owe ds l js

-- no label of a switch around it stands in a statement
pub record IsFree (i : StatementTree) : Type 0 where
  pub cases : (n : ℕ) → cases_in n i ≡ 0
  pub defaults : defaults_in i ≡ 0

-- the labels of the cases that stand in a statement are numbers of 32 bits
abbrev pub HasRoom : Dispatch → StatementTree → Type 0
HasRoom d i = (n : ℕ) → 1 ≤ cases_in n i → d.cases + n ≤ 2 ^ 32 - 1

pub record IsAround (ds : List Dispatch) (i : StatementTree) (choice : ℕ) : Type 0 where
  pub there : choice < length ds
  pub room : (d : Dispatch) → slice_get ds choice ≡ Some d → HasRoom d i

-- the switch around a statement is known, where its labels stand there
abbrev pub IsPlaced : List Dispatch → StatementTree → ℕ → Type 0
IsPlaced ds i choice = IsAround ds i choice ⊎ IsFree i

pub record IsSound (ds : List Dispatch) (i : StatementTree) (choice : ℕ) : Type 0 where
  pub placed : IsPlaced ds i choice
  pub switches : AreSelected i

abbrev pub SoundJob : List Dispatch → Job → Type 0
SoundJob ds (jobs.Value e depth) = Unit {0}
SoundJob ds (jobs.Unused e depth) = Unit {0}
SoundJob ds (jobs.Address lvalue depth) = Unit {0}
SoundJob ds (jobs.Condition e decision) = Unit {0}
SoundJob ds (jobs.Statement i around) = IsSound ds i around.choice
SoundJob ds (jobs.Ready q) = Unit {0}

abbrev pub AllSound : List Dispatch → List Job → Type 0
AllSound ds [] = Unit {0}
AllSound ds (j ∷ js) = SoundJob ds j × AllSound ds js

-- what is planned owes so much
pub record Owed (ds : List Dispatch) (l : ℕ) (k : ℕ) (p : Plan) : Type 0 where
  pub most : all_owe ds l p.jobs ≡ k
  pub sound : AllSound ds p.jobs

one_more : (ds : List Dispatch) (l : ℕ) (js : List Job) (j : Job) → all_owe ds l (js ++ j ∷ []) ≡ all_owe ds l js + owes ds l j
one_more ds l [] j = let e : owes ds l j + 0 ≡ 0 + owes ds l j = omega arith in e
one_more ds l (i ∷ js) j = let e = one_more ds l js j in omega (arith, e)

sound_more : (ds : List Dispatch) (js : List Job) (j : Job) → AllSound ds js → SoundJob ds j → AllSound ds (js ++ j ∷ [])
sound_more ds [] j all this = (this, tt)
sound_more ds (i ∷ js) j (first, all) this = (first, sound_more ds js j all this)

pub owed_none : {ds : List Dispatch} {l : ℕ} (p : Plan) → p.jobs ≡ [] → Owed ds l 0 p
owed_none {ds = ds} {l = l} p none = record { most = ap (all_owe ds l) none; sound = subst (AllSound ds) (sym none) tt }

owed_more : {ds : List Dispatch} {l k n : ℕ} (j : Job) (p : Plan) → owes ds l j ≡ n → SoundJob ds j → Owed ds l k p → Owed ds l (k + n) (with_work j p)
unfolding with_work
owed_more {ds = ds} {l = l} {k = k} j p is this o = record { most = one_more ds l p.jobs j ∙ ap (λ m. m + owes ds l j) o.most ∙ ap (λ m. k + m) is; sound = sound_more ds p.jobs j o.sound this }

nothing_more : (k : ℕ) → k + 0 ≡ k
nothing_more k = omega arith

pub owed_silent : {ds : List Dispatch} {l k : ℕ} (j : Job) (p : Plan) → owes ds l j ≡ 0 → SoundJob ds j → Owed ds l k p → Owed ds l k (with_work j p)
owed_silent {ds = ds} {l = l} {k = k} j p is this o = subst (λ m. Owed ds l m (with_work j p)) (nothing_more k) (owed_more j p is this o)

pub owed_value : {ds : List Dispatch} {l k : ℕ} (e : TermTree) (depth : ℕ) (p : Plan) → Owed ds l k p → Owed ds l k (with_work (jobs.Value e depth) p)
owed_value e depth p o = owed_silent (jobs.Value e depth) p refl tt o

pub owed_unused : {ds : List Dispatch} {l k : ℕ} (e : TermTree) (depth : ℕ) (p : Plan) → Owed ds l k p → Owed ds l k (with_work (jobs.Unused e depth) p)
owed_unused e depth p o = owed_silent (jobs.Unused e depth) p refl tt o

pub owed_address : {ds : List Dispatch} {l k : ℕ} (lvalue : LvalueTree) (depth : ℕ) (p : Plan) → Owed ds l k p → Owed ds l k (with_work (jobs.Address lvalue depth) p)
owed_address lvalue depth p o = owed_silent (jobs.Address lvalue depth) p refl tt o

pub owed_condition : {ds : List Dispatch} {l k : ℕ} (e : TermTree) (d : Decision) (p : Plan) → Owed ds l k p → Owed ds l k (with_work (jobs.Condition e d) p)
owed_condition e d p o = owed_silent (jobs.Condition e d) p refl tt o

pub owed_do : {ds : List Dispatch} {l k : ℕ} (s : Step) (p : Plan) → Owed ds l k p → Owed ds l k (with_work (jobs.Ready (Do s)) p)
owed_do s p o = owed_silent (jobs.Ready (Do s)) p refl tt o

pub owed_end : {ds : List Dispatch} {l k : ℕ} (s : Step) (exits : List ExitView) (p : Plan) → Owed ds l k p → Owed ds l k (with_work (jobs.Ready (End s exits)) p)
owed_end s exits p o = owed_silent (jobs.Ready (End s exits)) p refl tt o

pub owed_call : {ds : List Dispatch} {l k : ℕ} (c : OwnCall) (p : Plan) → Owed ds l k p → Owed ds l k (with_work (jobs.Ready (Call c)) p)
owed_call c p o = owed_silent (jobs.Ready (Call c)) p refl tt o

pub owed_arm : {ds : List Dispatch} {l k : ℕ} (e : TermTree) (depth : ℕ) (used : Bool) (p : Plan) → Owed ds l k p → Owed ds l k (with_work (arm e depth used) p)
owed_arm e depth true p o = owed_value e depth p o
owed_arm e depth false p o = owed_unused e depth p o

pub owed_mark : {ds : List Dispatch} {l k : ℕ} (m : ℕ) (p : Plan) → Owed ds l k p → Owed ds l (k + one l m) (with_work (jobs.Ready (Mark m)) p)
owed_mark m p o = owed_more (jobs.Ready (Mark m)) p refl tt o

pub owed_statement : {ds : List Dispatch} {l k : ℕ} (i : StatementTree) (around : Surroundings) (p : Plan) → IsSound ds i around.choice → Owed ds l k p → Owed ds l (k + owes ds l (jobs.Statement i around)) (with_work (jobs.Statement i around) p)
owed_statement i around p this o = owed_more (jobs.Statement i around) p refl this o

pub owed_name : {ds : List Dispatch} {l k : ℕ} (x : NameView) (p : Plan) → Owed ds l k p → Owed ds l k (with_name x p)
unfolding with_name
owed_name x p o = record { most = o.most; sound = o.sound }

pub owed_labels : {ds : List Dispatch} {l k : ℕ} (count : ℕ) (p : Plan) → Owed ds l k p → Owed ds l k (with_labels count p)
unfolding with_labels
owed_labels count p o = record { most = o.most; sound = o.sound }

pub owed_scope : {ds : List Dispatch} {l k : ℕ} (p : Plan) → Owed ds l k p → Owed ds l k (with_scope p)
unfolding with_scope
owed_scope p o = record { most = o.most; sound = o.sound }

pub owed_dispatch : {ds : List Dispatch} {l k : ℕ} (d : Dispatch) (p : Plan) → Owed ds l k p → Owed ds l k (with_dispatch d p)
unfolding with_dispatch
owed_dispatch d p o = record { most = o.most; sound = o.sound }

pub owed_or : {ds : List Dispatch} {l k : ℕ} (b : Bool) (p q : Plan) → Owed ds l k p → Owed ds l k q → Owed ds l k (cond b p q)
owed_or true p q x y = x
owed_or false p q x y = y

pub ruleset debts = (owed_value, owed_unused, owed_address, owed_condition, owed_do, owed_end, owed_call, owed_arm, owed_mark, owed_name, owed_labels, owed_scope, owed_dispatch, owed_or)
