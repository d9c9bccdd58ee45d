-- What a property of plans has to be closed under, so that each construct keeps it.
use Rattle.std.proofs.Common.{◌≡◌, ◌⊎◌, ℕ, ◌==◌, Bool, true, false, List, [], ◌∷◌, length, Option, Some, None}
use Rattle.cc_base.specs.declared.diagnostics.Place.{Place}
use Rattle.c_layout.specs.CheckedTrees as tree
use Rattle.c_layout.specs.CheckedTrees.{TermTree, StatementTree, StatementTrees}
use Rattle.c_layout.specs.declared.checked_tree.checked_statements.CaseLabel.{CaseLabel}
use Rattle.c_layout.specs.declared.checked_tree.checked_terms.ObjectRef.{ObjectRef}
use Rattle.lower_templates.specs.Worklist.Acts as acts
use Rattle.lower_templates.specs.Worklist.Acts.{Act, Step}
use Rattle.lower_templates.specs.Worklist.Pieces.{NameView, Local, Way, Always, When, Case, Other, NoLine, Line, ExitView, PieceView, Do, DoIfUsed, End, Mark, Call}
use Rattle.lower_templates.specs.Worklist.TermKinds.{integer_type, term_type}
use Rattle.lower_templates.specs.Worklist.Works as jobs
use Rattle.lower_templates.specs.Worklist.Works.{Job}
use Rattle.lower_templates.specs.Worklist.Plans.{Plan, with_work, with_name, with_labels, with_scope, with_dispatch, ended, name_of_object}
use Rattle.lower_templates.specs.Worklist.Settings.{SettingView}
use Rattle.lower_templates.specs.declared.worklist.template_builder.Dispatch.{Dispatch}
use Rattle.lower_templates.specs.declared.worklist.pending_works.Surroundings.{Surroundings}
use Rattle.lower_functions.specs.Statements.Switches.{switched_object, case_arms, dispatch_exits}

abbrev is_there : Option ℕ → Bool
is_there None = false
is_there (Some n) = true

-- whether an instruction names a base
abbrev pub names_base : Act → Bool
names_base (acts.Address to base offset) = true
names_base (acts.Library to function arguments newest size) = is_there newest
names_base (acts.Enter base) = true
names_base (acts.Leave base) = true
names_base (acts.Forget base) = true
names_base (acts.Clear base) = true
names_base (acts.Spell base offset room text) = true
names_base other = false

abbrev pub IsLocal : NameView → Type 0
IsLocal x = (n : ℕ) × (x ≡ Local n)

-- an instruction names the base of a number, and forms its address at the start unless it is a local object
abbrev pub NamesIt : NameView → ℕ → Act → Type 0
NamesIt x n (acts.Address to base offset) = (base ≡ n) × (((offset == 0) ≡ true) ⊎ IsLocal x)
NamesIt x n (acts.Library to function arguments newest size) = newest ≡ Some n
NamesIt x n (acts.Enter base) = base ≡ n
NamesIt x n (acts.Leave base) = base ≡ n
NamesIt x n (acts.Forget base) = base ≡ n
NamesIt x n (acts.Clear base) = base ≡ n
NamesIt x n (acts.Spell base offset room text) = base ≡ n
NamesIt x n other = ⊥

-- a way on that names no base
abbrev pub IsBare : Way → Type 0
IsBare (When truth test puts) = test ≡ None
IsBare (Case test) = ⊥
IsBare (Other values) = ⊥
IsBare other = Unit {0}

abbrev pub AreBare : List ExitView → Type 0
AreBare [] = Unit {0}
AreBare (e ∷ es) = IsBare e.taken × AreBare es

-- a way on that is none of a switch
abbrev pub IsUnswitched : Way → Type 0
IsUnswitched (Case test) = ⊥
IsUnswitched (Other values) = ⊥
IsUnswitched other = Unit {0}

abbrev pub AreUnswitched : List ExitView → Type 0
AreUnswitched [] = Unit {0}
AreUnswitched (e ∷ es) = IsUnswitched e.taken × AreUnswitched es

pub unswitched : (exits : List ExitView) → AreBare exits → AreUnswitched exits
unswitched [] bare = tt
unswitched (e ∷ es) (one, bare) = (of_way e.taken one, unswitched es bare)
  where
    of_way : (w : Way) → IsBare w → IsUnswitched w
    of_way Always is = tt
    of_way (When truth test puts) is = tt
    of_way (Case test) is = is
    of_way (Other values) is = is
    of_way NoLine is = tt
    of_way Line is = tt

-- a piece that is done in any case and names no base
abbrev pub IsSilentPiece : PieceView → Type 0
IsSilentPiece (Do s) = names_base s.does ≡ false
IsSilentPiece (DoIfUsed s) = ⊥
IsSilentPiece (End s exits) = (names_base s.does ≡ false) × AreBare exits
IsSilentPiece (Mark label) = Unit {0}
IsSilentPiece (Call c) = Unit {0}

-- a work of terms that names no base itself
abbrev pub IsSilent : Job → Type 0
IsSilent (jobs.Value e depth) = Unit {0}
IsSilent (jobs.Unused e depth) = Unit {0}
IsSilent (jobs.Address l depth) = Unit {0}
IsSilent (jobs.Condition e decision) = Unit {0}
IsSilent (jobs.Statement i around) = ⊥
IsSilent (jobs.Ready q) = IsSilentPiece q

-- closed under what terms plan: works that name no base, and bases that are named anew with the instruction that names them
pub record TermClosed (P : Plan → Type 0) : Type 0 where
  pub work : (j : Job) (p : Plan) → IsSilent j → P p → P (with_work j p)
  pub fresh : (x : NameView) (s : Step) (p : Plan) → NamesIt x (length p.names) s.does → P p → P (with_work (jobs.Ready (Do s)) (with_name x p))
  pub labels : (count : ℕ) (p : Plan) → P p → P (with_labels count p)

-- closed under what conditions plan: tests name objects before the branch that has them
pub record ConditionClosed (P : Plan → Type 0) : Type 0 where
  pub terms : TermClosed P
  pub name : (o : ObjectRef) (p : Plan) → P p → P (with_name (name_of_object o) p)
  pub branch : (s : Step) (exits : List ExitView) (p : Plan) → names_base s.does ≡ false → AreUnswitched exits → P p → P (with_work (jobs.Ready (End s exits)) p)

-- what a condition on statements says of the parts of one, where one on switches goes with it
abbrev pub OnParts : (StatementTree → Type 0) → (StatementTrees → Type 0) → (TermTree → List CaseLabel → Type 0) → StatementTree → Type 0
OnParts T U S (tree.Block objects items) = U items
OnParts T U S (tree.If e body) = T body
OnParts T U S (tree.IfElse e first second) = T first × T second
OnParts T U S (tree.While e body) = T body
OnParts T U S (tree.Do body e) = T body
OnParts T U S (tree.For objects first e step body) = U first × T body
OnParts T U S (tree.Switch at e labels has_default values body) = S e labels × T body
OnParts T U S (tree.Case n body) = T body
OnParts T U S (tree.Default body) = T body
OnParts T U S (tree.Label n body) = T body
OnParts T U S other = Unit {0}

abbrev pub OnEach : (StatementTree → Type 0) → (StatementTrees → Type 0) → StatementTrees → Type 0
OnEach T U tree.NoMore = Unit {0}
OnEach T U (tree.And first rest) = T first × U rest

-- closed under what statements plan, where conditions on the statements are met
pub record StatementClosed (P : Plan → Type 0) (T : StatementTree → Type 0) (U : StatementTrees → Type 0) (S : TermTree → List CaseLabel → Type 0) : Type 0 where
  pub terms : TermClosed P
  pub scope : (p : Plan) → P p → P (with_scope p)
  pub dispatch : (d : Dispatch) (p : Plan) → P p → P (with_dispatch d p)
  pub statement : (i : StatementTree) (around : Surroundings) (p : Plan) → T i → P p → P (with_work (jobs.Statement i around) p)
  pub switched : (s : SettingView) (from label number : ℕ) (q : Plan) (at : Place) (e : TermTree) (cases : List CaseLabel) (other : ℕ) (p : Plan) → S e cases → P p → P (ended at (acts.Switch 0 (integer_type (term_type e))) (dispatch_exits (case_arms s from label number cases q).arms cases (switched_object e p).base other) (with_work (jobs.Value e 0) (switched_object e p).after))
  pub parts : (i : StatementTree) → T i → OnParts T U S i
  pub each : (items : StatementTrees) → U items → OnEach T U items

-- where statements have to meet no condition
abbrev pub AnyStatement : StatementTree → Type 0
AnyStatement i = Unit {0}

abbrev pub AnyStatements : StatementTrees → Type 0
AnyStatements items = Unit {0}

abbrev pub AnySwitch : TermTree → List CaseLabel → Type 0
AnySwitch e cases = Unit {0}

pub any_parts : (i : StatementTree) → OnParts AnyStatement AnyStatements AnySwitch i
any_parts (tree.IfElse e first second) = (tt, tt)
any_parts (tree.For objects first e step body) = (tt, tt)
any_parts (tree.Switch at e labels has_default values body) = (tt, tt)
any_parts other = tt

pub any_each : (items : StatementTrees) → OnEach AnyStatement AnyStatements items
any_each tree.NoMore = tt
any_each (tree.And first rest) = (tt, tt)
