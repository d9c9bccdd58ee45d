-- What statements plan names what their trees name, and what the scopes of their function do.
use Rattle.std.proofs.Common.{ℕ, ◌==◌, Bool, true, false, cond, nat_lt, List, [], ◌∷◌, length, Option, Some, None}
use Rattle.cc_base.specs.declared.diagnostics.Place.{Place}
use Rattle.c_layout.specs.CheckedTrees as tree
use Rattle.c_layout.specs.CheckedTrees.{TermTree, StatementTree, StatementTrees, StoreTree, StoreValue, StoreCopy, StoreText}
use Rattle.c_layout.specs.declared.checked_tree.checked_statements.CaseLabel.{CaseLabel}
use Rattle.lower_conditions.specs.Tests.{named}
use Rattle.lower_conditions.specs.declared.branch_tests.NamedObject.{NamedObject}
use Rattle.cfg.specs.declared.machine_instructions.Scalar.{Scalar}
use Rattle.cfg.specs.declared.machine_instructions.Scalar.TheVariants as scalar
use Rattle.lower_functions.specs.Statements.ScopeJumps.{entered, left, all_entered, all_left, around, objects, way, leap, enters_between}
use Rattle.lower_functions.specs.Statements.PlainStatements.{stored, all_stored, all_statements, cleared, in_scope}
use Rattle.lower_functions.specs.Statements.Loops.{check, unused, for_from}
use Rattle.lower_functions.specs.Statements.Switches.{mention_of, mention_if, switched_object, Mentioned, targeted, edge_target, case_arms, case_landing, edge_block, edge_blocks, begin_switch, dispatch_behind, dispatch, choice_at, other_landing, switch}
use Rattle.lower_functions.specs.Statements.Jumps.{end_behind, given}
use Rattle.lower_functions.specs.Statements.Statements.{statement}
use Rattle.lower_functions.specs.declared.statements.switch_statements.CaseArm.{CaseArm}
use Rattle.lower_functions.specs.declared.statements.switch_statements.SwitchBegun.{SwitchBegun}
use Rattle.lower_templates.specs.Worklist.Works as jobs
use Rattle.lower_templates.specs.Worklist.Plans.{Plan, with_work, with_labels, with_scope, name_of_object}
use Rattle.lower_templates.specs.Worklist.Scopes.{ScopeView}
use Rattle.lower_templates.specs.Worklist.Settings.{SettingView}
use Rattle.lower_templates.specs.declared.worklist.pending_works.Landing.{Landing}
use Rattle.lower_templates.specs.declared.worklist.pending_works.Surroundings.{Surroundings}
use Rattle.lower_template_theorems.proofs.names.NamingWorks.{AreFree, IsNaming, names_name, names_labels, names_statement, names_or, works}
use Rattle.lower_template_theorems.proofs.names.NamingConditions.{NamesObject, named_names}
use Rattle.lower_template_theorems.specs.Names.NamedTrees.{NamesTerm, NamesMaybe, NamesStore, NamesStores, NamesLocals, NamesStatement, NamesStatements}
use Rattle.lower_templates.specs.Worklist.Pieces.{NameView, Local, Outcome}

pub names_entered : {Q : NameView → Type 0} (at : Place) (xs : List ℕ) (p : Plan) → NamesLocals Q xs → IsNaming Q p → IsNaming Q (all_entered at xs p)
names_entered at [] p is known = known
names_entered at (x ∷ xs) p (one, is) known = names_entered at xs (entered at x p) is (search works depth 30)

pub names_left : {Q : NameView → Type 0} (at : Place) (xs : List ℕ) (p : Plan) → NamesLocals Q xs → IsNaming Q p → IsNaming Q (all_left at xs p)
names_left at [] p is known = known
names_left at (x ∷ xs) p (one, is) known = names_left at xs (left at x p) is (search works depth 30)

-- the objects of the scopes of a function
abbrev pub NamesScopes : (NameView → Type 0) → SettingView → Type 0
NamesScopes Q s = (n : ℕ) → NamesLocals Q (objects s n)

-- the way from one scope to another
names_way : {Q : NameView → Type 0} (s : SettingView) (steps : List ScopeView) (from to : ℕ) (p : Plan) → NamesScopes Q s → IsNaming Q p → IsNaming Q (way s steps from to p)
names_way s [] from to p scopes known = known
names_way s (x ∷ steps) from to p scopes known =
    let inwards = names_entered s.at (objects s to) (way s steps from (around s to) p) (scopes to) (names_way s steps from (around s to) p scopes known) in
    let outwards = names_way s steps (around s from) to (all_left s.at (objects s from) p) scopes (names_left s.at (objects s from) p (scopes from) known) in
    names_or (from == to) p _ known (names_or (nat_lt to from) _ _ outwards inwards)

names_leap : {Q : NameView → Type 0} (s : SettingView) (from : ℕ) (to : Landing) (p : Plan) → NamesScopes Q s → IsNaming Q p → IsNaming Q (leap s from to p)
names_leap s from to p scopes known = let on_way = names_way s s.scopes.scopes from to.scope p scopes known in search works depth 30

names_stored : {Q : NameView → Type 0} (at : Place) (object : ℕ) (x : StoreTree) (p : Plan) → Q (Local object) → NamesStore Q x → IsNaming Q p → IsNaming Q (stored at object x p)
names_stored at object (StoreValue offset e) p here is known = search works depth 30
names_stored at object (StoreCopy offset l) p here is known = search works depth 30
names_stored at object (StoreText offset room text) p here is known = search works depth 30

names_all_stored : {Q : NameView → Type 0} (at : Place) (object : ℕ) (xs : List StoreTree) (p : Plan) → Q (Local object) → NamesStores Q xs → IsNaming Q p → IsNaming Q (all_stored at object xs p)
names_all_stored at object [] p here is known = known
names_all_stored at object (x ∷ xs) p here (one, is) known = names_all_stored at object xs (stored at object x p) here is (names_stored at object x p here one known)

pub names_statements : {Q : NameView → Type 0} (items : StatementTrees) (around : Surroundings) (p : Plan) → NamesStatements Q items → IsNaming Q p → IsNaming Q (all_statements items around p)
names_statements tree.NoMore around p is known = known
names_statements (tree.And first rest) around p (one, is) known = names_statements rest around (with_work (jobs.Statement first around) p) is (names_statement first around p one known)

names_check : {Q : NameView → Type 0} (label : ℕ) (test : Option TermTree) (first second : ℕ) (p : Plan) → NamesMaybe Q test → IsNaming Q p → IsNaming Q (check label test first second p)
names_check label None first second p is known = search works depth 30
names_check label (Some e) first second p is known = search works depth 30

names_step : {Q : NameView → Type 0} (e : Option TermTree) (p : Plan) → NamesMaybe Q e → IsNaming Q p → IsNaming Q (unused e p)
names_step None p is known = known
names_step (Some e) p is known = search works depth 30

names_for : {Q : NameView → Type 0} (s : SettingView) (first : ℕ) (xs : List ℕ) (items : StatementTrees) (test after : Option TermTree) (body : StatementTree) (inside : Surroundings) (p : Plan) → NamesLocals Q xs → NamesStatements Q items → NamesMaybe Q test → NamesMaybe Q after → NamesStatement Q body → IsNaming Q p → IsNaming Q (for_from s first xs items test after body inside p)
names_for s first xs items test after body inside p one two three four five known = search (works, names_entered, names_left, names_statements, names_check, names_step) depth 40

names_outcome : {Q : NameView → Type 0} (s : SettingView) (at : Place) (e : Option TermTree) (p : Plan) → Q Outcome → NamesMaybe Q e → IsNaming Q p → IsNaming Q (given s at e p)
names_outcome s at None p result is known = known
names_outcome s at (Some e) p result is known = search works depth 30

names_end_of : {Q : NameView → Type 0} (s : SettingView) (at : Place) (p : Plan) → NamesLocals Q s.parameters → IsNaming Q p → IsNaming Q (end_behind s at p)
names_end_of s at p own known = search (works, names_left) depth 30

-- a switch
names_mention_of : {Q : NameView → Type 0} (o : NamedObject) (kind : Scalar) (p : Plan) → Q (name_of_object o.object) → IsNaming Q p → IsNaming Q (mention_of o kind p).after
names_mention_of o (scalar.Int kind) p is known = names_name (name_of_object o.object) p is known
names_mention_of o scalar.Pointer p is known = known

names_mention : {Q : NameView → Type 0} (o : Option NamedObject) (p : Plan) → NamesObject Q o → IsNaming Q p → IsNaming Q (mention_if o p).after
names_mention None p is known = known
names_mention (Some o) p is known = names_mention_of o o.kind p is known

names_target : {Q : NameView → Type 0} (s : SettingView) (from : ℕ) (to : Landing) (p : Plan) → IsNaming Q p → IsNaming Q (edge_target s from to p).after
names_target {Q = Q} s from to p known = by_enters (enters_between s from to.scope)
  where
    by_enters : (b : Bool) → IsNaming Q (cond b (targeted p.labels (with_labels 1 p)) (targeted to.label p)).after
    by_enters true = names_labels 1 p known
    by_enters false = known

names_arms : {Q : NameView → Type 0} (s : SettingView) (from label number : ℕ) (cs : List CaseLabel) (p : Plan) → IsNaming Q p → IsNaming Q (case_arms s from label number cs p).after
names_arms s from label number [] p known = known
names_arms s from label number (c ∷ cs) p known =
    names_arms s from (jobs.behind label 1) (jobs.behind number 1) cs (edge_target s from (case_landing s label number) p).after (names_target s from (case_landing s label number) p known)

names_block : {Q : NameView → Type 0} (s : SettingView) (from to : ℕ) (landing : Landing) (p : Plan) → NamesScopes Q s → IsNaming Q p → IsNaming Q (edge_block s from to landing p)
names_block s from to landing p scopes known = search (works, names_leap) depth 30

names_blocks : {Q : NameView → Type 0} (s : SettingView) (from : ℕ) (arms : List CaseArm) (p : Plan) → NamesScopes Q s → IsNaming Q p → IsNaming Q (edge_blocks s from arms p)
names_blocks s from [] p scopes known = known
names_blocks s from (a ∷ arms) p scopes known = names_blocks s from arms (edge_block s from a.to a.landing p) scopes (names_block s from a.to a.landing p scopes known)

names_dispatch_behind : {Q : NameView → Type 0} (s : SettingView) (at : Place) (e : TermTree) (cases : List CaseLabel) (from : ℕ) (landing : Landing) (arms : List CaseArm) (other : ℕ) (found : Mentioned) → NamesScopes Q s → NamesTerm Q e → IsNaming Q found.after → IsNaming Q (dispatch_behind s at e cases from landing arms other found)
names_dispatch_behind s at e cases from landing arms other found scopes is known = search (works, names_block, names_blocks) depth 30

names_dispatch_of : {Q : NameView → Type 0} (s : SettingView) (at : Place) (e : TermTree) (cases : List CaseLabel) (from : ℕ) (b : SwitchBegun) (p : Plan) → NamesScopes Q s → NamesTerm Q e → IsNaming Q p → IsNaming Q (dispatch s at e cases from b p)
names_dispatch_of {Q = Q} s at e cases from b p scopes is known =
    let landing = other_landing (choice_at s b.choice) b.dispatch b.after in
    let a = case_arms s from b.dispatch.cases (choice_at s b.choice).first cases p in
    let other = edge_target s from landing a.after in
    let found = names_mention (named e) other.after (named_names Q e is) (names_target s from landing a.after (names_arms s from b.dispatch.cases (choice_at s b.choice).first cases p known)) in
    names_dispatch_behind s at e cases from landing a.arms other.to (switched_object e other.after) scopes is found

names_switch : {Q : NameView → Type 0} (s : SettingView) (at : Place) (e : TermTree) (cases : List CaseLabel) (body : StatementTree) (around : Surroundings) (p : Plan) → NamesScopes Q s → NamesTerm Q e → NamesStatement Q body → IsNaming Q p → IsNaming Q (switch s at e cases body around p)
names_switch {Q = Q} s at e cases body around p scopes first second known =
    let b = begin_switch (length cases) around.scope p in
    let began : IsNaming Q b.after = search works depth 30 in
    let sent = names_dispatch_of s at e cases around.scope b.begun b.after scopes first began in
    search works depth 30

pub names_statement_works : {Q : NameView → Type 0} (s : SettingView) (i : StatementTree) (around : Surroundings) (p : Plan) → AreFree Q → NamesScopes Q s → NamesLocals Q s.parameters → NamesStatement Q i → IsNaming Q p → IsNaming Q (statement s i around p)
names_statement_works s (tree.Value e) around p free scopes own is known = search works depth 30
names_statement_works s tree.Nothing around p free scopes own is known = known
names_statement_works s (tree.Forget at object) around p free scopes own is known = search works depth 30
names_statement_works s (tree.Start at object e) around p free scopes own (one, two) known = search works depth 30
names_statement_works s (tree.StartCopy at object l) around p free scopes own (one, two) known = search works depth 30
names_statement_works s (tree.StartList at object stores) around p free scopes own (one, two) known = names_all_stored at object stores (cleared at object p) one two (search works depth 30)
names_statement_works s (tree.Block xs items) around p free scopes own (one, two) known = search (works, names_left, names_statements, names_entered) depth 30
names_statement_works s (tree.If e body) around p free scopes own (one, two) known = search works depth 30
names_statement_works s (tree.IfElse e body other) around p free scopes own (one, two, three) known = search works depth 30
names_statement_works s (tree.While e body) around p free scopes own (one, two) known = search works depth 30
names_statement_works s (tree.Do body e) around p free scopes own (one, two) known = search works depth 30
names_statement_works {Q = Q} s (tree.For xs first test step body) around p free scopes own (one, two, three, four, five) known =
    let opened : IsNaming Q (with_scope p) = search works in names_for s (with_scope p).labels xs first test step body (in_scope around p.scopes) (with_scope p) one two three four five opened
names_statement_works s (tree.Switch at e labels has_default enumerators body) around p free scopes own (one, two) known = names_switch s at e labels body around p scopes one two known
names_statement_works s (tree.Case n body) around p free scopes own is known = search works depth 30
names_statement_works s (tree.Default body) around p free scopes own is known = search works depth 30
names_statement_works s (tree.Label n body) around p free scopes own is known = search works depth 30
names_statement_works s (tree.Goto n) around p free scopes own is known = names_leap s around.scope _ p scopes known
names_statement_works s tree.Break around p free scopes own is known = names_leap s around.scope around.on_break p scopes known
names_statement_works s tree.Continue around p free scopes own is known = names_leap s around.scope around.on_continue p scopes known
names_statement_works s (tree.Return at e) around p free scopes own is known =
    names_end_of s at _ own (names_way s s.scopes.scopes around.scope 0 (given s at e p) scopes (names_outcome s at e p free.outcome is known))
