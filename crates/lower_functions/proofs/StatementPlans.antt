-- What statements plan keeps what is closed under it.
use Rattle.std.proofs.Common.{inl, inr, ℕ, ◌+◌, ◌==◌, Bool, true, false, cond, nat_lt, List, [], ◌∷◌, length, Option, Some, None, refl}
use Rattle.cc_base.specs.declared.diagnostics.Place.{Place}
use Rattle.c_layout.specs.CheckedTrees as tree
use Rattle.c_layout.specs.CheckedTrees.{TermTree, StatementTree, StatementTrees, StoreTree, StoreValue, StoreCopy, StoreText}
use Rattle.c_layout.specs.declared.checked_tree.checked_statements.CaseLabel.{CaseLabel}
use Rattle.lower_templates.specs.Worklist.Acts as acts
use Rattle.lower_templates.specs.Worklist.Pieces.{Local, Outcome}
use Rattle.lower_templates.specs.Worklist.TermKinds.{integer_type, term_type}
use Rattle.lower_templates.specs.Worklist.Works as jobs
use Rattle.lower_templates.specs.Worklist.Plans.{Plan, with_work, with_labels, with_scope, ended}
use Rattle.lower_templates.specs.Worklist.Scopes.{ScopeView}
use Rattle.lower_templates.specs.Worklist.Settings.{SettingView}
use Rattle.lower_templates.specs.declared.worklist.pending_works.Landing.{Landing}
use Rattle.lower_templates.specs.declared.worklist.pending_works.Surroundings.{Surroundings}
use Rattle.cfg.specs.declared.machine_instructions.Scalar.{Scalar}
use Rattle.cfg.specs.declared.machine_instructions.Scalar.TheVariants as scalar
use Rattle.lower_conditions.specs.declared.branch_tests.NamedObject.{NamedObject}
use Rattle.lower_expressions.specs.Branches.{jump}
use Rattle.lower_functions.specs.Statements.ScopeJumps.{entered, left, all_entered, all_left, around, objects, way, leap, enters_between}
use Rattle.lower_functions.specs.Statements.PlainStatements.{address, stored, all_stored, all_statements, cleared, in_scope}
use Rattle.lower_functions.specs.Statements.Loops.{condition, part, check, unused, for_from}
use Rattle.lower_functions.specs.Statements.Switches.{mention_of, mention_if, switched_object, targeted, edge_target, case_arms, case_landing, dispatch_exits, edge_block, edge_blocks, begin_switch, dispatch, choice_at, other_landing, switch}
use Rattle.lower_functions.specs.Statements.Jumps.{end_behind, given, giving}
use Rattle.lower_functions.specs.Statements.Statements.{statement}
use Rattle.lower_functions.specs.declared.statements.switch_statements.CaseArm.{CaseArm}
use Rattle.lower_functions.specs.declared.statements.switch_statements.SwitchBegun.{SwitchBegun}
use Rattle.lower_functions.proofs.PlanClosures.{TermClosed, ConditionClosed, StatementClosed}
use Rattle.lower_functions.proofs.TermPlans.{kept_value, kept_unused, kept_place, kept_decision, kept_act, kept_fresh, kept_end, kept_mark, kept_or}

module _ {P : Plan → Type 0} (c : TermClosed P) where
  pub kept_entered : (at : Place) (xs : List ℕ) (p : Plan) → P p → P (all_entered at xs p)
  kept_entered at [] p k = k
  kept_entered at (x ∷ xs) p k = kept_entered at xs (entered at x p) (kept_fresh c at (Local x) _ p refl k)

  pub kept_left : (at : Place) (xs : List ℕ) (p : Plan) → P p → P (all_left at xs p)
  kept_left at [] p k = k
  kept_left at (x ∷ xs) p k = kept_left at xs (left at x p) (kept_fresh c at (Local x) _ p refl k)

  pub kept_jump : (at : Place) (to : ℕ) (p : Plan) → P p → P (jump at to p)
  kept_jump at to p k = kept_end c at _ _ p refl (tt, tt) k

  -- the way from one scope to another
  kept_way : (s : SettingView) (steps : List ScopeView) (from to : ℕ) (p : Plan) → P p → P (way s steps from to p)
  kept_way s [] from to p k = k
  kept_way s (x ∷ steps) from to p k =
      let inwards = kept_entered s.at (objects s to) (way s steps from (around s to) p) (kept_way s steps from (around s to) p k) in
      let outwards = kept_way s steps (around s from) to (all_left s.at (objects s from) p) (kept_left s.at (objects s from) p k) in
      kept_or c (from == to) p _ k (kept_or c (nat_lt to from) _ _ outwards inwards)

  pub kept_leap : (s : SettingView) (from : ℕ) (to : Landing) (p : Plan) → P p → P (leap s from to p)
  kept_leap s from to p k = kept_jump s.at to.label _ (kept_way s s.scopes.scopes from to.scope p k)

  -- declarations
  kept_start : (at : Place) (object offset : ℕ) (p : Plan) → P p → P (address at object offset p)
  kept_start at object offset p k = kept_fresh c at (Local object) _ p (refl, inr (object, refl)) k

  kept_stored : (at : Place) (object : ℕ) (x : StoreTree) (p : Plan) → P p → P (stored at object x p)
  kept_stored at object (StoreValue offset e) p k = kept_act c at _ _ refl (kept_value c e 1 _ (kept_start at object offset p k))
  kept_stored at object (StoreCopy offset l) p k = kept_act c at _ _ refl (kept_place c l 1 _ (kept_start at object offset p k))
  kept_stored at object (StoreText offset room text) p k = kept_fresh c at (Local object) _ p refl k

  kept_all_stored : (at : Place) (object : ℕ) (xs : List StoreTree) (p : Plan) → P p → P (all_stored at object xs p)
  kept_all_stored at object [] p k = k
  kept_all_stored at object (x ∷ xs) p k = kept_all_stored at object xs (stored at object x p) (kept_stored at object x p k)

  -- parts of selections and loops
  kept_test : (label : ℕ) (e : TermTree) (first second : ℕ) (p : Plan) → P p → P (condition label e first second p)
  kept_test label e first second p k = kept_decision c e _ _ (kept_mark c label p k)

  pub kept_check : (label : ℕ) (test : Option TermTree) (first second : ℕ) (p : Plan) → P p → P (check label test first second p)
  kept_check label None first second p k = kept_mark c label p k
  kept_check label (Some e) first second p k = kept_test label e first second p k

  pub kept_step : (e : Option TermTree) (p : Plan) → P p → P (unused e p)
  kept_step None p k = k
  kept_step (Some e) p k = kept_unused c e 0 p k

  -- returns
  kept_given : (s : SettingView) (at : Place) (e : Option TermTree) (p : Plan) → P p → P (given s at e p)
  kept_given s at None p k = k
  kept_given s at (Some e) p k = kept_or c s.is_entry _ _ (kept_value c e 0 p k) (kept_act c at _ _ refl (kept_value c e 1 _ (kept_fresh c at Outcome _ p (refl, inl refl) k)))

  kept_end_behind : (s : SettingView) (at : Place) (p : Plan) → P p → P (end_behind s at p)
  kept_end_behind s at p k = kept_or c s.is_entry _ _ (kept_end c at _ _ p refl tt k) (kept_jump s.at s.end _ (kept_left s.at s.parameters p k))

  pub kept_return : (s : SettingView) (at : Place) (e : Option TermTree) (around : Surroundings) (p : Plan) → P p → P (giving s at e around p)
  kept_return s at e around p k = kept_end_behind s at _ (kept_way s s.scopes.scopes around.scope 0 (given s at e p) (kept_given s at e p k))

  -- edges of switches
  kept_target : (s : SettingView) (from : ℕ) (to : Landing) (p : Plan) → P p → P (edge_target s from to p).after
  kept_target s from to p k = by_enters (enters_between s from to.scope)
    where
      by_enters : (b : Bool) → P (cond b (targeted p.labels (with_labels 1 p)) (targeted to.label p)).after
      by_enters true = c.labels 1 p k
      by_enters false = k

  kept_arms : (s : SettingView) (from label number : ℕ) (cs : List CaseLabel) (p : Plan) → P p → P (case_arms s from label number cs p).after
  kept_arms s from label number [] p k = k
  kept_arms s from label number (x ∷ cs) p k =
      kept_arms s from (jobs.behind label 1) (jobs.behind number 1) cs (edge_target s from (case_landing s label number) p).after (kept_target s from (case_landing s label number) p k)

  pub kept_block : (s : SettingView) (from to : ℕ) (landing : Landing) (p : Plan) → P p → P (edge_block s from to landing p)
  kept_block s from to landing p k = kept_or c (enters_between s from landing.scope) _ _ (kept_leap s from landing _ (kept_mark c to p k)) k

  pub kept_blocks : (s : SettingView) (from : ℕ) (arms : List CaseArm) (p : Plan) → P p → P (edge_blocks s from arms p)
  kept_blocks s from [] p k = k
  kept_blocks s from (a ∷ arms) p k = kept_blocks s from arms (edge_block s from a.to a.landing p) (kept_block s from a.to a.landing p k)

-- the object that a switch is on
module _ {P : Plan → Type 0} (c : ConditionClosed P) where
  kept_mention_of : (o : NamedObject) (kind : Scalar) (p : Plan) → P p → P (mention_of o kind p).after
  kept_mention_of o (scalar.Int kind) p k = c.name o.object p k
  kept_mention_of o scalar.Pointer p k = k

  pub kept_mention : (o : Option NamedObject) (p : Plan) → P p → P (mention_if o p).after
  kept_mention None p k = k
  kept_mention (Some o) p k = kept_mention_of o o.kind p k

-- a dispatch, and then the blocks of its edges
module _ {P : Plan → Type 0} (c : TermClosed P) where
  pub kept_edges : (s : SettingView) (at : Place) (e : TermTree) (cases : List CaseLabel) (from : ℕ) (b : SwitchBegun) (p : Plan)
      → ((other : ℕ) (q : Plan) → P q → P (ended at (acts.Switch 0 (integer_type (term_type e))) (dispatch_exits (case_arms s from b.dispatch.cases (choice_at s b.choice).first cases p).arms cases (switched_object e q).base other) (with_work (jobs.Value e 0) (switched_object e q).after))) → P p → P (dispatch s at e cases from b p)
  kept_edges s at e cases from b p switched k =
      let first = (choice_at s b.choice).first in
      let landing = other_landing (choice_at s b.choice) b.dispatch b.after in
      let a = case_arms s from b.dispatch.cases first cases p in
      let other = edge_target s from landing a.after in
      let aimed = kept_target c s from landing a.after (kept_arms c s from b.dispatch.cases first cases p k) in
      kept_block c s from other.to landing _ (kept_blocks c s from a.arms _ (switched other.to other.after aimed))

module _ {P : Plan → Type 0} {T : StatementTree → Type 0} {U : StatementTrees → Type 0} {S : TermTree → List CaseLabel → Type 0} (c : StatementClosed P T U S) where
  pub kept_statements : (items : StatementTrees) (around : Surroundings) (p : Plan) → U items → P p → P (all_statements items around p)
  kept_statements tree.NoMore around p is k = k
  kept_statements (tree.And first rest) around p is k =
      let x = c.each (tree.And first rest) is in
      kept_statements rest around (with_work (jobs.Statement first around) p) x.1 (c.statement first around p x.0 k)

  kept_part : (label : ℕ) (body : StatementTree) (around : Surroundings) (p : Plan) → T body → P p → P (part label body around p)
  kept_part label body around p is k = c.statement body around _ is (kept_mark c.terms label p k)

  kept_for : (s : SettingView) (first : ℕ) (xs : List ℕ) (items : StatementTrees) (test after : Option TermTree) (body : StatementTree) (inside : Surroundings) (p : Plan) → U items → T body → P p → P (for_from s first xs items test after body inside p)
  kept_for s first xs items test after body inside p one two k =
      let begins = kept_statements items inside _ one (kept_entered c.terms s.at xs _ (kept_mark c.terms first _ (c.terms.labels 5 p k))) in
      let inner = kept_part (first + 2) body _ _ two (kept_check c.terms (first + 1) test (first + 2) (first + 4) _ begins) in
      let steps = kept_jump c.terms s.at (first + 1) _ (kept_step c.terms after _ (kept_mark c.terms (first + 3) _ inner)) in
      kept_left c.terms s.at xs _ (kept_mark c.terms (first + 4) _ steps)

  kept_dispatch : (s : SettingView) (at : Place) (e : TermTree) (cases : List CaseLabel) (from : ℕ) (b : SwitchBegun) (p : Plan) → S e cases → P p → P (dispatch s at e cases from b p)
  kept_dispatch s at e cases from b p is k = kept_edges c.terms s at e cases from b p (λ other q kq. c.switched s from b.dispatch.cases (choice_at s b.choice).first p at e cases other q is kq) k

  kept_switch : (s : SettingView) (at : Place) (e : TermTree) (cases : List CaseLabel) (body : StatementTree) (around : Surroundings) (p : Plan) → S e cases → T body → P p → P (switch s at e cases body around p)
  kept_switch s at e cases body around p one two k =
      let b = begin_switch (length cases) around.scope p in
      let began : P b.after = c.terms.labels 1 _ (c.dispatch _ _ (c.terms.labels 1 _ (c.terms.labels (length cases) p k))) in
      kept_mark c.terms b.begun.after.label _ (c.statement body _ _ two (kept_dispatch s at e cases around.scope b.begun b.after one began))

  pub kept_statement : (s : SettingView) (i : StatementTree) (around : Surroundings) (p : Plan) → T i → P p → P (statement s i around p)
  kept_statement s (tree.Value e) around p is k = kept_unused c.terms e 0 p k
  kept_statement s tree.Nothing around p is k = k
  kept_statement s (tree.Forget at object) around p is k = kept_fresh c.terms at (Local object) _ p refl k
  kept_statement s (tree.Start at object e) around p is k = kept_stored c.terms at object (StoreValue 0 e) p k
  kept_statement s (tree.StartCopy at object l) around p is k = kept_stored c.terms at object (StoreCopy 0 l) p k
  kept_statement s (tree.StartList at object stores) around p is k = kept_all_stored c.terms at object stores (cleared at object p) (kept_fresh c.terms at (Local object) _ p refl k)
  kept_statement s (tree.Block xs items) around p is k = kept_left c.terms s.at xs _ (kept_statements items _ _ (c.parts (tree.Block xs items) is) (kept_entered c.terms s.at xs _ (c.scope p k)))
  kept_statement s (tree.If e body) around p is k = kept_mark c.terms (p.labels + 2) _ (kept_part (p.labels + 1) body around _ (c.parts (tree.If e body) is) (kept_test c.terms p.labels e _ _ _ (c.terms.labels 3 p k)))
  kept_statement s (tree.IfElse e body other) around p is k =
      let x = c.parts (tree.IfElse e body other) is in
      let first = kept_part (p.labels + 1) body around _ x.0 (kept_test c.terms p.labels e _ _ _ (c.terms.labels 4 p k)) in
      kept_mark c.terms (p.labels + 3) _ (kept_part (p.labels + 2) other around _ x.1 (kept_jump c.terms s.at (p.labels + 3) _ first))
  kept_statement s (tree.While e body) around p is k =
      kept_mark c.terms (p.labels + 2) _ (kept_jump c.terms s.at p.labels _ (kept_part (p.labels + 1) body _ _ (c.parts (tree.While e body) is) (kept_test c.terms p.labels e _ _ _ (c.terms.labels 3 p k))))
  kept_statement s (tree.Do body e) around p is k = kept_mark c.terms (p.labels + 2) _ (kept_test c.terms (p.labels + 1) e _ _ _ (kept_part p.labels body _ _ (c.parts (tree.Do body e) is) (c.terms.labels 3 p k)))
  kept_statement s (tree.For xs first test step body) around p is k =
      let x = c.parts (tree.For xs first test step body) is in
      kept_for s (with_scope p).labels xs first test step body (in_scope around p.scopes) (with_scope p) x.0 x.1 (c.scope p k)
  kept_statement s (tree.Switch at e labels has_default enumerators body) around p is k = let x = c.parts (tree.Switch at e labels has_default enumerators body) is in kept_switch s at e labels body around p x.0 x.1 k
  kept_statement s (tree.Case n body) around p is k = kept_part _ body around p (c.parts (tree.Case n body) is) k
  kept_statement s (tree.Default body) around p is k = kept_part _ body around p (c.parts (tree.Default body) is) k
  kept_statement s (tree.Label n body) around p is k = kept_part n body around p (c.parts (tree.Label n body) is) k
  kept_statement s (tree.Goto n) around p is k = kept_leap c.terms s around.scope _ p k
  kept_statement s tree.Break around p is k = kept_leap c.terms s around.scope around.on_break p k
  kept_statement s tree.Continue around p is k = kept_leap c.terms s around.scope around.on_continue p k
  kept_statement s (tree.Return at e) around p is k = kept_return c.terms s at e around p k
