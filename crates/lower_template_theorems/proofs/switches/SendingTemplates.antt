-- A template switches on what its function does.
use Rattle.std.proofs.Common.{◌≡◌, ℕ, Bool, List, [], ◌∷◌, ◌++◌, length, Option, Some, None, slice_get, refl, sym, subst}
use Rattle.std.proofs.lemmas.Option.{same_Some}
use Rattle.cc_base.specs.declared.diagnostics.Place.{Place}
use Rattle.c_layout.specs.CheckedTrees as tree
use Rattle.c_layout.specs.CheckedTrees.{TermTree, StatementTree, StatementTrees, statement_trees}
use Rattle.c_layout.specs.CheckedUnits.{FunctionView}
use Rattle.c_layout.specs.StructViews.{StructView}
use Rattle.c_layout.specs.declared.checked_tree.checked_statements.CaseLabel.{CaseLabel}
use Rattle.cfg.specs.declared.machine_instructions.Scalar.{Scalar}
use Rattle.cfg.specs.declared.machine_instructions.Scalar.TheVariants as scalar
use Rattle.lower_conditions.specs.Tests.{named}
use Rattle.lower_conditions.specs.declared.branch_tests.NamedObject.{NamedObject}
use Rattle.lower_templates.specs.Worklist.Acts as acts
use Rattle.lower_templates.specs.Worklist.Pieces.{NameView, Other, ExitView, PieceView, End, TemplateView}
use Rattle.lower_templates.specs.Worklist.TermKinds.{integer_type, term_type}
use Rattle.lower_templates.specs.Worklist.Works as jobs
use Rattle.lower_templates.specs.Worklist.Plans.{Plan, with_work, with_name, name_of_object, ended}
use Rattle.lower_functions.specs.Functions.Functions.{IsTemplate}
use Rattle.lower_functions.specs.Statements.Switches.{Mentioned, mention_of, mention_if, switched_object, values, case_exits, dispatch_exits}
use Rattle.lower_functions.specs.declared.statements.switch_statements.CaseArm.{CaseArm}
use Rattle.lower_functions.proofs.PlanClosures.{OnParts, OnEach}
use Rattle.lower_functions.proofs.TermPlans.{kept_value}
use Rattle.lower_functions.proofs.StatementPlans.{kept_mention}
use Rattle.lower_functions.proofs.PlannedWorks.{IsPlanned, such_work, such_terms, such_conditions, such_statements, such_loaded}
use Rattle.lower_template_theorems.specs.Switches.SwitchedTrees.{IsSuchKind, IsSuchObject, IsCaseOf, AreCasesOf, IsPieceOf, ArePiecesOf, SwitchesStatement, SwitchesStatements}
use Rattle.lower_template_theorems.proofs.growth.NameTables.{there_last}
use Rattle.lower_template_theorems.proofs.growth.PlannedPieces.{AllSuch, template_such}
use Rattle.lower_template_theorems.proofs.switches.SendingPieces.{sending}

-- a base that is mentioned is there, and such
abbrev IsMentioned : (NameView → Type 0) → Mentioned → Type 0
IsMentioned R found = (n : ℕ) → found.base ≡ Some n → (x : NameView) × (slice_get found.after.names n ≡ Some x) × R x

last_name : (x : NameView) (p : Plan) → slice_get (with_name x p).names (length p.names) ≡ Some x
unfolding with_name
last_name x p = there_last p.names x

no_number : (k : ℕ) → (let o : Option ℕ = None in o) ≡ Some k → ⊥
no_number k e = cc

such_mention_of : {R : NameView → Type 0} (o : NamedObject) (kind : Scalar) (p : Plan) → IsSuchKind R o kind → IsMentioned R (mention_of o kind p)
such_mention_of {R = R} o (scalar.Int kind) p is = λ n e. (let x = name_of_object o.object in (x, subst (λ k. slice_get (with_name x p).names k ≡ Some x) (same_Some (length p.names) n e) (last_name x p), is))
such_mention_of o scalar.Pointer p is = λ n e. absurd (no_number n e)

such_mention : {R : NameView → Type 0} (o : Option NamedObject) (p : Plan) → IsSuchObject R o → IsMentioned R (mention_if o p)
such_mention None p is = λ n e. absurd (no_number n e)
such_mention (Some o) p is = such_mention_of o o.kind p is

module _ (R : NameView → Type 0) where
  -- the edges of a switch
  case_exits_of : (names : List NameView) (object : Option ℕ) (other : ExitView) (arms : List CaseArm) → ((n : ℕ) → object ≡ Some n → (x : NameView) × (slice_get names n ≡ Some x) × R x) → IsCaseOf R names other.taken → AreCasesOf R names (case_exits arms object ++ other ∷ [])
  case_exits_of names object other [] such last = (last, tt)
  case_exits_of names object other (a ∷ arms) such last = (such, case_exits_of names object other arms such last)

same_names : (j : jobs.Job) (p : Plan) → (with_work j p).names ≡ p.names
unfolding with_work
same_names j p = refl

module _ (R : NameView → Type 0) where
  sends_switched : (at : Place) (e : TermTree) (cases : List CaseLabel) (arms : List CaseArm) (other : ℕ) (p : Plan) → IsSuchObject R (named e) → IsPlanned (SwitchesStatement R) (IsPieceOf R) p
      → IsPlanned (SwitchesStatement R) (IsPieceOf R) (ended at (acts.Switch 0 (integer_type (term_type e))) (dispatch_exits arms cases (switched_object e p).base other) (with_work (jobs.Value e 0) (switched_object e p).after))
  sends_switched at e cases arms other p is known =
      let found = switched_object e p in
      let exits = dispatch_exits arms cases found.base other in
      let cased = case_exits_of R found.after.names found.base (record { to = other; taken = Other (values cases) }) arms (such_mention (named e) p is) tt in
      such_work (jobs.Ready (End (record { at = at; does = acts.Switch 0 (integer_type (term_type e)) }) exits)) (with_work (jobs.Value e 0) found.after) (subst (λ names. AreCasesOf R names exits) (sym (same_names (jobs.Value e 0) found.after)) cased)
      (kept_value (such_terms (SwitchesStatement R) (sending R)) e 0 found.after (kept_mention (such_conditions (SwitchesStatement R) (sending R)) (named e) p known))

  parts_switch : (i : StatementTree) → SwitchesStatement R i → OnParts (SwitchesStatement R) (SwitchesStatements R) (λ e cases. IsSuchObject R (named e)) i
  parts_switch (tree.Block objects items) is = is
  parts_switch (tree.If e body) is = is
  parts_switch (tree.IfElse e first second) is = is
  parts_switch (tree.While e body) is = is
  parts_switch (tree.Do body e) is = is
  parts_switch (tree.For objects first e step body) is = is
  parts_switch (tree.Switch at e labels has_default values body) is = is
  parts_switch (tree.Case n body) is = is
  parts_switch (tree.Default body) is = is
  parts_switch (tree.Label n body) is = is
  parts_switch other is = tt

  each_switches : (items : StatementTrees) → SwitchesStatements R items → OnEach (SwitchesStatement R) (SwitchesStatements R) items
  each_switches tree.NoMore is = tt
  each_switches (tree.And first rest) is = is

  all_pieces_of : (names : List NameView) (ps : List PieceView) → AllSuch (IsPieceOf R) names ps → ArePiecesOf R names ps
  all_pieces_of names [] is = tt
  all_pieces_of names (p ∷ ps) (one, is) = (one, all_pieces_of names ps is)

  pub cases_of_template : (structs : List StructView) (pointer int_bytes : ℕ) (f : FunctionView) (is_entry : Bool) (t : TemplateView) → IsTemplate structs pointer int_bytes f is_entry t → SwitchesStatements R (statement_trees f.body) → ArePiecesOf R t.names t.pieces
  cases_of_template structs pointer int_bytes f is_entry t is such =
      let closed = such_statements (SwitchesStatement R) (sending R) parts_switch each_switches (λ s from label number q at e cases other p is k. sends_switched at e cases _ other p is k) in
      let loaded = such_loaded (SwitchesStatement R) (sending R) (λ names at n. tt) (λ names at kind. tt) in
      all_pieces_of t.names t.pieces (template_such (sending R) closed loaded structs pointer int_bytes f is_entry t is such)
