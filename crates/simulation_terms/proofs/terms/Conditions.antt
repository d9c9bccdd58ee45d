-- Conditions and their ways.
use Rattle.std.proofs.Common.{◌≡◌, ◌≤◌, ◌<◌, ℕ, ℤ, suc, ◌+◌, ◌-◌, ◌^◌, Bool, true, false, List, [], ◌∷◌, ◌++◌, Option, Some, None, refl, arith, ap, sym, subst, ◌∙◌}
use Rattle.cc_base.specs.declared.diagnostics.Place.{Place}
use Rattle.c_layout.specs.CheckedTrees as tree
use Rattle.c_layout.specs.CheckedTrees.{TermTree, Typed}
use Rattle.c_layout.specs.Types.{Ty}
use Rattle.c_layout.specs.declared.syntax_tree.expressions.LogicalOp.{LogicalOp}
use Rattle.c_layout.specs.declared.syntax_tree.expressions.LogicalOp.TheVariants.{And, Or}
use Rattle.lower_templates.specs.Worklist.Pieces.{PieceView, Mark}
use Rattle.lower_templates.specs.Worklist.Plans.{Plan, with_work, with_labels}
use Rattle.lower_templates.specs.Worklist.Settings.{SettingView}
use Rattle.lower_templates.specs.Worklist.TermKinds.{scalar_of, term_at, term_type}
use Rattle.lower_templates.specs.Worklist.Works as jobs
use Rattle.lower_templates.specs.Worklist.Works.{Job, behind}
use Rattle.lower_templates.specs.declared.worklist.pending_works.Decision.{Decision}
use Rattle.lower_templates.specs.declared.worklist.pending_works.Targets.{Targets}
use Rattle.lower_expressions.specs.Branches.{left_targets}
use Rattle.lower_conditions.specs.Conditions as lowered
use Rattle.lower_conditions.specs.Conditions.{ReadView, read_by, flipped, to_targets, read_targets}
use Rattle.lower_conditions.specs.Tests.{opposite_of}
use Rattle.lower_functions.specs.Functions.Turns.{planless}
use Rattle.lower_template_theorems.specs.Growth.Growth.{Grows}
use Rattle.lower_template_theorems.proofs.growth.Growth.{works, grows_not, grows_work}
use Rattle.lower_template_theorems.proofs.growth.GrowingWorks.{planless_grows}
use Rattle.lower_template_theorems.specs.Worklists.Derivations.{parts, Makes}
use Rattle.semantics.specs.SourceMachine.Items as item
use Rattle.semantics.specs.SourceMachine.Items.{Item, Items, items_of, listed}
use Rattle.semantics.specs.SourceMachine.ConditionItems as source
use Rattle.semantics.specs.SourceMachine.TermTests as source_tests
use Rattle.simulation_terms.specs.SimulationRelation.Activations.{Activation}
use Rattle.simulation_terms.specs.SimulationRelation.Simulates as simulates
use Rattle.simulation_terms.specs.SimulationRelation.Simulates.{Leads, Simulates}
use Rattle.simulation_terms.proofs.simulation_relation.Constructions.{gives_choice}
use Rattle.simulation_terms.specs.Worklists.Rooms.{room, room_of_all}
use Rattle.simulation_terms.specs.Worklists.TemplateParts.{IsOfUnit, IsKnown, Stands}
use Rattle.simulation_terms.proofs.worklists.Runs.{opened, then_ends, stands_behind, stands_after}
use Rattle.simulation_terms.proofs.worklists.About.{Fits, Valued, Decided, DecidesFrom, Reads, argument_jobs}
use Rattle.simulation_terms.proofs.worklists.Arguments.{argued_jobs}
use Rattle.simulation_terms.proofs.worklists.Assignments.{one_more_job}
use Rattle.simulation_terms.proofs.terms.Branches.{branching}
use Rattle.simulation_terms.proofs.terms.ConditionTests.{tested_alike}
use Rattle.simulation_terms.proofs.worklists.LineCalls.{reading, condition_read}
use Rattle.simulation_terms.proofs.worklists.Laying.{from_piece, from_work, led, known_between, few_labels}

listed_same : (xs : List Item) → listed (items_of xs) ≡ xs
listed_same [] = refl
listed_same (x ∷ xs) = ap (λ ys. x ∷ ys) (listed_same xs)

-- ---- works

abbrev logical_jobs : LogicalOp → TermTree → TermTree → Decision → ℕ → List Job
logical_jobs sign a b decision l = jobs.Ready (Mark l) ∷ (jobs.Condition a (to_targets decision (left_targets sign decision.targets (l + 1))) ∷ (jobs.Ready (Mark (l + 1)) ∷ (jobs.Condition b decision ∷ [])))

logical_planned : (sign : LogicalOp) (a b : TermTree) (decision : Decision) (p : Plan) → p.jobs ≡ [] → (lowered.logical_condition sign a b decision p).jobs ≡ logical_jobs sign a b decision p.labels
unfolding with_work with_labels
logical_planned sign a b decision p none =
    ap (λ js. (((js ++ jobs.Ready (Mark p.labels) ∷ []) ++ jobs.Condition a (to_targets decision (left_targets sign decision.targets (p.labels + 1))) ∷ []) ++ jobs.Ready (Mark (p.labels + 1)) ∷ []) ++ jobs.Condition b decision ∷ []) none

logical_grows : (sign : LogicalOp) (a b : TermTree) (decision : Decision) (p : Plan) → Grows (with_labels 2 p) (lowered.logical_condition sign a b decision p)
logical_grows sign a b decision p = let start : Grows (with_labels 2 p) (with_labels 2 p) = grows_not (with_labels 2 p) in search works depth 30

choice_grows : (c a b : TermTree) (decision : Decision) (p : Plan) → Grows (with_labels 3 p) (lowered.conditional_condition c a b decision p)
choice_grows c a b decision p = let start : Grows (with_labels 3 p) (with_labels 3 p) = grows_not (with_labels 3 p) in search works depth 30

abbrev choice_jobs : TermTree → TermTree → TermTree → Decision → ℕ → List Job
choice_jobs c a b decision l =
    jobs.Ready (Mark l) ∷ (jobs.Condition c (lowered.tested_or_not (record { yes = l + 1; no = l + 2 }) decision.depth true)
    ∷ (jobs.Ready (Mark (l + 1)) ∷ (jobs.Condition a (lowered.tested_or_not decision.targets decision.depth false) ∷ (jobs.Ready (Mark (l + 2)) ∷ (jobs.Condition b (lowered.tested_or_not decision.targets decision.depth false) ∷ [])))))

choice_planned : (c a b : TermTree) (decision : Decision) (p : Plan) → p.jobs ≡ [] → (lowered.conditional_condition c a b decision p).jobs ≡ choice_jobs c a b decision p.labels
unfolding with_work with_labels
choice_planned c a b decision p none =
    ap (λ js. (((((js ++ jobs.Ready (Mark p.labels) ∷ []) ++ jobs.Condition c (lowered.tested_or_not (record { yes = p.labels + 1; no = p.labels + 2 }) decision.depth true) ∷ [])
    ++ jobs.Ready (Mark (p.labels + 1)) ∷ []) ++ jobs.Condition a (lowered.tested_or_not decision.targets decision.depth false) ∷ []) ++ jobs.Ready (Mark (p.labels + 2)) ∷ []) ++ jobs.Condition b (lowered.tested_or_not decision.targets decision.depth false) ∷ []) none

one_less : (l k : ℕ) → l + 1 < l + 2
one_less l k = omega arith

next_less : (l : ℕ) → l + 1 < l + 3
next_less l = omega arith

two_less : (l : ℕ) → l + 2 < l + 3
two_less l = omega arith

itself : (l : ℕ) → l ≤ l
itself l = omega arith

fewer : (d k m : ℕ) → m ≤ k → Fits d k → Fits d m
fewer d k m le enough = omega (arith, le, enough)

-- the items of `&&` and `||`
abbrev logical_items : Activation → LogicalOp → TermTree → TermTree → Bool → List Item → List Item → List Item
logical_items t And a b is_test held failed = source.condition t.unit is_test a (source.condition t.unit is_test b held failed) failed
logical_items t Or a b is_test held failed = source.condition t.unit is_test a held (source.condition t.unit is_test b held failed)

module _ (s : SettingView) (t : Activation) (fits : IsOfUnit t s) (n : ℕ) where
  -- from the parts of a condition to the condition
  pub decided_by : (e : TermTree) (decision : Decision) → ((p : Plan) → p.jobs ≡ [] → DecidesFrom s t n (planless (parts s (jobs.Condition e decision) p)) (parts s (jobs.Condition e decision) p).jobs decision (source.condition t.unit decision.is_test e)) → Decided s t n e decision
  decided_by e decision inner p none ps r m known held failed items rest on_yes on_no stands to_yes to_no f g =
      inner p none ps r (opened s p (jobs.Condition e decision) ps r refl m) known held failed items rest on_yes on_no stands to_yes to_no f g

  -- ---- `!`

  pub negated : (at : Place) (ctype : Ty) (parens : ℕ) (constant : Option ℤ) (a : TermTree) (decision : Decision) → Decided s t n a (to_targets decision (flipped decision.targets)) → Decided s t n (Typed at ctype parens constant (tree.Not a)) decision
  negated at ctype parens constant a decision inner = decided_by (Typed at ctype parens constant (tree.Not a)) decision
      (λ p none ps r m known held failed items rest on_yes on_no stands to_yes to_no f g.
      let q = planless (parts s (jobs.Condition (Typed at ctype parens constant (tree.Not a)) decision) p) in
      inner q refl ps r (subst (λ js. Makes s q js ps r) (one_more_job [] (jobs.Condition a (to_targets decision (flipped decision.targets))) p none) m) known failed held items rest on_no on_yes stands to_no to_yes g f)

  -- ---- `&&` and `||`

  left_of : (sign : LogicalOp) (a b : TermTree) (decision : Decision) (right : ℕ) → Decided s t n a (to_targets decision (left_targets sign decision.targets right)) → (p : Plan) → p.jobs ≡ [] → (front : List PieceView) (between : Plan) → Makes s p (jobs.Condition a (to_targets decision (left_targets sign decision.targets right)) ∷ []) front between → IsKnown t between
      → (held failed items : List Item) (w on_right on_yes on_no : List PieceView) → Stands t (front ++ w) → Leads t right on_right → Leads t decision.targets.yes on_yes → Leads t decision.targets.no on_no
      → Simulates t n decision.depth (source.condition t.unit decision.is_test b held failed ++ items) on_right → Simulates t n decision.depth (held ++ items) on_yes → Simulates t n decision.depth (failed ++ items) on_no
      → Simulates t n decision.depth (logical_items t sign a b decision.is_test held failed ++ items) (front ++ w)
  left_of And a b decision right first p none front between m known held failed items w on_right on_yes on_no stands to_right to_yes to_no h f g =
      first p none front between m known (source.condition t.unit decision.is_test b held failed) failed items w on_right on_no stands to_right to_no h g
  left_of Or a b decision right first p none front between m known held failed items w on_right on_yes on_no stands to_right to_yes to_no h f g =
      first p none front between m known held (source.condition t.unit decision.is_test b held failed) items w on_yes on_right stands to_yes to_right f h

  logical_from : (sign : LogicalOp) (a b : TermTree) (decision : Decision) (l : ℕ) (p : Plan) → p.jobs ≡ [] → l + 2 ≤ 2 ^ 32 - 1 → Decided s t n a (to_targets decision (left_targets sign decision.targets (l + 1))) → Decided s t n b decision
      → DecidesFrom s t n p (logical_jobs sign a b decision l) decision (logical_items t sign a b decision.is_test)
  logical_from sign a b decision l p none few first second ps r m known held failed items rest on_yes on_no stands to_yes to_no f g =
      let G : List PieceView → Type 0 = λ w. Stands t w → Simulates t n decision.depth (logical_items t sign a b decision.is_test held failed ++ items) w in
      let left = to_targets decision (left_targets sign decision.targets (l + 1)) in
      from_piece s r rest p (Mark l) _ ps G m
      (λ b1 m1. from_work s r rest p (jobs.Condition a left) _ b1 (λ w. G (Mark l ∷ w)) none m1
      (λ fa pa b2 ma none_a m2. from_piece s r rest pa (Mark (l + 1)) _ b2 (λ w. G (Mark l ∷ (fa ++ w))) m2
      (λ fb mb stands.
      let at_a = stands_after t (Mark l) (fa ++ Mark (l + 1) ∷ (fb ++ rest)) stands in
      let at_right = stands_behind t fa (Mark (l + 1) ∷ (fb ++ rest)) at_a in
      let at_b = stands_after t (Mark (l + 1)) (fb ++ rest) at_right in
      let to_right = led s t fits (l + 1) (l + 2) (l + 2) (fb ++ rest) (one_less l 0) (itself (l + 2)) few at_right in
      let right = second pa none_a fb r mb known held failed items rest on_yes on_no at_b to_yes to_no f g in
      simulates.by_mark n decision.depth l _ _
      (left_of sign a b decision (l + 1) first p none fa pa ma (known_between s t pa _ _ r m2 known) held failed items (Mark (l + 1) ∷ (fb ++ rest)) (fb ++ rest) on_yes on_no at_a to_right to_yes to_no right f g)))) stands

  pub logical_decided : (at : Place) (ctype : Ty) (parens : ℕ) (constant : Option ℤ) (sign : LogicalOp) (a b : TermTree) (decision : Decision) → ((l : ℕ) → Decided s t n a (to_targets decision (left_targets sign decision.targets l))) → Decided s t n b decision → Decided s t n (Typed at ctype parens constant (tree.Logical sign a b)) decision
  logical_decided at ctype parens constant sign a b decision first second = decided_by e decision
      (λ p none ps r m known. by sign p none ps r m known first)
    where
      e : TermTree
      e = Typed at ctype parens constant (tree.Logical sign a b)

      by : (sign : LogicalOp) (p : Plan) → p.jobs ≡ [] → (ps : List PieceView) (r : Plan) → Makes s (planless (lowered.logical_condition sign a b decision p)) (lowered.logical_condition sign a b decision p).jobs ps r → IsKnown t r
          → ((l : ℕ) → Decided s t n a (to_targets decision (left_targets sign decision.targets l)))
          → (held failed items : List Item) (rest on_yes on_no : List PieceView) → Stands t (ps ++ rest) → Leads t decision.targets.yes on_yes → Leads t decision.targets.no on_no → Simulates t n decision.depth (held ++ items) on_yes → Simulates t n decision.depth (failed ++ items) on_no
          → Simulates t n decision.depth (source.condition t.unit decision.is_test (Typed at ctype parens constant (tree.Logical sign a b)) held failed ++ items) (ps ++ rest)
      by And p none ps r m known first =
          let few = few_labels s t p (jobs.Condition (Typed at ctype parens constant (tree.Logical And a b)) decision) 2 _ ps r (logical_grows And a b decision p) m known in
          logical_from And a b decision p.labels (planless (lowered.logical_condition And a b decision p)) refl few (first (p.labels + 1)) second ps r (subst (λ js. Makes s (planless (lowered.logical_condition And a b decision p)) js ps r) (logical_planned And a b decision p none) m) known
      by Or p none ps r m known first =
          let few = few_labels s t p (jobs.Condition (Typed at ctype parens constant (tree.Logical Or a b)) decision) 2 _ ps r (logical_grows Or a b decision p) m known in
          logical_from Or a b decision p.labels (planless (lowered.logical_condition Or a b decision p)) refl few (first (p.labels + 1)) second ps r (subst (λ js. Makes s (planless (lowered.logical_condition Or a b decision p)) js ps r) (logical_planned Or a b decision p none) m) known

  -- ---- `?:`

  abbrev arms : Decision → Decision
  arms decision = lowered.tested_or_not decision.targets decision.depth false

  choice_from : (c a b : TermTree) (decision : Decision) (l : ℕ) (p : Plan) → p.jobs ≡ [] → l + 3 ≤ 2 ^ 32 - 1 → Decided s t n c (lowered.tested_or_not (record { yes = l + 1; no = l + 2 }) decision.depth true) → Decided s t n a (arms decision) → Decided s t n b (arms decision)
      → DecidesFrom s t n p (choice_jobs c a b decision l) decision (λ held failed. source.condition t.unit true c (source.condition t.unit false a held failed) (source.condition t.unit false b held failed))
  choice_from c a b decision l p none few decides first second ps r m known held failed items rest on_yes on_no stands to_yes to_no f g =
      let dc = lowered.tested_or_not (record { yes = l + 1; no = l + 2 }) decision.depth true in
      let hit = source.condition t.unit false a held failed in
      let miss = source.condition t.unit false b held failed in
      let G : List PieceView → Type 0 = λ w. Stands t w → Simulates t n decision.depth (source.condition t.unit true c hit miss ++ items) w in
      from_piece s r rest p (Mark l) _ ps G m
      (λ b1 m1. from_work s r rest p (jobs.Condition c dc) _ b1 (λ w. G (Mark l ∷ w)) none m1
      (λ fc pc b2 mc none_c m2. from_piece s r rest pc (Mark (l + 1)) _ b2 (λ w. G (Mark l ∷ (fc ++ w))) m2
      (λ b3 m3. from_work s r rest pc (jobs.Condition a (arms decision)) _ b3 (λ w. G (Mark l ∷ (fc ++ Mark (l + 1) ∷ w))) none_c m3
      (λ fa pa b4 ma none_a m4. from_piece s r rest pa (Mark (l + 2)) _ b4 (λ w. G (Mark l ∷ (fc ++ Mark (l + 1) ∷ (fa ++ w)))) m4
      (λ fb mb stands.
      let at_c = stands_after t (Mark l) (fc ++ Mark (l + 1) ∷ (fa ++ Mark (l + 2) ∷ (fb ++ rest))) stands in
      let at_hit = stands_behind t fc (Mark (l + 1) ∷ (fa ++ Mark (l + 2) ∷ (fb ++ rest))) at_c in
      let at_a = stands_after t (Mark (l + 1)) (fa ++ Mark (l + 2) ∷ (fb ++ rest)) at_hit in
      let at_miss = stands_behind t fa (Mark (l + 2) ∷ (fb ++ rest)) at_a in
      let at_b = stands_after t (Mark (l + 2)) (fb ++ rest) at_miss in
      let to_hit = led s t fits (l + 1) (l + 3) (l + 3) (fa ++ Mark (l + 2) ∷ (fb ++ rest)) (next_less l) (itself (l + 3)) few at_hit in
      let to_miss = led s t fits (l + 2) (l + 3) (l + 3) (fb ++ rest) (two_less l) (itself (l + 3)) few at_miss in
      let on_miss = second pa none_a fb r mb known held failed items rest on_yes on_no at_b to_yes to_no f g in
      let on_hit = first pc none_c fa pa ma (known_between s t pa _ _ r m4 known) held failed items (Mark (l + 2) ∷ (fb ++ rest)) on_yes on_no at_a to_yes to_no f g in
      simulates.by_mark n decision.depth l _ _
      (decides p none fc pc mc (known_between s t pc _ _ r m2 known) hit miss items (Mark (l + 1) ∷ (fa ++ Mark (l + 2) ∷ (fb ++ rest))) (fa ++ Mark (l + 2) ∷ (fb ++ rest)) (fb ++ rest) at_c to_hit to_miss on_hit on_miss)))))) stands

  pub choice_decided : (at : Place) (ctype : Ty) (parens : ℕ) (constant : Option ℤ) (c a b : TermTree) (decision : Decision) → ((targets : Targets) → Decided s t n c (lowered.tested_or_not targets decision.depth true)) → Decided s t n a (arms decision) → Decided s t n b (arms decision) → Decided s t n (Typed at ctype parens constant (tree.Conditional c a b)) decision
  choice_decided at ctype parens constant c a b decision decides first second = decided_by (Typed at ctype parens constant (tree.Conditional c a b)) decision
      (λ p none ps r m known.
      let few = few_labels s t p (jobs.Condition (Typed at ctype parens constant (tree.Conditional c a b)) decision) 3 _ ps r (choice_grows c a b decision p) m known in
      choice_from c a b decision p.labels (planless (lowered.conditional_condition c a b decision p)) refl few (decides (record { yes = p.labels + 1; no = p.labels + 2 })) first second ps r (subst (λ js. Makes s (planless (lowered.conditional_condition c a b decision p)) js ps r) (choice_planned c a b decision p none) m) known)

  -- ---- any other term

  -- its value is tested
  tested : (e : TermTree) (decision : Decision) → Valued s t n e decision.depth → (p : Plan) → p.jobs ≡ [] → DecidesFrom s t n (planless (lowered.plain_condition s e decision p)) (lowered.plain_condition s e decision p).jobs decision (λ held failed. source.leaf_by t.unit decision.is_test e None (items_of held) (items_of failed))
  tested e decision value p none ps r m known held failed items rest on_yes on_no stands to_yes to_no f g =
      let d = decision.depth in
      let found = lowered.test_if s e decision.is_test p in
      let same = tested_alike s t fits e decision.is_test p in
      let q = branching e d decision.targets (lowered.known_by found.test) in
      let all = lowered.plain_condition s e decision p in
      let js : List Job = jobs.Value e d ∷ (jobs.Ready q ∷ []) in
      let is : all.jobs ≡ js = one_more_job (jobs.Value e d ∷ []) (jobs.Ready q) (with_work (jobs.Value e d) found.after) (one_more_job [] (jobs.Value e d) found.after (same.jobs ∙ none)) in
      let made = subst (λ js. Makes s (planless all) js ps r) is m in
      let grown = planless_grows found.after all (grows_work (jobs.Ready q) (with_work (jobs.Value e d) found.after) (grows_work (jobs.Value e d) found.after (grows_not found.after))) in
      let tests = same.tests (planless all) grown (known_between s t (planless all) js ps r made known) in
      then_ends s t n (jobs.Value e d ∷ []) (item.Value e ∷ []) d (suc d) (planless all) refl (value.from (planless all) refl) q ps r made known (item.Choose (term_at e) (source_tests.test_if t.unit decision.is_test e) (items_of held) (items_of failed) ∷ items) rest stands
      (λ w. gives_choice n d decision.targets.yes decision.targets.no (term_at e) (scalar_of (term_type e)) (source_tests.test_if t.unit decision.is_test e) found.test (opposite_of found.test) (items_of held) (items_of failed) items w on_yes on_no tests to_yes to_no
      (subst (λ xs. Simulates t n d (xs ++ items) on_yes) (sym (listed_same held)) f) (subst (λ xs. Simulates t n d (xs ++ items) on_no) (sym (listed_same failed)) g))

  -- a line is read
  line_tested : (c : lowered.LineCallView) (wants : Bool) (k : ℕ) (decision : Decision) → Reads s t n c.arguments k → Fits decision.depth k → (p : Plan) → p.jobs ≡ []
      → DecidesFrom s t n (planless (lowered.read_condition (record { call = c; wants_line = wants }) decision p)) (lowered.read_condition (record { call = c; wants_line = wants }) decision p).jobs decision (λ held failed. source.line_items (record { call = c; wants_line = wants }) wants (items_of held) (items_of failed))
  line_tested c true k decision reads enough p none ps r m known held failed items rest on_yes on_no stands to_yes to_no f g =
      let d = decision.depth in
      let q = reading c.at None d (behind d 1) (behind d 2) decision.targets.no decision.targets.yes in
      let all = lowered.read_condition (record { call = c; wants_line = true }) decision p in
      let made = subst (λ js. Makes s (planless all) js ps r) (ap (λ js. js) (one_more_job (argument_jobs c.arguments d) (jobs.Ready q) _ (argued_jobs c.arguments d [] p none))) m in
      condition_read s t fits n c.at c.arguments d k decision.targets.no decision.targets.yes (planless all) refl reads.three reads.few enough (reads.runs d (fewer d k (room_of_all c.arguments) reads.few enough)) (items_of failed) (items_of held) ps r made known items rest on_no on_yes stands to_no to_yes
      (subst (λ xs. Simulates t n d (xs ++ items) on_no) (sym (listed_same failed)) g) (subst (λ xs. Simulates t n d (xs ++ items) on_yes) (sym (listed_same held)) f)
  line_tested c false k decision reads enough p none ps r m known held failed items rest on_yes on_no stands to_yes to_no f g =
      let d = decision.depth in
      let q = reading c.at None d (behind d 1) (behind d 2) decision.targets.yes decision.targets.no in
      let all = lowered.read_condition (record { call = c; wants_line = false }) decision p in
      let made = subst (λ js. Makes s (planless all) js ps r) (one_more_job (argument_jobs c.arguments d) (jobs.Ready q) _ (argued_jobs c.arguments d [] p none)) m in
      condition_read s t fits n c.at c.arguments d k decision.targets.yes decision.targets.no (planless all) refl reads.three reads.few enough (reads.runs d (fewer d k (room_of_all c.arguments) reads.few enough)) (items_of held) (items_of failed) ps r made known items rest on_yes on_no stands to_yes to_no
      (subst (λ xs. Simulates t n d (xs ++ items) on_yes) (sym (listed_same held)) f) (subst (λ xs. Simulates t n d (xs ++ items) on_no) (sym (listed_same failed)) g)

  leaf_by : (e : TermTree) (decision : Decision) → Fits decision.depth (room e) → (o : Option ReadView) → (o ≡ None → Valued s t n e decision.depth) → ((x : ReadView) → o ≡ Some x → Reads s t n x.call.arguments (room e)) → (p : Plan) → p.jobs ≡ []
      → DecidesFrom s t n (planless (lowered.leaf_of s e decision o p)) (lowered.leaf_of s e decision o p).jobs decision (λ held failed. source.leaf_by t.unit decision.is_test e o (items_of held) (items_of failed))
  leaf_by e decision enough None value reads p none = tested e decision (value refl) p none
  leaf_by e decision enough (Some x) value reads p none = line_tested x.call x.wants_line (room e) decision (reads x refl) enough p none

  pub leaf_decided : (e : TermTree) (decision : Decision) → ((p : Plan) → lowered.condition s e decision p ≡ lowered.leaf_condition s e decision p) → ((held failed : List Item) → source.condition t.unit decision.is_test e held failed ≡ source.leaf t.unit decision.is_test e held failed) → Fits decision.depth (room e)
      → (read_by e ≡ None → Valued s t n e decision.depth) → ((x : ReadView) → read_by e ≡ Some x → Reads s t n x.call.arguments (room e)) → Decided s t n e decision
  leaf_decided e decision same_works same_items enough value reads = decided_by e decision
      (λ p none ps r m known held failed items rest on_yes on_no stands to_yes to_no f g.
      subst (λ xs. Simulates t n decision.depth (xs ++ items) (ps ++ rest)) (sym (same_items held failed))
      (leaf_by e decision enough (read_by e) value reads p none ps r (subst (λ q. Makes s (planless q) q.jobs ps r) (same_works p) m) known held failed items rest on_yes on_no stands to_yes to_no f g))
