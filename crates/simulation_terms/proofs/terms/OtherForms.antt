-- The forms that branch, assign or call, from what is proved of their parts.
use Rattle.std.proofs.Common.{◌≡◌, ◌≤◌, ℕ, ℤ, suc, ◌+◌, ◌-◌, ◌^◌, Bool, true, false, cond, List, [], ◌∷◌, ◌++◌, length, Option, Some, None, slice_get, refl, arith, ap, sym, subst, ◌∙◌, append_assoc}
use Rattle.cc_base.specs.declared.diagnostics.Place.{Place}
use Rattle.cc_base.specs.declared.int_types.IntType.{IntType}
use Rattle.cc_base.specs.declared.integer_operators.IntOp.{IntOp}
use Rattle.c_layout.specs.Types.{Ty, same_kind}
use Rattle.c_layout.specs.CheckedTrees as tree
use Rattle.c_layout.specs.CheckedTrees.{TermTree, TermTrees, Typed, LvalueTree}
use Rattle.c_layout.specs.declared.library_functions.LibFn.{LibFn}
use Rattle.c_layout.specs.declared.library_functions.LibFn.TheVariants.{Fgets}
use Rattle.c_layout.specs.declared.syntax_tree.expressions.BinaryOp.{BinaryOp}
use Rattle.c_layout.specs.declared.syntax_tree.expressions.StepOp.{StepOp}
use Rattle.c_layout.specs.declared.syntax_tree.expressions.LogicalOp.{LogicalOp}
use Rattle.c_layout.specs.declared.checked_tree.checked_terms.StepTime.{StepTime}
use Rattle.c_layout.specs.declared.checked_tree.checked_terms.StepTime.TheVariants.{Prefix, Postfix}
use Rattle.cfg.specs.declared.machine_instructions.Amount.TheVariants.{Temp, One}
use Rattle.cfg.specs.declared.machine_instructions.Scalar.TheVariants as scalar
use Rattle.lower_templates.specs.Worklist.Acts as act
use Rattle.lower_templates.specs.Worklist.Pieces.{PieceView, Mark, Call}
use Rattle.lower_templates.specs.Worklist.Plans.{Plan, with_labels}
use Rattle.lower_templates.specs.Worklist.Settings.{SettingView}
use Rattle.lower_templates.specs.Worklist.TermKinds.{meaning, scalar_of, integer_type, term_type, lvalue_at, lvalue_type, step_operator, is_backward}
use Rattle.lower_templates.specs.Worklist.Works as jobs
use Rattle.lower_templates.specs.Worklist.Works.{Job, behind}
use Rattle.lower_templates.specs.declared.worklist.pending_works.Targets.{Targets}
use Rattle.lower_expressions.specs.Assignments as assigning
use Rattle.lower_expressions.specs.Assignments.{number_operator}
use Rattle.lower_expressions.specs.Branches as branching
use Rattle.lower_expressions.specs.Branches.{left_targets}
use Rattle.lower_expressions.specs.Calls as calls
use Rattle.lower_expressions.specs.Calls.{gives, reads_line, argued}
use Rattle.lower_conditions.specs.Conditions as lowered
use Rattle.lower_conditions.specs.Conditions.{LineCallView, ReadView, line_call, read_by, read_test, line_call_of, to_targets, flipped}
use Rattle.lower_functions.specs.Functions.Turns.{planless}
use Rattle.lower_template_theorems.specs.Growth.Growth.{Grows}
use Rattle.lower_template_theorems.proofs.growth.Growth.{works, grows_not}
use Rattle.lower_template_theorems.proofs.growth.GrowingTerms.{grows_argued}
use Rattle.lower_template_theorems.specs.Worklists.Derivations.{parts, Makes}
use Rattle.semantics.specs.SourceMachine.Items as item
use Rattle.semantics.specs.SourceMachine.Items.{Item}
use Rattle.semantics.specs.SourceMachine.Operations as op
use Rattle.semantics.specs.SourceMachine.TermItems.{arguments, argument_count}
use Rattle.semantics.specs.SourceMachine.TermItems as operands
use Rattle.semantics.specs.SourceMachine.ConditionItems as source
use Rattle.semantics.specs.SourceMachine.ConditionItems.{term_items}
use Rattle.simulation_terms.specs.Instructions.Acts as acts
use Rattle.simulation_terms.specs.SimulationRelation.Activations.{Activation}
use Rattle.simulation_terms.specs.SimulationRelation.Simulates.{at_place, Simulates, CallsThere, behind_own, pieces}
use Rattle.simulation_terms.proofs.simulation_relation.Constructions.{gives_value, gives_unused, gives_drop, gives_own_call}
use Rattle.simulation_terms.specs.Worklists.Rooms.{room, room_of_place, room_of_all, larger, both_rooms}
use Rattle.simulation_terms.specs.Worklists.SuitedTerms.{Suits, SuitAll, IsOwnCall}
use Rattle.simulation_terms.specs.Worklists.TemplateParts.{IsOfUnit, Stands}
use Rattle.simulation_terms.proofs.worklists.Runs.{Runs, RunsFrom, then, piece_stands, dropped, unfolds, two_jobs, three_jobs}
use Rattle.simulation_terms.proofs.worklists.About.{Fits, Valued, Addressed, Decided, Reads, About, AboutPlace, AboutAll, valued, done, argument_jobs}
use Rattle.simulation_terms.proofs.worklists.Operators.{first_fits, second_fits, next_fits, one_fits, other_fits, one_operand}
use Rattle.simulation_terms.proofs.worklists.Assignments.{conversion_jobs, one_more_job, converted_jobs, in_order, assigns, assigns_only, compound_jobs, compounds, compounds_only, compound_shifts, compound_shifts_only}
use Rattle.simulation_terms.proofs.worklists.Steps.{step_jobs, steps, steps_only, steps_behind, pointer_steps, pointer_steps_only, pointer_steps_behind}
use Rattle.simulation_terms.proofs.worklists.Arguments.{argued_jobs, left, calls_of, sites}
use Rattle.simulation_terms.proofs.worklists.LineCalls.{reading, line_jobs, value_read}
use Rattle.simulation_terms.proofs.terms.Branches.{logical_jobs, logical_planned, logical_runs}
use Rattle.simulation_terms.proofs.terms.Choices.{behind_arm, conditional_jobs, conditional_planned, conditional_runs}
use Rattle.simulation_terms.proofs.terms.Conditions.{negated, logical_decided, choice_decided, leaf_decided}
use Rattle.simulation_terms.proofs.worklists.Laying.{few_labels}
use Rattle.simulation_terms.proofs.terms.PlainForms.{plain, some_none, some_same, read_from}

-- ---- temporaries

two_fit : (d k : ℕ) → Fits d (larger 2 k) → suc (suc d) ≡ behind d 2
two_fit d k enough = omega (arith, enough)

one_fit : (d k : ℕ) → Fits d (larger 2 k) → suc d ≡ behind d 1
one_fit d k enough = omega (arith, enough)

next_of_next : (d k : ℕ) → Fits d (larger 2 k) → suc (suc d) ≡ behind (behind d 1) 1
next_of_next d k enough = omega (arith, enough)

itself : (k : ℕ) → k ≤ k
itself k = omega arith

-- ---- what grows

logical_grows : (sign : LogicalOp) (a b : TermTree) (d : ℕ) (p : Plan) → Grows (with_labels 3 p) (branching.logical sign a b d p)
logical_grows sign a b d p = let start : Grows (with_labels 3 p) (with_labels 3 p) = grows_not (with_labels 3 p) in search works depth 30

conditional_grows : (s : SettingView) (c a b : TermTree) (d : ℕ) (used : Bool) (p : Plan) → Grows (with_labels 4 p) (branching.conditional s c a b d used p)
conditional_grows s c a b d used p = let start : Grows (with_labels 4 p) (with_labels 4 p) = grows_not (with_labels 4 p) in search works depth 30

line_grows : (at : Place) (args : TermTrees) (d : ℕ) (p : Plan) → Grows (with_labels 1 p) (calls.line_value at args d p)
line_grows at args d p = let start : Grows (with_labels 1 p) (with_labels 1 p) = grows_not (with_labels 1 p) in search (works, grows_argued) depth 30

-- ---- plans of compound assignments

compound_planned : (at : Place) (sign : IntOp) (own kind : IntType) (l : LvalueTree) (a : TermTree) (d : ℕ) (kept : Option (ℕ × ℕ)) (p : Plan) → p.jobs ≡ []
    → (assigning.stored (lvalue_at l) d (behind d 1) (scalar.Int own) kept (assigning.computed at sign own kind d (assigning.old_value l a d (scalar.Int own) p))).jobs ≡ compound_jobs l a at (lvalue_at l) own kind sign kept (same_kind own kind) (same_kind kind own) d (behind d 1) (behind d 2)
compound_planned at sign own kind l a d kept p none =
    let x = behind d 1 in
    let y = behind d 2 in
    let first : List Job = jobs.Address l d ∷ (jobs.Value a x ∷ (jobs.Ready (at_place (lvalue_at l) (act.Load y d (scalar.Int own))) ∷ [])) in
    let forth = conversion_jobs (same_kind own kind) at y y own kind in
    let back = conversion_jobs (same_kind kind own) at x x kind own in
    let middle = jobs.Ready (at_place at (act.Binary x sign y (Temp x) kind)) in
    let last = jobs.Ready (at_place (lvalue_at l) (act.Store d x (scalar.Int own) kept)) in
    one_more_job (((first ++ forth) ++ middle ∷ []) ++ back) last _ (converted_jobs ((first ++ forth) ++ middle ∷ []) at x x kind own _ (one_more_job (first ++ forth) middle _ (converted_jobs first at y y own kind _ (three_jobs _ _ _ p none))))
    ∙ in_order first forth (middle ∷ []) back (last ∷ [])

step_planned : (at : Place) (sign : IntOp) (own kind : IntType) (l : LvalueTree) (d y : ℕ) (kept : Option (ℕ × ℕ)) (p : Plan) → p.jobs ≡ []
    → (assigning.stored (lvalue_at l) d y (scalar.Int own) kept (assigning.stepped at sign own kind (behind d 1) y (assigning.target l d (scalar.Int own) p))).jobs ≡ step_jobs l at (lvalue_at l) own kind sign kept (same_kind own kind) (same_kind kind own) d (behind d 1) y
step_planned at sign own kind l d y kept p none =
    let x = behind d 1 in
    let first : List Job = jobs.Address l d ∷ (jobs.Ready (at_place (lvalue_at l) (act.Load x d (scalar.Int own))) ∷ []) in
    let forth = conversion_jobs (same_kind own kind) at y x own kind in
    let back = conversion_jobs (same_kind kind own) at y y kind own in
    let middle = jobs.Ready (at_place at (act.Binary y sign (cond (same_kind own kind) x y) One kind)) in
    let last = jobs.Ready (at_place (lvalue_at l) (act.Store d y (scalar.Int own) kept)) in
    one_more_job (((first ++ forth) ++ middle ∷ []) ++ back) last _ (converted_jobs ((first ++ forth) ++ middle ∷ []) at y y kind own _ (one_more_job (first ++ forth) middle _ (converted_jobs first at y x own kind _ (two_jobs _ _ p none))))
    ∙ in_order first forth (middle ∷ []) back (last ∷ [])

-- an item behind two lists and what stands between
behind_all : (front back : List Item) (middle last drop : Item) → (front ++ (middle ∷ (back ++ last ∷ []))) ++ drop ∷ [] ≡ front ++ (middle ∷ (back ++ (last ∷ (drop ∷ []))))
behind_all front back middle last drop = append_assoc front (middle ∷ (back ++ last ∷ [])) (drop ∷ []) ∙ ap (λ xs. front ++ (middle ∷ xs)) (append_assoc back (last ∷ []) (drop ∷ []))

-- only one function reads a line
line_function : (function : LibFn) → reads_line function ≡ true → function ≡ Fgets
line_function Fgets e = refl
line_function other e = absurd (no e)
  where
    no : false ≡ true → ⊥
    no e = cc

module _ (s : SettingView) (t : Activation) (fits : IsOfUnit t s) (n : ℕ) (at : Place) (ctype : Ty) (parens : ℕ) (constant : Option ℤ) where
  -- ---- branches

  pub of_not : (a : TermTree) → About s t n a → About s t n (Typed at ctype parens constant (tree.Not a))
  of_not a about =
      let e = Typed at ctype parens constant (tree.Not a) in
      let js : ℕ → List Job = λ d. jobs.Value a d ∷ (jobs.Ready (at_place at (act.Not d d (scalar_of (term_type a)))) ∷ []) in
      let runs : (d : ℕ) → Suits t.unit true a → Fits d (room a) → Runs s t n (js d) (item.Value a ∷ (item.Do at op.Not ∷ [])) d (suc d) = λ d suits enough. one_operand s t n a d at op.Not _ (acts.negate d (scalar_of (term_type a))) (about.value d suits enough) in
      record {
        value = λ d suits enough. valued s t n e d (js d) (λ p none. two_jobs _ _ p none) (runs d suits enough);
        done = λ d suits enough. done s t n e d (js d) (λ p none. two_jobs _ _ p none) (dropped s t n (js d) _ d (runs d suits enough));
        decided = λ decision suits enough. negated s t fits n at ctype parens constant a decision (about.decided (to_targets decision (flipped decision.targets)) suits enough);
        reads = λ c is suits. absurd (some_none c None refl is);
      }

  logical_from : (sign : LogicalOp) (a b : TermTree) (d : ℕ) (used : Bool) (is : List Item) (next : ℕ) → ((l : ℕ) → l + 3 ≤ 2 ^ 32 - 1 → Runs s t n (logical_jobs sign a b d l) is d next) → (j : Job) → ((p : Plan) → parts s j p ≡ branching.logical sign a b d p) → (p : Plan) → p.jobs ≡ []
      → RunsFrom s t n (planless (parts s j p)) (parts s j p).jobs is d next
  logical_from sign a b d used is next runs j same p none = subst (λ q. RunsFrom s t n (planless q) q.jobs is d next) (sym (same p))
      (λ ps r m known items rest stands f.
      let all = branching.logical sign a b d p in
      let few = few_labels s t p j 3 (parts s j p).jobs ps r (subst (λ q. Grows (with_labels 3 p) q) (sym (same p)) (logical_grows sign a b d p)) (subst (λ q. Makes s (planless q) q.jobs ps r) (sym (same p)) m) known in
      (runs p.labels few).from (planless all) refl ps r (subst (λ js. Makes s (planless all) js ps r) (logical_planned sign a b d p none) m) known items rest stands f)

  pub of_logical : (sign : LogicalOp) (a b : TermTree) → About s t n a → About s t n b → About s t n (Typed at ctype parens constant (tree.Logical sign a b))
  of_logical sign a b first second =
      let e = Typed at ctype parens constant (tree.Logical sign a b) in
      let runs : (d : ℕ) → Suits t.unit true a × Suits t.unit true b → Fits d (larger (room a) (room b)) → (l : ℕ) → l + 3 ≤ 2 ^ 32 - 1 → Runs s t n (logical_jobs sign a b d l) (source.logical sign a b) d (suc d) = λ d suits enough l few. logical_runs s t fits n sign a b d l (first.value d suits.0 (one_fits d (room a) (room b) enough)) (second.value d suits.1 (other_fits d (room a) (room b) enough)) few in
      record {
        value = λ d suits enough. unfolds s t n (jobs.Value e d) (item.Value e) (term_items t.unit true e) d (suc d) refl (gives_value n d e) (logical_from sign a b d true (source.logical sign a b) (suc d) (runs d suits enough) (jobs.Value e d) (λ p. refl));
        done = λ d suits enough. unfolds s t n (jobs.Unused e d) (item.Unused e) (term_items t.unit false e) d d refl (gives_unused n d e) (logical_from sign a b d false (source.logical sign a b ++ item.Drop ∷ []) d (λ l few. dropped s t n (logical_jobs sign a b d l) (source.logical sign a b) d (runs d suits enough l few)) (jobs.Unused e d) (λ p. refl));
        decided = λ decision suits enough. logical_decided s t fits n at ctype parens constant sign a b decision (λ l. first.decided (to_targets decision (left_targets sign decision.targets l)) suits.0 (one_fits decision.depth (room a) (room b) enough)) (second.decided decision suits.1 (other_fits decision.depth (room a) (room b) enough));
        reads = λ c is suits. absurd (some_none c None refl is);
      }

  conditional_from : (c a b : TermTree) (d : ℕ) (used : Bool) → ((l : ℕ) → l + 4 ≤ 2 ^ 32 - 1 → Runs s t n (conditional_jobs s.at c a b d used l) (source.conditional t.unit used c a b) d (behind_arm used d)) → (j : Job) → ((p : Plan) → parts s j p ≡ branching.conditional s c a b d used p) → (p : Plan) → p.jobs ≡ []
      → RunsFrom s t n (planless (parts s j p)) (parts s j p).jobs (source.conditional t.unit used c a b) d (behind_arm used d)
  conditional_from c a b d used runs j same p none = subst (λ q. RunsFrom s t n (planless q) q.jobs (source.conditional t.unit used c a b) d (behind_arm used d)) (sym (same p))
      (λ ps r m known items rest stands f.
      let all = branching.conditional s c a b d used p in
      let few = few_labels s t p j 4 (parts s j p).jobs ps r (subst (λ q. Grows (with_labels 4 p) q) (sym (same p)) (conditional_grows s c a b d used p)) (subst (λ q. Makes s (planless q) q.jobs ps r) (sym (same p)) m) known in
      (runs p.labels few).from (planless all) refl ps r (subst (λ js. Makes s (planless all) js ps r) (conditional_planned s c a b d used p none) m) known items rest stands f)

  pub of_conditional : (c a b : TermTree) → About s t n c → About s t n a → About s t n b → About s t n (Typed at ctype parens constant (tree.Conditional c a b))
  of_conditional c a b test first second =
      let e = Typed at ctype parens constant (tree.Conditional c a b) in
      let rest_fits : (d : ℕ) → Fits d (room e) → Fits d (larger (room a) (room b)) = λ d enough. other_fits d (room c) (larger (room a) (room b)) enough in
      let decides : (d : ℕ) → Suits t.unit true c → Fits d (room e) → (targets : Targets) → Decided s t n c (branching.decided targets d) = λ d suits enough targets. test.decided (branching.decided targets d) suits (one_fits d (room c) (larger (room a) (room b)) enough) in
      record {
        value = λ d suits enough. unfolds s t n (jobs.Value e d) (item.Value e) (term_items t.unit true e) d (suc d) refl (gives_value n d e)
            (conditional_from c a b d true (λ l few. conditional_runs s t fits n c a b d true l (decides d suits.0 enough (record { yes = l + 1; no = l + 2 })) (first.value d suits.1 (one_fits d (room a) (room b) (rest_fits d enough))) (second.value d suits.2 (other_fits d (room a) (room b) (rest_fits d enough))) few) (jobs.Value e d) (λ p. refl));
        done = λ d suits enough. unfolds s t n (jobs.Unused e d) (item.Unused e) (term_items t.unit false e) d d refl (gives_unused n d e)
            (conditional_from c a b d false (λ l few. conditional_runs s t fits n c a b d false l (decides d suits.0 enough (record { yes = l + 1; no = l + 2 })) (first.done d suits.1 (one_fits d (room a) (room b) (rest_fits d enough))) (second.done d suits.2 (other_fits d (room a) (room b) (rest_fits d enough))) few) (jobs.Unused e d) (λ p. refl));
        decided = λ decision suits enough. choice_decided s t fits n at ctype parens constant c a b decision (decides decision.depth suits.0 enough)
            (first.decided (lowered.tested_or_not decision.targets decision.depth false) suits.1 (one_fits decision.depth (room a) (room b) (rest_fits decision.depth enough)))
            (second.decided (lowered.tested_or_not decision.targets decision.depth false) suits.2 (other_fits decision.depth (room a) (room b) (rest_fits decision.depth enough)));
        reads = λ c is suits. absurd (some_none c None refl is);
      }

  -- ---- assignments

  pub of_assign : (l : LvalueTree) (a : TermTree) → AboutPlace s t n l → About s t n a → About s t n (Typed at ctype parens constant (tree.Assign l a))
  of_assign l a first second =
      let e = Typed at ctype parens constant (tree.Assign l a) in
      let kind = scalar_of (lvalue_type l) in
      plain s t fits n e refl refl (λ decision p. refl) (λ decision held failed. refl)
      (λ d suits enough. valued s t n e d _ (λ p none. three_jobs _ _ _ p none) (assigns s t n l a d (behind d 1) (lvalue_at l) kind (next_fits d (room_of_place l) (room a) enough) (first d suits.0 (first_fits d (room_of_place l) (room a) enough)) (second.value (suc d) suits.1 (second_fits d (room_of_place l) (room a) enough))))
      (λ d suits enough. done s t n e d _ (λ p none. three_jobs _ _ _ p none) (assigns_only s t n l a d (behind d 1) (lvalue_at l) kind (next_fits d (room_of_place l) (room a) enough) (first d suits.0 (first_fits d (room_of_place l) (room a) enough)) (second.value (suc d) suits.1 (second_fits d (room_of_place l) (room a) enough))))

  pub of_compound : (sign : BinaryOp) (kind : Ty) (l : LvalueTree) (a : TermTree) → AboutPlace s t n l → About s t n a → About s t n (Typed at ctype parens constant (tree.Compound sign kind l a))
  of_compound sign kind l a first second =
      let e = Typed at ctype parens constant (tree.Compound sign kind l a) in
      let own = integer_type (lvalue_type l) in
      let other = integer_type kind in
      let does_it = number_operator (meaning sign) in
      let k = both_rooms (room_of_place l) (room a) in
      plain s t fits n e refl refl (λ decision p. refl) (λ decision held failed. refl)
      (λ d suits enough. valued s t n e d _ (λ p none. compound_planned at does_it own other l a d (Some (d, behind d 1)) p none)
      (compounds s t n l a at (lvalue_at l) own other does_it (same_kind own other) (same_kind other own) d (behind d 1) (behind d 2) (one_fit d k enough) (two_fit d k enough) (first d suits.0 (first_fits d (room_of_place l) (room a) (other_fits d 2 k enough))) (second.value (suc d) suits.1 (second_fits d (room_of_place l) (room a) (other_fits d 2 k enough)))))
      (λ d suits enough. done s t n e d _ (λ p none. compound_planned at does_it own other l a d None p none)
      (subst (λ xs. Runs s t n (compound_jobs l a at (lvalue_at l) own other does_it None (same_kind own other) (same_kind other own) d (behind d 1) (behind d 2)) (item.Address l ∷ (item.Value a ∷ (item.Do (lvalue_at l) (op.LoadUnder (scalar.Int own)) ∷ xs))) d d)
      (sym (behind_all (cond (same_kind own other) [] (item.Do at (op.Convert (scalar.Int other)) ∷ [])) (cond (same_kind other own) [] (item.Do at (op.Convert (scalar.Int own)) ∷ [])) (item.Do at (op.Binary op.RightFirst does_it other)) (item.Do (lvalue_at l) (op.Store (scalar.Int own))) item.Drop))
      (compounds_only s t n l a at (lvalue_at l) own other does_it (same_kind own other) (same_kind other own) d (behind d 1) (behind d 2) (one_fit d k enough) (two_fit d k enough) (first d suits.0 (first_fits d (room_of_place l) (room a) (other_fits d 2 k enough))) (second.value (suc d) suits.1 (second_fits d (room_of_place l) (room a) (other_fits d 2 k enough))))))

  pub of_compound_shift : (back : Bool) (size : ℕ) (l : LvalueTree) (a : TermTree) → AboutPlace s t n l → About s t n a → About s t n (Typed at ctype parens constant (tree.CompoundShift back size l a))
  of_compound_shift back size l a first second =
      let e = Typed at ctype parens constant (tree.CompoundShift back size l a) in
      let k = both_rooms (room_of_place l) (room a) in
      plain s t fits n e refl refl (λ decision p. refl) (λ decision held failed. refl)
      (λ d suits enough. valued s t n e d _ (λ p none. one_more_job _ _ _ (one_more_job _ _ _ (three_jobs _ _ _ p none)))
      (compound_shifts s t n l a at (lvalue_at l) size back d (behind d 1) (behind d 2) (one_fit d k enough) (two_fit d k enough) (first d suits.0 (first_fits d (room_of_place l) (room a) (other_fits d 2 k enough))) (second.value (suc d) suits.1 (second_fits d (room_of_place l) (room a) (other_fits d 2 k enough)))))
      (λ d suits enough. done s t n e d _ (λ p none. one_more_job _ _ _ (one_more_job _ _ _ (three_jobs _ _ _ p none)))
      (compound_shifts_only s t n l a at (lvalue_at l) size back d (behind d 1) (behind d 2) (one_fit d k enough) (two_fit d k enough) (first d suits.0 (first_fits d (room_of_place l) (room a) (other_fits d 2 k enough))) (second.value (suc d) suits.1 (second_fits d (room_of_place l) (room a) (other_fits d 2 k enough)))))

  -- ---- steps

  stepped_only : (sign : StepOp) (kind : Ty) (l : LvalueTree) → AboutPlace s t n l → (d : ℕ) → Fits d (larger 2 (room_of_place l)) → Addressed s t n l d
      → Runs s t n (step_jobs l at (lvalue_at l) (integer_type (lvalue_type l)) (integer_type kind) (step_operator sign) None (same_kind (integer_type (lvalue_type l)) (integer_type kind)) (same_kind (integer_type kind) (integer_type (lvalue_type l))) d (behind d 1) (behind d 1)) (operands.step at sign (integer_type kind) l false ++ item.Drop ∷ []) d d
  stepped_only sign kind l first d enough given =
      let own = integer_type (lvalue_type l) in
      let other = integer_type kind in
      subst (λ xs. Runs s t n (step_jobs l at (lvalue_at l) own other (step_operator sign) None (same_kind own other) (same_kind other own) d (behind d 1) (behind d 1)) (item.Address l ∷ (item.Do (lvalue_at l) (op.LoadOver (scalar.Int own)) ∷ xs)) d d)
      (sym (behind_all (cond (same_kind own other) [] (item.Do at (op.Convert (scalar.Int other)) ∷ [])) (cond (same_kind other own) [] (item.Do at (op.Convert (scalar.Int own)) ∷ [])) (item.Do at (op.BinaryByOne (step_operator sign) other)) (item.Do (lvalue_at l) (op.Store (scalar.Int own))) item.Drop))
      (steps_only s t n l at (lvalue_at l) own other (step_operator sign) (same_kind own other) (same_kind other own) d (behind d 1) (one_fit d (room_of_place l) enough) given)

  pub of_step : (sign : StepOp) (time : StepTime) (kind : Ty) (l : LvalueTree) → AboutPlace s t n l → About s t n (Typed at ctype parens constant (tree.Step sign time kind l))
  of_step sign Prefix kind l first =
      let e = Typed at ctype parens constant (tree.Step sign Prefix kind l) in
      let own = integer_type (lvalue_type l) in
      let other = integer_type kind in
      plain s t fits n e refl refl (λ decision p. refl) (λ decision held failed. refl)
      (λ d suits enough. valued s t n e d _ (λ p none. step_planned at (step_operator sign) own other l d (behind d 1) (Some (d, behind d 1)) p none)
      (steps s t n l at (lvalue_at l) own other (step_operator sign) (same_kind own other) (same_kind other own) d (behind d 1) (one_fit d (room_of_place l) enough) (first d suits (other_fits d 2 (room_of_place l) enough))))
      (λ d suits enough. done s t n e d _ (λ p none. step_planned at (step_operator sign) own other l d (behind d 1) None p none) (stepped_only sign kind l first d enough (first d suits (other_fits d 2 (room_of_place l) enough))))
  of_step sign Postfix kind l first =
      let e = Typed at ctype parens constant (tree.Step sign Postfix kind l) in
      let own = integer_type (lvalue_type l) in
      let other = integer_type kind in
      plain s t fits n e refl refl (λ decision p. refl) (λ decision held failed. refl)
      (λ d suits enough. valued s t n e d _ (λ p none. step_planned at (step_operator sign) own other l d (behind (behind d 1) 1) (Some (d, behind d 1)) p none)
      (steps_behind s t n l at (lvalue_at l) own other (step_operator sign) (same_kind own other) (same_kind other own) d (behind d 1) (behind (behind d 1) 1) (one_fit d (room_of_place l) enough) (next_of_next d (room_of_place l) enough) (first d suits (other_fits d 2 (room_of_place l) enough))))
      (λ d suits enough. done s t n e d _ (λ p none. step_planned at (step_operator sign) own other l d (behind d 1) None p none) (stepped_only sign kind l first d enough (first d suits (other_fits d 2 (room_of_place l) enough))))

  pub of_pointer_step : (sign : StepOp) (time : StepTime) (size : ℕ) (l : LvalueTree) → AboutPlace s t n l → About s t n (Typed at ctype parens constant (tree.StepPointer sign time size l))
  of_pointer_step sign Prefix size l first =
      let e = Typed at ctype parens constant (tree.StepPointer sign Prefix size l) in
      plain s t fits n e refl refl (λ decision p. refl) (λ decision held failed. refl)
      (λ d suits enough. valued s t n e d _ (λ p none. one_more_job _ _ _ (one_more_job _ _ _ (two_jobs _ _ p none)))
      (pointer_steps s t n l at (lvalue_at l) size (is_backward sign) d (behind d 1) (one_fit d (room_of_place l) enough) (first d suits (other_fits d 2 (room_of_place l) enough))))
      (λ d suits enough. done s t n e d _ (λ p none. one_more_job _ _ _ (one_more_job _ _ _ (two_jobs _ _ p none)))
      (pointer_steps_only s t n l at (lvalue_at l) size (is_backward sign) d (behind d 1) (one_fit d (room_of_place l) enough) (first d suits (other_fits d 2 (room_of_place l) enough))))
  of_pointer_step sign Postfix size l first =
      let e = Typed at ctype parens constant (tree.StepPointer sign Postfix size l) in
      plain s t fits n e refl refl (λ decision p. refl) (λ decision held failed. refl)
      (λ d suits enough. valued s t n e d _ (λ p none. one_more_job _ _ _ (one_more_job _ _ _ (two_jobs _ _ p none)))
      (pointer_steps_behind s t n l at (lvalue_at l) size (is_backward sign) d (behind d 1) (behind (behind d 1) 1) (one_fit d (room_of_place l) enough) (next_of_next d (room_of_place l) enough) (first d suits (other_fits d 2 (room_of_place l) enough))))
      (λ d suits enough. done s t n e d _ (λ p none. one_more_job _ _ _ (one_more_job _ _ _ (two_jobs _ _ p none)))
      (pointer_steps_only s t n l at (lvalue_at l) size (is_backward sign) d (behind d 1) (one_fit d (room_of_place l) enough) (first d suits (other_fits d 2 (room_of_place l) enough))))

  -- ---- calls of the library

  no_line_call : (function : LibFn) (args : TermTrees) → reads_line function ≡ false → line_call_of at function args ≡ None
  no_line_call function args e = ap (λ b. cond b (Some (record { at = at; arguments = args })) None) e

  -- a call that reads no line
  of_other_call : (function : LibFn) (args : TermTrees) (target : Option Ty) → reads_line function ≡ false → AboutAll s t n args → About s t n (Typed at ctype parens constant (tree.Library function args target))
  of_other_call function args target other about =
      let e = Typed at ctype parens constant (tree.Library function args target) in
      let no_call = no_line_call function args other in
      let items = arguments args ++ item.Do at (op.Library function (argument_count args) target) ∷ [] in
      let planned : (d : ℕ) (p : Plan) → calls.library_call s at function args target d p ≡ calls.plain_call s at function args target d p = λ d p. ap (λ b. cond b (calls.line_value at args d p) (calls.plain_call s at function args target d p)) other in
      plain s t fits n e no_call (ap (λ o. read_test o true) no_call) (λ decision p. refl) (λ decision held failed. refl)
      (λ d suits enough. unfolds s t n (jobs.Value e d) (item.Value e) (term_items t.unit true e) d (suc d) refl (gives_value n d e)
      (λ p none. subst (λ q. RunsFrom s t n (planless q) q.jobs (term_items t.unit true e) d (suc d)) (sym (planned d p))
      (let all = calls.plain_call s at function args target d p in
      let x = sites s t n at function args (calls.target_size s target) target d p none in
      subst (λ js. RunsFrom s t n (planless all) js (term_items t.unit true e) d (suc d)) (sym x.is)
      (subst (λ b. RunsFrom s t n (planless all) (argument_jobs args d ++ jobs.Ready (at_place at (act.Library (calls.result_temp function d) function (calls.argument_temps args d) x.site (calls.target_size s target))) ∷ []) (cond b items items) d (suc d)) (sym suits.1)
      (subst (λ b. RunsFrom s t n (planless all) (argument_jobs args d ++ jobs.Ready (at_place at (act.Library (calls.result_temp function d) function (calls.argument_temps args d) x.site (calls.target_size s target))) ∷ []) items d (cond b (suc d) d)) suits.1
      ((calls_of s t n fits at function args target x.site d enough (about d suits.0 enough)).from (planless all) refl))))))
      (λ d suits enough. unfolds s t n (jobs.Unused e d) (item.Unused e) (term_items t.unit false e) d d refl (gives_unused n d e)
      (λ p none. subst (λ q. RunsFrom s t n (planless q) q.jobs (term_items t.unit false e) d d) (sym (planned d p))
      (let all = calls.plain_call s at function args target d p in
      let x = sites s t n at function args (calls.target_size s target) target d p none in
      subst (λ js. RunsFrom s t n (planless all) js (term_items t.unit false e) d d) (sym x.is)
      ((left s t n (gives function) (argument_jobs args d ++ jobs.Ready (at_place at (act.Library (calls.result_temp function d) function (calls.argument_temps args d) x.site (calls.target_size s target))) ∷ []) items d
      (calls_of s t n fits at function args target x.site d enough (about d suits.0 enough))).from (planless all) refl))))

  -- a call that reads a line, whose value is taken
  line_from : (args : TermTrees) (target : Option Ty) (d : ℕ) (is : List Item) (next : ℕ) → ((l : ℕ) (p : Plan) → p.jobs ≡ [] → l + 1 ≤ 2 ^ 32 - 1 → RunsFrom s t n p (argument_jobs args d ++ (jobs.Ready (reading at (Some d) d (behind d 1) (behind d 2) l l) ∷ (jobs.Ready (Mark l) ∷ []))) is d next) → (j : Job) → ((p : Plan) → parts s j p ≡ calls.line_value at args d p) → (p : Plan) → p.jobs ≡ []
      → RunsFrom s t n (planless (parts s j p)) (parts s j p).jobs is d next
  line_from args target d is next runs j same p none = subst (λ q. RunsFrom s t n (planless q) q.jobs is d next) (sym (same p))
      (λ ps r m known items rest stands f.
      let all = calls.line_value at args d p in
      let few = few_labels s t p j 1 (parts s j p).jobs ps r (subst (λ q. Grows (with_labels 1 p) q) (sym (same p)) (line_grows at args d p)) (subst (λ q. Makes s (planless q) q.jobs ps r) (sym (same p)) m) known in
      runs p.labels (planless all) refl few ps r (subst (λ js. Makes s (planless all) js ps r) (line_jobs at args d p none) m) known items rest stands f)

  dropped_from : (p : Plan) → p.jobs ≡ [] → (js : List Job) (is : List Item) (d : ℕ) → RunsFrom s t n p js is d (suc d) → RunsFrom s t n p js (is ++ item.Drop ∷ []) d d
  dropped_from p none js is d runs ps r m known items rest stands f = subst (λ xs. Simulates t n d xs (ps ++ rest)) (sym (append_assoc is (item.Drop ∷ []) items)) (runs ps r m known (item.Drop ∷ items) rest stands (gives_drop n d items rest f))

  of_line_call : (args : TermTrees) (target : Option Ty) → AboutAll s t n args → About s t n (Typed at ctype parens constant (tree.Library Fgets args target))
  of_line_call args target about =
      let e = Typed at ctype parens constant (tree.Library Fgets args target) in
      let items = arguments args ++ item.Do at (op.Library Fgets (argument_count args) target) ∷ [] in
      let call : LineCallView = record { at = at; arguments = args } in
      let reads : Suits t.unit true e → Reads s t n args (room_of_all args) = λ suits. record { three = suits.2; few = itself (room_of_all args); runs = λ d enough. about d suits.0 enough } in
      let value : (d : ℕ) → Suits t.unit true e → Fits d (room e) → Valued s t n e d = λ d suits enough. unfolds s t n (jobs.Value e d) (item.Value e) (term_items t.unit true e) d (suc d) refl (gives_value n d e)
      (line_from args target d items (suc d) (λ l p none few. value_read s t fits n at args target d l p none suits.2 enough (about d suits.0 enough) few) (jobs.Value e d) (λ p. refl)) in
      record {
        value = value;
        done = λ d suits enough. unfolds s t n (jobs.Unused e d) (item.Unused e) (term_items t.unit false e) d d refl (gives_unused n d e)
            (line_from args target d (items ++ item.Drop ∷ []) d (λ l p none few. dropped_from p none _ items d (value_read s t fits n at args target d l p none suits.2 enough (about d suits.0 enough) few)) (jobs.Unused e d) (λ p. refl));
        decided = λ decision suits enough. leaf_decided s t fits n e decision (λ p. refl) (λ held failed. refl) enough (λ none. value decision.depth suits enough)
            (λ x is. subst (λ c. Reads s t n c.arguments (room_of_all args)) (some_same call x.call (read_from (Some call) true x is)) (reads suits));
        reads = λ c is suits. subst (λ c. Reads s t n c.arguments (room_of_all args)) (some_same call c is) (reads suits);
      }

  pub of_library : (function : LibFn) (args : TermTrees) (target : Option Ty) → AboutAll s t n args → About s t n (Typed at ctype parens constant (tree.Library function args target))
  of_library function args target about = by (reads_line function) refl
    where
      by : (b : Bool) → reads_line function ≡ b → About s t n (Typed at ctype parens constant (tree.Library function args target))
      by true e = subst (λ f. About s t n (Typed at ctype parens constant (tree.Library f args target))) (sym (line_function function e)) (of_line_call args target about)
      by false e = of_other_call function args target e about

  -- ---- calls of functions of the unit

  abbrev own_piece : ℕ → ℕ → Bool → PieceView
  own_piece function d is_used = Call (record { place = at; function = function; depth = d; used = is_used })

  call_planned : (function : ℕ) (args : TermTrees) (is_used : Bool) (d : ℕ) (p : Plan) → p.jobs ≡ [] → (calls.own_call at function args is_used d p).jobs ≡ argument_jobs args d ++ jobs.Ready (own_piece function d is_used) ∷ []
  call_planned function args is_used d p none = one_more_job (argument_jobs args d) (jobs.Ready (own_piece function d is_used)) (argued args d p) (argued_jobs args d [] p none)

  calls_there : (function d : ℕ) (is_used : Bool) (rest : List PieceView) → Stands t (own_piece function d is_used ∷ rest) → CallsThere (pieces t) function
  calls_there function d is_used rest stands = record {
    at = length stands.front;
    call = record { place = at; function = function; depth = d; used = is_used };
    there = subst (λ xs. slice_get xs (length stands.front) ≡ Some (own_piece function d is_used)) (sym stands.all) (found_behind stands.front);
    is = refl;
  }
    where
      found_behind : (xs : List PieceView) → slice_get (xs ++ (own_piece function d is_used ∷ rest)) (length xs) ≡ Some (own_piece function d is_used)
      found_behind [] = refl
      found_behind (x ∷ xs) = found_behind xs

  call_runs : (function : ℕ) (args : TermTrees) (is_used : Bool) → AboutAll s t n args → (d : ℕ) → SuitAll t.unit args → IsOwnCall t.unit function (argument_count args) is_used → Fits d (room_of_all args)
      → Runs s t n (argument_jobs args d ++ jobs.Ready (own_piece function d is_used) ∷ []) (arguments args ++ item.Invoke at function (argument_count args) is_used ∷ []) d (behind_own is_used d)
  call_runs function args is_used about d suits call enough =
      let many = argument_count args in
      then s t n (argument_jobs args d) (jobs.Ready (own_piece function d is_used) ∷ []) (arguments args) (item.Invoke at function many is_used ∷ []) d (d + many) (behind_own is_used d) (about d suits enough)
      (piece_stands s t n (own_piece function d is_used) (item.Invoke at function many is_used ∷ []) (d + many) (behind_own is_used d)
      (λ items rest stands f. subst (λ k. Simulates t n (d + k) (item.Invoke at function k is_used ∷ items) (own_piece function d is_used ∷ rest)) call.many (gives_own_call n d function at is_used call.function items rest call.called (calls_there function d is_used rest stands) f)))

  pub of_call : (function : ℕ) (args : TermTrees) (is_used : Bool) → AboutAll s t n args → About s t n (Typed at ctype parens constant (tree.Call function args is_used))
  of_call function args is_used about =
      let e = Typed at ctype parens constant (tree.Call function args is_used) in
      let js = λ (d : ℕ). argument_jobs args d ++ jobs.Ready (own_piece function d is_used) ∷ [] in
      let items = arguments args ++ item.Invoke at function (argument_count args) is_used ∷ [] in
      plain s t fits n e refl refl (λ decision p. refl) (λ decision held failed. refl)
      (λ d suits enough. valued s t n e d (js d) (λ p none. call_planned function args is_used d p none)
      (subst (λ b. Runs s t n (js d) (cond b items items) d (suc d)) (sym suits.2)
      (subst (λ b. Runs s t n (js d) items d (behind_own b d)) suits.2 (call_runs function args is_used about d suits.0 suits.1 enough))))
      (λ d suits enough. done s t n e d (js d) (λ p none. call_planned function args is_used d p none)
      (left s t n is_used (js d) items d (call_runs function args is_used about d suits.0 suits.1 enough)))
