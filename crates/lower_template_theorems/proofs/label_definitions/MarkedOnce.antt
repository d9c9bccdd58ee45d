-- Each label of a template is marked at most once.
use Rattle.std.proofs.Common.{◌≡◌, ◌≤◌, ◌<◌, inl, inr, ℕ, ◌+◌, ◌-◌, ◌^◌, ◌==◌, Bool, true, false, cond, nat_le, List, [], ◌∷◌, ◌++◌, length, Option, Some, None, slice_get, get_or, refl, arith, ap, sym, subst, ◌∙◌, length-append}
use Rattle.std.proofs.lemmas.Option.{slice_get-get_or}
use Rattle.std.proofs.lemmas.List.{get_or_append_left}
use Rattle.c_layout.specs.CheckedTrees as tree
use Rattle.c_layout.specs.CheckedTrees.{StatementTree}
use Rattle.lower_functions.specs.Statements.PlainStatements.{cleared}
use Rattle.lower_functions.specs.Statements.Jumps.{given}
use Rattle.lower_functions.specs.Statements.Statements.{statement}
use Rattle.lower_functions.specs.Statements.Switches.{no_dispatch}
use Rattle.lower_templates.specs.Worklist.Pieces.{PieceView}
use Rattle.lower_templates.specs.Worklist.Works as jobs
use Rattle.lower_templates.specs.Worklist.Works.{Job, behind}
use Rattle.lower_templates.specs.Worklist.Plans.{Plan}
use Rattle.lower_templates.specs.Worklist.Settings.{SettingView}
use Rattle.lower_templates.specs.declared.worklist.template_builder.Dispatch.{Dispatch}
use Rattle.lower_templates.specs.declared.worklist.pending_works.Surroundings.{Surroundings}
use Rattle.lower_functions.specs.Functions.Turns.{planless}
use Rattle.lower_template_theorems.specs.Worklists.Derivations.{is_piece, parts, Makes, nothing, piece, work}
use Rattle.lower_template_theorems.specs.Growth.Growth.{Grows}
use Rattle.lower_template_theorems.specs.PendingLabels.Marks.{one, below, all_marked, labels_in, cases_in, defaults_in}
use Rattle.lower_template_theorems.proofs.growth.Growth.{grows_on}
use Rattle.lower_template_theorems.proofs.growth.GrowingWorks.{grows_parts, planless_grows, grows, jobs_none}
use Rattle.lower_template_theorems.proofs.pending_labels.MarkArithmetic.{one_yes, below_more, marked_append}
use Rattle.lower_template_theorems.proofs.pending_labels.Debts.{dispatched, owes, all_owe, IsFree, IsPlaced, IsSound, SoundJob, AllSound, Owed, owed_none, debts}
use Rattle.lower_template_theorems.proofs.pending_labels.DebtsOfTerms.{Paid, paid_term, paid_pointer}
use Rattle.lower_template_theorems.proofs.pending_labels.DebtsOfConditions.{paid_condition}
use Rattle.lower_template_theorems.proofs.label_definitions.DebtsOfStatements.{owed_leap, owed_all_stored, owed_way, owed_outcome, owed_end_of, paid_if, paid_if_else, paid_while, paid_do, paid_for, paid_block, paid_label, body_of, same_most, second_most, placed_part, no_free_case, no_free_default, case_owed, default_owed}
use Rattle.lower_template_theorems.proofs.label_definitions.DebtsOfSwitches.{paid_switch}

-- ---- dispatches that come later change nothing

longer : (old more : List Dispatch) (choice : ℕ) → choice < length old → choice < length (old ++ more)
longer old more choice there = let e = length-append old more in omega (arith, e, there)

same_found : (old more : List Dispatch) (choice : ℕ) → choice < length old → slice_get (old ++ more) choice ≡ slice_get old choice
same_found old more choice there = slice_get-get_or (old ++ more) choice no_dispatch (longer old more choice there) ∙ ap Some (get_or_append_left old more no_dispatch choice there) ∙ sym (slice_get-get_or old choice no_dispatch there)

pub free_owes : (l : ℕ) (i : StatementTree) (d : Option Dispatch) → IsFree i → dispatched l d i ≡ 0
free_owes l i None free = refl
free_owes l i (Some d) free = none (nat_le d.cases l) (l == d.fallback) (cases_in (l - d.cases) i) (defaults_in i) (free.cases (l - d.cases)) free.defaults
  where
    none : (a b : Bool) (m n : ℕ) → m ≡ 0 → n ≡ 0 → cond a m 0 + cond b n 0 ≡ 0
    none true true m n e f = omega (arith, e, f)
    none true false m n e f = omega (arith, e)
    none false true m n e f = omega (arith, f)
    none false false m n e f = refl

same_owes : (old more : List Dispatch) (l : ℕ) (j : Job) → SoundJob old j → owes (old ++ more) l j ≡ owes old l j
same_owes old more l (jobs.Value e depth) sound = refl
same_owes old more l (jobs.Unused e depth) sound = refl
same_owes old more l (jobs.Address v depth) sound = refl
same_owes old more l (jobs.Condition e d) sound = refl
same_owes old more l (jobs.Ready q) sound = refl
same_owes old more l (jobs.Statement i around) sound = by sound.placed
  where
    by : IsPlaced old i around.choice → owes (old ++ more) l (jobs.Statement i around) ≡ owes old l (jobs.Statement i around)
    by (inl k) = ap (λ d. labels_in l i + dispatched l d i) (same_found old more around.choice k.there)
    by (inr free) = ap (λ n. labels_in l i + n) (free_owes l i (slice_get (old ++ more) around.choice) free ∙ sym (free_owes l i (slice_get old around.choice) free))

sound_later : (old more : List Dispatch) (j : Job) → SoundJob old j → SoundJob (old ++ more) j
sound_later old more (jobs.Value e depth) sound = tt
sound_later old more (jobs.Unused e depth) sound = tt
sound_later old more (jobs.Address v depth) sound = tt
sound_later old more (jobs.Condition e d) sound = tt
sound_later old more (jobs.Ready q) sound = tt
sound_later old more (jobs.Statement i around) sound = record { placed = by sound.placed; switches = sound.switches }
  where
    by : IsPlaced old i around.choice → IsPlaced (old ++ more) i around.choice
    by (inl k) = inl (record { there = longer old more around.choice k.there; room = λ d e. k.room d (sym (same_found old more around.choice k.there) ∙ e) })
    by (inr free) = inr free

all_later : (old more : List Dispatch) (js : List Job) → AllSound old js → AllSound (old ++ more) js
all_later old more [] sound = tt
all_later old more (j ∷ js) (first, sound) = (sound_later old more j first, all_later old more js sound)

all_same : (old more : List Dispatch) (l : ℕ) (js : List Job) → AllSound old js → all_owe (old ++ more) l js ≡ all_owe old l js
all_same old more l [] sound = refl
all_same old more l (j ∷ js) (first, sound) = sum _ _ _ _ (same_owes old more l j first) (all_same old more l js sound)
  where
    sum : (a b c d : ℕ) → a ≡ c → b ≡ d → a + b ≡ c + d
    sum a b c d p q = omega (arith, p, q)

-- ---- statements

module _ (l : ℕ) (s : SettingView) where
  silent : (ds : List Dispatch) (i : StatementTree) (around : Surroundings) (p : Plan) → Grows p (statement s i around p) → Owed ds l 0 (statement s i around p) → Paid ds l (owes ds l (jobs.Statement i around)) p (statement s i around p)
  silent ds i around p g o = let a = o.most in let b = below_more l p.labels (statement s i around p).labels g.labels in record { most = omega (arith, a, b); sound = o.sound }

  paid_by_form : (ds more : List Dispatch) (i : StatementTree) (around : Surroundings) (p : Plan) → ds ≡ p.dispatches ++ more → ds ≡ (statement s i around p).dispatches → p.jobs ≡ [] → IsSound p.dispatches i around.choice → IsSound ds i around.choice → Owed ds l 0 p → (statement s i around p).labels ≤ 2 ^ 32 - 1 → Grows p (statement s i around p) → Paid ds l (owes ds l (jobs.Statement i around)) p (statement s i around p)
  paid_by_form ds more (tree.Value e) around p is last none old sound start few g = silent ds (tree.Value e) around p g (search debts depth 30)
  paid_by_form ds more (tree.Nothing) around p is last none old sound start few g = silent ds (tree.Nothing) around p g (start)
  paid_by_form ds more (tree.Forget at local) around p is last none old sound start few g = silent ds (tree.Forget at local) around p g (search debts depth 30)
  paid_by_form ds more (tree.Start at local e) around p is last none old sound start few g = silent ds (tree.Start at local e) around p g (search debts depth 30)
  paid_by_form ds more (tree.StartCopy at local v) around p is last none old sound start few g = silent ds (tree.StartCopy at local v) around p g (search debts depth 30)
  paid_by_form ds more (tree.StartList at local stores) around p is last none old sound start few g = silent ds (tree.StartList at local stores) around p g (owed_all_stored at local stores (cleared at local p) (search debts depth 30))
  paid_by_form ds more (tree.Goto n) around p is last none old sound start few g = silent ds (tree.Goto n) around p g (owed_leap s around.scope _ p start)
  paid_by_form ds more (tree.Break) around p is last none old sound start few g = silent ds (tree.Break) around p g (owed_leap s around.scope around.on_break p start)
  paid_by_form ds more (tree.Continue) around p is last none old sound start few g = silent ds (tree.Continue) around p g (owed_leap s around.scope around.on_continue p start)
  paid_by_form ds more (tree.Return at e) around p is last none old sound start few g = silent ds (tree.Return at e) around p g (owed_end_of s at _ (owed_way s s.scopes.scopes around.scope 0 (given s at e p) (owed_outcome s at e p start)))
  paid_by_form ds more (tree.Block objects items) around p is last none old sound start few g = paid_block s objects items around p none sound g
  paid_by_form ds more (tree.If e body) around p is last none old sound start few g = paid_if s e body around p none sound
  paid_by_form ds more (tree.IfElse e first second) around p is last none old sound start few g = paid_if_else s e first second around p none sound
  paid_by_form ds more (tree.While e body) around p is last none old sound start few g = paid_while s e body around p none sound
  paid_by_form ds more (tree.Do body e) around p is last none old sound start few g = paid_do s body e around p none sound
  paid_by_form ds more (tree.For objects first e step body) around p is last none old sound start few g = paid_for s objects first e step body around p none sound
  paid_by_form ds more (tree.Switch at e labels has_default values body) around p is last none old sound start few g =
      subst (λ xs. Paid xs l (owes ds l (jobs.Statement (tree.Switch at e labels has_default values body) around)) p (statement s (tree.Switch at e labels has_default values body) around p)) (sym last)
      (paid_switch l s at e labels body around p (owes ds l (jobs.Statement (tree.Switch at e labels has_default values body) around)) none sound.switches.0 sound.switches.1 (at_most (labels_in l body) _) few)
    where
      at_most : (m n : ℕ) → m ≤ m + n
      at_most m n = omega arith
  paid_by_form ds more (tree.Label n body) around p is last none old sound start few g =
      let whole = tree.Label n body in
      paid_label (owes ds l (jobs.Statement whole around)) n body around p none (body_of ds around.choice whole body (λ m. refl) refl sound.placed sound.switches) g (by (slice_get ds around.choice))
    where
      sum : (x y z w : ℕ) → z ≡ w → x + (y + z) ≤ (x + y) + w
      sum x y z w e = omega (arith, e)

      same : (d : Option Dispatch) → dispatched l d body ≡ dispatched l d (tree.Label n body)
      same None = refl
      same (Some d) = refl

      by : (d : Option Dispatch) → one l n + (labels_in l body + dispatched l d body) ≤ (one l n + labels_in l body) + dispatched l d (tree.Label n body)
      by d = sum (one l n) (labels_in l body) _ _ (same d)
  paid_by_form ds more (tree.Case n body) around p is last none old sound start few g =
      let whole = tree.Case n body in
      let inside = placed_part ds around.choice whole body (λ m. second_most (one m n) (cases_in m body)) (same_most (defaults_in body)) sound.placed in
      paid_label (owes ds l (jobs.Statement whole around)) _ body around p none (record { placed = inside; switches = sound.switches }) g (by old.placed)
    where
      some : 1 ≤ cases_in n (tree.Case n body)
      some = let yes = one_yes n n refl in omega (arith, yes)

      same_here : around.choice < length p.dispatches → get_or ds around.choice no_dispatch ≡ get_or p.dispatches around.choice no_dispatch
      same_here there = ap (λ xs. get_or xs around.choice no_dispatch) is ∙ get_or_append_left p.dispatches more no_dispatch around.choice there

      by : IsPlaced p.dispatches (tree.Case n body) around.choice → one l (behind (get_or p.dispatches around.choice no_dispatch).cases n) + (labels_in l body + dispatched l (slice_get ds around.choice) body) ≤ labels_in l body + dispatched l (slice_get ds around.choice) (tree.Case n body)
      by (inr free) = absurd (no_free_case n body free)
      by (inl k) = subst (λ d. one l (behind d.cases n) + (labels_in l body + dispatched l (slice_get ds around.choice) body) ≤ labels_in l body + dispatched l (slice_get ds around.choice) (tree.Case n body))
          (same_here k.there)
          (case_owed ds l n body around.choice (subst (λ xs. around.choice < length xs) (sym is) (longer p.dispatches more around.choice k.there))
          (subst (λ d. d.cases + n ≤ 2 ^ 32 - 1) (sym (same_here k.there)) (k.room (get_or p.dispatches around.choice no_dispatch) (slice_get-get_or p.dispatches around.choice no_dispatch k.there) n some)))
  paid_by_form ds more (tree.Default body) around p is last none old sound start few g =
      let whole = tree.Default body in
      let inside = placed_part ds around.choice whole body (λ m. same_most (cases_in m body)) (second_most 1 (defaults_in body)) sound.placed in
      paid_label (owes ds l (jobs.Statement whole around)) _ body around p none (record { placed = inside; switches = sound.switches }) g (by old.placed)
    where
      by : IsPlaced p.dispatches (tree.Default body) around.choice → one l (get_or p.dispatches around.choice no_dispatch).fallback + (labels_in l body + dispatched l (slice_get ds around.choice) body) ≤ labels_in l body + dispatched l (slice_get ds around.choice) (tree.Default body)
      by (inr free) = absurd (no_free_default body free)
      by (inl k) = subst (λ d. one l d.fallback + (labels_in l body + dispatched l (slice_get ds around.choice) body) ≤ labels_in l body + dispatched l (slice_get ds around.choice) (tree.Default body))
          (ap (λ xs. get_or xs around.choice no_dispatch) is ∙ get_or_append_left p.dispatches more no_dispatch around.choice k.there)
          (default_owed ds l body around.choice (subst (λ xs. around.choice < length xs) (sym is) (longer p.dispatches more around.choice k.there)))

  -- ---- works

  paid_parts : (j : Job) (p : Plan) → p.jobs ≡ [] → SoundJob p.dispatches j → is_piece j ≡ false → (parts s j p).labels ≤ 2 ^ 32 - 1 → Paid (parts s j p).dispatches l (owes p.dispatches l j) p (parts s j p)
  paid_parts (jobs.Value e depth) p none sound other few = paid_term s e depth true p none (grows_parts s (jobs.Value e depth) p)
  paid_parts (jobs.Unused e depth) p none sound other few = paid_term s e depth false p none (grows_parts s (jobs.Unused e depth) p)
  paid_parts (jobs.Address v depth) p none sound other few = paid_pointer s v depth p none (grows_parts s (jobs.Address v depth) p)
  paid_parts (jobs.Condition e d) p none sound other few = paid_condition s e d p none (grows_parts s (jobs.Condition e d) p)
  paid_parts (jobs.Ready q) p none sound other few = absurd (no other)
    where
      no : true ≡ false → ⊥
      no e = cc
  paid_parts (jobs.Statement i around) p none sound other few =
      let j = jobs.Statement i around in
      let g = grows_parts s j p in
      let ds = (parts s j p).dispatches in
      let wide : IsSound ds i around.choice = subst (λ xs. SoundJob xs j) (sym g.dispatches) (sound_later p.dispatches g.more_dispatches j sound) in
      let same : owes ds l j ≡ owes p.dispatches l j = ap (λ xs. owes xs l j) g.dispatches ∙ same_owes p.dispatches g.more_dispatches l j sound in
      subst (λ k. Paid ds l k p (parts s j p)) same (paid_by_form ds g.more_dispatches i around p g.dispatches refl none sound wide (owed_none p none) few g)

  pub marks_made : (p : Plan) (js : List Job) (ps : List PieceView) (r : Plan) → Makes s p js ps r → p.jobs ≡ [] → AllSound p.dispatches js → r.labels ≤ 2 ^ 32 - 1 → all_marked l ps + below l p.labels ≤ all_owe p.dispatches l js + below l r.labels
  marks_made p _ _ r (nothing _) none sound few = omega arith
  marks_made p _ _ r (piece _ q js qs _ m) none (first, sound) few = let e = marks_made p js qs r m none sound few in omega (arith, e)
  marks_made p _ _ r (work _ j js ps q qs _ other m k) none (first, sound) few =
      let d = parts s j p in
      let few_here : q.labels ≤ 2 ^ 32 - 1 = (let more = (grows s q js qs r k).labels in omega (arith, more, few)) in
      let few_inside : d.labels ≤ 2 ^ 32 - 1 = (let more = (grows s (planless d) d.jobs ps q m).labels in omega (arith, more, few_here)) in
      let pay = paid_parts j p none first other few_inside in
      let inner = marks_made (planless d) d.jobs ps q m refl pay.sound few_here in
      let to = grows_on p (planless d) q (planless_grows p d (grows_parts s j p)) (grows s (planless d) d.jobs ps q m) in
      let later = subst (λ xs. AllSound xs js) (sym to.dispatches) (all_later p.dispatches to.more_dispatches js sound) in
      let outer = marks_made q js qs r k (jobs_none s (planless d) d.jobs ps q m refl) later few in
      let same : all_owe q.dispatches l js ≡ all_owe p.dispatches l js = ap (λ xs. all_owe xs l js) to.dispatches ∙ all_same p.dispatches to.more_dispatches l js sound in
      sum _ _ _ _ _ _ _ _ _ _ _ (marked_append l ps qs) pay.most inner outer same
    where
      sum : (all x y owed before start middle inner last outer old : ℕ) → all ≡ x + y → owed + start ≤ before + inner → x + inner ≤ owed + middle → y + middle ≤ outer + last → outer ≡ old → all + start ≤ (before + old) + last
      sum all x y owed before start middle inner last outer old e a b c f = omega (arith, e, a, b, c, f)
