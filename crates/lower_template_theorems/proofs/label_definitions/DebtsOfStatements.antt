-- The marks that statements are to make are those of their labels and of labels that they give away.
use Rattle.std.proofs.Common.{◌≡◌, ◌≤◌, ◌<◌, inl, inr, ℕ, ◌+◌, ◌-◌, ◌^◌, ◌==◌, Bool, true, false, cond, nat_le, nat_lt, List, [], ◌∷◌, length, get_or, Option, Some, None, slice_get, refl, arith, ap, sym, subst, ◌∙◌}
use Rattle.std.proofs.lemmas.Bool.{leb-true, leb-false, eqb-true, cond-false}
use Rattle.std.proofs.lemmas.Option.{slice_get-get_or}
use Rattle.cc_base.specs.declared.diagnostics.Place.{Place}
use Rattle.c_layout.specs.CheckedTrees as tree
use Rattle.c_layout.specs.CheckedTrees.{TermTree, StatementTree, StatementTrees, StoreTree, StoreValue, StoreCopy, StoreText}
use Rattle.lower_functions.specs.Statements.ScopeJumps.{entered, left, all_entered, all_left, around, objects, way, leap}
use Rattle.lower_functions.specs.Statements.PlainStatements.{stored, all_stored, all_statements, in_scope}
use Rattle.lower_functions.specs.Statements.Loops.{check, unused, in_loop, for_from, part}
use Rattle.lower_functions.specs.Statements.Jumps.{end_behind, given}
use Rattle.lower_functions.specs.Statements.Statements.{statement}
use Rattle.lower_functions.specs.Statements.Switches.{no_dispatch}
use Rattle.lower_templates.specs.Worklist.Works as jobs
use Rattle.lower_templates.specs.Worklist.Works.{behind}
use Rattle.lower_templates.specs.Worklist.Plans.{Plan, with_work, with_labels, with_scope}
use Rattle.lower_templates.specs.Worklist.Scopes.{ScopeView}
use Rattle.lower_templates.specs.Worklist.Settings.{SettingView}
use Rattle.lower_templates.specs.declared.worklist.template_builder.Dispatch.{Dispatch}
use Rattle.lower_templates.specs.declared.worklist.pending_works.Landing.{Landing}
use Rattle.lower_templates.specs.declared.worklist.pending_works.Surroundings.{Surroundings}
use Rattle.lower_template_theorems.specs.Growth.Growth.{Grows}
use Rattle.lower_template_theorems.specs.PendingLabels.Marks.{one, labels_in, all_labels_in, cases_in, defaults_in, AreSelected, AllSelected}
use Rattle.lower_template_theorems.proofs.growth.Growth.{grows_not, works}
use Rattle.lower_template_theorems.proofs.growth.GrowingStatements.{grows_entered, grows_left, grows_statements, grows_check, grows_step}
use Rattle.lower_template_theorems.proofs.pending_labels.MarkArithmetic.{one_yes, one_no, below_more, cond_sum}
use Rattle.lower_template_theorems.proofs.pending_labels.Debts.{dispatched, owes, IsFree, IsPlaced, IsSound, Owed, owed_none, owed_statement, owed_or, debts}
use Rattle.lower_template_theorems.proofs.pending_labels.DebtsOfTerms.{Paid, paid, balance_none, balance_mark, balance_part, balance_more, labels_least, at_least_next, first_number, next_number}

pub owed_entered : {ds : List Dispatch} {l k : ℕ} (at : Place) (xs : List ℕ) (p : Plan) → Owed ds l k p → Owed ds l k (all_entered at xs p)
owed_entered at [] p g = g
owed_entered at (x ∷ xs) p g = owed_entered at xs (entered at x p) (search debts depth 30)

pub owed_left : {ds : List Dispatch} {l k : ℕ} (at : Place) (xs : List ℕ) (p : Plan) → Owed ds l k p → Owed ds l k (all_left at xs p)
owed_left at [] p g = g
owed_left at (x ∷ xs) p g = owed_left at xs (left at x p) (search debts depth 30)

-- the way from one scope to another
pub owed_way : {ds : List Dispatch} {l k : ℕ} (s : SettingView) (steps : List ScopeView) (from to : ℕ) (p : Plan) → Owed ds l k p → Owed ds l k (way s steps from to p)
owed_way s [] from to p g = g
owed_way s (x ∷ steps) from to p g =
    let inwards = owed_entered s.at (objects s to) (way s steps from (around s to) p) (owed_way s steps from (around s to) p g) in
    let outwards = owed_way s steps (around s from) to (all_left s.at (objects s from) p) (owed_left s.at (objects s from) p g) in
    owed_or (from == to) p _ g (owed_or (nat_lt to from) _ _ outwards inwards)

pub owed_leap : {ds : List Dispatch} {l k : ℕ} (s : SettingView) (from : ℕ) (to : Landing) (p : Plan) → Owed ds l k p → Owed ds l k (leap s from to p)
owed_leap s from to p g = let on_way = owed_way s s.scopes.scopes from to.scope p g in search debts depth 30

owed_stored : {ds : List Dispatch} {l k : ℕ} (at : Place) (object : ℕ) (x : StoreTree) (p : Plan) → Owed ds l k p → Owed ds l k (stored at object x p)
owed_stored at object (StoreValue offset e) p g = search debts depth 30
owed_stored at object (StoreCopy offset l) p g = search debts depth 30
owed_stored at object (StoreText offset room text) p g = search debts depth 30

pub owed_all_stored : {ds : List Dispatch} {l k : ℕ} (at : Place) (object : ℕ) (xs : List StoreTree) (p : Plan) → Owed ds l k p → Owed ds l k (all_stored at object xs p)
owed_all_stored at object [] p g = g
owed_all_stored at object (x ∷ xs) p g = owed_all_stored at object xs (stored at object x p) (owed_stored at object x p g)

owed_step : {ds : List Dispatch} {l k : ℕ} (e : Option TermTree) (p : Plan) → Owed ds l k p → Owed ds l k (unused e p)
owed_step None p g = g
owed_step (Some e) p g = search debts depth 30

pub owed_outcome : {ds : List Dispatch} {l k : ℕ} (s : SettingView) (at : Place) (e : Option TermTree) (p : Plan) → Owed ds l k p → Owed ds l k (given s at e p)
owed_outcome s at None p g = g
owed_outcome s at (Some e) p g = search debts depth 30

pub owed_end_of : {ds : List Dispatch} {l k : ℕ} (s : SettingView) (at : Place) (p : Plan) → Owed ds l k p → Owed ds l k (end_behind s at p)
owed_end_of s at p g = search (debts, owed_left) depth 30

-- ---- parts of statements

no_more : (m n : ℕ) → m ≤ n → n ≡ 0 → m ≡ 0
no_more m n le e = omega (arith, le, e)

some_more : (m n : ℕ) → 1 ≤ m → m ≤ n → 1 ≤ n
some_more m n some le = omega (arith, some, le)

-- what stands in a part stands in the whole
pub placed_part : (ds : List Dispatch) (choice : ℕ) (whole piece : StatementTree) → ((n : ℕ) → cases_in n piece ≤ cases_in n whole) → defaults_in piece ≤ defaults_in whole → IsPlaced ds whole choice → IsPlaced ds piece choice
placed_part ds choice whole piece cases defaults (inl k) = inl (record { there = k.there; room = λ d e n one_there. k.room d e n (some_more (cases_in n piece) (cases_in n whole) one_there (cases n)) })
placed_part ds choice whole piece cases defaults (inr free) = inr (record { cases = λ n. no_more (cases_in n piece) (cases_in n whole) (cases n) (free.cases n); defaults = no_more (defaults_in piece) (defaults_in whole) defaults free.defaults })

pub same_most : (n : ℕ) → n ≤ n
same_most n = omega arith

first_most : (m n : ℕ) → m ≤ m + n
first_most m n = omega arith

pub second_most : (m n : ℕ) → n ≤ m + n
second_most m n = omega arith

-- the parts of a list of statements, as a block
abbrev list : StatementTrees → StatementTree
list items = tree.Block [] items

list_sum : (l : ℕ) (d : Option Dispatch) (first : StatementTree) (rest : StatementTrees) → dispatched l d (list (tree.And first rest)) ≡ dispatched l d first + dispatched l d (list rest)
list_sum l None first rest = refl
list_sum l (Some d) first rest =
    let a = cond_sum (nat_le d.cases l) (cases_in (l - d.cases) first) (cases_in (l - d.cases) (list rest)) in
    let b = cond_sum (l == d.fallback) (defaults_in first) (defaults_in (list rest)) in
    omega (arith, a, b)

same_sum : (k a b c d e : ℕ) → e ≡ b + d → (k + (a + b)) + (c + d) ≡ k + ((a + c) + e)
same_sum k a b c d e is = omega (arith, is)

-- a list of statements
pub owed_statements : {ds : List Dispatch} {l : ℕ} (items : StatementTrees) (around : Surroundings) (p : Plan) (k : ℕ) → IsPlaced ds (list items) around.choice → AllSelected items → Owed ds l k p → Owed ds l (k + (all_labels_in l items + dispatched l (slice_get ds around.choice) (list items))) (all_statements items around p)
owed_statements {ds = ds} {l = l} tree.NoMore around p k placed sound o = subst (λ n. Owed ds l n p) (nothing (slice_get ds around.choice)) o
  where
    zero_more : (n m : ℕ) → m ≡ 0 → n ≡ n + (0 + m)
    zero_more n m e = omega (arith, e)

    none : (d : Option Dispatch) → dispatched l d (list tree.NoMore) ≡ 0
    none None = refl
    none (Some d) = by (nat_le d.cases l) (l == d.fallback)
      where
        by : (a b : Bool) → cond a 0 0 + cond b 0 0 ≡ 0
        by true true = refl
        by true false = refl
        by false true = refl
        by false false = refl

    nothing : (d : Option Dispatch) → k ≡ k + (0 + dispatched l d (list tree.NoMore))
    nothing d = zero_more k _ (none d)
owed_statements {ds = ds} {l = l} (tree.And first rest) around p k placed (one_sound, sound) o =
    let d = slice_get ds around.choice in
    let here = placed_part ds around.choice (list (tree.And first rest)) first (λ n. first_most (cases_in n first) (cases_in n (list rest))) (first_most (defaults_in first) (defaults_in (list rest))) placed in
    let later = placed_part ds around.choice (list (tree.And first rest)) (list rest) (λ n. second_most (cases_in n first) (cases_in n (list rest))) (second_most (defaults_in first) (defaults_in (list rest))) placed in
    let one_done = owed_statement first around p (record { placed = here; switches = one_sound }) o in
    let all_done = owed_statements rest around (with_work (jobs.Statement first around) p) _ later sound one_done in
    subst (λ n. Owed ds l n (all_statements (tree.And first rest) around p)) (same_sum k (labels_in l first) (dispatched l d first) (all_labels_in l rest) (dispatched l d (list rest)) (dispatched l d (list (tree.And first rest))) (list_sum l d first rest)) all_done

-- ---- statements by their form

-- the labels of a switch in a statement that has one part
pub one_part : (l : ℕ) (d : Option Dispatch) (whole part : StatementTree) → ((n : ℕ) → cases_in n whole ≡ cases_in n part) → defaults_in whole ≡ defaults_in part → labels_in l whole ≡ labels_in l part → 0 + (labels_in l part + dispatched l d part) ≡ labels_in l whole + dispatched l d whole
one_part l None whole part cases defaults labels = same (labels_in l whole) (labels_in l part) labels
  where
    same : (m n : ℕ) → m ≡ n → 0 + (n + 0) ≡ m + 0
    same m n e = omega (arith, e)
one_part l (Some d) whole part cases defaults labels =
    same (labels_in l whole) (labels_in l part) _ _ _ _ labels (ap (λ n. cond (nat_le d.cases l) n 0) (cases (l - d.cases))) (ap (λ n. cond (l == d.fallback) n 0) defaults)
  where
    same : (m n a b c e : ℕ) → m ≡ n → a ≡ b → c ≡ e → 0 + (n + (b + e)) ≡ m + (a + c)
    same m n a b c e p q r = omega (arith, p, q, r)

two_parts : (l : ℕ) (d : Option Dispatch) (whole first second : StatementTree) → ((n : ℕ) → cases_in n whole ≡ cases_in n first + cases_in n second) → defaults_in whole ≡ defaults_in first + defaults_in second → labels_in l whole ≡ labels_in l first + labels_in l second → (0 + (labels_in l first + dispatched l d first)) + (labels_in l second + dispatched l d second) ≡ labels_in l whole + dispatched l d whole
two_parts l None whole first second cases defaults labels = same (labels_in l whole) (labels_in l first) (labels_in l second) labels
  where
    same : (m n k : ℕ) → m ≡ n + k → (0 + (n + 0)) + (k + 0) ≡ m + 0
    same m n k e = omega (arith, e)
two_parts l (Some d) whole first second cases defaults labels =
    same (labels_in l whole) (labels_in l first) (labels_in l second) _ _ _ _ _ _ labels
    (ap (λ n. cond (nat_le d.cases l) n 0) (cases (l - d.cases)) ∙ cond_sum (nat_le d.cases l) (cases_in (l - d.cases) first) (cases_in (l - d.cases) second))
    (ap (λ n. cond (l == d.fallback) n 0) defaults ∙ cond_sum (l == d.fallback) (defaults_in first) (defaults_in second))
  where
    same : (m n k a b c e f g : ℕ) → m ≡ n + k → a ≡ b + c → e ≡ f + g → (0 + (n + (b + f))) + (k + (c + g)) ≡ m + (a + e)
    same m n k a b c e f g p q r = omega (arith, p, q, r)

-- the body of a statement stands where it stands
pub body_of : (ds : List Dispatch) (choice : ℕ) (whole part : StatementTree) → ((n : ℕ) → cases_in n whole ≡ cases_in n part) → defaults_in whole ≡ defaults_in part → IsPlaced ds whole choice → AreSelected part → IsSound ds part choice
body_of ds choice whole part cases defaults placed selected = record { placed = placed_part ds choice whole part (λ n. at_most (cases_in n whole) (cases_in n part) (cases n)) (at_most (defaults_in whole) (defaults_in part) defaults) placed; switches = selected }
  where
    at_most : (m n : ℕ) → m ≡ n → n ≤ m
    at_most m n e = omega (arith, e)

pub paid_if : {ds : List Dispatch} {l : ℕ} (s : SettingView) (e : TermTree) (body : StatementTree) (around : Surroundings) (p : Plan) → p.jobs ≡ [] → IsSound ds (tree.If e body) around.choice → Paid ds l (owes ds l (jobs.Statement (tree.If e body) around)) p (statement s (tree.If e body) around p)
paid_if {ds = ds} {l = l} s e body around p none sound =
    let start : Owed ds l 0 p = owed_none p none in
    let r = statement s (tree.If e body) around p in
    let m = p.labels in
    let inside = body_of ds around.choice (tree.If e body) body (λ n. refl) refl sound.placed sound.switches in
    let o : Owed ds l ((((0 + one l m) + one l (m + 1)) + owes ds l (jobs.Statement body around)) + one l (m + 2)) r = search (debts, owed_statement) depth 30 in
    let opened : Grows (with_labels 3 p) (with_labels 3 p) = grows_not (with_labels 3 p) in
    let g : Grows (with_labels 3 p) r = search works depth 30 in
    paid _ p r (one_part l (slice_get ds around.choice) (tree.If e body) body (λ n. refl) refl refl)
    (balance_mark (m + 2) r.labels (at_least_next m 2 3 r.labels (labels_least 3 p r g) refl) (balance_part (owes ds l (jobs.Statement body around)) (balance_mark (m + 1) (m + 2) (next_number m 1 2 refl) (balance_mark m (m + 1) (first_number m) (balance_none m))))) o

pub paid_if_else : {ds : List Dispatch} {l : ℕ} (s : SettingView) (e : TermTree) (body other : StatementTree) (around : Surroundings) (p : Plan) → p.jobs ≡ [] → IsSound ds (tree.IfElse e body other) around.choice → Paid ds l (owes ds l (jobs.Statement (tree.IfElse e body other) around)) p (statement s (tree.IfElse e body other) around p)
paid_if_else {ds = ds} {l = l} s e body other around p none sound =
    let start : Owed ds l 0 p = owed_none p none in
    let whole = tree.IfElse e body other in
    let r = statement s whole around p in
    let m = p.labels in
    let first : IsSound ds body around.choice = record { placed = placed_part ds around.choice whole body (λ n. first_most (cases_in n body) (cases_in n other)) (first_most (defaults_in body) (defaults_in other)) sound.placed; switches = sound.switches.0 } in
    let second : IsSound ds other around.choice = record { placed = placed_part ds around.choice whole other (λ n. second_most (cases_in n body) (cases_in n other)) (second_most (defaults_in body) (defaults_in other)) sound.placed; switches = sound.switches.1 } in
    let x = owes ds l (jobs.Statement body around) in
    let y = owes ds l (jobs.Statement other around) in
    let o : Owed ds l ((((((0 + one l m) + one l (m + 1)) + x) + one l (m + 2)) + y) + one l (m + 3)) r = search (debts, owed_statement) depth 30 in
    let opened : Grows (with_labels 4 p) (with_labels 4 p) = grows_not (with_labels 4 p) in
    let g : Grows (with_labels 4 p) r = search works depth 30 in
    paid _ p r (two_parts l (slice_get ds around.choice) whole body other (λ n. refl) refl refl)
    (balance_mark (m + 3) r.labels (at_least_next m 3 4 r.labels (labels_least 4 p r g) refl)
    (balance_part y (balance_mark (m + 2) (m + 3) (next_number m 2 3 refl) (balance_part x (balance_mark (m + 1) (m + 2) (next_number m 1 2 refl) (balance_mark m (m + 1) (first_number m) (balance_none m))))))) o

pub paid_while : {ds : List Dispatch} {l : ℕ} (s : SettingView) (e : TermTree) (body : StatementTree) (around : Surroundings) (p : Plan) → p.jobs ≡ [] → IsSound ds (tree.While e body) around.choice → Paid ds l (owes ds l (jobs.Statement (tree.While e body) around)) p (statement s (tree.While e body) around p)
paid_while {ds = ds} {l = l} s e body around p none sound =
    let start : Owed ds l 0 p = owed_none p none in
    let r = statement s (tree.While e body) around p in
    let m = p.labels in
    let looped = in_loop around (m + 2) m in
    let inside : IsSound ds body looped.choice = body_of ds around.choice (tree.While e body) body (λ n. refl) refl sound.placed sound.switches in
    let x = owes ds l (jobs.Statement body looped) in
    let o : Owed ds l ((((0 + one l m) + one l (m + 1)) + x) + one l (m + 2)) r = search (debts, owed_statement) depth 30 in
    let opened : Grows (with_labels 3 p) (with_labels 3 p) = grows_not (with_labels 3 p) in
    let g : Grows (with_labels 3 p) r = search works depth 30 in
    paid _ p r (one_part l (slice_get ds around.choice) (tree.While e body) body (λ n. refl) refl refl)
    (balance_mark (m + 2) r.labels (at_least_next m 2 3 r.labels (labels_least 3 p r g) refl) (balance_part x (balance_mark (m + 1) (m + 2) (next_number m 1 2 refl) (balance_mark m (m + 1) (first_number m) (balance_none m))))) o

pub paid_do : {ds : List Dispatch} {l : ℕ} (s : SettingView) (body : StatementTree) (e : TermTree) (around : Surroundings) (p : Plan) → p.jobs ≡ [] → IsSound ds (tree.Do body e) around.choice → Paid ds l (owes ds l (jobs.Statement (tree.Do body e) around)) p (statement s (tree.Do body e) around p)
paid_do {ds = ds} {l = l} s body e around p none sound =
    let start : Owed ds l 0 p = owed_none p none in
    let r = statement s (tree.Do body e) around p in
    let m = p.labels in
    let looped = in_loop around (m + 2) (m + 1) in
    let inside : IsSound ds body looped.choice = body_of ds around.choice (tree.Do body e) body (λ n. refl) refl sound.placed sound.switches in
    let x = owes ds l (jobs.Statement body looped) in
    let o : Owed ds l ((((0 + one l m) + x) + one l (m + 1)) + one l (m + 2)) r = search (debts, owed_statement) depth 30 in
    let opened : Grows (with_labels 3 p) (with_labels 3 p) = grows_not (with_labels 3 p) in
    let g : Grows (with_labels 3 p) r = search works depth 30 in
    paid _ p r (one_part l (slice_get ds around.choice) (tree.Do body e) body (λ n. refl) refl refl)
    (balance_mark (m + 2) r.labels (at_least_next m 2 3 r.labels (labels_least 3 p r g) refl) (balance_mark (m + 1) (m + 2) (next_number m 1 2 refl) (balance_part x (balance_mark m (m + 1) (first_number m) (balance_none m))))) o

owed_check : {ds : List Dispatch} {l k : ℕ} (label : ℕ) (test : Option TermTree) (first second : ℕ) (p : Plan) → Owed ds l k p → Owed ds l (k + one l label) (check label test first second p)
owed_check label None first second p o = search debts depth 30
owed_check label (Some e) first second p o = search debts depth 30

-- a `for` in the scope that begins with it
paid_for_from : {ds : List Dispatch} {l : ℕ} (s : SettingView) (xs : List ℕ) (items : StatementTrees) (test after : Option TermTree) (body : StatementTree) (inside : Surroundings) (p : Plan) → p.jobs ≡ [] → IsPlaced ds (list items) inside.choice → AllSelected items → IsSound ds body inside.choice → Paid ds l ((0 + owes ds l (jobs.Statement (list items) inside)) + owes ds l (jobs.Statement body inside)) p (for_from s p.labels xs items test after body inside p)
paid_for_from {ds = ds} {l = l} s xs items test after body inside p none placed selected sound =
    let start : Owed ds l 0 p = owed_none p none in
    let r = for_from s p.labels xs items test after body inside p in
    let m = p.labels in
    let x = all_labels_in l items + dispatched l (slice_get ds inside.choice) (list items) in
    let looped = in_loop inside (m + 4) (m + 3) in
    let looped_sound : IsSound ds body looped.choice = sound in
    let y = owes ds l (jobs.Statement body looped) in
    let o : Owed ds l (((((((0 + one l m) + x) + one l (m + 1)) + one l (m + 2)) + y) + one l (m + 3)) + one l (m + 4)) r = search (debts, owed_statement, owed_statements, owed_entered, owed_left, owed_check, owed_step) depth 40 in
    let opened : Grows (with_labels 5 p) (with_labels 5 p) = grows_not (with_labels 5 p) in
    let g : Grows (with_labels 5 p) r = search (works, grows_entered, grows_left, grows_statements, grows_check, grows_step) depth 40 in
    paid _ p r refl
    (balance_mark (m + 4) r.labels (at_least_next m 4 5 r.labels (labels_least 5 p r g) refl)
    (balance_mark (m + 3) (m + 4) (next_number m 3 4 refl)
    (balance_part y (balance_mark (m + 2) (m + 3) (next_number m 2 3 refl) (balance_mark (m + 1) (m + 2) (next_number m 1 2 refl) (balance_part x (balance_mark m (m + 1) (first_number m) (balance_none m)))))))) o

-- a scope changes no number of labels
with_scope_paid : {ds : List Dispatch} {l : ℕ} (before : ℕ) (p r : Plan) → Paid ds l before (with_scope p) r → Paid ds l before p r
unfolding with_scope
with_scope_paid before p r b = record { most = b.most; sound = b.sound }

no_jobs_in_scope : (p : Plan) → p.jobs ≡ [] → (with_scope p).jobs ≡ []
unfolding with_scope
no_jobs_in_scope p none = none

pub paid_for : {ds : List Dispatch} {l : ℕ} (s : SettingView) (xs : List ℕ) (items : StatementTrees) (test after : Option TermTree) (body : StatementTree) (around : Surroundings) (p : Plan) → p.jobs ≡ [] → IsSound ds (tree.For xs items test after body) around.choice → Paid ds l (owes ds l (jobs.Statement (tree.For xs items test after body) around)) p (statement s (tree.For xs items test after body) around p)
paid_for {ds = ds} {l = l} s xs items test after body around p none sound =
    let whole = tree.For xs items test after body in
    let inside = in_scope around p.scopes in
    let first = placed_part ds around.choice whole (list items) (λ n. first_most (cases_in n (list items)) (cases_in n body)) (first_most (defaults_in (list items)) (defaults_in body)) sound.placed in
    let second : IsSound ds body around.choice = record { placed = placed_part ds around.choice whole body (λ n. second_most (cases_in n (list items)) (cases_in n body)) (second_most (defaults_in (list items)) (defaults_in body)) sound.placed; switches = sound.switches.1 } in
    let b = paid_for_from {ds = ds} {l = l} s xs items test after body inside (with_scope p) (no_jobs_in_scope p none) first sound.switches.0 second in
    subst (λ k. Paid ds l k p (statement s whole around p)) (two_parts l (slice_get ds around.choice) whole (list items) body (λ n. refl) refl refl) (with_scope_paid _ p _ b)

pub paid_block : {ds : List Dispatch} {l : ℕ} (s : SettingView) (xs : List ℕ) (items : StatementTrees) (around : Surroundings) (p : Plan) → p.jobs ≡ [] → IsSound ds (tree.Block xs items) around.choice → Grows p (statement s (tree.Block xs items) around p) → Paid ds l (owes ds l (jobs.Statement (tree.Block xs items) around)) p (statement s (tree.Block xs items) around p)
paid_block {ds = ds} {l = l} s xs items around p none sound g =
    let start : Owed ds l 0 p = owed_none p none in
    let whole = tree.Block xs items in
    let r = statement s whole around p in
    let placed = placed_part ds around.choice whole (list items) (λ n. same_most (cases_in n whole)) (same_most (defaults_in whole)) sound.placed in
    let x = all_labels_in l items + dispatched l (slice_get ds around.choice) (list items) in
    let entered = owed_entered s.at xs (with_scope p) (search debts) in
    let stated = owed_statements items (in_scope around p.scopes) (all_entered s.at xs (with_scope p)) 0 placed sound.switches entered in
    let o : Owed ds l (0 + x) r = owed_left s.at xs _ stated in
    paid _ p r (one_part l (slice_get ds around.choice) whole (list items) (λ n. refl) refl refl) (balance_part x (balance_more r.labels g.labels (balance_none p.labels))) o

-- a label, and the statement that it stands before
pub paid_label : {ds : List Dispatch} {l : ℕ} (before label : ℕ) (body : StatementTree) (around : Surroundings) (p : Plan) → p.jobs ≡ [] → IsSound ds body around.choice → Grows p (part label body around p) → one l label + owes ds l (jobs.Statement body around) ≤ before → Paid ds l before p (part label body around p)
paid_label {ds = ds} {l = l} before label body around p none sound g le =
    let start : Owed ds l 0 p = owed_none p none in
    let r = part label body around p in
    let o : Owed ds l ((0 + one l label) + owes ds l (jobs.Statement body around)) r = search (debts, owed_statement) depth 30 in
    record { most = sum _ _ _ _ _ _ o.most le (below_more l p.labels r.labels g.labels); sound = o.sound }
  where
    sum : (o x y b a c : ℕ) → o ≡ (0 + x) + y → x + y ≤ b → a ≤ c → o + a ≤ b + c
    sum o x y b a c e le more = omega (arith, e, le, more)

-- a case of a switch whose label is a number of 32 bits
one_behind : (l first n rest : ℕ) → first + n ≤ 2 ^ 32 - 1 → one l (behind first n) + cond (nat_le first l) rest 0 ≤ cond (nat_le first l) (one (l - first) n + rest) 0
one_behind l first n rest room = by (nat_le first l) refl
  where
    exact : behind first n ≡ first + n
    exact = omega (arith, room)

    none : (x y : ℕ) → x ≡ 0 → x + 0 ≤ y
    none x y e = omega (arith, e)

    too_early : l < first → l ≡ behind first n → ⊥
    too_early before e = omega (arith, before, e, exact)

    shifted : first ≤ l → l ≡ behind first n → l - first ≡ n
    shifted le e = omega (arith, le, e, exact)

    same : (x y k : ℕ) → x ≡ 1 → y ≡ 1 → x + k ≤ y + k
    same x y k e f = omega (arith, e, f)

    less_same : (x y k : ℕ) → x ≡ 0 → x + k ≤ y + k
    less_same x y k e = omega (arith, e)

    there : first ≤ l → (b : Bool) → (l == behind first n) ≡ b → one l (behind first n) + rest ≤ one (l - first) n + rest
    there le true e = let at = eqb-true l (behind first n) e in same _ _ rest (one_yes l (behind first n) at) (one_yes (l - first) n (shifted le at))
    there le false e = less_same _ _ rest (cond-false (l == behind first n) 1 0 e)

    by : (b : Bool) → nat_le first l ≡ b → one l (behind first n) + cond b rest 0 ≤ cond b (one (l - first) n + rest) 0
    by true e = there (leb-true first l e) (l == behind first n) refl
    by false e = none (one l (behind first n)) 0 (one_no l (behind first n) (too_early (leb-false first l e)))

pub no_free_case : (n : ℕ) (body : StatementTree) → IsFree (tree.Case n body) → ⊥
no_free_case n body free = apart (cases_in n body) (one n n) (one_yes n n refl) (free.cases n)
  where
    apart : (m k : ℕ) → k ≡ 1 → k + m ≡ 0 → ⊥
    apart m k e f = omega (arith, e, f)

pub no_free_default : (body : StatementTree) → IsFree (tree.Default body) → ⊥
no_free_default body free = apart (defaults_in body) free.defaults
  where
    apart : (m : ℕ) → 1 + m ≡ 0 → ⊥
    apart m f = omega (arith, f)

-- the switch of a case label is known
pub case_owed : (ds : List Dispatch) (l n : ℕ) (body : StatementTree) (choice : ℕ) → choice < length ds → (get_or ds choice no_dispatch).cases + n ≤ 2 ^ 32 - 1 → one l (behind (get_or ds choice no_dispatch).cases n) + (labels_in l body + dispatched l (slice_get ds choice) body) ≤ labels_in l body + dispatched l (slice_get ds choice) (tree.Case n body)
case_owed ds l n body choice there room = at (slice_get-get_or ds choice no_dispatch there)
  where
    sum : (x y c f e : ℕ) → x + c ≤ e → x + (y + (c + f)) ≤ y + (e + f)
    sum x y c f e le = omega (arith, le)

    at : slice_get ds choice ≡ Some (get_or ds choice no_dispatch) → one l (behind (get_or ds choice no_dispatch).cases n) + (labels_in l body + dispatched l (slice_get ds choice) body) ≤ labels_in l body + dispatched l (slice_get ds choice) (tree.Case n body)
    at e = subst (λ found. one l (behind (get_or ds choice no_dispatch).cases n) + (labels_in l body + dispatched l found body) ≤ labels_in l body + dispatched l found (tree.Case n body)) (sym e) (sum _ (labels_in l body) _ _ _ (one_behind l (get_or ds choice no_dispatch).cases n (cases_in (l - (get_or ds choice no_dispatch).cases) body) room))

-- so is that of a default label
pub default_owed : (ds : List Dispatch) (l : ℕ) (body : StatementTree) (choice : ℕ) → choice < length ds → one l (get_or ds choice no_dispatch).fallback + (labels_in l body + dispatched l (slice_get ds choice) body) ≤ labels_in l body + dispatched l (slice_get ds choice) (tree.Default body)
default_owed ds l body choice there = at (slice_get-get_or ds choice no_dispatch there)
  where
    one_case : (b : Bool) (n : ℕ) → cond b 1 0 + cond b n 0 ≤ cond b (1 + n) 0
    one_case true n = omega arith
    one_case false n = omega arith

    sum : (x y c f e : ℕ) → x + f ≤ e → x + (y + (c + f)) ≤ y + (c + e)
    sum x y c f e le = omega (arith, le)

    at : slice_get ds choice ≡ Some (get_or ds choice no_dispatch) → one l (get_or ds choice no_dispatch).fallback + (labels_in l body + dispatched l (slice_get ds choice) body) ≤ labels_in l body + dispatched l (slice_get ds choice) (tree.Default body)
    at e = subst (λ found. one l (get_or ds choice no_dispatch).fallback + (labels_in l body + dispatched l found body) ≤ labels_in l body + dispatched l found (tree.Default body)) (sym e) (sum _ (labels_in l body) _ _ _ (one_case (l == (get_or ds choice no_dispatch).fallback) (defaults_in body)))
