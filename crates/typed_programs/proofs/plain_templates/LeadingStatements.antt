-- The works of plain statements lead on.
use Rattle.std.proofs.Common.{◌≡◌, ◌≤◌, ◌<◌, ◌⊎◌, inl, inr, ℕ, ◌+◌, ◌==◌, Bool, true, false, cond, nat_le, nat_lt, ◌||◌, List, [], ◌∷◌, get_or, Option, Some, None, refl, arith, ap, sym, subst, ◌∙◌}
use Rattle.std.proofs.lemmas.Bool.{leb-true, leb-false}
use Rattle.cc_base.specs.declared.diagnostics.Place.{Place}
use Rattle.c_layout.specs.CheckedTrees as tree
use Rattle.c_layout.specs.CheckedTrees.{TermTree, StatementTree, StatementTrees, StoreTree, StoreValue, StoreCopy, StoreText}
use Rattle.lower_functions.specs.Statements.ScopeJumps.{entered, left, all_entered, all_left, around, objects, way, leap}
use Rattle.lower_functions.specs.Statements.PlainStatements.{stored, all_stored, all_statements, cleared, in_scope, forget, start_scalar, start_struct, start_list, block}
use Rattle.lower_functions.specs.Statements.Loops.{selection, two_way_selection, part}
use Rattle.lower_functions.specs.Statements.Switches.{no_dispatch}
use Rattle.lower_functions.specs.Statements.Jumps.{stopped, exit, given, giving, end_behind}
use Rattle.lower_templates.specs.Worklist.Works as jobs
use Rattle.lower_templates.specs.Worklist.Works.{behind}
use Rattle.lower_templates.specs.Worklist.Plans.{Plan, with_work, with_scope}
use Rattle.lower_templates.specs.Worklist.Scopes.{ScopeView}
use Rattle.lower_templates.specs.Worklist.Settings.{SettingView}
use Rattle.lower_templates.specs.declared.worklist.template_builder.Dispatch.{Dispatch}
use Rattle.lower_templates.specs.declared.worklist.pending_works.Landing.{Landing}
use Rattle.lower_templates.specs.declared.worklist.pending_works.Surroundings.{Surroundings}
use Rattle.lower_template_theorems.specs.PendingLabels.Marks.{labels_in, all_labels_in, cases_in, all_cases_in, defaults_in, all_defaults_in}
use Rattle.typed_programs.specs.PlainUnits.PlainTerms.{is_plain_term, is_plain_place, is_plain_option}
use Rattle.typed_programs.specs.PlainUnits.PlainStatements.{is_plain_store, are_plain_stores, stands_or, stands_among, is_plain_statement, are_plain_statements}
use Rattle.simulation_terms.specs.Scopes.Scopes.{switches_in, all_switches_in}
use Rattle.typed_programs.specs.PlainWorklists.SwitchLabels.{LabelsStand, AllLabelsStand}
use Rattle.typed_programs.proofs.plain_worklists.LeadingWorks.{both, Stands, HasOwn, Goes, Leading, lead_more, lead_end, lead_mark, lead_condition, lead_labels, lead_scope, lead_statement, lead_or, works}

-- ---- numbers

pub one_of : (a b : ℕ) → 1 ≤ a + b → (1 ≤ a) ⊎ (1 ≤ b)
one_of a b some = by (nat_le 1 a) refl
  where
    other : (a b : ℕ) → a < 1 → 1 ≤ a + b → 1 ≤ b
    other a b none some = omega (arith, none, some)

    by : (c : Bool) → nat_le 1 a ≡ c → (1 ≤ a) ⊎ (1 ≤ b)
    by true e = inl (leb-true 1 a e)
    by false e = inr (other a b (leb-false 1 a e) some)

first_some : (a b : ℕ) → 1 ≤ a → 1 ≤ a + b
first_some a b some = omega (arith, some)

pub second_some : (a b : ℕ) → 1 ≤ b → 1 ≤ a + b
second_some a b some = omega (arith, some)

none_more : (a : ℕ) → a ≡ a + 0
none_more a = omega arith

-- one of two tests
pub either_true : (a b : Bool) → (a || b) ≡ true → (a ≡ true) ⊎ (b ≡ true)
either_true true b e = inl refl
either_true false b e = inr e

-- ---- labels in one of two parts

abbrev pub list : StatementTrees → StatementTree
list items = tree.Block [] items

-- a label stands in one of two statements
abbrev pub StandsInEither : List Dispatch → ℕ → ℕ → StatementTree → StatementTree → Type 0
StandsInEither ds choice l first second = (1 ≤ labels_in l first + labels_in l second) ⊎ (((n : ℕ) × (1 ≤ cases_in n first + cases_in n second) × (l ≡ behind (get_or ds choice no_dispatch).cases n)) ⊎ ((1 ≤ defaults_in first + defaults_in second) × (l ≡ (get_or ds choice no_dispatch).fallback)))

pub stands_in_two : (ds : List Dispatch) (choice l : ℕ) (first second : StatementTree) → StandsInEither ds choice l first second → Stands ds choice first l ⊎ Stands ds choice second l
stands_in_two ds choice l first second (inl some) = by (one_of (labels_in l first) (labels_in l second) some)
  where
    by : (1 ≤ labels_in l first) ⊎ (1 ≤ labels_in l second) → Stands ds choice first l ⊎ Stands ds choice second l
    by (inl x) = inl (inl x)
    by (inr x) = inr (inl x)
stands_in_two ds choice l first second (inr (inl x)) = by (one_of (cases_in x.0 first) (cases_in x.0 second) x.1)
  where
    by : (1 ≤ cases_in x.0 first) ⊎ (1 ≤ cases_in x.0 second) → Stands ds choice first l ⊎ Stands ds choice second l
    by (inl y) = inl (inr (inl (x.0, y, x.2)))
    by (inr y) = inr (inr (inl (x.0, y, x.2)))
stands_in_two ds choice l first second (inr (inr x)) = by (one_of (defaults_in first) (defaults_in second) x.0)
  where
    by : (1 ≤ defaults_in first) ⊎ (1 ≤ defaults_in second) → Stands ds choice first l ⊎ Stands ds choice second l
    by (inl y) = inl (inr (inr (y, x.1)))
    by (inr y) = inr (inr (inr (y, x.1)))

pub stands_in_all : (ds : List Dispatch) (choice l : ℕ) (first : StatementTree) (rest : StatementTrees) → Stands ds choice (list (tree.And first rest)) l → Stands ds choice first l ⊎ Stands ds choice (list rest) l
stands_in_all ds choice l first rest is = stands_in_two ds choice l first (list rest) is

no_some : {A : Type 0} → 1 ≤ 0 → A
no_some e = absurd (no e)
  where
    no : 1 ≤ 0 → ⊥
    no e = omega (arith, e)

-- nothing stands where no label does
pub stands_nowhere : {A : Type 0} (ds : List Dispatch) (choice l : ℕ) → Stands ds choice tree.Nothing l → A
stands_nowhere ds choice l (inl some) = no_some some
stands_nowhere ds choice l (inr (inl x)) = no_some x.1
stands_nowhere ds choice l (inr (inr x)) = no_some x.0

pub own_in_first : (e : TermTree) (first second : StatementTree) → HasOwn first → HasOwn (tree.IfElse e first second)
own_in_first e first second (inl x) = inl (x.0, first_some (cases_in x.0 first) (cases_in x.0 second) x.1)
own_in_first e first second (inr x) = inr (first_some (defaults_in first) (defaults_in second) x)

pub own_in_second : (e : TermTree) (first second : StatementTree) → HasOwn second → HasOwn (tree.IfElse e first second)
own_in_second e first second (inl x) = inl (x.0, second_some (cases_in x.0 first) (cases_in x.0 second) x.1)
own_in_second e first second (inr x) = inr (second_some (defaults_in first) (defaults_in second) x)

pub own_in_one : (first : StatementTree) (rest : StatementTrees) → HasOwn first → HasOwn (list (tree.And first rest))
own_in_one first rest (inl x) = inl (x.0, first_some (cases_in x.0 first) (all_cases_in x.0 rest) x.1)
own_in_one first rest (inr x) = inr (first_some (defaults_in first) (all_defaults_in rest) x)

pub own_in_rest : (first : StatementTree) (rest : StatementTrees) → HasOwn (list rest) → HasOwn (list (tree.And first rest))
own_in_rest first rest (inl x) = inl (x.0, second_some (cases_in x.0 first) (all_cases_in x.0 rest) x.1)
own_in_rest first rest (inr x) = inr (second_some (defaults_in first) (all_defaults_in rest) x)

pub own_behind_case : (n : ℕ) (body : StatementTree) → HasOwn body → HasOwn (tree.Case n body)
own_behind_case n body (inl x) = inl (x.0, second_some _ (cases_in x.0 body) x.1)
own_behind_case n body (inr x) = inr x

pub own_behind_default : (body : StatementTree) → HasOwn body → HasOwn (tree.Default body)
own_behind_default body (inl x) = inl x
own_behind_default body (inr x) = inr (second_some 1 (defaults_in body) x)

-- ---- parts that lead nowhere

module _ {calls : ℕ → Bool} {s : SettingView} {ds : List Dispatch} {begun count : ℕ} where
  pub lead_entered : {L : ℕ → Type 0} (at : Place) (xs : List ℕ) (p : Plan) → Leading calls s ds begun count L p → Leading calls s ds begun count L (all_entered at xs p)
  lead_entered at [] p k = k
  lead_entered at (x ∷ xs) p k = lead_entered at xs (entered at x p) (search works depth 30)

  pub lead_left : {L : ℕ → Type 0} (at : Place) (xs : List ℕ) (p : Plan) → Leading calls s ds begun count L p → Leading calls s ds begun count L (all_left at xs p)
  lead_left at [] p k = k
  lead_left at (x ∷ xs) p k = lead_left at xs (left at x p) (search works depth 30)

  pub lead_way : {L : ℕ → Type 0} (steps : List ScopeView) (from to : ℕ) (p : Plan) → Leading calls s ds begun count L p → Leading calls s ds begun count L (way s steps from to p)
  lead_way [] from to p k = k
  lead_way (x ∷ steps) from to p k =
      let inwards = lead_entered s.at (objects s to) (way s steps from (around s to) p) (lead_way steps from (around s to) p k) in
      let outwards = lead_way steps (around s from) to (all_left s.at (objects s from) p) (lead_left s.at (objects s from) p k) in
      lead_or (from == to) p _ k (lead_or (nat_lt to from) _ _ outwards inwards)

  pub lead_leap : {L : ℕ → Type 0} (from : ℕ) (to : Landing) (p : Plan) → L to.label → Leading calls s ds begun count L p → Leading calls s ds begun count L (leap s from to p)
  lead_leap from to p there k = lead_end _ _ _ refl (there, tt) (lead_way s.scopes.scopes from to.scope p k)

  lead_stored : {L : ℕ → Type 0} (at : Place) (object : ℕ) (x : StoreTree) (p : Plan) → is_plain_store calls x ≡ true → Leading calls s ds begun count L p → Leading calls s ds begun count L (stored at object x p)
  lead_stored at object (StoreValue offset e) p plain k = search works depth 30
  lead_stored at object (StoreCopy offset l) p plain k = search works depth 30
  lead_stored at object (StoreText offset room text) p plain k = search works depth 30

  lead_all_stored : {L : ℕ → Type 0} (at : Place) (object : ℕ) (xs : List StoreTree) (p : Plan) → are_plain_stores calls xs ≡ true → Leading calls s ds begun count L p → Leading calls s ds begun count L (all_stored at object xs p)
  lead_all_stored at object [] p plain k = k
  lead_all_stored at object (x ∷ xs) p plain k = let y = both _ _ plain in lead_all_stored at object xs (stored at object x p) y.1 (lead_stored at object x p y.0 k)

  pub lead_forget : {L : ℕ → Type 0} (at : Place) (object : ℕ) (p : Plan) → Leading calls s ds begun count L p → Leading calls s ds begun count L (forget at object p)
  lead_forget at object p k = search works depth 30

  pub lead_start : {L : ℕ → Type 0} (at : Place) (object : ℕ) (e : TermTree) (p : Plan) → is_plain_term calls e ≡ true → Leading calls s ds begun count L p → Leading calls s ds begun count L (start_scalar at object 0 e p)
  lead_start at object e p plain k = search works depth 30

  pub lead_copied : {L : ℕ → Type 0} (at : Place) (object : ℕ) (l : _) (p : Plan) → is_plain_place calls l ≡ true → Leading calls s ds begun count L p → Leading calls s ds begun count L (start_struct at object 0 l p)
  lead_copied at object l p plain k = search works depth 30

  lead_cleared : {L : ℕ → Type 0} (at : Place) (object : ℕ) (p : Plan) → Leading calls s ds begun count L p → Leading calls s ds begun count L (cleared at object p)
  lead_cleared at object p k = search works depth 30

  pub lead_list : {L : ℕ → Type 0} (at : Place) (object : ℕ) (xs : List StoreTree) (p : Plan) → are_plain_stores calls xs ≡ true → Leading calls s ds begun count L p → Leading calls s ds begun count L (start_list at object xs p)
  lead_list at object xs p plain k = lead_all_stored at object xs (cleared at object p) plain (lead_cleared at object p k)

  lead_outcome : {L : ℕ → Type 0} (at : Place) (e : Option TermTree) (p : Plan) → is_plain_option calls e ≡ true → Leading calls s ds begun count L p → Leading calls s ds begun count L (given s at e p)
  lead_outcome at None p plain k = k
  lead_outcome at (Some e) p plain k = search works depth 30

  lead_end_of : {L : ℕ → Type 0} (at : Place) (p : Plan) → (s.is_entry ≡ false → L s.end) → Leading calls s ds begun count L p → Leading calls s ds begun count L (end_behind s at p)
  lead_end_of {L = L} at p back k = by s.is_entry refl
    where
      by : (b : Bool) → s.is_entry ≡ b → Leading calls s ds begun count L (cond b (stopped at p) (exit s p))
      by true e = lead_end _ _ p refl tt k
      by false e = lead_end _ _ _ refl (back e, tt) (lead_left s.at s.parameters p k)

  pub lead_returned : {L : ℕ → Type 0} (at : Place) (e : Option TermTree) (around : Surroundings) (p : Plan) → is_plain_option calls e ≡ true → (s.is_entry ≡ false → L s.end) → Leading calls s ds begun count L p → Leading calls s ds begun count L (giving s at e around p)
  lead_returned at e around p plain back k = lead_end_of at _ back (lead_way s.scopes.scopes around.scope 0 (given s at e p) (lead_outcome at e p plain k))

-- ---- statements in others

-- a list of statements before such labels
pub record GoesAll (calls : ℕ → Bool) (s : SettingView) (begun : ℕ) (L : ℕ → Type 0) (items : StatementTrees) (around : Surroundings) : Type 0 where
  pub later : ℕ → Bool
  pub breaks : Bool
  pub plain : are_plain_statements calls later breaks items ≡ true
  pub labels : (l : ℕ) → later l ≡ true → L l
  pub on_break : breaks ≡ true → L around.on_break.label
  pub on_return : s.is_entry ≡ false → L s.end
  pub choice : HasOwn (list items) → around.choice < begun
  pub switches : AllLabelsStand s items begun

in_first_less : (a b c : ℕ) → a < b → a < b + c
in_first_less a b c less = omega (arith, less)

in_turn : (a b c : ℕ) → (a + b) + c ≡ a + (b + c)
in_turn a b c = omega arith

module _ (calls : ℕ → Bool) (s : SettingView) (ds : List Dispatch) where
  first_goes : (begun : ℕ) (L : ℕ → Type 0) (first : StatementTree) (rest : StatementTrees) (around : Surroundings) → GoesAll calls s begun L (tree.And first rest) around → Goes calls s begun (λ l. Stands ds around.choice (list rest) l ⊎ L l) first around
  first_goes begun L first rest around g = record {
    later = stands_among rest g.later;
    breaks = g.breaks;
    plain = (both _ _ g.plain).0;
    labels = λ l e. by l (either_true (nat_le 1 (all_labels_in l rest)) (g.later l) e);
    on_break = λ e. inr (g.on_break e);
    on_return = λ e. inr (g.on_return e);
    choice = λ own. g.choice (own_in_one first rest own);
    switches = g.switches.0;
  }
    where
      by : (l : ℕ) → (nat_le 1 (all_labels_in l rest) ≡ true) ⊎ (g.later l ≡ true) → Stands ds around.choice (list rest) l ⊎ L l
      by l (inl e) = inl (inl (leb-true 1 (all_labels_in l rest) e))
      by l (inr e) = inr (g.labels l e)

  rest_goes : (begun : ℕ) (L : ℕ → Type 0) (first : StatementTree) (rest : StatementTrees) (around : Surroundings) → GoesAll calls s begun L (tree.And first rest) around → GoesAll calls s (begun + switches_in first) L rest around
  rest_goes begun L first rest around g = record {
    later = g.later;
    breaks = g.breaks;
    plain = (both _ _ g.plain).1;
    labels = g.labels;
    on_break = g.on_break;
    on_return = g.on_return;
    choice = λ own. in_first_less around.choice begun (switches_in first) (g.choice (own_in_rest first rest own));
    switches = g.switches.1;
  }

  pub lead_statements : (begun count b : ℕ) (L : ℕ → Type 0) (items : StatementTrees) (around : Surroundings) (p : Plan) → b ≡ begun + count → GoesAll calls s b L items around → Leading calls s ds begun count (λ l. Stands ds around.choice (list items) l ⊎ L l) p
      → Leading calls s ds begun (count + all_switches_in items) L (all_statements items around p)
  lead_statements begun count b L tree.NoMore around p e g k = subst (λ c. Leading calls s ds begun c L p) (none_more count) (lead_more p (λ l x. rest l x) k)
    where
      rest : (l : ℕ) → Stands ds around.choice (list tree.NoMore) l ⊎ L l → L l
      rest l (inl x) = stands_nowhere ds around.choice l x
      rest l (inr x) = x
  lead_statements begun count b L (tree.And first rest) around p e g k =
      let M = λ (l : ℕ). Stands ds around.choice (list rest) l ⊎ L l in
      let one : Leading calls s ds begun (count + switches_in first) M (with_work (jobs.Statement first around) p) = lead_statement first around p (subst (λ c. Goes calls s c M first around) e (first_goes b L first rest around g)) (lead_more p (λ l x. split l x) k) in
      let all = lead_statements begun (count + switches_in first) (b + switches_in first) L rest around (with_work (jobs.Statement first around) p) (ap (λ c. c + switches_in first) e ∙ in_turn begun count (switches_in first)) (rest_goes b L first rest around g) one in
      subst (λ c. Leading calls s ds begun c L (all_statements (tree.And first rest) around p)) (in_turn count (switches_in first) (all_switches_in rest)) all
    where
      split : (l : ℕ) → Stands ds around.choice (list (tree.And first rest)) l ⊎ L l → Stands ds around.choice first l ⊎ (Stands ds around.choice (list rest) l ⊎ L l)
      split l (inr x) = inr (inr x)
      split l (inl x) = by (stands_in_all ds around.choice l first rest x)
        where
          by : Stands ds around.choice first l ⊎ Stands ds around.choice (list rest) l → Stands ds around.choice first l ⊎ (Stands ds around.choice (list rest) l ⊎ L l)
          by (inl y) = inl y
          by (inr y) = inr (inl y)

-- ---- statements by their form

-- what a statement plans leads on, behind so many switches that were begun before the statement
pub record Comes (calls : ℕ → Bool) (s : SettingView) (ds : List Dispatch) (L : ℕ → Type 0) (before inside : ℕ) (q : Plan) : Type 0 where
  pub begun : ℕ
  pub count : ℕ
  pub leading : Leading calls s ds begun count L q
  pub total : begun + count ≡ before + inside

module _ (calls : ℕ → Bool) (s : SettingView) (ds : List Dispatch) (b : ℕ) (L : ℕ → Type 0) (around : Surroundings) (p : Plan) (start : (M : ℕ → Type 0) → Leading calls s ds b 0 M p) where
  -- a statement that begins no switch
  pub silent : (q : Plan) → Leading calls s ds b 0 L q → Comes calls s ds L b 0 q
  silent q k = record { begun = b; count = 0; leading = k; total = refl }

  from_zero : (n : ℕ) → b + (0 + n) ≡ b + n
  from_zero n = omega arith

  pub comes_block : (xs : List ℕ) (items : StatementTrees) → Goes calls s b L (tree.Block xs items) around → Comes calls s ds L b (all_switches_in items) (block s xs items around p)
  comes_block xs items g =
      let all : GoesAll calls s b L items (in_scope around p.scopes) = record { later = g.later; breaks = g.breaks; plain = g.plain; labels = g.labels; on_break = g.on_break; on_return = g.on_return; choice = g.choice; switches = g.switches } in
      record {
        begun = b;
        count = 0 + all_switches_in items;
        leading = lead_left s.at xs _ (lead_statements calls s ds b 0 b L items (in_scope around p.scopes) (all_entered s.at xs (with_scope p)) (none_more b) all (lead_entered s.at xs (with_scope p) (lead_scope p (start _))));
        total = from_zero (all_switches_in items);
      }

  -- the only part of a statement
  one_goes : (M : ℕ → Type 0) (whole body : StatementTree) (g : Goes calls s b L whole around) → is_plain_statement calls g.later g.breaks body ≡ true → ((l : ℕ) → L l → M l) → (HasOwn body → HasOwn whole) → LabelsStand s body b → Goes calls s (b + 0) M body around
  one_goes M whole body g plain more own stand = subst (λ c. Goes calls s c M body around) (none_more b)
      (record { later = g.later; breaks = g.breaks; plain = plain; labels = λ l e. more l (g.labels l e); on_break = λ e. more around.on_break.label (g.on_break e); on_return = λ e. more s.end (g.on_return e); choice = λ x. g.choice (own x); switches = stand })

  pub comes_if : (e : TermTree) (body : StatementTree) → Goes calls s b L (tree.If e body) around → Comes calls s ds L b (switches_in body) (selection e body around p)
  comes_if e body g =
      let x = both _ _ g.plain in
      record {
        begun = b;
        count = 0 + switches_in body;
        leading = lead_mark (p.labels + 2) _ (lead_statement body around _ (one_goes _ (tree.If e body) body g x.1 (λ l y. inr y) (λ own. own) g.switches)
            (lead_mark (p.labels + 1) _ (lead_condition e _ _ x.0 (inl refl) (inr (inr (inl refl))) (lead_mark p.labels _ (lead_labels 3 p (start _))))));
        total = from_zero (switches_in body);
      }

  pub comes_labelled : (label : ℕ) (whole body : StatementTree) (g : Goes calls s b L whole around) → is_plain_statement calls g.later g.breaks body ≡ true → (HasOwn body → HasOwn whole) → LabelsStand s body b → Comes calls s ds L b (switches_in body) (part label body around p)
  comes_labelled label whole body g plain own stand = record {
    begun = b;
    count = 0 + switches_in body;
    leading = lead_statement body around _ (one_goes L whole body g plain (λ l y. y) own stand) (lead_mark label p (start _));
    total = from_zero (switches_in body);
  }

  pub comes_else : (e : TermTree) (first second : StatementTree) → Goes calls s b L (tree.IfElse e first second) around → Comes calls s ds L b (switches_in first + switches_in second) (two_way_selection s e first second around p)
  comes_else e first second g =
      let x = both _ _ g.plain in
      let y = both _ _ x.1 in
      let M = λ (l : ℕ). (l ≡ p.labels + 3) ⊎ L l in
      let N = λ (l : ℕ). (l ≡ p.labels + 2) ⊎ (Stands ds around.choice second l ⊎ M l) in
      let last : Goes calls s (b + (0 + switches_in first)) M second around = subst (λ c. Goes calls s c M second around) (sym (from_zero (switches_in first)))
      (record { later = g.later; breaks = g.breaks; plain = y.1; labels = λ l e. inr (g.labels l e); on_break = λ e. inr (g.on_break e); on_return = λ e. inr (g.on_return e); choice = λ own. in_first_less around.choice b (switches_in first) (g.choice (own_in_second e first second own)); switches = g.switches.1 }) in
      let one : Goes calls s (b + 0) N first around = subst (λ c. Goes calls s c N first around) (none_more b)
      (record { later = stands_or second g.later; breaks = g.breaks; plain = y.0; labels = λ l e. by l (either_true (nat_le 1 (labels_in l second)) (g.later l) e); on_break = λ e. inr (inr (inr (g.on_break e))); on_return = λ e. inr (inr (inr (g.on_return e))); choice = λ own. g.choice (own_in_first e first second own); switches = g.switches.0 }) in
      record {
        begun = b;
        count = (0 + switches_in first) + switches_in second;
        leading = lead_mark (p.labels + 3) _ (lead_statement second around _ last (lead_mark (p.labels + 2) _ (lead_end _ _ _ refl (inr (inr (inl refl)), tt) (lead_statement first around _ one
            (lead_mark (p.labels + 1) _ (lead_condition e _ _ x.0 (inl refl) (inr (inr (inl refl))) (lead_mark p.labels _ (lead_labels 4 p (start _)))))))));
        total = sum (switches_in first) (switches_in second);
      }
    where
      sum : (m n : ℕ) → b + ((0 + m) + n) ≡ b + (m + n)
      sum m n = omega arith

      by : (l : ℕ) → (nat_le 1 (labels_in l second) ≡ true) ⊎ (g.later l ≡ true) → (l ≡ p.labels + 2) ⊎ (Stands ds around.choice second l ⊎ ((l ≡ p.labels + 3) ⊎ L l))
      by l (inl e) = inr (inl (inl (leb-true 1 (labels_in l second) e)))
      by l (inr e) = inr (inr (inr (g.labels l e)))
