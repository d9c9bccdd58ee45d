-- What a plain work consists of leads on, and marks what the work is to mark.
use Rattle.std.proofs.Common.{◌≡◌, ◌≤◌, ◌<◌, ◌⊎◌, inl, inr, ℕ, ◌+◌, ◌-◌, ◌^◌, ◌==◌, Bool, true, false, cond, List, [], ◌∷◌, ◌++◌, length, get_or, Option, Some, None, refl, arith, ap, sym, subst, ◌∙◌, length-append}
use Rattle.std.proofs.lemmas.Bool.{eq-eqb, eqb-true}
use Rattle.std.proofs.lemmas.List.{get_or_append_left}
use Rattle.c_layout.specs.CheckedTrees as tree
use Rattle.c_layout.specs.CheckedTrees.{TermTree, StatementTree, StatementTrees}
use Rattle.c_layout.specs.declared.checked_tree.checked_statements.CaseLabel.{CaseLabel}
use Rattle.cc_base.specs.declared.diagnostics.Place.{Place}
use Rattle.lower_functions.specs.Statements.ScopeJumps.{left, all_entered, all_left}
use Rattle.lower_functions.specs.Statements.PlainStatements.{all_statements, in_scope}
use Rattle.lower_functions.specs.Statements.Loops.{selection, two_way_selection, part, while_loop, do_loop, in_loop, check, unused, for_from}
use Rattle.lower_functions.specs.Statements.Switches.{no_dispatch, dispatch_at, begin_switch, in_switch, switch}
use Rattle.lower_functions.specs.Statements.Statements.{statement}
use Rattle.lower_templates.specs.Worklist.Pieces.{Mark}
use Rattle.lower_templates.specs.Worklist.Works as jobs
use Rattle.lower_templates.specs.Worklist.Works.{Job, behind}
use Rattle.lower_templates.specs.Worklist.Plans.{Plan, with_work, with_scope}
use Rattle.lower_templates.specs.Worklist.Settings.{SettingView}
use Rattle.lower_templates.specs.declared.worklist.template_builder.Dispatch.{Dispatch}
use Rattle.lower_templates.specs.declared.worklist.pending_works.Surroundings.{Surroundings}
use Rattle.lower_template_theorems.specs.Worklists.Derivations.{is_piece, parts}
use Rattle.lower_template_theorems.specs.Growth.Growth.{Grows}
use Rattle.lower_template_theorems.proofs.growth.Growth.{grows_not, grows_work}
use Rattle.lower_template_theorems.proofs.growth.GrowingStatements.{grows_dispatch_of}
use Rattle.lower_template_theorems.proofs.growth.GrowingWorks.{grows_parts}
use Rattle.lower_template_theorems.specs.PendingLabels.Marks.{one, labels_in, cases_in, defaults_in}
use Rattle.simulation_terms.specs.Scopes.Scopes.{switches_in}
use Rattle.typed_programs.specs.PlainWorklists.LeadingPieces.{AreOfObjects}
use Rattle.typed_programs.proofs.plain_worklists.LeadingWorks.{Stands, HasOwn, Brings, switches_of, Goes, IsOn, Leading, lead_none, lead_unused, WillMark, makes_this, makes_work, made}
use Rattle.typed_programs.proofs.plain_worklists.LeadingTerms.{lead_term, lead_pointer}
use Rattle.typed_programs.proofs.plain_worklists.LeadingConditions.{lead_condition_works}
use Rattle.typed_programs.proofs.plain_templates.LeadingStatements.{list, stands_in_two, stands_in_all, stands_nowhere, own_behind_case, own_behind_default, lead_leap, lead_forget, lead_start, lead_copied, lead_list, lead_returned, Comes, silent, comes_block, comes_if, comes_else, comes_labelled}
use Rattle.typed_programs.proofs.plain_templates.LeadingSwitches.{own_dispatch, begins_dispatches, own_there, comes_switch}

-- the switches that were begun have the labels that all of them have at last
abbrev pub Within : List Dispatch → Plan → Type 0
Within ds p = (c : ℕ) → c < length p.dispatches → get_or p.dispatches c no_dispatch ≡ get_or ds c no_dispatch

less_append : (xs ys : List Dispatch) (c : ℕ) → c < length xs → c < length (xs ++ ys)
less_append [] ys c less = absurd (no c less)
  where
    no : (c : ℕ) → c < 0 → ⊥
    no c less = omega (arith, less)
less_append (x ∷ xs) ys c less = by c less
  where
    by : (c : ℕ) → c < length (x ∷ xs) → c < length (x ∷ (xs ++ ys))
    by c less = let e = length-append xs ys in omega (arith, less, e)

pub within_before : (ds : List Dispatch) (p q : Plan) → Grows p q → Within ds q → Within ds p
within_before ds p q g known c less =
    let there = subst (λ xs. c < length xs) (sym g.dispatches) (less_append p.dispatches g.more_dispatches c less) in
    sym (get_or_append_left p.dispatches g.more_dispatches no_dispatch c less) ∙ ap (λ xs. get_or xs c no_dispatch) (sym g.dispatches) ∙ known c there

this_or : (l m a : ℕ) → 1 ≤ one l m + a → (l ≡ m) ⊎ (1 ≤ a)
this_or l m a some = by (l == m) refl some
  where
    only : 1 ≤ 0 + a → 1 ≤ a
    only some = omega (arith, some)

    by : (b : Bool) → (l == m) ≡ b → 1 ≤ cond b 1 0 + a → (l ≡ m) ⊎ (1 ≤ a)
    by true e some = inl (eqb-true l m e)
    by false e some = inr (only some)

not_plain : {A : Type 0} → false ≡ true → A
not_plain e = absurd (cc)

-- ---- marks that are to come

pub makes_left : {ds : List Dispatch} {l : ℕ} (at : Place) (xs : List ℕ) (p : Plan) → WillMark ds l p → WillMark ds l (all_left at xs p)
makes_left at [] p k = k
makes_left at (x ∷ xs) p k = makes_left at xs (left at x p) (search made depth 30)

makes_all_later : {ds : List Dispatch} {l : ℕ} (items : StatementTrees) (around : Surroundings) (p : Plan) → WillMark ds l p → WillMark ds l (all_statements items around p)
makes_all_later tree.NoMore around p k = k
makes_all_later (tree.And first rest) around p k = makes_all_later rest around (with_work (jobs.Statement first around) p) (makes_work (jobs.Statement first around) p k)

pub makes_all : {ds : List Dispatch} {l : ℕ} (items : StatementTrees) (around : Surroundings) (p : Plan) → Stands ds around.choice (list items) l → WillMark ds l (all_statements items around p)
makes_all {ds = ds} {l = l} tree.NoMore around p is = stands_nowhere ds around.choice l is
makes_all {ds = ds} {l = l} (tree.And first rest) around p is = by (stands_in_all ds around.choice l first rest is) (λ x. makes_all rest around (with_work (jobs.Statement first around) p) x)
  where
    by : Stands ds around.choice first l ⊎ Stands ds around.choice (list rest) l → (Stands ds around.choice (list rest) l → WillMark ds l (all_statements (tree.And first rest) around p)) → WillMark ds l (all_statements (tree.And first rest) around p)
    by (inl x) further = makes_all_later rest around (with_work (jobs.Statement first around) p) (makes_this (jobs.Statement first around) p x)
    by (inr x) further = further x

pub makes_unused : {ds : List Dispatch} {l : ℕ} (e : Option TermTree) (p : Plan) → WillMark ds l p → WillMark ds l (unused e p)
makes_unused None p k = k
makes_unused (Some e) p k = makes_work _ _ k

pub makes_check : {ds : List Dispatch} {l : ℕ} (label : ℕ) (test : Option TermTree) (first second : ℕ) (p : Plan) → WillMark ds l p → WillMark ds l (check label test first second p)
makes_check label None first second p k = makes_work _ _ k
makes_check label (Some e) first second p k = makes_work _ _ (makes_work _ _ k)

module _ (s : SettingView) (ds : List Dispatch) (l : ℕ) where
  makes_if : (e : TermTree) (body : StatementTree) (around : Surroundings) (p : Plan) → Stands ds around.choice body l → WillMark ds l (selection e body around p)
  makes_if e body around p is = makes_work _ _ (makes_this (jobs.Statement body around) _ is)

  makes_else : (e : TermTree) (first second : StatementTree) (around : Surroundings) (p : Plan) → Stands ds around.choice first l ⊎ Stands ds around.choice second l → WillMark ds l (two_way_selection s e first second around p)
  makes_else e first second around p (inl is) = makes_work _ _ (makes_work _ _ (makes_work _ _ (makes_work _ _ (makes_this (jobs.Statement first around) _ is))))
  makes_else e first second around p (inr is) = makes_work _ _ (makes_this (jobs.Statement second around) _ is)

  makes_part : (label : ℕ) (body : StatementTree) (around : Surroundings) (p : Plan) → (l ≡ label) ⊎ Stands ds around.choice body l → WillMark ds l (part label body around p)
  makes_part label body around p (inl is) = makes_work _ _ (makes_this (jobs.Ready (Mark label)) _ is)
  makes_part label body around p (inr is) = makes_this (jobs.Statement body around) _ is

  makes_switch : (at : Place) (e : TermTree) (cases : List CaseLabel) (body : StatementTree) (around : Surroundings) (p : Plan) → 1 ≤ labels_in l body → WillMark ds l (switch s at e cases body around p)
  makes_switch at e cases body around p is = makes_work _ _ (makes_this (jobs.Statement body (in_switch around (begin_switch (length cases) around.scope p).begun)) _ (inl is))

  in_case : (n c : ℕ) (d : Dispatch) (body : StatementTree) → d ≡ get_or ds c no_dispatch → Stands ds c (tree.Case n body) l → (l ≡ behind d.cases n) ⊎ Stands ds c body l
  in_case n c d body same (inl is) = inr (inl is)
  in_case n c d body same (inr (inr is)) = inr (inr (inr is))
  in_case n c d body same (inr (inl x)) = by (this_or x.0 n (cases_in x.0 body) x.1)
    where
      by : (x.0 ≡ n) ⊎ (1 ≤ cases_in x.0 body) → (l ≡ behind d.cases n) ⊎ Stands ds c body l
      by (inl e) = inl (x.2 ∙ ap (λ k. behind (get_or ds c no_dispatch).cases k) e ∙ ap (λ (d : Dispatch). behind d.cases n) (sym same))
      by (inr some) = inr (inr (inl (x.0, some, x.2)))

  in_default : (c : ℕ) (d : Dispatch) (body : StatementTree) → d ≡ get_or ds c no_dispatch → Stands ds c (tree.Default body) l → (l ≡ d.fallback) ⊎ Stands ds c body l
  in_default c d body same (inl is) = inr (inl is)
  in_default c d body same (inr (inl is)) = inr (inr (inl is))
  in_default c d body same (inr (inr x)) = inl (x.1 ∙ ap (λ (d : Dispatch). d.fallback) (sym same))

  in_label : (n c : ℕ) (body : StatementTree) → Stands ds c (tree.Label n body) l → (l ≡ n) ⊎ Stands ds c body l
  in_label n c body (inr is) = inr (inr is)
  in_label n c body (inl is) = by (this_or l n (labels_in l body) is)
    where
      by : (l ≡ n) ⊎ (1 ≤ labels_in l body) → (l ≡ n) ⊎ Stands ds c body l
      by (inl e) = inl e
      by (inr some) = inr (inl some)

  has_own_case : (n : ℕ) (body : StatementTree) → HasOwn (tree.Case n body)
  has_own_case n body = inl (n, first (n == n) (cases_in n body) (eq-eqb n n refl))
    where
      more : (a : ℕ) → 1 ≤ 1 + a
      more a = omega arith

      first : (b : Bool) (a : ℕ) → b ≡ true → 1 ≤ cond b 1 0 + a
      first true a e = more a
      first false a e = absurd (cc)

  has_own_default : (body : StatementTree) → HasOwn (tree.Default body)
  has_own_default body = inr (more (defaults_in body))
    where
      more : (a : ℕ) → 1 ≤ 1 + a
      more a = omega arith

  -- the labels of a switch that is begun
  same_dispatch : (c b : ℕ) (p : Plan) → b ≡ length p.dispatches → c < b → Within ds p → dispatch_at p c ≡ get_or ds c no_dispatch
  same_dispatch c b p e less known = known c (subst (λ k. c < k) e less)

  makes_while : (e : TermTree) (body : StatementTree) (around : Surroundings) (p : Plan) → Stands ds around.choice body l → WillMark ds l (while_loop s e body around p)
  makes_while e body around p is = makes_work _ _ (makes_work _ _ (makes_this (jobs.Statement body (in_loop around (p.labels + 2) p.labels)) _ is))

  makes_do : (body : StatementTree) (e : TermTree) (around : Surroundings) (p : Plan) → Stands ds around.choice body l → WillMark ds l (do_loop body e around p)
  makes_do body e around p is = makes_work _ _ (makes_work _ _ (makes_work _ _ (makes_this (jobs.Statement body (in_loop around (p.labels + 2) (p.labels + 1))) _ is)))

  makes_for_from : (first : ℕ) (xs : List ℕ) (items : StatementTrees) (test after : Option TermTree) (body : StatementTree) (inside : Surroundings) (p : Plan) → Stands ds inside.choice (list items) l ⊎ Stands ds inside.choice body l → WillMark ds l (for_from s first xs items test after body inside p)
  makes_for_from first xs items test after body inside p (inl is) = makes_left s.at xs _ (makes_work _ _ (makes_work _ _ (makes_unused after _ (makes_work _ _ (makes_work _ _ (makes_work _ _ (makes_check (first + 1) test (first + 2) (first + 4) _ (makes_all items inside _ is))))))))
  makes_for_from first xs items test after body inside p (inr is) = makes_left s.at xs _ (makes_work _ _ (makes_work _ _ (makes_unused after _ (makes_work _ _ (makes_this (jobs.Statement body (in_loop inside (first + 4) (first + 3))) _ is)))))

  pub makes_statement : (b : ℕ) (i : StatementTree) (around : Surroundings) (p : Plan) → b ≡ length p.dispatches → Within ds p → (HasOwn i → around.choice < b) → Stands ds around.choice i l → WillMark ds l (statement s i around p)
  makes_statement b (tree.Value e) around p same known begun is = stands_nowhere ds around.choice l is
  makes_statement b tree.Nothing around p same known begun is = stands_nowhere ds around.choice l is
  makes_statement b (tree.Forget at object) around p same known begun is = stands_nowhere ds around.choice l is
  makes_statement b (tree.Start at object e) around p same known begun is = stands_nowhere ds around.choice l is
  makes_statement b (tree.StartCopy at object x) around p same known begun is = stands_nowhere ds around.choice l is
  makes_statement b (tree.StartList at object stores) around p same known begun is = stands_nowhere ds around.choice l is
  makes_statement b (tree.Block xs items) around p same known begun is = makes_left s.at xs _ (makes_all items (in_scope around p.scopes) (all_entered s.at xs (with_scope p)) is)
  makes_statement b (tree.If e body) around p same known begun is = makes_if e body around p is
  makes_statement b (tree.IfElse e first second) around p same known begun is = makes_else e first second around p (stands_in_two ds around.choice l first second is)
  makes_statement b (tree.While e body) around p same known begun is = makes_while e body around p is
  makes_statement b (tree.Do body e) around p same known begun is = makes_do body e around p is
  makes_statement b (tree.For xs first test after body) around p same known begun is = makes_for_from (with_scope p).labels xs first test after body (in_scope around p.scopes) (with_scope p) (stands_in_two ds around.choice l (list first) body is)
  makes_statement b (tree.Switch at e cases has_default values body) around p same known begun (inl is) = makes_switch at e cases body around p is
  makes_statement b (tree.Switch at e cases has_default values body) around p same known begun (inr is) = stands_nowhere ds around.choice l (inr is)
  makes_statement b (tree.Case n body) around p same known begun is = makes_part _ body around p (in_case n around.choice (dispatch_at p around.choice) body (same_dispatch around.choice b p same (begun (has_own_case n body)) known) is)
  makes_statement b (tree.Default body) around p same known begun is = makes_part _ body around p (in_default around.choice (dispatch_at p around.choice) body (same_dispatch around.choice b p same (begun (has_own_default body)) known) is)
  makes_statement b (tree.Label n body) around p same known begun is = makes_part n body around p (in_label n around.choice body is)
  makes_statement b (tree.Goto n) around p same known begun is = stands_nowhere ds around.choice l is
  makes_statement b tree.Break around p same known begun is = stands_nowhere ds around.choice l is
  makes_statement b tree.Continue around p same known begun is = stands_nowhere ds around.choice l is
  makes_statement b (tree.Return at e) around p same known begun is = stands_nowhere ds around.choice l is

-- ---- what a work consists of

module _ (calls : ℕ → Bool) (s : SettingView) (ds : List Dispatch) (L : ℕ → Type 0) where
  switch_grows : (at : Place) (e : TermTree) (cases : List CaseLabel) (body : StatementTree) (around : Surroundings) (p : Plan) → Grows (begin_switch (length cases) around.scope p).after (switch s at e cases body around p)
  switch_grows at e cases body around p =
      let b = begin_switch (length cases) around.scope p in
      let sent = grows_dispatch_of s at e cases around.scope b.begun b.after (grows_not b.after) in
      grows_work _ _ (grows_work _ _ sent)

  begun_there : (count scope : ℕ) (p : Plan) → length p.dispatches < length (begin_switch count scope p).after.dispatches
  begun_there count scope p = subst (λ xs. length p.dispatches < length xs) (sym (begins_dispatches count scope p)) (let e = length-append p.dispatches (own_dispatch count p ∷ []) in omega (arith, e))

  pub comes_statement : (i : StatementTree) (around : Surroundings) (p : Plan) → p.jobs ≡ [] → AreOfObjects p.names → p.labels ≤ 2 ^ 32 - 1 → Within ds (statement s i around p) → Goes calls s (length p.dispatches) L i around → Comes calls s ds L (length p.dispatches) (switches_in i) (statement s i around p)
  comes_statement i around p none names few known g = by i known g (λ M. lead_none p none names)
    where
      b : ℕ
      b = length p.dispatches

      by : (i : StatementTree) → Within ds (statement s i around p) → Goes calls s b L i around → ((M : ℕ → Type 0) → Leading calls s ds b 0 M p) → Comes calls s ds L b (switches_in i) (statement s i around p)
      by (tree.Value e) known g start = silent calls s ds b L around p start _ (lead_unused e 0 p g.plain (start L))
      by tree.Nothing known g start = silent calls s ds b L around p start _ (start L)
      by (tree.Forget at object) known g start = silent calls s ds b L around p start _ (lead_forget at object p (start L))
      by (tree.Start at object e) known g start = silent calls s ds b L around p start _ (lead_start at object e p g.plain (start L))
      by (tree.StartCopy at object x) known g start = silent calls s ds b L around p start _ (lead_copied at object x p g.plain (start L))
      by (tree.StartList at object stores) known g start = silent calls s ds b L around p start _ (lead_list at object stores p g.plain (start L))
      by (tree.Block xs items) known g start = comes_block calls s ds b L around p start xs items g
      by (tree.If e body) known g start = comes_if calls s ds b L around p start e body g
      by (tree.IfElse e first second) known g start = comes_else calls s ds b L around p start e first second g
      by (tree.While e body) known g start = not_plain g.plain
      by (tree.Do body e) known g start = not_plain g.plain
      by (tree.For xs first test after body) known g start = not_plain g.plain
      by (tree.Switch at e cases has_default values body) known g start =
          let before = within_before ds (begin_switch (length cases) around.scope p).after (switch s at e cases body around p) (switch_grows at e cases body around p) known in
          comes_switch calls s ds L at e cases has_default values body around p none names few (sym (before b (begun_there (length cases) around.scope p)) ∙ own_there (length cases) around.scope p) g
      by (tree.Case n body) known g start = comes_labelled calls s ds b L around p start _ (tree.Case n body) body g g.plain (own_behind_case n body) g.switches
      by (tree.Default body) known g start = comes_labelled calls s ds b L around p start _ (tree.Default body) body g g.plain (own_behind_default body) g.switches
      by (tree.Label n body) known g start = comes_labelled calls s ds b L around p start n (tree.Label n body) body g g.plain (λ own. own) g.switches
      by (tree.Goto n) known g start = silent calls s ds b L around p start _ (lead_leap around.scope _ p (g.labels n g.plain) (start L))
      by tree.Break known g start = silent calls s ds b L around p start _ (lead_leap around.scope around.on_break p (g.on_break g.plain) (start L))
      by tree.Continue known g start = not_plain g.plain
      by (tree.Return at e) known g start = silent calls s ds b L around p start _ (lead_returned at e around p g.plain g.on_return (start L))

  no_piece : {A : Type 0} → true ≡ false → A
  no_piece e = absurd (cc)

  pub comes_parts : (j : Job) (p : Plan) → is_piece j ≡ false → p.jobs ≡ [] → AreOfObjects p.names → p.labels ≤ 2 ^ 32 - 1 → Within ds (parts s j p) → IsOn calls s (length p.dispatches) L j → Comes calls s ds L (length p.dispatches) (switches_of j) (parts s j p)
  comes_parts (jobs.Value e depth) p other none names few known on = record { begun = length p.dispatches; count = 0; leading = lead_term e depth true p on (λ M. lead_none p none names); total = refl }
  comes_parts (jobs.Unused e depth) p other none names few known on = record { begun = length p.dispatches; count = 0; leading = lead_term e depth false p on (λ M. lead_none p none names); total = refl }
  comes_parts (jobs.Address place depth) p other none names few known on = record { begun = length p.dispatches; count = 0; leading = lead_pointer place depth p on (lead_none p none names); total = refl }
  comes_parts (jobs.Condition e d) p other none names few known on = record { begun = length p.dispatches; count = 0; leading = lead_condition_works e d p on.0 on.1 on.2 (λ M. lead_none p none names); total = refl }
  comes_parts (jobs.Statement i around) p other none names few known on = comes_statement i around p none names few known on
  comes_parts (jobs.Ready q) p other none names few known on = no_piece other

  pub makes_parts : (j : Job) (p : Plan) → is_piece j ≡ false → Within ds (parts s j p) → IsOn calls s (length p.dispatches) L j → (l : ℕ) → Brings ds j l → WillMark ds l (parts s j p)
  makes_parts (jobs.Value e depth) p other known on l is = absurd is
  makes_parts (jobs.Unused e depth) p other known on l is = absurd is
  makes_parts (jobs.Address place depth) p other known on l is = absurd is
  makes_parts (jobs.Condition e d) p other known on l is = absurd is
  makes_parts (jobs.Statement i around) p other known on l is = makes_statement s ds l (length p.dispatches) i around p refl (within_before ds p (statement s i around p) (grows_parts s (jobs.Statement i around) p) known) on.choice is
  makes_parts (jobs.Ready q) p other known on l is = no_piece other
