-- Works come to pieces that mark what the works are to mark, and whose edges lead to labels that are marked.
use Rattle.std.proofs.Common.{◌≡◌, ◌≤◌, ◌<◌, ◌⊎◌, inl, inr, ℕ, ◌+◌, ◌-◌, ◌^◌, ◌==◌, Bool, true, false, List, [], ◌∷◌, ◌++◌, length, get_or, refl, arith, sym, subst, ◌∙◌, length-append}
use Rattle.std.proofs.lemmas.Bool.{eq-eqb, eqb-true}
use Rattle.std.proofs.lemmas.List.{append-nil}
use Rattle.c_layout.specs.CheckedTrees as tree
use Rattle.c_layout.specs.CheckedTrees.{StatementTree}
use Rattle.c_layout.specs.CheckedUnits.{FunctionView}
use Rattle.lower_functions.specs.Functions.Turns.{planless}
use Rattle.lower_template_theorems.specs.Growth.Growth.{Grows}
use Rattle.lower_template_theorems.proofs.growth.Growth.{grows_not, grows_work}
use Rattle.lower_template_theorems.proofs.growth.GrowingStatements.{grows_dispatch_of}
use Rattle.lower_template_theorems.proofs.growth.GrowingWorks.{grows, grows_parts, jobs_none}
use Rattle.typed_programs.specs.PlainUnits.PlainStatements.{is_plain_statement}
use Rattle.typed_programs.proofs.plain_templates.LeadingForms as plain
use Rattle.typed_programs.proofs.plain_templates.LeadingForms.{Within, within_before, makes_statement}
use Rattle.typed_programs.proofs.plain_templates.LeadingStatements.{own_behind_case, own_behind_default}
use Rattle.typed_programs.proofs.plain_templates.LeadingSwitches.{own_dispatch, begins_dispatches, own_there}
use Rattle.typed_programs.proofs.plain_templates.LeadingTemplates.{Led, led, behind_all, marked_append, marked_first, lead_on_more, lead_append, brought_or}
use Rattle.typed_programs.specs.PlainWorklists.LeadingPieces.{AreOfObjects, Marks, Marked, LeadOn, NoLabel}
use Rattle.typed_programs.specs.PlainWorklists.SwitchLabels.{LabelsStand}
use Rattle.typed_programs.proofs.plain_worklists.LeadingWorks.{Brings, Brought, switches_of, all_switches_of, Goes, IsOn, leading_more, WillMark}
use Rattle.lower_functions.specs.Statements.Statements.{statement}
use Rattle.lower_functions.specs.Statements.Switches.{begin_switch, switch}
use Rattle.lower_templates.specs.Worklist.Pieces.{PieceView}
use Rattle.lower_templates.specs.Worklist.Works as jobs
use Rattle.lower_templates.specs.Worklist.Works.{Job}
use Rattle.lower_templates.specs.Worklist.Plans.{Plan, with_scope}
use Rattle.lower_templates.specs.Worklist.Settings.{SettingView}
use Rattle.lower_templates.specs.declared.worklist.template_builder.Dispatch.{Dispatch}
use Rattle.lower_templates.specs.declared.worklist.pending_works.Surroundings.{Surroundings}
use Rattle.lower_template_theorems.specs.Worklists.Derivations.{is_piece, parts, Makes, nothing, piece, work}
use Rattle.lower_functions.specs.Statements.PlainStatements.{in_scope}
use Rattle.simulation_terms.specs.Scopes.Scopes.{switches_in}
use Rattle.simulation_terms.specs.Scopes.SuitedStatements.{HasLabel}
use Rattle.typed_lowering.proofs.looped_templates.CalmWorks.{JumpsWithin, IsWithin, IsCalmWork, AreCalmWorks, Calm, leading_calm, calm_none, calm_scope}
use Rattle.typed_lowering.proofs.looped_templates.CalmStatements.{Becomes, becomes_block, becomes_labelled, becomes_if, becomes_else, becomes_while, becomes_do, becomes_for}
use Rattle.typed_lowering.proofs.looped_templates.CalmSwitches.{becomes_switch}

never : {A : Type 0} → false ≡ true → A
never e = absurd (cc)

begun_there : (count scope : ℕ) (p : Plan) → length p.dispatches < length (begin_switch count scope p).after.dispatches
begun_there count scope p = subst (λ xs. length p.dispatches < length xs) (sym (begins_dispatches count scope p)) (let e = length-append p.dispatches (own_dispatch count p ∷ []) in omega (arith, e))

-- ---- what a statement consists of

module _ (calls : ℕ → Bool) (s : SettingView) (f : FunctionView) (W : ℕ → Type 0) (labels : (l : ℕ) → HasLabel f l → W l) (back : s.is_entry ≡ false → W s.end) (ds : List Dispatch) where
  becomes_statement : (i : StatementTree) (around : Surroundings) (p : Plan) → p.jobs ≡ [] → AreOfObjects p.names → p.labels ≤ 2 ^ 32 - 1 → Within ds (statement s i around p) → JumpsWithin calls s f W (length p.dispatches) i around → ((l : ℕ) → WillMark ds l (statement s i around p) → W l)
      → Becomes calls s f W (length p.dispatches) (switches_in i) (statement s i around p)
  becomes_statement i around p none names few known g own = by i known g own
    where
      b : ℕ
      b = length p.dispatches

      start : Calm calls s f W b 0 p
      start = calm_none p none names

      -- a statement without others in it
      simple : (i : StatementTree) (to : Surroundings) → Within ds (statement s i to p) → Goes calls s b W i to → ((l : ℕ) → WillMark ds l (statement s i to p) → W l) → Becomes calls s f W b (switches_in i) (statement s i to p)
      simple i to known g own =
          let c = plain.comes_statement calls s ds W i to p none names few known g in
          record { begun = c.begun; count = c.count; calm = leading_calm ds W (statement s i to p) (λ l x. marks l (brought_or calls s ds (statement s i to p).jobs W l x)) c.leading; total = c.total }
        where
          marks : (l : ℕ) → Brought ds (statement s i to p).jobs NoLabel l ⊎ W l → W l
          marks l (inl x) = own l (record { brought = x })
          marks l (inr x) = x

      -- one that leads on, and jumps nowhere
      quiet : (i : StatementTree) → is_plain_statement calls (λ l. false) false i ≡ true → LabelsStand s i b → JumpsWithin calls s f W b i around → Goes calls s b W i around
      quiet i plain stand g = record { later = λ l. false; breaks = false; plain = plain; labels = λ l e. never e; on_break = λ e. never e; on_return = back; choice = g.choice; switches = stand }

      by : (i : StatementTree) → Within ds (statement s i around p) → JumpsWithin calls s f W b i around → ((l : ℕ) → WillMark ds l (statement s i around p) → W l) → Becomes calls s f W b (switches_in i) (statement s i around p)
      by (tree.Value e) known g own = simple (tree.Value e) around known (quiet (tree.Value e) g.held tt g) own
      by tree.Nothing known g own = simple tree.Nothing around known (quiet tree.Nothing refl tt g) own
      by (tree.Forget at object) known g own = simple (tree.Forget at object) around known (quiet (tree.Forget at object) refl tt g) own
      by (tree.Start at object e) known g own = simple (tree.Start at object e) around known (quiet (tree.Start at object e) g.held tt g) own
      by (tree.StartCopy at object x) known g own = simple (tree.StartCopy at object x) around known (quiet (tree.StartCopy at object x) g.held tt g) own
      by (tree.StartList at object stores) known g own = simple (tree.StartList at object stores) around known (quiet (tree.StartList at object stores) g.held tt g) own
      by (tree.Block xs items) known g own = becomes_block calls s f W ds b around p start xs items g
      by (tree.If e body) known g own = becomes_if calls s f W ds b around p start e body g own
      by (tree.IfElse e first second) known g own = becomes_else calls s f W ds b around p start e first second g own
      by (tree.While e body) known g own = becomes_while calls s f W ds b around p start e body g own
      by (tree.Do body e) known g own = becomes_do calls s f W ds b around p start body e g own
      by (tree.For xs first test after body) known g own =
          let inside : JumpsWithin calls s f W b (tree.For xs first test after body) (in_scope around p.scopes) = record { breaks = g.breaks; loops = g.loops; held = g.held; on_break = g.on_break; on_continue = g.on_continue; choice = g.choice } in
          becomes_for calls s f W ds b (with_scope p).labels xs first test after body (in_scope around p.scopes) (with_scope p) (calm_scope p start) inside own
      by (tree.Switch at e cases has_default values body) known g own =
          let begun = begin_switch (length cases) around.scope p in
          let sent = grows_dispatch_of s at e cases around.scope begun.begun begun.after (grows_not begun.after) in
          let before = within_before ds begun.after (switch s at e cases body around p) (grows_work _ _ (grows_work _ _ sent)) known in
          becomes_switch calls s f W ds at e cases has_default values body around p own none names few (sym (before b (begun_there (length cases) around.scope p)) ∙ own_there (length cases) around.scope p) g
      by (tree.Case n body) known g own = becomes_labelled calls s f W ds b around p start _ (tree.Case n body) body g g.held (own_behind_case n body)
      by (tree.Default body) known g own = becomes_labelled calls s f W ds b around p start _ (tree.Default body) body g g.held (own_behind_default body)
      by (tree.Label n body) known g own = becomes_labelled calls s f W ds b around p start n (tree.Label n body) body g g.held (λ o. o)
      by (tree.Goto n) known g own = simple (tree.Goto n) around known
          (record { later = λ l. l == n; breaks = false; plain = eq-eqb n n refl; labels = λ l e. subst W (sym (eqb-true l n e)) (labels n g.held); on_break = λ e. never e; on_return = back; choice = g.choice; switches = tt }) own
      by tree.Break known g own = simple tree.Break around known (record { later = λ l. false; breaks = true; plain = refl; labels = λ l e. never e; on_break = λ e. g.on_break g.held; on_return = back; choice = g.choice; switches = tt }) own
      by tree.Continue known g own =
          let to : Surroundings = record { scope = around.scope; on_break = around.on_continue; on_continue = around.on_continue; choice = around.choice } in
          simple tree.Break to known (record { later = λ l. false; breaks = true; plain = refl; labels = λ l e. never e; on_break = λ e. g.on_continue g.held; on_return = back; choice = g.choice; switches = tt }) own
      by (tree.Return at e) known g own = simple (tree.Return at e) around known (quiet (tree.Return at e) g.held tt g) own

  -- so does a work that is a statement
  pub becomes_parts : (j : Job) (p : Plan) → p.jobs ≡ [] → AreOfObjects p.names → p.labels ≤ 2 ^ 32 - 1 → Within ds (parts s j p) → IsWithin calls s f W (length p.dispatches) j → ((l : ℕ) → WillMark ds l (parts s j p) → W l) → Becomes calls s f W (length p.dispatches) (switches_of j) (parts s j p)
  becomes_parts (jobs.Value e depth) p none names few known g own = absurd g
  becomes_parts (jobs.Unused e depth) p none names few known g own = absurd g
  becomes_parts (jobs.Address place depth) p none names few known g own = absurd g
  becomes_parts (jobs.Condition e d) p none names few known g own = absurd g
  becomes_parts (jobs.Statement i around) p none names few known g own = becomes_statement i around p none names few known g own
  becomes_parts (jobs.Ready q) p none names few known g own = absurd g

-- what it is to mark
makes_within : (calls : ℕ → Bool) (s : SettingView) (f : FunctionView) (W : ℕ → Type 0) (ds : List Dispatch) (j : Job) (p : Plan) → Within ds (parts s j p) → IsWithin calls s f W (length p.dispatches) j → (l : ℕ) → Brings ds j l → WillMark ds l (parts s j p)
makes_within calls s f W ds (jobs.Value e depth) p known g l is = absurd g
makes_within calls s f W ds (jobs.Unused e depth) p known g l is = absurd g
makes_within calls s f W ds (jobs.Address place depth) p known g l is = absurd g
makes_within calls s f W ds (jobs.Condition e d) p known g l is = absurd g
makes_within calls s f W ds (jobs.Statement i around) p known g l is = makes_statement s ds l (length p.dispatches) i around p refl (within_before ds p (statement s i around p) (grows_parts s (jobs.Statement i around) p) known) g.choice is
makes_within calls s f W ds (jobs.Ready q) p known g l is = absurd g

-- ---- works

through : (a b c : ℕ) → a ≤ b → b ≤ c → a ≤ c
through a b c x y = omega (arith, x, y)

sum : (d r a b c p x : ℕ) → d ≡ b → a ≡ c → b + c ≡ p + x → r ≡ d + a → r ≡ p + x
sum d r a b c p x e f g h = omega (arith, e, f, g, h)

last : (q r p x y : ℕ) → q ≡ p + x → r ≡ q + y → r ≡ p + (x + y)
last q r p x y e f = omega (arith, e, f)

only : (q p x : ℕ) → q ≡ p + (x + 0) → q ≡ p + x
only q p x e = omega (arith, e)

none_more : (a : ℕ) → a ≡ a + 0
none_more a = omega arith

after_none : (a : ℕ) → a + 0 ≡ a
after_none a = omega arith

none_before : (a b c : ℕ) → c ≡ a + b → c ≡ a + (0 + b)
none_before a b c e = omega (arith, e)

-- any label
abbrev pub AnyLabel : ℕ → Type 0
AnyLabel l = Unit {0}

marked_second : (ps qs : List PieceView) (l : ℕ) → Marked qs NoLabel l → Marked (ps ++ qs) NoLabel l
marked_second ps qs l is = marked_append ps qs NoLabel l (behind_all ps (Marked qs NoLabel) l is)

module _ (calls : ℕ → Bool) (s : SettingView) (f : FunctionView) (ds : List Dispatch) where
  -- works come to pieces that mark what the works are to mark
  pub record Marking (js : List Job) (ps : List PieceView) (p r : Plan) : Type 0 where
    pub marks : (l : ℕ) → Brought ds js NoLabel l → Marked ps NoLabel l
    pub names : AreOfObjects r.names
    pub count : length r.dispatches ≡ length p.dispatches + all_switches_of js

  -- a work that leads on
  led_one : (W : ℕ → Type 0) (p : Plan) (j : Job) (ps : List PieceView) (q : Plan) → is_piece j ≡ false → Makes s (planless (parts s j p)) (parts s j p).jobs ps q → p.jobs ≡ [] → AreOfObjects p.names → q.labels ≤ 2 ^ 32 - 1 → Within ds q → IsOn calls s (length p.dispatches) W j → Led calls s ds W (j ∷ []) ps p q
  led_one W p j ps q other m none names few known on = subst (λ xs. Led calls s ds W (j ∷ []) xs p q) (append-nil ps) (led calls s ds W p (j ∷ []) (ps ++ []) q (work p j [] ps q [] q other m (nothing q)) none names few known (on, tt))

  -- a work and those behind it
  joined : (j : Job) (js : List Job) (ps qs : List PieceView) (p q r : Plan) → ((l : ℕ) → Brings ds j l → Marked ps NoLabel l) → length q.dispatches ≡ length p.dispatches + switches_of j → Marking js qs q r → Marking (j ∷ js) (ps ++ qs) p r
  joined j js ps qs p q r one count y = record { marks = by; names = y.names; count = last (length q.dispatches) (length r.dispatches) (length p.dispatches) (switches_of j) (all_switches_of js) count y.count }
    where
      by : (l : ℕ) → Brought ds (j ∷ js) NoLabel l → Marked (ps ++ qs) NoLabel l
      by l (inl is) = marked_first ps qs l (one l is)
      by l (inr is) = marked_second ps qs l (y.marks l is)

  pub marking : (p : Plan) (js : List Job) (ps : List PieceView) (r : Plan) → Makes s p js ps r → p.jobs ≡ [] → AreOfObjects p.names → r.labels ≤ 2 ^ 32 - 1 → Within ds r → AreCalmWorks calls s f AnyLabel (length p.dispatches) js → Marking js ps p r
  marking p _ _ r (nothing _) none names few known on = record { marks = λ l x. x; names = names; count = none_more (length p.dispatches) }
  marking p _ _ r (piece _ q js qs _ m) none names few known (one, on) =
      let x = marking p js qs r m none names few known (subst (λ b. AreCalmWorks calls s f AnyLabel b js) (after_none (length p.dispatches)) on) in
      record { marks = λ l is. by x.marks l is; names = x.names; count = none_before (length p.dispatches) (all_switches_of js) (length r.dispatches) x.count }
    where
      by : ((l : ℕ) → Brought ds js NoLabel l → Marked qs NoLabel l) → (l : ℕ) → Brought ds (jobs.Ready q ∷ js) NoLabel l → Marked (q ∷ qs) NoLabel l
      by marks l (inl is) = inl is
      by marks l (inr is) = inr (marks l is)
  marking p _ _ r (work _ j js ps q qs _ other m k) none names few known (inl one, on) =
      let later = grows s q js qs r k in
      let x = led_one AnyLabel p j ps q other m none names (through q.labels r.labels (2 ^ 32 - 1) later.labels few) (within_before ds q r later known) one in
      let count = only (length q.dispatches) (length p.dispatches) (switches_of j) x.count in
      let y = marking q js qs r k (jobs_none s (planless (parts s j p)) (parts s j p).jobs ps q m refl) x.names few known (subst (λ b. AreCalmWorks calls s f AnyLabel b js) (sym count) on) in
      joined j js ps qs p q r (λ l is. x.marks l (inl is)) count y
  marking p _ _ r (work _ j js ps q qs _ other m k) none names few known (inr one, on) =
      let d = parts s j p in
      let later = grows s q js qs r k in
      let inside = grows s (planless d) d.jobs ps q m in
      let known_q = within_before ds q r later known in
      let known_d : Within ds d = within_before ds (planless d) q inside known_q in
      let few_q = through q.labels r.labels (2 ^ 32 - 1) later.labels few in
      let few_p = through p.labels d.labels (2 ^ 32 - 1) (grows_parts s j p).labels (through d.labels q.labels (2 ^ 32 - 1) inside.labels few_q) in
      let c = becomes_parts calls s f AnyLabel (λ l has. tt) (λ e. tt) ds j p none names few_p known_d one (λ l x. tt) in
      let x = marking (planless d) d.jobs ps q m refl c.calm.names few_q known_q (subst (λ b. AreCalmWorks calls s f AnyLabel b d.jobs) (sym c.calm.before) c.calm.works) in
      let count = sum (length d.dispatches) (length q.dispatches) (all_switches_of d.jobs) c.begun c.count (length p.dispatches) (switches_of j) c.calm.before c.calm.begins c.total x.count in
      let y = marking q js qs r k (jobs_none s (planless d) d.jobs ps q m refl) x.names few known (subst (λ b. AreCalmWorks calls s f AnyLabel b js) (sym count) on) in
      joined j js ps qs p q r (λ l is. x.marks l (makes_within calls s f AnyLabel ds j p known_d one l is).brought) count y

-- ---- fewer labels

any_within : (calls : ℕ → Bool) (s : SettingView) (f : FunctionView) (W : ℕ → Type 0) (begun : ℕ) (j : Job) → IsWithin calls s f W begun j → IsWithin calls s f AnyLabel begun j
any_within calls s f W begun (jobs.Value e depth) g = absurd g
any_within calls s f W begun (jobs.Unused e depth) g = absurd g
any_within calls s f W begun (jobs.Address place depth) g = absurd g
any_within calls s f W begun (jobs.Condition e d) g = absurd g
any_within calls s f W begun (jobs.Statement i around) g = record { breaks = g.breaks; loops = g.loops; held = g.held; on_break = λ e. tt; on_continue = λ e. tt; choice = g.choice }
any_within calls s f W begun (jobs.Ready q) g = absurd g

module _ (calls : ℕ → Bool) (s : SettingView) (f : FunctionView) (W : ℕ → Type 0) (labels : (l : ℕ) → HasLabel f l → W l) (back : s.is_entry ≡ false → W s.end) (ds : List Dispatch) where
  -- calm works come to pieces whose edges lead to labels that are marked
  pub leading : (p : Plan) (js : List Job) (ps : List PieceView) (r : Plan) → Makes s p js ps r → p.jobs ≡ [] → AreOfObjects p.names → r.labels ≤ 2 ^ 32 - 1 → Within ds r → AreCalmWorks calls s f W (length p.dispatches) js → ((l : ℕ) → Marked ps NoLabel l → W l) → LeadOn calls W ps
  leading p _ _ r (nothing _) none names few known on own = tt
  leading p _ _ r (piece _ q js qs _ m) none names few known (inl one, on) own =
      (leading_more calls W (Marked qs W) q (behind_all qs W) one, leading p js qs r m none names few known (subst (λ b. AreCalmWorks calls s f W b js) (after_none (length p.dispatches)) on) (λ l x. own l (inr x)))
  leading p _ _ r (piece _ q js qs _ m) none names few known (inr one, on) own = absurd one
  leading p _ _ r (work _ j js ps q qs _ other m k) none names few known (inl one, on) own =
      let later = grows s q js qs r k in
      let x = led_one calls s f ds W p j ps q other m none names (through q.labels r.labels (2 ^ 32 - 1) later.labels few) (within_before ds q r later known) one in
      let count = only (length q.dispatches) (length p.dispatches) (switches_of j) x.count in
      let y = leading q js qs r k (jobs_none s (planless (parts s j p)) (parts s j p).jobs ps q m refl) x.names few known (subst (λ b. AreCalmWorks calls s f W b js) (sym count) on) (λ l z. own l (marked_second ps qs l z)) in
      lead_append calls ps qs W (lead_on_more calls ps W (Marked qs W) (behind_all qs W) x.pieces) y
  leading p _ _ r (work _ j js ps q qs _ other m k) none names few known (inr one, on) own =
      let d = parts s j p in
      let later = grows s q js qs r k in
      let inside = grows s (planless d) d.jobs ps q m in
      let known_q = within_before ds q r later known in
      let known_d : Within ds d = within_before ds (planless d) q inside known_q in
      let few_q = through q.labels r.labels (2 ^ 32 - 1) later.labels few in
      let few_p = through p.labels d.labels (2 ^ 32 - 1) (grows_parts s j p).labels (through d.labels q.labels (2 ^ 32 - 1) inside.labels few_q) in
      let a = becomes_parts calls s f AnyLabel (λ l has. tt) (λ e. tt) ds j p none names few_p known_d (any_within calls s f W (length p.dispatches) j one) (λ l x. tt) in
      let x = marking calls s f ds (planless d) d.jobs ps q m refl a.calm.names few_q known_q (subst (λ b. AreCalmWorks calls s f AnyLabel b d.jobs) (sym a.calm.before) a.calm.works) in
      let own_first : (l : ℕ) → Marked ps NoLabel l → W l = λ l z. own l (marked_first ps qs l z) in
      let c = becomes_parts calls s f W labels back ds j p none names few_p known_d one (λ l z. own_first l (x.marks l z.brought)) in
      let first = leading (planless d) d.jobs ps q m refl c.calm.names few_q known_q (subst (λ b. AreCalmWorks calls s f W b d.jobs) (sym c.calm.before) c.calm.works) own_first in
      let count = sum (length d.dispatches) (length q.dispatches) (all_switches_of d.jobs) c.begun c.count (length p.dispatches) (switches_of j) c.calm.before c.calm.begins c.total x.count in
      let y = leading q js qs r k (jobs_none s (planless d) d.jobs ps q m refl) x.names few known (subst (λ b. AreCalmWorks calls s f W b js) (sym count) on) (λ l z. own l (marked_second ps qs l z)) in
      lead_append calls ps qs W (lead_on_more calls ps W (Marked qs W) (behind_all qs W) first) y
