-- Templates of plain functions lead on.
use Rattle.std.proofs.Common.{◌≡◌, ◌≤◌, ◌⊎◌, inl, inr, ℕ, ◌+◌, ◌-◌, ◌^◌, Bool, true, false, cond, List, [], ◌∷◌, ◌++◌, length, refl, arith, sym, subst, ◌∙◌}
use Rattle.cc_base.specs.declared.diagnostics.Place.{Place}
use Rattle.c_layout.specs.Types.{Ty}
use Rattle.c_layout.specs.CheckedTrees.{statement_trees}
use Rattle.c_layout.specs.CheckedUnits.{FunctionView}
use Rattle.c_layout.specs.StructViews.{StructView}
use Rattle.lower_templates.specs.Worklist.Pieces.{PieceView, TemplateView}
use Rattle.lower_templates.specs.Worklist.Works as jobs
use Rattle.lower_templates.specs.Worklist.Works.{Job}
use Rattle.lower_templates.specs.Worklist.Plans.{Plan}
use Rattle.lower_templates.specs.Worklist.Settings.{SettingView}
use Rattle.lower_templates.specs.declared.worklist.template_builder.Dispatch.{Dispatch}
use Rattle.lower_functions.specs.Statements.ScopeJumps.{all_entered}
use Rattle.lower_functions.specs.Functions.Functions.{arguments, argument, result_entered, parameters, outcome, outermost, body, entry, called, function, setting_of, no_plan, IsTemplate}
use Rattle.lower_functions.specs.Functions.Turns.{planless}
use Rattle.lower_template_theorems.specs.Worklists.Derivations.{parts, Makes, nothing, piece, work}
use Rattle.lower_template_theorems.proofs.worklists.Derivations.{derived}
use Rattle.lower_template_theorems.proofs.growth.GrowingWorks.{grows, grows_parts, jobs_none}
use Rattle.lower_template_theorems.specs.PendingLabels.Marks.{IsLabelled}
use Rattle.typed_programs.specs.PlainUnits.PlainStatements.{are_plain_statements}
use Rattle.typed_programs.specs.PlainUnits.PlainUnits.{no_label}
use Rattle.simulation_terms.specs.Scopes.Scopes.{all_switches_in}
use Rattle.typed_programs.specs.PlainWorklists.LeadingPieces.{AreOfObjects, Marked, LeadOn, NoLabel, LeadsOn}
use Rattle.typed_programs.specs.PlainWorklists.SwitchLabels.{AllLabelsStand}
use Rattle.typed_programs.proofs.plain_worklists.LeadingWorks.{HasOwn, Brings, Brought, switches_of, all_switches_of, AreOn, leading_more, Leading, lead_end, lead_mark, lead_labels, lead_none, lead_do_if_used, works}
use Rattle.typed_programs.proofs.plain_templates.LeadingStatements.{list, lead_entered, lead_left, GoesAll, lead_statements}
use Rattle.typed_programs.proofs.plain_templates.LeadingForms.{Within, within_before, comes_parts, makes_parts}

-- ---- pieces

pub behind_all : (ps : List PieceView) (L : ℕ → Type 0) (l : ℕ) → L l → Marked ps L l
behind_all [] L l is = is
behind_all (p ∷ ps) L l is = inr (behind_all ps L l is)

pub marked_more : (ps : List PieceView) (L M : ℕ → Type 0) → ((l : ℕ) → L l → M l) → (l : ℕ) → Marked ps L l → Marked ps M l
marked_more [] L M more l is = more l is
marked_more (p ∷ ps) L M more l (inl is) = inl is
marked_more (p ∷ ps) L M more l (inr is) = inr (marked_more ps L M more l is)

pub lead_on_more : (calls : ℕ → Bool) (ps : List PieceView) (L M : ℕ → Type 0) → ((l : ℕ) → L l → M l) → LeadOn calls L ps → LeadOn calls M ps
lead_on_more calls [] L M more is = tt
lead_on_more calls (p ∷ ps) L M more (one, is) = (leading_more calls (Marked ps L) (Marked ps M) p (marked_more ps L M more) one, lead_on_more calls ps L M more is)

pub marked_append : (ps qs : List PieceView) (L : ℕ → Type 0) (l : ℕ) → Marked ps (Marked qs L) l → Marked (ps ++ qs) L l
marked_append [] qs L l is = is
marked_append (p ∷ ps) qs L l (inl is) = inl is
marked_append (p ∷ ps) qs L l (inr is) = inr (marked_append ps qs L l is)

pub lead_append : (calls : ℕ → Bool) (ps qs : List PieceView) (L : ℕ → Type 0) → LeadOn calls (Marked qs L) ps → LeadOn calls L qs → LeadOn calls L (ps ++ qs)
lead_append calls [] qs L one other = other
lead_append calls (p ∷ ps) qs L (first, one) other = (leading_more calls (Marked ps (Marked qs L)) (Marked (ps ++ qs) L) p (marked_append ps qs L) first, lead_append calls ps qs L one other)

pub marked_first : (ps qs : List PieceView) (l : ℕ) → Marked ps NoLabel l → Marked (ps ++ qs) NoLabel l
marked_first ps qs l is = marked_append ps qs NoLabel l (marked_more ps NoLabel (Marked qs NoLabel) (λ l x. absurd x) l is)

none_more : (a : ℕ) → a ≡ a + 0
none_more a = omega arith

none_before : (a b c : ℕ) → c ≡ a + b → c ≡ a + (0 + b)
none_before a b c e = omega (arith, e)

after_none : (a b : ℕ) → a + 0 ≡ a
after_none a b = omega arith

-- ---- works

module _ (calls : ℕ → Bool) (s : SettingView) (ds : List Dispatch) where
  -- works come to pieces that lead on, and mark what the works are to mark
  pub record Led (L : ℕ → Type 0) (js : List Job) (ps : List PieceView) (p r : Plan) : Type 0 where
    pub pieces : LeadOn calls L ps
    pub marks : (l : ℕ) → Brought ds js NoLabel l → Marked ps NoLabel l
    pub names : AreOfObjects r.names
    pub count : length r.dispatches ≡ length p.dispatches + all_switches_of js

  pub brought_or : (js : List Job) (L : ℕ → Type 0) (l : ℕ) → Brought ds js L l → Brought ds js NoLabel l ⊎ L l
  brought_or [] L l is = inr is
  brought_or (j ∷ js) L l (inl is) = inl (inl is)
  brought_or (j ∷ js) L l (inr is) = by (brought_or js L l is)
    where
      by : Brought ds js NoLabel l ⊎ L l → (Brings ds j l ⊎ Brought ds js NoLabel l) ⊎ L l
      by (inl x) = inl (inr x)
      by (inr x) = inr x

  -- what works mark and what stands behind them
  marked_by : (js : List Job) (ps : List PieceView) (L : ℕ → Type 0) → ((l : ℕ) → Brought ds js NoLabel l → Marked ps NoLabel l) → (l : ℕ) → Brought ds js L l → Marked ps L l
  marked_by js ps L marks l is = by (brought_or js L l is)
    where
      by : Brought ds js NoLabel l ⊎ L l → Marked ps L l
      by (inl x) = marked_more ps NoLabel L (λ l y. absurd y) l (marks l x)
      by (inr x) = behind_all ps L l x

  through : (a b c : ℕ) → a ≤ b → b ≤ c → a ≤ c
  through a b c x y = omega (arith, x, y)

  sum : (d r a b c p x y : ℕ) → d ≡ b → a ≡ c → b + c ≡ p + x → r ≡ d + a → r ≡ p + x
  sum d r a b c p x y e f g h = omega (arith, e, f, g, h)

  last : (q r p x y : ℕ) → q ≡ p + x → r ≡ q + y → r ≡ p + (x + y)
  last q r p x y e f = omega (arith, e, f)

  pub led : (L : ℕ → Type 0) (p : Plan) (js : List Job) (ps : List PieceView) (r : Plan) → Makes s p js ps r → p.jobs ≡ [] → AreOfObjects p.names → r.labels ≤ 2 ^ 32 - 1 → Within ds r → AreOn calls s ds (length p.dispatches) L js → Led L js ps p r
  led L p _ _ r (nothing _) none names few known on = record { pieces = tt; marks = λ l x. x; names = names; count = none_more (length p.dispatches) }
  led L p _ _ r (piece _ q js qs _ m) none names few known (one, on) =
      let x = led L p js qs r m none names few known (subst (λ b. AreOn calls s ds b L js) (after_none (length p.dispatches) 0) on) in
      record {
        pieces = (leading_more calls (Brought ds js L) (Marked qs L) q (marked_by js qs L x.marks) one, x.pieces);
        marks = λ l is. by x l is;
        names = x.names;
        count = none_before (length p.dispatches) (all_switches_of js) (length r.dispatches) x.count;
      }
    where
      by : Led L js qs p r → (l : ℕ) → Brought ds (jobs.Ready q ∷ js) NoLabel l → Marked (q ∷ qs) NoLabel l
      by x l (inl is) = inl is
      by x l (inr is) = inr (x.marks l is)
  led L p _ _ r (work _ j js ps q qs _ other m k) none names few known (one, on) =
      let d = parts s j p in
      let here = grows_parts s j p in
      let inside = grows s (planless d) d.jobs ps q m in
      let later = grows s q js qs r k in
      let known_q = within_before ds q r later known in
      let known_d : Within ds d = within_before ds (planless d) q inside known_q in
      let few_q = through q.labels r.labels (2 ^ 32 - 1) later.labels few in
      let few_p = through p.labels d.labels (2 ^ 32 - 1) here.labels (through d.labels q.labels (2 ^ 32 - 1) inside.labels few_q) in
      let c = comes_parts calls s ds (Brought ds js L) j p other none names few_p known_d one in
      let x = led (Brought ds js L) (planless d) d.jobs ps q m refl c.leading.names few_q known_q (subst (λ b. AreOn calls s ds b (Brought ds js L) d.jobs) (sym c.leading.before) c.leading.works) in
      let count : length q.dispatches ≡ length p.dispatches + switches_of j = sum (length d.dispatches) (length q.dispatches) (all_switches_of d.jobs) c.begun c.count (length p.dispatches) (switches_of j) 0 c.leading.before c.leading.begins c.total x.count in
      let y = led L q js qs r k (jobs_none s (planless d) d.jobs ps q m refl) x.names few known (subst (λ b. AreOn calls s ds b L js) (sym count) on) in
      record {
        pieces = lead_append calls ps qs L (lead_on_more calls ps (Brought ds js L) (Marked qs L) (marked_by js qs L y.marks) x.pieces) y.pieces;
        marks = λ l is. by x.marks y.marks (λ l is. (makes_parts calls s ds (Brought ds js L) j p other known_d one l is).brought) l is;
        names = y.names;
        count = last (length q.dispatches) (length r.dispatches) (length p.dispatches) (switches_of j) (all_switches_of js) count y.count;
      }
    where
      by : ((l : ℕ) → Brought ds (parts s j p).jobs NoLabel l → Marked ps NoLabel l) → ((l : ℕ) → Brought ds js NoLabel l → Marked qs NoLabel l) → ((l : ℕ) → Brings ds j l → Brought ds (parts s j p).jobs NoLabel l) → (l : ℕ) → Brought ds (j ∷ js) NoLabel l → Marked (ps ++ qs) NoLabel l
      by one other parts l (inl is) = marked_first ps qs l (one l (parts l is))
      by one other parts l (inr is) = marked_append ps qs NoLabel l (behind_all ps (Marked qs NoLabel) l (other l is))

-- ---- the first works of a function

module _ {calls : ℕ → Bool} {s : SettingView} {ds : List Dispatch} {begun count : ℕ} where
  lead_arguments : {L : ℕ → Type 0} (at : Place) (f : FunctionView) (ns : List ℕ) (p : Plan) → Leading calls s ds begun count L p → Leading calls s ds begun count L (arguments at f ns p)
  lead_arguments at f [] p k = k
  lead_arguments at f (n ∷ ns) p k = lead_arguments at f ns (argument at f.parameters n _ p) (search works depth 30)

  lead_result : {L : ℕ → Type 0} (at : Place) (t : Ty) (p : Plan) → Leading calls s ds begun count L p → Leading calls s ds begun count L (result_entered at t p)
  lead_result at t p k = search works depth 30

  lead_parameters : {L : ℕ → Type 0} (f : FunctionView) (p : Plan) → Leading calls s ds begun count L p → Leading calls s ds begun count L (parameters s f p)
  lead_parameters f p k = lead_arguments s.at f s.parameters _ (lead_result s.at f.returns _ (lead_entered s.at s.parameters p k))

  lead_outcome : {L : ℕ → Type 0} (at : Place) (t : Ty) (p : Plan) → Leading calls s ds begun count L p → Leading calls s ds begun count L (outcome at t p)
  lead_outcome at t p k = search (works, lead_do_if_used) depth 30

none_some : (a : ℕ) → a ≡ 0 → 1 ≤ a → ⊥
none_some a e some = omega (arith, e, some)

false_not : {A : Type 0} → false ≡ true → A
false_not e = absurd (cc)

true_not : {A : Type 0} → true ≡ false → A
true_not e = absurd (cc)

module _ (calls : ℕ → Bool) (s : SettingView) (ds : List Dispatch) (f : FunctionView) (labelled : IsLabelled f) (plain : are_plain_statements calls no_label false (statement_trees f.body) ≡ true) (stand : AllLabelsStand s (statement_trees f.body) 0) where
  nothing_own : {A : Type 0} → HasOwn (list (statement_trees f.body)) → A
  nothing_own (inl x) = absurd (none_some _ (labelled.cases x.0) x.1)
  nothing_own (inr x) = absurd (none_some _ labelled.defaults x)

  goes : (L : ℕ → Type 0) → (s.is_entry ≡ false → L s.end) → GoesAll calls s 0 L (statement_trees f.body) (outermost s.end)
  goes L back = record { later = no_label; breaks = false; plain = plain; labels = λ l e. false_not e; on_break = λ e. false_not e; on_return = back; choice = λ own. nothing_own own; switches = stand }

  lead_body : (L : ℕ → Type 0) (p : Plan) → (s.is_entry ≡ false → L s.end) → ((M : ℕ → Type 0) → Leading calls s ds 0 0 M p) → Leading calls s ds 0 (0 + all_switches_in (statement_trees f.body)) L (body s f p)
  lead_body L p back start = lead_left s.at f.scope _ (lead_statements calls s ds 0 0 0 L (statement_trees f.body) (outermost s.end) (all_entered s.at f.scope p) (none_more 0) (goes L back) (lead_entered s.at f.scope p (start _)))

  lead_entry : (p : Plan) → s.is_entry ≡ true → ((M : ℕ → Type 0) → Leading calls s ds 0 0 M p) → Leading calls s ds 0 (0 + all_switches_in (statement_trees f.body)) NoLabel (entry s f p)
  lead_entry p is start = lead_end _ _ _ refl tt (lead_body NoLabel p (λ e. true_not (sym is ∙ e)) start)

  lead_called : (p : Plan) → ((M : ℕ → Type 0) → Leading calls s ds 0 0 M p) → Leading calls s ds 0 (0 + all_switches_in (statement_trees f.body)) NoLabel (called s f p)
  lead_called p start =
      lead_outcome s.at f.returns _ (lead_mark s.end _ (lead_left s.at s.parameters _ (lead_body (λ l. (l ≡ s.end) ⊎ NoLabel l) _ (λ e. inl refl)
      (λ M. lead_mark (p.labels + 1) _ (lead_parameters f _ (lead_mark p.labels _ (lead_labels 2 p (start _))))))))

  lead_function : Leading calls s ds 0 (0 + all_switches_in (statement_trees f.body)) NoLabel (function s f (no_plan f.labels))
  lead_function = by s.is_entry refl
    where
      start : (M : ℕ → Type 0) → Leading calls s ds 0 0 M (no_plan f.labels)
      start M = lead_none (no_plan f.labels) refl tt

      by : (b : Bool) → s.is_entry ≡ b → Leading calls s ds 0 (0 + all_switches_in (statement_trees f.body)) NoLabel (cond b (entry s f (no_plan f.labels)) (called s f (no_plan f.labels)))
      by true is = lead_entry (no_plan f.labels) is start
      by false is = lead_called (no_plan f.labels) start

-- ---- templates

pub leads_on : (calls : ℕ → Bool) (structs : List StructView) (pointer int_bytes : ℕ) (f : FunctionView) (is_entry : Bool) (t : TemplateView) → IsTemplate structs pointer int_bytes f is_entry t → IsLabelled f → t.labels ≤ 2 ^ 32 - 1
    → AllLabelsStand (setting_of structs pointer int_bytes f is_entry) (statement_trees f.body) 0 → are_plain_statements calls no_label false (statement_trees f.body) ≡ true → LeadsOn calls t
leads_on calls structs pointer int_bytes f is_entry t is labelled few stand plain =
    let s = setting_of structs pointer int_bytes f is_entry in
    let p = function s f (no_plan f.labels) in
    let d = derived s p t is in
    let ds = d.last.dispatches in
    let x = lead_function calls s ds f labelled plain stand in
    let y = led calls s ds NoLabel (planless p) p.jobs t.pieces d.last d.pieces refl x.names (subst (λ n. n ≤ 2 ^ 32 - 1) d.labels few) (λ c less. refl) (subst (λ b. AreOn calls s ds b NoLabel p.jobs) (sym x.before) x.works) in
    record { pieces = y.pieces; names = subst AreOfObjects (sym d.names) y.names }
