-- Works that lead on: each edge that they are to make leads to a label that they or later works mark.
use Rattle.std.proofs.Common.{◌≡◌, ◌≤◌, ◌<◌, ◌⊎◌, inl, inr, ℕ, ◌+◌, Bool, true, false, cond, ◌&&◌, List, [], ◌∷◌, ◌++◌, length, get_or, refl, arith, ap, sym, subst, ◌∙◌}
use Rattle.c_layout.specs.CheckedTrees.{TermTree, LvalueTree, StatementTree}
use Rattle.lower_templates.specs.Worklist.Acts.{Step}
use Rattle.lower_templates.specs.Worklist.Pieces.{NameView, ExitView, PieceView, Do, DoIfUsed, End, Mark, Call}
use Rattle.lower_templates.specs.Worklist.Works as jobs
use Rattle.lower_templates.specs.Worklist.Works.{Job}
use Rattle.lower_templates.specs.Worklist.Plans.{Plan, with_work, with_name, with_labels, with_scope}
use Rattle.lower_templates.specs.Worklist.Settings.{SettingView}
use Rattle.lower_templates.specs.declared.worklist.template_builder.Dispatch.{Dispatch}
use Rattle.lower_templates.specs.declared.worklist.template_pieces.OwnCall.{OwnCall}
use Rattle.lower_templates.specs.declared.worklist.pending_works.Decision.{Decision}
use Rattle.lower_templates.specs.declared.worklist.pending_works.Surroundings.{Surroundings}
use Rattle.lower_expressions.specs.Branches.{arm}
use Rattle.lower_functions.specs.Statements.Switches.{no_dispatch}
use Rattle.lower_template_theorems.specs.PendingLabels.Marks.{labels_in, cases_in, defaults_in}
use Rattle.typed_programs.specs.PlainUnits.PlainTerms.{is_plain_term, is_plain_place}
use Rattle.typed_programs.specs.PlainUnits.PlainStatements.{is_plain_statement}
use Rattle.simulation_terms.specs.Scopes.Scopes.{switches_in}
use Rattle.typed_programs.specs.PlainWorklists.LeadingPieces.{is_plain_act, is_of_object, AreOfObjects, AllTo, Marks, IsLeading, NoLabel}
use Rattle.typed_programs.specs.PlainWorklists.SwitchLabels.{LabelsStand}

pub both : (a b : Bool) → (a && b) ≡ true → (a ≡ true) × (b ≡ true)
both true b e = (refl, e)
both false b e = absurd (cc)

-- ---- marks

-- a case label of the switch around a statement stands in it, or its default label
abbrev pub IsCase : Dispatch → StatementTree → ℕ → Type 0
IsCase d i l = (n : ℕ) × (1 ≤ cases_in n i) × (l ≡ jobs.behind d.cases n)

abbrev pub IsDefault : Dispatch → StatementTree → ℕ → Type 0
IsDefault d i l = (1 ≤ defaults_in i) × (l ≡ d.fallback)

-- a label stands in a statement in the switch of that number
abbrev pub Stands : List Dispatch → ℕ → StatementTree → ℕ → Type 0
Stands ds choice i l = (1 ≤ labels_in l i) ⊎ (IsCase (get_or ds choice no_dispatch) i l ⊎ IsDefault (get_or ds choice no_dispatch) i l)

-- a label of the switch around a statement stands in it
abbrev pub HasOwn : StatementTree → Type 0
HasOwn i = ((n : ℕ) × (1 ≤ cases_in n i)) ⊎ (1 ≤ defaults_in i)

-- a work marks a label
abbrev pub Brings : List Dispatch → Job → ℕ → Type 0
Brings ds (jobs.Value e depth) l = ⊥
Brings ds (jobs.Unused e depth) l = ⊥
Brings ds (jobs.Address place depth) l = ⊥
Brings ds (jobs.Condition e decision) l = ⊥
Brings ds (jobs.Statement i around) l = Stands ds around.choice i l
Brings ds (jobs.Ready q) l = Marks q l

-- one of several works does, or it is one of those behind them
abbrev pub Brought : List Dispatch → List Job → (ℕ → Type 0) → ℕ → Type 0
Brought ds [] L l = L l
Brought ds (j ∷ js) L l = Brings ds j l ⊎ Brought ds js L l

-- ---- works

-- how many switches a work begins
abbrev pub switches_of : Job → ℕ
switches_of (jobs.Value e depth) = 0
switches_of (jobs.Unused e depth) = 0
switches_of (jobs.Address place depth) = 0
switches_of (jobs.Condition e decision) = 0
switches_of (jobs.Statement i around) = switches_in i
switches_of (jobs.Ready q) = 0

abbrev pub all_switches_of : List Job → ℕ
all_switches_of [] = 0
all_switches_of (j ∷ js) = switches_of j + all_switches_of js

-- a plain statement before such labels, behind which so many switches were begun
pub record Goes (calls : ℕ → Bool) (s : SettingView) (begun : ℕ) (L : ℕ → Type 0) (i : StatementTree) (around : Surroundings) : Type 0 where
  pub later : ℕ → Bool
  pub breaks : Bool
  pub plain : is_plain_statement calls later breaks i ≡ true
  pub labels : (l : ℕ) → later l ≡ true → L l
  pub on_break : breaks ≡ true → L around.on_break.label
  pub on_return : s.is_entry ≡ false → L s.end
  pub choice : HasOwn i → around.choice < begun
  pub switches : LabelsStand s i begun

abbrev pub IsOn : (ℕ → Bool) → SettingView → ℕ → (ℕ → Type 0) → Job → Type 0
IsOn calls s begun L (jobs.Value e depth) = is_plain_term calls e ≡ true
IsOn calls s begun L (jobs.Unused e depth) = is_plain_term calls e ≡ true
IsOn calls s begun L (jobs.Address place depth) = is_plain_place calls place ≡ true
IsOn calls s begun L (jobs.Condition e decision) = (is_plain_term calls e ≡ true) × L decision.targets.yes × L decision.targets.no
IsOn calls s begun L (jobs.Statement i around) = Goes calls s begun L i around
IsOn calls s begun L (jobs.Ready q) = IsLeading calls L q

abbrev pub AreOn : (ℕ → Bool) → SettingView → List Dispatch → ℕ → (ℕ → Type 0) → List Job → Type 0
AreOn calls s ds begun L [] = Unit {0}
AreOn calls s ds begun L (j ∷ js) = IsOn calls s begun (Brought ds js L) j × AreOn calls s ds (begun + switches_of j) L js

-- ---- more labels

pub all_more : (L M : ℕ → Type 0) (es : List ExitView) → ((l : ℕ) → L l → M l) → AllTo L es → AllTo M es
all_more L M [] more all = tt
all_more L M (e ∷ es) more (one, all) = (more e.to one, all_more L M es more all)

pub leading_more : (calls : ℕ → Bool) (L M : ℕ → Type 0) (q : PieceView) → ((l : ℕ) → L l → M l) → IsLeading calls L q → IsLeading calls M q
leading_more calls L M (Do s) more is = is
leading_more calls L M (DoIfUsed s) more is = is
leading_more calls L M (End s exits) more (plain, to) = (plain, all_more L M exits more to)
leading_more calls L M (Mark l) more is = tt
leading_more calls L M (Call c) more is = is

pub goes_more : {calls : ℕ → Bool} {s : SettingView} {begun : ℕ} {L M : ℕ → Type 0} {i : StatementTree} {around : Surroundings} → ((l : ℕ) → L l → M l) → Goes calls s begun L i around → Goes calls s begun M i around
goes_more {s = s} {around = around} more g = record {
  later = g.later;
  breaks = g.breaks;
  plain = g.plain;
  labels = λ l e. more l (g.labels l e);
  on_break = λ e. more around.on_break.label (g.on_break e);
  on_return = λ e. more s.end (g.on_return e);
  choice = g.choice;
  switches = g.switches;
}

on_more : (calls : ℕ → Bool) (s : SettingView) (begun : ℕ) (L M : ℕ → Type 0) (j : Job) → ((l : ℕ) → L l → M l) → IsOn calls s begun L j → IsOn calls s begun M j
on_more calls s begun L M (jobs.Value e depth) more is = is
on_more calls s begun L M (jobs.Unused e depth) more is = is
on_more calls s begun L M (jobs.Address place depth) more is = is
on_more calls s begun L M (jobs.Condition e decision) more is = (is.0, more decision.targets.yes is.1, more decision.targets.no is.2)
on_more calls s begun L M (jobs.Statement i around) more is = goes_more more is
on_more calls s begun L M (jobs.Ready q) more is = leading_more calls L M q more is

pub brought_more : (ds : List Dispatch) (L M : ℕ → Type 0) (js : List Job) → ((l : ℕ) → L l → M l) → (l : ℕ) → Brought ds js L l → Brought ds js M l
brought_more ds L M [] more l is = more l is
brought_more ds L M (j ∷ js) more l (inl is) = inl is
brought_more ds L M (j ∷ js) more l (inr is) = inr (brought_more ds L M js more l is)

pub are_more : (calls : ℕ → Bool) (s : SettingView) (ds : List Dispatch) (L M : ℕ → Type 0) (begun : ℕ) (js : List Job) → ((l : ℕ) → L l → M l) → AreOn calls s ds begun L js → AreOn calls s ds begun M js
are_more calls s ds L M begun [] more all = tt
are_more calls s ds L M begun (j ∷ js) more (one, all) = (on_more calls s begun (Brought ds js L) (Brought ds js M) j (brought_more ds L M js more) one, are_more calls s ds L M (begun + switches_of j) js more all)

-- ---- one work more

brought_last : (ds : List Dispatch) (L : ℕ → Type 0) (js : List Job) (k : Job) (l : ℕ) → Brought ds js (λ m. Brings ds k m ⊎ L m) l → Brought ds (js ++ k ∷ []) L l
brought_last ds L [] k l is = is
brought_last ds L (j ∷ js) k l (inl is) = inl is
brought_last ds L (j ∷ js) k l (inr is) = inr (brought_last ds L js k l is)

none_more : (a : ℕ) → a + 0 ≡ a
none_more a = omega arith

in_turn : (a b c : ℕ) → a + (b + c) ≡ (a + b) + c
in_turn a b c = omega arith

last_on : (calls : ℕ → Bool) (s : SettingView) (ds : List Dispatch) (L : ℕ → Type 0) (begun : ℕ) (js : List Job) (k : Job) → AreOn calls s ds begun (λ m. Brings ds k m ⊎ L m) js → IsOn calls s (begun + all_switches_of js) L k → AreOn calls s ds begun L (js ++ k ∷ [])
last_on calls s ds L begun [] k all is = (subst (λ b. IsOn calls s b L k) (none_more begun) is, tt)
last_on calls s ds L begun (j ∷ js) k (one, all) is =
    (on_more calls s begun (Brought ds js (λ m. Brings ds k m ⊎ L m)) (Brought ds (js ++ k ∷ []) L) j (brought_last ds L js k) one, last_on calls s ds L (begun + switches_of j) js k all (subst (λ b. IsOn calls s b L k) (in_turn begun (switches_of j) (all_switches_of js)) is))

count_last : (js : List Job) (k : Job) → all_switches_of (js ++ k ∷ []) ≡ all_switches_of js + switches_of k
count_last [] k = first (switches_of k)
  where
    first : (a : ℕ) → a + 0 ≡ 0 + a
    first a = omega arith
count_last (j ∷ js) k = let e = count_last js k in omega (arith, e)

objects_more : (xs : List NameView) (x : NameView) → AreOfObjects xs → is_of_object x ≡ true → AreOfObjects (xs ++ x ∷ [])
objects_more [] x all is = (is, tt)
objects_more (y ∷ xs) x (one, all) is = (one, objects_more xs x all is)

-- what is planned leads on: behind so many switches that were begun before it, it begins so many
pub record Leading (calls : ℕ → Bool) (s : SettingView) (ds : List Dispatch) (begun count : ℕ) (L : ℕ → Type 0) (p : Plan) : Type 0 where
  pub works : AreOn calls s ds begun L p.jobs
  pub begins : all_switches_of p.jobs ≡ count
  pub before : length p.dispatches ≡ begun
  pub names : AreOfObjects p.names

pub lead_more : {calls : ℕ → Bool} {s : SettingView} {ds : List Dispatch} {begun count : ℕ} {L M : ℕ → Type 0} (p : Plan) → ((l : ℕ) → L l → M l) → Leading calls s ds begun count L p → Leading calls s ds begun count M p
lead_more {calls = calls} {s = s} {ds = ds} {begun = begun} {L = L} {M = M} p more k = record { works = are_more calls s ds L M begun p.jobs more k.works; begins = k.begins; before = k.before; names = k.names }

pub lead_work : {calls : ℕ → Bool} {s : SettingView} {ds : List Dispatch} {begun count : ℕ} {L : ℕ → Type 0} (j : Job) (p : Plan) → IsOn calls s (begun + count) L j → Leading calls s ds begun count (λ m. Brings ds j m ⊎ L m) p → Leading calls s ds begun (count + switches_of j) L (with_work j p)
unfolding with_work
lead_work {calls = calls} {s = s} {ds = ds} {begun = begun} {L = L} j p is k = record {
  works = last_on calls s ds L begun p.jobs j k.works (subst (λ c. IsOn calls s (begun + c) L j) (sym k.begins) is);
  begins = count_last p.jobs j ∙ ap (λ c. c + switches_of j) k.begins;
  before = k.before;
  names = k.names;
}

-- a work that marks nothing and begins no switch
pub lead_silent : {calls : ℕ → Bool} {s : SettingView} {ds : List Dispatch} {begun count : ℕ} {L : ℕ → Type 0} (j : Job) (p : Plan) → switches_of j ≡ 0 → IsOn calls s (begun + count) L j → Leading calls s ds begun count L p → Leading calls s ds begun count L (with_work j p)
lead_silent {calls = calls} {s = s} {ds = ds} {begun = begun} {count = count} {L = L} j p none is k =
    subst (λ c. Leading calls s ds begun c L (with_work j p)) (ap (λ c. count + c) none ∙ none_more count) (lead_work j p is (lead_more p (λ l x. inr x) k))

pub lead_name : {calls : ℕ → Bool} {s : SettingView} {ds : List Dispatch} {begun count : ℕ} {L : ℕ → Type 0} (x : NameView) (p : Plan) → is_of_object x ≡ true → Leading calls s ds begun count L p → Leading calls s ds begun count L (with_name x p)
unfolding with_name
lead_name x p is k = record { works = k.works; begins = k.begins; before = k.before; names = objects_more p.names x k.names is }

pub lead_labels : {calls : ℕ → Bool} {s : SettingView} {ds : List Dispatch} {begun count : ℕ} {L : ℕ → Type 0} (n : ℕ) (p : Plan) → Leading calls s ds begun count L p → Leading calls s ds begun count L (with_labels n p)
unfolding with_labels
lead_labels n p k = record { works = k.works; begins = k.begins; before = k.before; names = k.names }

pub lead_scope : {calls : ℕ → Bool} {s : SettingView} {ds : List Dispatch} {begun count : ℕ} {L : ℕ → Type 0} (p : Plan) → Leading calls s ds begun count L p → Leading calls s ds begun count L (with_scope p)
unfolding with_scope
lead_scope p k = record { works = k.works; begins = k.begins; before = k.before; names = k.names }

pub lead_value : {calls : ℕ → Bool} {s : SettingView} {ds : List Dispatch} {begun count : ℕ} {L : ℕ → Type 0} (e : TermTree) (depth : ℕ) (p : Plan) → is_plain_term calls e ≡ true → Leading calls s ds begun count L p → Leading calls s ds begun count L (with_work (jobs.Value e depth) p)
lead_value e depth p plain k = lead_silent (jobs.Value e depth) p refl plain k

pub lead_unused : {calls : ℕ → Bool} {s : SettingView} {ds : List Dispatch} {begun count : ℕ} {L : ℕ → Type 0} (e : TermTree) (depth : ℕ) (p : Plan) → is_plain_term calls e ≡ true → Leading calls s ds begun count L p → Leading calls s ds begun count L (with_work (jobs.Unused e depth) p)
lead_unused e depth p plain k = lead_silent (jobs.Unused e depth) p refl plain k

pub lead_address : {calls : ℕ → Bool} {s : SettingView} {ds : List Dispatch} {begun count : ℕ} {L : ℕ → Type 0} (place : LvalueTree) (depth : ℕ) (p : Plan) → is_plain_place calls place ≡ true → Leading calls s ds begun count L p → Leading calls s ds begun count L (with_work (jobs.Address place depth) p)
lead_address place depth p plain k = lead_silent (jobs.Address place depth) p refl plain k

pub lead_condition : {calls : ℕ → Bool} {s : SettingView} {ds : List Dispatch} {begun count : ℕ} {L : ℕ → Type 0} (e : TermTree) (d : Decision) (p : Plan) → is_plain_term calls e ≡ true → L d.targets.yes → L d.targets.no → Leading calls s ds begun count L p → Leading calls s ds begun count L (with_work (jobs.Condition e d) p)
lead_condition e d p plain first second k = lead_silent (jobs.Condition e d) p refl (plain, first, second) k

pub lead_do : {calls : ℕ → Bool} {s : SettingView} {ds : List Dispatch} {begun count : ℕ} {L : ℕ → Type 0} (x : Step) (p : Plan) → is_plain_act x.does ≡ true → Leading calls s ds begun count L p → Leading calls s ds begun count L (with_work (jobs.Ready (Do x)) p)
lead_do x p plain k = lead_silent (jobs.Ready (Do x)) p refl plain k

pub lead_do_if_used : {calls : ℕ → Bool} {s : SettingView} {ds : List Dispatch} {begun count : ℕ} {L : ℕ → Type 0} (x : Step) (p : Plan) → is_plain_act x.does ≡ true → Leading calls s ds begun count L p → Leading calls s ds begun count L (with_work (jobs.Ready (DoIfUsed x)) p)
lead_do_if_used x p plain k = lead_silent (jobs.Ready (DoIfUsed x)) p refl plain k

pub lead_end : {calls : ℕ → Bool} {s : SettingView} {ds : List Dispatch} {begun count : ℕ} {L : ℕ → Type 0} (x : Step) (exits : List ExitView) (p : Plan) → is_plain_act x.does ≡ true → AllTo L exits → Leading calls s ds begun count L p → Leading calls s ds begun count L (with_work (jobs.Ready (End x exits)) p)
lead_end x exits p plain to k = lead_silent (jobs.Ready (End x exits)) p refl (plain, to) k

pub lead_call : {calls : ℕ → Bool} {s : SettingView} {ds : List Dispatch} {begun count : ℕ} {L : ℕ → Type 0} (c : OwnCall) (p : Plan) → calls c.function ≡ true → Leading calls s ds begun count L p → Leading calls s ds begun count L (with_work (jobs.Ready (Call c)) p)
lead_call c p plain k = lead_silent (jobs.Ready (Call c)) p refl plain k

pub lead_mark : {calls : ℕ → Bool} {s : SettingView} {ds : List Dispatch} {begun count : ℕ} {L : ℕ → Type 0} (m : ℕ) (p : Plan) → Leading calls s ds begun count (λ l. (l ≡ m) ⊎ L l) p → Leading calls s ds begun count L (with_work (jobs.Ready (Mark m)) p)
lead_mark {calls = calls} {s = s} {ds = ds} {begun = begun} {count = count} {L = L} m p k = subst (λ c. Leading calls s ds begun c L (with_work (jobs.Ready (Mark m)) p)) (none_more count) (lead_work (jobs.Ready (Mark m)) p tt k)

pub lead_statement : {calls : ℕ → Bool} {s : SettingView} {ds : List Dispatch} {begun count : ℕ} {L : ℕ → Type 0} (i : StatementTree) (around : Surroundings) (p : Plan) → Goes calls s (begun + count) L i around → Leading calls s ds begun count (λ l. Stands ds around.choice i l ⊎ L l) p → Leading calls s ds begun (count + switches_in i) L (with_work (jobs.Statement i around) p)
lead_statement i around p goes k = lead_work (jobs.Statement i around) p goes k

pub lead_or : {calls : ℕ → Bool} {s : SettingView} {ds : List Dispatch} {begun count : ℕ} {L : ℕ → Type 0} (b : Bool) (p q : Plan) → Leading calls s ds begun count L p → Leading calls s ds begun count L q → Leading calls s ds begun count L (cond b p q)
lead_or true p q x y = x
lead_or false p q x y = y

pub lead_arm : {calls : ℕ → Bool} {s : SettingView} {ds : List Dispatch} {begun count : ℕ} {L : ℕ → Type 0} (e : TermTree) (depth : ℕ) (used : Bool) (p : Plan) → is_plain_term calls e ≡ true → Leading calls s ds begun count L p → Leading calls s ds begun count L (with_work (arm e depth used) p)
lead_arm e depth true p plain k = lead_value e depth p plain k
lead_arm e depth false p plain k = lead_unused e depth p plain k

-- nothing is planned
pub lead_none : {calls : ℕ → Bool} {s : SettingView} {ds : List Dispatch} {L : ℕ → Type 0} (p : Plan) → p.jobs ≡ [] → AreOfObjects p.names → Leading calls s ds (length p.dispatches) 0 L p
lead_none {calls = calls} {s = s} {ds = ds} {L = L} p none names = record { works = subst (AreOn calls s ds (length p.dispatches) L) (sym none) tt; begins = ap all_switches_of none; before = refl; names = names }

-- what the constructs are made of
pub ruleset works = (lead_value, lead_unused, lead_address, lead_do, lead_do_if_used, lead_call, lead_name, lead_labels, lead_scope, lead_or, lead_arm)

-- ---- what is planned marks a label

-- whatever stands behind it
pub record WillMark (ds : List Dispatch) (l : ℕ) (p : Plan) : Type 0 where
  pub brought : Brought ds p.jobs NoLabel l

brought_here : (ds : List Dispatch) (js : List Job) (k : Job) (l : ℕ) → Brings ds k l → Brought ds (js ++ k ∷ []) NoLabel l
brought_here ds [] k l is = inl is
brought_here ds (j ∷ js) k l is = inr (brought_here ds js k l is)

pub makes_this : {ds : List Dispatch} {l : ℕ} (j : Job) (p : Plan) → Brings ds j l → WillMark ds l (with_work j p)
unfolding with_work
makes_this {ds = ds} {l = l} j p is = record { brought = brought_here ds p.jobs j l is }

pub makes_work : {ds : List Dispatch} {l : ℕ} (j : Job) (p : Plan) → WillMark ds l p → WillMark ds l (with_work j p)
unfolding with_work
makes_work {ds = ds} {l = l} j p k = record { brought = brought_last ds NoLabel p.jobs j l (brought_more ds NoLabel (λ m. Brings ds j m ⊎ NoLabel m) p.jobs (λ m x. inr x) l k.brought) }

pub makes_name : {ds : List Dispatch} {l : ℕ} (x : NameView) (p : Plan) → WillMark ds l p → WillMark ds l (with_name x p)
unfolding with_name
makes_name x p k = record { brought = k.brought }

pub makes_or : {ds : List Dispatch} {l : ℕ} (b : Bool) (p q : Plan) → WillMark ds l p → WillMark ds l q → WillMark ds l (cond b p q)
makes_or true p q x y = x
makes_or false p q x y = y

pub ruleset made = (makes_work, makes_name, makes_or)
