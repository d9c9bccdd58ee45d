-- The works of plain switches lead on: into the body, or behind it.
use Rattle.std.proofs.Common.{◌≡◌, ◌≤◌, ◌<◌, ◌⊎◌, inl, inr, ℕ, suc, ◌+◌, ◌-◌, ◌^◌, ℤ, Bool, true, false, cond, List, [], ◌∷◌, ◌++◌, map, length, get_or, Option, Some, None, refl, arith, ap, sym, subst, ◌∙◌, length-append}
use Rattle.std.proofs.Math.Seq.{get_or-append_seam}
use Rattle.cc_base.specs.declared.diagnostics.Place.{Place}
use Rattle.c_layout.specs.CheckedTrees as tree
use Rattle.c_layout.specs.CheckedTrees.{TermTree, StatementTree}
use Rattle.c_layout.specs.declared.checked_tree.checked_statements.CaseLabel.{CaseLabel}
use Rattle.cfg.specs.declared.machine_instructions.Scalar.{Scalar}
use Rattle.cfg.specs.declared.machine_instructions.Scalar.TheVariants as scalar
use Rattle.lower_conditions.specs.Tests.{named}
use Rattle.lower_conditions.specs.declared.branch_tests.NamedObject.{NamedObject}
use Rattle.lower_functions.specs.Statements.ScopeJumps.{enters_between, leap}
use Rattle.lower_functions.specs.Statements.Switches.{no_dispatch, choice_at, mention_of, mention_if, switched_object, targeted, edge_target, case_landing, case_arms, case_exit, dispatch_exits, edge_block, edge_blocks, landing_of, other_landing, dispatch, begin_switch, in_switch, switch}
use Rattle.lower_functions.specs.declared.statements.switch_statements.CaseArm.{CaseArm}
use Rattle.lower_functions.specs.declared.statements.switch_statements.SwitchBegun.{SwitchBegun}
use Rattle.lower_templates.specs.Worklist.Pieces.{ExitView, Mark}
use Rattle.lower_templates.specs.Worklist.Works as jobs
use Rattle.lower_templates.specs.Worklist.Works.{behind}
use Rattle.lower_templates.specs.Worklist.Plans.{Plan, with_work, with_labels, with_dispatch, name_of_object}
use Rattle.lower_templates.specs.Worklist.Settings.{SettingView}
use Rattle.lower_templates.specs.declared.worklist.template_builder.Dispatch.{Dispatch}
use Rattle.lower_templates.specs.declared.worklist.pending_works.Landing.{Landing}
use Rattle.lower_templates.specs.declared.worklist.pending_works.Surroundings.{Surroundings}
use Rattle.lower_template_theorems.specs.PendingLabels.Marks.{labels_in, cases_in, defaults_in}
use Rattle.typed_programs.specs.PlainUnits.PlainTerms.{is_plain_term}
use Rattle.simulation_terms.specs.Scopes.Scopes.{switches_in}
use Rattle.typed_programs.specs.PlainWorklists.LeadingPieces.{AllTo, AreOfObjects}
use Rattle.typed_programs.specs.PlainWorklists.SwitchLabels.{HasDefault, LabelsStand}
use Rattle.typed_programs.proofs.plain_worklists.LeadingWorks.{both, all_more, Stands, Goes, Leading, lead_more, lead_value, lead_end, lead_mark, lead_labels, lead_name, lead_none, lead_statement}
use Rattle.typed_programs.proofs.plain_worklists.LeadingTerms.{object_named}
use Rattle.typed_programs.proofs.plain_templates.LeadingStatements.{lead_leap, Comes}

-- ---- blocks of edges

-- the label of a block of its own, where an edge has one, or one of those behind it
abbrev BlockTo : SettingView → ℕ → ℕ → Landing → (ℕ → Type 0) → ℕ → Type 0
BlockTo s from to landing L l = ((enters_between s from landing.scope ≡ true) × (l ≡ to)) ⊎ L l

abbrev ArmsTo : SettingView → ℕ → List CaseArm → (ℕ → Type 0) → ℕ → Type 0
ArmsTo s from [] L l = L l
ArmsTo s from (a ∷ arms) L l = BlockTo s from a.to a.landing (ArmsTo s from arms L) l

-- an edge leads to its label, or to a block of its own
record IsArm (s : SettingView) (from : ℕ) (P : ℕ → Type 0) (a : CaseArm) : Type 0 where
  lands : P a.landing.label
  goes : (enters_between s from a.landing.scope ≡ true) ⊎ (a.to ≡ a.landing.label)

abbrev AreArms : SettingView → ℕ → (ℕ → Type 0) → List CaseArm → Type 0
AreArms s from P [] = Unit {0}
AreArms s from P (a ∷ arms) = IsArm s from P a × AreArms s from P arms

behind_arms : (s : SettingView) (from : ℕ) (arms : List CaseArm) (L : ℕ → Type 0) (l : ℕ) → L l → ArmsTo s from arms L l
behind_arms s from [] L l is = is
behind_arms s from (a ∷ arms) L l is = inr (behind_arms s from arms L l is)

to_arms : (s : SettingView) (from : ℕ) (arms : List CaseArm) (object : Option ℕ) (L : ℕ → Type 0) → AreArms s from L arms → AllTo (ArmsTo s from arms L) (map (case_exit object) arms)
to_arms s from [] object L are = tt
to_arms s from (a ∷ arms) object L (one, are) = (by one.goes, all_more (ArmsTo s from arms L) (BlockTo s from a.to a.landing (ArmsTo s from arms L)) (map (case_exit object) arms) (λ l x. inr x) (to_arms s from arms object L are))
  where
    by : (enters_between s from a.landing.scope ≡ true) ⊎ (a.to ≡ a.landing.label) → BlockTo s from a.to a.landing (ArmsTo s from arms L) a.to
    by (inl e) = inl (e, refl)
    by (inr e) = inr (behind_arms s from arms L a.to (subst L (sym e) one.lands))

all_and : (L : ℕ → Type 0) (xs : List ExitView) (x : ExitView) → AllTo L xs → L x.to → AllTo L (xs ++ x ∷ [])
all_and L [] x all one = (one, tt)
all_and L (y ∷ xs) x (first, all) one = (first, all_and L xs x all one)

true_not : {A : Type 0} → false ≡ true → A
true_not e = absurd (cc)

module _ {calls : ℕ → Bool} {s : SettingView} {ds : List Dispatch} {begun count : ℕ} where
  lead_block : {L : ℕ → Type 0} (from to : ℕ) (landing : Landing) (p : Plan) → L landing.label → Leading calls s ds begun count (BlockTo s from to landing L) p → Leading calls s ds begun count L (edge_block s from to landing p)
  lead_block {L = L} from to landing p there k = by (enters_between s from landing.scope) k
    where
      left : (l : ℕ) → ((false ≡ true) × (l ≡ to)) ⊎ L l → L l
      left l (inl x) = true_not x.0
      left l (inr x) = x

      mark : (l : ℕ) → ((true ≡ true) × (l ≡ to)) ⊎ L l → (l ≡ to) ⊎ L l
      mark l (inl x) = inl x.1
      mark l (inr x) = inr x

      by : (b : Bool) → Leading calls s ds begun count (λ l. ((b ≡ true) × (l ≡ to)) ⊎ L l) p → Leading calls s ds begun count L (cond b (leap s from landing (with_work (jobs.Ready (Mark to)) p)) p)
      by true k = lead_leap from landing _ there (lead_mark to p (lead_more p (λ l x. mark l x) k))
      by false k = lead_more p (λ l x. left l x) k

  lead_blocks : {L : ℕ → Type 0} (from : ℕ) (arms : List CaseArm) (p : Plan) → AreArms s from L arms → Leading calls s ds begun count (ArmsTo s from arms L) p → Leading calls s ds begun count L (edge_blocks s from arms p)
  lead_blocks from [] p are k = k
  lead_blocks {L = L} from (a ∷ arms) p (one, are) k = lead_blocks from arms (edge_block s from a.to a.landing p) are (lead_block from a.to a.landing p (behind_arms s from arms L a.landing.label one.lands) k)

  -- ---- parts that plan nothing

  lead_mention_of : {L : ℕ → Type 0} (o : NamedObject) (kind : Scalar) (p : Plan) → Leading calls s ds begun count L p → Leading calls s ds begun count L (mention_of o kind p).after
  lead_mention_of o (scalar.Int kind) p k = lead_name (name_of_object o.object) p (object_named o.object) k
  lead_mention_of o scalar.Pointer p k = k

  lead_mention : {L : ℕ → Type 0} (o : Option NamedObject) (p : Plan) → Leading calls s ds begun count L p → Leading calls s ds begun count L (mention_if o p).after
  lead_mention None p k = k
  lead_mention (Some o) p k = lead_mention_of o o.kind p k

  lead_target : {L : ℕ → Type 0} (from : ℕ) (to : Landing) (p : Plan) → Leading calls s ds begun count L p → Leading calls s ds begun count L (edge_target s from to p).after
  lead_target {L = L} from to p k = by (enters_between s from to.scope)
    where
      by : (b : Bool) → Leading calls s ds begun count L (cond b (targeted p.labels (with_labels 1 p)) (targeted to.label p)).after
      by true = lead_labels 1 p k
      by false = k

  lead_arms : {L : ℕ → Type 0} (from label number : ℕ) (cs : List CaseLabel) (p : Plan) → Leading calls s ds begun count L p → Leading calls s ds begun count L (case_arms s from label number cs p).after
  lead_arms from label number [] p k = k
  lead_arms from label number (c ∷ cs) p k = lead_arms from (behind label 1) (behind number 1) cs (edge_target s from (case_landing s label number) p).after (lead_target from (case_landing s label number) p k)

-- ---- the edges of cases

target_goes : (s : SettingView) (from : ℕ) (to : Landing) (p : Plan) → (enters_between s from to.scope ≡ true) ⊎ ((edge_target s from to p).to ≡ to.label)
target_goes s from to p = by (enters_between s from to.scope)
  where
    by : (b : Bool) → (b ≡ true) ⊎ ((cond b (targeted p.labels (with_labels 1 p)) (targeted to.label p)).to ≡ to.label)
    by true = inl refl
    by false = inr refl

next_behind : (first n label : ℕ) → label ≡ behind first n → behind label 1 ≡ behind first (suc n)
next_behind first n label e = omega (arith, e)

one_less : (n m : ℕ) → n < n + suc m
one_less n m = omega arith

more_less : (i n m : ℕ) → i < suc n + m → i < n + suc m
more_less i n m less = omega (arith, less)

cases_are : (s : SettingView) (from : ℕ) (P : ℕ → Type 0) (first n label number : ℕ) (cs : List CaseLabel) (p : Plan) → label ≡ behind first n → ((i : ℕ) → i < n + length cs → P (behind first i)) → AreArms s from P (case_arms s from label number cs p).arms
cases_are s from P first n label number [] p e all = tt
cases_are s from P first n label number (c ∷ cs) p e all =
    let to = case_landing s label number in (
      record { lands = subst P (sym e) (all n (one_less n (length cs))); goes = target_goes s from to p },
      cases_are s from P first (suc n) (behind label 1) (behind number 1) cs (edge_target s from to p).after (next_behind first n label e) (λ i less. all i (more_less i n (length cs) less)),
    )

first_behind : (a : ℕ) → a ≤ 2 ^ 32 - 1 → a ≡ behind a 0
first_behind a few = omega (arith, few)

-- where the values without a case go
to_others : (s : SettingView) (from to : ℕ) (landing : Landing) → (enters_between s from landing.scope ≡ true) ⊎ (to ≡ landing.label) → (N : ℕ → Type 0) → N landing.label → BlockTo s from to landing N to
to_others s from to landing (inl t) N there = inl (t, refl)
to_others s from to landing (inr t) N there = inr (subst N (sym t) there)

in_all : (i n : ℕ) → i < 0 + n → i < n
in_all i n less = omega (arith, less)

-- the dispatch of a switch, and the blocks of its edges
pub lead_dispatch : {calls : ℕ → Bool} {s : SettingView} {ds : List Dispatch} {begun count : ℕ} {N : ℕ → Type 0} (at : Place) (e : TermTree) (cases : List CaseLabel) (from : ℕ) (b : SwitchBegun) (p : Plan) → is_plain_term calls e ≡ true → b.dispatch.cases ≤ 2 ^ 32 - 1 → ((i : ℕ) → i < length cases → N (behind b.dispatch.cases i)) → N (other_landing (choice_at s b.choice) b.dispatch b.after).label
    → ((K : ℕ → Type 0) → Leading calls s ds begun count K p) → Leading calls s ds begun count N (dispatch s at e cases from b p)
lead_dispatch {s = s} {N = N} at e cases from b p plain few cases_there lands start =
    let landing = other_landing (choice_at s b.choice) b.dispatch b.after in
    let first = (choice_at s b.choice).first in
    let a = case_arms s from b.dispatch.cases first cases p in
    let other = edge_target s from landing a.after in
    let found = switched_object e other.after in
    let O = BlockTo s from other.to landing N in
    let arms : AreArms s from O a.arms = cases_are s from O b.dispatch.cases 0 b.dispatch.cases first cases p (first_behind b.dispatch.cases few) (λ i less. inr (cases_there i (in_all i (length cases) less))) in
    let to_other : O other.to = to_others s from other.to landing (target_goes s from landing a.after) N lands in
    let exits : AllTo (ArmsTo s from a.arms O) (dispatch_exits a.arms cases found.base other.to) =
    all_and (ArmsTo s from a.arms O) (map (case_exit found.base) a.arms) _ (to_arms s from a.arms found.base O arms) (behind_arms s from a.arms O other.to to_other) in
    lead_block from other.to landing _ lands (lead_blocks from a.arms _ arms (lead_end _ _ _ refl exits (lead_value e 0 found.after plain (lead_mention (named e) other.after (lead_target from landing a.after (lead_arms from b.dispatch.cases first cases p (start _)))))))

-- ---- what a switch gives away

abbrev pub own_dispatch : ℕ → Plan → Dispatch
own_dispatch count p = record { cases = p.labels; fallback = p.labels + count }

pub begins_choice : (count scope : ℕ) (p : Plan) → (begin_switch count scope p).begun.choice ≡ length p.dispatches
unfolding with_labels
begins_choice count scope p = refl

pub begins_dispatch : (count scope : ℕ) (p : Plan) → (begin_switch count scope p).begun.dispatch ≡ own_dispatch count p
unfolding with_labels
begins_dispatch count scope p = refl

pub begins_jobs : (count scope : ℕ) (p : Plan) → (begin_switch count scope p).after.jobs ≡ p.jobs
unfolding with_labels with_dispatch
begins_jobs count scope p = refl

pub begins_names : (count scope : ℕ) (p : Plan) → (begin_switch count scope p).after.names ≡ p.names
unfolding with_labels with_dispatch
begins_names count scope p = refl

pub begins_dispatches : (count scope : ℕ) (p : Plan) → (begin_switch count scope p).after.dispatches ≡ p.dispatches ++ own_dispatch count p ∷ []
unfolding with_labels with_dispatch
begins_dispatches count scope p = refl

pub own_there : (count scope : ℕ) (p : Plan) → get_or (begin_switch count scope p).after.dispatches (length p.dispatches) no_dispatch ≡ own_dispatch count p
own_there count scope p = ap (λ xs. get_or xs (length p.dispatches) no_dispatch) (begins_dispatches count scope p) ∙ get_or-append_seam p.dispatches (own_dispatch count p) [] no_dispatch

pub one_more : (count scope : ℕ) (p : Plan) → length (begin_switch count scope p).after.dispatches ≡ suc (length p.dispatches)
one_more count scope p = ap length (begins_dispatches count scope p) ∙ length-append p.dispatches (own_dispatch count p ∷ []) ∙ plus_one (length p.dispatches)
  where
    plus_one : (a : ℕ) → a + 1 ≡ suc a
    plus_one a = omega arith

just_below : (a b c : ℕ) → a ≡ b → c ≡ suc b → a < c + 0
just_below a b c e f = omega (arith, e, f)

none_more : (a : ℕ) → a ≡ a + 0
none_more a = omega arith

-- ---- a switch

module _ (calls : ℕ → Bool) (s : SettingView) (ds : List Dispatch) (L : ℕ → Type 0) (at : Place) (e : TermTree) (cases : List CaseLabel) (has_default : Bool) (values : Option (List ℤ)) (body : StatementTree) (around : Surroundings) (p : Plan) where
  abbrev whole : StatementTree
  whole = tree.Switch at e cases has_default values body

  pub comes_switch : p.jobs ≡ [] → AreOfObjects p.names → p.labels ≤ 2 ^ 32 - 1 → get_or ds (length p.dispatches) no_dispatch ≡ own_dispatch (length cases) p → Goes calls s (length p.dispatches) L whole around → Comes calls s ds L (length p.dispatches) (suc (switches_in body)) (switch s at e cases body around p)
  comes_switch none names few known g =
      let n = length cases in
      let b = begin_switch n around.scope p in
      let x = both _ _ g.plain in
      let choice = begins_choice n around.scope p in
      let begun = length b.after.dispatches in
      let M = λ (l : ℕ). (l ≡ b.begun.after.label) ⊎ L l in
      let N = λ (l : ℕ). Stands ds b.begun.choice body l ⊎ M l in
      let own : get_or ds b.begun.choice no_dispatch ≡ b.begun.dispatch = ap (λ c. get_or ds c no_dispatch) choice ∙ known ∙ sym (begins_dispatch n around.scope p) in
      let start : (K : ℕ → Type 0) → Leading calls s ds begun 0 K b.after = λ K. lead_none b.after (begins_jobs n around.scope p ∙ none) (subst AreOfObjects (sym (begins_names n around.scope p)) names) in
      let inside : Goes calls s (begun + 0) M body (in_switch around b.begun) =
      record {
        later = g.later;
        breaks = true;
        plain = x.1;
        labels = λ l t. inr (g.labels l t);
        on_break = λ t. inl refl;
        on_return = λ t. inr (g.on_return t);
        choice = λ o. just_below b.begun.choice (length p.dispatches) begun choice (one_more n around.scope p);
        switches = subst (λ c. LabelsStand s body c) (sym (one_more n around.scope p) ∙ none_more begun) g.switches.2;
      } in
      let case_there : (i : ℕ) → i < n → N (behind b.begun.dispatch.cases i) = λ i less. inl (inr (inl (i, g.switches.0 i less, ap (λ (d : Dispatch). behind d.cases i) (sym own)))) in
      let landing = other_landing (choice_at s b.begun.choice) b.begun.dispatch b.begun.after in
      let lands : N landing.label = landed (choice_at s b.begun.choice).fallback b.begun.dispatch b.begun.after (get_or ds b.begun.choice no_dispatch) (ap (λ (d : Dispatch). d.fallback) (sym own)) (subst (λ c. HasDefault (choice_at s c).fallback body) (sym choice) g.switches.1) (inl refl) in
      let few_cases = subst (λ (d : Dispatch). d.cases ≤ 2 ^ 32 - 1) (sym (begins_dispatch n around.scope p)) few in
      record {
        begun = begun;
        count = 0 + switches_in body;
        leading = lead_mark b.begun.after.label _ (lead_statement body (in_switch around b.begun) _ inside (lead_dispatch at e cases around.scope b.begun b.after x.0 few_cases case_there lands start));
        total = sum begun (length p.dispatches) (switches_in body) (one_more n around.scope p);
      }
    where
      sum : (a b c : ℕ) → a ≡ suc b → a + (0 + c) ≡ b + suc c
      sum a b c e = omega (arith, e)

      landed : (o : Option ℕ) (d : Dispatch) (after : Landing) (known : Dispatch) → d.fallback ≡ known.fallback → HasDefault o body → (after.label ≡ (begin_switch (length cases) around.scope p).begun.after.label) ⊎ L after.label
          → ((1 ≤ labels_in (landing_of o d after).label body) ⊎ (((n : ℕ) × (1 ≤ cases_in n body) × ((landing_of o d after).label ≡ behind known.cases n)) ⊎ ((1 ≤ defaults_in body) × ((landing_of o d after).label ≡ known.fallback)))) ⊎ (((landing_of o d after).label ≡ (begin_switch (length cases) around.scope p).begun.after.label) ⊎ L (landing_of o d after).label)
      landed None d after known same has end = inr end
      landed (Some scope) d after known same has end = inl (inr (inr (has, same)))
