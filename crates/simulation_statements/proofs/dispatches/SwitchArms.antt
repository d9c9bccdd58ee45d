-- The edges of a switch: where they lead, and the works of their blocks.
use Rattle.std.proofs.Common.{◌≡◌, ◌≤◌, ◌<◌, ℕ, zero, suc, ◌+◌, ◌-◌, ◌^◌, Bool, true, false, not, cond, List, [], ◌∷◌, ◌++◌, length, Some, slice_get, refl, arith, ap, sym, subst, ◌∙◌, append_assoc}
use Rattle.std.proofs.lemmas.List.{append-nil}
use Rattle.cc_base.specs.declared.diagnostics.Place.{Place}
use Rattle.c_layout.specs.declared.checked_tree.checked_statements.CaseLabel.{CaseLabel}
use Rattle.lower_templates.specs.Worklist.Acts as act
use Rattle.lower_templates.specs.Worklist.Pieces.{Local, PieceView, Mark}
use Rattle.lower_templates.specs.Worklist.Plans.{Plan, with_work, with_labels, begun}
use Rattle.lower_templates.specs.Worklist.Settings.{SettingView}
use Rattle.lower_templates.specs.Worklist.Works as jobs
use Rattle.lower_templates.specs.Worklist.Works.{Job, behind}
use Rattle.lower_templates.specs.declared.worklist.pending_works.Landing.{Landing}
use Rattle.lower_expressions.specs.Branches as branches
use Rattle.lower_functions.specs.Statements.ScopeJumps.{enters_between, leap, all_entered, is_empty}
use Rattle.lower_functions.specs.Statements.Switches.{Targeted, targeted, edge_target, case_scope, case_landing, case_arms, edge_block}
use Rattle.lower_functions.specs.declared.statements.switch_statements.CaseArm.{CaseArm}
use Rattle.simulation_terms.proofs.terms.Choices.{jumping}
use Rattle.simulation_terms.proofs.worklists.Assignments.{one_more_job}
use Rattle.simulation_terms.proofs.scopes.KeptScopes.{AreTerms}
use Rattle.simulation_terms.proofs.scopes.Objects.{object_jobs, objects_are_terms, entered_planned, locals}
use Rattle.simulation_terms.proofs.scopes.Positions.{position}
use Rattle.simulation_statements.specs.Switches.ValueEdges.{AreArms}
use Rattle.simulation_statements.specs.ScopeExits.Between.{Between}
use Rattle.simulation_statements.proofs.scope_exits.WaysBetween.{way_is, enters_is}

-- ---- labels of edges

-- an edge on whose way something is entered has a label of its own
pub record IsTargeted (s : SettingView) (from : ℕ) (landing : Landing) (to last : ℕ) : Type 0 where
  pub plain : enters_between s from landing.scope ≡ false → to ≡ landing.label
  pub own : enters_between s from landing.scope ≡ true → to < last

no_more : false ≡ true → ⊥
no_more e = cc

one_next : (a : ℕ) → a < a + 1
one_next a = omega arith

one_after : (a : ℕ) → a ≤ a + 1
one_after a = omega arith

as_many : (a : ℕ) → a ≤ a
as_many a = omega arith

none_there : (i : ℕ) (a : CaseArm) → slice_get [] i ≡ Some a → ⊥
none_there i a e = cc

nothing_less : true ≡ false → ⊥
nothing_less e = cc

module _ (s : SettingView) (from : ℕ) where
  -- an edge has its label, and labels become more
  pub record Aimed (landing : Landing) (p : Plan) (x : Targeted) : Type 0 where
    pub target : IsTargeted s from landing x.to x.after.labels
    pub labels : p.labels ≤ x.after.labels
    pub jobs : x.after.jobs ≡ p.jobs
    pub names : x.after.names ≡ p.names
    pub position : position x.after ≡ position p

  aimed_by : (landing : Landing) (p : Plan) (b : Bool) → enters_between s from landing.scope ≡ b → Aimed landing p (cond b (targeted p.labels (with_labels 1 p)) (targeted landing.label p))
  unfolding with_labels
  aimed_by landing p true e = record { target = record { plain = λ other. absurd (nothing_less (sym e ∙ other)); own = λ same. one_next p.labels }; labels = one_after p.labels; jobs = refl; names = refl; position = refl }
  aimed_by landing p false e = record { target = record { plain = λ same. refl; own = λ other. absurd (no_more (sym e ∙ other)) }; labels = as_many p.labels; jobs = refl; names = refl; position = refl }

  pub aimed : (landing : Landing) (p : Plan) → Aimed landing p (edge_target s from landing p)
  aimed landing p = aimed_by landing p (enters_between s from landing.scope) refl

  -- the arm of a case: its label, the scope of the case, and the label of its edge
  pub record IsArm (label number last : ℕ) (a : CaseArm) : Type 0 where
    pub label_is : a.landing.label ≡ label
    pub scope_is : a.landing.scope ≡ case_scope s number
    pub target : IsTargeted s from a.landing a.to last

  later : (landing : Landing) (to last more : ℕ) → last ≤ more → IsTargeted s from landing to last → IsTargeted s from landing to more
  later landing to last more le x = record { plain = x.plain; own = λ e. on to last more (x.own e) le }
    where
      on : (a b c : ℕ) → a < b → b ≤ c → a < c
      on a b c x y = omega (arith, x, y)

  pub record AllArms (label number : ℕ) (cs : List CaseLabel) (p q : Plan) (arms : List CaseArm) : Type 0 where
    pub are : AreArms cs arms
    pub each : (i : ℕ) (a : CaseArm) → slice_get arms i ≡ Some a → (i < length cs) × IsArm (label + i) (number + i) q.labels a
    pub labels : p.labels ≤ q.labels
    pub jobs : q.jobs ≡ p.jobs
    pub names : q.names ≡ p.names
    pub position : position q ≡ position p

  -- ---- numbers, as they are given away

  next_few : (a n : ℕ) → a + suc n ≤ 2 ^ 32 - 1 → behind a 1 + n ≤ 2 ^ 32 - 1
  next_few a n le = omega (arith, le)

  next_is : (a n i : ℕ) → a + suc n ≤ 2 ^ 32 - 1 → behind a 1 + i ≡ a + suc i
  next_is a n i le = omega (arith, le)

  first_is : (a : ℕ) → a ≡ a + 0
  first_is a = omega arith

  through : (a b c : ℕ) → a ≤ b → b ≤ c → a ≤ c
  through a b c x y = omega (arith, x, y)

  itself : (a : ℕ) → a ≤ a
  itself a = omega arith

  one_less : (n : ℕ) → 0 < suc n
  one_less n = omega arith

  more_less : (i n : ℕ) → i < n → suc i < suc n
  more_less i n less = omega (arith, less)

  at_arm : (label number last : ℕ) (c : CaseLabel) (cs : List CaseLabel) (x : CaseArm) (arms : List CaseArm) → label + suc (length cs) ≤ 2 ^ 32 - 1 → number + suc (length cs) ≤ 2 ^ 32 - 1 → IsArm label number last x → ((i : ℕ) (a : CaseArm) → slice_get arms i ≡ Some a → (i < length cs) × IsArm (behind label 1 + i) (behind number 1 + i) last a)
      → (i : ℕ) (a : CaseArm) → slice_get (x ∷ arms) i ≡ Some a → (i < suc (length cs)) × IsArm (label + i) (number + i) last a
  at_arm label number last c cs x arms few also one rest zero a there =
      (one_less (length cs), subst (λ b. IsArm (label + 0) (number + 0) last b) (same there) (subst (λ m. IsArm (label + 0) m last x) (first_is number) (subst (λ k. IsArm k number last x) (first_is label) one)))
    where
      same : Some x ≡ Some a → x ≡ a
      same e = cc
  at_arm label number last c cs x arms few also one rest (suc i) a there =
      let y = rest i a there in
      (more_less i (length cs) y.0, subst (λ m. IsArm (label + suc i) m last a) (next_is number (length cs) i also) (subst (λ k. IsArm k (behind number 1 + i) last a) (next_is label (length cs) i few) y.1))

  pub all_arms : (cs : List CaseLabel) (label number : ℕ) (p : Plan) → label + length cs ≤ 2 ^ 32 - 1 → number + length cs ≤ 2 ^ 32 - 1 → AllArms label number cs p (case_arms s from label number cs p).after (case_arms s from label number cs p).arms
  all_arms [] label number p few also = record { are = tt; each = λ i a there. absurd (none_there i a there); labels = itself p.labels; jobs = refl; names = refl; position = refl }
  all_arms (c ∷ cs) label number p few also =
      let landing = case_landing s label number in
      let x = edge_target s from landing p in
      let one = aimed landing p in
      let rest = all_arms cs (behind label 1) (behind number 1) x.after (next_few label (length cs) few) (next_few number (length cs) also) in
      let end = case_arms s from (behind label 1) (behind number 1) cs x.after in
      record {
        are = (refl, rest.are);
        each = at_arm label number end.after.labels c cs (record { value = c.value; to = x.to; landing = landing }) end.arms few also (record { label_is = refl; scope_is = refl; target = later landing x.to x.after.labels end.after.labels rest.labels one.target }) rest.each;
        labels = through p.labels x.after.labels end.after.labels one.labels rest.labels;
        jobs = rest.jobs ∙ one.jobs;
        names = rest.names ∙ one.names;
        position = rest.position ∙ one.position;
      }

-- ---- the works of edges

-- the block of an edge on whose way objects are entered
abbrev pub one_block : Place → ℕ → ℕ → List ℕ → ℕ → List Job
one_block at to label [] base = []
one_block at to label (x ∷ xs) base = jobs.Ready (Mark to) ∷ (object_jobs act.Enter at (x ∷ xs) base ++ jobs.Ready (jumping at label) ∷ [])

pub block_terms : (at : Place) (to label : ℕ) (xs : List ℕ) (base : ℕ) → AreTerms (one_block at to label xs base)
block_terms at to label [] base = tt
block_terms at to label (x ∷ xs) base = (tt, terms_and (object_jobs act.Enter at (x ∷ xs) base) (jumping at label) (objects_are_terms act.Enter at (x ∷ xs) base))
  where
    terms_and : (js : List Job) (q : PieceView) → AreTerms js → AreTerms (js ++ jobs.Ready q ∷ [])
    terms_and [] q all = (tt, tt)
    terms_and (j ∷ js) q all = (all.0, terms_and js q all.1)

pub record Blocked (js : List Job) (xs : List ℕ) (p q : Plan) : Type 0 where
  pub jobs : q.jobs ≡ p.jobs ++ js
  pub names : q.names ≡ p.names ++ locals xs
  pub position : position q ≡ position p

work_names : (j : Job) (p : Plan) → (with_work j p).names ≡ p.names
unfolding with_work
work_names j p = refl

work_position : (j : Job) (p : Plan) → position (with_work j p) ≡ position p
unfolding with_work
work_position j p = refl

pub blocked_none : (p : Plan) → Blocked [] [] p p
blocked_none p = record { jobs = sym (append-nil p.jobs); names = sym (append-nil p.names); position = refl }

pub blocked_on : (js ks : List Job) (xs ys : List ℕ) (p q r : Plan) → Blocked js xs p q → Blocked ks ys q r → Blocked (js ++ ks) (xs ++ ys) p r
blocked_on js ks xs ys p q r x y = record {
  jobs = y.jobs ∙ ap (λ zs. zs ++ ks) x.jobs ∙ append_assoc p.jobs js ks;
  names = y.names ∙ ap (λ zs. zs ++ locals ys) x.names ∙ append_assoc p.names (locals xs) (locals ys) ∙ ap (λ zs. p.names ++ zs) (sym (locals_on xs ys));
  position = y.position ∙ x.position;
}
  where
    locals_on : (xs ys : List ℕ) → locals (xs ++ ys) ≡ locals xs ++ locals ys
    locals_on [] ys = refl
    locals_on (x ∷ xs) ys = ap (λ zs. Local x ∷ zs) (locals_on xs ys)

module _ (s : SettingView) (from : ℕ) (enough : from ≤ length s.scopes.scopes) where
  entering : (to : ℕ) (landing : Landing) (x : ℕ) (xs : List ℕ) (p : Plan) → Blocked (one_block s.at to landing.label (x ∷ xs) (length p.names)) (x ∷ xs) p (branches.jump s.at landing.label (all_entered s.at (x ∷ xs) (begun to p)))
  entering to landing x xs p =
      let start = begun to p in
      let ys = x ∷ xs in
      let second = all_entered s.at ys start in
      let last = jumping s.at landing.label in
      let e = entered_planned s.at ys start in
      let same = work_names (jobs.Ready (Mark to)) p in
      record {
        jobs = one_more_job second.jobs (jobs.Ready last) second refl
            ∙ ap (λ ks. ks ++ jobs.Ready last ∷ []) (e.jobs ∙ ap (λ ks. ks ++ object_jobs act.Enter s.at ys (length start.names)) (one_more_job p.jobs (jobs.Ready (Mark to)) p refl)
            ∙ ap (λ ns. (p.jobs ++ jobs.Ready (Mark to) ∷ []) ++ object_jobs act.Enter s.at ys (length ns)) same)
            ∙ append_assoc (p.jobs ++ jobs.Ready (Mark to) ∷ []) (object_jobs act.Enter s.at ys (length p.names)) (jobs.Ready last ∷ [])
            ∙ append_assoc p.jobs (jobs.Ready (Mark to) ∷ []) (object_jobs act.Enter s.at ys (length p.names) ++ jobs.Ready last ∷ []);
        names = work_names (jobs.Ready last) second ∙ e.names ∙ ap (λ ns. ns ++ locals ys) same;
        position = work_position (jobs.Ready last) second ∙ e.scopes ∙ work_position (jobs.Ready (Mark to)) p;
      }

  pub block_planned : (to : ℕ) (landing : Landing) (xs : List ℕ) → Between s from landing.scope [] xs → landing.scope ≤ length s.scopes.scopes → (p : Plan) → Blocked (one_block s.at to landing.label xs (length p.names)) xs p (edge_block s from to landing p)
  block_planned to landing [] between also p =
      let e = enters_is s s.scopes.scopes from landing.scope [] [] between enough also in
      subst (λ q. Blocked [] [] p q) (sym (ap (λ b. cond b (leap s from landing (begun to p)) p) e)) (blocked_none p)
  block_planned to landing (x ∷ xs) between also p =
      let e = enters_is s s.scopes.scopes from landing.scope [] (x ∷ xs) between enough also in
      let is_all = ap (λ b. cond b (leap s from landing (begun to p)) p) e ∙ ap (branches.jump s.at landing.label) (way_is s s.scopes.scopes from landing.scope [] (x ∷ xs) between enough also (begun to p)) in
      subst (λ q. Blocked (one_block s.at to landing.label (x ∷ xs) (length p.names)) (x ∷ xs) p q) (sym is_all) (entering to landing x xs p)

  -- whether something is entered
  pub enters_some : (landing : Landing) (xs : List ℕ) → Between s from landing.scope [] xs → landing.scope ≤ length s.scopes.scopes → enters_between s from landing.scope ≡ not (is_empty xs)
  enters_some landing xs between also = enters_is s s.scopes.scopes from landing.scope [] xs between enough also
