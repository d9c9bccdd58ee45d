-- Works that keep to what is known come to pieces that do, and so templates of typed functions do.
use Rattle.std.proofs.Common.{◌≡◌, ◌≤◌, ◌<◌, inl, inr, ℕ, ◌+◌, ◌-◌, ◌^◌, ◌==◌, Bool, true, false, ◌&&◌, ◌||◌, cond, nat_lt, nat_le, List, [], ◌∷◌, take, length, Some, None, is_some, refl, arith, ap, sym, subst, ◌∙◌}
use Rattle.std.specs.List.{list_all}
use Rattle.std.proofs.lemmas.Bool.{eq-eqb, eqb-true, leb-true, ltb-true}
use Rattle.std.proofs.lemmas.List.{append-nil}
use Rattle.c_layout.specs.CheckedTrees.{statement_trees}
use Rattle.c_layout.specs.CheckedUnits.{FunctionView, UnitView}
use Rattle.lower_template_theorems.specs.PendingLabels.Marks.{below, all_labels_in, all_cases_in, all_defaults_in, IsLabelled}
use Rattle.lower_functions.specs.Functions.Functions.{function, entry, called, setting_of, no_plan, IsTemplate}
use Rattle.lower_functions.specs.Functions.Turns.{planless}
use Rattle.lower_template_theorems.specs.Growth.Growth.{Grows}
use Rattle.lower_template_theorems.proofs.growth.GrowingWorks.{grows, grows_parts, jobs_none}
use Rattle.typed_programs.proofs.plain_templates.LeadingForms.{Within, within_before}
use Rattle.typed_programs.proofs.plain_templates.LeadingStatements.{list}
use Rattle.lower_functions.specs.Statements.Statements.{statement}
use Rattle.lower_templates.specs.Worklist.Pieces.{NameView, PieceView, TemplateView}
use Rattle.lower_templates.specs.Worklist.Plans.{Plan}
use Rattle.lower_templates.specs.Worklist.Settings.{SettingView}
use Rattle.lower_templates.specs.Worklist.TermKinds.{is_void}
use Rattle.lower_templates.specs.Worklist.Works as jobs
use Rattle.lower_templates.specs.Worklist.Works.{Job}
use Rattle.lower_templates.specs.declared.worklist.template_builder.Dispatch.{Dispatch}
use Rattle.lower_preconditions.specs.Units.LabelNumbers.{is_numbered}
use Rattle.lower_preconditions.specs.Units.RegularStatements.{are_regular_statements}
use Rattle.lower_preconditions.specs.Units.ScopeObjects.{has_own_objects, function_marked}
use Rattle.simulation_layout.proofs.function_checks.CountedLabels.{both_true, labels_once, function_labelled}
use Rattle.lower_template_theorems.specs.Worklists.Derivations.{is_piece, parts, Makes, nothing, piece, work}
use Rattle.lower_template_theorems.proofs.worklists.Derivations.{derived}
use Rattle.typed_programs.specs.Types.TypedPrograms.{IsKept}
use Rattle.typed_programs.specs.Types.TypedStates.{Temporaries}
use Rattle.typed_lowering.specs.Conversions.KnownValues as known
use Rattle.typed_lowering.specs.Conversions.KnownValues.{below as known_below, with_value, term_known, place_known}
use Rattle.typed_lowering.specs.Conversions.ProgramLaws.{TypesStandWhereTheyBegin}
use Rattle.typed_lowering.specs.Conversions.TypedPieces.{State, Leads, AreTypedPieces, IsTypedTemplate, parameters_known, result_known}
use Rattle.typed_lowering.specs.Conversions.TypedStatements.{has_scalars, are_typed_statements}
use Rattle.typed_lowering.specs.Conversions.TypedTerms.{is_scalar, local_types, parameter_types}
use Rattle.typed_lowering.specs.Conversions.WorkLaws.{Extends, Labelled, IsSettingOf, WorksAreTyped, TemplatesAreTyped}
use Rattle.typed_lowering.proofs.conversions.KeptKnowledge.{kept_nothing}
use Rattle.typed_lowering.proofs.conversions.JoinedPieces.{pieces_stronger, pieces_joined, pieces_weaker}
use Rattle.typed_lowering.proofs.templates.LabelKnowledge.{parted, parted_first, parted_last, joined, labelled_more, new_labels}
use Rattle.typed_lowering.proofs.templates.NumberedLabels.{IsNumbered, all_numbered}
use Rattle.typed_lowering.proofs.templates.FollowingWorks.{Asks, Meets, Asked, Looks, Follows, Flow, Flowing, leads_nothing, extends_less}
use Rattle.typed_lowering.proofs.templates.FollowingStatements.{dispatches_grow, flowing_by_form}
use Rattle.typed_lowering.proofs.templates.FollowingFunctions.{AreBelow, numbers_below, entry_asks, called_asks, flowing_entry, flowing_called}

through : (a b c : ℕ) → a ≤ b → b ≤ c → a ≤ c
through a b c x y = omega (arith, x, y)

same_le : (a : ℕ) → a ≤ a
same_le a = omega arith

from_zero : (a : ℕ) → 0 + a ≤ a
from_zero a = omega arith

no_piece : {A : Type 0} → true ≡ false → A
no_piece e = absurd (cc)

extends_grown : (p q : Plan) (names : List NameView) → Grows p q → Extends q.names names → Extends p.names names
extends_grown p q names g extends = extends_less p.names g.more_names names (subst (λ xs. Extends xs names) g.names extends)

-- ---- works

module _ (u : UnitView) (f : FunctionView) (calls : ℕ → Bool) (s : SettingView) (ds : List Dispatch) (used : Bool) (names : List NameView) (typed : WorksAreTyped) (stand : TypesStandWhereTheyBegin) (setting : IsSettingOf u s) where
  abbrev Typed : Asks → State → List PieceView → State → (ℕ → Temporaries) → Type 0
  Typed K m ps r labels = Meets K labels → AreTypedPieces u f used names labels m ps r

  -- one work that is not a piece, where what it consists of does so
  follow_one : (K : Asks) (top : ℕ) (p : Plan) (j : Job) (ps : List PieceView) (q : Plan) (m r : State) → is_piece j ≡ false → Makes s (planless (parts s j p)) (parts s j p).jobs ps q → p.jobs ≡ [] → q.labels ≤ 2 ^ 32 - 1 → Within ds q → Extends q.names names → top ≤ length p.dispatches
      → ((M : Asks) (high : ℕ) (a b : State) → high ≤ length (parts s j p).dispatches → Flow u f calls s ds M high used names a (parts s j p).jobs b → Labelled (parts s j p).labels q.labels (Typed M a ps b))
      → Follows u f calls s ds K top used names m j r → Labelled p.labels q.labels (Typed K m ps r)
  follow_one K top p j ps q m r other made none few within extends there inside is = by j other made inside is
    where
      once : (j : Job) → is_piece j ≡ false → Makes s (planless (parts s j p)) (parts s j p).jobs ps q → Makes s p (j ∷ []) ps q
      once j other made = subst (λ xs. Makes s p (j ∷ []) xs q) (append-nil ps) (work p j [] ps q [] q other made (nothing q))

      -- of a term: from what is known before
      from : (before after : Temporaries) → Leads m before → r ≡ Some after → Labelled p.labels q.labels (λ labels. AreTypedPieces u f used names labels (Some before) ps (Some after)) → Labelled p.labels q.labels (Typed K m ps r)
      from before after leads same x = labelled_more (λ labels t meets. subst (AreTypedPieces u f used names labels m ps) (sym same) (pieces_stronger u f used names labels m (Some before) (Some after) ps leads t)) x

      by : (j : Job) → is_piece j ≡ false → Makes s (planless (parts s j p)) (parts s j p).jobs ps q
          → ((M : Asks) (high : ℕ) (a b : State) → high ≤ length (parts s j p).dispatches → Flow u f calls s ds M high used names a (parts s j p).jobs b → Labelled (parts s j p).labels q.labels (Typed M a ps b))
          → Follows u f calls s ds K top used names m j r → Labelled p.labels q.labels (Typed K m ps r)
      by (jobs.Value e depth) other made inside (before, leads, looked, same) = from before (with_value depth (term_known e) before) leads same (typed u f calls s setting p (jobs.Value e depth) ps q (once (jobs.Value e depth) other made) none looked used names extends before)
      by (jobs.Unused e depth) other made inside (before, leads, looked, same) = from before (known_below depth before) leads same (typed u f calls s setting p (jobs.Unused e depth) ps q (once (jobs.Unused e depth) other made) none looked used names extends before)
      by (jobs.Address l depth) other made inside (before, leads, looked, same) = from before (with_value depth (place_known l) before) leads same (typed u f calls s setting p (jobs.Address l depth) ps q (once (jobs.Address l depth) other made) none looked used names extends before)
      by (jobs.Condition e d) other made inside (looked, yes_, no_, same) =
          labelled_more (λ labels t meets. subst (AreTypedPieces u f used names labels m ps) (sym same)
          (pieces_stronger u f used names labels m (Some known.nothing) None ps (leads_nothing m)
          (t (subst (λ k. IsKept (known_below d.depth known.nothing) k) (sym (meets d.targets.yes known.nothing yes_)) (kept_nothing _)) (subst (λ k. IsKept (known_below d.depth known.nothing) k) (sym (meets d.targets.no known.nothing no_)) (kept_nothing _)))))
          (typed u f calls s setting p (jobs.Condition e d) ps q (once (jobs.Condition e d) other made) none looked used names extends known.nothing)
      by (jobs.Statement i around) other made inside (goes, same) =
          let d = statement s i around p in
          let behind = grows s (planless d) d.jobs ps q made in
          let here = grows_parts s (jobs.Statement i around) p in
          let few_d = through d.labels q.labels (2 ^ 32 - 1) behind.labels few in
          let within_d : Within ds d = within_before ds (planless d) q behind within in
          let x = flowing_by_form u f calls s ds used stand setting.laid K (length d.dispatches) top i around p none few_d within_d there (same_le (length d.dispatches)) goes in
          let flow = x.works names d.labels (extends_grown (planless d) q names behind extends) (same_le d.labels) in
          let pieces = inside (Asked K p.labels d.labels) (length d.dispatches) (Some known.nothing) (Some known.nothing) (same_le (length d.dispatches)) flow in
          labelled_more (λ labels t meets. subst (AreTypedPieces u f used names labels m ps) (sym same) (pieces_stronger u f used names labels m (Some known.nothing) (Some known.nothing) ps (leads_nothing m) (t.1 (all labels d.labels t.0 meets))))
          (joined p.labels d.labels q.labels (λ labels. (l : ℕ) → p.labels ≤ l → l < d.labels → labels l ≡ known.nothing) (Typed (Asked K p.labels d.labels) (Some known.nothing) ps (Some known.nothing)) here.labels behind.labels (new_labels p.labels d.labels) pieces)
        where
          all : (labels : ℕ → Temporaries) (last : ℕ) → ((l : ℕ) → p.labels ≤ l → l < last → labels l ≡ known.nothing) → Meets K labels → Meets (Asked K p.labels last) labels
          all labels last new meets l k (inl is) = meets l k is
          all labels last new meets l k (inr x) = new l x.0 x.1 ∙ sym x.2
      by (jobs.Ready q) other made inside is = no_piece other

  pub follow : (K : Asks) (top : ℕ) (p : Plan) (js : List Job) (ps : List PieceView) (r : Plan) (m t : State) → Makes s p js ps r → p.jobs ≡ [] → r.labels ≤ 2 ^ 32 - 1 → Within ds r → Extends r.names names → top ≤ length p.dispatches → Flow u f calls s ds K top used names m js t → Labelled p.labels r.labels (Typed K m ps t)
  follow K top p _ _ r m t (nothing _) none few within extends there flow = record { own = λ l. known.nothing; is = λ labels agree meets. flow }
  follow K top p _ _ r m t (piece _ q js qs _ made) none few within extends there (n, one, rest) = labelled_more (λ labels x meets. (n, one labels meets, x meets)) (follow K top p js qs r n t made none few within extends there rest)
  follow K top p _ _ r m t (work _ j js ps q qs _ other made k) none few within extends there (n, one, rest) =
      let d = parts s j p in
      let here = grows_parts s j p in
      let inner = grows s (planless d) d.jobs ps q made in
      let later = grows s q js qs r k in
      let none_q = jobs_none s (planless d) d.jobs ps q made refl in
      let few_q = through q.labels r.labels (2 ^ 32 - 1) later.labels few in
      let within_q = within_before ds q r later within in
      let extends_q = extends_grown q r names later extends in
      let longer = through (length p.dispatches) (length d.dispatches) (length q.dispatches) (dispatches_grow p d here) (dispatches_grow (planless d) q inner) in
      let first = follow_one K top p j ps q m n other made none few_q within_q extends_q there (λ M high a b up flow. follow M high (planless d) d.jobs ps q a b made refl few_q within_q extends_q up flow) one in
      let last = follow K top q js qs r n t k none_q few within extends (through top (length p.dispatches) (length q.dispatches) there longer) rest in
      labelled_more (λ labels x meets. pieces_joined u f used names labels m n t ps qs (x.0 meets) (x.1 meets)) (joined p.labels q.labels r.labels (Typed K m ps n) (Typed K n qs t) (through p.labels d.labels q.labels here.labels inner.labels) later.labels first last)

-- ---- labels of functions

number_below : (n labels a : ℕ) → a ≤ below n labels → 1 ≤ a → n < labels
number_below n labels a few some = by (nat_lt n labels) refl few
  where
    no : (a : ℕ) → a ≤ 0 → 1 ≤ a → ⊥
    no a few some = omega (arith, few, some)

    by : (b : Bool) → nat_lt n labels ≡ b → a ≤ cond b 1 0 → n < labels
    by true e few = ltb-true n labels e
    by false e few = absurd (no a few some)

none_some : (a : ℕ) → a ≡ 0 → 1 ≤ a → ⊥
none_some a e some = omega (arith, e, some)

body_numbered : (f : FunctionView) → IsLabelled f → IsNumbered f.labels 0 false (list (statement_trees f.body))
body_numbered f x = all_numbered f.labels 0 false (statement_trees f.body) (λ n some. number_below n f.labels (all_labels_in n (statement_trees f.body)) (x.labels n) some) (λ n some. absurd (none_some (all_cases_in n (statement_trees f.body)) (x.cases n) some)) (λ some. absurd (none_some (all_defaults_in (statement_trees f.body)) x.defaults some)) x.switches

-- what is known at the labels of a called function: at the first one its arguments, at those of its works what they ask
abbrev first_labels : FunctionView → ℕ → Temporaries
first_labels f l = cond (l == f.labels + 1) (parameters_known f) known.nothing

abbrev called_labels : FunctionView → ℕ → (ℕ → Temporaries) → ℕ → Temporaries
called_labels f last own = parted last (first_labels f) own

not_same : (l n : ℕ) → l ≤ n → (l == n + 1) ≡ false
not_same l n le = by (l == n + 1) refl
  where
    no : (l n : ℕ) → l ≤ n → l ≡ n + 1 → ⊥
    no l n le e = omega (arith, le, e)

    by : (b : Bool) → (l == n + 1) ≡ b → (l == n + 1) ≡ false
    by false e = e
    by true e = absurd (no l n le (eqb-true l (n + 1) e))

module _ (u : UnitView) (f : FunctionView) (calls : ℕ → Bool) (s : SettingView) (used : Bool) (t : TemplateView) (typed : WorksAreTyped) (stand : TypesStandWhereTheyBegin) (setting : IsSettingOf u s) (end_is : s.end ≡ f.labels) where
  -- a plan that keeps to what is known comes to pieces that do
  planned : (K : Asks) (first low : ℕ) (from to : State) (p last : Plan) → Flowing u f calls s last.dispatches used K first (length p.dispatches) low from to p → Makes s (planless p) p.jobs t.pieces last → last.labels ≤ 2 ^ 32 - 1 → t.names ≡ last.names
      → Labelled p.labels last.labels (λ labels. Meets (Asked K first p.labels) labels → AreTypedPieces u f used t.names labels from t.pieces to)
  planned K first low from to p last x made few same =
      let extends : Extends last.names t.names = subst (λ names. Extends last.names names) (sym same) (λ n x e. e) in
      let flow = x.works t.names p.labels (extends_grown (planless p) last t.names (grows s (planless p) p.jobs t.pieces last made) extends) (same_le p.labels) in
      follow u f calls s last.dispatches used t.names typed stand setting (Asked K first p.labels) (length p.dispatches) (planless p) p.jobs t.pieces last from to made refl few (λ c less. refl) extends (same_le (length p.dispatches)) flow

  entry_typed : (last : Plan) → Looks u f calls 0 false (list (statement_trees f.body)) → Makes s (planless (entry s f (no_plan f.labels))) (entry s f (no_plan f.labels)).jobs t.pieces last → last.labels ≤ 2 ^ 32 - 1 → t.names ≡ last.names → IsTypedTemplate u f used t
  entry_typed last looks made few same =
      let p = entry s f (no_plan f.labels) in
      let x = flowing_entry u f calls s last.dispatches used (length p.dispatches) looks end_is in
      let y = planned (entry_asks f) (f.labels + 1) (f.labels + 1) (Some known.nothing) None p last x made few same in
      let labels = parted p.labels (λ l. known.nothing) y.own in
      let pieces = y.is labels (λ l from to. parted_last p.labels (λ l. known.nothing) y.own l from) (λ l k is. by p.labels y.own x.room l k is) in
      record {
        labels = labels;
        pieces = pieces_weaker u f used t.names labels (Some (parameters_known f)) None (Some (result_known used f)) t.pieces (pieces_stronger u f used t.names labels (Some (parameters_known f)) (Some known.nothing) None t.pieces (kept_nothing (parameters_known f)) pieces) tt;
      }
    where
      less : (l n last : ℕ) → l ≤ n → n + 1 ≤ last → l < last
      less l n last le few = omega (arith, le, few)

      by : (last : ℕ) (own : ℕ → Temporaries) → f.labels + 1 ≤ last → (l : ℕ) (k : Temporaries) → Asked (entry_asks f) (f.labels + 1) last l k → parted last (λ l. known.nothing) own l ≡ k
      by last own few l k (inl x) = parted_first last (λ l. known.nothing) own l (less l f.labels last x.0 few) ∙ sym x.1
      by last own few l k (inr x) = parted_first last (λ l. known.nothing) own l x.1 ∙ sym x.2

  called_typed : (last : Plan) → Looks u f calls 0 false (list (statement_trees f.body)) → f.parameters ≤ length f.locals → list_all is_scalar (local_types (take f.parameters f.locals)) ≡ true → (is_void f.returns || is_scalar f.returns) ≡ true → AreBelow f.parameters s.parameters
      → Makes s (planless (called s f (no_plan f.labels))) (called s f (no_plan f.labels)).jobs t.pieces last → last.labels ≤ 2 ^ 32 - 1 → t.names ≡ last.names → IsTypedTemplate u f used t
  called_typed last looks there scalars result below_ made few same =
      let p = called s f (no_plan f.labels) in
      let x = flowing_called u f calls s last.dispatches used (length p.dispatches) looks end_is there scalars result below_ in
      let y = planned (called_asks f) ((f.labels + 1) + 1) ((f.labels + 1) + 2) (Some (parameters_known f)) (Some (result_known used f)) p last x made few same in
      let labels = called_labels f p.labels y.own in
      record { labels = labels; pieces = y.is labels (λ l from to. parted_last p.labels (first_labels f) y.own l from) (λ l k is. by p.labels y.own x.room l k is) }
    where
      less : (l n last : ℕ) → l ≤ n → (n + 1) + 2 ≤ last → l < last
      less l n last le few = omega (arith, le, few)

      this_less : (l n last : ℕ) → l ≡ n + 1 → (n + 1) + 2 ≤ last → l < last
      this_less l n last e few = omega (arith, e, few)

      later : (l n : ℕ) → (n + 1) + 1 ≤ l → (l == n + 1) ≡ false
      later l n from = by_ (l == n + 1) refl
        where
          no : (l n : ℕ) → (n + 1) + 1 ≤ l → l ≡ n + 1 → ⊥
          no l n from e = omega (arith, from, e)

          by_ : (b : Bool) → (l == n + 1) ≡ b → (l == n + 1) ≡ false
          by_ false e = e
          by_ true e = absurd (no l n from (eqb-true l (n + 1) e))

      at : (b : Bool) (l : ℕ) → (l == f.labels + 1) ≡ b → cond (l == f.labels + 1) (parameters_known f) known.nothing ≡ cond b (parameters_known f) known.nothing
      at b l e = ap (λ b. cond b (parameters_known f) known.nothing) e

      by : (last : ℕ) (own : ℕ → Temporaries) → (f.labels + 1) + 2 ≤ last → (l : ℕ) (k : Temporaries) → Asked (called_asks f) ((f.labels + 1) + 1) last l k → called_labels f last own l ≡ k
      by last own few l k (inl (inl x)) = parted_first last (first_labels f) own l (less l f.labels last x.0 few) ∙ at false l (not_same l f.labels x.0) ∙ sym x.1
      by last own few l k (inl (inr x)) = parted_first last (first_labels f) own l (this_less l f.labels last x.0 few) ∙ at true l (eq-eqb l (f.labels + 1) x.0) ∙ sym x.1
      by last own few l k (inr x) = parted_first last (first_labels f) own l x.1 ∙ at false l (later l f.labels x.0) ∙ sym x.2

-- ---- templates

pub templates_are_typed : WorksAreTyped → TypesStandWhereTheyBegin → TemplatesAreTyped
templates_are_typed typed stand u f calls is_entry t laid is few look regular looped used = by is_entry is
  where
    looks : Looks u f calls 0 false (list (statement_trees f.body))
    looks =
        let x = both_true (has_scalars f) (are_typed_statements u f (statement_trees f.body)) look in
        let y = both_true (is_numbered f) (has_own_objects f && are_regular_statements u f false false (statement_trees f.body)) regular in
        let z = both_true (has_own_objects f) (are_regular_statements u f false false (statement_trees f.body)) y.1 in
        record { typed = x.1; looped = looped; breaks = false; loops = false; regular = z.1; numbered = body_numbered f (function_labelled f (labels_once f y.0)) }

    there : f.parameters ≤ length f.locals
    there =
        let y = both_true (is_numbered f) (has_own_objects f && are_regular_statements u f false false (statement_trees f.body)) regular in
        let z = both_true (has_own_objects f) (are_regular_statements u f false false (statement_trees f.body)) y.1 in
        leb-true f.parameters (length f.locals) (both_true (nat_le f.parameters (length f.locals)) (is_some (function_marked f)) z.0).0

    scalars : (list_all is_scalar (parameter_types f) ≡ true) × ((is_void f.returns || is_scalar f.returns) ≡ true)
    scalars = both_true (list_all is_scalar (parameter_types f)) (is_void f.returns || is_scalar f.returns) (both_true (has_scalars f) (are_typed_statements u f (statement_trees f.body)) look).0

    by : (is_entry : Bool) → IsTemplate u.structs u.model.pointer u.model.int f is_entry t → IsTypedTemplate u f used t
    by true is =
        let s = setting_of u.structs u.model.pointer u.model.int f true in
        let d = derived s (function s f (no_plan f.labels)) t is in
        entry_typed u f calls s used t typed stand (record { laid = laid; structs = refl; pointer = refl }) refl d.last looks d.pieces (subst (λ n. n ≤ 2 ^ 32 - 1) d.labels few) d.names
    by false is =
        let s = setting_of u.structs u.model.pointer u.model.int f false in
        let d = derived s (function s f (no_plan f.labels)) t is in
        called_typed u f calls s used t typed stand (record { laid = laid; structs = refl; pointer = refl }) refl d.last looks there scalars.0 scalars.1 (numbers_below 0 f.parameters f.parameters (from_zero f.parameters)) d.pieces (subst (λ n. n ≤ 2 ^ 32 - 1) d.labels few) d.names
