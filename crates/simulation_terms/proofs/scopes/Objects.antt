-- Objects that are entered, left and changed.
use Rattle.std.proofs.Common.{◌≡◌, ℕ, suc, List, [], ◌∷◌, ◌++◌, map, length, Some, slice_get, refl, arith, ap, sym, subst, ◌∙◌, append_assoc, length-append}
use Rattle.std.proofs.lemmas.List.{append-nil}
use Rattle.cc_base.specs.declared.diagnostics.Place.{Place}
use Rattle.lower_templates.specs.Worklist.Acts as act
use Rattle.lower_templates.specs.Worklist.Acts.{Act}
use Rattle.lower_templates.specs.Worklist.Pieces.{NameView, Local, PieceView, Mark}
use Rattle.lower_templates.specs.Worklist.Plans.{Plan, with_work, with_name}
use Rattle.lower_templates.specs.Worklist.Settings.{SettingView}
use Rattle.lower_templates.specs.Worklist.Works as jobs
use Rattle.lower_templates.specs.Worklist.Works.{Job}
use Rattle.lower_functions.specs.Statements.ScopeJumps.{entered, left, all_entered, all_left}
use Rattle.semantics.specs.SourceMachine.Items as item
use Rattle.semantics.specs.SourceMachine.Items.{Item}
use Rattle.simulation_terms.specs.SimulationRelation.Activations.{Activation}
use Rattle.simulation_terms.specs.SimulationRelation.Simulates as simulates
use Rattle.simulation_terms.specs.SimulationRelation.Simulates.{Names, Simulates, at_place, own}
use Rattle.simulation_terms.proofs.simulation_relation.Constructions.{gives_enter, gives_leave, gives_no_enters, gives_no_leaves}
use Rattle.simulation_terms.specs.Worklists.TemplateParts.{IsOfUnit, IsKnown, Stands}
use Rattle.simulation_terms.proofs.worklists.Runs.{Runs, headed, none_made, stands_after}
use Rattle.simulation_terms.proofs.scopes.Positions.{position}
use Rattle.simulation_terms.proofs.scopes.KeptScopes.{AreTerms}

-- ---- works

-- each object has a base of its own, from a number on
abbrev pub object_jobs : (ℕ → Act) → Place → List ℕ → ℕ → List Job
object_jobs does at [] base = []
object_jobs does at (x ∷ xs) base = jobs.Ready (at_place at (does base)) ∷ object_jobs does at xs (suc base)

abbrev pub locals : List ℕ → List NameView
locals xs = map Local xs

pub objects_are_terms : (does : ℕ → Act) (at : Place) (xs : List ℕ) (base : ℕ) → AreTerms (object_jobs does at xs base)
objects_are_terms does at [] base = tt
objects_are_terms does at (x ∷ xs) base = (tt, objects_are_terms does at xs (suc base))

-- what is planned for objects
pub record Planned (does : ℕ → Act) (at : Place) (xs : List ℕ) (p q : Plan) : Type 0 where
  pub jobs : q.jobs ≡ p.jobs ++ object_jobs does at xs (length p.names)
  pub names : q.names ≡ p.names ++ locals xs
  pub labels : q.labels ≡ p.labels
  pub scopes : position q ≡ position p

next_base : (names : List NameView) (x : NameView) → length (names ++ x ∷ []) ≡ suc (length names)
next_base names x = let e = length-append names (x ∷ []) in omega (arith, e)

planned_first : (does : ℕ → Act) (at : Place) (x : ℕ) (xs : List ℕ) (p q : Plan) → Planned does at xs (with_work (jobs.Ready (at_place at (does (length p.names)))) (with_name (Local x) p)) q → Planned does at (x ∷ xs) p q
unfolding with_work with_name
planned_first does at x xs p q later = record {
  jobs = later.jobs ∙ ap (λ b. (p.jobs ++ jobs.Ready (at_place at (does (length p.names))) ∷ []) ++ object_jobs does at xs b) (next_base p.names (Local x)) ∙ append_assoc p.jobs (jobs.Ready (at_place at (does (length p.names))) ∷ []) (object_jobs does at xs (suc (length p.names)));
  names = later.names ∙ append_assoc p.names (Local x ∷ []) (locals xs);
  labels = later.labels;
  scopes = later.scopes;
}

pub entered_planned : (at : Place) (xs : List ℕ) (p : Plan) → Planned act.Enter at xs p (all_entered at xs p)
entered_planned at [] p = record { jobs = sym (append-nil p.jobs); names = sym (append-nil p.names); labels = refl; scopes = refl }
entered_planned at (x ∷ xs) p = planned_first act.Enter at x xs p (all_entered at (x ∷ xs) p) (entered_planned at xs (entered at x p))

pub left_planned : (at : Place) (xs : List ℕ) (p : Plan) → Planned act.Leave at xs p (all_left at xs p)
left_planned at [] p = record { jobs = sym (append-nil p.jobs); names = sym (append-nil p.names); labels = refl; scopes = refl }
left_planned at (x ∷ xs) p = planned_first act.Leave at x xs p (all_left at (x ∷ xs) p) (left_planned at xs (left at x p))

-- ---- names

-- bases from a number on are those of objects
abbrev pub NamedFrom : Activation → ℕ → List ℕ → Type 0
NamedFrom t base [] = Unit {0}
NamedFrom t base (x ∷ xs) = Names t base (Local x) × NamedFrom t (suc base) xs

pub named_from : (t : Activation) (q : Plan) (before : List NameView) (xs : List ℕ) (after : List NameView) → IsKnown t q → q.names ≡ before ++ (locals xs ++ after) → NamedFrom t (length before) xs
named_from t q before [] after known e = tt
named_from t q before (x ∷ xs) after known e =
    let all = before ++ Local x ∷ [] in
    let split = e ∙ sym (append_assoc before (Local x ∷ []) (locals xs ++ after)) in (
      known.names (length before) (Local x) (subst (λ ns. slice_get ns (length before) ≡ Some (Local x)) (sym split) (there before (Local x) (locals xs ++ after))),
      subst (λ b. NamedFrom t b xs) (next_base before (Local x)) (named_from t q all xs after known split),
    )
  where
    there : (xs : List NameView) (x : NameView) (ys : List NameView) → slice_get ((xs ++ x ∷ []) ++ ys) (length xs) ≡ Some x
    there [] x ys = refl
    there (y ∷ xs) x ys = there xs x ys

module _ (s : SettingView) (t : Activation) (fits : IsOfUnit t s) (n : ℕ) where
  -- a piece before others, where it gives one item for another
  pub piece_before : (q : PieceView) (js : List Job) (is hs : List Item) (d middle next : ℕ) → ((items : List Item) (w : List PieceView) → Simulates t n middle (hs ++ items) w → Simulates t n d (is ++ items) (q ∷ w)) → Runs s t n js hs middle next → Runs s t n (jobs.Ready q ∷ js) is d next
  piece_before q js is hs d middle next gives runs = record {
    from = λ p none ps r m known items rest stands f.
        let x = headed s p q js ps r m in
        let here = subst (λ xs. Stands t (xs ++ rest)) x.is stands in
        subst (λ xs. Simulates t n d (is ++ items) (xs ++ rest)) (sym x.is) (gives items (x.back ++ rest) (runs.from p none x.back r x.made known items rest (stands_after t q (x.back ++ rest) here) f));
  }

  empty_runs : (is : List Item) (d : ℕ) → ((items : List Item) (w : List PieceView) → Simulates t n d items w → Simulates t n d (is ++ items) w) → Runs s t n [] is d d
  empty_runs is d gives = record { from = λ p none ps r m known items rest stands f. subst (λ xs. Simulates t n d (is ++ items) (xs ++ rest)) (sym (none_made s p ps r m)) (gives items rest f) }

  -- objects are entered
  pub enters : (xs : List ℕ) (base d : ℕ) → NamedFrom t base xs → Runs s t n (object_jobs act.Enter (own t) xs base) (item.Enters xs ∷ []) d d
  enters [] base d named = empty_runs (item.Enters [] ∷ []) d (λ items w f. gives_no_enters n d items w f)
  enters (x ∷ xs) base d named = piece_before (at_place (own t) (act.Enter base)) (object_jobs act.Enter (own t) xs (suc base)) (item.Enters (x ∷ xs) ∷ []) (item.Enters xs ∷ []) d d d (λ items w f. gives_enter n d base x xs items w named.0 f) (enters xs (suc base) d named.1)

  -- and left
  pub leaves : (xs : List ℕ) (base d : ℕ) → NamedFrom t base xs → Runs s t n (object_jobs act.Leave (own t) xs base) (item.Leaves xs ∷ []) d d
  leaves [] base d named = empty_runs (item.Leaves [] ∷ []) d (λ items w f. gives_no_leaves n d items w f)
  leaves (x ∷ xs) base d named = piece_before (at_place (own t) (act.Leave base)) (object_jobs act.Leave (own t) xs (suc base)) (item.Leaves (x ∷ xs) ∷ []) (item.Leaves xs ∷ []) d d d (λ items w f. gives_leave n d base x xs items w named.0 f) (leaves xs (suc base) d named.1)

  -- a label
  pub marks : (l d : ℕ) → Runs s t n (jobs.Ready (Mark l) ∷ []) [] d d
  marks l d = piece_before (Mark l) [] [] [] d d d (λ items w f. simulates.by_mark n d l items w f) (empty_runs [] d (λ items w f. f))
