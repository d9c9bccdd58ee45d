-- The pieces of a jump: what is left, what is entered, and the jump itself.
use Rattle.std.proofs.Common.{◌≡◌, ◌≤◌, ℕ, List, [], ◌∷◌, ◌++◌, length, refl, ap, sym, subst, ◌∙◌, append_assoc}
use Rattle.std.proofs.lemmas.List.{append-nil}
use Rattle.lower_templates.specs.Worklist.Acts as act
use Rattle.lower_templates.specs.Worklist.Pieces.{PieceView}
use Rattle.lower_templates.specs.Worklist.Plans.{Plan, with_work}
use Rattle.lower_templates.specs.Worklist.Settings.{SettingView}
use Rattle.lower_templates.specs.Worklist.Works as jobs
use Rattle.lower_templates.specs.Worklist.Works.{Job}
use Rattle.lower_templates.specs.declared.worklist.pending_works.Landing.{Landing}
use Rattle.lower_expressions.specs.Branches as branches
use Rattle.lower_functions.specs.Statements.ScopeJumps.{leap, all_left, all_entered}
use Rattle.lower_functions.specs.Functions.Turns.{planless}
use Rattle.lower_template_theorems.specs.Worklists.Derivations.{Makes}
use Rattle.semantics.specs.SourceMachine.Items as item
use Rattle.semantics.specs.SourceMachine.Items.{Item}
use Rattle.semantics.specs.SourceMachine.Scopes.{jump, open_scopes, leap_in, entering_first}
use Rattle.simulation_terms.specs.SimulationRelation.Activations.{Activation}
use Rattle.simulation_terms.specs.SimulationRelation.Simulates.{Simulates}
use Rattle.simulation_terms.specs.Worklists.TemplateParts.{IsOfUnit, IsKnown, Stands}
use Rattle.simulation_terms.proofs.worklists.Runs.{Runs, then, then_ends}
use Rattle.simulation_terms.proofs.worklists.Assignments.{one_more_job}
use Rattle.simulation_terms.proofs.worklists.Laying.{known_between}
use Rattle.simulation_terms.proofs.terms.Choices.{jumping, hops}
use Rattle.simulation_terms.proofs.scopes.Objects as objects
use Rattle.simulation_terms.proofs.scopes.Ways.{chain_there}
use Rattle.simulation_terms.proofs.scopes.Objects.{object_jobs, entered_planned, left_planned, named_from, locals}
use Rattle.simulation_terms.specs.Scopes.Chains.{Chain, AreApart}
use Rattle.simulation_statements.specs.ScopeExits.Chains.{IsWay}
use Rattle.simulation_statements.proofs.scope_exits.WaysBetween.{way_is}
use Rattle.simulation_statements.proofs.scope_exits.WaysOfChains.{way_of}
use Rattle.simulation_statements.specs.JumpSimulation.Leaps.{Lies}

work_names : (j : Job) (p : Plan) → (with_work j p).names ≡ p.names
unfolding with_work
work_names j p = refl

module _ (s : SettingView) (t : Activation) (fits : IsOfUnit t s) (n : ℕ) where
  -- some objects are left and others entered, and then a jump leads behind a label
  pub leaves_enters : (xs ys : List ℕ) (landing : Landing) (to : List Item) (there : List PieceView) → ((w : List PieceView) → Simulates t n 0 (item.Hop ∷ to) (jumping s.at landing.label ∷ w)) → (p : Plan) → p.jobs ≡ []
      → (ps : List PieceView) (r : Plan) → Makes s (planless (branches.jump s.at landing.label (all_entered s.at ys (all_left s.at xs p)))) (branches.jump s.at landing.label (all_entered s.at ys (all_left s.at xs p))).jobs ps r → IsKnown t r → (rest : List PieceView) → Stands t (ps ++ rest)
      → Simulates t n 0 (item.Leaves xs ∷ (item.Enters ys ∷ (item.Hop ∷ to))) (ps ++ rest)
  leaves_enters xs ys landing to there hop p none ps r m known rest stands =
      let first = all_left s.at xs p in
      let second = all_entered s.at ys first in
      let last = jumping s.at landing.label in
      let all = branches.jump s.at landing.label second in
      let l = left_planned s.at xs p in
      let e = entered_planned s.at ys first in
      let known_all = known_between s t (planless all) all.jobs ps r m known in
      let names_are : all.names ≡ (p.names ++ locals xs) ++ locals ys = work_names (jobs.Ready last) second ∙ e.names ∙ ap (λ ns. ns ++ locals ys) l.names in
      let left_named = named_from t (planless all) p.names xs (locals ys) known_all (names_are ∙ append_assoc p.names (locals xs) (locals ys)) in
      let entered_named = named_from t (planless all) (p.names ++ locals xs) ys [] known_all (names_are ∙ ap (λ ns. (p.names ++ locals xs) ++ ns) (sym (append-nil (locals ys)))) in
      let out_jobs = object_jobs act.Leave s.at xs (length p.names) in
      let in_jobs = object_jobs act.Enter s.at ys (length (p.names ++ locals xs)) in
      let jobs_are : all.jobs ≡ (out_jobs ++ in_jobs) ++ jobs.Ready last ∷ [] =
      one_more_job second.jobs (jobs.Ready last) second refl
      ∙ ap (λ ks. ks ++ jobs.Ready last ∷ []) (e.jobs ∙ ap (λ ks. ks ++ object_jobs act.Enter s.at ys (length first.names)) (l.jobs ∙ ap (λ ks. ks ++ out_jobs) none) ∙ ap (λ ns. out_jobs ++ object_jobs act.Enter s.at ys (length ns)) l.names) in
      let out : Runs s t n out_jobs (item.Leaves xs ∷ []) 0 0 = subst (λ at. Runs s t n (object_jobs act.Leave at xs (length p.names)) (item.Leaves xs ∷ []) 0 0) (sym fits.place) (objects.leaves s t fits n xs (length p.names) 0 left_named) in
      let inwards : Runs s t n in_jobs (item.Enters ys ∷ []) 0 0 = subst (λ at. Runs s t n (object_jobs act.Enter at ys (length (p.names ++ locals xs))) (item.Enters ys ∷ []) 0 0) (sym fits.place) (objects.enters s t fits n ys (length (p.names ++ locals xs)) 0 entered_named) in
      let both = then s t n out_jobs in_jobs (item.Leaves xs ∷ []) (item.Enters ys ∷ []) 0 0 0 out inwards in
      then_ends s t n (out_jobs ++ in_jobs) (item.Leaves xs ∷ (item.Enters ys ∷ [])) 0 0 (planless all) refl (both.from (planless all) refl) last ps r (subst (λ ks. Makes s (planless all) ks ps r) jobs_are m) known (item.Hop ∷ to) rest stands hop

  -- nothing is left, some objects are entered, and then a jump leads behind a label
  pub enters_and_hops : (ys : List ℕ) (landing : Landing) (to : List Item) → ((w : List PieceView) → Simulates t n 0 (item.Hop ∷ to) (jumping s.at landing.label ∷ w)) → (p : Plan) → p.jobs ≡ []
      → (ps : List PieceView) (r : Plan) → Makes s (planless (branches.jump s.at landing.label (all_entered s.at ys p))) (branches.jump s.at landing.label (all_entered s.at ys p)).jobs ps r → IsKnown t r → (rest : List PieceView) → Stands t (ps ++ rest) → Simulates t n 0 (item.Enters ys ∷ (item.Hop ∷ to)) (ps ++ rest)
  enters_and_hops ys landing to hop p none ps r m known rest stands =
      let second = all_entered s.at ys p in
      let last = jumping s.at landing.label in
      let all = branches.jump s.at landing.label second in
      let e = entered_planned s.at ys p in
      let known_all = known_between s t (planless all) all.jobs ps r m known in
      let named = named_from t (planless all) p.names ys [] known_all (work_names (jobs.Ready last) second ∙ e.names ∙ ap (λ ns. p.names ++ ns) (sym (append-nil (locals ys)))) in
      let js = object_jobs act.Enter s.at ys (length p.names) in
      let jobs_are : all.jobs ≡ js ++ jobs.Ready last ∷ [] = one_more_job second.jobs (jobs.Ready last) second refl ∙ ap (λ ks. ks ++ jobs.Ready last ∷ []) (e.jobs ∙ ap (λ ks. ks ++ js) none) in
      let inwards : Runs s t n js (item.Enters ys ∷ []) 0 0 = subst (λ at. Runs s t n (object_jobs act.Enter at ys (length p.names)) (item.Enters ys ∷ []) 0 0) (sym fits.place) (objects.enters s t fits n ys (length p.names) 0 named) in
      then_ends s t n js (item.Enters ys ∷ []) 0 0 (planless all) refl (inwards.from (planless all) refl) last ps r (subst (λ ks. Makes s (planless all) ks ps r) jobs_are m) known (item.Hop ∷ to) rest stands hop

  -- a jump to any place
  pub leaps_by : (from : ℕ) (landing : Landing) (items to : List Item) → IsWay s from landing.scope (open_scopes items) (open_scopes to) → from ≤ length s.scopes.scopes → landing.scope ≤ length s.scopes.scopes → (there : List PieceView) → ((w : List PieceView) → Simulates t n 0 (item.Hop ∷ to) (jumping s.at landing.label ∷ w))
      → (p : Plan) → p.jobs ≡ [] → (ps : List PieceView) (r : Plan) → Makes s (planless (leap s from landing p)) (leap s from landing p).jobs ps r → IsKnown t r → (rest : List PieceView) → Stands t (ps ++ rest) → Simulates t n 0 (jump items to) (ps ++ rest)
  leaps_by from landing items to w enough also there hop p none ps r m known rest stands =
      let is_all : leap s from landing p ≡ branches.jump s.at landing.label (all_entered s.at w.enters (all_left s.at w.leaves p)) = ap (branches.jump s.at landing.label) (way_is s s.scopes.scopes from landing.scope w.leaves w.enters w.between enough also p) in
      subst (λ xs. Simulates t n 0 (item.Leaves xs ∷ (item.Enters _ ∷ (item.Hop ∷ to))) (ps ++ rest)) (sym w.left)
      (subst (λ ys. Simulates t n 0 (item.Leaves w.leaves ∷ (item.Enters ys ∷ (item.Hop ∷ to))) (ps ++ rest)) (sym w.entered)
      (leaves_enters w.leaves w.enters landing to there hop p none ps r (subst (λ x. Makes s (planless x) x.jobs ps r) is_all m) known rest stands))

module _ (s : SettingView) (t : Activation) (fits : IsOfUnit t s) (apart : AreApart s) where
  pub leaps : (n from : ℕ) (landing : Landing) (items to : List Item) → Chain s from (open_scopes items) → Lies s t n landing to
      → (p : Plan) → p.jobs ≡ [] → (ps : List PieceView) (r : Plan) → Makes s (planless (leap s from landing p)) (leap s from landing p).jobs ps r → IsKnown t r → (rest : List PieceView) → Stands t (ps ++ rest) → Simulates t n 0 (jump items to) (ps ++ rest)
  leaps n from landing items to here l p none ps r m known rest stands =
      leaps_by s t fits n from landing items to (way_of s apart from landing.scope (open_scopes items) (open_scopes to) here l.scopes) (chain_there s from (open_scopes items) here) (chain_there s landing.scope (open_scopes to) l.scopes) l.there
      (λ w. hops s t fits n 0 landing.label to w l.there l.leads l.simulates) p none ps r m known rest stands

module _ (s : SettingView) (t : Activation) (fits : IsOfUnit t s) where
  -- a way on which nothing is left
  pub edges : (n from : ℕ) (landing : Landing) (items to : List Item) → from ≤ length s.scopes.scopes → (l : Lies s t n landing to) → (w : IsWay s from landing.scope (open_scopes items) (open_scopes to)) → w.leaves ≡ []
      → (p : Plan) → p.jobs ≡ [] → (ps : List PieceView) (r : Plan) → Makes s (planless (leap s from landing p)) (leap s from landing p).jobs ps r → IsKnown t r → (rest : List PieceView) → Stands t (ps ++ rest)
      → (leap_in items to ≡ entering_first w.enters to) × Simulates t n 0 (item.Enters w.enters ∷ (item.Hop ∷ to)) (ps ++ rest)
  edges n from landing items to enough l w none_left p none ps r m known rest stands =
      let also = chain_there s landing.scope (open_scopes to) l.scopes in
      let is_all : leap s from landing p ≡ branches.jump s.at landing.label (all_entered s.at w.enters p) =
      ap (branches.jump s.at landing.label) (way_is s s.scopes.scopes from landing.scope w.leaves w.enters w.between enough also p ∙ ap (λ xs. all_entered s.at w.enters (all_left s.at xs p)) none_left) in (
        ap (λ ys. entering_first ys to) w.entered,
        enters_and_hops s t fits n w.enters landing to (λ v. hops s t fits n 0 landing.label to v l.there l.leads l.simulates) p none ps r (subst (λ x. Makes s (planless x) x.jobs ps r) is_all m) known rest stands,
      )
