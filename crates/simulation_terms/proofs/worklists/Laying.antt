-- The pieces of some works, from the first one on.
use Rattle.std.proofs.Common.{◌≡◌, ◌≤◌, ◌<◌, ℕ, ◌+◌, ◌-◌, ◌^◌, List, [], ◌∷◌, ◌++◌, arith, sym, subst, append_assoc}
use Rattle.lower_templates.specs.Worklist.Pieces.{PieceView, Mark}
use Rattle.lower_templates.specs.Worklist.Plans.{Plan, with_labels}
use Rattle.lower_templates.specs.Worklist.Settings.{SettingView}
use Rattle.lower_templates.specs.Worklist.Works as jobs
use Rattle.lower_templates.specs.Worklist.Works.{Job}
use Rattle.lower_functions.specs.Functions.Turns.{planless}
use Rattle.lower_template_theorems.specs.Worklists.Derivations.{parts, Makes}
use Rattle.lower_template_theorems.proofs.worklists.Derivations.{parted}
use Rattle.lower_template_theorems.specs.Growth.Growth.{Grows}
use Rattle.lower_template_theorems.proofs.growth.Growth.{grows_on}
use Rattle.lower_template_theorems.proofs.growth.GrowingWorks.{grows, jobs_none, planless_grows}
use Rattle.semantics.specs.SourceMachine.Items.{Item}
use Rattle.simulation_terms.specs.SimulationRelation.Activations.{Activation}
use Rattle.simulation_terms.specs.SimulationRelation.Simulates.{Simulates, Leads}
use Rattle.simulation_terms.specs.Worklists.TemplateParts.{IsOfUnit, IsKnown, Stands}
use Rattle.simulation_terms.proofs.worklists.Runs.{Runs, headed, none_made, known_before}
use Rattle.simulation_terms.proofs.worklists.Labels.{leads}

module _ (s : SettingView) (r : Plan) (rest : List PieceView) where
  -- what is said of pieces and those behind them
  pub from_none : (p : Plan) (ps : List PieceView) (G : List PieceView → Type 0) → Makes s p [] ps r → G rest → G (ps ++ rest)
  from_none p ps G m here = subst (λ xs. G (xs ++ rest)) (sym (none_made s p ps r m)) here

  pub from_piece : (p : Plan) (q : PieceView) (js : List Job) (ps : List PieceView) (G : List PieceView → Type 0) → Makes s p (jobs.Ready q ∷ js) ps r → ((back : List PieceView) → Makes s p js back r → G (q ∷ (back ++ rest))) → G (ps ++ rest)
  from_piece p q js ps G m later = let x = headed s p q js ps r m in subst (λ xs. G (xs ++ rest)) (sym x.is) (later x.back x.made)

  pub from_work : (p : Plan) (j : Job) (js : List Job) (ps : List PieceView) (G : List PieceView → Type 0) → p.jobs ≡ [] → Makes s p (j ∷ js) ps r
      → ((front : List PieceView) (between : Plan) (back : List PieceView) → Makes s p (j ∷ []) front between → between.jobs ≡ [] → Makes s between js back r → G (front ++ (back ++ rest))) → G (ps ++ rest)
  from_work p j js ps G none m later =
      let x = parted s p (j ∷ []) js ps r m in
      subst (λ xs. G (xs ++ rest)) (sym x.all) (subst G (sym (append_assoc x.front x.back rest)) (later x.front x.between x.back x.first (jobs_none s p (j ∷ []) x.front x.between x.first none) x.second))

module _ (s : SettingView) (t : Activation) where
  -- what was given away in between is known
  pub known_between : (between : Plan) (js : List Job) (back : List PieceView) (r : Plan) → Makes s between js back r → IsKnown t r → IsKnown t between
  known_between between js back r m known = known_before t between r (grows s between js back r m) known

  -- labels that were given away are numbers of 32 bits
  pub few_labels : (p : Plan) (j : Job) (k : ℕ) (js : List Job) (ps : List PieceView) (r : Plan) → Grows (with_labels k p) (parts s j p) → Makes s (planless (parts s j p)) js ps r → IsKnown t r → p.labels + k ≤ 2 ^ 32 - 1
  unfolding with_labels
  few_labels p j k js ps r g m known = within (p.labels + k) r.labels (grows_on (with_labels k p) (planless (parts s j p)) r (planless_grows (with_labels k p) (parts s j p) g) (grows s (planless (parts s j p)) js ps r m)).labels known.labels
    where
      within : (a b : ℕ) → a ≤ b → b ≤ 2 ^ 32 - 1 → a ≤ 2 ^ 32 - 1
      within a b x y = omega (arith, x, y)

  -- and they lead behind their marks
  pub led : IsOfUnit t s → (l k m : ℕ) (ps : List PieceView) → l < k → k ≤ m → m ≤ 2 ^ 32 - 1 → Stands t (Mark l ∷ ps) → Leads t l ps
  led fits l k m ps less some few stands = leads t l ps (fits.once l (below l k m less some few)) stands
    where
      below : (l k m : ℕ) → l < k → k ≤ m → m ≤ 2 ^ 32 - 1 → l < 2 ^ 32 - 1
      below l k m a b c = omega (arith, a, b, c)

  -- one work before others
  pub run : (n : ℕ) (j : Job) (i : Item) (d next : ℕ) → Runs s t n (j ∷ []) (i ∷ []) d next → (p : Plan) → p.jobs ≡ [] → (front : List PieceView) (between : Plan) → Makes s p (j ∷ []) front between → IsKnown t between → (items : List Item) (w : List PieceView) → Stands t (front ++ w) → Simulates t n next items w → Simulates t n d (i ∷ items) (front ++ w)
  run n j i d next runs p none front between m known items w stands f = runs.from p none front between m known items w stands f
