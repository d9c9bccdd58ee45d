-- Works only add to what was given away, whatever they come to.
use Rattle.std.proofs.Common.{◌≡◌, List, [], refl}
use Rattle.lower_templates.specs.Worklist.Pieces.{PieceView}
use Rattle.lower_templates.specs.Worklist.Works as jobs
use Rattle.lower_templates.specs.Worklist.Works.{Job}
use Rattle.lower_templates.specs.Worklist.Plans.{Plan}
use Rattle.lower_templates.specs.Worklist.Settings.{SettingView}
use Rattle.lower_functions.specs.Functions.Turns.{planless}
use Rattle.lower_functions.proofs.TermPlans.{kept_term, kept_address}
use Rattle.lower_functions.proofs.ConditionPlans.{kept_condition}
use Rattle.lower_template_theorems.specs.Worklists.Derivations.{parts, Makes, nothing, piece, work}
use Rattle.lower_template_theorems.specs.Growth.Growth.{Grows}
use Rattle.lower_template_theorems.proofs.growth.Growth.{grows_not, grows_on}
use Rattle.lower_template_theorems.proofs.growth.GrowingTerms.{growing}
use Rattle.lower_template_theorems.proofs.growth.GrowingStatements.{grows_statement}

pub grows_parts : (s : SettingView) (j : Job) (p : Plan) → Grows p (parts s j p)
grows_parts s (jobs.Value e depth) p = kept_term (growing p).terms s e depth _ p (grows_not p)
grows_parts s (jobs.Unused e depth) p = kept_term (growing p).terms s e depth _ p (grows_not p)
grows_parts s (jobs.Address l depth) p = kept_address (growing p).terms s l depth p (grows_not p)
grows_parts s (jobs.Condition e decision) p = kept_condition (growing p) s e decision p (grows_not p)
grows_parts s (jobs.Statement i around) p = grows_statement s i around p (grows_not p)
grows_parts s (jobs.Ready q) p = grows_not p

-- what is planned is not counted
pub planless_grows : (p q : Plan) → Grows p q → Grows p (planless q)
planless_grows p q g = record { more_names = g.more_names; names = g.names; labels = g.labels; scopes = g.scopes; more_dispatches = g.more_dispatches; dispatches = g.dispatches }

pub grows : (s : SettingView) (p : Plan) (js : List Job) (ps : List PieceView) (r : Plan) → Makes s p js ps r → Grows p r
grows s p _ _ r (nothing _) = grows_not p
grows s p _ _ r (piece _ q js qs _ m) = grows s p js qs r m
grows s p _ _ r (work _ j js ps q qs _ other m k) =
    grows_on p q r (grows_on p (planless (parts s j p)) q (planless_grows p (parts s j p) (grows_parts s j p)) (grows s (planless (parts s j p)) (parts s j p).jobs ps q m)) (grows s q js qs r k)

-- nothing is planned behind works, where nothing was before
pub jobs_none : (s : SettingView) (p : Plan) (js : List Job) (ps : List PieceView) (r : Plan) → Makes s p js ps r → p.jobs ≡ [] → r.jobs ≡ []
jobs_none s p _ _ r (nothing _) none = none
jobs_none s p _ _ r (piece _ q js qs _ m) none = jobs_none s p js qs r m none
jobs_none s p _ _ r (work _ j js ps q qs _ other m k) none = jobs_none s q js qs r k (jobs_none s (planless (parts s j p)) (parts s j p).jobs ps q m refl)
