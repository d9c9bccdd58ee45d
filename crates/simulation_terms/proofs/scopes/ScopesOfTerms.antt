-- Works that are no statements begin no scopes and no switches.
use Rattle.std.proofs.Common.{◌≡◌, true, false, List, [], refl, ◌∙◌}
use Rattle.lower_templates.specs.Worklist.Pieces.{PieceView}
use Rattle.lower_templates.specs.Worklist.Works as jobs
use Rattle.lower_templates.specs.Worklist.Works.{Job}
use Rattle.lower_templates.specs.Worklist.Plans.{Plan}
use Rattle.lower_templates.specs.Worklist.Settings.{SettingView}
use Rattle.lower_functions.specs.Functions.Turns.{planless}
use Rattle.lower_functions.proofs.TermPlans.{kept_term, kept_address}
use Rattle.lower_functions.proofs.ConditionPlans.{kept_condition}
use Rattle.lower_template_theorems.specs.Worklists.Derivations.{parts, Makes, nothing, piece, work}
use Rattle.simulation_terms.proofs.scopes.Positions.{position}
use Rattle.simulation_terms.proofs.scopes.KeptScopes.{IsTerm, AreTerms, Keeps, keeping}

kept_parts : (s : SettingView) (j : Job) (p : Plan) → IsTerm j → AreTerms p.jobs → Keeps p (parts s j p)
kept_parts s (jobs.Value e d) p is all = kept_term (keeping p).terms s e d true p (record { scopes = refl; terms = all })
kept_parts s (jobs.Unused e d) p is all = kept_term (keeping p).terms s e d false p (record { scopes = refl; terms = all })
kept_parts s (jobs.Address l d) p is all = kept_address (keeping p).terms s l d p (record { scopes = refl; terms = all })
kept_parts s (jobs.Condition e x) p is all = kept_condition (keeping p) s e x p (record { scopes = refl; terms = all })
kept_parts s (jobs.Statement i around) p is all = absurd is
kept_parts s (jobs.Ready q) p is all = record { scopes = refl; terms = all }

pub scopes_kept : (s : SettingView) (p : Plan) (js : List Job) (ps : List PieceView) (r : Plan) → Makes s p js ps r → AreTerms p.jobs → AreTerms js → (position r ≡ position p) × AreTerms r.jobs
scopes_kept s p _ _ r (nothing _) none all = (refl, none)
scopes_kept s p _ _ r (piece _ q js qs _ m) none all = scopes_kept s p js qs r m none all.1
scopes_kept s p _ _ r (work _ j js ps q qs _ other m k) none all =
    let x = kept_parts s j p all.0 none in
    let y = scopes_kept s (planless (parts s j p)) (parts s j p).jobs ps q m tt x.terms in
    let z = scopes_kept s q js qs r k y.1 all.1 in
    (z.0 ∙ y.0 ∙ x.scopes, z.1)
