-- Where a unit is accepted and what a verb reads beside it is held, no refusal of it is called for.
use Rattle.std.proofs.Common.{◌≡◌, ◌∙◌, ◌⊎◌, inl, inr, List, [], ◌∷◌, Option, Some, None, ap, refl, sym, subst}
use Rattle.cc_base.specs.Outside.{Files, Rose, RoseBeyond}
use Rattle.cc_base.specs.declared.diagnostics.Diag.{Diag}
use Rattle.cc_base.specs.declared.refusals.Fault.{Fault}
use Rattle.c_layout.specs.declared.data_model.Model.{Model}
use Rattle.c_preproc.specs.Causes.{Seen}
use Rattle.cli_words.specs.Words.Requests.{CommandView}
use Rattle.cli_texts.specs.Reports.{Bytes}
use Rattle.cli_units.specs.Stages.{stage_of}
use Rattle.cli_units.specs.declared.stages.Stage.{Stage}
use Rattle.cli_units.specs.declared.stages.Stage.TheVariants as stage
use Rattle.cli_units.specs.Judging.{SettingView, judging}
use Rattle.sarif.specs.Baselines.{baseline_read}
use Rattle.cli_words.specs.Draws.DrawsFiles.{draws_in}
use Rattle.cli_answers.specs.Baselines.{HasBaseline}
use Rattle.cli_answers.specs.FurtherFiles.{HasFile, HasDraws}
use Rattle.cli_answers.specs.Verdicts as verdict
use Rattle.cli_answers.specs.Verdicts.{Verdict, report_status, status_of, RefusesModel, RefusesFile, RefusesBase, RefusesDraws, Gives, With, FromFiles, IsLaterRefusal, IsStaged, IsRefusal, Under, AnswersFresh, AnswersGate, AnswersProve, AnswersChecked, AnswersVerify, AnswersRun, AnswersReplay}
use Rattle.cli_theorems.specs.Units.Told.{IsTaken}
use Rattle.cli_theorems.proofs.units.GivenModels.{lacks_never, long_never, same_held, model_had, model_same}
use Rattle.cli_theorems.proofs.units.Told.{lacks_not, refusal_not}
use Rattle.cli.specs.Command.AnsweredRuns.{IsAccepting}
use Rattle.cli.specs.Command.CompleteAnswers.{IsAcceptedUnit, IsHeldShort, IsHeldBaseline, AreHeldDraws}

accepting : (ds : List Diag) → IsAccepting (report_status ds)
accepting [] = inl refl
accepting (d ∷ ds) = inr refl

-- ---- the model and the time

-- the model that is given is had, and the files stay
pub by_model : (seen : Seen) (c : CommandView) (a : IsAcceptedUnit seen c) (v : Verdict) (P : Seen → Model → Type 0) (Q : Type 0) → ((later : Seen) → later.files ≡ Some a.held → P later a.model → Q) → RefusesModel seen c.model v ⊎ Under seen c.model P → Q
by_model seen c a v P Q goes (inl refuses) = absurd (model_had seen a.held c.model a.model a.told a.given v refuses)
by_model seen c a v P Q goes (inr u) = goes u.later (u.is_later.files ∙ a.told) (subst (λ (m : Model). P u.later m) (model_same seen.files a.held c.model a.model u.chosen a.told a.given u.has_model) u.answered)

pub taken_of : (seen : Seen) (c : CommandView) (a : IsAcceptedUnit seen c) → IsTaken (FromFiles (Some a.held) c.dirs a.model c.unit) (judging a.model c.entry None)
taken_of seen c a = subst (λ (fs : Option Files). IsTaken (FromFiles fs c.dirs a.model c.unit) (judging a.model c.entry None)) a.told a.taken

-- ---- refusals of the unit

later_one : (P : Type 0) (given : Gives) (s : SettingView) (names : List Bytes) (why : Fault) → IsLaterRefusal (With P given) s names why → IsLaterRefusal given s names why
later_one P given s names why h = record { expanded = h.expanded; is_expanded = record { model = h.is_expanded.model; gives = h.is_expanded.gives.0; distinct = h.is_expanded.distinct; few = h.is_expanded.few }; refuses = h.refuses }

staged_one : (P : Type 0) (given : Gives) (s : SettingView) (names : List Bytes) (why : Fault) (at : Stage) → IsStaged (With P given) s names why at → IsStaged given s names why at
staged_one P given s names why stage.Expansion h = h
staged_one P given s names why stage.Numbers (inl h) = inl h
staged_one P given s names why stage.Numbers (inr h) = inr (later_one P given s names why h)
staged_one P given s names why stage.Grammar h = later_one P given s names why h
staged_one P given s names why stage.Typing h = later_one P given s names why h
staged_one P given s names why stage.Counting h = later_one P given s names why h

refused_never : (P : Type 0) (seen : Seen) (held : Files) (c : CommandView) (m : Model) → seen.files ≡ Some held → IsTaken (FromFiles (Some held) c.dirs m c.unit) (judging m c.entry None) → (file : Bytes) (why : Fault) → IsRefusal (With P (FromFiles seen.files c.dirs m c.unit)) seen c.dirs (judging m c.entry None) c.unit file why → ⊥
refused_never P seen held c m told taken file why h =
    refusal_not seen.files held c.dirs c.unit (judging m c.entry None) seen c.unit file why told taken
    (record { names = h.names; named = h.named; cause = h.cause; staged = staged_one P (FromFiles seen.files c.dirs m c.unit) (judging m c.entry None) h.names why (stage_of why.refusal) h.staged })

-- ---- further files

file_never : (seen : Seen) (held : Files) (wanted : Bytes) → seen.files ≡ Some held → IsHeldShort held wanted → (v : Verdict) → RefusesFile seen wanted v → ⊥
file_never seen held wanted told f (verdict.absent file) (same, lacks) = lacks_never seen.files held wanted f.bytes (Rose seen.faults seen.faults_now) told f.is lacks
file_never seen held wanted told f (verdict.too_long file) (same, long) = long_never seen.files held wanted f.bytes (RoseBeyond 1048576 seen.taken seen.taken_now) told f.is f.short long
file_never seen held wanted told f (verdict.no_model name reason) h = h
file_never seen held wanted told f (verdict.no_baseline name) h = h
file_never seen held wanted told f (verdict.no_draws name) h = h
file_never seen held wanted told f verdict.helped h = h
file_never seen held wanted told f verdict.versioned h = h
file_never seen held wanted told f verdict.words_refused h = h
file_never seen held wanted told f (verdict.refused file why) h = h
file_never seen held wanted told f (verdict.reported form names unit diags) h = h
file_never seen held wanted told f (verdict.summed unit bases cells diags) h = h
file_never seen held wanted told f (verdict.proved text) h = h
file_never seen held wanted told f (verdict.proved_past unit count) h = h
file_never seen held wanted told f (verdict.cert_refused name why) h = h
file_never seen held wanted told f (verdict.replayed names unit outcome) h = h
file_never seen held wanted told f (verdict.replayed_past file place count limit) h = h

none_some : {X : Type 0} {x : X} {o : Option X} → o ≡ None → o ≡ Some x → ⊥
none_some {X} {x} {o} is also = let h : None ≡ Some x = sym is ∙ also in absurd (cc h)

base_never : (seen : Seen) (held : Files) (base : Bytes) → seen.files ≡ Some held → IsHeldBaseline held base → (v : Verdict) → RefusesBase seen base v → ⊥
base_never seen held base told b (verdict.absent name) h = file_never seen held base told b.file (verdict.absent name) h
base_never seen held base told b (verdict.too_long name) h = file_never seen held base told b.file (verdict.too_long name) h
base_never seen held base told b (verdict.no_model name reason) h = file_never seen held base told b.file (verdict.no_model name reason) h
base_never seen held base told b (verdict.no_baseline name) (same, other) = none_some other.reads (ap (λ (bs : Bytes). baseline_read bs) (same_held seen.files held base b.file.bytes other.bytes told b.file.is other.held) ∙ b.reads)
base_never seen held base told b (verdict.no_draws name) h = file_never seen held base told b.file (verdict.no_draws name) h
base_never seen held base told b verdict.helped h = file_never seen held base told b.file verdict.helped h
base_never seen held base told b verdict.versioned h = file_never seen held base told b.file verdict.versioned h
base_never seen held base told b verdict.words_refused h = file_never seen held base told b.file verdict.words_refused h
base_never seen held base told b (verdict.refused file why) h = file_never seen held base told b.file (verdict.refused file why) h
base_never seen held base told b (verdict.reported form names unit diags) h = file_never seen held base told b.file (verdict.reported form names unit diags) h
base_never seen held base told b (verdict.summed unit bases cells diags) h = file_never seen held base told b.file (verdict.summed unit bases cells diags) h
base_never seen held base told b (verdict.proved text) h = file_never seen held base told b.file (verdict.proved text) h
base_never seen held base told b (verdict.proved_past unit count) h = file_never seen held base told b.file (verdict.proved_past unit count) h
base_never seen held base told b (verdict.cert_refused name why) h = file_never seen held base told b.file (verdict.cert_refused name why) h
base_never seen held base told b (verdict.replayed names unit outcome) h = file_never seen held base told b.file (verdict.replayed names unit outcome) h
base_never seen held base told b (verdict.replayed_past file place count limit) h = file_never seen held base told b.file (verdict.replayed_past file place count limit) h

draws_never : (seen : Seen) (held : Files) (draws : Option Bytes) → seen.files ≡ Some held → AreHeldDraws held draws → (v : Verdict) → RefusesDraws seen draws v → ⊥
draws_never seen held None told d v h = h
draws_never seen held (Some file) told d (verdict.absent name) h = file_never seen held file told d.file (verdict.absent name) h
draws_never seen held (Some file) told d (verdict.too_long name) h = file_never seen held file told d.file (verdict.too_long name) h
draws_never seen held (Some file) told d (verdict.no_model name reason) h = file_never seen held file told d.file (verdict.no_model name reason) h
draws_never seen held (Some file) told d (verdict.no_baseline name) h = file_never seen held file told d.file (verdict.no_baseline name) h
draws_never seen held (Some file) told d (verdict.no_draws name) (same, other) = none_some other.reads (ap (λ (bs : Bytes). draws_in bs) (same_held seen.files held file d.file.bytes other.bytes told d.file.is other.held) ∙ d.reads)
draws_never seen held (Some file) told d verdict.helped h = file_never seen held file told d.file verdict.helped h
draws_never seen held (Some file) told d verdict.versioned h = file_never seen held file told d.file verdict.versioned h
draws_never seen held (Some file) told d verdict.words_refused h = file_never seen held file told d.file verdict.words_refused h
draws_never seen held (Some file) told d (verdict.refused other why) h = file_never seen held file told d.file (verdict.refused other why) h
draws_never seen held (Some file) told d (verdict.reported form names unit diags) h = file_never seen held file told d.file (verdict.reported form names unit diags) h
draws_never seen held (Some file) told d (verdict.summed unit bases cells diags) h = file_never seen held file told d.file (verdict.summed unit bases cells diags) h
draws_never seen held (Some file) told d (verdict.proved text) h = file_never seen held file told d.file (verdict.proved text) h
draws_never seen held (Some file) told d (verdict.proved_past unit count) h = file_never seen held file told d.file (verdict.proved_past unit count) h
draws_never seen held (Some file) told d (verdict.cert_refused name why) h = file_never seen held file told d.file (verdict.cert_refused name why) h
draws_never seen held (Some file) told d (verdict.replayed names unit outcome) h = file_never seen held file told d.file (verdict.replayed names unit outcome) h
draws_never seen held (Some file) told d (verdict.replayed_past other place count limit) h = file_never seen held file told d.file (verdict.replayed_past other place count limit) h

-- ---- verb by verb

fresh_accepts : (seen : Seen) (held : Files) (c : CommandView) (base : Bytes) (m : Model) → seen.files ≡ Some held → IsTaken (FromFiles (Some held) c.dirs m c.unit) (judging m c.entry None) → (v : Verdict) → AnswersFresh seen c base m v → IsAccepting (status_of v)
fresh_accepts seen held c base m told taken (verdict.absent name) (same, lacks) = absurd (lacks_not seen.files held c.dirs m c.unit (judging m c.entry None) (Rose seen.faults seen.faults_now) told taken lacks)
fresh_accepts seen held c base m told taken (verdict.too_long name) h = absurd h
fresh_accepts seen held c base m told taken (verdict.no_model name reason) h = absurd h
fresh_accepts seen held c base m told taken (verdict.no_baseline name) h = absurd h
fresh_accepts seen held c base m told taken (verdict.no_draws name) h = absurd h
fresh_accepts seen held c base m told taken verdict.helped h = absurd h
fresh_accepts seen held c base m told taken verdict.versioned h = absurd h
fresh_accepts seen held c base m told taken verdict.words_refused h = absurd h
fresh_accepts seen held c base m told taken (verdict.refused file why) h = absurd (refused_never (HasBaseline seen.files base) seen held c m told taken file why h)
fresh_accepts seen held c base m told taken (verdict.reported form names unit diags) h = accepting diags
fresh_accepts seen held c base m told taken (verdict.summed unit bases cells diags) h = absurd h
fresh_accepts seen held c base m told taken (verdict.proved text) h = absurd h
fresh_accepts seen held c base m told taken (verdict.proved_past unit count) h = absurd h
fresh_accepts seen held c base m told taken (verdict.cert_refused name why) h = absurd h
fresh_accepts seen held c base m told taken (verdict.replayed names unit outcome) h = absurd h
fresh_accepts seen held c base m told taken (verdict.replayed_past file place count limit) h = absurd h

pub gate_accepts : (seen : Seen) (held : Files) (c : CommandView) (base : Bytes) (m : Model) → seen.files ≡ Some held → IsTaken (FromFiles (Some held) c.dirs m c.unit) (judging m c.entry None) → IsHeldBaseline held base → (v : Verdict) → AnswersGate seen c base m v → IsAccepting (status_of v)
gate_accepts seen held c base m told taken b v (inl behind) = absurd (base_never behind.later held base (behind.is_later.files ∙ told) b v behind.holds)
gate_accepts seen held c base m told taken b v (inr fresh) = fresh_accepts seen held c base m told taken v fresh

pub prove_accepts : (seen : Seen) (held : Files) (c : CommandView) (m : Model) → seen.files ≡ Some held → IsTaken (FromFiles (Some held) c.dirs m c.unit) (judging m c.entry None) → (v : Verdict) → AnswersProve seen c m v → (status_of v ≡ 0) ⊎ (status_of v ≡ 8)
prove_accepts seen held c m told taken (verdict.absent name) (same, lacks) = absurd (lacks_not seen.files held c.dirs m c.unit (judging m c.entry None) (Rose seen.faults seen.faults_now) told taken lacks)
prove_accepts seen held c m told taken (verdict.too_long name) h = absurd h
prove_accepts seen held c m told taken (verdict.no_model name reason) h = absurd h
prove_accepts seen held c m told taken (verdict.no_baseline name) h = absurd h
prove_accepts seen held c m told taken (verdict.no_draws name) h = absurd h
prove_accepts seen held c m told taken verdict.helped h = absurd h
prove_accepts seen held c m told taken verdict.versioned h = absurd h
prove_accepts seen held c m told taken verdict.words_refused h = absurd h
prove_accepts seen held c m told taken (verdict.refused file why) h = absurd (refusal_not seen.files held c.dirs c.unit (judging m c.entry None) seen c.unit file why told taken h)
prove_accepts seen held c m told taken (verdict.reported form names unit diags) h = absurd h
prove_accepts seen held c m told taken (verdict.summed unit bases cells diags) h = absurd h
prove_accepts seen held c m told taken (verdict.proved text) h = inl refl
prove_accepts seen held c m told taken (verdict.proved_past unit count) h = inr refl
prove_accepts seen held c m told taken (verdict.cert_refused name why) h = absurd h
prove_accepts seen held c m told taken (verdict.replayed names unit outcome) h = absurd h
prove_accepts seen held c m told taken (verdict.replayed_past file place count limit) h = absurd h

checked_accepts : (seen : Seen) (held : Files) (c : CommandView) (cert : Bytes) (m : Model) → seen.files ≡ Some held → IsTaken (FromFiles (Some held) c.dirs m c.unit) (judging m c.entry None) → (v : Verdict) → AnswersChecked seen c cert m v → IsAccepting (status_of v) ⊎ (status_of v ≡ 9)
checked_accepts seen held c cert m told taken (verdict.absent name) (same, lacks) = absurd (lacks_not seen.files held c.dirs m c.unit (judging m c.entry None) (Rose seen.faults seen.faults_now) told taken lacks)
checked_accepts seen held c cert m told taken (verdict.too_long name) h = absurd h
checked_accepts seen held c cert m told taken (verdict.no_model name reason) h = absurd h
checked_accepts seen held c cert m told taken (verdict.no_baseline name) h = absurd h
checked_accepts seen held c cert m told taken (verdict.no_draws name) h = absurd h
checked_accepts seen held c cert m told taken verdict.helped h = absurd h
checked_accepts seen held c cert m told taken verdict.versioned h = absurd h
checked_accepts seen held c cert m told taken verdict.words_refused h = absurd h
checked_accepts seen held c cert m told taken (verdict.refused file why) h = absurd (refused_never (HasFile seen.files cert) seen held c m told taken file why h)
checked_accepts seen held c cert m told taken (verdict.reported form names unit diags) h = inl (accepting diags)
checked_accepts seen held c cert m told taken (verdict.summed unit bases cells diags) h = absurd h
checked_accepts seen held c cert m told taken (verdict.proved text) h = absurd h
checked_accepts seen held c cert m told taken (verdict.proved_past unit count) h = absurd h
checked_accepts seen held c cert m told taken (verdict.cert_refused name why) h = inr refl
checked_accepts seen held c cert m told taken (verdict.replayed names unit outcome) h = absurd h
checked_accepts seen held c cert m told taken (verdict.replayed_past file place count limit) h = absurd h

pub verify_accepts : (seen : Seen) (held : Files) (c : CommandView) (cert : Bytes) (m : Model) → seen.files ≡ Some held → IsTaken (FromFiles (Some held) c.dirs m c.unit) (judging m c.entry None) → IsHeldShort held cert → (v : Verdict) → AnswersVerify seen c cert m v → IsAccepting (status_of v) ⊎ (status_of v ≡ 9)
verify_accepts seen held c cert m told taken f v (inl behind) = absurd (file_never behind.later held cert (behind.is_later.files ∙ told) f v behind.holds)
verify_accepts seen held c cert m told taken f v (inr checked) = checked_accepts seen held c cert m told taken v checked

run_accepts : (seen : Seen) (held : Files) (c : CommandView) (draws : Option Bytes) (m : Model) → seen.files ≡ Some held → IsTaken (FromFiles (Some held) c.dirs m c.unit) (judging m c.entry None) → (v : Verdict) → AnswersRun seen c draws m v → IsAccepting (status_of v) ⊎ (status_of v ≡ 8)
run_accepts seen held c draws m told taken (verdict.absent name) (same, lacks) = absurd (lacks_not seen.files held c.dirs m c.unit (judging m c.entry None) (Rose seen.faults seen.faults_now) told taken lacks)
run_accepts seen held c draws m told taken (verdict.too_long name) h = absurd h
run_accepts seen held c draws m told taken (verdict.no_model name reason) h = absurd h
run_accepts seen held c draws m told taken (verdict.no_baseline name) h = absurd h
run_accepts seen held c draws m told taken (verdict.no_draws name) h = absurd h
run_accepts seen held c draws m told taken verdict.helped h = absurd h
run_accepts seen held c draws m told taken verdict.versioned h = absurd h
run_accepts seen held c draws m told taken verdict.words_refused h = absurd h
run_accepts seen held c draws m told taken (verdict.refused file why) h = absurd (refused_never (HasDraws seen.files draws) seen held c m told taken file why h)
run_accepts seen held c draws m told taken (verdict.reported form names unit diags) h = absurd h
run_accepts seen held c draws m told taken (verdict.summed unit bases cells diags) h = absurd h
run_accepts seen held c draws m told taken (verdict.proved text) h = absurd h
run_accepts seen held c draws m told taken (verdict.proved_past unit count) h = absurd h
run_accepts seen held c draws m told taken (verdict.cert_refused name why) h = absurd h
run_accepts seen held c draws m told taken (verdict.replayed names unit outcome) h = inl (accepting outcome.diags)
run_accepts seen held c draws m told taken (verdict.replayed_past file place count limit) h = inr refl

pub replay_accepts : (seen : Seen) (held : Files) (c : CommandView) (draws : Option Bytes) (m : Model) → seen.files ≡ Some held → IsTaken (FromFiles (Some held) c.dirs m c.unit) (judging m c.entry None) → AreHeldDraws held draws → (v : Verdict) → AnswersReplay seen c draws m v → IsAccepting (status_of v) ⊎ (status_of v ≡ 8)
replay_accepts seen held c draws m told taken d v (inl behind) = absurd (draws_never behind.later held draws (behind.is_later.files ∙ told) d v behind.holds)
replay_accepts seen held c draws m told taken d v (inr run) = run_accepts seen held c draws m told taken v run
