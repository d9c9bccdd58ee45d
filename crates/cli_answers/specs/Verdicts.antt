-- What words and files call for, and what the program tells then.
use Rattle.std.specs.Prelude.{◌≡◌, ◌<◌, ◌≤◌, ◌⊎◌, ℕ, ℤ, true, List, [], ◌∷◌, length, Option, Some, None, Result, Ok, Err, codes, IsUtf8}
use Rattle.toml.specs.Parse.{parse_document}
use Rattle.cc_base.specs.Outside.{Files, Holds, HoldsTooLong, Lacks, Rose, RoseBeyond}
use Rattle.cc_base.specs.DiagnosticOrder.{IsOrderedSet}
use Rattle.cc_base.specs.declared.diagnostics.Diag.{Diag}
use Rattle.cc_base.specs.declared.diagnostics.Place.{Place}
use Rattle.cc_base.specs.declared.refusals.Fault.{Fault}
use Rattle.cc_base.specs.declared.refusals.Stop.{Stop}
use Rattle.cc_base.specs.declared.refusals.Stop.TheVariants as stop
use Rattle.c_layout.specs.Models.{model_named}
use Rattle.c_layout.specs.ModelText.{model_in}
use Rattle.c_layout.specs.declared.data_model.Model.{Model}
use Rattle.c_layout.specs.declared.model_file.Key.{Key}
use Rattle.c_layout.specs.declared.model_file.Key.TheVariants as key
use Rattle.c_layout.specs.declared.model_file.ModelFault.{ModelFault}
use Rattle.c_layout.specs.declared.model_file.ModelFault.TheVariants as fault
use Rattle.c_layout.specs.declared.unit_tokens.Unit7.{Unit7}
use Rattle.c_preproc.specs.Names.{is_distinct}
use Rattle.c_preproc.specs.Causes.{Seen, IsCausedBy}
use Rattle.c_preproc.specs.Units.{unit, unit_from, world_of, sought}
use Rattle.c_preproc.specs.Told.{unit_as, UnitFrom, UnitGives}
use Rattle.cli_texts.specs.LoadUnits.{load_of}
use Rattle.cli_words.specs.declared.words.commands.Format.{Format}
use Rattle.cli_words.specs.declared.words.commands.Format.TheVariants as format
use Rattle.cli_words.specs.Words.Requests.{Asked, CommandView}
use Rattle.cli_words.specs.Words.Requests as asked
use Rattle.cli_texts.specs.Reports.{Bytes, file_name, report_of, replay_of}
use Rattle.cli_units.specs.Stages.{stage_of}
use Rattle.cli_answers.specs.Baselines.{HasBaseline, NoBaseline, IsFreshOf}
use Rattle.cli_answers.specs.FurtherFiles.{HasFile, HoldsNoDraws, IsDraws, HasDraws}
use Rattle.cli_units.specs.Judging.{SettingView, judging, Judgement, IsJudged, RefusesUnit}
use Rattle.cli_units.specs.Certifying.{cert_reason, IsProved, CertAnswer, shows, refuses, IsVerifiedUnit}
use Rattle.cli_units.specs.Replaying.{end_word, RunAnswer, ran, large, IsReplayed}
use Rattle.interp.specs.Runs.OutcomeViews.{OutcomeView}
use Rattle.certificate_check.specs.declared.verdicts.verdicts.CertFault.{CertFault}
use Rattle.cli_units.specs.declared.stages.Stage.{Stage}
use Rattle.cli_units.specs.declared.stages.Stage.TheVariants as stage
use Rattle.cli_texts.specs.JsonReports.{json_of}
use Rattle.sarif.specs.Reports.{sarif_of}
use Rattle.cli_texts.specs.Summaries.{summary_of}
use Rattle.cli_texts.specs.Refusals.{limit_line, refusal_line, refusal_status}
use Rattle.cli_texts.specs.HelpTexts.{help_text}
use Rattle.cli_texts.specs.FixedTexts.{version_text, words_refused_text, no_file_text, too_long_text, no_model_text, no_baseline_text, no_draws_text, cert_too_long_text, cert_refused_text}

-- one for each kind of answer that has a text
pub data Verdict : Type 0 where
  helped : Verdict
  versioned : Verdict
  words_refused : Verdict
  -- the unit's file, the model file or a further file is not held
  absent : (name : Bytes) → Verdict
  -- the model file or a further file is too long
  too_long : (name : Bytes) → Verdict
  -- the model file gives no model
  no_model : (name reason : Bytes) → Verdict
  -- the baseline file is no report
  no_baseline : (name : Bytes) → Verdict
  -- the file of draws is of another form
  no_draws : (name : Bytes) → Verdict
  -- the unit is refused
  refused : (file : Bytes) (why : Fault) → Verdict
  -- the unit is accepted
  reported : (form : Format) (names : List Bytes) (unit : Bytes) (diags : List Diag) → Verdict
  -- the unit that was made is accepted
  summed : (unit : Bytes) (bases cells : ℕ) (diags : List Diag) → Verdict
  -- the certificate of the unit
  proved : (text : Bytes) → Verdict
  -- the certificate of the unit is too long
  proved_past : (unit : Bytes) (count : ℕ) → Verdict
  -- a certificate is refused
  cert_refused : (name : Bytes) (why : CertFault) → Verdict
  -- the run of the unit
  replayed : (names : List Bytes) (unit : Bytes) (outcome : OutcomeView) → Verdict
  -- the objects of the run have too many bytes
  replayed_past : (file : Bytes) (place : Place) (count limit : ℕ) → Verdict

-- 1 where there is a diagnostic
abbrev pub report_status : List Diag → ℕ
report_status [] = 0
report_status (d ∷ ds) = 1

abbrev pub status_of : Verdict → ℕ
status_of helped = 0
status_of versioned = 0
status_of words_refused = 3
status_of (absent name) = 4
status_of (too_long name) = 8
status_of (no_model name reason) = 3
status_of (no_baseline name) = 3
status_of (no_draws name) = 3
status_of (refused file why) = refusal_status why.refusal
status_of (reported form names unit diags) = report_status diags
status_of (summed unit bases cells diags) = report_status diags
status_of (proved text) = 0
status_of (proved_past unit count) = 8
status_of (cert_refused name why) = 9
status_of (replayed names unit outcome) = report_status outcome.diags
status_of (replayed_past file place count limit) = 8

abbrev pub report_in : Format → List Bytes → Bytes → List Diag → Bytes
report_in format.Text names unit diags = report_of names unit diags
report_in format.Json names unit diags = json_of names unit diags
report_in format.Sarif names unit diags = sarif_of names diags

abbrev pub text_of : Verdict → Bytes
text_of helped = help_text
text_of versioned = version_text
text_of words_refused = words_refused_text
text_of (absent name) = no_file_text name
text_of (too_long name) = too_long_text name
text_of (no_model name reason) = no_model_text name reason
text_of (no_baseline name) = no_baseline_text name
text_of (no_draws name) = no_draws_text name
text_of (refused file why) = refusal_line file why.place why.refusal
text_of (reported form names unit diags) = report_in form names unit diags
text_of (summed unit bases cells diags) = summary_of unit bases cells diags
text_of (proved text) = text
text_of (proved_past unit count) = cert_too_long_text unit count
text_of (cert_refused name why) = cert_refused_text name (cert_reason why)
text_of (replayed names unit outcome) = replay_of names unit outcome.diags (end_word outcome.end) outcome.used
text_of (replayed_past file place count limit) = limit_line file place (codes "ReplayMemory") count limit

-- a status and a text are those of a verdict that is called for
pub record Tells (P : Verdict → Type 0) (status : ℕ) (text : Bytes) : Type 0 where
  pub verdict : Verdict
  pub called_for : P verdict
  pub by_status : status ≡ status_of verdict
  pub by_text : text ≡ text_of verdict

-- ---- the data model

-- what the bytes of a model file give
pub record IsModelText (bytes : Bytes) (found : Result Model ModelFault) : Type 0 where
  pub text : IsUtf8 bytes → found ≡ model_in (parse_document bytes)
  pub binary : ¬ IsUtf8 bytes → found ≡ Err fault.Shape

abbrev pub key_reason : Key → Bytes
key_reason key.Short = codes "ModelValue short"
key_reason key.Int = codes "ModelValue int"
key_reason key.Long = codes "ModelValue long"
key_reason key.LongLong = codes "ModelValue long_long"
key_reason key.Pointer = codes "ModelValue pointer"
key_reason key.CharSigned = codes "ModelValue char_signed"

abbrev pub reason_of : ModelFault → Bytes
reason_of fault.Shape = codes "ModelShape"
reason_of (fault.Value k) = key_reason k
reason_of fault.Memory = []

-- a file, which holds no named model, gives this
pub record ReadsModel (files : Option Files) (name : Bytes) (found : Result Model ModelFault) : Type 0 where
  pub unnamed : model_named name ≡ None
  pub bytes : Bytes
  pub held : Holds files name bytes
  pub given : IsModelText bytes found

-- the model that a name or a file gives
abbrev pub HasModel : Option Files → Bytes → Model → Type 0
HasModel files name m = (model_named name ≡ Some m) ⊎ ReadsModel files name (Ok m)

-- why there is no model
abbrev pub RefusesModel : Seen → Bytes → Verdict → Type 0
RefusesModel seen model (absent name) = (name ≡ model) × (model_named model ≡ None) × Lacks seen.files model (Rose seen.faults seen.faults_now)
RefusesModel seen model (too_long name) = (name ≡ model) × (model_named model ≡ None) × HoldsTooLong 1048576 seen.files model (RoseBeyond 1048576 seen.taken seen.taken_now)
RefusesModel seen model (no_model name reason) = (name ≡ model) × (why : ModelFault) × (reason ≡ reason_of why) × ReadsModel seen.files model (Err why)
RefusesModel seen model _ = ⊥

-- ---- the unit

-- what an expansion comes to, tokens or a refusal, with the names of the files that were met
abbrev pub Gives : Type 1
Gives = List Bytes → Result Unit7 Stop → Type 0

-- where the files are told, what they make of a unit from its main file on
abbrev pub FromFiles : Option Files → List Bytes → Model → Bytes → Gives
FromFiles files dirs m main names answer = (held : Files) → files ≡ Some held → UnitFrom (unit_from held dirs m main) names answer

-- of a main file that was made
abbrev pub FromBytes : Option Files → Model → Bytes → Bytes → Gives
FromBytes files m main bytes names answer = (held : Files) → files ≡ Some held → UnitGives (unit (world_of (sought held) [] m) main bytes) (unit_as names) names answer

-- the tokens that an expansion gave under a model, and the names of its files
pub record IsExpanded (given : Gives) (m : Model) (names : List Bytes) (expanded : Unit7) : Type 0 where
  pub model : expanded.model ≡ m
  pub gives : given names (Ok expanded)
  pub distinct : is_distinct names ≡ true
  pub few : length expanded.tokens ≤ 131072

-- the diagnostics of an accepted unit: what was found, in order and each once
pub record IsReport (given : Gives) (s : SettingView) (names : List Bytes) (diags : List Diag) : Type 0 where
  pub expanded : Unit7
  pub is_expanded : IsExpanded given s.model names expanded
  pub found : Judgement
  pub judged : IsJudged expanded s found
  pub listed : IsOrderedSet found.pairs diags

-- the same, with how many bases and cells the program of the unit has
pub record IsSummary (given : Gives) (s : SettingView) (names : List Bytes) (bases cells : ℕ) (diags : List Diag) : Type 0 where
  pub report : IsReport given s names diags
  pub bases_of : bases ≡ report.found.bases
  pub cells_of : cells ≡ report.found.cells

-- a refusal of a later stage than the expansion is that of a unit that was expanded
pub record IsLaterRefusal (given : Gives) (s : SettingView) (names : List Bytes) (why : Fault) : Type 0 where
  pub expanded : Unit7
  pub is_expanded : IsExpanded given s.model names expanded
  pub refuses : RefusesUnit expanded s why

-- where a refusal comes from, by its stage: the expansion came to it, or the work behind it; a number
-- may be refused in a condition of a directive too
abbrev pub IsStaged : Gives → SettingView → List Bytes → Fault → Stage → Type 0
IsStaged given s names why stage.Expansion = given names (Err (stop.Refused why))
IsStaged given s names why stage.Numbers = given names (Err (stop.Refused why)) ⊎ IsLaterRefusal given s names why
IsStaged given s names why stage.Grammar = IsLaterRefusal given s names why
IsStaged given s names why stage.Typing = IsLaterRefusal given s names why
IsStaged given s names why stage.Counting = IsLaterRefusal given s names why

-- the unit is refused in a file, by the cause of that refusal
pub record IsRefusal (given : Gives) (seen : Seen) (dirs : List Bytes) (s : SettingView) (unit file : Bytes) (why : Fault) : Type 0 where
  pub names : List Bytes
  pub named : file ≡ file_name names unit why.place.file
  pub cause : IsCausedBy seen dirs s.model names why why.refusal
  pub staged : IsStaged given s names why (stage_of why.refusal)

-- how `check` judges a unit under a model
abbrev pub check_setting : CommandView → Model → SettingView
check_setting c m = judging m c.entry c.turns

-- how `load` does
abbrev pub load_setting : Model → SettingView
load_setting m = judging m (codes "main") None

-- what `check` tells of a unit under a model
abbrev pub AnswersUnit : Seen → CommandView → Model → Verdict → Type 0
AnswersUnit seen c m (absent name) = (name ≡ c.unit) × Lacks seen.files c.unit (Rose seen.faults seen.faults_now)
AnswersUnit seen c m (refused file why) = IsRefusal (FromFiles seen.files c.dirs m c.unit) seen c.dirs (check_setting c m) c.unit file why
AnswersUnit seen c m (reported form names unit diags) = (form ≡ c.format) × (unit ≡ c.unit) × IsReport (FromFiles seen.files c.dirs m c.unit) (check_setting c m) names diags
AnswersUnit seen c m _ = ⊥

-- what `load` tells of the unit that it makes
abbrev pub AnswersLoad : Seen → CommandView → Model → Verdict → Type 0
AnswersLoad seen c m (refused file why) = IsRefusal (FromBytes seen.files m c.unit (load_of c.seed c.count)) seen [] (load_setting m) c.unit file why
AnswersLoad seen c m (summed unit bases cells diags) = (unit ≡ c.unit) × (names : List Bytes) × IsSummary (FromBytes seen.files m c.unit (load_of c.seed c.count)) (load_setting m) names bases cells diags
AnswersLoad seen c m _ = ⊥

-- ---- a further file, which is read behind the expansion

-- the same files and the same end, from a later time on
pub record IsLater (seen later : Seen) : Type 0 where
  pub files : later.files ≡ seen.files
  pub faults : seen.faults ≤ later.faults
  pub faults_now : later.faults_now ≡ seen.faults_now
  pub taken : seen.taken ≤ later.taken
  pub taken_now : later.taken_now ≡ seen.taken_now

-- once the unit was expanded, this holds of what was seen from then on
pub record IsBehind (given : Gives) (m : Model) (seen : Seen) (P : Seen → Type 0) : Type 0 where
  pub names : List Bytes
  pub expanded : Unit7
  pub is_expanded : IsExpanded given m names expanded
  pub later : Seen
  pub is_later : IsLater seen later
  pub holds : P later

-- an expansion that is followed up only where a further file gives what is asked of it
abbrev pub With : Type 0 → Gives → Gives
With P given names (Ok expanded) = given names (Ok expanded) × P
With P given names (Err s) = given names (Err s)

-- why a further file cannot be had
abbrev pub RefusesFile : Seen → Bytes → Verdict → Type 0
RefusesFile seen file (absent name) = (name ≡ file) × Lacks seen.files file (Rose seen.faults seen.faults_now)
RefusesFile seen file (too_long name) = (name ≡ file) × HoldsTooLong 1048576 seen.files file (RoseBeyond 1048576 seen.taken seen.taken_now)
RefusesFile seen file _ = ⊥

-- why there is no baseline
abbrev pub RefusesBase : Seen → Bytes → Verdict → Type 0
RefusesBase seen base (no_baseline name) = (name ≡ base) × NoBaseline seen.files base
RefusesBase seen base v = RefusesFile seen base v

-- how `gate` judges a unit under a model: no loop is unrolled
abbrev pub gate_setting : CommandView → Model → SettingView
gate_setting c m = judging m c.entry None

-- the diagnostics that a gate tells: those of the accepted unit, in order and each once, that the baseline
-- does not hold
pub record IsFreshReport (given : Gives) (files : Option Files) (base : Bytes) (s : SettingView) (names : List Bytes) (diags : List Diag) : Type 0 where
  pub all : List Diag
  pub report : IsReport given s names all
  pub fresh : IsFreshOf files base names all diags

-- what `gate` tells of a unit under a model, where it does not refuse its baseline
abbrev pub AnswersFresh : Seen → CommandView → Bytes → Model → Verdict → Type 0
AnswersFresh seen c base m (absent name) = (name ≡ c.unit) × Lacks seen.files c.unit (Rose seen.faults seen.faults_now)
AnswersFresh seen c base m (refused file why) = IsRefusal (With (HasBaseline seen.files base) (FromFiles seen.files c.dirs m c.unit)) seen c.dirs (gate_setting c m) c.unit file why
AnswersFresh seen c base m (reported form names unit diags) = (form ≡ format.Text) × (unit ≡ c.unit) × IsFreshReport (FromFiles seen.files c.dirs m c.unit) seen.files base (gate_setting c m) names diags
AnswersFresh seen c base m _ = ⊥

-- what `gate` tells of a unit under a model
abbrev pub AnswersGate : Seen → CommandView → Bytes → Model → Verdict → Type 0
AnswersGate seen c base m v = IsBehind (FromFiles seen.files c.dirs m c.unit) m seen (λ later. RefusesBase later base v) ⊎ AnswersFresh seen c base m v

-- ---- certificates

-- how `prove` and `verify` judge a unit under a model: no loop is unrolled
abbrev pub cert_setting : CommandView → Model → SettingView
cert_setting c m = judging m c.entry None

-- the text is a certificate of the accepted unit, of so many bytes at most
pub record IsProof (given : Gives) (s : SettingView) (text : Bytes) : Type 0 where
  pub names : List Bytes
  pub expanded : Unit7
  pub is_expanded : IsExpanded given s.model names expanded
  pub proved : IsProved expanded s text

-- what `prove` tells of a unit under a model
abbrev pub AnswersProve : Seen → CommandView → Model → Verdict → Type 0
AnswersProve seen c m (absent name) = (name ≡ c.unit) × Lacks seen.files c.unit (Rose seen.faults seen.faults_now)
AnswersProve seen c m (refused file why) = IsRefusal (FromFiles seen.files c.dirs m c.unit) seen c.dirs (cert_setting c m) c.unit file why
AnswersProve seen c m (proved text) = IsProof (FromFiles seen.files c.dirs m c.unit) (cert_setting c m) text × (length text ≤ 1048576)
AnswersProve seen c m (proved_past unit count) = (unit ≡ c.unit) × (text : Bytes) × IsProof (FromFiles seen.files c.dirs m c.unit) (cert_setting c m) text × (count ≡ length text) × (1048576 < count)
AnswersProve seen c m _ = ⊥

-- what the text of a file comes to for the accepted unit
pub record IsCheckedBy (given : Gives) (files : Option Files) (cert : Bytes) (s : SettingView) (names : List Bytes) (verified : CertAnswer) : Type 0 where
  pub expanded : Unit7
  pub is_expanded : IsExpanded given s.model names expanded
  pub bytes : Bytes
  pub held : Holds files cert bytes
  pub verifies : IsVerifiedUnit expanded s bytes verified

-- what `verify` tells of a unit under a model, where it has its certificate
abbrev pub AnswersChecked : Seen → CommandView → Bytes → Model → Verdict → Type 0
AnswersChecked seen c cert m (absent name) = (name ≡ c.unit) × Lacks seen.files c.unit (Rose seen.faults seen.faults_now)
AnswersChecked seen c cert m (refused file why) = IsRefusal (With (HasFile seen.files cert) (FromFiles seen.files c.dirs m c.unit)) seen c.dirs (cert_setting c m) c.unit file why
AnswersChecked seen c cert m (reported form names unit diags) = (form ≡ format.Text) × (unit ≡ c.unit) × IsCheckedBy (FromFiles seen.files c.dirs m c.unit) seen.files cert (cert_setting c m) names (shows diags)
AnswersChecked seen c cert m (cert_refused name why) = (name ≡ cert) × (names : List Bytes) × IsCheckedBy (FromFiles seen.files c.dirs m c.unit) seen.files cert (cert_setting c m) names (refuses why)
AnswersChecked seen c cert m _ = ⊥

-- what `verify` tells of a unit under a model
abbrev pub AnswersVerify : Seen → CommandView → Bytes → Model → Verdict → Type 0
AnswersVerify seen c cert m v = IsBehind (FromFiles seen.files c.dirs m c.unit) m seen (λ later. RefusesFile later cert v) ⊎ AnswersChecked seen c cert m v

-- ---- one run

-- how `replay` judges a unit under a model: no loop is unrolled
abbrev pub replay_setting : CommandView → Model → SettingView
replay_setting c m = judging m c.entry None

-- why a run has no draws
abbrev pub RefusesDraws : Seen → Option Bytes → Verdict → Type 0
RefusesDraws seen None v = ⊥
RefusesDraws seen (Some file) (no_draws name) = (name ≡ file) × HoldsNoDraws seen.files file
RefusesDraws seen (Some file) v = RefusesFile seen file v

-- what the run of the accepted unit over its draws comes to, with so many steps at most
pub record IsRunOf (given : Gives) (files : Option Files) (file : Option Bytes) (s : SettingView) (steps : ℕ) (names : List Bytes) (answer : RunAnswer) : Type 0 where
  pub expanded : Unit7
  pub is_expanded : IsExpanded given s.model names expanded
  pub draws : List ℤ
  pub are_draws : IsDraws files file draws
  pub replayed : IsReplayed expanded s draws steps answer

-- what `replay` tells of a unit under a model, where it has its draws
abbrev pub AnswersRun : Seen → CommandView → Option Bytes → Model → Verdict → Type 0
AnswersRun seen c draws m (absent name) = (name ≡ c.unit) × Lacks seen.files c.unit (Rose seen.faults seen.faults_now)
AnswersRun seen c draws m (refused file why) = IsRefusal (With (HasDraws seen.files draws) (FromFiles seen.files c.dirs m c.unit)) seen c.dirs (replay_setting c m) c.unit file why
AnswersRun seen c draws m (replayed names unit outcome) = (unit ≡ c.unit) × IsRunOf (FromFiles seen.files c.dirs m c.unit) seen.files draws (replay_setting c m) c.steps names (ran outcome)
AnswersRun seen c draws m (replayed_past file place count limit) =
    (names : List Bytes) × (file ≡ file_name names c.unit place.file) × IsRunOf (FromFiles seen.files c.dirs m c.unit) seen.files draws (replay_setting c m) c.steps names (large place count limit)
AnswersRun seen c draws m _ = ⊥

-- what `replay` tells of a unit under a model
abbrev pub AnswersReplay : Seen → CommandView → Option Bytes → Model → Verdict → Type 0
AnswersReplay seen c draws m v = IsBehind (FromFiles seen.files c.dirs m c.unit) m seen (λ later. RefusesDraws later draws v) ⊎ AnswersRun seen c draws m v

-- ---- the whole

-- under the model that is found first, the unit is answered by what follows
pub record Under (seen : Seen) (model : Bytes) (P : Seen → Model → Type 0) : Type 0 where
  pub chosen : Model
  pub has_model : HasModel seen.files model chosen
  pub later : Seen
  pub is_later : IsLater seen later
  pub answered : P later chosen

abbrev pub IsVerdict : Seen → Asked → Verdict → Type 0
IsVerdict seen asked.Help v = v ≡ helped
IsVerdict seen asked.Version v = v ≡ versioned
IsVerdict seen asked.Refused v = v ≡ words_refused
IsVerdict seen (asked.Check c) v = RefusesModel seen c.model v ⊎ Under seen c.model (λ later m. AnswersUnit later c m v)
IsVerdict seen (asked.Load c) v = RefusesModel seen c.model v ⊎ Under seen c.model (λ later m. AnswersLoad later c m v)
IsVerdict seen (asked.Gate c base) v = RefusesModel seen c.model v ⊎ Under seen c.model (λ later m. AnswersGate later c base m v)
IsVerdict seen (asked.Prove c) v = RefusesModel seen c.model v ⊎ Under seen c.model (λ later m. AnswersProve later c m v)
IsVerdict seen (asked.Verify c cert) v = RefusesModel seen c.model v ⊎ Under seen c.model (λ later m. AnswersVerify later c cert m v)
IsVerdict seen (asked.Replay c draws) v = RefusesModel seen c.model v ⊎ Under seen c.model (λ later m. AnswersReplay later c draws m v)
