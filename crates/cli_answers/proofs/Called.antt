-- What is told of a unit is called for.
use Rattle.std.proofs.Common.{◌≡◌, ◌≤◌, ◌⊎◌, ℕ, true, List, [], length, map, Option, Result, Ok, Err, refl, inl, inr, subst, sym}
use Rattle.cc_base.specs.declared.refusals.Refusal.{Refusal}
use Rattle.cc_base.specs.declared.refusals.Refusal.TheVariants as refusal
use Rattle.cc_base.specs.declared.refusals.Fault.{Fault}
use Rattle.cc_base.specs.declared.refusals.Stop.{Stop}
use Rattle.cc_base.specs.declared.refusals.Stop.TheVariants as stop
use Rattle.c_layout.specs.declared.data_model.Model.{Model}
use Rattle.cc_base.specs.Outside.{Files}
use Rattle.c_layout.specs.declared.unit_tokens.Unit7.{Unit7}
use Rattle.c_preproc.specs.Names.{is_distinct}
use Rattle.c_preproc.specs.Causes.{Seen, seen_of, IsCaused, IsCausedFrom, IsOwnRefusal}
use Rattle.c_preproc.proofs.Own.{own_caused}
use Rattle.cli_words.specs.Words.Requests.{CommandView, Asked, Help, Version, Check, Load, Refused}
use Rattle.cli_texts.specs.Reports.{Bytes, file_name}
use Rattle.cli_texts.specs.LoadUnits.{load_of}
use Rattle.cli_texts.specs.HelpTexts.{help_text}
use Rattle.cli_texts.specs.FixedTexts.{version_text, words_refused_text}
use Rattle.cli_answers.specs.declared.model_choice.ModelChoice.{ModelChoice}
use Rattle.cli_answers.specs.declared.model_choice.ModelChoice.TheVariants.{Chosen}
use Rattle.cli_answers.specs.Choices.{IsChoice}
use Rattle.cli_units.specs.Stages.{stage_of}
use Rattle.cli_units.specs.declared.stages.Stage.{Stage}
use Rattle.cli_units.specs.declared.stages.Stage.TheVariants as stage
use Rattle.cli_units.specs.Judging.{SettingView, RefusesAt, RefusesUnit}
use Rattle.cli_answers.specs.Verdicts.{Tells, helped, versioned, words_refused, absent, refused, reported, summed, Gives, FromFiles, FromBytes, IsExpanded, IsLaterRefusal, IsStaged, IsRefusal, check_setting, load_setting, AnswersUnit, AnswersLoad, HasModel, IsLater, IsVerdict}
use Rattle.cli_answers.specs.Answering.{IsEarly, AnswersStop, AnswersOwn, AnswersJudged, AnswersMade}

-- a refusal of a later stage, by its stage
later_staged : (given : Gives) (g : SettingView) (names : List Bytes) (why : Fault) (u : Unit7) (at : Stage) → RefusesAt u g why at → IsLaterRefusal given g names why → IsStaged given g names why at
later_staged given g names why u stage.Expansion r h = absurd r
later_staged given g names why u stage.Numbers r h = inr h
later_staged given g names why u stage.Grammar r h = h
later_staged given g names why u stage.Typing r h = h
later_staged given g names why u stage.Counting r h = h

-- no refusal that comes from the files is of a later stage
own_refusal : (u : Unit7) (g : SettingView) (why : Fault) (r : Refusal) → RefusesAt u g why (stage_of r) → IsOwnRefusal r
own_refusal u g why (refusal.FileTooLong count limit) h = absurd h
own_refusal u g why (refusal.HeaderMissing name) h = absurd h
own_refusal u g why _ h = tt

early_staged : (given : Gives) (g : SettingView) (names : List Bytes) (why : Fault) (at : Stage) → IsEarly at → given names (Err (stop.Refused why)) → IsStaged given g names why at
early_staged given g names why stage.Expansion h told = told
early_staged given g names why stage.Numbers h told = inl told
early_staged given g names why stage.Grammar h told = absurd h
early_staged given g names why stage.Typing h told = absurd h
early_staged given g names why stage.Counting h told = absurd h

pub stopped_refusal : (given : Gives) (seen : Seen) (dirs : List Bytes) (g : SettingView) (unit : Bytes) (names : List Bytes) (f : Fault) → IsCaused seen dirs g.model names (stop.Refused f) → IsEarly (stage_of f.refusal) → given names (Err (stop.Refused f)) → IsRefusal given seen dirs g unit (file_name names unit f.place.file) f
stopped_refusal given seen dirs g unit names f h e told = record { names = names; named = refl; cause = h; staged = early_staged given g names f (stage_of f.refusal) e told }

pub later_refusal : (given : Gives) (seen : Seen) (dirs : List Bytes) (g : SettingView) (u : Unit7) (unit : Bytes) (names : List Bytes) (f : Fault) → IsExpanded given g.model names u → RefusesUnit u g f → IsRefusal given seen dirs g unit (file_name names unit f.place.file) f
later_refusal given seen dirs g u unit names f expanded h = record {
  names = names;
  named = refl;
  cause = own_caused seen dirs g.model names (stop.Refused f) (own_refusal u g f f.refusal h);
  staged = later_staged given g names f u (stage_of f.refusal) h (record { expanded = u; is_expanded = expanded; refuses = h });
}

pub stop_told : (seen : Seen) (c : CommandView) (m : Model) (names : List Bytes) (s : Stop) (status : ℕ) (text : Bytes) → IsCausedFrom c.unit seen c.dirs m names s → FromFiles seen.files c.dirs m c.unit names (Err s) → AnswersStop names c.unit s status text → Tells (AnswersUnit seen c m) status text
stop_told seen c m names (stop.Refused f) status text h told a = record { verdict = refused (file_name names c.unit f.place.file) f; called_for = stopped_refusal (FromFiles seen.files c.dirs m c.unit) seen c.dirs (check_setting c m) c.unit names f h a.1 told; by_status = a.0.0; by_text = a.0.1 }
stop_told seen c m names stop.NotHeld status text h told a = record { verdict = absent c.unit; called_for = (refl, h); by_status = a.0; by_text = a.1 }
stop_told seen c m names stop.ReadFault status text h told a = absurd a
stop_told seen c m names stop.Memory status text h told a = absurd a

own_told : (seen : Seen) (c : CommandView) (m : Model) (u : Unit7) (names : List Bytes) (status : ℕ) (text : Bytes) → IsExpanded (FromFiles seen.files c.dirs m c.unit) m names u → AnswersOwn (check_setting c m) u names c.unit status text → Tells (AnswersUnit seen c m) status text
own_told seen c m u names status text expanded a = record { verdict = refused (file_name names c.unit a.why.place.file) a.why; called_for = later_refusal (FromFiles seen.files c.dirs m c.unit) seen c.dirs (check_setting c m) u c.unit names a.why expanded a.refuses; by_status = a.answers.0; by_text = a.answers.1 }

judged_told : (seen : Seen) (c : CommandView) (m : Model) (u : Unit7) (names : List Bytes) (status : ℕ) (text : Bytes) → IsExpanded (FromFiles seen.files c.dirs m c.unit) m names u → AnswersJudged (check_setting c m) u c.format names c.unit status text → Tells (AnswersUnit seen c m) status text
judged_told seen c m u names status text expanded a = record {
  verdict = reported c.format names c.unit a.answers.diags;
  called_for = (refl, refl, record { expanded = u; is_expanded = expanded; found = a.found; judged = a.judged; listed = a.answers.listed });
  by_status = a.answers.by_status;
  by_text = a.answers.by_text;
}

-- what is told of a unit that was expanded
pub checked_told : (seen : Seen) (c : CommandView) (m : Model) (u : Unit7) (names : List Bytes) (status : ℕ) (text : Bytes) → IsExpanded (FromFiles seen.files c.dirs m c.unit) m names u → AnswersOwn (check_setting c m) u names c.unit status text ⊎ AnswersJudged (check_setting c m) u c.format names c.unit status text → Tells (AnswersUnit seen c m) status text
checked_told seen c m u names status text expanded h = elim h [
  | inl a ↦ own_told seen c m u names status text expanded a
  | inr a ↦ judged_told seen c m u names status text expanded a
]

own_made : (seen : Seen) (c : CommandView) (m : Model) (u : Unit7) (names : List Bytes) (status : ℕ) (text : Bytes) → IsExpanded (FromBytes seen.files m c.unit (load_of c.seed c.count)) m names u → AnswersOwn (load_setting m) u names c.unit status text → Tells (AnswersLoad seen c m) status text
own_made seen c m u names status text expanded a = record { verdict = refused (file_name names c.unit a.why.place.file) a.why; called_for = later_refusal (FromBytes seen.files m c.unit (load_of c.seed c.count)) seen [] (load_setting m) u c.unit names a.why expanded a.refuses; by_status = a.answers.0; by_text = a.answers.1 }

summary_made : (seen : Seen) (c : CommandView) (m : Model) (u : Unit7) (names : List Bytes) (status : ℕ) (text : Bytes) → IsExpanded (FromBytes seen.files m c.unit (load_of c.seed c.count)) m names u → AnswersMade (load_setting m) u c.unit status text → Tells (AnswersLoad seen c m) status text
summary_made seen c m u names status text expanded a = record {
  verdict = summed c.unit a.found.bases a.found.cells a.answers.diags;
  called_for = (refl, names, record { report = record { expanded = u; is_expanded = expanded; found = a.found; judged = a.judged; listed = a.answers.listed }; bases_of = refl; cells_of = refl });
  by_status = a.answers.by_status;
  by_text = a.answers.by_text;
}

-- what is told of a unit that was made
pub loaded_told : (seen : Seen) (c : CommandView) (m : Model) (u : Unit7) (names : List Bytes) (status : ℕ) (text : Bytes) → IsExpanded (FromBytes seen.files m c.unit (load_of c.seed c.count)) m names u → AnswersOwn (load_setting m) u names c.unit status text ⊎ AnswersMade (load_setting m) u c.unit status text → Tells (AnswersLoad seen c m) status text
loaded_told seen c m u names status text expanded h = elim h [
  | inl a ↦ own_made seen c m u names status text expanded a
  | inr a ↦ summary_made seen c m u names status text expanded a
]

pub stop_made : (seen : Seen) (c : CommandView) (m : Model) (names : List Bytes) (s : Stop) (status : ℕ) (text : Bytes) → IsCaused seen [] m names s → FromBytes seen.files m c.unit (load_of c.seed c.count) names (Err s) → AnswersStop names c.unit s status text → Tells (AnswersLoad seen c m) status text
stop_made seen c m names (stop.Refused f) status text h told a = record { verdict = refused (file_name names c.unit f.place.file) f; called_for = stopped_refusal (FromBytes seen.files m c.unit (load_of c.seed c.count)) seen [] (load_setting m) c.unit names f h a.1 told; by_status = a.0.0; by_text = a.0.1 }
stop_made seen c m names stop.NotHeld status text h told a = absurd h
stop_made seen c m names stop.ReadFault status text h told a = absurd a
stop_made seen c m names stop.Memory status text h told a = absurd a

-- the same, with the names and the unit as the work has them
pub stop_under : (seen : Seen) (c : CommandView) (m : Model) (names given : List Bytes) (unit : Bytes) (dirs : List Bytes) (s : Stop) (status : ℕ) (text : Bytes) → unit ≡ c.unit → dirs ≡ c.dirs → given ≡ names → IsCausedFrom unit seen dirs m names s → FromFiles seen.files c.dirs m c.unit names (Err s) → AnswersStop given unit s status text → Tells (AnswersUnit seen c m) status text
stop_under seen c m names given unit dirs s status text same_unit same_dirs same_names h told a =
    let cause = subst (λ u. IsCausedFrom u seen c.dirs m names s) same_unit (subst (λ d. IsCausedFrom unit seen d m names s) same_dirs h) in
    let answer = subst (λ u. AnswersStop names u s status text) same_unit (subst (λ n. AnswersStop n unit s status text) same_names a) in
    stop_told seen c m names s status text cause told answer

pub loaded_under : (seen : Seen) (c : CommandView) (m : Model) (u : Unit7) (names : List Bytes) (unit : Bytes) (status : ℕ) (text : Bytes) → unit ≡ c.unit → IsExpanded (FromBytes seen.files m c.unit (load_of c.seed c.count)) m names u → AnswersOwn (load_setting m) u names unit status text ⊎ AnswersMade (load_setting m) u unit status text → Tells (AnswersLoad seen c m) status text
loaded_under seen c m u names unit status text same expanded h = loaded_told seen c m u names status text expanded (subst (λ v. AnswersOwn (load_setting m) u names v status text ⊎ AnswersMade (load_setting m) u v status text) same h)

-- the names and the tokens that an expansion gave
pub names_expanded : {S : Type 0} (gives : Gives) (name : S → Bytes) (files given : List S) (m : Model) (u : Unit7) → u.model ≡ m → given ≡ files → gives (map name files) (Ok u) → is_distinct (map name files) ≡ true → length u.tokens ≤ 131072 → IsExpanded gives m (map name given) u
names_expanded gives name files given m u under same made distinct few = record { model = under; gives = subst (λ l. gives (map name l) (Ok u)) (sym same) made; distinct = subst (λ l. is_distinct (map name l) ≡ true) (sym same) distinct; few = few }

-- what the files make, by the directories and the main file as the work has them
pub made_from : (files : Option Files) (dirs given : List Bytes) (m : Model) (main unit : Bytes) (names : List Bytes) (r : Result Unit7 Stop) → given ≡ dirs → unit ≡ main → FromFiles files given m unit names r → FromFiles files dirs m main names r
made_from files dirs given m main unit names r same_dirs same_unit h = subst (λ x. FromFiles files dirs m x names r) same_unit (subst (λ d. FromFiles files d m unit names r) same_dirs h)

pub made_of : (files : Option Files) (m : Model) (main unit bytes load : Bytes) (names : List Bytes) (r : Result Unit7 Stop) → unit ≡ main → bytes ≡ load → FromBytes files m unit bytes names r → FromBytes files m main load names r
made_of files m main unit bytes load names r same_unit same_bytes h = subst (λ x. FromBytes files m x load names r) same_unit (subst (λ b. FromBytes files m unit b names r) same_bytes h)

pub stop_made_under : (seen : Seen) (c : CommandView) (m : Model) (names given : List Bytes) (unit : Bytes) (s : Stop) (status : ℕ) (text : Bytes) → unit ≡ c.unit → given ≡ names → IsCaused seen [] m names s → FromBytes seen.files m c.unit (load_of c.seed c.count) names (Err s) → AnswersStop given unit s status text → Tells (AnswersLoad seen c m) status text
stop_made_under seen c m names given unit s status text same_unit same_names h told a =
    let answer = subst (λ u. AnswersStop names u s status text) same_unit (subst (λ n. AnswersStop n unit s status text) same_names a) in
    stop_made seen c m names s status text h told answer

-- where there is one
pub unit_answered : (seen later : Seen) (c : CommandView) (m : Model) (status : ℕ) (text : Bytes) → HasModel seen.files c.model m → IsLater seen later → Tells (AnswersUnit later c m) status text → Tells (IsVerdict seen (Check c)) status text
unit_answered seen later c m status text has after t = record { verdict = t.verdict; called_for = inr (record { chosen = m; has_model = has; later = later; is_later = after; answered = t.called_for }); by_status = t.by_status; by_text = t.by_text }

pub load_answered : (seen later : Seen) (c : CommandView) (m : Model) (status : ℕ) (text : Bytes) → HasModel seen.files c.model m → IsLater seen later → Tells (AnswersLoad later c m) status text → Tells (IsVerdict seen (Load c)) status text
load_answered seen later c m status text has after t = record { verdict = t.verdict; called_for = inr (record { chosen = m; has_model = has; later = later; is_later = after; answered = t.called_for }); by_status = t.by_status; by_text = t.by_text }

pub later : (f0 f1 : Option Files) (a0 a1 a2 b0 b1 b2 : ℕ) → f1 ≡ f0 → a0 ≤ a1 → b0 ≤ b1 → IsLater (seen_of f0 a0 a2 b0 b2) (seen_of f1 a1 a2 b1 b2)
later f0 f1 a0 a1 a2 b0 b1 b2 same faults taken = record { files = same; faults = faults; faults_now = refl; taken = taken; taken_now = refl }

pub model_held : (seen : Seen) (name model : Bytes) (choice : ModelChoice) (m : Model) → name ≡ model → choice ≡ Chosen m → IsChoice seen name choice → HasModel seen.files model m
model_held seen name model choice m same chose h =
    let by_name : IsChoice seen name (Chosen m) = subst (λ k. IsChoice seen name k) chose h in
    subst (λ n. HasModel seen.files n m) same by_name.1

-- what is told under the model that was chosen, from what the tree gave meanwhile on
pub check_chosen : (f0 f1 : Option Files) (a0 a1 a2 b0 b1 b2 : ℕ) (c : CommandView) (m : Model) (name : Bytes) (choice : ModelChoice) (status : ℕ) (text : Bytes) → name ≡ c.model → choice ≡ Chosen m → IsChoice (seen_of f0 a0 a1 b0 b1) name choice → f1 ≡ f0 → a0 ≤ a1 → b0 ≤ b1 → Tells (AnswersUnit (seen_of f1 a1 a2 b1 b2) c m) status text → Tells (IsVerdict (seen_of f0 a0 a2 b0 b2) (Check c)) status text
check_chosen f0 f1 a0 a1 a2 b0 b1 b2 c m name choice status text same chose given files faults taken t =
    unit_answered (seen_of f0 a0 a2 b0 b2) (seen_of f1 a1 a2 b1 b2) c m status text (model_held (seen_of f0 a0 a1 b0 b1) name c.model choice m same chose given) (later f0 f1 a0 a1 a2 b0 b1 b2 files faults taken) t

pub load_chosen : (f0 f1 : Option Files) (a0 a1 a2 b0 b1 b2 : ℕ) (c : CommandView) (m : Model) (name : Bytes) (choice : ModelChoice) (status : ℕ) (text : Bytes) → name ≡ c.model → choice ≡ Chosen m → IsChoice (seen_of f0 a0 a1 b0 b1) name choice → f1 ≡ f0 → a0 ≤ a1 → b0 ≤ b1 → Tells (AnswersLoad (seen_of f1 a1 a2 b1 b2) c m) status text → Tells (IsVerdict (seen_of f0 a0 a2 b0 b2) (Load c)) status text
load_chosen f0 f1 a0 a1 a2 b0 b1 b2 c m name choice status text same chose given files faults taken t =
    load_answered (seen_of f0 a0 a2 b0 b2) (seen_of f1 a1 a2 b1 b2) c m status text (model_held (seen_of f0 a0 a1 b0 b1) name c.model choice m same chose given) (later f0 f1 a0 a1 a2 b0 b1 b2 files faults taken) t

-- what is told where no unit is asked for
pub helped_told : (seen : Seen) (a : Asked) (status : ℕ) (text : Bytes) → a ≡ Help → status ≡ 0 → text ≡ help_text → Tells (IsVerdict seen a) status text
helped_told seen a status text e s t = subst (λ x. Tells (IsVerdict seen x) status text) (sym e) (record { verdict = helped; called_for = refl; by_status = s; by_text = t })

pub versioned_told : (seen : Seen) (a : Asked) (status : ℕ) (text : Bytes) → a ≡ Version → status ≡ 0 → text ≡ version_text → Tells (IsVerdict seen a) status text
versioned_told seen a status text e s t = subst (λ x. Tells (IsVerdict seen x) status text) (sym e) (record { verdict = versioned; called_for = refl; by_status = s; by_text = t })

pub words_told : (seen : Seen) (a : Asked) (status : ℕ) (text : Bytes) → a ≡ Refused → status ≡ 3 → text ≡ words_refused_text → Tells (IsVerdict seen a) status text
words_told seen a status text e s t = subst (λ x. Tells (IsVerdict seen x) status text) (sym e) (record { verdict = words_refused; called_for = refl; by_status = s; by_text = t })
