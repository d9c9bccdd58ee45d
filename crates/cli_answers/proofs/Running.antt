-- What a replay tells of a unit is called for.
use Rattle.std.proofs.Common.{◌≡◌, ◌≤◌, ◌⊎◌, ℕ, ℤ, List, [], Option, Some, Err, refl, sym, inl, inr, subst}
use Rattle.cc_base.specs.Outside.{Files, Holds}
use Rattle.cc_base.specs.declared.refusals.Stop.{Stop}
use Rattle.cc_base.specs.declared.refusals.Stop.TheVariants as stop
use Rattle.c_layout.specs.declared.data_model.Model.{Model}
use Rattle.c_layout.specs.declared.unit_tokens.Unit7.{Unit7}
use Rattle.c_preproc.specs.Causes.{Seen, seen_of, IsCausedFrom}
use Rattle.cli_words.specs.Words.Requests.{CommandView, Replay}
use Rattle.cli_texts.specs.Reports.{Bytes, file_name}
use Rattle.cli_units.specs.Judging.{SettingView}
use Rattle.cli_units.specs.Replaying.{RunAnswer, ran, large, IsReplayed}
use Rattle.cli_answers.specs.declared.model_choice.ModelChoice.{ModelChoice}
use Rattle.cli_answers.specs.declared.model_choice.ModelChoice.TheVariants.{Chosen}
use Rattle.cli_answers.specs.declared.draws_files.Draws.{Draws}
use Rattle.cli_answers.specs.declared.draws_files.Draws.TheVariants as chosen
use Rattle.cli_answers.specs.Choices.{IsChoice}
use Rattle.cli_answers.specs.FurtherFiles.{IsDraws, HasDraws}
use Rattle.cli_answers.specs.Verdicts.{Verdict, Tells, absent, refused, no_draws, replayed, replayed_past, FromFiles, IsExpanded, IsLater, IsRunOf, With, RefusesFile, RefusesDraws, replay_setting, AnswersReplay, HasModel, IsVerdict}
use Rattle.cli_answers.specs.Answering.{AnswersStop, AnswersOwn}
use Rattle.cli_answers.specs.RunAnswers.{AreDrawsOf, AreDrawsIn, AnswersEnd, AnswersRan, AnswersOver}
use Rattle.cli_answers.proofs.Called.{stopped_refusal, later_refusal, later, model_held}

-- ---- the draws

-- those of bytes that are held
pub held_draws : (seen : Seen) (name bytes : Bytes) (d : Draws) → Holds seen.files name bytes → AreDrawsOf name bytes d → AreDrawsIn seen (Some name) d
held_draws seen name bytes (chosen.Read numbers) held h = record { bytes = bytes; held = held; reads = h }
held_draws seen name bytes (chosen.Refused a) held h = record { verdict = no_draws name; called_for = (refl, record { bytes = bytes; held = held; reads = h.0 }); by_status = h.1; by_text = h.2 }

file_refuses : (seen : Seen) (file : Bytes) (v : Verdict) → RefusesFile seen file v → RefusesDraws seen (Some file) v
file_refuses seen file (no_draws name) h = absurd h
file_refuses seen file _ h = h

pub no_further_draws : (seen : Seen) (file : Bytes) (status : ℕ) (text : Bytes) → Tells (RefusesFile seen file) status text → Tells (RefusesDraws seen (Some file)) status text
no_further_draws seen file status text t = record { verdict = t.verdict; called_for = file_refuses seen file t.verdict t.called_for; by_status = t.by_status; by_text = t.by_text }

-- as the work has them
pub chosen_draws : (seen : Seen) (file : Option Bytes) (d e : Draws) → d ≡ e → AreDrawsIn seen file d → AreDrawsIn seen file e
chosen_draws seen file d e is h = subst (λ x. AreDrawsIn seen file x) is h

-- ---- the run

-- the answer where the draws are had, by the list as the work has it
pub over : (files : Option Files) (file : Option Bytes) (s : SettingView) (u : Unit7) (numbers given : List ℤ) (steps : ℕ) (names : List Bytes) (unit : Bytes) (status : ℕ) (text : Bytes) → IsDraws files file numbers → given ≡ numbers → AnswersOwn s u names unit status text ⊎ AnswersRan s u given steps names unit status text → AnswersOver files file s u steps names unit status text
over files file s u numbers given steps names unit status text are same h = record {
  numbers = numbers;
  are_draws = are;
  answers = subst (λ n. AnswersOwn s u names unit status text ⊎ AnswersRan s u n steps names unit status text) same h;
}

own_run : (seen : Seen) (c : CommandView) (draws : Option Bytes) (m : Model) (u : Unit7) (names : List Bytes) (numbers : List ℤ) (status : ℕ) (text : Bytes) → IsExpanded (FromFiles seen.files c.dirs m c.unit) m names u → IsDraws seen.files draws numbers → AnswersOwn (replay_setting c m) u names c.unit status text → Tells (AnswersReplay seen c draws m) status text
own_run seen c draws m u names numbers status text expanded are a =
    let with : IsExpanded (With (HasDraws seen.files draws) (FromFiles seen.files c.dirs m c.unit)) m names u = record { model = expanded.model; gives = (expanded.gives, (numbers, are)); distinct = expanded.distinct; few = expanded.few } in
    record {
      verdict = refused (file_name names c.unit a.why.place.file) a.why;
      called_for = inr (later_refusal (With (HasDraws seen.files draws) (FromFiles seen.files c.dirs m c.unit)) seen c.dirs (replay_setting c m) u c.unit names a.why with a.refuses);
      by_status = a.answers.0;
      by_text = a.answers.1;
    }

by_answer : (seen : Seen) (c : CommandView) (draws : Option Bytes) (m : Model) (names : List Bytes) (status : ℕ) (text : Bytes) (answer : RunAnswer) → IsRunOf (FromFiles seen.files c.dirs m c.unit) seen.files draws (replay_setting c m) c.steps names answer → AnswersEnd answer names c.unit status text → Tells (AnswersReplay seen c draws m) status text
by_answer seen c draws m names status text (ran outcome) h a = record { verdict = replayed names c.unit outcome; called_for = inr (refl, h); by_status = a.0; by_text = a.1 }
by_answer seen c draws m names status text (large place count limit) h a = record { verdict = replayed_past (file_name names c.unit place.file) place count limit; called_for = inr (names, refl, h); by_status = a.0; by_text = a.1 }

run_of : (seen : Seen) (c : CommandView) (draws : Option Bytes) (m : Model) (u : Unit7) (names : List Bytes) (numbers : List ℤ) (answer : RunAnswer) → IsExpanded (FromFiles seen.files c.dirs m c.unit) m names u → IsDraws seen.files draws numbers → IsReplayed u (replay_setting c m) numbers c.steps answer → IsRunOf (FromFiles seen.files c.dirs m c.unit) seen.files draws (replay_setting c m) c.steps names answer
run_of seen c draws m u names numbers answer expanded are r = record { expanded = u; is_expanded = expanded; draws = numbers; are_draws = are; replayed = r }

over_told : (seen : Seen) (c : CommandView) (draws : Option Bytes) (m : Model) (u : Unit7) (names : List Bytes) (status : ℕ) (text : Bytes) → IsExpanded (FromFiles seen.files c.dirs m c.unit) m names u → AnswersOver seen.files draws (replay_setting c m) u c.steps names c.unit status text → Tells (AnswersReplay seen c draws m) status text
over_told seen c draws m u names status text expanded h = elim h.answers [
  | inl a ↦ own_run seen c draws m u names h.numbers status text expanded h.are_draws a
  | inr a ↦ by_answer seen c draws m names status text a.answer (run_of seen c draws m u names h.numbers a.answer expanded h.are_draws a.replayed) a.answers
]

draws_refused : (f0 f1 : Option Files) (a0 a1 a2 b0 b1 b2 : ℕ) (c : CommandView) (draws : Option Bytes) (m : Model) (u : Unit7) (names : List Bytes) (status : ℕ) (text : Bytes) → f1 ≡ f0 → a0 ≤ a1 → b0 ≤ b1 → IsExpanded (FromFiles f0 c.dirs m c.unit) m names u → Tells (RefusesDraws (seen_of f1 a1 a2 b1 b2) draws) status text → Tells (AnswersReplay (seen_of f0 a0 a2 b0 b2) c draws m) status text
draws_refused f0 f1 a0 a1 a2 b0 b1 b2 c draws m u names status text files faults taken expanded t = record {
  verdict = t.verdict;
  called_for = inl (record { names = names; expanded = u; is_expanded = expanded; later = seen_of f1 a1 a2 b1 b2; is_later = later f0 f1 a0 a1 a2 b0 b1 b2 files faults taken; holds = t.called_for });
  by_status = t.by_status;
  by_text = t.by_text;
}

-- what is told of a unit that was expanded, from what the tree gave meanwhile on
pub run_told : (f0 f1 : Option Files) (a0 a1 a2 b0 b1 b2 : ℕ) (c : CommandView) (draws : Option Bytes) (m : Model) (u : Unit7) (names : List Bytes) (status : ℕ) (text : Bytes) → f1 ≡ f0 → a0 ≤ a1 → b0 ≤ b1 → IsExpanded (FromFiles f0 c.dirs m c.unit) m names u → Tells (RefusesDraws (seen_of f1 a1 a2 b1 b2) draws) status text ⊎ AnswersOver f1 draws (replay_setting c m) u c.steps names c.unit status text → Tells (AnswersReplay (seen_of f0 a0 a2 b0 b2) c draws m) status text
run_told f0 f1 a0 a1 a2 b0 b1 b2 c draws m u names status text files faults taken expanded h = elim h [
  | inl t ↦ draws_refused f0 f1 a0 a1 a2 b0 b1 b2 c draws m u names status text files faults taken expanded t
  | inr a ↦ over_told (seen_of f0 a0 a2 b0 b2) c draws m u names status text expanded (subst (λ f. AnswersOver f draws (replay_setting c m) u c.steps names c.unit status text) files a)
]

stop_run : (seen : Seen) (c : CommandView) (draws : Option Bytes) (m : Model) (names : List Bytes) (s : Stop) (status : ℕ) (text : Bytes) → IsCausedFrom c.unit seen c.dirs m names s → FromFiles seen.files c.dirs m c.unit names (Err s) → AnswersStop names c.unit s status text → Tells (AnswersReplay seen c draws m) status text
stop_run seen c draws m names (stop.Refused f) status text h told a = record { verdict = refused (file_name names c.unit f.place.file) f; called_for = inr (stopped_refusal (With (HasDraws seen.files draws) (FromFiles seen.files c.dirs m c.unit)) seen c.dirs (replay_setting c m) c.unit names f h a.1 told); by_status = a.0.0; by_text = a.0.1 }
stop_run seen c draws m names stop.NotHeld status text h told a = record { verdict = absent c.unit; called_for = inr (refl, h); by_status = a.0; by_text = a.1 }
stop_run seen c draws m names stop.ReadFault status text h told a = absurd a
stop_run seen c draws m names stop.Memory status text h told a = absurd a

-- what is told where the expansion stopped, with the names and the unit as the work has them
pub stop_run_under : (seen : Seen) (c : CommandView) (draws : Option Bytes) (m : Model) (names given : List Bytes) (unit : Bytes) (dirs : List Bytes) (s : Stop) (status : ℕ) (text : Bytes) → unit ≡ c.unit → dirs ≡ c.dirs → given ≡ names → IsCausedFrom unit seen dirs m names s → FromFiles seen.files c.dirs m c.unit names (Err s) → AnswersStop given unit s status text → Tells (AnswersReplay seen c draws m) status text
stop_run_under seen c draws m names given unit dirs s status text same_unit same_dirs same_names h told a =
    let cause = subst (λ u. IsCausedFrom u seen c.dirs m names s) same_unit (subst (λ d. IsCausedFrom unit seen d m names s) same_dirs h) in
    let answer = subst (λ u. AnswersStop names u s status text) same_unit (subst (λ n. AnswersStop n unit s status text) same_names a) in
    stop_run seen c draws m names s status text cause told answer

replay_answered : (seen later : Seen) (c : CommandView) (draws : Option Bytes) (m : Model) (status : ℕ) (text : Bytes) → HasModel seen.files c.model m → IsLater seen later → Tells (AnswersReplay later c draws m) status text → Tells (IsVerdict seen (Replay c draws)) status text
replay_answered seen later c draws m status text has after t = record { verdict = t.verdict; called_for = inr (record { chosen = m; has_model = has; later = later; is_later = after; answered = t.called_for }); by_status = t.by_status; by_text = t.by_text }

-- what is told under the model that was chosen, from what the tree gave meanwhile on
pub replay_chosen : (f0 f1 : Option Files) (a0 a1 a2 b0 b1 b2 : ℕ) (c : CommandView) (draws : Option Bytes) (m : Model) (name : Bytes) (choice : ModelChoice) (status : ℕ) (text : Bytes) → name ≡ c.model → choice ≡ Chosen m → IsChoice (seen_of f0 a0 a1 b0 b1) name choice → f1 ≡ f0 → a0 ≤ a1 → b0 ≤ b1 → Tells (AnswersReplay (seen_of f1 a1 a2 b1 b2) c draws m) status text → Tells (IsVerdict (seen_of f0 a0 a2 b0 b2) (Replay c draws)) status text
replay_chosen f0 f1 a0 a1 a2 b0 b1 b2 c draws m name choice status text same chose given files faults taken t =
    replay_answered (seen_of f0 a0 a2 b0 b2) (seen_of f1 a1 a2 b1 b2) c draws m status text (model_held (seen_of f0 a0 a1 b0 b1) name c.model choice m same chose given) (later f0 f1 a0 a1 a2 b0 b1 b2 files faults taken) t
