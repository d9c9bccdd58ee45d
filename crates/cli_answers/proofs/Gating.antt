-- What a gate tells of a unit is called for.
use Rattle.std.proofs.Common.{◌≡◌, ◌≤◌, ◌⊎◌, ℕ, List, Option, Err, refl, inl, inr, subst}
use Rattle.cc_base.specs.Outside.{Files, Holds, HoldsTooLong, Lacks, Rose, RoseBeyond}
use Rattle.cc_base.specs.declared.refusals.Stop.{Stop}
use Rattle.cc_base.specs.declared.refusals.Stop.TheVariants as stop
use Rattle.c_layout.specs.declared.data_model.Model.{Model}
use Rattle.c_layout.specs.declared.unit_tokens.Unit7.{Unit7}
use Rattle.c_preproc.specs.Causes.{Seen, seen_of, IsCausedFrom}
use Rattle.sarif.specs.Comparing.{fresh_of}
use Rattle.sarif.specs.declared.known_results.Known.{Known}
use Rattle.cli_words.specs.Words.Requests.{CommandView, Gate}
use Rattle.cli_words.specs.declared.words.commands.Format.TheVariants as format
use Rattle.cli_texts.specs.Reports.{Bytes, file_name}
use Rattle.cli_texts.specs.FixedTexts.{no_file_text, too_long_text}
use Rattle.cli_texts.specs.declared.answers.Answer.{Answer}
use Rattle.cli_answers.specs.declared.model_choice.ModelChoice.{ModelChoice}
use Rattle.cli_answers.specs.declared.model_choice.ModelChoice.TheVariants.{Chosen}
use Rattle.cli_answers.specs.declared.further_files.Further.TheVariants as further
use Rattle.cli_answers.specs.declared.baseline_files.Baseline.{Baseline}
use Rattle.cli_answers.specs.declared.baseline_files.Baseline.TheVariants as baseline
use Rattle.cli_answers.specs.Baselines.{IsBaseline, HasBaseline}
use Rattle.cli_answers.specs.Choices.{IsChoice}
use Rattle.cli_units.specs.Judging.{SettingView}
use Rattle.cli_answers.specs.Verdicts.{Verdict, Tells, absent, too_long, no_baseline, refused, reported, FromFiles, IsExpanded, IsLater, With, RefusesFile, RefusesBase, gate_setting, AnswersGate, HasModel, IsVerdict}
use Rattle.cli_answers.specs.Answering.{AnswersStop, AnswersOwn}
use Rattle.cli_answers.specs.Gates.{IsFurther, IsBaselineOf, IsBaselineIn, AnswersGated, AnswersAgainst}
use Rattle.cli_answers.proofs.Called.{stopped_refusal, later_refusal, later, model_held}

-- no such file
pub absent_further : (seen : Seen) (name : Bytes) (a : Answer) → Lacks seen.files name (Rose seen.faults seen.faults_now) → a.status ≡ 4 → a.text.items ≡ no_file_text name → IsFurther seen name (further.Refused a)
absent_further seen name a lacks status text = record { verdict = absent name; called_for = (refl, lacks); by_status = status; by_text = text }

-- a file that is too long
pub long_further : (seen : Seen) (name : Bytes) (a : Answer) → HoldsTooLong 1048576 seen.files name (RoseBeyond 1048576 seen.taken seen.taken_now) → a.status ≡ 8 → a.text.items ≡ too_long_text name → IsFurther seen name (further.Refused a)
long_further seen name a long status text = record { verdict = too_long name; called_for = (refl, long); by_status = status; by_text = text }

-- what bytes that are held say is known
pub held_baseline : (seen : Seen) (name bytes : Bytes) (b : Baseline) → Holds seen.files name bytes → IsBaselineOf name bytes b → IsBaselineIn seen name b
held_baseline seen name bytes (baseline.Read known) held h = record { bytes = bytes; held = held; reads = h }
held_baseline seen name bytes (baseline.Refused a) held h = record { verdict = no_baseline name; called_for = (refl, record { bytes = bytes; held = held; reads = h.0 }); by_status = h.1; by_text = h.2 }

file_refuses : (seen : Seen) (base : Bytes) (v : Verdict) → RefusesFile seen base v → RefusesBase seen base v
file_refuses seen base (no_baseline name) h = absurd h
file_refuses seen base _ h = h

pub no_further : (seen : Seen) (base : Bytes) (status : ℕ) (text : Bytes) → Tells (RefusesFile seen base) status text → Tells (RefusesBase seen base) status text
no_further seen base status text t = record { verdict = t.verdict; called_for = file_refuses seen base t.verdict t.called_for; by_status = t.by_status; by_text = t.by_text }

-- a baseline that was read, or the answer where there is none, under the name that the words have
pub baseline_read_in : (seen : Seen) (name base : Bytes) (b : Baseline) (c : Baseline) → name ≡ base → b ≡ c → IsBaselineIn seen name b → IsBaselineIn seen base c
baseline_read_in seen name base b c same is h = subst (λ n. IsBaselineIn seen n c) same (subst (λ x. IsBaselineIn seen name x) is h)

-- the answer where the baseline is read, by the list as the work has it
pub against : (files : Option Files) (base : Bytes) (s : SettingView) (u : Unit7) (known given : List Known) (names : List Bytes) (unit : Bytes) (status : ℕ) (text : Bytes) → IsBaseline files base known → given ≡ known → AnswersOwn s u names unit status text ⊎ AnswersGated s u given names unit status text → AnswersAgainst files base s u names unit status text
against files base s u known given names unit status text is same h = record {
  known = known;
  is_baseline = is;
  answers = subst (λ k. AnswersOwn s u names unit status text ⊎ AnswersGated s u k names unit status text) same h;
}

own_gated : (seen : Seen) (c : CommandView) (base : Bytes) (m : Model) (u : Unit7) (names : List Bytes) (known : List Known) (status : ℕ) (text : Bytes) → IsExpanded (FromFiles seen.files c.dirs m c.unit) m names u → IsBaseline seen.files base known → AnswersOwn (gate_setting c m) u names c.unit status text → Tells (AnswersGate seen c base m) status text
own_gated seen c base m u names known status text expanded is a =
    let with : IsExpanded (With (HasBaseline seen.files base) (FromFiles seen.files c.dirs m c.unit)) m names u = record { model = expanded.model; gives = (expanded.gives, (known, is)); distinct = expanded.distinct; few = expanded.few } in
    record {
      verdict = refused (file_name names c.unit a.why.place.file) a.why;
      called_for = inr (later_refusal (With (HasBaseline seen.files base) (FromFiles seen.files c.dirs m c.unit)) seen c.dirs (gate_setting c m) u c.unit names a.why with a.refuses);
      by_status = a.answers.0;
      by_text = a.answers.1;
    }

new_gated : (seen : Seen) (c : CommandView) (base : Bytes) (m : Model) (u : Unit7) (names : List Bytes) (known : List Known) (status : ℕ) (text : Bytes) → IsExpanded (FromFiles seen.files c.dirs m c.unit) m names u → IsBaseline seen.files base known → AnswersGated (gate_setting c m) u known names c.unit status text → Tells (AnswersGate seen c base m) status text
new_gated seen c base m u names known status text expanded is a = record {
  verdict = reported format.Text names c.unit (fresh_of names known a.answers.all);
  called_for = inr (
    refl,
    refl,
    record {
      all = a.answers.all;
      report = record { expanded = u; is_expanded = expanded; found = a.found; judged = a.judged; listed = a.answers.listed };
      fresh = record { known = known; is_baseline = is; left = refl };
    },
  );
  by_status = a.answers.by_status;
  by_text = a.answers.by_text;
}

against_told : (seen : Seen) (c : CommandView) (base : Bytes) (m : Model) (u : Unit7) (names : List Bytes) (status : ℕ) (text : Bytes) → IsExpanded (FromFiles seen.files c.dirs m c.unit) m names u → AnswersAgainst seen.files base (gate_setting c m) u names c.unit status text → Tells (AnswersGate seen c base m) status text
against_told seen c base m u names status text expanded h = elim h.answers [
  | inl a ↦ own_gated seen c base m u names h.known status text expanded h.is_baseline a
  | inr a ↦ new_gated seen c base m u names h.known status text expanded h.is_baseline a
]

base_told : (f0 f1 : Option Files) (a0 a1 a2 b0 b1 b2 : ℕ) (c : CommandView) (base : Bytes) (m : Model) (u : Unit7) (names : List Bytes) (status : ℕ) (text : Bytes) → f1 ≡ f0 → a0 ≤ a1 → b0 ≤ b1 → IsExpanded (FromFiles f0 c.dirs m c.unit) m names u → Tells (RefusesBase (seen_of f1 a1 a2 b1 b2) base) status text → Tells (AnswersGate (seen_of f0 a0 a2 b0 b2) c base m) status text
base_told f0 f1 a0 a1 a2 b0 b1 b2 c base m u names status text files faults taken expanded t = record {
  verdict = t.verdict;
  called_for = inl (record { names = names; expanded = u; is_expanded = expanded; later = seen_of f1 a1 a2 b1 b2; is_later = later f0 f1 a0 a1 a2 b0 b1 b2 files faults taken; holds = t.called_for });
  by_status = t.by_status;
  by_text = t.by_text;
}

-- what is told of a unit that was expanded, from what the tree gave meanwhile on
pub compared_told : (f0 f1 : Option Files) (a0 a1 a2 b0 b1 b2 : ℕ) (c : CommandView) (base : Bytes) (m : Model) (u : Unit7) (names : List Bytes) (status : ℕ) (text : Bytes) → f1 ≡ f0 → a0 ≤ a1 → b0 ≤ b1 → IsExpanded (FromFiles f0 c.dirs m c.unit) m names u → Tells (RefusesBase (seen_of f1 a1 a2 b1 b2) base) status text ⊎ AnswersAgainst f1 base (gate_setting c m) u names c.unit status text → Tells (AnswersGate (seen_of f0 a0 a2 b0 b2) c base m) status text
compared_told f0 f1 a0 a1 a2 b0 b1 b2 c base m u names status text files faults taken expanded h = elim h [
  | inl t ↦ base_told f0 f1 a0 a1 a2 b0 b1 b2 c base m u names status text files faults taken expanded t
  | inr a ↦ against_told (seen_of f0 a0 a2 b0 b2) c base m u names status text expanded (subst (λ f. AnswersAgainst f base (gate_setting c m) u names c.unit status text) files a)
]

stop_gated : (seen : Seen) (c : CommandView) (base : Bytes) (m : Model) (names : List Bytes) (s : Stop) (status : ℕ) (text : Bytes) → IsCausedFrom c.unit seen c.dirs m names s → FromFiles seen.files c.dirs m c.unit names (Err s) → AnswersStop names c.unit s status text → Tells (AnswersGate seen c base m) status text
stop_gated seen c base m names (stop.Refused f) status text h told a = record { verdict = refused (file_name names c.unit f.place.file) f; called_for = inr (stopped_refusal (With (HasBaseline seen.files base) (FromFiles seen.files c.dirs m c.unit)) seen c.dirs (gate_setting c m) c.unit names f h a.1 told); by_status = a.0.0; by_text = a.0.1 }
stop_gated seen c base m names stop.NotHeld status text h told a = record { verdict = absent c.unit; called_for = inr (refl, h); by_status = a.0; by_text = a.1 }
stop_gated seen c base m names stop.ReadFault status text h told a = absurd a
stop_gated seen c base m names stop.Memory status text h told a = absurd a

-- what is told where the expansion stopped, with the names and the unit as the work has them
pub stop_gated_under : (seen : Seen) (c : CommandView) (base : Bytes) (m : Model) (names given : List Bytes) (unit : Bytes) (dirs : List Bytes) (s : Stop) (status : ℕ) (text : Bytes) → unit ≡ c.unit → dirs ≡ c.dirs → given ≡ names → IsCausedFrom unit seen dirs m names s → FromFiles seen.files c.dirs m c.unit names (Err s) → AnswersStop given unit s status text → Tells (AnswersGate seen c base m) status text
stop_gated_under seen c base m names given unit dirs s status text same_unit same_dirs same_names h told a =
    let cause = subst (λ u. IsCausedFrom u seen c.dirs m names s) same_unit (subst (λ d. IsCausedFrom unit seen d m names s) same_dirs h) in
    let answer = subst (λ u. AnswersStop names u s status text) same_unit (subst (λ n. AnswersStop n unit s status text) same_names a) in
    stop_gated seen c base m names s status text cause told answer

gate_answered : (seen later : Seen) (c : CommandView) (base : Bytes) (m : Model) (status : ℕ) (text : Bytes) → HasModel seen.files c.model m → IsLater seen later → Tells (AnswersGate later c base m) status text → Tells (IsVerdict seen (Gate c base)) status text
gate_answered seen later c base m status text has after t = record { verdict = t.verdict; called_for = inr (record { chosen = m; has_model = has; later = later; is_later = after; answered = t.called_for }); by_status = t.by_status; by_text = t.by_text }

-- what is told under the model that was chosen, from what the tree gave meanwhile on
pub gate_chosen : (f0 f1 : Option Files) (a0 a1 a2 b0 b1 b2 : ℕ) (c : CommandView) (base : Bytes) (m : Model) (name : Bytes) (choice : ModelChoice) (status : ℕ) (text : Bytes) → name ≡ c.model → choice ≡ Chosen m → IsChoice (seen_of f0 a0 a1 b0 b1) name choice → f1 ≡ f0 → a0 ≤ a1 → b0 ≤ b1 → Tells (AnswersGate (seen_of f1 a1 a2 b1 b2) c base m) status text → Tells (IsVerdict (seen_of f0 a0 a2 b0 b2) (Gate c base)) status text
gate_chosen f0 f1 a0 a1 a2 b0 b1 b2 c base m name choice status text same chose given files faults taken t =
    gate_answered (seen_of f0 a0 a2 b0 b2) (seen_of f1 a1 a2 b1 b2) c base m status text (model_held (seen_of f0 a0 a1 b0 b1) name c.model choice m same chose given) (later f0 f1 a0 a1 a2 b0 b1 b2 files faults taken) t
