-- A model that is given is had, and no other one.
use Rattle.std.proofs.Common.{◌≡◌, ◌∙◌, ◌≤◌, Bool, true, false, length, Option, Some, None, Result, Ok, Err, IsUtf8, inl, inr, refl, sym, subst, ap, arith}
use Rattle.std.specs.Str.{is_utf8}
use Rattle.std.proofs.lemmas.Str.{IsUtf8-from_is_utf8, is_utf8-from_IsUtf8}
use Rattle.cc_base.specs.Outside.{Files, Holds, Lacks, HoldsTooLong, Rose, RoseBeyond, file_at}
use Rattle.c_layout.specs.Models.{model_named}
use Rattle.c_layout.specs.declared.data_model.Model.{Model}
use Rattle.c_layout.specs.declared.model_file.ModelFault.{ModelFault}
use Rattle.c_preproc.specs.Causes.{Seen}
use Rattle.cli_texts.specs.Reports.{Bytes}
use Rattle.cli_answers.specs.Verdicts as verdict
use Rattle.cli_answers.specs.Verdicts.{Verdict, HasModel, RefusesModel, ReadsModel, IsModelText}
use Rattle.cli_theorems.specs.Units.GivenModels.{IsGivenModel}

none_some : {m : Model} {x : Option Model} → x ≡ None → x ≡ Some m → ⊥
none_some {m} {x} is also = cc

some_same : {m n : Model} {x : Option Model} → x ≡ Some m → x ≡ Some n → m ≡ n
some_same {m} {n} {x} is also = cc

-- ---- what is held

one_file : {a b : Bytes} {x : Option Bytes} → x ≡ Some a → x ≡ Some b → a ≡ b
one_file {a} {b} {x} is also = cc

no_file : {a : Bytes} {x : Option Bytes} → x ≡ Some a → x ≡ None → ⊥
no_file {a} {x} is also = cc

told_same : {f g : Files} → Some f ≡ Some g → f ≡ g
told_same {f} {g} is = cc

pub lacks_never : (files : Option Files) (held : Files) (name bytes : Bytes) (reason : Type 0) → files ≡ Some held → file_at held name ≡ Some bytes → Lacks files name reason → ⊥
lacks_never None held name bytes reason told is lacks = absurd (cc told)
lacks_never (Some files) held name bytes reason told is lacks = no_file (ap (λ (f : Files). file_at f name) (told_same told) ∙ is) lacks

pub long_never : (files : Option Files) (held : Files) (name bytes : Bytes) (reason : Type 0) → files ≡ Some held → file_at held name ≡ Some bytes → length bytes ≤ 1048576 → HoldsTooLong 1048576 files name reason → ⊥
long_never None held name bytes reason told is short long = absurd (cc told)
long_never (Some files) held name bytes reason told is short (other, held_too, past) =
    let same : bytes ≡ other = one_file (ap (λ (f : Files). file_at f name) (told_same told) ∙ is) held_too in
    let few : length other ≤ 1048576 = subst (λ (b : Bytes). length b ≤ 1048576) same short in
    omega (arith, few, past)

pub same_held : (files : Option Files) (held : Files) (name bytes other : Bytes) → files ≡ Some held → file_at held name ≡ Some bytes → Holds files name other → other ≡ bytes
same_held None held name bytes other told is holds = absurd (cc told)
same_held (Some files) held name bytes other told is holds = one_file holds (ap (λ (f : Files). file_at f name) (told_same told) ∙ is)

-- ---- a text gives one model, or none

one_text_by : (bytes : Bytes) (a b : Result Model ModelFault) → IsModelText bytes a → IsModelText bytes b → (u : Bool) → is_utf8 bytes ≡ u → a ≡ b
one_text_by bytes a b is also true text = is.text (IsUtf8-from_is_utf8 bytes text) ∙ sym (also.text (IsUtf8-from_is_utf8 bytes text))
one_text_by bytes a b is also false binary =
    let never : ¬ IsUtf8 bytes = λ text. absurd (cc (sym (is_utf8-from_IsUtf8 bytes text) ∙ binary)) in
    is.binary never ∙ sym (also.binary never)

pub one_text : (bytes : Bytes) (a b : Result Model ModelFault) → IsModelText bytes a → IsModelText bytes b → a ≡ b
one_text bytes a b is also = one_text_by bytes a b is also (is_utf8 bytes) refl

ok_same : {m n : Model} → (◌≡◌ {A = Result Model ModelFault} (Ok m) (Ok n)) → m ≡ n
ok_same {m} {n} is = cc

ok_err : {m : Model} {why : ModelFault} → (◌≡◌ {A = Result Model ModelFault} (Ok m) (Err why)) → ⊥
ok_err {m} {why} is = absurd (cc is)

-- ---- the model

refused_never : (seen : Seen) (held : Files) (name : Bytes) (m : Model) (why : ModelFault) → seen.files ≡ Some held → IsGivenModel held name m → ReadsModel seen.files name (Err why) → ⊥
refused_never seen held name m why told (inl named) reads = none_some reads.unnamed named
refused_never seen held name m why told (inr read) reads =
    let same = same_held seen.files held name read.bytes reads.bytes told read.is reads.held in
    ok_err (one_text read.bytes (Ok m) (Err why) read.gives (subst (λ (b : Bytes). IsModelText b (Err why)) same reads.given))

absent_never : (seen : Seen) (held : Files) (name : Bytes) (m : Model) → seen.files ≡ Some held → IsGivenModel held name m → model_named name ≡ None → Lacks seen.files name (Rose seen.faults seen.faults_now) → ⊥
absent_never seen held name m told (inl named) none lacks = none_some none named
absent_never seen held name m told (inr read) none lacks = lacks_never seen.files held name read.bytes (Rose seen.faults seen.faults_now) told read.is lacks

too_long_never : (seen : Seen) (held : Files) (name : Bytes) (m : Model) → seen.files ≡ Some held → IsGivenModel held name m → model_named name ≡ None → HoldsTooLong 1048576 seen.files name (RoseBeyond 1048576 seen.taken seen.taken_now) → ⊥
too_long_never seen held name m told (inl named) none long = none_some none named
too_long_never seen held name m told (inr read) none long = long_never seen.files held name read.bytes (RoseBeyond 1048576 seen.taken seen.taken_now) told read.is read.short long

pub model_had : (seen : Seen) (held : Files) (name : Bytes) (m : Model) → seen.files ≡ Some held → IsGivenModel held name m → (v : Verdict) → RefusesModel seen name v → ⊥
model_had seen held name m told given (verdict.absent file) (same, none, lacks) = absent_never seen held name m told given none lacks
model_had seen held name m told given (verdict.too_long file) (same, none, long) = too_long_never seen held name m told given none long
model_had seen held name m told given (verdict.no_model file reason) (same, why, is, reads) = refused_never seen held name m why told given reads
model_had seen held name m told given verdict.helped h = h
model_had seen held name m told given verdict.versioned h = h
model_had seen held name m told given verdict.words_refused h = h
model_had seen held name m told given (verdict.no_baseline file) h = h
model_had seen held name m told given (verdict.no_draws file) h = h
model_had seen held name m told given (verdict.refused file why) h = h
model_had seen held name m told given (verdict.reported form names unit diags) h = h
model_had seen held name m told given (verdict.summed unit bases cells diags) h = h
model_had seen held name m told given (verdict.proved text) h = h
model_had seen held name m told given (verdict.proved_past unit count) h = h
model_had seen held name m told given (verdict.cert_refused file why) h = h
model_had seen held name m told given (verdict.replayed names unit outcome) h = h
model_had seen held name m told given (verdict.replayed_past file place count limit) h = h

pub model_same : (files : Option Files) (held : Files) (name : Bytes) (m n : Model) → files ≡ Some held → IsGivenModel held name m → HasModel files name n → n ≡ m
model_same files held name m n told (inl named) (inl also) = some_same also named
model_same files held name m n told (inl named) (inr reads) = absurd (none_some reads.unnamed named)
model_same files held name m n told (inr read) (inl also) = absurd (none_some read.unnamed also)
model_same files held name m n told (inr read) (inr reads) =
    let same = same_held files held name read.bytes reads.bytes told read.is reads.held in
    ok_same (one_text read.bytes (Ok n) (Ok m) (subst (λ (b : Bytes). IsModelText b (Ok n)) same reads.given) read.gives)
