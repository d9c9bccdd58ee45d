-- What files that are told give.
use Rattle.std.proofs.Common.{◌≡◌, ◌∙◌, inl, inr, ℤ, Bool, true, false, List, Option, Some, None, Result, Ok, Err, ap, sym, subst, refl}
use Rattle.std.specs.Str.{IsUtf8, is_utf8}
use Rattle.std.proofs.lemmas.Str.{IsUtf8-from_is_utf8, is_utf8-from_IsUtf8}
use Rattle.toml.specs.Parse.{parse_document}
use Rattle.cc_base.specs.Outside.{Files}
use Rattle.cc_base.specs.declared.diagnostics.Diag.{Diag}
use Rattle.cc_base.specs.declared.refusals.Fault.{Fault}
use Rattle.cc_base.specs.declared.refusals.Stop.TheVariants as stop
use Rattle.c_layout.specs.ModelText.{model_in}
use Rattle.c_layout.specs.declared.data_model.Model.{Model}
use Rattle.c_layout.specs.declared.unit_tokens.Unit7.{Unit7}
use Rattle.c_preproc.specs.Units.{Preprocessed, Refused}
use Rattle.sarif.specs.Baselines.{baseline_read}
use Rattle.sarif.specs.Comparing.{fresh_of}
use Rattle.sarif.specs.declared.known_results.Known.{Known}
use Rattle.cli_words.specs.Draws.DrawsFiles.{draws_in}
use Rattle.cli_texts.specs.Reports.{Bytes}
use Rattle.cli_answers.specs.Baselines.{IsBaseline, IsFreshOf}
use Rattle.cli_answers.specs.FurtherFiles.{HoldsDraws}
use Rattle.cli_answers.specs.Verdicts.{HasModel, ReadsModel, IsModelText, FromFiles, IsExpanded}

pub some_inj : {X : Type 0} {x y : X} → Some x ≡ Some y → x ≡ y
some_inj {X} {x} {y} e = ap (λ (p : Option X). elim p [ None ↦ x | Some z ↦ z ]) e

pub ok_inj : {X Y : Type 0} {x y : X} → ◌≡◌ {A = Result X Y} (Ok x) (Ok y) → x ≡ y
ok_inj {X} {Y} {x} {y} e = ap (λ (p : Result X Y). elim p [ Ok z ↦ z | Err w ↦ x ]) e

err_inj : {X Y : Type 0} {x y : Y} → ◌≡◌ {A = Result X Y} (Err x) (Err y) → x ≡ y
err_inj {X} {Y} {x} {y} e = ap (λ (p : Result X Y). elim p [ Ok z ↦ x | Err w ↦ w ]) e

ok_not_err : {X Y : Type 0} {x : X} {y : Y} → ◌≡◌ {A = Result X Y} (Ok x) (Err y) → ⊥
ok_not_err {X} {Y} {x} {y} e = cc

pub some_same : {X : Type 0} {x y : X} {o : Option X} → o ≡ Some x → o ≡ Some y → x ≡ y
some_same {X} {x} {y} {o} is also = some_inj (sym is ∙ also)

pub none_some : {X : Type 0} {x : X} {o : Option X} → o ≡ None → o ≡ Some x → ⊥
none_some {X} {x} {o} is also = let h : None ≡ Some x = sym is ∙ also in absurd (cc h)

-- ---- the model

-- the bytes of a model file are a text
by_text : (bytes : Bytes) (b : Bool) → is_utf8 bytes ≡ b → (m : Model) → IsModelText bytes (Ok m) → model_in (parse_document bytes) ≡ Ok m
by_text bytes true is m t = sym (t.text (IsUtf8-from_is_utf8 bytes is))
by_text bytes false is m t = absurd (ok_not_err (t.binary (λ h. let e : true ≡ false = sym (is_utf8-from_IsUtf8 bytes h) ∙ is in absurd (cc e))))

one_read : (held : Files) (name : Bytes) (m other : Model) → ReadsModel (Some held) name (Ok m) → ReadsModel (Some held) name (Ok other) → m ≡ other
one_read held name m other a b =
    let given = subst (λ (bytes : Bytes). IsModelText bytes (Ok other)) (some_same b.held a.held) b.given in
    ok_inj (sym (by_text a.bytes (is_utf8 a.bytes) refl m a.given) ∙ by_text a.bytes (is_utf8 a.bytes) refl other given)

pub one_model : (held : Files) (name : Bytes) (m other : Model) → HasModel (Some held) name m → HasModel (Some held) name other → m ≡ other
one_model held name m other (inl named) (inl also) = some_same named also
one_model held name m other (inl named) (inr reads) = absurd (none_some reads.unnamed named)
one_model held name m other (inr reads) (inl named) = absurd (none_some reads.unnamed named)
one_model held name m other (inr reads) (inr also) = one_read held name m other reads also

-- ---- the expansion

same_unit : (u v : Unit7) → u.tokens ≡ v.tokens → u.model ≡ v.model → u ≡ v
same_unit u v p q = λ i. record { tokens = p i; model = q i }

pub one_expansion :
    (held : Files) (dirs : List Bytes) (main : Bytes) (m : Model) (names others : List Bytes) (u v : Unit7) →
    IsExpanded (FromFiles (Some held) dirs m main) m names u → IsExpanded (FromFiles (Some held) dirs m main) m others v → (u ≡ v) × (names ≡ others)
one_expansion held dirs main m names others u v is also =
    let same = ok_inj (some_same (is.gives held refl) (also.gives held refl)) in
    (same_unit u v (ap (λ (p : Preprocessed). p.tokens) same) (is.model ∙ sym also.model), ap (λ (p : Preprocessed). p.names) same)

pub one_refusal :
    (held : Files) (dirs : List Bytes) (main : Bytes) (m : Model) (names others : List Bytes) (f g : Fault) →
    FromFiles (Some held) dirs m main names (Err (stop.Refused f)) → FromFiles (Some held) dirs m main others (Err (stop.Refused g)) → (f ≡ g) × (names ≡ others)
one_refusal held dirs main m names others f g is also =
    let same = err_inj (some_same (is held refl) (also held refl)) in
    (ap (λ (r : Refused). r.fault) same, ap (λ (r : Refused). r.names) same)

pub refused_or_expanded :
    (held : Files) (dirs : List Bytes) (main : Bytes) (m : Model) (names others : List Bytes) (u : Unit7) (f : Fault) →
    FromFiles (Some held) dirs m main names (Ok u) → FromFiles (Some held) dirs m main others (Err (stop.Refused f)) → ⊥
refused_or_expanded held dirs main m names others u f is also = ok_not_err (some_same (is held refl) (also held refl))

-- ---- further files

pub one_baseline : (held : Files) (name : Bytes) (known other : List Known) → IsBaseline (Some held) name known → IsBaseline (Some held) name other → known ≡ other
one_baseline held name known other a b = some_same (subst (λ (bytes : Bytes). baseline_read bytes ≡ Some known) (some_same a.held b.held) a.reads) b.reads

pub one_fresh_list :
    (held : Files) (name : Bytes) (names : List Bytes) (all diags others : List Diag) → IsFreshOf (Some held) name names all diags → IsFreshOf (Some held) name names all others → diags ≡ others
one_fresh_list held name names all diags others a b =
    a.left ∙ (ap (λ (known : List Known). fresh_of names known all) (one_baseline held name a.known b.known a.is_baseline b.is_baseline) ∙ sym b.left)

pub one_list_of_draws : (held : Files) (name : Bytes) (draws others : List ℤ) → HoldsDraws (Some held) name draws → HoldsDraws (Some held) name others → draws ≡ others
one_list_of_draws held name draws others a b = some_same (subst (λ (bytes : Bytes). draws_in bytes ≡ Some draws) (some_same a.held b.held) a.reads) b.reads
