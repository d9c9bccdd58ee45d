-- The same files give one model and one unit.
use Rattle.std.specs.Prelude.{◌≡◌, List, Option, Some, None, Result, Ok, refl}
use Rattle.std.proofs.Common.{sym, ap, subst, ◌∙◌, inl, inr}
use Rattle.cc_base.specs.Outside.{Files}
use Rattle.c_layout.specs.declared.data_model.Model.{Model}
use Rattle.c_layout.specs.declared.model_file.ModelFault.{ModelFault}
use Rattle.c_layout.specs.declared.unit_tokens.Unit7.{Unit7}
use Rattle.c_preproc.specs.Units.{Preprocessed, Refused}
use Rattle.cli_words.specs.Words.Requests.{CommandView}
use Rattle.cli_texts.specs.Reports.{Bytes}
use Rattle.cli_answers.specs.Verdicts.{HasModel, ReadsModel, IsModelText, FromFiles, IsExpanded}
use Rattle.cli_theorems.proofs.units.GivenModels.{one_text}
use Rattle.cli_theorems.proofs.units.OneUnit.{same_unit}
use Rattle.cli_theorems.specs.Certificates.SameUnits.{GiveOneUnit}

some_same : {m n : Model} {x : Option Model} → x ≡ Some m → x ≡ Some n → m ≡ n
some_same {m} {n} {x} is also = cc

none_some : {m n : Model} {x : Option Model} → x ≡ None → x ≡ Some m → m ≡ n
none_some {m} {n} {x} is also = let h : None ≡ Some m = sym is ∙ also in absurd (cc h)

ok_same : {m n : Model} → ◌≡◌ {A = Result Model ModelFault} (Ok m) (Ok n) → m ≡ n
ok_same {m} {n} is = cc

pub one_file : {a b : Bytes} {x : Option Bytes} → x ≡ Some a → x ≡ Some b → a ≡ b
one_file {a} {b} {x} is also = cc

-- ---- the model

one_read : (held : Files) (name : Bytes) (m n : Model) → ReadsModel (Some held) name (Ok m) → ReadsModel (Some held) name (Ok n) → m ≡ n
one_read held name m n reads also = ok_same (one_text also.bytes (Ok m) (Ok n) (subst (λ (b : Bytes). IsModelText b (Ok m)) (one_file reads.held also.held) reads.given) also.given)

one_model : (held : Files) (name : Bytes) (m n : Model) → HasModel (Some held) name m → HasModel (Some held) name n → m ≡ n
one_model held name m n (inl named) (inl also) = some_same named also
one_model held name m n (inl named) (inr reads) = none_some reads.unnamed named
one_model held name m n (inr reads) (inl named) = sym (none_some reads.unnamed named)
one_model held name m n (inr reads) (inr also) = one_read held name m n reads also

pub same_files : (c : CommandView) (held : Files) → GiveOneUnit c held held
same_files c held = record { models = λ m n is also. one_model held c.model m n is also; units = λ m. refl }

-- ---- the unit

one_given : {p q : Preprocessed} {x : Option (Result Preprocessed Refused)} → x ≡ Some (Ok p) → x ≡ Some (Ok q) → p ≡ q
one_given {p} {q} {x} is also = cc

-- the same tokens, and the same names of files
pub record AreOne (u v : Unit7) (names others : List Bytes) : Type 0 where
  pub unit : u ≡ v
  pub names_are : names ≡ others

pub one_unit : (c : CommandView) (held other : Files) (m : Model) (names others : List Bytes) (u v : Unit7) → GiveOneUnit c held other → IsExpanded (FromFiles (Some held) c.dirs m c.unit) m names u → IsExpanded (FromFiles (Some other) c.dirs m c.unit) m others v → AreOne u v names others
one_unit c held other m names others u v alike is also =
    let same : ◌≡◌ {A = Preprocessed} (record { tokens = u.tokens; names = names }) (record { tokens = v.tokens; names = others }) = one_given (is.gives held refl) (alike.units m ∙ also.gives other refl) in
    record { unit = same_unit u v (ap (λ (p : Preprocessed). p.tokens) same) (is.model ∙ sym also.model); names_are = ap (λ (p : Preprocessed). p.names) same }
