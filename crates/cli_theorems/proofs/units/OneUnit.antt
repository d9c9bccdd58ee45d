-- Files that are told give one unit.
use Rattle.std.proofs.Common.{◌≡◌, ◌∙◌, List, Option, Some, Result, Ok, ap, refl, sym}
use Rattle.cc_base.specs.Outside.{Files}
use Rattle.c_layout.specs.declared.data_model.Model.{Model}
use Rattle.c_layout.specs.declared.unit_tokens.Unit7.{Unit7}
use Rattle.c_preproc.specs.Units.{Preprocessed, Refused}
use Rattle.cli_texts.specs.Reports.{Bytes}
use Rattle.cli_answers.specs.Verdicts.{FromFiles, IsExpanded}

both : {p q : Preprocessed} {x : Option (Result Preprocessed Refused)} → x ≡ Some (Ok p) → x ≡ Some (Ok q) → p ≡ q
both {p} {q} {x} is also = cc

pub same_unit : (u v : Unit7) → u.tokens ≡ v.tokens → u.model ≡ v.model → u ≡ v
same_unit u v p q = λ i. record { tokens = p i; model = q i }

pub one_unit : (held : Files) (dirs : List Bytes) (m : Model) (main : Bytes) (names others : List Bytes) (u v : Unit7) → IsExpanded (FromFiles (Some held) dirs m main) m names u → IsExpanded (FromFiles (Some held) dirs m main) m others v → u ≡ v
one_unit held dirs m main names others u v is also =
    let same = both (is.gives held refl) (also.gives held refl) in
    same_unit u v (ap (λ (p : Preprocessed). p.tokens) same) (is.model ∙ sym also.model)
