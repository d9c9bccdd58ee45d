-- What is held and named gives one unit and one model.
use Rattle.std.proofs.Common.{◌≡◌, inl, inr, refl, ap, subst, arith, ℕ, List, [], ◌∷◌, length, Option, Some, Ok, codes}
use Rattle.cc_base.specs.Outside.{Files}
use Rattle.cc_base.specs.declared.lexemes.Token.{Token}
use Rattle.c_layout.specs.Models.{model_named, lp64, ilp32}
use Rattle.c_layout.specs.declared.data_model.Model.{Model}
use Rattle.c_layout.specs.declared.unit_tokens.Unit7.{Unit7}
use Rattle.c_preproc.specs.Units.{Preprocessed, preprocessed, unit_from}
use Rattle.cli_texts.specs.Reports.{Bytes}
use Rattle.cli_answers.specs.Verdicts.{HasModel, FromFiles, IsExpanded}
use Rattle.cli_examples.specs.Units.WorkedTexts.{held, name, tokens_with, expanded, expanded_with}
use Rattle.cli_examples.specs.Units.WorkedUnits.{IsExpandedTo}
use Rattle.cli_examples.proofs.outcomes.FileChoices.{some_inj, some_same, none_some, ok_inj}
use Rattle.cli_examples.specs.Outcomes.WorkedAnswers.{IsNamedModel, IsExpandedFromHeld, given}

-- ---- the model

named : model_named (codes "lp64") ≡ Some lp64
named = refl

no_other_model : (files : Option Files) (m : Model) → HasModel files (codes "lp64") m → m ≡ lp64
no_other_model files m (inl is) = some_same is named
no_other_model files m (inr reads) = absurd (none_some reads.unnamed named)

pub named_model : IsNamedModel
named_model = record {
  there = λ files. inl named;
  no_other = no_other_model;
  wrong_model = λ files h. let same : 4 ≡ 8 = ap (λ (m : Model). m.pointer) (no_other_model files ilp32 h) in omega (arith, same);
}

-- ---- the unit

text_of : List Token → Bytes
text_of (a ∷ (b ∷ (c ∷ (d ∷ (e ∷ (f ∷ (g ∷ (h ∷ (i ∷ (j ∷ rest)))))))))) = j.text
text_of _ = []

first_code : Bytes → ℕ
first_code [] = 0
first_code (c ∷ cs) = c

other_tokens : tokens_with (codes "1") ≡ tokens_with (codes "0") → ⊥
unfolding text_of first_code
other_tokens e = let same : 49 ≡ 48 = ap (λ (ts : List Token). first_code (text_of ts)) e in omega (arith, same)

same_files : (files : Files) → Some held ≡ Some files → held ≡ files
same_files files e = some_inj e

module _ (is : IsExpandedTo) where
  there : IsExpanded given lp64 (name ∷ []) expanded
  there = record {
    model = refl;
    gives = λ files told. subst (λ (fs : Files). unit_from fs [] lp64 name ≡ Some (Ok (preprocessed (tokens_with (codes "0")) (name ∷ [])))) (same_files files told) is.tokens;
    distinct = refl;
    few = omega arith;
  }

  same_result : (names : List Bytes) (u : Unit7) → IsExpanded given lp64 names u → preprocessed u.tokens names ≡ preprocessed (tokens_with (codes "0")) (name ∷ [])
  same_result names u h = ok_inj (some_same (h.gives held refl) is.tokens)

  same_unit : (u : Unit7) → u.tokens ≡ tokens_with (codes "0") → u.model ≡ lp64 → u ≡ expanded
  same_unit u p q = λ i. record { tokens = p i; model = q i }

  no_other : (names : List Bytes) (u : Unit7) → IsExpanded given lp64 names u → (u ≡ expanded) × (names ≡ name ∷ [])
  no_other names u h = (same_unit u (ap (λ (p : Preprocessed). p.tokens) (same_result names u h)) h.model, ap (λ (p : Preprocessed). p.names) (same_result names u h))

  nothing_held : (names : List Bytes) (u : Unit7) → IsExpanded (FromFiles (Some held) [] lp64 (codes "b.c")) lp64 names u → ⊥
  nothing_held names u h = none_some is.not_held (h.gives held refl)

  pub expanded_from_held : IsExpandedFromHeld
  expanded_from_held = record {
    there = there;
    no_other = no_other;
    other_text = λ names h. other_tokens (ap (λ (p : Preprocessed). p.tokens) (same_result names (expanded_with (codes "1")) h));
    other_model = λ names h. let same : 4 ≡ 8 = ap (λ (m : Model). m.pointer) h.model in omega (arith, same);
    no_names = λ u h. let same : 0 ≡ 1 = ap (λ (ns : List Bytes). length ns) (no_other [] u h).1 in omega (arith, same);
    not_held = nothing_held;
  }
