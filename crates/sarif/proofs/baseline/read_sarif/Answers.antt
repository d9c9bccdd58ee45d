use Rattle.std.proofs.Common.{◌≡◌, ℕ, List, IsUtf8, option_and_then, refl, sym, ap, ◌∙◌}
use Rattle.std.proofs.lemmas.Result.{IfOk-weaker}
use Rattle.std.proofs.lemmas.Str.{is_utf8-from_IsUtf8}
use Rattle.serde_json.specs.Read.{read}
use Rattle.sarif.specs.Baselines.{value_of, baseline_of, baseline_read}
use Rattle.sarif.proofs.Values.{value_none}
use Rattle.sarif.proofs.baseline.read_sarif.Goals as goal

value_in_text : (bytes : List ℕ) → IsUtf8 bytes → value_of bytes ≡ read bytes
value_in_text bytes valid = rw (is_utf8-from_IsUtf8 bytes valid) refl

in_text : (bytes text : List ℕ) → text ≡ bytes → IsUtf8 bytes → baseline_read bytes ≡ option_and_then baseline_of (read text)
in_text bytes text same valid = ap (option_and_then baseline_of) (value_in_text bytes valid ∙ ap read (sym same))

pub returns-in-Ok-clause-ok : goal.returns-in-Ok-clause-ok
returns-in-Ok-clause-ok c =
    let text = in_text c.args.bytes.now c.in-Ok.text.now c.in-Ok.ensures.cases.0 c.in-Ok.ensures.cases.1 in
    IfOk-weaker c.read_text.result _ _ (λ v known. text ∙ known) c.read_text.ensures.ok

pub returns-in-Err-clause-shape : goal.returns-in-Err-clause-shape
returns-in-Err-clause-shape c refused = ap (option_and_then baseline_of) (value_none c.args.bytes.now (λ valid. absurd (c.in-Err.ensures.cases.0 valid)))
