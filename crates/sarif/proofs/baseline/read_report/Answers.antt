use Rattle.std.proofs.Common.{Option, subst, ◌≡◌, ◌∷◌, [], Some, None, sym, ap, ◌∙◌, arith}
use Rattle.std.specs.Prelude.{⊤}
use Rattle.std.proofs.lemmas.Result.{IfOk-weaker}
use Rattle.json.specs.Json.{parse_map, value}
use Rattle.json.specs.Reads.{token_of}
use Rattle.serde_json.specs.Data.{object}
use Rattle.serde_json.specs.Read.{of_json, converted}
use Rattle.sarif.proofs.Streaming.{no_token, no_object, no_report, object_opened, object_too_deep}
use Rattle.sarif.proofs.Turns.{all_known}
use Rattle.sarif.proofs.baseline.read_report.Goals as goal

abbrev told : {A : Type 0} → Option A → Type 0
told None = ⊥
told (Some a) = ⊤

untold : {A P : Type 0} (o : Option A) (a : A) → o ≡ None → o ≡ Some a → P
untold o a none some = absurd (subst told (sym some ∙ none) tt)

pub returns-in_err-token-clause-shape : goal.returns-in_err-token-clause-shape
returns-in_err-token-clause-shape c refused d rest read =
    let empty : c.args.reader.now ≡ [] = grind arith in
    untold _ _ (ap (λ ts. converted of_json (value c.args.depth ts)) empty ∙ no_token c.args.depth) read

pub returns-else-depth-eq0-clause-ok : goal.returns-else-depth-eq0-clause-ok
returns-else-depth-eq0-clause-ok c =
    let first : c.args.reader.now ≡ token_of c.in_ok-token.token ∷ c.next.new.self = grind arith in
    let at = ap (λ ts. converted of_json (value c.args.depth ts)) first in
    let opened = object_opened c.args.depth (token_of c.in_ok-token.token) c.next.new.self (sym c.if-not-begins_object.ensures) (omega arith) in
    IfOk-weaker c.read_members.result _ _ (λ report found. (object found.0, at ∙ opened ∙ ap (parse_map object) found.1, all_known report found.0 found.2)) c.read_members.ensures.ok

pub returns-else-depth-eq0-clause-shape : goal.returns-else-depth-eq0-clause-shape
returns-else-depth-eq0-clause-shape c refused d rest read =
    let first : c.args.reader.now ≡ token_of c.in_ok-token.token ∷ c.next.new.self = grind arith in
    let at = ap (λ ts. converted of_json (value c.args.depth ts)) first in
    let opened = object_opened c.args.depth (token_of c.in_ok-token.token) c.next.new.self (sym c.if-not-begins_object.ensures) (omega arith) in
    untold _ _ (at ∙ opened ∙ ap (parse_map object) (c.read_members.ensures.shape refused)) read

pub returns-then-depth-eq0-clause-shape : goal.returns-then-depth-eq0-clause-shape
returns-then-depth-eq0-clause-shape c refused d rest read =
    let first : c.args.reader.now ≡ token_of c.in_ok-token.token ∷ c.next.new.self = grind arith in
    let at = ap (λ ts. converted of_json (value c.args.depth ts)) first in
    untold _ _ (at ∙ object_too_deep c.args.depth (token_of c.in_ok-token.token) c.next.new.self (sym c.if-not-begins_object.ensures) (omega arith)) read

pub returns-then-not-begins_object-clause-shape : goal.returns-then-not-begins_object-clause-shape
returns-then-not-begins_object-clause-shape c refused d rest read =
    let first : c.args.reader.now ≡ token_of c.in_ok-token.token ∷ c.next.new.self = grind arith in
    let at = ap (λ ts. converted of_json (value c.args.depth ts)) first in
    no_report d (no_object c.args.depth (token_of c.in_ok-token.token) c.next.new.self rest d (sym c.if-not-begins_object.ensures) (sym at ∙ read))
