use Rattle.std.proofs.Common.{◌≡◌, ◌∷◌, ◌++◌, [], sym, ap, ◌∙◌, arith, append-nil}
use Rattle.std.proofs.lemmas.Result.{on_ok_weaker}
use Rattle.json.specs.Json.{parse_map, value}
use Rattle.json.specs.Reads.{token_of}
use Rattle.serde_json.specs.Data.{object}
use Rattle.serde_json.specs.Read.{of_json, converted}
use Rattle.serde_json.specs.View.{view}
use Rattle.sarif.specs.Baselines.{results_known}
use Rattle.sarif.proofs.Streaming.{no_token, no_object, no_results, object_opened, object_too_deep}
use Rattle.sarif.proofs.streamed_results.push_run.Goals as goal

pub returns-in_err-token-clause-shape : goal.returns-in_err-token-clause-shape
returns-in_err-token-clause-shape c refused =
    let empty : c.args.reader.now ≡ [] = grind arith in
    ap (λ ts. converted of_json (value c.args.depth ts)) empty ∙ no_token c.args.depth

pub returns-in_ok-value_behind-clause-ok : goal.returns-in_ok-value_behind-clause-ok
returns-in_ok-value_behind-clause-ok c =
    let first : c.args.reader.now ≡ token_of c.in_ok-token.token ∷ c.next.new.self = grind arith in
    let at = ap (λ ts. converted of_json (value c.args.depth ts)) first in
    let d = view c.in_ok-value_behind.field-0 in
    let read = c.in_ok-value_behind.ensures.ok in
    let none = no_results d (no_object c.args.depth (token_of c.in_ok-token.token) c.next.new.self c.value_behind.new.reader d (sym c.if-not-begins_object.ensures) read) in
    (d, at ∙ read, sym (ap (λ ds. c.args.known.now.items ++ results_known ds) none ∙ append-nil c.args.known.now.items))

pub returns-then-depth-eq0-clause-shape : goal.returns-then-depth-eq0-clause-shape
returns-then-depth-eq0-clause-shape c refused =
    let first : c.args.reader.now ≡ token_of c.in_ok-token.token ∷ c.next.new.self = grind arith in
    let at = ap (λ ts. converted of_json (value c.args.depth ts)) first in
    at ∙ object_too_deep c.args.depth (token_of c.in_ok-token.token) c.next.new.self (sym c.if-not-begins_object.ensures) (omega arith)

pub returns-else-depth-eq0-clause-ok : goal.returns-else-depth-eq0-clause-ok
returns-else-depth-eq0-clause-ok c =
    let first : c.args.reader.now ≡ token_of c.in_ok-token.token ∷ c.next.new.self = grind arith in
    let at = ap (λ ts. converted of_json (value c.args.depth ts)) first in
    let opened = object_opened c.args.depth (token_of c.in_ok-token.token) c.next.new.self (sym c.if-not-begins_object.ensures) (omega arith) in
    on_ok_weaker c.push_run_members.result (λ found. (object found.0, at ∙ opened ∙ ap (parse_map object) found.1, found.2)) c.push_run_members.ensures.ok

pub returns-else-depth-eq0-clause-shape : goal.returns-else-depth-eq0-clause-shape
returns-else-depth-eq0-clause-shape c refused =
    let first : c.args.reader.now ≡ token_of c.in_ok-token.token ∷ c.next.new.self = grind arith in
    let at = ap (λ ts. converted of_json (value c.args.depth ts)) first in
    let opened = object_opened c.args.depth (token_of c.in_ok-token.token) c.next.new.self (sym c.if-not-begins_object.ensures) (omega arith) in
    at ∙ opened ∙ ap (parse_map object) (c.push_run_members.ensures.shape refused)
