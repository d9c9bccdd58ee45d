use Rattle.std.proofs.Common.{◌≡◌, ◌∷◌, ◌++◌, [], Some, option_map, sym, ap, ◌∙◌, arith}
use Rattle.json.specs.Json.{parse_map, value}
use Rattle.json.specs.Reads.{token_of}
use Rattle.serde_json.specs.Data.{array}
use Rattle.serde_json.specs.Read.{of_json, converted}
use Rattle.serde_json.specs.View.{view}
use Rattle.sarif.specs.Baselines.{runs_known}
use Rattle.sarif.proofs.Streaming.{no_token, no_list, list_opened, list_too_deep}
use Rattle.sarif.proofs.streamed_results.read_run_list.Goals as goal

pub returns-in_err-token-clause-shape : goal.returns-in_err-token-clause-shape
returns-in_err-token-clause-shape c refused =
    let empty : c.args.reader.now ≡ [] = grind arith in
    ap (λ ts. converted of_json (value c.args.depth ts)) empty ∙ no_token c.args.depth

pub returns-then-not-begins_list-clause-ok : goal.returns-then-not-begins_list-clause-ok
returns-then-not-begins_list-clause-ok c =
    let first : c.args.reader.now ≡ token_of c.in_ok-token.token ∷ c.next.new.self = grind arith in
    let at = ap (λ ts. converted of_json (value c.args.depth ts)) first in
    let d = view c.in_ok-value_behind.field-0 in
    let read = c.in_ok-value_behind.ensures.ok in
    let none = no_list c.args.depth (token_of c.in_ok-token.token) c.next.new.self c.value_behind.new.reader d (sym c.if-not-begins_list.ensures) read in
    (d, at ∙ read, sym (ap (option_map runs_known) none))

pub returns-then-depth-eq0-clause-shape : goal.returns-then-depth-eq0-clause-shape
returns-then-depth-eq0-clause-shape c refused =
    let first : c.args.reader.now ≡ token_of c.in_ok-token.token ∷ c.next.new.self = grind arith in
    let at = ap (λ ts. converted of_json (value c.args.depth ts)) first in
    at ∙ list_too_deep c.args.depth (token_of c.in_ok-token.token) c.next.new.self (sym c.if-not-begins_list.ensures) (omega arith)

pub returns-in_err-push_runs-clause-shape : goal.returns-in_err-push_runs-clause-shape
returns-in_err-push_runs-clause-shape c refused =
    let first : c.args.reader.now ≡ token_of c.in_ok-token.token ∷ c.next.new.self = grind arith in
    let at = ap (λ ts. converted of_json (value c.args.depth ts)) first in
    let opened = list_opened c.args.depth (token_of c.in_ok-token.token) c.next.new.self (sym c.if-not-begins_list.ensures) (omega arith) in
    at ∙ opened ∙ ap (parse_map array) (c.push_runs.ensures.shape (grind arith))

pub returns-clause-ok : goal.returns-clause-ok
returns-clause-ok c =
    let first : c.args.reader.now ≡ token_of c.in_ok-token.token ∷ c.next.new.self = grind arith in
    let at = ap (λ ts. converted of_json (value c.args.depth ts)) first in
    let opened = list_opened c.args.depth (token_of c.in_ok-token.token) c.next.new.self (sym c.if-not-begins_list.ensures) (omega arith) in
    let found = c.in_ok-push_runs.ensures.ok in
    (array found.0, at ∙ opened ∙ ap (parse_map array) found.1, ap Some (found.2 ∙ ap (λ l. l ++ runs_known found.0) c.new-known.ensures.items))
