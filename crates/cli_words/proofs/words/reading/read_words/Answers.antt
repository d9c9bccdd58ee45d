use Rattle.std.proofs.Common.{◌∙◌, sym, ap, map, string_bytes}
use Rattle.std.proofs.lemmas.Result.{IfOk-weaker}
use Rattle.clap.specs.Simple.{app_of}
use Rattle.clap.specs.Matches.{found_of}
use Rattle.clap.specs.Walk.{rows_of}
use Rattle.clap.proofs.WalkLemmas.{IfOk-both}
use Rattle.cli_words.specs.Words.Requests.{asked_by, asked_by_kind, is_memory_kind}
use Rattle.cli_words.proofs.words.Taking.{asked_when_taken, asked_when_not}
use Rattle.cli_words.proofs.words.reading.read_words.Goals as goal

pub returns-in_ok-request_of-in-Ok : goal.returns-in_ok-request_of-in-Ok
returns-in_ok-request_of-in-Ok c = asked_when_taken (app_of c.in_ok-line.line) (map string_bytes c.args.words.now) (rows_of (found_of c.in-Ok.matches)) _ c.in_ok-line.ensures c.in-Ok.ensures.kinds c.in-Ok.ensures.matches c.in_ok-request_of-in-Ok.ensures

pub returns-in-Err : goal.returns-in-Err
returns-in-Err c =
    IfOk-weaker c.request_of_kind.result _ _
    (λ r h. asked_when_not (app_of c.in_ok-line.line) (map string_bytes c.args.words.now) c.in-Err.error (asked_by r) c.in_ok-line.ensures c.in-Err.ensures.kinds (ap is_memory_kind (sym c.kind.ensures) ∙ h.1) (h.0 ∙ ap asked_by_kind c.kind.ensures))
    (IfOk-both c.request_of_kind.result _ _ c.request_of_kind.ensures.asked c.request_of_kind.ensures.memory)
