use Rattle.std.proofs.Common.{Ok, Err, ap, map, string_bytes}
use Rattle.std.proofs.lemmas.Result.{IfOk-weaker}
use Rattle.cli_words.specs.Words.Requests.{command_view}
use Rattle.cli_answers.proofs.Called.{names_expanded, made_from}
use Rattle.cli_answers.proofs.Certified.{certified_told, stop_certified_under}
use Rattle.cli_answers.specs.Verdicts.{FromFiles}
use Rattle.cli_answers.proofs.certificate_decision.verify_under.Goals as goal

pub returns-in-Ok-clause-called : goal.returns-in-Ok-clause-called
returns-in-Ok-clause-called g c =
    let command = command_view c.args.asked.now.command in
    let expanded =
    names_expanded (FromFiles (g.T.Tree.files c.args.tree.now) command.dirs c.args.model.now command.unit) string_bytes c.expand.new.files.items c.as_slice.result.now c.args.model.now c.in-Ok.expanded c.in-Ok.ensures.model c.as_slice.ensures.value
    (made_from (g.T.Tree.files c.args.tree.now) command.dirs (map string_bytes c.as_slice-dirs.result.now) c.args.model.now command.unit c.as_str-unit.result.now _ (Ok c.in-Ok.expanded) (ap (map string_bytes) c.as_slice-dirs.ensures.value) c.as_str-unit.ensures.value c.in-Ok.ensures.told)
    c.expand.ensures.distinct c.in-Ok.ensures.few in
    IfOk-weaker c.checked_by_file.result _ _
    (λ a h. certified_told (g.T.Tree.files c.args.tree.now) (g.T.Tree.files c.expand.new.tree) (g.T.Tree.faults c.args.tree.now) (g.T.Tree.faults c.expand.new.tree) (g.T.Tree.faults c.checked_by_file.new.tree) (g.T.Tree.taken c.args.tree.now) (g.T.Tree.taken c.expand.new.tree) (g.T.Tree.taken c.checked_by_file.new.tree)
    command (string_bytes c.args.asked.now.cert) c.args.model.now c.in-Ok.expanded (map string_bytes c.as_slice.result.now) a.status a.text.items
    c.expand.ensures.went.same c.expand.ensures.went.faults_rise c.expand.ensures.went.taken_rises expanded h)
    c.checked_by_file.ensures.called

pub returns-clause-called : goal.returns-clause-called
returns-clause-called g c =
    let command = command_view c.args.asked.now.command in
    IfOk-weaker c.not_expanded.result _ _
    (λ a h. stop_certified_under _ command (string_bytes c.args.asked.now.cert) c.args.model.now (map string_bytes c.expand.new.files.items) (map string_bytes c.as_slice-in-Err.result.now) c.as_str-unit.result.now (map string_bytes c.as_slice-dirs.result.now) c.in-Err.stop a.status a.text.items
    c.as_str-unit.ensures.value (ap (map string_bytes) c.as_slice-dirs.ensures.value) (ap (map string_bytes) c.as_slice-in-Err.ensures.value) c.in-Err.ensures.cause
    (made_from _ command.dirs (map string_bytes c.as_slice-dirs.result.now) c.args.model.now command.unit c.as_str-unit.result.now _ (Err c.in-Err.stop) (ap (map string_bytes) c.as_slice-dirs.ensures.value) c.as_str-unit.ensures.value c.in-Err.ensures.told) h)
    c.not_expanded.ensures.called
