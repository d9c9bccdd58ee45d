use Rattle.std.proofs.Common.{◌≡◌, true, false, bytes_eq, codes, refl, sym, ◌∙◌}
use Rattle.serde_json.specs.View.{view}
use Rattle.sarif.proofs.Turns.{version_turn, runs_turn, other_turn}
use Rattle.sarif.proofs.baseline.read_member.Goals as goal

pub returns-in_ok-report-clause-ok : goal.returns-in_ok-report-clause-ok
returns-in_ok-report-clause-ok c =
    let done = c.in_ok-report.ensures.ok in
    let is : bytes_eq c.args.key.now (codes "version") ≡ true = sym c.eq.ensures ∙ c.if-eq.true in
    (done.0, done.1, λ ms held. version_turn c.args.key.now done.0 ms c.args.report.now (record { is_of_version = c.in_ok-report.field-0; known = c.args.report.now.known }) is done.2 refl held)

pub returns-in_ok-report-2-clause-ok : goal.returns-in_ok-report-2-clause-ok
returns-in_ok-report-2-clause-ok c =
    let done = c.in_ok-report-2.ensures.ok in
    let is : bytes_eq c.args.key.now (codes "runs") ≡ true = sym c.eq-else-eq.ensures ∙ c.if-eq-2.true in
    (done.0, done.1, λ ms held. runs_turn c.args.key.now done.0 ms c.args.report.now (record { is_of_version = c.args.report.now.is_of_version; known = c.in_ok-report-2.field-0 }) is refl done.2 held)

pub returns-in_ok-read_value-clause-ok : goal.returns-in_ok-read_value-clause-ok
returns-in_ok-read_value-clause-ok c =
    let version : bytes_eq c.args.key.now (codes "version") ≡ false = sym c.eq.ensures ∙ c.if-eq.false in
    let runs : bytes_eq c.args.key.now (codes "runs") ≡ false = sym c.eq-else-eq.ensures ∙ c.if-eq-2.false in
    let d = view c.in_ok-read_value.field-0 in
    (d, c.in_ok-read_value.ensures.ok, λ ms held. other_turn c.args.key.now d ms c.args.report.now version runs held)
