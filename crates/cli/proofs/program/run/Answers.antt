use Rattle.cli.proofs.command.Clauses.{runs_told, fresh_told, verified_told, replay_told}
use Rattle.cli.proofs.command.CompleteAnswers.{complete}
use Rattle.cli.proofs.program.run.Goals as goal

pub returns-clause-runs : goal.returns-clause-runs
returns-clause-runs g c = runs_told _ _ _ _ c.answer_words.ensures.answer c.answers_hold_runs.ensures

pub returns-clause-gates : goal.returns-clause-gates
returns-clause-gates g c = fresh_told _ _ _ _ c.answer_words.ensures.answer c.gates_hold_runs.ensures

pub returns-clause-verifies : goal.returns-clause-verifies
returns-clause-verifies g c = verified_told _ _ _ _ c.answer_words.ensures.answer c.verified_hold_runs.ensures

pub returns-clause-replays : goal.returns-clause-replays
returns-clause-replays g c = replay_told _ _ _ _ c.answer_words.ensures.answer c.replays_stand_in_reports.ensures

pub returns-clause-complete : goal.returns-clause-complete
returns-clause-complete g c = complete c.accepted_units_are_answered.ensures.reported c.accepted_units_are_answered.ensures.summed _ _ _ _ c.answer_words.ensures.answer

pub returns-clause-least : goal.returns-clause-least
returns-clause-least g c = record { analyses = c.analyses_are_exact.ensures; certificates = c.proved_certificates_are_least.ensures }
