-- What is told of a unit holds what replays of it find.
use Rattle.std.proofs.Common.{ℕ, ℤ, List, map, sym, subst}
use Rattle.std.specs.List.{Contains}
use Rattle.std.proofs.lemmas.List.Elements.{All-map, All-contains, All-contains_itself}
use Rattle.cc_base.specs.declared.diagnostics.Diag.{Diag}
use Rattle.c_layout.specs.CheckedUnits.{UnitView, unit_view}
use Rattle.memory_model.specs.Effects.Worlds.{Violation}
use Rattle.semantics.specs.SourceMachine.SourceRuns.{found_in}
use Rattle.interp.specs.Runs.OutcomeViews.{OutcomeView}
use Rattle.interp.specs.Runs.Replays.{pair_of, IsOutcome}
use Rattle.cli_units.specs.Judging.{judging, IsTyped}
use Rattle.cli_theorems.specs.Units.Accepted.{OneCheckedUnit}
use Rattle.cli.specs.Command.FoundRuns.{HoldsRunsOf, JudgedRunsAreFound}
use Rattle.cli.specs.Command.ReplayedRuns.{ReplaysAreTold}

abbrev violation_of : Diag → Violation
violation_of d = record { at = d.place; rule = d.rule }

-- what is among the pairs of violations is one of them
violated : (vs : List Violation) (d : Diag) → Contains (map pair_of vs) d → Contains vs (violation_of d)
violated vs d there = All-contains (λ e. Contains vs (violation_of e)) (map pair_of vs) d (All-map (λ e. Contains vs (violation_of e)) pair_of vs (All-contains_itself vs)) there

pub outcome_held : (u : UnitView) (draws : List ℤ) (steps : ℕ) (outcome : OutcomeView) (pairs : List Diag) → HoldsRunsOf u pairs → IsOutcome u draws steps outcome → (d : Diag) → Contains outcome.diags d → Contains pairs d
outcome_held u draws steps outcome pairs holds o d there =
    let r = o.replayed.reached in
    holds (violation_of d)
    (record {
      draws = draws;
      turns = r.turns;
      there = subst (λ x. Contains (found_in x) (violation_of d)) (sym r.is) (violated (found_in o.run) d (o.diags.made d there));
    })

pub replays_told : OneCheckedUnit → JudgedRunsAreFound → ReplaysAreTold
replays_told one judged unit m entry turns other j draws steps outcome is replayed d there =
    let again : IsTyped (judging m entry turns) replayed.tree replayed.checked = record { checks = replayed.typed.checks; model = replayed.typed.model } in
    let same = one unit (judging m entry turns) is.tree replayed.tree is.checked replayed.checked is.parsed replayed.parsed is.typed again in
    outcome_held (unit_view replayed.checked) draws steps outcome j.pairs (subst (λ u. HoldsRunsOf u j.pairs) same (judged unit (judging m entry turns) j is)) replayed.run d there
