use Rattle.std.proofs.Common.{◌-◌, ◌^◌, ◌∷◌, map, reverse, ap, ◌∙◌}
use Rattle.c_layout.specs.CheckedUnits.{unit_view}
use Rattle.lower_tables.specs.Counts.Preparations.{templates_view}
use Rattle.lower.specs.Inlining.Inlinings.{copy_view, made, placed, inlining}
use Rattle.lower_tables.proofs.bases.Stacks.{top_view}
use Rattle.lower.proofs.inlining.InliningTurns.{run_at, run_from}
use Rattle.lower.proofs.inlining.inlined_program.Inlining.run_entry.Goals as goal

pub returns-in_ok-run_all-in-Some : goal.returns-in_ok-run_all-in-Some
returns-in_ok-run_all-in-Some c =
    let u = unit_view c.args.unit.now in
    let ts = templates_view c.args.templates.now in
    let rest = reverse (map copy_view c.pop.new.self.items) in
    let p = placed (made c.name_parameters.new.making) (copy_view c.name_parameters.new.copy) in
    let is_stack = ap (λ xs. reverse (map copy_view xs)) c.in-Some.ensures.items ∙ top_view copy_view c.pop.new.self.items c.in-Some.copy in
    let pushed = ap (λ xs. reverse (map copy_view xs)) c.in_ok-push-in-Some.ensures.items ∙ top_view copy_view c.pop.new.self.items c.name_parameters.new.copy in
    let inlined = run_from u ts (inlining c.args.self.now) (copy_view c.in-Some.copy) rest p _ is_stack c.in_ok-name_parameters-in-Some.ensures
    (c.in_ok-run_all-in-Some.ensures.run ∙ run_at u ts (2 ^ 64 - 1) (reverse (map copy_view c.push.new.self.items)) (p.within ∷ rest) p.program pushed) in
    record { inlined = inlined; ends = c.in_ok-run_all-in-Some.ensures.ends }
