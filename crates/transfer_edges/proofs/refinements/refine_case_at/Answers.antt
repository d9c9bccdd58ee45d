use Rattle.std.proofs.Common.{◌∙◌, ap, sym}
use Rattle.std.specs.Int.{w128}
use Rattle.std.proofs.lemmas.Int.{to_z-of_z}
use Rattle.transfer_edges.specs.Refinements.{refine_value, refine_case_at}
use Rattle.transfer_edges.proofs.refinements.refine_case_at.Goals as goal

pub returns-in-Some-clause-reached : goal.returns-in-Some-clause-reached
returns-in-Some-clause-reached g c = λ h.
    ap (λ o. refine_case_at g.I.Lattice.lattice g.I.IntDomain.numbers o c.args.number c.args.row.now) c.in-Some.is
    ∙ ap (λ v. refine_value g.I.Lattice.lattice g.I.IntDomain.numbers c.in-Some.at v c.args.number c.args.row.now) (sym c.value_at.ensures.value)
    ∙ ap (λ z. refine_value g.I.Lattice.lattice g.I.IntDomain.numbers c.in-Some.at c.value_at.result z c.args.row.now) (sym (to_z-of_z w128 _ c.ranges.number))
    ∙ c.refine_value.ensures.reached h

pub returns-in-Some-clause-unreached : goal.returns-in-Some-clause-unreached
returns-in-Some-clause-unreached g c = λ h.
    ap (λ o. refine_case_at g.I.Lattice.lattice g.I.IntDomain.numbers o c.args.number c.args.row.now) c.in-Some.is
    ∙ ap (λ v. refine_value g.I.Lattice.lattice g.I.IntDomain.numbers c.in-Some.at v c.args.number c.args.row.now) (sym c.value_at.ensures.value)
    ∙ ap (λ z. refine_value g.I.Lattice.lattice g.I.IntDomain.numbers c.in-Some.at c.value_at.result z c.args.row.now) (sym (to_z-of_z w128 _ c.ranges.number))
    ∙ c.refine_value.ensures.unreached h
