use Rattle.std.proofs.Common.{◌≡◌, ◌∙◌, map, sym, ap, arith}
use Rattle.std.proofs.lemmas.Int.{to_z-of_z}
use Rattle.c_layout.specs.DeclarationTrees.{enumerator_view}
use Rattle.c_types_scopes.specs.States.{state}
use Rattle.c_types_declarations.specs.Enumerations.{enumerator_values}
use Rattle.c_types_declarations.proofs.Enumerators.{Values, left, one_more, no_more, refused_one}
use Rattle.c_types_declarations.proofs.enumerations.enumerator_values.Goals as goal

pub loop-enumerator-preserved : goal.loop-enumerator-preserved
loop-enumerator-preserved c =
    one_more (state c.loop-enumerator.cx) (state c.add_enumerator.new.cx) c.args.enumerators.now c.loop-enumerator.enumerator-index c.enumerator-item.result c.loop-enumerator.numbering.last c.add_enumerator.new.numbering.last c.loop-enumerator.numbering.values.items c.add_enumerator.new.numbering.values.items _
    c.loop-enumerator-test.true c.loop-enumerator.invariant c.enumerator-item.is c.in_ok-add_enumerator.ensures.value c.in_ok-add_enumerator.ensures.kept

pub returns-in_err-add_enumerator : goal.returns-in_err-add_enumerator
returns-in_err-add_enumerator c =
    let whole : Values = enumerator_values (state c.args.cx.now) (map enumerator_view c.args.enumerators.now) c.args.before in
    let had : whole ≡ left (state c.loop-enumerator.cx) c.args.enumerators.now c.loop-enumerator.enumerator-index c.loop-enumerator.numbering.last c.loop-enumerator.numbering.values.items = ap (enumerator_values (state c.args.cx.now) (map enumerator_view c.args.enumerators.now)) (sym (to_z-of_z _ c.args.before c.ranges.before)) ∙ c.loop-enumerator.invariant in
    refused_one {A = Unit {0}} (λ u. c.add_enumerator.new.numbering.last) (state c.loop-enumerator.cx) (state c.add_enumerator.new.cx) c.args.enumerators.now c.loop-enumerator.enumerator-index c.enumerator-item.result c.loop-enumerator.numbering.last c.loop-enumerator.numbering.values.items whole c.in_err-add_enumerator.field-0.0 c.from_residual.result
    c.loop-enumerator-test.true had c.enumerator-item.is c.in_err-add_enumerator.ensures.value c.from_residual.ensures.1

pub returns : goal.returns
returns c =
    let whole : Values = enumerator_values (state c.args.cx.now) (map enumerator_view c.args.enumerators.now) c.args.before in
    let had : whole ≡ left (state c.loop-enumerator.cx) c.args.enumerators.now c.loop-enumerator.enumerator-index c.loop-enumerator.numbering.last c.loop-enumerator.numbering.values.items = ap (enumerator_values (state c.args.cx.now) (map enumerator_view c.args.enumerators.now)) (sym (to_z-of_z _ c.args.before c.ranges.before)) ∙ c.loop-enumerator.invariant in
    no_more (state c.loop-enumerator.cx) c.args.enumerators.now c.loop-enumerator.enumerator-index c.loop-enumerator.numbering.last c.loop-enumerator.numbering.values.items whole (omega arith) had
