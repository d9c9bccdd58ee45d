use Rattle.std.proofs.Common.{◌≡◌, false, cond, [], ◌∷◌, ◌++◌, ap, sym, ◌∙◌}
use Rattle.c_layout.specs.Types.{same_kind}
use Rattle.cfg.specs.declared.machine_instructions.Scalar.TheVariants as of
use Rattle.semantics.specs.SourceMachine.Items as machine
use Rattle.semantics.specs.SourceMachine.Operations as op
use Rattle.semantics.specs.SourceMachine.TermItems.{converted}
use Rattle.interp_stack.specs.StackViews.{with_item, standing}
use Rattle.interp_stack.proofs.Sequels.{items_go_on}
use Rattle.interp_terms.proofs.operated_items.push_converted.Goals as goal

pub returns-else-is_kind : goal.returns-else-is_kind
returns-else-is_kind c = λ u.
    let s = standing u c.args.control.now.items in
    let step = machine.Do c.args.at (op.Convert (of.Int c.args.new)) in
    let differs : false ≡ same_kind c.args.old c.args.new = sym c.if-is_kind.false ∙ c.is_kind.ensures in
    items_go_on c.push_do.result (standing u c.push_do.new.control.items) (with_item step s) (converted c.args.at c.args.old c.args.new ++ s.items) (ap (λ same. cond same [] (step ∷ []) ++ s.items) differs) (c.push_do.ensures u)
