use Rattle.std.proofs.Common.{ap, sym, ◌∙◌}
use Rattle.c_layout.specs.CheckedUnits.{unit_view}
use Rattle.semantics.specs.SourceMachine.Operations.{size_of}
use Rattle.interp_stack.proofs.Trees.{type_of_lvalue}
use Rattle.interp_terms.proofs.operated_items.lvalue_bytes.Goals as goal

pub returns : goal.returns
returns c = c.in_ok-size.ensures ∙ ap (size_of (unit_view c.args.unit.now)) (sym (type_of_lvalue c.args.lvalue.now))
