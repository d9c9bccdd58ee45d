use Rattle.std.proofs.lemmas.Result.{err_from_is_err_and}
use Rattle.std.proofs.Common.{None, sym, ◌∙◌}
use Rattle.c_layout.specs.DeclarationTrees.{parameter_view}
use Rattle.c_parser_declarations.proofs.grammar.Layers.{mapped_length}
use Rattle.c_parser_declarations.proofs.grammar.Reading.{parameter_list_is, len_is}
use Rattle.c_parser_declarations.proofs.readers.parameters.parameter_list.Goals as goal

pub returns-in_err-height-clause-read : goal.returns-in_err-height-clause-read
returns-in_err-height-clause-read c =
    let p = err_from_is_err_and c.from_residual-in_err-height.result c.from_residual-in_err-height.ensures.1 in
    rw (p.1, p.2) (λ s. parameter_list_is c.args.scope.typedefs.now c.args.budget c.args.reader.now _ _ _ _ _ None c.in_ok-found.ensures.read c.in_ok-expect.ensures.sign (sym (mapped_length parameter_view c.in_ok-found.found.tree.items) ∙ (sym (len_is c.in_ok-found.found.tree) ∙ sym c.len.ensures)) (c.in_err-height.ensures.read s))

pub returns-clause-read : goal.returns-clause-read
returns-clause-read c =
    parameter_list_is c.args.scope.typedefs.now c.args.budget c.args.reader.now _ _ _ _ _ _ c.in_ok-found.ensures.read c.in_ok-expect.ensures.sign (sym (mapped_length parameter_view c.in_ok-found.found.tree.items) ∙ (sym (len_is c.in_ok-found.found.tree) ∙ sym c.len.ensures)) c.in_ok-height.ensures.read
