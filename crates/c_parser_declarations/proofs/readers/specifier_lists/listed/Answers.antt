use Rattle.std.proofs.Common.{None, Some, map, ◌∙◌, ap, sym}
use Rattle.std.proofs.lemmas.Result.{err_from_is_err_and}
use Rattle.c_layout.specs.DeclarationTrees.{spec_tree}
use Rattle.c_parser_expression_grammar.specs.TypeNames.{is_one_type}
use Rattle.c_parser_declarations.proofs.grammar.Layers.{mapped_length}
use Rattle.c_parser_declarations.proofs.grammar.Reading.{judged_is, len_is}
use Rattle.c_parser_declarations.proofs.readers.specifier_lists.listed.Goals as goal

pub returns-in_err-height-clause-read : goal.returns-in_err-height-clause-read
returns-in_err-height-clause-read c =
    let p = err_from_is_err_and c.from_residual.result c.from_residual.ensures.1 in
    rw (p.1, p.2) (λ rest same s. judged_is c.args.budget c.args.parts _ (map spec_tree c.args.words.items) rest None (ap is_one_type (sym same) ∙ sym c.if-not-is_one_type.ensures) (sym (mapped_length spec_tree c.args.words.items) ∙ (sym (len_is c.args.words) ∙ sym c.len.ensures)) (c.in_err-height.ensures.read s))

pub returns-clause-read : goal.returns-clause-read
returns-clause-read c =
    λ rest same. judged_is c.args.budget c.args.parts _ (map spec_tree c.args.words.items) rest (Some c.in_ok-height.height) (ap is_one_type (sym same) ∙ sym c.if-not-is_one_type.ensures) (sym (mapped_length spec_tree c.args.words.items) ∙ (sym (len_is c.args.words) ∙ sym c.len.ensures)) c.in_ok-height.ensures.read
