use Rattle.std.proofs.Common.{◌∙◌, ap}
use Rattle.c_parser_expression_grammar.specs.Fronts.{is_typedef}
use Rattle.c_parser_expression_grammar.proofs.NameTexts.{any_name}
use Rattle.c_parser_expression_grammar.proofs.typedef_names.TypedefNames.has.Goals as goal

pub returns : goal.returns
returns c =
    c.contains.ensures
    ∙ any_name c.args.text.now c.self.inside.texts.keys
    ∙ ap (λ names. is_typedef names c.args.text.now) c.self.view_is
