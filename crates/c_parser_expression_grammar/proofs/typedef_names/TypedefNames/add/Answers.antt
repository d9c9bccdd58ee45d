use Rattle.std.proofs.Common.{◌∙◌, ap, map, vec_items}
use Rattle.c_parser_expression_grammar.specs.Fronts.{with_text}
use Rattle.c_parser_expression_grammar.proofs.NameTexts.{name_added}
use Rattle.c_parser_expression_grammar.proofs.typedef_names.TypedefNames.add.Goals as goal

pub returns : goal.returns
returns c =
    ap (map vec_items) c.in_ok-insert_full.ensures.keys
    ∙ name_added c.in_ok-name.name c.args.text.now c.self.inside.texts.keys c.in_ok-name.ensures.items
    ∙ ap (λ names. with_text names c.args.text.now) c.self.view_is
