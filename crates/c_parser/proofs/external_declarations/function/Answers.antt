use Rattle.c_parser.proofs.Joining.{definition_read}
use Rattle.c_parser_declarations.proofs.grammar.Reading.{raised_is}
use Rattle.std.proofs.Common.{map, ◌∙◌}
use Rattle.c_layout.specs.DeclarationTrees.{spec_tree, function_declarator_view}
use Rattle.c_parser.proofs.external_declarations.function.Goals as goal

pub returns-clause-read : goal.returns-clause-read
returns-clause-read c =
    definition_read c.args.typedefs.now _ c.args.head.place (map spec_tree c.args.head.words.items) c.args.head.height (function_declarator_view c.args.name.tree) c.args.name.height c.args.reader.now _ c.in_ok-inner.ensures.inner c.in_ok-body.ensures.read ∙ raised_is _ _ _ _ _ (rw (c.max-all.ensures, c.max-begun.ensures) at c.in_ok-height.ensures.height.0) c.in_ok-height.ensures.height.1
