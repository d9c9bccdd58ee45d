use Rattle.std.proofs.Common.{◌∙◌, sym}
use Rattle.c_layout.specs.DeclarationTrees.{name_view}
use Rattle.c_parser_declarations.proofs.grammar.Layers.{named_behind, mapped_is_some}
use Rattle.c_parser_declarations.proofs.grammar.declarators.named_declarator.Goals as goal

pub returns-clause-found : goal.returns-clause-found
returns-clause-found c =
    named_behind c.in_ok-found.ensures.found (sym (c.if-not-is_some.ensures ∙ mapped_is_some name_view c.in_ok-found.found.tree.name)) c.declarator_of-whole.ensures.tree c.declarator_of-whole.ensures.height
