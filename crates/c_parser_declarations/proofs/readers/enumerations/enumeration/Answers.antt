use Rattle.std.specs.Option.{option_map}
use Rattle.std.proofs.Common.{◌∙◌, sym}
use Rattle.c_layout.specs.DeclarationTrees.{name_view}
use Rattle.c_parser_declarations.proofs.grammar.Layers.{mapped_is_some}
use Rattle.c_parser_declarations.proofs.readers.Words.{enum_body, enum_tag}
use Rattle.c_parser_declarations.proofs.readers.enumerations.enumeration.Goals as goal

pub returns-then-accept-clause-found : goal.returns-then-accept-clause-found
returns-then-accept-clause-found c =
    enum_body (option_map name_view c.in_ok-tag.tag) c.in_ok-place.ensures.place c.in_ok-place.ensures.word c.in_ok-tag.ensures.found c.if-accept.ensures.yes c.in_ok-body.ensures.found
    c.enum_body-tree.ensures c.in_ok-height.ensures.height.0 c.in_ok-height.ensures.height.1

pub returns-clause-found : goal.returns-clause-found
returns-clause-found c =
    enum_tag (option_map name_view c.in_ok-tag.tag) c.in_ok-place.ensures.place c.in_ok-place.ensures.word c.in_ok-tag.ensures.found (sym (c.if-not-is_some.ensures ∙ mapped_is_some name_view c.in_ok-tag.tag))
    c.if-accept.ensures.no c.enum_tag-tree.ensures c.in_ok-height-2.ensures.height.0 c.in_ok-height-2.ensures.height.1
