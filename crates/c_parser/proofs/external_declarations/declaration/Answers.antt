use Rattle.std.proofs.Common.{[], map, None, ◌∙◌}
use Rattle.c_layout.specs.DeclarationTrees.{spec_tree, init_declarator_view}
use Rattle.c_parser_declarations.proofs.grammar.Listing.{map_snoc}
use Rattle.c_parser.proofs.Declaring.{declared}
use Rattle.std.proofs.lemmas.Result.{err_from_is_err_and}
use Rattle.c_parser.proofs.Joining.{declaration_read}
use Rattle.c_parser_declarations.proofs.grammar.Reading.{raised_is, raised_none}
use Rattle.c_parser_declarations.specs.Grammar.Answers.{as_item}
use Rattle.c_parser.proofs.external_declarations.declaration.Goals as goal

pub returns-clause-found : goal.returns-clause-found
returns-clause-found c =
    declared (map spec_tree c.args.head.words.items) c.in_ok-first.ensures.found
    (map_snoc init_declarator_view [] c.push.new.self.items c.in_ok-first.first.tree (rw c.new-found.ensures.items at c.in_ok-push.ensures.items))
    (rw (c.is_typedef-gives.ensures, c.as_slice.ensures.value) at c.in_ok-further.ensures.found)
    (rw (c.max-all.ensures, c.max-begun.ensures) at c.in_ok-height.ensures.height.0) c.in_ok-height.ensures.height.1

pub returns-in_err-further-clause-read : goal.returns-in_err-further-clause-read
returns-in_err-further-clause-read c =
    let p = err_from_is_err_and c.from_residual-in_err-further.result c.from_residual-in_err-further.ensures.1 in
    rw (p.1, p.2) (λ s. declaration_read _ c.args.typedefs.now c.args.head.place (map spec_tree c.args.head.words.items) c.args.head.height (as_item init_declarator_view c.args.reader.now c.args.name) _ None c.in_ok-parts.ensures.inner c.in_ok-first.ensures.read (rw (c.is_typedef-gives.ensures, c.as_slice.ensures.value, map_snoc init_declarator_view [] c.push.new.self.items c.in_ok-first.first.tree (rw c.new-found.ensures.items at c.in_ok-push.ensures.items)) at (c.in_err-further.ensures.read s)))

pub returns-in_err-height-clause-read : goal.returns-in_err-height-clause-read
returns-in_err-height-clause-read c =
    let p = err_from_is_err_and c.from_residual-in_err-height.result c.from_residual-in_err-height.ensures.1 in
    rw (p.1, p.2) (λ s. declaration_read _ c.args.typedefs.now c.args.head.place (map spec_tree c.args.head.words.items) c.args.head.height (as_item init_declarator_view c.args.reader.now c.args.name) _ _ c.in_ok-parts.ensures.inner c.in_ok-first.ensures.read (rw (c.is_typedef-gives.ensures, c.as_slice.ensures.value, map_snoc init_declarator_view [] c.push.new.self.items c.in_ok-first.first.tree (rw c.new-found.ensures.items at c.in_ok-push.ensures.items)) at c.in_ok-further.ensures.read) ∙ raised_none _ _ _ _ (rw (c.max-all.ensures, c.max-begun.ensures) at c.in_err-height.ensures.refused.1))

pub returns-clause-read : goal.returns-clause-read
returns-clause-read c =
    declaration_read _ c.args.typedefs.now c.args.head.place (map spec_tree c.args.head.words.items) c.args.head.height (as_item init_declarator_view c.args.reader.now c.args.name) _ _ c.in_ok-parts.ensures.inner c.in_ok-first.ensures.read (rw (c.is_typedef-gives.ensures, c.as_slice.ensures.value, map_snoc init_declarator_view [] c.push.new.self.items c.in_ok-first.first.tree (rw c.new-found.ensures.items at c.in_ok-push.ensures.items)) at c.in_ok-further.ensures.read) ∙ raised_is _ _ _ _ _ (rw (c.max-all.ensures, c.max-begun.ensures) at c.in_ok-height.ensures.height.0) c.in_ok-height.ensures.height.1
