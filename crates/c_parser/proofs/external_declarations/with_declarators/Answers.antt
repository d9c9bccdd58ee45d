use Rattle.std.proofs.Common.{map, None, refl}
use Rattle.c_layout.specs.DeclarationTrees.{spec_tree, init_declarator_view}
use Rattle.c_parser.proofs.Declaring.{named}
use Rattle.std.proofs.lemmas.Result.{err_from_is_err_and}
use Rattle.c_parser.proofs.Joining.{nothing_named, with_definition, with_declaration}
use Rattle.c_parser_declarations.specs.Grammar.Answers.{as_item}
use Rattle.c_parser_declarations.proofs.readers.Signs.{no_left_brace}
use Rattle.c_parser_expressions.proofs.Signs.{not_so}
use Rattle.c_parser.proofs.external_declarations.with_declarators.Goals as goal

pub returns-then-is_at-clause-found : goal.returns-then-is_at-clause-found
returns-then-is_at-clause-found c =
    named (map spec_tree c.args.head.words.items) c.in_ok-name.ensures.found (rw (c.is_typedef-gives.ensures, c.as_slice.ensures.value) at c.in_ok-name.ensures.names)
    c.in_ok-found.ensures.found

pub returns-clause-found : goal.returns-clause-found
returns-clause-found c =
    named (map spec_tree c.args.head.words.items) c.in_ok-name.ensures.found (rw (c.is_typedef-gives.ensures, c.as_slice.ensures.value) at c.in_ok-name.ensures.names) c.in_ok-found-2.ensures.found

pub returns-in_err-name-clause-read : goal.returns-in_err-name-clause-read
returns-in_err-name-clause-read c =
    let p = err_from_is_err_and c.from_residual-in_err-name.result c.from_residual-in_err-name.ensures.1 in
    rw (p.1, p.2) (λ s. nothing_named c.args.typedefs.now _ c.args.head.place (map spec_tree c.args.head.words.items) c.args.head.height c.args.reader.now c.in_ok-inner.ensures.inner (c.in_err-name.ensures.read s))

pub returns-in_err-found-clause-read : goal.returns-in_err-found-clause-read
returns-in_err-found-clause-read c =
    let p = err_from_is_err_and c.from_residual-in_err-found.result c.from_residual-in_err-found.ensures.1 in
    rw (p.1, p.2) (λ s. with_definition c.args.typedefs.now _ c.args.head.place (map spec_tree c.args.head.words.items) c.args.head.height c.args.reader.now (as_item init_declarator_view c.declared_name.new.reader c.in_ok-name.name) _ None c.in_ok-inner.ensures.inner c.in_ok-name.ensures.read (c.if-is_at.ensures.0 refl) (rw (c.is_typedef-gives.ensures, c.as_slice.ensures.value) at c.in_ok-name.ensures.names) (c.in_err-found.ensures.read s))

pub returns-then-is_at-clause-read : goal.returns-then-is_at-clause-read
returns-then-is_at-clause-read c =
    with_definition c.args.typedefs.now _ c.args.head.place (map spec_tree c.args.head.words.items) c.args.head.height c.args.reader.now (as_item init_declarator_view c.declared_name.new.reader c.in_ok-name.name) _ _ c.in_ok-inner.ensures.inner c.in_ok-name.ensures.read (c.if-is_at.ensures.0 refl) (rw (c.is_typedef-gives.ensures, c.as_slice.ensures.value) at c.in_ok-name.ensures.names) c.in_ok-found.ensures.read

pub returns-in_err-found-2-clause-read : goal.returns-in_err-found-2-clause-read
returns-in_err-found-2-clause-read c =
    let p = err_from_is_err_and c.from_residual-in_err-found-2.result c.from_residual-in_err-found-2.ensures.1 in
    rw (p.1, p.2) (λ s. with_declaration c.args.typedefs.now _ c.args.head.place (map spec_tree c.args.head.words.items) c.args.head.height c.args.reader.now (as_item init_declarator_view c.declared_name.new.reader c.in_ok-name.name) _ None c.in_ok-inner.ensures.inner c.in_ok-name.ensures.read (no_left_brace _ (not_so c.if-is_at.ensures)) (rw (c.is_typedef-gives.ensures, c.as_slice.ensures.value) at c.in_ok-name.ensures.names) (c.in_err-found-2.ensures.read s))

pub returns-clause-read : goal.returns-clause-read
returns-clause-read c =
    with_declaration c.args.typedefs.now _ c.args.head.place (map spec_tree c.args.head.words.items) c.args.head.height c.args.reader.now (as_item init_declarator_view c.declared_name.new.reader c.in_ok-name.name) _ _ c.in_ok-inner.ensures.inner c.in_ok-name.ensures.read (no_left_brace _ (not_so c.if-is_at.ensures)) (rw (c.is_typedef-gives.ensures, c.as_slice.ensures.value) at c.in_ok-name.ensures.names) c.in_ok-found-2.ensures.read
