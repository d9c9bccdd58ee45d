use Rattle.std.specs.Option.{option_map}
use Rattle.c_layout.specs.SyntaxTrees.{tree_of}
use Rattle.c_parser.proofs.Jumps.{return_found}
use Rattle.std.proofs.lemmas.Result.{err_from_is_err_and}
use Rattle.std.proofs.Common.{None, refl, ◌∙◌}
use Rattle.c_parser_declarations.proofs.grammar.Reading.{raised_is}
use Rattle.c_parser_declarations.proofs.readers.Signs.{no_semicolon}
use Rattle.c_parser_declarations.specs.Grammar.SpecifierReaders.{is_semicolon}
use Rattle.c_parser.proofs.Stepping.{return_is}
use Rattle.c_parser.proofs.jump_statements.return_statement.Goals as goal

pub returns-clause-found : goal.returns-clause-found
returns-clause-found c =
    return_found (option_map tree_of c.in_ok-value.value.tree) c.in_ok-place.ensures.place c.in_ok-place.ensures.word c.in_ok-value.ensures.found c.return_node-tree.ensures c.in_ok-height.ensures.height.0 c.in_ok-height.ensures.height.1

pub returns-in_err-value-clause-read : goal.returns-in_err-value-clause-read
returns-in_err-value-clause-read c =
    let p = err_from_is_err_and c.from_residual-in_err-value.result c.from_residual-in_err-value.ensures.1 in
    rw (p.1, p.2) (λ w s. return_is c.args.scope.typedefs.now _ None c.in_ok-place.ensures.word c.in_ok-inner.ensures.inner (c.in_err-value.ensures.read is_semicolon refl no_semicolon s))

pub returns-clause-read : goal.returns-clause-read
returns-clause-read c =
    λ w. return_is c.args.scope.typedefs.now _ _ c.in_ok-place.ensures.word c.in_ok-inner.ensures.inner (c.in_ok-value.ensures.read is_semicolon refl no_semicolon)
    ∙ rw (c.return_node-tree.ensures, c.in_ok-place.ensures.place) (raised_is _ _ _ _ _ c.in_ok-height.ensures.height.0 c.in_ok-height.ensures.height.1)
