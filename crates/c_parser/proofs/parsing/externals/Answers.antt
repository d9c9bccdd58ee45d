use Rattle.c_layout.specs.DeclarationTrees.{external_tree}
use Rattle.c_parser_declarations.proofs.grammar.Listing.{map_snoc}
use Rattle.c_parser.proofs.Units.{piece_more, unread_at}
use Rattle.std.proofs.lemmas.Result.{err_from_is_err_and}
use Rattle.c_parser.proofs.parsing.externals.Goals as goal

pub loop-rest-preserved : goal.loop-rest-preserved
loop-rest-preserved c =
    piece_more c.loop-rest.invariant (rw c.piece_length.ensures.value at c.split_at.ensures.front) (rw c.piece_length.ensures.value at c.split_at.ensures.back) c.in_ok-external_at.ensures.piece
    c.in_ok-external_at.ensures.names (map_snoc external_tree c.loop-rest.found.items c.push.new.self.items c.in_ok-external_at.field-0 c.in_ok-push.ensures.items)

pub returns-in_err-external_at-clause-refused : goal.returns-in_err-external_at-clause-refused
returns-in_err-external_at-clause-refused c =
    let p = err_from_is_err_and c.from_residual.result c.from_residual.ensures.1 in
    rw (p.1, p.2) (unread_at c.loop-rest.rest.now c.first-item.result c.in-len1-up.len_at_least c.first-item.is c.loop-rest.invariant (rw c.piece_length.ensures.value at c.split_at.ensures.front) c.in_err-external_at.ensures.read)
