-- Pieces, read one after another.
use Rattle.std.proofs.Common.{inl, inr, ◌≡◌, ◌≤◌, length, slice_index_or, arith, ℕ, List, [], ◌∷◌, ◌++◌, take, drop, Ok, refl, sym, subst, ap, ◌∙◌}
use Rattle.cc_base.specs.declared.lexemes.Token.{Token}
use Rattle.c_layout.specs.declared.data_model.Model.{Model}
use Rattle.c_layout.specs.DeclarationTrees.{ExternalTree}
use Rattle.c_parser_tokens.specs.Classes.{classified}
use Rattle.c_parser_tokens.specs.declared.terminals.Terminal.{Terminal}
use Rattle.c_parser.specs.Externals.{in_force, in_force_behind, IsExternal, IsPiece, ArePieces, IsUnit}
use Rattle.c_parser.specs.Findings.{FoundExternal, FoundPieces}
use Rattle.c_parser.specs.Pieces.{piece_length}
use Rattle.c_parser.specs.UnitReaders as read
use Rattle.c_parser.specs.UnitResults.{StopsWithout, StopsUnread}
use Rattle.cc_base.specs.declared.refusals.Stop.{Stop}

-- ---- all pieces

pieces_more : (es : List ExternalTree) (e : ExternalTree) (known : List (List ℕ)) (ts rest : List Terminal) →
    ArePieces es known ts rest → IsPiece (in_force_behind known es) e (take (piece_length rest) rest) → ArePieces (es ++ (e ∷ [])) known ts (drop (piece_length rest) rest)
pieces_more [] e known ts rest so one = subst (λ (at : List Terminal). IsPiece known e (take (piece_length at) at) × (drop (piece_length rest) rest ≡ drop (piece_length at) at)) so (one, refl)
pieces_more (d ∷ ds) e known ts rest so one = (so.0, pieces_more ds e (in_force known d) (drop (piece_length ts) ts) rest so.1 one)

names_more : (es : List ExternalTree) (e : ExternalTree) (known : List (List ℕ)) → in_force_behind known (es ++ (e ∷ [])) ≡ in_force (in_force_behind known es) e
names_more [] e known = refl
names_more (d ∷ ds) e known = names_more ds e (in_force known d)

pub piece_more : {es next : List ExternalTree} {e : ExternalTree} {names behind : List (List ℕ)} {ts rest piece after : List Terminal} →
    FoundPieces es names ts rest → piece ≡ take (piece_length rest) rest → after ≡ drop (piece_length rest) rest → IsPiece names e piece → behind ≡ in_force names e → next ≡ es ++ (e ∷ []) →
    FoundPieces next behind ts after
piece_more {es} {next} {e} {names} {behind} {ts} {rest} {piece} {after} so piece-is after-is one behind-is next-is =
    let here : IsPiece (in_force_behind [] es) e (take (piece_length rest) rest) = subst (λ (ns : List (List ℕ)). IsPiece ns e (take (piece_length rest) rest)) so.names_are (subst (λ (at : List Terminal). IsPiece names e at) piece-is one) in
    rw (next-is, after-is) (record {
      pieces = pieces_more es e [] ts rest so.pieces here;
      names_are = behind-is ∙ (ap (λ (ns : List (List ℕ)). in_force ns e) so.names_are ∙ sym (names_more es e []));
    })

-- the first piece in which nothing is found
pub unread_here : {es : List ExternalTree} {names : List (List ℕ)} {ts rest piece : List Terminal} {e : Stop} (first : Terminal) (more : List Terminal) →
    FoundPieces es names ts rest → rest ≡ first ∷ more → piece ≡ take (piece_length rest) rest → StopsWithout first.place (read.piece names piece) e → StopsUnread ts e
unread_here {es} {names} {ts} {rest} {piece} {e} first more so rest-is piece-is (inl memory) = inl memory
unread_here {es} {names} {ts} {rest} {piece} {e} first more so rest-is piece-is (inr (stops, none)) =
    inr (record {
      before = es;
      first = first;
      more = more;
      derive = rw rest-is at so.pieces;
      none = rw (piece-is, rest-is, so.names_are) at none;
      stops = stops;
    })

pub unread_at : {es : List ExternalTree} {names : List (List ℕ)} {ts piece : List Terminal} {e : Stop} (rest : List Terminal) (first : Terminal) → 1 ≤ length rest → first ≡ slice_index_or rest 0 first →
    FoundPieces es names ts rest → piece ≡ take (piece_length rest) rest → StopsWithout first.place (read.piece names piece) e → StopsUnread ts e
unread_at {es} {names} {ts} {piece} {e} [] first some is so piece-is stops = absurd (omega (arith, some))
unread_at {es} {names} {ts} {piece} {e} (t ∷ more) first some is so piece-is stops =
    let same : first ≡ t = is in unread_here t more so refl piece-is (subst (λ (x : Terminal). StopsWithout x.place (read.piece names piece) e) same stops)
