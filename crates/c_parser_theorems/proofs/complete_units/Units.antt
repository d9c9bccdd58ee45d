-- Pieces and units are found, and a piece that is not read has no derivation.
use Rattle.std.proofs.Common.{◌≡◌, ℕ, zero, suc, ◌+◌, ◌-◌, ◌≤◌, ◌<◌, Bool, true, false, List, [], ◌∷◌, take, drop, length, Option, Some, None, if◌then◌else◌, Result, Ok, inl, inr, refl, arith, sym, subst, ◌∙◌}
use Rattle.cc_base.specs.declared.lexemes.Token.{Token}
use Rattle.c_layout.specs.declared.data_model.Model.{Model}
use Rattle.std.proofs.lemmas.List.{length-take, length-drop}
use Rattle.c_layout.specs.DeclarationTrees.{ExternalTree, Declared, Defined, spec_trees}
use Rattle.c_parser_tokens.specs.Classes.{classified}
use Rattle.c_parser_tokens.specs.declared.terminals.Terminal.{Terminal}
use Rattle.c_parser.specs.Externals.{in_force, in_force_behind, IsExternal, IsPiece, ArePieces, IsUnit}
use Rattle.c_parser.specs.Pieces.{begun, behind, length_from, piece_length}
use Rattle.c_parser.specs.FirstRefusals.{IsRefusedAt, StopsFirst}
use Rattle.c_parser.specs.UnitResults.{StopsUnread}
use Rattle.cc_base.specs.declared.refusals.Stop.{Stop}
use Rattle.cc_base.specs.declared.refusals.Stop.TheVariants as stop
use Rattle.c_parser_theorems.proofs.unique_units.Uniting.{no_tree}
use Rattle.c_parser_theorems.specs.CompleteDeclarations.Found.{HasRoom}
use Rattle.c_parser_theorems.proofs.complete_declarations.Beginnings.{spec_front}
use Rattle.c_parser.specs.UnitReaders.{piece, pieces, unit, unread_pieces, unread}
use Rattle.c_parser_theorems.proofs.complete_units.Externals.{external_found}

-- ---- pieces

take_short : (n : ℕ) (ts : List Terminal) → length (take n ts) ≤ length ts
take_short n ts = let h = length-take n ts in rw h (omega arith)

drop_short : (n : ℕ) (ts : List Terminal) → length (drop n ts) ≤ length ts
drop_short n ts = let h = length-drop n ts in rw h (omega arith)

pub piece_found : (known : List (List ℕ)) (e : ExternalTree) (ts : List Terminal) → IsPiece known e ts → 256 + length ts < 4294967295 → piece known ts ≡ Some e
piece_found known e ts is room =
    let one = external_found known 256 e ts [] is.derives is.height room in
    rw one refl

no_spec : (known : List (List ℕ)) (e : ExternalTree) (rest : List Terminal) → IsExternal known e [] rest → ⊥
no_spec known (Declared at words ds) rest (place, a, c, spec, ds-are, semi) = let front = spec_front known (spec_trees words) [] a spec.derive spec.one_type in absurd (cc front.word)
no_spec known (Defined at words f body) rest (place, a, c, spec, is, block) = let front = spec_front known (spec_trees words) [] a spec.derive spec.one_type in absurd (cc front.word)

-- a piece has a terminal
piece_some : (t : Terminal) (ts : List Terminal) → 1 ≤ piece_length (t ∷ ts)
piece_some t ts = by (behind begun t.symbol).is_complete (length_from (behind begun t.symbol) ts)
  where
    by : (complete : Bool) (more : ℕ) → 1 ≤ (if complete then 1 else 1 + more)
    by true more = omega arith
    by false more = omega arith

pieces_few : (es : List ExternalTree) (known : List (List ℕ)) (ts : List Terminal) → ArePieces es known ts [] → length es ≤ length ts
pieces_few [] known ts all = omega arith
pieces_few (e ∷ es) known [] (one, all) = absurd (no_spec known e [] one.derives)
pieces_few (e ∷ es) known (t ∷ ts) (one, all) =
    let some = piece_some t ts in
    let short = length-drop (piece_length (t ∷ ts)) (t ∷ ts) in
    let tail = pieces_few es (in_force known e) (drop (piece_length (t ∷ ts)) (t ∷ ts)) all in
    let here : length es ≤ length (t ∷ ts) - piece_length (t ∷ ts) = rw short at tail in
    omega arith

none_left : (turns : ℕ) (known : List (List ℕ)) → pieces turns known [] ≡ Some []
none_left zero known = refl
none_left (suc turns) known = refl

pub pieces_found : (es : List ExternalTree) (known : List (List ℕ)) (turns : ℕ) (ts : List Terminal) → ArePieces es known ts [] → 256 + length ts < 4294967295 → length es ≤ turns → pieces turns known ts ≡ Some es
pieces_found [] known turns ts all room enough = let none : [] ≡ ts = all in rw (sym none) (none_left turns known)
pieces_found (e ∷ es) known zero ts all room enough = absurd (omega arith)
pieces_found (e ∷ es) known (suc turns) [] (one, all) room enough = absurd (no_spec known e [] one.derives)
pieces_found (e ∷ es) known (suc turns) (t ∷ ts) (one, all) room enough =
    let short = take_short (piece_length (t ∷ ts)) (t ∷ ts) in
    let shorter = drop_short (piece_length (t ∷ ts)) (t ∷ ts) in
    let first = piece_found known e (take (piece_length (t ∷ ts)) (t ∷ ts)) one (omega arith) in
    let tail = pieces_found es (in_force known e) turns (drop (piece_length (t ∷ ts)) (t ∷ ts)) all (omega arith) (omega arith) in
    rw (first, tail) refl

pub unit_found : (es : List ExternalTree) (ts : List Terminal) → ArePieces es [] ts [] → 256 + length ts < 4294967295 → unit ts ≡ Some es
unit_found es ts all room = let few = pieces_few es [] ts all in pieces_found es [] (length ts) ts all room few

ok_same : {a b : List Terminal} {E : Type 0} {r : Result (List Terminal) E} → r ≡ Ok a → r ≡ Ok b → a ≡ b
ok_same {a} {b} {E} {r} one two = cc

pub units_found : (model : Model) (tokens : List Token) (ts : List Terminal) (es : List ExternalTree) → classified model tokens ≡ Ok ts → IsUnit model tokens es → 256 + length ts < 4294967295 → unit ts ≡ Some es
units_found model tokens ts es is d room =
    let same : d.terminals ≡ ts = ok_same d.classes is in
    unit_found es ts (subst (λ (z : List Terminal). ArePieces es [] z []) same d.pieces) room

-- ---- refusals

some_none : {e : ExternalTree} {x : Option ExternalTree} → x ≡ Some e → x ≡ None → ⊥
some_none {e} {x} is none = let h : Some e ≡ None = sym is ∙ none in absurd (cc h)

left_short : (before : List ExternalTree) (known : List (List ℕ)) (ts rest : List Terminal) → ArePieces before known ts rest → length rest ≤ length ts
left_short [] known ts rest same = let here : rest ≡ ts = same in rw here (omega arith)
left_short (e ∷ es) known ts rest (one, all) =
    let short = drop_short (piece_length ts) ts in
    let tail = left_short es (in_force known e) (drop (piece_length ts) ts) rest all in
    omega arith

-- so many pieces take as many terminals at least
before_few : (before : List ExternalTree) (known : List (List ℕ)) (ts rest : List Terminal) → ArePieces before known ts rest → length before + length rest ≤ length ts
before_few [] known ts rest same = let here : rest ≡ ts = same in rw here (omega arith)
before_few (e ∷ es) known [] rest (one, all) = absurd (no_spec known e [] one.derives)
before_few (e ∷ es) known (t ∷ ts) rest (one, all) =
    let some = piece_some t ts in
    let short = length-drop (piece_length (t ∷ ts)) (t ∷ ts) in
    let tail = before_few es (in_force known e) (drop (piece_length (t ∷ ts)) (t ∷ ts)) rest all in
    let here : length es + length rest ≤ length (t ∷ ts) - piece_length (t ∷ ts) = rw short at tail in
    omega arith

stops_at : (known : List (List ℕ)) (turns : ℕ) (ts : List Terminal) → (ts ≡ [] → ⊥) → 0 < turns → piece known (take (piece_length ts) ts) ≡ None → unread_pieces turns known ts ≡ ts
stops_at known turns [] some enough none = absurd (some refl)
stops_at known zero (t ∷ ts) some enough none = absurd (omega arith)
stops_at known (suc turns) (t ∷ ts) some enough none = rw none refl

read_to : (before : List ExternalTree) (known : List (List ℕ)) (turns : ℕ) (ts rest : List Terminal) → ArePieces before known ts rest → (rest ≡ [] → ⊥) → 256 + length ts < 4294967295 → length before < turns → piece (in_force_behind known before) (take (piece_length rest) rest) ≡ None → unread_pieces turns known ts ≡ rest
read_to [] known turns ts rest same some room enough none =
    let here : rest ≡ ts = same in
    stops_at known turns ts (λ empty. some (here ∙ empty)) enough (rw here at none) ∙ sym here
read_to (e ∷ es) known zero ts rest all some room enough none = absurd (omega arith)
read_to (e ∷ es) known (suc turns) [] rest (one, all) some room enough none = absurd (no_spec known e [] one.derives)
read_to (e ∷ es) known (suc turns) (t ∷ ts) rest (one, all) some room enough none =
    let short = take_short (piece_length (t ∷ ts)) (t ∷ ts) in
    let shorter = drop_short (piece_length (t ∷ ts)) (t ∷ ts) in
    let first = piece_found known e (take (piece_length (t ∷ ts)) (t ∷ ts)) one (omega arith) in
    let tail = read_to es (in_force known e) turns (drop (piece_length (t ∷ ts)) (t ∷ ts)) rest all some (omega arith) (omega arith) none in
    rw first tail

not_empty : (rest : List Terminal) → (rest ≡ [] → ⊥) → 1 ≤ length rest
not_empty [] some = absurd (some refl)
not_empty (t ∷ ts) some = omega arith

pub refused : (before : List ExternalTree) (ts rest : List Terminal) → ArePieces before [] ts rest → (rest ≡ [] → ⊥) → 256 + length ts < 4294967295 → piece (in_force_behind [] before) (take (piece_length rest) rest) ≡ None → IsRefusedAt ts rest × (unread ts ≡ rest)
refused before ts rest all some room none =
    let left = left_short before [] ts rest all in
    let short = take_short (piece_length rest) rest in
    let few = before_few before [] ts rest all in
    let has = not_empty rest some in
    (record { before = before; derive = all; some = some; none = λ e is. some_none (piece_found (in_force_behind [] before) e (take (piece_length rest) rest) is (omega arith)) none }, read_to before [] (length ts) ts rest all some room (omega arith) none)

pub stops_first : (ts : List Terminal) (e : Stop) → HasRoom 256 ts → StopsUnread ts e → StopsFirst ts e
stops_first ts e room (inl memory) = inl memory
stops_first ts e room (inr u) =
    let here = refused u.before ts (u.first ∷ u.more) u.derive (λ n. absurd (cc n)) room u.none in inr (record { first = u.first; more = u.more; refused = here.0; stops = u.stops })

pub stops_never : (model : Model) (tokens : List Token) (ts : List Terminal) (es : List ExternalTree) (e : Stop) → classified model tokens ≡ Ok ts → IsUnit model tokens es → HasRoom 256 ts → StopsUnread ts e → e ≡ stop.Memory
stops_never model tokens ts es e is unit room (inl memory) = memory
stops_never model tokens ts es e is unit room (inr u) =
    let here = refused u.before ts (u.first ∷ u.more) u.derive (λ n. absurd (cc n)) room u.none in absurd (no_tree model tokens ts (u.first ∷ u.more) es is here.0 unit)
