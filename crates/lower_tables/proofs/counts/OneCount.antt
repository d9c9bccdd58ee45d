-- A function has one settled template and one row of counts at most: they depend on a table only where it
-- has the counts of functions that are called.
use Rattle.std.proofs.Common.{◌≡◌, ℕ, Bool, true, false, cond, max, List, [], ◌∷◌, ◌++◌, Option, Some, None, refl, ap, sym, subst, ◌∙◌}
use Rattle.std.specs.List.{slice_get}
use Rattle.c_layout.specs.CheckedUnits.{FunctionView, UnitView}
use Rattle.c_layout.specs.StructViews.{StructView}
use Rattle.lower_templates.specs.Worklist.Pieces.{PieceView, Do, DoIfUsed, End, Mark, Call, TemplateView}
use Rattle.lower_objects.specs.declared.counts.function_counts.BlockExtent.{BlockExtent}
use Rattle.lower_objects.specs.declared.counts.function_counts.FunctionCounts.{FunctionCounts}
use Rattle.lower_objects.specs.declared.counts.object_counts.BaseCount.{BaseCount}
use Rattle.lower_objects.specs.Counts.Extents.{with_call}
use Rattle.lower_objects.specs.Counts.PieceCounts as pieces
use Rattle.lower_objects.specs.Counts.PieceCounts.{counts_of, counted, called_temps}
use Rattle.lower_objects.specs.Counts.BaseCounts as bases
use Rattle.lower_tables.specs.Counts.FunctionTotals.{is_nothing, function_counts}
use Rattle.lower_tables.specs.Counts.NormalizedTemplates as settling
use Rattle.lower_tables.specs.Counts.NormalizedTemplates.{NamesView, SettlingView, normalized}
use Rattle.lower_tables.specs.Counts.Preparations.{called, is_counted, are_counted, counts_from, named_parameters, Counts, counts, IsNormalized}
use Rattle.lower_tables.proofs.counts.Preparing.{one_function, one_template, both_true, there_is}

abbrev SameCalled : List (Option FunctionCounts) → List (Option FunctionCounts) → Option ℕ → Type 0
SameCalled a b None = Unit {0}
SameCalled a b (Some n) = counted a n ≡ counted b n

-- two tables have the same counts of all that pieces call
abbrev pub Agree : List (Option FunctionCounts) → List (Option FunctionCounts) → List PieceView → Type 0
Agree a b [] = Unit {0}
Agree a b (p ∷ ps) = SameCalled a b (called p) × Agree a b ps

piece_same : (a b : List (Option FunctionCounts)) (p : PieceView) (at : BlockExtent) → SameCalled a b (called p) → pieces.with_piece a p at ≡ pieces.with_piece b p at
piece_same a b (Do s) at same = refl
piece_same a b (DoIfUsed s) at same = refl
piece_same a b (End s exits) at same = refl
piece_same a b (Mark label) at same = refl
piece_same a b (Call c) at same = ap (λ k. with_call at k c.used) same

pieces_same : (a b : List (Option FunctionCounts)) (ps : List PieceView) (at : BlockExtent) → Agree a b ps → pieces.with_pieces a ps at ≡ pieces.with_pieces b ps at
pieces_same a b [] at same = refl
pieces_same a b (p ∷ ps) at (one, same) = pieces_same a b ps (pieces.with_piece a p at) same ∙ ap (λ e. pieces.with_pieces b ps e) (piece_same a b p at one)

piece_temps_same : (a b : List (Option FunctionCounts)) (p : PieceView) → SameCalled a b (called p) → pieces.piece_temps a p ≡ pieces.piece_temps b p
piece_temps_same a b (Do s) same = refl
piece_temps_same a b (DoIfUsed s) same = refl
piece_temps_same a b (End s exits) same = refl
piece_temps_same a b (Mark label) same = refl
piece_temps_same a b (Call c) same = ap (λ k. called_temps c k) same

temps_same : (a b : List (Option FunctionCounts)) (ps : List PieceView) (most : ℕ) → Agree a b ps → pieces.temps a ps most ≡ pieces.temps b ps most
temps_same a b [] most same = refl
temps_same a b (p ∷ ps) most (one, same) = temps_same a b ps (max (pieces.piece_temps a p) most) same ∙ ap (λ n. pieces.temps b ps (max n most)) (piece_temps_same a b p one)

called_bases_same : (a b : List (Option FunctionCounts)) (p : PieceView) → SameCalled a b (called p) → bases.called_bases a p ≡ bases.called_bases b p
called_bases_same a b (Do s) same = refl
called_bases_same a b (DoIfUsed s) same = refl
called_bases_same a b (End s exits) same = refl
called_bases_same a b (Mark label) same = refl
called_bases_same a b (Call c) same = ap bases.bases_of same

bases_same : (a b : List (Option FunctionCounts)) (ps : List PieceView) (sum : BaseCount) → Agree a b ps → bases.inner_bases a ps sum ≡ bases.inner_bases b ps sum
bases_same a b [] sum same = refl
bases_same a b (p ∷ ps) sum (one, same) = bases_same a b ps (bases.both sum (bases.called_bases a p)) same ∙ ap (λ c. bases.inner_bases b ps (bases.both sum c)) (called_bases_same a b p one)

function_same : (structs : List StructView) (pointer parameters : ℕ) (f : FunctionView) (t : TemplateView) (a b : List (Option FunctionCounts)) → Agree a b t.pieces → function_counts structs pointer f parameters t a ≡ function_counts structs pointer f parameters t b
function_same structs pointer parameters f t a b same =
    let own = bases.own_bases structs pointer f t.names parameters in
    let inner = bases_same a b t.pieces bases.no_bases same in
    let from_empty = pieces_same a b t.pieces (pieces.nothing true) same in
    let from_begun = pieces_same a b t.pieces (pieces.nothing false) same in
    let most = temps_same a b t.pieces 0 same in
    λ i. record {
      from_empty = from_empty i;
      from_begun = from_begun i;
      temps = most i;
      bases = (bases.both own (inner i)).bases;
      cells = (bases.both own (inner i)).cells;
      if_used = pieces.if_used t.pieces 0;
      is_silent = is_nothing f (from_empty i);
    }

name_same : (a b : List (Option FunctionCounts)) (p : PieceView) (n : NamesView) → SameCalled a b (called p) → settling.with_piece a p n ≡ settling.with_piece b p n
name_same a b (Do s) n same = refl
name_same a b (DoIfUsed s) n same = refl
name_same a b (End s exits) n same = refl
name_same a b (Mark label) n same = refl
name_same a b (Call c) n same = ap (λ k. settling.with_other k.is_silent n) same

names_same : (a b : List (Option FunctionCounts)) (ps : List PieceView) (n : NamesView) → Agree a b ps → settling.with_pieces a ps n ≡ settling.with_pieces b ps n
names_same a b [] n same = refl
names_same a b (p ∷ ps) n (one, same) = names_same a b ps (settling.with_piece a p n) same ∙ ap (λ m. settling.with_pieces b ps m) (name_same a b p n one)

nothing_same : (a b : List (Option FunctionCounts)) (p : PieceView) → SameCalled a b (called p) → settling.adds_nothing a p ≡ settling.adds_nothing b p
nothing_same a b (Do s) same = refl
nothing_same a b (DoIfUsed s) same = refl
nothing_same a b (End s exits) same = refl
nothing_same a b (Mark label) same = refl
nothing_same a b (Call c) same = ap (λ k. k.is_silent) same

if_same : (a b : List (Option FunctionCounts)) (n : NamesView) (p : PieceView) (g : SettlingView) → SameCalled a b (called p) → settling.with_if a n p g ≡ settling.with_if b n p g
unfolding settling.with_if
if_same a b n p g same = ap (λ k. cond k g (settling.with_renamed n p g)) (nothing_same a b p same)

all_same : (a b : List (Option FunctionCounts)) (n : NamesView) (ps : List PieceView) (g : SettlingView) → Agree a b ps → settling.with_all a n ps g ≡ settling.with_all b n ps g
all_same a b n [] g same = refl
all_same a b n (p ∷ ps) g (one, same) = all_same a b n ps (settling.with_if a n p g) same ∙ ap (λ h. settling.with_all b n ps h) (if_same a b n p g one)

abbrev built : SettlingView → NamesView → TemplateView → TemplateView
built g n t = record { pieces = g.pieces; names = t.names; labels = n.count }

normalized_same : (a b : List (Option FunctionCounts)) (t : TemplateView) → Agree a b t.pieces → normalized a t ≡ normalized b t
normalized_same a b t same =
    ap (λ n. built (settling.with_all a n t.pieces settling.nothing_normalized) n t) (names_same a b t.pieces (settling.no_names t.labels) same)
    ∙ ap (λ g. built g (settling.renaming b t.pieces t.labels) t) (all_same a b (settling.renaming b t.pieces t.labels) t.pieces settling.nothing_normalized same)

agree_more : (a b : List (Option FunctionCounts)) (ps : List PieceView) (p : PieceView) → Agree a b ps → SameCalled a b (called p) → Agree a b (ps ++ p ∷ [])
agree_more a b [] p same one = (one, tt)
agree_more a b (q ∷ ps) p (two, same) one = (two, agree_more a b ps p same one)

agree_cond : (a b : List (Option FunctionCounts)) (k : Bool) (g h : SettlingView) → Agree a b g.pieces → Agree a b h.pieces → Agree a b (cond k g h).pieces
agree_cond a b true g h x y = x
agree_cond a b false g h x y = y

agree_renamed : (a b : List (Option FunctionCounts)) (n : NamesView) (p : PieceView) (g : SettlingView) → SameCalled a b (called p) → Agree a b g.pieces → Agree a b (settling.with_renamed n p g).pieces
agree_renamed a b n (Do s) g one same = agree_more a b g.pieces (Do s) same tt
agree_renamed a b n (DoIfUsed s) g one same = agree_more a b g.pieces (DoIfUsed s) same tt
agree_renamed a b n (End s exits) g one same = agree_more a b g.pieces (settling.renamed_end n s exits) same tt
agree_renamed a b n (Mark label) g one same = agree_cond a b (settling.is_last g.last (settling.renamed n label)) g _ same (agree_more a b g.pieces (Mark (settling.renamed n label)) same tt)
agree_renamed a b n (Call c) g one same = agree_more a b g.pieces (Call c) same one

agree_if : (a b table : List (Option FunctionCounts)) (n : NamesView) (p : PieceView) (g : SettlingView) → SameCalled a b (called p) → Agree a b g.pieces → Agree a b (settling.with_if table n p g).pieces
unfolding settling.with_if
agree_if a b table n p g one same = agree_cond a b (settling.adds_nothing table p) g (settling.with_renamed n p g) same (agree_renamed a b n p g one same)

agree_all : (a b table : List (Option FunctionCounts)) (n : NamesView) (ps : List PieceView) (g : SettlingView) → Agree a b ps → Agree a b g.pieces → Agree a b (settling.with_all table n ps g).pieces
agree_all a b table n [] g same all = all
agree_all a b table n (p ∷ ps) g (one, same) all = agree_all a b table n ps (settling.with_if table n p g) same (agree_if a b table n p g one all)

-- what depends on the functions that are called depends on nothing else of a table
counts_same : (u : UnitView) (n : ℕ) (f : FunctionView) (t : TemplateView) (a b : List (Option FunctionCounts)) → Agree a b t.pieces → counts_from u n f t a ≡ counts_from u n f t b
counts_same u n f t a b same =
    function_same u.structs u.model.pointer (named_parameters u n f) f (normalized a t) a b (agree_all a b a (settling.renaming a t.pieces t.labels) t.pieces settling.nothing_normalized same tt)
    ∙ ap (λ s. function_counts u.structs u.model.pointer f (named_parameters u n f) s b) (normalized_same a b t same)

-- two tables that have counts of all that pieces call agree where no function has two
agree : (u : UnitView) (a b : List (Option FunctionCounts)) (ps : List PieceView) → are_counted a ps ≡ true → are_counted b ps ≡ true → ((m : ℕ) (c d : FunctionCounts) → slice_get a m ≡ Some (Some c) → slice_get b m ≡ Some (Some d) → c ≡ d) → Agree a b ps
agree u a b [] x y one = tt
agree u a b (p ∷ ps) x y one =
    let has_a = both_true (is_counted a (called p)) (are_counted a ps) x in
    let has_b = both_true (is_counted b (called p)) (are_counted b ps) y in
    (same_at (called p) has_a.0 has_b.0, agree u a b ps has_a.1 has_b.1 one)
  where
    same_at : (o : Option ℕ) → is_counted a o ≡ true → is_counted b o ≡ true → SameCalled a b o
    same_at None p q = tt
    same_at (Some m) p q =
        let (c, c_is) = there_is (slice_get a m) p in
        let (d, d_is) = there_is (slice_get b m) q in
        ap counts_of c_is ∙ one m c d c_is d_is ∙ sym (ap counts_of d_is)

-- the counts of a function do not depend on the table that they were made from
pub one_count : (u : UnitView) (n : ℕ) (c d : FunctionCounts) → Counts u n c → Counts u n d → c ≡ d
one_count u n c d (counts _ f t a is all each) (counts _ g s b has every other) =
    let same_f = one_function u n f g t s is has in
    let same_t = one_template u n f g t s is has in
    let every_t = subst (λ r. are_counted b r.pieces ≡ true) (sym same_t) every in
    let agreed = agree u a b t.pieces all every_t (λ m x y p q. one_count u m x y (each m x p) (other m y q)) in
    counts_same u n f t a b agreed ∙ ap (λ r. counts_from u n f r b) same_t ∙ ap (λ h. counts_from u n h s b) same_f

pub one_normalized : (u : UnitView) (n : ℕ) (s t : TemplateView) → IsNormalized u n s → IsNormalized u n t → s ≡ t
one_normalized u n s t a b =
    let same = one_template u n a.function b.function a.template b.template a.is_template b.is_template in
    let all_b = subst (λ r. are_counted b.table r.pieces ≡ true) (sym same) b.all_counted in
    let agreed = agree u a.table b.table a.template.pieces a.all_counted all_b (λ m x y p q. one_count u m x y (a.are_counts m x p) (b.are_counts m y q)) in
    a.settles ∙ normalized_same a.table b.table a.template agreed ∙ ap (λ r. normalized b.table r) same ∙ sym b.settles
