-- Functions that add no instruction: their pieces are labels and calls of such functions.
use Rattle.std.proofs.Common.{◌≡◌, ◌≤◌, ℕ, zero, suc, ◌+◌, ◌^◌, ◌==◌, ◌&&◌, Bool, true, false, cond, min, List, [], ◌∷◌, ◌++◌, Option, Some, None, refl, arith, ap, sym, subst, ◌∙◌}
use Rattle.std.specs.List.{slice_get}
use Rattle.std.proofs.lemmas.Bool.{eqb-true}
use Rattle.c_layout.specs.CheckedUnits.{FunctionView, UnitView}
use Rattle.lower_templates.specs.Worklist.Pieces.{PieceView, Do, DoIfUsed, End, Mark, Call, TemplateView}
use Rattle.lower_objects.specs.declared.counts.function_counts.BlockExtent.{BlockExtent}
use Rattle.lower_objects.specs.declared.counts.function_counts.FunctionCounts.{FunctionCounts}
use Rattle.lower_objects.specs.Counts.Extents.{capped, with_instruction, with_end, with_mark, added_by, with_call}
use Rattle.lower_objects.specs.Counts.PieceCounts.{nothing, counts_of, counted, with_piece, with_pieces, extent}
use Rattle.lower_templates.specs.Worklist.TermKinds.{is_void}
use Rattle.lower_tables.specs.Counts.NormalizedTemplates.{NamesView, SettlingView, is_silent, adds_nothing, renamed, renamed_end, is_last, with_renamed, with_if, with_all, nothing_normalized, renaming, normalized}
use Rattle.lower_tables.specs.Counts.Preparations.{IsTemplateOf, called, is_there, is_counted, are_counted, Counts, counts, AreCounts}
use Rattle.lower_tables.proofs.counts.Preparing.{one_template, both_true, there_is}
use Rattle.lower.specs.TemplateLaws.PieceOrder.{GoesOn, AreFollowed}
use Rattle.lower.proofs.template_laws.NormalizedOrder.{normalized_followed}
use Rattle.lower.proofs.template_laws.TemplateOrder.{template_followed}
use Rattle.simulation_layout.specs.Normalized.NormalizedRuns.{Settles}

-- begun in an empty block, a function has no instruction
pub record Quiet (u : UnitView) (n : ℕ) : Type 0 where
  pub counts : FunctionCounts
  pub are_counts : Counts u n counts
  pub none : counts.from_empty.instructions ≡ 0

-- a label, or a call of a function of which something holds
abbrev pub IsIdle : (ℕ → Type 0) → PieceView → Type 0
IsIdle Q (Do s) = ⊥
IsIdle Q (DoIfUsed s) = ⊥
IsIdle Q (End s exits) = ⊥
IsIdle Q (Mark label) = Unit {0}
IsIdle Q (Call c) = Q c.function

abbrev pub AreIdle : (ℕ → Type 0) → List PieceView → Type 0
AreIdle Q [] = Unit {0}
AreIdle Q (p ∷ ps) = IsIdle Q p × AreIdle Q ps

-- ---- sums that come to nothing

some_instruction : (n : ℕ) → 1 ≤ capped (n + 1)
some_instruction n = least n (10 ^ 18) (omega arith)
  where
    least : (n m : ℕ) → 1 ≤ m → 1 ≤ min (n + 1) m
    least n m le = omega (arith, le)

still_some : (n k : ℕ) → 1 ≤ n → 1 ≤ capped (n + k)
still_some n k le = least n k (10 ^ 18) le (omega arith)
  where
    least : (n k m : ℕ) → 1 ≤ n → 1 ≤ m → 1 ≤ min (n + k) m
    least n k m le more = omega (arith, le, more)

call_none : (a b c : ℕ) → capped (a + capped (b + c)) ≡ 0 → (a ≡ 0) × (b ≡ 0)
call_none a b c e = (first a b c (10 ^ 18) (omega arith) e, second a b c (10 ^ 18) (omega arith) e)
  where
    first : (a b c m : ℕ) → 1 ≤ m → min (a + min (b + c) m) m ≡ 0 → a ≡ 0
    first a b c m le e = omega (arith, le, e)

    second : (a b c m : ℕ) → 1 ≤ m → min (a + min (b + c) m) m ≡ 0 → b ≡ 0
    second a b c m le e = omega (arith, le, e)

some_is_not : (n : ℕ) → 1 ≤ n → n ≡ 0 → ⊥
some_is_not n le e = omega (arith, le, e)

module _ (table : List (Option FunctionCounts)) where
  more_piece : (p : PieceView) (at : BlockExtent) → 1 ≤ at.instructions → 1 ≤ (with_piece table p at).instructions
  more_piece (Do s) at le = some_instruction at.instructions
  more_piece (DoIfUsed s) at le = le
  more_piece (End s exits) at le = some_instruction at.instructions
  more_piece (Mark label) at le = by at.is_empty
    where
      by : (b : Bool) → 1 ≤ (cond b at (with_end at)).instructions
      by true = le
      by false = some_instruction at.instructions
  more_piece (Call c) at le = still_some at.instructions _ le

  more_pieces : (ps : List PieceView) (at : BlockExtent) → 1 ≤ at.instructions → 1 ≤ (with_pieces table ps at).instructions
  more_pieces [] at le = le
  more_pieces (p ∷ ps) at le = more_pieces ps (with_piece table p at) (more_piece p at le)

  none_yet : (ps : List PieceView) (at : BlockExtent) → (with_pieces table ps at).instructions ≡ 0 → at.instructions ≡ 0
  none_yet ps at e = by at.instructions refl
    where
      by : (n : ℕ) → at.instructions ≡ n → at.instructions ≡ 0
      by zero is = is
      by (suc n) is = absurd (some_is_not _ (more_pieces ps at (more n is)) e)
        where
          more : (n : ℕ) → at.instructions ≡ suc n → 1 ≤ at.instructions
          more n is = omega (arith, is)

-- ---- pieces without an instruction

not_an_instruction : (Q : ℕ → Type 0) (ps : List PieceView) → GoesOn ps → AreIdle Q ps → ⊥
not_an_instruction Q [] on idle = on
not_an_instruction Q (Do s ∷ ps) on idle = idle.0
not_an_instruction Q (DoIfUsed s ∷ ps) on idle = idle.0
not_an_instruction Q (End s exits ∷ ps) on idle = idle.0
not_an_instruction Q (Mark label ∷ ps) on idle = on
not_an_instruction Q (Call c ∷ ps) on idle = on

-- pieces are idle, and leave an empty block
pub record StaysEmpty (Q : ℕ → Type 0) (table : List (Option FunctionCounts)) (ps : List PieceView) (at : BlockExtent) : Type 0 where
  pub idle : AreIdle Q ps
  pub empty : (with_pieces table ps at).is_empty ≡ true

-- functions without an instruction leave an empty block, and something holds of them
abbrev pub LeaveEmpty : List (Option FunctionCounts) → Type 0
LeaveEmpty table = (m : ℕ) (c : FunctionCounts) → slice_get table m ≡ Some (Some c) → c.from_empty.instructions ≡ 0 → c.from_empty.is_empty ≡ true

abbrev pub HoldsOfQuiet : (ℕ → Type 0) → List (Option FunctionCounts) → Type 0
HoldsOfQuiet Q table = (m : ℕ) (c : FunctionCounts) → slice_get table m ≡ Some (Some c) → c.from_empty.instructions ≡ 0 → Q m

module _ (Q : ℕ → Type 0) (table : List (Option FunctionCounts)) (quiet_is : HoldsOfQuiet Q table) (leave : LeaveEmpty table) where
  stays_empty : (ps : List PieceView) (at : BlockExtent) → at.is_empty ≡ true → (with_pieces table ps at).instructions ≡ 0 → AreFollowed ps → are_counted table ps ≡ true → StaysEmpty Q table ps at
  stays_empty [] at empty none followed all = record { idle = tt; empty = empty }
  stays_empty (Do s ∷ ps) at empty none followed all = absurd (some_is_not _ (more_pieces table ps (with_instruction at) (some_instruction at.instructions)) none)
  stays_empty (DoIfUsed s ∷ ps) at empty none (on, followed) all = absurd (not_an_instruction Q ps on (stays_empty ps at empty none followed (both_true true (are_counted table ps) all).1).idle)
  stays_empty (End s exits ∷ ps) at empty none followed all = absurd (some_is_not _ (more_pieces table ps (with_end at) (some_instruction at.instructions)) none)
  stays_empty (Mark label ∷ ps) at empty none (on, followed) all =
      let same : with_mark at ≡ at = ap (λ b. cond b at (with_end at)) empty in
      let rest = stays_empty ps at empty (ap (λ x. (with_pieces table ps x).instructions) (sym same) ∙ none) followed (both_true true (are_counted table ps) all).1 in
      record { idle = (tt, rest.idle); empty = ap (λ x. (with_pieces table ps x).is_empty) same ∙ rest.empty }
  stays_empty (Call c ∷ ps) at empty none (on, followed) all =
      let here = both_true (is_there (slice_get table c.function)) (are_counted table ps) all in
      let (k, is) = there_is (slice_get table c.function) here.0 in
      let same : counted table c.function ≡ k = ap counts_of is in
      let next = with_call at (counted table c.function) c.used in
      let begun : added_by (counted table c.function) at.is_empty ≡ k.from_empty = ap (λ b. cond b (counted table c.function).from_empty (counted table c.function).from_begun) empty ∙ ap (λ (x : FunctionCounts). x.from_empty) same in
      let zero_next : next.instructions ≡ 0 = none_yet table ps next none in
      let quiet : (added_by (counted table c.function) at.is_empty).instructions ≡ 0 = (call_none at.instructions (added_by (counted table c.function) at.is_empty).instructions (cond c.used (counted table c.function).if_used 0) zero_next).1 in
      let none_there : k.from_empty.instructions ≡ 0 = ap (λ (x : BlockExtent). x.instructions) (sym begun) ∙ quiet in
      let empty_next : next.is_empty ≡ true = ap (λ (x : BlockExtent). x.is_empty) begun ∙ leave c.function k is none_there in
      let rest = stays_empty ps next empty_next none followed here.1 in
      record { idle = (quiet_is c.function k is none_there, rest.idle); empty = rest.empty }

-- ---- pieces that are settled

first_of : (Q : ℕ → Type 0) (xs : List PieceView) (p : PieceView) → AreIdle Q (xs ++ p ∷ []) → AreIdle Q xs × IsIdle Q p
first_of Q [] p (one, all) = (tt, one)
first_of Q (x ∷ xs) p (one, all) = let rest = first_of Q xs p all in ((one, rest.0), rest.1)

counted_more : (table : List (Option FunctionCounts)) (xs : List PieceView) (p : PieceView) → are_counted table xs ≡ true → is_counted table (called p) ≡ true → are_counted table (xs ++ p ∷ []) ≡ true
counted_more table [] p all one = ap (λ b. cond b true false) one
counted_more table (x ∷ xs) p all one =
    let here = both_true (is_counted table (called x)) (are_counted table xs) all in
    ap (λ b. cond b (are_counted table (xs ++ p ∷ [])) false) here.0 ∙ counted_more table xs p here.1 one

counted_or : (table : List (Option FunctionCounts)) (b : Bool) (g h : SettlingView) → are_counted table g.pieces ≡ true → are_counted table h.pieces ≡ true → are_counted table (cond b g h).pieces ≡ true
counted_or table true g h x y = x
counted_or table false g h x y = y

counted_renamed : (table : List (Option FunctionCounts)) (n : NamesView) (p : PieceView) (g : SettlingView) → is_counted table (called p) ≡ true → are_counted table g.pieces ≡ true → are_counted table (with_renamed n p g).pieces ≡ true
counted_renamed table n (Do s) g one all = counted_more table g.pieces (Do s) all refl
counted_renamed table n (DoIfUsed s) g one all = counted_more table g.pieces (DoIfUsed s) all refl
counted_renamed table n (End s exits) g one all = counted_more table g.pieces (renamed_end n s exits) all refl
counted_renamed table n (Mark label) g one all = counted_or table (is_last g.last (renamed n label)) g _ all (counted_more table g.pieces (Mark (renamed n label)) all refl)
counted_renamed table n (Call c) g one all = counted_more table g.pieces (Call c) all one

counted_if : (table : List (Option FunctionCounts)) (n : NamesView) (p : PieceView) (g : SettlingView) → is_counted table (called p) ≡ true → are_counted table g.pieces ≡ true → are_counted table (with_if table n p g).pieces ≡ true
unfolding with_if
counted_if table n p g one all = counted_or table (adds_nothing table p) g (with_renamed n p g) all (counted_renamed table n p g one all)

counted_all : (table : List (Option FunctionCounts)) (n : NamesView) (ps : List PieceView) (g : SettlingView) → are_counted table ps ≡ true → are_counted table g.pieces ≡ true → are_counted table (with_all table n ps g).pieces ≡ true
counted_all table n [] g each all = all
counted_all table n (p ∷ ps) g each all =
    let here = both_true (is_counted table (called p)) (are_counted table ps) each in
    counted_all table n ps (with_if table n p g) here.1 (counted_if table n p g here.0 all)

module _ (Q : ℕ → Type 0) (table : List (Option FunctionCounts)) (quiet : (m : ℕ) → is_silent table m ≡ true → Q m) where
  idle_or : (b : Bool) (g h : SettlingView) → (AreIdle Q h.pieces → AreIdle Q g.pieces) → AreIdle Q (cond b g h).pieces → AreIdle Q g.pieces
  idle_or true g h back idle = idle
  idle_or false g h back idle = back idle

  idle_if : (n : NamesView) (p : PieceView) (g : SettlingView) → AreIdle Q (with_if table n p g).pieces → AreIdle Q g.pieces × IsIdle Q p
  unfolding with_if
  idle_if n (Do s) g idle = first_of Q g.pieces (Do s) idle
  idle_if n (DoIfUsed s) g idle = first_of Q g.pieces (DoIfUsed s) idle
  idle_if n (End s exits) g idle = absurd (first_of Q g.pieces (renamed_end n s exits) idle).1
  idle_if n (Mark label) g idle = (idle_or (is_last g.last (renamed n label)) g _ (λ all. (first_of Q g.pieces (Mark (renamed n label)) all).0) idle, tt)
  idle_if n (Call c) g idle = by (is_silent table c.function) refl idle
    where
      by : (b : Bool) → is_silent table c.function ≡ b → AreIdle Q (cond b g (record { pieces = g.pieces ++ Call c ∷ []; last = g.last })).pieces → AreIdle Q g.pieces × Q c.function
      by true e idle = (idle, quiet c.function e)
      by false e idle = first_of Q g.pieces (Call c) idle

  -- what settling leaves out is idle
  pub idle_all : (n : NamesView) (ps : List PieceView) (g : SettlingView) → AreIdle Q (with_all table n ps g).pieces → AreIdle Q g.pieces × AreIdle Q ps
  idle_all n [] g idle = (idle, tt)
  idle_all n (p ∷ ps) g idle =
      let rest = idle_all n ps (with_if table n p g) idle in
      let here = idle_if n p g rest.0 in
      (here.0, (here.1, rest.1))

-- ---- functions without an instruction

abbrev followed : (u : UnitView) (n : ℕ) (f : FunctionView) (t : TemplateView) (table : List (Option FunctionCounts)) → IsTemplateOf u n f t → AreFollowed (normalized table t).pieces
followed u n f t table is = normalized_followed table t (template_followed u.structs u.model.pointer u.model.int f (n == u.entry) t is.is_template)

-- a function that has none leaves an empty block
leaves_empty : (u : UnitView) (n : ℕ) (c : FunctionCounts) → Counts u n c → c.from_empty.instructions ≡ 0 → c.from_empty.is_empty ≡ true
leaves_empty u n c (counts _ f t table is all each) none =
    (stays_empty (λ m. Unit {0}) table (λ m k at quiet. tt) (λ m k at quiet. leaves_empty u m k (each m k at) quiet) (normalized table t).pieces (nothing true) refl none (followed u n f t table is) (counted_all table (renaming table t.pieces t.labels) t.pieces nothing_normalized all refl)).empty

no_silence : (c : FunctionCounts) → c.is_silent ≡ false → c.is_silent ≡ true → ⊥
no_silence c loud silent = by (sym loud ∙ silent)
  where
    by : false ≡ true → ⊥
    by e = cc

first_true : (a b : Bool) → (a && b) ≡ true → a ≡ true
first_true true b e = refl
first_true false b e = cc

nothing_done : (u : UnitView) (n : ℕ) (c : FunctionCounts) → Counts u n c → c.is_silent ≡ true → c.from_empty.instructions ≡ 0
nothing_done u n c (counts _ f t table is all each) silent =
    let at = extent table (normalized table t).pieces true in
    eqb-true at.instructions 0 (first_true (at.instructions == 0) (f.parameters == 0 && is_void f.returns) silent)

-- a function that adds nothing has none
silent_holds : (Q : ℕ → Type 0) (u : UnitView) (table : List (Option FunctionCounts)) (n : ℕ) → AreCounts u table → HoldsOfQuiet Q table → is_silent table n ≡ true → Q n
silent_holds Q u table n are quiet silent = by (slice_get table n) refl
  where
    by : (o : Option (Option FunctionCounts)) → slice_get table n ≡ o → Q n
    by None is = absurd (no_silence (counted table n) (ap (λ o. (counts_of o).is_silent) is) silent)
    by (Some None) is = absurd (no_silence (counted table n) (ap (λ o. (counts_of o).is_silent) is) silent)
    by (Some (Some c)) is = quiet n c is (nothing_done u n c (are n c is) (ap (λ o. (counts_of o).is_silent) (sym is) ∙ silent))

pub silent_is_quiet : (u : UnitView) (table : List (Option FunctionCounts)) (n : ℕ) → AreCounts u table → is_silent table n ≡ true → Quiet u n
silent_is_quiet u table n are silent = silent_holds (Quiet u) u table n are (λ m c is none. record { counts = c; are_counts = are m c is; none = none }) silent

-- the pieces of a function without an instruction are idle
pub idle_template : (Q : ℕ → Type 0) (u : UnitView) (n : ℕ) (f g : FunctionView) (t s : TemplateView) (table : List (Option FunctionCounts)) → IsTemplateOf u n f t → IsTemplateOf u n g s → are_counted table s.pieces ≡ true → AreCounts u table → HoldsOfQuiet Q table → (extent table (normalized table s).pieces true).instructions ≡ 0 → AreIdle Q t.pieces
idle_template Q u n f g t s table own is all each quiet none =
    let same = one_template u n f g t s own is in
    let names = renaming table s.pieces s.labels in
    let stays = stays_empty Q table quiet (λ m k at quiet. leaves_empty u m k (each m k at) quiet) (normalized table s).pieces (nothing true) refl none (followed u n g s table is) (counted_all table names s.pieces nothing_normalized all refl) in
    subst (λ (x : TemplateView). AreIdle Q x.pieces) (sym same) (idle_all Q table (λ m silent. silent_holds Q u table m each quiet silent) names s.pieces nothing_normalized stays.idle).1

quiet_template : (u : UnitView) (n : ℕ) (f : FunctionView) (t : TemplateView) (c : FunctionCounts) → IsTemplateOf u n f t → Counts u n c → c.from_empty.instructions ≡ 0 → AreIdle (Quiet u) t.pieces
quiet_template u n f t c own (counts _ g s table is all each) none = idle_template (Quiet u) u n f g t s table own is all each (λ m k at quiet. record { counts = k; are_counts = each m k at; none = quiet }) none

-- its pieces are labels and calls of such functions
pub quiet_pieces : (u : UnitView) (n : ℕ) (made settles : TemplateView) → Settles u n made settles → Quiet u n → AreIdle (Quiet u) made.pieces
quiet_pieces u n made settles known quiet = quiet_template u n known.function made quiet.counts known.is_template quiet.are_counts quiet.none
