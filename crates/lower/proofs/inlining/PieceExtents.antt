-- What pieces add, from any point on.
use Rattle.std.proofs.Common.{◌≡◌, ℕ, ◌+◌, ◌≤◌, ◌^◌, Bool, true, false, cond, min, List, [], ◌∷◌, Option, refl, arith, ap, sym, ◌∙◌}
use Rattle.lower_templates.specs.Worklist.Pieces.{PieceView, Do, DoIfUsed, End, Mark, Call}
use Rattle.lower_objects.specs.declared.counts.function_counts.BlockExtent.{BlockExtent}
use Rattle.lower_objects.specs.declared.counts.function_counts.FunctionCounts.{FunctionCounts}
use Rattle.lower_objects.specs.Counts.Extents.{capped, with_instruction, with_end, with_mark, added_by, with_call}
use Rattle.lower_objects.specs.Counts.PieceCounts.{nothing, counted, with_piece, with_pieces, extent, if_used_by, if_used}
use Rattle.lower.specs.TemplateLaws.PieceOrder.{GoesOn, AreFollowed, is_end, last_ends}

pub same_extent : (a b : BlockExtent) → a.blocks ≡ b.blocks → a.instructions ≡ b.instructions → a.is_empty ≡ b.is_empty → a ≡ b
same_extent a b p q r = λ i. record { blocks = p i; instructions = q i; is_empty = r i }

-- sums that are capped
sum_left : (m a b : ℕ) → min (min a m + b) m ≡ min (a + b) m
sum_left m a b = omega arith

sum_right : (m a b : ℕ) → min (a + min b m) m ≡ min (a + b) m
sum_right m a b = omega arith

sum_in : (m a b c : ℕ) → min (min (a + b) m + c) m ≡ min (a + min (b + c) m) m
sum_in m a b c = omega arith

sum_out : (m a b c : ℕ) → min (min (a + b) m + c) m ≡ min (min (a + c) m + b) m
sum_out m a b c = omega arith

sum_none : (m a : ℕ) → a ≤ m → min (a + 0) m ≡ a
sum_none m a le = omega arith

sum_more : (m a b c : ℕ) → min (min (a + b) m + c) m ≡ min (a + (b + c)) m
sum_more m a b c = omega arith

most : (m a : ℕ) → min a m ≤ m
most m a = omega arith

pub capped_left : (a b : ℕ) → capped (capped a + b) ≡ capped (a + b)
capped_left a b = sum_left (10 ^ 18) a b

pub capped_right : (a b : ℕ) → capped (a + capped b) ≡ capped (a + b)
capped_right a b = sum_right (10 ^ 18) a b

pub capped_in : (a b c : ℕ) → capped (capped (a + b) + c) ≡ capped (a + capped (b + c))
capped_in a b c = sum_in (10 ^ 18) a b c

capped_out : (a b c : ℕ) → capped (capped (a + b) + c) ≡ capped (capped (a + c) + b)
capped_out a b c = sum_out (10 ^ 18) a b c

capped_more : (a b c : ℕ) → capped (capped (a + b) + c) ≡ capped (a + (b + c))
capped_more a b c = sum_more (10 ^ 18) a b c

capped_most : (a : ℕ) → capped a ≤ 10 ^ 18
capped_most a = most (10 ^ 18) a

pub record IsCapped (e : BlockExtent) : Type 0 where
  pub blocks : e.blocks ≤ 10 ^ 18
  pub instructions : e.instructions ≤ 10 ^ 18

-- what is counted behind what was counted
abbrev pub joined : BlockExtent → BlockExtent → BlockExtent
joined a b = record { blocks = capped (a.blocks + b.blocks); instructions = capped (a.instructions + b.instructions); is_empty = b.is_empty }

pub at_cond : {A B : Type 0} (f : A → B) (b : Bool) (x y : A) → f (cond b x y) ≡ cond b (f x) (f y)
at_cond f true x y = refl
at_cond f false x y = refl

joined_instruction : (a b : BlockExtent) → with_instruction (joined a b) ≡ joined a (with_instruction b)
joined_instruction a b = same_extent (with_instruction (joined a b)) (joined a (with_instruction b)) refl (capped_in a.instructions b.instructions 1) refl

joined_end : (a b : BlockExtent) → with_end (joined a b) ≡ joined a (with_end b)
joined_end a b = same_extent (with_end (joined a b)) (joined a (with_end b)) (capped_in a.blocks b.blocks 1) (capped_in a.instructions b.instructions 1) refl

joined_mark : (a b : BlockExtent) → with_mark (joined a b) ≡ joined a (with_mark b)
joined_mark a b = ap (λ e. cond b.is_empty (joined a b) e) (joined_end a b) ∙ sym (at_cond (joined a) b.is_empty b (with_end b))

joined_call : (c : FunctionCounts) (used : Bool) (a b : BlockExtent) → with_call (joined a b) c used ≡ joined a (with_call b c used)
joined_call c used a b =
    same_extent (with_call (joined a b) c used) (joined a (with_call b c used))
    (capped_in a.blocks b.blocks (added_by c b.is_empty).blocks)
    (capped_in a.instructions b.instructions (capped ((added_by c b.is_empty).instructions + cond used c.if_used 0)))
    refl

joined_piece : (table : List (Option FunctionCounts)) (p : PieceView) (a b : BlockExtent) → with_piece table p (joined a b) ≡ joined a (with_piece table p b)
joined_piece table (Do s) a b = joined_instruction a b
joined_piece table (DoIfUsed s) a b = refl
joined_piece table (End s exits) a b = joined_end a b
joined_piece table (Mark label) a b = joined_mark a b
joined_piece table (Call c) a b = joined_call (counted table c.function) c.used a b

joined_pieces : (table : List (Option FunctionCounts)) (ps : List PieceView) (a b : BlockExtent) → with_pieces table ps (joined a b) ≡ joined a (with_pieces table ps b)
joined_pieces table [] a b = refl
joined_pieces table (p ∷ ps) a b = ap (with_pieces table ps) (joined_piece table p a b) ∙ joined_pieces table ps a (with_piece table p b)

-- pieces add to what was counted what they add to nothing
pub from_nothing : (table : List (Option FunctionCounts)) (ps : List PieceView) (e : BlockExtent) → IsCapped e → with_pieces table ps e ≡ joined e (extent table ps e.is_empty)
from_nothing table ps e is =
    ap (with_pieces table ps) (sym (same_extent (joined e (nothing e.is_empty)) e (sum_none (10 ^ 18) e.blocks is.blocks) (sum_none (10 ^ 18) e.instructions is.instructions) refl))
    ∙ joined_pieces table ps e (nothing e.is_empty)

-- so many instructions more
abbrev pub with_more : ℕ → BlockExtent → BlockExtent
with_more n e = record { blocks = e.blocks; instructions = capped (e.instructions + n); is_empty = e.is_empty }

more_mark : (n : ℕ) (e : BlockExtent) → with_end (with_more n e) ≡ with_more n (with_end e)
more_mark n e = same_extent (with_end (with_more n e)) (with_more n (with_end e)) refl (capped_out e.instructions n 1) refl

more_piece : (table : List (Option FunctionCounts)) (p : PieceView) (n : ℕ) (e : BlockExtent) → with_piece table p (with_more n e) ≡ with_more n (with_piece table p e)
more_piece table (Do s) n e = same_extent (with_instruction (with_more n e)) (with_more n (with_instruction e)) refl (capped_out e.instructions n 1) refl
more_piece table (DoIfUsed s) n e = refl
more_piece table (End s exits) n e = more_mark n e
more_piece table (Mark label) n e = ap (λ x. cond e.is_empty (with_more n e) x) (more_mark n e) ∙ sym (at_cond (with_more n) e.is_empty e (with_end e))
more_piece table (Call c) n e =
    let k = counted table c.function in
    same_extent (with_call (with_more n e) k c.used) (with_more n (with_call e k c.used)) refl
    (capped_out e.instructions n (capped ((added_by k e.is_empty).instructions + cond c.used k.if_used 0)))
    refl

more_pieces : (table : List (Option FunctionCounts)) (ps : List PieceView) (n : ℕ) (e : BlockExtent) → with_pieces table ps (with_more n e) ≡ with_more n (with_pieces table ps e)
more_pieces table [] n e = refl
more_pieces table (p ∷ ps) n e = ap (with_pieces table ps) (more_piece table p n e) ∙ more_pieces table ps n (with_piece table p e)

-- what a copy adds, whose value is used or not
abbrev pub done_piece : List (Option FunctionCounts) → Bool → PieceView → BlockExtent → BlockExtent
done_piece table used (Do s) e = with_instruction e
done_piece table used (DoIfUsed s) e = cond used (with_instruction e) e
done_piece table used (End s exits) e = with_end e
done_piece table used (Mark label) e = with_mark e
done_piece table used (Call c) e = with_call e (counted table c.function) c.used

abbrev pub done_pieces : List (Option FunctionCounts) → Bool → List PieceView → BlockExtent → BlockExtent
done_pieces table used [] e = e
done_pieces table used (p ∷ ps) e = done_pieces table used ps (done_piece table used p e)

-- the instructions that are done only where the value is used
abbrev pub used_steps : List PieceView → ℕ
used_steps [] = 0
used_steps (p ∷ ps) = if_used_by p + used_steps ps

unused_piece : (table : List (Option FunctionCounts)) (p : PieceView) (e : BlockExtent) → done_piece table false p e ≡ with_piece table p e
unused_piece table (Do s) e = refl
unused_piece table (DoIfUsed s) e = refl
unused_piece table (End s exits) e = refl
unused_piece table (Mark label) e = refl
unused_piece table (Call c) e = refl

pub unused_pieces : (table : List (Option FunctionCounts)) (ps : List PieceView) (e : BlockExtent) → done_pieces table false ps e ≡ with_pieces table ps e
unused_pieces table [] e = refl
unused_pieces table (p ∷ ps) e = ap (done_pieces table false ps) (unused_piece table p e) ∙ unused_pieces table ps (with_piece table p e)

one_before : (e : BlockExtent) → with_instruction (with_instruction e) ≡ with_more 1 (with_instruction e)
one_before e = refl

-- an instruction in a block that goes on adds nothing else
one_more : (table : List (Option FunctionCounts)) (ps : List PieceView) (e : BlockExtent) → GoesOn ps → AreFollowed ps → with_pieces table ps (with_instruction e) ≡ with_more 1 (with_pieces table ps e)
one_more table [] e on followed = absurd on
one_more table (Do s ∷ ps) e on followed = more_pieces table ps 1 (with_instruction e)
one_more table (DoIfUsed s ∷ ps) e on (next, followed) = one_more table ps e next followed
one_more table (End s exits ∷ ps) e on followed = ap (with_pieces table ps) (more_mark 1 e) ∙ more_pieces table ps 1 (with_end e)
one_more table (Mark label ∷ ps) e on followed = absurd on
one_more table (Call c ∷ ps) e on followed = absurd on

-- instructions more, and then more
pub more_twice : (m n k : ℕ) (e : BlockExtent) → m + n ≡ k → with_more n (with_more m e) ≡ with_more k e
more_twice m n k e is = same_extent (with_more n (with_more m e)) (with_more k e) refl (capped_more e.instructions m n ∙ ap (λ j. capped (e.instructions + j)) is) refl

capped_piece : (table : List (Option FunctionCounts)) (p : PieceView) (e : BlockExtent) → IsCapped e → IsCapped (with_piece table p e)
capped_piece table (Do s) e is = record { blocks = is.blocks; instructions = capped_most _ }
capped_piece table (DoIfUsed s) e is = is
capped_piece table (End s exits) e is = record { blocks = capped_most _; instructions = capped_most _ }
capped_piece table (Mark label) e is = by_empty e.is_empty
  where
    by_empty : (b : Bool) → IsCapped (cond b e (with_end e))
    by_empty true = is
    by_empty false = record { blocks = capped_most _; instructions = capped_most _ }
capped_piece table (Call c) e is = record { blocks = capped_most _; instructions = capped_most _ }

pub capped_pieces : (table : List (Option FunctionCounts)) (ps : List PieceView) (e : BlockExtent) → IsCapped e → IsCapped (with_pieces table ps e)
capped_pieces table [] e is = is
capped_pieces table (p ∷ ps) e is = capped_pieces table ps (with_piece table p e) (capped_piece table p e is)

none_more : (e : BlockExtent) → IsCapped e → e ≡ with_more 0 e
none_more e is = same_extent e (with_more 0 e) refl (sym (sum_none (10 ^ 18) e.instructions is.instructions)) refl

zero_first : (k : ℕ) → k ≡ 0 + k
zero_first k = omega arith

-- where the value is used, its instructions come on top
pub used_pieces : (table : List (Option FunctionCounts)) (ps : List PieceView) (e : BlockExtent) → AreFollowed ps → IsCapped e → done_pieces table true ps e ≡ with_more (used_steps ps) (with_pieces table ps e)
used_pieces table [] e followed is = none_more e is
used_pieces table (Do s ∷ ps) e (one, followed) is = used_pieces table ps (with_instruction e) followed (capped_piece table (Do s) e is) ∙ ap (λ k. with_more k (with_pieces table ps (with_instruction e))) (zero_first (used_steps ps))
used_pieces table (DoIfUsed s ∷ ps) e (on, followed) is =
    used_pieces table ps (with_instruction e) followed (capped_piece table (Do s) e is)
    ∙ ap (with_more (used_steps ps)) (one_more table ps e on followed)
    ∙ more_twice 1 (used_steps ps) (1 + used_steps ps) (with_pieces table ps e) refl
used_pieces table (End s exits ∷ ps) e (one, followed) is = used_pieces table ps (with_end e) followed (capped_piece table (End s exits) e is) ∙ ap (λ k. with_more k (with_pieces table ps (with_end e))) (zero_first (used_steps ps))
used_pieces table (Mark label ∷ ps) e (one, followed) is = used_pieces table ps (with_mark e) followed (capped_piece table (Mark label) e is) ∙ ap (λ k. with_more k (with_pieces table ps (with_mark e))) (zero_first (used_steps ps))
used_pieces table (Call c ∷ ps) e (one, followed) is =
    let after = with_call e (counted table c.function) c.used in
    used_pieces table ps after followed (capped_piece table (Call c) e is) ∙ ap (λ k. with_more k (with_pieces table ps after)) (zero_first (used_steps ps))

pub if_used_sum : (ps : List PieceView) (count : ℕ) → count ≤ 10 ^ 18 → if_used ps count ≡ capped (count + used_steps ps)
if_used_sum [] count le = sym (sum_none (10 ^ 18) count le)
if_used_sum (p ∷ ps) count le = if_used_sum ps (capped (count + if_used_by p)) (capped_most _) ∙ capped_more count (if_used_by p) (used_steps ps)

-- what is counted of a function that pieces are the template of
pub record CountsOf (table : List (Option FunctionCounts)) (ps : List PieceView) (c : FunctionCounts) : Type 0 where
  pub from_empty : c.from_empty ≡ extent table ps true
  pub from_begun : c.from_begun ≡ extent table ps false
  pub if_used : c.if_used ≡ if_used ps 0

added : (table : List (Option FunctionCounts)) (ps : List PieceView) (c : FunctionCounts) (is_empty : Bool) → CountsOf table ps c → added_by c is_empty ≡ extent table ps is_empty
added table ps c true of = of.from_empty
added table ps c false of = of.from_begun

used_count : (c : FunctionCounts) (ps : List PieceView) → c.if_used ≡ if_used ps 0 → c.if_used ≡ capped (0 + used_steps ps)
used_count c ps is = is ∙ if_used_sum ps 0 (omega arith)

last_sum : (m a b c : ℕ) → min (min (a + b) m + c) m ≡ min (a + min (b + min (0 + c) m) m) m
last_sum m a b c = omega arith

-- the pieces of a function that is called add what a call of it adds
pub done_call : (table : List (Option FunctionCounts)) (ps : List PieceView) (c : FunctionCounts) (used : Bool) (e : BlockExtent) → CountsOf table ps c → AreFollowed ps → IsCapped e → done_pieces table used ps e ≡ with_call e c used
done_call table ps c true e of followed is =
    let x = extent table ps e.is_empty in
    let a = sym (added table ps c e.is_empty of) in
    used_pieces table ps e followed is
    ∙ ap (with_more (used_steps ps)) (from_nothing table ps e is)
    ∙ same_extent (with_more (used_steps ps) (joined e x)) (with_call e c true)
    (ap (λ y. capped (e.blocks + y.blocks)) a)
    (last_sum (10 ^ 18) e.instructions x.instructions (used_steps ps) ∙ ap (λ k. capped (e.instructions + capped (x.instructions + k))) (sym (used_count c ps of.if_used)) ∙ ap (λ y. capped (e.instructions + capped (y.instructions + c.if_used))) a)
    (ap (λ y. y.is_empty) a)
done_call table ps c false e of followed is =
    let x = extent table ps e.is_empty in
    let a = sym (added table ps c e.is_empty of) in
    unused_pieces table ps e
    ∙ from_nothing table ps e is
    ∙ same_extent (joined e x) (with_call e c false)
    (ap (λ y. capped (e.blocks + y.blocks)) a)
    (no_more (10 ^ 18) e.instructions x.instructions ∙ ap (λ y. capped (e.instructions + capped (y.instructions + 0))) a)
    (ap (λ y. y.is_empty) a)
  where
    no_more : (m a b : ℕ) → min (a + b) m ≡ min (a + min (b + 0) m) m
    no_more m a b = omega arith

-- behind a piece that ends a block nothing is left of it
empty_behind : (table : List (Option FunctionCounts)) (p : PieceView) (e : BlockExtent) → is_end p ≡ true → (with_piece table p e).is_empty ≡ true
empty_behind table (Do s) e is = cc
empty_behind table (DoIfUsed s) e is = cc
empty_behind table (End s exits) e is = refl
empty_behind table (Mark label) e is = cc
empty_behind table (Call c) e is = cc

pub ends_empty : (table : List (Option FunctionCounts)) (before : Bool) (ps : List PieceView) (e : BlockExtent) → (before ≡ true → e.is_empty ≡ true) → last_ends before ps ≡ true → (with_pieces table ps e).is_empty ≡ true
ends_empty table before [] e known last = known last
ends_empty table before (p ∷ ps) e known last = ends_empty table (is_end p) ps (with_piece table p e) (λ is. empty_behind table p e is) last
