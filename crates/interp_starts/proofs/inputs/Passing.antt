-- Sums of sizes that pass a number.
use Rattle.std.proofs.Common.{◌≡◌, ℕ, ◌+◌, ◌<◌, ◌≤◌, true, false, cond, nat_lt, [], ◌∷◌, ◌++◌, length, refl, sym, ap, subst, ◌∙◌, arith, ⊎_elim}
use Rattle.std.proofs.lemmas.Bool.{cases_lt, lt-ltb, le-ltb}
use Rattle.memory_model.specs.Memory.Instances.{Instance, Memory, total_size}
use Rattle.interp_starts.specs.Inputs.Sums.{passing_from, PassesAt, PassesWith}

pub total_append : (m n : Memory) → total_size (m ++ n) ≡ total_size m + total_size n
total_append [] n = omega arith
total_append (i ∷ is) n =
    let rest : total_size (is ++ n) ≡ total_size is + total_size n = total_append is n in
    omega arith

-- the instance with which a sum passes
passing_at : (most sum : ℕ) (before : Memory) (x : Instance) (rest : Memory) → sum + total_size before ≤ most → most < (sum + total_size before) + length x.bytes → passing_from most sum (before ++ x ∷ rest) ≡ (sum + total_size before) + length x.bytes
passing_at most sum [] x rest h k =
    let large : nat_lt most (sum + length x.bytes) ≡ true = lt-ltb most (sum + length x.bytes) (omega arith) in
    let same : sum + length x.bytes ≡ (sum + 0) + length x.bytes = omega arith in
    ap (λ b. cond b (sum + length x.bytes) (passing_from most (sum + length x.bytes) rest)) large ∙ same
passing_at most sum (i ∷ is) x rest h k =
    let small : nat_lt most (sum + length i.bytes) ≡ false = le-ltb most (sum + length i.bytes) (omega arith) in
    let same : ((sum + length i.bytes) + total_size is) + length x.bytes ≡ (sum + (length i.bytes + total_size is)) + length x.bytes = omega arith in
    ap (λ b. cond b (sum + length i.bytes) (passing_from most (sum + length i.bytes) (is ++ x ∷ rest))) small
    ∙ passing_at most (sum + length i.bytes) is x rest (omega arith) (omega arith)
    ∙ same

-- what follows does not count
passing_more : (most sum : ℕ) (m more : Memory) → sum ≤ most → most < sum + total_size m → passing_from most sum (m ++ more) ≡ passing_from most sum m
passing_more most sum [] more h k = absurd (omega arith)
passing_more most sum (i ∷ is) more h k =
    ⊎_elim
    (λ (lt : most < sum + length i.bytes).
    ap (λ b. cond b (sum + length i.bytes) (passing_from most (sum + length i.bytes) (is ++ more))) (lt-ltb most (sum + length i.bytes) lt)
    ∙ sym (ap (λ b. cond b (sum + length i.bytes) (passing_from most (sum + length i.bytes) is)) (lt-ltb most (sum + length i.bytes) lt)))
    (λ (ge : sum + length i.bytes ≤ most).
    ap (λ b. cond b (sum + length i.bytes) (passing_from most (sum + length i.bytes) (is ++ more))) (le-ltb most (sum + length i.bytes) ge)
    ∙ passing_more most (sum + length i.bytes) is more ge (omega arith)
    ∙ sym (ap (λ b. cond b (sum + length i.bytes) (passing_from most (sum + length i.bytes) is)) (le-ltb most (sum + length i.bytes) ge)))
    (cases_lt most (sum + length i.bytes))

-- an instance whose size passes
pub passes_at : (most count size : ℕ) (before : Memory) (x : Instance) → PassesWith most (total_size before) size count → length x.bytes ≡ size → PassesAt most count (before ++ x ∷ [])
passes_at most count size before x p e =
    let within = p.within in
    let passes = p.passes in
    let counted = p.counted in
    let all : total_size (before ++ x ∷ []) ≡ total_size before + (length x.bytes + 0) = total_append before (x ∷ []) in
    let same : (0 + total_size before) + length x.bytes ≡ total_size before + size = omega arith in
    record { large = omega arith; counted = counted ∙ sym same ∙ sym (passing_at most 0 before x [] (omega arith) (omega arith)) }

pub passed_more : (most count : ℕ) (m more : Memory) → PassesAt most count m → PassesAt most count (m ++ more)
passed_more most count m more p =
    let large = p.large in
    let counted = p.counted in
    let all : total_size (m ++ more) ≡ total_size m + total_size more = total_append m more in
    record { large = omega arith; counted = counted ∙ sym (passing_more most 0 m more (omega arith) (omega arith)) }

-- memory with more instances
pub record Extends (m n : Memory) : Type 0 where
  pub more : Memory
  pub is : n ≡ m ++ more

pub none_more : (m : Memory) → m ++ [] ≡ m
none_more [] = refl
none_more (i ∷ is) = ap (λ is. i ∷ is) (none_more is)

pub append_both : (m n k : Memory) → (m ++ n) ++ k ≡ m ++ (n ++ k)
append_both [] n k = refl
append_both (i ∷ is) n k = ap (λ is. i ∷ is) (append_both is n k)

pub extends_none : (m : Memory) → Extends m m
extends_none m = record { more = []; is = sym (none_more m) }

pub extends_one : (m : Memory) (x : Instance) → Extends m (m ++ x ∷ [])
extends_one m x = record { more = x ∷ []; is = refl }

pub extends_both : (m n k : Memory) → Extends m n → Extends n k → Extends m k
extends_both m n k p q = record { more = p.more ++ q.more; is = q.is ∙ ap (λ z. z ++ q.more) p.is ∙ append_both m p.more q.more }

pub passed_by : (most count : ℕ) (m n : Memory) → Extends m n → PassesAt most count m → PassesAt most count n
passed_by most count m n p q = subst (λ z. PassesAt most count z) (sym p.is) (passed_more most count m p.more q)
