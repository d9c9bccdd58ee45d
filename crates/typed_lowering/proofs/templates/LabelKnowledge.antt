-- What is known at labels, where works have the labels from a number on to another one.
use Rattle.std.proofs.Common.{◌≡◌, ◌≤◌, ◌<◌, ℕ, cond, nat_lt, arith, ap, ◌∙◌}
use Rattle.std.proofs.lemmas.Bool.{lt-ltb, le-ltb}
use Rattle.typed_programs.specs.Types.TypedStates.{Temporaries}
use Rattle.typed_lowering.specs.Conversions.KnownValues.{nothing}
use Rattle.typed_lowering.specs.Conversions.WorkLaws.{Labelled}

-- at the labels below a number, and at the others
abbrev pub parted : ℕ → (ℕ → Temporaries) → (ℕ → Temporaries) → ℕ → Temporaries
parted n first last l = cond (nat_lt l n) (first l) (last l)

pub parted_first : (n : ℕ) (first last : ℕ → Temporaries) (l : ℕ) → l < n → parted n first last l ≡ first l
parted_first n first last l less = ap (λ b. cond b (first l) (last l)) (lt-ltb l n less)

pub parted_last : (n : ℕ) (first last : ℕ → Temporaries) (l : ℕ) → n ≤ l → parted n first last l ≡ last l
parted_last n first last l from = ap (λ b. cond b (first l) (last l)) (le-ltb l n from)

less_on : (l b c : ℕ) → l < b → b ≤ c → l < c
less_on l b c less le = omega (arith, less, le)

through : (a b c : ℕ) → a ≤ b → b ≤ c → a ≤ c
through a b c x y = omega (arith, x, y)

-- works that have their labels one behind the other
pub joined : (a b c : ℕ) (A B : (ℕ → Temporaries) → Type 0) → a ≤ b → b ≤ c → Labelled a b A → Labelled b c B → Labelled a c (λ labels. A labels × B labels)
joined a b c A B first second x y = record {
  own = parted b x.own y.own;
  is = λ labels agree. (x.is labels (λ l from to. agree l from (less_on l b c to second) ∙ parted_first b x.own y.own l to), y.is labels (λ l from to. agree l (through a b l first from) to ∙ parted_last b x.own y.own l from));
}

pub labelled_more : {from to : ℕ} {A B : (ℕ → Temporaries) → Type 0} → ((labels : ℕ → Temporaries) → A labels → B labels) → Labelled from to A → Labelled from to B
labelled_more more x = record { own = x.own; is = λ labels agree. more labels (x.is labels agree) }

-- labels at which nothing is known
pub new_labels : (a b : ℕ) → Labelled a b (λ labels. (l : ℕ) → a ≤ l → l < b → labels l ≡ nothing)
new_labels a b = record { own = λ l. nothing; is = λ labels agree. agree }
