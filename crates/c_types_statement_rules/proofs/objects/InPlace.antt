-- Lists whose items are changed one after another, each in its place.
use Rattle.std.proofs.Common.{◌≡◌, ◌<◌, ◌+◌, ◌∙◌, ℕ, zero, suc, List, [], ◌∷◌, map, length, slice_get, slice_set, slice_index_or, Option, Some, None, option_map, refl, sym, ap, arith}
use Rattle.std.proofs.lemmas.List.{map-set, length-map}
use Rattle.std.proofs.lemmas.Option.{slice_get-map, slice_get_read}
use Rattle.c_types_statement_rules.specs.Objects.Changes.{changed_at, changed, done}

-- an item as it is seen
pub seen_at : {A V : Type 0} (v : A → V) (xs : List A) (i : ℕ) (x : A) → i < length xs → x ≡ slice_index_or xs i x → slice_get (map v xs) i ≡ Some (v x)
seen_at v xs i x within read = slice_get-map v xs i ∙ ap (option_map v) (slice_get_read xs (length xs) i x refl within read)

-- an item that is changed in its place
pub changed_in : {A V : Type 0} (v : A → V) (f : V → V) (xs : List A) (i : ℕ) (x made : A) → i < length xs → x ≡ slice_index_or xs i x → v made ≡ f (v x) → map v (slice_set xs i made) ≡ changed f i (map v xs)
changed_in v f xs i x made within read is =
    map-set v xs i made
    ∙ ap (slice_set (map v xs) i) is
    ∙ sym (ap (changed_at f i (map v xs)) (seen_at v xs i x within read))

one_behind : {V : Type 0} (f : V → V) (n : ℕ) (v : V) (vs : List V) (o : Option V) → changed_at f (suc n) (v ∷ vs) o ≡ v ∷ changed_at f n vs o
one_behind f n v vs None = refl
one_behind f n v vs (Some x) = refl

-- an item more is changed
one_more : {V : Type 0} (f : V → V) (n : ℕ) (vs : List V) → changed f n (done f n vs) ≡ done f (suc n) vs
one_more f zero [] = refl
one_more f zero (v ∷ vs) = refl
one_more f (suc n) [] = refl
one_more f (suc n) (v ∷ vs) = one_behind f n (f v) (done f n vs) (slice_get (done f n vs) n) ∙ ap (λ l. f v ∷ l) (one_more f n vs)

pub next_done : {V : Type 0} (f : V → V) (n : ℕ) (vs : List V) → changed f n (done f n vs) ≡ done f (n + 1) vs
next_done f n vs =
    let more : suc n ≡ n + 1 = omega arith in
    one_more f n vs ∙ ap (λ m. done f m vs) more

-- all items are changed
pub all_done : {V : Type 0} (f : V → V) (vs : List V) → done f (length vs) vs ≡ map f vs
all_done f [] = refl
all_done f (v ∷ vs) = ap (λ l. f v ∷ l) (all_done f vs)

-- all items of a list that is seen so are changed
pub all_seen : {A V : Type 0} (v : A → V) (f : V → V) (xs : List A) (n : ℕ) → n ≡ length xs → done f n (map v xs) ≡ map f (map v xs)
all_seen v f xs n is = ap (λ m. done f m (map v xs)) (is ∙ sym (length-map xs v)) ∙ all_done f (map v xs)
