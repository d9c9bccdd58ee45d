-- Lines that are read character by character.
use Rattle.std.proofs.Common.{◌≡◌, ℕ, zero, suc, ◌+◌, ◌-◌, ◌<◌, ℤ, pos, unsigned_abs, List, [], ◌∷◌, ◌++◌, refl, sym, ap, ◌∙◌, arith, append_assoc}
use Rattle.c_layout.specs.declared.data_model.Model.{Model}
use Rattle.memory_model.specs.Memory.Labels.{input_labels}
use Rattle.memory_model.specs.Memory.Bytes.{Content, number}
use Rattle.memory_model.specs.Effects.Worlds.{World, Why, Reply, goes, stops, behind, drawn}
use Rattle.memory_model.specs.Effects.LibraryCalls.{char_type, line_of, and_character}
use Rattle.interp_accesses.specs.WorldViews.{why_view, HaltsAs}
use Rattle.interp_accesses.specs.declared.worlds.Halt.{Halt}
use Rattle.interp_accesses.specs.declared.worlds.Halt.TheVariants as halt
use Rattle.interp_library.specs.Calls.Lines.{next_character, closed, ended_line}

abbrev pub behind_characters : List Content → Reply (List Content) → Reply (List Content)
behind_characters before reply = behind reply (λ cs w. goes (before ++ cs) w)

abbrev one_before : Content → Reply (List Content) → Reply (List Content)
one_before c reply = behind reply (λ cs w. goes (c ∷ cs) w)

abbrev as_content : Model → ℤ → Content
as_content m c = number (unsigned_abs c) (input_labels (char_type m))

drawn_first : (m : Model) (k : ℕ) (r : Reply ℤ) (x : Content) (w : World) → behind r (λ c v. goes (as_content m c) v) ≡ goes x w → behind r (λ c v. behind (line_of m k v) (and_character m c)) ≡ one_before x (line_of m k w)
drawn_first m k (goes c v) x w e =
    let first : as_content m c ≡ x = cc in
    let second : v ≡ w = cc in
    ap (λ y. one_before y (line_of m k v)) first ∙ ap (λ u. one_before x (line_of m k u)) second
drawn_first m k (stops why v) x w e = cc

drawn_not : (m : Model) (k : ℕ) (r : Reply ℤ) (why : Why) (w : World) → behind r (λ c v. goes (as_content m c) v) ≡ stops why w → behind r (λ c v. behind (line_of m k v) (and_character m c)) ≡ stops why w
drawn_not m k (goes c v) why w e = cc
drawn_not m k (stops y v) why w e = cc

regrouped : (before : List Content) (x : Content) (r : Reply (List Content)) → behind_characters before (one_before x r) ≡ behind_characters (before ++ x ∷ []) r
regrouped before x (goes cs w) = ap (λ z. goes z w) (sym (append_assoc before (x ∷ []) cs))
regrouped before x (stops why w) = refl

one_left : (n k : ℕ) → k < n → n - k ≡ suc (n - (k + 1))
one_left n k h = omega arith

-- one character more
pub character_more : (m : Model) (n k : ℕ) (before : List Content) (x : Content) (v w : World) (whole : Reply (List Content)) → k < n → whole ≡ behind_characters before (line_of m (n - k) v) → next_character m v ≡ goes x w → whole ≡ behind_characters (before ++ x ∷ []) (line_of m (n - (k + 1)) w)
character_more m n k before x v w whole h e next =
    e
    ∙ ap (λ j. behind_characters before (line_of m j v)) (one_left n k h)
    ∙ ap (behind_characters before) (drawn_first m (n - (k + 1)) (drawn v (pos 0) (pos 255)) x w next)
    ∙ regrouped before x (line_of m (n - (k + 1)) w)

stopped_before : (before : List Content) (r : Reply (List Content)) (why : Why) (w : World) → r ≡ stops why w → behind_characters before r ≡ stops why w
stopped_before before r why w e = ap (behind_characters before) e

-- no character more
pub character_not : (m : Model) (n k : ℕ) (before : List Content) (why : Why) (v w : World) (whole : Reply (List Content)) → k < n → whole ≡ behind_characters before (line_of m (n - k) v) → next_character m v ≡ stops why w → whole ≡ stops why w
character_not m n k before why v w whole h e next =
    e
    ∙ ap (λ j. behind_characters before (line_of m j v)) (one_left n k h)
    ∙ stopped_before before (line_of m (suc (n - (k + 1))) v) why w (drawn_not m (n - (k + 1)) (drawn v (pos 0) (pos 255)) why w next)

abbrev pub closing : Reply (List Content) → Reply (List Content)
closing reply = behind reply (λ cs w. goes (closed cs) w)

-- a line whose next character does not come
pub line_halted : (m : Model) (n k : ℕ) (before : List Content) (v w : World) (h : Halt) (whole : Reply (List Content)) → k < n → whole ≡ behind_characters before (line_of m (n - k) v) → HaltsAs (next_character m v) h w → HaltsAs (closing whole) h w
line_halted m n k before v w (halt.Stops why) whole less e next = ap closing (character_not m n k before (why_view why) v w whole less e next)
line_halted m n k before v w halt.Memory whole less e next = tt
