-- The contents of a line that is read.
use Rattle.std.proofs.Common.{◌≡◌, ℕ, zero, suc, ◌<◌, Some, List, [], ◌∷◌, ◌++◌, length, arith, subst, sym, refl, ap}
use Rattle.std.specs.Prelude.{slice_get, ℤ, pos, negsuc, ◌≤ℤ◌, unsigned_abs}
use Rattle.std.proofs.lemmas.Int.{ints}
use Rattle.c_layout.specs.declared.data_model.Model.{Model}
use Rattle.memory_model.specs.Memory.Labels.{Labels, no_labels, input_labels}
use Rattle.memory_model.specs.Memory.Bytes.{Content, indeterminate, number, part}
use Rattle.memory_model.specs.Effects.LibraryCalls.{char_type, and_character, line_of}
use Rattle.memory_model.specs.Effects.Worlds.{World, Reply, goes, stops, behind, drawn, OutOfDraws}
use Rattle.store_sound.specs.Concretization.FirstZeroBytes.{end, character, seen_as}
use Rattle.library_sound.proofs.calls.Calls.{DrawnEnd, gave, ran_out, drawn_end}

-- a number of one byte, with the labels of input
pub record IsInput (m : Model) (c : Content) : Type 0 where
  pub digit : ℕ
  pub small : digit < 256
  pub equal : c ≡ number digit (input_labels (char_type m))

abbrev pub AreInput : Model → List Content → Type 0
AreInput m cs = (j : ℕ) (c : Content) → slice_get cs j ≡ Some c → IsInput m c

-- so many characters are read, or the outside gives none
pub data LineEnd (m : Model) (k : ℕ) (w : World) (reply : Reply (List Content)) : Type 0 where
  read : (cs : List Content) (draws : List ℤ) → length cs ≡ k → AreInput m cs → reply ≡ goes cs (record w { draws = draws }) → LineEnd m k w reply
  no_more : (draws : List ℤ) → reply ≡ stops OutOfDraws (record w { draws = draws }) → LineEnd m k w reply

byte_of : (z : ℤ) → pos 0 ≤ℤ z → z ≤ℤ pos 255 → unsigned_abs z < 256
byte_of (pos k) low high = omega (arith, ints, high)
byte_of (negsuc k) low high = absurd (omega (arith, ints, low))

more_input : (m : Model) (z : ℤ) (cs : List Content) → pos 0 ≤ℤ z → z ≤ℤ pos 255 → AreInput m cs → AreInput m (number (unsigned_abs z) (input_labels (char_type m)) ∷ cs)
more_input m z cs low high h zero c e = let d : number (unsigned_abs z) (input_labels (char_type m)) ≡ c = cc in record { digit = unsigned_abs z; small = byte_of z low high; equal = sym d }
more_input m z cs low high h (suc j) c e = h j c e

behind_read : (m : Model) (k : ℕ) (w : World) (z : ℤ) → pos 0 ≤ℤ z → z ≤ℤ pos 255 → (reply : Reply (List Content)) → LineEnd m k w reply → LineEnd m (suc k) w (behind reply (and_character m z))
behind_read m k w z low high reply (read cs draws long input e) = read (number (unsigned_abs z) (input_labels (char_type m)) ∷ cs) draws (ap suc long) (more_input m z cs low high input) (ap (λ y. behind y (and_character m z)) e)
behind_read m k w z low high reply (no_more draws e) = no_more draws (ap (λ y. behind y (and_character m z)) e)

moved : (m : Model) (k : ℕ) (w : World) (draws : List ℤ) (reply : Reply (List Content)) → LineEnd m k (record w { draws = draws }) reply → LineEnd m k w reply
moved m k w draws reply (read cs more long input e) = read cs more long input e
moved m k w draws reply (no_more more e) = no_more more e

more_line : (m : Model) (k : ℕ) (w : World) → ((draws : List ℤ) → LineEnd m k (record w { draws = draws }) (line_of m k (record w { draws = draws }))) → DrawnEnd w (pos 0) (pos 255) (drawn w (pos 0) (pos 255)) → LineEnd m (suc k) w (behind (drawn w (pos 0) (pos 255)) (λ c w. behind (line_of m k w) (and_character m c)))
more_line m k w next (ran_out draws e) = subst (λ y. LineEnd m (suc k) w (behind y (λ c w. behind (line_of m k w) (and_character m c)))) (sym e) (no_more draws refl)
more_line m k w next (gave z draws low high e) = subst (λ y. LineEnd m (suc k) w (behind y (λ c w. behind (line_of m k w) (and_character m c)))) (sym e)
    (behind_read m k w z low high (line_of m k (record w { draws = draws })) (moved m k w draws (line_of m k (record w { draws = draws })) (next draws)))

pub line_end : (m : Model) (k : ℕ) (w : World) → LineEnd m k w (line_of m k w)
line_end m zero w = read [] w.draws refl (λ j c e. cc) refl
line_end m (suc k) w = more_line m k w (λ draws. line_end m k (record w { draws = draws })) (drawn_end w (pos 0) (pos 255))

-- ---- the first zero of what is written

abbrev pub with_end : List Content → List Content
with_end cs = cs ++ (number 0 no_labels ∷ [])

pub record IsFirst (cs : List Content) (t : ℕ) : Type 0 where
  pub inside : t < length cs
  pub before : (j : ℕ) (c : Content) → j < t → slice_get cs j ≡ Some c → seen_as c ≡ character
  pub here : (c : Content) → slice_get cs t ≡ Some c → seen_as c ≡ end

first_here : (la : Labels) (cs : List Content) → IsFirst (number 0 la ∷ cs) 0
first_here la cs = record { inside = omega arith; before = λ j c h e. absurd (omega (arith, h)); here = λ c e. let d : number 0 la ≡ c = cc in ap seen_as (sym d) }

first_later : (k : ℕ) (la : Labels) (cs : List Content) (t : ℕ) → IsFirst cs t → IsFirst (number (suc k) la ∷ cs) (suc t)
first_later k la cs t h = let x = h.inside in record { inside = omega (arith, x); before = each; here = h.here }
  where
    each : (j : ℕ) (c : Content) → j < suc t → slice_get (number (suc k) la ∷ cs) j ≡ Some c → seen_as c ≡ character
    each zero c less e = let d : number (suc k) la ≡ c = cc in ap seen_as (sym d)
    each (suc j) c less e = h.before j c (omega (arith, less)) e

pub first_of : (m : Model) (cs : List Content) → AreInput m cs → (t : ℕ) × IsFirst (with_end cs) t
first_of m [] h = (0, first_here no_labels [])
first_of m (indeterminate ∷ cs) h = let x = h 0 indeterminate refl in let e = x.equal in cc
first_of m (part p j ∷ cs) h = let x = h 0 (part p j) refl in let e = x.equal in cc
first_of m (number zero la ∷ cs) h = (0, first_here la (with_end cs))
first_of m (number (suc k) la ∷ cs) h = let r = first_of m cs (λ j c e. h (suc j) c e) in (suc r.0, first_later k la (with_end cs) r.0 r.1)

-- what is written is input, or the zero behind it
pub data IsWrittenContent (m : Model) (c : Content) : Type 0 where
  is_input : IsInput m c → IsWrittenContent m c
  is_end : c ≡ number 0 no_labels → IsWrittenContent m c

pub written_content : (m : Model) (cs : List Content) → AreInput m cs → (j : ℕ) (c : Content) → slice_get (with_end cs) j ≡ Some c → IsWrittenContent m c
written_content m [] h zero c e = let d : number 0 no_labels ≡ c = cc in is_end (sym d)
written_content m [] h (suc j) c e = cc
written_content m (x ∷ xs) h zero c e = is_input (h 0 c e)
written_content m (x ∷ xs) h (suc j) c e = written_content m xs (λ k d f. h (suc k) d f) j c e
