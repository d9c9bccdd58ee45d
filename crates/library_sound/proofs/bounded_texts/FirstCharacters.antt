-- The characters among the first so many bytes, and what is written of them.
use Rattle.std.proofs.Common.{◌≡◌, ℕ, zero, suc, ◌-◌, ◌<◌, ◌≤◌, Some, List, [], ◌∷◌, ◌++◌, length, take, arith, refl, ap, inl, inr, ◌⊎◌}
use Rattle.std.specs.Prelude.{slice_get, replicate}
use Rattle.memory_model.specs.Memory.Labels.{Labels, no_labels}
use Rattle.memory_model.specs.Memory.Bytes.{Content, indeterminate, number, part}
use Rattle.memory_model.specs.Effects.LibraryChecks as machine
use Rattle.memory_model.specs.Effects.StringCalls.{padded}
use Rattle.library_sound.proofs.fills.FillCalls.{replicated}

-- so many bytes were seen to be characters
pub record IsCounted (size : ℕ) (cs : List Content) (t : ℕ) : Type 0 where
  pub short : t ≤ size
  pub inside : t ≤ length cs
  pub characters : (k : ℕ) → k < t → (digit : ℕ) × (labels : Labels) × (slice_get cs k ≡ Some (number digit labels))

further_ends : (s : machine.Scanned) (t : ℕ) → machine.one_further s ≡ machine.ends t → (k : ℕ) × (s ≡ machine.ends k) × (t ≡ suc k)
further_ends (machine.ends k) t e = (k, refl, cc)
further_ends machine.unended t e = cc
further_ends machine.broken t e = cc

further_unended : (s : machine.Scanned) → machine.one_further s ≡ machine.unended → s ≡ machine.unended
further_unended (machine.ends k) e = cc
further_unended machine.unended e = refl
further_unended machine.broken e = cc

nothing_counted : (size : ℕ) (cs : List Content) (t : ℕ) → 0 ≡ t → IsCounted size cs t
nothing_counted size cs t e = record { short = omega (arith, e); inside = omega (arith, e); characters = λ k h. absurd (omega (arith, e, h)) }

more_counted : (size : ℕ) (cs : List Content) (t k : ℕ) (d : ℕ) (la : Labels) → t ≡ suc k → IsCounted size cs k → IsCounted (suc size) (number (suc d) la ∷ cs) t
more_counted size cs t k d la e h =
    let a = h.short in
    let b = h.inside in
    record { short = omega (arith, a, e); inside = omega (arith, b, e); characters = each }
  where
    each : (j : ℕ) → j < t → (digit : ℕ) × (labels : Labels) × (slice_get (number (suc d) la ∷ cs) j ≡ Some (number digit labels))
    each zero g = (suc d, la, refl)
    each (suc j) g = h.characters j (omega (arith, g, e))

pub counted : (size : ℕ) (cs : List Content) (t : ℕ) → machine.scanned_first size cs ≡ machine.ends t → IsCounted size cs t
counted zero cs t e = let d : 0 ≡ t = cc in nothing_counted zero cs t d
counted (suc size) [] t e = cc
counted (suc size) (indeterminate ∷ cs) t e = cc
counted (suc size) (number zero la ∷ cs) t e = let d : 0 ≡ t = cc in nothing_counted (suc size) (number zero la ∷ cs) t d
counted (suc size) (number (suc d) la ∷ cs) t e = let r = further_ends (machine.scanned_first size cs) t e in more_counted size cs t r.0 d la r.2 (counted size cs r.0 r.1)
counted (suc size) (part x y ∷ cs) t e = cc

-- ---- no zero among them

-- there are fewer bytes, or one of them is indeterminate
pub data IsOpen (size : ℕ) (cs : List Content) : Type 0 where
  runs_out : length cs < size → IsOpen size cs
  has_hole : (k : ℕ) → k < size → slice_get cs k ≡ Some indeterminate → IsOpen size cs

open_behind : (size : ℕ) (c : Content) (cs : List Content) → IsOpen size cs → IsOpen (suc size) (c ∷ cs)
open_behind size c cs (runs_out h) = runs_out (omega (arith, h))
open_behind size c cs (has_hole k h e) = has_hole (suc k) (omega (arith, h)) e

pub open_end : (size : ℕ) (cs : List Content) → machine.scanned_first size cs ≡ machine.unended → IsOpen size cs
open_end zero cs e = cc
open_end (suc size) [] e = runs_out (omega arith)
open_end (suc size) (indeterminate ∷ cs) e = has_hole 0 (omega arith) refl
open_end (suc size) (number zero la ∷ cs) e = cc
open_end (suc size) (number (suc d) la ∷ cs) e = open_behind size (number (suc d) la) cs (open_end size cs (further_unended (machine.scanned_first size cs) e))
open_end (suc size) (part x y ∷ cs) e = cc

-- what has no zero among its first bytes has none at all before an indeterminate one
pub unended_first : (size : ℕ) (cs : List Content) → machine.scanned_first size cs ≡ machine.unended → machine.scanned cs ≡ machine.unended
unended_first zero cs e = cc
unended_first (suc size) [] e = refl
unended_first (suc size) (indeterminate ∷ cs) e = refl
unended_first (suc size) (number zero la ∷ cs) e = cc
unended_first (suc size) (number (suc d) la ∷ cs) e = ap machine.one_further (unended_first size cs (further_unended (machine.scanned_first size cs) e))
unended_first (suc size) (part x y ∷ cs) e = cc

-- ---- what is written

take_at : (t : ℕ) (cs : List Content) (k : ℕ) (c : Content) → slice_get (take t cs) k ≡ Some c → (k < t) × (slice_get cs k ≡ Some c)
take_at zero cs k c e = cc
take_at (suc t) [] k c e = cc
take_at (suc t) (x ∷ xs) zero c e = (omega arith, e)
take_at (suc t) (x ∷ xs) (suc k) c e = let r = take_at t xs k c e in let h = r.0 in (omega (arith, h), r.1)

front_at : (front : List Content) (count : ℕ) (z : Content) (k : ℕ) (c : Content) → slice_get (front ++ replicate count z) k ≡ Some c → (slice_get front k ≡ Some c) ⊎ (z ≡ c)
front_at [] count z k c e = inr (replicated count z c k e)
front_at (x ∷ xs) count z zero c e = inl e
front_at (x ∷ xs) count z (suc k) c e = front_at xs count z k c e

-- a character, or a zero behind all of them
pub padded_at : (cs : List Content) (t size k : ℕ) (c : Content) → slice_get (padded cs t size) k ≡ Some c → ((k < t) × (slice_get cs k ≡ Some c)) ⊎ (number 0 no_labels ≡ c)
padded_at cs t size k c e = elim (front_at (take t cs) (size - t) (number 0 no_labels) k c e) [
  | inl h ↦ inl (take_at t cs k c h)
  | inr h ↦ inr h
]
