-- First zeros behind writes of chars and texts, and scans, stand for what comes of each first zero.
use Rattle.std.specs.Prelude.{◌≡◌, ℤ, pos, ◌+ℤ◌, ◌-ℤ◌, ◌≤ℤ◌, ◌<ℤ◌, Bool, true, Some, ◌⊎◌}
use Rattle.std.specs.Int.{int_min}
use Rattle.cc_base.specs.Lattices.{LatticeOf}
use Rattle.cc_base.specs.IntegerDomains.{IntegersOf, IsNear}
use Rattle.cc_base.specs.Truths.{can_hold, can_fail}
use Rattle.cc_base.specs.declared.integer_operators.Tri.{Tri}
use Rattle.value_domain.specs.declared.strings.first_zeros.FirstZero.{FirstZero}
use Rattle.value_domain.specs.Strings.FirstZeros.{the_end}
use Rattle.value_domain.specs.Strings.ZeroTables.{put_at, text_at, scanned}
use Rattle.domain_theorems.specs.Values.ZeroLaws.{IsCount}

-- the first zero was a, a zero was written at k, and now it is c: the lesser of both where there was one; where there
-- was none, k, or still none, which stands behind an indeterminate byte and so not at the start
pub record WroteZero (a k c : ℤ) : Type 0 where
  pub there : a <ℤ the_end → c ≡ int_min a k
  pub none : a ≡ the_end → (c ≡ k) ⊎ (c ≡ the_end)
  pub start : a ≡ the_end → k ≡ pos 0 → c ≡ pos 0

-- another char was written at k: the first zero stays, but at k it is gone, and where there was none one behind k may show
pub record WroteOther (a k c : ℤ) : Type 0 where
  pub kept : a <ℤ the_end → (a ≡ k → ⊥) → c ≡ a
  pub gone : a ≡ k → a ≤ℤ c
  pub shown : a ≡ the_end → k <ℤ c
  pub within : c ≤ℤ the_end

-- a text of length t was written at k: its end is the first zero where all before it is without one; else the first zero
-- stays, or there is none behind an indeterminate byte
pub record WroteText (a k t c : ℤ) : Type 0 where
  pub behind : k ≤ℤ a → a <ℤ the_end → c ≡ (k +ℤ t)
  pub before : a <ℤ k → c ≡ a
  pub none : a ≡ the_end → (c ≡ (k +ℤ t)) ⊎ (c ≡ the_end)
  pub start : k ≡ pos 0 → c ≡ t
  pub within : c ≤ℤ the_end

-- a string from k to its first zero a, with r bytes to the upper bound
pub record IsString (part : Bool) (a k r : ℤ) : Type 0 where
  pub ends : k ≤ℤ a
  pub there : a <ℤ the_end
  pub inside : part ≡ true → (a -ℤ k) <ℤ r

pub record ZeroMeaning {I : Type 0} (l : LatticeOf I) (n : IntegersOf I) (stands : I → ℤ → Type 0) : Type 0 where
  pub put_zero : (f : FirstZero I) (at : I) (t : Tri) (a k c : ℤ) → IsNear (n.bounds f.at) → IsCount l n at → stands f.at a → stands at k → can_hold t ≡ true → WroteZero a k c → stands (put_at l n f at t).at c
  pub put_other : (f : FirstZero I) (at : I) (t : Tri) (a k c : ℤ) → IsNear (n.bounds f.at) → IsCount l n at → stands f.at a → stands at k → can_fail t ≡ true → WroteOther a k c → stands (put_at l n f at t).at c
  pub text : (f : FirstZero I) (at len : I) (a k t c : ℤ) → IsNear (n.bounds f.at) → IsCount l n at → IsCount l n len → stands f.at a → stands at k → stands len t → WroteText a k t c → stands (text_at l n f at len).at c
  -- a scan that knows its string finds one, and its length
  pub found : (f : FirstZero I) (at room x : I) (part : Bool) (a k r : ℤ) → IsNear (n.bounds f.at) → stands f.at a → stands at k → stands room r → scanned l n f at room part ≡ Some x → IsString part a k r
  pub length : (f : FirstZero I) (at room x : I) (part : Bool) (a k r : ℤ) → IsNear (n.bounds f.at) → stands f.at a → stands at k → stands room r → scanned l n f at room part ≡ Some x → (a -ℤ k) <ℤ r → stands x (a -ℤ k)
