-- First zeros grow with what is written, and with where.
use Rattle.std.specs.Prelude.{◌≡◌, pos, Bool, true, Option, Some, None}
use Rattle.cc_base.specs.Lattices.{LatticeOf}
use Rattle.cc_base.specs.IntegerDomains.{IntegersOf}
use Rattle.cc_base.specs.IntegerLaws.{tri_leq}
use Rattle.cc_base.specs.declared.integer_operators.Tri.{Tri}
use Rattle.value_domain.specs.declared.strings.first_zeros.FirstZero.{FirstZero}
use Rattle.value_domain.specs.Strings.FirstZeros.{the_end, zero_lattice}
use Rattle.value_domain.specs.Strings.ZeroTables.{put_at, text_at, scanned}

module _ {I : Type 0} (l : LatticeOf I) where
  -- no length, which stands for any, is above each length
  abbrev pub found_leq : Option I → Option I → Type 0
  found_leq x None = Unit {0}
  found_leq None (Some y) = ⊥
  found_leq (Some x) (Some y) = l.leq x y ≡ true

module _ {I : Type 0} (l : LatticeOf I) (n : IntegersOf I) where
  -- only numbers from 0 to the end
  abbrev pub IsCount : I → Type 0
  IsCount x = l.leq x (n.between (pos 0) the_end) ≡ true

  pub record ZeroLaws : Type 0 where
    pub put : (f g : FirstZero I) (at by : I) (s t : Tri) → (zero_lattice l).leq f g ≡ true → l.leq at by ≡ true → tri_leq s t ≡ true → IsCount g.at → IsCount by → (zero_lattice l).leq (put_at l n f at s) (put_at l n g by t) ≡ true
    pub text : (f g : FirstZero I) (at by len more : I) → (zero_lattice l).leq f g ≡ true → l.leq at by ≡ true → l.leq len more ≡ true → IsCount g.at → IsCount by → IsCount more → (zero_lattice l).leq (text_at l n f at len) (text_at l n g by more) ≡ true
    pub scan : (f g : FirstZero I) (at by room more : I) (part : Bool) → (zero_lattice l).leq f g ≡ true → l.leq at by ≡ true → l.leq room more ≡ true → IsCount g.at → found_leq l (scanned l n f at room part) (scanned l n g by more part)
