-- Pointer parts whose intervals and bases agree, and whose sets are of words.
use Rattle.std.specs.Prelude.{ℕ, ◌^◌, ◌<◌, Bool, cond, not, ◌&&◌, is_none, is_some}
use Rattle.cc_base.specs.IntegerDomains.{IntegersOf}
use Rattle.pointer_domain.specs.BaseSets.{bases_empty, word_of}
use Rattle.pointer_domain.specs.declared.base_sets.Bases.{Bases}
use Rattle.pointer_domain.specs.declared.pointer_sets.Pointers.{Pointers}

-- each word has 128 bits
abbrev pub AreWords : Bases → Type 0
AreWords s = (i : ℕ) → word_of s i < 2 ^ 128

module _ {I : Type 0} where
  abbrev pub is_nowhere : IntegersOf I → Pointers I → Bool
  is_nowhere n p = is_none (n.bounds p.lo) && (is_none (n.bounds p.rel) && (is_none (n.bounds p.len) && not p.part))

  abbrev pub is_somewhere : IntegersOf I → Pointers I → Bool
  is_somewhere n p = is_some (n.bounds p.lo) && (is_some (n.bounds p.rel) && is_some (n.bounds p.len))

  -- there are bounds exactly where there is a base, and without a base there is no part
  abbrev pub is_consistent : IntegersOf I → Pointers I → Bool
  is_consistent n p = cond (bases_empty p.bases) (is_nowhere n p) (is_somewhere n p)
