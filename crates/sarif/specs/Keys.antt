-- Known results by the keys of a set.
use Rattle.std.specs.Prelude.{◌≡◌, ℕ, List}
use Rattle.std.specs.BTreeSet.{BTreeSet, contains}
use Rattle.std.specs.declared.cmp.Ordering.{Ordering}
use Rattle.cc_base.specs.declared.diagnostics.Rule.{Rule}
use Rattle.sarif.specs.declared.fresh_diagnostics.Key.{Key}
use Rattle.sarif.specs.declared.known_results.Known.{Known}
use Rattle.sarif.specs.Uris.{Bytes}
use Rattle.sarif.specs.Comparing.{holds}

-- a key has these parts
pub record IsKey (key : Key) (file : Bytes) (line col : ℕ) (rule : Rule) : Type 0 where
  pub file_is : key.file.items ≡ file
  pub line_is : key.line ≡ line
  pub col_is : key.col ≡ col
  pub rule_is : key.rule ≡ rule

-- a set has the keys of a list of known results
abbrev pub Indexes : (Key → Key → Ordering) → BTreeSet Key → List Known → Type 0
Indexes cmp keys known = (key : Key) → contains cmp keys key ≡ holds known key.file.items key.line key.col key.rule
