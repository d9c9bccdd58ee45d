-- Baselines: what a file says is known already, and what is left of diagnostics then.
use Rattle.std.specs.Prelude.{◌≡◌, List, Option, Some, None}
use Rattle.cc_base.specs.Outside.{Files, Holds}
use Rattle.cc_base.specs.declared.diagnostics.Diag.{Diag}
use Rattle.sarif.specs.Baselines.{baseline_read}
use Rattle.sarif.specs.Comparing.{fresh_of}
use Rattle.sarif.specs.declared.known_results.Known.{Known}
use Rattle.cli_texts.specs.Reports.{Bytes}

-- a file says that these results are known
pub record IsBaseline (files : Option Files) (name : Bytes) (known : List Known) : Type 0 where
  pub bytes : Bytes
  pub held : Holds files name bytes
  pub reads : baseline_read bytes ≡ Some known

abbrev pub HasBaseline : Option Files → Bytes → Type 0
HasBaseline files name = (known : List Known) × IsBaseline files name known

-- a file is no report
pub record NoBaseline (files : Option Files) (name : Bytes) : Type 0 where
  pub bytes : Bytes
  pub held : Holds files name bytes
  pub reads : baseline_read bytes ≡ None

-- diagnostics without those that a file says are known
pub record IsFreshOf (files : Option Files) (name : Bytes) (names : List Bytes) (all diags : List Diag) : Type 0 where
  pub known : List Known
  pub is_baseline : IsBaseline files name known
  pub left : diags ≡ fresh_of names known all
