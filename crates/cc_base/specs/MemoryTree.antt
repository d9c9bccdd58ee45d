-- A tree of files in memory.
use Rattle.std.specs.Prelude.{ℕ, Bool, true, false, List, ◌==◌, Result, Ok, Err, refl}
use Rattle.cc_base.specs.declared.outside.TreeFault.{TreeFault}
use Rattle.cc_base.specs.declared.outside.TreeFault.TheVariants.{Failed}
use Rattle.std.specs.FinMap as finite
use Rattle.std.specs.List.{list_any}
use Rattle.std.specs.Coded.{Coded, code_by, coded×, coded_ℕ, coded_list}
use Rattle.cc_base.specs.Outside.{Files, next_count}

-- the files, the numbers of the calls that fail, the calls and the faults so far
pub record Shelf : Type 0 where
  pub files : Files
  pub fail : List ℕ
  pub reads : ℕ
  pub faults : ℕ

abbrev pub shelf_code : Coded Shelf
shelf_code =
    code_by (Files × (List ℕ × (ℕ × ℕ))) (coded× (finite.code (coded_list coded_ℕ) (coded_list coded_ℕ)) (coded× (coded_list coded_ℕ) (coded× coded_ℕ coded_ℕ)))
    (λ k. (k.files, (k.fail, (k.reads, k.faults)))) (λ p. record { files = p.0; fail = p.1.0; reads = p.1.1.0; faults = p.1.1.1 }) (λ _. refl)

-- whether a list has a number
abbrev pub has_number : ℕ → List ℕ → Bool
has_number n list = list_any (λ k. n == k) list

-- whether the call that begins now fails
abbrev pub fails_now : Shelf → Bool
fails_now shelf = has_number (next_count shelf.reads) shelf.fail

-- whether an answer is that the read failed
abbrev pub is_failed : {T : Type 0} → Result T TreeFault → Bool
is_failed (Ok _) = false
is_failed (Err Failed) = true
is_failed (Err _) = false
