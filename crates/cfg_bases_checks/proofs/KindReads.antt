-- The kind of a base is that of the entry at its number.
use Rattle.std.proofs.Common.{◌≡◌, Bool, true, false, ◌&&◌, ℕ, zero, suc, List, [], ◌∷◌, Some, None, refl}
use Rattle.std.specs.List.{slice_get}
use Rattle.c_layout.specs.declared.shapes.BaseInfo.{BaseInfo}
use Rattle.cfg.specs.WellFormed.{kind_at}

pub kind_there : (infos : List BaseInfo) (b : ℕ) (info : BaseInfo) → slice_get infos b ≡ Some info → kind_at infos b ≡ Some info.kind
kind_there [] b info is = cc
kind_there (i ∷ infos) zero info is = cc
kind_there (i ∷ infos) (suc b) info is = kind_there infos b info is

pub no_kind : (infos : List BaseInfo) (b : ℕ) → slice_get infos b ≡ None → kind_at infos b ≡ None
no_kind [] b is = refl
no_kind (i ∷ infos) zero is = cc
no_kind (i ∷ infos) (suc b) is = no_kind infos b is

-- what two tests in one leave of a chain of tests
pub both_there : (a b c : Bool) → (a && b) ≡ true → (a && (b && c)) ≡ c
both_there true true c is = refl
both_there true false c is = cc
both_there false b c is = cc

pub not_both : (a b c : Bool) → (a && b) ≡ false → (a && (b && c)) ≡ false
not_both true true c is = cc
not_both true false c is = refl
not_both false b c is = refl
