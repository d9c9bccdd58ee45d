-- The types of units and functions without long arrays are the data model's own, with short arrays alone.
use Rattle.std.proofs.Common.{◌≡◌, ℕ, zero, suc, ◌+◌, Bool, true, ◌&&◌, List, [], ◌∷◌, length, Option, Some, None, slice_get, refl, sym, ap, ◌∙◌, arith}
use Rattle.std.specs.List.{list_all}
use Rattle.std.proofs.lemmas.Option.{same_Some}
use Rattle.c_layout.specs.CheckedUnits.{LocalView, LiteralView, UnitView}
use Rattle.lower_objects.specs.Counts.SharedObjects.{literal_type}
use Rattle.lower_functions.specs.Functions.Functions.{type_or}
use Rattle.typed_programs.specs.PlainUnits.ShortArrays.{has_short_arrays_within, has_short_arrays, is_short_local, is_short_object, is_short_literal}
use Rattle.typed_programs.proofs.plain_worklists.LeadingWorks.{both}
use Rattle.typed_lowering.specs.Conversions.TypedBases.{IsOwnType}
use Rattle.typed_lowering.specs.Conversions.TypedObjects.{is_own_local, is_own_object, is_own_literal}
use Rattle.typed_lowering.specs.Conversions.ProgramLaws.{ShortTypesAreOwn, LoopedLocalsAreOwn}

of_all : {A : Type 0} (test : A → Bool) (xs : List A) (n : ℕ) (x : A) → list_all test xs ≡ true → slice_get xs n ≡ Some x → test x ≡ true
of_all test [] n x all is = absurd (cc)
of_all test (y ∷ xs) zero x all is = ap test (same_Some x y (sym is)) ∙ (both _ _ all).0
of_all test (y ∷ xs) (suc n) x all is = of_all test xs n x (both _ _ all).1 is

one_more : (n : ℕ) → n + 1 ≡ suc n
one_more n = omega arith

-- a literal is an array of integers
short_literal : (u : UnitView) (l : LiteralView) → is_short_literal l ≡ true → has_short_arrays u.structs (literal_type u.model.char_signed (length l.bytes)) ≡ true
short_literal u l e = ap (λ depth. has_short_arrays_within depth u.structs (literal_type u.model.char_signed (length l.bytes))) (one_more (length u.structs)) ∙ ap (λ b. (b && true) && true) e

pub types_own : ShortTypesAreOwn
types_own u few own =
    let short = both _ _ few in
    let kinds = both _ _ own in
    record {
      objects = λ i o is. record { kinds = of_all (is_own_object u) u.objects i o kinds.0 is; small = of_all (is_short_object u.structs) u.objects i o short.0 is };
      literals = λ i l is. record { kinds = of_all (is_own_literal u) u.literals i l kinds.1 is; small = short_literal u l (of_all is_short_literal u.literals i l short.1 is) };
    }

pub locals_own : LoopedLocalsAreOwn
locals_own u calls f looped own slot = by (slice_get f.locals slot) refl
  where
    by : (o : Option LocalView) → slice_get f.locals slot ≡ o → IsOwnType u (type_or o f.returns)
    by None is = record { kinds = (both _ _ own).0; small = (both _ _ (both _ _ looped).0).1 }
    by (Some l) is = record { kinds = of_all (is_own_local u) f.locals slot l (both _ _ own).1 is; small = of_all (is_short_local u.structs) f.locals slot l (both _ _ (both _ _ looped).0).0 is }
