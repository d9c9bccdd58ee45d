-- The bases that plain functions name are plain.
use Rattle.std.proofs.Common.{◌≡◌, ℕ, zero, suc, ◌+◌, ◌-◌, ◌^◌, Bool, true, ◌&&◌, List, [], ◌∷◌, ◌++◌, length, get_or, Option, Some, None, slice_get, refl, ap, sym, ◌∙◌, arith}
use Rattle.std.specs.List.{list_all}
use Rattle.c_layout.specs.Types.{Ty}
use Rattle.c_layout.specs.CheckedUnits.{FunctionView, LocalView, StaticView, LiteralView, UnitView}
use Rattle.c_layout.specs.declared.checked_tree.checked_units.StaticBase.{StaticBase}
use Rattle.c_layout.specs.declared.checked_tree.checked_units.StaticBase.TheVariants as shared
use Rattle.c_layout.specs.declared.shapes.BaseInfo.{BaseInfo}
use Rattle.c_layout.specs.declared.shapes.BaseKind.{BaseKind}
use Rattle.lower_objects.specs.Counts.SharedObjects.{literal_type}
use Rattle.lower_functions.specs.Functions.Functions.{type_or, local_type}
use Rattle.lower_templates.specs.Worklist.Pieces.{NameView, Local, Outcome, Static, Literal, Allocation}
use Rattle.lower_tables.specs.Bases.BaseTables.{TableView, known, object_added, local_or, local, literal_made, literal_or, object_made, object_or, with_shared, brought, with_all, with_pointed, base}
use Rattle.typed_programs.specs.PlainUnits.ShortArrays.{has_short_arrays_within, has_short_arrays, is_short_local, is_short_object, is_short_literal, has_short_objects}
use Rattle.typed_programs.specs.PlainWorklists.LeadingPieces.{is_of_object, AreOfObjects}
use Rattle.typed_programs.proofs.plain_worklists.LeadingWorks.{both}
use Rattle.typed_lowering.specs.PlainPrograms.PlainBases.{IsPlainBase, ArePlainBases}
use Rattle.typed_lowering.proofs.plain_programs.SmallLeaves.{alone_leaves}

plain_append : (xs : List BaseInfo) (x : BaseInfo) → ArePlainBases xs → IsPlainBase x → ArePlainBases (xs ++ x ∷ [])
plain_append [] x all one = (one, tt)
plain_append (y ∷ xs) x (first, all) one = (first, plain_append xs x all one)

pub of_all : {A : Type 0} (test : A → Bool) (xs : List A) (n : ℕ) (x : A) → list_all test xs ≡ true → slice_get xs n ≡ Some x → test x ≡ true
of_all test [] n x all is = absurd (cc)
of_all test (y ∷ xs) zero x all is = ap test (same (sym is)) ∙ (both _ _ all).0
  where
    same : Some x ≡ Some y → x ≡ y
    same e = cc
of_all test (y ∷ xs) (suc n) x all is = of_all test xs n x (both _ _ all).1 is

one_more : (n : ℕ) → n + 1 ≡ suc n
one_more n = omega arith

-- the objects of a function and its result are small
pub record HasSmall (u : UnitView) (f : FunctionView) : Type 0 where
  pub locals : list_all (is_short_local u.structs) f.locals ≡ true
  pub result : has_short_arrays u.structs f.returns ≡ true

module _ (u : UnitView) (small : has_short_objects u ≡ true) where
  abbrev Plain : TableView → Type 0
  Plain b = ArePlainBases b.bases

  plain_object : (what : BaseKind) (t : Ty) (b : TableView) → has_short_arrays u.structs t ≡ true → Plain b → Plain (object_added u what t b)
  plain_object what t b is plain = plain_append b.bases _ plain (record { cells = alone_leaves u.structs u.model.pointer t is; no_heap = refl })

  -- ---- objects of static storage and literals

  plain_object_made : (n : ℕ) (b : TableView) (o : Option StaticView) → slice_get u.objects n ≡ o → Plain b → Plain (object_made u n b o)
  plain_object_made n b None is plain = plain
  plain_object_made n b (Some o) is plain = plain_object _ o.ctype b (of_all (is_short_object u.structs) u.objects n o (both _ _ small).0 is) plain

  plain_literal_made : (n : ℕ) (b : TableView) (o : Option LiteralView) → slice_get u.literals n ≡ o → Plain b → Plain (literal_made u n b o)
  plain_literal_made n b None is plain = plain
  plain_literal_made n b (Some l) is plain = plain_object _ (literal_type u.model.char_signed (length l.bytes)) b (short (of_all is_short_literal u.literals n l (both _ _ small).1 is)) plain
    where
      short : is_short_literal l ≡ true → has_short_arrays u.structs (literal_type u.model.char_signed (length l.bytes)) ≡ true
      short e = ap (λ depth. has_short_arrays_within depth u.structs (literal_type u.model.char_signed (length l.bytes))) (one_more (length u.structs)) ∙ ap (λ b. (b && true) && true) e

  plain_object_or : (n : ℕ) (b : TableView) (o : Option ℕ) → Plain b → Plain (object_or u n b o)
  plain_object_or n b (Some base) plain = plain
  plain_object_or n b None plain = plain_object_made n b (slice_get u.objects n) refl plain

  plain_literal_or : (n : ℕ) (b : TableView) (o : Option ℕ) → Plain b → Plain (literal_or u n b o)
  plain_literal_or n b (Some base) plain = plain
  plain_literal_or n b None plain = plain_literal_made n b (slice_get u.literals n) refl plain

  plain_shared : (x : StaticBase) (b : TableView) → Plain b → Plain (with_shared u x b)
  plain_shared (shared.Object n) b plain = plain_object_or n b (known b.objects n) plain
  plain_shared (shared.Literal n) b plain = plain_literal_or n b (known b.literals n) plain

  plain_all : (n : ℕ) (stack : List StaticBase) (b : TableView) → Plain b → Plain (with_all u n stack b)
  plain_all zero stack b plain = plain
  plain_all (suc n) [] b plain = plain
  plain_all (suc n) (x ∷ xs) b plain = plain_all n (brought u x b ++ xs) (with_shared u x b) (plain_shared x b plain)

  plain_pointed : (x : StaticBase) (b : TableView) → Plain b → Plain (with_pointed u x b)
  plain_pointed x b plain = plain_all (2 ^ 64 - 1) (x ∷ []) b plain

  -- ---- objects of a function

  small_local : (f : FunctionView) → HasSmall u f → (n : ℕ) (o : Option LocalView) → slice_get f.locals n ≡ o → has_short_arrays u.structs (type_or o f.returns) ≡ true
  small_local f has n None is = has.result
  small_local f has n (Some l) is = of_all (is_short_local u.structs) f.locals n l has.locals is

  plain_local_or : (f : FunctionView) → HasSmall u f → (slot : ℕ) (locals : List (Option ℕ)) (b : TableView) (o : Option (Option ℕ)) → Plain b → Plain (local_or u f slot locals b o).after
  plain_local_or f has slot locals b None plain = plain
  plain_local_or f has slot locals b (Some (Some n)) plain = plain
  plain_local_or f has slot locals b (Some None) plain = plain_object _ (local_type f slot) b (small_local f has slot (slice_get f.locals slot) refl) plain

  plain_local : (f : FunctionView) → HasSmall u f → (slot : ℕ) (locals : List (Option ℕ)) (b : TableView) → Plain b → Plain (local u f slot locals b).after
  plain_local f has slot locals b plain = plain_local_or f has slot locals b (slice_get locals slot) plain

  pub plain_named : (f : FunctionView) → HasSmall u f → (x : NameView) → is_of_object x ≡ true → (locals : List (Option ℕ)) (b : TableView) → ArePlainBases b.bases → ArePlainBases (base u f x locals b).after.bases
  plain_named f has (Local n) is locals b plain = plain_local f has n locals b plain
  plain_named f has Outcome is locals b plain = plain_local f has (length f.locals) locals b plain
  plain_named f has (Static n) is locals b plain = plain_pointed (shared.Object n) b plain
  plain_named f has (Literal n) is locals b plain = plain_pointed (shared.Literal n) b plain
  plain_named f has (Allocation target) is locals b plain = absurd (cc)

-- a name of a template
pub name_at_object : (names : List NameView) (n : ℕ) → AreOfObjects names → is_of_object (get_or names n Outcome) ≡ true
name_at_object [] n all = refl
name_at_object (x ∷ names) zero (one, all) = one
name_at_object (x ∷ names) (suc n) (one, all) = name_at_object names n all
