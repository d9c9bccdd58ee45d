-- The bases of the entry's parameters come first.
use Rattle.std.proofs.Common.{◌≡◌, ℕ, zero, suc, ◌+◌, ◌<◌, ◌≤◌, List, [], ◌∷◌, ◌++◌, length, Option, Some, None, slice_get, arith, subst, sym, refl, ap, ◌∙◌, inl, inr}
use Rattle.std.specs.Prelude.{set, replicate}
use Rattle.std.proofs.lemmas.Bool.{cases_lt}
use Rattle.std.proofs.lemmas.List.{length-append}
use Rattle.c_layout.specs.Layout.{size_of_type}
use Rattle.c_layout.specs.CheckedUnits.{FunctionView, UnitView}
use Rattle.c_layout.specs.declared.shapes.BaseInfo.{BaseInfo}
use Rattle.c_layout.specs.declared.shapes.BaseKind.TheVariants as kind
use Rattle.lower_objects.specs.Shapes.FirstZeros.{object_shape}
use Rattle.lower_functions.specs.Functions.Functions.{local_type}
use Rattle.lower_tables.specs.Bases.BaseTables.{TableView, known, info, local_or, local}
use Rattle.lower.specs.Inlining.Inlinings as o
use Rattle.lower.specs.Inlining.Inlinings.{Placed}
use Rattle.store_sound.proofs.operations.Slices.{get_set_other}
use Rattle.entry_sound.specs.Tables.UnitStarts.{IsBaseOf}
use Rattle.entry_sound.proofs.lowered.NotedBases.{none_some, base_stays, base_new, AreNoted}

pub all_same : {A : Type 0} (n k : ℕ) (x : A) → k < n → slice_get (replicate n x) k ≡ Some x
all_same zero k x h = absurd (omega (arith, h))
all_same (suc n) zero x h = refl
all_same (suc n) (suc k) x h = all_same n k x (omega (arith, h))

none_known : (n k b : ℕ) → known (replicate n None) k ≡ Some b → ⊥
none_known zero k b e = none_some b e
none_known (suc n) zero b e = none_some b e
none_known (suc n) (suc k) b e = none_known n k b e

module _ (u : UnitView) (f : FunctionView) where
  -- so many parameters have their bases, and nothing else has one
  pub record AreFirst (n : ℕ) (p : Placed) : Type 0 where
    pub count : length p.program.bases.bases ≡ n
    pub bases : (k : ℕ) → k < n → IsBaseOf u p.program.bases.bases kind.Automatic (local_type f k) k
    pub objects : p.program.bases.objects ≡ replicate (length u.objects) None
    pub literals : p.program.bases.literals ≡ replicate (length u.literals) None
    pub function : p.within.function ≡ f
    pub free : (k : ℕ) → n ≤ k → k < length f.locals + 1 → slice_get p.within.locals k ≡ Some None

  -- one more
  record IsNext (n : ℕ) (b : TableView) (after : TableView) (locals left : List (Option ℕ)) : Type 0 where
    bases : after.bases ≡ b.bases ++ info kind.Automatic (size_of_type u.structs u.model.pointer (local_type f n)) b.width (object_shape u.structs u.model.pointer (local_type f n)) ∷ []
    objects : after.objects ≡ b.objects
    literals : after.literals ≡ b.literals
    locals_are : left ≡ set locals n (Some (length b.bases))

  next_local : (n : ℕ) (locals : List (Option ℕ)) (b : TableView) (o : Option (Option ℕ)) → o ≡ Some None → IsNext n b (local_or u f n locals b o).after locals (local_or u f n locals b o).locals
  next_local n locals b None e = absurd (none_some None e)
  next_local n locals b (Some (Some m)) e = absurd (cc)
  next_local n locals b (Some None) e = record { bases = refl; objects = refl; literals = refl; locals_are = refl }

  one_first : (n : ℕ) (p : Placed) → n < length f.locals + 1 → AreFirst n p → AreFirst (suc n) (o.with_local u n p)
  one_first n p within a =
      let named = next_local n p.within.locals p.program.bases (slice_get p.within.locals n) (a.free n (omega arith) within) in
      let x : BaseInfo = info kind.Automatic (size_of_type u.structs u.model.pointer (local_type f n)) p.program.bases.width (object_shape u.structs u.model.pointer (local_type f n)) in
      let count = a.count in
      let same : local u p.within.function n p.within.locals p.program.bases ≡ local u f n p.within.locals p.program.bases = ap (λ g. local u g n p.within.locals p.program.bases) a.function in
      let bases_are : (o.with_local u n p).program.bases.bases ≡ p.program.bases.bases ++ x ∷ [] = ap (λ z. z.after.bases) same ∙ named.bases in
      record {
        count = let l = length-append p.program.bases.bases (x ∷ []) in let m = ap length bases_are in omega (arith, l, m, count);
        bases = λ k few. subst (λ z. IsBaseOf u z kind.Automatic (local_type f k) k) (sym bases_are) (by_index k few);
        objects = ap (λ z. z.after.objects) same ∙ (named.objects ∙ a.objects);
        literals = ap (λ z. z.after.literals) same ∙ (named.literals ∙ a.literals);
        function = a.function;
        free = λ k from to. ap (λ z. slice_get z.locals k) same ∙ (ap (λ z. slice_get z k) named.locals_are ∙ (get_set_other p.within.locals n k (Some (length p.program.bases.bases)) (λ e. omega (arith, from, e)) ∙ a.free k (omega (arith, from)) to));
      }
    where
      by_index : (k : ℕ) → k < suc n → IsBaseOf u (p.program.bases.bases ++ info kind.Automatic (size_of_type u.structs u.model.pointer (local_type f n)) p.program.bases.width (object_shape u.structs u.model.pointer (local_type f n)) ∷ []) kind.Automatic (local_type f k) k
      by_index k few = elim (cases_lt k n) [
        | inl old ↦ base_stays u p.program.bases.bases kind.Automatic (local_type f k) k _ (a.bases k old)
        | inr new ↦ (
            let count = a.count in
            let is : n ≡ k = omega (arith, few, new) in
            subst (λ m. IsBaseOf u (p.program.bases.bases ++ info kind.Automatic (size_of_type u.structs u.model.pointer (local_type f n)) p.program.bases.width (object_shape u.structs u.model.pointer (local_type f n)) ∷ []) kind.Automatic (local_type f m) m) is
            (subst (IsBaseOf u (p.program.bases.bases ++ info kind.Automatic (size_of_type u.structs u.model.pointer (local_type f n)) p.program.bases.width (object_shape u.structs u.model.pointer (local_type f n)) ∷ []) kind.Automatic (local_type f n)) count (base_new u p.program.bases.bases kind.Automatic (local_type f n) p.program.bases.width)))
      ]

  pub all_first : (n : ℕ) (p : Placed) → n ≤ length f.locals + 1 → AreFirst 0 p → AreFirst n (o.with_parameters u n p)
  all_first zero p within a = a
  all_first (suc n) p within a = one_first n (o.with_parameters u n p) (omega (arith, within)) (all_first n p (omega (arith, within)) a)

  pub first_noted : (n : ℕ) (p : Placed) → AreFirst n p → AreNoted u p.program.bases.bases p.program.bases
  first_noted n p a = record {
    begins = record { rest = []; is = nothing_behind p.program.bases.bases };
    objects = λ k m e. absurd (none_known (length u.objects) k m (sym (ap (λ z. known z k) a.objects) ∙ e));
    literals = λ k m e. absurd (none_known (length u.literals) k m (sym (ap (λ z. known z k) a.literals) ∙ e));
    own_objects = λ j k m e f. absurd (none_known (length u.objects) k m (sym (ap (λ z. known z k) a.objects) ∙ f));
    own_literals = λ j k m e f. absurd (none_known (length u.literals) k m (sym (ap (λ z. known z k) a.literals) ∙ f));
  }
    where
      nothing_behind : (xs : List BaseInfo) → xs ≡ xs ++ []
      nothing_behind [] = refl
      nothing_behind (x ∷ xs) = ap (λ z. x ∷ z) (nothing_behind xs)
