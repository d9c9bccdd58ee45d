-- Sums and differences of pointers, and what pointers point to, are made of what is made.
use Rattle.std.proofs.Common.{◌≡◌, ◌⊎◌, inl, inr, ℕ, Bool, true, false, ◌&&◌, cond, Option, Some, None, Ok, Err, refl, sym, subst, ap, ◌∙◌}
use Rattle.std.proofs.lemmas.Bool.{and_from, or_left, or_right}
use Rattle.cc_base.specs.declared.diagnostics.Place.{Place}
use Rattle.cc_base.specs.declared.int_types.IntType.{IntType}
use Rattle.c_layout.specs.CheckedTrees as tree
use Rattle.c_layout.specs.CheckedTrees.{TermTree, Typed}
use Rattle.c_layout.specs.CheckedUnits.{UnitView}
use Rattle.c_layout.specs.Types.{Ty, Int, Pointer, same_type}
use Rattle.c_layout.specs.declared.syntax_tree.expressions.BinaryOp.TheVariants as op
use Rattle.c_types_rules.specs.Rules.IntegerKinds.{kind_of, size_rank}
use Rattle.c_types_scopes.specs.Known.{Known, size_of}
use Rattle.c_types_scopes.specs.Refusals.{Ruled}
use Rattle.c_types_operands.specs.Operands.{OperandView, term_of, term_type, is_integer}
use Rattle.c_types_operands.specs.Conversions.{kept_if, complete_target}
use Rattle.c_types_operands.specs.PointerArithmetic.{SumView, sum_by, target_size, one_sided, first_of, sum_type, moved_by, pointer_sum, common_target, difference_by, pointer_difference, pointer_less, pointer_minus, as_plain, pointer_additive}
use Rattle.c_types_operands.specs.Indirections.{target_by, indirection, at_sum, subscript}
use Rattle.source_preservation.specs.Checks.LookedTypes as look
use Rattle.source_preservation.specs.Checks.LookedTypes.{is_address, adds_to, subtracts}
use Rattle.source_preservation.specs.Checks.LookedTerms.{is_well_typed_term}
use Rattle.source_preservation.proofs.checks.Truths.{no_some, some_is}
use Rattle.c_types_rules.proofs.SameTypes.{type_is}
use Rattle.c_types_well_formed.specs.WellFormed.ModelTypes.{IsTypeOf, IsGround}
use Rattle.c_types_well_formed.specs.WellFormed.MadeTerms.{IsMade, IsMadeOperand, Makes}
use Rattle.c_types_well_formed.proofs.decided_tests.MadeTests.{no_tests}
use Rattle.c_types_well_formed.proofs.rules.GroundKinds.{number_scalar, number_integer, pointer_scalar, pointer_address, target_known, size_there, difference_there}
use Rattle.c_types_well_formed.proofs.rules.MadeConversions.{scalar_well_typed}
use Rattle.c_types_well_formed.proofs.rules.MadeNodes.{node_made}
use Rattle.c_types_well_formed.proofs.rules.MadeValues.{value_made}

-- ---- types of sums

pub record IsSumOf (pointer number : Ty) (v : SumView) : Type 0 where
  pub target : Ty
  pub kind : IntType
  pub pointer_is : pointer ≡ Pointer target
  pub number_is : number ≡ Int kind
  pub same : v.ctype ≡ Pointer target

sum_is : (t : Ty) (kind : IntType) (size : Option ℕ) (v : SumView) → sum_by (Pointer t) size ≡ Some v → IsSumOf (Pointer t) (Int kind) v
sum_is t kind (Some size) v h = record { target = t; kind = kind; pointer_is = refl; number_is = refl; same = sym (ap (λ (s : SumView). s.ctype) (some_is _ v h)) }
sum_is t kind None v h = no_some v h

one_sided_is : (k : Known) (s t : Ty) (v : SumView) → one_sided k s t ≡ Some v → IsSumOf s t v
one_sided_is k (Pointer t) (Int kind) v h = sum_is t kind (size_of k t) v h
one_sided_is k s (Int kind) v h = no_some v h
one_sided_is k s t v h = no_some v h

either_sided : (k : Known) (s t : Ty) (a b : Option SumView) (v : SumView) → one_sided k s t ≡ a → one_sided k t s ≡ b → first_of a b ≡ Some v → IsSumOf s t v ⊎ IsSumOf t s v
either_sided k s t (Some w) b v is other h = inl (one_sided_is k s t v (is ∙ h))
either_sided k s t None b v is other h = inr (one_sided_is k t s v (other ∙ h))

sum_type_is : (k : Known) (s t : Ty) (v : SumView) → sum_type k s t ≡ Some v → IsSumOf s t v ⊎ IsSumOf t s v
sum_type_is k s t v h = either_sided k s t (one_sided k s t) (one_sided k t s) v refl refl h

target_is : (k : Known) (s : Ty) (size : ℕ) → target_size k s ≡ Some size → (t : Ty) × (s ≡ Pointer t)
target_is k (Pointer t) size h = (t, refl)
target_is k s size h = no_some size h

-- two pointers to one type
pub record ArePointers (s t : Ty) : Type 0 where
  pub target : Ty
  pub left : s ≡ Pointer target
  pub right : t ≡ Pointer target

pub common_is : (k : Known) (s t : Ty) (size : ℕ) → common_target k s t ≡ Some size → ArePointers s t
common_is k s t size h = by (same_type s t) refl h
  where
    by : (b : Bool) → same_type s t ≡ b → cond b (target_size k s) None ≡ Some size → ArePointers s t
    by true same h = let x = target_is k s size h in record { target = x.0; left = x.1; right = sym (type_is s t same) ∙ x.1 }
    by false same h = no_some size h

kept_is : (t s : Ty) (size : Option ℕ) → kept_if t size ≡ Some s → t ≡ s
kept_is t s (Some size) h = some_is t s h
kept_is t s None h = no_some s h

complete_is : (k : Known) (s t : Ty) → complete_target k s ≡ Some t → s ≡ Pointer t
complete_is k (Pointer s) t h = ap Pointer (kept_is s t (size_of k s) h)
complete_is k s t h = no_some t h

-- ---- terms

-- a rule that gives a term
abbrev pub MakesTerm : UnitView → Ruled TermTree → Type 0
MakesTerm u (Ok e) = IsMade u e
MakesTerm u (Err f) = Unit {0}

module _ (u : UnitView) (k : Known) (ground : IsGround u k) where
  shift_made : (at : Place) (down : Bool) (v : SumView) (t : Ty) (left right : TermTree) → is_well_typed_term u true left ≡ true → is_well_typed_term u true right ≡ true → adds_to (term_type left) (term_type right) ≡ true → IsTypeOf u.model t → v.ctype ≡ Pointer t → IsMade u (Typed at v.ctype 0 None (tree.Shift down v.size left right))
  shift_made at down v t left right x y adds known is =
      subst (λ s. IsMade u (Typed at s 0 None (tree.Shift down v.size left right))) (sym is)
      (node_made u at (Pointer t) 0 (tree.Shift down v.size left right) refl refl
      (and_from (is_well_typed_term u true left) (is_well_typed_term u true right && (adds_to (term_type left) (term_type right) && true)) x
      (and_from (is_well_typed_term u true right) (adds_to (term_type left) (term_type right) && true) y (and_from (adds_to (term_type left) (term_type right)) true adds refl)))
      known
      (λ scalar is_test. no_tests u k ground at (Pointer t) 0 None is_test (tree.Shift down v.size left right) refl))

  moved_left : (at : Place) (down : Bool) (v : SumView) (left right : TermTree) → IsMade u left → IsMade u right → IsSumOf (term_type left) (term_type right) v → IsMade u (Typed at v.ctype 0 None (tree.Shift down v.size left right))
  moved_left at down v left right x y sum =
      shift_made at down v sum.target left right (scalar_well_typed u left x (pointer_scalar left sum.target sum.pointer_is)) (scalar_well_typed u right y (number_scalar right sum.kind sum.number_is))
      (or_left (is_address (term_type left) && look.is_integer (term_type right)) (look.is_integer (term_type left) && is_address (term_type right)) (and_from (is_address (term_type left)) (look.is_integer (term_type right)) (pointer_address left sum.target sum.pointer_is) (number_integer right sum.kind sum.number_is)))
      (target_known u k ground left sum.target x sum.pointer_is) sum.same

  moved_right : (at : Place) (down : Bool) (v : SumView) (left right : TermTree) → IsMade u left → IsMade u right → IsSumOf (term_type right) (term_type left) v → IsMade u (Typed at v.ctype 0 None (tree.Shift down v.size left right))
  moved_right at down v left right x y sum =
      shift_made at down v sum.target left right (scalar_well_typed u left x (number_scalar left sum.kind sum.number_is)) (scalar_well_typed u right y (pointer_scalar right sum.target sum.pointer_is))
      (or_right (is_address (term_type left) && look.is_integer (term_type right)) (look.is_integer (term_type left) && is_address (term_type right)) (and_from (look.is_integer (term_type left)) (is_address (term_type right)) (number_integer left sum.kind sum.number_is) (pointer_address right sum.target sum.pointer_is)))
      (target_known u k ground right sum.target y sum.pointer_is) sum.same

  sum_made : (at : Place) (left right : TermTree) → IsMade u left → IsMade u right → MakesTerm u (pointer_sum k at left right)
  sum_made at left right x y = by (sum_type k (term_type left) (term_type right)) refl
    where
      on : (v : SumView) → IsSumOf (term_type left) (term_type right) v ⊎ IsSumOf (term_type right) (term_type left) v → IsMade u (Typed at v.ctype 0 None (tree.Shift false v.size left right))
      on v (inl sum) = moved_left at false v left right x y sum
      on v (inr sum) = moved_right at false v left right x y sum

      by : (o : Option SumView) → sum_type k (term_type left) (term_type right) ≡ o → MakesTerm u (moved_by at false left right o)
      by None is = tt
      by (Some v) is = on v (sum_type_is k (term_type left) (term_type right) v is)

  less_made : (at : Place) (left right : TermTree) → IsMade u left → IsMade u right → MakesTerm u (pointer_less k at left right)
  less_made at left right x y = by (one_sided k (term_type left) (term_type right)) refl
    where
      by : (o : Option SumView) → one_sided k (term_type left) (term_type right) ≡ o → MakesTerm u (moved_by at true left right o)
      by None is = tt
      by (Some v) is = moved_left at true v left right x y (one_sided_is k (term_type left) (term_type right) v is)

  difference_made : (at : Place) (left right : TermTree) → IsMade u left → IsMade u right → MakesTerm u (pointer_difference k at left right)
  difference_made at left right x y = by (common_target k (term_type left) (term_type right)) refl
    where
      t : Ty
      t = Int (kind_of k.numbers (size_rank k.numbers) true)

      on : (size : ℕ) → ArePointers (term_type left) (term_type right) → IsMade u (Typed at t 0 None (tree.Difference size left right))
      on size p =
          node_made u at t 0 (tree.Difference size left right) refl refl
          (and_from (is_well_typed_term u true left) (is_well_typed_term u true right && (is_address (term_type left) && (is_address (term_type right) && subtracts u t))) (scalar_well_typed u left x (pointer_scalar left p.target p.left))
          (and_from (is_well_typed_term u true right) (is_address (term_type left) && (is_address (term_type right) && subtracts u t)) (scalar_well_typed u right y (pointer_scalar right p.target p.right))
          (and_from (is_address (term_type left)) (is_address (term_type right) && subtracts u t) (pointer_address left p.target p.left)
          (and_from (is_address (term_type right)) (subtracts u t) (pointer_address right p.target p.right) (difference_there u k ground)))))
          (size_there u k ground true)
          (λ scalar is_test. no_tests u k ground at t 0 None is_test (tree.Difference size left right) refl)

      by : (o : Option ℕ) → common_target k (term_type left) (term_type right) ≡ o → MakesTerm u (difference_by k at left right o)
      by None is = tt
      by (Some size) is = on size (common_is k (term_type left) (term_type right) size is)

  minus_made : (at : Place) (left right : TermTree) → IsMade u left → IsMade u right → MakesTerm u (pointer_minus k at left right)
  minus_made at left right x y = by (is_integer (term_type right))
    where
      by : (b : Bool) → MakesTerm u (cond b (pointer_less k at left right) (pointer_difference k at left right))
      by true = less_made at left right x y
      by false = difference_made at left right x y

  plain_made : (r : Ruled TermTree) → MakesTerm u r → Makes u (as_plain r)
  plain_made (Ok e) made = made
  plain_made (Err f) made = tt

  pub added_made : (at : Place) (left right : TermTree) → IsMade u left → IsMade u right → Makes u (pointer_additive k at op.Add left right)
  added_made at left right x y = plain_made (pointer_sum k at left right) (sum_made at left right x y)

  pub subtracted_made : (at : Place) (left right : TermTree) → IsMade u left → IsMade u right → Makes u (pointer_additive k at op.Subtract left right)
  subtracted_made at left right x y = plain_made (pointer_minus k at left right) (minus_made at left right x y)

  -- ---- what pointers point to

  pub indirection_made : (at : Place) (e : TermTree) → IsMade u e → Makes u (indirection k at e)
  indirection_made at e made = by (complete_target k (term_type e)) refl
    where
      on : (t : Ty) → term_type e ≡ Pointer t → Makes u (target_by at e (Some t))
      on t is = record { well_typed = and_from (is_well_typed_term u true e) (is_address (term_type e)) (scalar_well_typed u e made (pointer_scalar e t is)) (pointer_address e t is); typed = target_known u k ground e t made is }

      by : (o : Option Ty) → complete_target k (term_type e) ≡ o → Makes u (target_by at e o)
      by None is = tt
      by (Some t) is = on t (complete_is k (term_type e) t is)

  pub subscript_made : (at : Place) (x y : OperandView) → IsMadeOperand u x → IsMadeOperand u y → Makes u (subscript k at x y)
  subscript_made at x y p q = by (pointer_sum k at (term_of x) (term_of y)) (sum_made at (term_of x) (term_of y) (value_made u k ground x p) (value_made u k ground y q))
    where
      by : (r : Ruled TermTree) → MakesTerm u r → Makes u (at_sum k at r)
      by (Ok e) made = indirection_made at e made
      by (Err f) made = tt
