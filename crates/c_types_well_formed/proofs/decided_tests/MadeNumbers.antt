-- The numbers that terms record are those that they are.
use Rattle.std.proofs.Common.{◌≡◌, ℕ, ℤ, pos, Bool, true, false, not, cond, Option, Some, None, option_map, refl, ap, ap₂, sym, subst, ◌∙◌}
use Rattle.std.specs.Option.{option_and_then}
use Rattle.std.specs.Ordering.{int_eq}
use Rattle.std.proofs.lemmas.Bool.{cond-true}
use Rattle.cc_base.specs.IntegerTypes.{is_size, in_type, wrap_into}
use Rattle.cc_base.specs.MachineArithmetic.{unary_result, holds}
use Rattle.cc_base.specs.declared.diagnostics.Place.{Place}
use Rattle.cc_base.specs.declared.int_types.IntType.{IntType}
use Rattle.cc_base.specs.declared.integer_operators.IntOp.TheVariants.{Shl, Shr}
use Rattle.cc_base.specs.declared.integer_operators.UnOp.TheVariants.{Neg, Compl}
use Rattle.c_layout.specs.Models.{is_model}
use Rattle.c_layout.specs.Types.{Ty, Int}
use Rattle.c_layout.specs.CheckedTrees as tree
use Rattle.c_layout.specs.CheckedTrees.{TermTree, Typed}
use Rattle.c_layout.specs.CheckedUnits.{UnitView}
use Rattle.c_layout.specs.declared.checked_tree.checked_terms.ConversionKind.TheVariants.{Cast}
use Rattle.c_layout.specs.declared.syntax_tree.expressions.BinaryOp.{BinaryOp}
use Rattle.c_layout.specs.declared.syntax_tree.expressions.BinaryOp.TheVariants as op
use Rattle.c_layout.specs.declared.syntax_tree.expressions.LogicalOp.{LogicalOp}
use Rattle.c_layout.specs.declared.syntax_tree.expressions.LogicalOp.TheVariants.{And, Or}
use Rattle.c_layout.specs.declared.syntax_tree.expressions.UnaryOp.{UnaryOp}
use Rattle.c_layout.specs.declared.syntax_tree.expressions.UnaryOp.TheVariants as unary
use Rattle.c_types_rules.specs.Rules.ConstantFolding.{converted, shifted}
use Rattle.c_types_rules.specs.Rules.IntegerKinds.{kind_of, size_rank, promoted}
use Rattle.c_types_rules.specs.declared.rules.integer_kinds.Rank.TheVariants as rank
use Rattle.c_types_scopes.specs.Known.{Known, size_of}
use Rattle.c_types_operands.specs.Operands.{term_type, term_constant, with_constant}
use Rattle.c_types_operands.specs.Conversions.{noted, integer_as}
use Rattle.c_types_operands.specs.Arithmetic.{int_kind, folded_constant, shifted_constant, result_kind}
use Rattle.c_types_operators.specs.Choices as choice
use Rattle.c_types_operators.specs.SizesAndCasts.{size_form, cast_value}
use Rattle.c_types_operators.specs.UnaryOperators.{turned, turned_value, not_value}
use Rattle.lower_templates.specs.Worklist.TermKinds.{meaning, integer_type}
use Rattle.lower_templates.specs.declared.worklist.term_kinds.OperatorMeaning.{OperatorMeaning}
use Rattle.lower_templates.specs.declared.worklist.term_kinds.OperatorMeaning.TheVariants as meant
use Rattle.source_preservation.specs.ValueTyping.MarkOperations.{number_of_truth}
use Rattle.source_preservation.specs.Checks.LookedTypes.{is_kind, is_wider}
use Rattle.source_preservation.specs.Checks.LookedTerms as look
use Rattle.source_preservation.specs.Checks.LookedTerms.{exact, result, results}
use Rattle.source_preservation.proofs.checks.SameTypes.{wider}
use Rattle.source_preservation.proofs.checks.Truths.{never, no_some, some_is, both_true}
use Rattle.source_preservation.proofs.ranges.Results.{binary_in, unary_in}
use Rattle.source_preservation.proofs.ranges.TypeRanges.{of_wider, wrapped_in, wrapped_own}
use Rattle.c_types_well_formed.specs.WellFormed.ModelTypes.{IsKindOf, IsTypeOf, IsGround}
use Rattle.c_types_well_formed.specs.WellFormed.MadeTerms.{IsExactly, IsMade}
use Rattle.c_types_well_formed.specs.ConstantFolding.FoldingLaws.{FoldsAsComputedIn}
use Rattle.c_types_well_formed.proofs.decided_tests.ModelKinds.{kind_there, kind_size, kind_truths, promoted_kind, promoted_wider}
use Rattle.c_types_well_formed.proofs.decided_tests.Rewrapped.{noted_exact}
use Rattle.c_types_well_formed.proofs.constant_folding.SizeNumbers.{size_fits, sized_small}
use Rattle.c_types_well_formed.proofs.constant_folding.FoldedNumbers.{computed}
use Rattle.c_types_well_formed.proofs.decided_tests.ConvertedOperands.{exact_in}

-- ---- what is recorded

pub if_fixed : (fixed : Bool) (c : Option ℤ) (n : ℤ) → cond fixed c None ≡ Some n → (fixed ≡ true) × (c ≡ Some n)
if_fixed true c n h = (refl, h)
if_fixed false c n h = no_some n h

abbrev pub is_relation_meant : OperatorMeaning → Bool
is_relation_meant (meant.Truth rel) = true
is_relation_meant (meant.Number sign) = false

abbrev pub is_relation : BinaryOp → Bool
is_relation op = is_relation_meant (meaning op)

abbrev pub is_shift_meant : OperatorMeaning → Bool
is_shift_meant (meant.Number Shl) = true
is_shift_meant (meant.Number Shr) = true
is_shift_meant how = false

abbrev pub is_shift : BinaryOp → Bool
is_shift op = is_shift_meant (meaning op)

-- ---- truth values

abbrev IsTruth : ℤ → Type 0
IsTruth n = (b : Bool) × (number_of_truth b ≡ n)

truth_same : (b : Bool) → number_of_truth (not b) ≡ cond b (pos 0) (pos 1)
truth_same true = refl
truth_same false = refl

-- both operands count
truth_is : (p q : Option ℤ) (n : ℤ) → ((b : ℤ) → p ≡ Some b → q ≡ Some b) → choice.truth_if p ≡ Some n → (look.truth_of q ≡ Some n) × IsTruth n
truth_is None q n f h = no_some n h
truth_is (Some b) q n f h =
    let e : number_of_truth (not (int_eq b (pos 0))) ≡ n = truth_same (int_eq b (pos 0)) ∙ some_is (choice.truth_of b) n h in
    (ap look.truth_of (f b refl) ∙ ap Some e, (not (int_eq b (pos 0)), e))

and_is : (t : Bool) (p q : Option ℤ) (n : ℤ) → ((b : ℤ) → p ≡ Some b → q ≡ Some b) → cond t (Some (pos 0)) (choice.truth_if p) ≡ Some n → (cond (not t) (look.truth_of q) (Some (pos 0)) ≡ Some n) × IsTruth n
and_is true p q n f h = (h, (false, some_is (pos 0) n h))
and_is false p q n f h = truth_is p q n f h

or_is : (t : Bool) (p q : Option ℤ) (n : ℤ) → ((b : ℤ) → p ≡ Some b → q ≡ Some b) → cond t (choice.truth_if p) (Some (pos 1)) ≡ Some n → (cond (not t) (Some (pos 1)) (look.truth_of q) ≡ Some n) × IsTruth n
or_is true p q n f h = truth_is p q n f h
or_is false p q n f h = (h, (true, some_is (pos 1) n h))

logical_is : (op : LogicalOp) (p q r s : Option ℤ) (n : ℤ) → ((a : ℤ) → p ≡ Some a → r ≡ Some a) → ((b : ℤ) → q ≡ Some b → s ≡ Some b) → choice.logical_value op p q ≡ Some n → (look.logical op r s ≡ Some n) × IsTruth n
logical_is And None q r s n f g h = no_some n h
logical_is And (Some a) q r s n f g h = let x = and_is (int_eq a (pos 0)) q s n g h in (ap (λ z. look.logical And z s) (f a refl) ∙ x.0, x.1)
logical_is Or None q r s n f g h = no_some n h
logical_is Or (Some a) q r s n f g h = let x = or_is (int_eq a (pos 0)) q s n g h in (ap (λ z. look.logical Or z s) (f a refl) ∙ x.0, x.1)

-- ---- operators

-- a relation gives a truth value in any type
result_in_kind : (how : OperatorMeaning) (is_int : Bool) (int kind : IntType) (a b n : ℤ) → is_relation_meant how ≡ is_int → result how kind a b ≡ Some n → result how (cond is_int int kind) a b ≡ Some n
result_in_kind (meant.Truth rel) is_int int kind a b n relates h = h
result_in_kind (meant.Number sign) true int kind a b n relates h = never relates
result_in_kind (meant.Number sign) false int kind a b n relates h = h

result_fits : (how : OperatorMeaning) (is_int : Bool) (int kind : IntType) (a b n : ℤ) → ((t : Bool) → in_type int (number_of_truth t) ≡ true) → is_size kind.bytes ≡ true → in_type kind a ≡ true → is_relation_meant how ≡ is_int → result how kind a b ≡ Some n → in_type (cond is_int int kind) n ≡ true
result_fits (meant.Truth rel) true int kind a b n truths size i relates h = subst (λ z. in_type int z ≡ true) (some_is (number_of_truth (holds rel a b)) n h) (truths (holds rel a b))
result_fits (meant.Truth rel) false int kind a b n truths size i relates h = never (sym relates)
result_fits (meant.Number sign) true int kind a b n truths size i relates h = never relates
result_fits (meant.Number sign) false int kind a b n truths size i relates h = binary_in sign kind a b n size i h

-- `<<` and `>>`
by_shift : (P : BinaryOp → Type 0) → P op.ShiftLeft → P op.ShiftRight → (sign : BinaryOp) → is_shift sign ≡ true → P sign
by_shift P left right op.ShiftLeft h = left
by_shift P left right op.ShiftRight h = right
by_shift P left right sign h = never h

-- ---- operands

module _ (u : UnitView) (k : Known) (ground : IsGround u k) where
  int_there : IsKindOf u.model (int_kind k)
  int_there = (rank.Int, ap (λ m. kind_of m rank.Int true) (sym ground.same))

  truth_fits : (t : Bool) → in_type (int_kind k) (number_of_truth t) ≡ true
  truth_fits t = by t (both_true (in_type (int_kind k) (pos 0)) (in_type (int_kind k) (pos 1)) (kind_truths u.model ground.proper (int_kind k) int_there))
    where
      by : (t : Bool) → (in_type (int_kind k) (pos 0) ≡ true) × (in_type (int_kind k) (pos 1) ≡ true) → in_type (int_kind k) (number_of_truth t) ≡ true
      by true x = x.1
      by false x = x.0

  a_truth_fits : (n : ℤ) → IsTruth n → in_type (int_kind k) n ≡ true
  a_truth_fits n x = subst (λ z. in_type (int_kind k) z ≡ true) x.1 (truth_fits x.0)

  sizes : (kind : IntType) → IsKindOf u.model kind → is_size kind.bytes ≡ true
  sizes kind h = kind_size u.model ground.proper kind h

  folds : (kind : IntType) → IsKindOf u.model kind → FoldsAsComputedIn kind
  folds kind h = computed kind (sizes kind h)

  kind_is : (e : TermTree) (a : IntType) → term_type e ≡ Int a → IsMade u e → IsKindOf u.model a
  kind_is e a t x = subst (IsTypeOf u.model) t x.typed

  promoted_there : (a : IntType) → IsKindOf u.model a → IsKindOf u.model (promoted k.numbers a)
  promoted_there a h = subst (λ m. IsKindOf u.model (promoted m a)) ground.same (promoted_kind u.model ground.proper a h)

  number_of : (e : TermTree) (n : ℤ) → IsMade u e → term_constant e ≡ Some n → exact u.model e ≡ Some n
  number_of e n x is = (x.constant n is).number

  -- a constant that is promoted keeps its value
  record IsPromoted (e : TermTree) (kind : IntType) (n : ℤ) : Type 0 where
    exactly : exact u.model (integer_as k e kind) ≡ Some n
    fits : in_type kind n ≡ true

  constant_promoted : (e : TermTree) (a : IntType) (n : ℤ) → term_type e ≡ Int a → IsMade u e → term_constant e ≡ Some n → IsPromoted e (promoted k.numbers a) n
  constant_promoted e a n t x is =
      let h = kind_is e a t x in
      let kind : IntType = promoted k.numbers a in
      let there : IsKindOf u.model kind = promoted_there a h in
      let y = x.constant n is in
      let same : y.integer ≡ a = ap integer_type (sym y.typed ∙ t) in
      let wide : is_wider a kind ≡ true = subst (λ m. is_wider a (promoted m a) ≡ true) ground.same (promoted_wider u.model ground.proper a h) in
      let fits : in_type kind n ≡ true = of_wider a kind n (wider a kind wide) (subst (λ b. in_type b n ≡ true) same y.fits) in
      record { exactly = exact_in u k ground e kind n there y ∙ ap Some (wrapped_own kind n (sizes kind there) fits); fits = fits }

  -- an arm of `?:`, or what is cast
  constant_converted : (e : TermTree) (kind : IntType) (m n : ℤ) → IsKindOf u.model kind → IsMade u e → term_constant e ≡ Some m → Some (converted kind m) ≡ Some n → IsPromoted e kind n
  constant_converted e kind m n h x is c =
      let w : wrap_into kind m ≡ n = sym ((folds kind h).converts m) ∙ some_is (converted kind m) n c in
      record { exactly = exact_in u k ground e kind m h (x.constant m is) ∙ ap Some w; fits = subst (λ z. in_type kind z ≡ true) w (wrapped_in kind m (sizes kind h)) }

  arm_number : (e : TermTree) (kind : IntType) (n : ℤ) → IsKindOf u.model kind → IsMade u e → choice.converted_if kind (term_constant e) ≡ Some n → IsPromoted e kind n
  arm_number e kind n h x c = by (term_constant e) refl c
    where
      by : (p : Option ℤ) → term_constant e ≡ p → choice.converted_if kind p ≡ Some n → IsPromoted e kind n
      by None is c = no_some n c
      by (Some m) is c = constant_converted e kind m n h x is c

  -- ---- terms; `c` is what a term records

  module _ (at : Place) (c : Option ℤ) (n : ℤ) where
    pub operator_number : (op : BinaryOp) (is_int : Bool) (kind : IntType) (left right : TermTree) → is_relation op ≡ is_int → IsKindOf u.model kind → IsMade u left → IsMade u right → folded_constant op kind (term_constant left) (term_constant right) ≡ Some n → IsExactly u (Typed at (Int (result_kind k is_int kind)) 0 c (tree.Integer op (integer_as k left kind) (integer_as k right kind))) n
    operator_number op is_int kind left right relates h x y e = by (term_constant left) (term_constant right) refl refl e
      where
        by : (p q : Option ℤ) → term_constant left ≡ p → term_constant right ≡ q → folded_constant op kind p q ≡ Some n → IsExactly u (Typed at (Int (result_kind k is_int kind)) 0 c (tree.Integer op (integer_as k left kind) (integer_as k right kind))) n
        by None q f g e = no_some n e
        by (Some a) None f g e = no_some n e
        by (Some a) (Some b) f g e =
            let r : result (meaning op) kind (wrap_into kind a) (wrap_into kind b) ≡ Some n = (folds kind h).operates op a b n e in
            record {
              integer = result_kind k is_int kind;
              typed = refl;
              number = ap₂ (results (meaning op) (result_kind k is_int kind)) (exact_in u k ground left kind a h (x.constant a f)) (exact_in u k ground right kind b h (y.constant b g)) ∙ result_in_kind (meaning op) is_int (int_kind k) kind (wrap_into kind a) (wrap_into kind b) n relates r;
              fits = result_fits (meaning op) is_int (int_kind k) kind (wrap_into kind a) (wrap_into kind b) n truth_fits (sizes kind h) (wrapped_in kind a (sizes kind h)) relates r;
            }

    pub shift_number : (op : BinaryOp) (a b : IntType) (left right : TermTree) → is_shift op ≡ true → term_type left ≡ Int a → term_type right ≡ Int b → IsMade u left → IsMade u right → shifted_constant op (promoted k.numbers a) (term_constant left) (term_constant right) ≡ Some n → IsExactly u (Typed at (Int (promoted k.numbers a)) 0 c (tree.Integer op (integer_as k left (promoted k.numbers a)) (integer_as k right (promoted k.numbers b)))) n
    shift_number sign a b left right is_one s t x y e = by (term_constant left) (term_constant right) refl refl e
      where
        there : IsKindOf u.model (promoted k.numbers a)
        there = promoted_there a (kind_is left a s x)

        shifts : (p q : ℤ) → in_type (promoted k.numbers a) p ≡ true → shifted sign (promoted k.numbers a) p q ≡ Some n → (result (meaning sign) (promoted k.numbers a) p q ≡ Some n) × (in_type (promoted k.numbers a) n ≡ true)
        shifts p q i = by_shift (λ sign. shifted sign (promoted k.numbers a) p q ≡ Some n → (result (meaning sign) (promoted k.numbers a) p q ≡ Some n) × (in_type (promoted k.numbers a) n ≡ true))
            (λ h. let r = (folds (promoted k.numbers a) there).shifts_left p q n i h in (r, binary_in Shl (promoted k.numbers a) p q n (sizes (promoted k.numbers a) there) i r))
            (λ h. let r = (folds (promoted k.numbers a) there).shifts_right p q n i h in (r, binary_in Shr (promoted k.numbers a) p q n (sizes (promoted k.numbers a) there) i r))
            sign is_one

        by : (p q : Option ℤ) → term_constant left ≡ p → term_constant right ≡ q → shifted_constant sign (promoted k.numbers a) p q ≡ Some n → IsExactly u (Typed at (Int (promoted k.numbers a)) 0 c (tree.Integer sign (integer_as k left (promoted k.numbers a)) (integer_as k right (promoted k.numbers b)))) n
        by None q f g e = no_some n e
        by (Some p) None f g e = no_some n e
        by (Some p) (Some q) f g e =
            let v = constant_promoted left a p s x f in
            let w = constant_promoted right b q t y g in
            let r = shifts p q v.fits e in
            record { integer = (promoted k.numbers a); typed = refl; number = ap₂ (results (meaning sign) (promoted k.numbers a)) v.exactly w.exactly ∙ r.0; fits = r.1 }

    -- `+`, `-` or `~`
    pub turned_number : (op : UnaryOp) (a : IntType) (e : TermTree) → term_type e ≡ Int a → IsMade u e → turned_value op (promoted k.numbers a) (term_constant e) ≡ Some n → IsExactly u (with_constant c (turned at op (promoted k.numbers a) (integer_as k e (promoted k.numbers a)))) n
    turned_number sign a e t x is = by (term_constant e) refl sign is
      where
        there : IsKindOf u.model (promoted k.numbers a)
        there = promoted_there a (kind_is e a t x)

        kept : (m : ℤ) → IsPromoted e (promoted k.numbers a) m → Some (converted (promoted k.numbers a) m) ≡ Some n → IsExactly u (Typed at (Int (promoted k.numbers a)) 0 c (tree.Plus (integer_as k e (promoted k.numbers a)))) n
        kept m v h =
            let same : m ≡ n = sym (wrapped_own (promoted k.numbers a) m (sizes (promoted k.numbers a) there) v.fits) ∙ (sym ((folds (promoted k.numbers a) there).converts m) ∙ some_is (converted (promoted k.numbers a) m) n h) in
            record { integer = (promoted k.numbers a); typed = refl; number = v.exactly ∙ ap Some same; fits = subst (λ z. in_type (promoted k.numbers a) z ≡ true) same v.fits }

        computes : (m : ℤ) → IsPromoted e (promoted k.numbers a) m → (sign : UnaryOp) → turned_value sign (promoted k.numbers a) (Some m) ≡ Some n → IsExactly u (with_constant c (turned at sign (promoted k.numbers a) (integer_as k e (promoted k.numbers a)))) n
        computes m v unary.Minus h =
            let r = (folds (promoted k.numbers a) there).negates m n v.fits h in
            record { integer = (promoted k.numbers a); typed = refl; number = ap (option_and_then (λ z. unary_result Neg (promoted k.numbers a) z)) v.exactly ∙ r; fits = unary_in Neg (promoted k.numbers a) m n (sizes (promoted k.numbers a) there) v.fits r }
        computes m v unary.Complement h =
            let r : unary_result Compl (promoted k.numbers a) m ≡ Some n = (folds (promoted k.numbers a) there).complements m v.fits ∙ h in
            record { integer = (promoted k.numbers a); typed = refl; number = ap (option_and_then (λ z. unary_result Compl (promoted k.numbers a) z)) v.exactly ∙ r; fits = unary_in Compl (promoted k.numbers a) m n (sizes (promoted k.numbers a) there) v.fits r }
        computes m v unary.Plus h = kept m v h
        computes m v unary.Not h = kept m v h
        computes m v unary.Address h = kept m v h
        computes m v unary.Indirection h = kept m v h

        by : (p : Option ℤ) → term_constant e ≡ p → (sign : UnaryOp) → turned_value sign (promoted k.numbers a) p ≡ Some n → IsExactly u (with_constant c (turned at sign (promoted k.numbers a) (integer_as k e (promoted k.numbers a)))) n
        by None f unary.Minus h = no_some n h
        by None f unary.Complement h = no_some n h
        by None f sign h = no_some n h
        by (Some m) f sign h = computes m (constant_promoted e a m t x f) sign h

    pub not_number : (e : TermTree) → IsMade u e → not_value (term_constant e) ≡ Some n → IsExactly u (Typed at (Int (int_kind k)) 0 c (tree.Not e)) n
    not_number e x is = by (term_constant e) refl is
      where
        by : (p : Option ℤ) → term_constant e ≡ p → not_value p ≡ Some n → IsExactly u (Typed at (Int (int_kind k)) 0 c (tree.Not e)) n
        by None f h = no_some n h
        by (Some m) f h = record { integer = int_kind k; typed = refl; number = ap (option_map look.negation) (number_of e m x f) ∙ h; fits = a_truth_fits n (int_eq m (pos 0), some_is (look.negation m) n h) }

    pub logical_number : (op : LogicalOp) (left right : TermTree) → IsMade u left → IsMade u right → choice.logical_value op (term_constant left) (term_constant right) ≡ Some n → IsExactly u (Typed at (Int (int_kind k)) 0 c (tree.Logical op left right)) n
    logical_number op left right x y is =
        let v = logical_is op (term_constant left) (term_constant right) (exact u.model left) (exact u.model right) n (λ a f. number_of left a x f) (λ b g. number_of right b y g) is in
        record { integer = int_kind k; typed = refl; number = v.0; fits = a_truth_fits n v.1 }

    pub choice_number : (kind : IntType) (condition first second : TermTree) → IsKindOf u.model kind → IsMade u condition → IsMade u first → IsMade u second → choice.chosen kind (term_constant condition) (term_constant first) (term_constant second) ≡ Some n → IsExactly u (Typed at (Int kind) 0 c (tree.Conditional condition (integer_as k first kind) (integer_as k second kind))) n
    choice_number kind condition first second h x y z is = by (term_constant condition) refl is
      where
        arms : (t : Bool) → cond t (choice.converted_if kind (term_constant second)) (choice.converted_if kind (term_constant first)) ≡ Some n → (cond (not t) (exact u.model (integer_as k first kind)) (exact u.model (integer_as k second kind)) ≡ Some n) × (in_type kind n ≡ true)
        arms true e = let v = arm_number second kind n h z e in (v.exactly, v.fits)
        arms false e = let v = arm_number first kind n h y e in (v.exactly, v.fits)

        by : (p : Option ℤ) → term_constant condition ≡ p → choice.chosen kind p (term_constant first) (term_constant second) ≡ Some n → IsExactly u (Typed at (Int kind) 0 c (tree.Conditional condition (integer_as k first kind) (integer_as k second kind))) n
        by None f e = no_some n e
        by (Some m) f e =
            let v = arms (int_eq m (pos 0)) e in
            record { integer = kind; typed = refl; number = ap (λ o. look.chosen o (exact u.model (integer_as k first kind)) (exact u.model (integer_as k second kind))) (number_of condition m x f) ∙ v.0; fits = v.1 }

    pub cast_number : (kind : IntType) (e : TermTree) → IsKindOf u.model kind → IsMade u e → cast_value (Int kind) (term_constant e) ≡ Some n → IsExactly u (Typed at (Int kind) 0 c (tree.Convert Cast (noted k (Int kind) e))) n
    cast_number kind e h x is = by (term_constant e) refl is
      where
        by : (p : Option ℤ) → term_constant e ≡ p → cast_value (Int kind) p ≡ Some n → IsExactly u (Typed at (Int kind) 0 c (tree.Convert Cast (noted k (Int kind) e))) n
        by None f g = no_some n g
        by (Some m) f g =
            let w : wrap_into kind m ≡ n = sym ((folds kind h).converts m) ∙ some_is (converted kind m) n g in
            record {
              integer = kind;
              typed = refl;
              number = ap (look.converted_in u.model (Int kind)) (noted_exact k (Int kind) u.model e ∙ number_of e m x f) ∙ (cond-true (is_kind u.model kind) (Some (wrap_into kind m)) None (kind_there u.model ground.proper kind h) ∙ ap Some w);
              fits = subst (λ z. in_type kind z ≡ true) w (wrapped_in kind m (sizes kind h));
            }

    pub size_number : (t : Ty) (size : ℕ) (operand : Option TermTree) (is_pointer : Bool) → size_of k t ≡ Some size → Some (pos size) ≡ Some n → IsExactly u (Typed at (Int (kind_of k.numbers (size_rank k.numbers) false)) 0 c (size_form size operand is_pointer)) n
    size_number t size operand is_pointer s is = record {
      integer = kind_of k.numbers (size_rank k.numbers) false;
      typed = refl;
      number = by operand ∙ is;
      fits = subst (λ z. in_type (kind_of k.numbers (size_rank k.numbers) false) z ≡ true) (some_is (pos size) n is) (size_fits k.numbers proper size (sized_small k.numbers proper k.structs t size s));
    }
      where
        proper : is_model k.numbers ≡ true
        proper = subst (λ m. is_model m ≡ true) ground.same ground.proper

        by : (operand : Option TermTree) → exact u.model (Typed at (Int (kind_of k.numbers (size_rank k.numbers) false)) 0 c (size_form size operand is_pointer)) ≡ Some (pos size)
        by None = refl
        by (Some e) = refl
