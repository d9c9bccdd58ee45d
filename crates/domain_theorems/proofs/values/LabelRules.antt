-- Labels of results grow with those of the operands.
use Rattle.std.specs.Prelude.{◌≡◌, Bool, true, not, ◌&&◌, ◌||◌}
use Rattle.cc_base.specs.declared.int_types.IntType.{IntType}
use Rattle.cc_base.specs.declared.integer_operators.IntOp.{IntOp}
use Rattle.cc_base.specs.declared.integer_operators.IntOp.TheVariants.{Add, Sub, Mul, Div, Rem, And, Or, Xor, Shl, Shr}
use Rattle.cc_base.specs.declared.integer_operators.UnOp.{UnOp}
use Rattle.cc_base.specs.declared.integer_operators.Rel.{Rel}
use Rattle.cc_base.specs.declared.integer_operators.Rel.TheVariants.{Lt, Le, Gt, Ge, Eq, Ne}
use Rattle.value_domain.specs.declared.values.label_sets.Labels.{Labels}
use Rattle.value_domain.specs.Values.LabelSets.{labels_leq, is_unlabelled, is_bounded_by, carries_change, can_wrap, can_wrap_unary, operated_labels, negated_labels, converted_labels, dropped_labels}
use Rattle.domain_theorems.proofs.values.Flags.{Sets, or_sets, and_sets, not_sets}
use Rattle.domain_theorems.proofs.values.Parts.{LabelsBelow, label_parts, labels_below}

-- ---- of two operands

module _ (s t u v : Labels) (h : LabelsBelow s u) (k : LabelsBelow t v) where
  changed : Sets (s.mutated || t.mutated) (u.mutated || v.mutated)
  changed = or_sets s.mutated t.mutated u.mutated v.mutated h.mutated k.mutated

  unbounded : Sets (not (is_bounded_by s t)) (not (is_bounded_by u v))
  unbounded = not_sets (is_bounded_by s t) (is_bounded_by u v)
      (not_sets (u.lo || (u.hi || (v.lo || v.hi))) (s.lo || (s.hi || (t.lo || t.hi)))
      (or_sets s.lo (s.hi || (t.lo || t.hi)) u.lo (u.hi || (v.lo || v.hi)) h.lo
      (or_sets s.hi (t.lo || t.hi) u.hi (v.lo || v.hi) h.hi
      (or_sets t.lo t.hi v.lo v.hi k.lo k.hi))))

labelled : (s u : Labels) → LabelsBelow s u → Sets (not (is_unlabelled s)) (not (is_unlabelled u))
labelled s u h = not_sets (is_unlabelled s) (is_unlabelled u)
    (not_sets (u.lo || (u.hi || u.mutated)) (s.lo || (s.hi || s.mutated))
    (or_sets s.lo (s.hi || s.mutated) u.lo (u.hi || u.mutated) h.lo (or_sets s.hi s.mutated u.hi u.mutated h.hi h.mutated)))

carries : (op : IntOp) (s t u v : Labels) → LabelsBelow s u → LabelsBelow t v → Sets (carries_change op s t) (carries_change op u v)
carries Rem s t u v h k = and_sets (s.mutated || t.mutated) (not (is_unlabelled t)) (u.mutated || v.mutated) (not (is_unlabelled v)) (changed s t u v h k) (labelled t v k)
carries And s t u v h k = and_sets (s.mutated || t.mutated) (not (is_unlabelled s) && not (is_unlabelled t)) (u.mutated || v.mutated) (not (is_unlabelled u) && not (is_unlabelled v)) (changed s t u v h k)
    (and_sets (not (is_unlabelled s)) (not (is_unlabelled t)) (not (is_unlabelled u)) (not (is_unlabelled v)) (labelled s u h) (labelled t v k))
carries Add s t u v h k = changed s t u v h k
carries Sub s t u v h k = changed s t u v h k
carries Mul s t u v h k = changed s t u v h k
carries Div s t u v h k = changed s t u v h k
carries Or s t u v h k = changed s t u v h k
carries Xor s t u v h k = changed s t u v h k
carries Shl s t u v h k = changed s t u v h k
carries Shr s t u v h k = changed s t u v h k

-- a result that can wrap, where more results leave the type
wraps : (a b c d : Bool) → Sets c d → Sets (a && (b && c)) (a && (b && d))
wraps a b c d h = and_sets a (b && c) a (b && d) (λ e. e) (and_sets b c b d (λ e. e) h)

pub operated_monotone : (op : IntOp) (s t u v : Labels) (k : IntType) (leaves leave : Bool) → labels_leq s u ≡ true → labels_leq t v ≡ true → Sets leaves leave → labels_leq (operated_labels op s t k leaves) (operated_labels op u v k leave) ≡ true
operated_monotone op s t u v k leaves leave i j w =
    let h = label_parts s u i in
    let g = label_parts t v j in
    labels_below (operated_labels op s t k leaves) (operated_labels op u v k leave) (record {
      lo = and_sets k.signed (not (is_bounded_by s t)) k.signed (not (is_bounded_by u v)) (λ e. e) (unbounded s t u v h g);
      hi = unbounded s t u v h g;
      mutated = or_sets (carries_change op s t) (can_wrap op && (not k.signed && leaves)) (carries_change op u v) (can_wrap op && (not k.signed && leave)) (carries op s t u v h g) (wraps (can_wrap op) (not k.signed) leaves leave w);
    })

-- ---- of one operand

pub negated_monotone : (op : UnOp) (s u : Labels) (k : IntType) (leaves leave : Bool) → labels_leq s u ≡ true → Sets leaves leave → labels_leq (negated_labels op s k leaves) (negated_labels op u k leave) ≡ true
negated_monotone op s u k leaves leave i w =
    let h = label_parts s u i in
    labels_below (negated_labels op s k leaves) (negated_labels op u k leave) (record {
      lo = and_sets k.signed (s.lo || s.hi) k.signed (u.lo || u.hi) (λ e. e) (or_sets s.lo s.hi u.lo u.hi h.lo h.hi);
      hi = or_sets s.lo s.hi u.lo u.hi h.lo h.hi;
      mutated = or_sets s.mutated (can_wrap_unary op && (not k.signed && leaves)) u.mutated (can_wrap_unary op && (not k.signed && leave)) h.mutated (wraps (can_wrap_unary op) (not k.signed) leaves leave w);
    })

pub converted_monotone : (s u : Labels) (k : IntType) (fits fit : Bool) → labels_leq s u ≡ true → Sets fit fits → labels_leq (converted_labels s k fits) (converted_labels u k fit) ≡ true
converted_monotone s u k fits fit i w =
    let h = label_parts s u i in
    labels_below (converted_labels s k fits) (converted_labels u k fit) (record {
      lo = and_sets k.signed s.lo k.signed u.lo (λ e. e) h.lo;
      hi = or_sets s.hi (not k.signed && s.lo) u.hi (not k.signed && u.lo) h.hi (and_sets (not k.signed) s.lo (not k.signed) u.lo (λ e. e) h.lo);
      mutated = or_sets s.mutated (not fits) u.mutated (not fit) h.mutated (not_sets fits fit w);
    })

-- ---- behind a comparison

below_monotone : (s u : Labels) (k : IntType) → LabelsBelow s u → labels_leq (dropped_labels Lt s k) (dropped_labels Lt u k) ≡ true
below_monotone s u k h = labels_below (dropped_labels Lt s k) (dropped_labels Lt u k) (record {
  lo = and_sets k.signed s.lo k.signed u.lo (λ e. e) h.lo;
  hi = λ e. e;
  mutated = λ e. e;
})

above_monotone : (s u : Labels) (k : IntType) → LabelsBelow s u → labels_leq (dropped_labels Gt s k) (dropped_labels Gt u k) ≡ true
above_monotone s u k h = labels_below (dropped_labels Gt s k) (dropped_labels Gt u k) (record {
  lo = and_sets (not k.signed) s.lo (not k.signed) u.lo (λ e. e) h.lo;
  hi = h.hi;
  mutated = h.mutated;
})

none_monotone : (s u : Labels) (k : IntType) → labels_leq (dropped_labels Eq s k) (dropped_labels Eq u k) ≡ true
none_monotone s u k = labels_below (dropped_labels Eq s k) (dropped_labels Eq u k) (record { lo = λ e. e; hi = λ e. e; mutated = λ e. e })

pub dropped_monotone : (rel : Rel) (k : IntType) (s u : Labels) → labels_leq s u ≡ true → labels_leq (dropped_labels rel s k) (dropped_labels rel u k) ≡ true
dropped_monotone Lt k s u i = below_monotone s u k (label_parts s u i)
dropped_monotone Le k s u i = below_monotone s u k (label_parts s u i)
dropped_monotone Gt k s u i = above_monotone s u k (label_parts s u i)
dropped_monotone Ge k s u i = above_monotone s u k (label_parts s u i)
dropped_monotone Eq k s u i = none_monotone s u k
dropped_monotone Ne k s u i = i
