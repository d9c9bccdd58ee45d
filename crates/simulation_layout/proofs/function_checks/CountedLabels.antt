-- Labels that have the numbers in which they stand are counted.
use Rattle.std.proofs.Common.{◌≡◌, ◌≤◌, ◌⊎◌, inl, inr, ◌<◌, ℕ, suc, ◌+◌, ◌-◌, ◌^◌, ◌==◌, Bool, true, false, not, ◌&&◌, cond, nat_lt, List, length, Option, Some, None, option_map, refl, arith, ap, sym, subst, ◌∙◌}
use Rattle.std.proofs.lemmas.Bool.{eqb-true}
use Rattle.std.proofs.lemmas.Option.{option_and_then_some}
use Rattle.std.specs.Option.{option_and_then}
use Rattle.c_layout.specs.CheckedTrees as tree
use Rattle.c_layout.specs.CheckedTrees.{StatementTree, StatementTrees, statement_trees}
use Rattle.c_layout.specs.CheckedUnits.{FunctionView}
use Rattle.lower_template_theorems.specs.PendingLabels.Marks.{one, below, labels_in, all_labels_in, cases_in, all_cases_in, defaults_in, all_defaults_in, IsSelected, AreSelected, AllSelected, IsLabelled}
use Rattle.lower_template_theorems.proofs.pending_labels.MarkArithmetic.{compared, below_yes, below_no, one_yes, one_no}
use Rattle.lower_preconditions.specs.declared.units.label_numbers.Numbers.{Numbers}
use Rattle.lower_preconditions.specs.Units.LabelNumbers.{behind_number, with_labels, with_cases, behind_label, behind_case, behind_default, in_switch, same_truth, behind_switch, numbered, all_numbered, none_met, ends_with, is_numbered}
use Rattle.simulation_layout.specs.FunctionChecks.LabelsOnce.{once_if, IsSelectedOnce, AreSelectedOnce, AllSelectedOnce, IsLabelledOnce}

-- ---- numbers

less_apart : (l m : ℕ) → l < m → l ≡ m → ⊥
less_apart l m less e = omega (arith, less, e)

more_apart : (l m : ℕ) → m < l → l ≡ m → ⊥
more_apart l m less e = omega (arith, less, e)

sum_is : (a b c x y z : ℕ) → a ≡ x → b ≡ y → c ≡ z → x + y ≡ z → a + b ≡ c
sum_is a b c x y z p q r e = omega (arith, p, q, r, e)

-- one number more
one_more : (l m : ℕ) → one l m + below l m ≡ below l (m + 1)
one_more l m = by (compared l m)
  where
    by : (l < m) ⊎ ((l ≡ m) ⊎ (m < l)) → one l m + below l m ≡ below l (m + 1)
    by (inl less) = sum_is _ _ _ 0 1 1 (one_no l m (less_apart l m less)) (below_yes l m less) (below_yes l (m + 1) (omega (arith, less))) refl
    by (inr (inl e)) = sum_is _ _ _ 1 0 1 (one_yes l m e) (below_no l m (omega (arith, e))) (below_yes l (m + 1) (omega (arith, e))) refl
    by (inr (inr more)) = sum_is _ _ _ 0 0 0 (one_no l m (more_apart l m more)) (below_no l m (omega (arith, more))) (below_no l (m + 1) (omega (arith, more))) refl

none_below : (l : ℕ) → below l 0 ≡ 0
none_below l = below_no l 0 (omega arith)

both : (a b x y z : ℕ) → a + x ≡ y → b + y ≡ z → (a + b) + x ≡ z
both a b x y z e f = omega (arith, e, f)

plus_none : (x y : ℕ) → x ≡ y → 0 + x ≡ y
plus_none x y e = omega (arith, e)

from_none : (a x y : ℕ) → a + x ≡ y → x ≡ 0 → a ≡ y
from_none a x y e none = omega (arith, e, none)

some_is : {A : Type 0} (x y : A) → Some x ≡ Some y → x ≡ y
some_is x y e = cc

never : {A : Type 0} {P : Type 0} (x : A) → None ≡ Some x → P
never x e = absurd (no e)
  where
    no : None ≡ Some x → ⊥
    no e = cc

pub both_true : (a b : Bool) → (a && b) ≡ true → (a ≡ true) × (b ≡ true)
both_true true true e = (refl, refl)
both_true true false e = absurd (let d : ⊥ = cc in d)
both_true false b e = absurd (let d : ⊥ = cc in d)

pub same_bool : (a b : Bool) → same_truth a b ≡ true → a ≡ b
same_bool true true e = refl
same_bool true false e = absurd (let d : ⊥ = cc in d)
same_bool false true e = absurd (let d : ⊥ = cc in d)
same_bool false false e = refl

-- ---- one label

record Next (due number behind : ℕ) : Type 0 where
  is : due ≡ number
  more : behind ≡ due + 1

next : (due number behind : ℕ) → behind_number due number ≡ Some behind → Next due number behind
next due number behind e = by (due == number) refl (nat_lt due (2 ^ 32 - 1)) e
  where
    by : (a : Bool) → (due == number) ≡ a → (b : Bool) → cond (a && b) (Some (due + 1)) None ≡ Some behind → Next due number behind
    by true is true e = record { is = eqb-true due number is; more = sym (some_is (due + 1) behind e) }
    by true is false e = never behind e
    by false is b e = never behind e

record IsBehindLabel (l : ℕ) (n m : Numbers) : Type 0 where
  due : n.labels ≡ l
  more : m.labels ≡ n.labels + 1
  cases : m.cases ≡ n.cases
  fallback : m.has_default ≡ n.has_default

labelled : (l : ℕ) (n m : Numbers) → behind_label l n ≡ Some m → IsBehindLabel l n m
labelled l n m e = by (behind_number n.labels l) refl e
  where
    by : (o : Option ℕ) → behind_number n.labels l ≡ o → option_map (with_labels n) o ≡ Some m → IsBehindLabel l n m
    by None is e = never m e
    by (Some k) is e =
        let x = next n.labels l k is in
        let same = some_is (with_labels n k) m e in
        record { due = x.is; more = ap (λ (p : Numbers). p.labels) (sym same) ∙ x.more; cases = ap (λ (p : Numbers). p.cases) (sym same); fallback = ap (λ (p : Numbers). p.has_default) (sym same) }

record IsBehindCase (l : ℕ) (n m : Numbers) : Type 0 where
  due : n.cases ≡ l
  labels : m.labels ≡ n.labels
  more : m.cases ≡ n.cases + 1
  fallback : m.has_default ≡ n.has_default

case_met : (l : ℕ) (n m : Numbers) → behind_case l n ≡ Some m → IsBehindCase l n m
case_met l n m e = by (behind_number n.cases l) refl e
  where
    by : (o : Option ℕ) → behind_number n.cases l ≡ o → option_map (with_cases n) o ≡ Some m → IsBehindCase l n m
    by None is e = never m e
    by (Some k) is e =
        let x = next n.cases l k is in
        let same = some_is (with_cases n k) m e in
        record { due = x.is; labels = ap (λ (p : Numbers). p.labels) (sym same); more = ap (λ (p : Numbers). p.cases) (sym same) ∙ x.more; fallback = ap (λ (p : Numbers). p.has_default) (sym same) }

record IsBehindDefault (n m : Numbers) : Type 0 where
  free : n.has_default ≡ false
  labels : m.labels ≡ n.labels
  cases : m.cases ≡ n.cases
  taken : m.has_default ≡ true

default_met : (n m : Numbers) → behind_default n ≡ Some m → IsBehindDefault n m
default_met n m e = by n.has_default refl e
  where
    by : (b : Bool) → n.has_default ≡ b → cond b None (Some (record n { has_default = true })) ≡ Some m → IsBehindDefault n m
    by true is e = never m e
    by false is e =
        let same = some_is (record n { has_default = true }) m e in
        record { free = is; labels = ap (λ (p : Numbers). p.labels) (sym same); cases = ap (λ (p : Numbers). p.cases) (sym same); taken = ap (λ (p : Numbers). p.has_default) (sym same) }

record IsBehindSwitch (around : Numbers) (count : ℕ) (says : Bool) (n m : Numbers) : Type 0 where
  all : n.cases ≡ count
  fallback : n.has_default ≡ says
  labels : m.labels ≡ n.labels
  cases : m.cases ≡ around.cases
  default_before : m.has_default ≡ around.has_default

switched : (around : Numbers) (count : ℕ) (has_default : Bool) (n m : Numbers) → behind_switch around count has_default n ≡ Some m → IsBehindSwitch around count has_default n m
switched around count has_default n m e = by (n.cases == count && same_truth n.has_default has_default) refl e
  where
    by : (b : Bool) → (n.cases == count && same_truth n.has_default has_default) ≡ b → cond b (Some (with_labels around n.labels)) None ≡ Some m → IsBehindSwitch around count has_default n m
    by false is e = never m e
    by true is e =
        let x = both_true (n.cases == count) (same_truth n.has_default has_default) is in
        let same = some_is (with_labels around n.labels) m e in
        record {
          all = eqb-true n.cases count x.0;
          fallback = same_bool n.has_default has_default x.1;
          labels = ap (λ (p : Numbers). p.labels) (sym same);
          cases = ap (λ (p : Numbers). p.cases) (sym same);
          default_before = ap (λ (p : Numbers). p.has_default) (sym same);
        }

-- ---- counts between two places

record Between (a c : ℕ → ℕ) (p : ℕ) (n m : Numbers) : Type 0 where
  labels : (l : ℕ) → a l + below l n.labels ≡ below l m.labels
  cases : (l : ℕ) → c l + below l n.cases ≡ below l m.cases
  fallback : p + once_if n.has_default ≡ once_if m.has_default

still : (n m : Numbers) → Some n ≡ Some m → Between (λ l. 0) (λ l. 0) 0 n m
still n m e = subst (λ k. Between (λ l. 0) (λ l. 0) 0 n k) (some_is n m e) (record { labels = λ l. plus_none (below l n.labels) (below l n.labels) refl; cases = λ l. plus_none (below l n.cases) (below l n.cases) refl; fallback = plus_none (once_if n.has_default) (once_if n.has_default) refl })

on : (a b c d : ℕ → ℕ) (p q : ℕ) (n k m : Numbers) → Between a c p n k → Between b d q k m → Between (λ l. a l + b l) (λ l. c l + d l) (p + q) n m
on a b c d p q n k m x y = record {
  labels = λ l. both (a l) (b l) (below l n.labels) (below l k.labels) (below l m.labels) (x.labels l) (y.labels l);
  cases = λ l. both (c l) (d l) (below l n.cases) (below l k.cases) (below l m.cases) (x.cases l) (y.cases l);
  fallback = both p q (once_if n.has_default) (once_if k.has_default) (once_if m.has_default) x.fallback y.fallback;
}

-- a number is met where it is due
met : (l due behind : ℕ) → behind ≡ due + 1 → (c : ℕ) → due ≡ c → one l c + below l due ≡ below l behind
met l due behind more c is = subst (λ b. one l c + below l due ≡ below l b) (sym more) (subst (λ d. one l d + below l due ≡ below l (due + 1)) is (one_more l due))

-- ---- statements

record Counted (i : StatementTree) (n m : Numbers) : Type 0 where
  counts : Between (λ l. labels_in l i) (λ l. cases_in l i) (defaults_in i) n m
  switches : AreSelectedOnce i

record AllCounted (is : StatementTrees) (n m : Numbers) : Type 0 where
  counts : Between (λ l. all_labels_in l is) (λ l. all_cases_in l is) (all_defaults_in is) n m
  switches : AllSelectedOnce is

-- a body behind other counts
behind : (body : StatementTree) (a c : ℕ → ℕ) (p : ℕ) (n k m : Numbers) → Between a c p n k → Counted body k m → Between (λ l. a l + labels_in l body) (λ l. c l + cases_in l body) (p + defaults_in body) n m
behind body a c p n k m x y = on a (λ l. labels_in l body) c (λ l. cases_in l body) p (defaults_in body) n k m x y.counts

-- a body behind labels of its own
labelled_body : (c : ℕ) (body : StatementTree) (n k m : Numbers) → IsBehindLabel c n k → Counted body k m → Counted (tree.Label c body) n m
labelled_body c body n k m x y = record {
  counts = record {
    labels = λ l. both (one l c) (labels_in l body) (below l n.labels) (below l k.labels) (below l m.labels) (met l n.labels k.labels x.more c x.due) (y.counts.labels l);
    cases = λ l. ap (λ v. cases_in l body + below l v) (sym x.cases) ∙ y.counts.cases l;
    fallback = ap (λ b. defaults_in body + once_if b) (sym x.fallback) ∙ y.counts.fallback;
  };
  switches = y.switches;
}

case_body : (c : ℕ) (body : StatementTree) (n k m : Numbers) → IsBehindCase c n k → Counted body k m → Counted (tree.Case c body) n m
case_body c body n k m x y = record {
  counts = record {
    labels = λ l. ap (λ v. labels_in l body + below l v) (sym x.labels) ∙ y.counts.labels l;
    cases = λ l. both (one l c) (cases_in l body) (below l n.cases) (below l k.cases) (below l m.cases) (met l n.cases k.cases x.more c x.due) (y.counts.cases l);
    fallback = ap (λ b. defaults_in body + once_if b) (sym x.fallback) ∙ y.counts.fallback;
  };
  switches = y.switches;
}

default_body : (body : StatementTree) (n k m : Numbers) → IsBehindDefault n k → Counted body k m → Counted (tree.Default body) n m
default_body body n k m x y = record {
  counts = record {
    labels = λ l. ap (λ v. labels_in l body + below l v) (sym x.labels) ∙ y.counts.labels l;
    cases = λ l. ap (λ v. cases_in l body + below l v) (sym x.cases) ∙ y.counts.cases l;
    fallback = both 1 (defaults_in body) (once_if n.has_default) (once_if k.has_default) (once_if m.has_default) (subst (λ b. 1 + once_if b ≡ once_if k.has_default) (sym x.free) (ap once_if (sym x.taken))) y.counts.fallback;
  };
  switches = y.switches;
}

around_switch : (body : StatementTree) (count : ℕ) (has_default : Bool) (n k m : Numbers) → Counted body (in_switch n) k → IsBehindSwitch n count has_default k m → Between (λ l. labels_in l body) (λ l. 0) 0 n m × IsSelectedOnce count has_default body
around_switch body count has_default n k m x y = (
  record {
    labels = λ l. x.counts.labels l ∙ ap (λ c. below l c) (sym y.labels);
    cases = λ l. plus_none _ _ (ap (λ c. below l c) (sym y.cases));
    fallback = plus_none _ _ (ap once_if (sym y.default_before));
  },
  record {
    cases = λ l. from_none (cases_in l body) (below l 0) (below l count) (x.counts.cases l ∙ ap (λ c. below l c) y.all) (none_below l);
    fallback = from_none (defaults_in body) 0 (once_if has_default) (x.counts.fallback ∙ ap once_if y.fallback) refl;
  },
)

mutual
  counted : (i : StatementTree) (n m : Numbers) → numbered i n ≡ Some m → Counted i n m
  counted (tree.Block objects items) n m is = let x = all_counted items n m is in record { counts = x.counts; switches = x.switches }
  counted (tree.If e body) n m is = let x = counted body n m is in record { counts = x.counts; switches = x.switches }
  counted (tree.IfElse e first second) n m is = option_and_then_some (numbered second) (numbered first n) m is (λ k one other.
      let x = counted first n k one in
      let y = counted second k m other in
      record { counts = behind second (λ l. labels_in l first) (λ l. cases_in l first) (defaults_in first) n k m x.counts y; switches = (x.switches, y.switches) })
  counted (tree.While e body) n m is = let x = counted body n m is in record { counts = x.counts; switches = x.switches }
  counted (tree.Do body e) n m is = let x = counted body n m is in record { counts = x.counts; switches = x.switches }
  counted (tree.For objects first e step body) n m is = option_and_then_some (numbered body) (all_numbered first n) m is (λ k one other.
      let x = all_counted first n k one in
      let y = counted body k m other in
      record { counts = behind body (λ l. all_labels_in l first) (λ l. all_cases_in l first) (all_defaults_in first) n k m x.counts y; switches = (x.switches, y.switches) })
  counted (tree.Switch at e labels has_default values body) n m is = option_and_then_some (behind_switch n (length labels) has_default) (numbered body (in_switch n)) m is (λ k one other.
      let x = counted body (in_switch n) k one in
      let y = around_switch body (length labels) has_default n k m x (switched n (length labels) has_default k m other) in
      record { counts = y.0; switches = (y.1, x.switches) })
  counted (tree.Case c body) n m is = option_and_then_some (numbered body) (behind_case c n) m is (λ k here other. case_body c body n k m (case_met c n k here) (counted body k m other))
  counted (tree.Default body) n m is = option_and_then_some (numbered body) (behind_default n) m is (λ k here other. default_body body n k m (default_met n k here) (counted body k m other))
  counted (tree.Label c body) n m is = option_and_then_some (numbered body) (behind_label c n) m is (λ k here other. labelled_body c body n k m (labelled c n k here) (counted body k m other))
  counted other n m is = record { counts = still n m is; switches = tt }

  all_counted : (is : StatementTrees) (n m : Numbers) → all_numbered is n ≡ Some m → AllCounted is n m
  all_counted tree.NoMore n m is = record { counts = still n m is; switches = tt }
  all_counted (tree.And first rest) n m is = option_and_then_some (all_numbered rest) (numbered first n) m is (λ k one other.
      let x = counted first n k one in
      let y = all_counted rest k m other in
      record {
        counts = on (λ l. labels_in l first) (λ l. all_labels_in l rest) (λ l. cases_in l first) (λ l. all_cases_in l rest) (defaults_in first) (all_defaults_in rest) n k m x.counts y.counts;
        switches = (x.switches, y.switches);
      })

-- ---- functions

record IsEnd (many : ℕ) (n : Numbers) : Type 0 where
  labels : n.labels ≡ many
  cases : n.cases ≡ 0
  fallback : n.has_default ≡ false

not_true : (b : Bool) → not b ≡ true → b ≡ false
not_true false e = refl
not_true true e = absurd (let d : ⊥ = cc in d)

the_end : (labels : ℕ) (n : Numbers) → ends_with labels (Some n) ≡ true → IsEnd labels n
the_end labels n e =
    let x = both_true (n.labels == labels) (n.cases == 0 && not n.has_default) e in
    let y = both_true (n.cases == 0) (not n.has_default) x.1 in
    record { labels = eqb-true n.labels labels x.0; cases = eqb-true n.cases 0 y.0; fallback = not_true n.has_default y.1 }

of_end : (f : FunctionView) (n : Numbers) → AllCounted (statement_trees f.body) none_met n → IsEnd f.labels n → IsLabelledOnce f
of_end f n x end = record {
  labels = λ l. from_none (all_labels_in l (statement_trees f.body)) (below l 0) (below l f.labels) (x.counts.labels l ∙ ap (λ k. below l k) end.labels) (none_below l);
  cases = λ l. from_none (all_cases_in l (statement_trees f.body)) (below l 0) 0 (x.counts.cases l ∙ (ap (λ k. below l k) end.cases ∙ none_below l)) (none_below l);
  defaults = from_none (all_defaults_in (statement_trees f.body)) 0 0 (x.counts.fallback ∙ ap once_if end.fallback) refl;
  switches = x.switches;
}

pub labels_once : (f : FunctionView) → is_numbered f ≡ true → IsLabelledOnce f
labels_once f e = by (all_numbered (statement_trees f.body) none_met) refl e
  where
    by : (o : Option Numbers) → all_numbered (statement_trees f.body) none_met ≡ o → ends_with f.labels o ≡ true → IsLabelledOnce f
    by None is e = absurd (let d : ⊥ = cc in d)
    by (Some n) is e = of_end f n (all_counted (statement_trees f.body) none_met n is) (the_end f.labels n e)

-- ---- at most once

at_most : (a b : ℕ) → a ≡ b → a ≤ b
at_most a b e = omega (arith, e)

one_at_most : (b : Bool) (a : ℕ) → a ≡ once_if b → a ≤ 1
one_at_most true a e = omega (arith, e)
one_at_most false a e = omega (arith, e)

pub selected : (count : ℕ) (has_default : Bool) (body : StatementTree) → IsSelectedOnce count has_default body → IsSelected count body
selected count has_default body x = record { cases = λ n. at_most (cases_in n body) _ (x.cases n); fallback = one_at_most has_default (defaults_in body) x.fallback }

mutual
  at_most_once : (i : StatementTree) → AreSelectedOnce i → AreSelected i
  at_most_once (tree.Block objects items) x = all_at_most_once items x
  at_most_once (tree.If e body) x = at_most_once body x
  at_most_once (tree.IfElse e first second) x = (at_most_once first x.0, at_most_once second x.1)
  at_most_once (tree.While e body) x = at_most_once body x
  at_most_once (tree.Do body e) x = at_most_once body x
  at_most_once (tree.For objects first e step body) x = (all_at_most_once first x.0, at_most_once body x.1)
  at_most_once (tree.Switch at e labels has_default values body) x = (selected (length labels) has_default body x.0, at_most_once body x.1)
  at_most_once (tree.Case n body) x = at_most_once body x
  at_most_once (tree.Default body) x = at_most_once body x
  at_most_once (tree.Label n body) x = at_most_once body x
  at_most_once other x = tt

  all_at_most_once : (is : StatementTrees) → AllSelectedOnce is → AllSelected is
  all_at_most_once tree.NoMore x = tt
  all_at_most_once (tree.And first rest) x = (at_most_once first x.0, all_at_most_once rest x.1)

pub function_labelled : (f : FunctionView) → IsLabelledOnce f → IsLabelled f
function_labelled f x = record {
  labels = λ l. at_most (all_labels_in l (statement_trees f.body)) _ (x.labels l);
  cases = x.cases;
  defaults = x.defaults;
  switches = all_at_most_once (statement_trees f.body) x.switches;
}
