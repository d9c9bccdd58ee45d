-- The labels of open switches, which are distinct until one is repeated.
use Rattle.std.proofs.Common.{◌≡◌, ℕ, zero, suc, ℤ, true, false, List, [], ◌∷◌, ◌++◌, slice_get, Option, Some, None, refl, sym, ap, subst, ◌∙◌}
use Rattle.std.specs.Prelude.{slice_set, take, if◌then◌else◌}
use Rattle.std.specs.List.{list_any}
use Rattle.std.specs.Ordering.{int_eq}
use Rattle.std.proofs.lemmas.List.{map-append}
use Rattle.std.proofs.lemmas.Option.{same_Some}
use Rattle.indexmap.specs.IndexSet.{insert_key}
use Rattle.cc_base.specs.declared.diagnostics.Place.{Place}
use Rattle.cc_base.specs.declared.int_types.IntType.{IntType}
use Rattle.c_types_statement_rules.specs.StatementRules.BodyFlow.{SwitchView, FlowView, no_cases, case_value, has_value, case_label, with_case, with_default, last_number, innermost, with_innermost, defaulted_in, flow_with_default, opened, closed}
use Rattle.unit_exact.specs.CaseLabels.DistinctCases as cases
use Rattle.unit_exact.specs.CaseLabels.DistinctCases.{are_distinct, case_values}
use Rattle.unit_exact.proofs.case_labels.DistinctValues.{distinct_more}

-- the values of a switch are those of its labels, which are distinct
pub record IsApart (s : SwitchView) : Type 0 where
  pub same : s.values ≡ case_values s.labels
  pub distinct : are_distinct (case_values s.labels) ≡ true

abbrev pub AreApart : List SwitchView → Type 0
AreApart [] = Unit {0}
AreApart (s ∷ ss) = IsApart s × AreApart ss

-- ---- one switch

none_apart : (kind : IntType) → IsApart (no_cases kind)
none_apart kind = record { same = refl; distinct = refl }

default_apart : (s : SwitchView) → IsApart s → IsApart (with_default s)
default_apart s h = record { same = h.same; distinct = h.distinct }

inserted : (ns : List ℤ) (v : ℤ) → list_any (int_eq v) ns ≡ false → insert_key int_eq ns v ≡ ns ++ v ∷ []
inserted ns v new = ap (λ b. if b then ns else ns ++ v ∷ []) new

-- a case of a value that the switch does not have
pub case_apart : (s : SwitchView) (at : Place) (n : ℤ) → IsApart s → has_value s (case_value s n) ≡ false → IsApart (with_case s at n)
case_apart s at n h new =
    let v : ℤ = case_value s n in
    let all : case_values (s.labels ++ case_label at v ∷ []) ≡ case_values s.labels ++ v ∷ [] = map-append cases.case_value s.labels (case_label at v ∷ []) in
    record {
      same = inserted s.values v new ∙ (ap (λ ns. ns ++ v ∷ []) h.same ∙ sym all);
      distinct = subst (λ ns. are_distinct ns ≡ true) (sym all) (distinct_more (case_values s.labels) v h.distinct (subst (λ ns. list_any (int_eq v) ns ≡ false) h.same new));
    }

-- ---- all of them

pub apart_at : (ss : List SwitchView) (n : ℕ) (s : SwitchView) → AreApart ss → slice_get ss n ≡ Some s → IsApart s
apart_at [] n s h is = absurd (cc)
apart_at (x ∷ ss) zero s h is = subst IsApart (same_Some x s is) h.0
apart_at (x ∷ ss) (suc n) s h is = apart_at ss n s h.1 is

apart_set : (ss : List SwitchView) (n : ℕ) (s : SwitchView) → AreApart ss → IsApart s → AreApart (slice_set ss n s)
apart_set [] n s h one = tt
apart_set (x ∷ ss) zero s h one = (one, h.1)
apart_set (x ∷ ss) (suc n) s h one = (h.0, apart_set ss n s h.1 one)

apart_more : (ss : List SwitchView) (s : SwitchView) → AreApart ss → IsApart s → AreApart (ss ++ s ∷ [])
apart_more [] s h one = (one, tt)
apart_more (x ∷ ss) s h one = (h.0, apart_more ss s h.1 one)

apart_take : (n : ℕ) (ss : List SwitchView) → AreApart ss → AreApart (take n ss)
apart_take zero ss h = tt
apart_take (suc n) [] h = tt
apart_take (suc n) (x ∷ ss) h = (h.0, apart_take n ss h.1)

-- ---- what a statement may refer to

pub innermost_apart : (f : FlowView) (s : SwitchView) → AreApart f.switches → IsApart s → AreApart (with_innermost f s).switches
innermost_apart f s h one = apart_set f.switches (last_number f.switches) s h one

defaulted : (f : FlowView) (o : Option SwitchView) → innermost f ≡ o → AreApart f.switches → AreApart (defaulted_in f o).switches
defaulted f None is h = h
defaulted f (Some s) is h = innermost_apart f (with_default s) h (default_apart s (apart_at f.switches (last_number f.switches) s h is))

pub default_keeps : (f : FlowView) → AreApart f.switches → AreApart (flow_with_default f).switches
default_keeps f h = defaulted f (innermost f) refl h

pub opened_apart : (f : FlowView) (kind : IntType) → AreApart f.switches → AreApart (opened f kind).switches
opened_apart f kind h = apart_more f.switches (no_cases kind) h (none_apart kind)

pub closed_apart : (f : FlowView) → AreApart f.switches → AreApart (closed f).switches
closed_apart f h = apart_take (last_number f.switches) f.switches h
