-- Labels, loops and switches of a function's body (6.8.1, 6.8.4.2, 6.8.6).
use Rattle.std.specs.Prelude.{ℕ, ℤ, ◌+◌, ◌-◌, Bool, true, false, cond, nat_eq, nat_lt, List, [], ◌∷◌, ◌++◌, map, length, slice_get, slice_set, take, is_some, Option, Some, None}
use Rattle.std.specs.Ordering.{int_eq}
use Rattle.std.specs.List.{list_any}
use Rattle.std.specs.Map.{lookup}
use Rattle.indexmap.specs.IndexMap.{insert_entry}
use Rattle.indexmap.specs.IndexSet.{insert_key}
use Rattle.cc_base.specs.declared.diagnostics.Place.{Place}
use Rattle.cc_base.specs.declared.int_types.IntType.{IntType}
use Rattle.c_layout.specs.Types.{Ty, view}
use Rattle.c_layout.specs.declared.checked_tree.checked_statements.CaseLabel.{CaseLabel}
use Rattle.c_types_rules.specs.Rules.ConstantFolding.{converted}
use Rattle.c_types_statement_rules.specs.declared.statement_rules.body_flow.OpenSwitch.{OpenSwitch}
use Rattle.c_types_statement_rules.specs.declared.statement_rules.body_flow.AddedCase.{AddedCase}
use Rattle.c_types_statement_rules.specs.declared.statement_rules.body_flow.BodyFlow.{BodyFlow}

-- an open switch: the promoted type of its value, its labels in reading order, the values that they have, and whether
-- it has a default
pub record SwitchView : Type 0 where
  pub kind : IntType
  pub labels : List CaseLabel
  pub values : List ℤ
  pub has_default : Bool

abbrev pub switch_view : OpenSwitch → SwitchView
switch_view s = record { kind = s.kind; labels = s.labels.items; values = s.values.keys; has_default = s.has_default }

-- what a statement may refer to: the result of its function, the labels of the body with their numbers and whether each
-- was met, the open switches, the innermost one last, and how many loops are open, and how many loops and switches
pub record FlowView : Type 0 where
  pub returns : Ty
  pub labels : List (ℕ × ℕ)
  pub seen : List Bool
  pub switches : List SwitchView
  pub loops : ℕ
  pub breakables : ℕ

abbrev pub flow_view : BodyFlow → FlowView
flow_view f = record { returns = view f.result; labels = f.labels.entries; seen = f.seen.items; switches = map switch_view f.switches.items; loops = f.loops; breakables = f.breakables }

abbrev pub no_cases : IntType → SwitchView
no_cases kind = record { kind = kind; labels = []; values = []; has_default = false }

abbrev pub no_flow : Ty → FlowView
no_flow t = record { returns = t; labels = []; seen = []; switches = []; loops = 0; breakables = 0 }

-- ---- cases

abbrev pub case_value : SwitchView → ℤ → ℤ
case_value s n = converted s.kind n

abbrev pub has_value : SwitchView → ℤ → Bool
has_value s value = list_any (int_eq value) s.values

-- a case by its value in the type of its switch: its number, and whether there was one of this value
abbrev pub added_case : SwitchView → ℤ → AddedCase
added_case s n = record { number = length s.labels; is_repeated = has_value s (case_value s n) }

abbrev pub case_label : Place → ℤ → CaseLabel
case_label at value = record { place = at; value = value }

abbrev pub with_case : SwitchView → Place → ℤ → SwitchView
with_case s at n = record s { labels = s.labels ++ case_label at (case_value s n) ∷ []; values = insert_key int_eq s.values (case_value s n) }

abbrev pub with_default : SwitchView → SwitchView
with_default s = record s { has_default = true }

-- ---- the innermost switch

abbrev pub last_number : List SwitchView → ℕ
last_number switches = length switches - 1

abbrev pub innermost : FlowView → Option SwitchView
innermost f = slice_get f.switches (last_number f.switches)

abbrev pub with_innermost : FlowView → SwitchView → FlowView
with_innermost f s = record f { switches = slice_set f.switches (last_number f.switches) s }

abbrev pub added_in : Option SwitchView → ℤ → Option AddedCase
added_in None n = None
added_in (Some s) n = Some (added_case s n)

abbrev pub case_in : FlowView → Place → ℤ → Option SwitchView → FlowView
case_in f at n None = f
case_in f at n (Some s) = with_innermost f (with_case s at n)

-- a case of the innermost switch
abbrev pub flow_case : FlowView → ℤ → Option AddedCase
flow_case f n = added_in (innermost f) n

abbrev pub flow_with_case : FlowView → Place → ℤ → FlowView
flow_with_case f at n = case_in f at n (innermost f)

abbrev pub default_in : Option SwitchView → Option Bool
default_in None = None
default_in (Some s) = Some s.has_default

abbrev pub defaulted_in : FlowView → Option SwitchView → FlowView
defaulted_in f None = f
defaulted_in f (Some s) = with_innermost f (with_default s)

-- whether the innermost switch has a default already
abbrev pub flow_default : FlowView → Option Bool
flow_default f = default_in (innermost f)

abbrev pub flow_with_default : FlowView → FlowView
flow_with_default f = defaulted_in f (innermost f)

-- a switch more, which is the innermost one
abbrev pub with_switch : FlowView → SwitchView → FlowView
with_switch f s = record f { switches = f.switches ++ s ∷ [] }

abbrev pub opened : FlowView → IntType → FlowView
opened f kind = with_switch f (no_cases kind)

abbrev pub closed : FlowView → FlowView
closed f = record f { switches = take (last_number f.switches) f.switches }

-- ---- labels

-- the number of a label
abbrev pub label_of : FlowView → ℕ → Option ℕ
label_of f name = lookup (nat_eq name) f.labels

abbrev pub with_new_label : FlowView → ℕ → FlowView
with_new_label f name = record f { labels = insert_entry nat_eq f.labels name (length f.seen); seen = f.seen ++ false ∷ [] }

-- a label more, unless there is one of its name
abbrev pub with_label : FlowView → ℕ → FlowView
with_label f name = cond (is_some (label_of f name)) f (with_new_label f name)

abbrev pub was_seen : Option Bool → Bool
was_seen None = false
was_seen (Some before) = before

-- whether a label was met
abbrev pub is_met : FlowView → ℕ → Bool
is_met f number = was_seen (slice_get f.seen number)

abbrev pub with_met : FlowView → ℕ → FlowView
with_met f number = record f { seen = slice_set f.seen number true }

-- how many labels there are, as far as the number is below 2^32
abbrev pub label_count : FlowView → ℕ
label_count f = cond (nat_lt (length f.seen) 4294967296) (length f.seen) 4294967295
