-- The summary that `load` prints: bases and cells, a line for each rule that has diagnostics, and their
-- number.
use Rattle.std.specs.Prelude.{ℕ, nat_lt, List, [], ◌∷◌, ◌++◌, length, codes, if◌then◌else◌}
use Rattle.std.specs.List.{count_by}
use Rattle.std.specs.Fmt.{decimal}
use Rattle.cc_base.specs.declared.diagnostics.Rule.{Rule}
use Rattle.cc_base.specs.declared.diagnostics.Diag.{Diag}
use Rattle.cc_base.specs.DiagnosticOrder.{same_rule}
use Rattle.cc_base.specs.Rules.{all_rules, tag_of}
use Rattle.cli_texts.specs.Reports.{Bytes, last_line}

-- how many diagnostics are of a rule
abbrev pub count_of : List Diag → Rule → ℕ
count_of diags rule = count_by (λ (d : Diag). same_rule d.rule rule) diags

-- TAG COUNT
abbrev pub rule_line : Rule → ℕ → Bytes
rule_line rule count = tag_of rule ++ (codes " " ++ (decimal count ++ codes "\n"))

abbrev pub rule_part : List Diag → Rule → Bytes
rule_part diags rule = if nat_lt 0 (count_of diags rule) then rule_line rule (count_of diags rule) else []

abbrev pub rule_parts : List Diag → List Rule → Bytes
rule_parts diags [] = []
rule_parts diags (r ∷ rs) = rule_part diags r ++ rule_parts diags rs

-- the lines of all rules
unfoldable pub rule_lines : List Diag → Bytes
rule_lines diags = rule_parts diags all_rules

-- UNIT: N bases, N cells
abbrev pub first_line : Bytes → ℕ → ℕ → Bytes
first_line unit bases cells = unit ++ (codes ": " ++ (decimal bases ++ (codes " bases, " ++ (decimal cells ++ codes " cells\n"))))

abbrev pub summary_of : Bytes → ℕ → ℕ → List Diag → Bytes
summary_of unit bases cells diags = first_line unit bases cells ++ (rule_lines diags ++ last_line (length diags) unit)
