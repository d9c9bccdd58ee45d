-- The order in which diagnostics are told: by file, line, column, and then by tag.
use Rattle.std.specs.Prelude.{ℕ, ◌==◌, Bool, List, Contains}
use Rattle.std.specs.Ordering.{nat_cmp, ordering_then}
use Rattle.std.specs.List.Sorted.{IsStrictlySortedBy}
use Rattle.std.specs.declared.cmp.Ordering.{Ordering}
use Rattle.cc_base.specs.declared.diagnostics.Diag.{Diag}
use Rattle.cc_base.specs.declared.diagnostics.Place.{Place}
use Rattle.cc_base.specs.declared.diagnostics.Rule.{Rule}
use Rattle.cc_base.specs.declared.diagnostics.Rule.TheVariants.{Accfree, Boolasgn, Chrsgnext, Dblfree, Diverr, Insufmem, Intoflow, Invptr, Libptr, Nonnullcs, Nullref, Ptrobj, Sizeofptr, Strmod, Swtchdflt, Taintsink, Uninitref, Xfree}

-- where a rule stands among the tags, which ascend as words do
abbrev pub rule_rank : Rule → ℕ
rule_rank Accfree = 0
rule_rank Boolasgn = 1
rule_rank Chrsgnext = 2
rule_rank Dblfree = 3
rule_rank Diverr = 4
rule_rank Insufmem = 5
rule_rank Intoflow = 6
rule_rank Invptr = 7
rule_rank Libptr = 8
rule_rank Nonnullcs = 9
rule_rank Nullref = 10
rule_rank Ptrobj = 11
rule_rank Sizeofptr = 12
rule_rank Strmod = 13
rule_rank Swtchdflt = 14
rule_rank Taintsink = 15
rule_rank Uninitref = 16
rule_rank Xfree = 17

abbrev pub same_rule : Rule → Rule → Bool
same_rule r s = rule_rank r == rule_rank s

-- by file, then line, then column
abbrev pub place_compare : Place → Place → Ordering
place_compare p q = ordering_then (nat_cmp p.file q.file) (ordering_then (nat_cmp p.line q.line) (nat_cmp p.col q.col))

-- by place, then by rule
abbrev pub diagnostic_compare : Diag → Diag → Ordering
diagnostic_compare d e = ordering_then (place_compare d.place e.place) (nat_cmp (rule_rank d.rule) (rule_rank e.rule))

-- a list has just the pairs of another one, in order and each once
pub record IsOrderedSet (pairs diags : List Diag) : Type 0 where
  pub ascending : IsStrictlySortedBy diagnostic_compare diags
  pub kept : (d : Diag) → Contains pairs d → Contains diags d
  pub made : (d : Diag) → Contains diags d → Contains pairs d
