-- How many scopes and switches were begun before a work.
use Rattle.std.proofs.Common.{◌≡◌, ℕ, suc, ◌+◌, List, length, refl, arith, ap, ◌∙◌}
use Rattle.c_layout.specs.CheckedTrees as tree
use Rattle.c_layout.specs.CheckedTrees.{TermTree, StatementTree, StatementTrees}
use Rattle.lower_templates.specs.Worklist.Plans.{Plan, with_scope}
use Rattle.simulation_terms.specs.Scopes.Scopes.{scopes_in, all_scopes_in, switches_in, all_switches_in}

pub record Position : Type 0 where
  pub scopes : ℕ
  pub switches : ℕ

abbrev pub numbers : ℕ → ℕ → Position
numbers a b = record { scopes = a; switches = b }

abbrev pub position : Plan → Position
position p = numbers p.scopes (length p.dispatches)

-- behind the beginning of a scope, and of a switch
abbrev pub inner : Position → Position
inner c = numbers (suc c.scopes) c.switches

abbrev pub in_switch : Position → Position
in_switch c = numbers c.scopes (suc c.switches)

-- behind a statement
abbrev pub past : Position → StatementTree → Position
past c i = numbers (c.scopes + scopes_in i) (c.switches + switches_in i)

abbrev pub past_all : Position → StatementTrees → Position
past_all c items = numbers (c.scopes + all_scopes_in items) (c.switches + all_switches_in items)

-- behind what begins nothing
abbrev pub past_none : Position → Position
past_none c = numbers (c.scopes + 0) (c.switches + 0)

pub same_numbers : (a b x y : ℕ) → a ≡ b → x ≡ y → numbers a x ≡ numbers b y
same_numbers a b x y e f = ap (λ k. numbers k x) e ∙ ap (λ k. numbers b k) f

plus_zero : (a : ℕ) → a ≡ a + 0
plus_zero a = omega arith

pub none_past : (c : Position) → c ≡ past_none c
none_past c = same_numbers c.scopes (c.scopes + 0) c.switches (c.switches + 0) (plus_zero c.scopes) (plus_zero c.switches)

pub one_inner : (p : Plan) → position (with_scope p) ≡ inner (position p)
unfolding with_scope
one_inner p = same_numbers (p.scopes + 1) (suc p.scopes) (length p.dispatches) (length p.dispatches) (next p.scopes) refl
  where
    next : (a : ℕ) → a + 1 ≡ suc a
    next a = omega arith

in_turn : (c a b : ℕ) → (c + a) + b ≡ c + (a + b)
in_turn c a b = omega arith

one_more : (c a : ℕ) → suc c + a ≡ c + suc a
one_more c a = omega arith

pub past_both : (c : Position) (one : StatementTree) (rest : StatementTrees) → past_all (past c one) rest ≡ past_all c (tree.And one rest)
past_both c one rest = same_numbers _ _ _ _ (in_turn c.scopes (scopes_in one) (all_scopes_in rest)) (in_turn c.switches (switches_in one) (all_switches_in rest))

pub past_block : (c : Position) (objects : List ℕ) (items : StatementTrees) → past_all (inner c) items ≡ past c (tree.Block objects items)
past_block c objects items = same_numbers _ _ _ _ (one_more c.scopes (all_scopes_in items)) refl

pub past_else : (c : Position) (e : TermTree) (body other : StatementTree) → past (past c body) other ≡ past c (tree.IfElse e body other)
past_else c e body other = same_numbers _ _ _ _ (in_turn c.scopes (scopes_in body) (scopes_in other)) (in_turn c.switches (switches_in body) (switches_in other))

pub past_for : (c : Position) (first : StatementTrees) (body : StatementTree) → past (past_all (inner c) first) body ≡ numbers (c.scopes + suc (all_scopes_in first + scopes_in body)) (c.switches + (all_switches_in first + switches_in body))
past_for c first body = same_numbers _ _ _ _ (in_for c.scopes (all_scopes_in first) (scopes_in body)) (in_turn c.switches (all_switches_in first) (switches_in body))
  where
    in_for : (c a b : ℕ) → (suc c + a) + b ≡ c + suc (a + b)
    in_for c a b = omega arith
