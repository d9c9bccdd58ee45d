-- The works of statements with loops are calm.
use Rattle.std.proofs.Common.{◌≡◌, ◌≤◌, ◌<◌, inl, inr, ℕ, ◌+◌, Bool, true, false, List, Option, Some, None, refl, arith, ap, sym, subst, ◌∙◌}
use Rattle.c_layout.specs.CheckedTrees as tree
use Rattle.c_layout.specs.CheckedTrees.{TermTree, StatementTree, StatementTrees}
use Rattle.c_layout.specs.CheckedUnits.{FunctionView}
use Rattle.lower_template_theorems.specs.PendingLabels.Marks.{cases_in, all_cases_in, defaults_in, all_defaults_in}
use Rattle.typed_programs.proofs.plain_templates.LeadingForms.{makes_left, makes_unused}
use Rattle.typed_programs.proofs.plain_templates.LeadingStatements.{list, second_some, own_in_first, own_in_second, own_in_one, own_in_rest}
use Rattle.typed_programs.proofs.plain_worklists.LeadingWorks.{HasOwn, WillMark, makes_this, makes_work}
use Rattle.lower_functions.specs.Statements.Loops.{in_loop, selection, two_way_selection, part, while_loop, do_loop, check, for_from}
use Rattle.lower_functions.specs.Statements.PlainStatements.{all_statements, in_scope, block}
use Rattle.lower_functions.specs.Statements.ScopeJumps.{all_entered}
use Rattle.lower_templates.specs.Worklist.Pieces.{Mark}
use Rattle.lower_templates.specs.Worklist.Works as jobs
use Rattle.lower_templates.specs.Worklist.Plans.{Plan, with_work, with_scope}
use Rattle.lower_templates.specs.Worklist.Settings.{SettingView}
use Rattle.lower_templates.specs.declared.worklist.template_builder.Dispatch.{Dispatch}
use Rattle.lower_templates.specs.declared.worklist.pending_works.Surroundings.{Surroundings}
use Rattle.simulation_terms.specs.Scopes.Scopes.{switches_in, all_switches_in}
use Rattle.typed_lowering.proofs.looped_templates.HeldStatements.{IsHeld}
use Rattle.typed_lowering.proofs.looped_templates.CalmWorks.{JumpsWithin, Calm, calm_statement, calm_labels, calm_scope, calm_jump, calm_mark, calm_condition, calm_step, calm_check, calm_entered, calm_left}

none_more : (a : ℕ) → a ≡ a + 0
none_more a = omega arith

in_turn : (a b c : ℕ) → (a + b) + c ≡ a + (b + c)
in_turn a b c = omega arith

in_first_less : (a b c : ℕ) → a < b → a < b + c
in_first_less a b c less = omega (arith, less)

from_none : (b n : ℕ) → b + n ≡ b + (0 + n)
from_none b n = omega arith

sum : (b m n : ℕ) → b + ((0 + m) + n) ≡ b + (m + n)
sum b m n = omega arith

never : {A : Type 0} → false ≡ true → A
never e = absurd (cc)

first_some : (a b : ℕ) → 1 ≤ a → 1 ≤ a + b
first_some a b some = omega (arith, some)

own_in_clause : (xs : List ℕ) (items : StatementTrees) (test after : Option TermTree) (body : StatementTree) → HasOwn (list items) → HasOwn (tree.For xs items test after body)
own_in_clause xs items test after body (inl x) = inl (x.0, first_some (all_cases_in x.0 items) (cases_in x.0 body) x.1)
own_in_clause xs items test after body (inr x) = inr (first_some (all_defaults_in items) (defaults_in body) x)

own_in_body : (xs : List ℕ) (items : StatementTrees) (test after : Option TermTree) (body : StatementTree) → HasOwn body → HasOwn (tree.For xs items test after body)
own_in_body xs items test after body (inl x) = inl (x.0, second_some (all_cases_in x.0 items) (cases_in x.0 body) x.1)
own_in_body xs items test after body (inr x) = inr (second_some (all_defaults_in items) (defaults_in body) x)

-- the label of a condition is marked
makes_checked : {ds : List Dispatch} (label : ℕ) (test : Option TermTree) (first second : ℕ) (p : Plan) → WillMark ds label (check label test first second p)
makes_checked label None first second p = makes_this (jobs.Ready (Mark label)) _ refl
makes_checked label (Some e) first second p = makes_work _ _ (makes_this (jobs.Ready (Mark label)) _ refl)

-- what a statement plans is calm, behind so many switches that were begun before the statement
pub record Becomes (calls : ℕ → Bool) (s : SettingView) (f : FunctionView) (W : ℕ → Type 0) (before inside : ℕ) (q : Plan) : Type 0 where
  pub begun : ℕ
  pub count : ℕ
  pub calm : Calm calls s f W begun count q
  pub total : begun + count ≡ before + inside

module _ (calls : ℕ → Bool) (s : SettingView) (f : FunctionView) (W : ℕ → Type 0) where
  -- ---- lists

  first_within : (b : ℕ) (first : StatementTree) (rest : StatementTrees) (around : Surroundings) → JumpsWithin calls s f W b (list (tree.And first rest)) around → JumpsWithin calls s f W b first around
  first_within b first rest around g = record { breaks = g.breaks; loops = g.loops; held = g.held.0; on_break = g.on_break; on_continue = g.on_continue; choice = λ own. g.choice (own_in_one first rest own) }

  rest_within : (b : ℕ) (first : StatementTree) (rest : StatementTrees) (around : Surroundings) → JumpsWithin calls s f W b (list (tree.And first rest)) around → JumpsWithin calls s f W (b + switches_in first) (list rest) around
  rest_within b first rest around g = record {
    breaks = g.breaks;
    loops = g.loops;
    held = g.held.1;
    on_break = g.on_break;
    on_continue = g.on_continue;
    choice = λ own. in_first_less around.choice b (switches_in first) (g.choice (own_in_rest first rest own));
  }

  pub calm_statements : (begun count b : ℕ) (items : StatementTrees) (around : Surroundings) (p : Plan) → b ≡ begun + count → JumpsWithin calls s f W b (list items) around → Calm calls s f W begun count p → Calm calls s f W begun (count + all_switches_in items) (all_statements items around p)
  calm_statements begun count b tree.NoMore around p e g k = subst (λ c. Calm calls s f W begun c p) (none_more count) k
  calm_statements begun count b (tree.And first rest) around p e g k =
      let one = calm_statement b first around p e (first_within b first rest around g) k in
      let all = calm_statements begun (count + switches_in first) (b + switches_in first) rest around (with_work (jobs.Statement first around) p) (ap (λ c. c + switches_in first) e ∙ in_turn begun count (switches_in first)) (rest_within b first rest around g) one in
      subst (λ c. Calm calls s f W begun c (all_statements (tree.And first rest) around p)) (in_turn count (switches_in first) (all_switches_in rest)) all

  -- ---- statements by their form

  module _ (ds : List Dispatch) (b : ℕ) (around : Surroundings) (p : Plan) (start : Calm calls s f W b 0 p) where
    -- a statement that begins no switch itself
    becomes : (n : ℕ) (q : Plan) → Calm calls s f W b (0 + n) q → Becomes calls s f W b n q
    becomes n q k = record { begun = b; count = 0 + n; calm = k; total = sym (from_none b n) }

    -- its only part
    part_within : (whole body : StatementTree) (g : JumpsWithin calls s f W b whole around) → IsHeld calls s f g.breaks g.loops b body → (HasOwn body → HasOwn whole) → JumpsWithin calls s f W b body around
    part_within whole body g held own = record { breaks = g.breaks; loops = g.loops; held = held; on_break = g.on_break; on_continue = g.on_continue; choice = λ x. g.choice (own x) }

    -- the body of a loop
    turn_within : (body : StatementTree) (inside : Surroundings) (on_break on_continue : ℕ) → IsHeld calls s f true true b body → W on_break → W on_continue → (HasOwn body → inside.choice < b) → JumpsWithin calls s f W b body (in_loop inside on_break on_continue)
    turn_within body inside on_break on_continue held broken continued choice = record { breaks = true; loops = true; held = held; on_break = λ e. broken; on_continue = λ e. continued; choice = choice }

    pub becomes_block : (xs : List ℕ) (items : StatementTrees) → JumpsWithin calls s f W b (tree.Block xs items) around → Becomes calls s f W b (all_switches_in items) (block s xs items around p)
    becomes_block xs items g =
        let all : JumpsWithin calls s f W b (list items) (in_scope around p.scopes) = record { breaks = g.breaks; loops = g.loops; held = g.held; on_break = g.on_break; on_continue = g.on_continue; choice = g.choice } in
        becomes (all_switches_in items) _ (calm_left s.at xs _ (calm_statements b 0 b items (in_scope around p.scopes) _ (none_more b) all (calm_entered s.at xs (with_scope p) (calm_scope p start))))

    pub becomes_labelled : (label : ℕ) (whole body : StatementTree) (g : JumpsWithin calls s f W b whole around) → IsHeld calls s f g.breaks g.loops b body → (HasOwn body → HasOwn whole) → Becomes calls s f W b (switches_in body) (part label body around p)
    becomes_labelled label whole body g held own = becomes (switches_in body) _ (calm_statement b body around _ (none_more b) (part_within whole body g held own) (calm_mark label p start))

    pub becomes_if : (e : TermTree) (body : StatementTree) → JumpsWithin calls s f W b (tree.If e body) around → ((l : ℕ) → WillMark ds l (selection e body around p) → W l) → Becomes calls s f W b (switches_in body) (selection e body around p)
    becomes_if e body g own =
        let in_part = own (p.labels + 1) (makes_work _ _ (makes_work _ _ (makes_this (jobs.Ready (Mark (p.labels + 1))) _ refl))) in
        let after = own (p.labels + 2) (makes_this (jobs.Ready (Mark (p.labels + 2))) _ refl) in
        becomes (switches_in body) _
        (calm_mark (p.labels + 2) _ (calm_statement b body around _ (none_more b) (part_within (tree.If e body) body g g.held.1 (λ x. x)) (calm_mark (p.labels + 1) _ (calm_condition e _ _ g.held.0 in_part after (calm_mark p.labels _ (calm_labels 3 p start))))))

    pub becomes_else : (e : TermTree) (first second : StatementTree) → JumpsWithin calls s f W b (tree.IfElse e first second) around → ((l : ℕ) → WillMark ds l (two_way_selection s e first second around p) → W l) → Becomes calls s f W b (switches_in first + switches_in second) (two_way_selection s e first second around p)
    becomes_else e first second g own =
        let in_first = own (p.labels + 1) (makes_work _ _ (makes_work _ _ (makes_work _ _ (makes_work _ _ (makes_work _ _ (makes_this (jobs.Ready (Mark (p.labels + 1))) _ refl)))))) in
        let in_second = own (p.labels + 2) (makes_work _ _ (makes_work _ _ (makes_this (jobs.Ready (Mark (p.labels + 2))) _ refl))) in
        let after = own (p.labels + 3) (makes_this (jobs.Ready (Mark (p.labels + 3))) _ refl) in
        let one = part_within (tree.IfElse e first second) first g g.held.1 (own_in_first e first second) in
        let other : JumpsWithin calls s f W (b + switches_in first) second around =
        record { breaks = g.breaks; loops = g.loops; held = g.held.2; on_break = g.on_break; on_continue = g.on_continue; choice = λ o. in_first_less around.choice b (switches_in first) (g.choice (own_in_second e first second o)) } in
        record {
          begun = b;
          count = (0 + switches_in first) + switches_in second;
          calm = calm_mark (p.labels + 3) _ (calm_statement (b + switches_in first) second around _ (from_none b (switches_in first)) other
              (calm_mark (p.labels + 2) _ (calm_jump s.at (p.labels + 3) _ after (calm_statement b first around _ (none_more b) one
              (calm_mark (p.labels + 1) _ (calm_condition e _ _ g.held.0 in_first in_second (calm_mark p.labels _ (calm_labels 4 p start))))))));
          total = sum b (switches_in first) (switches_in second);
        }

    pub becomes_while : (e : TermTree) (body : StatementTree) → JumpsWithin calls s f W b (tree.While e body) around → ((l : ℕ) → WillMark ds l (while_loop s e body around p) → W l) → Becomes calls s f W b (switches_in body) (while_loop s e body around p)
    becomes_while e body g own =
        let test = own p.labels (makes_work _ _ (makes_work _ _ (makes_work _ _ (makes_work _ _ (makes_work _ _ (makes_this (jobs.Ready (Mark p.labels)) _ refl)))))) in
        let in_part = own (p.labels + 1) (makes_work _ _ (makes_work _ _ (makes_work _ _ (makes_this (jobs.Ready (Mark (p.labels + 1))) _ refl)))) in
        let after = own (p.labels + 2) (makes_this (jobs.Ready (Mark (p.labels + 2))) _ refl) in
        becomes (switches_in body) _
        (calm_mark (p.labels + 2) _ (calm_jump s.at p.labels _ test (calm_statement b body (in_loop around (p.labels + 2) p.labels) _ (none_more b) (turn_within body around (p.labels + 2) p.labels g.held.1 after test g.choice)
        (calm_mark (p.labels + 1) _ (calm_condition e _ _ g.held.0 in_part after (calm_mark p.labels _ (calm_labels 3 p start)))))))

    pub becomes_do : (body : StatementTree) (e : TermTree) → JumpsWithin calls s f W b (tree.Do body e) around → ((l : ℕ) → WillMark ds l (do_loop body e around p) → W l) → Becomes calls s f W b (switches_in body) (do_loop body e around p)
    becomes_do body e g own =
        let in_part = own p.labels (makes_work _ _ (makes_work _ _ (makes_work _ _ (makes_work _ _ (makes_this (jobs.Ready (Mark p.labels)) _ refl))))) in
        let test = own (p.labels + 1) (makes_work _ _ (makes_work _ _ (makes_this (jobs.Ready (Mark (p.labels + 1))) _ refl))) in
        let after = own (p.labels + 2) (makes_this (jobs.Ready (Mark (p.labels + 2))) _ refl) in
        becomes (switches_in body) _
        (calm_mark (p.labels + 2) _ (calm_condition e _ _ g.held.0 in_part after (calm_mark (p.labels + 1) _
        (calm_statement b body (in_loop around (p.labels + 2) (p.labels + 1)) _ (none_more b) (turn_within body around (p.labels + 2) (p.labels + 1) g.held.1 after test g.choice) (calm_mark p.labels _ (calm_labels 3 p start))))))

  -- the labels that a `for` creates, from a first one on, are marked
  record AreTurned (first : ℕ) : Type 0 where
    test : W (first + 1)
    body : W (first + 2)
    step : W (first + 3)
    after : W (first + 4)

  turned : (ds : List Dispatch) (first : ℕ) (xs : List ℕ) (items : StatementTrees) (test after : Option TermTree) (body : StatementTree) (inside : Surroundings) (p : Plan) → ((l : ℕ) → WillMark ds l (for_from s first xs items test after body inside p) → W l) → AreTurned first
  turned ds first xs items test after body inside p own = record {
    test = own (first + 1) (makes_left s.at xs _ (makes_work _ _ (makes_work _ _ (makes_unused after _ (makes_work _ _ (makes_work _ _ (makes_work _ _ (makes_checked (first + 1) test (first + 2) (first + 4) _))))))));
    body = own (first + 2) (makes_left s.at xs _ (makes_work _ _ (makes_work _ _ (makes_unused after _ (makes_work _ _ (makes_work _ _ (makes_this (jobs.Ready (Mark (first + 2))) _ refl)))))));
    step = own (first + 3) (makes_left s.at xs _ (makes_work _ _ (makes_work _ _ (makes_unused after _ (makes_this (jobs.Ready (Mark (first + 3))) _ refl)))));
    after = own (first + 4) (makes_left s.at xs _ (makes_this (jobs.Ready (Mark (first + 4))) _ refl));
  }

  pub becomes_for : (ds : List Dispatch) (b first : ℕ) (xs : List ℕ) (items : StatementTrees) (test after : Option TermTree) (body : StatementTree) (inside : Surroundings) (p : Plan) → Calm calls s f W b 0 p → JumpsWithin calls s f W b (tree.For xs items test after body) inside → ((l : ℕ) → WillMark ds l (for_from s first xs items test after body inside p) → W l)
      → Becomes calls s f W b (all_switches_in items + switches_in body) (for_from s first xs items test after body inside p)
  becomes_for ds b first xs items test after body inside p start g own =
      let t = turned ds first xs items test after body inside p own in
      let clause : JumpsWithin calls s f W b (list items) inside = record { breaks = false; loops = false; held = g.held.2; on_break = λ e. never e; on_continue = λ e. never e; choice = λ o. g.choice (own_in_clause xs items test after body o) } in
      let turn : JumpsWithin calls s f W (b + all_switches_in items) body (in_loop inside (first + 4) (first + 3)) =
      record { breaks = true; loops = true; held = g.held.3; on_break = λ e. t.after; on_continue = λ e. t.step; choice = λ o. in_first_less inside.choice b (all_switches_in items) (g.choice (own_in_body xs items test after body o)) } in
      record {
        begun = b;
        count = (0 + all_switches_in items) + switches_in body;
        calm = calm_left s.at xs _ (calm_mark (first + 4) _ (calm_jump s.at (first + 1) _ t.test (calm_step after _ g.held.1 (calm_mark (first + 3) _
            (calm_statement (b + all_switches_in items) body (in_loop inside (first + 4) (first + 3)) _ (from_none b (all_switches_in items)) turn (calm_mark (first + 2) _ (calm_check (first + 1) test (first + 2) (first + 4) _ g.held.0 t.body t.after
            (calm_statements b 0 b items inside _ (none_more b) clause (calm_entered s.at xs _ (calm_mark first _ (calm_labels 5 p start)))))))))));
        total = sum b (all_switches_in items) (switches_in body);
      }
