-- Where labels stand in works, and what follows behind their marks.
use Rattle.std.proofs.Common.{◌≡◌, ◌≤◌, ◌<◌, ℕ, false, List, [], ◌∷◌, ◌++◌, length, get_or, Option, Some, None, arith, ap, sym, subst, ◌∙◌, length-append}
use Rattle.std.proofs.lemmas.List.{get_or_append_left}
use Rattle.lower_templates.specs.Worklist.Pieces.{PieceView}
use Rattle.lower_templates.specs.Worklist.Plans.{Plan}
use Rattle.lower_templates.specs.Worklist.Settings.{SettingView}
use Rattle.lower_templates.specs.Worklist.Works.{Job, behind}
use Rattle.lower_templates.specs.declared.worklist.template_builder.Dispatch.{Dispatch}
use Rattle.lower_functions.specs.Statements.Switches.{dispatch_at, no_dispatch}
use Rattle.lower_functions.specs.Functions.Turns.{planless}
use Rattle.lower_template_theorems.specs.Growth.Growth.{Grows}
use Rattle.lower_template_theorems.proofs.growth.GrowingWorks.{grows, grows_parts, planless_grows, jobs_none}
use Rattle.lower_template_theorems.specs.Worklists.Derivations.{is_piece, parts, Makes}
use Rattle.lower_template_theorems.proofs.worklists.Derivations.{parted}
use Rattle.semantics.specs.SourceMachine.Items.{Item}
use Rattle.semantics.specs.SourceMachine.LabelSearch.{Sought, case, other, first}
use Rattle.simulation_terms.specs.SimulationRelation.Activations.{Activation}
use Rattle.simulation_terms.specs.SimulationRelation.Simulates.{Simulates}
use Rattle.simulation_terms.specs.Worklists.TemplateParts.{IsKnown, Stands}
use Rattle.simulation_terms.proofs.worklists.Runs.{known_before, stands_behind, opened, split}
use Rattle.simulation_terms.specs.Scopes.Contexts.{Reaches}
use Rattle.simulation_terms.proofs.scopes.Positions.{Position, position}
use Rattle.simulation_terms.proofs.scopes.InScopes.{Goes}
use Rattle.simulation_statements.proofs.statements.Selections.{Counts}
use Rattle.simulation_statements.specs.Dispatches.LabelMarks.{IsMark, of_label, of_case, of_other}

-- ---- marks

-- what a switch was given is kept
dispatch_kept : (p q : Plan) (choice : ℕ) → Grows p q → choice < length p.dispatches → dispatch_at q choice ≡ dispatch_at p choice
dispatch_kept p q choice g less = ap (λ ds. get_or ds choice no_dispatch) g.dispatches ∙ get_or_append_left p.dispatches g.more_dispatches no_dispatch choice less

longer : (p q : Plan) (choice : ℕ) → Grows p q → choice < length p.dispatches → choice < length q.dispatches
longer p q choice g less = let e = ap (λ ds. length ds) g.dispatches ∙ length-append p.dispatches g.more_dispatches in omega (arith, less, e)

more_labels : (a b n : ℕ) → a ≤ b → n < a → n < b
more_labels a b n le less = omega (arith, le, less)

pub mark_kept : (p q : Plan) (choice : ℕ) (l : Sought) (mark : ℕ) → Grows p q → IsMark p choice l mark → IsMark q choice l mark
mark_kept p q choice _ _ g (of_label n less) = of_label n (more_labels p.labels q.labels n g.labels less)
mark_kept p q choice _ _ g (of_case n there less) =
    let same = dispatch_kept p q choice g there in
    subst (λ (d : Dispatch). IsMark q choice (case n) (behind d.cases n)) same (of_case n (longer p q choice g there) (subst (λ (d : Dispatch). behind d.cases n < q.labels) (sym same) (more_labels p.labels q.labels _ g.labels less)))
mark_kept p q choice _ _ g (of_other there less) =
    let same = dispatch_kept p q choice g there in
    subst (λ (d : Dispatch). IsMark q choice other d.fallback) same (of_other (longer p q choice g there) (subst (λ (d : Dispatch). d.fallback < q.labels) (sym same) (more_labels p.labels q.labels _ g.labels less)))

pub mark_below : (p : Plan) (choice : ℕ) (l : Sought) (mark : ℕ) → IsMark p choice l mark → mark < p.labels
mark_below p choice _ _ (of_label n less) = less
mark_below p choice _ _ (of_case n there less) = less
mark_below p choice _ _ (of_other there less) = less

never : {A : Type 0} (to : A) → None ≡ Some to → ⊥
never to e = cc

module _ (s : SettingView) (t : Activation) where
  -- some search in works, with so many turns, in a switch, and with so many scopes begun before
  abbrev pub FindsFrom : ℕ → ℕ → (List Item → Type 0) → Plan → List Job → (Sought → List Item → Option (List Item)) → Type 0
  FindsFrom n choice K p js find = (ps : List PieceView) (r : Plan) → Makes s p js ps r → IsKnown t r → (items : List Item) (rest : List PieceView) → Stands t (ps ++ rest) → K items → Simulates t n 0 items rest → (l : Sought) (mark : ℕ) → IsMark p choice l mark → (to : List Item) → find l items ≡ Some to → Reaches t n mark to

  pub record Finds (n choice : ℕ) (first : Position) (K : List Item → Type 0) (js : List Job) (find : Sought → List Item → Option (List Item)) : Type 0 where
    pub from : (p : Plan) → p.jobs ≡ [] → position p ≡ first → FindsFrom n choice K p js find

  pub finds_none : (n choice : ℕ) (c : Position) (K : List Item → Type 0) (js : List Job) → Finds n choice c K js (λ l items. None)
  finds_none n choice c K js = record { from = λ p none begun ps r m known items rest stands k f l mark is to e. absurd (never to e) }

  -- in works that come first, where others and their items are behind
  pub finds_front : (n choice : ℕ) (first middle last : Position) (K L : List Item → Type 0) (js ks : List Job) (hs : List Item) (find : Sought → List Item → Option (List Item)) → ((items : List Item) → K items → L (hs ++ items)) → Finds n choice first L js find → Counts s first middle js → Goes s t n middle last K ks hs
      → Finds n choice first K (js ++ ks) (λ l items. find l (hs ++ items))
  finds_front n choice first middle last K L js ks hs find onwards finds counts goes = record {
    from = λ p none begun ps r m known items rest stands k f l mark is to e.
        let x = parted s p js ks ps r m in
        let here = split s t n ps x.front x.back rest x.all stands in
        let later = goes.from x.between (jobs_none s p js x.front x.between x.first none) (counts p none begun x.front x.between x.first) x.back r x.second known items rest (stands_behind t x.front (x.back ++ rest) here) k f in
        finds.from p none begun x.front x.between x.first (known_before t x.between r (grows s x.between ks x.back r x.second) known) (hs ++ items) (x.back ++ rest) here (onwards items k) later l mark is to e;
  }

  -- in works that come last
  pub finds_back : (n choice : ℕ) (first middle : Position) (K : List Item → Type 0) (js ks : List Job) (find : Sought → List Item → Option (List Item)) → Counts s first middle js → Finds n choice middle K ks find → Finds n choice first K (js ++ ks) find
  finds_back n choice first middle K js ks find counts finds = record {
    from = λ p none begun ps r m known items rest stands k f l mark is to e.
        let x = parted s p js ks ps r m in
        let here = split s t n ps x.front x.back rest x.all stands in
        finds.from x.between (jobs_none s p js x.front x.between x.first none) (counts p none begun x.front x.between x.first) x.back r x.second known items rest (stands_behind t x.front (x.back ++ rest) here) k f l mark (mark_kept p x.between choice l mark (grows s p js x.front x.between x.first) is) to e;
  }

  in_either : (n mark : ℕ) (to : List Item) (one two : Option (List Item)) → first one two ≡ Some to → (one ≡ Some to → Reaches t n mark to) → (two ≡ Some to → Reaches t n mark to) → Reaches t n mark to
  in_either n mark to None two e here there = there e
  in_either n mark to (Some x) two e here there = here e

  -- by one search or another one
  pub finds_either : (n choice : ℕ) (c : Position) (K : List Item → Type 0) (js : List Job) (one two : Sought → List Item → Option (List Item)) → Finds n choice c K js one → Finds n choice c K js two → Finds n choice c K js (λ l items. first (one l items) (two l items))
  finds_either n choice c K js one two x y = record {
    from = λ p none begun ps r m known items rest stands k f l mark is to e. in_either n mark to (one l items) (two l items) e (λ a. x.from p none begun ps r m known items rest stands k f l mark is to a) (λ a. y.from p none begun ps r m known items rest stands k f l mark is to a);
  }

  -- a work gives way to its parts
  pub finds_way : (n choice : ℕ) (c : Position) (K : List Item → Type 0) (j : Job) (find : Sought → List Item → Option (List Item)) → is_piece j ≡ false → ((p : Plan) → p.jobs ≡ [] → position p ≡ c → FindsFrom n choice K (planless (parts s j p)) (parts s j p).jobs find) → Finds n choice c K (j ∷ []) find
  finds_way n choice c K j find not_piece inner = record {
    from = λ p none begun ps r m known items rest stands k f l mark is to e.
        inner p none begun ps r (opened s p j ps r not_piece m) known items rest stands k f l mark (mark_kept p (planless (parts s j p)) choice l mark (planless_grows p (parts s j p) (grows_parts s j p)) is) to e;
  }
