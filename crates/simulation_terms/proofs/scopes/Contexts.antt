-- What is known in a block and in a loop.
use Rattle.std.proofs.Common.{◌≡◌, ◌≤◌, ◌<◌, ℕ, ◌==◌, ◌||◌, Bool, true, false, List, [], ◌∷◌, ◌++◌, refl, arith, ap, sym, subst, ◌∙◌, append_assoc}
use Rattle.std.proofs.lemmas.Bool.{eq-eqb}
use Rattle.lower_templates.specs.Worklist.Pieces.{PieceView}
use Rattle.lower_templates.specs.Worklist.Settings.{SettingView}
use Rattle.lower_templates.specs.declared.worklist.pending_works.Landing.{Landing}
use Rattle.lower_templates.specs.declared.worklist.pending_works.Surroundings.{Surroundings}
use Rattle.lower_functions.specs.Statements.PlainStatements.{in_scope}
use Rattle.lower_functions.specs.Statements.Loops.{in_loop}
use Rattle.semantics.specs.SourceMachine.Items as item
use Rattle.semantics.specs.SourceMachine.Items.{Item}
use Rattle.semantics.specs.SourceMachine.Scopes.{is_in, all_of, open_scopes, without, inwards, past_loop, past_iteration}
use Rattle.simulation_terms.specs.SimulationRelation.Activations.{Activation}
use Rattle.simulation_terms.specs.SimulationRelation.Simulates.{Leads, Simulates}
use Rattle.simulation_terms.specs.Scopes.Scopes.{IsScope}
use Rattle.simulation_terms.specs.Scopes.SuitedStatements.{AreNew, Enclosure, by_loop}
use Rattle.simulation_terms.specs.Scopes.Chains as chains
use Rattle.simulation_terms.specs.Scopes.Contexts.{Lands, Context, Within}
use Rattle.simulation_terms.specs.Scopes.Contexts as contexts
use Rattle.simulation_terms.specs.Scopes.Contexts.{Up, AreIn}
use Rattle.simulation_terms.proofs.scopes.Ways.{outwards, with_none, without_on, in_more, all_in, in_more_all, new_for_fewer}

-- ---- lists of objects

true_or : (b : Bool) → (true || b) ≡ true
true_or b = refl

or_true : (b : Bool) → (b || true) ≡ true
or_true true = refl
or_true false = refl

first_here : (x : ℕ) (xs : List ℕ) → is_in x (x ∷ xs) ≡ true
first_here x xs = ap (λ b. b || is_in x xs) (eq-eqb x x refl)

-- what is among some is among these and others
in_front : (x : ℕ) (xs ys : List ℕ) → is_in x xs ≡ true → is_in x (xs ++ ys) ≡ true
in_front x [] ys e = absurd (no e)
  where
    no : false ≡ true → ⊥
    no e = cc
in_front x (y ∷ xs) ys e = by (x == y) e (in_front x xs ys)
  where
    by : (b : Bool) → (b || is_in x xs) ≡ true → (is_in x xs ≡ true → is_in x (xs ++ ys) ≡ true) → (b || is_in x (xs ++ ys)) ≡ true
    by true e later = refl
    by false e later = later e

-- one list or the other one
in_either : (x : ℕ) (xs ys zs : List ℕ) → (is_in x ys ≡ true → is_in x zs ≡ true) → is_in x (xs ++ ys) ≡ true → is_in x (xs ++ zs) ≡ true
in_either x [] ys zs more e = more e
in_either x (y ∷ xs) ys zs more e = by (x == y) e (in_either x xs ys zs more)
  where
    by : (b : Bool) → (b || is_in x (xs ++ ys)) ≡ true → (is_in x (xs ++ ys) ≡ true → is_in x (xs ++ zs) ≡ true) → (b || is_in x (xs ++ zs)) ≡ true
    by true e later = refl
    by false e later = later e

pub self_in : (xs before : List ℕ) → AreIn xs (before ++ xs)
self_in [] before = tt
self_in (x ∷ xs) before = (in_more x before (x ∷ xs) (first_here x xs), subst (AreIn xs) (append_assoc before (x ∷ []) xs) (self_in xs (before ++ x ∷ [])))

front_in : (xs before ys : List ℕ) → AreIn xs ((before ++ xs) ++ ys)
front_in [] before ys = tt
front_in (x ∷ xs) before ys = (
  in_front x (before ++ x ∷ xs) ys (in_more x before (x ∷ xs) (first_here x xs)),
  subst (λ zs. AreIn xs (zs ++ ys)) (append_assoc before (x ∷ []) xs) (front_in xs (before ++ x ∷ []) ys),
)

both_in : (xs ys known : List ℕ) → AreIn xs known → AreIn ys known → AreIn (xs ++ ys) known
both_in [] ys known a b = b
both_in (x ∷ xs) ys known a b = (a.0, both_in xs ys known a.1 b)

pub inwards_in : (scopes : List (List ℕ)) → AreIn (inwards scopes) (all_of scopes)
inwards_in [] = tt
inwards_in (scope ∷ scopes) = both_in (inwards scopes) scope (scope ++ all_of scopes) (in_more_all scope (inwards scopes) (all_of scopes) (inwards_in scopes)) (front_in scope [] (all_of scopes))

module _ (s : SettingView) (t : Activation) where
  -- ---- blocks

  through : (a b c : ℕ) → a ≤ b → b < c → a < c
  through a b c x y = omega (arith, x, y)

  lands_inside : (n : ℕ) (known objects : List ℕ) (scopes : List (List ℕ)) (to : List Item) (from number : ℕ) (landing : Landing) → ((x : ℕ) → is_in x (all_of scopes) ≡ true → is_in x known ≡ true) → AreNew objects known → IsScope s number from objects → Lands s t n scopes to from landing → Lands s t n (objects ∷ scopes) to number landing
  lands_inside n known objects scopes to from number landing within new is l =
      let there = all_of (open_scopes to) in
      record {
        objects = objects ++ l.objects;
        up = contexts.out number from landing.scope objects l.objects (through landing.scope from number (outwards s from landing.scope l.objects l.up) is.later) is l.up;
        leaves = without_on there objects (all_of scopes) ∙ ap (λ xs. xs ++ without there (all_of scopes)) (with_none there objects (new_for_fewer objects there known (λ x e. within x (l.within x e)) new)) ∙ ap (λ xs. objects ++ xs) l.leaves;
        stays = in_more_all objects (inwards (open_scopes to)) (all_of scopes) l.stays;
        within = λ x e. in_more x objects (all_of scopes) (l.within x e);
        there = l.there;
        leads = l.leads;
        simulates = l.simulates;
      }

  pub in_block : (n : ℕ) (around : Surroundings) (looping : Enclosure) (known objects : List ℕ) (number : ℕ) (items : List Item) → AreNew objects known → IsScope s number around.scope objects → Within s t n around looping known items → Within s t n (in_scope around number) looping (objects ++ known) (item.Leaves objects ∷ items)
  in_block n around looping known objects number items new is k = record {
    within = λ x e. in_either x objects (all_of (open_scopes items)) known (k.within x) e;
    chain = chains.inside number around.scope objects (open_scopes items) is k.chain;
    labels = k.labels;
    on_break = λ e. lands_inside n known objects (open_scopes items) (past_loop items) around.scope number around.on_break k.within new is (k.on_break e);
    on_continue = λ e. lands_inside n known objects (open_scopes items) (past_iteration items) around.scope number around.on_continue k.within new is (k.on_continue e);
  }

  -- ---- loops

  lands_here : (n : ℕ) (scopes : List (List ℕ)) (to : List Item) (from l : ℕ) (there : List PieceView) → open_scopes to ≡ scopes → Leads t l there → Simulates t n 0 to there → Lands s t n scopes to from (record { label = l; scope = from })
  lands_here n scopes to from l there same leads f = record {
    objects = [];
    up = contexts.here from;
    leaves = ap (λ xs. without (all_of xs) (all_of scopes)) same ∙ all_in (all_of scopes) (all_of scopes) (self_in (all_of scopes) []);
    stays = subst (λ xs. AreIn (inwards xs) (all_of scopes)) (sym same) (inwards_in scopes);
    within = λ x e. subst (λ xs. is_in x (all_of xs) ≡ true) same e;
    there = there;
    leads = leads;
    simulates = f;
  }

  -- in the body of a loop, behind which such items are left: its ends stand where control goes on
  pub in_body : (n : ℕ) (around : Surroundings) (looping : Enclosure) (known : List ℕ) (items inside turn : List Item) (on_break on_continue : ℕ) (behind back : List PieceView) → open_scopes inside ≡ open_scopes items → open_scopes turn ≡ open_scopes items → past_loop inside ≡ items → past_iteration inside ≡ turn
      → Leads t on_break behind → Leads t on_continue back → Simulates t n 0 items behind → Simulates t n 0 turn back → Within s t n around looping known items → Within s t n (in_loop around on_break on_continue) by_loop known inside
  in_body n around looping known items inside turn on_break on_continue behind back same also after_loop after_turn to_break to_continue f g k =
      subst (λ scopes. Context s t n (in_loop around on_break on_continue) by_loop known scopes (past_loop inside) (past_iteration inside)) (sym same)
      (subst (λ xs. Context s t n (in_loop around on_break on_continue) by_loop known (open_scopes items) xs (past_iteration inside)) (sym after_loop)
      (subst (λ xs. Context s t n (in_loop around on_break on_continue) by_loop known (open_scopes items) items xs) (sym after_turn)
      (record {
        within = k.within;
        chain = k.chain;
        labels = k.labels;
        on_break = λ e. lands_here n (open_scopes items) items around.scope on_break behind refl to_break f;
        on_continue = λ e. lands_here n (open_scopes items) turn around.scope on_continue back also to_continue g;
      })))
