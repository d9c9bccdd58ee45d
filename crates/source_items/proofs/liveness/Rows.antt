-- What lives in a small function, that it is scoped, and functions that are not.
use Rattle.std.proofs.Common.{◌≡◌, ℕ, ◌==◌, ◌||◌, Bool, true, false, List, [], ◌∷◌, map, Some, None, refl, sym, subst, arith}
use Rattle.std.proofs.lemmas.Bool.{eqb-true}
use Rattle.cc_base.specs.declared.diagnostics.Place.{Place}
use Rattle.c_layout.specs.Types.{Ty, Int}
use Rattle.c_layout.specs.CheckedTrees as tree
use Rattle.c_layout.specs.CheckedTrees.{TermTree, Typed, LvalueTree, Designates, StatementTree, statement_trees}
use Rattle.c_layout.specs.CheckedUnits.{LocalView, FunctionView}
use Rattle.c_layout.specs.declared.checked_tree.checked_terms.ObjectRef.TheVariants.{Local}
use Rattle.lower_templates.specs.Worklist.TermKinds.{rank_of_int}
use Rattle.semantics.specs.SourceMachine.Items as item
use Rattle.semantics.specs.SourceMachine.Items.{Item}
use Rattle.semantics.specs.SourceMachine.Scopes.{is_in, jump}
use Rattle.semantics.specs.SourceMachine.StatementItems.{body}
use Rattle.source_items.specs.Liveness.Lives.{lives, kept, with_those}
use Rattle.source_items.specs.Liveness.ScopedStatements.{ScopedFunction}
use Rattle.source_items.proofs.liveness.Members.{other_apart}

-- what is in a list of one object is that one
only : (m : ℕ) (P : ℕ → Type 0) → P m → (n : ℕ) → is_in n (m ∷ []) ≡ true → P n
only m P holds n e = subst P (sym (eqb-true n m (left (n == m) e))) holds
  where
    left : (b : Bool) → (b || false) ≡ true → b ≡ true
    left true e = refl
    left false e = e

module _ (at : Place) where
  abbrev int : Ty
  int = Int rank_of_int

  abbrev object : ℕ → LvalueTree
  object n = Designates at int 0 (tree.Object (Local n))

  abbrev value : ℕ → TermTree
  value n = Typed at int 0 None (tree.Load (object n))

  abbrev assign : ℕ → ℕ → StatementTree
  assign to from = tree.Value (Typed at int 0 None (tree.Assign (object to) (value from)))

  abbrev local : LocalView
  local = record { name = []; at = at; ctype = int }

  -- `int f(int a) { int x; .. }`, with another local in some block
  abbrev function : List StatementTree → FunctionView
  function statements = record { name = []; at = at; returns = int; parameters = 1; locals = local ∷ (local ∷ (local ∷ [])); scope = 1 ∷ []; body = statements; labels = 0 }

  -- `{ int y; y = a; } x = a; return x;`
  abbrev right : FunctionView
  right = function (tree.Block (2 ∷ []) (statement_trees (assign 2 0 ∷ [])) ∷ (assign 1 0 ∷ (tree.Return at (Some (value 1)) ∷ [])))

  -- ---- lives

  -- whether the parameter, both locals and the result live
  abbrev all_lives : Bool → List Item → List Bool
  all_lives is_entry items = map (lives right is_entry items) (0 ∷ (1 ∷ (2 ∷ (3 ∷ []))))

  abbrev end : List Item
  end = item.Leaves (1 ∷ []) ∷ (item.EndBody ∷ [])

  abbrev in_block : List Item
  in_block = item.Leaves (2 ∷ []) ∷ end

  before_body : all_lives false (body right) ≡ true ∷ (false ∷ (false ∷ (true ∷ [])))
  before_body = refl

  before_entry : all_lives true (body right) ≡ true ∷ (false ∷ (false ∷ (false ∷ [])))
  before_entry = refl

  inside : all_lives false in_block ≡ true ∷ (true ∷ (true ∷ (true ∷ [])))
  inside = refl

  behind : all_lives false end ≡ true ∷ (true ∷ (false ∷ (true ∷ [])))
  behind = refl

  -- nothing lives behind a function that was called, and the parameter behind the entry
  behind_called : all_lives false [] ≡ false ∷ (false ∷ (false ∷ (false ∷ [])))
  behind_called = refl

  behind_entry : all_lives true [] ≡ true ∷ (false ∷ (false ∷ (false ∷ [])))
  behind_entry = refl

  -- as much lives before a jump out of the block, or into it, as where the jump is
  out : all_lives false (jump in_block end) ≡ all_lives false in_block
  out = refl

  into : all_lives false (jump end in_block) ≡ all_lives false end
  into = refl

  -- ---- functions

  right_is_scoped : (is_entry : Bool) → ScopedFunction right is_entry
  right_is_scoped true = record {
    parameters = omega arith;
    scope = ((refl, tt), only 1 (λ n. kept right true n ≡ false) refl);
    body = ((((refl, tt), only 2 (λ n. with_those (1 ∷ []) (kept right true) n ≡ false) refl), ((refl, refl), tt)), ((refl, refl), ((refl, refl), tt)));
  }
  right_is_scoped false = record {
    parameters = omega arith;
    scope = ((refl, tt), only 1 (λ n. kept right false n ≡ false) refl);
    body = ((((refl, tt), only 2 (λ n. with_those (1 ∷ []) (kept right false) n ≡ false) refl), ((refl, refl), tt)), ((refl, refl), ((refl, refl), tt)));
  }

  -- `{ int y; } x = y;` names an object behind its block
  outside_is_not : (is_entry : Bool) → ScopedFunction (function (tree.Block (2 ∷ []) tree.NoMore ∷ (assign 1 2 ∷ []))) is_entry → ⊥
  outside_is_not true scoped = other_apart (sym scoped.body.1.0.1)
  outside_is_not false scoped = other_apart (sym scoped.body.1.0.1)

  -- a block within another one of the same object
  twice_is_not : (is_entry : Bool) → ScopedFunction (function (tree.Block (1 ∷ []) tree.NoMore ∷ [])) is_entry → ⊥
  twice_is_not true scoped = other_apart (scoped.body.0.0.1 1 refl)
  twice_is_not false scoped = other_apart (scoped.body.0.0.1 1 refl)
