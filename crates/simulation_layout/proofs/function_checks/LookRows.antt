-- Worked rows of the looks at labels and objects.
use Rattle.std.proofs.Common.{◌≡◌, ℕ, Bool, true, false, List, [], ◌∷◌, Option, Some, None, refl}
use Rattle.cc_base.specs.declared.diagnostics.Place.{Place}
use Rattle.c_layout.specs.CheckedTrees as tree
use Rattle.c_layout.specs.CheckedTrees.{TermTree, StatementTree, StatementTrees}
use Rattle.c_layout.specs.declared.checked_tree.checked_statements.CaseLabel.{CaseLabel}
use Rattle.lower_preconditions.specs.Units.LabelNumbers.{numbered, all_numbered, none_met}
use Rattle.lower_preconditions.specs.Units.ScopeObjects.{scopes_marked, all_scopes_marked}

-- `a: goto b; b: ;`
in_order : all_numbered (tree.And (tree.Label 0 (tree.Goto 1)) (tree.And (tree.Label 1 tree.Nothing) tree.NoMore)) none_met ≡ Some (record { labels = 2; cases = 0; has_default = false })
in_order = refl

-- a label in front of the one that is numbered before it
not_in_order : all_numbered (tree.And (tree.Label 1 tree.Nothing) (tree.And (tree.Label 0 tree.Nothing) tree.NoMore)) none_met ≡ None
not_in_order = refl

-- a label outside of a `switch`
stray : numbered (tree.Default tree.Nothing) none_met ≡ Some (record { labels = 0; cases = 0; has_default = true })
stray = refl

-- `switch (e) { case x: case y: a: break; default: switch (e) { case x: ; } }`
module _ (at : Place) (e : TermTree) (x y : CaseLabel) where
  abbrev inner : StatementTree
  inner = tree.Switch at e (x ∷ []) false None (tree.Block [] (tree.And (tree.Case 0 tree.Nothing) tree.NoMore))

  two_switches : numbered (tree.Switch at e (x ∷ (y ∷ [])) true None (tree.Block [] (tree.And (tree.Case 0 (tree.Case 1 (tree.Label 0 tree.Break))) (tree.And (tree.Default inner) tree.NoMore)))) none_met ≡ Some (record { labels = 1; cases = 0; has_default = false })
  two_switches = refl

  -- a `switch` that says that it has a default label
  no_default : numbered (tree.Switch at e [] true None tree.Nothing) none_met ≡ None
  no_default = refl

  -- a `switch` that misses a label
  no_case : numbered (tree.Switch at e (x ∷ []) false None tree.Nothing) none_met ≡ None
  no_case = refl

-- `{ int b, c; { int d; } }` behind a parameter
own_objects : scopes_marked (tree.Block (1 ∷ (2 ∷ [])) (tree.And (tree.Block (3 ∷ []) tree.NoMore) tree.NoMore)) (true ∷ (false ∷ (false ∷ (false ∷ [])))) ≡ Some (true ∷ (true ∷ (true ∷ (true ∷ []))))
own_objects = refl

-- a parameter, an object of two scopes, and one that is not there
a_parameter : scopes_marked (tree.Block (0 ∷ []) tree.NoMore) (true ∷ (false ∷ [])) ≡ None
a_parameter = refl

of_two_scopes : all_scopes_marked (tree.And (tree.Block (1 ∷ []) tree.NoMore) (tree.And (tree.Block (1 ∷ []) tree.NoMore) tree.NoMore)) (true ∷ (false ∷ [])) ≡ None
of_two_scopes = refl

not_there : scopes_marked (tree.Block (2 ∷ []) tree.NoMore) (true ∷ (false ∷ [])) ≡ None
not_there = refl
