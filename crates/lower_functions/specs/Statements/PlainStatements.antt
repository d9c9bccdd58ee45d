-- Declarations, blocks and expression statements (6.7.9, 6.8.2 and 6.8.3).
use Rattle.std.specs.Prelude.{ℕ, List, [], ◌∷◌, length, None}
use Rattle.cc_base.specs.declared.diagnostics.Place.{Place}
use Rattle.c_layout.specs.CheckedTrees as tree
use Rattle.c_layout.specs.CheckedTrees.{TermTree, LvalueTree, StoreTree, StatementTrees, StoreValue, StoreCopy, StoreText}
use Rattle.lower_templates.specs.Worklist.Acts as acts
use Rattle.lower_templates.specs.Worklist.Pieces.{Local}
use Rattle.lower_templates.specs.Worklist.TermKinds.{scalar_of, struct_number, term_type, lvalue_type}
use Rattle.lower_templates.specs.Worklist.Works.{Value, Address, Statement}
use Rattle.lower_templates.specs.Worklist.Plans.{Plan, with_work, with_name, with_scope, done}
use Rattle.lower_templates.specs.Worklist.Settings.{SettingView}
use Rattle.lower_templates.specs.declared.worklist.pending_works.Surroundings.{Surroundings}
use Rattle.lower_functions.specs.Statements.ScopeJumps.{all_entered, all_left}

-- a declaration without initializer
abbrev pub forget : Place → ℕ → Plan → Plan
forget at object p = done at (acts.Forget (length p.names)) (with_name (Local object) p)

abbrev pub address : Place → ℕ → ℕ → Plan → Plan
address at object offset p = done at (acts.Address 0 (length p.names) offset) (with_name (Local object) p)

-- address, value, store
abbrev pub start_scalar : Place → ℕ → ℕ → TermTree → Plan → Plan
start_scalar at object offset e p = done at (acts.Store 0 1 (scalar_of (term_type e)) None) (with_work (Value e 1) (address at object offset p))

-- both addresses, and the copy
abbrev pub start_struct : Place → ℕ → ℕ → LvalueTree → Plan → Plan
start_struct at object offset l p = done at (acts.Copy 0 1 (struct_number (lvalue_type l))) (with_work (Address l 1) (address at object offset p))

abbrev pub start_text : Place → ℕ → ℕ → ℕ → List ℕ → Plan → Plan
start_text at object offset room text p = done at (acts.Spell (length p.names) offset room text) (with_name (Local object) p)

abbrev pub stored : Place → ℕ → StoreTree → Plan → Plan
stored at object (StoreValue offset e) p = start_scalar at object offset e p
stored at object (StoreCopy offset l) p = start_struct at object offset l p
stored at object (StoreText offset room text) p = start_text at object offset room text p

abbrev pub all_stored : Place → ℕ → List StoreTree → Plan → Plan
all_stored at object [] p = p
all_stored at object (x ∷ xs) p = all_stored at object xs (stored at object x p)

abbrev pub cleared : Place → ℕ → Plan → Plan
cleared at object p = done at (acts.Clear (length p.names)) (with_name (Local object) p)

-- one clear, and then the stores in order
abbrev pub start_list : Place → ℕ → List StoreTree → Plan → Plan
start_list at object stores p = all_stored at object stores (cleared at object p)

abbrev pub all_statements : StatementTrees → Surroundings → Plan → Plan
all_statements tree.NoMore around p = p
all_statements (tree.And first rest) around p = all_statements rest around (with_work (Statement first around) p)

abbrev pub in_scope : Surroundings → ℕ → Surroundings
in_scope around scope = record { scope = scope; on_break = around.on_break; on_continue = around.on_continue; choice = around.choice }

-- a block enters its objects, and leaves them at its end
abbrev pub block : SettingView → List ℕ → StatementTrees → Surroundings → Plan → Plan
block s objects items around p = all_left s.at objects (all_statements items (in_scope around p.scopes) (all_entered s.at objects (with_scope p)))
