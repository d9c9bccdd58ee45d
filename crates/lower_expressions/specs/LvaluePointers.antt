-- Pointers to lvalues.
use Rattle.std.specs.Prelude.{ℕ, length}
use Rattle.cc_base.specs.declared.diagnostics.Place.{Place}
use Rattle.c_layout.specs.Layout.{size_of_type}
use Rattle.c_layout.specs.CheckedTrees as tree
use Rattle.c_layout.specs.CheckedTrees.{TermTree, LvalueTree, Designates}
use Rattle.lower_templates.specs.Worklist.Acts as acts
use Rattle.lower_templates.specs.Worklist.Pieces.{NameView, Literal}
use Rattle.lower_templates.specs.Worklist.TermKinds.{struct_number, lvalue_at, lvalue_type}
use Rattle.lower_templates.specs.Worklist.Works.{Value, Unused, Address, behind}
use Rattle.lower_templates.specs.Worklist.Plans.{Plan, with_work, with_name, done, name_of_object}
use Rattle.lower_templates.specs.Worklist.Settings.{SettingView}

-- an address of an object names its base
abbrev pub base_address : Place → NameView → ℕ → Plan → Plan
base_address at name depth p = done at (acts.Address depth (length p.names) 0) (with_name name p)

abbrev pub literal_address : Place → ℕ → ℕ → Plan → Plan
literal_address at number depth p = base_address at (Literal number) depth p

-- a pointer to a struct, narrowed to a member
abbrev pub member_pointer : SettingView → LvalueTree → LvalueTree → ℕ → ℕ → Plan → Plan
member_pointer s l outer offset depth p = done (lvalue_at l) (acts.Narrow depth depth offset (size_of_type s.structs s.pointer (lvalue_type l))) (with_work (Address outer depth) p)

-- both addresses, the left one first, and then the copy, after which the left one is still there
abbrev pub copied : LvalueTree → LvalueTree → ℕ → Plan → Plan
copied target source depth p = done (lvalue_at target) (acts.Copy depth (behind depth 1) (struct_number (lvalue_type target))) (with_work (Address source (behind depth 1)) (with_work (Address target depth) p))

abbrev pub after_unused : TermTree → LvalueTree → ℕ → Plan → Plan
after_unused left right depth p = with_work (Address right depth) (with_work (Unused left depth) p)

abbrev pub address : SettingView → LvalueTree → ℕ → Plan → Plan
address s (Designates at t parens (tree.Object o)) depth p = base_address at (name_of_object o) depth p
address s (Designates at t parens (tree.Literal n)) depth p = literal_address at n depth p
address s (Designates at t parens (tree.Target e)) depth p = with_work (Value e depth) p
address s (Designates at t parens (tree.Member outer offset)) depth p = member_pointer s (Designates at t parens (tree.Member outer offset)) outer offset depth p
address s (Designates at t parens (tree.Copied target source)) depth p = copied target source depth p
address s (Designates at t parens (tree.Then left right)) depth p = after_unused left right depth p
