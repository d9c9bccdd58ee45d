-- What a function's template is made from, as contracts see it.
use Rattle.std.specs.Prelude.{ℕ, Bool, List}
use Rattle.cc_base.specs.declared.diagnostics.Place.{Place}
use Rattle.c_layout.specs.StructViews.{StructView, structs_view}
use Rattle.lower_templates.specs.declared.worklist.template_builder.Setting.{Setting}
use Rattle.lower_templates.specs.Worklist.Scopes.{TreeView, tree_view}

pub record SettingView : Type 0 where
  pub structs : List StructView
  pub pointer : ℕ
  pub int_bytes : ℕ
  pub at : Place
  pub parameters : List ℕ
  pub is_entry : Bool
  pub end : ℕ
  pub scopes : TreeView

abbrev pub setting : Setting → SettingView
setting s = record {
  structs = structs_view s.structs.now;
  pointer = s.pointer;
  int_bytes = s.int;
  at = s.place;
  parameters = s.parameters.items;
  is_entry = s.is_entry;
  end = s.end;
  scopes = tree_view s.tree;
}
