-- Programs that differ in their blocks and edges alone.
use Rattle.std.specs.Prelude.{◌≡◌, map}
use Rattle.c_layout.specs.StructViews.{structs_view}
use Rattle.cfg.specs.declared.programs.Flow.{Flow}
use Rattle.lower_templates.specs.Views.ProgramViews.{initial}

-- the same bases, temporaries, structs, first values and parameters under the same model
pub record SameParts (f g : Flow) : Type 0 where
  pub model : f.model ≡ g.model
  pub bases : f.bases.items ≡ g.bases.items
  pub temps : f.temps ≡ g.temps
  pub width : f.width ≡ g.width
  pub structs : structs_view f.structs ≡ structs_view g.structs
  pub initial : map initial f.initial.items ≡ map initial g.initial.items
  pub parameters : f.parameters.items ≡ g.parameters.items
