-- What the rules of typing know besides the parts of an expression: the data model and the structs so far.
use Rattle.std.specs.Prelude.{ℕ, List, Option}
use Rattle.c_layout.specs.Types.{Ty}
use Rattle.c_layout.specs.StructViews.{StructView, structs_view}
use Rattle.c_layout.specs.declared.data_model.Model.{Model}
use Rattle.c_types_rules.specs.Rules.TypeSizes.{sized}
use Rattle.c_types_scopes.specs.declared.context.Context.{Context}

pub record Known : Type 0 where
  pub numbers : Model
  pub structs : List StructView

abbrev pub known : Context → Known
known cx = record { numbers = cx.model.numbers; structs = structs_view cx.types.structs }

-- the size of a complete type
abbrev pub size_of : Known → Ty → Option ℕ
size_of k t = sized k.structs k.numbers.pointer t
