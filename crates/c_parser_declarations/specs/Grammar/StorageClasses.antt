-- Whether `typedef` stands among specifiers (6.7.1).
use Rattle.std.specs.Prelude.{Bool, true, false, List}
use Rattle.std.specs.List.{list_any}
use Rattle.c_layout.specs.DeclarationTrees.{SpecTree, StorageWord}
use Rattle.c_layout.specs.declared.syntax_tree.declarations.Storage.{Storage}
use Rattle.c_layout.specs.declared.syntax_tree.declarations.Storage.TheVariants as storage

-- whether `typedef` stands among specifiers
abbrev pub is_typedef_class : Storage → Bool
is_typedef_class storage.Typedef = true
is_typedef_class _ = false

abbrev pub is_typedef_word : SpecTree → Bool
is_typedef_word (StorageWord at class) = is_typedef_class class
is_typedef_word _ = false

abbrev pub is_typedef : List SpecTree → Bool
is_typedef words = list_any is_typedef_word words
