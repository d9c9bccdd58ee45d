-- Words of specifiers, asked one after another.
use Rattle.std.proofs.Common.{◌≡◌, Bool, List, [], ◌∷◌, map, ◌&&◌, ◌||◌, refl, ap, ◌∙◌}
use Rattle.std.specs.List.{list_any, list_all}
use Rattle.c_layout.specs.DeclarationTrees.{spec_tree}
use Rattle.c_layout.specs.declared.syntax_tree.declarations.SpecWord.{SpecWord}
use Rattle.c_parser_declarations.specs.Grammar.Declarations.{is_local_word}
use Rattle.c_parser_declarations.specs.Grammar.StorageClasses.{is_typedef_word, is_typedef}

any_mapped : (ws : List SpecWord) → list_any (λ w. is_typedef_word (spec_tree w)) ws ≡ is_typedef (map spec_tree ws)
any_mapped [] = refl
any_mapped (w ∷ ws) = ap (λ (b : Bool). is_typedef_word (spec_tree w) || b) (any_mapped ws)

pub typedef_among : {b : Bool} (ws : List SpecWord) → b ≡ list_any (λ w. is_typedef_word (spec_tree w)) ws → b ≡ is_typedef (map spec_tree ws)
typedef_among {b} ws b-is = b-is ∙ any_mapped ws

all_mapped : (ws : List SpecWord) → list_all (λ w. is_local_word (spec_tree w)) ws ≡ list_all is_local_word (map spec_tree ws)
all_mapped [] = refl
all_mapped (w ∷ ws) = ap (λ (b : Bool). is_local_word (spec_tree w) && b) (all_mapped ws)

pub local_all : {b : Bool} (ws : List SpecWord) → b ≡ list_all (λ w. is_local_word (spec_tree w)) ws → b ≡ list_all is_local_word (map spec_tree ws)
local_all {b} ws b-is = b-is ∙ all_mapped ws
