use Rattle.store_monotone.proofs.tags.FoldedTags.{all_tags}
use Rattle.store_monotone.proofs.tags.theorems.tags_are_of_types.Goals as goal

pub returns : goal.returns
returns c = λ m structs model apart t kind x. all_tags m model structs apart t kind x
