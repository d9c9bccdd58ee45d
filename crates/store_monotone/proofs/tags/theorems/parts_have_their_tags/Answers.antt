use Rattle.store_monotone.proofs.tags.PartTags.{of_element, of_member}
use Rattle.store_monotone.proofs.tags.theorems.parts_have_their_tags.Goals as goal

pub returns : goal.returns
returns c = record { elements = λ m structs model apart t n kind i x k l. of_element m model structs apart t n kind i x k l; members = λ m structs model apart ordered i s there n f e. of_member m model structs apart ordered i s there n f e }
