use Rattle.library_sound.proofs.spelling.FollowedArrays.{followed_characters}
use Rattle.library_sound.proofs.theorems.followed_arrays_are_characters.Goals as goal

pub returns : goal.returns
returns c = λ flow p b z info part room at declared there size. followed_characters flow p b z info part room at declared there size
