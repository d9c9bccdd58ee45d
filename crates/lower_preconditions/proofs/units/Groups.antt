-- What is not in the groups before the last one is in that.
use Rattle.std.proofs.Common.{◌≡◌, Bool, true, false, not, ◌&&◌, ◌||◌, refl, sym}

pub another_group : (p q x : Bool) → (not (p || q) && x) ≡ false → (p && x) ≡ false → (not q && x) ≡ false
another_group p true x a b = refl
another_group true false x a b = b
another_group false false x a b = a

pub last_group : (p x : Bool) → (not p && x) ≡ false → (p && x) ≡ x
last_group true x a = refl
last_group false x a = sym a
