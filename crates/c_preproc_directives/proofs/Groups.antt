-- Of the groups of a section the first whose condition holds is taken.
use Rattle.std.proofs.Common.{◌≡◌, Bool, true, false, List, [], ◌∷◌, refl, ap}
use Rattle.c_preproc_directives.specs.declared.conditional_groups.GroupState.TheVariants.{Taken, Waiting, Done}
use Rattle.c_preproc_directives.specs.Groups.{states_behind, states_of, taken_of, all_false, first_only}

done-takes_none : (bs : List Bool) → taken_of (states_behind Done bs) ≡ all_false bs
done-takes_none [] = refl
done-takes_none (b ∷ bs) = ap (λ l. false ∷ l) (done-takes_none bs)

taken-takes_none : (bs : List Bool) → taken_of (states_behind Taken bs) ≡ all_false bs
taken-takes_none [] = refl
taken-takes_none (b ∷ bs) = ap (λ l. false ∷ l) (done-takes_none bs)

waiting-takes_first : (bs : List Bool) → taken_of (states_behind Waiting bs) ≡ first_only bs
waiting-takes_first [] = refl
waiting-takes_first (true ∷ bs) = ap (λ l. true ∷ l) (taken-takes_none bs)
waiting-takes_first (false ∷ bs) = ap (λ l. false ∷ l) (waiting-takes_first bs)

pub section-takes_first : (bs : List Bool) → taken_of (states_of bs) ≡ first_only bs
section-takes_first [] = refl
section-takes_first (true ∷ bs) = ap (λ l. true ∷ l) (taken-takes_none bs)
section-takes_first (false ∷ bs) = ap (λ l. false ∷ l) (waiting-takes_first bs)
