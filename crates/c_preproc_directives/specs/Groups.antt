-- Which groups of an if-section are taken (6.10.1).
use Rattle.std.specs.Prelude.{Bool, true, false, cond, not, ◌&&◌, List, [], ◌∷◌, map, Option, Some, None}
use Rattle.cc_base.specs.declared.diagnostics.Place.{Place}
use Rattle.c_preproc_directives.specs.declared.conditional_groups.GroupState.{GroupState}
use Rattle.c_preproc_directives.specs.declared.conditional_groups.GroupState.TheVariants.{Taken, Waiting, Done, Outside}
use Rattle.c_preproc_directives.specs.declared.conditional_groups.Section.{Section}
use Rattle.c_preproc_directives.specs.declared.conditional_groups.Uneven.{Uneven}
use Rattle.c_preproc_directives.specs.declared.conditional_groups.Uneven.TheVariants.{Misplaced, Trailing}

-- the first group of a section
abbrev pub first_state : Bool → GroupState
first_state true = Taken
first_state false = Waiting

-- behind a group, where no condition is asked for: what was taken is done
abbrev pub state_behind : GroupState → GroupState
state_behind Taken = Done
state_behind Waiting = Waiting
state_behind Done = Done
state_behind Outside = Outside

-- the `#else` group is taken where no group before it was
abbrev pub state_otherwise : GroupState → GroupState
state_otherwise Waiting = Taken
state_otherwise Taken = Done
state_otherwise Done = Done
state_otherwise Outside = Outside

abbrev pub is_taken : GroupState → Bool
is_taken Taken = true
is_taken s = false

abbrev pub is_waiting : GroupState → Bool
is_waiting Waiting = true
is_waiting s = false

abbrev pub is_outside : GroupState → Bool
is_outside Outside = true
is_outside s = false

-- an `#elif` group: its condition is asked for where no group before it was taken
abbrev pub state_of_elif : GroupState → Bool → GroupState
state_of_elif Waiting holds = first_state holds
state_of_elif s holds = state_behind s

-- the groups of a section that is not skipped, by their conditions
abbrev pub states_behind : GroupState → List Bool → List GroupState
states_behind s [] = []
states_behind s (b ∷ bs) = state_of_elif s b ∷ states_behind (state_of_elif s b) bs

abbrev pub states_of : List Bool → List GroupState
states_of [] = []
states_of (b ∷ bs) = first_state b ∷ states_behind (first_state b) bs

abbrev pub taken_of : List GroupState → List Bool
taken_of states = map is_taken states

-- the first that holds, and no other
abbrev pub all_false : List Bool → List Bool
all_false [] = []
all_false (b ∷ bs) = false ∷ all_false bs

abbrev pub first_only : List Bool → List Bool
first_only [] = []
first_only (b ∷ bs) = b ∷ cond b (all_false bs) (first_only bs)

-- The sections that are open, the innermost first.

-- whether the group that is being read is skipped
abbrev pub is_skipped : List Section → Bool
is_skipped [] = false
is_skipped (s ∷ sections) = not (is_taken s.state)

-- a section begins
abbrev pub entered : Place → GroupState → List Section → List Section
entered place state sections = record { place = place; state = state; after_else = false } ∷ sections

-- the state of the group before an `#elif`, unless the `#elif` is misplaced
abbrev pub state_before_elif : List Section → Option GroupState
state_before_elif [] = None
state_before_elif (s ∷ sections) = cond s.after_else None (Some s.state)

abbrev pub with_state : GroupState → List Section → List Section
with_state state [] = []
with_state state (s ∷ sections) = record s { state = state } ∷ sections

-- tokens behind an `#else` or `#endif` count where its section does not stand in a skipped group
abbrev pub trailing_fault : Bool → Section → Option Uneven
trailing_fault trailing s = cond (trailing && not (is_outside s.state)) (Some Trailing) None

abbrev pub else_fault : Bool → List Section → Option Uneven
else_fault trailing [] = Some Misplaced
else_fault trailing (s ∷ sections) = cond s.after_else (Some Misplaced) (trailing_fault trailing s)

abbrev pub turned_else : List Section → List Section
turned_else [] = []
turned_else (s ∷ sections) = record s { state = state_otherwise s.state; after_else = true } ∷ sections

abbrev pub end_fault : Bool → List Section → Option Uneven
end_fault trailing [] = Some Misplaced
end_fault trailing (s ∷ sections) = trailing_fault trailing s

abbrev pub left : List Section → List Section
left [] = []
left (s ∷ sections) = sections
