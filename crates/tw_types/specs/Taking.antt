-- When a process takes a decision that it received.
use Rattle.std.specs.Prelude.{ℕ, nat_lt, ◌==◌, Bool, not, ◌&&◌, if◌then◌else◌, List, [], ◌∷◌, Option, Some}
use Rattle.tw_types.specs.declared.message.Member.{Member}
use Rattle.tw_types.specs.declared.message.Decision.{Decision}
use Rattle.tw_types.specs.declared.answer.Reason.TheVariants.{Old, NotMember, Promised}
use Rattle.tw_types.specs.Beliefs.{Belief, Informed}
use Rattle.tw_types.specs.Decisions.{or_none, is_older, has_seat}
use Rattle.tw_types.specs.Refusals.{Refusal}

-- the decision isn't above the one that the process took or follows
abbrev pub is_old : Option Decision → Decision → Bool
is_old view d = not (is_older (or_none view).group (or_none view).turn d.group d.turn)

-- An informed process takes decisions of the promised group alone; a blank one may follow those of a greater group.
abbrev pub is_barred : Bool → ℕ → ℕ → Bool
is_barred informed promised group = if informed then not (group == promised) else nat_lt group promised

-- the first checks of a decision, by the decision that a process took or follows, whether it is informed, and its promise
abbrev pub taking_tests : Option Decision → Bool → Member → ℕ → Decision → List Refusal
taking_tests view informed me promised d =
    record { reason = Old; present = is_old view d }
    ∷ record { reason = NotMember; present = informed && not (has_seat me d) }
    ∷ record { reason = Promised promised; present = is_barred informed promised d.group }
    ∷ []

-- A blank process follows what passed the first checks, unless it has a seat in the group that it promised: that one it takes,
-- as informed processes do.
abbrev pub is_followed : Bool → Member → ℕ → Decision → Bool
is_followed informed me promised d = not informed && not (has_seat me d && (d.group == promised))

-- a decision that is taken is the last one of a process that is informed from then on
abbrev pub taken : Decision → Belief
taken d = Informed (Some d)
