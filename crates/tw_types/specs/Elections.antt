-- When the owner of a slot begins a ballot, and who answers it.
use Rattle.std.specs.Prelude.{ℕ, nat_lt, ◌==◌, Bool, true, false, not, ◌&&◌, ◌||◌, if◌then◌else◌, List, [], ◌∷◌, ◌++◌, Option, Some, None}
use Rattle.tw_types.specs.declared.team.Team.{Team}
use Rattle.tw_types.specs.declared.message.Kind.{Kind}
use Rattle.tw_types.specs.declared.message.Kind.TheVariants as kinds
use Rattle.tw_types.specs.declared.message.Report.{Report}
use Rattle.tw_types.specs.declared.message.Decision.{Decision}
use Rattle.tw_types.specs.declared.datagram.Why.{Why}
use Rattle.tw_types.specs.declared.datagram.Why.TheVariants.{Stuck, Join}
use Rattle.tw_types.specs.declared.answer.Reason.TheVariants.{OutOfWindow, Unwilling}
use Rattle.tw_types.specs.Votes.{Promise}
use Rattle.tw_types.specs.Decisions.{or_none}
use Rattle.tw_types.specs.Refusals.{Refusal}
use Rattle.tw_types.specs.Slots.{slot_of, owner, is_stuck}
use Rattle.tw_types.specs.Promises.{quarantine_test, number_tests}
use Rattle.tw_types.specs.Reports.{is_by_informed}

-- An informed process begins a ballot of the present slot's number, which it owns and which is above what it promised, when it
-- is stuck or has a wish to grant.
abbrev pub begins_slot : Team → Report → Option Decision → (promised : ℕ) → (quarantined wish : Bool) → (t : ℕ) → Bool
begins_slot team me last promised quarantined wish t =
    is_by_informed me && not quarantined && (owner team.n (slot_of team t) == me.member.who) && nat_lt promised (slot_of team t) && (is_stuck team last t || wish)

-- why it does: being stuck goes before a wish
abbrev pub why_begun : Team → Option Decision → ℕ → Why
why_begun team last t = if is_stuck team last t then Stuck else Join (or_none last).group

-- the promise that its owner begins a slot's ballot with
abbrev pub own_promise : Team → Report → Option Decision → ℕ → Promise
own_promise team me last t = record { number = slot_of team t; report = me; decision = last }

-- A ready process promises for either reason. An informed one does when it is stuck itself, or is in the group that is to be
-- joined.
abbrev pub is_willing_as : Team → Kind → Option Decision → Why → ℕ → Bool
is_willing_as team kinds.Ready last why t = true
is_willing_as team kinds.Informed last Stuck t = is_stuck team last t
is_willing_as team kinds.Informed last (Join group) t = (or_none last).group == group

-- a process that is neither informed nor ready has no report
abbrev pub is_willing : Team → Option Report → Option Decision → Why → ℕ → Bool
is_willing team None last why t = false
is_willing team (Some me) last why t = is_willing_as team me.kind last why t

-- why a process doesn't promise a number in a slot's election that this process holds
abbrev pub election_tests : Team → Option Report → Option Decision → (promised : ℕ) → (quarantined : Bool) → (from number : ℕ) → Why → (t : ℕ) → List Refusal
election_tests team me last promised quarantined from number why t =
    quarantine_test quarantined
    ∷ record { reason = OutOfWindow; present = not (owner team.n number == from) }
    ∷ number_tests team promised number t
    ++ record { reason = Unwilling; present = not (is_willing team me last why t) }
    ∷ []
