-- The bounds of the time that a received datagram was on its way are never too low.
use Rattle.std.proofs.Common.{◌≡◌, refl, ℕ, ◌≤◌, List, ◌∷◌, Some, Ok, IfSome}
use Rattle.tw_machine.specs.Types.{Team, Step}
use Rattle.tw_types.specs.Team.{IsSound}
use Rattle.tw_types.specs.declared.step.Act.TheVariants.{Recv}
use Rattle.tw_types.specs.Trips.{trip_of}
use Rattle.tw_types.specs.Process.{Process}
use Rattle.tw_num.specs.Interval.{Holds}
use Rattle.tw_num.specs.Rate.{Timely, interval_bound, IfRated}
use Rattle.tw_num.proofs.Delays.{interval_bounds, rate_bounds, timely_within}
use Rattle.tw_machine.specs.Event.{Event}
use Rattle.tw_machine.specs.Hearing.{trip_bound, told}
use Rattle.tw_machine.specs.Dispatches.{Dispatch}
use Rattle.tw_machine.specs.World.{world, Admissible}
use Rattle.safety_laws.specs.Clocks.{IsReceipt}
use Rattle.safety_laws.specs.Clocks.{MayRead, Covers, own_interval, rate_at}
use Rattle.safety_laws.proofs.Readings.{not_later}
use Rattle.tw_machine.proofs.Tables.{at_number}
use Rattle.safety_laws.proofs.Induction.{earlier, follows, meets, received, receipt_to, Receives}
use Rattle.safety_laws.proofs.Timings.{WasSent, clock_holds, is_round_trip, trip_covers, told_holds}
use Rattle.safety_laws.proofs.ClockLaw.{may_read, may_read_now, hears, timed, each_running}

-- what is known of a datagram that a step receives
record Arrival (team : Team) (past : List Step) (s : Step) (d : Dispatch) : Type 0 where
  may : MayRead team.ppm s.who past s.t s.h
  to : d.to ≡ s.who
  was : WasSent team.ppm past d

arrival : (team : Team) (past : List Step) (s : Step) (d : Dispatch) → IsSound team → Admissible team (s ∷ past) → IsReceipt team past s d → Arrival team past s d
arrival team past s d sound ok got = record {
  may = may_read team past s ok;
  to = receipt_to team past s d (meets team past s (follows team past s ok)) got;
  was = at_number (WasSent team.ppm past) (world team past).sent got.number d (timed team past sound (earlier team past s ok)).history got.sent;
}

-- each receipt is of a datagram that was sent to the process, no later
pub receipt_found : (team : Team) (past : List Step) (s : Step) (number : ℕ) → Admissible team (s ∷ past) → s.act ≡ Recv number → (d : Dispatch) × IsReceipt team past s d × (d.to ≡ s.who)
receipt_found team past s number ok act = received team past s number (meets team past s ok.1) act

pub sent_before : (team : Team) (past : List Step) (s : Step) (d : Dispatch) → IsSound team → Admissible team (s ∷ past) → IsReceipt team past s d → d.at ≤ s.t
sent_before team past s d sound ok got = let a = arrival team past s d sound ok got in not_later past d.datagram.head.from s.t d.at d.datagram.head.sent a.may.time a.was.stamped

-- the bound by the round trip
pub echo_covers : (team : Team) (past : List Step) (s : Step) (d : Dispatch) → IsSound team → Admissible team (s ∷ past) → IsReceipt team past s d → IfSome (trip_bound team.ppm s.h d.datagram.head) (Covers s d)
echo_covers team past s d sound ok got = let a = arrival team past s d sound ok got in trip_covers team.ppm past s d sound.drift a.may a.to a.was

-- what is given of the interval that it tells holds team time
pub given_holds : (team : Team) (past : List Step) (s : Step) (d : Dispatch) → IsSound team → Admissible team (s ∷ past) → IsReceipt team past s d → IfSome (told team.ppm s.h d.datagram.head) (λ i. Holds i s.t)
given_holds team past s d sound ok got = let a = arrival team past s d sound ok got in told_holds team.ppm past s d sound.drift a.may a.to a.was

own_holds : (team : Team) (past : List Step) (s : Step) (d : Dispatch) (p : Process) → IsSound team → Admissible team (s ∷ past) → IsReceipt team past s d → (world team past).process_of s.who ≡ Some p → IfSome (own_interval team s d p) (λ i. Holds i s.t)
own_holds team past s d p sound ok got runs =
    let a = arrival team past s d sound ok got in
    let before = timed team past sound (earlier team past s ok) in
    let brings : Receives team past s d.datagram = record { dispatch = d; receipt = got; to = a.to; is = refl } in
    let well = hears team past s (Event.Packet (Ok d.datagram)) p sound.drift ok before.history brings (before.running s.who p runs) in
    clock_holds team s.who (s ∷ past) _ s.t s.h well.timing.reads (may_read_now team past s ok)

-- the bound by the receiver's own interval
pub interval_covers : (team : Team) (past : List Step) (s : Step) (d : Dispatch) → IsSound team → Admissible team (s ∷ past) → IsReceipt team past s d →
    IfSome ((world team past).process_of s.who) (λ (p : Process). IfSome (interval_bound (own_interval team s d p) d.datagram.head.interval) (Covers s d))
interval_covers team past s d sound ok got = each_running ((world team past).process_of s.who) (λ p runs.
    interval_bounds d.at s.t (own_interval team s d p) d.datagram.head.interval (own_holds team past s d p sound ok got runs) (arrival team past s d sound ok got).was.told)

rated : (team : Team) (past : List Step) (s : Step) (d : Dispatch) (p : Process) → IsSound team → Admissible team (s ∷ past) → IsReceipt team past s d → (world team past).process_of s.who ≡ Some p → IfRated (Covers s d) (rate_at team s d p)
rated team past s d p sound ok got runs =
    let a = arrival team past s d sound ok got in
    rate_bounds team.ppm team.delta d.at s.t (trip_of d.datagram.head s.h) (own_interval team s d p) d.datagram.head.interval sound.drift
    (is_round_trip team.ppm past s d a.may a.to a.was) (own_holds team past s d p sound ok got runs) a.was.told

-- whatever bound the rate tells
pub rate_covers : (team : Team) (past : List Step) (s : Step) (d : Dispatch) → IsSound team → Admissible team (s ∷ past) → IsReceipt team past s d →
    IfSome ((world team past).process_of s.who) (λ (p : Process). IfRated (Covers s d) (rate_at team s d p))
rate_covers team past s d sound ok got = each_running ((world team past).process_of s.who) (λ p runs. rated team past s d p sound ok got runs)

in_time : (team : Team) (past : List Step) (s : Step) (d : Dispatch) (p : Process) (bound : ℕ) → IsSound team → Admissible team (s ∷ past) → IsReceipt team past s d → (world team past).process_of s.who ≡ Some p → rate_at team s d p ≡ Timely bound → Covers s d team.delta
in_time team past s d p bound sound ok got runs timely =
    let a = arrival team past s d sound ok got in
    timely_within team.ppm team.delta d.at s.t bound (trip_of d.datagram.head s.h) (own_interval team s d p) d.datagram.head.interval sound.drift
    (is_round_trip team.ppm past s d a.may a.to a.was) (own_holds team past s d p sound ok got runs) a.was.told timely

-- what is timely at its receipt was on its way for at most the time-out
pub timely_covers : (team : Team) (past : List Step) (s : Step) (d : Dispatch) (bound : ℕ) → IsSound team → Admissible team (s ∷ past) → IsReceipt team past s d →
    IfSome ((world team past).process_of s.who) (λ (p : Process). rate_at team s d p ≡ Timely bound → Covers s d team.delta)
timely_covers team past s d bound sound ok got = each_running ((world team past).process_of s.who) (λ p runs. in_time team past s d p bound sound ok got runs)
