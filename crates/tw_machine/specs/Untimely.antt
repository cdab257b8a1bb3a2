-- What becomes of datagrams that are used only in time, when they aren't in time.
use Rattle.std.specs.Prelude.{ℕ, Bool, true, false, ◌≡◌, ◌≢◌, Option, Some, None}
use Rattle.tw_num.specs.Rate.{Rate, Timely, Late, Unrated}
use Rattle.tw_machine.specs.Types.{Body}
use Rattle.tw_types.specs.declared.datagram.Body.TheVariants as bodies
use Rattle.tw_types.specs.declared.answer.Reason.TheVariants as reasons
use Rattle.tw_machine.specs.Run.{Run, Ruled, dropped}

-- decisions, elections and promises are used only in time
abbrev pub is_used_in_time : Body → Bool
is_used_in_time (bodies.Decision d) = true
is_used_in_time (bodies.Election number why) = true
is_used_in_time (bodies.Promise number report d) = true
is_used_in_time other = false

-- A packet of unknown age is dropped as that, else a late one with the bound that tells it, else each one where there is no reading, and
-- the run stays as it was. One that is in time, where there is a reading, is dropped for none of these.
abbrev pub DropsUntimely : Rate → Option ℕ → Run → Ruled → Type 0
DropsUntimely Unrated reading r k = k ≡ dropped reasons.Unrated r
DropsUntimely (Late bound) reading r k = k ≡ dropped (reasons.Late bound) r
DropsUntimely (Timely bound) None r k = k ≡ dropped reasons.Unsynced r
DropsUntimely (Timely bound) (Some t) r k = (k.dropped ≢ Some reasons.Unrated) × ((other : ℕ) → k.dropped ≢ Some (reasons.Late other)) × (k.dropped ≢ Some reasons.Unsynced)
