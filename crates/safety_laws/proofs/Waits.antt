-- How long a restarted process waits: longer than its leases and the windows of its promises, however fast its clock runs.
use Rattle.std.proofs.Common.{◌≡◌, ℕ, ◌+◌, ◌-◌, ◌*◌, ◌/◌, ◌≤◌, ◌<◌, true, false, arith, div-mul-le_self}
use Rattle.std.proofs.lemmas.Nat.{le-div}
use Rattle.std.proofs.lemmas.Bool.Decides.{nat_tests}
use Rattle.tw_num.specs.Elapsed.{MayElapse}
use Rattle.tw_types.specs.declared.team.Team.{Team}
use Rattle.tw_types.specs.Team.{IsSound}
use Rattle.tw_types.specs.Process.{Identity}
use Rattle.tw_types.specs.Promises.{is_again, is_quarantined, is_in_window}
use Rattle.tw_types.specs.Slots.{slot_of}

-- so much team time is over at the end of a quarantine, at least
abbrev wait_of : Team → ℕ
wait_of team = team.lease + (team.n + 4) * team.slot + 4 * team.eps + 2

-- so many ticks take at least so much time
ticks_take : (ppm wait quarantine ticks time : ℕ) → (1000000 + ppm) * wait + 1000000 ≤ quarantine * 1000000 → quarantine ≤ ticks → ticks * 1000000 ≤ time * (1000000 + ppm) + 1000000 → wait ≤ time
ticks_take ppm wait quarantine ticks time long low fast = grind arith

-- a process that isn't in quarantine any more was started so long ago
pub waited : (team : Team) (me : Identity) (h time : ℕ) → IsSound team → is_again me.mode ≡ true → is_quarantined team me h ≡ false → MayElapse team.ppm (h - me.began) time → wait_of team ≤ time
waited team me h time sound again over may =
    ticks_take team.ppm (wait_of team) team.quarantine (h - me.began) time sound.quarantine (grind (arith, nat_tests)) may.fast

-- A reading of an earlier life, and one behind the quarantine: r at t0, before the start at tb, and r' at t'.
pub apart : (team : Team) (r t0 tb t' r' : ℕ) → r ≤ t0 + team.eps → t0 ≤ tb → tb ≤ t' → wait_of team ≤ t' - tb → t' ≤ r' + team.eps → r + team.lease + (team.n + 4) * team.slot + 2 ≤ r'
apart team r t0 tb t' r' near old later long near' = omega arith

-- a slot so many slots later
slots_later : (slot r r' k : ℕ) → 0 < slot → r + k * slot ≤ r' → r / slot + k ≤ r' / slot
slots_later slot r r' k positive apart = grind (arith, le-div, div-mul-le_self)

-- a number that may be promised then is above each one that was promised at the earlier reading
pub numbers_apart : (team : Team) (x r x' r' : ℕ) → IsSound team → x ≤ slot_of team r + team.n + 1 → is_in_window team x' r' ≡ true → r + team.lease + (team.n + 4) * team.slot + 2 ≤ r' → x < x'
numbers_apart team x r x' r' sound late window far =
    let slots : slot_of team r + (team.n + 4) ≤ slot_of team r' = slots_later team.slot r r' (team.n + 4) (let s = sound.slot in omega arith) (omega arith) in
    let early : slot_of team r' ≤ x' + 1 = grind (arith, nat_tests) in
    omega arith
