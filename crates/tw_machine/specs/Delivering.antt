-- What a process delivers while it is up: three parts, each of which gives its lines and moves the cursor or sets the marks.
use Rattle.std.specs.Prelude.{ℕ, if◌then◌else◌, List, ◌++◌, map, filter_map, option_map, Some}
use Rattle.tw_machine.specs.Types.{Team, Decision, Kept, Pass}
use Rattle.tw_types.specs.Beliefs.{Log}
use Rattle.tw_types.specs.Logs.{log_at}
use Rattle.tw_types.specs.Decisions.{or_none}
use Rattle.tw_types.specs.Deliveries.{passes, run_passed, as_early, early_positions, earlies, earlies_marked, weaks, waiting_delivered}
use Rattle.tw_types.specs.Flag.{is_up}
use Rattle.tw_machine.specs.Run.{Run, Place, AtPass, AtEarly, AtWait, Delivered}
use Rattle.tw_machine.specs.Standing.{last_decision}

-- what is told of an update that is delivered by this decision
abbrev pub delivered_at : Decision → Place → Kept → Delivered
delivered_at d place k = record { group = d.group; turn = d.turn; place = place; update = k }

-- it passes what it may from its cursor on, one position after the other
abbrev pub run_delivered : Team → Decision → Run → Run
run_delivered team d r = record r {
  process = record (r.process) { log = run_passed team d r.process.log };
  out = record (r.out) { passes = r.out.passes ++ passes team d r.process.log };
  delivered = r.delivered ++ map (λ (p : Pass). delivered_at d (AtPass p.position p.how) p.kept) (passes team d r.process.log);
}

-- the early ones of the list, each with its position
abbrev pub earlies_told : Team → Decision → (first : ℕ) → Log → List Delivered
earlies_told team d first log = filter_map (λ (i : ℕ). option_map (λ (k : Kept). delivered_at d (AtEarly i) (as_early k)) (log_at i log)) (early_positions team d first log)

-- behind its cursor it delivers early what may be
abbrev pub earlies_delivered : Team → Decision → Run → Run
earlies_delivered team d r = record r {
  process = record (r.process) { log = earlies_marked team d r.process.log.passed r.process.log };
  out = record (r.out) { earlies = r.out.earlies ++ earlies team d r.process.log.passed r.process.log };
  delivered = r.delivered ++ earlies_told team d r.process.log.passed r.process.log;
}

-- and then what waits and may be
abbrev pub weaks_delivered : Decision → Run → Run
weaks_delivered d r = record r {
  process = record (r.process) { waiting = waiting_delivered r.process.waiting };
  out = record (r.out) { earlies = r.out.earlies ++ weaks r.process.waiting.pending };
  delivered = r.delivered ++ map (delivered_at d AtWait) (weaks r.process.waiting.pending);
}

-- what is told of all that is delivered by a decision, of this list and of these pending updates
abbrev pub all_told : Team → Decision → Log → (pending : List Kept) → List Delivered
all_told team d log pending =
    map (λ (p : Pass). delivered_at d (AtPass p.position p.how) p.kept) (passes team d log)
    ++ earlies_told team d (run_passed team d log).passed (run_passed team d log)
    ++ map (delivered_at d AtWait) (weaks pending)

abbrev pub all_delivered : Team → Decision → Run → Run
all_delivered team d r = weaks_delivered d (earlies_delivered team d (run_delivered team d r))

abbrev pub deliver : Team → ℕ → Run → Run
deliver team t r = if is_up team r.process.vote r.process.belief (Some t) then all_delivered team (or_none (last_decision r.process)) r else r
