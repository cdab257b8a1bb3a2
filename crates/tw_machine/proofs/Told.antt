-- What a step tells as delivered, against what it prints of it.
use Rattle.std.proofs.Common.{◌≡◌, refl, ap, ◌∙◌, ℕ, Bool, true, false, cond, List, [], ◌++◌, Option, Some, None}
use Rattle.tw_num.specs.declared.moment.Moment.{Moment}
use Rattle.tw_machine.specs.Types.{Decision, Kept, Outputs, Team}
use Rattle.tw_types.specs.declared.datagram.Body.TheVariants as bodies
use Rattle.tw_types.specs.Beliefs.{Log}
use Rattle.tw_types.specs.Decisions.{or_none}
use Rattle.tw_types.specs.Deliveries.{delivered_by}
use Rattle.tw_types.specs.Flag.{is_up}
use Rattle.tw_types.specs.Process.{Process}
use Rattle.tw_machine.specs.Event.{Event}
use Rattle.tw_machine.specs.Run.{Run, Delivered}
use Rattle.tw_machine.specs.Sending.{sent_to_others}
use Rattle.tw_machine.specs.Standing.{last_decision}
use Rattle.tw_machine.specs.Delivering.{all_told, all_delivered, deliver}
use Rattle.tw_machine.specs.Beating.{is_due, beat_marked, is_repeated, repeat_decision, ask_again, beat_given, give_beat}
use Rattle.tw_machine.specs.Duties.{timed_duties, duties_if_timed, duties}
use Rattle.tw_machine.specs.Step.{moment_of, read_by, ruled_by, has_duties, ended_by, step}
use Rattle.tw_machine.proofs.Ends.{by_asking}
use Rattle.tw_machine.proofs.Parts.{IsQuiet, before_delivery, before_on, beat_on, ruled_on}

-- What an event printed and told as delivered, by a process with this last decision: nothing; or the passes of a list, and then what goes
-- early of it and of what waits, and of just these a line each.
pub data Tells (team : Team) (last : Option Decision) (out : Outputs) (told : List Delivered) : Type 0 where
  Nothing : out.passes ≡ [] → out.earlies ≡ [] → told ≡ [] → Tells team last out told
  Whole : (log : Log) (pending : List Kept) → out.passes ≡ (delivered_by team (or_none last) log pending).passes →
      out.earlies ≡ (delivered_by team (or_none last) log pending).earlies ++ (delivered_by team (or_none last) log pending).weaks →
      told ≡ all_told team (or_none last) log pending → Tells team last out told

abbrev TellsAt : Team → Run → Type 0
TellsAt team r = Tells team (last_decision r.process) r.out r.delivered

-- nothing was delivered yet
record IsUntold (r : Run) : Type 0 where
  passes : r.out.passes ≡ []
  earlies : r.out.earlies ≡ []
  told : r.delivered ≡ []

still_untold : (now : Moment) (a b : Run) → IsQuiet now a b → IsUntold a → IsUntold b
still_untold now a b quiet u = record { passes = quiet.passes ∙ u.passes; earlies = quiet.earlies ∙ u.earlies; told = quiet.delivered ∙ u.told }

untold_tells : (team : Team) (r : Run) → IsUntold r → TellsAt team r
untold_tells team r u = Nothing u.passes u.earlies u.told

-- a part that delivers nothing and leaves the last decision alone
still_tells : (team : Team) (now : Moment) (a b : Run) → IsQuiet now a b → b.process.belief ≡ a.process.belief → TellsAt team a → TellsAt team b
still_tells team now a b quiet same (Nothing passes earlies told) = Nothing (quiet.passes ∙ passes) (quiet.earlies ∙ earlies) (quiet.delivered ∙ told)
still_tells team now a b quiet same (Whole log pending passes earlies told) = rw same (Whole log pending (quiet.passes ∙ passes) (quiet.earlies ∙ earlies) (quiet.delivered ∙ told))

-- the duty that delivers
deliver_tells : (team : Team) (t : ℕ) (r : Run) → IsUntold r → TellsAt team (deliver team t r)
deliver_tells team t r u = go (is_up team r.process.vote r.process.belief (Some t))
  where
    last : Decision
    last = or_none (last_decision r.process)

    go : (up : Bool) → TellsAt team (cond up (all_delivered team last r) r)
    go true = Whole r.process.log r.process.waiting.pending
        (ap (λ ps. ps ++ (delivered_by team last r.process.log r.process.waiting.pending).passes) u.passes)
        (ap (λ ks. ks ++ (delivered_by team last r.process.log r.process.waiting.pending).earlies ++ (delivered_by team last r.process.log r.process.waiting.pending).weaks) u.earlies)
        (rw u.told refl)
    go false = untold_tells team r u

timed_tells : (team : Team) (now : Moment) (reading : Option ℕ) (r : Run) → IsUntold r → TellsAt team (duties_if_timed team now reading r)
unfolding timed_duties
timed_tells team now None r u = untold_tells team r u
timed_tells team now (Some t) r u = deliver_tells team t (before_delivery team now t r) (still_untold now r (before_delivery team now t r) (before_on team now t r) u)

-- the beat leaves the belief alone

repeat_keeps : (team : Team) (now : Moment) (r : Run) → (repeat_decision team now r).process.belief ≡ r.process.belief
repeat_keeps team now r = go (last_decision r.process)
  where
    by_test : (last : Decision) → (test : Bool) → (cond test (sent_to_others team.n now (bodies.Decision last) r) r).process.belief ≡ r.process.belief
    by_test last true = refl
    by_test last false = refl

    go : (o : Option Decision) → (elim o as (λ o. Run) [ None ↦ r | Some last ↦ cond (is_repeated team r.process last now.reading) (sent_to_others team.n now (bodies.Decision last) r) r ]).process.belief ≡ r.process.belief
    go None = refl
    go (Some last) = by_test last (is_repeated team r.process last now.reading)

ask_keeps : (now : Moment) (r : Run) → (ask_again now r).process.belief ≡ r.process.belief
ask_keeps now r = by_asking now r (λ (z : Run). z.process.belief ≡ r.process.belief) refl (λ id source. refl)

pub beat_keeps : (team : Team) (now : Moment) (r : Run) → (give_beat team now r).process.belief ≡ r.process.belief
beat_keeps team now r = go (is_due team.pace now.h r.process.beat)
  where
    marked : Run
    marked = beat_marked now.h r

    go : (due : Bool) → (cond due (beat_given team now r) r).process.belief ≡ r.process.belief
    go true = repeat_keeps team now (ask_again now marked) ∙ ask_keeps now marked
    go false = refl

duties_tell : (team : Team) (now : Moment) (r : Run) → IsUntold r → TellsAt team (duties team now r)
unfolding duties
duties_tell team now r u =
    let timed : Run = duties_if_timed team now now.reading r in
    still_tells team now timed (give_beat team now timed) (beat_on team now timed) (beat_keeps team now timed) (timed_tells team now now.reading r u)

ended_tells : (team : Team) (h : ℕ) (e : Event) (p : Process) → TellsAt team (ended_by team h e p)
ended_tells team h e p = go (has_duties e)
  where
    now : Moment
    now = moment_of team h e p

    ruled : Run
    ruled = (ruled_by team h e p).run

    untold : IsUntold (ruled_by team h e p).run
    untold = still_untold (moment_of team h e p) (read_by team h e p) (ruled_by team h e p).run (ruled_on team h e p) (record { passes = refl; earlies = refl; told = refl })

    go : (b : Bool) → TellsAt team (cond b (duties team now ruled) ruled)
    go true = duties_tell team now ruled untold
    go false = untold_tells team ruled untold

-- What a step tells as delivered is what it prints, by the last decision that its process has then.
pub step_tells : (team : Team) (h : ℕ) (e : Event) (p : Process) → Tells team (last_decision (step team h e p).process) (step team h e p).out (step team h e p).delivered
unfolding step
step_tells team h e p = ended_tells team h e p
