-- A whole event is a row of effects, and so is a look.
use Rattle.std.proofs.Common.{◌≡◌, refl, sym, ap, subst, ◌∙◌, ℕ, ◌+◌, ◌/◌, ◌<◌, Bool, true, false, cond, ◌∷◌, Option, Some, None, Result, Ok, Err, arith}
use Rattle.std.proofs.lemmas.Bool.Decides.{nat_tests}
use Rattle.tw_num.specs.Clock.{Clock, reading_at, reading_of, interval_at, is_narrow, at_least, after_read, or_before, refusal}
use Rattle.tw_num.specs.declared.interval.Interval.{Interval}
use Rattle.tw_num.specs.declared.interval.Disjoint.{Disjoint}
use Rattle.tw_num.specs.declared.moment.Moment.{Moment}
use Rattle.tw_machine.specs.Types.{Team, Reason, Datagram, WireFault}
use Rattle.tw_types.specs.declared.answer.Reason.TheVariants as reasons
use Rattle.tw_types.specs.declared.datagram.WireFault.TheVariants as kinds
use Rattle.tw_types.specs.Process.{Timing, Process}
use Rattle.tw_machine.specs.Event.{Event}
use Rattle.tw_machine.specs.Run.{run_of}
use Rattle.tw_machine.specs.Packet.{is_taken, is_stranger, admitted}
use Rattle.tw_machine.specs.Hearing.{noted, is_refused, unless_dropped, learn_packet, learn}
use Rattle.tw_machine.specs.Hearing as hearing
use Rattle.tw_machine.specs.Duties.{duties}
use Rattle.tw_machine.specs.Step.{learnt_by, moment_of, read_by, event_rule, ruled_by, has_duties, ended_by, looked}
use Rattle.safety_laws.specs.Effects.{Written, Here, state_of, NotBelow, Stays, SendsNone, Changes}
use Rattle.safety_laws.proofs.Effects.{Row, after, still, own_row, duties_row}
use Rattle.safety_laws.proofs.Given.{same_greatest}

-- the datagram that an event brings, where it isn't dropped before its kind's rule
abbrev heard : Result (Option Datagram) Reason → Option Datagram
heard (Ok o) = o
heard (Err reason) = None

abbrev pub mail_of : Team → ℕ → Event → Process → Option Datagram
mail_of team h e p = heard (learnt_by team h e p).packet

-- it came from another process of the team
pub record IsHeard (team : Team) (e : Event) (d : Datagram) : Type 0 where
  pub packet : e ≡ Event.Packet (Ok d)
  pub from : d.head.from < team.n

packet_is : (team : Team) (h : ℕ) (r : Result Datagram Reason) (t : Timing) (d : Datagram) → heard (learn_packet team h r t).packet ≡ Some d → r ≡ Ok d
packet_is team h (Err reason) t d e = absurd (cc)
packet_is team h (Ok x) t d e = ap Ok (go (is_refused team.ppm h (hearing.told team.ppm h x.head) (noted x.head.from (record { a = x.head.sent; b = h }) t)) e)
  where
    go : (o : Option Reason) → heard (unless_dropped o (Some x)) ≡ Some d → x ≡ d
    go None e = cc
    go (Some reason) e = absurd (cc)

admitted_is : (n me : ℕ) (read : Result Datagram WireFault) (d : Datagram) → admitted n me read ≡ Ok d → (read ≡ Ok d) × (d.head.from < n)
admitted_is n me (Err fault) d e = absurd (cc)
admitted_is n me (Ok x) d e = let k = go (is_taken x.body) (is_stranger n me x.head) refl e in (ap Ok k.0, subst (λ (y : Datagram). y.head.from < n) k.0 k.1)
  where
    go : (taken stranger : Bool) → is_stranger n me x.head ≡ stranger → cond taken (cond stranger (Err reasons.Stranger) (Ok x)) (Err (reasons.Wire kinds.Kind)) ≡ Ok d → (x ≡ d) × (x.head.from < n)
    go true true s e = absurd (cc)
    go true false s e = (cc, grind (arith, nat_tests))
    go false stranger s e = absurd (cc)

refused_has_no_mail : (o : Option Reason) (d : Datagram) → heard (unless_dropped o None) ≡ Some d → ⊥
refused_has_no_mail None d e = cc
refused_has_no_mail (Some reason) d e = cc

pub mail_is : (team : Team) (h : ℕ) (e : Event) (p : Process) (d : Datagram) → mail_of team h e p ≡ Some d → IsHeard team e d
mail_is team h Event.Tick p d is = absurd (cc)
mail_is team h (Event.Packet r) p d is =
    let k = admitted_is team.n p.identity.who r d (packet_is team h (admitted team.n p.identity.who r) p.timing d is) in
    record { packet = ap Event.Packet k.0; from = k.1 }
mail_is team h (Event.Reference lo hi) p d is = absurd (refused_has_no_mail (is_refused team.ppm h (Some (record { lo = lo; hi = hi })) p.timing) d is)
mail_is team h (Event.Send order atom payload) p d is = absurd (cc)

-- the greatest reading never falls

given_greatest : (ppm h : ℕ) (o : Option Interval) (t : Timing) → (hearing.given ppm h o t).clock.greatest ≡ t.clock.greatest
given_greatest ppm h None t = refl
given_greatest ppm h (Some i) t = go (refusal ppm h i t.clock)
  where
    go : (o : Option Disjoint) → (elim o as (λ o. Clock) [ None ↦ record (t.clock) { given = record { h = h; interval = i } ∷ t.clock.given } | Some d ↦ record (t.clock) { disjoint = Some d } ]).greatest ≡ t.clock.greatest
    go None = refl
    go (Some d) = refl

packet_greatest : (team : Team) (h : ℕ) (r : Result Datagram Reason) (t : Timing) → (learn_packet team h r t).timing.clock.greatest ≡ t.clock.greatest
packet_greatest team h (Err reason) t = refl
packet_greatest team h (Ok d) t = given_greatest team.ppm h (hearing.told team.ppm h d.head) (noted d.head.from (record { a = d.head.sent; b = h }) t)

learnt_greatest : (team : Team) (me h : ℕ) (e : Event) (t : Timing) → (learn team me h e t).timing.clock.greatest ≡ t.clock.greatest
learnt_greatest team me h Event.Tick t = refl
learnt_greatest team me h (Event.Packet r) t = packet_greatest team h (admitted team.n me r) t
learnt_greatest team me h (Event.Reference lo hi) t = given_greatest team.ppm h (Some (record { lo = lo; hi = hi })) t
learnt_greatest team me h (Event.Send order atom payload) t = refl

at_least_greatest : (o : Option ℕ) (t : ℕ) → NotBelow o (Some (at_least o t))
at_least_greatest None t = tt
at_least_greatest (Some g) t = omega arith

read_grows : (ppm eps h : ℕ) (c : Clock) → NotBelow c.greatest (after_read ppm eps h c).greatest
read_grows ppm eps h c = go (interval_at ppm h c)
  where
    by_test : (i : Interval) (narrow : Bool) → NotBelow c.greatest (or_before (cond narrow (Some (at_least c.greatest ((i.lo + i.hi) / 2))) None) c.greatest)
    by_test i true = at_least_greatest c.greatest ((i.lo + i.hi) / 2)
    by_test i false = same_greatest c.greatest

    go : (o : Option Interval) → NotBelow c.greatest (or_before (reading_of eps c.greatest o) c.greatest)
    go None = same_greatest c.greatest
    go (Some i) = by_test i (is_narrow eps i)

-- and is the reading, where there is one
pub read_is_greatest : (ppm eps h t : ℕ) (c : Clock) → reading_at ppm eps h c ≡ Some t → (after_read ppm eps h c).greatest ≡ Some t
read_is_greatest ppm eps h t c e = ap (λ o. or_before o c.greatest) e

-- what an event makes of a process is a row of effects
pub event_row : (here : Here) (before : Written) (e : Event) (p : Process) → here.now ≡ moment_of here.team here.step.h e p → here.mail ≡ mail_of here.team here.step.h e p → Row here before (run_of p) (ended_by here.team here.step.h e p)
event_row here before e p now mail = by_duties (has_duties e)
  where
    learnt : NotBelow p.timing.clock.greatest (read_by here.team here.step.h e p).process.timing.clock.greatest
    learnt = subst (λ o. NotBelow o (read_by here.team here.step.h e p).process.timing.clock.greatest) (learnt_greatest here.team p.identity.who here.step.h e p.timing)
        (read_grows here.team.ppm here.team.eps here.step.h (learnt_by here.team here.step.h e p).timing.clock)

    first : Row here before (run_of p) (read_by here.team here.step.h e p)
    first = record {
      changes = Changes.Then Changes.Done (still here before (run_of p) (read_by here.team here.step.h e p) refl refl refl refl refl (Stays refl refl) (SendsNone refl refl) learnt refl refl refl refl);
      read = λ t is. read_is_greatest here.team.ppm here.team.eps here.step.h t (learnt_by here.team here.step.h e p).timing.clock (ap (λ (m : Moment). m.reading) (sym now) ∙ is);
    }

    ruled : Row here before (run_of p) (ruled_by here.team here.step.h e p).run
    ruled = after here before (run_of p) (read_by here.team here.step.h e p) (ruled_by here.team here.step.h e p).run first
        (subst (λ (m : Moment). Row here before (read_by here.team here.step.h e p) (event_rule here.team m e (learnt_by here.team here.step.h e p).packet (read_by here.team here.step.h e p)).run) now
        (own_row here before e (learnt_by here.team here.step.h e p).packet (read_by here.team here.step.h e p) first.read (λ d is. mail ∙ ap heard is)))

    by_duties : (b : Bool) → Row here before (run_of p) (cond b (duties here.team (moment_of here.team here.step.h e p) (ruled_by here.team here.step.h e p).run) (ruled_by here.team here.step.h e p).run)
    by_duties true = after here before (run_of p) (ruled_by here.team here.step.h e p).run _ ruled
        (subst (λ (m : Moment). Row here before (ruled_by here.team here.step.h e p).run (duties here.team m (ruled_by here.team here.step.h e p).run)) now (duties_row here before (ruled_by here.team here.step.h e p).run ruled.read))
    by_duties false = ruled

-- and so is a look
pub look_row : (here : Here) (before : Written) (p : Process) → Changes here (state_of here before (run_of p)) (state_of here before (run_of (looked here.team here.step.h p)))
look_row here before p = Changes.Then Changes.Done
    (still here before (run_of p) (run_of (looked here.team here.step.h p)) refl refl refl refl refl (Stays refl refl) (SendsNone refl refl) (read_grows here.team.ppm here.team.eps here.step.h p.timing.clock) refl refl refl refl)
