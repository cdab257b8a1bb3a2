-- An event, by its parts.
use Rattle.std.proofs.Common.{◌≡◌, refl, Option, Result, ap, sym, subst, ◌∙◌, ℕ, Bool, cond}
use Rattle.std.specs.Option.{option_map}
use Rattle.tw_machine.specs.Types.{Team, Outputs, Datagram, Reason}
use Rattle.tw_types.specs.Outputs.{nothing}
use Rattle.tw_types.specs.Process.{Process}
use Rattle.tw_num.specs.declared.moment.Moment.{Moment}
use Rattle.tw_machine.specs.Event.{Event}
use Rattle.tw_machine.specs.Run.{Run}
use Rattle.tw_machine.specs.Rules.{rule}
use Rattle.node_core.specs.declared.process.Event as code
use Rattle.node_core.specs.declared.process.Event.TheVariants.{Tick, Packet, Reference}
use Rattle.node_core.specs.Events.{event_seen}
use Rattle.tw_machine.specs.Hearing.{read}
use Rattle.tw_machine.specs.Duties.{duties}
use Rattle.tw_machine.specs.Step.{learnt_by, moment_of, read_by, event_rule, ruled_by, ended, has_duties, step}
use Rattle.oal.specs.Recent.{Recent}
use Rattle.oal.specs.StandsFor as list
use Rattle.update_store.specs.Stock.{Stock}
use Rattle.node_core.specs.declared.state.State.{State}
use Rattle.node_core.specs.StandsFor.{StandsFor, TimingStandsFor, RunStandsFor, identity_seen, beat_seen, vote_seen, belief_seen, hold_seen}

-- the rule of what happens to a core is that of its packet
pub packet_rule : (team : Team) (e : code.Event) (now : Moment) (packet : Result (Option Datagram) Reason) (r : Run) → event_rule team now (event_seen team e) packet r ≡ ended (rule team now packet r)
packet_rule team Tick now packet r = refl
packet_rule team (Packet bytes) now packet r = refl
packet_rule team (Reference lo hi) now packet r = refl

-- a core that read its clock, and cleared what it gave before, stands for the run with which the rule begins
pub read_stands : (team : Team) (c new : State) (h : ℕ) (e : Event) (p : Process) (out : Outputs) → StandsFor c p → new.team ≡ team → new.identity ≡ c.identity → new.beat ≡ c.beat → new.vote ≡ c.vote → new.ballot ≡ c.ballot → new.belief ≡ c.belief → new.oal ≡ c.oal → new.store ≡ c.store → new.hold ≡ c.hold → new.next_seq ≡ c.next_seq
    → TimingStandsFor new.team new.timing (read team h (learnt_by team h e p).timing) → out ≡ nothing → RunStandsFor team new out (read_by team h e p)
read_stands team c new h e p out s same me beat vote ballot belief oal store hold seq timing cleared = record {
  same_team = same;
  process = record {
    identity = s.identity ∙ ap identity_seen (sym me);
    timing = timing;
    beat = s.beat ∙ ap beat_seen (sym beat);
    vote = s.vote ∙ ap vote_seen (sym vote);
    ballot = s.ballot ∙ sym ballot;
    belief = s.belief ∙ ap belief_seen (sym belief);
    log = subst (λ (o : Recent). list.StandsFor o p.log) (sym oal) s.log;
    waiting = s.waiting ∙ ap (λ (k : Stock). k.waiting) (sym store);
    hold = s.hold ∙ ap (option_map hold_seen) (sym hold);
    next_seq = s.next_seq ∙ sym seq;
  };
  given = cleared;
}

-- what ends the step is what the step comes to; b says whether the duties ran
pub step_stands : (team : Team) (new : State) (h : ℕ) (e : Event) (p : Process) (out : Outputs) (b : Bool) → has_duties e ≡ b
    → RunStandsFor team new out (cond b (duties team (moment_of team h e p) (ruled_by team h e p).run) (ruled_by team h e p).run)
    → StandsFor new (step team h e p).process × (out ≡ (step team h e p).out)
unfolding step
step_stands team new h e p out b has stands = rw has (stands.process, stands.given)
