-- When a process of the code stands for a process of the definitions, which keeps all that it was ever given.
use Rattle.std.specs.Prelude.{◌≡◌, ℕ, ◌<◌, get_or, None}
use Rattle.std.specs.Option.{option_map}
use Rattle.tw_num.specs.Clock.{fresh}
use Rattle.tw_machine.specs.Types.{Team, Outputs}
use Rattle.tw_types.specs.Votes.{Vote}
use Rattle.tw_types.specs.Beliefs.{Belief, Informed, Blank}
use Rattle.tw_types.specs.Process.{Identity, Timing, Beat, Purpose, ToTake, ToGroup, Hold, Process}
use Rattle.tw_machine.specs.Run.{Run}
use Rattle.clock_sync.specs.StandsFor as clock
use Rattle.oal.specs.StandsFor as list
use Rattle.node_core.specs.declared.timing.Timing as code_timing
use Rattle.node_core.specs.declared.beat.Beat as code_beat
use Rattle.node_core.specs.declared.state.Identity as code_identity
use Rattle.node_core.specs.declared.state.Vote as code_vote
use Rattle.node_core.specs.declared.state.Belief as code_belief
use Rattle.node_core.specs.declared.state.Belief.TheVariants as beliefs
use Rattle.node_core.specs.declared.state.Purpose as code_purpose
use Rattle.node_core.specs.declared.state.Purpose.TheVariants as purposes
use Rattle.node_core.specs.declared.state.Hold as code_hold
use Rattle.node_core.specs.declared.state.State.{State}

-- the clock stands for the one that keeps all, and each process was heard alike
pub record TimingStandsFor (team : Team) (c : code_timing.Timing) (t : Timing) : Type 0 where
  pub clock : clock.StandsFor team.ppm team.eps c.clock t.clock
  pub heard : (q : ℕ) → q < 15 → get_or c.heard q None ≡ t.heard q

abbrev pub nothing_heard : Timing
nothing_heard = record { clock = fresh; heard = λ q. None }

abbrev pub identity_seen : code_identity.Identity → Identity
identity_seen i = record { who = i.who; mode = i.mode; incarnation = i.incarnation; began = i.began }

abbrev pub beat_seen : code_beat.Beat → Beat
beat_seen b = record { last = b.last }

abbrev pub vote_seen : code_vote.Vote → Vote
vote_seen v = record { promised = v.promised; support = v.support }

abbrev pub belief_seen : code_belief.Belief → Belief
belief_seen (beliefs.Informed last) = Informed last
belief_seen (beliefs.Blank followed) = Blank followed

abbrev pub purpose_seen : code_purpose.Purpose → Purpose
purpose_seen purposes.ToTake = ToTake
purpose_seen purposes.ToGroup = ToGroup

abbrev pub hold_seen : code_hold.Hold → Hold
hold_seen h = record { purpose = purpose_seen h.purpose; promised = h.promised }

-- Each concern stands for its own. Of the list the end is kept.
pub record StandsFor (c : State) (p : Process) : Type 0 where
  pub identity : p.identity ≡ identity_seen c.identity
  pub timing : TimingStandsFor c.team c.timing p.timing
  pub beat : p.beat ≡ beat_seen c.beat
  pub vote : p.vote ≡ vote_seen c.vote
  pub ballot : p.ballot ≡ c.ballot
  pub belief : p.belief ≡ belief_seen c.belief
  pub log : list.StandsFor c.oal p.log
  pub waiting : p.waiting ≡ c.store.waiting
  pub hold : p.hold ≡ option_map hold_seen c.hold
  pub next_seq : p.next_seq ≡ c.next_seq

-- A process of this team and what it gave so far stand for a run. For what a history collects nothing stands.
pub record RunStandsFor (team : Team) (c : State) (out : Outputs) (r : Run) : Type 0 where
  pub same_team : c.team ≡ team
  pub process : StandsFor c r.process
  pub given : out ≡ r.out
