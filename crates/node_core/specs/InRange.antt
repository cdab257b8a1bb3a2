-- What a process keeps is in the ranges of datagrams, so that whatever it says of it may be sent.
use Rattle.std.specs.Prelude.{ℕ, ◌≡◌, ◌≤◌, ◌<◌, true, length, Option, IfSome}
use Rattle.std.specs.List.{AllByRecursion}
use Rattle.tw_machine.specs.Types.{Report, Kept, Decision, Ballot}
use Rattle.tw_types.specs.Bytes.{IsCount}
use Rattle.tw_types.specs.Beliefs.{Log, last_of, view_decision}
use Rattle.tw_types.specs.Ballots.{has_report_of}
use Rattle.tw_types.specs.BallotFits.{IsBallot}
use Rattle.tw_types.specs.Decisions.{or_none, decision_length}
use Rattle.tw_types.specs.Ranges.{IdFits, SentFits, DecisionFits, longest_payload}
use Rattle.tw_types.specs.Updates.{stays_pending}
use Rattle.tw_types.specs.Waiting.{Held, Waiting}
use Rattle.oal.specs.Recent.{Recent}
use Rattle.oal.specs.StandsFor.{StandsFor}
use Rattle.update_store.specs.Stock.{Stock}
use Rattle.node_core.specs.declared.state.Purpose.TheVariants.{ToTake}
use Rattle.node_core.specs.declared.state.Hold.{Hold}
use Rattle.node_core.specs.declared.state.State.{State}
use Rattle.node_core.specs.StandsFor.{belief_seen}

-- an update that waits, delivered early or not
pub record KeptFits (n : ℕ) (k : Kept) : Type 0 where
  pub entry : SentFits n k.entry
  pub payload : length k.payload.items ≤ longest_payload

-- a held decision, the process to ask for its payloads, and those that are there
pub record HeldFits (n : ℕ) (h : Held) : Type 0 where
  pub decision : DecisionFits n h.decision
  pub source : h.source < n
  pub payloads : AllByRecursion (KeptFits n) h.payloads

pub record WaitingFits (n : ℕ) (w : Waiting) : Type 0 where
  pub pending : AllByRecursion (KeptFits n) w.pending
  pub held : IfSome w.held (HeldFits n)

-- an entry of the list with its payload, late or not
pub record ListedFits (n : ℕ) (k : Kept) : Type 0 where
  pub id : IdFits n k.entry.id
  pub stamp : IsCount k.entry.stamp
  pub payload : length k.payload.items ≤ longest_payload

-- one that is to be taken is of no greater group than the one that was promised when it was held
abbrev pub IsHeldFor : Option Held → Hold → Type 0
IsHeldFor held hold = hold.purpose ≡ ToTake → IfSome held (λ h. h.decision.group ≤ hold.promised)

-- Of the updates of a process of n, where this decision is taken or followed: the list's entries are in range; what is pending is settled
-- by the decision; the store is that of the team; a number is next.
pub record UpdatesFit (n : ℕ) (view : Option Decision) (o : Recent) (k : Stock) (hold : Option Hold) (seq : ℕ) : Type 0 where
  pub listed : AllByRecursion (ListedFits n) o.kept
  pub settled : AllByRecursion (λ (k : Kept). stays_pending (or_none view) k ≡ true) k.waiting.pending
  pub held_for : IfSome hold (IsHeldFor k.waiting.held)
  pub size : k.n ≡ n
  pub numbered : 1 ≤ seq

-- what is reported of this process is not above this length of its list
abbrev pub ReportsWithin : (who length : ℕ) → Ballot → Type 0
ReportsWithin who length b = AllByRecursion (λ (r : Report). r.member.who ≡ who → r.length ≤ length) b.reports.items

-- there is a list that it keeps the end of
pub record KeepsList (o : Recent) : Type 0 where
  pub log : Log
  pub stands : StandsFor o log

-- The promised number and the last support are counts. The decision that the process took or follows is in range, and of no
-- greater group than the promised one. So is its ballot, which has a report of the process itself; none of it tells more than the
-- list has. The list is as long as the last decision says, and empty where there is none. What waits is in range, and so are the updates.
pub record IsInRange (s : State) : Type 0 where
  pub promised : IsCount s.vote.promised
  pub support : IfSome s.vote.support IsCount
  pub view : IfSome (view_decision (belief_seen s.belief)) (DecisionFits s.team.n)
  pub kept : IfSome (view_decision (belief_seen s.belief)) (λ d. d.group ≤ s.vote.promised)
  pub ballot : IfSome s.ballot (IsBallot s.team.n)
  pub held : IfSome s.ballot (λ b. b.number ≤ s.vote.promised)
  pub own : IfSome s.ballot (λ b. has_report_of s.identity.who b ≡ true)
  pub within : IfSome s.ballot (ReportsWithin s.identity.who s.oal.length)
  pub length : s.oal.length ≡ decision_length (or_none (last_of (belief_seen s.belief)))
  pub log : KeepsList s.oal
  pub waiting : WaitingFits s.team.n s.store.waiting
  pub updates : UpdatesFit s.team.n (view_decision (belief_seen s.belief)) s.oal s.store s.hold s.next_seq
