-- What a ballot and an election come to, and what parts of a step leave.
use Rattle.std.specs.Prelude.{ℕ, ◌≡◌, ◌==◌, ◌+◌, nat_le, ◌&&◌, Bool, false, if◌then◌else◌, List, [], Option, Some, None, Result, Ok, Err}
use Rattle.std.specs.Option.{option_map}
use Rattle.tw_num.specs.declared.moment.Moment.{Moment}
use Rattle.tw_machine.specs.Types.{Team, UpdateId, Entry, Kept, Decision, Ballot, Why, Reason, ProposeFault, RowAnswer}
use Rattle.tw_types.specs.Beliefs.{last_of}
use Rattle.tw_types.specs.Votes.{Promise}
use Rattle.tw_types.specs.Appending.{MayBeAppended, appended_list, with_appended}
use Rattle.tw_types.specs.Ballots.{begun, is_complete}
use Rattle.tw_types.specs.Groups.{NoGroup, TooFew, NotConsistent, Behind, Missing, Spent, group_made}
use Rattle.tw_types.specs.Process.{Process, Hold}
use Rattle.tw_types.specs.Turns.{next_draft}
use Rattle.tw_types.specs.Waiting.{Held, Putting, payloads_of, first_hole, put_as}
use Rattle.oal.specs.declared.list.ExtendFault.{ExtendFault}
use Rattle.oal.specs.Faults.{extend_reason}
use Rattle.tw_machine.specs.Run.{Run}
use Rattle.tw_machine.specs.Standing.{member_of}
use Rattle.tw_machine.specs.Electing.{election_begun, begin_election}
use Rattle.tw_machine.specs.Entering.{let_go_below, hold_after}
use Rattle.tw_machine.specs.Grouping.{group_begun, best_held}
use Rattle.node_core.specs.declared.state.State.{State}
use Rattle.node_core.specs.declared.state.Hold as code_hold
use Rattle.node_core.specs.StandsFor.{belief_seen, hold_seen}

-- the group that is made, or the update without whose payload none is
abbrev pub if_made : Result Decision NoGroup → Option (Result Decision UpdateId)
if_made (Ok d) = Some (Ok d)
if_made (Err (Missing id)) = Some (Err id)
if_made (Err TooFew) = None
if_made (Err NotConsistent) = None
if_made (Err Behind) = None
if_made (Err Spent) = None

-- what this process makes of a ballot at t, if that is complete
abbrev pub made_if_complete : Team → ℕ → Process → Ballot → Option (Result Decision UpdateId)
made_if_complete team t p ballot = if is_complete team t ballot then if_made (group_made team ballot p.log (payloads_of p.waiting) (member_of p.identity) t) else None

-- what that comes to: a group begins, or the ballot's best decision is held
abbrev pub run_made : Team → Moment → ℕ → Run → Ballot → Option (Result Decision UpdateId) → Run
run_made team now t r ballot None = r
run_made team now t r ballot (Some (Ok d)) = group_begun team now ballot d t r
run_made team now t r ballot (Some (Err id)) = best_held now ballot id r

-- the best decision of a ballot, and a process that has it
abbrev pub best_of : Ballot → Option (Decision × ℕ)
best_of ballot = option_map (λ (d : Decision). (d, ballot.best_from)) ballot.best

-- the process of the run holds an election for this reason, and begins this ballot with its own promise
pub record HoldsElection (team : Team) (now : Moment) (t : ℕ) (r : Run) (b : Ballot × Why) : Type 0 where
  pub own : Promise
  pub is : begin_election team now t r ≡ election_begun team now b.1 own r
  pub ballot : b.0 ≡ begun own

-- a held decision that isn't above one that is taken goes
abbrev pub let_go : Decision → Process → Process
let_go d p = record p { waiting = let_go_below d p.waiting; hold = hold_after d p }

-- A draft after the last decision, made at t by the process who: with what it appends where it is up, and with nothing else.
pub record IsDraft (team : Team) (up : Bool) (t passed : ℕ) (pending : List Kept) (last : Decision) (who : ℕ) (draft : Decision) : Type 0 where
  pub entries : List Entry
  pub list : entries ≡ (if up then appended_list team t passed last pending else [])
  pub may : MayBeAppended team t passed last pending entries
  pub is : draft ≡ with_appended entries (next_draft last t who)

-- the first reason against a decision that a list tells, if it tells one
abbrev pub list_reason : Result (Unit {0}) ExtendFault → Option Reason
list_reason (Ok u) = None
list_reason (Err fault) = Some (extend_reason fault)

-- what an update that came, or one that the process sends, leaves waiting
abbrev pub kept_as : Putting → Kept → Process → Process
kept_as putting k p = record p { waiting = put_as putting k p.waiting }

-- a held decision of which no payload is missing, and for what it is held
abbrev pub whole_of : Option (UpdateId × ℕ) → Option Held → Option Hold → Option (Decision × Hold)
whole_of None (Some h) (Some hold) = Some (h.decision, hold)
whole_of None (Some h) None = None
whole_of None None hold = None
whole_of (Some hole) held hold = None

abbrev pub whole_held : Process → Option (Decision × Hold)
whole_held p = whole_of (first_hole p.waiting.held) p.waiting.held p.hold

-- the same of the code
abbrev pub whole_seen : Decision × code_hold.Hold → Decision × Hold
whole_seen w = (w.0, hold_seen w.1)

-- the answer to a send, as its row tells it
abbrev pub send_answer : Result ℕ ProposeFault → RowAnswer
send_answer (Ok seq) = RowAnswer.Sent seq
send_answer (Err why) = RowAnswer.Refused why

-- why a send is refused, if it is
abbrev pub send_refusal : Result ℕ ProposeFault → Option ProposeFault
send_refusal (Ok seq) = None
send_refusal (Err why) = Some why

-- The last decision is said again at the next beat: the process made it itself, so long ago, and promised no other group.
abbrev pub says_again : State → Option ℕ → Bool
says_again c None = false
says_again c (Some t) = by (last_of (belief_seen c.belief))
  where
    by : Option Decision → Bool
    by None = false
    by (Some last) = (last.maker == c.identity.who) && (last.group == c.vote.promised) && nat_le (last.made + c.team.decide) t

-- so many datagrams go out with it
abbrev pub said_again : State → Option ℕ → ℕ
said_again c reading = if says_again c reading then 14 else 0
