-- What a process keeps, in one small record for each concern.
use Rattle.std.specs.Prelude.{ℕ, Option, None}
use Rattle.tw_num.specs.Clock.{Clock, fresh}
use Rattle.tw_types.specs.declared.outputs.Mode.{Mode}
use Rattle.tw_types.specs.declared.outputs.Mode.TheVariants.{First, Again}
use Rattle.tw_types.specs.declared.datagram.Echo.{Echo}
use Rattle.tw_types.specs.declared.ballot.Ballot.{Ballot}
use Rattle.tw_types.specs.Votes.{Vote, no_vote}
use Rattle.tw_types.specs.Beliefs.{Belief, Informed, Blank, Log, no_log}
use Rattle.tw_types.specs.Waiting.{Waiting, nothing_waits}

-- Who it is: its number, how it was started, its hardware reading at the beginning of this life, and that at its start.
pub record Identity : Type 0 where
  pub who : ℕ
  pub mode : Mode
  pub incarnation : ℕ
  pub began : ℕ

-- What it knows of time: all that it was given, and of each process the greatest stamp that it heard, with its own reading
-- when it heard it.
pub record Timing : Type 0 where
  pub clock : Clock
  pub heard : ℕ → Option Echo

-- its own reading at its last sign of life
pub record Beat : Type 0 where
  pub last : Option ℕ

-- what a held decision is for
pub data Purpose : Type 0 where
  -- it is to be taken
  ToTake : Purpose
  -- a group is to be made from it
  ToGroup : Purpose

-- for what a decision is held, and what was promised when it was held
pub record Hold : Type 0 where
  pub purpose : Purpose
  pub promised : ℕ

pub record Process : Type 0 where
  pub identity : Identity
  pub timing : Timing
  pub beat : Beat
  -- what it promised, and the ballot that it holds, if any
  pub vote : Vote
  pub ballot : Option Ballot
  -- its group, and the group's list
  pub belief : Belief
  pub log : Log
  -- the updates and the decision that wait, and for what the decision does
  pub waiting : Waiting
  pub hold : Option Hold
  -- the number of the next update that it sends, counted from 1 in each life
  pub next_seq : ℕ

-- A first start has all that there ever was, which is nothing; another one lost it.
abbrev pub belief_at_start : Mode → Belief
belief_at_start First = Informed None
belief_at_start Again = Blank None

-- a process that was just started at its reading h
abbrev pub started : ℕ → Mode → ℕ → Process
started who mode h = record {
  identity = record { who = who; mode = mode; incarnation = h; began = h };
  timing = record { clock = fresh; heard = λ q. None };
  beat = record { last = None };
  vote = no_vote;
  ballot = None;
  belief = belief_at_start mode;
  log = no_log;
  waiting = nothing_waits;
  hold = None;
  next_seq = 1;
}
