-- What the processes of a schedule promised, made, sent and delivered, and when they were up: lists beside the world, the newest item first.
-- The laws on groups speak of these lists at one moment; no contract of a function that runs reads them.
use Rattle.std.specs.Prelude.{ℕ, suc, ◌+◌, ◌==◌, Bool, true, false, ◌&&◌, if◌then◌else◌, List, [], ◌∷◌, ◌++◌, length, find, Option, Some, None}
use Rattle.std.specs.Option.{option_map_or}
use Rattle.tw_machine.specs.Types.{Team, Member, Kept, Decision, Step}
use Rattle.tw_types.specs.Votes.{Promise, Making}
use Rattle.tw_types.specs.Process.{Process}
use Rattle.tw_types.specs.Sends.{Sending}
use Rattle.tw_machine.specs.Admissible.{is_start}
use Rattle.tw_machine.specs.Run.{Delivered}
use Rattle.tw_machine.specs.Standing.{member_of, last_decision}
use Rattle.tw_machine.specs.Step.{view_of}
use Rattle.tw_machine.specs.World.{Deed, deed_in, world}

-- A life of a process is the number of its starts so far, 0 of one that was never started.
abbrev pub life : ℕ → List Step → ℕ
life who [] = 0
life who (s ∷ past) = if (s.who == who) && is_start s.act then suc (life who past) else life who past

-- a promise, with its process and life, the team time of its step and the reading of its hardware clock
pub record Promised : Type 0 where
  pub who : ℕ
  pub life : ℕ
  pub t : ℕ
  pub h : ℕ
  pub promise : Promise

-- A decision that was made, by whom and when, and its list of updates, whole: what the decision's window ends. No process need know it.
pub record Make : Type 0 where
  pub who : ℕ
  pub member : Member
  pub life : ℕ
  pub t : ℕ
  pub h : ℕ
  pub making : Making
  pub log : List Kept

-- an update that was sent for the first time, by whom and when, and in which group
pub record SentUpdate : Type 0 where
  pub who : ℕ
  pub member : Member
  pub life : ℕ
  pub t : ℕ
  pub h : ℕ
  pub sending : Sending

-- An update that was delivered or passed: the number of the row that tells it, by whom, and what was told of it.
pub record Line : Type 0 where
  pub row : ℕ
  pub who : ℕ
  pub member : Member
  pub life : ℕ
  pub delivered : Delivered

-- a process that was up after its step, at this reading and with this last decision
pub record Up : Type 0 where
  pub who : ℕ
  pub member : Member
  pub life : ℕ
  pub t : ℕ
  pub group : ℕ
  pub reading : ℕ
  pub last : Decision

pub record History : Type 0 where
  pub promises : List Promised
  pub makes : List Make
  pub sends : List SentUpdate
  pub lines : List Line
  pub ups : List Up

abbrev pub no_history : History
no_history = record { promises = []; makes = []; sends = []; lines = []; ups = [] }

abbrev pub promise_item : ℕ → Step → Promise → Promised
promise_item life s given = record { who = s.who; life = life; t = s.t; h = s.h; promise = given }

-- the list of a decision that was made: that of the newest make of its group and turn; empty where there is no decision
abbrev pub list_of : List Make → Option Decision → List Kept
list_of makes None = []
list_of makes (Some d) = option_map_or (λ (m : Make). m.log) (find (λ (m : Make). (m.making.decision.group == d.group) && (m.making.decision.turn == d.turn)) makes) []

-- A make, behind those before it. Its list is that of the decision that it stands on, and then what was added.
abbrev pub make_item : Member → ℕ → Step → List Make → Making → Make
make_item member life s older making = record {
  who = s.who;
  member = member;
  life = life;
  t = s.t;
  h = s.h;
  making = making;
  log = list_of older making.before ++ making.appended;
}

abbrev pub send_item : Member → ℕ → Step → Sending → SentUpdate
send_item member life s sending = record { who = s.who; member = member; life = life; t = s.t; h = s.h; sending = sending }

-- what a step gave in its order, put before what is older
abbrev pub promises_on : ℕ → Step → List Promise → List Promised → List Promised
promises_on life s [] older = older
promises_on life s (given ∷ more) older = promises_on life s more (promise_item life s given ∷ older)

abbrev pub makes_on : Member → ℕ → Step → List Making → List Make → List Make
makes_on member life s [] older = older
makes_on member life s (making ∷ more) older = makes_on member life s more (make_item member life s older making ∷ older)

abbrev pub sends_on : Member → ℕ → Step → List Sending → List SentUpdate → List SentUpdate
sends_on member life s [] older = older
sends_on member life s (sending ∷ more) older = sends_on member life s more (send_item member life s sending ∷ older)

abbrev pub line_item : (row : ℕ) → Member → ℕ → Step → Delivered → Line
line_item row member life s delivered = record { row = row; who = s.who; member = member; life = life; delivered = delivered }

abbrev pub lines_on : (row : ℕ) → Member → ℕ → Step → List Delivered → List Line → List Line
lines_on row member life s [] older = older
lines_on row member life s (delivered ∷ more) older = lines_on row member life s more (line_item row member life s delivered ∷ older)

-- a process that is up after this step, at its reading and with its last decision
abbrev pub up_at : ℕ → Step → Process → ℕ → Decision → Up
up_at life s p reading last = record { who = s.who; member = member_of p.identity; life = life; t = s.t; group = last.group; reading = reading; last = last }

-- who is up has a reading and a last decision
abbrev pub up_on : ℕ → Step → Process → Bool → Option ℕ → Option Decision → List Up → List Up
up_on life s p true (Some reading) (Some last) older = up_at life s p reading last ∷ older
up_on life s p true (Some reading) None older = older
up_on life s p true None last older = older
up_on life s p false reading last older = older

-- what the row of the step says of the flag, of the process that runs after the step
abbrev pub up_by : Team → ℕ → Step → Option Process → List Up → List Up
up_by team life s None older = older
up_by team life s (Some p) older = up_on life s p (view_of team s.h p).up (view_of team s.h p).reading (last_decision p) older

-- what a step made and sent is of the process as it is after it
abbrev pub makes_by : ℕ → Step → Option Process → List Making → List Make → List Make
makes_by life s None makings older = older
makes_by life s (Some p) makings older = makes_on (member_of p.identity) life s makings older

abbrev pub sends_by : ℕ → Step → Option Process → List Sending → List SentUpdate → List SentUpdate
sends_by life s None sendings older = older
sends_by life s (Some p) sendings older = sends_on (member_of p.identity) life s sendings older

abbrev pub lines_by : (row : ℕ) → ℕ → Step → Option Process → List Delivered → List Line → List Line
lines_by row life s None delivered older = older
lines_by row life s (Some p) delivered older = lines_on row (member_of p.identity) life s delivered older

-- the lists after a step that comes to this, in a life, with the number of its row
abbrev pub history_after : Team → (row : ℕ) → ℕ → Step → Deed → History → History
history_after team row life s d older = record {
  promises = promises_on life s d.promises older.promises;
  makes = makes_by life s d.process d.makings older.makes;
  sends = sends_by life s d.process d.sendings older.sends;
  lines = lines_by row life s d.process d.delivered older.lines;
  ups = up_by team life s d.process older.ups;
}

-- the lists after all steps of a schedule
abbrev pub history : Team → List Step → History
history team [] = no_history
history team (s ∷ past) = history_after team (length past + 1) (life s.who (s ∷ past)) s (deed_in team (world team past) s) (history team past)
