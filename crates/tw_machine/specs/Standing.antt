-- What a process is in its group, and what it reports of itself.
use Rattle.std.specs.Prelude.{ℕ, Bool, false, ◌||◌, if◌then◌else◌, Option, Some, None}
use Rattle.tw_machine.specs.Types.{Member, Report, Decision}
use Rattle.tw_types.specs.Votes.{Promise}
use Rattle.tw_types.specs.Beliefs.{is_informed, last_of}
use Rattle.tw_types.specs.Reports.{report_of}
use Rattle.tw_types.specs.Process.{Identity, Process}

-- the process in its present life
abbrev pub member_of : Identity → Member
member_of me = record { who = me.who; incarnation = me.incarnation }

-- the last decision that it took, as an informed process
abbrev pub last_decision : Process → Option Decision
last_decision p = last_of p.belief

-- what it reports of itself at its reading t
abbrev pub report_by : Process → ℕ → Report
report_by p t = report_of (member_of p.identity) p.vote p.belief p.log t

-- Whether a blank process has been given what it needs to promise. Nothing is given to one yet.
abbrev pub is_ready : Process → Bool
is_ready p = false

-- the report of a process that may promise at all
abbrev pub report_if_able : Process → ℕ → Option Report
report_if_able p t = if is_informed p.belief || is_ready p then Some (report_by p t) else None

-- its promise of a number at its reading t
abbrev pub promise_by : Process → ℕ → ℕ → Promise
promise_by p number t = record { number = number; report = report_by p t; decision = last_decision p }
