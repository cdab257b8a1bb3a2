-- Which promises and ballots a process may hold: all that they are made of is in the ranges of datagrams.
use Rattle.std.specs.Prelude.{ℕ, ◌≤◌, ◌≡◌, Option, None, Some, IfSome}
use Rattle.std.specs.List.{AllByRecursion}
use Rattle.tw_types.specs.declared.message.Decision.{Decision}
use Rattle.tw_types.specs.declared.ballot.Ballot.{Ballot}
use Rattle.tw_types.specs.Ranges.{IsPositive, ReportFits, DecisionFits, Distinct, IsTold}
use Rattle.tw_types.specs.Votes.{Promise}
use Rattle.tw_types.specs.Decisions.{or_none}
use Rattle.tw_types.specs.Reports.{best}
use Rattle.tw_types.specs.Ballots.{least_reporter}

-- a promise among n processes: its decision is the one that its report names
pub record IsPromise (n : ℕ) (p : Promise) : Type 0 where
  pub number : IsPositive p.number
  pub report : ReportFits n p.report
  pub decision : IsTold n p.report p.decision

-- The decision is the one that the greatest group and turn name. Group 0 names none, whatever the turn.
abbrev pub IsNamed : Option (ℕ × ℕ) → Option Decision → Type 0
IsNamed None d = d ≡ None
IsNamed (Some pair) d = ((or_none d).group ≡ pair.0) × (1 ≤ pair.0 → (or_none d).turn ≡ pair.1)

-- A ballot among n processes: its reports are of different processes, and its decision and the process that has it are those
-- of the best report.
pub record IsBallot (n : ℕ) (b : Ballot) : Type 0 where
  pub number : IsPositive b.number
  pub each : AllByRecursion (ReportFits n) b.reports.items
  pub distinct : Distinct b.reports.items
  pub best_fits : IfSome b.best (DecisionFits n)
  pub best : IsNamed (best b.reports.items) b.best
  pub best_from : b.best_from ≡ least_reporter b.best b.reports.items
