-- The ballot's way to a group: promises that it takes, and the group that is made of them.
use Rattle.std.specs.Prelude.{ℕ, if◌then◌else◌, Option, Some, None, Result, Ok, Err}
use Rattle.tw_num.specs.declared.moment.Moment.{Moment}
use Rattle.tw_machine.specs.Types.{Team, UpdateId, Decision, Ballot}
use Rattle.tw_types.specs.declared.answer.Reason.TheVariants.{Old}
use Rattle.std.specs.Option.{option_map}
use Rattle.tw_types.specs.Votes.{Promise}
use Rattle.tw_types.specs.Ballots.{wants, joined, is_complete}
use Rattle.tw_types.specs.Waiting.{payloads_of}
use Rattle.tw_types.specs.Groups.{NoGroup, TooFew, NotConsistent, Behind, Missing, Spent, group_made, group_making}
use Rattle.tw_types.specs.Process.{ToGroup}
use Rattle.tw_machine.specs.Run.{Run, Ruled, done, dropped}
use Rattle.tw_machine.specs.Standing.{member_of}
use Rattle.tw_machine.specs.Electing.{ballot_dropped}
use Rattle.tw_machine.specs.Deciding.{decision_made}
use Rattle.tw_machine.specs.Entering.{decision_held}

-- a promise is added to the ballot of its number
abbrev pub promise_added : Promise → Run → Run
promise_added given r = record r { process = record (r.process) { ballot = option_map (joined given) r.process.ballot } }

-- the rule of a promise that is received in time
abbrev pub take_promise : Promise → Run → Ruled
take_promise given r = if wants given r.process.ballot then done (promise_added given r) else dropped Old r

-- a group takes its ballot away
abbrev pub group_begun : Team → Moment → Ballot → Decision → ℕ → Run → Run
group_begun team now ballot d t r = decision_made team now (group_making ballot d) t (ballot_dropped r)

-- The ballot's best decision lacks a payload: it is held for the group, and a process that has it is asked.
abbrev pub best_held : Moment → Ballot → UpdateId → Run → Run
best_held now ballot id r = by ballot.best
  where
    by : Option Decision → Run
    by None = r
    by (Some best) = decision_held now ToGroup best ballot.best_from id r

-- what comes of a ballot that makes this group, or none
abbrev pub begun_or_held : Team → Moment → Ballot → ℕ → Result Decision NoGroup → Run → Run
begun_or_held team now ballot t (Ok d) r = group_begun team now ballot d t r
begun_or_held team now ballot t (Err (Missing id)) r = best_held now ballot id r
begun_or_held team now ballot t (Err TooFew) r = r
begun_or_held team now ballot t (Err NotConsistent) r = r
begun_or_held team now ballot t (Err Behind) r = r
begun_or_held team now ballot t (Err Spent) r = r

-- A complete ballot makes a group, if it can; one that can't is kept.
abbrev pub make_group : Team → Moment → ℕ → Run → Run
make_group team now t r = by r.process.ballot
  where
    by : Option Ballot → Run
    by None = r
    by (Some ballot) =
        if is_complete team t ballot
        then begun_or_held team now ballot t (group_made team ballot r.process.log (payloads_of r.process.waiting) (member_of r.process.identity) t) r
        else r
