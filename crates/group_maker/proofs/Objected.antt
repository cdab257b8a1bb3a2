-- What comes of a ballot to which nothing is objected before its payloads.
use Rattle.std.proofs.Common.{◌≡◌, refl, sym, ap, ◌∙◌, List, [], ◌∷◌, ◌+◌, ◌/◌, ◌^◌, ◌≤◌, ℕ, nat_le, nat_lt, Bool, true, false, cond, length, Option, Some, None, Result, Ok, Err, arith}
use Rattle.std.specs.Prelude.{count_by}
use Rattle.std.specs.List.{list_any}
use Rattle.std.specs.Option.{option_map, option_or}
use Rattle.std.proofs.lemmas.Bool.Decides.{nat_tests}
use Rattle.tw_types.specs.declared.team.Team.{Team}
use Rattle.tw_types.specs.declared.message.Member.{Member}
use Rattle.tw_types.specs.declared.message.UpdateId.{UpdateId}
use Rattle.tw_types.specs.declared.message.Entry.{Entry}
use Rattle.tw_types.specs.declared.message.Kept.{Kept}
use Rattle.tw_types.specs.declared.message.Report.{Report}
use Rattle.tw_types.specs.declared.message.Decision.{Decision}
use Rattle.tw_types.specs.declared.ballot.Ballot.{Ballot}
use Rattle.tw_types.specs.Beliefs.{Log, log_length}
use Rattle.tw_types.specs.Decisions.{or_none, decision_length, is_same_member}
use Rattle.tw_types.specs.Waiting.{entries_from}
use Rattle.tw_types.specs.Logs.{log_room, needed}
use Rattle.oal.specs.Recent.{Recent}
use Rattle.oal.specs.StandsFor.{StandsFor}
use Rattle.tw_types.specs.Reports.{is_by_informed}
use Rattle.tw_types.specs.Groups.{NoGroup, Objection, consistent, seated, start_of, decision_from, first_decision, group_made}
use Rattle.tw_types.specs.Groups.NoGroup.{Missing, Spent}
use Rattle.group_maker.proofs.Missing.{missing, objected}

-- neither the reports nor the ends of the lists object
pub record Passes (team : Team) (b : Ballot) (l : Log) (me : Member) : Type 0 where
  pub informed : team.n / 2 + 1 ≤ count_by is_by_informed b.reports.items
  pub own : list_any (λ (r : Report). is_same_member r.member me) (consistent b) ≡ true
  pub longer : log_length l ≤ decision_length (or_none b.best)
  pub many : team.n / 2 + 1 ≤ length (consistent b)
  pub near : decision_length (or_none b.best) ≤ l.passed + log_room

-- what was found of the ballot, and of the list that stands for the log
pub passes : (team : Team) (b : Ballot) (l : Log) (me : Member) (o : Recent) (majority : ℕ) (best : Decision) (reports : List Report)
    → StandsFor o l → majority ≡ team.n / 2 + 1 → best ≡ or_none b.best → reports ≡ consistent b
    → majority ≤ count_by is_by_informed b.reports.items → list_any (λ (r : Report). is_same_member r.member me) reports ≡ true
    → o.length ≤ decision_length best → majority ≤ length reports → nat_lt (o.passed + log_room) (decision_length best) ≡ false
    → Passes team b l me
passes team b l me o majority best reports stands is best_is reports_are informed own longer many near = record {
  informed = rw (sym is) informed;
  own = rw (sym reports_are) own;
  longer = rw (sym best_is, sym stands.length) longer;
  many = rw (sym reports_are, sym is) many;
  near = rw (sym best_is, sym stands.passed) (grind (arith, nat_tests, near));
}

-- the first payload that the log needs is the one that was looked for
pub needed_are : (b : Ballot) (l : Log) (payloads : List Kept) (o : Recent) (best : Decision) (found : Option UpdateId)
    → StandsFor o l → best ≡ or_none b.best
    → found ≡ option_map (λ (e : Entry). e.id) (missing payloads (entries_from o.length best))
    → option_map (λ (e : Entry). e.id) (missing payloads (needed l (or_none b.best))) ≡ found
needed_are b l payloads o best found stands best_is is = rw (sym best_is, sym stands.length) (sym is)

-- then the first payload that is missing does, or the start
abbrev pub outcome_of : Option UpdateId → Bool → Decision → Result Decision NoGroup
outcome_of (Some id) late d = Err (Missing id)
outcome_of None true d = Err Spent
outcome_of None false d = Ok d

pub made_by : (team : Team) (b : Ballot) (l : Log) (payloads : List Kept) (me : Member) (t : ℕ) → Passes team b l me
    → group_made team b l payloads me t ≡ outcome_of (option_map (λ (e : Entry). e.id) (missing payloads (needed l (or_none b.best)))) (nat_le (2 ^ 61) (start_of team b)) (first_decision team b me t)
made_by team b l payloads me t p =
    let few : nat_lt (count_by is_by_informed b.reports.items) (team.n / 2 + 1) ≡ false = grind (arith, nat_tests, p.informed) in
    let shorter : nat_lt (decision_length (or_none b.best)) (log_length l) ≡ false = grind (arith, nat_tests, p.longer) in
    let consistent_few : nat_lt (length (consistent b)) (team.n / 2 + 1) ≡ false = grind (arith, nat_tests, p.many) in
    let behind : nat_lt (l.passed + log_room) (decision_length (or_none b.best)) ≡ false = grind (arith, nat_tests, p.near) in
    let others : List Objection = record { why = Spent; present = nat_le (2 ^ 61) (start_of team b) } ∷ [] in
    rw (few, p.own, shorter, consistent_few, behind, objected payloads (needed l (or_none b.best)) others)
    (go (option_map (λ (e : Entry). e.id) (missing payloads (needed l (or_none b.best)))) (nat_le (2 ^ 61) (start_of team b)))
  where
    by : Option NoGroup → Result Decision NoGroup
    by None = Ok (first_decision team b me t)
    by (Some why) = Err why

    go : (o : Option UpdateId) (late : Bool) → by (option_or (option_map Missing o) (cond late (Some Spent) None)) ≡ outcome_of o late (first_decision team b me t)
    go None true = refl
    go None false = refl
    go (Some id) late = refl

-- the decision that is made of what was found
pub first_is : (team : Team) (b : Ballot) (me : Member) (t : ℕ) (best : Decision) (members : List Report) (start : ℕ) {d : Decision}
    → best ≡ or_none b.best → members ≡ seated team b → start ≡ start_of team b → d ≡ decision_from best members b.number start me t
    → d ≡ first_decision team b me t
first_is team b me t best members start best_is members_are start_is d_is =
    d_is ∙ ap (λ (x : Decision). decision_from x members b.number start me t) best_is
    ∙ ap (λ (rs : List Report). decision_from (or_none b.best) rs b.number start me t) members_are
    ∙ ap (λ (s : ℕ). decision_from (or_none b.best) (seated team b) b.number s me t) start_is
