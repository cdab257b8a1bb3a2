-- What a process keeps, part by part.
use Rattle.std.proofs.Common.{◌≡◌, refl, sym, ap, subst, ◌∙◌, ℕ, ◌<◌, ◌≤◌, Bool, true, false, cond, nat_eq, List, [], ◌∷◌, map, Option, Some, None, IfSome, IfNone, is_some, Result, Ok, Err, IfOk, IfErr, arith}
use Rattle.std.proofs.lemmas.Bool.Decides.{nat_tests}
use Rattle.std.specs.Prelude.{MatchOption, ◌&&◌, not}
use Rattle.std.specs.List.{AllByRecursion}
use Rattle.std.specs.Option.{option_and_then}
use Rattle.tw_num.specs.declared.moment.Moment.{Moment}
use Rattle.tw_machine.specs.Types.{Team, Decision, Kind, Member, Report, Entry, UpdateId, Kept, Why, Head, Body, Ballot, Reason, Outputs, Want}
use Rattle.tw_types.specs.declared.datagram.Why.TheVariants as whys
use Rattle.tw_types.specs.declared.datagram.Body.TheVariants as bodies
use Rattle.tw_types.specs.Ranges.{IdFits, EntryFits, DecisionFits, IsTold}
use Rattle.tw_types.specs.Votes.{Promise}
use Rattle.tw_types.specs.Beliefs.{Belief, Informed, Blank, Log, log_length, last_of, view_decision}
use Rattle.tw_types.specs.Decisions.{or_none}
use Rattle.tw_types.specs.Reports.{kind_of}
use Rattle.tw_types.specs.Refusals.{first_refusal}
use Rattle.tw_types.specs.Turns.{is_turn}
use Rattle.tw_types.specs.Ballots.{begun, has_report_of, wants, joined, is_complete}
use Rattle.tw_types.specs.Slots.{is_stuck}
use Rattle.tw_types.specs.Elections.{begins_slot, why_begun, own_promise}
use Rattle.tw_types.specs.Groups.{NoGroup, TooFew, NotConsistent, Behind, Missing, Spent, Objection, payload_objection, objections, first_objection, first_decision, group_made}
use Rattle.tw_types.specs.Logs.{needed}
use Rattle.tw_types.specs.Waiting.{payloads_of}
use Rattle.tw_types.specs.Process.{Process}
use Rattle.tw_machine.specs.Run.{Run, Ruled, done, dropped}
use Rattle.tw_machine.specs.Sending.{sent_to, sent_to_others}
use Rattle.tw_machine.specs.Control.{rate_of, timely_reading, if_timely}
use Rattle.tw_machine.specs.Taking.{decision_tests, take_decision}
use Rattle.tw_machine.specs.Updating.{take_update, answer_ask}
use Rattle.tw_machine.specs.Entering.{enter_decision}
use Rattle.tw_machine.specs.Standing.{member_of, last_decision, report_by, promise_by}
use Rattle.tw_machine.specs.Deciding.{has_turn, turn_taken, take_turn}
use Rattle.tw_machine.specs.Electing.{promised, answer_tests, election_answered, answer_election, holds_election, begin_election}
use Rattle.tw_machine.specs.Grouping.{take_promise, begun_or_held, make_group}
use Rattle.tw_machine.specs.Rules.{kind_rule}
use Rattle.node_core.specs.declared.state.State.{State}
use Rattle.node_core.specs.StandsFor.{StandsFor, RunStandsFor, identity_seen, belief_seen}
use Rattle.tw_machine.proofs.Tables.{all_push, all_mapped, same_number}
use Rattle.tw_types.proofs.Lists.{all_joined}
use Rattle.node_core.specs.InRange.{ReportsWithin}
use Rattle.node_core.specs.Outcomes.{if_made, made_if_complete, run_made, HoldsElection}
use Rattle.node_core.proofs.Listing.{all_weaker, any_front}
use Rattle.node_core.proofs.Waits.{entries_fit}

-- the decision that an informed process took last is the one that it took or follows
last_is_view : (b : Belief) (d : Decision) → last_of b ≡ Some d → view_decision b ≡ Some d
last_is_view (Informed last) d e = e
last_is_view (Blank followed) d e = absurd (cc)

pub last_has : (P : Decision → Type 0) (b : Belief) (d : Decision) → IfSome (view_decision b) P → last_of b ≡ Some d → P d
last_has P b d all e = subst (λ o. IfSome o P) (last_is_view b d e) all

-- where it is a process's turn, it takes it
pub turn_is : (team : Team) (now : Moment) (t : ℕ) (r : Run) (last : Decision) → last_decision r.process ≡ Some last → has_turn team t r.process ≡ true → take_turn team now t r ≡ turn_taken team now last t r
turn_is team now t r last is has =
    ap (λ (o : Option Decision). elim o as (λ o. Run) [ None ↦ r | Some last ↦ cond (has_turn team t r.process) (turn_taken team now last t r) r ]) is ∙ rw has refl

-- what the process makes of its ballot
abbrev by_made : Team → Moment → ℕ → Run → Ballot → Result Decision NoGroup → Run
by_made team now t r ballot made = begun_or_held team now ballot t made r

abbrev by_ballot : Team → Moment → ℕ → Run → Option Ballot → Run
by_ballot team now t r o = elim o as (λ o. Run) [
  | None ↦ r
  | Some ballot ↦ cond (is_complete team t ballot) (by_made team now t r ballot (group_made team ballot r.process.log (payloads_of r.process.waiting) (member_of r.process.identity) t)) r
]

made_is : (team : Team) (now : Moment) (t : ℕ) (r : Run) (ballot : Ballot) (made : Result Decision NoGroup) → by_made team now t r ballot made ≡ run_made team now t r ballot (if_made made)
made_is team now t r ballot (Ok d) = refl
made_is team now t r ballot (Err (Missing id)) = refl
made_is team now t r ballot (Err TooFew) = refl
made_is team now t r ballot (Err NotConsistent) = refl
made_is team now t r ballot (Err Behind) = refl
made_is team now t r ballot (Err Spent) = refl

pub made_when : (team : Team) (t : ℕ) (p : Process) (ballot : Ballot) (made : Result Decision NoGroup) → is_complete team t ballot ≡ true → group_made team ballot p.log (payloads_of p.waiting) (member_of p.identity) t ≡ made → made_if_complete team t p ballot ≡ if_made made
made_when team t p ballot made complete is = rw complete (ap if_made is)

pub made_not : (team : Team) (t : ℕ) (p : Process) (ballot : Ballot) → is_complete team t ballot ≡ false → made_if_complete team t p ballot ≡ None
made_not team t p ballot complete = rw complete refl

pub ballot_makes : (team : Team) (now : Moment) (t : ℕ) (r : Run) (ballot : Ballot) → r.process.ballot ≡ Some ballot → make_group team now t r ≡ run_made team now t r ballot (made_if_complete team t r.process ballot)
ballot_makes team now t r ballot held = ap (by_ballot team now t r) held ∙ go (is_complete team t ballot)
  where
    made : Result Decision NoGroup
    made = group_made team ballot r.process.log (payloads_of r.process.waiting) (member_of r.process.identity) t

    go : (b : Bool) → cond b (by_made team now t r ballot made) r ≡ run_made team now t r ballot (cond b (if_made made) None)
    go true = made_is team now t r ballot made
    go false = refl

-- without a group or a missing payload nothing comes of a ballot
pub no_group_is : (team : Team) (now : Moment) (t : ℕ) (r : Run) → option_and_then (made_if_complete team t r.process) r.process.ballot ≡ None → make_group team now t r ≡ r
no_group_is team now t r e = go r.process.ballot refl e
  where
    go : (o : Option Ballot) → r.process.ballot ≡ o → option_and_then (made_if_complete team t r.process) o ≡ None → make_group team now t r ≡ r
    go None held e = ap (by_ballot team now t r) held
    go (Some ballot) held e = ballot_makes team now t r ballot held ∙ ap (run_made team now t r ballot) e

-- else there is a ballot of which that comes
pub record Makes (team : Team) (now : Moment) (t : ℕ) (r : Run) (made : Result Decision UpdateId) : Type 0 where
  pub ballot : Ballot
  pub held : r.process.ballot ≡ Some ballot
  pub is : make_group team now t r ≡ run_made team now t r ballot (Some made)

pub makes : (team : Team) (now : Moment) (t : ℕ) (r : Run) (made : Result Decision UpdateId) → option_and_then (made_if_complete team t r.process) r.process.ballot ≡ Some made → Makes team now t r made
makes team now t r made e = go r.process.ballot refl e
  where
    go : (o : Option Ballot) → r.process.ballot ≡ o → option_and_then (made_if_complete team t r.process) o ≡ Some made → Makes team now t r made
    go None held e = absurd (cc)
    go (Some ballot) held e = record { ballot = ballot; held = held; is = ballot_makes team now t r ballot held ∙ ap (run_made team now t r ballot) e }

-- the number of a group that is made is the ballot's
pub number_of : (team : Team) (ballot : Ballot) (log : Log) (payloads : List Kept) (me : Member) (t : ℕ) → IfOk (group_made team ballot log payloads me t) (λ d. d.group ≡ ballot.number)
number_of team ballot log payloads me t = go (first_objection (objections team ballot log payloads me))
  where
    go : (o : Option NoGroup) → IfOk (elim o as (λ o. Result Decision NoGroup) [ None ↦ Ok (first_decision team ballot me t) | Some why ↦ Err why ]) (λ d. d.group ≡ ballot.number)
    go None = refl
    go (Some why) = tt

-- and it is made at the reading
pub made_at : (team : Team) (ballot : Ballot) (log : Log) (payloads : List Kept) (me : Member) (t : ℕ) → IfOk (group_made team ballot log payloads me t) (λ d. d.made ≡ t)
made_at team ballot log payloads me t = go (first_objection (objections team ballot log payloads me))
  where
    go : (o : Option NoGroup) → IfOk (elim o as (λ o. Result Decision NoGroup) [ None ↦ Ok (first_decision team ballot me t) | Some why ↦ Err why ]) (λ d. d.made ≡ t)
    go None = refl
    go (Some why) = tt

-- and its number is no greater than a number that the ballot's isn't above
pub number_below : (o : Option (Result Decision UpdateId)) (a b : ℕ) → IfSome o (λ made. IfOk made (λ d. d.group ≡ a)) → a ≤ b → IfSome o (λ made. IfOk made (λ d. d.group ≤ b))
number_below None a b is less = tt
number_below (Some (Ok d)) a b is less = rw is less
number_below (Some (Err id)) a b is less = tt

-- the id of a payload that is missing for a group is in range
abbrev pub FitsWhy : ℕ → NoGroup → Type 0
FitsWhy n (Missing id) = IdFits n id
FitsWhy n TooFew = Unit {0}
FitsWhy n NotConsistent = Unit {0}
FitsWhy n Behind = Unit {0}
FitsWhy n Spent = Unit {0}

objected : (n : ℕ) (os : List Objection) → AllByRecursion (λ (o : Objection). FitsWhy n o.why) os → IfSome (first_objection os) (FitsWhy n)
objected n [] all = tt
objected n (o ∷ os) all = let rest = objected n os all.1 in elim o.present as (λ b. IfSome (cond b (Some o.why) (first_objection os)) (FitsWhy n)) [ true ↦ all.0 | false ↦ rest ]

best_window : (n : ℕ) (best : Option Decision) → IfSome best (DecisionFits n) → AllByRecursion (EntryFits n) (or_none best).window.items
best_window n None fits = tt
best_window n (Some d) fits = fits.window

objections_fit : (n : ℕ) (team : Team) (b : Ballot) (log : Log) (payloads : List Kept) (me : Member) → IfSome b.best (DecisionFits n) → AllByRecursion (λ (o : Objection). FitsWhy n o.why) (objections team b log payloads me)
objections_fit n team b log payloads me fits = (
  tt,
  (
    tt,
    (
      tt,
      all_joined (λ (o : Objection). FitsWhy n o.why) (map (payload_objection payloads) (needed log (or_none b.best))) _
          (all_mapped (λ (o : Objection). FitsWhy n o.why) (payload_objection payloads) (needed log (or_none b.best)) (all_weaker (EntryFits n) (λ (e : Entry). IdFits n e.id) (λ e h. h.id) (needed log (or_none b.best)) (entries_fit n (log_length log) (or_none b.best) (best_window n b.best fits)))) (tt, tt),
    ),
  ),
)

pub missing_in_range : (n : ℕ) (team : Team) (b : Ballot) (log : Log) (payloads : List Kept) (me : Member) (t : ℕ) → IfSome b.best (DecisionFits n) → IfErr (group_made team b log payloads me t) (FitsWhy n)
missing_in_range n team b log payloads me t fits = go (first_objection (objections team b log payloads me)) (objected n (objections team b log payloads me) (objections_fit n team b log payloads me fits))
  where
    go : (o : Option NoGroup) → IfSome o (FitsWhy n) → IfErr (elim o as (λ o. Result Decision NoGroup) [ None ↦ Ok (first_decision team b me t) | Some why ↦ Err why ]) (FitsWhy n)
    go None h = tt
    go (Some why) h = h

-- an election that is answered, and one that isn't
abbrev answered_by : Team → Moment → (from number : ℕ) → ℕ → Run → Option Reason → Ruled
answered_by team now from number t r o = elim o as (λ o. Ruled) [ None ↦ done (election_answered now from (promise_by r.process number t) r) | Some reason ↦ dropped reason r ]

pub answer_is : (team : Team) (now : Moment) (from number : ℕ) (why : Why) (t : ℕ) (r : Run) → first_refusal (answer_tests team now from number why t r.process) ≡ None
    → answer_election team now from number why t r ≡ done (election_answered now from (promise_by r.process number t) r)
answer_is team now from number why t r none = ap (answered_by team now from number t r) none

pub no_answer_is : (team : Team) (now : Moment) (from number : ℕ) (why : Why) (t : ℕ) (r : Run) (reason : Reason) → first_refusal (answer_tests team now from number why t r.process) ≡ Some reason
    → answer_election team now from number why t r ≡ dropped reason r
no_answer_is team now from number why t r reason some = ap (answered_by team now from number t r) some

-- an election is held exactly where the process's state makes it hold one
pub held_by : (team : Team) (now : Moment) (t : ℕ) (r : Run) (o : Option (Ballot × Why))
    → o ≡ cond (holds_election team now t r.process) (Some (begun (own_promise team (report_by r.process t) (last_decision r.process) t), why_begun team (last_decision r.process) t)) None
    → MatchOption o (begin_election team now t r ≡ r) (HoldsElection team now t r)
held_by team now t r o e = go (holds_election team now t r.process) refl e
  where
    own : Promise
    own = own_promise team (report_by r.process t) (last_decision r.process) t

    go : (b : Bool) → holds_election team now t r.process ≡ b → o ≡ cond b (Some (begun own, why_begun team (last_decision r.process) t)) None
        → MatchOption o (begin_election team now t r ≡ r) (HoldsElection team now t r)
    go true holds e = rw e (record { own = own; is = rw holds refl; ballot = refl })
    go false holds e = rw e (rw holds refl)

-- the choice between a ballot and none, by what it is made of
abbrev pub begun_by : Team → ℕ → Report → Option Decision → ℕ → Bool → Option (Ballot × Why)
begun_by team t me last promised quarantined =
    cond (begins_slot team me last promised quarantined false t) (Some (begun (own_promise team me last t), why_begun team last t)) None

pub begun_alike : (team team' : Team) (t : ℕ) (me me' : Report) (last last' : Option Decision) (promised promised' : ℕ) (quarantined quarantined' : Bool)
    → team ≡ team' → me ≡ me' → last ≡ last' → promised ≡ promised' → quarantined ≡ quarantined' → begun_by team t me last promised quarantined ≡ begun_by team' t me' last' promised' quarantined'
begun_alike team team' t me me' last last' promised promised' quarantined quarantined' a b c d e =
    ap (λ (x : Team). begun_by x t me last promised quarantined) a
    ∙ ap (λ (x : Report). begun_by team' t x last promised quarantined) b
    ∙ ap (λ (x : Option Decision). begun_by team' t me' x promised quarantined) c
    ∙ ap (λ (x : ℕ). begun_by team' t me' last' x quarantined) d
    ∙ ap (λ (x : Bool). begun_by team' t me' last' promised' x) e

-- an election that is held without a wish is of a stuck process
pub only_stuck : (team : Team) (t : ℕ) (me : Report) (last : Option Decision) (promised : ℕ) (quarantined : Bool) (o : Option (Ballot × Why)) → o ≡ begun_by team t me last promised quarantined → IfSome o (λ b. b.1 ≡ whys.Stuck)
only_stuck team t me last promised quarantined o e = go (begins_slot team me last promised quarantined false t) refl e
  where
    go : (b : Bool) → begins_slot team me last promised quarantined false t ≡ b → o ≡ cond b (Some (begun (own_promise team me last t), why_begun team last t)) None → IfSome o (λ b. b.1 ≡ whys.Stuck)
    go true begins e = let stuck : is_stuck team last t ≡ true = grind (arith, nat_tests) in rw e (rw stuck refl)
    go false begins e = rw e tt

-- its number is above the one that was promised
pub begun_above : (team : Team) (t : ℕ) (me : Report) (last : Option Decision) (promised : ℕ) (quarantined : Bool) (o : Option (Ballot × Why)) → o ≡ begun_by team t me last promised quarantined
    → IfSome {T = Ballot × Why} o (λ b. promised < b.0.number)
begun_above team t me last promised quarantined o e = rw e (go (begins_slot team me last promised quarantined false t) refl)
  where
    go : (b : Bool) → begins_slot team me last promised quarantined false t ≡ b → IfSome {T = Ballot × Why} (cond b (Some (begun (own_promise team me last t), why_begun team last t)) None) (λ b. promised < b.0.number)
    go true begins = grind (arith, nat_tests)
    go false begins = tt

-- a ballot that is begun has its owner's report alone
pub begun_own : (team : Team) (t : ℕ) (me : Report) (last : Option Decision) (number : ℕ) (quarantined : Bool) (who : ℕ) (o : Option (Ballot × Why)) → o ≡ begun_by team t me last number quarantined → me.member.who ≡ who
    → IfSome {T = Ballot × Why} o (λ b. has_report_of who b.0 ≡ true)
begun_own team t me last number quarantined who o e same = rw e (go (begins_slot team me last number quarantined false t))
  where
    go : (b : Bool) → IfSome {T = Ballot × Why} (cond b (Some (begun (own_promise team me last t), why_begun team last t)) None) (λ b. has_report_of who b.0 ≡ true)
    go true = rw same (rw (same_number who) refl)
    go false = tt

pub begun_within : (team : Team) (t : ℕ) (me : Report) (last : Option Decision) (number : ℕ) (quarantined : Bool) (who length : ℕ) (o : Option (Ballot × Why)) → o ≡ begun_by team t me last number quarantined → me.length ≤ length
    → IfSome {T = Ballot × Why} o (λ b. ReportsWithin who length b.0)
begun_within team t me last number quarantined who length o e less = rw e (go (begins_slot team me last number quarantined false t))
  where
    go : (b : Bool) → IfSome {T = Ballot × Why} (cond b (Some (begun (own_promise team me last t), why_begun team last t)) None) (λ b. ReportsWithin who length b.0)
    go true = ((λ same. less), tt)
    go false = tt

-- a promise that joins a ballot is of another process than its owner
pub joined_own : (who : ℕ) (p : Promise) (b : Ballot) → has_report_of who b ≡ true → has_report_of who (joined p b) ≡ true
joined_own who p b own = any_front (λ (r : Report). nat_eq r.member.who who) b.reports.items (p.report ∷ []) own

free : (x y : Bool) → (x && not y) ≡ true → y ≡ false
free true false e = refl
free true true e = absurd (cc)
free false y e = absurd (cc)

pub joined_within : (who length : ℕ) (p : Promise) (b : Ballot) → wants p (Some b) ≡ true → has_report_of who b ≡ true → ReportsWithin who length b → ReportsWithin who length (joined p b)
joined_within who length p b wanted own within = all_push (λ (r : Report). r.member.who ≡ who → r.length ≤ length) b.reports.items p.report within other
  where
    other : p.report.member.who ≡ who → p.report.length ≤ length
    other same = let none : has_report_of who b ≡ false = subst (λ (x : ℕ). has_report_of x b ≡ false) same (free (nat_eq b.number p.number) (has_report_of p.report.member.who b) wanted) in absurd (cc (own, none))

-- the run in which a process begins a ballot with its own promise
abbrev pub with_ballot : Promise → Run → Run
with_ballot own r = record (promised own r) { process = record ((promised own r).process) { ballot = Some (begun own) } }

-- what is sent, by what it says
pub sent_alike : (team : Team) (c : State) (out : Outputs) (now : Moment) (to : ℕ) (r : Run) (a b : Body) → a ≡ b → RunStandsFor team c out (sent_to now a to r) → RunStandsFor team c out (sent_to now b to r)
sent_alike team c out now to r a b e s = subst (λ (x : Body). RunStandsFor team c out (sent_to now x to r)) e s

pub others_alike : (team : Team) (c : State) (out : Outputs) (now : Moment) (r : Run) (a b : Body) → a ≡ b → RunStandsFor team c out (sent_to_others team.n now a r) → RunStandsFor team c out (sent_to_others team.n now b r)
others_alike team c out now r a b e s = subst (λ (x : Body). RunStandsFor team c out (sent_to_others team.n now x r)) e s

-- a rule that wants a timely packet, with the reading at which it is used
pub timely_is : (team : Team) (now : Moment) (head : Head) (rule : ℕ → Run → Ruled) (r : Run) (t : ℕ) → timely_reading (rate_of team now head) now.reading ≡ Ok t → if_timely team now head rule r ≡ rule t r
timely_is team now head rule r t e = ap (λ (o : Result ℕ Reason). elim o as (λ o. Ruled) [ Err reason ↦ dropped reason r | Ok t ↦ rule t r ]) e

pub untimely_is : (team : Team) (now : Moment) (head : Head) (rule : ℕ → Run → Ruled) (r : Run) (reason : Reason) → timely_reading (rate_of team now head) now.reading ≡ Err reason → if_timely team now head rule r ≡ dropped reason r
untimely_is team now head rule r reason e = ap (λ (o : Result ℕ Reason). elim o as (λ o. Ruled) [ Err reason ↦ dropped reason r | Ok t ↦ rule t r ]) e

-- whether a packet comes in time, by the team of the state that stands for the process
pub rated : (c team : Team) (now : Moment) (head : Head) (result found : Result ℕ Reason) → c ≡ team → result ≡ timely_reading (rate_of c now head) now.reading → result ≡ found → timely_reading (rate_of team now head) now.reading ≡ found
rated c team now head result found same exact is = ap (λ (x : Team). timely_reading (rate_of x now head) now.reading) (sym same) ∙ sym exact ∙ is

-- the rules of a decision, of an election and of a promise that come in time, and of those that don't
pub decision_rule : (team : Team) (now : Moment) (head : Head) (d : Decision) (r : Run) (t : ℕ) → timely_reading (rate_of team now head) now.reading ≡ Ok t → kind_rule team now head (bodies.Decision d) r ≡ take_decision now d r
unfolding kind_rule
decision_rule team now head d r t e = timely_is team now head (λ t. take_decision now d) r t e

pub promise_rule : (team : Team) (now : Moment) (head : Head) (p : Promise) (r : Run) (t : ℕ) → timely_reading (rate_of team now head) now.reading ≡ Ok t → kind_rule team now head (bodies.Promise p.number p.report p.decision) r ≡ take_promise p r
unfolding kind_rule
promise_rule team now head p r t e = timely_is team now head (λ t. take_promise p) r t e

pub election_rule : (team : Team) (now : Moment) (head : Head) (number : ℕ) (why : Why) (r : Run) (t : ℕ) → timely_reading (rate_of team now head) now.reading ≡ Ok t → kind_rule team now head (bodies.Election number why) r ≡ answer_election team now head.from number why t r
unfolding kind_rule
election_rule team now head number why r t e = timely_is team now head (answer_election team now head.from number why) r t e

pub late_decision : (team : Team) (now : Moment) (head : Head) (d : Decision) (r : Run) (reason : Reason) → timely_reading (rate_of team now head) now.reading ≡ Err reason → kind_rule team now head (bodies.Decision d) r ≡ dropped reason r
unfolding kind_rule
late_decision team now head d r reason e = untimely_is team now head (λ t. take_decision now d) r reason e

pub late_election : (team : Team) (now : Moment) (head : Head) (number : ℕ) (why : Why) (r : Run) (reason : Reason) → timely_reading (rate_of team now head) now.reading ≡ Err reason → kind_rule team now head (bodies.Election number why) r ≡ dropped reason r
unfolding kind_rule
late_election team now head number why r reason e = untimely_is team now head (answer_election team now head.from number why) r reason e

pub late_promise : (team : Team) (now : Moment) (head : Head) (p : Promise) (r : Run) (reason : Reason) → timely_reading (rate_of team now head) now.reading ≡ Err reason → kind_rule team now head (bodies.Promise p.number p.report p.decision) r ≡ dropped reason r
unfolding kind_rule
late_promise team now head p r reason e = untimely_is team now head (λ t. take_promise p) r reason e

-- those of an update and of a question
pub update_rule : (team : Team) (now : Moment) (head : Head) (k : Kept) (r : Run) → kind_rule team now head (bodies.Update k) r ≡ take_update now k r
unfolding kind_rule
update_rule team now head k r = refl

pub ask_rule : (team : Team) (now : Moment) (head : Head) (want : Want) (r : Run) → kind_rule team now head (bodies.Ask want) r ≡ answer_ask now head.from want r
unfolding kind_rule
ask_rule team now head want r = refl

-- a decision that nothing but its list can be against
pub wanted_is : (now : Moment) (d : Decision) (r : Run) → first_refusal (decision_tests r.process d) ≡ None → take_decision now d r ≡ enter_decision now d r
wanted_is now d r none = ap (λ (o : Option Reason). elim o as (λ o. Ruled) [ None ↦ enter_decision now d r | Some reason ↦ dropped reason r ]) none

pub unwanted_is : (now : Moment) (d : Decision) (r : Run) (reason : Reason) → first_refusal (decision_tests r.process d) ≡ Some reason → take_decision now d r ≡ dropped reason r
unwanted_is now d r reason some = ap (λ (o : Option Reason). elim o as (λ o. Ruled) [ None ↦ enter_decision now d r | Some reason ↦ dropped reason r ]) some

pub none_is : {X : Type 0} (o : Option X) → is_some o ≡ false → o ≡ None
none_is None e = refl
none_is (Some x) e = absurd (cc)

-- a turn, by the state that stands for the process
pub turn_alike : (team : Team) (t : ℕ) (c : State) (p : Process) → c.team ≡ team → StandsFor c p
    → is_turn c.team (member_of (identity_seen c.identity)) (last_of (belief_seen c.belief)) c.vote.promised t ≡ has_turn team t p
turn_alike team t c p same s = rw (← same, s.identity, s.vote, s.belief) refl

-- a number that nothing exceeds, and a greater one
pub later : {X : Type 0} (o : Option X) (f : X → ℕ) (a b : ℕ) → IfSome o (λ x. f x ≤ a) → a ≤ b → IfSome o (λ x. f x ≤ b)
later None f a b all less = tt
later (Some x) f a b all less = omega (arith, all, less)

-- where an option is none
pub none_then : {X : Type 0} (o : Option X) (P : Type 0) → is_some o ≡ false → IfNone o P → P
none_then None P e p = p
none_then (Some x) P e p = absurd (cc)

pub if_none : {X : Type 0} (o : Option X) (P : Type 0) → o ≡ None → IfNone o P → P
if_none None P e p = p
if_none (Some x) P e p = absurd (cc)

-- what a process tells of its last decision goes with its report
pub told : (n : ℕ) (b : Belief) (r : Report) (k : Kind) → IfSome (view_decision b) (DecisionFits n) → r.kind ≡ k → k ≡ kind_of b
    → r.group ≡ (or_none (view_decision b)).group → r.turn ≡ (or_none (view_decision b)).turn → IsTold n r (last_of b)
told n (Informed None) r k fits kind is group turn = λ e. group
told n (Informed (Some d)) r k fits kind is group turn = (kind ∙ is, rw group fits.group.above, sym group, sym turn, fits)
told n (Blank followed) r k fits kind is group turn = λ e. absurd (cc)

-- and the group that it reports is not above the one that it promised
pub reported_below : (b : Belief) (r : Report) (promised : ℕ) → IfSome (view_decision b) (λ d. d.group ≤ promised) → r.group ≡ (or_none (view_decision b)).group → r.group ≤ promised
reported_below (Informed None) r promised kept group = rw group (omega arith)
reported_below (Informed (Some d)) r promised kept group = rw group kept
reported_below (Blank None) r promised kept group = rw group (omega arith)
reported_below (Blank (Some d)) r promised kept group = rw group kept
