-- Deliveries that are done one after the other, by what a process keeps.
use Rattle.std.proofs.Common.{◌≡◌, refl, sym, subst, ◌∙◌, ap, ℕ, suc, ◌+◌, ◌<◌, ◌≤◌, max, true, cond, List, [], ◌∷◌, ◌++◌, append-nil, map, length, filter, Option, Some, None, arith}
use Rattle.std.proofs.lemmas.List.{append_assoc, length-append, length-map}
use Rattle.tw_machine.specs.Types.{Team, Kept, Decision, How, Pass, Outputs}
use Rattle.tw_types.specs.Beliefs.{Log, Belief, Informed, Blank, last_of}
use Rattle.tw_types.specs.Decisions.{or_none}
use Rattle.tw_types.specs.Flag.{is_up}
use Rattle.tw_types.specs.Votes.{Vote}
use Rattle.tw_machine.specs.Run.{Run}
use Rattle.tw_machine.specs.Standing.{last_decision}
use Rattle.tw_machine.specs.Delivering.{all_delivered, deliver}
use Rattle.tw_types.specs.Updates.{may_be_early, next_weak, marked}
use Rattle.tw_types.specs.Logs.{log_at, passed_one, marked_at}
use Rattle.tw_types.specs.Waiting.{marked_early}
use Rattle.tw_types.specs.Deliveries.{passes, run_passed, PassStep, FirstPass, as_early, earlies, earlies_marked, EarlyStep, FirstEarly, weaks, weaks_marked, WeakStep, FirstWeak, waiting_delivered}
use Rattle.tw_types.proofs.Delivered.{at_within, weak_step}
use Rattle.oal.specs.Recent.{Recent}
use Rattle.oal.specs.StandsFor.{StandsFor}
use Rattle.update_store.specs.Stock.{Stock, IsStock}
use Rattle.node_core.specs.declared.state.State.{State}
use Rattle.node_core.specs.StandsFor.{RunStandsFor, vote_seen, belief_seen}
use Rattle.update_store.proofs.Ids.{length-filter-le}

-- one item more behind the first ones
moved : {X : Type 0} (xs ys rest : List X) (x : X) → ys ≡ xs ++ x ∷ [] → xs ++ x ∷ rest ≡ ys ++ rest
moved xs ys rest x is = sym (append_assoc xs (x ∷ []) rest) ∙ ap (λ zs. zs ++ rest) (sym is)

-- ---- what is passed

-- So far these are passed, of all that is to be passed of a log, and what is kept stands for the log that is left.
pub record PassedSoFar (team : Team) (d : Decision) (before : Log) (given : List Pass) (o : Recent) : Type 0 where
  pub log : Log
  pub stands : StandsFor o log
  pub all : passes team d before ≡ given ++ passes team d log
  pub left : run_passed team d before ≡ run_passed team d log

pub none_passed : (team : Team) (d : Decision) (before : Log) (given : List Pass) (o : Recent) → given ≡ [] → StandsFor o before → PassedSoFar team d before given o
none_passed team d before given o none s = record { log = before; stands = s; all = ap (λ ps. ps ++ passes team d before) (sym none); left = refl }

-- one pass more
pub one_passed : (team : Team) (d : Decision) (before : Log) (given after : List Pass) (o new : Recent) (how : How) → PassedSoFar team d before given o
    → ((l : Log) → StandsFor o l → PassStep team d l (Some how)) → ((l : Log) → StandsFor o l → StandsFor new (passed_one l))
    → ((l : Log) (k : Kept) → StandsFor o l → log_at l.passed l ≡ Some k → after ≡ given ++ record { position = l.passed; kept = k; how = how } ∷ [])
    → PassedSoFar team d before after new
one_passed team d before given after o new how p step stands adds =
    let first : FirstPass team d p.log how = step p.log p.stands in
    record {
      log = passed_one p.log;
      stands = stands p.log p.stands;
      all = p.all ∙ ap (λ ps. given ++ ps) first.begins ∙ moved given after _ _ (adds p.log first.update p.stands first.there);
      left = p.left ∙ first.goes_on;
    }

-- a position that passes is one of the list
pub next_within : (team : Team) (d : Decision) (before : Log) (given : List Pass) (o : Recent) (how : How) → PassedSoFar team d before given o
    → ((l : Log) → StandsFor o l → PassStep team d l (Some how)) → o.passed < o.length
next_within team d before given o how p step =
    let first : FirstPass team d p.log how = step p.log p.stands in
    rw (p.stands.length, p.stands.passed) ((at_within p.log.passed p.log first.update first.there).1)

-- where nothing passes any more
pub all_passed : (team : Team) (d : Decision) (before : Log) (given : List Pass) (o : Recent) → PassedSoFar team d before given o
    → ((l : Log) → StandsFor o l → PassStep team d l None) → given ≡ passes team d before
all_passed team d before given o p step = sym (p.all ∙ ap (λ ps. given ++ ps) (step p.log p.stands).0 ∙ append-nil given)

pub run_left : (team : Team) (d : Decision) (before : Log) (given : List Pass) (o : Recent) → PassedSoFar team d before given o
    → ((l : Log) → StandsFor o l → PassStep team d l None) → StandsFor o (run_passed team d before)
run_left team d before given o p step = subst (StandsFor o) (sym (p.left ∙ (step p.log p.stands).1)) p.stands

-- ---- what is delivered early of the list

-- so far these are, and none of the others stands below this position
pub record MarkedSoFar (team : Team) (d : Decision) (before : Log) (given : List Kept) (from : ℕ) (o : Recent) : Type 0 where
  pub log : Log
  pub stands : StandsFor o log
  pub all : earlies team d before.passed before ≡ given ++ earlies team d from log
  pub left : earlies_marked team d before.passed before ≡ earlies_marked team d from log

pub none_marked : (team : Team) (d : Decision) (before : Log) (given : List Kept) (from : ℕ) (o : Recent) → given ≡ [] → from ≡ o.passed → StandsFor o before → MarkedSoFar team d before given from o
none_marked team d before given from o none first s =
    let same : before.passed ≡ from = sym (first ∙ s.passed) in
    record {
      log = before;
      stands = s;
      all = ap (λ i. earlies team d i before) same ∙ ap (λ ks. ks ++ earlies team d from before) (sym none);
      left = ap (λ i. earlies_marked team d i before) same;
    }

-- what is asked for from a position that isn't passed
asked_from : (team : Team) (d : Decision) (from : ℕ) (o : Recent) (log : Log) (next : Option ℕ) → o.passed ≤ from → StandsFor o log → EarlyStep team d (max from log.passed) log next → EarlyStep team d from log next
asked_from team d from o log next unpassed s step =
    let passed : o.passed ≡ log.passed = s.passed in
    let same : max from log.passed ≡ from = omega (arith, unpassed, passed) in
    subst (λ (i : ℕ). EarlyStep team d i log next) same step

-- one more
pub one_marked : (team : Team) (d : Decision) (before : Log) (given after : List Kept) (from position : ℕ) (o new : Recent) → MarkedSoFar team d before given from o → o.passed ≤ from
    → ((l : Log) → StandsFor o l → EarlyStep team d (max from l.passed) l (Some position)) → ((l : Log) → StandsFor o l → StandsFor new (marked_at position l))
    → ((l : Log) (k : Kept) → StandsFor o l → log_at position l ≡ Some k → after ≡ given ++ as_early k ∷ [])
    → MarkedSoFar team d before after (position + 1) new
one_marked team d before given after from position o new p unpassed step stands adds =
    let first : FirstEarly team d from p.log position = asked_from team d from o p.log (Some position) unpassed p.stands (step p.log p.stands) in
    let above : from ≤ position + 1 = omega (arith, first.from) in
    record {
      log = marked_at position p.log;
      stands = stands p.log p.stands;
      all = p.all ∙ ap (λ ks. given ++ ks) (first.begins ∙ ap (λ ks. as_early first.update ∷ ks) (sym (first.behind (position + 1) above (omega arith))))
          ∙ moved given after _ _ (adds p.log first.update p.stands first.there);
      left = p.left ∙ first.goes_on ∙ sym (first.goes_on_behind (position + 1) above (omega arith));
    }

-- it stands on the list, and isn't passed
pub record IsUnpassed (from position : ℕ) (o : Recent) : Type 0 where
  pub above : from ≤ position
  pub within : position < o.length

pub next_unpassed : (team : Team) (d : Decision) (before : Log) (given : List Kept) (from position : ℕ) (o : Recent) → MarkedSoFar team d before given from o → o.passed ≤ from
    → ((l : Log) → StandsFor o l → EarlyStep team d (max from l.passed) l (Some position)) → IsUnpassed from position o
next_unpassed team d before given from position o p unpassed step =
    let first : FirstEarly team d from p.log position = asked_from team d from o p.log (Some position) unpassed p.stands (step p.log p.stands) in
    record { above = first.from; within = rw p.stands.length ((at_within position p.log first.update first.there).1) }

-- where there is none any more
pub all_marked : (team : Team) (d : Decision) (before : Log) (given : List Kept) (from : ℕ) (o : Recent) → MarkedSoFar team d before given from o → o.passed ≤ from
    → ((l : Log) → StandsFor o l → EarlyStep team d (max from l.passed) l None) → given ≡ earlies team d before.passed before
all_marked team d before given from o p unpassed step =
    sym (p.all ∙ ap (λ ks. given ++ ks) (asked_from team d from o p.log None unpassed p.stands (step p.log p.stands)).0 ∙ append-nil given)

pub marks_left : (team : Team) (d : Decision) (before : Log) (given : List Kept) (from : ℕ) (o : Recent) → MarkedSoFar team d before given from o → o.passed ≤ from
    → ((l : Log) → StandsFor o l → EarlyStep team d (max from l.passed) l None) → StandsFor o (earlies_marked team d before.passed before)
marks_left team d before given from o p unpassed step =
    subst (StandsFor o) (sym (p.left ∙ (asked_from team d from o p.log None unpassed p.stands (step p.log p.stands)).1)) p.stands

-- ---- what is delivered early of what waits

-- so far these are, behind those that were given before
pub record WeaksSoFar (before : Stock) (first given : List Kept) (now : Stock) : Type 0 where
  pub all : first ++ weaks before.waiting.pending ≡ given ++ weaks now.waiting.pending
  pub left : weaks_marked before.waiting.pending ≡ weaks_marked now.waiting.pending
  pub rest : now ≡ record before { waiting = record (before.waiting) { pending = now.waiting.pending } }
  pub size : length now.waiting.pending ≡ length before.waiting.pending

pub no_weaks : (before : Stock) (first : List Kept) → WeaksSoFar before first first before
no_weaks before first = record { all = refl; left = refl; rest = refl; size = refl }

next_first : (now : Stock) (k : Kept) → IsStock now → next_weak now.waiting.pending ≡ Some k → FirstWeak now.waiting.pending k
next_first now k stock next = subst (WeakStep now.waiting.pending) next (weak_step now.waiting.pending stock.order)

-- one more
pub one_weak : (before now new : Stock) (first given after : List Kept) (k : Kept) → WeaksSoFar before first given now → IsStock now → next_weak now.waiting.pending ≡ Some k
    → new ≡ record now { waiting = marked_early k.entry.id now.waiting } → after ≡ given ++ as_early k ∷ [] → WeaksSoFar before first after new
one_weak before now new first given after k p stock next is adds =
    let step : FirstWeak now.waiting.pending k = next_first now k stock next in
    rw is (record {
      all = p.all ∙ ap (λ ks. given ++ ks) step.begins ∙ moved given after _ _ adds;
      left = p.left ∙ step.goes_on;
      rest = ap (λ (s : Stock). record s { waiting = record (s.waiting) { pending = map (marked k.entry.id) now.waiting.pending } }) p.rest;
      size = length-map now.waiting.pending (marked k.entry.id) ∙ p.size;
    })

-- then one less is left
pub fewer_weaks : (now new : Stock) (k : Kept) → IsStock now → next_weak now.waiting.pending ≡ Some k → new ≡ record now { waiting = marked_early k.entry.id now.waiting }
    → length (weaks new.waiting.pending) < length (weaks now.waiting.pending)
fewer_weaks now new k stock next is =
    let step : FirstWeak now.waiting.pending k = next_first now k stock next in
    let count : length (weaks now.waiting.pending) ≡ suc (length (weaks (map (marked k.entry.id) now.waiting.pending))) = ap length step.begins in
    rw is (omega (arith, count))

few_weaks : (pending : List Kept) → length (weaks pending) ≤ length pending
few_weaks pending = rw (length-map (filter may_be_early pending) as_early) (length-filter-le may_be_early pending)

-- there is room for them
pub weaks_room : (before now : Stock) (first given : List Kept) (k : Kept) → WeaksSoFar before first given now → IsStock now → next_weak now.waiting.pending ≡ Some k → length first ≤ 64 → length given < 192
weaks_room before now first given k p stock next room =
    let step : FirstWeak now.waiting.pending k = next_first now k stock next in
    let one : length (weaks now.waiting.pending) ≡ suc (length (weaks (map (marked k.entry.id) now.waiting.pending))) = ap length step.begins in
    let all : length first + length (weaks before.waiting.pending) ≡ length given + length (weaks now.waiting.pending) =
    sym (length-append first (weaks before.waiting.pending)) ∙ ap length p.all ∙ length-append given (weaks now.waiting.pending) in
    let few : length (weaks before.waiting.pending) ≤ length before.waiting.pending = few_weaks before.waiting.pending in
    omega (arith, one, all, few, p.size, stock.few, room)

-- where there is none any more
none_left : (now : Stock) → IsStock now → next_weak now.waiting.pending ≡ None → WeakStep now.waiting.pending None
none_left now stock next = subst (WeakStep now.waiting.pending) next (weak_step now.waiting.pending stock.order)

pub all_weaks : (before now : Stock) (first given : List Kept) → WeaksSoFar before first given now → IsStock now → next_weak now.waiting.pending ≡ None → given ≡ first ++ weaks before.waiting.pending
all_weaks before now first given p stock next = sym (p.all ∙ ap (λ ks. given ++ ks) (none_left now stock next).0 ∙ append-nil given)

pub weaks_left : (before now : Stock) (first given : List Kept) → WeaksSoFar before first given now → IsStock now → next_weak now.waiting.pending ≡ None
    → now ≡ record before { waiting = waiting_delivered before.waiting }
weaks_left before now first given p stock next =
    p.rest ∙ ap (λ (ks : List Kept). record before { waiting = record (before.waiting) { pending = ks } }) (sym (p.left ∙ (none_left now stock next).1))

-- ---- a process that is up

-- a process that is up has a last decision
has_last : (team : Team) (vote : Vote) (belief : Belief) (t : ℕ) → is_up team vote belief (Some t) ≡ true → (d : Decision) × (last_of belief ≡ Some d)
unfolding is_up
has_last team vote (Informed (Some d)) t up = (d, refl)
has_last team vote (Informed None) t up = absurd (cc)
has_last team vote (Blank followed) t up = absurd (cc)

-- by which it delivers
pub record Delivers (team : Team) (t : ℕ) (r : Run) : Type 0 where
  pub last : Decision
  pub taken : last_decision r.process ≡ Some last
  pub is : deliver team t r ≡ all_delivered team last r

pub delivers_up : (team : Team) (t : ℕ) (r : Run) → is_up team r.process.vote r.process.belief (Some t) ≡ true → Delivers team t r
delivers_up team t r up =
    let last : (d : Decision) × (last_decision r.process ≡ Some d) = has_last team r.process.vote r.process.belief t up in
    record {
      last = last.0;
      taken = last.1;
      is = ap (λ b. cond b (all_delivered team (or_none (last_decision r.process)) r) r) up ∙ ap (λ (o : Option Decision). all_delivered team (or_none o) r) last.1;
    }

-- whether it is, by the state that stands for it
pub up_alike : (team : Team) (t : ℕ) (c : State) (out : Outputs) (r : Run) → RunStandsFor team c out r
    → is_up team r.process.vote r.process.belief (Some t) ≡ is_up c.team (vote_seen c.vote) (belief_seen c.belief) (Some t)
up_alike team t c out r s = rw (s.same_team, s.process.vote, s.process.belief) refl
