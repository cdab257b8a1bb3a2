-- Updates that come, are asked for and are sent, by the state that stands for a process.
use Rattle.std.proofs.Common.{◌⊎◌, inl, inr, ◌≡◌, refl, sym, ap, subst, ◌∙◌, ℕ, ◌+◌, ◌-◌, ◌<◌, ◌≤◌, ◌^◌, max, Bool, true, false, cond, List, [], ◌∷◌, ◌++◌, length, drop, find, Option, Some, None, IfSome, is_some, Result, Ok, Err, unwrap_or, arith}
use Rattle.std.specs.Prelude.{not, nat_lt, nat_le, ◌||◌}
use Rattle.std.specs.List.{AllByRecursion}
use Rattle.std.proofs.lemmas.Bool.Decides.{nat_tests}
use Rattle.tw_num.specs.declared.moment.Moment.{Moment}
use Rattle.tw_machine.specs.Types.{Team, UpdateId, Order, Atom, Kept, Seat, Decision, Outputs, ProposeFault}
use Rattle.tw_types.specs.declared.datagram.Body.TheVariants as bodies
use Rattle.tw_types.specs.declared.answer.ProposeFault.TheVariants.{TooLong, NotUpToDate, Full, Spent}
use Rattle.tw_types.specs.declared.answer.Reason.TheVariants.{NotHeld}
use Rattle.tw_types.specs.Beliefs.{Log, Belief}
use Rattle.tw_types.specs.Votes.{Vote}
use Rattle.tw_types.specs.Flag.{is_up}
use Rattle.tw_types.specs.Ranges.{UpdateFits}
use Rattle.tw_types.specs.Updates.{find_update, is_named}
use Rattle.tw_types.specs.Waiting.{Held, payloads_of, first_hole, Putting, Stored, Known, Stranger, OutOfRange}
use Rattle.tw_types.specs.Logs.{log_room, kept_entries}
use Rattle.tw_types.specs.Sends.{as_sent, send_tests, first_send_refusal, seq_to_send, update_of}
use Rattle.tw_types.specs.Process.{Process, Identity, Hold}
use Rattle.tw_machine.specs.Run.{Run, Ruled, Ended, done, dropped, sent, refused}
use Rattle.tw_machine.specs.Sending.{sent_to}
use Rattle.tw_machine.specs.Standing.{member_of}
use Rattle.tw_machine.specs.Updating.{use_held, use_if_held, use_if_whole, update_kept, update_put, held_update, answer_update}
use Rattle.tw_machine.specs.Proposing.{refusals, own_seat, own_seq, own_update, update_sent, propose}
use Rattle.update_store.specs.declared.putting.Put.{Put}
use Rattle.update_store.specs.declared.putting.Put.TheVariants as puts
use Rattle.update_store.specs.Put.{putting_of}
use Rattle.oal.specs.Recent.{Recent}
use Rattle.oal.specs.StandsFor as list
use Rattle.node_core.specs.declared.state.State.{State}
use Rattle.node_core.specs.InRange.{KeptFits, ListedFits, IsInRange}
use Rattle.node_core.specs.Outcomes.{kept_as, whole_of, whole_held, send_answer, send_refusal}
use Rattle.node_core.specs.StandsFor.{StandsFor, RunStandsFor, identity_seen, vote_seen, belief_seen}
use Rattle.node_core.proofs.Listing.{all_weaker, found_one}

-- ---- a held decision that is whole

pub uses_is : (now : Moment) (r : Run) (w : Decision × Hold) → whole_held r.process ≡ Some w → use_if_whole now r ≡ use_held now w.0 w.1 r
uses_is now r w e = go (first_hole r.process.waiting.held) r.process.waiting.held r.process.hold e
  where
    go : (hole : Option (UpdateId × ℕ)) (held : Option Held) (hold : Option Hold) → whole_of hole held hold ≡ Some w
        → (elim hole as (λ o. Run) [ None ↦ use_if_held now held hold r | Some hole ↦ r ]) ≡ use_held now w.0 w.1 r
    go None None hold e = absurd (cc)
    go None (Some h) None e = absurd (cc)
    go None (Some h) (Some hold) e = let same : (h.decision, hold) ≡ w = cc in ap (λ (w : Decision × Hold). use_held now w.0 w.1 r) same
    go (Some hole) held hold e = absurd (cc)

-- ---- an update that is kept

pub kept_run : (team : Team) (c new : State) (out : Outputs) (r : Run) (k : Kept) (how found : Putting) → RunStandsFor team c out r → new.team ≡ c.team → StandsFor new (kept_as how k r.process) → how ≡ found → RunStandsFor team new out (update_kept found k r)
kept_run team c new out r k how found s same kept is = record { same_team = same ∙ s.same_team; process = subst (λ (how : Putting). StandsFor new (kept_as how k r.process)) is kept; given = s.given }

-- one that fills no hole sets nothing off
pub kept_whatever : (team : Team) (now : Moment) (c new : State) (out : Outputs) (r : Run) (k : Kept) (put : Put) (how : Putting) → RunStandsFor team c out r → new.team ≡ c.team → StandsFor new (kept_as how k r.process) → putting_of put ≡ how
    → (put ≡ puts.Stored) ⊎ (put ≡ puts.Known) ⊎ (put ≡ puts.Stranger) ⊎ (put ≡ puts.OutOfRange) → RunStandsFor team new out (update_put now how k r)
kept_whatever team now c new out r k puts.Filled how s same kept is which = absurd (no which)
  where
    no : (puts.Filled ≡ puts.Stored) ⊎ (puts.Filled ≡ puts.Known) ⊎ (puts.Filled ≡ puts.Stranger) ⊎ (puts.Filled ≡ puts.OutOfRange) → ⊥
    no (inl e) = cc
    no (inr (inl e)) = cc
    no (inr (inr (inl e))) = cc
    no (inr (inr (inr e))) = cc
kept_whatever team now c new out r k puts.Stored how s same kept is which = subst (λ (how : Putting). RunStandsFor team new out (update_put now how k r)) is (kept_run team c new out r k how Stored s same kept (sym is))
kept_whatever team now c new out r k puts.Known how s same kept is which = subst (λ (how : Putting). RunStandsFor team new out (update_put now how k r)) is (kept_run team c new out r k how Known s same kept (sym is))
kept_whatever team now c new out r k puts.Stranger how s same kept is which = subst (λ (how : Putting). RunStandsFor team new out (update_put now how k r)) is (kept_run team c new out r k how Stranger s same kept (sym is))
kept_whatever team now c new out r k puts.OutOfRange how s same kept is which = subst (λ (how : Putting). RunStandsFor team new out (update_put now how k r)) is (kept_run team c new out r k how OutOfRange s same kept (sym is))

-- ---- an update that is looked for

skipped : (base count : ℕ) → max base ((base + count) - log_room) - base ≡ count - log_room
skipped base count = omega arith

kept_is : (o : Recent) (log : Log) → list.StandsFor o log → kept_entries log ≡ o.kept
kept_is o log s = ap (λ (k : ℕ). drop k log.entries) (skipped log.base (length log.entries)) ∙ sym s.kept

pub held_here : (c : State) (p : Process) (id : UpdateId) → StandsFor c p → held_update id p ≡ find_update id (c.oal.kept ++ payloads_of c.store.waiting)
held_here c p id s = ap (λ (es : List Kept). find_update id (es ++ payloads_of p.waiting)) (kept_is c.oal p.log s.log) ∙ rw s.waiting refl

pub found_in_front : {X : Type 0} (p : X → Bool) (xs ys : List X) (x : X) → find p xs ≡ Some x → find p (xs ++ ys) ≡ Some x
found_in_front p [] ys x e = absurd (cc)
found_in_front p (y ∷ xs) ys x e = go (p y) (found_in_front p xs ys x) e
  where
    go : (b : Bool) → (find p xs ≡ Some x → find p (xs ++ ys) ≡ Some x) → cond b (Some y) (find p xs) ≡ Some x → cond b (Some y) (find p (xs ++ ys)) ≡ Some x
    go true rest e = e
    go false rest e = rest e

pub found_behind : {X : Type 0} (p : X → Bool) (xs ys : List X) → find p xs ≡ None → find p (xs ++ ys) ≡ find p ys
found_behind p [] ys e = refl
found_behind p (y ∷ xs) ys e = go (p y) (found_behind p xs ys) e
  where
    go : (b : Bool) → (find p xs ≡ None → find p (xs ++ ys) ≡ find p ys) → cond b (Some y) (find p xs) ≡ None → cond b (Some y) (find p (xs ++ ys)) ≡ find p ys
    go true rest e = absurd (cc)
    go false rest e = rest e

listed_fits : (n : ℕ) (k : Kept) → KeptFits n k → ListedFits n k
listed_fits n k h = record { id = h.entry.id; stamp = h.entry.stamp; payload = h.payload }

pub waits_listed : (n : ℕ) (id : UpdateId) (updates : List Kept) → AllByRecursion (KeptFits n) updates → IfSome (find_update id updates) (ListedFits n)
waits_listed n id updates all = found_one (ListedFits n) (is_named id) updates (all_weaker (KeptFits n) (ListedFits n) (listed_fits n) updates all)

pub answer_found : (now : Moment) (from : ℕ) (id : UpdateId) (r : Run) (k : Kept) → held_update id r.process ≡ Some k → answer_update now from id r ≡ done (sent_to now (bodies.Update (as_sent k)) from r)
answer_found now from id r k e = ap (λ (o : Option Kept). elim o as (λ o. Ruled) [ None ↦ dropped NotHeld r | Some k ↦ done (sent_to now (bodies.Update (as_sent k)) from r) ]) e

pub sent_again_fits : (n : ℕ) (k : Kept) → ListedFits n k → UpdateFits n (as_sent k)
sent_again_fits n k h = record { entry = record { id = h.id; late = refl; stamp = h.stamp }; early = refl; payload = h.payload }

-- ---- an update that is sent

-- what is so where nothing refuses it
pub record MaySend (size : ℕ) (up : Bool) (seat : Option Seat) (next : ℕ) : Type 0 where
  pub small : size ≤ 128
  pub is_up : up ≡ true
  pub numbered : seq_to_send seat next ≤ 4294967294

abbrev refusal_by : (long away full spent : Bool) → Option ProposeFault
refusal_by long away full spent = cond long (Some TooLong) (cond away (Some NotUpToDate) (cond full (Some Full) (cond spent (Some Spent) None)))

may_by : (size : ℕ) (up : Bool) (seat : Option Seat) (next : ℕ) (long away full spent : Bool) → nat_lt 128 size ≡ long → (not up || not (is_some seat)) ≡ away → nat_lt 4294967294 (seq_to_send seat next) ≡ spent
    → refusal_by long away full spent ≡ None → MaySend size up seat next
may_by size up seat next true away full spent l a s e = absurd (cc)
may_by size up seat next false true full spent l a s e = absurd (cc)
may_by size up seat next false false true spent l a s e = absurd (cc)
may_by size up seat next false false false true l a s e = absurd (cc)
may_by size up seat next false false false false l a s e = record { small = search (arith, nat_tests); is_up = go up (is_some seat) a; numbered = search (arith, nat_tests) }
  where
    go : (x y : Bool) → (not x || not y) ≡ false → x ≡ true
    go true y e = refl
    go false y e = absurd (cc)

pub may_send : (size : ℕ) (up : Bool) (seat : Option Seat) (next : ℕ) → first_send_refusal (send_tests size up seat next) ≡ None → MaySend size up seat next
may_send size up seat next e = may_by size up seat next _ _ _ _ refl refl refl e

-- the update that is sent is in range
pub own_fits : (n who incarnation seq t : ℕ) (order : Order) (atom : Atom) (payload : List ℕ) → who < n → incarnation < 2 ^ 60 → 1 ≤ seq → seq ≤ 4294967294 → t < 2 ^ 60 → length payload ≤ 128
    → UpdateFits n (update_of (record { who = who; incarnation = incarnation }) seq t order atom payload)
own_fits n who incarnation seq t order atom payload below count first last stamp small = record { entry = record { id = record { who = below; incarnation = count; first = first; last = last }; late = refl; stamp = stamp }; early = refl; payload = small }

pub at_least_one : (seat : Option Seat) (next : ℕ) → 1 ≤ next → 1 ≤ seq_to_send seat next
at_least_one seat next one = omega (arith, one)

pub up_reads : (team : Team) (vote : Vote) (belief : Belief) (reading : Option ℕ) → is_up team vote belief reading ≡ true → IfSome reading (λ t. t < 2 ^ 60) → unwrap_or reading 0 < 2 ^ 60
up_reads team vote belief None up fits = omega arith
up_reads team vote belief (Some t) up fits = fits

-- how a send ends, by its refusal
abbrev ended_by : Team → Moment → Order → Atom → List ℕ → Run → Option ProposeFault → Ended
ended_by team now order atom payload r o = elim o as (λ o. Ended) [
  | None ↦ sent (own_seq r.process) (update_sent team now (own_update now order atom payload r.process) r)
  | Some why ↦ refused why r
]

pub proposed : (team : Team) (now : Moment) (order : Order) (atom : Atom) (payload : List ℕ) (r : Run) → first_send_refusal (refusals team now (length payload) r.process) ≡ None
    → propose team now order atom payload r ≡ sent (own_seq r.process) (update_sent team now (own_update now order atom payload r.process) r)
proposed team now order atom payload r e = ap (ended_by team now order atom payload r) e

pub not_proposed : (team : Team) (now : Moment) (order : Order) (atom : Atom) (payload : List ℕ) (r : Run) (why : ProposeFault) → first_send_refusal (refusals team now (length payload) r.process) ≡ Some why
    → propose team now order atom payload r ≡ refused why r
not_proposed team now order atom payload r why e = ap (ended_by team now order atom payload r) e

-- what refuses a send, by the state
abbrev refused_by : Moment → ℕ → Team → Vote → Belief → Option Seat → ℕ → Option ProposeFault
refused_by now size team vote belief seat next = first_send_refusal (send_tests size (is_up team vote belief now.reading) seat next)

pub refusals_here : (c : State) (team : Team) (now : Moment) (size : ℕ) (p : Process) (seat : Option Seat) → c.team ≡ team → StandsFor c p → seat ≡ own_seat p
    → first_send_refusal (refusals team now size p) ≡ first_send_refusal (send_tests size (is_up c.team (vote_seen c.vote) (belief_seen c.belief) now.reading) seat c.next_seq)
refusals_here c team now size p seat same s is =
    ap (λ (x : Team). refused_by now size x p.vote p.belief (own_seat p) p.next_seq) (sym same)
    ∙ ap (λ (x : Vote). refused_by now size c.team x p.belief (own_seat p) p.next_seq) s.vote
    ∙ ap (λ (x : Belief). refused_by now size c.team (vote_seen c.vote) x (own_seat p) p.next_seq) s.belief
    ∙ ap (λ (x : Option Seat). refused_by now size c.team (vote_seen c.vote) (belief_seen c.belief) x p.next_seq) (sym is)
    ∙ ap (λ (x : ℕ). refused_by now size c.team (vote_seen c.vote) (belief_seen c.belief) seat x) s.next_seq

-- and the update
pub own_here : (c : State) (now : Moment) (order : Order) (atom : Atom) (payload : List ℕ) (p : Process) (seat : Option Seat) (seq t : ℕ) (k : Kept) → StandsFor c p → seat ≡ own_seat p → seq ≡ seq_to_send seat c.next_seq → t ≡ unwrap_or now.reading 0
    → k ≡ update_of (member_of (identity_seen c.identity)) seq t order atom payload → k ≡ own_update now order atom payload p
own_here c now order atom payload p seat seq t k s is numbered stamp exact =
    exact
    ∙ ap (λ (x : Identity). update_of (member_of x) seq t order atom payload) (sym s.identity)
    ∙ ap (λ (x : ℕ). update_of (member_of p.identity) x t order atom payload) (numbered ∙ ap (λ (x : Option Seat). seq_to_send x c.next_seq) is ∙ ap (λ (x : ℕ). seq_to_send (own_seat p) x) (sym s.next_seq))
    ∙ ap (λ (x : ℕ). update_of (member_of p.identity) (own_seq p) x order atom payload) stamp

pub sending_fits : (c : State) (reading : Option ℕ) (seat : Option Seat) (order : Order) (atom : Atom) (payload : List ℕ) (seq t : ℕ) (k : Kept) → IsInRange c → IfSome reading (λ t. t < 2 ^ 60)
    → seq ≡ seq_to_send seat c.next_seq → t ≡ unwrap_or reading 0 → k ≡ update_of (member_of (identity_seen c.identity)) seq t order atom payload
    → first_send_refusal (send_tests (length payload) (is_up c.team (vote_seen c.vote) (belief_seen c.belief) reading) seat c.next_seq) ≡ None → UpdateFits c.team.n k
sending_fits c reading seat order atom payload seq t k fits read numbered stamp exact free =
    let may : MaySend (length payload) (is_up c.team (vote_seen c.vote) (belief_seen c.belief) reading) seat c.next_seq = may_send (length payload) _ seat c.next_seq free in
    let below : t < 2 ^ 60 = rw stamp (up_reads c.team (vote_seen c.vote) (belief_seen c.belief) reading may.is_up read) in
    let first : 1 ≤ seq = rw numbered (at_least_one seat c.next_seq fits.updates.numbered) in
    let last : seq ≤ 4294967294 = rw numbered may.numbered in
    rw exact (own_fits c.team.n c.identity.who c.identity.incarnation seq t order atom payload c.who c.incarnation first last below may.small)

-- a number is answered exactly where nothing refuses, and else the first refusal
pub refusal_told : (team : Team) (now : Moment) (order : Order) (atom : Atom) (payload : List ℕ) (r : Run) (result : Result ℕ ProposeFault) → send_answer result ≡ (propose team now order atom payload r).answer
    → send_refusal result ≡ first_send_refusal (refusals team now (length payload) r.process)
refusal_told team now order atom payload r result e = go (first_send_refusal (refusals team now (length payload) r.process)) result e
  where
    ended_by : Option ProposeFault → Ended
    ended_by None = sent (own_seq r.process) (update_sent team now (own_update now order atom payload r.process) r)
    ended_by (Some why) = refused why r

    go : (o : Option ProposeFault) (result : Result ℕ ProposeFault) → send_answer result ≡ (ended_by o).answer → send_refusal result ≡ o
    go None (Ok seq) e = refl
    go None (Err why) e = absurd (cc)
    go (Some why) (Ok seq) e = absurd (cc)
    go (Some why) (Err other) e = let same : other ≡ why = cc in ap (λ (w : ProposeFault). Some w) same

pub nothing_refuses : (size : ℕ) (up : Bool) (seat : Seat) (o : Option Seat) (next : ℕ) → size ≤ 128 → up ≡ true → o ≡ Some seat → seq_to_send (Some seat) next < seat.next + 8 → seq_to_send (Some seat) next < 4294967295
    → first_send_refusal (send_tests size up o next) ≡ None
nothing_refuses size up seat o next small is seated near left =
    let short : nat_lt 128 size ≡ false = search (arith, nat_tests) in
    let free : nat_le (seat.next + 8) (seq_to_send (Some seat) next) ≡ false = search (arith, nat_tests) in
    let more : nat_lt 4294967294 (seq_to_send (Some seat) next) ≡ false = search (arith, nat_tests) in
    rw (seated, is, short, free, more) refl
