-- Why a send is refused, both ways, why an update that comes is dropped, and what a refusal leaves.
use Rattle.std.proofs.Common.{◌≡◌, refl, sym, ap, subst, ◌∙◌, ◌↔◌, inl, inr, ◌⊎◌, ℕ, ◌+◌, ◌≤◌, ◌<◌, Bool, true, false, not, ◌||◌, cond, is_some, List, length, Option, Some, None, arith}
use Rattle.std.specs.Prelude.{nat_le, nat_lt}
use Rattle.std.proofs.lemmas.Bool.Decides.{nat_tests}
use Rattle.tw_num.specs.declared.moment.Moment.{Moment}
use Rattle.tw_machine.specs.Types.{Team, ProposeFault, Order, Atom, Seat, Kept, Want, Reason, RowAnswer}
use Rattle.tw_types.specs.declared.answer.ProposeFault.TheVariants.{TooLong, NotUpToDate, Full, Spent}
use Rattle.tw_types.specs.declared.answer.Reason.TheVariants as reasons
use Rattle.tw_types.specs.Flag.{is_up}
use Rattle.tw_types.specs.Sends.{payload_room, last_seq, seq_to_send, first_send_refusal, send_tests, SendEnds, awaited_seq, update_tests}
use Rattle.tw_types.specs.Updates.{sender, has_update, pending_room, seat_of_sender}
use Rattle.tw_types.specs.Beliefs.{view_decision}
use Rattle.tw_types.specs.Decisions.{or_none, is_same_member}
use Rattle.tw_types.specs.Refusals.{first_refusal}
use Rattle.tw_types.specs.Waiting.{is_hole, Filled, Stored, Known, OutOfRange, put_by_seat, known_if_own}
use Rattle.tw_machine.specs.Run.{Run}
use Rattle.tw_machine.specs.Standing.{member_of}
use Rattle.tw_machine.specs.Updating.{put_ruled, received_as, take_update, answer_ask}
use Rattle.tw_machine.specs.Proposing.{own_seat, refusals, own_seq, propose}
use Rattle.tw_machine.proofs.Ends.{by_proposing, by_putting, by_answering}

-- how a send ends is so of it
ends_so : (size : ℕ) (up : Bool) (seat : Option Seat) (next : ℕ) → SendEnds size up seat next (first_send_refusal (send_tests size up seat next))
ends_so size false seat next = go (nat_lt payload_room size) refl
  where
    go : (long : Bool) → nat_lt payload_room size ≡ long → SendEnds size false seat next (cond long (Some TooLong) (Some NotUpToDate))
    go true e = grind (arith, nat_tests)
    go false e = (grind (arith, nat_tests), inl refl)
ends_so size true None next = go (nat_lt payload_room size) refl
  where
    go : (long : Bool) → nat_lt payload_room size ≡ long → SendEnds size true None next (cond long (Some TooLong) (Some NotUpToDate))
    go true e = grind (arith, nat_tests)
    go false e = (grind (arith, nat_tests), inr refl)
ends_so size true (Some s) next = go (nat_lt payload_room size) (nat_le (s.next + pending_room) (seq_to_send (Some s) next)) (nat_lt last_seq (seq_to_send (Some s) next)) refl refl refl
  where
    go : (long full spent : Bool) → nat_lt payload_room size ≡ long → nat_le (s.next + pending_room) (seq_to_send (Some s) next) ≡ full → nat_lt last_seq (seq_to_send (Some s) next) ≡ spent
        → SendEnds size true (Some s) next (cond long (Some TooLong) (cond full (Some Full) (cond spent (Some Spent) None)))
    go true full spent e f g = grind (arith, nat_tests)
    go false true spent e f g = (grind (arith, nat_tests), refl, s, refl, grind (arith, nat_tests))
    go false false true e f g = (grind (arith, nat_tests), refl, s, refl, grind (arith, nat_tests), grind (arith, nat_tests))
    go false false false e f g = (grind (arith, nat_tests), refl, s, refl, grind (arith, nat_tests), grind (arith, nat_tests))

-- and no other end is
ends_once : (size : ℕ) (up : Bool) (seat : Option Seat) (next : ℕ) (o : Option ProposeFault) → SendEnds size up seat next o → first_send_refusal (send_tests size up seat next) ≡ o
ends_once size up seat next (Some TooLong) c = grind (arith, nat_tests)
ends_once size up seat next (Some NotUpToDate) c = go up seat c.0 c.1
  where
    go : (up : Bool) (seat : Option Seat) → size ≤ payload_room → (up ≡ false) ⊎ (seat ≡ None) → first_send_refusal (send_tests size up seat next) ≡ Some NotUpToDate
    go false seat short why = grind (arith, nat_tests)
    go true None short why = grind (arith, nat_tests)
    go true (Some s) short (inl e) = absurd (cc)
    go true (Some s) short (inr e) = absurd (cc)
ends_once size up seat next (Some Full) c = rw (c.1, c.3) (let full : c.2.next + pending_room ≤ seq_to_send (Some c.2) next = rw c.3 at c.4 in let short = c.0 in grind (arith, nat_tests))
ends_once size up seat next (Some Spent) c = rw (c.1, c.3)
    (let free : seq_to_send (Some c.2) next < c.2.next + pending_room = rw c.3 at c.4 in let spent : last_seq < seq_to_send (Some c.2) next = rw c.3 at c.5 in let short = c.0 in grind (arith, nat_tests))
ends_once size up seat next None c = rw (c.1, c.3)
    (let free : seq_to_send (Some c.2) next < c.2.next + pending_room = rw c.3 at c.4 in let left : seq_to_send (Some c.2) next ≤ last_seq = rw c.3 at c.5 in let short = c.0 in grind (arith, nat_tests))

pub ends_exactly : (size : ℕ) (up : Bool) (seat : Option Seat) (next : ℕ) (o : Option ProposeFault) → (first_send_refusal (send_tests size up seat next) ≡ o) ↔ SendEnds size up seat next o
ends_exactly size up seat next o = (λ e. subst (SendEnds size up seat next) e (ends_so size up seat next), ends_once size up seat next o)

module _ (team : Team) (now : Moment) (order : Order) (atom : Atom) (payload : List ℕ) (r : Run) where
  abbrev Ends : Option ProposeFault → Type 0
  Ends o = SendEnds (length payload) (is_up team r.process.vote r.process.belief now.reading) (own_seat r.process) r.process.next_seq o

  abbrev first : Option ProposeFault
  first = first_send_refusal (refusals team now (length payload) r.process)

  of_first : (o : Option ProposeFault) → first ≡ o → Ends o
  of_first o = (ends_exactly (length payload) (is_up team r.process.vote r.process.belief now.reading) (own_seat r.process) r.process.next_seq o).0

  is_first : (o : Option ProposeFault) → Ends o → first ≡ o
  is_first o = (ends_exactly (length payload) (is_up team r.process.vote r.process.belief now.reading) (own_seat r.process) r.process.next_seq o).1

  -- a refusal has its cause, and leaves all as it was
  pub refused_for : (why : ProposeFault) → (propose team now order atom payload r).answer ≡ RowAnswer.Refused why → Ends (Some why) × ((propose team now order atom payload r).run ≡ r)
  refused_for why = by_proposing team now order atom payload r (λ z. z.answer ≡ RowAnswer.Refused why → Ends (Some why) × (z.run ≡ r))
      (λ none e. absurd (cc)) (λ other is e. let same : other ≡ why = cc in (of_first (Some why) (is ∙ ap Some same), refl))

  pub refuses : (why : ProposeFault) → Ends (Some why) → (propose team now order atom payload r).answer ≡ RowAnswer.Refused why
  refuses why c = by_proposing team now order atom payload r (λ z. z.answer ≡ RowAnswer.Refused why)
      (λ none. absurd (let no : None ≡ Some why = sym none ∙ is_first (Some why) c in cc)) (λ other is. let same : Some other ≡ Some why = sym is ∙ is_first (Some why) c in cc)

  -- and a send that isn't refused has its number
  pub sends_if : Ends None → (propose team now order atom payload r).answer ≡ RowAnswer.Sent (own_seq r.process)
  sends_if c = by_proposing team now order atom payload r (λ z. z.answer ≡ RowAnswer.Sent (own_seq r.process))
      (λ none. refl) (λ other is. absurd (let no : Some other ≡ None = sym is ∙ is_first None c in cc))

  pub sent_for : (seq : ℕ) → (propose team now order atom payload r).answer ≡ RowAnswer.Sent seq → Ends None × (seq ≡ own_seq r.process)
  sent_for seq = by_proposing team now order atom payload r (λ z. z.answer ≡ RowAnswer.Sent seq → Ends None × (seq ≡ own_seq r.process))
      (λ none e. (of_first None none, cc)) (λ other is e. absurd (cc))

-- ---- updates that come, and questions

module _ (now : Moment) (k : Kept) (r : Run) where
  abbrev found : Option Seat
  found = seat_of_sender k.entry.id (or_none (view_decision r.process.belief))

  abbrev own : Bool
  own = is_same_member (sender k.entry.id) (member_of r.process.identity)

  abbrev tested : Option Seat → Option Reason
  tested o = cond (not (is_some o)) (Some reasons.NotMember)
      (cond (own || nat_lt k.entry.id.seq (awaited_seq o) || has_update k.entry.id r.process.waiting.pending) (Some reasons.Old)
      (cond (nat_le (awaited_seq o + pending_room) k.entry.id.seq) (Some reasons.OutOfWindow) None))

  -- of an update that fills no hole the first test that is against it is told
  seated : (o : Option Seat) → (put_ruled now (known_if_own own (put_by_seat o r.process.waiting.pending k)) k r).dropped ≡ tested o
  seated None = refl
  seated (Some s) = go own (nat_lt k.entry.id.seq s.next) (has_update k.entry.id r.process.waiting.pending) (nat_le (s.next + pending_room) k.entry.id.seq)
    where
      go : (mine old there far : Bool) → (put_ruled now (known_if_own mine (cond (old || there) Known (cond far OutOfRange Stored))) k r).dropped
          ≡ cond (mine || old || there) (Some reasons.Old) (cond far (Some reasons.OutOfWindow) None)
      go true true there far = refl
      go true false true far = refl
      go true false false true = refl
      go true false false false = refl
      go false true there far = refl
      go false false true far = refl
      go false false false true = refl
      go false false false false = refl

  pub dropped_first : is_hole k.entry.id r.process.waiting.held ≡ false → (take_update now k r).dropped ≡ first_refusal (update_tests (member_of r.process.identity) (view_decision r.process.belief) r.process.waiting.pending k)
  dropped_first none = ap (λ b. (put_ruled now (known_if_own own (cond b Filled (put_by_seat found r.process.waiting.pending k))) k r).dropped) none ∙ seated found

  pub filled_is_done : is_hole k.entry.id r.process.waiting.held ≡ true → (take_update now k r).dropped ≡ None
  filled_is_done hole = ap (λ b. (put_ruled now (known_if_own own (cond b Filled (put_by_seat found r.process.waiting.pending k))) k r).dropped) hole

  -- and it changes nothing
  pub dropped_leaves : (reason : Reason) → (take_update now k r).dropped ≡ Some reason → (take_update now k r).run ≡ r
  dropped_leaves reason = by_putting now (received_as r.process k) k r (λ z. z.dropped ≡ Some reason → z.run ≡ r) (λ f e. absurd (cc)) (λ f e. absurd (cc)) (λ other apart e. refl)

pub unanswered_leaves : (now : Moment) (from : ℕ) (want : Want) (r : Run) (reason : Reason) → (answer_ask now from want r).dropped ≡ Some reason → (answer_ask now from want r).run ≡ r
unanswered_leaves now from want r reason = by_answering now from want r (λ z. z.dropped ≡ Some reason → z.run ≡ r) (λ id k f e. absurd (cc)) (λ e. refl)
