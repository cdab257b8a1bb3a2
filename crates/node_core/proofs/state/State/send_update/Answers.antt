use Rattle.std.proofs.Common.{◌≡◌, ◌≤◌, ◌+◌, ◌∙◌, refl, sym, ap, subst, ℕ, length, Option, None, arith}
use Rattle.std.specs.List.{AllByRecursion}
use Rattle.tw_machine.specs.Types.{Team, Seat, Kept, RowAnswer}
use Rattle.tw_machine.specs.Run.{Run, refused}
use Rattle.tw_types.specs.Sends.{first_send_refusal, seq_to_send}
use Rattle.tw_machine.specs.Proposing.{refusals, own_seat, own_update, seq_given, update_sent, propose}
use Rattle.node_core.specs.Sends.{IsSendable}
use Rattle.node_core.specs.StandsFor.{RunStandsFor}
use Rattle.node_core.proofs.Uses.{may_send, sending_fits, refusals_here, own_here, proposed, not_proposed}
use Rattle.node_core.proofs.state.State.send_update.Goals as goal

pub own_update-kept-requires : goal.own_update-kept-requires
own_update-kept-requires c = record { few = (may_send (length c.args.payload.now) _ c.own_seat-seat.result c.args.self.now.next_seq (sym c.refuse_send.ensures ∙ c.in_default.is)).small }

pub overflow_add-self : goal.overflow_add-self
overflow_add-self c =
    let may : seq_to_send c.own_seat-seat.result c.args.self.now.next_seq ≤ 4294967294 = (may_send (length c.args.payload.now) _ c.own_seat-seat.result c.args.self.now.next_seq (sym c.refuse_send.ensures ∙ c.in_default.is)).numbered in
    omega (arith, may, c.seq_to_send-seq.ensures)

pub keep_own-requires-clause-update : goal.keep_own-requires-clause-update
keep_own-requires-clause-update c = sending_fits c.args.self.now c.args.now.now.reading c.own_seat-seat.result c.args.order c.args.atom c.args.payload.now c.seq_to_send-seq.result c.unwrap_or.result c.own_update-kept.result c.requires.fits c.requires.now.reading
    c.seq_to_send-seq.ensures c.unwrap_or.ensures c.own_update-kept.ensures.exact (sym c.refuse_send.ensures ∙ c.in_default.is)

pub returns-clause-stands : goal.returns-clause-stands
returns-clause-stands c = λ team r s.
    let seat : c.own_seat-seat.result ≡ own_seat r.process = c.own_seat-seat.ensures.exact r.process s.process in
    let free : first_send_refusal (refusals team c.args.now.now (length c.args.payload.now) r.process) ≡ None =
    refusals_here c.args.self.now team c.args.now.now (length c.args.payload.now) r.process c.own_seat-seat.result s.same_team s.process seat ∙ sym c.refuse_send.ensures ∙ c.in_default.is in
    let own : c.own_update-kept.result ≡ own_update c.args.now.now c.args.order c.args.atom c.args.payload.now r.process =
    own_here c.args.self.now c.args.now.now c.args.order c.args.atom c.args.payload.now r.process c.own_seat-seat.result c.seq_to_send-seq.result c.unwrap_or.result c.own_update-kept.result s.process seat c.seq_to_send-seq.ensures c.unwrap_or.ensures c.own_update-kept.ensures.exact in
    rw (proposed team c.args.now.now c.args.order c.args.atom c.args.payload.now r free)
    (subst (λ (k : Kept). RunStandsFor team c.keep_own.new.self c.send_to_others.new.out (update_sent team c.args.now.now k r)) own
    (c.send_to_others.ensures.stands team _ (c.keep_own.ensures.stands team (seq_given c.own_update-kept.result r) (record {
      same_team = s.same_team;
      process = record {
        identity = s.process.identity;
        timing = s.process.timing;
        beat = s.process.beat;
        vote = s.process.vote;
        ballot = s.process.ballot;
        belief = s.process.belief;
        log = s.process.log;
        waiting = s.process.waiting;
        hold = s.process.hold;
        next_seq = ap (λ (k : Kept). k.entry.id.seq + 1) c.own_update-kept.ensures.exact;
      };
      given = s.given;
    }))))

pub returns-clause-gives : goal.returns-clause-gives
returns-clause-gives c =
    let same : c.keep_own.new.self.team ≡ c.args.self.now.team = c.keep_own.ensures.team in
    record {
      fits = λ all. subst (λ (x : Team). AllByRecursion (IsSendable x.n) c.send_to_others.new.out.sends) same (c.send_to_others.ensures.fits
          (λ head from incarnation. rw same (sending_fits c.args.self.now c.args.now.now.reading c.own_seat-seat.result c.args.order c.args.atom c.args.payload.now c.seq_to_send-seq.result c.unwrap_or.result c.own_update-kept.result c.requires.fits c.requires.now.reading
          c.seq_to_send-seq.ensures c.unwrap_or.ensures c.own_update-kept.ensures.exact (sym c.refuse_send.ensures ∙ c.in_default.is)))
          (rw same (c.keep_own.ensures.gives.fits all)));
      few = omega (arith, c.keep_own.ensures.gives.few, c.send_to_others.ensures.few);
      passes = c.send_to_others.ensures.passes ∙ c.keep_own.ensures.gives.passes;
      earlies = c.send_to_others.ensures.earlies ∙ c.keep_own.ensures.gives.earlies;
    }

-- a refused send leaves all as it was
refused_so : (c : goal.In-Some) (team : Team) (r : Run) → RunStandsFor team c.args.self.now c.args.out.now r → propose team c.args.now.now c.args.order c.args.atom c.args.payload.now r ≡ refused c.in-Some.fault r
refused_so c team r s = not_proposed team c.args.now.now c.args.order c.args.atom c.args.payload.now r c.in-Some.fault
    (refusals_here c.args.self.now team c.args.now.now (length c.args.payload.now) r.process c.own_seat-seat.result s.same_team s.process (c.own_seat-seat.ensures.exact r.process s.process) ∙ sym c.refuse_send.ensures ∙ c.in-Some.is)

pub returns-in-Some-clause-stands : goal.returns-in-Some-clause-stands
returns-in-Some-clause-stands c = λ team r s. rw (refused_so c team r s) s

pub returns-in-Some-clause-answer : goal.returns-in-Some-clause-answer
returns-in-Some-clause-answer c = λ team r s. rw (refused_so c team r s) refl

pub returns-clause-answer : goal.returns-clause-answer
returns-clause-answer c = λ team r s.
    let seat : c.own_seat-seat.result ≡ own_seat r.process = c.own_seat-seat.ensures.exact r.process s.process in
    let free : first_send_refusal (refusals team c.args.now.now (length c.args.payload.now) r.process) ≡ None =
    refusals_here c.args.self.now team c.args.now.now (length c.args.payload.now) r.process c.own_seat-seat.result s.same_team s.process seat ∙ sym c.refuse_send.ensures ∙ c.in_default.is in
    rw (proposed team c.args.now.now c.args.order c.args.atom c.args.payload.now r free) (ap RowAnswer.Sent (c.seq_to_send-seq.ensures ∙ ap (λ (x : Option Seat). seq_to_send x c.args.self.now.next_seq) seat ∙ ap (λ (x : ℕ). seq_to_send (own_seat r.process) x) (sym s.process.next_seq)))

pub keep_own-requires-clause-fits : goal.keep_own-requires-clause-fits
keep_own-requires-clause-fits c = record {
  promised = c.requires.fits.promised;
  support = c.requires.fits.support;
  view = c.requires.fits.view;
  kept = c.requires.fits.kept;
  ballot = c.requires.fits.ballot;
  held = c.requires.fits.held;
  own = c.requires.fits.own;
  within = c.requires.fits.within;
  length = c.requires.fits.length;
  log = c.requires.fits.log;
  waiting = c.requires.fits.waiting;
  updates = record { listed = c.requires.fits.updates.listed; settled = c.requires.fits.updates.settled; held_for = c.requires.fits.updates.held_for; size = c.requires.fits.updates.size; numbered = omega arith };
}
