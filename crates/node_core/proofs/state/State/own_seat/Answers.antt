use Rattle.std.proofs.Common.{◌≡◌, ◌∙◌, refl, sym, ap, find, Some}
use Rattle.tw_types.specs.declared.message.Member.{Member}
use Rattle.tw_types.specs.Beliefs.{last_of}
use Rattle.tw_types.specs.Decisions.{is_seat_of}
use Rattle.tw_types.specs.Ranges.{SeatFits, DecisionFits}
use Rattle.node_core.specs.StandsFor.{belief_seen}
use Rattle.node_core.proofs.Concerns.{last_has}
use Rattle.node_core.proofs.Listing.{found_one}
use Rattle.node_core.proofs.state.State.own_seat.Goals as goal

pub returns-in-Some-clause-exact : goal.returns-in-Some-clause-exact
returns-in-Some-clause-exact c = λ p s.
    let is : last_of (belief_seen c.args.self.now.belief) ≡ Some c.in-Some.last.now = sym c.last.ensures ∙ rw c.in-Some.is refl in
    c.copied.ensures ∙ c.seat_of.ensures ∙ ap (λ (m : Member). find (is_seat_of m) c.in-Some.last.now.seats.items) c.member.ensures ∙ sym (rw (s.identity, s.belief, is) refl)

pub returns-in-Some-clause-fits : goal.returns-in-Some-clause-fits
returns-in-Some-clause-fits c =
    let n = c.args.self.now.team.n in
    let is : last_of (belief_seen c.args.self.now.belief) ≡ Some c.in-Some.last.now = sym c.last.ensures ∙ rw c.in-Some.is refl in
    rw (c.copied.ensures, c.seat_of.ensures) (found_one (SeatFits n) (is_seat_of c.member.result) c.in-Some.last.now.seats.items (last_has (DecisionFits n) (belief_seen c.args.self.now.belief) c.in-Some.last.now c.requires.fits.view is).seats)
