-- A datagram whose bytes were worked out by hand, and one with a decision, read as the definitions say.
use Rattle.std.proofs.Common.{◌≡◌, [], ◌∷◌, true, Some, None, Ok, inl, refl, arith}
use Rattle.tw_types.specs.declared.message.Order.TheVariants.{Timed}
use Rattle.tw_types.specs.declared.message.Atom.TheVariants.{Weak}
use Rattle.tw_types.specs.declared.message.Decision.{Decision}
use Rattle.tw_types.specs.declared.message.Kind.TheVariants.{Informed}
use Rattle.tw_types.specs.declared.datagram.Body.TheVariants as bodies
use Rattle.tw_types.specs.declared.datagram.Datagram.{Datagram}
use Rattle.tw_types.specs.Bytes.{number_bytes}
use Rattle.tw_types.specs.Ranges.{DecisionFits, DatagramFits}
use Rattle.tw_types.specs.Spelling.{spelling}
use Rattle.tw_types.specs.Examples.{team_a, sign_of_life, sign_of_life_bytes}
use Rattle.wire_head.specs.Reading.{number_at, checked_at, zeros_at, guarded_at, interval_at, head_at}
use Rattle.wire_body.specs.Reading.{sync_at, body_at, datagram_at}
use Rattle.wire_body.specs.Lists.{items_at, counted_at, optional_at}
use Rattle.wire_body.specs.Entries.{id_at, entry_at}
use Rattle.wire_body.specs.Decisions.{support_at, seat_at, seats_at, window_entry_at, window_at, mark_at, decision_at}
use Rattle.wire_body.specs.Votes.{report_at, promise_at}

sign_of_life_fits : DatagramFits 3 sign_of_life
sign_of_life_fits = record {
  head = record { from = omega arith; to = omega arith; incarnation = omega arith; sent = omega arith; interval = record { lo = omega arith; hi = omega arith; ordered = omega arith }; echo = tt };
  body = tt;
}

sign_of_life_read : datagram_at team_a sign_of_life_bytes ≡ Ok sign_of_life
unfolding number_at checked_at zeros_at guarded_at interval_at head_at optional_at sync_at body_at datagram_at
sign_of_life_read = refl

-- Process 1 promises number 6, and tells the decision of group 5 and turn 7 that process 0 made. Process 1 has given no
-- support, and the window has one late entry.
promised_decision : Decision
promised_decision = record {
  group = 5;
  turn = 7;
  made = 1000;
  start = 2000;
  low = 10;
  mark = record { stamp = 950; who = 2; seq = 3 };
  seats = record { items = record { member = record { who = 0; incarnation = 100 }; next = 1; support = Some (record { ack = 11; at = 1000 }) } ∷ record { member = record { who = 1; incarnation = 9 }; next = 2; support = None } ∷ [] };
  maker = 0;
  window = record { items = record { id = record { who = 2; incarnation = 300; seq = 4 }; order = Timed; atom = Weak; stamp = 900; late = true } ∷ [] };
}

promise : Datagram
promise = record {
  head = record { from = 1; to = 0; incarnation = 9; sent = 20; interval = None; echo = None };
  body = bodies.Promise 6 (record { member = record { who = 1; incarnation = 9 }; kind = Informed; group = 5; turn = 7; length = 11; support = None; reading = 1100 }) (Some promised_decision);
}

promised_fits : DecisionFits 3 promised_decision
unfolding promised_decision
promised_fits = record {
  group = record { above = omega arith; count = omega arith };
  turn = omega arith;
  made = omega arith;
  start = omega arith;
  low = omega arith;
  mark_stamp = omega arith;
  mark_who = omega arith;
  mark_seq = omega arith;
  majority = omega arith;
  seat_count = omega arith;
  seats = (record { who = omega arith; incarnation = omega arith; next_above = omega arith; next = omega arith; support = record { ack = omega arith; at = omega arith } }, (record { who = omega arith; incarnation = omega arith; next_above = omega arith; next = omega arith; support = tt }, tt));
  ascending = ((omega arith, tt), (tt, tt));
  maker = inl (refl, refl, refl);
  entry_count = omega arith;
  end = omega arith;
  acks = (omega arith, (tt, tt));
  window = (record { id = record { who = omega arith; incarnation = omega arith; first = omega arith; last = omega arith }; late = λ late. refl; stamp = omega arith }, tt);
}

promise_fits : DatagramFits 3 promise
unfolding promise promised_decision
promise_fits = record {
  head = record { from = omega arith; to = omega arith; incarnation = omega arith; sent = omega arith; interval = tt; echo = tt };
  body = record {
    number_fits = record { above = omega arith; count = omega arith };
    report = record { who = omega arith; incarnation = omega arith; group = omega arith; turn = omega arith; length = omega arith; support = tt; reading = omega arith };
    who = refl;
    incarnation = refl;
    below = λ informed. omega arith;
    decision = (refl, omega arith, refl, refl, promised_fits);
  };
}

promise_read : datagram_at team_a (spelling 7 promise) ≡ Ok promise
unfolding promise promised_decision number_bytes number_at checked_at zeros_at guarded_at head_at items_at counted_at optional_at id_at entry_at support_at seat_at seats_at window_entry_at window_at mark_at decision_at report_at promise_at body_at datagram_at
promise_read = refl
