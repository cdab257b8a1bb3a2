-- One datagram of each kind with a different number in every field, and its bytes, worked out by hand from the format: where
-- two fields change places, or one is left out, the spelling is another one.
use Rattle.std.proofs.Common.{◌≡◌, refl, ℕ, false, true, List, [], ◌∷◌, Some, None}
use Rattle.std.specs.List.{flat_map}
use Rattle.tw_types.specs.declared.message.Order.TheVariants.{Total, Timed}
use Rattle.tw_types.specs.declared.message.Atom.TheVariants.{Weak, Strong, Strict}
use Rattle.tw_types.specs.declared.message.Decision.{Decision}
use Rattle.tw_types.specs.declared.message.Kind.TheVariants.{Informed}
use Rattle.tw_types.specs.declared.datagram.Why.TheVariants.{Join}
use Rattle.tw_types.specs.declared.datagram.Want.TheVariants as wants
use Rattle.tw_types.specs.declared.datagram.Body.{Body}
use Rattle.tw_types.specs.declared.datagram.Body.TheVariants as bodies
use Rattle.tw_types.specs.declared.datagram.Datagram.{Datagram}
use Rattle.tw_types.specs.Bytes.{number_bytes}
use Rattle.tw_types.specs.Spelling.{spelling}

-- numbers below 2 ^ 16 by their two lowest bytes, in as many bytes as a field has

abbrev in_one : ℕ → List ℕ
in_one low = low ∷ []

abbrev in_two : (high low : ℕ) → List ℕ
in_two high low = high ∷ low ∷ []

abbrev in_four : (high low : ℕ) → List ℕ
in_four high low = 0 ∷ 0 ∷ high ∷ low ∷ []

abbrev in_eight : (high low : ℕ) → List ℕ
in_eight high low = 0 ∷ 0 ∷ 0 ∷ 0 ∷ 0 ∷ 0 ∷ high ∷ low ∷ []

-- from a process to process 22, with an interval and an echo
abbrev sent_by : (from : ℕ) → Body → Datagram
sent_by from body = record {
  head = record { from = from; to = 22; incarnation = 1001; sent = 1002; interval = Some (record { lo = 1003; hi = 1004 }); echo = Some (record { a = 1005; b = 1006 }) };
  body = body;
}

-- the fields of its head, in line 7, and then those of its body
abbrev bytes_by : (from kind : ℕ) → List (List ℕ) → List ℕ
bytes_by from kind body = flat_map (λ field. field) (
    in_one 1 ∷ in_one kind ∷ in_four 0 7 ∷ in_one from ∷ in_one 22 ∷ in_eight 3 233 ∷ in_eight 3 234
    ∷ in_one 3 ∷ in_eight 3 235 ∷ in_eight 3 236 ∷ in_eight 3 237 ∷ in_eight 3 238
    ∷ body)

-- a decision of four members and two entries, one of them late
abbrev decision : Decision
decision = record {
  group = 1021;
  turn = 1022;
  made = 1023;
  start = 1024;
  low = 1090;
  mark = record { stamp = 1025; who = 1; seq = 1026 };
  seats = record {
    items =
        record { member = record { who = 0; incarnation = 1031 }; next = 1032; support = None }
        ∷ record { member = record { who = 2; incarnation = 1033 }; next = 1034; support = Some (record { ack = 1035; at = 1023 }) }
        ∷ record { member = record { who = 4; incarnation = 1036 }; next = 1037; support = Some (record { ack = 1038; at = 1039 }) }
        ∷ record { member = record { who = 5; incarnation = 1040 }; next = 1041; support = None }
        ∷ [];
  };
  maker = 2;
  window = record {
    items =
        record { id = record { who = 3; incarnation = 1042; seq = 1043 }; order = Timed; atom = Weak; stamp = 1044; late = true }
        ∷ record { id = record { who = 6; incarnation = 1045; seq = 1046 }; order = Total; atom = Strict; stamp = 1047; late = false }
        ∷ [];
  };
}

abbrev decision_fields : List (List ℕ)
decision_fields =
    in_eight 3 253 ∷ in_eight 3 254 ∷ in_eight 3 255 ∷ in_eight 4 0 ∷ in_eight 4 66 ∷ in_eight 4 1 ∷ in_one 1 ∷ in_four 4 2
    ∷ in_one 4
    ∷ in_one 0 ∷ in_eight 4 7 ∷ in_four 4 8 ∷ in_one 0 ∷ in_eight 0 0 ∷ in_eight 0 0
    ∷ in_one 2 ∷ in_eight 4 9 ∷ in_four 4 10 ∷ in_one 1 ∷ in_eight 4 11 ∷ in_eight 3 255
    ∷ in_one 4 ∷ in_eight 4 12 ∷ in_four 4 13 ∷ in_one 1 ∷ in_eight 4 14 ∷ in_eight 4 15
    ∷ in_one 5 ∷ in_eight 4 16 ∷ in_four 4 17 ∷ in_one 0 ∷ in_eight 0 0 ∷ in_eight 0 0
    ∷ in_one 2
    ∷ in_one 2
    ∷ in_one 3 ∷ in_eight 4 18 ∷ in_four 4 19 ∷ in_one 22 ∷ in_eight 4 20
    ∷ in_one 6 ∷ in_eight 4 21 ∷ in_four 4 22 ∷ in_one 5 ∷ in_eight 4 23
    ∷ []

-- an update
update_spelled : spelling 7 (sent_by 21 (bodies.Update (record { entry = record { id = record { who = 2; incarnation = 1011; seq = 1012 }; order = Timed; atom = Strong; stamp = 1013; late = false }; early = false; payload = record { items = 101 ∷ 102 ∷ 103 ∷ [] } }))) ≡ bytes_by 21 1 (
    in_one 2 ∷ in_eight 3 243 ∷ in_four 3 244 ∷ in_one 7 ∷ in_eight 3 245
    ∷ in_two 0 3 ∷ in_one 101 ∷ in_one 102 ∷ in_one 103
    ∷ [])
unfolding number_bytes
update_spelled = refl

-- a decision
a_decision_spelled : spelling 7 (sent_by 21 (bodies.Decision decision)) ≡ bytes_by 21 2 decision_fields
unfolding number_bytes
a_decision_spelled = refl

-- a no-decision with two reports
no_decision_spelled : spelling 7 (sent_by 21 (bodies.NoDecision 2001 1994 1995 3
    (record {
      items =
          record { member = record { who = 6; incarnation = 1051 }; kind = Informed; group = 1021; turn = 1022; length = 1052; support = Some 1053; reading = 1054 }
          ∷ record { member = record { who = 1; incarnation = 1055 }; kind = Informed; group = 1019; turn = 1056; length = 1057; support = None; reading = 1058 }
          ∷ [];
    })
    decision)) ≡ bytes_by 21 3 (
    in_eight 7 209 ∷ in_eight 7 202 ∷ in_eight 7 203 ∷ in_one 3
    ∷ in_one 2
    ∷ in_one 6 ∷ in_eight 4 27 ∷ in_one 0 ∷ in_eight 3 253 ∷ in_eight 3 254 ∷ in_eight 4 28 ∷ in_one 1 ∷ in_eight 4 29 ∷ in_eight 4 30
    ∷ in_one 1 ∷ in_eight 4 31 ∷ in_one 0 ∷ in_eight 3 251 ∷ in_eight 4 32 ∷ in_eight 4 33 ∷ in_one 0 ∷ in_eight 0 0 ∷ in_eight 4 34
    ∷ decision_fields)
unfolding number_bytes
no_decision_spelled = refl

-- an election
election_spelled : spelling 7 (sent_by 21 (bodies.Election 1061 (Join 1062))) ≡ bytes_by 21 4 (
    in_eight 4 37 ∷ in_one 1 ∷ in_eight 4 38
    ∷ [])
unfolding number_bytes
election_spelled = refl

-- a promise of process 6
promise_spelled : spelling 7 (sent_by 6 (bodies.Promise 2002
    (record { member = record { who = 6; incarnation = 1001 }; kind = Informed; group = 1021; turn = 1022; length = 1071; support = Some 1072; reading = 1073 })
    (Some decision))) ≡ bytes_by 6 5 (
    in_eight 7 210
    ∷ in_one 6 ∷ in_eight 3 233 ∷ in_one 0 ∷ in_eight 3 253 ∷ in_eight 3 254 ∷ in_eight 4 47 ∷ in_one 1 ∷ in_eight 4 48 ∷ in_eight 4 49
    ∷ in_one 1
    ∷ decision_fields)
unfolding number_bytes
promise_spelled = refl

-- what asks for an update
ask_spelled : spelling 7 (sent_by 21 (bodies.Ask (wants.Update (record { who = 2; incarnation = 1081; seq = 1082 })))) ≡ bytes_by 21 6 (
    in_one 0
    ∷ in_one 2 ∷ in_eight 4 57 ∷ in_four 4 58
    ∷ [])
unfolding number_bytes
ask_spelled = refl

-- a piece of the content, the last one
state_spelled : spelling 7 (sent_by 21 (bodies.State 1091 1092 1027 1024 (record { items = 104 ∷ 105 ∷ 106 ∷ [] }))) ≡ bytes_by 21 7 (
    in_eight 4 67 ∷ in_eight 4 68 ∷ in_two 4 3 ∷ in_two 4 0
    ∷ in_two 0 3 ∷ in_one 104 ∷ in_one 105 ∷ in_one 106
    ∷ [])
unfolding number_bytes
state_spelled = refl

-- a sign of life of a process that is ready
sync_spelled : spelling 7 (sent_by 21 (bodies.Sync (Some (1111, 1112, 1113)))) ≡ bytes_by 21 8 (
    in_one 1 ∷ in_eight 4 87 ∷ in_eight 4 88 ∷ in_eight 4 89
    ∷ [])
unfolding number_bytes
sync_spelled = refl
