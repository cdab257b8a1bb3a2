-- The run of a node, its record and its text, computed on small runs that were worked out by hand.
use Rattle.std.proofs.Common.{◌≡◌, refl, ℕ, List, [], ◌∷◌, ◌++◌, length, Some, None, Ok, Err}
use Rattle.std.specs.Prelude.{codes, Option}
use Rattle.std.specs.Fmt.{digits}
use Rattle.tw_machine.specs.Types.{Team, Datagram}
use Rattle.tw_types.specs.declared.datagram.Body.TheVariants as bodies
use Rattle.tw_types.specs.declared.datagram.WireFault.TheVariants.{Short}
use Rattle.tw_types.specs.declared.message.Order.TheVariants.{Total}
use Rattle.tw_types.specs.declared.message.Atom.TheVariants.{Weak}
use Rattle.tw_types.specs.declared.outputs.Mode.TheVariants as modes
use Rattle.tw_types.specs.Bytes.{number_bytes}
use Rattle.tw_types.specs.Flag.{is_up}
use Rattle.tw_machine.specs.Rules.{kind_rule}
use Rattle.tw_machine.specs.Duties.{timed_duties, duties}
use Rattle.tw_machine.specs.Step.{step}
use Rattle.tw_machine.specs.NodeText.{Address, NodeText, peer_line, clock_line}
use Rattle.tw_machine.specs.Record.{Wire}
use Rattle.tw_machine.specs.NodeRun.{Item, Nothing, Bytes, Asked, ToSend, ToLook, ToStop, Unknown, Call, NodeRun, Turned, Stopped, Spent, node_run, run_text}
use Rattle.tw_machine.proofs.Meanings.{no_entries}

abbrev team_a : Team
team_a = record { n = 3; line = 7; ppm = 0; eps = 1000; delta = 10000; pace = 20000; decide = 10000; ring = 50000; slot = 100000; lease = 400000; quarantine = 1104003; theta = 30000 }

abbrev at : ℕ → Address
at port = record { ip = 127 ∷ 0 ∷ 0 ∷ 1 ∷ []; port = port }

abbrev peers : List Address
peers = at 7100 ∷ at 7101 ∷ at 7102 ∷ []

abbrev text_with : Option ℕ → NodeText
text_with clock = record { team = team_a; peers = peers; clock = clock }

peer_0 : peer_line 0 (at 7100) ≡ codes "peer 0 127.0.0.1 7100"
unfolding digits
peer_0 = refl

clock_0 : clock_line (Some 0) ≡ codes "clock 0"
unfolding digits
clock_0 = refl

clock_none : clock_line None ≡ codes "clock none"
clock_none = refl

-- what the wire says of the one datagram that comes, and of all else
abbrev sync_bytes : List ℕ
sync_bytes = 1 ∷ 8 ∷ 0 ∷ 0 ∷ 0 ∷ 7 ∷ 1 ∷ 0 ∷ 0 ∷ 0 ∷ 0 ∷ 0 ∷ 0 ∷ 10 ∷ 174 ∷ 86 ∷ 0 ∷ 0 ∷ 0 ∷ 0 ∷ 0 ∷ 10 ∷ 174 ∷ 96 ∷ 1 ∷ 0 ∷ 0 ∷ 0 ∷ 0 ∷ 0 ∷ 10 ∷ 174 ∷ 95 ∷ 0 ∷ 0 ∷ 0 ∷ 0 ∷ 0 ∷ 10 ∷ 174 ∷ 97 ∷ 0 ∷ 0 ∷ 0 ∷ 0 ∷ 0 ∷ 0 ∷ 0 ∷ 0 ∷ 0 ∷ 0 ∷ 0 ∷ 0 ∷ 0 ∷ 0 ∷ 0 ∷ 0 ∷ 0 ∷ 0 ∷ 0 ∷ 0 ∷ 0 ∷ 0 ∷ 0 ∷ 0 ∷ 0 ∷ 0 ∷ 0 ∷ 0 ∷ 0 ∷ 0 ∷ 0 ∷ 0 ∷ 0 ∷ 0 ∷ 0 ∷ 0 ∷ 0 ∷ 0 ∷ 0 ∷ 0 ∷ 0 ∷ []

abbrev sync : Datagram
sync = record { head = record { from = 1; to = 0; incarnation = 699990; sent = 700000; interval = Some (record { lo = 699999; hi = 700001 }); echo = None }; body = bodies.Sync None }

abbrev of_sync : Wire
of_sync bytes = Ok sync

abbrev of_nothing : Wire
of_nothing bytes = Err Short

-- nothing arrives, and nobody's clock is team time: one tick, and two signs of life
abbrev quiet : NodeRun
quiet = node_run no_entries of_nothing (text_with None) 0 modes.First 1 (5 ∷ []) []

quiet_text : run_text (text_with None) 0 modes.First (5 ∷ []) quiet ≡ codes "team 3 7 0 1000 10000 20000 10000 50000 100000 400000 1104003 30000\ncore 0 first 5\nin 5 tick\n1 0 5 - 0 0.0 0 0 done\n+ out 1 01080000000700010000000000000005000000000000000500000000000000000000000000000000000000000000000000000000000000000000000000000000000000000000000000000000000000000000\n+ out 2 01080000000700020000000000000005000000000000000500000000000000000000000000000000000000000000000000000000000000000000000000000000000000000000000000000000000000000000\n"
unfolding digits is_up step duties timed_duties kind_rule number_bytes
quiet_text = refl

quiet_end : quiet.end ≡ Turned
unfolding is_up step duties timed_duties kind_rule
quiet_end = refl

quiet_calls : quiet.calls ≡ record { to = at 7101; bytes = 1 ∷ 8 ∷ 0 ∷ 0 ∷ 0 ∷ 7 ∷ 0 ∷ 1 ∷ 0 ∷ 0 ∷ 0 ∷ 0 ∷ 0 ∷ 0 ∷ 0 ∷ 5 ∷ 0 ∷ 0 ∷ 0 ∷ 0 ∷ 0 ∷ 0 ∷ 0 ∷ 5 ∷ 0 ∷ 0 ∷ 0 ∷ 0 ∷ 0 ∷ 0 ∷ 0 ∷ 0 ∷ 0 ∷ 0 ∷ 0 ∷ 0 ∷ 0 ∷ 0 ∷ 0 ∷ 0 ∷ 0 ∷ 0 ∷ 0 ∷ 0 ∷ 0 ∷ 0 ∷ 0 ∷ 0 ∷ 0 ∷ 0 ∷ 0 ∷ 0 ∷ 0 ∷ 0 ∷ 0 ∷ 0 ∷ 0 ∷ 0 ∷ 0 ∷ 0 ∷ 0 ∷ 0 ∷ 0 ∷ 0 ∷ 0 ∷ 0 ∷ 0 ∷ 0 ∷ 0 ∷ 0 ∷ 0 ∷ 0 ∷ 0 ∷ 0 ∷ 0 ∷ 0 ∷ 0 ∷ 0 ∷ 0 ∷ 0 ∷ 0 ∷ 0 ∷ [] } ∷ record { to = at 7102; bytes = 1 ∷ 8 ∷ 0 ∷ 0 ∷ 0 ∷ 7 ∷ 0 ∷ 2 ∷ 0 ∷ 0 ∷ 0 ∷ 0 ∷ 0 ∷ 0 ∷ 0 ∷ 5 ∷ 0 ∷ 0 ∷ 0 ∷ 0 ∷ 0 ∷ 0 ∷ 0 ∷ 5 ∷ 0 ∷ 0 ∷ 0 ∷ 0 ∷ 0 ∷ 0 ∷ 0 ∷ 0 ∷ 0 ∷ 0 ∷ 0 ∷ 0 ∷ 0 ∷ 0 ∷ 0 ∷ 0 ∷ 0 ∷ 0 ∷ 0 ∷ 0 ∷ 0 ∷ 0 ∷ 0 ∷ 0 ∷ 0 ∷ 0 ∷ 0 ∷ 0 ∷ 0 ∷ 0 ∷ 0 ∷ 0 ∷ 0 ∷ 0 ∷ 0 ∷ 0 ∷ 0 ∷ 0 ∷ 0 ∷ 0 ∷ 0 ∷ 0 ∷ 0 ∷ 0 ∷ 0 ∷ 0 ∷ 0 ∷ 0 ∷ 0 ∷ 0 ∷ 0 ∷ 0 ∷ 0 ∷ 0 ∷ 0 ∷ 0 ∷ 0 ∷ 0 ∷ [] } ∷ []
unfolding is_up step duties timed_duties kind_rule number_bytes
quiet_calls = refl

-- a datagram of a peer, a send and a look of clients, with the own clock as team time
abbrev three_readings : List ℕ
three_readings = 699990 ∷ 700000 ∷ 701000 ∷ 701500 ∷ []

abbrev three : NodeRun
three = node_run no_entries of_sync (text_with (Some 0)) 0 modes.First 3 three_readings
    (Bytes sync_bytes ∷ Asked (at 9000) (ToSend Total Weak (97 ∷ [])) ∷ Asked (at 9001) ToLook ∷ [])

three_text : run_text (text_with (Some 0)) 0 modes.First three_readings three ≡ codes "team 3 7 0 1000 10000 20000 10000 50000 100000 400000 1104003 30000\ncore 0 first 699990\nin 700000 ref 700000 700000\n1 0 699990 700000 0 0.0 0 0 done\nin 700000 packet 010800000007010000000000000aae5600000000000aae600100000000000aae5f00000000000aae610000000000000000000000000000000000000000000000000000000000000000000000000000000000\n2 0 699990 700000 0 0.0 0 0 done\n+ out 1 010800000007000100000000000aae5600000000000aae600300000000000aae5f00000000000aae6100000000000aae6000000000000aae6000000000000000000000000000000000000000000000000000\n+ out 2 010800000007000200000000000aae5600000000000aae600100000000000aae5f00000000000aae610000000000000000000000000000000000000000000000000000000000000000000000000000000000\nin 701000 send total weak 61\n3 0 699990 701000 0 0.0 0 0 refused not_up\nin 701500 look\n4 0 699990 701500 0 0.0 0 0 look\n"
unfolding digits is_up step duties timed_duties kind_rule number_bytes
three_text = refl

three_calls : three.calls ≡ record { to = at 7101; bytes = 1 ∷ 8 ∷ 0 ∷ 0 ∷ 0 ∷ 7 ∷ 0 ∷ 1 ∷ 0 ∷ 0 ∷ 0 ∷ 0 ∷ 0 ∷ 10 ∷ 174 ∷ 86 ∷ 0 ∷ 0 ∷ 0 ∷ 0 ∷ 0 ∷ 10 ∷ 174 ∷ 96 ∷ 3 ∷ 0 ∷ 0 ∷ 0 ∷ 0 ∷ 0 ∷ 10 ∷ 174 ∷ 95 ∷ 0 ∷ 0 ∷ 0 ∷ 0 ∷ 0 ∷ 10 ∷ 174 ∷ 97 ∷ 0 ∷ 0 ∷ 0 ∷ 0 ∷ 0 ∷ 10 ∷ 174 ∷ 96 ∷ 0 ∷ 0 ∷ 0 ∷ 0 ∷ 0 ∷ 10 ∷ 174 ∷ 96 ∷ 0 ∷ 0 ∷ 0 ∷ 0 ∷ 0 ∷ 0 ∷ 0 ∷ 0 ∷ 0 ∷ 0 ∷ 0 ∷ 0 ∷ 0 ∷ 0 ∷ 0 ∷ 0 ∷ 0 ∷ 0 ∷ 0 ∷ 0 ∷ 0 ∷ 0 ∷ 0 ∷ 0 ∷ 0 ∷ [] } ∷ record { to = at 7102; bytes = 1 ∷ 8 ∷ 0 ∷ 0 ∷ 0 ∷ 7 ∷ 0 ∷ 2 ∷ 0 ∷ 0 ∷ 0 ∷ 0 ∷ 0 ∷ 10 ∷ 174 ∷ 86 ∷ 0 ∷ 0 ∷ 0 ∷ 0 ∷ 0 ∷ 10 ∷ 174 ∷ 96 ∷ 1 ∷ 0 ∷ 0 ∷ 0 ∷ 0 ∷ 0 ∷ 10 ∷ 174 ∷ 95 ∷ 0 ∷ 0 ∷ 0 ∷ 0 ∷ 0 ∷ 10 ∷ 174 ∷ 97 ∷ 0 ∷ 0 ∷ 0 ∷ 0 ∷ 0 ∷ 0 ∷ 0 ∷ 0 ∷ 0 ∷ 0 ∷ 0 ∷ 0 ∷ 0 ∷ 0 ∷ 0 ∷ 0 ∷ 0 ∷ 0 ∷ 0 ∷ 0 ∷ 0 ∷ 0 ∷ 0 ∷ 0 ∷ 0 ∷ 0 ∷ 0 ∷ 0 ∷ 0 ∷ 0 ∷ 0 ∷ 0 ∷ 0 ∷ 0 ∷ 0 ∷ 0 ∷ 0 ∷ 0 ∷ 0 ∷ 0 ∷ 0 ∷ [] }
    ∷ record { to = at 9000; bytes = codes "refused not_up\n" } ∷ record { to = at 9001; bytes = codes "4 0 699990 701500 0 0.0 0 0 look\n" } ∷ []
unfolding digits is_up step duties timed_duties kind_rule number_bytes
three_calls = refl

-- a client stops the node in the second of five turns
abbrev stopped : NodeRun
stopped = node_run no_entries of_nothing (text_with None) 0 modes.First 5 (5 ∷ 6 ∷ 7 ∷ []) (Nothing ∷ Asked (at 9000) ToStop ∷ Nothing ∷ [])

stopped_end : stopped.end ≡ Stopped
unfolding is_up step duties timed_duties kind_rule
stopped_end = refl

stopped_calls : length stopped.calls ≡ 3
unfolding is_up step duties timed_duties kind_rule
stopped_calls = refl

-- an unknown line is no event; where a reference is due in its turn, that is all that happens
abbrev unknown : NodeRun
unknown = node_run no_entries of_nothing (text_with (Some 0)) 0 modes.First 2 (5 ∷ 6 ∷ 7 ∷ []) (Asked (at 9000) Unknown ∷ Asked (at 9000) Unknown ∷ [])

unknown_text : run_text (text_with (Some 0)) 0 modes.First (5 ∷ []) unknown ≡ codes "team 3 7 0 1000 10000 20000 10000 50000 100000 400000 1104003 30000\ncore 0 first 5\nin 6 ref 6 6\n1 0 5 6 0 0.0 0 0 done\n"
unfolding digits is_up step duties timed_duties kind_rule number_bytes
unknown_text = refl

-- a clock that falls is held at its last reading; a reading of 2^60 ends the run
abbrev falling : NodeRun
falling = node_run no_entries of_nothing (text_with None) 0 modes.First 5 (7 ∷ 6 ∷ 1152921504606846976 ∷ 8 ∷ []) []

falling_text : run_text (text_with None) 0 modes.First (7 ∷ []) (record falling { calls = [] }) ≡ codes "team 3 7 0 1000 10000 20000 10000 50000 100000 400000 1104003 30000\ncore 0 first 7\nin 7 tick\n1 0 7 - 0 0.0 0 0 done\n+ out 1 01080000000700010000000000000007000000000000000700000000000000000000000000000000000000000000000000000000000000000000000000000000000000000000000000000000000000000000\n+ out 2 01080000000700020000000000000007000000000000000700000000000000000000000000000000000000000000000000000000000000000000000000000000000000000000000000000000000000000000\n"
unfolding digits is_up step duties timed_duties kind_rule number_bytes
falling_text = refl

falling_end : falling.end ≡ Spent
unfolding is_up step duties timed_duties kind_rule
falling_end = refl

-- a first reading of 2^60: nothing happens, and nothing is written
never : run_text (text_with None) 0 modes.First (1152921504606846976 ∷ []) (node_run no_entries of_nothing (text_with None) 0 modes.First 5 (1152921504606846976 ∷ []) []) ≡ []
never = refl
