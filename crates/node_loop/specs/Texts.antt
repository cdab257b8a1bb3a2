-- The text of a node of the code.
use Rattle.std.specs.Prelude.{map}
use Rattle.tw_machine.specs.NodeText.{NodeText}
use Rattle.record_text.specs.Addresses.{address_of}
use Rattle.node_loop.specs.declared.text.Text.{Text}

abbrev pub text_seen : Text → NodeText
text_seen t = record { team = t.team; peers = map address_of t.peers.items; clock = t.clock }
