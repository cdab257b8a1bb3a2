-- When a node of the code runs as a node of the definitions.
use Rattle.std.specs.Prelude.{ℕ, ◌≡◌, List}
use Rattle.tw_num.specs.Clock.{IsNotBefore}
use Rattle.tw_machine.specs.Applied.{Meaning}
use Rattle.tw_machine.specs.Lives.{Happening}
use Rattle.tw_machine.specs.NodeRun as machine
use Rattle.wire_body.specs.Reading.{datagram_at}
use Rattle.node_core.specs.WithMachine.{StandsWith}
use Rattle.node_loop.specs.declared.node.Node.{Node}
use Rattle.node_loop.specs.Texts.{text_seen}

-- It has the text and the number, and its process stands for the one to which this happened, all of it at readings up to h.
pub record Runs {A : Type 0} (meaning : Meaning A) (empty : A) (after : A → List ℕ → A) (n : machine.Node A) (happened : List Happening) (h : ℕ) (node : Node A) : Type 0 where
  pub text : n.text ≡ text_seen node.text
  pub who : n.who ≡ node.who
  pub wire : n.wire ≡ datagram_at n.text.team
  pub meaning_is : n.meaning ≡ meaning
  pub stands : StandsWith empty after node.core (machine.process_after n happened)
  pub known : IsNotBefore h (machine.process_after n happened).timing.clock
