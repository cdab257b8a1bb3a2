-- What was sent.
use Rattle.std.specs.Prelude.{ℕ}
use Rattle.tw_types.specs.declared.datagram.Datagram.{Datagram}

-- a datagram that was sent, with its receiver and the team time of its sending
pub record Dispatch : Type 0 where
  pub at : ℕ
  pub to : ℕ
  pub datagram : Datagram

abbrev pub sent_at : ℕ → ℕ × Datagram → Dispatch
sent_at at d = record { at = at; to = d.0; datagram = d.1 }
