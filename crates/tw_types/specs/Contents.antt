-- What a printed line says of a datagram.
use Rattle.std.specs.Prelude.{ℕ}
use Rattle.tw_types.specs.declared.message.UpdateId.{UpdateId}

-- the kind, and what tells it from others of the kind
pub data Contents : Type 0 where
  Update : (id : UpdateId) → Contents
  Decision : (group turn : ℕ) → Contents
  NoDecision : (number : ℕ) → Contents
  Election : (number : ℕ) → Contents
  Promise : (number : ℕ) → Contents
  Ask : Contents
  State : (position : ℕ) → Contents
  Sync : Contents
