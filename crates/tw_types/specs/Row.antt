-- The row of a step: exactly what is printed of it.
use Rattle.std.specs.Prelude.{ℕ, Bool, List, Option}
use Rattle.tw_types.specs.declared.message.Member.{Member}
use Rattle.tw_types.specs.declared.message.UpdateId.{UpdateId}
use Rattle.tw_types.specs.declared.message.Order.{Order}
use Rattle.tw_types.specs.declared.message.Atom.{Atom}
use Rattle.tw_types.specs.declared.outputs.How.{How}
use Rattle.tw_types.specs.declared.row.RowAnswer.{RowAnswer}
use Rattle.tw_types.specs.Contents.{Contents}

-- an update, as its one send gave it
pub record Update : Type 0 where
  pub id : UpdateId
  pub order : Order
  pub atom : Atom
  pub stamp : ℕ
  pub payload : List ℕ

-- a decision that was made, with its group's start and its members in ascending order
pub record Made : Type 0 where
  pub group : ℕ
  pub turn : ℕ
  pub start : ℕ
  pub low : ℕ
  pub length : ℕ
  pub members : List Member

-- a position of the list that was passed
pub record Pass : Type 0 where
  pub position : ℕ
  pub update : Update
  pub how : How

-- a datagram that was sent, by its number in the whole schedule
pub record Sending : Type 0 where
  pub number : ℕ
  pub to : ℕ
  pub contents : Contents

-- an entry of the application's table
pub record Entry : Type 0 where
  pub key : ℕ
  pub value : ℕ

-- what is printed of one step
pub record Row : Type 0 where
  -- the number of the step, from 1
  pub step : ℕ
  pub who : ℕ
  pub incarnation : ℕ
  -- the synchronised reading, where there is one
  pub reading : Option ℕ
  -- whether the process may believe its group at that reading
  pub up : Bool
  -- the last accepted decision, or 0 and 0
  pub group : ℕ
  pub turn : ℕ
  -- how long the list is, and how much of it was passed
  pub length : ℕ
  pub passed : ℕ
  pub answer : RowAnswer
  pub made : Option Made
  pub passes : List Pass
  pub earlies : List Update
  pub sends : List Sending
  pub entries : List Entry
