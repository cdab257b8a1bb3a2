-- What a row shows of an item of the history, which is written down beside the rows.
use Rattle.std.specs.Prelude.{ℕ, ◌≡◌, ◌==◌, true, if◌then◌else◌, List, [], ◌∷◌, ◌++◌, map, Some}
use Rattle.std.specs.List.{AllByRecursion}
use Rattle.tw_machine.specs.Types.{Kept, RowAnswer, Step}
use Rattle.tw_types.specs.Items.{In}
use Rattle.tw_types.specs.Printed.{made_printed, update_printed}
use Rattle.tw_types.specs.Process.{Process}
use Rattle.tw_types.specs.Row.{Row, Pass, Update}
use Rattle.tw_machine.specs.History.{Promised, Make, SentUpdate, Line, Up, life}
use Rattle.tw_machine.specs.Run.{Place, AtPass, AtEarly, AtWait}

-- The row prints this make: a process in its incarnation made just this decision, at the row's reading.
pub record IsMadeLineOf (row : Row) (make : Make) : Type 0 where
  pub who : make.who ≡ row.who
  pub incarnation : make.member.incarnation ≡ row.incarnation
  pub reading : row.reading ≡ Some make.making.decision.made
  pub line : row.made ≡ Some (made_printed make.making.decision)

-- The row answers this send: a process in its incarnation sent the update of this number, stamped with the row's reading. The send's group
-- is the one at the send, and the row's is the one after the step, so nothing is said of it.
pub record IsSentLineOf (row : Row) (z : SentUpdate) : Type 0 where
  pub who : z.who ≡ row.who
  pub incarnation : z.member.incarnation ≡ row.incarnation
  pub reading : row.reading ≡ Some z.sending.update.entry.stamp
  pub answer : row.answer ≡ RowAnswer.Sent z.sending.update.entry.id.seq

-- The row shows that a process was up: in its incarnation, at the row's reading, in the row's group and turn.
pub record IsFlagOf (row : Row) (item : Up) : Type 0 where
  pub who : item.who ≡ row.who
  pub incarnation : item.member.incarnation ≡ row.incarnation
  pub group : item.group ≡ row.group
  pub turn : item.last.turn ≡ row.turn
  pub reading : row.reading ≡ Some item.reading
  pub flag : row.up ≡ true

-- a delivery as a row prints it: a position that was passed, or an update that went early
pub data Delivery : Type 0 where
  Passed : Pass → Delivery
  Early : Update → Delivery

-- how a row prints an update that was delivered at this place
abbrev pub delivery_at : Place → Kept → Delivery
delivery_at (AtPass position how) k = Passed (record { position = position; update = update_printed k; how = how })
delivery_at (AtEarly position) k = Early (update_printed k)
delivery_at AtWait k = Early (update_printed k)

-- and a line of the history
abbrev pub delivery_of : Line → Delivery
delivery_of x = delivery_at x.delivered.place x.delivered.update

-- the deliveries of a row in its order: first what it passed, and then what went early
abbrev pub deliveries_in : Row → List Delivery
deliveries_in row = map Passed row.passes ++ map Early row.earlies

-- The row prints this line, which bears its number: a process in its incarnation delivered it, by the last decision that it has after the
-- step, which is the row's.
pub record IsLineOf (row : Row) (x : Line) : Type 0 where
  pub number : x.row ≡ row.step
  pub who : x.who ≡ row.who
  pub member : x.member ≡ record { who = row.who; incarnation = row.incarnation }
  pub group : x.delivered.group ≡ row.group
  pub turn : x.delivered.turn ≡ row.turn
  pub printed : In (delivery_of x) (deliveries_in row)

-- the lines that bear a row's number, of lists that have the newest first; here the oldest is the first
abbrev pub lines_of : (number : ℕ) → List Line → List Line
lines_of number [] = []
lines_of number (x ∷ older) = if x.row == number then lines_of number older ++ x ∷ [] else lines_of number older

-- These lines are a row's, one for each delivery, in the row's order.
pub record AreLinesOf (row : Row) (xs : List Line) : Type 0 where
  pub each : AllByRecursion (IsLineOf row) xs
  pub whole : map delivery_of xs ≡ deliveries_in row

-- what a row shows of a delivery: its number, its process and last decision, and the delivery
pub record Shown : Type 0 where
  pub row : ℕ
  pub who : ℕ
  pub incarnation : ℕ
  pub group : ℕ
  pub turn : ℕ
  pub delivery : Delivery

abbrev pub shown_by : Row → Delivery → Shown
shown_by row y = record { row = row.step; who = row.who; incarnation = row.incarnation; group = row.group; turn = row.turn; delivery = y }

-- of each delivery of a row
abbrev pub shown_in : Row → List Shown
shown_in row = map (shown_by row) (deliveries_in row)

-- and what a line tells of that
abbrev pub shown_of : Line → Shown
shown_of x = record { row = x.row; who = x.who; incarnation = x.member.incarnation; group = x.delivered.group; turn = x.delivered.turn; delivery = delivery_of x }

-- After these steps a running process stands by this promise: it gave it in its present life, with the number that it keeps.
pub record IsKeptPromise (past : List Step) (who : ℕ) (p : Process) (item : Promised) : Type 0 where
  pub by : item.who ≡ who
  pub present : item.life ≡ life who past
  pub number : item.promise.number ≡ p.vote.promised
