-- The rows of a schedule, by the world before and after each step.
use Rattle.std.specs.Prelude.{ℕ, ◌+◌, false, List, [], ◌∷◌, ◌++◌, length, Option, Some, None}
use Rattle.std.specs.Option.{option_map_or}
use Rattle.tw_machine.specs.Types.{Team, Act, Step, View, RowLine, RowAnswer}
use Rattle.tw_types.specs.declared.step.Act.TheVariants.{Look}
use Rattle.tw_types.specs.Process.{Process}
use Rattle.tw_types.specs.Row.{Row}
use Rattle.tw_types.specs.Printed.{row_printed}
use Rattle.tw_machine.specs.Applied.{Meaning, table_of}
use Rattle.tw_machine.specs.Step.{view_of}
use Rattle.tw_machine.specs.World.{World, Deed, deed_in, world}

abbrev pub incarnation_of : Option Process → ℕ
incarnation_of None = 0
incarnation_of (Some p) = p.identity.incarnation

-- what is printed where no process runs after the step: the incarnation that was lost, and no more
abbrev pub gone : ℕ → View
gone incarnation = record { incarnation = incarnation; reading = None; up = false; group = 0; turn = 0; length = 0; passed = 0 }

-- the columns of a row, by the process before and after its step
abbrev pub columns : Team → ℕ → Option Process → Option Process → View
columns team h before None = gone (incarnation_of before)
columns team h before (Some q) = view_of team h q

abbrev pub line_by : ℕ → ℕ → RowAnswer → View → RowLine
line_by number who answer v = record {
  step = number;
  who = who;
  incarnation = v.incarnation;
  reading = v.reading;
  up = v.up;
  group = v.group;
  turn = v.turn;
  length = v.length;
  passed = v.passed;
  answer = answer;
}

-- what a look shows of the table of its process, up or not, where it has one; after any other act nothing of it is shown
abbrev pub entries_by : {Content : Type 0} → Meaning Content → Act → Option Process → List (ℕ × ℕ)
entries_by meaning Look (Some p) = option_map_or meaning.shown (table_of meaning p) []
entries_by meaning act process = []

-- the row of a step of this number, by what the process was before and what the step came to; so many datagrams were sent before
abbrev pub row_by : {Content : Type 0} → Meaning Content → Team → ℕ → ℕ → Step → Option Process → Deed → Row
row_by meaning team number already s before d =
    row_printed (line_by number s.who d.answer (columns team s.h before d.process)) d.out (already + 1) (entries_by meaning s.act d.process)

-- the row of a step in a world
abbrev pub row_in : {Content : Type 0} → Meaning Content → Team → ℕ → World → Step → Row
row_in meaning team number w s = row_by meaning team number (length w.sent) s (w.process_of s.who) (deed_in team w s)

-- the row of a step after a past
abbrev pub row_of : {Content : Type 0} → Meaning Content → Team → List Step → Step → Row
row_of meaning team past s = row_in meaning team (length past + 1) (world team past) s

-- one row a step, the oldest first
abbrev pub rows_of : {Content : Type 0} → Meaning Content → Team → List Step → List Row
rows_of meaning team [] = []
rows_of meaning team (s ∷ past) = rows_of meaning team past ++ row_of meaning team past s ∷ []
