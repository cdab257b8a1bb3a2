-- What a process does of its own accord.
use Rattle.std.specs.Prelude.{ℕ, Option, Some, None}
use Rattle.tw_num.specs.declared.moment.Moment.{Moment}
use Rattle.tw_types.specs.declared.team.Team.{Team}
use Rattle.tw_machine.specs.Run.{Run}
use Rattle.tw_machine.specs.Electing.{drop_ballot, begin_election}
use Rattle.tw_machine.specs.Deciding.{take_turn}
use Rattle.tw_machine.specs.Grouping.{make_group}
use Rattle.tw_machine.specs.Delivering.{deliver}
use Rattle.tw_machine.specs.Beating.{give_beat}

-- the duties of a process that has a reading t, in the order in which they are done
unfoldable pub timed_duties : Team → Moment → ℕ → Run → Run
timed_duties team now t r = deliver team t (begin_election team now t (make_group team now t (take_turn team now t (drop_ballot team t r))))

abbrev pub duties_if_timed : Team → Moment → Option ℕ → Run → Run
duties_if_timed team now None r = r
duties_if_timed team now (Some t) r = timed_duties team now t r

-- and the beat, with or without a reading
unfoldable pub duties : Team → Moment → Run → Run
duties team now r = give_beat team now (duties_if_timed team now now.reading r)
