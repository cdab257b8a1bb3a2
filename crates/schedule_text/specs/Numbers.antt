-- The exit status of the program.
use Rattle.std.specs.Prelude.{ℕ}
use Rattle.schedule_text.specs.declared.status.Status.{Status}
use Rattle.schedule_text.specs.declared.status.Status.TheVariants as status

abbrev pub number_of : Status → ℕ
number_of status.Ok = 0
number_of status.Usage = 2
number_of (status.BadTeam fault) = 3
number_of (status.BadSchedule line cause) = 4
number_of status.TooLong = 5
number_of status.ReadFault = 6
number_of status.WriteFault = 7
number_of status.LinkFault = 8
number_of (status.Differs line recorded computed) = 9
number_of status.ClockSpent = 10
number_of status.WantOfMemory = 11
