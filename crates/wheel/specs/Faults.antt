-- Why a number isn't promised, and why an election isn't answered, as the reasons that a dropped packet has.
use Rattle.tw_types.specs.declared.answer.Reason.{Reason}
use Rattle.tw_types.specs.declared.answer.Reason.TheVariants.{Quarantine, OutOfWindow, Promised, Unwilling}
use Rattle.wheel.specs.declared.promises.BallotFault.{BallotFault}
use Rattle.wheel.specs.declared.promises.BallotFault.TheVariants as ballots
use Rattle.wheel.specs.declared.promises.ElectFault.{ElectFault}
use Rattle.wheel.specs.declared.promises.ElectFault.TheVariants as elections

abbrev pub ballot_reason : BallotFault → Reason
ballot_reason ballots.OutOfWindow = OutOfWindow
ballot_reason (ballots.Promised number) = Promised number

abbrev pub election_reason : ElectFault → Reason
election_reason elections.Quarantine = Quarantine
election_reason elections.OutOfWindow = OutOfWindow
election_reason (elections.Promised number) = Promised number
election_reason elections.Unwilling = Unwilling
