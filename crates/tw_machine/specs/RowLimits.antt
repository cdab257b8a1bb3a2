-- The rows that can be printed: their numbers have room, and their payloads are bytes.
use Rattle.std.specs.Prelude.{ℕ, ◌<◌, ◌^◌, Option, Some, None}
use Rattle.std.specs.List.{AllByRecursion}
use Rattle.tw_machine.specs.Types.{UpdateId, Member, WireFault, Reason, RowAnswer}
use Rattle.tw_types.specs.declared.datagram.WireFault.TheVariants.{Field}
use Rattle.tw_types.specs.declared.answer.Reason.TheVariants as reasons
use Rattle.tw_types.specs.declared.row.RowAnswer.TheVariants.{Sent, Dropped}
use Rattle.tw_types.specs.Contents.{Contents, Update, Decision, NoDecision, Election, Promise, Ask, State, Sync}
use Rattle.tw_types.specs.Row.{Made, Pass, Sending, Entry, Row}
use Rattle.tw_types.specs.Row as row

-- a number of a row: the sum of two numbers of 64 bits at most
abbrev pub HasRoom : ℕ → Type 0
HasRoom n = n < 2 ^ 65

abbrev pub IsByte : ℕ → Type 0
IsByte b = b < 256

abbrev pub IdFits : UpdateId → Type 0
IdFits id = HasRoom id.who × HasRoom id.incarnation × HasRoom id.seq

abbrev pub MemberFits : Member → Type 0
MemberFits m = HasRoom m.who × HasRoom m.incarnation

abbrev pub WireFits : WireFault → Type 0
WireFits (Field place) = HasRoom place
WireFits _ = Unit {0}

abbrev pub ReasonFits : Reason → Type 0
ReasonFits (reasons.Wire fault) = WireFits fault
ReasonFits (reasons.Late bound) = HasRoom bound
ReasonFits (reasons.Promised number) = HasRoom number
ReasonFits (reasons.Missing id) = IdFits id
ReasonFits _ = Unit {0}

abbrev pub AnswerFits : RowAnswer → Type 0
AnswerFits (Sent seq) = HasRoom seq
AnswerFits (Dropped reason) = ReasonFits reason
AnswerFits _ = Unit {0}

abbrev pub ReadingFits : Option ℕ → Type 0
ReadingFits None = Unit {0}
ReadingFits (Some t) = HasRoom t

abbrev pub UpdateFits : row.Update → Type 0
UpdateFits u = IdFits u.id × HasRoom u.stamp × AllByRecursion IsByte u.payload

abbrev pub MadeFits : Option Made → Type 0
MadeFits None = Unit {0}
MadeFits (Some m) = HasRoom m.group × HasRoom m.turn × HasRoom m.start × HasRoom m.low × HasRoom m.length × AllByRecursion MemberFits m.members

abbrev pub PassFits : Pass → Type 0
PassFits p = HasRoom p.position × UpdateFits p.update

abbrev pub ContentsFits : Contents → Type 0
ContentsFits (Update id) = IdFits id
ContentsFits (Decision group turn) = HasRoom group × HasRoom turn
ContentsFits (NoDecision number) = HasRoom number
ContentsFits (Election number) = HasRoom number
ContentsFits (Promise number) = HasRoom number
ContentsFits Ask = Unit {0}
ContentsFits (State position) = HasRoom position
ContentsFits Sync = Unit {0}

abbrev pub SendingFits : Sending → Type 0
SendingFits s = HasRoom s.number × HasRoom s.to × ContentsFits s.contents

abbrev pub EntryFits : Entry → Type 0
EntryFits e = HasRoom e.key × HasRoom e.value

-- every number has room, and every payload is bytes
pub record RowFits (r : Row) : Type 0 where
  pub step : HasRoom r.step
  pub who : HasRoom r.who
  pub incarnation : HasRoom r.incarnation
  pub reading : ReadingFits r.reading
  pub group : HasRoom r.group
  pub turn : HasRoom r.turn
  pub length : HasRoom r.length
  pub passed : HasRoom r.passed
  pub answer : AnswerFits r.answer
  pub made : MadeFits r.made
  pub passes : AllByRecursion PassFits r.passes
  pub earlies : AllByRecursion UpdateFits r.earlies
  pub sends : AllByRecursion SendingFits r.sends
  pub entries : AllByRecursion EntryFits r.entries
