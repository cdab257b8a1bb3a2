-- The clauses of the command `replay`: facts about its source and its sink before it and after it, and the status that it answers.
use Rattle.std.specs.Prelude.{ℕ, ◌≡◌, ◌⊎◌, ◌↔◌, List, Some}
use Rattle.schedule_text.specs.declared.status.Status.{Status}
use Rattle.schedule_text.specs.declared.status.Status.TheVariants as status
use Rattle.tw_io.specs.Faults.{IsRisen}
use Rattle.tw_io.specs.Lines.{lines_of}
use Rattle.tw_io.specs.Moments.{SourceAt, SinkAt, WhereTold}
use Rattle.tw_machine.specs.Types.{TeamFault}
use Rattle.replayer.specs.Statuses.{IsGood, HasFaultyTeam, HasBadLine, IsBadSchedule, HasTooMany}
use Rattle.replayer.specs.Answers.{GaveUp, TellsOfText, IsAnswered, IsCutOff, IsUnread, IsWithoutMemory, IsReplayed}

pub record IsReplay {S K : Type 0} (src src_after : SourceAt S) (sink sink_after : SinkAt K) (result : Status) : Type 0 where
  -- all was read and all rows were written
  pub ok : result ≡ status.Ok → WhereTold src sink (λ all before. IsReplayed all src_after.left before sink_after.taken)
  -- what the status says of the text
  pub good : (GaveUp result → ⊥) → WhereTold src sink (λ all before. (result ≡ status.Ok) ↔ IsGood (lines_of all))
  pub bad_team : (GaveUp result → ⊥) → WhereTold src sink (λ all before. (fault : TeamFault) → (result ≡ status.BadTeam fault) ↔ HasFaultyTeam (lines_of all) fault)
  pub bad_schedule : (GaveUp result → ⊥) → WhereTold src sink (λ all before. IsBadSchedule result ↔ HasBadLine (lines_of all))
  pub too_long : (GaveUp result → ⊥) → WhereTold src sink (λ all before. (result ≡ status.TooLong) ↔ HasTooMany (lines_of all))
  -- the line and the cause that are told, and the rows that are written
  pub answered : (GaveUp result → ⊥) → WhereTold src sink (λ all before. IsAnswered all src_after.left before sink_after.taken result)
  pub no_rows : (fault : TeamFault) → result ≡ status.BadTeam fault → WhereTold src sink (λ all before. sink_after.taken ≡ Some before)
  -- a front of the rows is written where the sink fails
  pub cut_off : result ≡ status.WriteFault → WhereTold src sink (λ all before. IsCutOff all before sink_after.taken)
  -- the rows of all lines that were read to their line feed are written where the source fails, and of some of them where memory does
  pub unread : result ≡ status.ReadFault → WhereTold src sink (λ all before. IsUnread all src_after.left before sink_after.taken)
  pub no_memory : result ≡ status.WantOfMemory → WhereTold src sink (λ all before. IsWithoutMemory all src_after.left before sink_after.taken)
  -- no fault is told that did not come in this call
  pub read_fault : result ≡ status.ReadFault → IsRisen src.faults src_after.faults
  pub write_fault : result ≡ status.WriteFault → IsRisen sink.faults sink_after.faults
  pub others : TellsOfText result ⊎ GaveUp result
  -- a good schedule is replayed, unless a fault comes or memory is wanting
  pub complete : WhereTold src sink (λ all before. IsGood (lines_of all) → (IsRisen src.faults src_after.faults → ⊥) → (IsRisen sink.faults sink_after.faults → ⊥) →
      (result ≡ status.Ok) ⊎ (result ≡ status.WantOfMemory))
