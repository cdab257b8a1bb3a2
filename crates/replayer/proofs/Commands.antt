-- The clauses of the command `replay`, of what is so at its end.
use Rattle.std.proofs.Common.{subst, ◌≡◌, ◌⊎◌, ◌++◌, inl, inr, refl, sym, ap, ◌∙◌, ℕ, List, [], Option, Some}
use Rattle.std.proofs.lemmas.List.{append-nil}
use Rattle.schedule_text.specs.declared.status.Status.{Status}
use Rattle.schedule_text.specs.declared.status.Status.TheVariants as status
use Rattle.tw_io.specs.Faults.{IsRisen}
use Rattle.tw_io.specs.Lines.{lines_of}
use Rattle.tw_io.specs.Moments.{SourceAt, SinkAt, WhereTold}
use Rattle.replayer.specs.Answers.{GaveUp, TellsOfText, IsAnswered, Ends}
use Rattle.replayer.specs.Command.{IsReplay}
use Rattle.replayer.proofs.Tops.{settled, replayed, nothing_taken, completed}
use Rattle.replayer.proofs.Replays.{none_written}
use Rattle.replayer.proofs.Verdicts.{ok_exactly, bad_team_exactly, bad_schedule_exactly, too_long_exactly}

answered_at : (all : List ℕ) (left : Option (List ℕ)) (before : List ℕ) (taken : Option (List ℕ)) (result : Status) → (GaveUp result → ⊥) → Ends all left before taken result → IsAnswered all left before taken result
answered_at all left before taken status.Ok gave e = e
answered_at all left before taken status.Usage gave e = e
answered_at all left before taken (status.BadTeam fault) gave e = e
answered_at all left before taken (status.BadSchedule number cause) gave e = e
answered_at all left before taken status.TooLong gave e = e
answered_at all left before taken status.ReadFault gave e = absurd (gave tt)
answered_at all left before taken status.WriteFault gave e = absurd (gave tt)
answered_at all left before taken status.LinkFault gave e = e
answered_at all left before taken (status.Differs line recorded computed) gave e = e
answered_at all left before taken status.ClockSpent gave e = e
answered_at all left before taken status.WantOfMemory gave e = absurd (gave tt)

-- what is so at a replay's end gives all clauses
pub of_ends : {S K : Type 0} (src src_after : SourceAt S) (sink sink_after : SinkAt K) (result : Status) → WhereTold src sink (λ all before. Ends all src_after.left before sink_after.taken result)
    → (result ≡ status.ReadFault → IsRisen src.faults src_after.faults) → (result ≡ status.WriteFault → IsRisen sink.faults sink_after.faults)
    → TellsOfText result ⊎ GaveUp result → IsReplay src src_after sink sink_after result
of_ends src src_after sink sink_after result ends read_fault write_fault others = record {
  ok = λ ok all before left taken. replayed all _ before _ result (answered (settled result _ ok (λ x. x)) all before left taken) ok;
  good = λ gave all before left taken. let a = answered gave all before left taken in ok_exactly (lines_of all) result a.rows a.tells;
  bad_team = λ gave all before left taken fault. let a = answered gave all before left taken in bad_team_exactly (lines_of all) result a.rows a.tells fault;
  bad_schedule = λ gave all before left taken. let a = answered gave all before left taken in bad_schedule_exactly (lines_of all) result a.rows a.tells;
  too_long = λ gave all before left taken. let a = answered gave all before left taken in too_long_exactly (lines_of all) result a.rows a.tells;
  answered = answered;
  no_rows = λ fault is all before left taken. nothing_taken all _ before _ result (answered (settled result _ is (λ x. x)) all before left taken) fault is;
  cut_off = λ is all before left taken. at is all before left taken;
  unread = λ is all before left taken. at is all before left taken;
  no_memory = λ is all before left taken. at is all before left taken;
  read_fault = read_fault;
  write_fault = write_fault;
  others = others;
  complete = λ all before left taken good read write. completed result (λ is. read (read_fault is)) (λ is. write (write_fault is))
      (λ gave. let a = answered gave all before left taken in (ok_exactly (lines_of all) result a.rows a.tells).1 good);
}
  where
    answered : (GaveUp result → ⊥) → WhereTold src sink (λ all before. IsAnswered all src_after.left before sink_after.taken result)
    answered gave all before left taken = answered_at all src_after.left before sink_after.taken result gave (ends all before left taken)

    at : {s : Status} → result ≡ s → WhereTold src sink (λ all before. Ends all src_after.left before sink_after.taken s)
    at {s} is all before left taken = subst (λ (r : Status). Ends all src_after.left before sink_after.taken r) is (ends all before left taken)
