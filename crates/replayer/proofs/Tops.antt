-- What the top call answers.
use Rattle.std.proofs.Common.{subst, ◌≡◌, ◌⊎◌, arith, false, nat_eq, inl, inr, refl, sym, ap, ◌∙◌, ℕ, List, [], ◌∷◌, ◌++◌, Option, Some}
use Rattle.std.proofs.lemmas.Bool.Decides.{nat_tests}
use Rattle.std.proofs.lemmas.List.{append-nil}
use Rattle.tw_machine.specs.Types.{Team, TeamFault, Step}
use Rattle.schedule_text.specs.declared.status.Status.{Status}
use Rattle.schedule_text.specs.declared.status.Status.TheVariants as status
use Rattle.schedule_text.specs.Numbers.{number_of}
use Rattle.replayer.specs.Replay.{Begins, Verdict, Whole, NoTeam, Faulty, BadLine, Endless, IsVerdict, status_of, text_before}
use Rattle.tw_io.specs.Lines.{lines_of}
use Rattle.replayer.specs.Answers.{GaveUp, TellsOfText, RowsAreWell, IsAnswered, IsReplayed}
use Rattle.tw_machine.specs.Rows.{rows_of}
use Rattle.tw_machine.specs.SafeRows.{SafeRows}
use Rattle.tw_machine.specs.ClockLaw.{ReadsWell}
use Rattle.safety_laws.proofs.ClockLaw.{reads_well}
use Rattle.safety_laws.proofs.Safe.{safe_rows}
use Rattle.world.specs.Tables.{entries_of}
use Rattle.replayer.proofs.Sound.{sound_of}
use Rattle.replayer.proofs.Verdicts.{nothing_written}

-- statuses with different numbers
pub apart : (s t : Status) → nat_eq (number_of s) (number_of t) ≡ false → s ≡ t → ⊥
apart s t differ same = let reflexive : nat_eq (number_of t) (number_of t) ≡ false = subst (λ (x : Status). nat_eq (number_of x) (number_of t) ≡ false) same differ in grind (arith, nat_tests)

-- a status that tells of the text is none of those that don't
pub told : (s t : Status) → TellsOfText s → s ≡ t → TellsOfText t
told s t tells same = subst (λ (x : Status). TellsOfText x) same tells

-- a status that isn't one of the three
pub settled : (s t : Status) → s ≡ t → (GaveUp t → ⊥) → GaveUp s → ⊥
settled s t e not gave = not (subst (λ (x : Status). GaveUp x) e gave)

pub begins_well : (lines : List (List ℕ)) (team : Team) (past : List Step) (rest : List (List ℕ)) → Begins lines team past rest → SafeRows team (rows_of entries_of team past) × ReadsWell entries_of team past
begins_well lines team past rest begins = (safe_rows entries_of team past (sound_of team begins.sound) begins.admissible, reads_well entries_of team past (sound_of team begins.sound) begins.admissible)

-- the rows before the line that ends a text are safe, and read near team time
pub rows_well : (lines : List (List ℕ)) (v : Verdict) → IsVerdict lines v → RowsAreWell v
rows_well lines (Whole team past) is = begins_well lines team past [] is
rows_well lines NoTeam is = tt
rows_well lines (Faulty fault) is = tt
rows_well lines (BadLine team past cause) is = begins_well lines team past (is.0 ∷ is.1) is.2
rows_well lines (Endless team past) is = begins_well lines team past (is.0 ∷ is.1) is.2

pub replayed : (all : List ℕ) (left : Option (List ℕ)) (before : List ℕ) (taken : Option (List ℕ)) (result : Status) → IsAnswered all left before taken result → result ≡ status.Ok → IsReplayed all left before taken
replayed all left before taken result a ok = by_verdict a.tells.0 a.tells.1 (sym ok ∙ a.tells.2) a.tells.3
  where
    by_verdict : (v : Verdict) → IsVerdict (lines_of all) v → status.Ok ≡ status_of v → a.rows ≡ text_before v → IsReplayed all left before taken
    by_verdict (Whole team past) begins same rows = record {
      team = team;
      past = past;
      schedule = begins;
      ended = a.ended ok;
      written = a.written ∙ ap (λ t. Some (before ++ t)) rows;
      safe = safe_rows entries_of team past (sound_of team begins.sound) begins.admissible;
      near = reads_well entries_of team past (sound_of team begins.sound) begins.admissible;
    }
    by_verdict NoTeam is same rows = absurd (cc)
    by_verdict (Faulty fault) is same rows = absurd (cc)
    by_verdict (BadLine team past cause) is same rows = absurd (cc)
    by_verdict (Endless team past) is same rows = absurd (cc)

pub nothing_taken : (all : List ℕ) (left : Option (List ℕ)) (before : List ℕ) (taken : Option (List ℕ)) (result : Status) → IsAnswered all left before taken result
    → (fault : TeamFault) → result ≡ status.BadTeam fault → taken ≡ Some before
nothing_taken all left before taken result a fault is =
    a.written ∙ ap (λ t. Some (before ++ t)) (nothing_written (lines_of all) result a.rows a.tells fault is) ∙ ap Some (append-nil before)

pub completed : (result : Status) → (result ≡ status.ReadFault → ⊥) → (result ≡ status.WriteFault → ⊥) → ((GaveUp result → ⊥) → result ≡ status.Ok) → (result ≡ status.Ok) ⊎ (result ≡ status.WantOfMemory)
completed status.Ok read write good = inl refl
completed status.Usage read write good = inl (good (λ g. g))
completed (status.BadTeam fault) read write good = inl (good (λ g. g))
completed (status.BadSchedule line cause) read write good = inl (good (λ g. g))
completed status.TooLong read write good = inl (good (λ g. g))
completed status.ReadFault read write good = absurd (read refl)
completed status.WriteFault read write good = absurd (write refl)
completed status.LinkFault read write good = inl (good (λ g. g))
completed (status.Differs line recorded computed) read write good = inl (good (λ g. g))
completed status.ClockSpent read write good = inl (good (λ g. g))
completed status.WantOfMemory read write good = inr refl
