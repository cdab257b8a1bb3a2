-- A schedule that is replayed line by line.
use Rattle.std.proofs.Common.{Bool, true, false, subst, ◌≡◌, ◌⊎◌, inl, inr, ◌≤◌, ◌<◌, refl, sym, ap, ◌∙◌, ℕ, ◌+◌, List, [], ◌∷◌, ◌++◌, length, take, drop, Option, Some, None, arith, append_assoc, length-append, take-append-drop}
use Rattle.std.specs.List.{flat_map, AllByRecursion}
use Rattle.std.proofs.lemmas.Bool.{cases_lt, true≢false}
use denote.Enum.Bare.{sameb}
use Rattle.tw_io.specs.contracts.line_reader.Line.{the_type}
use Rattle.std.proofs.lemmas.List.{append-nil, nil_from_length, take_at}
use Rattle.std.proofs.lemmas.List.Concat.{flat_map-append}
use Rattle.tw_io.specs.declared.line_reader.Line.{Line}
use Rattle.tw_io.specs.declared.line_reader.Line.TheVariants as kind
use Rattle.tw_io.specs.Lines.{lines_of, ended_lines, IsOneLine}
use Rattle.tw_io.specs.LineReader.{IsNextLine}
use Rattle.tw_io.proofs.Lines.{lines_of-ended, lines_of-some, ended_lines-ended, ended_lines-open}
use Rattle.schedule_text.specs.declared.status.Status.{Status}
use Rattle.schedule_text.specs.declared.status.Status.TheVariants as status
use Rattle.tw_machine.specs.Types.{Team, TeamFault, Cause, Step}
use Rattle.tw_types.specs.Team.{fault_of}
use Rattle.tw_types.specs.Row.{Row}
use Rattle.tw_types.specs.declared.step.Cause.TheVariants.{Grammar}
use Rattle.tw_machine.specs.Admissible.{cause_of}
use Rattle.tw_machine.specs.Grammar.{IsTeamLine, IsStepLine, line_limit}
use Rattle.tw_machine.specs.World.{world}
use Rattle.tw_machine.specs.Rows.{rows_of, row_of}
use Rattle.tw_machine.specs.RowText.{text_of, row_text}
use Rattle.tw_machine.proofs.LineLaws.{team_line_is_one_line}
use Rattle.tw_machine.proofs.Tables.{all_push}
use Rattle.world.specs.declared.world.World as code
use Rattle.world.specs.StandsFor.{StandsFor}
use Rattle.world.specs.Tables.{entries_of}
use Rattle.replayer.specs.declared.steps.Next.TheVariants as next
use Rattle.replayer.specs.Replay.{step_limit, Spells, Begins, IsBadLine, Verdict, Whole, NoTeam, Faulty, BadLine, Endless, IsVerdict, status_of, text_before}
use Rattle.replayer.specs.Answers.{AreRowsBefore, IsWrittenUpTo, IsAnswered, IsCutOff, Ends}
use Rattle.replayer.specs.NextLine.{TakesLine, RefusesLine, refusal_of, IsTaken, IsNext, EndsAt, IsSoundLine}
use Rattle.replayer.proofs.Decided.{Decided, some_step}
use Rattle.replayer.proofs.Tops.{begins_well, rows_well}

-- ---- lines and rows, one after the other

-- a line with its line feed
abbrev pub ended : List ℕ → List ℕ
ended line = line ++ 10 ∷ []

lines_of-taken : (lines : List (List ℕ)) (rest : List ℕ) → AllByRecursion IsOneLine lines → lines_of (flat_map ended lines ++ rest) ≡ lines ++ lines_of rest
lines_of-taken [] rest all = refl
lines_of-taken (line ∷ lines) rest all =
    rw (append_assoc, append_assoc) (lines_of-ended line (flat_map ended lines ++ rest) all.0 ∙ ap (λ ls. line ∷ ls) (lines_of-taken lines rest all.1))

ended_lines-taken : (lines : List (List ℕ)) (rest : List ℕ) → AllByRecursion IsOneLine lines → ended_lines (flat_map ended lines ++ rest) ≡ lines ++ ended_lines rest
ended_lines-taken [] rest all = refl
ended_lines-taken (line ∷ lines) rest all =
    ap ended_lines (one_more line lines rest) ∙ ended_lines-ended line (flat_map ended lines ++ rest) all.0 ∙ ap (λ ls. line ∷ ls) (ended_lines-taken lines rest all.1)
  where
    one_more : (line : List ℕ) (lines : List (List ℕ)) (rest : List ℕ) → (ended line ++ flat_map ended lines) ++ rest ≡ line ++ 10 ∷ (flat_map ended lines ++ rest)
    one_more line lines rest = append_assoc (ended line) (flat_map ended lines) rest ∙ append_assoc line (10 ∷ []) (flat_map ended lines ++ rest)

line_behind : (lines : List (List ℕ)) (line rest : List ℕ) → flat_map ended lines ++ (line ++ 10 ∷ rest) ≡ flat_map ended (lines ++ line ∷ []) ++ rest
line_behind [] line rest = sym (ap (λ t. t ++ rest) (append-nil (ended line)) ∙ append_assoc line (10 ∷ []) rest)
line_behind (x ∷ lines) line rest =
    append_assoc (ended x) (flat_map ended lines) (line ++ 10 ∷ rest) ∙ ap (λ t. ended x ++ t) (line_behind lines line rest) ∙ sym (append_assoc (ended x) (flat_map ended (lines ++ line ∷ [])) rest)

spells_on : (n : ℕ) (past : List Step) (rest after lines : List (List ℕ)) → Spells n past rest lines → Spells n past (rest ++ after) (lines ++ after)
spells_on n [] rest after lines spells = ap (λ ls. ls ++ after) spells
spells_on n (s ∷ past) rest after lines spells = (spells.0, spells.1, spells_on n past (spells.0 ∷ rest) after lines spells.2)

text_of-push : (rows : List Row) (r : Row) → text_of (rows ++ r ∷ []) ≡ text_of rows ++ row_text r
text_of-push rows r = flat_map-append row_text rows (r ∷ []) ∙ ap (λ t. text_of rows ++ t) (append-nil (row_text r))

text_push : (team : Team) (past : List Step) (s : Step) (row : Row) → row ≡ row_of entries_of team past s → text_of (rows_of entries_of team past) ++ row_text row ≡ text_of (rows_of entries_of team (s ∷ past))
text_push team past s row same = ap (λ (r : Row). text_of (rows_of entries_of team past) ++ row_text r) same ∙ sym (text_of-push (rows_of entries_of team past) (row_of entries_of team past s))

-- a step that is refused for a cause, or for want of memory
pub refused : (team : Team) (past : List Step) (line : List ℕ) (s : Step) (cause : Option Cause) → IsStepLine team.n line s → cause_of team (world team past).sent past s ≡ cause
    → RefusesLine team past line (refusal_of cause)
refused team past line s None is same = tt
refused team past line s (Some cause) is same = inr (s, is, same)

-- ---- the verdict of a text that begins well, whatever follows

-- a verdict of the lines, whose rows begin with those of a past
record Verdicts (lines : List (List ℕ)) (team : Team) (past : List Step) : Type 0 where
  verdict : Verdict
  is : IsVerdict lines verdict
  later : List ℕ
  text : text_before verdict ≡ text_of (rows_of entries_of team past) ++ later

stops : (lines : List (List ℕ)) (team : Team) (past : List Step) (v : Verdict) → IsVerdict lines v → text_before v ≡ text_of (rows_of entries_of team past) → Verdicts lines team past
stops lines team past v is text = record { verdict = v; is = is; later = []; text = text ∙ sym (append-nil (text_of (rows_of entries_of team past))) }

goes_on : (lines : List (List ℕ)) (team : Team) (past : List Step) (s : Step) → Verdicts lines team (s ∷ past) → Verdicts lines team past
goes_on lines team past s v = record {
  verdict = v.verdict;
  is = v.is;
  later = row_text (row_of entries_of team past s) ++ v.later;
  text = v.text ∙ ap (λ t. t ++ v.later) (sym (text_push team past s _ refl)) ∙ append_assoc (text_of (rows_of entries_of team past)) (row_text (row_of entries_of team past s)) v.later;
}

longer : (lines : List (List ℕ)) (team : Team) (past : List Step) (line : List ℕ) (rest : List (List ℕ)) (s : Step) → Begins lines team past (line ∷ rest) → length past < step_limit
    → IsStepLine team.n line s → cause_of team (world team past).sent past s ≡ None → Begins lines team (s ∷ past) rest
longer lines team past line rest s b low is may = record {
  first = b.first;
  others = b.others;
  cut = b.cut;
  team_line = b.team_line;
  sound = b.sound;
  steps = (line, is, b.steps);
  admissible = (b.admissible, may);
  within = omega (arith, low);
}

verdict_of : (lines : List (List ℕ)) (team : Team) (past : List Step) (rest : List (List ℕ)) → Begins lines team past rest → Verdicts lines team past
verdict_of lines team past [] b = stops lines team past (Whole team past) b refl
verdict_of lines team past (line ∷ rest) b = elim (cases_lt (length past) step_limit) [
  | inr full ↦ stops lines team past (Endless team past) (line, rest, b, omega (arith, full, b.within)) refl
  | inl low ↦ by_line low (some_step team.n line) (λ s is may. goes_on lines team past s (verdict_of lines team (s ∷ past) rest (longer lines team past line rest s b low is may)))
]
  where
    by_cause : length past < step_limit → (s : Step) → IsStepLine team.n line s → (cause : Option Cause) → cause_of team (world team past).sent past s ≡ cause
        → (cause_of team (world team past).sent past s ≡ None → Verdicts lines team past) → Verdicts lines team past
    by_cause low s is None may on = on may
    by_cause low s is (Some cause) bad on = stops lines team past (BadLine team past cause) (line, rest, b, low, inr (s, is, bad)) refl

    by_line : length past < step_limit → Decided ((s : Step) × IsStepLine team.n line s)
        → ((s : Step) → IsStepLine team.n line s → cause_of team (world team past).sent past s ≡ None → Verdicts lines team past) → Verdicts lines team past
    by_line low (inl found) on = by_cause low found.0 found.1 (cause_of team (world team past).sent past found.0) refl (on found.0 found.1)
    by_line low (inr none) on = stops lines team past (BadLine team past Grammar) (line, rest, b, low, inl (refl, λ s is. none (s, is))) refl

-- ---- the steps that were taken

-- The text behind the team's line is the lines that were taken, each with its line feed, and what the reader holds and the source has
-- left. The world stands for their steps, and their rows were written.
pub record Going (team : Team) (text before held : List ℕ) (left taken : Option (List ℕ)) (w : code.World) : Type 0 where
  pub past : List Step
  pub stands : StandsFor team past w
  pub within : length past ≤ step_limit
  pub lines : List (List ℕ)
  pub each : AllByRecursion IsOneLine lines
  pub spelled : Spells team.n past [] lines
  pub rest : List ℕ
  pub left_bytes : left ≡ Some rest
  pub cut : text ≡ flat_map ended lines ++ (held ++ rest)
  pub written : taken ≡ Some (before ++ text_of (rows_of entries_of team past))

pub at_start : (team : Team) (before held bytes : List ℕ) (left taken : Option (List ℕ)) (w : code.World) → StandsFor team [] w → left ≡ Some bytes → taken ≡ Some before → Going team (held ++ bytes) before held left taken w
at_start team before held bytes left taken w stands told same = record {
  past = [];
  stands = stands;
  within = omega arith;
  lines = [];
  each = tt;
  spelled = refl;
  rest = bytes;
  left_bytes = told;
  cut = refl;
  written = same ∙ ap Some (sym (append-nil before));
}

-- a row that was written behind the others
row_behind : (team : Team) (past : List Step) (before : List ℕ) (taken after : Option (List ℕ)) (s : Step) (row : Row) → taken ≡ Some (before ++ text_of (rows_of entries_of team past))
    → ((bytes : List ℕ) → taken ≡ Some bytes → after ≡ Some (bytes ++ row_text row)) → row ≡ row_of entries_of team past s → after ≡ Some (before ++ text_of (rows_of entries_of team (s ∷ past)))
row_behind team past before taken after s row written puts same =
    puts _ written ∙ ap Some (append_assoc before (text_of (rows_of entries_of team past)) (row_text row) ∙ ap (λ t. before ++ t) (text_push team past s row same))

pub one_more : (team : Team) (text before held held_after : List ℕ) (left taken left_after taken_after : Option (List ℕ)) (w w_after : code.World) (row : Row) (found : Line) (g : Going team text before held left taken w)
    → IsNext team g.past (held ++ g.rest) held_after left_after w_after row (next.Taken found) → (found ≡ kind.Last → ⊥) → w.steps < step_limit
    → ((bytes : List ℕ) → taken ≡ Some bytes → taken_after ≡ Some (bytes ++ row_text row)) → Going team text before held_after left_after taken_after w_after
one_more team text before held held_after left taken left_after taken_after w w_after row kind.Ended g (line, is, takes) more few puts = record {
  past = takes.0 ∷ g.past;
  stands = takes.3;
  within = omega (arith, few, g.stands.steps);
  lines = g.lines ++ line ∷ [];
  each = all_push IsOneLine g.lines line g.each is.2.1;
  spelled = (line, takes.1, spells_on team.n g.past [] (line ∷ []) g.lines g.spelled);
  rest = is.0;
  left_bytes = is.1;
  cut = g.cut ∙ ap (λ t. flat_map ended g.lines ++ t) is.2.0 ∙ line_behind g.lines line (held_after ++ is.0);
  written = row_behind team g.past before taken taken_after takes.0 row g.written puts takes.4;
}
one_more team text before held held_after left taken left_after taken_after w w_after row kind.Last g n more few puts = absurd (more refl)
one_more team text before held held_after left taken left_after taken_after w w_after row kind.Longer g n more few puts = absurd n.1

-- what `==` tells of a line's kind
abbrev pub is_same : Line → Line → Bool
is_same a b = sameb the_type a b

pub is_longer : (found : Line) → true ≡ is_same found kind.Longer → found ≡ kind.Longer
is_longer kind.Ended e = absurd (true≢false e)
is_longer kind.Last e = absurd (true≢false e)
is_longer kind.Longer e = refl

pub not_longer : (found : Line) → false ≡ is_same found kind.Longer → found ≡ kind.Longer → ⊥
not_longer kind.Ended e same = cc
not_longer kind.Last e same = cc
not_longer kind.Longer e same = true≢false (sym e)

pub is_last : (found : Line) → true ≡ is_same found kind.Last → found ≡ kind.Last
is_last kind.Ended e = absurd (true≢false e)
is_last kind.Last e = refl
is_last kind.Longer e = absurd (true≢false e)

pub not_last : (found : Line) → false ≡ is_same found kind.Last → found ≡ kind.Last → ⊥
not_last kind.Ended e same = cc
not_last kind.Last e same = true≢false (sym e)
not_last kind.Longer e same = cc

-- a line that isn't too long was taken
pub is_taken : (limit : ℕ) (text line held : List ℕ) (left : Option (List ℕ)) (rest : List ℕ) (found : Line) → (found ≡ kind.Longer → ⊥) → left ≡ Some rest → IsNextLine limit text (Some found) line (held ++ rest) → IsTaken text line found held left
is_taken limit text line held left rest kind.Ended short told is = (rest, told, is)
is_taken limit text line held left rest kind.Last short told is = (rest, told, is)
is_taken limit text line held left rest kind.Longer short told is = absurd (short refl)

-- one that is too long is the first of the text
pub longer_line : (limit : ℕ) (text line rest : List ℕ) (found : Line) → found ≡ kind.Longer → IsNextLine limit text (Some found) line rest → (first : List ℕ) × (others : List (List ℕ)) × (lines_of text ≡ first ∷ others) × (limit < length first)
longer_line limit text line rest kind.Ended long is = cc
longer_line limit text line rest kind.Last long is = cc
longer_line limit text line rest kind.Longer long is = (is.1, is.2, is.3, is.4)

-- a line that was taken is the first of the text
pub line_taken : (text line : List ℕ) (found : Line) (held : List ℕ) (left : Option (List ℕ)) → IsTaken text line found held left → (later : List (List ℕ)) × (lines_of text ≡ line ∷ later)
line_taken text line kind.Ended held left is = (lines_of (held ++ is.0), is.2.2)
line_taken text line kind.Last held left is = ([], is.2.2)
line_taken text line kind.Longer held left is = absurd is

pub last_taken : (text line : List ℕ) (found : Line) (held : List ℕ) (left : Option (List ℕ)) → found ≡ kind.Last → IsTaken text line found held left → (lines_of text ≡ line ∷ []) × (left ≡ Some [])
last_taken text line kind.Ended held left last is = cc
last_taken text line kind.Last held left last is = (is.2.2, is.1 ∙ ap Some (nil_from_length is.0 (omega (arith, length-append held is.0, ap length is.2.1))))
last_taken text line kind.Longer held left last is = absurd is

pub ended_taken : (text line : List ℕ) (found : Line) (held : List ℕ) (left : Option (List ℕ)) → (found ≡ kind.Last → ⊥) → IsTaken text line found held left → (rest : List ℕ) × (left ≡ Some rest) × (text ≡ line ++ 10 ∷ (held ++ rest))
ended_taken text line kind.Ended held left more is = (is.0, is.1, is.2.0)
ended_taken text line kind.Last held left more is = absurd (more refl)
ended_taken text line kind.Longer held left more is = absurd is

-- what the source lost then
pub lost_taken : (text line : List ℕ) (found : Line) (held : List ℕ) (left : Option (List ℕ)) → IsTaken text line found held left → (lost : List ℕ) × (rest : List ℕ) × (left ≡ Some rest) × (text ≡ lost ++ rest)
lost_taken text line kind.Ended held left is = (line ++ 10 ∷ held, is.0, is.1, is.2.0 ∙ sym (append_assoc line (10 ∷ held) is.0))
lost_taken text line kind.Last held left is =
    let none : is.0 ≡ [] = nil_from_length is.0 (omega (arith, length-append held is.0, ap length is.2.1)) in
    (line, is.0, is.1, is.2.0 ∙ sym (append-nil line) ∙ ap (λ t. line ++ t) (sym none))
lost_taken text line kind.Longer held left is = absurd is

-- ---- the ends

module _ (team : Team) (first text before held : List ℕ) (left taken : Option (List ℕ)) (w : code.World) (sound : IsSoundLine first team) (g : Going team text before held left taken w) where
  all_lines : lines_of (first ++ 10 ∷ text) ≡ first ∷ (g.lines ++ lines_of (held ++ g.rest))
  all_lines = lines_of-ended first text (team_line_is_one_line first team sound.0) ∙ ap (λ ls. first ∷ ls) (ap lines_of g.cut ∙ lines_of-taken g.lines (held ++ g.rest) g.each)

  begins : (lines others : List (List ℕ)) → lines ≡ first ∷ (g.lines ++ others) → Begins lines team g.past others
  begins lines others cut = record {
    first = first;
    others = g.lines ++ others;
    cut = cut;
    team_line = sound.0;
    sound = sound.1;
    steps = spells_on team.n g.past [] others g.lines g.spelled;
    admissible = g.stands.admissible;
    within = g.within;
  }

  begins_all : (others : List (List ℕ)) → lines_of (held ++ g.rest) ≡ others → Begins (lines_of (first ++ 10 ∷ text)) team g.past others
  begins_all others cut = begins _ others (all_lines ∙ ap (λ ls. first ∷ (g.lines ++ ls)) cut)

  answered : (v : Verdict) (left_after : Option (List ℕ)) → IsVerdict (lines_of (first ++ 10 ∷ text)) v → text_before v ≡ text_of (rows_of entries_of team g.past) → (status_of v ≡ status.Ok → left_after ≡ Some [])
      → IsAnswered (first ++ 10 ∷ text) left_after before taken (status_of v)
  answered v left_after is same ended = record {
    rows = text_before v;
    tells = (v, is, refl, refl);
    written = g.written ∙ ap (λ t. Some (before ++ t)) (sym same);
    ended = ended;
    well = rows_well (lines_of (first ++ 10 ∷ text));
  }

  -- bytes that were lost behind the lines that were taken
  written_up_to : (lost more : List ℕ) (left_after : Option (List ℕ)) → left_after ≡ Some more → held ++ g.rest ≡ lost ++ more → IsWrittenUpTo (ended_lines lost) (first ++ 10 ∷ text) left_after before taken
  written_up_to lost more left_after told cut = record {
    lost = read;
    more = more;
    all_bytes = ap (λ t. first ++ 10 ∷ t) (g.cut ∙ ap (λ t. flat_map ended g.lines ++ t) cut ∙ sym (append_assoc (flat_map ended g.lines) lost more)) ∙ sym (append_assoc first (10 ∷ (flat_map ended g.lines ++ lost)) more);
    left_bytes = told;
    rows = text_of (rows_of entries_of team g.past);
    rows_before = inr (record { team = team; past = g.past; schedule = b; text = refl; safe = (begins_well _ team g.past _ b).0; near = (begins_well _ team g.past _ b).1 });
    written = g.written;
  }
    where
      read : List ℕ
      read = first ++ 10 ∷ (flat_map ended g.lines ++ lost)

      b : Begins (ended_lines read) team g.past (ended_lines lost)
      b = begins _ _ (ended_lines-ended first (flat_map ended g.lines ++ lost) (team_line_is_one_line first team sound.0) ∙ ap (λ ls. first ∷ ls) (ended_lines-taken g.lines lost g.each))

  pub at_end : (held_after : List ℕ) (left_after : Option (List ℕ)) (result : Status) → EndsAt team g.past (held ++ g.rest) held_after left_after result → Ends (first ++ 10 ∷ text) left_after before taken result
  at_end held_after left_after status.Ok e = answered (Whole team g.past) left_after (begins_all [] (ap lines_of e.0)) refl (λ ok. e.1)
  at_end held_after left_after (status.BadSchedule number cause) e =
      rw e.5 (answered (BadLine team g.past cause) left_after (e.0, e.1, begins_all (e.0 ∷ e.1) e.2, e.3, e.4) refl (λ ok. cc))
  at_end held_after left_after status.TooLong e =
      let some = lines_of-some (held ++ g.rest) e.1 in
      answered (Endless team g.past) left_after (some.0, some.1, begins_all (some.0 ∷ some.1) some.2, e.0) refl (λ ok. cc)
  at_end held_after left_after status.ReadFault e = subst (λ (rest : List (List ℕ)). IsWrittenUpTo rest (first ++ 10 ∷ text) left_after before taken) (ended_lines-open held_after e.3) (written_up_to held_after e.0 left_after e.1 e.2)
  at_end held_after left_after status.WantOfMemory e = (ended_lines e.0, written_up_to e.0 e.1 left_after e.2 e.3)
  at_end held_after left_after status.Usage e = absurd e
  at_end held_after left_after (status.BadTeam fault) e = absurd e
  at_end held_after left_after status.WriteFault e = absurd e
  at_end held_after left_after status.LinkFault e = absurd e
  at_end held_after left_after (status.Differs line recorded computed) e = absurd e
  at_end held_after left_after status.ClockSpent e = absurd e

  -- with the step of the next line
  begins_one_more : (line : List ℕ) (later : List (List ℕ)) (w_after : code.World) (row : Row) → lines_of (held ++ g.rest) ≡ line ∷ later → w.steps < step_limit → (takes : TakesLine team g.past line w_after row)
      → Begins (lines_of (first ++ 10 ∷ text)) team (takes.0 ∷ g.past) later
  begins_one_more line later w_after row cut few takes = longer _ team g.past line later takes.0 (begins_all (line ∷ later) cut) (omega (arith, few, g.stands.steps)) takes.1 takes.2

  -- the last line has no line feed
  pub at_last : (held_after : List ℕ) (left_after taken_after : Option (List ℕ)) (w_after : code.World) (row : Row) (found : Line) → found ≡ kind.Last → IsNext team g.past (held ++ g.rest) held_after left_after w_after row (next.Taken found)
      → w.steps < step_limit → ((bytes : List ℕ) → taken ≡ Some bytes → taken_after ≡ Some (bytes ++ row_text row)) → Ends (first ++ 10 ∷ text) left_after before taken_after status.Ok
  at_last held_after left_after taken_after w_after row found last (line, is, takes) few puts =
      let alone = last_taken (held ++ g.rest) line found held_after left_after last is in
      record {
        rows = text_of (rows_of entries_of team (takes.0 ∷ g.past));
        tells = (Whole team (takes.0 ∷ g.past), begins_one_more line [] w_after row alone.0 few takes, refl, refl);
        written = row_behind team g.past before taken taken_after takes.0 row g.written puts takes.4;
        ended = λ ok. alone.1;
        well = rows_well (lines_of (first ++ 10 ∷ text));
      }

  -- the sink failed in a row
  pub at_write_fault : (held_after : List ℕ) (left_after taken_after : Option (List ℕ)) (w_after : code.World) (row : Row) (found : Line) → IsNext team g.past (held ++ g.rest) held_after left_after w_after row (next.Taken found)
      → w.steps < step_limit → ((bytes : List ℕ) → taken ≡ Some bytes → (n : ℕ) × (taken_after ≡ Some (bytes ++ take n (row_text row)))) → IsCutOff (first ++ 10 ∷ text) before taken_after
  at_write_fault held_after left_after taken_after w_after row found (line, is, takes) few cut =
      let front = line_taken (held ++ g.rest) line found held_after left_after is in
      let v = verdict_of _ team (takes.0 ∷ g.past) front.0 (begins_one_more line front.0 w_after row front.1 few takes) in
      let puts = cut _ g.written in
      let old = text_of (rows_of entries_of team g.past) in
      record {
        rows = text_before v.verdict;
        status = status_of v.verdict;
        tells = (v.verdict, v.is, refl, refl);
        count = length (old ++ take puts.0 (row_text row));
        written = puts.1 ∙ ap Some (append_assoc before old (take puts.0 (row_text row)) ∙ ap (λ t. before ++ t) (sym (front_of old (row_text row) v.later puts.0 _ (v.text ∙ ap (λ t. t ++ v.later) (sym (text_push team g.past takes.0 row takes.4))))));
        well = rows_well (lines_of (first ++ 10 ∷ text));
      }
    where
      front_of : (a row later : List ℕ) (n : ℕ) (rows : List ℕ) → rows ≡ (a ++ row) ++ later → take (length (a ++ take n row)) rows ≡ a ++ take n row
      front_of a row later n rows same = ap (λ t. take (length (a ++ take n row)) t) (same ∙ parts) ∙ take_at (a ++ take n row) (drop n row ++ later) _ refl
        where
          parts : (a ++ row) ++ later ≡ (a ++ take n row) ++ (drop n row ++ later)
          parts = ap (λ t. (a ++ t) ++ later) (sym (take-append-drop n row)) ∙ simp append_assoc refl

-- ---- the team's line

-- a verdict without rows
unwritten : (bytes before : List ℕ) (left : Option (List ℕ)) (v : Verdict) → IsVerdict (lines_of bytes) v → [] ≡ text_before v → (status_of v ≡ status.Ok → left ≡ Some []) → IsAnswered bytes left before (Some before) (status_of v)
unwritten bytes before left v is none ended = record {
  rows = [];
  tells = (v, is, refl, none);
  written = ap Some (sym (append-nil before));
  ended = ended;
  well = rows_well (lines_of bytes);
}

pub no_team : (bytes before : List ℕ) (left : Option (List ℕ)) → ((first : List ℕ) (others : List (List ℕ)) (team : Team) → lines_of bytes ≡ first ∷ others → IsTeamLine first team → ⊥) → Ends bytes left before (Some before) (status.BadSchedule 1 Grammar)
no_team bytes before left none = unwritten bytes before left NoTeam none refl (λ ok. cc)

pub no_line : (bytes before : List ℕ) (left : Option (List ℕ)) → bytes ≡ [] → Ends bytes left before (Some before) (status.BadSchedule 1 Grammar)
no_line bytes before left none = no_team bytes before left (λ first others team cut is. let empty : [] ≡ first ∷ others = sym (ap lines_of none) ∙ cut in cc)

pub not_a_team : (bytes before line : List ℕ) (left : Option (List ℕ)) (later : List (List ℕ)) → lines_of bytes ≡ line ∷ later → ((team : Team) → IsTeamLine line team → ⊥) → Ends bytes left before (Some before) (status.BadSchedule 1 Grammar)
not_a_team bytes before line left later cut none = no_team bytes before left (λ first others team other is. let same : first ≡ line = cc in none team (subst (λ (l : List ℕ). IsTeamLine l team) same is))

pub too_long : (bytes before : List ℕ) (left : Option (List ℕ)) (first : List ℕ) (others : List (List ℕ)) → lines_of bytes ≡ first ∷ others → line_limit < length first → Ends bytes left before (Some before) (status.BadSchedule 1 Grammar)
too_long bytes before left first others cut long = not_a_team bytes before first left others cut (λ team is. absurd (omega (arith, is.fits)))

pub bad_team : (bytes before line : List ℕ) (left : Option (List ℕ)) (later : List (List ℕ)) (team : Team) (fault : TeamFault) → lines_of bytes ≡ line ∷ later → IsTeamLine line team → fault_of team ≡ Some fault → Ends bytes left before (Some before) (status.BadTeam fault)
bad_team bytes before line left later team fault cut is has = unwritten bytes before left (Faulty fault) (line, later, team, cut, is, has) refl (λ ok. cc)

-- a team's line alone, without a line feed
pub team_alone : (bytes before line : List ℕ) (left : Option (List ℕ)) (team : Team) → lines_of bytes ≡ line ∷ [] → IsSoundLine line team → left ≡ Some [] → Ends bytes left before (Some before) status.Ok
team_alone bytes before line left team cut sound none = unwritten bytes before left (Whole team []) b refl (λ ok. none)
  where
    b : Begins (lines_of bytes) team [] []
    b = record { first = line; others = []; cut = cut; team_line = sound.0; sound = sound.1; steps = refl; admissible = tt; within = omega arith }

-- what was read is no whole line, or memory is wanting before the first step
pub none_written : (bytes before lost more : List ℕ) (left : Option (List ℕ)) → left ≡ Some more → bytes ≡ lost ++ more → IsWrittenUpTo (ended_lines lost) bytes left before (Some before)
none_written bytes before lost more left told cut = record {
  lost = lost;
  more = more;
  all_bytes = cut;
  left_bytes = told;
  rows = [];
  rows_before = inl (refl, refl);
  written = ap Some (sym (append-nil before));
}

pub no_whole_line : (bytes before held more : List ℕ) (left : Option (List ℕ)) → left ≡ Some more → bytes ≡ held ++ more → IsOneLine held → Ends bytes left before (Some before) status.ReadFault
no_whole_line bytes before held more left told cut one = subst (λ (rest : List (List ℕ)). IsWrittenUpTo rest bytes left before (Some before)) (ended_lines-open held one) (none_written bytes before held more left told cut)
