-- A text is one thing only, so a status tells all that it says of the text, and nothing else tells it.
use Rattle.std.proofs.Common.{◌≡◌, inl, inr, ◌↔◌, ℕ, ◌+◌, ◌<◌, ◌≤◌, ◌^◌, refl, sym, ap, ◌∙◌, subst, List, [], ◌∷◌, length, Option, Some, None, arith}
use Rattle.std.proofs.lemmas.Bool.{cases_lt}
use Rattle.tw_machine.specs.Types.{Team, TeamFault, Cause, Step}
use Rattle.tw_types.specs.Team.{fault_of}
use Rattle.tw_types.specs.declared.step.Cause.TheVariants.{Grammar}
use Rattle.schedule_text.specs.declared.status.Status.{Status}
use Rattle.schedule_text.specs.declared.status.Status.TheVariants as status
use Rattle.tw_machine.specs.Grammar.{IsTeamLine, IsStepLine}
use Rattle.tw_machine.specs.Admissible.{cause_of}
use Rattle.tw_machine.specs.World.{world, Admissible}
use Rattle.replayer.specs.Replay.{step_limit, Spells, Begins, IsBadLine, Verdict, Whole, NoTeam, Faulty, BadLine, Endless, IsVerdict, status_of, text_before, Tells}
use Rattle.replayer.specs.Statuses.{IsGood, HasFaultyTeam, HasBadLine, HasTooMany, IsBadSchedule}
use Rattle.tw_machine.proofs.LineLaws.{team_line_once, step_line_once}

-- two fronts of equally many steps of the same lines are the same
same_length : (n : ℕ) → n ≤ 2 ^ 60 → (past newer : List Step) (rest after lines : List (List ℕ)) → length past ≡ length newer
    → Spells n past rest lines → Spells n newer after lines → (past ≡ newer) × (rest ≡ after)
same_length n small [] [] rest after lines same p q = (refl, sym p ∙ q)
same_length n small [] (s ∷ newer) rest after lines same p q = absurd (omega arith)
same_length n small (s ∷ past) [] rest after lines same p q = absurd (omega arith)
same_length n small (s ∷ past) (r ∷ newer) rest after lines same p q =
    let older = same_length n small past newer (p.0 ∷ rest) (q.0 ∷ after) lines (omega arith) p.2 q.2 in
    let line : p.0 ≡ q.0 = cc in
    let step : s ≡ r = step_line_once n q.0 s r small (subst (λ (l : List ℕ). IsStepLine n l s) line p.1) q.1 in
    (cc, cc)

-- the next line is that of a step that may follow
abbrev GoesOn : Team → List Step → List (List ℕ) → Type 0
GoesOn team past rest = (line : List ℕ) × (later : List (List ℕ)) × (s : Step) × (rest ≡ line ∷ later) × IsStepLine team.n line s × (cause_of team (world team past).sent past s ≡ None)

-- of two fronts of the same lines the shorter one goes on
shorter : (team : Team) → team.n ≤ 2 ^ 60 → (past newer : List Step) (rest after lines : List (List ℕ)) → length past < length newer
    → Spells team.n past rest lines → Spells team.n newer after lines → Admissible team newer → GoesOn team past rest
shorter team small past [] rest after lines less p q good = absurd (omega arith)
shorter team small past (s ∷ newer) rest after lines less p q good = elim (cases_lt (length past) (length newer)) [
  | inl l ↦ shorter team small past newer rest (q.0 ∷ after) lines l p q.2 good.0
  | inr l ↦
      let same = same_length team.n small past newer rest (q.0 ∷ after) lines (omega arith) p q.2 in
      (q.0, after, s, same.1, q.1, subst (λ (ss : List Step). cause_of team (world team ss).sent ss s ≡ None) (sym same.0) good.1)
]

-- where the steps of a front stop
data End (team : Team) (past : List Step) (rest : List (List ℕ)) (v : Verdict) : Type 0 where
  AtEnd : rest ≡ [] → v ≡ Whole team past → End team past rest v
  AtBad : (line : List ℕ) (later : List (List ℕ)) (cause : Cause) → rest ≡ line ∷ later → length past < step_limit → IsBadLine team past line cause → v ≡ BadLine team past cause → End team past rest v
  AtLimit : (line : List ℕ) (later : List (List ℕ)) → rest ≡ line ∷ later → length past ≡ step_limit → v ≡ Endless team past → End team past rest v

-- a line of a step that may follow can be taken
not_bad : (team : Team) (past : List Step) (line : List ℕ) (cause : Cause) (s : Step) → team.n ≤ 2 ^ 60 → IsBadLine team past line cause
    → IsStepLine team.n line s → cause_of team (world team past).sent past s ≡ None → ⊥
not_bad team past line cause s small (inl grammar) is may = grammar.1 s is
not_bad team past line cause s small (inr stepped) is may =
    let same : stepped.0 ≡ s = step_line_once team.n line stepped.0 s small stepped.1 is in
    let both : Some cause ≡ None = sym stepped.2 ∙ ap (λ (x : Step). cause_of team (world team past).sent past x) same ∙ may in
    cc

no_end : (team : Team) (past : List Step) (rest : List (List ℕ)) (v : Verdict) → team.n ≤ 2 ^ 60 → length past < step_limit → End team past rest v → GoesOn team past rest → ⊥
no_end team past rest v small low (AtEnd none e) on = let both : [] ≡ on.0 ∷ on.1 = sym none ∙ on.3 in cc
no_end team past rest v small low (AtBad line later cause cut l bad e) on =
    let same : on.0 ≡ line = cc in
    not_bad team past line cause on.2 small bad (subst (λ (l : List ℕ). IsStepLine team.n l on.2) same on.4) on.5
no_end team past rest v small low (AtLimit line later cut full e) on = absurd (omega arith)

-- a line can't be taken for one cause
one_cause : (team : Team) (past : List Step) (line : List ℕ) (a b : Cause) → team.n ≤ 2 ^ 60 → IsBadLine team past line a → IsBadLine team past line b → a ≡ b
one_cause team past line a b small (inl p) (inl q) = p.0 ∙ sym q.0
one_cause team past line a b small (inl p) (inr q) = absurd (p.1 q.0 q.1)
one_cause team past line a b small (inr p) (inl q) = absurd (q.1 p.0 p.1)
one_cause team past line a b small (inr p) (inr q) =
    let same : p.0 ≡ q.0 = step_line_once team.n line p.0 q.0 small p.1 q.1 in
    let both : Some a ≡ Some b = sym p.2 ∙ ap (λ (x : Step). cause_of team (world team past).sent past x) same ∙ q.2 in
    cc

same_end : (team : Team) (past : List Step) (rest : List (List ℕ)) (v w : Verdict) → team.n ≤ 2 ^ 60 → End team past rest v → End team past rest w → v ≡ w
same_end team past rest v w small (AtEnd none e) (AtEnd nil f) = e ∙ sym f
same_end team past rest v w small (AtEnd none e) (AtBad line later cause cut l bad f) = cc
same_end team past rest v w small (AtEnd none e) (AtLimit line later cut full f) = cc
same_end team past rest v w small (AtBad line later cause cut l bad e) (AtEnd none f) = cc
same_end team past rest v w small (AtBad line later cause cut l bad e) (AtBad other after why seen k worse f) =
    let same : other ≡ line = cc in
    let one : cause ≡ why = one_cause team past line cause why small bad (subst (λ (x : List ℕ). IsBadLine team past x why) same worse) in
    cc
same_end team past rest v w small (AtBad line later cause cut l bad e) (AtLimit other after seen full f) = absurd (omega arith)
same_end team past rest v w small (AtLimit line later cut full e) (AtEnd none f) = cc
same_end team past rest v w small (AtLimit line later cut full e) (AtBad other after why seen k worse f) = absurd (omega arith)
same_end team past rest v w small (AtLimit line later cut full e) (AtLimit other after seen whole f) = e ∙ sym f

-- two fronts of the same lines, of one team
one_end : (team : Team) (past newer : List Step) (rest after lines : List (List ℕ)) (v w : Verdict) → team.n ≤ 2 ^ 60
    → Spells team.n past rest lines → Admissible team past → length past ≤ step_limit → End team past rest v
    → Spells team.n newer after lines → Admissible team newer → length newer ≤ step_limit → End team newer after w → v ≡ w
one_end team past newer rest after lines v w small p good within e q sound most f = elim (cases_lt (length past) (length newer)) [
  | inl l ↦ absurd (no_end team past rest v small (omega arith) e (shorter team small past newer rest after lines l p q sound))
  | inr l ↦ elim (cases_lt (length newer) (length past)) [
    | inl k ↦ absurd (no_end team newer after w small (omega arith) f (shorter team small newer past after rest lines k q p good))
    | inr k ↦
        let same = same_length team.n small past newer rest after lines (omega arith) p q in
        let moved : End team past after w = subst (λ (ss : List Step). End team ss after w) (sym same.0) f in
        same_end team past rest v w small e (subst (λ (ls : List (List ℕ)). End team past ls w) (sym same.1) moved)
  ]
]

-- what stands first in the lines: no team's line, or that of a team, and its first fault
abbrev Starts : List (List ℕ) → Team → Option TeamFault → Type 0
Starts lines team fault = (first : List ℕ) × (others : List (List ℕ)) × (lines ≡ first ∷ others) × IsTeamLine first team × (fault_of team ≡ fault)

starts : (lines : List (List ℕ)) (team : Team) (past : List Step) (rest : List (List ℕ)) → Begins lines team past rest → Starts lines team None
starts lines team past rest b = (b.first, b.others, b.cut, b.team_line, b.sound)

one_start : (lines : List (List ℕ)) (team other : Team) (fault why : Option TeamFault) → Starts lines team fault → Starts lines other why → (team ≡ other) × (fault ≡ why)
one_start lines team other fault why p q =
    let first : p.0 ≡ q.0 = cc in
    let same : team ≡ other = team_line_once q.0 team other (subst (λ (l : List ℕ). IsTeamLine l team) first p.3) q.3 in
    (same, sym p.4 ∙ ap fault_of same ∙ q.4)

-- the three kinds of verdicts: no team's line, a team with a fault, and a front of good steps
data Kind (lines : List (List ℕ)) (v : Verdict) : Type 0 where
  Untold : IsVerdict lines NoTeam → v ≡ NoTeam → Kind lines v
  Fault : (team : Team) (fault : TeamFault) → Starts lines team (Some fault) → v ≡ Faulty fault → Kind lines v
  Front : (team : Team) (past : List Step) (rest : List (List ℕ)) → Begins lines team past rest → End team past rest v → Kind lines v

kind : (lines : List (List ℕ)) (v : Verdict) → IsVerdict lines v → Kind lines v
kind lines (Whole team past) is = Front team past [] is (AtEnd refl refl)
kind lines NoTeam is = Untold is refl
kind lines (Faulty fault) is = Fault is.2 fault (is.0, is.1, is.3, is.4, is.5) refl
kind lines (BadLine team past cause) is = Front team past (is.0 ∷ is.1) is.2 (AtBad is.0 is.1 cause refl is.3 is.4 refl)
kind lines (Endless team past) is = Front team past (is.0 ∷ is.1) is.2 (AtLimit is.0 is.1 refl is.3 refl)

same_team : (lines : List (List ℕ)) (team : Team) (past newer : List Step) (rest after : List (List ℕ)) (v w : Verdict)
    → Begins lines team past rest → End team past rest v → Begins lines team newer after → End team newer after w → v ≡ w
same_team lines team past newer rest after v w b e c f =
    let others : b.others ≡ c.others = cc in
    let small : team.n ≤ 2 ^ 60 = omega (arith, b.team_line.written.n) in
    one_end team past newer rest after c.others v w small (subst (λ (ls : List (List ℕ)). Spells team.n past rest ls) others b.steps) b.admissible b.within e c.steps c.admissible c.within f

same_kind : (lines : List (List ℕ)) (v w : Verdict) → Kind lines v → Kind lines w → v ≡ w
same_kind lines v w (Untold none e) (Untold nil f) = e ∙ sym f
same_kind lines v w (Untold none e) (Fault team fault p f) = absurd (none p.0 p.1 team p.2 p.3)
same_kind lines v w (Untold none e) (Front team past rest b f) = absurd (none b.first b.others team b.cut b.team_line)
same_kind lines v w (Fault team fault p e) (Untold none f) = absurd (none p.0 p.1 team p.2 p.3)
same_kind lines v w (Fault team fault p e) (Fault other why q f) = let same : Some fault ≡ Some why = (one_start lines team other (Some fault) (Some why) p q).1 in cc
same_kind lines v w (Fault team fault p e) (Front other past rest b f) = let same : Some fault ≡ None = (one_start lines team other (Some fault) None p (starts lines other past rest b)).1 in cc
same_kind lines v w (Front team past rest b e) (Untold none f) = absurd (none b.first b.others team b.cut b.team_line)
same_kind lines v w (Front team past rest b e) (Fault other why q f) = let same : None ≡ Some why = (one_start lines team other None (Some why) (starts lines team past rest b) q).1 in cc
same_kind lines v w (Front team past rest b e) (Front other newer after c f) =
    let same = (one_start lines team other None None (starts lines team past rest b) (starts lines other newer after c)).0 in
    let moved = subst (λ (x : Team). Begins lines x newer after × End x newer after w) (sym same) (c, f) in
    same_team lines team past newer rest after v w b e moved.0 moved.1

pub verdict_once : (lines : List (List ℕ)) (v w : Verdict) → IsVerdict lines v → IsVerdict lines w → v ≡ w
verdict_once lines v w p q = same_kind lines v w (kind lines v p) (kind lines w q)

-- the status is that of any verdict of the lines
status_is : (lines : List (List ℕ)) (s : Status) (text : List ℕ) (v : Verdict) → Tells lines s text → IsVerdict lines v → s ≡ status_of v
status_is lines s text v tells is = tells.2 ∙ ap status_of (verdict_once lines tells.0 v tells.1 is)

ok_of : (lines : List (List ℕ)) (v : Verdict) → IsVerdict lines v → status_of v ≡ status.Ok → IsGood lines
ok_of lines (Whole team past) is e = (team, past, is)
ok_of lines NoTeam is e = cc
ok_of lines (Faulty fault) is e = cc
ok_of lines (BadLine team past cause) is e = cc
ok_of lines (Endless team past) is e = cc

pub ok_exactly : (lines : List (List ℕ)) (s : Status) (text : List ℕ) → Tells lines s text → (s ≡ status.Ok) ↔ IsGood lines
ok_exactly lines s text tells = (λ e. ok_of lines tells.0 tells.1 (sym tells.2 ∙ e), λ good. status_is lines s text (Whole good.0 good.1) tells good.2)

faulty_of : (lines : List (List ℕ)) (v : Verdict) (fault : TeamFault) → IsVerdict lines v → status_of v ≡ status.BadTeam fault → HasFaultyTeam lines fault
faulty_of lines (Whole team past) fault is e = cc
faulty_of lines NoTeam fault is e = cc
faulty_of lines (Faulty why) fault is e = let same : why ≡ fault = cc in (is.0, is.1, is.2, is.3, is.4, is.5 ∙ ap Some same)
faulty_of lines (BadLine team past cause) fault is e = cc
faulty_of lines (Endless team past) fault is e = cc

pub bad_team_exactly : (lines : List (List ℕ)) (s : Status) (text : List ℕ) → Tells lines s text → (fault : TeamFault) → (s ≡ status.BadTeam fault) ↔ HasFaultyTeam lines fault
bad_team_exactly lines s text tells fault = (λ e. faulty_of lines tells.0 fault tells.1 (sym tells.2 ∙ e), λ has. status_is lines s text (Faulty fault) tells has)

bad_line_of : (lines : List (List ℕ)) (v : Verdict) → IsVerdict lines v → IsBadSchedule (status_of v) → HasBadLine lines
bad_line_of lines (Whole team past) is bad = let e = bad.2 in cc
bad_line_of lines NoTeam is bad = inl is
bad_line_of lines (Faulty fault) is bad = let e = bad.2 in cc
bad_line_of lines (BadLine team past cause) is bad = inr (team, past, cause, is)
bad_line_of lines (Endless team past) is bad = let e = bad.2 in cc

bad_line_told : (lines : List (List ℕ)) (s : Status) (text : List ℕ) → Tells lines s text → HasBadLine lines → IsBadSchedule s
bad_line_told lines s text tells (inl none) = (1, Grammar, status_is lines s text NoTeam tells none)
bad_line_told lines s text tells (inr h) = (length h.1 + 2, h.2, status_is lines s text (BadLine h.0 h.1 h.2) tells h.3)

pub bad_schedule_exactly : (lines : List (List ℕ)) (s : Status) (text : List ℕ) → Tells lines s text → IsBadSchedule s ↔ HasBadLine lines
bad_schedule_exactly lines s text tells = (λ bad. bad_line_of lines tells.0 tells.1 (bad.0, bad.1, sym tells.2 ∙ bad.2), λ has. bad_line_told lines s text tells has)

too_many_of : (lines : List (List ℕ)) (v : Verdict) → IsVerdict lines v → status_of v ≡ status.TooLong → HasTooMany lines
too_many_of lines (Whole team past) is e = cc
too_many_of lines NoTeam is e = cc
too_many_of lines (Faulty fault) is e = cc
too_many_of lines (BadLine team past cause) is e = cc
too_many_of lines (Endless team past) is e = (team, past, is)

pub too_long_exactly : (lines : List (List ℕ)) (s : Status) (text : List ℕ) → Tells lines s text → (s ≡ status.TooLong) ↔ HasTooMany lines
too_long_exactly lines s text tells = (λ e. too_many_of lines tells.0 tells.1 (sym tells.2 ∙ e), λ has. status_is lines s text (Endless has.0 has.1) tells has.2)

nothing_before : (v : Verdict) (fault : TeamFault) → status_of v ≡ status.BadTeam fault → text_before v ≡ []
nothing_before (Whole team past) fault e = cc
nothing_before NoTeam fault e = refl
nothing_before (Faulty why) fault e = refl
nothing_before (BadLine team past cause) fault e = cc
nothing_before (Endless team past) fault e = cc

pub nothing_written : (lines : List (List ℕ)) (s : Status) (text : List ℕ) → Tells lines s text → (fault : TeamFault) → s ≡ status.BadTeam fault → text ≡ []
nothing_written lines s text tells fault e = tells.3 ∙ nothing_before tells.0 fault (sym tells.2 ∙ e)
