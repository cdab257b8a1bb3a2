use Rattle.std.proofs.Common.{subst, sym, ℕ, List, ◌∷◌, ◌++◌}
use Rattle.tw_io.specs.Lines.{ended_lines}
use Rattle.tw_io.specs.LineReader.{held}
use Rattle.replayer.specs.Answers.{Ends}
use Rattle.replayer.proofs.Replays.{is_last, not_last, last_taken, ended_taken, lost_taken, team_alone, none_written}
use Rattle.replayer.proofs.steps.replay_lines.Goals as goal

pub returns-in-Err-clause-ends : goal.returns-in-Err-clause-ends
returns-in-Err-clause-ends g c = λ all before left taken. rw taken ((rw c.requires.held at c.in-Err.ensures.end) all before left)

pub returns-then-eq-clause-ends : goal.returns-then-eq-clause-ends
returns-then-eq-clause-ends g c = λ all before left taken.
    let first = (rw c.requires.held at c.in-Ok.ensures.first) all left in
    let alone = last_taken all first.0 c.in-Ok.first.1 (held c.first_line.new.reader) _ (is_last c.in-Ok.first.1 c.if-eq.ensures) first.1 in
    rw taken (team_alone all before first.0 _ _ alone.0 first.2 alone.1)

pub returns-in_default-clause-ends : goal.returns-in_default-clause-ends
returns-in_default-clause-ends g c = λ all before left taken.
    let first = (rw c.requires.held at c.in-Ok.ensures.first) all left in
    let lost = lost_taken all first.0 _ (held c.first_line.new.reader) _ first.1 in
    rw taken (ended_lines lost.0, none_written all before lost.0 lost.1 _ lost.2 lost.3)

pub returns-clause-ends : goal.returns-clause-ends
returns-clause-ends g c = λ all before left taken.
    let first = (rw c.requires.held at c.in-Ok.ensures.first) all left in
    let cut = ended_taken all first.0 c.in-Ok.first.1 (held c.first_line.new.reader) _ (not_last c.in-Ok.first.1 c.if-eq.ensures) first.1 in
    subst (λ (t : List ℕ). Ends t (g.S.Source.left c.take_steps.new.src) before (g.K.Sink.taken c.take_steps.new.sink) c.take_steps.result) (sym cut.2) (c.take_steps.ensures.ends first.0 cut.0 before first.2 cut.1 taken)
