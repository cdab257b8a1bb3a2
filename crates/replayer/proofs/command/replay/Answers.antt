use Rattle.std.proofs.Common.{refl, inr, []}
use Rattle.tw_io.specs.Lines.{ended_lines}
use Rattle.schedule_text.specs.declared.status.Status.TheVariants as status
use Rattle.replayer.proofs.Tops.{apart}
use Rattle.replayer.proofs.Commands.{of_ends}
use Rattle.replayer.proofs.Replays.{none_written}
use Rattle.replayer.proofs.command.replay.Goals as goal

pub returns-in_default : goal.returns-in_default
returns-in_default g c = of_ends _ _ _ _ status.WantOfMemory (λ all before left taken. rw taken (ended_lines [], none_written all before [] all _ left refl))
    (λ e. absurd (apart _ _ refl e)) (λ e. absurd (apart _ _ refl e)) (inr tt)

pub returns : goal.returns
returns g c = of_ends _ _ _ _ c.replay_lines.result c.replay_lines.ensures.ends c.replay_lines.ensures.read_fault c.replay_lines.ensures.write_fault c.replay_lines.ensures.others
