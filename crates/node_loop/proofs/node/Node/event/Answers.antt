use Rattle.std.proofs.Common.{◌≡◌, refl, sym, ap, subst, ◌∙◌, ◌+◌, List, map}
use Rattle.tw_machine.specs.NodeRun.{process_after, told_of, calls_of}
use Rattle.schedule_text.specs.Puts.{Written, Cut}
use Rattle.record_text.specs.Inputs.{input_seen}
use Rattle.record_text.specs.Packets.{packet_seen}
use Rattle.node_loop.specs.Calls.{Sent}
use Rattle.node_loop.specs.Does.{Does}
use Rattle.node_loop.specs.Events.{meaning_by, written_of}
use Rattle.node_loop.proofs.Runs.{event_runs, told_seen, text_told, calls_made, does_all, does_stop}
use Rattle.node_loop.proofs.node.Node.event.Goals as goal

pub returns-in_err-record-clause-runs : goal.returns-in_err-record-clause-runs
returns-in_err-record-clause-runs g c = λ n happened r.
    let meaning = meaning_by g.A.Machine.empty g.A.Machine.after g.A.Machine.snapshot_of in
    let done = c.happen.ensures.happens (process_after n happened) r.stands r.known in
    let number = c.args.self.now.events + 1 in
    let input = input_seen c.args.input.now in
    let same = text_told meaning g.A.Machine.empty g.A.Machine.after n happened c.args.h number input c.args.self.now _ _ _ r done in (
      event_runs meaning g.A.Machine.empty g.A.Machine.after n happened c.args.h number input c.args.self.now _ r refl refl done,
      done.row_is ∙ ap (λ t. t.row) (sym (told_seen meaning g.A.Machine.empty g.A.Machine.after n happened c.args.h number input c.args.self.now r)),
      does_stop _ _ c.from_residual.ensures.0 (rw same (rw c.as_slice.ensures.items at c.in_err-record.ensures.cut)),
    )

pub returns-clause-runs : goal.returns-clause-runs
returns-clause-runs g c = λ n happened r.
    let meaning = meaning_by g.A.Machine.empty g.A.Machine.after g.A.Machine.snapshot_of in
    let done = c.happen.ensures.happens (process_after n happened) r.stands r.known in
    let number = c.args.self.now.events + 1 in
    let input = input_seen c.args.input.now in
    let same = text_told meaning g.A.Machine.empty g.A.Machine.after n happened c.args.h number input c.args.self.now _ _ _ r done in
    let calls = calls_made meaning g.A.Machine.empty g.A.Machine.after n happened c.args.h number input c.args.self.now _ _ _ r done in (
      event_runs meaning g.A.Machine.empty g.A.Machine.after n happened c.args.h number input c.args.self.now _ r refl refl done,
      done.row_is ∙ ap (λ t. t.row) (sym (told_seen meaning g.A.Machine.empty g.A.Machine.after n happened c.args.h number input c.args.self.now r)),
      does_all _ (rw same (rw c.as_slice.ensures.items at c.in_ok-record.ensures.written)) (rw calls (rw (c.deref.ensures.0, c.as_slice-2.ensures.items) at c.send_all.ensures.sent)),
    )
