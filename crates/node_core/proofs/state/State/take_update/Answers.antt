use Rattle.std.proofs.Common.{◌≡◌, ◌∙◌, refl, sym, ap, subst}
use Rattle.tw_types.specs.declared.team.Team.{Team}
use Rattle.tw_types.specs.Waiting.{Filled, Stored, Known, Stranger, OutOfRange}
use Rattle.tw_machine.specs.Updating.{received_as, update_kept}
use Rattle.update_store.specs.Put.{putting_of}
use Rattle.node_core.specs.Sends.{GivesMore}
use Rattle.node_core.proofs.Uses.{kept_run}
use Rattle.node_core.proofs.state.State.take_update.Goals as goal

pub returns-in-Filled-clause-stands : goal.returns-in-Filled-clause-stands
returns-in-Filled-clause-stands c = λ team r s.
    let how : received_as r.process c.args.kept.now ≡ Filled = sym (c.put_received.ensures.answer r.process s.process) ∙ ap putting_of c.in-Filled.is in
    rw how (c.use_if_whole.ensures.stands team (update_kept Filled c.args.kept.now r) (kept_run team c.args.self.now c.put_received.new.self c.args.out.now r c.args.kept.now _ Filled s c.put_received.ensures.team (c.put_received.ensures.stands r.process s.process) how))

pub returns-in-Known-clause-stands : goal.returns-in-Known-clause-stands
returns-in-Known-clause-stands c = λ team r s.
    let how : received_as r.process c.args.kept.now ≡ Known = sym (c.put_received.ensures.answer r.process s.process) ∙ ap putting_of c.in-Known.is in
    rw how (kept_run team c.args.self.now c.put_received.new.self c.args.out.now r c.args.kept.now _ Known s c.put_received.ensures.team (c.put_received.ensures.stands r.process s.process) how)

pub returns-in-Stranger-clause-stands : goal.returns-in-Stranger-clause-stands
returns-in-Stranger-clause-stands c = λ team r s.
    let how : received_as r.process c.args.kept.now ≡ Stranger = sym (c.put_received.ensures.answer r.process s.process) ∙ ap putting_of c.in-Stranger.is in
    rw how (kept_run team c.args.self.now c.put_received.new.self c.args.out.now r c.args.kept.now _ Stranger s c.put_received.ensures.team (c.put_received.ensures.stands r.process s.process) how)

pub returns-in-OutOfRange-clause-stands : goal.returns-in-OutOfRange-clause-stands
returns-in-OutOfRange-clause-stands c = λ team r s.
    let how : received_as r.process c.args.kept.now ≡ OutOfRange = sym (c.put_received.ensures.answer r.process s.process) ∙ ap putting_of c.in-OutOfRange.is in
    rw how (kept_run team c.args.self.now c.put_received.new.self c.args.out.now r c.args.kept.now _ OutOfRange s c.put_received.ensures.team (c.put_received.ensures.stands r.process s.process) how)

pub returns-in-Stored-clause-stands : goal.returns-in-Stored-clause-stands
returns-in-Stored-clause-stands c = λ team r s.
    let how : received_as r.process c.args.kept.now ≡ Stored = sym (c.put_received.ensures.answer r.process s.process) ∙ ap putting_of c.in-Stored.is in
    rw how (kept_run team c.args.self.now c.put_received.new.self c.args.out.now r c.args.kept.now _ Stored s c.put_received.ensures.team (c.put_received.ensures.stands r.process s.process) how)

pub returns-in-Filled-clause-gives : goal.returns-in-Filled-clause-gives
returns-in-Filled-clause-gives c = subst (λ (x : Team). GivesMore x.n 1 c.args.out.now c.use_if_whole.new.out) c.put_received.ensures.team c.use_if_whole.ensures.gives

pub returns-in-Filled-clause-dropped : goal.returns-in-Filled-clause-dropped
returns-in-Filled-clause-dropped c = λ team r s.
    let how : received_as r.process c.args.kept.now ≡ Filled = sym (c.put_received.ensures.answer r.process s.process) ∙ ap putting_of c.in-Filled.is in
    rw how refl

pub returns-in-Stored-clause-dropped : goal.returns-in-Stored-clause-dropped
returns-in-Stored-clause-dropped c = λ team r s.
    let how : received_as r.process c.args.kept.now ≡ Stored = sym (c.put_received.ensures.answer r.process s.process) ∙ ap putting_of c.in-Stored.is in
    rw how refl

pub returns-in-Known-clause-dropped : goal.returns-in-Known-clause-dropped
returns-in-Known-clause-dropped c = λ team r s.
    let how : received_as r.process c.args.kept.now ≡ Known = sym (c.put_received.ensures.answer r.process s.process) ∙ ap putting_of c.in-Known.is in
    rw how refl

pub returns-in-Stranger-clause-dropped : goal.returns-in-Stranger-clause-dropped
returns-in-Stranger-clause-dropped c = λ team r s.
    let how : received_as r.process c.args.kept.now ≡ Stranger = sym (c.put_received.ensures.answer r.process s.process) ∙ ap putting_of c.in-Stranger.is in
    rw how refl

pub returns-in-OutOfRange-clause-dropped : goal.returns-in-OutOfRange-clause-dropped
returns-in-OutOfRange-clause-dropped c = λ team r s.
    let how : received_as r.process c.args.kept.now ≡ OutOfRange = sym (c.put_received.ensures.answer r.process s.process) ∙ ap putting_of c.in-OutOfRange.is in
    rw how refl
