use Rattle.std.proofs.Common.{◌≡◌, ◌∙◌, ◌<◌, ◌^◌, ◌+◌, ◌++◌, ◌∷◌, refl, sym, ap, subst, length, map, Option, arith}
use Rattle.std.specs.List.{AllByRecursion}
use Rattle.tw_types.specs.declared.team.Team.{Team}
use Rattle.tw_types.specs.Team.{IsSound}
use Rattle.tw_types.specs.Process.{Process}
use Rattle.tw_machine.specs.World.{world}
use Rattle.node_core.specs.Sends.{IsSendable}
use Rattle.world.specs.Deeds.{RunsAs, IsReady}
use Rattle.world.specs.Datagrams.{datagrams, spelled}
use Rattle.world.specs.StandsFor.{NodeStandsFor}
use Rattle.world.specs.Bounds.{AreBoundsOf}
use Rattle.world.specs.Readings.{readings_of}
use Rattle.world.proofs.Histories.{given_before, runs_before, received_before, readings_not_above, next_own}
use Rattle.world.proofs.Worlds.{there, one_of, all_written, same_sent, next_sent, next_world, next_row, as_many}
use Rattle.world.proofs.world.World.take.Goals as goal

pub invariant_of-self-2-clause-one_team : goal.invariant_of-self-2-clause-one_team
invariant_of-self-2-clause-one_team c =
    let n = c.args.self.now.team.n in
    let found = one_of n c.args.self.now.processes.items c.from.result c.index_mut-node.result.now (omega (arith, c.args.self.now.each)) c.index_mut-node.ensures.value c.args.self.now.one_team in
    all_written n c.args.self.now.processes.items c.from.result c.act-answer.new.self c.args.self.now.one_team (c.act-answer.ensures.same_team n (c.in_ok-note.ensures.same_team found))

pub returns-clause-taken : goal.returns-clause-taken
returns-clause-taken c = λ team past stands none.
    let before : Option Process = (world team past).process_of c.args.step.now.who in
    let at = there c.args.self.now.processes.items c.from.result c.args.step.now.who c.index_mut-node.result.now (omega arith) (omega (arith, c.args.self.now.each)) c.index_mut-node.ensures.value in
    let own = stands.each c.args.step.now.who c.index_mut-node.result.now at in
    let known = given_before team past c.args.step.now before none own.known in
    let runs : RunsAs c.args.self.now.team c.index_mut-node.result.now.core before = rw stands.same_team own.running in
    let ready : IsReady team c.args.step.now.who c.args.step.now.h c.args.step.now.act c.note.new.self.core before =
    subst (λ (t : Team). IsReady t c.args.step.now.who c.args.step.now.h c.args.step.now.act c.note.new.self.core before) stands.same_team
    (c.in_ok-note.ensures.ready before runs known (runs_before team past c.index_mut-node.result.now c.args.step.now own none)) in
    let sent = same_sent team c.args.self.now.sent c.reserve.new.self (world team past).sent c.in_ok-reserve.ensures.bytes c.in_ok-reserve.ensures.places stands.sent in
    let sound : IsSound team = subst IsSound stands.same_team c.args.self.now.sound in
    let line : team.line < 2 ^ 32 = subst (λ (t : Team). t.line < 2 ^ 32) stands.same_team c.args.self.now.line in
    let deed = c.act-answer.ensures.deed team before (world team past).sent sound line sent (received_before team (world team past).sent past c.args.step.now none) ready in
    let bounds : AreBoundsOf team.ppm c.act-answer.new.self.bounds (_) =
    rw c.act-answer.ensures.bounds
    (subst (λ (t : Team). AreBoundsOf t.ppm c.note.new.self.bounds (record { t = c.args.step.now.t; h = c.args.step.now.h } ∷ readings_of c.args.step.now.who past)) stands.same_team
    (c.in_ok-note.ensures.bounds (readings_of c.args.step.now.who past) (readings_not_above team past c.args.step.now none)
    (subst (λ (t : Team). AreBoundsOf t.ppm c.index_mut-node.result.now.bounds (readings_of c.args.step.now.who past)) (sym stands.same_team) own.bounds))) in
    let own_after : NodeStandsFor team (_) c.args.step.now.who c.act-answer.new.self = next_own team past c.args.step.now c.index_mut-node.result.now c.act-answer.new.self own known
    bounds (c.act-answer.ensures.started ∙ c.in_ok-note.ensures.started) deed.running in
    let n = c.args.self.now.team.n in
    let found = one_of n c.args.self.now.processes.items c.from.result c.index_mut-node.result.now (omega (arith, c.args.self.now.each)) c.index_mut-node.ensures.value c.args.self.now.one_team in
    let fits : AllByRecursion (IsSendable team.n) c.act-answer.new.out.sends =
    subst (λ (t : Team). AllByRecursion (IsSendable t.n) c.act-answer.new.out.sends) stands.same_team (c.act-answer.ensures.fits n (c.in_ok-note.ensures.same_team found)) in
    let kept : datagrams c.keep.new.self ≡ datagrams c.reserve.new.self ++ map (spelled team.line) c.act-answer.new.out.sends =
    subst (λ (t : Team). datagrams c.keep.new.self ≡ datagrams c.reserve.new.self ++ map (spelled t.line) c.act-answer.new.out.sends) stands.same_team c.keep.ensures.kept in
    let sent_after = next_sent team c.reserve.new.self c.keep.new.self past c.args.step.now c.act-answer.new.out.sends sent (ap (λ o. o.sends) deed.out) kept fits in
    let count : c.count.result + 1 ≡ length (world team past).sent + 1 = let many = as_many team c.reserve.new.self (world team past).sent sent in omega (arith, many, c.reserve.new.self.places.ok, c.count.ensures) in (
      next_world team past c.args.self.now _ c.args.step.now c.act-answer.new.self stands none own_after sent_after refl refl refl (rw c.from.ensures refl),
      c.fill.ensures ∙ rw c.line.ensures (next_row team past c.args.step.now (c.args.self.now.steps + 1) (c.count.result + 1) c.act-answer.new.self.core c.act-answer.result.0 c.act-answer.result.1 c.act-answer.new.out c.shown-entries.result.now
          (ap (λ n. n + 1) stands.steps) count deed (c.shown-entries.ensures.entries team _ deed.running)),
    )

pub note-requires-clause-sound : goal.note-requires-clause-sound
note-requires-clause-sound c = c.args.self.now.sound

pub note-requires-clause-who : goal.note-requires-clause-who
note-requires-clause-who c = c.requires.who

pub note-requires-clause-h : goal.note-requires-clause-h
note-requires-clause-h c = c.requires.h

pub act-answer-requires-clause-h : goal.act-answer-requires-clause-h
act-answer-requires-clause-h c = c.requires.h

pub act-answer-requires-clause-act : goal.act-answer-requires-clause-act
act-answer-requires-clause-act c = c.requires.act

pub keep-requires-clause-sound : goal.keep-requires-clause-sound
keep-requires-clause-sound c = c.args.self.now.sound

pub keep-requires-clause-fits : goal.keep-requires-clause-fits
keep-requires-clause-fits c =
    let n = c.args.self.now.team.n in
    let found = one_of n c.args.self.now.processes.items c.from.result c.index_mut-node.result.now (omega (arith, c.args.self.now.each)) c.index_mut-node.ensures.value c.args.self.now.one_team in
    c.act-answer.ensures.fits n (c.in_ok-note.ensures.same_team found)

pub keep-requires-clause-room : goal.keep-requires-clause-room
keep-requires-clause-room c = c.in_ok-reserve.ensures.room

pub fill-requires : goal.fill-requires
fill-requires c = c.shown-entries.ensures.few

pub returns-clause-steps : goal.returns-clause-steps
returns-clause-steps c = refl

pub returns-clause-team : goal.returns-clause-team
returns-clause-team c = refl
