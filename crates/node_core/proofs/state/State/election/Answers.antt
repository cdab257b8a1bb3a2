use Rattle.std.proofs.Common.{◌∙◌, refl, sym, ap, arith}
use Rattle.tw_types.specs.declared.message.Member.{Member}
use Rattle.tw_types.specs.Beliefs.{last_of}
use Rattle.tw_types.specs.Votes.{Vote}
use Rattle.tw_types.specs.Promises.{is_quarantined}
use Rattle.tw_machine.specs.Standing.{last_decision, report_by}
use Rattle.node_core.specs.StandsFor.{belief_seen}
use Rattle.node_core.proofs.Concerns.{held_by, begun_alike, begun_above, begun_own, begun_within, only_stuck, told}
use Rattle.node_core.proofs.state.State.election.Goals as goal

pub returns-clause-held : goal.returns-clause-held
returns-clause-held c = λ team r same s. held_by team c.args.now.now c.args.t r _
    (c.begin_slot.ensures.exact ∙ begun_alike c.args.self.now.team team c.args.t _ (report_by r.process c.args.t) _ (last_decision r.process) c.args.self.now.vote.promised r.process.vote.promised _ (is_quarantined team r.process.identity c.args.now.now.h)
    same (c.report.ensures.exact r.process s) (c.last.ensures ∙ sym (ap last_of s.belief)) (sym (ap (λ (v : Vote). v.promised) s.vote)) (c.is_quarantined.ensures ∙ rw (← same, s.identity) refl))

pub returns-clause-why : goal.returns-clause-why
returns-clause-why c = only_stuck c.args.self.now.team c.args.t _ _ c.args.self.now.vote.promised _ _ c.begin_slot.ensures.exact

pub returns-clause-own : goal.returns-clause-own
returns-clause-own c = begun_own c.args.self.now.team c.args.t _ _ c.args.self.now.vote.promised _ c.args.self.now.identity.who _ c.begin_slot.ensures.exact (ap (λ (m : Member). m.who) c.report.ensures.member)

pub returns-clause-within : goal.returns-clause-within
returns-clause-within c = begun_within c.args.self.now.team c.args.t _ _ c.args.self.now.vote.promised _ c.args.self.now.identity.who c.args.self.now.oal.length _ c.begin_slot.ensures.exact (omega (arith, c.report.ensures.length))

pub returns-clause-fits : goal.returns-clause-fits
returns-clause-fits c = c.begin_slot.ensures.fits c.requires.reading c.report.ensures.fits
    (rw c.last.ensures (told c.args.self.now.team.n (belief_seen c.args.self.now.belief) c.report.result _ c.requires.fits.view refl c.report.ensures.kind c.report.ensures.group c.report.ensures.turn))

pub returns-clause-above : goal.returns-clause-above
returns-clause-above c = begun_above c.args.self.now.team c.args.t _ _ c.args.self.now.vote.promised _ _ c.begin_slot.ensures.exact
