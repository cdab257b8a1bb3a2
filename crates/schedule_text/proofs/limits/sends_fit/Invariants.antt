use Rattle.schedule_text.proofs.Fitting.{Numbered}
use Rattle.schedule_text.proofs.limits.sends_fit.Given as goal

abbrev pub invariant-loop-to : goal.invariant-loop-to
invariant-loop-to l = Numbered l.first l.sends l.to-index l.number
