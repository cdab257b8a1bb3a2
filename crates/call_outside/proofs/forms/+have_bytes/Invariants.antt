use Rattle.std.proofs.Common.{length}
use Rattle.call_outside.proofs.forms.+have_bytes.Given as goal

-- proposed from what the function passes where it calls itself
abbrev pub decreases-have_bytes : goal.decreases-have_bytes
decreases-have_bytes l = length l.arrivals.now
