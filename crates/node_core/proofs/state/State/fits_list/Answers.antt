use Rattle.node_core.proofs.Fitting.{tells}
use Rattle.node_core.proofs.state.State.fits_list.Goals as goal

pub returns : goal.returns
returns c = tells c.fits.result _ c.fits.ensures.value
