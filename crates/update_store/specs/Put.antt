-- The answers of the program to an update that is put, as they are defined.
use Rattle.tw_types.specs.Waiting.{Putting}
use Rattle.tw_types.specs.Waiting as puttings
use Rattle.update_store.specs.declared.putting.Put.{Put}
use Rattle.update_store.specs.declared.putting.Put.TheVariants as puts

abbrev pub putting_of : Put → Putting
putting_of puts.Filled = puttings.Filled
putting_of puts.Stored = puttings.Stored
putting_of puts.Known = puttings.Known
putting_of puts.Stranger = puttings.Stranger
putting_of puts.OutOfRange = puttings.OutOfRange
