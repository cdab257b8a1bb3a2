use Rattle.std.proofs.Common.{◌≡◌, ◌++◌, arith, rules}
use Rattle.call_outside.proofs.Pieces.{left_of_none, all_done, moved_on, still_all}
use Rattle.call_outside.proofs.copying.copy.Goals as goal

pub returns-in-Ok-eq0-clause-to_the_end : goal.returns-in-Ok-eq0-clause-to_the_end
returns-in-Ok-eq0-clause-to_the_end g c whole bytes h =
    let told = c.loop.invariant.read bytes h in
    let read = c.in-Ok-eq0.ensures in
    left_of_none _ told.0 _ (read.rest told.0 told.1) (read.end told.0 told.1 (search rules) (omega arith))

pub returns-in-Ok-eq0-clause-all_of_it : goal.returns-in-Ok-eq0-clause-all_of_it
returns-in-Ok-eq0-clause-all_of_it g c whole bytes before h k =
    let told = c.loop.invariant.written bytes before h k in
    let read = c.in-Ok-eq0.ensures in
    all_done _ bytes before told.0 told.1 told.3 told.4 (read.end told.1 told.2 (search rules) (omega arith))

pub loop-preserved : goal.loop-preserved
loop-preserved g c = record {
  read = λ bytes h. let told = c.loop.invariant.read bytes h in (_, c.in-Ok.ensures.rest told.0 told.1);
  written = λ bytes before h k.
      let told = c.loop.invariant.written bytes before h k in
      let read = c.in-Ok.ensures in
      let write = c.in-Ok-write.ensures in
      let whole : c.in-Ok.field-0 ≡ c.in-Ok-write.field-0 = omega (arith, read.within, write.within) in
      (_, _, read.rest told.1 told.2, moved_on _ before told.0 c.read.new.buf _ (write.takes (before ++ told.0) told.3), still_all bytes told.0 told.1 c.read.new.buf _ _ told.4 whole (read.given told.1 told.2));
  read_faults = omega (arith, c.read.ensures.monotone, c.loop.invariant.read_faults);
  write_faults = omega (arith, c.write.ensures.monotone, c.loop.invariant.write_faults);
}
