use Rattle.std.proofs.Common.{◌≡◌, ◌+◌, ◌-◌, ◌≤◌, Some, min, length, get_or, take, drop, arith, rules}
use Rattle.tw_io.proofs.Buffer.{next_there, fits_there, copied_in}
use Rattle.tw_io.proofs.arrivals.Arrivals.take.Goals as goal

pub returns-clause-bytes : goal.returns-clause-bytes
returns-clause-bytes c =
    let came = c.in_ok-came.came in
    let self = c.args.self.now in
    let bytes = drop self.start self.bytes.items in
    let there : get_or self.items.items self.next (Some came) ≡ Some came = search rules in
    let cut : (self.start + c.min-len.result) - self.start ≡ min came.len 4096 = omega (arith, c.min-len.ensures) in
    let same : c.copy_from_slice.new.self ≡ take (min came.len 4096) bytes = cc (c.copy_from_slice.ensures.after, c.deref.ensures.value) in
    let fits : came.len ≤ length bytes = fits_there self.items.items self.next bytes came (omega arith) there self.whole in
    copied_in _ came.from came.len bytes c.copy_from_slice.new.self _ (next_there self.items.items self.next bytes came (omega arith) there) fits same
