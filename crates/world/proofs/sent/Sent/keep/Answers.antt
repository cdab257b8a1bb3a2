use Rattle.std.proofs.Common.{◌≡◌, ◌<◌, ◌+◌, ◌-◌, ◌++◌, sym, subst, ap, ◌∙◌, ℕ, List, length, get_or, append-nil, map, arith}
use Rattle.std.proofs.lemmas.List.{take_all}
use Rattle.std.specs.List.{AllByRecursion}
use Rattle.tw_types.specs.declared.datagram.Datagram.{Datagram}
use Rattle.tw_types.specs.Ranges.{DatagramFits}
use Rattle.node_core.specs.Sends.{IsSendable}
use Rattle.world.specs.Datagrams.{datagrams, HasRoom, spelled}
use Rattle.world.proofs.Bytes.{push_next}
use Rattle.world.proofs.Worlds.{found, all_get}
use Rattle.world.proofs.sent.Sent.keep.Goals as goal

-- each that is sent is in range
item_fits : (n : ℕ) (items sends : List (ℕ × Datagram)) (i : ℕ) (s : ℕ × Datagram) → items ≡ sends → i < length items → s ≡ get_or items i s → AllByRecursion (IsSendable n) sends → DatagramFits n s.1
item_fits n items sends i s same low is fits = (all_get (IsSendable n) items i s (subst (AllByRecursion (IsSendable n)) (sym same) fits) (found items i s low is)).fits

pub loop-to-init : goal.loop-to-init
loop-to-init c = record { room = c.requires.room; kept = sym (append-nil (datagrams c.args.self.now)); count = omega arith }

pub bounds-to-items-to-index : goal.bounds-to-items-to-index
bounds-to-items-to-index c = c.loop-to-test.true

pub keep_one-requires-clause-sound : goal.keep_one-requires-clause-sound
keep_one-requires-clause-sound c = c.requires.sound

pub keep_one-requires-clause-fits : goal.keep_one-requires-clause-fits
keep_one-requires-clause-fits c = item_fits c.args.team.now.n c.as_slice-to-items.result.now c.args.sends.now c.loop-to.to-index c.loop-to-item.result c.as_slice-to-items.ensures.items c.loop-to-test.true c.loop-to-item.is c.requires.fits

pub keep_one-requires-clause-room : goal.keep_one-requires-clause-room
keep_one-requires-clause-room c =
    let few = c.as_slice-to-items.ensures.few in
    let test = c.loop-to-test.true in
    record { bytes = omega (arith, few, test, c.loop-to.invariant.room.bytes); places = omega (arith, few, test, c.loop-to.invariant.room.places) }

pub loop-to-preserved : goal.loop-to-preserved
loop-to-preserved c =
    let items = c.as_slice-to-items.ensures.items in
    let low : c.loop-to.to-index < length c.args.sends.now = subst (λ (xs : List (ℕ × Datagram)). c.loop-to.to-index < length xs) items c.loop-to-test.true in
    let is : c.loop-to-item.result ≡ get_or c.args.sends.now c.loop-to.to-index c.loop-to-item.result =
    subst (λ (xs : List (ℕ × Datagram)). c.loop-to-item.result ≡ get_or xs c.loop-to.to-index c.loop-to-item.result) items c.loop-to-item.is in
    let few = c.as_slice-to-items.ensures.few in
    let test = c.loop-to-test.true in
    let last : 64 - c.loop-to.to-index ≡ 64 - (c.loop-to.to-index + 1) + 1 = omega (arith, few, test) in
    record {
      room = c.keep_one.ensures.room (64 - (c.loop-to.to-index + 1)) (subst (λ (k : ℕ). HasRoom k c.loop-to.self) last c.loop-to.invariant.room);
      kept = push_next (spelled c.args.team.now.line) c.args.sends.now c.loop-to.to-index c.loop-to-item.result _ _ _ low is c.loop-to.invariant.kept
          c.keep_one.ensures.kept;
      count = omega (arith, c.keep_one.ensures.count, c.loop-to.invariant.count);
    }

pub returns-clause-kept : goal.returns-clause-kept
returns-clause-kept c =
    let size = ap (λ (xs : List (ℕ × Datagram)). length xs) c.as_slice-to-items.ensures.items in
    let past = c.loop-to-test.false in
    c.loop-to.invariant.kept ∙ ap (λ (xs : List (ℕ × Datagram)). datagrams c.args.self.now ++ map (spelled c.args.team.now.line) xs) (take_all c.loop-to.to-index c.args.sends.now (omega (arith, size, past)))
