-- What a datagram may tell, and which rows can be printed, at the edges of their ranges.
use Rattle.std.proofs.Common.{◌≡◌, refl, ℕ, ◌^◌, ◌-◌, arith, true, [], ◌∷◌, Some, None}
use Rattle.tw_num.specs.declared.interval.Interval.{Interval}
use Rattle.tw_types.specs.declared.message.Order.TheVariants.{Timed}
use Rattle.tw_types.specs.declared.message.Atom.TheVariants.{Strict}
use Rattle.tw_types.specs.declared.message.UpdateId.{UpdateId}
use Rattle.tw_types.specs.declared.outputs.How.TheVariants.{Late}
use Rattle.tw_types.specs.declared.answer.Reason.TheVariants as reasons
use Rattle.tw_types.specs.declared.row.RowAnswer.TheVariants.{Dropped}
use Rattle.tw_types.specs.Contents.{Update}
use Rattle.tw_types.specs.Row.{Row}
use Rattle.tw_types.specs.Row as row
use Rattle.tw_machine.specs.Sending.{sendable}
use Rattle.tw_machine.specs.RowLimits.{RowFits}

abbrev between : ℕ → ℕ → Interval
between lo hi = record { lo = lo; hi = hi }

-- an interval is told where it ends below 2 ^ 61
told : sendable (Some (between 5 (2 ^ 61 - 1))) ≡ Some (between 5 (2 ^ 61 - 1))
told = refl

not_told : sendable (Some (between 5 (2 ^ 61))) ≡ None
not_told = refl

-- a row with the greatest number in each of its places
abbrev most : ℕ
most = 2 ^ 65 - 1

abbrev id : UpdateId
id = record { who = most; incarnation = most; seq = most }

abbrev update : row.Update
update = record { id = id; order = Timed; atom = Strict; stamp = most; payload = 0 ∷ 255 ∷ [] }

abbrev greatest : Row
greatest = record {
  step = most;
  who = most;
  incarnation = most;
  reading = Some most;
  up = true;
  group = most;
  turn = most;
  length = most;
  passed = most;
  answer = Dropped (reasons.Missing id);
  made = Some (record { group = most; turn = most; start = most; low = most; length = most; members = record { who = most; incarnation = most } ∷ [] });
  passes = record { position = most; update = update; how = Late } ∷ [];
  earlies = update ∷ [];
  sends = record { number = most; to = most; contents = Update id } ∷ [];
  entries = record { key = most; value = most } ∷ [];
}

greatest_fits : RowFits greatest
greatest_fits = record {
  step = omega arith;
  who = omega arith;
  incarnation = omega arith;
  reading = omega arith;
  group = omega arith;
  turn = omega arith;
  length = omega arith;
  passed = omega arith;
  answer = (omega arith, omega arith, omega arith);
  made = (omega arith, omega arith, omega arith, omega arith, omega arith, ((omega arith, omega arith), tt));
  passes = ((omega arith, ((omega arith, omega arith, omega arith), omega arith, (omega arith, (omega arith, tt)))), tt);
  earlies = (((omega arith, omega arith, omega arith), omega arith, (omega arith, (omega arith, tt))), tt);
  sends = ((omega arith, omega arith, (omega arith, omega arith, omega arith)), tt);
  entries = ((omega arith, omega arith), tt);
}

-- a number without room, and a payload that isn't bytes
step_too_great : RowFits (record greatest { step = 2 ^ 65 }) → ⊥
step_too_great fits = omega (arith, fits.step)

no_byte : RowFits (record greatest { earlies = record update { payload = 256 ∷ [] } ∷ [] }) → ⊥
no_byte fits = omega (arith, fits.earlies.0.2.0)
