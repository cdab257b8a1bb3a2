-- What an effect leaves alone: all lists but the one that it adds to, and the process's identity.
use Rattle.std.proofs.Common.{◌≡◌, ap, ◌∷◌}
use Rattle.tw_types.specs.Process.{Process}
use Rattle.tw_machine.specs.History.{promise_item, make_item, up_at}
use Rattle.tw_machine.specs.Standing.{member_of}
use Rattle.safety_laws.specs.Effects.{Written, State, Here, Promises, Makes, Raises, Change}

-- which list grew
pub data Grown (here : Here) (x y : State) : Type 0 where
  Quiet : y.written.promises ≡ x.written.promises → y.written.makes ≡ x.written.makes → y.written.ups ≡ x.written.ups → Grown here x y
  NewPromise : (c : Promises here x y) → y.written.promises ≡ promise_item here.life here.step c.given ∷ x.written.promises → y.written.makes ≡ x.written.makes → y.written.ups ≡ x.written.ups → Grown here x y
  NewMake : (c : Makes here x y) → y.written.promises ≡ x.written.promises → y.written.makes ≡ make_item (member_of x.process.identity) here.life here.step x.written.makes c.making ∷ x.written.makes → y.written.ups ≡ x.written.ups → Grown here x y
  NewUp : (c : Raises here x y) → y.written.promises ≡ x.written.promises → y.written.makes ≡ x.written.makes → y.written.ups ≡ up_at here.life here.step x.process c.t c.last ∷ x.written.ups → Grown here x y

pub grown : (here : Here) (x y : State) → Change here x y → Grown here x y
grown here x y (Change.Keep c) = Quiet c.promises c.makes c.ups
grown here x y (Change.Give c) = NewPromise c (ap (λ (w : Written). w.promises) c.written) (ap (λ (w : Written). w.makes) c.written) (ap (λ (w : Written). w.ups) c.written)
grown here x y (Change.Hold c) = Quiet (ap (λ (w : Written). w.promises) c.written) (ap (λ (w : Written). w.makes) c.written) (ap (λ (w : Written). w.ups) c.written)
grown here x y (Change.Take c) = Quiet (ap (λ (w : Written). w.promises) c.written) (ap (λ (w : Written). w.makes) c.written) (ap (λ (w : Written). w.ups) c.written)
grown here x y (Change.Make c) = NewMake c (ap (λ (w : Written). w.promises) c.written) (ap (λ (w : Written). w.makes) c.written) (ap (λ (w : Written). w.ups) c.written)
grown here x y (Change.Deliver c) = Quiet (ap (λ (w : Written). w.promises) c.written) (ap (λ (w : Written). w.makes) c.written) (ap (λ (w : Written). w.ups) c.written)
grown here x y (Change.Raise c) = NewUp c (ap (λ (w : Written). w.promises) c.written) (ap (λ (w : Written). w.makes) c.written) (ap (λ (w : Written). w.ups) c.written)

pub identity_stays : (here : Here) (x y : State) → Change here x y → y.process.identity ≡ x.process.identity
identity_stays here x y (Change.Keep c) = c.identity
identity_stays here x y (Change.Give c) = ap (λ (p : Process). p.identity) c.process
identity_stays here x y (Change.Hold c) = ap (λ (p : Process). p.identity) c.process
identity_stays here x y (Change.Take c) = ap (λ (p : Process). p.identity) c.process
identity_stays here x y (Change.Make c) = ap (λ (p : Process). p.identity) c.process
identity_stays here x y (Change.Deliver c) = ap (λ (p : Process). p.identity) c.process
identity_stays here x y (Change.Raise c) = ap (λ (p : Process). p.identity) c.process
