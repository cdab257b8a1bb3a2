-- The next number of an owner.
use Rattle.std.proofs.Common.{◌≡◌, ℕ, ◌+◌, ◌-◌, ◌*◌, ◌/◌, ◌%◌, ◌<◌, ◌≤◌, ◌∙◌, arith, sym}
use Rattle.std.proofs.Math.Nat.{add-mul-mod_self_left, mod-eq_of_lt, mod-lt, div-add-mod}
use Rattle.tw_types.specs.Slots.{next_owned, IsNextOwned}

-- with the same remainder two numbers are a multiple of n apart
apart : (n x y : ℕ) → 0 < n → x % n ≡ y % n → x < y → x + n ≤ y
apart n x y positive same below = grind (arith, div-add-mod)

-- a remainder may be taken before another sum is
mod-add : (a b n : ℕ) → (a + b % n) % n ≡ (a + b) % n
mod-add a b n =
    let whole : n * (b / n) + b % n ≡ b = div-add-mod b n in
    let sum : a + b ≡ a + b % n + n * (b / n) = omega arith in
    rw sum (sym (add-mul-mod_self_left (a + b % n) n (b / n)))

reaches : (n number who : ℕ) → who < n → next_owned n number who % n ≡ who
reaches n number who inside =
    let below : number % n < n = mod-lt number (omega arith) in
    let whole : n * (number / n) + number % n ≡ number = div-add-mod number n in
    let sum : number + (who + n - number % n) ≡ who + n * (number / n + 1) = omega arith in
    mod-add number (who + n - number % n) n ∙ rw sum (add-mul-mod_self_left who n (number / n + 1) ∙ mod-eq_of_lt inside)

steps_below : (n number who : ℕ) → who < n → next_owned n number who < number + n
steps_below n number who inside =
    let few : (who + n - number % n) % n < n = mod-lt (who + n - number % n) (omega arith) in
    omega arith

not_above : (n number y x : ℕ) → x < number + n → number ≤ y → (y < x → y + n ≤ x) → x ≤ y
not_above n number y x next above far = grind arith

least_one : (n number who : ℕ) → who < n → (y : ℕ) → y % n ≡ who → number ≤ y → next_owned n number who ≤ y
least_one n number who inside y same above =
    let together : y % n ≡ next_owned n number who % n = same ∙ sym (reaches n number who inside) in
    let next : next_owned n number who < number + n = steps_below n number who inside in
    not_above n number y (next_owned n number who) next above (apart n y (next_owned n number who) (omega arith) together)

pub is_next_owned : (n number who : ℕ) → who < n → IsNextOwned n number who (next_owned n number who)
is_next_owned n number who inside = record {
  owned = reaches n number who inside;
  not_below = omega arith;
  least = λ y same above. least_one n number who inside y same above;
}
