-- The head: what is read is spelled so, and what is spelled so is read.
use Rattle.std.proofs.Common.{◌≡◌, ℕ, zero, suc, ◌+◌, ◌*◌, ◌%◌, ◌^◌, ◌<◌, ◌≤◌, Bool, true, false, cond, nat_lt, nat_le, ◌==◌, List, ◌++◌, length, take, drop, Option, Some, None, Result, Ok, Err, refl, sym, ap, ◌∙◌, arith}
use Rattle.std.specs.Prelude.{is_some, IfOk, IfErr}
use Rattle.std.specs.Int.{Width, w8, w32, w64, byte_len, from_be_bytes}
use Rattle.std.proofs.lemmas.Bool.Decides.{nat_tests}
use Rattle.tw_num.specs.declared.interval.Interval.{Interval}
use Rattle.tw_types.specs.declared.team.Team.{Team}
use Rattle.tw_types.specs.declared.datagram.Head.{Head}
use Rattle.tw_types.specs.declared.datagram.Echo.{Echo}
use Rattle.tw_types.specs.declared.datagram.WireFault.{WireFault}
use Rattle.tw_types.specs.declared.datagram.WireFault.TheVariants.{Short, Long, Version, Line, Kind, Field}
use Rattle.tw_types.specs.Bytes.{presence, IsTime}
use Rattle.tw_types.specs.Ranges.{IntervalFits, EchoFits, HeadFits}
use Rattle.tw_types.specs.Spelling.{interval_bytes, echo_bytes, head_bytes, flags_of}
use Rattle.wire_head.specs.Reading.{◌>>=◌, is_kind, is_time_from, number_at, where_allowed, checked_at, field_at, count_at, time_at, byte_to, zeros_at, guarded_at, interval_at, echo_at, head_at}
use Rattle.wire_head.proofs.Numbers.{IsBytes, wide8, wide32, wide64, Reads, number_reads}
use Rattle.wire_head.proofs.Steps.{step, last, renamed, checked_reads, fixed_reads, count_reads, time_reads, byte_to_reads, guarded_reads}

record IsTimeFrom (lo n : ℕ) : Type 0 where
  time : IsTime n
  from : lo ≤ n

interval_reads : (bytes : List ℕ) (fits : IsBytes bytes) (place next : ℕ) → next ≡ place + 16 → Reads bytes place IntervalFits interval_bytes (λ i. next) (interval_at bytes place)
unfolding interval_at
interval_reads bytes fits place next e =
    renamed IntervalFits
    (step (λ (i : Interval). i.lo) (time_reads bytes fits place (place + 8) refl) (λ lo lo-is.
    step (λ (i : Interval). i.hi) (checked_reads w64 (2 ^ 64) wide64 (is_time_from lo) (Field (place + 8)) (IsTimeFrom lo) (λ n t. record { time = grind (arith, nat_tests); from = grind (arith, nat_tests) }) (λ n is. let a = is.time in let b = is.from in (omega arith, grind (arith, nat_tests))) bytes fits (place + 8) next (omega arith)) (λ hi hi-is.
    last (record { lo = lo; hi = hi })) (λ hi hi-is i is. cc)) (λ lo lo-is i is. cc))
    (λ i is. record { lo = is.0; hi = is.1.0.time; ordered = is.1.0.from })
    (λ i is. (is.lo, (record { time = is.hi; from = is.ordered }, refl)))

echo_reads : (bytes : List ℕ) (fits : IsBytes bytes) (place next : ℕ) → next ≡ place + 16 → Reads bytes place EchoFits echo_bytes (λ i. next) (echo_at bytes place)
unfolding echo_at
echo_reads bytes fits place next e =
    renamed EchoFits
    (step (λ (x : Echo). x.a) (count_reads bytes fits place (place + 8) refl) (λ a a-is.
    step (λ (x : Echo). x.b) (count_reads bytes fits (place + 8) next (omega arith)) (λ b b-is.
    last (record { a = a; b = b })) (λ b b-is x is. cc)) (λ a a-is x is. cc))
    (λ x is. record { a = is.0; b = is.1.0 })
    (λ x is. (is.a, (is.b, refl)))

-- ---- the flags say what is there, and what is there says the flags

flags_back : (flags : ℕ) (i : Option Interval) (e : Option Echo) → flags ≤ 3 → is_some i ≡ (flags % 2 == 1) → is_some e ≡ nat_le 2 flags → presence i + 2 * presence e ≡ flags
flags_back flags None None small a b = grind (arith, nat_tests)
flags_back flags None (Some e) small a b = grind (arith, nat_tests)
flags_back flags (Some i) None small a b = grind (arith, nat_tests)
flags_back flags (Some i) (Some e) small a b = grind (arith, nat_tests)

has_interval : (i : Option Interval) (e : Option Echo) → is_some i ≡ ((presence i + 2 * presence e) % 2 == 1)
has_interval None None = refl
has_interval None (Some e) = refl
has_interval (Some i) None = refl
has_interval (Some i) (Some e) = refl

has_echo : (i : Option Interval) (e : Option Echo) → is_some e ≡ nat_le 2 (presence i + 2 * presence e)
has_echo None None = refl
has_echo None (Some e) = refl
has_echo (Some i) None = refl
has_echo (Some i) (Some e) = refl

few_flags : (i : Option Interval) (e : Option Echo) → presence i + 2 * presence e ≤ 3
few_flags None None = omega arith
few_flags None (Some e) = omega arith
few_flags (Some i) None = omega arith
few_flags (Some i) (Some e) = omega arith

-- ---- the head

pub record IsKind (kind : ℕ) : Type 0 where
  pub first : 1 ≤ kind
  pub last : kind ≤ 8

-- a head that fits, and its kind
pub record HeadIs (h : Head × ℕ) : Type 0 where
  pub head : HeadFits h.0
  pub kind : IsKind h.1

pub head_reads : (team : Team) (bytes : List ℕ) → team.line < 2 ^ 32 → IsBytes bytes → Reads bytes 0 HeadIs (λ h. head_bytes team.line h.1 h.0) (λ h. 57) (head_at team bytes)
unfolding head_at
head_reads team bytes line-fits fits =
    renamed HeadIs
    (step (λ (h : Head × ℕ). 1) (fixed_reads bytes fits 0 1 w8 (2 ^ 8) wide8 1 (omega arith) Version refl) (λ version version-is.
    step (λ (h : Head × ℕ). h.1) (checked_reads w8 (2 ^ 8) wide8 is_kind Kind IsKind (λ n t. record { first = grind (arith, nat_tests); last = grind (arith, nat_tests) }) (λ n is. let a = is.first in let b = is.last in (omega arith, grind (arith, nat_tests))) bytes fits 1 2 refl) (λ kind kind-is.
    step (λ (h : Head × ℕ). team.line) (fixed_reads bytes fits 2 6 w32 (2 ^ 32) wide32 team.line line-fits Line refl) (λ line line-is.
    step (λ (h : Head × ℕ). h.0.from) (number_reads w8 (2 ^ 8) wide8 bytes fits 6 7 refl) (λ from from-is.
    step (λ (h : Head × ℕ). h.0.to) (number_reads w8 (2 ^ 8) wide8 bytes fits 7 8 refl) (λ to to-is.
    step (λ (h : Head × ℕ). h.0.incarnation) (count_reads bytes fits 8 16 refl) (λ incarnation incarnation-is.
    step (λ (h : Head × ℕ). h.0.sent) (count_reads bytes fits 16 24 refl) (λ sent sent-is.
    step (λ (h : Head × ℕ). flags_of h.0) (byte_to_reads bytes fits 24 25 3 (omega arith) refl) (λ flags flags-is.
    step (λ (h : Head × ℕ). h.0.interval) (guarded_reads (flags % 2 == 1) 2 interval_at IntervalFits interval_bytes bytes fits 25 41 refl (interval_reads bytes fits 25 41 refl)) (λ interval interval-is.
    step (λ (h : Head × ℕ). h.0.echo) (guarded_reads (nat_le 2 flags) 2 echo_at EchoFits echo_bytes bytes fits 41 57 refl (echo_reads bytes fits 41 57 refl)) (λ echo echo-is.
    last (record { from = from; to = to; incarnation = incarnation; sent = sent; interval = interval; echo = echo }, kind))
    (λ echo echo-is h is. ap (λ (z : Head × ℕ). z.0.echo) is))
    (λ interval interval-is h is. ap (λ (z : Head × ℕ). z.0.interval) is.1))
    (λ flags flags-is h is. flags_back flags h.0.interval h.0.echo flags-is is.0.there is.1.0.there))
    (λ sent sent-is h is. ap (λ (z : Head × ℕ). z.0.sent) is.1.1.1))
    (λ incarnation incarnation-is h is. ap (λ (z : Head × ℕ). z.0.incarnation) is.1.1.1.1))
    (λ to to-is h is. ap (λ (z : Head × ℕ). z.0.to) is.1.1.1.1.1))
    (λ from from-is h is. ap (λ (z : Head × ℕ). z.0.from) is.1.1.1.1.1.1))
    (λ line line-is h is. sym line-is))
    (λ kind kind-is h is. ap (λ (z : Head × ℕ). z.1) is.1.1.1.1.1.1.1.1))
    (λ version version-is h is. sym version-is))
    (λ h is.
    let a = is.1.1.1 in
    let b = a.1.1.1.1.1 in
    record {
      head = record { from = a.0; to = a.1.0; incarnation = a.1.1.0; sent = a.1.1.1.0; interval = b.0.inner; echo = b.1.0.inner };
      kind = is.1.0;
    })
    (λ h is.
    let i = h.0.interval in
    let e = h.0.echo in (
      refl,
      (
        is.kind,
        (
          refl,
          (
            is.head.from,
            (
              is.head.to,
              (
                is.head.incarnation,
                (
                  is.head.sent,
                  (
                    few_flags i e,
                    (record { there = has_interval i e; inner = is.head.interval }, (record { there = has_echo i e; inner = is.head.echo }, refl)),
                  ),
                ),
              ),
            ),
          ),
        ),
      ),
    ))

-- ---- no fault of the head is that more follows

abbrev NeverLong : {A : Type 0} → Result A WireFault → Type 0
NeverLong read = read ≡ Err Long → ⊥

then_never : {A B : Type 0} (r : Result A WireFault) (f : A → Result B WireFault) → NeverLong r → ((x : A) → NeverLong (f x)) → NeverLong (r >>= f)
then_never (Ok x) f first rest e = rest x e
then_never (Err d) f first rest e = first cc

allowed_never : {A : Type 0} (b : Bool) (d : WireFault) (x : A) → (d ≡ Long → ⊥) → NeverLong (where_allowed b d x)
allowed_never true d x other e = absurd cc
allowed_never false d x other e = other cc

number_never : (w : Width) (bytes : List ℕ) (place : ℕ) → NeverLong (number_at w bytes place)
unfolding number_at
number_never w bytes place e = short_never (nat_lt (length bytes) (place + byte_len w)) (from_be_bytes w (take (byte_len w) (drop place bytes))) e
  where
    short_never : (b : Bool) (x : ℕ) → NeverLong (cond b (Err Short) (Ok x))
    short_never true x e = absurd cc
    short_never false x e = absurd cc

checked_never : (w : Width) (allowed : ℕ → Bool) (fault : WireFault) (bytes : List ℕ) (place : ℕ) → (fault ≡ Long → ⊥) → NeverLong (checked_at w allowed fault bytes place)
unfolding checked_at
checked_never w allowed fault bytes place other = then_never (number_at w bytes place) (λ n. where_allowed (allowed n) fault n) (number_never w bytes place) (λ n. allowed_never (allowed n) fault n other)

field_never : (w : Width) (allowed : ℕ → Bool) (bytes : List ℕ) (place : ℕ) → NeverLong (field_at w allowed bytes place)
field_never w allowed bytes place = checked_never w allowed (Field place) bytes place (λ e. absurd cc)

zeros_never : (k : ℕ) (bytes : List ℕ) (place : ℕ) → NeverLong (zeros_at k bytes place)
unfolding zeros_at
zeros_never zero bytes place e = absurd cc
zeros_never (suc k) bytes place e = then_never (field_at w64 (λ n. n == 0) bytes place) (λ n. zeros_at k bytes (place + 8)) (field_never w64 (λ n. n == 0) bytes place) (λ n. zeros_never k bytes (place + 8)) e

guarded_never : {X : Type 0} (present : Bool) (k : ℕ) (inner_at : List ℕ → ℕ → Result X WireFault) (bytes : List ℕ) (place : ℕ) → NeverLong (inner_at bytes place) → NeverLong (guarded_at present k inner_at bytes place)
unfolding guarded_at
guarded_never true k inner_at bytes place inner = then_never (inner_at bytes place) (λ x. Ok (Some x)) inner (λ x e. absurd cc)
guarded_never false k inner_at bytes place inner = then_never (zeros_at k bytes place) (λ none. Ok None) (zeros_never k bytes place) (λ x e. absurd cc)

interval_never : (bytes : List ℕ) (place : ℕ) → NeverLong (interval_at bytes place)
unfolding interval_at
interval_never bytes place =
    then_never (time_at bytes place) (λ lo. field_at w64 (is_time_from lo) bytes (place + 8) >>= λ hi. Ok (record { lo = lo; hi = hi })) (field_never w64 _ bytes place) (λ lo.
    then_never (field_at w64 (is_time_from lo) bytes (place + 8)) (λ hi. Ok (record { lo = lo; hi = hi })) (field_never w64 _ bytes (place + 8)) (λ hi e. absurd cc))

echo_never : (bytes : List ℕ) (place : ℕ) → NeverLong (echo_at bytes place)
unfolding echo_at
echo_never bytes place =
    then_never (count_at bytes place) (λ a. count_at bytes (place + 8) >>= λ b. Ok (record { a = a; b = b })) (field_never w64 _ bytes place) (λ a.
    then_never (count_at bytes (place + 8)) (λ b. Ok (record { a = a; b = b })) (field_never w64 _ bytes (place + 8)) (λ b e. absurd cc))

pub head_never : (team : Team) (bytes : List ℕ) → NeverLong (head_at team bytes)
unfolding head_at
head_never team bytes =
    then_never (checked_at w8 (λ n. n == 1) Version bytes 0) _ (checked_never w8 _ Version bytes 0 (λ e. absurd cc)) (λ version.
    then_never (checked_at w8 is_kind Kind bytes 1) _ (checked_never w8 _ Kind bytes 1 (λ e. absurd cc)) (λ kind.
    then_never (checked_at w32 (λ n. n == team.line) Line bytes 2) _ (checked_never w32 _ Line bytes 2 (λ e. absurd cc)) (λ line.
    then_never (number_at w8 bytes 6) _ (number_never w8 bytes 6) (λ from.
    then_never (number_at w8 bytes 7) _ (number_never w8 bytes 7) (λ to.
    then_never (count_at bytes 8) _ (field_never w64 _ bytes 8) (λ incarnation.
    then_never (count_at bytes 16) _ (field_never w64 _ bytes 16) (λ sent.
    then_never (byte_to 3 bytes 24) _ (field_never w8 _ bytes 24) (λ flags.
    then_never (guarded_at (flags % 2 == 1) 2 interval_at bytes 25) _ (guarded_never (flags % 2 == 1) 2 interval_at bytes 25 (interval_never bytes 25)) (λ interval.
    then_never (guarded_at (nat_le 2 flags) 2 echo_at bytes 41) _ (guarded_never (nat_le 2 flags) 2 echo_at bytes 41 (echo_never bytes 41)) (λ echo e. absurd cc))))))))))

-- ---- what the reader says of its answer

pub is_found : (team : Team) (bytes : List ℕ) (r : Result (Head × ℕ) WireFault) → team.line < 2 ^ 32 → IsBytes bytes → r ≡ head_at team bytes
    → IfOk r (λ x. HeadFits x.0 × (1 ≤ x.1) × (x.1 ≤ 8) × (bytes ≡ head_bytes team.line x.1 x.0 ++ drop 57 bytes))
is_found team bytes (Ok x) line fits e = let a = (head_reads team bytes line fits).takes x (sym e) in (a.0.head, a.0.kind.first, a.0.kind.last, a.1)
is_found team bytes (Err d) line fits e = tt

pub is_not_long : (team : Team) (bytes : List ℕ) (r : Result (Head × ℕ) WireFault) → r ≡ head_at team bytes → IfErr r (λ fault. (fault ≡ Long) → ⊥)
is_not_long team bytes (Ok x) e = tt
is_not_long team bytes (Err d) e = λ long. head_never team bytes (sym e ∙ ap (λ (f : WireFault). Err f) long)
