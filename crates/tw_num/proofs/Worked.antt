-- The definitions, computed on values that were worked out by hand.
use Rattle.std.proofs.Common.{◌≡◌, refl, ℕ, ◌-◌, ◌^◌, arith, Some, None}
use Rattle.std.specs.Prelude.{pos, negsuc}
use Rattle.tw_num.specs.declared.interval.Interval.{Interval}
use Rattle.tw_num.specs.Elapsed.{up, down}
use Rattle.tw_num.specs.Interval.{aged, meet}
use Rattle.tw_num.specs.Clock.{Clock, IsNotBefore, delayed, fresh, after_given, after_read, interval_at, reading_at, refusal}
use Rattle.tw_num.specs.Rate.{RoundTrip, echo_bound, interval_bound, rate, Timely, Late, Unrated}

abbrev between : ℕ → ℕ → Interval
between lo hi = record { lo = lo; hi = hi }

no_tick : down 0 100 ≡ negsuc 0
no_tick = refl

one_tick : down 1 0 ≡ pos 0
one_tick = refl

many_ticks : down 1000002 1 ≡ pos 1000000
many_ticks = refl

at_once : up 0 1000 ≡ 1
at_once = refl

slow_clock : up 999 1000 ≡ 1001
slow_clock = refl

-- an interval is a tick wider on each side already at the reading at which it is given
aged_at_once : aged (between 4000 5998) 0 0 ≡ between 3999 5999
aged_at_once = refl

touching : meet (between 1 5) (between 5 9) ≡ Some (between 5 5)
touching = refl

apart : meet (between 1 5) (between 6 9) ≡ None
apart = refl

-- two references, the second with a smaller middle: the reading is held
abbrev referred : Clock
referred = after_read 0 1000 5001 (after_given 0 5001 (between 4500 5001) (after_read 0 1000 5000 (after_given 0 5000 (between 4990 6988) fresh)))

shared : interval_at 0 5001 referred ≡ Some (between 4990 5002)
shared = refl

held : reading_at 0 1000 5001 referred ≡ Some 5989
held = refl

goes_on : reading_at 0 1000 6000 referred ≡ Some 5995
goes_on = refl

-- the clock may be read at its last reading, and not before
at_its_last : IsNotBefore 5001 referred
at_its_last = (omega arith, (omega arith, tt))

before_its_last : IsNotBefore 5000 referred → ⊥
before_its_last known = omega (arith, known.0)

refused : refusal 0 5 (between 100 110) (after_given 0 5 (between 10 20) fresh) ≡ Some (record { have = between 9 21; got = between 99 111 })
refused = refl

-- An interval gives a reading where its upper end, a tick later at once, is below 2 ^ 60.
last_reading : reading_at 0 1000 5 (after_given 0 5 (between (2 ^ 60 - 2) (2 ^ 60 - 2)) fresh) ≡ Some (2 ^ 60 - 2)
last_reading = refl

beyond_readings : reading_at 0 1000 5 (after_given 0 5 (between (2 ^ 60 - 1) (2 ^ 60 - 1)) fresh) ≡ None
beyond_readings = refl

there_is_an_interval : interval_at 0 5 (after_given 0 5 (between (2 ^ 60 - 1) (2 ^ 60 - 1)) fresh) ≡ Some (between (2 ^ 60 - 2) (2 ^ 60))
there_is_an_interval = refl

-- a trip of 20000 ticks at home and 19000 away, by clocks that don't drift
abbrev there_and_back : RoundTrip
there_and_back = record { a = 510; b = 1010; sent = 20010; h = 20510 }

echoed : echo_bound 0 there_and_back ≡ Some 1002
echoed = refl

-- no tick of the sender's clock says nothing: 11 and not 12
sent_at_once : echo_bound 0 (record { a = 0; b = 5; sent = 5; h = 10 }) ≡ Some 11
sent_at_once = refl

-- the sender says that it waited longer than the whole trip took
waited_too_long : echo_bound 0 (record { a = 0; b = 0; sent = 100; h = 10 }) ≡ Some 0
waited_too_long = refl

from_later : echo_bound 0 (record { a = 11; b = 0; sent = 100; h = 10 }) ≡ None
from_later = refl

echo_later : echo_bound 0 (record { a = 0; b = 101; sent = 100; h = 10 }) ≡ None
echo_later = refl

-- the receiver read its clock no earlier than the echo says, and the sender sent no earlier than it heard
asked_just_now : echo_bound 0 (record { a = 10; b = 5; sent = 5; h = 10 }) ≡ Some 1
asked_just_now = refl

-- without a bound by the echo the interval's is left, or none
by_interval_alone : rate 0 1001 (Some (record { a = 11; b = 0; sent = 100; h = 10 })) (Some (between 20509 20511)) (Some (between 20009 20011)) ≡ Timely 502
by_interval_alone = refl

by_nothing : rate 0 1001 (Some (record { a = 0; b = 101; sent = 100; h = 10 })) (Some (between 20509 20511)) None ≡ Unrated
by_nothing = refl

-- the drift bound counts on both sides: up 1000000 is 1001002 and down 1000000 is 999000 at a thousandth
drifting : echo_bound 1000 (record { a = 0; b = 0; sent = 1000000; h = 1000000 }) ≡ Some 2002
drifting = refl

no_wait : interval_bound (Some (between 1 5)) (Some (between 6 9)) ≡ Some 0
no_wait = refl

as_late_as_allowed : rate 0 10000 None (Some (between 709997 709999)) (Some (between 699999 700001)) ≡ Timely 10000
as_late_as_allowed = refl

late : rate 0 10000 None (Some (between 709998 710000)) (Some (between 699999 700001)) ≡ Late 10001
late = refl

-- the echo bound alone, and an interval bound that is less, and one that is greater
by_echo : rate 0 1001 (Some there_and_back) (Some (between 0 1)) None ≡ Late 1002
by_echo = refl

by_interval : rate 0 1001 (Some there_and_back) (Some (between 20509 20511)) (Some (between 20009 20011)) ≡ Timely 502
by_interval = refl

by_echo_again : rate 0 1001 (Some there_and_back) (Some (between 30000 30010)) (Some (between 20009 20011)) ≡ Late 1002
by_echo_again = refl

nothing_told : rate 0 10000 None (Some (between 0 1)) None ≡ Unrated
nothing_told = refl

delayed_wider : delayed (between 20009 20011) 1002 ≡ between 20009 21013
delayed_wider = refl
