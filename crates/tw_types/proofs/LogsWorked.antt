-- Which decisions fit a log, what it is after one, and what is kept of it, worked out by hand.
use Rattle.std.proofs.Common.{◌≡◌, refl, ℕ, false, true, List, [], ◌∷◌, Some, None, map}
use Rattle.tw_types.specs.declared.message.UpdateId.{UpdateId}
use Rattle.tw_types.specs.declared.message.Order.TheVariants.{Timed}
use Rattle.tw_types.specs.declared.message.Atom.TheVariants.{Weak}
use Rattle.tw_types.specs.declared.message.Entry.{Entry}
use Rattle.tw_types.specs.declared.message.Kept.{Kept}
use Rattle.tw_types.specs.declared.message.Decision.{Decision}
use Rattle.tw_types.specs.declared.answer.Reason.TheVariants.{Gap, Behind, Missing}
use Rattle.std.specs.Prelude.{replicate}
use Rattle.tw_types.specs.Beliefs.{Log, no_log}
use Rattle.tw_types.specs.Decisions.{no_decision}
use Rattle.tw_types.specs.Refusals.{first_refusal}
use Rattle.tw_types.specs.Logs.{fit_tests, log_after, kept_at, passed_one, marked_at, log_from}

abbrev id_of : ℕ → UpdateId
id_of seq = record { who = 1; incarnation = 5; seq = seq }

abbrev entry : ℕ → Entry
entry seq = record { id = id_of seq; order = Timed; atom = Weak; stamp = seq; late = false }

abbrev update : ℕ → Kept
update seq = record { entry = entry seq; early = false; payload = record { items = seq ∷ [] } }

-- a log of three
abbrev three : Log
three = record { base = 0; entries = update 1 ∷ update 2 ∷ update 3 ∷ []; passed = 0 }

abbrev window : (low : ℕ) → List ℕ → Decision
window low seqs = record no_decision { low = low; window = record { items = map entry seqs } }

at_the_end : first_refusal (fit_tests three [] (window 3 [])) ≡ None
at_the_end = refl

begins_behind : first_refusal (fit_tests three [] (window 4 [])) ≡ Some Gap
begins_behind = refl

ends_before : first_refusal (fit_tests three [] (window 1 (2 ∷ []))) ≡ Some Gap
ends_before = refl

-- what the log has isn't needed
two_more : first_refusal (fit_tests three (update 5 ∷ update 4 ∷ []) (window 1 (2 ∷ 3 ∷ 4 ∷ 5 ∷ []))) ≡ None
two_more = refl

first_one_told : first_refusal (fit_tests three [] (window 1 (2 ∷ 3 ∷ 4 ∷ 5 ∷ []))) ≡ Some (Missing (id_of 4))
first_one_told = refl

second_one_missing : first_refusal (fit_tests three (update 4 ∷ []) (window 1 (2 ∷ 3 ∷ 4 ∷ 5 ∷ []))) ≡ Some (Missing (id_of 5))
second_one_missing = refl

abbrev of_length : (base length : ℕ) → Log
of_length base count = record { base = base; entries = replicate count (update 1); passed = base }

-- a list may be 64 ahead of what was passed; that it is further ahead is told before a payload that is missing
just_near_enough : first_refusal (fit_tests (of_length 0 62) (update 4 ∷ update 5 ∷ []) (window 62 (4 ∷ 5 ∷ []))) ≡ None
just_near_enough = refl

too_far : first_refusal (fit_tests (of_length 0 62) [] (window 62 (4 ∷ 5 ∷ 6 ∷ []))) ≡ Some Behind
too_far = refl

-- as the window has the entries, late or not, and as the payloads were found
abbrev late : ℕ → Entry
late seq = record (entry seq) { late = true }

grows : log_after (record (update 5) { early = true } ∷ update 4 ∷ []) (record (window 1 []) { window = record { items = entry 2 ∷ entry 3 ∷ late 4 ∷ entry 5 ∷ [] } }) three
    ≡ record three { entries = update 1 ∷ update 2 ∷ update 3 ∷ record (update 4) { entry = late 4 } ∷ record (update 5) { early = true } ∷ [] }
grows = refl

-- the last 64 are kept, and none before the base
below_the_kept : kept_at 5 (of_length 0 70) ≡ None
below_the_kept = refl

first_kept : kept_at 6 (of_length 0 70) ≡ Some (update 1)
first_kept = refl

last_kept : kept_at 69 (of_length 0 70) ≡ Some (update 1)
last_kept = refl

at_its_length : kept_at 70 (of_length 0 70) ≡ None
at_its_length = refl

below_the_base : kept_at 9 (of_length 10 40) ≡ None
below_the_base = refl

from_the_base_on : kept_at 10 (of_length 10 40) ≡ Some (update 1)
from_the_base_on = refl

-- passing changes what was passed alone, and a mark one entry
one_passed : passed_one three ≡ record three { passed = 1 }
one_passed = refl

second_marked : marked_at 1 three ≡ record three { entries = update 1 ∷ record (update 2) { early = true } ∷ update 3 ∷ [] }
second_marked = refl

no_entry_to_mark : marked_at 3 three ≡ three
no_entry_to_mark = refl

from_ten : log_from 10 ≡ record { base = 10; entries = []; passed = 10 }
from_ten = refl

first_log : log_from 0 ≡ no_log
first_log = refl
