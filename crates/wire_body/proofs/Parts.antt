-- The parts of bodies: what is read is spelled so, and what is spelled so is read.
use Rattle.std.proofs.Common.{◌≡◌, ℕ, zero, suc, ◌+◌, ◌-◌, ◌%◌, ◌^◌, ◌<◌, ◌≤◌, min, Bool, true, false, nat_le, ◌==◌, List, length, Option, refl, sym, ap, subst, ◌∙◌, arith}
use Rattle.std.specs.Prelude.{IfSome}
use Rattle.std.specs.Int.{w16, w64}
use Rattle.std.proofs.lemmas.Bool.{eqb-true}
use Rattle.std.proofs.lemmas.Bool.Decides.{nat_tests}
use Rattle.std.proofs.lemmas.List.{append-nil}
use Rattle.tw_types.specs.declared.message.UpdateId.{UpdateId}
use Rattle.tw_types.specs.declared.message.Kept.{Kept}
use Rattle.tw_types.specs.declared.datagram.Why.{Why}
use Rattle.tw_types.specs.declared.datagram.Why.TheVariants.{Stuck, Join}
use Rattle.tw_types.specs.declared.datagram.Want.{Want}
use Rattle.tw_types.specs.declared.datagram.Want.TheVariants as wants
use Rattle.tw_types.specs.declared.datagram.WireFault.TheVariants.{Field}
use Rattle.tw_types.specs.Bytes.{counted}
use Rattle.tw_types.specs.Ranges.{IsPositive, IdFits, UpdateFits, WhyFits, WantFits, ElectionFits, StateFits, ReadyFits}
use Rattle.tw_types.specs.Spelling.{verbatim, update_bytes, why_number, why_group, why_bytes, election_bytes, want_number, wanted_bytes, want_bytes, state_bytes, ready_bytes, sync_bytes}
use Rattle.wire_head.specs.Reading.{text_at}
use Rattle.wire_head.proofs.Numbers.{IsBytes, wide16, wide64, Reads}
use Rattle.wire_head.proofs.Steps.{step, last, last_to, renamed, respelled, made_reads, checked_reads, count_reads, positive_reads, byte_to_reads, text_reads}
use Rattle.wire_body.specs.Lists.{counted_at}
use Rattle.wire_body.specs.Reading.{update_at, is_group_for, why_from, why_at, election_at, wanted_at, want_at, want_end, Piece, is_total, is_offset_below, piece_at, ready_at, sync_at}
use Rattle.wire_body.proofs.ListReads.{counted_reads, optional_reads}
use Rattle.wire_body.proofs.EntryReads.{id_reads, entry_reads}

-- ---- an update

record IsSize (most n : ℕ) : Type 0 where
  at_most : n ≤ most

-- bytes that stand for themselves, behind their number
bytes_reads : (allowed : ℕ → Bool) (IsNumber : ℕ → Type 0) → ((k : ℕ) → allowed k ≡ true → IsNumber k) → ((k : ℕ) → IsNumber k → (k < 2 ^ 16) × (allowed k ≡ true)) → (bytes : List ℕ) (fits : IsBytes bytes) (place : ℕ) → Reads bytes place (λ t. IsNumber (length t)) (counted w16 verbatim) (λ t. place + 2 + length t) (counted_at w16 allowed text_at bytes place)
bytes_reads allowed IsNumber to back bytes fits place =
    renamed (λ (t : List ℕ). IsNumber (length t))
    (counted_reads w16 (2 ^ 16) wide16 allowed IsNumber to back text_at (λ t. Unit {0}) verbatim (λ t. place + 2 + length t) bytes fits place
    (λ k. renamed (λ (t : List ℕ). (length t ≡ k) × Unit {0}) (text_reads k bytes (place + 2)) (λ t is. (is, tt)) (λ t is. is.0)))
    (λ t is. is.0)
    (λ t is. (is, tt))

pub update_reads : (n : ℕ) → n < 2 ^ 8 → (bytes : List ℕ) (fits : IsBytes bytes) → Reads bytes 57 (UpdateFits n) update_bytes (λ k. 81 + length k.payload.items) (update_at n bytes)
unfolding update_at
update_reads n small bytes fits =
    renamed (UpdateFits n)
    (step (λ (k : Kept). k.entry) (entry_reads n small false bytes fits 57 79 refl) (λ entry entry-is.
    step (λ (k : Kept). k.payload.items) (bytes_reads (λ l. nat_le l 128) (IsSize 128) (λ m t. record { at_most = grind (arith, nat_tests) }) (λ m is. let a = is.at_most in (omega arith, grind (arith, nat_tests))) bytes fits 79) (λ payload payload-is.
    last_to (record { entry = entry; early = false; payload = record { items = payload } }) (λ k. 81 + length k.payload.items) refl)
    (λ payload payload-is k is. ap (λ (z : Kept). z.payload.items) is))
    (λ entry entry-is k is. ap (λ (z : Kept). z.entry) is.1))
    (λ k is. record {
      entry = record { id = is.0.fits.id; late = is.0.never refl; stamp = is.0.fits.stamp };
      early = ap (λ (z : Kept). z.early) is.1.1;
      payload = is.1.0.at_most;
    })
    (λ k is. (record { fits = record { id = is.entry.id; late = λ l. absurd (cc is.entry.late); stamp = is.entry.stamp }; never = λ none. is.entry.late }, (record { at_most = is.payload }, early_is k is.early)))
  where
    early_is : (k : Kept) → k.early ≡ false → k ≡ record { entry = k.entry; early = false; payload = record { items = k.payload.items } }
    early_is k e = ap (λ (b : Bool). record { entry = k.entry; early = b; payload = k.payload }) e

-- ---- an election

GroupFor : ℕ → ℕ → Type 0
GroupFor zero group = group ≡ 0
GroupFor (suc number) group = IsPositive group

group_to : (number group : ℕ) → is_group_for number group ≡ true → GroupFor number group
unfolding GroupFor
group_to zero group t = grind (arith, nat_tests)
group_to (suc number) group t = record { above = grind (arith, nat_tests); count = grind (arith, nat_tests) }

group_from : (number group : ℕ) → GroupFor number group → (group < 2 ^ 64) × (is_group_for number group ≡ true)
unfolding GroupFor
group_from zero group is = (omega arith, grind (arith, nat_tests))
group_from (suc number) group is = let a = is.above in let b = is.count in (omega arith, grind (arith, nat_tests))

number_known : (number group : ℕ) → number ≤ 1 → why_number (why_from number group) ≡ number
number_known zero group le = refl
number_known (suc zero) group le = refl
number_known (suc (suc number)) group le = absurd (omega arith)

group_known : (number group : ℕ) → GroupFor number group → why_group (why_from number group) ≡ group
unfolding GroupFor
group_known zero group is = sym is
group_known (suc number) group is = refl

why_fits : (w : Why) → GroupFor (why_number w) (why_group w) → WhyFits w
unfolding GroupFor
why_fits Stuck is = tt
why_fits (Join group) is = is

record WhyParts (w : Why) : Type 0 where
  number : why_number w ≤ 1
  group : GroupFor (why_number w) (why_group w)
  made : w ≡ why_from (why_number w) (why_group w)

why_parts : (w : Why) → WhyFits w → WhyParts w
unfolding GroupFor
why_parts Stuck is = record { number = omega arith; group = refl; made = refl }
why_parts (Join group) is = record { number = omega arith; group = is; made = refl }

why_reads : (bytes : List ℕ) (fits : IsBytes bytes) (place next : ℕ) → next ≡ place + 9 → Reads bytes place WhyFits why_bytes (λ w. next) (why_at bytes place)
unfolding why_at
why_reads bytes fits place next e =
    renamed WhyFits
    (step why_number (byte_to_reads bytes fits place (place + 1) 1 (omega arith) refl) (λ number number-is.
    step why_group (checked_reads w64 (2 ^ 64) wide64 (is_group_for number) (Field (place + 1)) (GroupFor number) (group_to number) (group_from number) bytes fits (place + 1) next (omega arith)) (λ group group-is.
    last (why_from number group))
    (λ group group-is w is. ap why_group is ∙ group_known number group group-is))
    (λ number number-is w is. ap why_number is.1 ∙ number_known number (why_group w) number-is))
    (λ w is. why_fits w is.1.0)
    (λ w is. let p = why_parts w is in (p.number, (p.group, p.made)))

pub election_reads : (bytes : List ℕ) (fits : IsBytes bytes) → Reads bytes 57 (λ (e : ℕ × Why). ElectionFits e.0 e.1) (λ e. election_bytes e.0 e.1) (λ e. 74) (election_at bytes)
unfolding election_at
election_reads bytes fits =
    renamed (λ (e : ℕ × Why). ElectionFits e.0 e.1)
    (step (λ (e : ℕ × Why). e.0) (positive_reads bytes fits 57 65 refl) (λ number number-is.
    step (λ (e : ℕ × Why). e.1) (why_reads bytes fits 65 74 refl) (λ why why-is.
    last (number, why))
    (λ why why-is e is. ap (λ (z : ℕ × Why). z.1) is))
    (λ number number-is e is. ap (λ (z : ℕ × Why). z.0) is.1))
    (λ e is. record { number_fits = is.0; why_fits = is.1.0 })
    (λ e is. (is.number_fits, (is.why_fits, refl)))

-- ---- what is asked for

record WantIs (n number : ℕ) (w : Want) : Type 0 where
  number_is : want_number w ≡ number
  fits : WantFits n w

id_wanted : (n : ℕ) (w : Want) → WantIs n 0 w → (id : UpdateId) × (w ≡ wants.Update id) × IdFits n id
id_wanted n (wants.Update id) is = (id, refl, is.fits)
id_wanted n (wants.Table group) is = absurd (cc is.number_is)

table_wanted : (n : ℕ) (w : Want) → WantIs n 1 w → (group : ℕ) × (w ≡ wants.Table group) × IsPositive group
table_wanted n (wants.Update id) is = absurd (cc is.number_is)
table_wanted n (wants.Table group) is = (group, refl, is.fits)

wanted_reads : (number n : ℕ) → number ≤ 1 → n < 2 ^ 8 → (bytes : List ℕ) (fits : IsBytes bytes) → Reads bytes 58 (WantIs n number) wanted_bytes want_end (wanted_at number n bytes 58)
unfolding wanted_at
wanted_reads zero n le small bytes fits =
    renamed (WantIs n 0) (made_reads wants.Update wanted_bytes want_end (λ id. refl) (λ id. refl) (id_reads n small bytes fits 58 71 refl))
    (λ w is. subst (WantIs n 0) (sym is.1) (record { number_is = refl; fits = is.2 }))
    (λ w is. id_wanted n w is)
wanted_reads (suc zero) n le small bytes fits =
    renamed (WantIs n 1) (made_reads wants.Table wanted_bytes want_end (λ group. refl) (λ group. refl) (positive_reads bytes fits 58 66 refl))
    (λ w is. subst (WantIs n 1) (sym is.1) (record { number_is = refl; fits = is.2 }))
    (λ w is. table_wanted n w is)
wanted_reads (suc (suc number)) n le small bytes fits = absurd (omega arith)

want_small : (w : Want) → want_number w ≤ 1
want_small (wants.Update id) = omega arith
want_small (wants.Table group) = omega arith

pub want_reads : (n : ℕ) → n < 2 ^ 8 → (bytes : List ℕ) (fits : IsBytes bytes) → Reads bytes 57 (WantFits n) want_bytes want_end (want_at n bytes)
unfolding want_at
want_reads n small bytes fits =
    respelled want_bytes (λ w. simp append-nil)
    (renamed (WantFits n)
    (step want_number (byte_to_reads bytes fits 57 58 1 (omega arith) refl) (λ number number-is. wanted_reads number n number-is small bytes fits)
    (λ number number-is w is. is.number_is))
    (λ w is. is.1.fits)
    (λ w is. (want_small w, record { number_is = refl; fits = is })))

-- ---- a piece of the application's content

record IsTotal (n : ℕ) : Type 0 where
  above : 1 ≤ n
  below : n ≤ 4096

record IsOffset (total n : ℕ) : Type 0 where
  below : n < total
  aligned : n % 1024 ≡ 0

pub piece_reads : (bytes : List ℕ) (fits : IsBytes bytes) → Reads bytes 57 (λ (p : Piece). StateFits p.group p.position p.total p.offset p.bytes) (λ p. state_bytes p.group p.position p.total p.offset p.bytes) (λ p. 79 + length p.bytes) (piece_at bytes)
unfolding piece_at
piece_reads bytes fits =
    renamed (λ (p : Piece). StateFits p.group p.position p.total p.offset p.bytes)
    (step (λ (p : Piece). p.group) (positive_reads bytes fits 57 65 refl) (λ group group-is.
    step (λ (p : Piece). p.position) (count_reads bytes fits 65 73 refl) (λ position position-is.
    step (λ (p : Piece). p.total) (checked_reads w16 (2 ^ 16) wide16 is_total (Field 73) IsTotal (λ m t. record { above = grind (arith, nat_tests); below = grind (arith, nat_tests) }) (λ m is. let a = is.above in let b = is.below in (omega arith, grind (arith, nat_tests))) bytes fits 73 75 refl) (λ total total-is.
    step (λ (p : Piece). p.offset) (checked_reads w16 (2 ^ 16) wide16 (is_offset_below total) (Field 75) (IsOffset total) (λ m t. record { below = grind (arith, nat_tests); aligned = grind (arith, nat_tests) }) (λ m is. let a = is.below in let b = is.aligned in let c = total-is.below in (omega arith, grind (arith, nat_tests))) bytes fits 75 77 refl) (λ offset offset-is.
    step (λ (p : Piece). p.bytes) (bytes_reads (λ l. l == min 1024 (total - offset)) (λ l. l ≡ min 1024 (total - offset)) (λ l t. eqb-true _ _ t) (λ l is. (omega arith, grind (arith, nat_tests))) bytes fits 77) (λ piece piece-is.
    last_to (record { group = group; position = position; total = total; offset = offset; bytes = piece }) (λ p. 79 + length p.bytes) refl)
    (λ piece piece-is p is. ap (λ (z : Piece). z.bytes) is))
    (λ offset offset-is p is. ap (λ (z : Piece). z.offset) is.1))
    (λ total total-is p is. ap (λ (z : Piece). z.total) is.1.1))
    (λ position position-is p is. ap (λ (z : Piece). z.position) is.1.1.1))
    (λ group group-is p is. ap (λ (z : Piece). z.group) is.1.1.1.1))
    (λ p is. record {
      group_fits = is.0;
      position_fits = is.1.0;
      total_above = is.1.1.0.above;
      total_fits = is.1.1.0.below;
      offset_fits = is.1.1.1.0.below;
      aligned = is.1.1.1.0.aligned;
      piece = is.1.1.1.1.0;
    })
    (λ p is. (is.group_fits, (is.position_fits, (record { above = is.total_above; below = is.total_fits }, (record { below = is.offset_fits; aligned = is.aligned }, (is.piece, refl))))))

-- ---- a sign of life

ready_reads : (bytes : List ℕ) (fits : IsBytes bytes) (place next : ℕ) → next ≡ place + 24 → Reads bytes place ReadyFits ready_bytes (λ r. next) (ready_at bytes place)
unfolding ready_at
ready_reads bytes fits place next e =
    renamed ReadyFits
    (step (λ (r : ℕ × ℕ × ℕ). r.0) (count_reads bytes fits place (place + 8) refl) (λ group group-is.
    step (λ (r : ℕ × ℕ × ℕ). r.1) (count_reads bytes fits (place + 8) (place + 16) (omega arith)) (λ turn turn-is.
    step (λ (r : ℕ × ℕ × ℕ). r.2) (count_reads bytes fits (place + 16) next (omega arith)) (λ length length-is.
    last (group, turn, length))
    (λ length length-is r is. ap (λ (z : ℕ × ℕ × ℕ). z.2) is))
    (λ turn turn-is r is. ap (λ (z : ℕ × ℕ × ℕ). z.1) is.1))
    (λ group group-is r is. ap (λ (z : ℕ × ℕ × ℕ). z.0) is.1.1))
    (λ r is. record { group = is.0; turn = is.1.0; length = is.1.1.0 })
    (λ r is. (is.group, (is.turn, (is.length, refl))))

pub sync_reads : (bytes : List ℕ) (fits : IsBytes bytes) → Reads bytes 57 (λ (r : Option (ℕ × ℕ × ℕ)). IfSome r ReadyFits) sync_bytes (λ r. 82) (sync_at bytes)
unfolding sync_at
sync_reads bytes fits = respelled sync_bytes (λ r. simp append-nil) (optional_reads 3 ready_at ReadyFits ready_bytes bytes fits 57 82 refl (ready_reads bytes fits 58 82 refl))
