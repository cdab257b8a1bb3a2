-- Lists of updates: each member's numbers in them, and the marks of the timed ones.
use Rattle.std.proofs.Common.{◌≡◌, refl, sym, ap, subst, ◌∙◌, ℕ, zero, suc, ◌+◌, Bool, true, false, cond, not, ◌&&◌, ◌||◌, List, [], ◌∷◌, ◌++◌, map, length, filter, find, reverse, Option, Some, None, arith, length-append}
use Rattle.std.specs.Prelude.{◌==◌}
use Rattle.std.specs.List.{AllByRecursion, list_any, range_with_len}
use Rattle.std.specs.Option.{option_map_or, option_or}
use Rattle.std.proofs.lemmas.Bool.Decides.{nat_tests}
use Rattle.std.proofs.lemmas.List.{map-append, reverse-append}
use Rattle.std.proofs.lemmas.List.Elements.{filter-append}
use Rattle.std.proofs.lemmas.List.Folds.{find-append}
use Rattle.std.proofs.lemmas.List.Sums.{sum_by-append, sum_by-cons}
use Rattle.tw_machine.specs.Types.{Team, Entry, Kept, Member, Seat, TimeMark, Decision}
use Rattle.tw_types.specs.Appending.{count_of, is_candidate, mark_of, is_above, moves_mark, mark_after, added_entry, added_kept, come_in_turn}
use Rattle.tw_types.specs.Decisions.{is_same_member, is_seat_of}
use Rattle.tw_types.specs.Updates.{sender, is_timed}
use Rattle.tw_types.proofs.Lists.{all_parted}
use Rattle.safety_laws.specs.Lists.{entries_of, seqs_of, GoByOne, marks_of, MarksAscend}
use Rattle.safety_laws.proofs.FirstDecisions.{same_member_of}
use Rattle.safety_laws.proofs.Lists.{of_each, each_weaker}
use Rattle.safety_laws.proofs.NextDecisions.{any_in}

-- ---- the numbers of a member

-- numbers that go on where others end
range_joined : (a m n : ℕ) → range_with_len a m ++ range_with_len (a + m) n ≡ range_with_len a (m + n)
range_joined a zero n = let same : a + 0 ≡ a = omega arith in let none : n ≡ 0 + n = omega arith in ap (λ b. range_with_len b n) same ∙ ap (range_with_len a) none
range_joined a (suc m) n =
    let first : a + suc m ≡ (a + 1) + m = omega arith in
    let size : suc (m + n) ≡ suc m + n = omega arith in
    ap (λ b. a ∷ (range_with_len (a + 1) m ++ range_with_len b n)) first ∙ ap (λ ks. a ∷ ks) (range_joined (a + 1) m n) ∙ ap (range_with_len a) size

-- of two lists, one behind the other
pub seqs_joined : (member : Member) (xs ys : List Kept) → seqs_of member (xs ++ ys) ≡ seqs_of member xs ++ seqs_of member ys
seqs_joined member xs ys =
    ap (map (λ (k : Kept). k.entry.id.seq)) (filter-append (λ (k : Kept). is_same_member (sender k.entry.id) member) xs ys)
    ∙ map-append (λ (k : Kept). k.entry.id.seq) (filter (λ (k : Kept). is_same_member (sender k.entry.id) member) xs) (filter (λ (k : Kept). is_same_member (sender k.entry.id) member) ys)

-- there are as many as entries of the member
pub seqs_counted : (member : Member) (xs : List Kept) → count_of member (entries_of xs) ≡ length (seqs_of member xs)
seqs_counted member [] = refl
seqs_counted member (k ∷ xs) =
    sum_by-cons (λ (e : Entry). cond (is_same_member (sender e.id) member) 1 0) k.entry (entries_of xs) ∙ go (is_same_member (sender k.entry.id) member) (seqs_counted member xs)
  where
    go : (b : Bool) → count_of member (entries_of xs) ≡ length (seqs_of member xs)
        → cond b 1 0 + count_of member (entries_of xs) ≡ length (map (λ (z : Kept). z.entry.id.seq) (cond b (k ∷ filter (λ (z : Kept). is_same_member (sender z.entry.id) member) xs)
        (filter (λ (z : Kept). is_same_member (sender z.entry.id) member) xs)))
    go true rest = omega arith
    go false rest = omega arith

-- one entry more
counted : (member : Member) (before : List Entry) (e : Entry) → count_of member (before ++ e ∷ []) ≡ count_of member before + (0 + cond (is_same_member (sender e.id) member) 1 0)
counted member before e = sum_by-append (λ (x : Entry). cond (is_same_member (sender x.id) member) 1 0) before (e ∷ [])

-- each seat awaits the number above these
abbrev Awaits : (Member → ℕ) → Decision → Type 0
Awaits sent d = AllByRecursion (λ (s : Seat). s.next ≡ 1 + sent s.member) d.seats.items

-- the number of an update that may come next
candidate_seq : (sent : Member → ℕ) (d : Decision) (before : List Entry) (k : Kept) → Awaits sent d → is_candidate d before k ≡ true
    → k.entry.id.seq ≡ 1 + sent (sender k.entry.id) + count_of (sender k.entry.id) before
candidate_seq sent d before k all e =
    let r = any_in (λ (s : Seat). is_seat_of (sender k.entry.id) s && (k.entry.id.seq == s.next + count_of s.member before)) d.seats.items e in
    let same : r.0.member ≡ sender k.entry.id = same_member_of r.0.member (sender k.entry.id) (search (arith, nat_tests, r.2)) in
    let seq : k.entry.id.seq ≡ r.0.next + count_of r.0.member before = search (arith, nat_tests, r.2) in
    let next = of_each (λ (s : Seat). s.next ≡ 1 + sent s.member) d.seats.items r.0 all r.1 in
    subst (λ (m : Member). k.entry.id.seq ≡ 1 + sent m + count_of m before) same (omega (arith, seq, next))

-- What comes in turn has the next numbers of each member.
pub seqs_added : (team : Team) (t : ℕ) (d : Decision) (pending : List Kept) (sent : Member → ℕ) (member : Member) (before : List Entry) (updates : List Kept) → Awaits sent d → come_in_turn team t d pending before updates ≡ true
    → seqs_of member (added_kept d before updates) ≡ range_with_len (1 + sent member + count_of member before) (length (seqs_of member (added_kept d before updates)))
seqs_added team t d pending sent member before [] all e = refl
seqs_added team t d pending sent member before (u ∷ updates) all e =
    go (is_same_member (sender u.entry.id) member) refl (seqs_added team t d pending sent member (before ++ added_entry d before u ∷ []) updates all (search (arith, nat_tests, e)))
  where
    rest : List Kept
    rest = added_kept d (before ++ added_entry d before u ∷ []) updates

    mine : Kept → Bool
    mine z = is_same_member (sender z.entry.id) member

    new : Kept
    new = record u { entry = added_entry d before u; early = false }

    go : (b : Bool) → is_same_member (sender u.entry.id) member ≡ b → seqs_of member rest ≡ range_with_len (1 + sent member + count_of member (before ++ added_entry d before u ∷ [])) (length (seqs_of member rest))
        → map (λ (z : Kept). z.entry.id.seq) (cond b (new ∷ filter mine rest) (filter mine rest))
        ≡ range_with_len (1 + sent member + count_of member before) (length (map (λ (z : Kept). z.entry.id.seq) (cond b (new ∷ filter mine rest) (filter mine rest))))
    go true is more =
        let same : sender u.entry.id ≡ member = same_member_of (sender u.entry.id) member is in
        let first : u.entry.id.seq ≡ 1 + sent member + count_of member before =
        subst (λ (m : Member). u.entry.id.seq ≡ 1 + sent m + count_of m before) same (candidate_seq sent d before u all (search (arith, nat_tests, e))) in
        let count = counted member before (added_entry d before u) ∙ ap (λ b. count_of member before + (0 + cond b 1 0)) is in
        let after : 1 + sent member + count_of member (before ++ added_entry d before u ∷ []) ≡ (1 + sent member + count_of member before) + 1 = omega (arith, count) in
        ap (λ n. n ∷ seqs_of member rest) first ∙ ap (λ ks. (1 + sent member + count_of member before) ∷ ks) (more ∙ ap (λ n. range_with_len n (length (seqs_of member rest))) after)
    go false is more =
        let count = counted member before (added_entry d before u) ∙ ap (λ b. count_of member before + (0 + cond b 1 0)) is in
        let same : 1 + sent member + count_of member (before ++ added_entry d before u ∷ []) ≡ 1 + sent member + count_of member before = omega (arith, count) in
        more ∙ ap (λ n. range_with_len n (length (seqs_of member rest))) same

-- a list in which they go by one goes on so
pub by_one_joined : (xs ys : List Kept) → GoByOne xs → ((member : Member) → seqs_of member ys ≡ range_with_len (1 + length (seqs_of member xs)) (length (seqs_of member ys))) → GoByOne (xs ++ ys)
by_one_joined xs ys first rest member = go (seqs_of member xs) (seqs_of member ys) (seqs_of member (xs ++ ys)) (seqs_joined member xs ys) (first member) (rest member)
  where
    go : (ns ms all : List ℕ) → all ≡ ns ++ ms → ns ≡ range_with_len 1 (length ns) → ms ≡ range_with_len (1 + length ns) (length ms) → all ≡ range_with_len 1 (length all)
    go ns ms all e f g =
        let size : length all ≡ length ns + length ms = ap length e ∙ simp length-append in
        e ∙ ap (λ ks. ks ++ ms) f ∙ ap (λ ks. range_with_len 1 (length ns) ++ ks) g ∙ range_joined 1 (length ns) (length ms) ∙ ap (range_with_len 1) (sym size)

-- ---- marks

-- the last of some marks
abbrev last_mark : List TimeMark → TimeMark → TimeMark
last_mark [] mark = mark
last_mark (m ∷ marks) mark = last_mark marks m

-- of marks behind others
last_joined : (xs ys : List TimeMark) (mark : TimeMark) → last_mark (xs ++ ys) mark ≡ last_mark ys (last_mark xs mark)
last_joined [] ys mark = refl
last_joined (x ∷ xs) ys mark = last_joined xs ys x

-- the mark after some entries is that of the last one that moves it
after_is_last : (es : List Entry) (mark : TimeMark) → mark_after es mark ≡ last_mark (map mark_of (filter moves_mark es)) mark
after_is_last [] mark = refl
after_is_last (e ∷ es) mark =
    ap (λ o. option_map_or mark_of o mark) (ap (find moves_mark) (reverse-append (e ∷ []) es) ∙ find-append moves_mark (reverse es) (e ∷ []))
    ∙ go (moves_mark e) refl (find moves_mark (reverse es)) refl (after_is_last es)
  where
    go : (b : Bool) → moves_mark e ≡ b → (o : Option Entry) → find moves_mark (reverse es) ≡ o → ((m : TimeMark) → mark_after es m ≡ last_mark (map mark_of (filter moves_mark es)) m)
        → option_map_or mark_of (option_or o (cond b (Some e) None)) mark ≡ last_mark (map mark_of (cond b (e ∷ filter moves_mark es) (filter moves_mark es))) mark
    go true is None f rest = ap (λ o. option_map_or mark_of o (mark_of e)) (sym f) ∙ rest (mark_of e)
    go true is (Some x) f rest = ap (λ o. option_map_or mark_of o (mark_of e)) (sym f) ∙ rest (mark_of e)
    go false is None f rest = ap (λ o. option_map_or mark_of o mark) (sym f) ∙ rest mark
    go false is (Some x) f rest = ap (λ o. option_map_or mark_of o mark) (sym f) ∙ rest mark

-- the marks of two lists, one behind the other
marks_joined : (xs ys : List Kept) → marks_of (xs ++ ys) ≡ marks_of xs ++ marks_of ys
marks_joined xs ys =
    ap (λ es. map mark_of (filter moves_mark es)) (map-append (λ (k : Kept). k.entry) xs ys)
    ∙ ap (map mark_of) (filter-append moves_mark (entries_of xs) (entries_of ys))
    ∙ map-append mark_of (filter moves_mark (entries_of xs)) (filter moves_mark (entries_of ys))

-- above what is above is above
above_through : (a b c : TimeMark) → is_above a b ≡ true → is_above b c ≡ true → is_above a c ≡ true
above_through a b c e f = grind (arith, nat_tests)

-- what is above the last of ascending marks is above each
above_last : (x : TimeMark) (xs : List TimeMark) (y : TimeMark) → MarksAscend (x ∷ xs) → is_above y (last_mark xs x) ≡ true → (is_above y x ≡ true) × AllByRecursion (λ (m : TimeMark). is_above y m ≡ true) xs
above_last x [] y asc e = (e, tt)
above_last x (z ∷ xs) y asc e = let rest = above_last z xs y asc.1 e in (above_through y z x rest.0 asc.0.0, rest)

-- ascending marks, and then others above the last of them
ascend_joined : (xs ys : List TimeMark) (mark : TimeMark) → MarksAscend xs → MarksAscend ys → AllByRecursion (λ (y : TimeMark). is_above y (last_mark xs mark) ≡ true) ys → MarksAscend (xs ++ ys)
ascend_joined [] ys mark first rest above = rest
ascend_joined (x ∷ xs) ys mark first rest above =
    (joined xs ys first.0 (each_weaker (λ (y : TimeMark). is_above y (last_mark xs x) ≡ true) (λ (y : TimeMark). is_above y x ≡ true) ys (λ y e. (above_last x xs y first e).0) above), ascend_joined xs ys x first.1 rest above)
  where
    joined : (ns ms : List TimeMark) → AllByRecursion (λ (m : TimeMark). is_above m x ≡ true) ns → AllByRecursion (λ (m : TimeMark). is_above m x ≡ true) ms → AllByRecursion (λ (m : TimeMark). is_above m x ≡ true) (ns ++ ms)
    joined [] ms a b = b
    joined (m ∷ ns) ms a b = (a.0, joined ns ms a.1 b)

-- ---- the marks of what is added

-- a mark above that of the decision, and above those of entries before it
record GoesAbove (mark : TimeMark) (before : List Entry) (y : TimeMark) : Type 0 where
  last : is_above y mark ≡ true
  each : AllByRecursion (λ (b : Entry). moves_mark b ≡ true → is_above y (mark_of b) ≡ true) before

-- where none passes the test each fails it
none_of : {X : Type 0} (test : X → Bool) (xs : List X) → list_any test xs ≡ false → AllByRecursion (λ x. test x ≡ false) xs
none_of test [] e = tt
none_of test (x ∷ xs) e = go (test x) refl e (none_of test xs)
  where
    go : (b : Bool) → test x ≡ b → (b || list_any test xs) ≡ false → (list_any test xs ≡ false → AllByRecursion (λ y. test y ≡ false) xs) → (test x ≡ false) × AllByRecursion (λ y. test y ≡ false) xs
    go true is f rest = absurd (cc)
    go false is f rest = (is, rest f)

-- a timed entry that isn't late is
moved_above : (d : Decision) (before : List Entry) (u : Kept) → moves_mark (added_entry d before u) ≡ true → GoesAbove d.mark before (mark_of u.entry)
moved_above d before u e = go (is_timed u.entry.order) (is_above (mark_of u.entry) d.mark) refl (list_any behind before) refl e
  where
    behind : Entry → Bool
    behind b = moves_mark b && not (is_above (mark_of u.entry) (mark_of b))

    not_behind : (b : Entry) → behind b ≡ false → moves_mark b ≡ true → is_above (mark_of u.entry) (mark_of b) ≡ true
    not_behind b f moves = by (moves_mark b) (is_above (mark_of u.entry) (mark_of b)) f moves
      where
        by : (m a : Bool) → (m && not a) ≡ false → m ≡ true → a ≡ true
        by true true f g = refl
        by true false f g = absurd (cc)
        by false a f g = absurd (cc)

    go : (timed above : Bool) → is_above (mark_of u.entry) d.mark ≡ above → (any : Bool) → list_any behind before ≡ any → (timed && not (timed && (not above || any))) ≡ true → GoesAbove d.mark before (mark_of u.entry)
    go true true is false none f = record {
      last = is;
      each = each_weaker (λ (b : Entry). behind b ≡ false) (λ (b : Entry). moves_mark b ≡ true → is_above (mark_of u.entry) (mark_of b) ≡ true) before not_behind (none_of behind before none);
    }
    go true true is true some f = absurd (cc)
    go true false is any some f = absurd (cc)
    go false above is any some f = absurd (cc)

-- of what is added: the marks ascend, above those of before
record AscendAbove (mark : TimeMark) (before : List Entry) (marks : List TimeMark) : Type 0 where
  above : AllByRecursion (GoesAbove mark before) marks
  ascend : MarksAscend marks

-- without the newest entry of before
drop_new : (mark : TimeMark) (before : List Entry) (e : Entry) (y : TimeMark) → GoesAbove mark (before ++ e ∷ []) y → GoesAbove mark before y × (moves_mark e ≡ true → is_above y (mark_of e) ≡ true)
drop_new mark before e y k = let parts = all_parted (λ (b : Entry). moves_mark b ≡ true → is_above y (mark_of b) ≡ true) before (e ∷ []) k.each in (record { last = k.last; each = parts.0 }, parts.1.0)

-- what is added behind these entries
added_ascend : (d : Decision) (before : List Entry) (updates : List Kept) → AscendAbove d.mark before (marks_of (added_kept d before updates))
added_ascend d before [] = record { above = tt; ascend = tt }
added_ascend d before (u ∷ updates) = go (moves_mark new) refl (added_ascend d (before ++ new ∷ []) updates)
  where
    new : Entry
    new = added_entry d before u

    rest : List Kept
    rest = added_kept d (before ++ new ∷ []) updates

    go : (b : Bool) → moves_mark new ≡ b → AscendAbove d.mark (before ++ new ∷ []) (marks_of rest)
        → AscendAbove d.mark before (map mark_of (cond b (new ∷ filter moves_mark (entries_of rest)) (filter moves_mark (entries_of rest))))
    go true is k = record {
      above = (moved_above d before u is, each_weaker (GoesAbove d.mark (before ++ new ∷ [])) (GoesAbove d.mark before) (marks_of rest) (λ y a. (drop_new d.mark before new y a).0) k.above);
      ascend = (each_weaker (GoesAbove d.mark (before ++ new ∷ [])) (λ (y : TimeMark). is_above y (mark_of new) ≡ true) (marks_of rest) (λ y a. (drop_new d.mark before new y a).1 is) k.above, k.ascend);
    }
    go false is k = record {
      above = each_weaker (GoesAbove d.mark (before ++ new ∷ [])) (GoesAbove d.mark before) (marks_of rest) (λ y a. (drop_new d.mark before new y a).0) k.above;
      ascend = k.ascend;
    }

-- A list whose marks ascend up to the decision's does so with what is added.
pub marks_ascend_on : (d : Decision) (log updates : List Kept) (none : TimeMark) → MarksAscend (marks_of log) → d.mark ≡ mark_after (entries_of log) none → MarksAscend (marks_of (log ++ added_kept d [] updates))
marks_ascend_on d log updates none asc is =
    let new = added_ascend d [] updates in
    let last : d.mark ≡ last_mark (marks_of log) none = is ∙ after_is_last (entries_of log) none in
    subst MarksAscend (sym (marks_joined log (added_kept d [] updates)))
    (ascend_joined (marks_of log) (marks_of (added_kept d [] updates)) none asc new.ascend
    (each_weaker (GoesAbove d.mark []) (λ (y : TimeMark). is_above y (last_mark (marks_of log) none) ≡ true) (marks_of (added_kept d [] updates)) (λ y k. subst (λ m. is_above y m ≡ true) last k.last) new.above))

-- and the mark is the last one again
pub mark_goes_on : (xs ys : List Kept) (mark none : TimeMark) → mark ≡ mark_after (entries_of xs) none → mark_after (entries_of ys) mark ≡ mark_after (entries_of (xs ++ ys)) none
mark_goes_on xs ys mark none is =
    after_is_last (entries_of ys) mark ∙ ap (last_mark (marks_of ys)) (is ∙ after_is_last (entries_of xs) none) ∙ sym (last_joined (marks_of xs) (marks_of ys) none)
    ∙ ap (λ ms. last_mark ms none) (sym (marks_joined xs ys)) ∙ sym (after_is_last (entries_of (xs ++ ys)) none)
