-- The appended list is the longest list that may be appended.
use Rattle.std.proofs.Common.{◌≡◌, refl, sym, subst, ◌∙◌, ap, inl, inr, ◌⊎◌, ℕ, suc, zero, ◌+◌, ◌≤◌, ◌<◌, Bool, true, false, cond, List, [], ◌∷◌, ◌++◌, map, length, filter, count_by, arith}
use Rattle.std.specs.Prelude.{◌==◌, ◌&&◌, ◌||◌, not, nat_lt, Contains}
use Rattle.std.specs.List.{list_any, list_all, flat_map, fold, AllByRecursion}
use Rattle.std.proofs.lemmas.Bool.Decides.{nat_tests}
use Rattle.std.proofs.lemmas.List.Sums.{sum_by-append}
use Rattle.tw_types.specs.declared.team.Team.{Team}
use Rattle.tw_types.specs.declared.message.Member.{Member}
use Rattle.tw_types.specs.declared.message.Entry.{Entry}
use Rattle.tw_types.specs.declared.message.Kept.{Kept}
use Rattle.tw_types.specs.declared.message.Seat.{Seat}
use Rattle.tw_types.specs.declared.message.Decision.{Decision}
use Rattle.tw_types.specs.Items.{In}
use Rattle.tw_types.specs.Ranges.{Ascends}
use Rattle.tw_types.specs.Decisions.{is_same_member, is_seat_of}
use Rattle.tw_types.specs.Updates.{sender}
use Rattle.tw_types.specs.Sends.{as_sent}
use Rattle.tw_types.specs.Appending.{count_of, is_candidate, may_come, goes_before, added_entry, IsNextEntry, EachIsNext, has_room, IsAppended, comes_next, come_in_turn, added_entries, added_kept, lists_of, longest, may_append, appended_updates, appended_list, appended_kept}

-- ---- items of lists

pub contained : {X : Type 0} (xs : List X) (x : X) → In x xs → Contains xs x
contained [] x i = absurd i
contained (y ∷ ys) x (inl e) = (0, omega arith, sym e)
contained (y ∷ ys) x (inr i) = let c = contained ys x i in (suc c.0, omega (arith, c.1), c.2)

pub in_of : {X : Type 0} (xs : List X) (x : X) → Contains xs x → In x xs
in_of [] x c = absurd (omega (arith, c.1))
in_of (y ∷ ys) x (zero, b, e) = inl (sym e)
in_of (y ∷ ys) x (suc k, b, e) = inr (in_of ys x (k, omega arith, e))

pub in_map : {X Y : Type 0} (f : X → Y) (xs : List X) (x : X) → In x xs → In (f x) (map f xs)
in_map f [] x i = i
in_map f (y ∷ ys) x (inl e) = inl (ap f e)
in_map f (y ∷ ys) x (inr i) = inr (in_map f ys x i)

pub of_map : {X Y : Type 0} (f : X → Y) (xs : List X) (y : Y) → In y (map f xs) → (x : X) × In x xs × (y ≡ f x)
of_map f [] y i = absurd i
of_map f (x ∷ xs) y (inl e) = (x, inl refl, e)
of_map f (x ∷ xs) y (inr i) = let r = of_map f xs y i in (r.0, inr r.1, r.2)

pub in_left : {X : Type 0} (xs ys : List X) (x : X) → In x xs → In x (xs ++ ys)
in_left [] ys x i = absurd i
in_left (z ∷ xs) ys x (inl e) = inl e
in_left (z ∷ xs) ys x (inr i) = inr (in_left xs ys x i)

pub in_right : {X : Type 0} (xs ys : List X) (x : X) → In x ys → In x (xs ++ ys)
in_right [] ys x i = i
in_right (z ∷ xs) ys x i = inr (in_right xs ys x i)

pub in_either : {X : Type 0} (xs ys : List X) (x : X) → In x (xs ++ ys) → In x xs ⊎ In x ys
in_either [] ys x i = inr i
in_either (z ∷ xs) ys x (inl e) = inl (inl e)
in_either (z ∷ xs) ys x (inr i) = go (in_either xs ys x i)
  where
    go : In x xs ⊎ In x ys → In x (z ∷ xs) ⊎ In x ys
    go (inl j) = inl (inr j)
    go (inr j) = inr j

pub in_flat : {X Y : Type 0} (f : X → List Y) (xs : List X) (x : X) (y : Y) → In x xs → In y (f x) → In y (flat_map f xs)
in_flat f [] x y i j = absurd i
in_flat f (z ∷ xs) x y (inl e) j = in_left (f z) (flat_map f xs) y (subst (λ w. In y (f w)) e j)
in_flat f (z ∷ xs) x y (inr i) j = in_right (f z) (flat_map f xs) y (in_flat f xs x y i j)

pub of_flat : {X Y : Type 0} (f : X → List Y) (xs : List X) (y : Y) → In y (flat_map f xs) → (x : X) × In x xs × In y (f x)
of_flat f [] y i = absurd i
of_flat f (z ∷ xs) y i = elim (in_either (f z) (flat_map f xs) y i) [ inl j ↦ (z, inl refl, j) | inr j ↦ (let r = of_flat f xs y j in (r.0, inr r.1, r.2)) ]

pub in_filter : {X : Type 0} (p : X → Bool) (xs : List X) (x : X) → In x xs → p x ≡ true → In x (filter p xs)
in_filter p [] x i e = i
in_filter p (y ∷ ys) x i e = go (p y) refl i (λ j. in_filter p ys x j e)
  where
    go : (b : Bool) → p y ≡ b → In x (y ∷ ys) → (In x ys → In x (filter p ys)) → In x (cond b (y ∷ filter p ys) (filter p ys))
    go true t (inl h) more = inl h
    go true t (inr j) more = inr (more j)
    go false t (inl h) more = absurd (cc (t, e, ap p h))
    go false t (inr j) more = more j

pub of_filter : {X : Type 0} (p : X → Bool) (xs : List X) (x : X) → In x (filter p xs) → In x xs × (p x ≡ true)
of_filter p [] x i = absurd i
of_filter p (y ∷ ys) x i = go (p y) refl i (λ j. of_filter p ys x j)
  where
    go : (b : Bool) → p y ≡ b → In x (cond b (y ∷ filter p ys) (filter p ys)) → (In x (filter p ys) → In x ys × (p x ≡ true)) → In x (y ∷ ys) × (p x ≡ true)
    go true t (inl h) more = (inl h, ap p h ∙ t)
    go true t (inr j) more = (inr (more j).0, (more j).1)
    go false t j more = (inr (more j).0, (more j).1)

-- each of some items stands in a list
abbrev pub EachIn : {X : Type 0} → List X → List X → Type 0
EachIn ys xs = AllByRecursion (λ x. In x ys) xs

abbrev pub AreDistinct : {X : Type 0} → List X → Type 0
AreDistinct [] = Unit {0}
AreDistinct (x ∷ xs) = AllByRecursion (λ y. x ≡ y → ⊥) xs × AreDistinct xs

-- a list without the item that stands there
abbrev pub without : {X : Type 0} (ys : List X) (x : X) → In x ys → List X
without [] x i = []
without (y ∷ ys) x (inl e) = ys
without (y ∷ ys) x (inr i) = y ∷ without ys x i

pub without_length : {X : Type 0} (ys : List X) (x : X) (i : In x ys) → suc (length (without ys x i)) ≡ length ys
without_length [] x i = absurd i
without_length (y ∷ ys) x (inl e) = refl
without_length (y ∷ ys) x (inr i) = ap suc (without_length ys x i)

pub in_without : {X : Type 0} (ys : List X) (x z : X) (i : In x ys) → (x ≡ z → ⊥) → In z ys → In z (without ys x i)
in_without [] x z i ne j = absurd i
in_without (y ∷ ys) x z (inl e) ne (inl f) = absurd (ne (e ∙ sym f))
in_without (y ∷ ys) x z (inl e) ne (inr j) = j
in_without (y ∷ ys) x z (inr i) ne (inl f) = inl f
in_without (y ∷ ys) x z (inr i) ne (inr j) = inr (in_without ys x z i ne j)

each_without : {X : Type 0} (ys : List X) (x : X) (i : In x ys) (xs : List X) → AllByRecursion (λ y. x ≡ y → ⊥) xs → EachIn ys xs → EachIn (without ys x i) xs
each_without ys x i [] ne all = tt
each_without ys x i (z ∷ xs) ne all = (in_without ys x z i ne.0 all.0, each_without ys x i xs ne.1 all.1)

-- different items of a list are no more than it has
pub at_most : {X : Type 0} (ys xs : List X) → AreDistinct xs → EachIn ys xs → length xs ≤ length ys
at_most ys [] d all = omega arith
at_most ys (x ∷ xs) d all = let l = at_most (without ys x all.0) xs d.1 (each_without ys x all.0 xs d.0 all.1) in let w = without_length ys x all.0 in omega (arith, l, w)

-- ---- all lists of some updates

pub of_lists : (k : ℕ) (pending updates : List Kept) → In updates (lists_of k pending) → EachIn pending updates
of_lists zero pending updates (inl e) = subst (EachIn pending) (sym e) tt
of_lists zero pending updates (inr i) = absurd i
of_lists (suc k) pending updates (inl e) = subst (EachIn pending) (sym e) tt
of_lists (suc k) pending updates (inr i) =
    let r = of_flat (λ (u : Kept). map (λ (rest : List Kept). u ∷ rest) (lists_of k pending)) pending updates i in
    let s = of_map (λ (rest : List Kept). r.0 ∷ rest) (lists_of k pending) updates r.2 in
    subst (EachIn pending) (sym s.2) (r.1, of_lists k pending s.0 s.1)

pub in_lists : (k : ℕ) (pending updates : List Kept) → EachIn pending updates → length updates ≤ k → In updates (lists_of k pending)
in_lists zero pending [] all few = inl refl
in_lists zero pending (u ∷ updates) all few = absurd (omega (arith, few))
in_lists (suc k) pending [] all few = inl refl
in_lists (suc k) pending (u ∷ updates) all few =
    inr (in_flat (λ (u : Kept). map (λ (rest : List Kept). u ∷ rest) (lists_of k pending)) pending u (u ∷ updates) all.0
    (in_map (λ (rest : List Kept). u ∷ rest) (lists_of k pending) updates (in_lists k pending updates all.1 (omega (arith, few)))))

pub record IsLongest (lists : List (List Kept)) (r : List Kept) : Type 0 where
  pub there : In r lists
  pub most : (x : List Kept) → In x lists → length x ≤ length r

fold_longest : (a : List Kept) (lists : List (List Kept)) → IsLongest (a ∷ lists) (fold (λ (a b : List Kept). cond (nat_lt (length a) (length b)) b a) a lists)
fold_longest a [] = record { there = inl refl; most = λ x i. elim i [ inl e ↦ omega (arith, ap length e) | inr j ↦ absurd j ] }
fold_longest a (b ∷ lists) = go (nat_lt (length a) (length b)) refl (fold_longest a lists) (fold_longest b lists)
  where
    go : (t : Bool) → nat_lt (length a) (length b) ≡ t → IsLongest (a ∷ lists) (fold (λ (a b : List Kept). cond (nat_lt (length a) (length b)) b a) a lists) → IsLongest (b ∷ lists) (fold (λ (a b : List Kept). cond (nat_lt (length a) (length b)) b a) b lists) → IsLongest (a ∷ b ∷ lists) (fold (λ (a b : List Kept). cond (nat_lt (length a) (length b)) b a) (cond t b a) lists)
    go true e q r = record {
      there = inr r.there;
      most = λ x i. elim i [ inl f ↦ (let m = r.most b (inl refl) in let l : length a < length b = search (arith, nat_tests) in omega (arith, m, l, ap length f)) | inr j ↦ r.most x j ];
    }
    go false e r q = record {
      there = elim r.there [ inl f ↦ inl f | inr j ↦ inr (inr j) ];
      most = λ x i. elim i [ inl f ↦ r.most x (inl f) | inr j ↦ elim j [ inl f ↦ (let m = r.most a (inl refl) in let l : length b ≤ length a = search (arith, nat_tests) in omega (arith, m, l, ap length f)) | inr k ↦ r.most x (inr k) ] ];
    }

pub longest_is : (lists : List (List Kept)) (x : List Kept) → In x lists → IsLongest lists (longest lists)
longest_is [] x i = absurd i
longest_is (a ∷ lists) x i = fold_longest a lists

-- ---- candidates

pub of_each : {X : Type 0} (P : X → Type 0) (xs : List X) (x : X) → AllByRecursion P xs → In x xs → P x
of_each P [] x all i = absurd i
of_each P (y ∷ xs) x all (inl e) = subst P (sym e) all.0
of_each P (y ∷ xs) x all (inr i) = of_each P xs x all.1 i

weaker : {X : Type 0} (P Q : X → Type 0) (xs : List X) → ((x : X) → P x → Q x) → AllByRecursion P xs → AllByRecursion Q xs
weaker P Q [] f all = tt
weaker P Q (x ∷ xs) f all = (f x all.0, weaker P Q xs f all.1)

some_of : {X : Type 0} (p : X → Bool) (xs : List X) → list_any p xs ≡ true → (x : X) × In x xs × (p x ≡ true)
some_of p [] e = absurd (cc)
some_of p (x ∷ xs) e = go (p x) refl e (some_of p xs)
  where
    go : (b : Bool) → p x ≡ b → (b || list_any p xs) ≡ true → (list_any p xs ≡ true → (y : _) × In y xs × (p y ≡ true)) → (y : _) × In y (x ∷ xs) × (p y ≡ true)
    go true t f more = (x, inl refl, t)
    go false t f more = let r = more f in (r.0, inr r.1, r.2)

all_pass : {X : Type 0} (p : X → Bool) (xs : List X) → list_all p xs ≡ true → AllByRecursion (λ x. p x ≡ true) xs
all_pass p [] e = tt
all_pass p (x ∷ xs) e = go (p x) refl e (all_pass p xs)
  where
    go : (b : Bool) → p x ≡ b → (b && list_all p xs) ≡ true → (list_all p xs ≡ true → AllByRecursion (λ y. p y ≡ true) xs) → (p x ≡ true) × AllByRecursion (λ y. p y ≡ true) xs
    go true t f more = (t, more f)
    go false t f more = absurd (cc)

passes_all : {X : Type 0} (p : X → Bool) (xs : List X) → AllByRecursion (λ x. p x ≡ true) xs → list_all p xs ≡ true
passes_all p [] all = refl
passes_all p (x ∷ xs) all = let r = passes_all p xs all.1 in rw all.0 r

-- two seats of one process are one seat
one_seat : (seats : List Seat) (s r : Seat) → Ascends seats → In s seats → In r seats → s.member.who ≡ r.member.who → s ≡ r
one_seat [] s r asc i j e = absurd i
one_seat (z ∷ seats) s r asc (inl f) (inl g) e = f ∙ sym g
one_seat (z ∷ seats) s r asc (inl f) (inr j) e = let l = of_each (λ (w : Seat). z.member.who < w.member.who) seats r asc.0 j in absurd (omega (arith, l, e, ap (λ (w : Seat). w.member.who) f))
one_seat (z ∷ seats) s r asc (inr i) (inl g) e = let l = of_each (λ (w : Seat). z.member.who < w.member.who) seats s asc.0 i in absurd (omega (arith, l, e, ap (λ (w : Seat). w.member.who) g))
one_seat (z ∷ seats) s r asc (inr i) (inr j) e = one_seat seats s r asc.1 i j e

-- the seat of a candidate
record Candidate (d : Decision) (before : List Entry) (k : Kept) : Type 0 where
  seat : Seat
  there : In seat d.seats.items
  member : sender k.entry.id ≡ seat.member
  seq : k.entry.id.seq ≡ seat.next + count_of seat.member before

candidate : (d : Decision) (before : List Entry) (k : Kept) → is_candidate d before k ≡ true → Candidate d before k
candidate d before k e =
    let r = some_of (λ (s : Seat). is_seat_of (sender k.entry.id) s && (k.entry.id.seq == s.next + count_of s.member before)) d.seats.items e in
    record { seat = r.0; there = r.1; member = grind (arith, nat_tests, r.2); seq = search (arith, nat_tests, r.2) }

counted : (p : Entry → Bool) (before : List Entry) (e : Entry) → count_by p (before ++ e ∷ []) ≡ count_by p before + (0 + cond (p e) 1 0)
counted p before e = sum_by-append (λ (x : Entry). cond (p x) 1 0) before (e ∷ [])

-- the numbers of a seat's member among these updates aren't below the seat's next one behind these entries
abbrev NotBelow : Seat → List Entry → List Kept → Type 0
NotBelow s before updates = AllByRecursion (λ (v : Kept). sender v.entry.id ≡ s.member → s.next + count_of s.member before ≤ v.entry.id.seq) updates

-- Behind these entries and those of updates that come in turn, the numbers of a member aren't below its seat's next one.
not_below : (team : Team) (t : ℕ) (d : Decision) (pending : List Kept) (before : List Entry) (updates : List Kept) (s : Seat) → Ascends d.seats.items → In s d.seats.items →
    come_in_turn team t d pending before updates ≡ true → NotBelow s before updates
not_below team t d pending before [] s asc i e = tt
not_below team t d pending before (u ∷ updates) s asc i e = go (not_below team t d pending (before ++ added_entry d before u ∷ []) updates s asc i (search (arith, nat_tests, e)))
  where
    first : sender u.entry.id ≡ s.member → s.next + count_of s.member before ≤ u.entry.id.seq
    first m = let c = candidate d before u (search (arith, nat_tests, e)) in
        let same = one_seat d.seats.items c.seat s asc c.there i (ap (λ (n : Member). n.who) (sym c.member ∙ m)) in
        let q = c.seq in subst (λ (r : Seat). r.next + count_of r.member before ≤ u.entry.id.seq) same (omega (arith, q))

    grown : (v : Kept) → (sender v.entry.id ≡ s.member → s.next + count_of s.member (before ++ added_entry d before u ∷ []) ≤ v.entry.id.seq) → sender v.entry.id ≡ s.member → s.next + count_of s.member before ≤ v.entry.id.seq
    grown v f m = let l = f m in let c = counted (λ (x : Entry). is_same_member (sender x.id) s.member) before (added_entry d before u) in omega (arith, l, c)

    go : NotBelow s (before ++ added_entry d before u ∷ []) updates → NotBelow s before (u ∷ updates)
    go rest = (first, weaker (λ (v : Kept). sender v.entry.id ≡ s.member → s.next + count_of s.member (before ++ added_entry d before u ∷ []) ≤ v.entry.id.seq) (λ (v : Kept). sender v.entry.id ≡ s.member → s.next + count_of s.member before ≤ v.entry.id.seq) updates grown rest)

-- updates that come in turn are different ones
in_turn_distinct : (team : Team) (t : ℕ) (d : Decision) (pending : List Kept) (before : List Entry) (updates : List Kept) → Ascends d.seats.items →
    come_in_turn team t d pending before updates ≡ true → AreDistinct updates
in_turn_distinct team t d pending before [] asc e = tt
in_turn_distinct team t d pending before (u ∷ updates) asc e = go (candidate d before u (search (arith, nat_tests, e))) (in_turn_distinct team t d pending (before ++ added_entry d before u ∷ []) updates asc (search (arith, nat_tests, e)))
  where
    go : Candidate d before u → AreDistinct updates → AreDistinct (u ∷ updates)
    go c rest = (
      weaker (λ (v : Kept). sender v.entry.id ≡ c.seat.member → c.seat.next + count_of c.seat.member (before ++ added_entry d before u ∷ []) ≤ v.entry.id.seq) (λ (v : Kept). u ≡ v → ⊥) updates other
          (not_below team t d pending (before ++ added_entry d before u ∷ []) updates c.seat asc c.there (search (arith, nat_tests, e))),
      rest,
    )
      where
        other : (v : Kept) → (sender v.entry.id ≡ c.seat.member → c.seat.next + count_of c.seat.member (before ++ added_entry d before u ∷ []) ≤ v.entry.id.seq) → u ≡ v → ⊥
        other v f same = let l = f (ap (λ (k : Kept). sender k.entry.id) (sym same) ∙ c.member) in
            let n = counted (λ (x : Entry). is_same_member (sender x.id) c.seat.member) before (added_entry d before u) in
            let own : is_same_member (sender u.entry.id) c.seat.member ≡ true = grind (arith, nat_tests, c.member) in
            let q = c.seq in
            let q2 : u.entry.id.seq ≡ v.entry.id.seq = ap (λ (k : Kept). k.entry.id.seq) same in
            omega (arith, l, n ∙ ap (λ b. count_by (λ (x : Entry). is_same_member (sender x.id) c.seat.member) before + (0 + cond b 1 0)) own, q, q2)

-- ---- updates in turn, and their entries

none_goes_before : (team : Team) (t : ℕ) (d : Decision) (before : List Entry) (e : Entry) (other : Kept) →
    not (may_come team t d before other && goes_before other.entry e) ≡ true → may_come team t d before other ≡ true → goes_before other.entry e ≡ false
none_goes_before team t d before e other h may = go (goes_before other.entry e) refl
  where
    go : (b : Bool) → goes_before other.entry e ≡ b → goes_before other.entry e ≡ false
    go true f = absurd (cc (h, may, f))
    go false f = f

if_none_goes_before : (team : Team) (t : ℕ) (d : Decision) (before : List Entry) (e : Entry) (other : Kept) →
    (may_come team t d before other ≡ true → goes_before other.entry e ≡ false) → not (may_come team t d before other && goes_before other.entry e) ≡ true
if_none_goes_before team t d before e other f = go (may_come team t d before other) refl
  where
    go : (b : Bool) → may_come team t d before other ≡ b → not (may_come team t d before other && goes_before other.entry e) ≡ true
    go true h = let g = f h in rw h (rw g refl)
    go false h = rw h refl

both : (a b : Bool) → (a && b) ≡ true → (a ≡ true) × (b ≡ true)
both true b e = (refl, e)
both false b e = absurd (cc)

-- their entries are each the next one
each_next : (team : Team) (t : ℕ) (d : Decision) (pending : List Kept) (before : List Entry) (updates : List Kept) → EachIn pending updates →
    come_in_turn team t d pending before updates ≡ true → EachIsNext team t d pending before (added_entries d before updates)
each_next team t d pending before [] all e = tt
each_next team t d pending before (u ∷ updates) all e =
    let h = both (comes_next team t d pending before u) (come_in_turn team t d pending (before ++ added_entry d before u ∷ []) updates) e in
    let c = both (may_come team t d before u) (list_all (λ (other : Kept). not (may_come team t d before other && goes_before other.entry u.entry)) pending) h.0 in (
      record {
        update = u;
        waits = contained pending u all.0;
        ripe = c.0;
        first = weaker (λ (other : Kept). not (may_come team t d before other && goes_before other.entry u.entry) ≡ true) (λ (other : Kept). may_come team t d before other ≡ true → goes_before other.entry u.entry ≡ false) pending
            (none_goes_before team t d before u.entry) (all_pass (λ (other : Kept). not (may_come team t d before other && goes_before other.entry u.entry)) pending c.1);
        entry = refl;
      },
      each_next team t d pending (before ++ added_entry d before u ∷ []) updates all.1 h.1,
    )

-- the updates of entries that are each the next one
record UpdatesOf (team : Team) (t : ℕ) (d : Decision) (pending : List Kept) (before entries : List Entry) : Type 0 where
  updates : List Kept
  each : EachIn pending updates
  in_turn : come_in_turn team t d pending before updates ≡ true
  same : added_entries d before updates ≡ entries

updates_of : (team : Team) (t : ℕ) (d : Decision) (pending : List Kept) (before entries : List Entry) → EachIsNext team t d pending before entries → UpdatesOf team t d pending before entries
updates_of team t d pending before [] all = record { updates = []; each = tt; in_turn = refl; same = refl }
updates_of team t d pending before (e ∷ entries) all =
    go all.0 (updates_of team t d pending (before ++ e ∷ []) entries all.1)
  where
    go : IsNextEntry team t d pending before e → UpdatesOf team t d pending (before ++ e ∷ []) entries → UpdatesOf team t d pending before (e ∷ entries)
    go n r = let r' = subst (λ (x : Entry). UpdatesOf team t d pending (before ++ x ∷ []) entries) n.entry r in record {
      updates = n.update ∷ r'.updates;
      each = (in_of pending n.update n.waits, r'.each);
      in_turn = let p = passes_all (λ (other : Kept). not (may_come team t d before other && goes_before other.entry n.update.entry)) pending
          (weaker (λ (other : Kept). may_come team t d before other ≡ true → goes_before other.entry n.update.entry ≡ false) (λ (other : Kept). not (may_come team t d before other && goes_before other.entry n.update.entry) ≡ true) pending
          (if_none_goes_before team t d before n.update.entry) n.first) in
          rw n.ripe (rw p r'.in_turn);
      same = ap (λ (rest : List Entry). added_entry d before n.update ∷ rest) r'.same ∙ ap (λ (x : Entry). x ∷ entries) (sym n.entry);
    }

added_length : (d : Decision) (before : List Entry) (updates : List Kept) → length (added_entries d before updates) ≡ length updates
added_length d before [] = refl
added_length d before (u ∷ updates) = ap suc (added_length d (before ++ added_entry d before u ∷ []) updates)

-- the appended list may be appended, and none that may is longer
pub appended_is : (team : Team) (t passed : ℕ) (d : Decision) (pending : List Kept) → Ascends d.seats.items → IsAppended team t passed d pending (appended_list team t passed d pending)
unfolding appended_list
appended_is team t passed d pending asc = go (longest_is lists [] none)
  where
    lists : List (List Kept)
    lists = filter (may_append team t passed d pending) (lists_of (length pending) pending)

    none : In [] lists
    none = in_filter (may_append team t passed d pending) (lists_of (length pending) pending) [] (in_lists (length pending) pending [] tt (omega arith)) refl

    go : IsLongest lists (longest lists) → IsAppended team t passed d pending (added_entries d [] (longest lists))
    go r =
        let i = of_filter (may_append team t passed d pending) (lists_of (length pending) pending) (longest lists) r.there in
        let m = both (come_in_turn team t d pending [] (longest lists)) (has_room passed d pending (added_entries d [] (longest lists))) i.1 in
        record {
          may = record { each = each_next team t d pending [] (longest lists) (of_lists (length pending) pending (longest lists) i.0) m.0; room = m.1 };
          longest = λ others may.
              let u = updates_of team t d pending [] others may.each in
              let few = at_most pending u.updates (in_turn_distinct team t d pending [] u.updates asc u.in_turn) u.each in
              let room : has_room passed d pending (added_entries d [] u.updates) ≡ true = ap (has_room passed d pending) u.same ∙ may.room in
              let ok : may_append team t passed d pending u.updates ≡ true = rw u.in_turn room in
              let l = r.most u.updates (in_filter (may_append team t passed d pending) (lists_of (length pending) pending) u.updates (in_lists (length pending) pending u.updates u.each few) ok) in
              let a = added_length d [] u.updates in
              let b = added_length d [] (longest lists) in
              omega (arith, l, a, b, ap length u.same);
        }

-- ---- the updates with their payloads have just these entries

entries_of : (d : Decision) (before : List Entry) (updates : List Kept) → map (λ (k : Kept). k.entry) (added_kept d before updates) ≡ added_entries d before updates
entries_of d before [] = refl
entries_of d before (k ∷ updates) = ap (λ es. added_entry d before k ∷ es) (entries_of d (before ++ added_entry d before k ∷ []) updates)

pub appended_entries : (team : Team) (t passed : ℕ) (d : Decision) (pending : List Kept) → map (λ (k : Kept). k.entry) (appended_kept team t passed d pending) ≡ appended_list team t passed d pending
unfolding appended_list appended_kept
appended_entries team t passed d pending = entries_of d [] (appended_updates team t passed d pending)

-- and each is a pending one, but for where it stands
pub record IsAddedFrom (pending : List Kept) (k : Kept) : Type 0 where
  pub update : Kept
  pub waits : In update pending
  pub same : as_sent k ≡ as_sent update

added_come : (d : Decision) (pending : List Kept) (before : List Entry) (updates : List Kept) → EachIn pending updates → AllByRecursion (IsAddedFrom pending) (added_kept d before updates)
added_come d pending before [] all = tt
added_come d pending before (u ∷ updates) all = (record { update = u; waits = all.0; same = refl }, added_come d pending (before ++ added_entry d before u ∷ []) updates all.1)

pub appended_come : (team : Team) (t passed : ℕ) (d : Decision) (pending : List Kept) → AllByRecursion (IsAddedFrom pending) (appended_kept team t passed d pending)
unfolding appended_kept
appended_come team t passed d pending =
    let lists = filter (may_append team t passed d pending) (lists_of (length pending) pending) in
    let none : In [] lists = in_filter (may_append team t passed d pending) (lists_of (length pending) pending) [] (in_lists (length pending) pending [] tt (omega arith)) refl in
    let i = of_filter (may_append team t passed d pending) (lists_of (length pending) pending) (longest lists) (longest_is lists [] none).there in
    added_come d pending [] (longest lists) (of_lists (length pending) pending (longest lists) i.0)
