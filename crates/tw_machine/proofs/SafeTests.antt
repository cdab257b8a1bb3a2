-- Each clause of safe rows is decided by computation.
use Rattle.std.proofs.Common.{◌≡◌, refl, sym, ap, subst, ◌∙◌, ℕ, zero, suc, ◌+◌, ◌≤◌, arith, Bool, true, false, cond, not, ◌&&◌, ◌||◌, List, [], ◌∷◌, length, Option, Some, None, slice_get, Decides}
use Rattle.std.specs.Prelude.{nat_eq}
use Rattle.std.specs.List.{list_any, IsDistinct, AllByRecursion}
use Rattle.std.specs.Option.{IsSomeAnd}
use Rattle.std.specs.Cmp.{nat_eq_equiv}
use Rattle.std.proofs.lemmas.Bool.Decides.{Decides-eqb}
use Rattle.std.proofs.lemmas.Option.{same_Some, none-some}
use Rattle.std.proofs.lemmas.Map.Made.{length-le_from_is_member}
use Rattle.tw_machine.specs.Types.{Team, Order, Atom, UpdateId, RowAnswer, Member, How}
use Rattle.tw_types.specs.declared.message.Order.TheVariants.{Unordered, Total, Timed}
use Rattle.tw_types.specs.declared.message.Atom.TheVariants.{Weak, Strong, Strict}
use Rattle.tw_types.specs.Row.{Row, Update, Pass, Entry}
use Rattle.tw_types.specs.declared.outputs.How.TheVariants.{Now, Earlier, Late}
use Rattle.tw_machine.specs.Places.{Each, Exists}
use Rattle.tw_machine.specs.Started.{started_at, members_of}
use Rattle.tw_machine.specs.SafeRows.{majority, life_of, AtLeast, EachPassSoFar, EachPassFrom, IsOfStarted, OneStartedGroup, Agree, delivered, SameDeliveries, StrongLast, HasPosition, Backed, timed, mark_of, TimedOrder, EqualTables, HasLease, LeasedSupport}
use Rattle.tw_machine.proofs.Decided.{by_test, says, holds, dec_same, dec_le, dec_lt, dec_like, dec_not, dec_both, dec_if, dec_iff, dec_each, dec_exists, dec_below, each_cons, not_true}
use Rattle.std.proofs.lemmas.Bool.{and_parts}

-- Two values of a type are one where their numbers are.

abbrev pub order_number : Order → ℕ
order_number Unordered = 0
order_number Total = 1
order_number Timed = 2

pub order_from_number : (a b : Order) → order_number a ≡ order_number b → a ≡ b
order_from_number Unordered Unordered e = refl
order_from_number Total Total e = refl
order_from_number Timed Timed e = refl
order_from_number a b e = absurd (omega arith)

abbrev pub dec_order : (a b : Order) → Dec (a ≡ b)
dec_order a b = dec_like (order_from_number a b) (λ e. ap order_number e) (dec_same (order_number a) (order_number b))

abbrev pub atom_number : Atom → ℕ
atom_number Weak = 0
atom_number Strong = 1
atom_number Strict = 2

pub atom_from_number : (a b : Atom) → atom_number a ≡ atom_number b → a ≡ b
atom_from_number Weak Weak e = refl
atom_from_number Strong Strong e = refl
atom_from_number Strict Strict e = refl
atom_from_number a b e = absurd (omega arith)

abbrev pub dec_atom : (a b : Atom) → Dec (a ≡ b)
dec_atom a b = dec_like (atom_from_number a b) (λ e. ap atom_number e) (dec_same (atom_number a) (atom_number b))

abbrev pub how_number : How → ℕ
how_number Now = 0
how_number Earlier = 1
how_number Late = 2

pub how_from_number : (a b : How) → how_number a ≡ how_number b → a ≡ b
how_from_number Now Now e = refl
how_from_number Earlier Earlier e = refl
how_from_number Late Late e = refl
how_from_number a b e = absurd (omega arith)

abbrev pub dec_how : (a b : How) → Dec (a ≡ b)
dec_how a b = dec_like (how_from_number a b) (λ e. ap how_number e) (dec_same (how_number a) (how_number b))

abbrev pub is_look : RowAnswer → Bool
is_look RowAnswer.Look = true
is_look a = false

pub look_decides : (a : RowAnswer) → Decides (is_look a) (a ≡ RowAnswer.Look)
look_decides RowAnswer.Look = (λ e. refl, λ e. refl)
look_decides a = (λ e. cc, λ e. cc)

abbrev pub dec_look : (a : RowAnswer) → Dec (a ≡ RowAnswer.Look)
dec_look a = by_test (is_look a) (look_decides a)

abbrev pub dec_some : (o : Option ℕ) (n : ℕ) → Dec (o ≡ Some n)
dec_some None n = no (none-some n)
dec_some (Some m) n = dec_like (λ e. ap Some e) (same_Some m n) (dec_same m n)

pub cons_same : {A : Type 0} {x y : A} {xs ys : List A} → x ≡ y → xs ≡ ys → x ∷ xs ≡ y ∷ ys
cons_same e f = cc

pub head_same : {A : Type 0} {x y : A} {xs ys : List A} → x ∷ xs ≡ y ∷ ys → x ≡ y
head_same e = cc

pub tail_same : {A : Type 0} {x y : A} {xs ys : List A} → x ∷ xs ≡ y ∷ ys → xs ≡ ys
tail_same e = cc

pub nil_cons : {A : Type 0} (y : A) (ys : List A) → [] ≡ y ∷ ys → ⊥
nil_cons y ys e = cc

pub cons_nil : {A : Type 0} (y : A) (ys : List A) → y ∷ ys ≡ [] → ⊥
cons_nil y ys e = cc

abbrev list_rest : {A : Type 0} (x y : A) (xs ys : List A) → Dec (x ≡ y) → Dec (xs ≡ ys) → Dec (x ∷ xs ≡ y ∷ ys)
list_rest x y xs ys (yes e) (yes f) = yes (cons_same e f)
list_rest x y xs ys (yes e) (no k) = no (λ g. k (tail_same g))
list_rest x y xs ys (no h) d = no (λ g. h (head_same g))

abbrev pub dec_list : {A : Type 0} → ((a b : A) → Dec (a ≡ b)) → (xs ys : List A) → Dec (xs ≡ ys)
dec_list d [] [] = yes refl
dec_list d [] (y ∷ ys) = no (nil_cons y ys)
dec_list d (x ∷ xs) [] = no (cons_nil x xs)
dec_list d (x ∷ xs) (y ∷ ys) = list_rest x y xs ys (d x y) (dec_list d xs ys)

pub same_member : (a b : Member) → a.who ≡ b.who → a.incarnation ≡ b.incarnation → a ≡ b
same_member a b p q = let e : ◌≡◌ {A = Member} (record { who = a.who; incarnation = a.incarnation }) (record { who = b.who; incarnation = b.incarnation }) = cc in e

pub same_id : (a b : UpdateId) → a.who ≡ b.who → a.incarnation ≡ b.incarnation → a.seq ≡ b.seq → a ≡ b
same_id a b p q r = let e : ◌≡◌ {A = UpdateId} (record { who = a.who; incarnation = a.incarnation; seq = a.seq }) (record { who = b.who; incarnation = b.incarnation; seq = b.seq }) = cc in e

pub same_update : (a b : Update) → a.id ≡ b.id → a.order ≡ b.order → a.atom ≡ b.atom → a.stamp ≡ b.stamp → a.payload ≡ b.payload → a ≡ b
same_update a b p q r s t = let e : ◌≡◌ {A = Update} (record { id = a.id; order = a.order; atom = a.atom; stamp = a.stamp; payload = a.payload }) (record { id = b.id; order = b.order; atom = b.atom; stamp = b.stamp; payload = b.payload }) = cc in e

pub same_entry : (a b : Entry) → a.key ≡ b.key → a.value ≡ b.value → a ≡ b
same_entry a b p q = let e : ◌≡◌ {A = Entry} (record { key = a.key; value = a.value }) (record { key = b.key; value = b.value }) = cc in e

abbrev pub dec_member : (a b : Member) → Dec (a ≡ b)
dec_member a b = dec_like (λ t. same_member a b t.0 t.1) (λ e. (ap (λ m. m.who) e, ap (λ m. m.incarnation) e)) (dec_both (dec_same a.who b.who) (λ u. dec_same a.incarnation b.incarnation))

abbrev pub dec_id : (a b : UpdateId) → Dec (a ≡ b)
dec_id a b = dec_like (λ t. same_id a b t.0 t.1.0 t.1.1) (λ e. (ap (λ m. m.who) e, (ap (λ m. m.incarnation) e, ap (λ m. m.seq) e)))
    (dec_both (dec_same a.who b.who) (λ u. dec_both (dec_same a.incarnation b.incarnation) (λ v. dec_same a.seq b.seq)))

abbrev pub dec_update : (a b : Update) → Dec (a ≡ b)
dec_update a b = dec_like (λ t. same_update a b t.0 t.1.0 t.1.1.0 t.1.1.1.0 t.1.1.1.1)
    (λ e. (ap (λ m. m.id) e, (ap (λ m. m.order) e, (ap (λ m. m.atom) e, (ap (λ m. m.stamp) e, ap (λ m. m.payload) e)))))
    (dec_both (dec_id a.id b.id) (λ u. dec_both (dec_order a.order b.order) (λ v. dec_both (dec_atom a.atom b.atom) (λ w. dec_both (dec_same a.stamp b.stamp) (λ x. dec_list dec_same a.payload b.payload)))))

abbrev pub dec_entry : (a b : Entry) → Dec (a ≡ b)
dec_entry a b = dec_like (λ t. same_entry a b t.0 t.1) (λ e. (ap (λ m. m.key) e, ap (λ m. m.value) e)) (dec_both (dec_same a.key b.key) (λ u. dec_same a.value b.value))

or_left : (a b : Bool) → a || b ≡ false → a ≡ false
or_left true b e = e
or_left false b e = refl

or_right : (a b : Bool) → a || b ≡ false → b ≡ false
or_right true b e = cc
or_right false b e = e

and_not : (a b : Bool) → a && not b ≡ true → b ≡ false
and_not true true e = cc
and_not true false e = refl
and_not false b e = cc

or_true : (a b : Bool) → a ≡ true → a || b ≡ true
or_true true b e = refl
or_true false b e = cc

true_or : (a b : Bool) → b ≡ true → a || b ≡ true
true_or true b e = refl
true_or false b e = e

and_held : (a b : Bool) → a ≡ true → a && not b ≡ false → b ≡ true
and_held true true e f = refl
and_held true false e f = cc
and_held false b e f = cc

cond_cases : {A : Type 0} (P : A → Type 0) (b : Bool) (x y : A) → (b ≡ true → P x) → (b ≡ false → P y) → P (cond b x y)
cond_cases P true x y f g = f refl
cond_cases P false x y f g = g refl

abbrev pub dec_three : {P Q R : Type 0} → Dec P → Dec Q → Dec R → Dec (P × Q × R)
dec_three (yes p) (yes q) (yes r) = yes (p, q, r)
dec_three (yes p) (yes q) (no k) = no (λ t. k t.2)
dec_three (yes p) (no k) r = no (λ t. k t.1)
dec_three (no h) q r = no (λ t. h t.0)

-- the processes of the rows that pass a test, each once
abbrev next : (ℕ → Row → Bool) → ℕ → Row → Bool
next t i r = t (suc i) r

abbrev adds : (ℕ → Row → Bool) → Row → List ℕ → Bool
adds t r rest = t 0 r && not (list_any (nat_eq r.who) rest)

abbrev pub found : List Row → (ℕ → Row → Bool) → List ℕ
found [] t = []
found (r ∷ rows) t = let rest = found rows (next t) in cond (adds t r rest) (r.who ∷ rest) rest

not_any : (q : ℕ) (xs : List ℕ) → list_any (nat_eq q) xs ≡ false → AllByRecursion (λ y. nat_eq q y ≡ false) xs
not_any q [] e = tt
not_any q (x ∷ xs) e = (or_left _ _ e, not_any q xs (or_right _ _ e))

any_at : (q x : ℕ) (xs : List ℕ) (b : Bool) → (list_any (nat_eq q) xs ≡ true → Exists xs (λ k y. y ≡ q)) → nat_eq q x ≡ b → b || list_any (nat_eq q) xs ≡ true → Exists (x ∷ xs) (λ k y. y ≡ q)
any_at q x xs true rest f g = (0, x, refl, sym ((Decides-eqb q x).0 f))
any_at q x xs false rest f g = let t = rest g in (suc t.0, t.1, t.2, t.3)

any_place : (q : ℕ) (xs : List ℕ) → list_any (nat_eq q) xs ≡ true → Exists xs (λ k x. x ≡ q)
any_place q [] e = absurd (not_true e)
any_place q (x ∷ xs) e = any_at q x xs (nat_eq q x) (any_place q xs) refl e

pub found_once : (rows : List Row) (t : ℕ → Row → Bool) → IsDistinct nat_eq (found rows t)
unfolding IsDistinct
found_once [] t = tt
found_once (r ∷ rows) t =
    let rest = found rows (next t) in
    let once = found_once rows (next t) in
    let longer : adds t r rest ≡ true → IsDistinct nat_eq (r.who ∷ rest) = λ e. (not_any r.who rest (and_not _ _ e), once) in
    cond_cases (λ xs. IsDistinct nat_eq xs) (adds t r rest) (r.who ∷ rest) rest longer (λ e. once)

-- a row that passes the test and its process
abbrev pub HasRow : List Row → (ℕ → Row → Bool) → ℕ → Type 0
HasRow rows t who = Exists rows (λ i r. (r.who ≡ who) × (t i r ≡ true))

has_more : (r : Row) (rows : List Row) (t : ℕ → Row → Bool) (who : ℕ) → HasRow rows (next t) who → HasRow (r ∷ rows) t who
has_more r rows t who h = (suc h.0, h.1, h.2, h.3)

pub found_has : (rows : List Row) (t : ℕ → Row → Bool) → Each (found rows t) (λ k who. HasRow rows t who)
found_has [] t = λ k who e. cc
found_has (r ∷ rows) t =
    let rest = found rows (next t) in
    let have : Each rest (λ k who. HasRow (r ∷ rows) t who) = λ k who e. has_more r rows t who (found_has rows (next t) k who e) in
    let longer : adds t r rest ≡ true → Each (r.who ∷ rest) (λ k who. HasRow (r ∷ rows) t who) = λ e. each_cons (λ k who. HasRow (r ∷ rows) t who) r.who rest (0, r, refl, (refl, (and_parts _ _ e).0)) have in
    cond_cases (λ xs. Each xs (λ k who. HasRow (r ∷ rows) t who)) (adds t r rest) (r.who ∷ rest) rest longer (λ e. have)

pub found_all : (rows : List Row) (t : ℕ → Row → Bool) (i : ℕ) (r : Row) → slice_get rows i ≡ Some r → t i r ≡ true → list_any (nat_eq r.who) (found rows t) ≡ true
found_all [] t i r e h = cc
found_all (s ∷ rows) t zero r e h =
    let rest = found rows (next t) in
    subst (λ x. t 0 x ≡ true → list_any (nat_eq x.who) (found (s ∷ rows) t) ≡ true) (same_Some s r e)
    (λ k. cond_cases (λ xs. list_any (nat_eq s.who) xs ≡ true) (adds t s rest) (s.who ∷ rest) rest
    (λ f. or_true _ _ (nat_eq_equiv.refl s.who)) (λ f. and_held _ _ k f)) h
found_all (s ∷ rows) t (suc i) r e h =
    let rest = found rows (next t) in
    let there = found_all rows (next t) i r e h in
    cond_cases (λ xs. list_any (nat_eq r.who) xs ≡ true) (adds t s rest) (s.who ∷ rest) rest (λ f. true_or _ _ there) (λ f. there)

says_true : {P : Type 0} (d : Dec P) → P → says d ≡ true
says_true (yes p) q = refl
says_true (no h) q = absurd (h q)

abbrev pub passing : {P : ℕ → Row → Type 0} → ((i : ℕ) (r : Row) → Dec (P i r)) → ℕ → Row → Bool
passing d i r = says (d i r)

pub enough_found : (count : ℕ) (rows : List Row) (P : ℕ → Row → Type 0) (d : (i : ℕ) (r : Row) → Dec (P i r)) → count ≤ length (found rows (passing d)) → AtLeast count rows P
enough_found count rows P d l = record {
  processes = found rows (passing d);
  enough = l;
  each_once = found_once rows (passing d);
  each_has = λ k who e. let t = found_has rows (passing d) k who e in (t.0, t.1, t.2, (t.3.0, holds (d t.0 t.1) t.3.1));
}

pub found_enough : (count : ℕ) (rows : List Row) (P : ℕ → Row → Type 0) (d : (i : ℕ) (r : Row) → Dec (P i r)) → AtLeast count rows P → count ≤ length (found rows (passing d))
found_enough count rows P d a =
    let all : (q : ℕ) → list_any (nat_eq q) a.processes ≡ true → list_any (nat_eq q) (found rows (passing d)) ≡ true = λ q e.
    let k = any_place q a.processes e in
    let t = a.each_has k.0 k.1 k.2 in
    subst (λ w. list_any (nat_eq w) (found rows (passing d)) ≡ true) (t.3.0 ∙ k.3) (found_all rows (passing d) t.0 t.1 t.2 (says_true (d t.0 t.1) t.3.1)) in
    let few = length-le_from_is_member nat_eq_equiv a.processes (found rows (passing d)) a.each_once all in
    omega (arith, a.enough, few)

abbrev pub dec_at_least : (count : ℕ) (rows : List Row) {P : ℕ → Row → Type 0} → ((i : ℕ) (r : Row) → Dec (P i r)) → Dec (AtLeast count rows P)
dec_at_least count rows {P} d = dec_like (enough_found count rows P d) (found_enough count rows P d) (dec_le count (length (found rows (passing d))))

pub not_up : (P : ℕ → Type 0) (o : Option ℕ) (n : ℕ) → false ≡ true → o ≡ Some n → P n
not_up P o n e f = absurd (not_true e)

pub unread : (P : ℕ → Type 0) (n : ℕ) → true ≡ true → None ≡ Some n → P n
unread P n e f = absurd (none-some n f)

abbrev pub dec_up : (u : Bool) (o : Option ℕ) {P : ℕ → Type 0} → ((n : ℕ) → Dec (P n)) → Dec ((n : ℕ) → u ≡ true → o ≡ Some n → P n)
dec_up true (Some m) {P} d = dec_like (λ p n e f. subst P (same_Some m n f) p) (λ g. g m refl refl) (d m)
dec_up true None {P} d = yes (unread P)
dec_up false o {P} d = yes (not_up P o)

abbrev pub dec_some_and : {A : Type 0} (o : Option A) {P : A → Type 0} → ((x : A) → Dec (P x)) → Dec (IsSomeAnd o P)
dec_some_and None d = no (λ h. h)
dec_some_and (Some x) d = d x

abbrev pub dec_started : (team : Team) (rows : List Row) (r : Row) (reading : ℕ) → Dec (IsOfStarted team rows r reading)
dec_started team rows r reading = dec_like (λ t. record { started = t.0; has_majority = t.1.0; named = t.1.1 }) (λ h. (h.started, (h.has_majority, h.named)))
    (dec_both (dec_some (started_at rows reading) r.group) (λ u. dec_both (dec_le (majority team) (length (members_of rows r.group))) (λ v.
    dec_exists (members_of rows r.group) (λ k m. dec_member m (life_of r)))))

abbrev pub dec_one_started_group : (team : Team) (rows : List Row) → Dec (OneStartedGroup team rows)
dec_one_started_group team rows = dec_each rows (λ i r. dec_up r.up r.reading (λ reading. dec_started team rows r reading))

abbrev pub dec_so_far : (rows : List Row) (i : ℕ) (r : Row) {P : Pass → Type 0} → ((p : Pass) → Dec (P p)) → Dec (EachPassSoFar rows i r P)
dec_so_far rows i r d = dec_each rows (λ j s. dec_if (dec_le j i) (λ u. dec_if (dec_member (life_of s) (life_of r)) (λ v. dec_each s.passes (λ k p. d p))))

abbrev pub dec_from : (rows : List Row) (group : ℕ) {P : Pass → Type 0} → ((p : Pass) → Dec (P p)) → Dec (EachPassFrom rows group P)
dec_from rows group d = dec_each rows (λ j s. dec_if (dec_le group s.group) (λ u. dec_each s.passes (λ k p. d p)))

abbrev pub dec_agree : (p q : Pass) → Dec (Agree p q)
dec_agree p q = dec_like (λ t. record { update = t.0; late = t.1 }) (λ h. (h.update, h.late))
    (dec_both (dec_update p.update q.update) (λ u. dec_iff (dec_how p.how Late) (dec_how q.how Late)))

abbrev pub dec_same_deliveries : (rows : List Row) → Dec (SameDeliveries rows)
dec_same_deliveries rows = dec_like (λ t. record { passes = t.0; once = t.1.0; early_before = t.1.1 }) (λ h. (h.passes, (h.once, h.early_before)))
    (dec_both (dec_each rows (λ i r. dec_each rows (λ j s. dec_if (dec_le 1 r.group) (λ u. dec_if (dec_same r.group s.group) (λ v.
    dec_so_far rows i r (λ p. dec_so_far rows j s (λ q. dec_if (dec_same p.position q.position) (λ w. dec_agree p q))))))))
    (λ x. dec_both (dec_each rows (λ i r. dec_each rows (λ j s. dec_if (dec_member (life_of r) (life_of s)) (λ u.
    dec_each (delivered r) (λ k y. dec_each (delivered s) (λ l z. dec_if (dec_id y.id z.id) (λ v. dec_both (dec_same i j) (λ w. dec_same k l))))))))
    (λ x. dec_each rows (λ i r. dec_each r.passes (λ k p. dec_if (dec_how p.how Earlier) (λ u.
    dec_exists rows (λ j s. dec_three (dec_lt j i) (dec_member (life_of s) (life_of r)) (dec_exists s.earlies (λ l y. dec_id y.id p.update.id)))))))))

abbrev pub dec_strong_last : (rows : List Row) → Dec (StrongLast rows)
dec_strong_last rows = dec_like (λ t. record { passed = t.0; early = t.1 }) (λ h. (h.passed, h.early))
    (dec_both (dec_each rows (λ i r. dec_each r.passes (λ k p. dec_if (dec_not (dec_how p.how Late)) (λ u. dec_if (dec_not (dec_atom p.update.atom Weak)) (λ v.
    dec_from rows r.group (λ q. dec_if (dec_same q.position p.position) (λ w. dec_update q.update p.update)))))))
    (λ x. dec_each rows (λ i r. dec_each r.earlies (λ k y. dec_if (dec_not (dec_atom y.atom Weak)) (λ u.
    dec_from rows r.group (λ p. dec_if (dec_id p.update.id y.id) (λ v.
    dec_from rows r.group (λ q. dec_iff (dec_id q.update.id y.id) (dec_same q.position p.position)))))))))

abbrev pub dec_position : (i group position j : ℕ) (s : Row) → Dec (HasPosition i group position j s)
dec_position i group position j s = dec_like (λ t. record { not_after = t.0; same_group = t.1.0; longer = t.1.1 }) (λ h. (h.not_after, (h.same_group, h.longer)))
    (dec_both (dec_le j i) (λ u. dec_both (dec_same s.group group) (λ v. dec_lt position s.length)))

abbrev pub dec_backed : (team : Team) (rows : List Row) → Dec (Backed team rows)
dec_backed team rows = dec_like (λ t. record { strong = t.0; strict = t.1 }) (λ h. (h.strong, h.strict))
    (dec_both (dec_each rows (λ i r. dec_each r.passes (λ k p. dec_if (dec_not (dec_how p.how Late)) (λ u. dec_if (dec_atom p.update.atom Strong) (λ v.
    dec_at_least (majority team) rows (dec_position i r.group p.position))))))
    (λ x. dec_each rows (λ i r. dec_each r.passes (λ k p. dec_if (dec_not (dec_how p.how Late)) (λ u. dec_if (dec_atom p.update.atom Strict) (λ v.
    dec_each (members_of rows r.group) (λ l m. dec_exists rows (λ j s. dec_both (dec_member (life_of s) m) (λ w. dec_position i r.group p.position j s)))))))))

abbrev pub dec_timed_order : (rows : List Row) → Dec (TimedOrder rows)
dec_timed_order rows = dec_each rows (λ i r. dec_each rows (λ j s. dec_if (dec_member (life_of r) (life_of s)) (λ x.
    dec_each (timed r) (λ k u. dec_each (timed s) (λ l v. dec_if (dec_below (i ∷ k ∷ []) (j ∷ l ∷ [])) (λ y. dec_below (mark_of u) (mark_of v)))))))

abbrev pub dec_equal_tables : (rows : List Row) → Dec (EqualTables rows)
dec_equal_tables rows = dec_each rows (λ i r. dec_each rows (λ j s. dec_if (dec_look r.answer) (λ t. dec_if (dec_look s.answer) (λ u.
    dec_if (dec_le 1 r.group) (λ v. dec_if (dec_same r.group s.group) (λ w. dec_if (dec_same r.passed s.passed) (λ x. dec_list dec_entry r.entries s.entries)))))))

abbrev pub dec_lease : (team : Team) (i group reading j : ℕ) (s : Row) → Dec (HasLease team i group reading j s)
dec_lease team i group reading j s = dec_like (λ t. record { not_after = t.0; made = t.1.0; lasts = t.1.1 }) (λ h. (h.not_after, (h.made, h.lasts)))
    (dec_both (dec_le j i) (λ u. dec_both (dec_some_and s.made (λ m. dec_same m.group group)) (λ v. dec_some_and s.reading (λ r. dec_le reading (r + team.lease)))))

abbrev pub dec_leased_support : (team : Team) (rows : List Row) → Dec (LeasedSupport team rows)
dec_leased_support team rows = dec_each rows (λ i r. dec_up r.up r.reading (λ reading. dec_at_least (majority team) rows (dec_lease team i r.group reading)))

-- which of the seven clauses rows meet
abbrev pub verdicts : Team → List Row → List Bool
verdicts team rows = says (dec_one_started_group team rows) ∷ says (dec_same_deliveries rows) ∷ says (dec_strong_last rows) ∷ says (dec_backed team rows) ∷ says (dec_timed_order rows) ∷ says (dec_equal_tables rows) ∷ says (dec_leased_support team rows) ∷ []
