-- Drafts, with what is appended to the last decision.
use Rattle.std.proofs.Common.{◌≡◌, refl, sym, ap, subst, ◌∙◌, ℕ, ◌+◌, Bool, true, false, List, [], ◌∷◌, ◌++◌, append-nil, map, arith}
use Rattle.tw_machine.specs.Types.{Team, Entry, Kept, Seat, Decision}
use Rattle.tw_types.specs.Turns.{next_draft}
use Rattle.tw_types.specs.Appending.{IsNextEntry, EachIsNext, MayBeAppended, IsAppended, appended_list, with_appended, raised}
use Rattle.node_core.specs.Outcomes.{IsDraft}

-- A draft's turn, moment and maker don't count for what is appended.
next_alike : (team : Team) (t : ℕ) (last : Decision) (at who : ℕ) (pending : List Kept) (before : List Entry) (e : Entry) → IsNextEntry team t (next_draft last at who) pending before e → IsNextEntry team t last pending before e
next_alike team t last at who pending before e next = record { update = next.update; waits = next.waits; ripe = next.ripe; first = next.first; entry = next.entry }

each_alike : (team : Team) (t : ℕ) (last : Decision) (at who : ℕ) (pending : List Kept) (before entries : List Entry) → EachIsNext team t (next_draft last at who) pending before entries → EachIsNext team t last pending before entries
each_alike team t last at who pending before [] each = tt
each_alike team t last at who pending before (e ∷ entries) each = (next_alike team t last at who pending before e each.0, each_alike team t last at who pending (before ++ e ∷ []) entries each.1)

pub may_alike : (team : Team) (t passed : ℕ) (last : Decision) (at who : ℕ) (pending : List Kept) (entries : List Entry) → MayBeAppended team t passed (next_draft last at who) pending entries → MayBeAppended team t passed last pending entries
may_alike team t passed last at who pending [] may = record { each = tt; room = refl }
may_alike team t passed last at who pending (e ∷ entries) may = record { each = each_alike team t last at who pending [] (e ∷ entries) may.each; room = may.room }

pub list_alike : (team : Team) (t passed : ℕ) (last : Decision) (at who : ℕ) (pending : List Kept) → appended_list team t passed (next_draft last at who) pending ≡ appended_list team t passed last pending
unfolding appended_list
list_alike team t passed last at who pending = refl

-- nothing may always be added
pub nothing_may : (team : Team) (t passed : ℕ) (d : Decision) (pending : List Kept) → MayBeAppended team t passed d pending []
nothing_may team t passed d pending = record { each = tt; room = refl }

raised_none : (seats : List Seat) → map (raised []) seats ≡ seats
raised_none [] = refl
raised_none (s ∷ seats) =
    let e : s.next + 0 ≡ s.next = omega arith in
    ap (λ (x : ℕ). record s { next = x } ∷ map (raised []) seats) e ∙ ap (λ (rest : List Seat). s ∷ rest) (raised_none seats)

pub with_none : (d : Decision) → d ≡ with_appended [] d
with_none d = sym (ap (λ (seats : List Seat). record d { seats = record { items = seats }; window = record { items = d.window.items ++ [] } }) (raised_none d.seats.items)
    ∙ ap (λ (es : List Entry). record d { window = record { items = es } }) (append-nil d.window.items))

same_rest : {X : Type 0} (x y : X) (xs ys : List X) → x ∷ xs ≡ y ∷ ys → xs ≡ ys
same_rest x y xs ys e = cc

same_front : {X : Type 0} (xs ys zs : List X) → xs ++ ys ≡ xs ++ zs → ys ≡ zs
same_front [] ys zs e = e
same_front (x ∷ xs) ys zs e = same_front xs ys zs (same_rest x x (xs ++ ys) (xs ++ zs) e)

-- the decision tells what was appended
pub appended_alike : (d : Decision) (a b : List Entry) → with_appended a d ≡ with_appended b d → a ≡ b
appended_alike d a b e = same_front d.window.items a b (ap (λ (x : Decision). x.window.items) e)

-- a draft with what is appended, and one with nothing
pub draft_up : (team : Team) (t passed : ℕ) (pending : List Kept) (last : Decision) (who : ℕ) (new draft : Decision) (entries : List Entry) → draft ≡ next_draft last t who
    → IsAppended team t passed draft pending entries → new ≡ with_appended entries draft → new ≡ with_appended (appended_list team t passed draft pending) draft → (up : Bool) → up ≡ true → IsDraft team up t passed pending last who new
draft_up team t passed pending last who new draft entries is appended added listed up e = rw e (record {
  entries = entries;
  list = appended_alike draft entries (appended_list team t passed draft pending) (sym added ∙ listed) ∙ ap (λ (d : Decision). appended_list team t passed d pending) is ∙ list_alike team t passed last t who pending;
  may = may_alike team t passed last t who pending entries (subst (λ (d : Decision). MayBeAppended team t passed d pending entries) is appended.may);
  is = added ∙ ap (with_appended entries) is;
})

pub draft_down : (team : Team) (t passed : ℕ) (pending : List Kept) (last : Decision) (who : ℕ) (draft : Decision) → draft ≡ next_draft last t who → (up : Bool) → up ≡ false → IsDraft team up t passed pending last who draft
draft_down team t passed pending last who draft is up e = rw e (record { entries = []; list = refl; may = nothing_may team t passed last pending; is = is ∙ with_none (next_draft last t who) })
