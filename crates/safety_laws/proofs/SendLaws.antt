-- The laws on updates that were sent, of every schedule.
use Rattle.std.proofs.Common.{◌≡◌, refl, sym, ap, subst, ◌∙◌, inl, inr, ℕ, ◌-◌, Bool, true, false, not, ◌||◌, List, [], ◌∷◌, Option, Some, None, arith}
use Rattle.std.specs.List.{AllByRecursion, list_any}
use Rattle.std.specs.Option.{option_map}
use Rattle.tw_machine.specs.Types.{Team, Entry, Member, UpdateId, Decision, Step}
use Rattle.tw_types.specs.Team.{IsSound}
use Rattle.tw_types.specs.Process.{Process}
use Rattle.tw_types.specs.Updates.{is_same_id, sender, has_update}
use Rattle.tw_types.specs.Waiting.{Held, ids_from, entries_from, holes, is_hole}
use Rattle.tw_machine.specs.History.{SentUpdate, life}
use Rattle.tw_machine.specs.Standing.{member_of}
use Rattle.tw_machine.specs.World.{world, Admissible}
use Rattle.safety_laws.specs.Effects.{Written, written}
use Rattle.safety_laws.specs.Groups.{OfMember, of_groups}
use Rattle.safety_laws.specs.Held.{held_below}
use Rattle.safety_laws.specs.Ids.{EntryIsOfSend, MakeKeeps, ids}
use Rattle.tw_types.specs.Items.{In}
use Rattle.tw_types.proofs.Appended.{of_map, of_filter}
use Rattle.safety_laws.specs.Laws.{Law, Both}
use Rattle.safety_laws.specs.Made.{WasMade, WasMadeIfAny}
use Rattle.safety_laws.specs.Pending.{pending}
use Rattle.safety_laws.specs.Sends.{id_of, next_id, IsOfSender, IsNumbered, Present, Earlier, Sends, FillsNoHole, sends}
use Rattle.safety_laws.specs.Supported.{OfSupported}
use Rattle.safety_laws.proofs.GroupLaws.{groups_rules}
use Rattle.safety_laws.proofs.HeldBelow.{held_below_rules}
use Rattle.safety_laws.proofs.Ids.{ids_rules}
use Rattle.safety_laws.proofs.IdLists.{same_id_of}
use Rattle.safety_laws.proofs.Lists.{of_each, in_drop}
use Rattle.safety_laws.proofs.Numbers.{sends_rules, seq_is_new}
use Rattle.safety_laws.proofs.Pending.{pending_rules}
use Rattle.safety_laws.proofs.Stack.{LawRules, Kept as Holding, OfHistory, stack, law_holds}
use Rattle.safety_laws.proofs.Supported.{supported_rules}

-- ---- the laws, one on the other

abbrev with_sends : Team → Law
with_sends team = Both (of_groups team) sends

abbrev pub with_ids : Team → Law
with_ids team = Both (with_sends team) ids

-- and those that rest on the laws on groups alone
abbrev with_supported : Team → Law
with_supported team = Both (of_groups team) (OfHistory (OfSupported team))

abbrev with_held : Team → Law
with_held team = Both (of_groups team) held_below

sends_too : (team : Team) → LawRules team (with_sends team)
sends_too team = stack team (of_groups team) sends (groups_rules team) (sends_rules team)

pub ids_too : (team : Team) → LawRules team (with_ids team)
ids_too team = stack team (with_sends team) ids (sends_too team) (ids_rules team)

-- in every schedule
pub sent_well : (team : Team) (past : List Step) → IsSound team → Admissible team past → Holding team (with_ids team) past
sent_well team past sound ok = law_holds team (with_ids team) (ids_too team) past sound ok

pub supported_well : (team : Team) (past : List Step) → IsSound team → Admissible team past → Holding team (with_supported team) past
supported_well team past sound ok = law_holds team (with_supported team) (stack team (of_groups team) (OfHistory (OfSupported team)) (groups_rules team) (supported_rules team)) past sound ok

pub held_well : (team : Team) (past : List Step) → IsSound team → Admissible team past → Holding team (with_held team) past
held_well team past sound ok = law_holds team (with_held team) (stack team (of_groups team) held_below (groups_rules team) (held_below_rules team)) past sound ok

pub settled_well : (team : Team) (past : List Step) → IsSound team → Admissible team past → Holding team pending past
settled_well team past sound ok = law_holds team pending (pending_rules team) past sound ok

-- ---- a new update of its own fills no hole

none_any : {X : Type 0} (test : X → Bool) (xs : List X) → ((x : X) → In x xs → test x ≡ true → ⊥) → list_any test xs ≡ false
none_any test [] f = refl
none_any test (x ∷ xs) f = go (test x) refl (none_any test xs (λ y i. f y (inr i)))
  where
    go : (b : Bool) → test x ≡ b → list_any test xs ≡ false → (b || list_any test xs) ≡ false
    go true e rest = absurd (f x (inl refl) e)
    go false e rest = rest

-- what is wanted is of an entry of the decision's window
hole_entry : (h : Held) (id : UpdateId) → In id (holes h) → (e : Entry) × In e h.decision.window.items × (e.id ≡ id)
hole_entry h id i =
    let k = of_map (λ (e : Entry). e.id) (entries_from h.first h.decision) id (of_filter (λ (z : UpdateId). not (has_update z h.payloads)) (ids_from h.first h.decision) id i).0 in
    (k.0, in_drop (h.first - h.decision.low) h.decision.window.items k.0 k.1, sym k.2)

-- the id of an update that was sent isn't the next one
sent_before : (steps : List Step) (w : Written) (who : ℕ) (p : Process) → p.identity.who ≡ who → AllByRecursion (IsOfSender steps) w.sends → Sends steps w who p → (z : SentUpdate) → In z w.sends → id_of z ≡ next_id p → ⊥
sent_before steps w who p is all own z i same = go (of_each (λ (v : SentUpdate). v.who ≡ who → IsNumbered (life who steps) p v) w.sends z own.numbers i mine)
  where
    of : IsOfSender steps z
    of = of_each (IsOfSender steps) w.sends z all i

    member : z.member ≡ member_of p.identity
    member = sym of.sender ∙ ap sender same

    mine : z.who ≡ who
    mine = sym of.named.member ∙ ap (λ (m : Member). m.who) member ∙ is

    go : IsNumbered (life who steps) p z → ⊥
    go (Present l m low) = let seq = ap (λ (id : UpdateId). id.seq) same in let above = seq_is_new p in omega arith
    go (Earlier l low) = let same_member = ap (λ (m : Member). m.incarnation) member in omega arith

pub fills_no_hole : (team : Team) (past : List Step) (who : ℕ) (p : Process) → IsSound team → Admissible team past → (world team past).process_of who ≡ Some p → FillsNoHole p
fills_no_hole team past who p sound ok runs = by_held p.waiting.held refl
  where
    all : Holding team (with_ids team) past
    all = sent_well team past sound ok

    own : OfMember team past (written team past) who p
    own = (all.running who p runs).0.0

    no_hole : (h : Held) → p.waiting.held ≡ Some h → (id : UpdateId) → In id (holes h) → is_same_id id (next_id p) ≡ true → ⊥
    no_hole h is id i same =
        let e = hole_entry h id i in
        let was : WasMade (written team past).makes h.decision = subst (WasMadeIfAny (written team past).makes) (ap (option_map (λ (z : Held). z.decision)) is) own.maker.keeps.held in
        let keeps = of_each (MakeKeeps (written team past).sends) (written team past).makes was.0 all.history.1.makes was.1 in
        let z = of_each (EntryIsOfSend (written team past).sends) was.0.making.decision.window.items e.0 keeps.window (subst (λ (d : Decision). In e.0 d.window.items) (sym was.2) e.1) in
        sent_before past (written team past) who p own.promiser.own.is all.history.0.1.1 (all.running who p runs).0.1 z.0 z.1
        (ap (λ (e : Entry). e.id) z.2 ∙ e.2 ∙ same_id_of id (next_id p) same)

    by_held : (o : Option Held) → p.waiting.held ≡ o → is_hole (next_id p) o ≡ false
    by_held None is = refl
    by_held (Some h) is = none_any (λ (hole : UpdateId). is_same_id hole (next_id p)) (holes h) (λ id i. no_hole h is id i)
