-- Send calls, one after the other.
use Rattle.std.proofs.Common.{◌≡◌, inl, inr, refl, sym, ap, subst, ◌∙◌, ℕ, zero, suc, ◌+◌, ◌<◌, List, [], ◌∷◌, ◌++◌, length, map, take, get_or, Option, Some, None, Result, Ok, Err, arith}
use Rattle.std.specs.Prelude.{slice_get, OnOk, OnErr}
use Rattle.std.specs.List.{AllByRecursion, flat_map}
use Rattle.std.proofs.lemmas.List.{take_more}
use Rattle.std.proofs.lemmas.List.Folds.{flat_map-map}
use Rattle.std.proofs.lemmas.Grind.{flat_map-append}
use Rattle.std.proofs.lemmas.Option.{slice_get-get_or}
use Rattle.tw_io.specs.declared.addr.Addr.{Addr}
use Rattle.tw_io.specs.declared.link.LinkFailed.{LinkFailed}
use Rattle.tw_io.specs.Link.{Sends, one_sent, one_lost}
use Rattle.tw_machine.specs.Types.{Datagram}
use Rattle.tw_machine.specs.NodeRun.{Call}
use Rattle.node_core.specs.Sends.{IsSendable}
use Rattle.record_text.specs.Addresses.{address_of}
use Rattle.record_text.specs.declared.packet.Packet.{Packet}
use Rattle.record_text.specs.Packets.{packet_seen}
use Rattle.node_loop.specs.Calls.{spelled, IsReachable, IsCall, AreCalls, Sent, call_at, calls_of_packets}

pub no_calls : (o : Option Sends) → Sent o [] o
no_calls o = λ s e. (s, e, refl)

are_more : (s : Sends) (xs : List Call) (t : Sends) (ys : List Call) (u : Sends) → AreCalls s xs t → AreCalls t ys u → AreCalls s (xs ++ ys) u
are_more s [] t ys u a b = subst (λ (x : Sends). AreCalls x ys u) a b
are_more s (x ∷ xs) t ys u a b = (a.0, a.1, are_more a.0 xs t ys u a.2 b)

pub calls_more : (a : Option Sends) (xs : List Call) (b : Option Sends) (ys : List Call) (c : Option Sends) → Sent a xs b → Sent b ys c → Sent a (xs ++ ys) c
calls_more a xs b ys c p q = λ s e. let r = p s e in let u = q r.0 r.1 in (u.0, u.1, are_more s xs r.0 ys u.0 r.2 u.2)

-- a send call, whether or not it failed
pub one_call : (at : Addr) (bytes : List ℕ) (a b : Option Sends) (r : Result (Unit {0}) LinkFailed) → OnOk r ((s : Sends) → a ≡ Some s → b ≡ Some (one_sent at bytes s)) → OnErr r ((s : Sends) → a ≡ Some s → b ≡ Some (one_lost s))
    → Sent a (record { to = address_of at; bytes = bytes } ∷ []) b
one_call at bytes a b (Ok u) sent lost = λ s e. (one_sent at bytes s, sent s e, (one_sent at bytes s, inr (at, refl, refl), refl))
one_call at bytes a b (Err f) sent lost = λ s e. (one_lost s, lost s e, (one_lost s, inl refl, refl))

-- ---- packets

abbrev pub packet_call : List Addr → Packet → List Call
packet_call peers p = call_at (packet_seen p).1 (slice_get peers (packet_seen p).0)

pub packet_calls : (peers : List Addr) (packets : List Packet) → flat_map (packet_call peers) packets ≡ calls_of_packets peers (map packet_seen packets)
packet_calls peers packets = sym (flat_map-map (λ (p : ℕ × List ℕ). call_at p.1 (slice_get peers p.0)) packet_seen packets)

pub item_at : {X : Type 0} (P : X → Type 0) (xs : List X) (i : ℕ) (d : X) → AllByRecursion P xs → i < length xs → P (get_or xs i d)
item_at P [] i d all l = absurd (omega arith)
item_at P (x ∷ xs) zero d all l = all.0
item_at P (x ∷ xs) (suc i) d all l = item_at P xs i d all.1 (omega arith)

pub item_of : {X Y : Type 0} (P : Y → Type 0) (f : X → Y) (xs : List X) (i : ℕ) (x : X) → AllByRecursion P (map f xs) → i < length xs → x ≡ get_or xs i x → P (f x)
item_of P f [] i x all l is = absurd (omega arith)
item_of P f (y ∷ xs) zero x all l is = subst (λ z. P (f z)) (sym is) all.0
item_of P f (y ∷ xs) (suc i) x all l is = item_of P f xs i x all.1 (omega arith) is

pub calls_item : {X : Type 0} (f : X → List Call) (xs : List X) (i : ℕ) (x : X) (a b c : Option Sends) → i < length xs → x ≡ get_or xs i x
    → Sent a (flat_map f (take i xs)) b → Sent b (f x) c → Sent a (flat_map f (take (i + 1) xs)) c
calls_item f xs i x a b c l is p q = subst (λ calls. Sent a calls c) (sym so_far) (calls_more a _ b _ c p q)
  where
    last : flat_map f (get_or xs i x ∷ []) ≡ f x
    last = subst (λ y. flat_map f (y ∷ []) ≡ f x) is (single (f x))
      where
        single : (ys : List Call) → ys ++ [] ≡ ys
        single [] = refl
        single (y ∷ ys) = ap (λ z. y ∷ z) (single ys)

    so_far : flat_map f (take (i + 1) xs) ≡ flat_map f (take i xs) ++ f x
    so_far = ap (flat_map f) (take_more xs i x l) ∙ flat_map-append f (take i xs) (get_or xs i x ∷ []) ∙ ap (λ y. flat_map f (take i xs) ++ y) last

-- ---- datagrams that are spelled

pub all_reachable : (line n : ℕ) (sends : List (ℕ × Datagram)) → AllByRecursion (IsSendable n) sends → AllByRecursion (IsReachable n) (map (spelled line) sends)
all_reachable line n [] all = tt
all_reachable line n (s ∷ sends) all = (all.0.to, all_reachable line n sends all.1)

abbrev no_address : Addr
no_address = record { ip = []; port = 0 }

-- the one call of a packet whose process is there
pub call_is : (peers : List Addr) (p : Packet) (bytes : List ℕ) → (packet_seen p).1 ≡ bytes → p.to < length peers → packet_call peers p ≡ record { to = address_of (get_or peers p.to no_address); bytes = bytes } ∷ []
call_is peers p bytes is l = ap (call_at (packet_seen p).1) (slice_get-get_or peers p.to no_address l) ∙ ap (λ b. record { to = address_of (get_or peers p.to no_address); bytes = b } ∷ []) is
