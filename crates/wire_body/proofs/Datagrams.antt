-- Bodies and whole datagrams: what is read is spelled so, and what is spelled so is read.
use Rattle.std.proofs.Common.{append_assoc, ◌≡◌, ℕ, ◌+◌, ◌-◌, ◌*◌, ◌^◌, ◌<◌, ◌≤◌, true, false, nat_le, ◌==◌, List, [], ◌++◌, length, drop, Option, None, Result, Ok, Err, refl, sym, ap, subst, ◌∙◌, arith}
use Rattle.std.specs.Prelude.{OnOk, IfSome}
use Rattle.std.proofs.lemmas.Bool.{eqb-true}
use Rattle.std.proofs.lemmas.Bool.Decides.{nat_tests}
use Rattle.std.proofs.lemmas.List.{append-nil, drop_all, length-drop}
use Rattle.tw_types.specs.declared.team.Team.{Team}
use Rattle.tw_types.specs.declared.message.Kept.{Kept}
use Rattle.tw_types.specs.declared.message.Decision.{Decision}
use Rattle.tw_types.specs.declared.datagram.Head.{Head}
use Rattle.tw_types.specs.declared.datagram.Why.{Why}
use Rattle.tw_types.specs.declared.datagram.Want.{Want}
use Rattle.tw_types.specs.declared.datagram.Body.{Body}
use Rattle.tw_types.specs.declared.datagram.Body.TheVariants as bodies
use Rattle.tw_types.specs.declared.datagram.Datagram.{Datagram}
use Rattle.tw_types.specs.declared.datagram.WireFault.{WireFault}
use Rattle.tw_types.specs.declared.datagram.WireFault.TheVariants.{Long, Short}
use Rattle.tw_types.specs.Ranges.{UpdateFits, NoDecisionFits, ElectionFits, PromiseFits, WantFits, StateFits, ReadyFits, BodyFits, DatagramFits}
use Rattle.tw_types.specs.Spelling.{kind_of, head_bytes, body_bytes, spelling}
use Rattle.wire_head.specs.Reading.{◌>>=◌, where_allowed, head_at}
use Rattle.wire_head.proofs.Numbers.{IsBytes, Reads, bind_ok, allowed_ok}
use Rattle.wire_head.proofs.Steps.{renamed, made_reads, if_reads, cut_either}
use Rattle.wire_head.proofs.Heads.{IsKind, head_reads}
use Rattle.wire_body.specs.Lists.{Leaves}
use Rattle.wire_body.specs.Decisions.{decision_at, decision_size}
use Rattle.wire_body.specs.Votes.{Promised, promise_at, promise_of, optional_size, Gathered, no_decision_at, no_decision_of}
use Rattle.wire_body.specs.Reading.{update_at, election_at, election_of, want_at, want_end, Piece, piece_at, state_of, sync_at, body_at, datagram_at}
use Rattle.wire_body.proofs.DecisionReads.{IsDecision, decision_reads}
use Rattle.wire_body.proofs.VoteReads.{promise_reads, no_decision_reads}
use Rattle.wire_body.proofs.Parts.{update_reads, election_reads, want_reads, piece_reads, sync_reads}

-- where a body ends
end_of : Body → ℕ
end_of (bodies.Update k) = 81 + length k.payload.items
end_of (bodies.Decision d) = 57 + decision_size d
end_of (bodies.NoDecision number group turn skip reports best) = 83 + 51 * length reports.items + decision_size best
end_of (bodies.Election number why) = 74
end_of (bodies.Promise number report d) = 117 + optional_size d
end_of (bodies.Ask want) = want_end want
end_of (bodies.State group position total offset bytes) = 79 + length bytes.items
end_of (bodies.Sync ready) = 82

abbrev ended : Body → ℕ → Body × ℕ
ended b e = (b, e)

-- a body of this kind and its end
record BodyIs (n : ℕ) (h : Head) (kind : ℕ) (x : Body × ℕ) : Type 0 where
  kind_is : kind_of x.0 ≡ kind
  fits : BodyFits n h x.0
  end : x.1 ≡ end_of x.0

kind_is_one : (b : Body) → IsKind (kind_of b)
kind_is_one (bodies.Update k) = record { first = omega arith; last = omega arith }
kind_is_one (bodies.Decision d) = record { first = omega arith; last = omega arith }
kind_is_one (bodies.NoDecision number group turn skip reports best) = record { first = omega arith; last = omega arith }
kind_is_one (bodies.Election number why) = record { first = omega arith; last = omega arith }
kind_is_one (bodies.Promise number report d) = record { first = omega arith; last = omega arith }
kind_is_one (bodies.Ask w) = record { first = omega arith; last = omega arith }
kind_is_one (bodies.State group position total offset bytes) = record { first = omega arith; last = omega arith }
kind_is_one (bodies.Sync r) = record { first = omega arith; last = omega arith }

of_update : (n : ℕ) (h : Head) (b : Body) (e : ℕ) → BodyIs n h 1 (ended b e) → (k : Kept) × (ended b e ≡ ended (bodies.Update k) (81 + length k.payload.items)) × UpdateFits n k
unfolding end_of
of_update n h (bodies.Update k) e is = (k, ap (ended (bodies.Update k)) is.end, is.fits)
of_update n h b e is = absurd (cc is.kind_is)

of_election : (n : ℕ) (h : Head) (b : Body) (e : ℕ) → BodyIs n h 4 (ended b e) → (x : ℕ × Why) × (ended b e ≡ ended (election_of x) 74) × ElectionFits x.0 x.1
unfolding end_of
of_election n h (bodies.Election number why) e is = ((number, why), ap (ended (bodies.Election number why)) is.end, is.fits)
of_election n h b e is = absurd (cc is.kind_is)

of_ask : (n : ℕ) (h : Head) (b : Body) (e : ℕ) → BodyIs n h 6 (ended b e) → (w : Want) × (ended b e ≡ ended (bodies.Ask w) (want_end w)) × WantFits n w
unfolding end_of
of_ask n h (bodies.Ask w) e is = (w, ap (ended (bodies.Ask w)) is.end, is.fits)
of_ask n h b e is = absurd (cc is.kind_is)

of_state : (n : ℕ) (h : Head) (b : Body) (e : ℕ) → BodyIs n h 7 (ended b e) → (p : Piece) × (ended b e ≡ ended (state_of p) (79 + length p.bytes)) × StateFits p.group p.position p.total p.offset p.bytes
unfolding end_of
of_state n h (bodies.State group position total offset bytes) e is = (record { group = group; position = position; total = total; offset = offset; bytes = bytes.items }, ap (ended (bodies.State group position total offset bytes)) is.end, is.fits)
of_state n h b e is = absurd (cc is.kind_is)

of_sync : (n : ℕ) (h : Head) (b : Body) (e : ℕ) → BodyIs n h 8 (ended b e) → (r : Option (ℕ × ℕ × ℕ)) × (ended b e ≡ ended (bodies.Sync r) 82) × IfSome r ReadyFits
unfolding end_of
of_sync n h (bodies.Sync r) e is = (r, ap (ended (bodies.Sync r)) is.end, is.fits)
of_sync n h b e is = absurd (cc is.kind_is)

of_decision : (n : ℕ) (h : Head) (b : Body) (e : ℕ) → BodyIs n h 2 (ended b e) → (d : Decision) × (ended b e ≡ ended (bodies.Decision d) (57 + decision_size d)) × IsDecision n None None d
unfolding end_of
of_decision n h (bodies.Decision d) e is = (d, ap (ended (bodies.Decision d)) is.end, record { fits = is.fits; group = tt; turn = tt })
of_decision n h b e is = absurd (cc is.kind_is)

of_no_decision : (n : ℕ) (h : Head) (b : Body) (e : ℕ) → BodyIs n h 3 (ended b e) → (g : Gathered) × (ended b e ≡ ended (no_decision_of g) (83 + 51 * length g.reports + decision_size g.best)) × NoDecisionFits n g.number g.group g.turn g.skip g.reports g.best
unfolding end_of
of_no_decision n h (bodies.NoDecision number group turn skip reports best) e is = (record { number = number; group = group; turn = turn; skip = skip; reports = reports.items; best = best }, ap (ended (bodies.NoDecision number group turn skip reports best)) is.end, is.fits)
of_no_decision n h b e is = absurd (cc is.kind_is)

of_promise : (n : ℕ) (h : Head) (b : Body) (e : ℕ) → BodyIs n h 5 (ended b e) → (p : Promised) × (ended b e ≡ ended (promise_of p) (117 + optional_size p.decision)) × PromiseFits n h p.number p.report p.decision
unfolding end_of
of_promise n h (bodies.Promise number report d) e is = (record { number = number; report = report; decision = d }, ap (ended (bodies.Promise number report d)) is.end, is.fits)
of_promise n h b e is = absurd (cc is.kind_is)

-- each body is of one of the eight kinds
of_none : (n : ℕ) (h : Head) (kind : ℕ) (b : Body) (e : ℕ) → (kind == 1) ≡ false → (kind == 2) ≡ false → (kind == 3) ≡ false → (kind == 4) ≡ false → (kind == 5) ≡ false → (kind == 6) ≡ false → (kind == 7) ≡ false → (kind == 8) ≡ false → BodyIs n h kind (ended b e) → ⊥
of_none n h kind b e f1 f2 f3 f4 f5 f6 f7 f8 is = let k = kind_is_one b in let s = is.kind_is in let low = k.first in let high = k.last in grind (arith, nat_tests)

abbrev BodyReads : ℕ → Head → List ℕ → ℕ → Result (Body × ℕ) WireFault → Type 0
BodyReads n h bytes kind read = Reads bytes 57 (BodyIs n h kind) (λ x. body_bytes x.0) (λ x. x.1) read

of_kind : {n : ℕ} {h : Head} {bytes : List ℕ} {read : Result (Body × ℕ) WireFault} (kind k : ℕ) → (kind == k) ≡ true → BodyReads n h bytes k read → BodyReads n h bytes kind read
of_kind {n} {h} {bytes} {read} kind k t reads = subst (λ (m : ℕ). BodyReads n h bytes m read) (sym (eqb-true _ _ t)) reads

module _ (n : ℕ) (small : n < 2 ^ 8) (h : Head) (bytes : List ℕ) (fits : IsBytes bytes) where
  update_body : BodyReads n h bytes 1 (update_at n bytes >>= λ k. Ok (bodies.Update k, 81 + length k.payload.items))
  unfolding end_of
  update_body =
      renamed (BodyIs n h 1) (made_reads (λ (k : Kept). (bodies.Update k, 81 + length k.payload.items)) (λ (x : Body × ℕ). body_bytes x.0) (λ (x : Body × ℕ). x.1) (λ k. refl) (λ k. refl) (update_reads n small bytes fits))
      (λ x is. subst (BodyIs n h 1) (sym is.1) (record { kind_is = refl; fits = is.2; end = refl }))
      (λ x is. of_update n h x.0 x.1 is)

  decision_body : BodyReads n h bytes 2 (decision_at n None None bytes 57 >>= λ d. Ok (bodies.Decision d, 57 + decision_size d))
  unfolding end_of
  decision_body =
      renamed (BodyIs n h 2) (made_reads (λ (d : Decision). (bodies.Decision d, 57 + decision_size d)) (λ (x : Body × ℕ). body_bytes x.0) (λ (x : Body × ℕ). x.1) (λ d. refl) (λ d. refl) (decision_reads n small None None bytes fits 57))
      (λ x is. subst (BodyIs n h 2) (sym is.1) (record { kind_is = refl; fits = is.2.fits; end = refl }))
      (λ x is. of_decision n h x.0 x.1 is)

  no_decision_body : BodyReads n h bytes 3 (no_decision_at n bytes >>= λ g. Ok (no_decision_of g, 83 + 51 * length g.reports + decision_size g.best))
  unfolding end_of
  no_decision_body =
      renamed (BodyIs n h 3) (made_reads (λ (g : Gathered). (no_decision_of g, 83 + 51 * length g.reports + decision_size g.best)) (λ (x : Body × ℕ). body_bytes x.0) (λ (x : Body × ℕ). x.1) (λ g. refl) (λ g. refl) (no_decision_reads n small bytes fits))
      (λ x is. subst (BodyIs n h 3) (sym is.1) (record { kind_is = refl; fits = is.2; end = refl }))
      (λ x is. of_no_decision n h x.0 x.1 is)

  election_body : BodyReads n h bytes 4 (election_at bytes >>= λ e. Ok (election_of e, 74))
  unfolding end_of
  election_body =
      renamed (BodyIs n h 4) (made_reads (λ (e : ℕ × Why). (election_of e, 74)) (λ (x : Body × ℕ). body_bytes x.0) (λ (x : Body × ℕ). x.1) (λ e. refl) (λ e. refl) (election_reads bytes fits))
      (λ x is. subst (BodyIs n h 4) (sym is.1) (record { kind_is = refl; fits = is.2; end = refl }))
      (λ x is. of_election n h x.0 x.1 is)

  promise_body : BodyReads n h bytes 5 (promise_at n h bytes >>= λ p. Ok (promise_of p, 117 + optional_size p.decision))
  unfolding end_of
  promise_body =
      renamed (BodyIs n h 5) (made_reads (λ (p : Promised). (promise_of p, 117 + optional_size p.decision)) (λ (x : Body × ℕ). body_bytes x.0) (λ (x : Body × ℕ). x.1) (λ p. refl) (λ p. refl) (promise_reads n small h bytes fits))
      (λ x is. subst (BodyIs n h 5) (sym is.1) (record { kind_is = refl; fits = is.2; end = refl }))
      (λ x is. of_promise n h x.0 x.1 is)

  ask_body : BodyReads n h bytes 6 (want_at n bytes >>= λ w. Ok (bodies.Ask w, want_end w))
  unfolding end_of
  ask_body =
      renamed (BodyIs n h 6) (made_reads (λ (w : Want). (bodies.Ask w, want_end w)) (λ (x : Body × ℕ). body_bytes x.0) (λ (x : Body × ℕ). x.1) (λ w. refl) (λ w. refl) (want_reads n small bytes fits))
      (λ x is. subst (BodyIs n h 6) (sym is.1) (record { kind_is = refl; fits = is.2; end = refl }))
      (λ x is. of_ask n h x.0 x.1 is)

  state_body : BodyReads n h bytes 7 (piece_at bytes >>= λ p. Ok (state_of p, 79 + length p.bytes))
  unfolding end_of
  state_body =
      renamed (BodyIs n h 7) (made_reads (λ (p : Piece). (state_of p, 79 + length p.bytes)) (λ (x : Body × ℕ). body_bytes x.0) (λ (x : Body × ℕ). x.1) (λ p. refl) (λ p. refl) (piece_reads bytes fits))
      (λ x is. subst (BodyIs n h 7) (sym is.1) (record { kind_is = refl; fits = is.2; end = refl }))
      (λ x is. of_state n h x.0 x.1 is)

  sync_body : BodyReads n h bytes 8 (sync_at bytes >>= λ r. Ok (bodies.Sync r, 82))
  unfolding end_of
  sync_body =
      renamed (BodyIs n h 8) (made_reads (λ (r : Option (ℕ × ℕ × ℕ)). (bodies.Sync r, 82)) (λ (x : Body × ℕ). body_bytes x.0) (λ (x : Body × ℕ). x.1) (λ r. refl) (λ r. refl) (sync_reads bytes fits))
      (λ x is. subst (BodyIs n h 8) (sym is.1) (record { kind_is = refl; fits = is.2; end = refl }))
      (λ x is. of_sync n h x.0 x.1 is)

  body_reads : (kind : ℕ) → BodyReads n h bytes kind (body_at n h kind bytes)
  unfolding body_at
  body_reads kind =
      if_reads (kind == 1) (λ t. of_kind kind 1 t update_body) (λ f1.
      if_reads (kind == 2) (λ t. of_kind kind 2 t decision_body) (λ f2.
      if_reads (kind == 3) (λ t. of_kind kind 3 t no_decision_body) (λ f3.
      if_reads (kind == 4) (λ t. of_kind kind 4 t election_body) (λ f4.
      if_reads (kind == 5) (λ t. of_kind kind 5 t promise_body) (λ f5.
      if_reads (kind == 6) (λ t. of_kind kind 6 t ask_body) (λ f6.
      if_reads (kind == 7) (λ t. of_kind kind 7 t state_body) (λ f7.
      if_reads (kind == 8) (λ t. of_kind kind 8 t sync_body) (λ f8.
      record {
        takes = λ x e. absurd cc;
        again = λ x after is e. absurd (of_none n h kind x.0 x.1 f1 f2 f3 f4 f5 f6 f7 f8 is);
        cut = λ x more is some e. absurd (of_none n h kind x.0 x.1 f1 f2 f3 f4 f5 f6 f7 f8 is);
      }))))))))

-- ---- whole datagrams

-- what a datagram that is read is
pub record IsRead (team : Team) (bytes : List ℕ) (d : Datagram) : Type 0 where
  pub fits : DatagramFits team.n d
  pub spelled : bytes ≡ spelling team.line d

pub datagram_takes : (team : Team) (bytes : List ℕ) → team.line < 2 ^ 32 → team.n < 2 ^ 8 → IsBytes bytes → (d : Datagram) → datagram_at team bytes ≡ Ok d → IsRead team bytes d
unfolding datagram_at
datagram_takes team bytes line small fits d e =
    let whole = λ (h : Head × ℕ). body_at team.n h.0 h.1 bytes >>= λ x. where_allowed (nat_le (length bytes) x.1) Long (record { head = h.0; body = x.0 }) in
    let g = bind_ok (head_at team bytes) whole d e in
    let h = g.0 in
    let b = bind_ok (body_at team.n h.0 h.1 bytes) (λ x. where_allowed (nat_le (length bytes) x.1) Long (record { head = h.0; body = x.0 })) d g.2 in
    let x = b.0 in
    let a = allowed_ok (nat_le (length bytes) x.1) Long (record { head = h.0; body = x.0 }) d b.2 in
    let front = (head_reads team bytes line fits).takes h g.1 in
    let back = (body_reads team.n small h.0 bytes fits h.1).takes x b.1 in
    let short : length bytes ≤ x.1 = let t = a.0 in grind (arith, nat_tests) in
    let nothing : drop x.1 bytes ≡ [] = drop_all x.1 bytes short in
    let spelled : bytes ≡ head_bytes team.line (kind_of x.0) h.0 ++ body_bytes x.0 =
    front.1 ∙ rw (back.0.kind_is, back.1, nothing, append-nil (body_bytes x.0)) refl in
    subst (IsRead team bytes) a.1 (record { fits = record { head = front.0.head; body = back.0.fits }; spelled = spelled })

pub datagram_again : (team : Team) (bytes : List ℕ) → team.line < 2 ^ 32 → team.n < 2 ^ 8 → IsBytes bytes → (d : Datagram) → DatagramFits team.n d → bytes ≡ spelling team.line d → datagram_at team bytes ≡ Ok d
unfolding datagram_at
datagram_again team bytes line small fits d is spelled =
    let front = (head_reads team bytes line fits).again (d.head, kind_of d.body) (body_bytes d.body) (record { head = is.head; kind = kind_is_one d.body }) spelled in
    let back = (body_reads team.n small d.head bytes fits (kind_of d.body)).again (d.body, end_of d.body) [] (record { kind_is = refl; fits = is.body; end = refl }) (front.1 ∙ sym (append-nil (body_bytes d.body))) in
    let sizes : length bytes - end_of d.body ≡ 0 = sym (length-drop (end_of d.body) bytes) ∙ ap length back.1 in
    let ended : nat_le (length bytes) (end_of d.body) ≡ true = let le : length bytes ≤ end_of d.body = omega arith in grind (arith, nat_tests) in
    rw (front.0, back.0, ended) refl

-- a datagram that is cut, and one with more behind it

pub datagram_cut : (team : Team) (bytes : List ℕ) → team.line < 2 ^ 32 → team.n < 2 ^ 8 → IsBytes bytes → (d : Datagram) (more : List ℕ) → DatagramFits team.n d → 0 < length more → spelling team.line d ≡ bytes ++ more → datagram_at team bytes ≡ Err Short
unfolding datagram_at
datagram_cut team bytes line small fits d more is some spelled =
    let ends = λ (x : Body × ℕ). where_allowed (nat_le (length bytes) x.1) Long (record { head = d.head; body = x.0 }) in
    cut_either _ (head_reads team bytes line fits) (d.head, kind_of d.body) (body_bytes d.body) more (record { head = is.head; kind = kind_is_one d.body }) some spelled (λ e.
    ap (λ (q : Result (Body × ℕ) WireFault). q >>= ends) ((body_reads team.n small d.head bytes fits (kind_of d.body)).cut (d.body, end_of d.body) more (record { kind_is = refl; fits = is.body; end = refl }) some e))

pub datagram_longer : (team : Team) (bytes : List ℕ) → team.line < 2 ^ 32 → team.n < 2 ^ 8 → IsBytes bytes → (d : Datagram) (more : List ℕ) → DatagramFits team.n d → 0 < length more → bytes ≡ spelling team.line d ++ more → datagram_at team bytes ≡ Err Long
unfolding datagram_at
datagram_longer team bytes line small fits d more is some spelled =
    let regrouped = spelled ∙ append_assoc (head_bytes team.line (kind_of d.body) d.head) (body_bytes d.body) more in
    let front = (head_reads team bytes line fits).again (d.head, kind_of d.body) (body_bytes d.body ++ more) (record { head = is.head; kind = kind_is_one d.body }) regrouped in
    let back = (body_reads team.n small d.head bytes fits (kind_of d.body)).again (d.body, end_of d.body) more (record { kind_is = refl; fits = is.body; end = refl }) front.1 in
    let sizes : length bytes - end_of d.body ≡ length more = sym (length-drop (end_of d.body) bytes) ∙ ap length back.1 in
    let ended : nat_le (length bytes) (end_of d.body) ≡ false = let lt : end_of d.body < length bytes = omega arith in grind (arith, nat_tests) in
    rw (front.0, back.0, ended) refl

-- what a reader that fills a datagram says of its answer
pub left_found : (team : Team) (bytes : List ℕ) (r : Result (Unit {0}) WireFault) (left : Datagram) → team.line < 2 ^ 32 → team.n < 2 ^ 8 → IsBytes bytes → Leaves r left (datagram_at team bytes)
    → OnOk r (DatagramFits team.n left × (bytes ≡ spelling team.line left))
left_found team bytes (Ok done) left line small fits e = let a = datagram_takes team bytes line small fits left e in (a.fits, a.spelled)
left_found team bytes (Err f) left line small fits e = tt

pub left_again : (r : Result (Unit {0}) WireFault) (left : Datagram) (read : Result Datagram WireFault) (d : Datagram) → Leaves r left read → read ≡ Ok d → (r ≡ Ok tt) × (left ≡ d)
left_again (Ok done) left read d e is = (refl, grind (arith, e, is))
left_again (Err f) left read d e is = absurd (grind (arith, e, is))

pub left_fault : (r : Result (Unit {0}) WireFault) (left : Datagram) (read : Result Datagram WireFault) (f : WireFault) → Leaves r left read → read ≡ Err f → r ≡ Err f
left_fault (Ok done) left read f e is = absurd (grind (arith, e, is))
left_fault (Err g) left read f e is = grind (arith, e, is)
