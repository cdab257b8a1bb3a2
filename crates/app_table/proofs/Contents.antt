-- The content of a machine, one payload after the other.
use Rattle.std.proofs.Common.{◌≡◌, ℕ, true, List, [], ◌∷◌, ◌++◌, Option, Some, None, refl, ap, ◌∙◌}
use Rattle.std.specs.Prelude.{is_some}
use Rattle.std.specs.List.{AllByRecursion}
use Rattle.std.proofs.lemmas.List.Sums.{fold-append}
use Rattle.app_table.specs.Machine.{AreBytes, MachineLaws, content_after, content_or, start_of, snapshots_of, IsStart, IsSnapshotBytes}

pub one_more : {Content : Type 0} (after : Content → List ℕ → Content) (content : Content) (payloads : List (List ℕ)) (payload : List ℕ) →
    content_after after content (payloads ++ payload ∷ []) ≡ after (content_after after content payloads) payload
one_more after content payloads payload = fold-append after content payloads (payload ∷ [])

pub some_more : {Content : Type 0} (after : Content → List ℕ → Content) (content : Content) (payloads others : List (List ℕ)) →
    content_after after content (payloads ++ others) ≡ content_after after (content_after after content payloads) others
some_more after content payloads others = fold-append after content payloads others

-- ---- snapshots

some_same : {Content : Type 0} (a b : Content) → Some a ≡ Some b → a ≡ b
some_same a b e = cc

module _ {Content : Type 0} (IsContent : Content → Type 0) (empty : Content) (after : Content → List ℕ → Content) (bytes : Content → List ℕ) (stood_for : List ℕ → Option Content)
    (laws : MachineLaws IsContent empty after bytes stood_for) where
  stays : (content : Content) (payloads : List (List ℕ)) → IsContent content → AllByRecursion AreBytes payloads → IsContent (content_after after content payloads)
  stays content [] is all = is
  stays content (p ∷ ps) is all = stays (after content p) ps (laws.after_is content p is all.0) all.1

  started : (start : Option (List ℕ)) → IsStart (snapshots_of empty after bytes stood_for) start → IsContent (start_of empty stood_for start)
  started None is = laws.empty_is
  started (Some snapshot) is = go (stood_for snapshot) refl is.1
    where
      go : (found : Option Content) → stood_for snapshot ≡ found → is_some found ≡ true → IsContent (content_or empty found)
      go None none t = absurd cc
      go (Some content) there t = laws.stood_for_is snapshot content is.0 there

  reached : (start : Option (List ℕ)) (payloads : List (List ℕ)) → IsStart (snapshots_of empty after bytes stood_for) start → AllByRecursion AreBytes payloads →
      IsContent (content_after after (start_of empty stood_for start) payloads)
  reached start payloads is all = stays (start_of empty stood_for start) payloads (started start is) all

  pub goes_on : (start : Option (List ℕ)) (payloads others : List (List ℕ)) → IsStart (snapshots_of empty after bytes stood_for) start → AllByRecursion AreBytes payloads →
      (snapshots_of empty after bytes stood_for).taken (Some ((snapshots_of empty after bytes stood_for).taken start payloads)) others ≡ (snapshots_of empty after bytes stood_for).taken start (payloads ++ others)
  goes_on start payloads others is all =
      let here : Content = content_after after (start_of empty stood_for start) payloads in
      let again : stood_for (bytes here) ≡ Some here = laws.again here (reached start payloads is all) in
      ap (λ (found : Option Content). bytes (content_after after (content_or empty found) others)) again ∙ ap bytes (fold-append-back start payloads others)
    where
      fold-append-back : (start : Option (List ℕ)) (payloads others : List (List ℕ)) →
          content_after after (content_after after (start_of empty stood_for start) payloads) others ≡ content_after after (start_of empty stood_for start) (payloads ++ others)
      fold-append-back start payloads others = rw (some_more after (start_of empty stood_for start) payloads others) refl

  pub stands : (start : Option (List ℕ)) (payloads : List (List ℕ)) → IsStart (snapshots_of empty after bytes stood_for) start → AllByRecursion AreBytes payloads →
      IsSnapshotBytes (snapshots_of empty after bytes stood_for) ((snapshots_of empty after bytes stood_for).taken start payloads)
  stands start payloads is all =
      let here : Content = content_after after (start_of empty stood_for start) payloads in
      let content : IsContent here = reached start payloads is all in
      record {
        stands = ap is_some (laws.again here content);
        each = laws.each here content;
        least = laws.least here content;
        most = laws.most here content;
      }

  pub restored : (content other : Content) (payloads : List (List ℕ)) → IsContent content → stood_for (bytes content) ≡ Some other → content_after after other payloads ≡ content_after after content payloads
  restored content other payloads is found =
      let again : stood_for (bytes content) ≡ Some content = laws.again content is in
      let same : other ≡ content = some_same other content (cc) in
      ap (λ (c : Content). content_after after c payloads) same
