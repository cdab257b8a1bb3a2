-- What a machine's content is after many payloads, and what a machine owes to those who take snapshots of it.
use Rattle.std.specs.Prelude.{◌≡◌, ℕ, ◌<◌, ◌≤◌, Bool, true, List, length, fold, Option, Some, None, is_some}
use Rattle.std.specs.List.{AllByRecursion}

-- The content after all of these payloads, the first one first, from this content on. It is that of any machine: `after` gives
-- the content after one payload, from the content before.
abbrev pub content_after : {Content : Type 0} → (Content → List ℕ → Content) → Content → List (List ℕ) → Content
content_after after content payloads = fold after content payloads

-- each number is a byte
abbrev pub AreBytes : List ℕ → Type 0
AreBytes bytes = AllByRecursion (λ b. b < 256) bytes

-- What holds of the contents of a machine, which need not be all values of its type: the empty one is a content, and one stays a content
-- whatever bytes are applied; a snapshot has 1 to 4,096 bytes, and stands for its content; and what bytes stand for is a content.
pub record MachineLaws {Content : Type 0} (IsContent : Content → Type 0) (empty : Content) (after : Content → List ℕ → Content) (bytes : Content → List ℕ) (stood_for : List ℕ → Option Content) : Type 0 where
  pub empty_is : IsContent empty
  pub after_is : (content : Content) (payload : List ℕ) → IsContent content → AreBytes payload → IsContent (after content payload)
  pub stood_for_is : (snapshot : List ℕ) (content : Content) → AreBytes snapshot → stood_for snapshot ≡ Some content → IsContent content
  pub again : (content : Content) → IsContent content → stood_for (bytes content) ≡ Some content
  pub least : (content : Content) → IsContent content → 1 ≤ length (bytes content)
  pub most : (content : Content) → IsContent content → length (bytes content) ≤ 4096
  pub each : (content : Content) → IsContent content → AreBytes (bytes content)

-- ---- a machine as bytes alone

-- the content from which a machine starts: the empty one, or the one that bytes stand for, where they do
abbrev pub content_or : {Content : Type 0} → Content → Option Content → Content
content_or empty None = empty
content_or empty (Some content) = content

abbrev pub start_of : {Content : Type 0} → Content → (List ℕ → Option Content) → Option (List ℕ) → Content
start_of empty stood_for None = empty
start_of empty stood_for (Some bytes) = content_or empty (stood_for bytes)

-- A machine as those know it who never name its contents: the snapshot of what a start becomes under payloads, and whether bytes stand for
-- a content. The start is the empty content, or the one that bytes stand for.
pub record Snapshots : Type 0 where
  pub taken : Option (List ℕ) → List (List ℕ) → List ℕ
  pub stands : List ℕ → Bool

abbrev pub snapshots_of : {Content : Type 0} → Content → (Content → List ℕ → Content) → (Content → List ℕ) → (List ℕ → Option Content) → Snapshots
snapshots_of empty after bytes stood_for = record {
  taken = λ start payloads. bytes (content_after after (start_of empty stood_for start) payloads);
  stands = λ snapshot. is_some (stood_for snapshot);
}

-- the starts that there are: the empty content, and bytes that stand for one
abbrev pub IsStart : Snapshots → Option (List ℕ) → Type 0
IsStart s None = Unit {0}
IsStart s (Some bytes) = AreBytes bytes × (s.stands bytes ≡ true)

-- the bytes are a start, 1 to 4,096 of them
pub record IsSnapshotBytes (s : Snapshots) (bytes : List ℕ) : Type 0 where
  pub stands : s.stands bytes ≡ true
  pub each : AreBytes bytes
  pub least : 1 ≤ length bytes
  pub most : length bytes ≤ 4096
