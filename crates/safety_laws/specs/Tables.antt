-- What a list of updates makes of a table.
use Rattle.std.specs.Prelude.{ℕ, List, fold, take}
use Rattle.tw_types.specs.declared.message.Kept.{Kept}
use Rattle.tw_machine.specs.Applied.{Meaning, payloads_in}

-- the content after what is applied of the first so many updates of a list
abbrev pub content_at : {Content : Type 0} → Meaning Content → List Kept → ℕ → Content
content_at meaning list count = fold meaning.after meaning.empty (payloads_in (take count list))
