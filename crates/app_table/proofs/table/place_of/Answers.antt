use Rattle.std.proofs.Common.{rules}
use Rattle.std.proofs.lemmas.List.Sorted.{answers_always}
use Rattle.app_table.specs.Table.{Entry}
use Rattle.app_table.proofs.Found.{found}
use Rattle.app_table.proofs.table.place_of.Goals as goal

-- the closure gives an entry's key
pub returns : goal.returns
returns c =
    let facts = c.binary_search_by_key.ensures in
    let by_key = facts.position (λ (e : Entry). e.0) (answers_always _ _ _ (λ f a r g called. search rules)) in
    found c.args.entries.now c.requires.ascending c.args.key _ facts.bound by_key
