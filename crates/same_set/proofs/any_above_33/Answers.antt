use Rattle.std.proofs.Common.{◌∙◌, ap, ltb, List, ℕ, rules}
use borrow.Author.Tests.{tests}
use Rattle.std.proofs.lemmas.Iterator.{YieldsList-from_slice}
use Rattle.std.proofs.lemmas.Iterator.Search.{any_from_yields_List}
use Rattle.same_set.specs.Same.{type_of, any_above33}
use Rattle.same_set.specs.Laws.{any_whole}
use Rattle.same_set.proofs.any_above_33.Goals as goal

pub returns : goal.returns
returns c =
    let rows = c.first_rows.result.now in
    any_from_yields_List (λ (r : List ℕ). ltb 33 (type_of r)) _ _ _ c.any.ensures.ran (YieldsList-from_slice rows (search rules)) (λ x b q k. search (rules, tests))
    ∙ any_whole rows
    ∙ ap any_above33 c.first_rows.ensures.types
