use Rattle.std.proofs.Common.{◌∙◌, sym, ap₂, eqb, List, ℕ, rules}
use borrow.Author.Tests.{tests}
use Rattle.std.proofs.lemmas.Iterator.{YieldsList-from_slice, YieldsList-from_zip}
use Rattle.std.proofs.lemmas.Iterator.Search.{all_from_yields_List}
use Rattle.same_set.specs.Same.{type_of, equal}
use Rattle.same_set.specs.Laws.{same_whole}
use Rattle.same_set.proofs.same_types.Goals as goal

pub returns : goal.returns
returns c =
    let a = c.first_rows.result.now in
    let b = c.first_rows-2.result.now in
    all_from_yields_List (λ (p : List ℕ × List ℕ). eqb (type_of p.0) (type_of p.1)) c.all.new.self _ _ c.all.ensures.ran
    (YieldsList-from_zip (YieldsList-from_slice a (search rules)) (YieldsList-from_slice b (search rules))) (λ x q r k. search (rules, tests))
    ∙ same_whole a b (c.first_rows.ensures.len ∙ sym c.first_rows-2.ensures.len)
    ∙ ap₂ equal c.first_rows.ensures.types c.first_rows-2.ensures.types
