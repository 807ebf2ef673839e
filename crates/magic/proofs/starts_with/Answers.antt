use Rattle.std.proofs.Common.{◌∙◌, eqb, arith, length, ℕ, rules}
use borrow.Author.Tests.{tests, lt-leb}
use Rattle.std.proofs.lemmas.Iterator.{YieldsList-from_slice, YieldsList-from_zip}
use Rattle.std.proofs.lemmas.Iterator.Search.{all_from_yields_List}
use Rattle.magic.proofs.Front.{beside, too_short}
use Rattle.magic.proofs.starts_with.Goals as goal

pub returns-then-m-s : goal.returns-then-m-s
returns-then-m-s c =
    let s = c.args.s.now in
    let m = c.args.m.now in
    all_from_yields_List (λ (p : ℕ × ℕ). eqb p.0 p.1) c.all.new.self _ _ c.all.ensures.ran (YieldsList-from_zip (YieldsList-from_slice s (search rules)) (YieldsList-from_slice m (search rules)))
    (λ x q r k. search (rules, tests))
    ∙ beside s m (omega arith)

pub returns-else-m-s : goal.returns-else-m-s
returns-else-m-s c =
    let s = c.args.s.now in
    let m = c.args.m.now in
    lt-leb (length m) (length s) (omega arith) ∙ too_short s m (omega arith)
