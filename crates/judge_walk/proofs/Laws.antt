-- What the pass that judges replies is the walk's answer.
-- Assumes nothing.
use Rattle.std.specs.Prelude.{ℕ, ◌≡◌, refl, List, length}
use Rattle.std.proofs.Common.{ne_eqb}
use Rattle.prog.specs.Prog.{run}
use Rattle.header.specs.declared.SdrrInfoFields.{SdrrInfoFields}
use Rattle.version.specs.Version.{from060}
use Rattle.header.specs.Header.{has_filenames}
use Rattle.walk.specs.Walk.{RomSet, Part, found, roms_of, walk_p}
use Rattle.walk.specs.Code.Passes.{sets_at, walk_number}
use Rattle.walk.proofs.Laws.Says.{Says, accepts, refuses, walk_tells}
use Rattle.judge_walk.specs.Code.{walked, judged_of}

says_judged : {ss : List RomSet} {n : ℕ} {p : Part (List RomSet)} → Says ss n p → walked n (length (roms_of ss)) ≡ judged_of p
unfolding walked judged_of
says_judged accepts = refl
says_judged {n = n} (refuses h) = rw (ne_eqb n 0 h)

pub walk_judged : (x : List ℕ) (base : ℕ) (f : SdrrInfoFields) (count pointer : ℕ)
    → walked (walk_number x base (has_filenames f) (from060 f.version) count pointer) (length (roms_of (sets_at x base (has_filenames f) (from060 f.version) pointer count)))
    ≡ judged_of (run (walk_p base f count pointer) x)
walk_judged x base f count pointer = says_judged (walk_tells x base f count pointer).says

says_found : {ss : List RomSet} {n : ℕ} {p : Part (List RomSet)} → Says ss n p → (judged_of p).number ≡ 0 → p ≡ found ss
unfolding judged_of
says_found accepts e = refl
says_found (refuses h) e = absurd (h e)

pub walk_found : (x : List ℕ) (base : ℕ) (f : SdrrInfoFields) (count pointer : ℕ) → (judged_of (run (walk_p base f count pointer) x)).number ≡ 0
    → run (walk_p base f count pointer) x ≡ found (sets_at x base (has_filenames f) (from060 f.version) pointer count)
walk_found x base f count pointer e = says_found (walk_tells x base f count pointer).says e
