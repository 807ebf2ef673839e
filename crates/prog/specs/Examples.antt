-- The definitions computed on small images.
use Rattle.std.specs.Prelude.{ℕ, ◌≡◌, refl, true, false, List, [], ◌∷◌}
use Rattle.window.specs.Window.{can_read}
use Rattle.prog.specs.Prog.{Prog, done, fetch, reads_of, aside, answer, run, trace, tried_reads, tried, tried_shown, end_of, reach}

-- two bytes at base 100
abbrev pair : List ℕ
pair = 7 ∷ 8 ∷ []

-- ---- the window's edges

whole : can_read pair 100 100 2 ≡ true
unfolding can_read
whole = refl

too_long : can_read pair 100 100 3 ≡ false
unfolding can_read
too_long = refl

below_base : can_read pair 100 99 1 ≡ false
unfolding can_read
below_base = refl

-- no byte, just past the last
none_at_end : can_read pair 100 102 0 ≡ true
unfolding can_read
none_at_end = refl

none_past_end : can_read pair 100 103 0 ≡ false
unfolding can_read
none_past_end = refl

-- no byte at 2^32, where the image ends there
none_at_top : can_read pair 4294967294 4294967296 0 ≡ false
unfolding can_read
none_at_top = refl

-- ---- a program that tries three reads: one aside, one that succeeds, one that fails

three : Prog ℕ
three = aside {B = ℕ} (fetch 100 100 2 0 (λ bs. done 1)) (fetch 100 101 1 2 (λ bs. fetch 100 101 2 3 (λ cs. done 4)))

three_run : run three pair ≡ 3
unfolding three run answer can_read
three_run = refl

three_trace : trace three pair ≡ record { offset = 1; size = 1 } ∷ []
unfolding three trace answer can_read
three_trace = refl

three_reach : reach three pair ≡ 2
unfolding three trace end_of answer can_read
three_reach = refl

three_tried : tried three pair ≡ 3
unfolding three tried tried_reads reads_of answer can_read
three_tried = refl

three_shown : tried_shown three pair ≡ 2
unfolding three tried_shown answer can_read
three_shown = refl
