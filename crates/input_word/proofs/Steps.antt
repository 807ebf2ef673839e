-- One step of the levels, in the terms of the loop.
-- Assumes nothing.
use Prim.Native.Nat.{ℕ, ◌+◌, ◌≤◌, ◌<◌}
use native.Mathlib.Numerals.{add-one}
use mathlib.Core.Path.{◌≡◌, refl, ◌∙◌}
use mathlib.Core.List.{List}
use mathlib.Core.Bool.{Bool, true, false}
use Rattle.std.specs.Int.Bits.{or_zero_r}
use lib.Bits.{bit_or}
use lib.ListN.{length, get_or, drop, drop_of_length-le}
use lib.Seq.{drop-cons}
use Rattle.base.specs.Choice.{pick}
use Rattle.input_word.specs.Laws.{raised_by}

raised_on : (ms : List ℕ) (ls : List Bool) (w i : ℕ) → i < length ms → i < length ls
    → raised_by (drop i ms) (drop i ls) w ≡ raised_by (drop (i + 1) ms) (drop (i + 1) ls) (bit_or w (pick (get_or ls i false) (get_or ms i 0) 0))
unfolding raised_by
raised_on ms ls w i h k = rw (add-one i, drop-cons ms i 0, drop-cons ls i false)

-- one more level, high or low
pub raised_high : (ms : List ℕ) (ls : List Bool) (w i : ℕ) → i < length ms → i < length ls → get_or ls i false ≡ true
    → raised_by (drop i ms) (drop i ls) w ≡ raised_by (drop (i + 1) ms) (drop (i + 1) ls) (bit_or w (get_or ms i 0))
raised_high ms ls w i h k e = raised_on ms ls w i h k ∙ rw e refl

pub raised_low : (ms : List ℕ) (ls : List Bool) (w i : ℕ) → i < length ms → i < length ls → get_or ls i false ≡ false
    → raised_by (drop i ms) (drop i ls) w ≡ raised_by (drop (i + 1) ms) (drop (i + 1) ls) w
raised_low ms ls w i h k e = raised_on ms ls w i h k ∙ rw (e, or_zero_r w) refl

pub raised_end : (ms : List ℕ) (ls : List Bool) (w i : ℕ) → length ms ≤ i → raised_by (drop i ms) (drop i ls) w ≡ w
unfolding raised_by
raised_end ms ls w i h = rw (drop_of_length-le ms h)
