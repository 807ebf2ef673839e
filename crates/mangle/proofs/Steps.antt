-- One step of each recursive definition, in the terms of the loops.
-- Assumes nothing.
use Prim.Native.Nat.{ℕ, ◌+◌, ◌≤◌, ◌<◌}
use native.Mathlib.Numerals.{add-one}
use mathlib.Core.Path.{◌≡◌}
use mathlib.Core.List.{List, map}
use mathlib.Core.Bool.{Bool, true, false, ◌&&◌, ◌||◌}
use Rattle.std.specs.Prelude.{Option, None, eqb}
use Rattle.std.specs.Int.{from_bool}
use Rattle.rom_rules.specs.Code.{bit_number}
use lib.ListN.{length, get_or, drop, drop_of_length-le}
use lib.Seq.{drop-cons}
use Rattle.demangle.specs.Bits.{is_bit}
use Rattle.demangle.specs.Laws.{taken_lt}
use Rattle.pin_words.specs.Laws.{on_lt}
use Rattle.mangle.specs.Laws.Words.{x_lt, control_lt}
use Rattle.mangle.specs.PinMap.{off, control_off}
use Rattle.mangle.specs.Code.{on_control, on_controls}

-- one more control pin
pub off_on : (f : ℕ → ℕ) (ps : List ℕ) (bs : List (Option ℕ)) (i : ℕ) → i < length ps → i < length bs
    → control_off (map f (drop i ps)) (map bit_number (drop i bs))
    ≡ ((is_bit (bit_number (get_or bs i None)) && off (f (get_or ps i 0))) || control_off (map f (drop (i + 1) ps)) (map bit_number (drop (i + 1) bs)))
unfolding control_off
off_on f ps bs i h k = rw (add-one i, drop-cons ps i 0, drop-cons bs i None)

pub off_end : (f : ℕ → ℕ) (ps bs : List ℕ) (i : ℕ) → length ps ≤ i → control_off (map f (drop i ps)) bs ≡ false
unfolding control_off
off_end f ps bs i h = rw (drop_of_length-le ps h)

pub control_on : (f : ℕ → ℕ) (ps : List ℕ) (bs : List (Option ℕ)) (i w v : ℕ) → i < length ps → i < length bs
    → on_controls (map f (drop i ps)) (map bit_number (drop i bs)) w v
    ≡ on_controls (map f (drop (i + 1) ps)) (map bit_number (drop (i + 1) bs)) w (on_control v (f (get_or ps i 0)) (bit_number (get_or bs i None)) w)
unfolding on_controls
control_on f ps bs i w v h k = rw (add-one i, drop-cons ps i 0, drop-cons bs i None)

pub control_end : (f : ℕ → ℕ) (ps bs : List ℕ) (i w v : ℕ) → length ps ≤ i → on_controls (map f (drop i ps)) bs w v ≡ v
unfolding on_controls
control_end f ps bs i w v h = rw (drop_of_length-le ps h)

-- a level, by its bit
pub high_is : (high : Bool) (n : ℕ) → from_bool high ≡ n → high ≡ eqb n 1
high_is true n e = rw (← e)
high_is false n e = rw (← e)

-- what keeps a word in sixteen bits, and a bit below 2
pub ruleset bounds = (taken_lt, on_lt, x_lt, control_lt)

-- the loops over the control pins, one pin at a time
pub ruleset steps = (off_on, off_end, control_on, control_end)
