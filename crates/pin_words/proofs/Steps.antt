-- One step of the address pins, and one bit.
-- Assumes nothing.
use Prim.Native.Nat.{ℕ, suc, ◌+◌, ◌*◌, ◌-◌, ◌≤◌, ◌<◌}
use native.Mathlib.Omega.{arith}
use mathlib.Core.Path.{◌≡◌, sym, ap, ◌∙◌}
use mathlib.Core.Bool.{true, false}
use Rattle.std.specs.Int.{from_bool}
use Rattle.std.specs.Int.Bits.{bit_and, bit_or, bit_xor}
use Rattle.pin_words.specs.Laws.{level_bits}
use mathlib.Core.List.{List, map}
use lib.ListN.{length, get_or, drop, drop_of_length-le}
use lib.Seq.{drop-cons}
use Rattle.pin_words.specs.declared.Placed.{Placed}
use Rattle.pin_words.specs.Code.{on_pins, all_high, step_pin}

-- the pins from the i-th on, over those before
abbrev pub rest_on : (ℕ → ℕ) → List ℕ → ℕ → ℕ → Placed → Placed
rest_on f ps w i s = record { value = on_pins (map f (drop i ps)) i w s.value; mapped = on_pins (map f (drop i ps)) i all_high s.mapped }

rest_on_is : (f : ℕ → ℕ) (ps : List ℕ) (w i : ℕ) (s : Placed) → i < length ps
    → rest_on f ps w i s ≡ rest_on f ps w (suc i) (step_pin s (f (get_or ps i 0)) w i)
unfolding on_pins
rest_on_is f ps w i s h = rw (drop-cons ps i 0)

-- what is left after a step is what was left before
pub rest_step : (f : ℕ → ℕ) (ps : List ℕ) (w i : ℕ) (s t : Placed) → i < length ps → t ≡ step_pin s (f (get_or ps i 0)) w i
    → rest_on f ps w (suc i) t ≡ rest_on f ps w i s
rest_step f ps w i s t h d = rw d (sym (rest_on_is f ps w i s h))

pub rest_end : (f : ℕ → ℕ) (ps : List ℕ) (w i : ℕ) (s : Placed) → length ps ≤ i → rest_on f ps w i s ≡ s
unfolding on_pins
rest_end f ps w i s h = rw (drop_of_length-le ps h)

-- ---- a bit set, then taken off where its level is low

pub set_high : (v q : ℕ) → bit_xor (bit_or v q) 0 ≡ v - bit_and v q + from_bool true * q
set_high v q = let z : 0 ≡ (1 - 1) * q = omega arith in ap (λ (x : ℕ). bit_xor (bit_or v q) x) z ∙ level_bits v q 1 (omega arith)

pub set_low : (v q : ℕ) → bit_xor (bit_or v q) q ≡ v - bit_and v q + from_bool false * q
set_low v q = let z : q ≡ (1 - 0) * q = omega arith in ap (λ (x : ℕ). bit_xor (bit_or v q) x) z ∙ level_bits v q 0 (omega arith)
