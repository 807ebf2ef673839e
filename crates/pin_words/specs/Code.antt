-- The sixteen pins as a word: bit p is the level of pin p. Each bit is put on its pin at once, over the bit of an earlier one.
use Rattle.std.specs.Prelude.{ℕ, suc, ◌+◌, ◌*◌, ◌-◌, ◌^◌, List, [], ◌∷◌, ltb}
use Rattle.base.specs.Choice.{pick}
use Rattle.demangle.specs.Bits.{bit_at, taken_bit}
use Rattle.pin_words.specs.declared.Placed.{Placed}

-- pin p of v at level b; a pin at 16 or above is left out
unfoldable pub on_pin : (v p b : ℕ) → ℕ
on_pin v p b = pick (ltb p 16) (v - bit_at v p * 2 ^ p + b * 2 ^ p) v

-- bits i, i + 1, .. of the word w, each on its pin
unfoldable pub on_pins : List ℕ → (i w v : ℕ) → ℕ
on_pins [] i w v = v
on_pins (p ∷ ps) i w v = on_pins ps (suc i) w (on_pin v p (taken_bit w i))

-- a word with every input bit high: the pins that are high under it are those that take a bit
abbrev pub all_high : ℕ
all_high = 4294967295

-- one bit more, under a word and under the word of ones
abbrev pub step_pin : Placed → (p w i : ℕ) → Placed
step_pin s p w i = record { value = on_pin s.value p (taken_bit w i); mapped = on_pin s.mapped p (taken_bit all_high i) }

-- the address pins under a word, and those that take a bit
abbrev pub placed : List ℕ → ℕ → Placed
placed ps w = record { value = on_pins ps 0 w 0; mapped = on_pins ps 0 all_high 0 }

-- the pins below it are those of the sixteen when lowered by m
abbrev pub limit : ℕ → ℕ
limit m = pick (ltb m 239) (m + 16) 255
