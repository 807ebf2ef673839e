-- Document 01, "Bench cases": D1, D2, computed.
use Rattle.std.specs.Prelude.{◌≡◌, refl, [], ◌∷◌}
use Rattle.demangle.specs.Bits.{bit_at, taken_bit, gather}
use Rattle.demangle.specs.Demangle.{all_below, demangle}

-- data pins 7..0, byte 1
pub D1 : demangle (7 ∷ 6 ∷ 5 ∷ 4 ∷ 3 ∷ 2 ∷ 1 ∷ 0 ∷ []) 1 ≡ record { number = 0; value = 128 }
unfolding demangle all_below gather taken_bit bit_at
D1 = refl

-- a pin 8
pub D2 : demangle (7 ∷ 6 ∷ 5 ∷ 8 ∷ 3 ∷ 2 ∷ 1 ∷ 0 ∷ []) 1 ≡ record { number = 79; value = 0 }
unfolding demangle all_below
D2 = refl
