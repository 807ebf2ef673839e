-- One step of each recursive definition, in the terms of the loops.
-- Assumes nothing.
use Prim.Native.Nat.{ℕ, ◌+◌, ◌≤◌, ◌<◌}
use native.Mathlib.Numerals.{add-one}
use mathlib.Core.Path.{◌≡◌}
use mathlib.Core.List.{List, map}
use lib.ListN.{length, get_or, drop, set, drop_of_length-le}
use lib.Seq.{drop-cons}
use Rattle.std.specs.Prelude.{Option, None}
use Rattle.rom_rules.specs.Code.{bit_number}
use Rattle.mangle.specs.PinMap.{with_address, with_control, with_controls}

-- one more address bit to its pin
pub address_on : (ps m : List ℕ) (i : ℕ) → i < length ps
    → with_address (drop i ps) i m ≡ with_address (drop (i + 1) ps) (i + 1) (set m (get_or ps i 0) i)
unfolding with_address
address_on ps m i h = rw (add-one i, drop-cons ps i 0)

pub address_end : (ps m : List ℕ) (i : ℕ) → length ps ≤ i → with_address (drop i ps) i m ≡ m
unfolding with_address
address_end ps m i h = rw (drop_of_length-le ps h)

-- one more control pin
pub control_on : (ps : List ℕ) (bs : List (Option ℕ)) (m : List ℕ) (i : ℕ) → i < length ps → i < length bs
    → with_controls (drop i ps) (map bit_number (drop i bs)) m
    ≡ with_controls (drop (i + 1) ps) (map bit_number (drop (i + 1) bs)) (with_control m (get_or ps i 0) (bit_number (get_or bs i None)))
unfolding with_controls
control_on ps bs m i h k = rw (add-one i, drop-cons ps i 0, drop-cons bs i None)

pub control_end : (ps bs m : List ℕ) (i : ℕ) → length ps ≤ i → with_controls (drop i ps) bs m ≡ m
unfolding with_controls
control_end ps bs m i h = rw (drop_of_length-le ps h)

-- the loops, one pin at a time
pub ruleset steps = (address_on, address_end, control_on, control_end)
