-- Document 01, "Mangling": the numbers that it refuses with are 72 to 78.
-- Assumes nothing.
use Rattle.std.specs.Prelude.{ℕ, ◌≤◌, ◌≡◌, refl, Bool, true, false, not, ◌&&◌, ◌||◌, List, eqb}
use Rattle.std.proofs.Common.{arith}
use Rattle.base.specs.Choice.{pick}
use Rattle.types.specs.declared.SdrrRomType.{SdrrRomType}
use Rattle.types.specs.declared.SdrrCsSet.{SdrrCsSet}
use Rattle.board.specs.declared.BoardPins.{BoardPins}
use Rattle.rom_rules.specs.Rules.{rules_of, control_bits, several, above_mask, is_28c16, mangle_number}
use Rattle.mangle.specs.PinMap.{off, is_mapped, control_off, map_number, map_by, map_of, pin_map}
use Rattle.mangle.specs.Mangle.{mangle_by, mangle_of, mangle_core}

abbrev InRange : ℕ → Type 0
InRange n = (n ≡ 0 → ⊥) → (72 ≤ n) × (n ≤ 78)

map_range : (m : List ℕ) (x1 x2 : ℕ) (controls : List ℕ) (count : ℕ) (type : SdrrRomType) → InRange (map_number m x1 x2 controls count type)
unfolding map_number
map_range m x1 x2 controls count type =
    go (several count && (off x1 || off x2)) (several count && (is_mapped m x1 || is_mapped m x2)) (eqb count 0) (not (rules_of type).supported) (control_off controls (control_bits type))
  where
    go : (a b c d e : Bool) → InRange (pick a 72 (pick b 73 (pick c 74 (pick d 75 (pick e 76 0)))))
    go true b c d e h = (omega arith, omega arith)
    go false true c d e h = (omega arith, omega arith)
    go false false true d e h = (omega arith, omega arith)
    go false false false true e h = (omega arith, omega arith)
    go false false false false true h = (omega arith, omega arith)
    go false false false false false h = absurd (h refl)

number_range : (n : ℕ) (type : SdrrRomType) (address : ℕ) → InRange n → InRange (mangle_number n type address)
unfolding mangle_number
number_range n type address r = go (not (eqb n 0)) (above_mask type address) (is_28c16 type)
  where
    go : (a b c : Bool) → InRange (pick a n (pick b 77 (pick c 78 0)))
    go true b c = r
    go false true c = λ h. (omega arith, omega arith)
    go false false true = λ h. (omega arith, omega arith)
    go false false false = λ h. absurd (h refl)

pub mangle_range : (pins : BoardPins) (count : ℕ) (type : SdrrRomType) (address : ℕ) (levels : SdrrCsSet) → InRange (mangle_core pins count type address levels).number
unfolding mangle_core mangle_of mangle_by pin_map map_of map_by
mangle_range pins count type address levels = number_range _ type address (map_range _ _ _ _ count type)
