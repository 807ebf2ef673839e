-- What the definitions of the map and of mangling say of each bit of the answer.
-- Assumes nothing.
use Rattle.std.specs.Prelude.{ℕ, suc, ◌^◌, ◌<◌, ◌≡◌, refl, ◌↔◌, Bool, true, false, List, [], ◌∷◌, eqb, length, get_or, set}
use Rattle.std.proofs.Common.{◌∙◌, length-set, pow_pos}
use Rattle.base.specs.Choice.{pick}
use Rattle.types.specs.declared.SdrrRomType.{SdrrRomType}
use Rattle.types.specs.declared.SdrrCsSet.{SdrrCsSet}
use Rattle.board.specs.declared.BoardPins.{BoardPins}
use Rattle.demangle.specs.Bits.{none, is_bit, bit_at, taken_bit, gather}
use Rattle.demangle.specs.Laws.{bit_gather, gather_lt, taken_high, pick_lt}
use Rattle.base_zero.specs.BaseZero.{base_zero}
use Rattle.rom_rules.specs.Rules.{control_bits, several, mangle_number}
use Rattle.input_word.specs.Input.{levels, input_word}
use Rattle.mangle.specs.PinMap.{unmapped, with_address, address_map, with_x, control_pins, with_control, with_controls, map_number, whole_map, map_by, map_of, pin_map}
use Rattle.mangle.specs.Mangle.{place, mangle_by, mangle_of, mangle_core}

-- a pin is high exactly if the map sends it to an input bit that is set
pub pin_high : (m : List ℕ) (word p : ℕ)
    → (bit_at (place m word) p ≡ 1) ↔ ((is_bit (get_or m p none) ≡ true) × (bit_at word (get_or m p none) ≡ 1))
pin_high m word p = rw (bit_gather m word p) (taken_high word (get_or m p none))

-- a pin mapped to nothing is low
pub pin_low : (m : List ℕ) (word p : ℕ) → is_bit (get_or m p none) ≡ false → bit_at (place m word) p ≡ 0
unfolding taken_bit
pin_low m word p h = rw (bit_gather m word p, h)

-- ---- the map has sixteen entries, so the mangled address is below 2^16

pub address_length : (ps : List ℕ) (i : ℕ) (m : List ℕ) → length (with_address ps i m) ≡ length m
unfolding with_address
address_length [] i m = refl
address_length (p ∷ ps) i m = address_length ps (suc i) (set m p i) ∙ length-set m p i

pub x_length : (m : List ℕ) (x1 x2 : ℕ) → length (with_x m x1 x2) ≡ length m
unfolding with_x
x_length m x1 x2 = simp length-set

pick_length : (b : Bool) (l m : List ℕ) → length l ≡ length m → length (pick b l m) ≡ length m
pick_length true l m h = h
pick_length false l m h = refl

pub one_length : (m : List ℕ) (p b : ℕ) → length (with_control m p b) ≡ length m
unfolding with_control
one_length m p b = pick_length (is_bit b) (set m p b) m (length-set m p b)

control_length : (ps bs m : List ℕ) → length (with_controls ps bs m) ≡ length m
unfolding with_controls
control_length [] bs m = refl
control_length (p ∷ ps) [] m = refl
control_length (p ∷ ps) (b ∷ bs) m = control_length ps bs (with_control m p b) ∙ one_length m p b

whole_length : (m : List ℕ) (x1 x2 : ℕ) (controls : List ℕ) (count : ℕ) (type : SdrrRomType)
    → length (whole_map m x1 x2 controls count type) ≡ length m
unfolding whole_map
whole_length m x1 x2 controls count type =
    control_length controls (control_bits type) (pick (several count) (with_x m x1 x2) m)
    ∙ pick_length (several count) (with_x m x1 x2) m (x_length m x1 x2)

pub map_length : (pins : BoardPins) (count : ℕ) (type : SdrrRomType) → length (pin_map pins count type).map ≡ 16
unfolding pin_map map_of map_by
map_length pins count type =
    let p = base_zero pins in
    let m = address_map p.addr in
    let w = whole_map m p.x1 p.x2 (control_pins p) count type in
    let h = whole_length m p.x1 p.x2 (control_pins p) count type in
    pick_length (eqb (map_number m p.x1 p.x2 (control_pins p) count type) 0) w unmapped (h ∙ address_length p.addr 0 unmapped)

pub mangled_lt : (pins : BoardPins) (count : ℕ) (type : SdrrRomType) (address : ℕ) (set : SdrrCsSet)
    → (mangle_core pins count type address set).value < 2 ^ 16
unfolding mangle_core mangle_of mangle_by
mangled_lt pins count type address set =
    let m = pin_map pins count type in
    let w = input_word type count (levels set) address in
    let h : gather m.map w < 2 ^ 16 = rw (map_length pins count type) at (gather_lt m.map w) in
    pick_lt (eqb (mangle_number m.number type address) 0) (gather m.map w) 0 (2 ^ 16) h (pow_pos 16)

-- Mangling is placing the input word under the map, which does not depend on address and levels: a caller may make the map once, as the crate
-- pin_map does, and use it for many addresses.
pub by_map : (pins : BoardPins) (count : ℕ) (type : SdrrRomType) (address : ℕ) (set : SdrrCsSet)
    → mangle_core pins count type address set ≡ mangle_by (pin_map pins count type) count type address (levels set)
unfolding mangle_core mangle_of
by_map pins count type address set = refl

-- with no ROM it is 74, whatever the type
pub no_rom : (pins : BoardPins) (type : SdrrRomType) (address : ℕ) (set : SdrrCsSet) → mangle_core pins 0 type address set ≡ record { number = 74; value = 0 }
unfolding mangle_core mangle_of mangle_by mangle_number pin_map map_of map_by map_number
no_rom pins type address set = refl
