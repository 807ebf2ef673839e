-- Document 01, "Mangling": the input word's bits are placed on the sixteen pins.
use Rattle.std.specs.Prelude.{ℕ, Bool, List, eqb}
use Rattle.base.specs.Choice.{pick}
use Rattle.types.specs.declared.SdrrRomType.{SdrrRomType}
use Rattle.types.specs.declared.SdrrCsSet.{SdrrCsSet}
use Rattle.board.specs.declared.BoardPins.{BoardPins}
use Rattle.demangle.specs.Bits.{gather}
use Rattle.rom_rules.specs.Rules.{mangle_number}
use Rattle.input_word.specs.Input.{levels, input_word}
use Rattle.refusal.specs.Refusal.{Valued}
use Rattle.mangle.specs.PinMap.{PinMap, pin_map}

-- the mangled address, or a number with 0
abbrev pub Mangled : Type 0
Mangled = Valued

-- a pin is high if the input bit that it takes is
abbrev pub place : List ℕ → ℕ → ℕ
place m word = gather m word

-- the value is 0 where the number is not
abbrev pub mangled_to : ℕ → ℕ → Mangled
mangled_to n v = record { number = n; value = pick (eqb n 0) v 0 }

-- an address with its levels under a map
unfoldable pub mangle_by : PinMap → ℕ → SdrrRomType → ℕ → List Bool → Mangled
mangle_by m count type address ls =
    mangled_to (mangle_number m.number type address) (place m.map (input_word type count ls address))

-- the type is that of the first ROM; with count 0 there is none, and 74 comes whatever the type is
unfoldable pub mangle_of : BoardPins → ℕ → SdrrRomType → ℕ → List Bool → Mangled
mangle_of pins count type = mangle_by (pin_map pins count type) count type

unfoldable pub mangle_core : BoardPins → ℕ → SdrrRomType → ℕ → SdrrCsSet → Mangled
mangle_core pins count type address set = mangle_of pins count type address (levels set)
