-- Document 01, "Mangling": the least pin, from which base-zero counts.
use Rattle.std.specs.Prelude.{ℕ, Bool, List, [], ◌∷◌, ltb, eqb}
use Rattle.base.specs.Choice.{pick}
use Rattle.board.specs.declared.BoardPins.{BoardPins}

-- the least of m and the pins
unfoldable pub least_of : List ℕ → ℕ → ℕ
least_of [] m = m
least_of (p ∷ ps) m = least_of ps (pick (ltb p m) p m)

-- base-zero goes by the record's own byte
abbrev pub has24 : BoardPins → Bool
has24 pins = eqb pins.rom_pins 24

abbrev pub controls : BoardPins → List ℕ
controls pins = pins.cs1 ∷ pins.cs2 ∷ pins.cs3 ∷ pins.x1 ∷ pins.x2 ∷ pins.ce ∷ pins.oe ∷ []

-- the least of the sixteen address pins and, at 24, of CS1..CS3, X1, X2, CE, OE
unfoldable pub least_pin : BoardPins → ℕ
least_pin pins = least_of (pick (has24 pins) (controls pins) []) (least_of pins.addr 255)
