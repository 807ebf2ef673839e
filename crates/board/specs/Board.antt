-- The pins as later calls look at them: the item's number, and 32 bytes of the record. No call looks at the others.
use Rattle.pins.specs.declared.PinsItem.{PinsItem}
use Rattle.board.specs.declared.BoardPins.{BoardPins}

unfoldable pub board_pins : PinsItem → BoardPins
board_pins i =
    record {
      number = i.number;
      rom_pins = i.pins.rom_pins;
      «data» = i.pins.«data»;
      addr = i.pins.addr;
      cs1 = i.pins.cs1;
      cs2 = i.pins.cs2;
      cs3 = i.pins.cs3;
      x1 = i.pins.x1;
      x2 = i.pins.x2;
      ce = i.pins.ce;
      oe = i.pins.oe;
    }
