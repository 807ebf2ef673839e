-- Document 01, "Pins": 88 bytes read.
use Rattle.std.specs.Prelude.{ℕ, Bool, ◌||◌, List, [], ◌∷◌, ◌++◌, Result, Ok, Err, ltb, eqb, length}
use Rattle.base.specs.Choice.{pick}
use Rattle.le.specs.Le.{u8_at}
use Rattle.refusal.specs.declared.Refusal.{Refusal}
use Rattle.refusal.specs.Refusal.{number_of}
use Rattle.runs.specs.Runs.{eight_at, sixteen_at}
use Rattle.types.specs.declared.SdrrMcuPort.{SdrrMcuPort}
use Rattle.types.specs.Types.{port_of}
use Rattle.prog.specs.Prog.{Prog, record_p}
use Rattle.pins.specs.declared.SdrrPins.{SdrrPins}
use Rattle.pins.specs.declared.PinsItem.{PinsItem}

abbrev pub eight_zeros : List ℕ
eight_zeros = 0 ∷ 0 ∷ 0 ∷ 0 ∷ 0 ∷ 0 ∷ 0 ∷ 0 ∷ []

-- Where each field stands in the record. The second arrays count only where `extended` is 1; otherwise they are zeros.
unfoldable pub pins_fields : List ℕ → SdrrPins
pins_fields s =
    record {
      data_port = port_of (u8_at s 0);
      addr_port = port_of (u8_at s 1);
      cs_port = port_of (u8_at s 2);
      sel_port = port_of (u8_at s 3);
      status_port = port_of (u8_at s 4);
      rom_pins = u8_at s 5;
      «data» = eight_at s 8;
      addr = sixteen_at s 16;
      cs1 = u8_at s 36;
      cs2 = u8_at s 37;
      cs3 = u8_at s 38;
      reserved2a = u8_at s 39;
      reserved2b = u8_at s 40;
      reserved2c = u8_at s 41;
      x1 = u8_at s 42;
      x2 = u8_at s 43;
      ce = u8_at s 44;
      oe = u8_at s 45;
      x_jumper_pull = u8_at s 46;
      swclk_sel = u8_at s 50;
      swdio_sel = u8_at s 51;
      sel0 = u8_at s 52;
      sel1 = u8_at s 53;
      sel2 = u8_at s 54;
      sel3 = u8_at s 55;
      sel4 = u8_at s 56;
      sel5 = u8_at s 57;
      sel6 = u8_at s 58;
      sel_jumper_pull = u8_at s 59;
      status = u8_at s 60;
      extended = u8_at s 63;
      data2 = pick (eqb (u8_at s 63) 1) (eight_at s 64) eight_zeros;
      addr2 = pick (eqb (u8_at s 63) 1) (sixteen_at s 72) (eight_zeros ++ eight_zeros);
    }

unfoldable pub no_pins : SdrrPins
no_pins =
    record {
      data_port = SdrrMcuPort.None;
      addr_port = SdrrMcuPort.None;
      cs_port = SdrrMcuPort.None;
      sel_port = SdrrMcuPort.None;
      status_port = SdrrMcuPort.None;
      rom_pins = 0;
      «data» = eight_zeros;
      addr = eight_zeros ++ eight_zeros;
      cs1 = 0;
      cs2 = 0;
      cs3 = 0;
      reserved2a = 0;
      reserved2b = 0;
      reserved2c = 0;
      x1 = 0;
      x2 = 0;
      ce = 0;
      oe = 0;
      x_jumper_pull = 0;
      swclk_sel = 0;
      swdio_sel = 0;
      sel0 = 0;
      sel1 = 0;
      sel2 = 0;
      sel3 = 0;
      sel4 = 0;
      sel5 = 0;
      sel6 = 0;
      sel_jumper_pull = 0;
      status = 0;
      extended = 0;
      data2 = eight_zeros;
      addr2 = eight_zeros ++ eight_zeros;
    }

abbrev pub refused_pins : ℕ → PinsItem
refused_pins n = record { number = n; pins = no_pins }

-- that item of the code's result
abbrev pub pins_item : Result SdrrPins Refusal → PinsItem
pins_item (Ok p) = record { number = 0; pins = p }
pins_item (Err r) = refused_pins (number_of r)

-- each port is 0..5
abbrev pub unknown_port : List ℕ → Bool
unknown_port s = ltb 5 (u8_at s 0) || (ltb 5 (u8_at s 1) || (ltb 5 (u8_at s 2) || (ltb 5 (u8_at s 3) || ltb 5 (u8_at s 4))))

-- the record from its address on; 2: ended. 50: port.
unfoldable pub pins_of : List ℕ → PinsItem
pins_of s =
    pick (ltb (length s) 88) (refused_pins 2) (pick (unknown_port s) (refused_pins 50) (record { number = 0; pins = pins_fields s }))

-- 3: below base. 2: ended.
unfoldable pub pins_p : ℕ → ℕ → Prog PinsItem
pins_p base pointer = record_p base pointer 88 refused_pins pins_of
