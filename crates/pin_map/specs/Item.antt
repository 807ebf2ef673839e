-- The map as the code has it, shown as the record of mangle's PinMap.
use Rattle.std.specs.Prelude.{ℕ, Result, Ok, Err, List}
use Rattle.refusal.specs.declared.Refusal.{Refusal}
use Rattle.refusal.specs.Refusal.{number_of}
use Rattle.mangle.specs.PinMap.{PinMap, unmapped}

abbrev pub pin_map_item : Result (List ℕ) Refusal → PinMap
pin_map_item (Ok m) = record { number = 0; map = m }
pin_map_item (Err r) = record { number = number_of r; map = unmapped }
