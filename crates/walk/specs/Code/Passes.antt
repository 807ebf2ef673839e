-- The walk as its two passes take it: the number that judging a part gives, 0 accepted, and what an accepted part holds, straight from the image.
-- `Says` has it that this is what the walk's programs answer.
use Rattle.std.specs.Prelude.{ℕ, zero, suc, ◌+◌, Bool, ◌||◌, List, [], ◌∷◌, ltb, eqb}
use Rattle.base.specs.Choice.{pick}
use Rattle.window.specs.Window.{can_read, on_from}
use Rattle.le.specs.Le.{u8_at, u32_at}
use Rattle.walk.specs.Walk.{Rom, RomSet, rom_of, info_size}
pub use Rattle.set_header.specs.SetHeader.{info_pointer, config_of, overrides_of, stride_of}
unfoldable pub use Rattle.set_header.specs.SetHeader.{pointed}

-- a number, or the next one where it is 0
abbrev pub or_next : ℕ → ℕ → ℕ
or_next n m = pick (eqb n 0) m n

-- ---- a ROM

-- 42, 43: what a ROM info's own bytes say
unfoldable pub info_number : List ℕ → ℕ
info_number s =
    pick (ltb 33 (u8_at s 0)) 42 (pick (ltb 2 (u8_at s 1) || (ltb 2 (u8_at s 2) || ltb 2 (u8_at s 3))) 43 0)

unfoldable pub rom_number : List ℕ → ℕ → Bool → ℕ → ℕ
rom_number x base filenames entry =
    pick (can_read x base entry 4)
    (pick (can_read x base (info_pointer x base entry) (info_size filenames)) (info_number (on_from x base (info_pointer x base entry))) 2)
    2

unfoldable pub rom_at : List ℕ → ℕ → Bool → ℕ → Rom
rom_at x base filenames entry = rom_of base filenames (on_from x base (info_pointer x base entry))

-- so many ROMs, from an entry on
unfoldable pub roms_number : List ℕ → ℕ → Bool → ℕ → ℕ → ℕ
roms_number x base filenames entry zero = 0
roms_number x base filenames entry (suc left) = or_next (rom_number x base filenames entry) (roms_number x base filenames (entry + 4) left)

unfoldable pub roms_at : List ℕ → ℕ → Bool → ℕ → ℕ → List Rom
roms_at x base filenames entry zero = []
roms_at x base filenames entry (suc left) = rom_at x base filenames entry ∷ roms_at x base filenames (entry + 4) left

unfoldable pub table_number : List ℕ → ℕ → Bool → ℕ → ℕ → ℕ
table_number x base filenames count table =
    pick (eqb count 0) 0 (pick (ltb table base) 3 (roms_number x base filenames table count))

-- ---- a set

unfoldable pub pointed_number : List ℕ → ℕ → ℕ → ℕ
pointed_number x base address = pick (eqb address 0) 0 (pick (can_read x base address 64) 0 2)

-- 40, 41, 2: a set's own bytes, config and overrides
unfoldable pub header_number : List ℕ → ℕ → List ℕ → ℕ
header_number x base s =
    pick (ltb 2 (u8_at s 13)) 40
    (pick (ltb 2 (u8_at s 14)) 41
    (or_next (pointed_number x base (config_of s)) (pointed_number x base (overrides_of s))))

unfoldable pub set_of : List ℕ → List Rom → RomSet
set_of s roms =
    record {
      data_pointer = u32_at s 0;
      size = u32_at s 4;
      rom_count = u8_at s 12;
      serve = u8_at s 13;
      state = u8_at s 14;
      config = config_of s;
      overrides = overrides_of s;
      roms = roms;
    }

-- the set whose part of the image is s
unfoldable pub part_number : List ℕ → ℕ → Bool → List ℕ → ℕ
part_number x base filenames s = or_next (header_number x base s) (table_number x base filenames (u8_at s 12) (u32_at s 8))

abbrev pub part_roms : List ℕ → ℕ → Bool → List ℕ → List Rom
part_roms x base filenames s = roms_at x base filenames (u32_at s 8) (u8_at s 12)

unfoldable pub one_set_number : List ℕ → ℕ → Bool → ℕ → ℕ
one_set_number x base filenames address = pick (can_read x base address 64) (part_number x base filenames (on_from x base address)) 2

unfoldable pub set_at : List ℕ → ℕ → Bool → ℕ → RomSet
set_at x base filenames address = set_of (on_from x base address) (part_roms x base filenames (on_from x base address))

-- the address after a set's
abbrev pub after : List ℕ → ℕ → Bool → ℕ → ℕ
after x base long address = address + stride_of long (on_from x base address)

-- where set i stands
unfoldable pub set_address : List ℕ → ℕ → Bool → ℕ → ℕ → ℕ
set_address x base long pointer zero = pointer
set_address x base long pointer (suc i) = set_address x base long (after x base long pointer) i

-- so many sets, from an address on
unfoldable pub sets_number : List ℕ → ℕ → Bool → Bool → ℕ → ℕ → ℕ
sets_number x base filenames long address zero = 0
sets_number x base filenames long address (suc left) =
    or_next (one_set_number x base filenames address) (sets_number x base filenames long (after x base long address) left)

unfoldable pub sets_at : List ℕ → ℕ → Bool → Bool → ℕ → ℕ → List RomSet
sets_at x base filenames long address zero = []
sets_at x base filenames long address (suc left) =
    set_at x base filenames address ∷ sets_at x base filenames long (after x base long address) left

unfoldable pub walk_number : List ℕ → ℕ → Bool → Bool → ℕ → ℕ → ℕ
walk_number x base filenames long count pointer =
    pick (eqb count 0) 0 (pick (ltb pointer base) 3 (sets_number x base filenames long pointer count))
