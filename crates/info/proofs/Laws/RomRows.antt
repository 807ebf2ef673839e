-- Of the ROM rows mangling and every ROM read look at how many words are lent and at the rows' types, and at nothing else: whatever else is altered,
-- names and their widths (document 02, wish 3), every answer is the same.
-- Assumes nothing.
use Rattle.std.specs.Prelude.{ℕ, ◌≡◌, refl, true, false, List, length}
use Rattle.window.specs.Window.{base_after}
use Rattle.board.specs.declared.Board.{Board}
use Rattle.board.specs.declared.BoardPins.{BoardPins}
use Rattle.types.specs.declared.SdrrCsSet.{SdrrCsSet}
use Rattle.rows.specs.LentRows.{first_rom, type_word}
use Rattle.rows.specs.Laws.{width_altered, altered_length, altered_types}
use Rattle.governing.specs.Governing.{governing, governing_set0, governing_own}
use Rattle.info.specs.declared.SdrrAddress.{SdrrAddress}
use Rattle.info.specs.Lent.{lent_by, mangled_by, mangle_address, mangle_own}
use Rattle.info.specs.Reads.{RomRead, range, byte, own, shown_byte, stored_p, finished, read_p, rom_read}

module _ (roms other : List ℕ) (long : length other ≡ length roms) (types : (row : ℕ) → type_word other row ≡ type_word roms row) where
  pub mangle_by_types : (pins : BoardPins) (served : ℕ) (sets : List ℕ) (address : ℕ) (levels : SdrrCsSet)
      → mangle_address pins served sets other address levels ≡ mangle_address pins served sets roms address levels
  unfolding mangle_address mangled_by governing_set0 governing
  mangle_by_types pins served sets address levels = rw (types (first_rom sets 0), long)

  pub own_by_types : (pins : BoardPins) (served : ℕ) (sets : List ℕ) (set address : ℕ) (levels : SdrrCsSet)
      → mangle_own pins served sets other set address levels ≡ mangle_own pins served sets roms set address levels
  unfolding mangle_own mangled_by governing_own governing
  own_by_types pins served sets set address levels = rw (types (first_rom sets set), long)

  by_types : (base : ℕ) (b : Board) (sets : List ℕ) (count : ℕ) (r : RomRead) → read_p base (lent_by b sets other) count r ≡ read_p base (lent_by b sets roms) count r
  unfolding read_p stored_p finished shown_byte
  by_types base b sets count (range set offset n) = refl
  by_types base b sets count (byte set (SdrrAddress.Raw offset) false) = refl
  by_types base b sets count (byte set (SdrrAddress.Raw offset) true) = refl
  by_types base b sets count (byte set (SdrrAddress.Logical address levels) false) = rw (mangle_by_types b.pins b.served sets address levels)
  by_types base b sets count (byte set (SdrrAddress.Logical address levels) true) = rw (mangle_by_types b.pins b.served sets address levels)
  by_types base b sets count (own set address levels) = rw (own_by_types b.pins b.served sets set address levels)

  pub reads_by_types : (flash_base cs0_base : ℕ) (b : Board) (sets : List ℕ) (count : ℕ) (r : RomRead) (x : List ℕ)
      → rom_read flash_base cs0_base (lent_by b sets other) count r x ≡ rom_read flash_base cs0_base (lent_by b sets roms) count r x
  unfolding rom_read
  reads_by_types flash_base cs0_base b sets count r x = rw (by_types (base_after flash_base cs0_base b.line) b sets count r)

-- lent with another width
module _ (roms : List ℕ) (row word : ℕ) (b : Board) (sets : List ℕ) where
  pub width_altered_mangle : (address : ℕ) (levels : SdrrCsSet)
      → mangle_address b.pins b.served sets (width_altered roms row word) address levels ≡ mangle_address b.pins b.served sets roms address levels
  width_altered_mangle address levels = mangle_by_types roms (width_altered roms row word) (altered_length roms row word) (altered_types roms row word) b.pins b.served sets address levels

  pub width_altered_reads : (flash_base cs0_base count : ℕ) (r : RomRead) (x : List ℕ)
      → rom_read flash_base cs0_base (lent_by b sets (width_altered roms row word)) count r x ≡ rom_read flash_base cs0_base (lent_by b sets roms) count r x
  width_altered_reads flash_base cs0_base count r x = reads_by_types roms (width_altered roms row word) (altered_length roms row word) (altered_types roms row word) flash_base cs0_base b sets count r x
