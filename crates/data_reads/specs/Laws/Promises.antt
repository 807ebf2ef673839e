-- Document 01, "ROM data": what a caller may count on. `rom_read` is what the call replies by (`counted_of`), and `buffer_left` what its buffer
-- holds afterwards.
-- Assumes nothing.
use Rattle.std.specs.Prelude.{ℕ, ◌+◌, ◌≤◌, ◌≡◌, refl, List, [], length, take, drop}
use Rattle.std.proofs.Common.{arith, length-drop, length-take-le}
use Rattle.window.specs.Window.{base_after}
use Rattle.info.specs.Lent.{Lent, lent_by, size_of}
use Rattle.info.specs.Reads.{range, rom_read, buffer_left, stored_p, finished, read_p}
use Rattle.board.specs.declared.Board.{Board}
use Rattle.set_data.specs.Code.{set_data}
use Rattle.info.proofs.Laws.Calls.{place}
use Rattle.set_data.specs.Laws.{stands_inside}
use Rattle.data_reads.specs.Code.{placed_of}
use Rattle.data_reads.specs.Laws.Steps.{placed_stands, data_accepted}

-- ROM data does not look at ROM rows: the statement of `data_on_count`, which has none, holds with any
pub no_rom_rows : (b : Board) (sets roms : List ℕ) (count set offset n : ℕ) (x : List ℕ)
    → rom_read b.flash_base b.cs0_base (lent_by b sets roms) count (range set offset n) x ≡ rom_read b.flash_base b.cs0_base (lent_by b sets []) count (range set offset n) x
unfolding rom_read read_p stored_p finished
no_rom_rows b sets roms count set offset n x = refl

module _ (flash_base cs0_base : ℕ) (l : Lent) (x : List ℕ) where
  -- ---- an accepted read fills the whole buffer with bytes of the image, of the set's part of it

  pub record Filled (set offset : ℕ) (lent left : List ℕ) : Type 0 where
    pub in_set : offset + length lent ≤ size_of l.set_words set
    pub in_image : place flash_base cs0_base l set offset + length lent ≤ length x
    pub whole : length left ≡ length lent
    pub bytes : left ≡ take (length lent) (drop (place flash_base cs0_base l set offset) x)

  pub accepted_fills : (count set offset : ℕ) (lent : List ℕ) → (rom_read flash_base cs0_base l count (range set offset (length lent)) x).number ≡ 0
      → Filled set offset lent (buffer_left (rom_read flash_base cs0_base l count (range set offset (length lent)) x) lent)
  accepted_fills count set offset lent e =
      let base = base_after flash_base cs0_base l.line in
      let d = set_data l.served l.set_words set in
      let f = placed_of flash_base cs0_base l set offset (length lent) x in
      let a = data_accepted flash_base cs0_base l set offset (length lent) x f refl count e in
      let s = placed_stands flash_base cs0_base l set offset (length lent) x f refl a.0 in
      let inside : place flash_base cs0_base l set offset + length lent ≤ length x = rw s.starts at (stands_inside x base d offset (length lent) f s) in
      let fits : length lent ≤ length (drop (place flash_base cs0_base l set offset) x) = rw (length-drop (place flash_base cs0_base l set offset) x) (omega arith) in
      rw (a.1, s.starts) (record { in_set = s.in_set; in_image = inside; whole = length-take-le (length lent) (drop (place flash_base cs0_base l set offset) x) fits; bytes = refl })
