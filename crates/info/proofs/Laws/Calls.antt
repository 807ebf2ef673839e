-- A ROM read beyond the window and within it: what the proofs of the reads cite.
-- Assumes nothing.
use Rattle.std.specs.Prelude.{ℕ, ◌+◌, ◌-◌, ◌≡◌, true, false, List}
use Rattle.std.proofs.Common.{ap}
use Rattle.window.specs.Window.{base_after, beyond_window}
use Rattle.prog.specs.Prog.{run}
use Rattle.prog.proofs.Laws.Run.{run_map}
use Rattle.info.specs.Lent.{Lent, data_pointer}
use Rattle.info.specs.Reads.{RomRead, stored_p, finished, read_p, refused_reply, read_reply, rom_read}

-- where the set's bytes from an offset on stand in the image
abbrev pub place : (flash_base cs0_base : ℕ) → Lent → ℕ → ℕ → ℕ
place flash_base cs0_base l set offset = data_pointer l.set_words set + offset - base_after flash_base cs0_base l.line

module _ (flash_base cs0_base : ℕ) (l : Lent) (count : ℕ) (x : List ℕ) where
  pub read_beyond : (r : RomRead) → beyond_window flash_base cs0_base x ≡ true → rom_read flash_base cs0_base l count r x ≡ refused_reply 1 count
  unfolding rom_read
  read_beyond r e = rw e

  pub read_within : (r : RomRead) → beyond_window flash_base cs0_base x ≡ false
      → rom_read flash_base cs0_base l count r x ≡ read_reply count r (finished l count r (run (stored_p (base_after flash_base cs0_base l.line) l r) x))
  unfolding rom_read read_p
  read_within r e = rw e (ap (read_reply count r) (run_map x (finished l count r) (stored_p (base_after flash_base cs0_base l.line) l r)))
