-- Document 02, wish 4: a history starts at the opening, and each call gets image, settings, report and rows as opened, and the counts that the last
-- call left.
use Rattle.std.specs.Prelude.{ℕ, List, replicate}
use Rattle.info.specs.Reads.{RomRead}
use Rattle.jobs.specs.Histories.{JobCall}
use Rattle.window.specs.declared.Settings.{Settings}
use Rattle.fw_parser.specs.Opening.{open_with}
use Rattle.opened_board.specs.ReadAfter.{lent_after}

-- a call on an opened board: whose it is, what it reads, and what its buffer holds (of a byte read the lent byte)
pub record BoardCall : Type 0 where
  pub job : ℕ
  pub read : RomRead
  pub buffer : List ℕ

-- the read that it is, on the board that this image, these settings and these lent rows open to
abbrev pub on_board : Settings → (sets roms x : List ℕ) → BoardCall → JobCall
on_board s sets roms x c = record {
  flash_base = s.flash_base;
  cs0_base = s.cs0_base;
  lent = lent_after s sets roms (open_with s sets roms x);
  job = c.job;
  read = c.read;
  buffer = c.buffer;
  image = x;
}

-- all eight counts at the opening
abbrev pub at_opening : List ℕ
at_opening = replicate 8 0
