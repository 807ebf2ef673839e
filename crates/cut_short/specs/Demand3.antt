-- Demand 3: whatever image opens and wherever it is cut short, with the same settings and the same rows, enough for the whole.
-- `demand3` in proofs/Laws/Proof proves it for every image, setting, lent rows and cut.
use Rattle.std.specs.Prelude.{ℕ, ◌≤◌, ◌<◌, ◌≡◌, List, length, take}
use Rattle.prog.specs.Prog.{reach}
use Rattle.info.specs.Reads.{RomRead}
use Rattle.window.specs.declared.Settings.{Settings}
use Rattle.fw_parser.specs.Opening.{Opened, refused, opened, open_p, open_with, set_rows_left, rom_rows_left}
use Rattle.cut_short.specs.Shown.{EndedOpening, KeptOpening}
use Rattle.opened_board.specs.ReadAfter.{read_after}

-- the image opens
abbrev pub Opens : Opened → Type 0
Opens (refused n) = ⊥
Opens (opened r ss names) = Unit {0}

-- the reach ends after the last byte taken by any shown read of the opening
abbrev pub reach_with : Settings → (sets roms : List ℕ) → List ℕ → ℕ
reach_with s sets roms x = reach (open_p s (length sets) (length roms)) x

-- of an image x that opens, and what a cut at k leaves of it
pub record Demand3 (s : Settings) (sets roms : List ℕ) (x : List ℕ) (k : ℕ) : Type 0 where
  -- cut at the reach or behind it, nothing changes: neither the report nor a row
  pub report_past : reach_with s sets roms x ≤ k → open_with s sets roms (take k x) ≡ open_with s sets roms x
  pub set_rows_past : reach_with s sets roms x ≤ k → set_rows_left (open_with s sets roms (take k x)) sets ≡ set_rows_left (open_with s sets roms x) sets
  pub rom_rows_past : reach_with s sets roms x ≤ k → rom_rows_left (open_with s sets roms (take k x)) roms ≡ rom_rows_left (open_with s sets roms x) roms
  -- cut before the reach, the opening says so: it is refused as ended, or some item is, a name perhaps
  pub ended_below : k < reach_with s sets roms x → EndedOpening (open_with s sets roms (take k x))
  -- and what is shown without that mark is the whole image's
  pub items_kept : KeptOpening (open_with s sets roms (take k x)) (open_with s sets roms x)
  -- a ROM read, by any job, that succeeds on the cut image, the first or a later one, succeeds on the whole with the same bytes
  pub reads_kept : (job : ℕ) (counts : List ℕ) (r : RomRead) → (read_after s sets roms (open_with s sets roms (take k x)) job counts r (take k x)).number ≡ 0
      → read_after s sets roms (open_with s sets roms x) job counts r x ≡ read_after s sets roms (open_with s sets roms (take k x)) job counts r (take k x)
