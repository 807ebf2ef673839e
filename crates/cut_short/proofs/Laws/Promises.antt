-- Demand 3 of the code. `replied`, `sets_after` and `roms_after` (fw_parser/Laws/Promises) are what `parse_flash` ensures; `rom_read` is what each read
-- of data_reads and byte_reads ensures, on a board that `board` makes of the report.
-- Assumes nothing.
use Rattle.std.specs.Prelude.{ℕ, ◌≤◌, ◌≡◌, List, length, take}
use Rattle.std.proofs.Common.{ap}
use Rattle.window.specs.declared.Settings.{Settings}
use Rattle.fw_parser.specs.Opening.{Opened, refused, opened, open_with}
use Rattle.fw_parser.specs.Reply.{opening_reply}
use Rattle.fw_parser.specs.Laws.Fits.{Fits, opening_fits}
use Rattle.fw_parser.specs.Laws.Promises.{replied, sets_after, roms_after}
use Rattle.cut_short.specs.Demand3.{Opens, reach_with, Demand3}
use Rattle.cut_short.proofs.Laws.Proof.{demand3}

module _ (s : Settings) (sets roms x : List ℕ) where
  -- "opens", of which demand 3 speaks, is the number 0 of the code
  pub number_0_opens : (replied s sets roms x).number ≡ 0 → Opens (open_with s sets roms x)
  unfolding opening_reply
  number_0_opens h = go (open_with s sets roms x) h (opening_fits (length sets) (length roms) s x)
    where
      go : (p : Opened) → (opening_reply p).number ≡ 0 → Fits (length sets) (length roms) p → Opens p
      go (refused n) i f = absurd (f i)
      go (opened r ss names) i f = tt

  -- the whole of it, for every image that the code opens and every cut
  pub cut_short : (replied s sets roms x).number ≡ 0 → (k : ℕ) → Demand3 s sets roms x k
  cut_short h k = demand3 s sets roms x (number_0_opens h) k

  -- its first clause, as the code replies
  pub reply_past : (replied s sets roms x).number ≡ 0 → (k : ℕ) → reach_with s sets roms x ≤ k
      → (replied s sets roms (take k x) ≡ replied s sets roms x)
      × (sets_after s sets roms (take k x) ≡ sets_after s sets roms x)
      × (roms_after s sets roms (take k x) ≡ roms_after s sets roms x)
  reply_past h k l =
      let d = cut_short h k in
      (ap opening_reply (d.report_past l), d.set_rows_past l, d.rom_rows_past l)
