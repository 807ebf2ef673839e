-- Demand 1 of the opening. `parse_flash` ensures, for every image x, settings s and lent rows:
--   reply: what it returns is `replied s sets roms x`;
--   sets: the set rows afterwards are `sets_after s sets roms x`;
--   roms: the ROM rows afterwards are `roms_after s sets roms x`.
-- The image is lent for reading only. What is proved here of these three therefore holds of the code.
-- Assumes nothing.
use Rattle.std.specs.Prelude.{ℕ, ◌*◌, ◌≡◌, List}
use Rattle.std.proofs.Math.Path.{refl}
use Rattle.std.proofs.Math.ListN.{length}
use Rattle.text.specs.declared.Text.{Text}
use Rattle.walk.specs.Walk.{RomSet, roms_of}
use Rattle.rows.specs.LentRows.{set_row_length, rom_row_length}
use Rattle.walk.specs.Rows.{set_rows_of, rom_rows_of}
use Rattle.walk.proofs.Laws.Rows.{set_rows_length, rom_rows_length}
use Rattle.window.specs.declared.Settings.{Settings}
use Rattle.sdrr_info.specs.declared.SdrrInfo.{SdrrInfo}
use Rattle.fw_parser.specs.declared.Opening.{Opening}
use Rattle.fw_parser.specs.Opening.{Opened, refused, opened, open_with, set_rows_left, rom_rows_left}
use Rattle.fw_parser.specs.Reply.{no_report, opening_reply}
use Rattle.fw_parser.specs.Laws.Items.{opened_names}
use Rattle.fw_parser.specs.Laws.Sanity.{ServedSets, served_sets}
use Rattle.fw_parser.specs.Laws.Fits.{Fits, opening_fits, opened_run, Front, overwritten_front}

-- ---- what the statements of the code say

abbrev pub replied : Settings → List ℕ → List ℕ → List ℕ → Opening
replied s sets roms x = opening_reply (open_with s sets roms x)

abbrev pub sets_after : Settings → List ℕ → List ℕ → List ℕ → List ℕ
sets_after s sets roms x = set_rows_left (open_with s sets roms x) sets

abbrev pub roms_after : Settings → List ℕ → List ℕ → List ℕ → List ℕ
roms_after s sets roms x = rom_rows_left (open_with s sets roms x) roms

module _ (s : Settings) (sets roms x : List ℕ) where
  abbrev o : Opened
  o = open_with s sets roms x

  -- ---- demand 1

  -- A refused opening, whose number is not 0, changes no word, and its report is the fixed one.
  pub record Refused : Type 0 where
    pub report : (replied s sets roms x).info ≡ no_report
    pub set_rows : sets_after s sets roms x ≡ sets
    pub rom_rows : roms_after s sets roms x ≡ roms

  pub refused_changes_nothing : ((replied s sets roms x).number ≡ 0 → ⊥) → Refused
  unfolding opening_reply
  refused_changes_nothing h = go o refl h
    where
      go : (p : Opened) → o ≡ p → ((opening_reply p).number ≡ 0 → ⊥) → Refused
      go (refused n) e i = record { report = rw e; set_rows = rw e; rom_rows = rw e }
      go (opened r ss names) e i = absurd (i refl)

  -- An accepted opening changes only the rows that it lists: they stand at the front, and every word after them
  -- is as it was lent. It lists the sets that it serves, and has one name for each ROM row.
  pub record Accepted : Type 0 where
    pub report : SdrrInfo
    pub listed : List RomSet
    pub names : List Text
    pub opens : o ≡ opened report listed names
    pub replies : (replied s sets roms x).info ≡ report
    pub named : length names ≡ length (roms_of listed)
    pub serves : ServedSets report.rom_sets listed
    pub set_rows : Front (set_row_length * length listed) (set_rows_of listed) sets (sets_after s sets roms x)
    pub rom_rows : Front (rom_row_length * length (roms_of listed)) (rom_rows_of (roms_of listed) names) roms (roms_after s sets roms x)

  pub accepted_changes_rows : (replied s sets roms x).number ≡ 0 → Accepted
  unfolding opening_reply
  accepted_changes_rows h = go o refl h (opening_fits (length sets) (length roms) s x)
    where
      go : (p : Opened) → o ≡ p → (opening_reply p).number ≡ 0 → Fits (length sets) (length roms) p → Accepted
      go (refused n) e i f = absurd (f i)
      go (opened r ss names) e i f =
          record {
            report = r;
            listed = ss;
            names = names;
            opens = e;
            replies = rw e;
            named = opened_names s x (length sets) (length roms) r ss names (opened_run (length sets) (length roms) s x r ss names e);
            serves = served_sets s (length sets) (length roms) x r ss names (opened_run (length sets) (length roms) s x r ss names e);
            set_rows = rw e (overwritten_front (set_rows_of ss) sets (set_row_length * length ss) (set_rows_length ss) f.0);
            rom_rows = rw e (overwritten_front (rom_rows_of (roms_of ss) names) roms (rom_row_length * length (roms_of ss)) (rom_rows_length (roms_of ss) names) f.1);
          }
