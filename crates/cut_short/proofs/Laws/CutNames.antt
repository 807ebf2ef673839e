-- Document 02, wish 3: a cut board shows a name's width only with the name itself. Each ROM row of a cut image that opens is ended, or it has all four
-- of the name's words as the whole's row has them. (Ended, its other words are 0: `names_told` in fw_parser/Laws/Strings, of every image that opens.)
-- Over the ROM rows as the openings leave them.
-- Assumes nothing.
use Rattle.std.specs.Prelude.{ℕ, ◌<◌, ◌≡◌, ◌⊎◌, List, length, take, drop}
use Rattle.std.proofs.Common.{sym, ap, ◌∙◌, inl, inr, ⊎_elim}
use Rattle.rows.specs.LentRows.{name_offset, name_length, name_reason, name_width}
use Rattle.text.specs.declared.Text.{Text}
use Rattle.walk.specs.Walk.{roms_of}
use Rattle.walk.specs.Rows.{rom_rows_of}
use Rattle.walk.proofs.Laws.NameWords.{NameWords, rows_words}
use Rattle.window.specs.declared.Settings.{Settings}
use Rattle.fw_parser.specs.Laws.Promises.{replied, roms_after, Accepted, accepted_changes_rows}
use Rattle.cut_short.specs.Shown.{name_of, Kept}
use Rattle.cut_short.proofs.Laws.Promises.{cut_short}

-- the name's words of a row, in both
pub record SameName (roms whole : List ℕ) (row : ℕ) : Type 0 where
  pub offset : name_offset roms row ≡ name_offset whole row
  pub length : name_length roms row ≡ name_length whole row
  pub reason : name_reason roms row ≡ name_reason whole row
  pub width : name_width roms row ≡ name_width whole row

same_name : (roms whole : List ℕ) (row : ℕ) {t u : Text} → NameWords roms row t → NameWords whole row u → t ≡ u → SameName roms whole row
same_name roms whole row v w e =
    record {
      offset = v.offset ∙ ap (λ (t : Text). t.offset) e ∙ sym w.offset;
      length = v.length ∙ ap (λ (t : Text). t.length) e ∙ sym w.length;
      reason = v.reason ∙ ap (λ (t : Text). t.number) e ∙ sym w.reason;
      width = v.width ∙ ap (λ (t : Text). t.width) e ∙ sym w.width;
    }

module _ (s : Settings) (sets roms x : List ℕ) (k : ℕ) (whole : (replied s sets roms x).number ≡ 0) (cut : (replied s sets roms (take k x)).number ≡ 0) where
  abbrev w : Accepted s sets roms x
  w = accepted_changes_rows s sets roms x whole

  abbrev c : Accepted s sets roms (take k x)
  c = accepted_changes_rows s sets roms (take k x) cut

  kept : Kept c.report c.listed c.names w.report w.listed w.names
  kept = rw (c.opens, w.opens) at (cut_short s sets roms x whole k).items_kept

  pub names_kept : (row : ℕ) → row < length (roms_of c.listed)
      → (name_reason (roms_after s sets roms (take k x)) row ≡ 2) ⊎ SameName (roms_after s sets roms (take k x)) (roms_after s sets roms x) row
  names_kept row l =
      let v : NameWords (roms_after s sets roms (take k x)) row (name_of c.names row) =
      rw c.opens (rows_words (roms_of c.listed) c.names (drop (length (rom_rows_of (roms_of c.listed) c.names)) roms) row l) in
      ⊎_elim (λ (e : (name_of c.names row).number ≡ 2). inl (v.reason ∙ e))
      (λ (e : (row < length w.names) × (name_of c.names row ≡ name_of w.names row)).
      let u : NameWords (roms_after s sets roms x) row (name_of w.names row) =
      rw w.opens (rows_words (roms_of w.listed) w.names (drop (length (rom_rows_of (roms_of w.listed) w.names)) roms) row (rw w.named at e.0)) in
      inr (same_name (roms_after s sets roms (take k x)) (roms_after s sets roms x) row v u e.1))
      (kept.each_name row l).1
