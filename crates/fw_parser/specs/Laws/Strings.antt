-- Document 02, wish 3, in every opening: the width of a name, of the build date and of the hardware revision, and that what is missing or refused
-- has offset, length and width 0. Of the names over the ROM rows as the opening leaves them, so as `parse_flash` leaves them (Promises).
-- Assumes nothing.
use Rattle.std.specs.Prelude.{ℕ, ◌*◌, ◌≤◌, ◌<◌, ◌≡◌, refl, List, length, get_or, take, drop}
use Rattle.std.proofs.Common.{arith, sym, ap, ◌∙◌, subst}
use Rattle.prog.specs.Prog.{run}
use Rattle.rows.specs.LentRows.{name_offset, name_length, name_reason, name_width}
use Rattle.utf8.proofs.Laws.Points.{outside}
use Rattle.text.specs.declared.Text.{Text}
use Rattle.text.specs.Text.{refused_text, text_p}
use Rattle.text.proofs.Laws.Chunks.{text_refused}
use Rattle.text.proofs.Laws.Width.{Wide, text_wide}
use Rattle.walk.specs.Walk.{roms_of}
use Rattle.walk.specs.Rows.{rom_rows_of, overwritten}
use Rattle.walk.proofs.Laws.NameWords.{NameWords, rows_words, NameRead, unread, read}
use Rattle.window.specs.declared.Settings.{Settings}
use Rattle.fw_parser.specs.Laws.Items.{opened_strings, opened_names_read}
use Rattle.fw_parser.specs.Laws.Fits.{opened_run}
use Rattle.fw_parser.specs.Laws.Promises.{replied, roms_after, Accepted, accepted_changes_rows}

-- a string as it is told: wide as said, or refused with zeros
pub record StringTold (x : List ℕ) (t : Text) : Type 0 where
  pub shown : t.number ≡ 0 → Wide x t
  pub zeros : (t.number ≡ 0 → ⊥) → t ≡ refused_text t.number

-- the same of a ROM row's name, by the row's words
pub record NameTold (x roms : List ℕ) (row : ℕ) : Type 0 where
  -- as many characters as bytes outside 80..BF, at most as many as bytes, at least a quarter as many
  pub counted : name_reason roms row ≡ 0 → name_width roms row ≡ outside (take (name_length roms row) (drop (name_offset roms row) x))
  pub at_most : name_reason roms row ≡ 0 → name_width roms row ≤ name_length roms row
  pub at_least : name_reason roms row ≡ 0 → name_length roms row ≤ 4 * name_width roms row
  -- a missing name
  pub zeros : (name_reason roms row ≡ 0 → ⊥) → (name_offset roms row ≡ 0) × (name_length roms row ≡ 0) × (name_width roms row ≡ 0)

text_told : (x : List ℕ) (base pointer : ℕ) → StringTold x (run (text_p base pointer) x)
text_told x base pointer = record { shown = text_wide x base pointer; zeros = text_refused x base pointer }

name_told : (x : List ℕ) (t : Text) → NameRead x t → StringTold x t
name_told x t (unread e) = rw e (record { shown = λ z. absurd (omega arith); zeros = λ z. refl })
name_told x t (read base pointer e) = subst (StringTold x) e (text_told x base pointer)

row_told : (x roms : List ℕ) (row : ℕ) (t : Text) → NameWords roms row t → StringTold x t → NameTold x roms row
row_told x roms row t w d =
    record {
      counted = λ e. rw (w.width, w.length, w.offset) (d.shown (sym w.reason ∙ e)).counted;
      at_most = λ e. rw (w.width, w.length) (d.shown (sym w.reason ∙ e)).at_most;
      at_least = λ e. rw (w.width, w.length) (d.shown (sym w.reason ∙ e)).at_least;
      zeros =
          λ e.
          let z = d.zeros (λ f. e (w.reason ∙ f)) in
          (w.offset ∙ ap (λ (u : Text). u.offset) z, w.length ∙ ap (λ (u : Text). u.length) z, w.width ∙ ap (λ (u : Text). u.width) z);
    }

module _ (s : Settings) (sets roms x : List ℕ) (e : (replied s sets roms x).number ≡ 0) where
  abbrev a : Accepted s sets roms x
  a = accepted_changes_rows s sets roms x e

  -- every ROM row that an opening lists
  pub names_told : (row : ℕ) → row < length (roms_of a.listed) → NameTold x (roms_after s sets roms x) row
  names_told row l =
      rw a.opens
      (row_told x (overwritten (rom_rows_of (roms_of a.listed) a.names) roms) row (get_or a.names row (refused_text 1))
      (rows_words (roms_of a.listed) a.names (drop (length (rom_rows_of (roms_of a.listed) a.names)) roms) row l)
      (name_told x (get_or a.names row (refused_text 1))
      (opened_names_read s x (length sets) (length roms) a.report a.listed a.names (opened_run (length sets) (length roms) s x a.report a.listed a.names a.opens) row)))

  -- build date and revision of every report
  pub strings_told : StringTold x (replied s sets roms x).info.build_date × StringTold x (replied s sets roms x).info.hw_rev
  strings_told =
      let o = opened_strings s x (length sets) (length roms) a.report a.listed a.names (opened_run (length sets) (length roms) s x a.report a.listed a.names a.opens) in
      rw (a.replies, ← o.0, ← o.1) (text_told x _ _, text_told x _ _)
