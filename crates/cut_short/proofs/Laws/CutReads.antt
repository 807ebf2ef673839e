-- ROM reads on an image cut short: what its board accepts, the whole image's accepts alike.
-- Assumes nothing.
use Rattle.std.specs.Prelude.{ℕ, ◌*◌, ◌≡◌, refl, ◌⊎◌, List, ◌++◌, map, length, take, drop}
use Rattle.std.proofs.Common.{arith, sym, ap, ◌∙◌, inl, inr, ⊎_elim, length-append}
use Rattle.std.proofs.lemmas.List.{length-map}
use Rattle.prog.specs.Prog.{run}
use Rattle.prog.proofs.Laws.Honest.{honest_kept}
use Rattle.text.specs.declared.Text.{Text}
use Rattle.pins.specs.declared.PinsItem.{PinsItem}
use Rattle.board.specs.Board.{board_pins}
use Rattle.walk.specs.Walk.{Rom, RomSet, roms_of}
use Rattle.rows.specs.LentRows.{rom_row_length, type_word}
use Rattle.walk.specs.Rows.{set_rows_of, rom_front, rom_rows_of, overwritten}
use Rattle.walk.proofs.Laws.Rows.{rom_rows_length, type_words}
use Rattle.info.specs.Lent.{Lent, lent_by}
use Rattle.info.specs.Reads.{Bytes, RomRead, read_p}
use Rattle.info.proofs.Laws.Like.{Like, read_like, read_honest}
use Rattle.window.specs.declared.Settings.{Settings}
use Rattle.sdrr_info.specs.declared.SdrrInfo.{SdrrInfo}
use Rattle.sdrr_info.specs.Report.{board_of}
use Rattle.cut_short.specs.Shown.{Kept}

-- ---- the rows

same_count : (rs ss : List Rom) → map rom_front rs ≡ map rom_front ss → length rs ≡ length ss
same_count rs ss e = sym (length-map rs rom_front) ∙ ap length e ∙ length-map ss rom_front

module _ (rs ss : List Rom) (ts us : List Text) (e : map rom_front rs ≡ map rom_front ss) (lent : List ℕ) where
  same_words : length (rom_rows_of rs ts) ≡ length (rom_rows_of ss us)
  same_words = rom_rows_length rs ts ∙ ap (λ (n : ℕ). rom_row_length * n) (same_count rs ss e) ∙ sym (rom_rows_length ss us)

  pub rows_length : length (overwritten (rom_rows_of rs ts) lent) ≡ length (overwritten (rom_rows_of ss us) lent)
  rows_length =
      length-append (rom_rows_of rs ts) (drop (length (rom_rows_of rs ts)) lent)
      ∙ (rw same_words refl)
      ∙ sym (length-append (rom_rows_of ss us) (drop (length (rom_rows_of ss us)) lent))

  pub rows_types : (i : ℕ) → type_word (overwritten (rom_rows_of rs ts) lent) i ≡ type_word (overwritten (rom_rows_of ss us) lent) i
  rows_types i =
      type_words rs ss ts us (drop (length (rom_rows_of rs ts)) lent) e i
      ∙ ap (λ (n : ℕ). type_word (rom_rows_of ss us ++ drop n lent) i) same_words

-- ---- boards that show the same but for names and ended items

kept_pins : {i j : PinsItem} → (i.number ≡ 2) ⊎ (i ≡ j) → ((board_pins i).number ≡ 2) ⊎ (board_pins i ≡ board_pins j)
unfolding board_pins
kept_pins (inl h) = inl h
kept_pins (inr h) = inr (ap board_pins h)

module _ (s : Settings) {r r' : SdrrInfo} {ss ss' : List RomSet} {names names' : List Text} (k : Kept r ss names r' ss' names') (sets roms : List ℕ) where
  pub kept_like :
      (r.rom_sets ≡ r'.rom_sets) × (set_rows_of ss ≡ set_rows_of ss') × (map rom_front (roms_of ss) ≡ map rom_front (roms_of ss'))
      → Like
      (lent_by (board_of s r) (overwritten (set_rows_of ss) sets) (overwritten (rom_rows_of (roms_of ss) names) roms))
      (lent_by (board_of s r') (overwritten (set_rows_of ss') sets) (overwritten (rom_rows_of (roms_of ss') names') roms))
  kept_like e =
      record {
        lines = ap (λ f. f.stm_line) k.header;
        pins = kept_pins k.pins;
        served = ap (λ i. i.served) e.0;
        set_words = ap (λ (w : List ℕ). overwritten w sets) e.1;
        rom_rows = rows_length (roms_of ss) (roms_of ss') names names' e.2 roms;
        types = rows_types (roms_of ss) (roms_of ss') names names' e.2 roms;
      }

-- ---- a read on the cut image, and on the whole

module _ {l m : Lent} (like : Like l m) (base count : ℕ) (r : RomRead) (x : List ℕ) (k : ℕ) where
  pub read_kept : (run (read_p base l count r) (take k x)).number ≡ 0 → run (read_p base l count r) (take k x) ≡ run (read_p base m count r) x
  read_kept e =
      let a : run (read_p base l count r) (take k x) ≡ run (read_p base m count r) (take k x) = read_like like base count r (take k x) e in
      a
      ∙ ⊎_elim (λ (h : (run (read_p base m count r) (take k x)).number ≡ 2). let f = ap (λ (b : Bytes). b.number) (sym a) ∙ e in absurd (omega arith)) (λ h. h)
      (honest_kept (read_honest base m count r) x k)
