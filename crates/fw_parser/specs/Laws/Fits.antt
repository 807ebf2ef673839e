-- A refused opening has a number that is not 0; the rows of an accepted one fit into the rows lent.
-- Assumes nothing.
use Rattle.std.specs.Prelude.{ℕ, ◌*◌, ◌≤◌, Bool, eqb, length, take, drop}
use native.Mathlib.Omega.{arith}
use Rattle.std.proofs.Math.Path.{◌≡◌, refl, subst}
use Rattle.std.proofs.Common.{sym, length-append, length-drop, ltb-false}
use Rattle.std.proofs.Math.Bool.{true, false}
use mathlib.Core.List.{List}
use Rattle.std.proofs.Math.Seq.{take-append_seam, drop-append_seam}
use Rattle.std.proofs.lemmas.Bool.{eqb-false}
use Rattle.base.specs.Laws.{cases, clash}
use Rattle.base.specs.Choice.{pick}
use Rattle.window.specs.Window.{base_after, beyond_window}
use Rattle.prog.specs.Prog.{run}
use Rattle.prog.proofs.Laws.Run.{run_done, run_bind, run_map}
use Rattle.text.specs.declared.Text.{Text}
use Rattle.header.specs.declared.SdrrInfoHeader.{SdrrInfoHeader}
use Rattle.header.specs.Header.{HeaderAnswer, header_p}
use Rattle.walk.specs.Walk.{RomSet, roms_of}
use Rattle.rows.specs.LentRows.{set_row_length, rom_row_length}
use Rattle.walk.specs.Rows.{short_sets, short_roms, overwritten}
use Rattle.window.specs.declared.Settings.{Settings}
use Rattle.sdrr_info.specs.declared.SdrrInfo.{SdrrInfo}
use Rattle.fw_parser.specs.Opening.{Items, ItemAnswers, sets_of, report_of, items_of, items_p, Opened, refused, opened, verdict, after_header, open_p, opening}

abbrev pub Fits : ℕ → ℕ → Opened → Type 0
Fits set_words rom_words (refused n) = n ≡ 0 → ⊥
Fits set_words rom_words (opened r ss names) = (set_row_length * length ss ≤ set_words) × (rom_row_length * length (roms_of ss) ≤ rom_words)

module _ (n m : ℕ) where
  verdict_fits : (h : SdrrInfoHeader) (i : Items) → Fits n m (verdict n m h i)
  unfolding verdict
  verdict_fits h i = go (short_sets ss n) (short_roms ss m) refl refl
    where
      ss : List RomSet
      ss = sets_of i.sets.walk

      go : (a b : Bool) → short_sets ss n ≡ a → short_roms ss m ≡ b → Fits n m (pick a (refused 44) (pick b (refused 45) (opened (report_of h i) ss i.names)))
      go true b e f = λ (z : ◌≡◌ {A = ℕ} 44 0). omega arith
      go false true e f = λ (z : ◌≡◌ {A = ℕ} 45 0). omega arith
      go false false e f = (ltb-false n (set_row_length * length ss) e, ltb-false m (rom_row_length * length (roms_of ss)) f)

  module _ (s : Settings) (x : List ℕ) where
    after_fits : (a : HeaderAnswer) → Fits n m (run (after_header s n m a) x)
    after_fits a =
        cases (eqb a.number 0)
        (λ e. rw (e, run_map x (λ (t : ItemAnswers). verdict n m a.header (items_of t)) (items_p (base_after s.flash_base s.cs0_base a.header.fields.stm_line) a.header))
        (verdict_fits a.header _))
        (λ e. rw (e, run_done x (refused a.number)) (eqb-false a.number 0 e))

    open_fits : Fits n m (run (open_p s n m) x)
    unfolding open_p
    open_fits =
        let h = header_p s.flash_base s.info_offset in
        subst (Fits n m) (sym (run_bind x h (after_header s n m))) (after_fits (run h x))

    pub opening_fits : Fits n m (opening s n m x)
    unfolding opening
    opening_fits = go (beyond_window s.flash_base s.cs0_base x)
      where
        go : (b : Bool) → Fits n m (pick b (refused 1) (run (open_p s n m) x))
        go true = λ (z : ◌≡◌ {A = ℕ} 1 0). omega arith
        go false = open_fits

    -- an accepted opening is what the reads answer
    pub opened_run : (r : SdrrInfo) (ss : List RomSet) (names : List Text) → opening s n m x ≡ opened r ss names → run (open_p s n m) x ≡ opened r ss names
    unfolding opening
    opened_run r ss names e = go (beyond_window s.flash_base s.cs0_base x) e
      where
        go : (b : Bool) → pick b (refused 1) (run (open_p s n m) x) ≡ opened r ss names → run (open_p s n m) x ≡ opened r ss names
        go true f = clash (cc)
        go false f = f

-- ---- words at the front of the lent ones

-- exactly k words change, and they are these
pub record Front (k : ℕ) (words lent left : List ℕ) : Type 0 where
  pub first : take k left ≡ words
  pub rest : drop k left ≡ drop k lent
  pub long : length left ≡ length lent

pub overwritten_front : (words lent : List ℕ) (k : ℕ) → length words ≡ k → k ≤ length lent → Front k words lent (overwritten words lent)
overwritten_front words lent k e h =
    rw (← e)
    (record {
      first = take-append_seam words (drop (length words) lent);
      rest = drop-append_seam words (drop (length words) lent);
      long = (let a = length-append words (drop (length words) lent) in let b = length-drop (length words) lent in omega arith);
    })
