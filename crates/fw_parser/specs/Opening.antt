-- Document 01, "Report": the opening of an image.
use Rattle.std.specs.Prelude.{ℕ, List, [], eqb, length}
use Rattle.base.specs.Choice.{pick}
use Rattle.window.specs.Window.{base_after, beyond_window}
use Rattle.prog.specs.Prog.{Prog, done, ◌>>=◌, also, map_p, run}
use Rattle.text.specs.declared.Text.{Text}
use Rattle.text.specs.Text.{text_p}
use Rattle.header.specs.declared.SdrrInfoHeader.{SdrrInfoHeader}
use Rattle.header.specs.Header.{HeaderAnswer, header_p}
use Rattle.extra_info.specs.declared.ExtraInfoItem.{ExtraInfoItem}
use Rattle.extra_info.specs.ExtraInfo.{extra_info_p}
use Rattle.pins.specs.declared.PinsItem.{PinsItem}
use Rattle.pins.specs.Pins.{pins_p}
use Rattle.walk.specs.Walk.{RomSet, Part, stop, found, roms_of}
use Rattle.walk.specs.Names.{walk_names_p}
use Rattle.walk.specs.Rows.{set_rows_of, rom_rows_of, short_sets, short_roms, overwritten}
pub use Rattle.sets_source.specs.Looked.{Looked, not_looked_for, looked, set_count, sets_pointer, metadata_ended, metadata_item}
unfoldable pub use Rattle.sets_source.specs.Looked.{look_p}
pub use Rattle.sets_item.specs.Sets.{Sets, counted, sets_item}
unfoldable pub use Rattle.sets_item.specs.Sets.{sets_item_p}
use Rattle.window.specs.declared.Settings.{Settings}
use Rattle.sdrr_info.specs.declared.SdrrInfo.{SdrrInfo}

-- ---- the items, in a row

pub record Items : Type 0 where
  pub build_date : Text
  pub hw_rev : Text
  pub extra_info : ExtraInfoItem
  pub metadata : Looked
  pub sets : Sets
  pub names : List Text
  pub pins : PinsItem

abbrev pub ItemAnswers : Type 0
ItemAnswers = Text × (Text × (ExtraInfoItem × (Looked × (Sets × (List Text × PinsItem)))))

abbrev pub items_of : ItemAnswers → Items
items_of t =
    record {
      build_date = t.0;
      hw_rev = t.1.0;
      extra_info = t.1.1.0;
      metadata = t.1.1.1.0;
      sets = t.1.1.1.1.0;
      names = t.1.1.1.1.1.0;
      pins = t.1.1.1.1.1.1;
    }

-- the reads of every item, with the base in force after the header
unfoldable pub items_p : ℕ → SdrrInfoHeader → Prog ItemAnswers
items_p base h =
    also (text_p base h.build_date_ptr) λ date.
    also (text_p base h.hw_rev_ptr) λ rev.
    also (extra_info_p base h.extra_ptr h.fields.version) λ extra.
    also (look_p base h) λ l.
    also (sets_item_p base h l) λ sets.
    also (walk_names_p base sets.walk) λ names.
    pins_p base h.pins_ptr

-- ---- the report

unfoldable pub report_of : SdrrInfoHeader → Items → SdrrInfo
report_of h i =
    record {
      fields = h.fields;
      build_date = i.build_date;
      hw_rev = i.hw_rev;
      extra_info = i.extra_info;
      metadata = metadata_item i.metadata;
      rom_sets = sets_item i.sets.count i.sets.walk;
      pins = i.pins;
    }

-- the sets of an accepted walk; a refused one writes no rows
abbrev pub sets_of : Part (List RomSet) → List RomSet
sets_of (stop n passed) = []
sets_of (found ss) = ss

-- ---- the opening

-- refused with a number; or the report, the sets that the rows list, and the names
pub data Opened : Type 0 where
  refused : ℕ → Opened
  opened : SdrrInfo → List RomSet → List Text → Opened

-- 44, then 45, only from a walk otherwise accepted. The verdict needs only the lengths of the lent rows, in words.
unfoldable pub verdict : ℕ → ℕ → SdrrInfoHeader → Items → Opened
verdict set_words rom_words h i =
    pick (short_sets (sets_of i.sets.walk) set_words) (refused 44)
    (pick (short_roms (sets_of i.sets.walk) rom_words) (refused 45)
    (opened (report_of h i) (sets_of i.sets.walk) i.names))

-- 2, 10 to 13 are the header's refusals; other refusals are items
abbrev pub after_header : Settings → ℕ → ℕ → HeaderAnswer → Prog Opened
after_header s set_words rom_words a =
    pick (eqb a.number 0)
    (map_p (λ t. verdict set_words rom_words a.header (items_of t))
    (items_p (base_after s.flash_base s.cs0_base a.header.fields.stm_line) a.header))
    (done (refused a.number))

-- the reads of the opening
unfoldable pub open_p : Settings → ℕ → ℕ → Prog Opened
open_p s set_words rom_words = header_p s.flash_base s.info_offset >>= after_header s set_words rom_words

-- 1: the window check, before anything else
unfoldable pub opening : Settings → ℕ → ℕ → List ℕ → Opened
opening s set_words rom_words x = pick (beyond_window s.flash_base s.cs0_base x) (refused 1) (run (open_p s set_words rom_words) x)

-- with lent rows
abbrev pub open_with : Settings → (sets roms : List ℕ) → List ℕ → Opened
open_with s sets roms x = opening s (length sets) (length roms) x

-- ---- the rows, as the opening leaves them: a refusal changes no word, an acceptance only the rows it names

abbrev pub set_rows_left : Opened → List ℕ → List ℕ
set_rows_left (refused n) lent = lent
set_rows_left (opened r ss names) lent = overwritten (set_rows_of ss) lent

abbrev pub rom_rows_left : Opened → List ℕ → List ℕ
rom_rows_left (refused n) lent = lent
rom_rows_left (opened r ss names) lent = overwritten (rom_rows_of (roms_of ss) names) lent
