-- What the whole walk replies, and the rows as it leaves them, by what the walk answers.
use Rattle.std.specs.Prelude.{ℕ, List, length}
use Rattle.base.specs.Choice.{pick}
use Rattle.text.specs.declared.Text.{Text}
use Rattle.walk.specs.Walk.{RomSet, Part, stop, found, roms_of}
use Rattle.walk.specs.Rows.{set_rows_of, rom_rows_of, short_sets, short_roms, overwritten}
pub use Rattle.judge_walk.specs.Code.{Walked, refused_walk, walk_item}

-- "Walk": only a walk otherwise accepted gives 44, then 45. The lengths of the lent rows are in words.
unfoldable pub walk_reply : Part (List RomSet) → ℕ → ℕ → Walked
walk_reply (stop n passed) set_words rom_words = refused_walk n
walk_reply (found ss) set_words rom_words =
    pick (short_sets ss set_words) (refused_walk 44)
    (pick (short_roms ss rom_words) (refused_walk 45) (record { number = 0; rom_count = length (roms_of ss) }))

-- a refusal changes no word, an acceptance only the rows it lists
unfoldable pub walk_set_rows : Part (List RomSet) → ℕ → List ℕ → List ℕ
walk_set_rows (stop n passed) rom_words lent = lent
walk_set_rows (found ss) rom_words lent =
    pick (short_sets ss (length lent)) lent (pick (short_roms ss rom_words) lent (overwritten (set_rows_of ss) lent))

unfoldable pub walk_rom_rows : Part (List RomSet) → List Text → ℕ → List ℕ → List ℕ
walk_rom_rows (stop n passed) names set_words lent = lent
walk_rom_rows (found ss) names set_words lent =
    pick (short_sets ss set_words) lent (pick (short_roms ss (length lent)) lent (overwritten (rom_rows_of (roms_of ss) names) lent))
