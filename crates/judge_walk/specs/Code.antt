-- What the pass that judges replies, by what the walk answers.
-- Assumes nothing.
use Rattle.std.specs.Prelude.{ℕ, ◌≡◌, refl, List, Result, Ok, Err, eqb, length}
use Rattle.std.proofs.Common.{ne_eqb}
use Rattle.base.specs.Choice.{pick}
use Rattle.refusal.specs.declared.Refusal.{Refusal}
use Rattle.refusal.specs.Refusal.{number_of, refused_number}
use Rattle.walk.specs.Walk.{RomSet, Part, stop, found, roms_of}

-- 0, or the number of the walk's refusal; and where it is 0 how many ROMs the sets have
pub record Walked : Type 0 where
  pub number : ℕ
  pub rom_count : ℕ

abbrev pub refused_walk : ℕ → Walked
refused_walk n = record { number = n; rom_count = 0 }

-- a Result of the walk, as that record
abbrev pub walk_item : Result ℕ Refusal → Walked
walk_item (Ok roms) = record { number = 0; rom_count = roms }
walk_item (Err r) = refused_walk (number_of r)

pub item_number : (r : Result ℕ Refusal) → (walk_item r).number ≡ refused_number r
item_number (Ok roms) = refl
item_number (Err r) = refl

-- a number, and the ROMs counted where it is 0
unfoldable pub walked : ℕ → ℕ → Walked
walked n roms = record { number = n; rom_count = pick (eqb n 0) roms 0 }

-- the walk's refusal; or 0, and how many ROMs its sets have
unfoldable pub judged_of : Part (List RomSet) → Walked
judged_of (stop n passed) = refused_walk n
judged_of (found ss) = record { number = 0; rom_count = length (roms_of ss) }

pub walked_good : (n roms t : ℕ) → 0 ≡ n → t ≡ roms → record { number = 0; rom_count = t } ≡ walked n roms
unfolding walked
walked_good n roms t e f = rw (← e, f)

pub walked_bad : (n roms m : ℕ) → m ≡ n → (m ≡ 0 → ⊥) → record { number = m; rom_count = 0 } ≡ walked n roms
unfolding walked
walked_bad n roms m e f = rw (← e, ne_eqb m 0 f)
