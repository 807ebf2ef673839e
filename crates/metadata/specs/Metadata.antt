-- Document 01, "Metadata": 256 bytes.
use Rattle.std.specs.Prelude.{ℕ, not, ◌&&◌, List, [], ◌∷◌, Option, Some, None, Result, Ok, Err, ltb, eqb, length}
use Rattle.base.specs.Choice.{pick}
use Rattle.le.specs.Le.{u8_at, u32_at}
use Rattle.magic.specs.Magic.{starts_with}
use Rattle.refusal.specs.declared.Refusal.{Refusal}
use Rattle.refusal.specs.Refusal.{number_of, refused_number}
use Rattle.prog.specs.Prog.{Prog, record_p}
use Rattle.metadata.specs.declared.OneRomMetadataHeader.{OneRomMetadataHeader}
use Rattle.metadata.specs.declared.MetadataItem.{MetadataItem}

-- "ONEROM_METADATA" and NUL
abbrev pub metadata_magic : List ℕ
metadata_magic = 79 ∷ 78 ∷ 69 ∷ 82 ∷ 79 ∷ 77 ∷ 95 ∷ 77 ∷ 69 ∷ 84 ∷ 65 ∷ 68 ∷ 65 ∷ 84 ∷ 65 ∷ 0 ∷ []

-- 0 with the set count and the sets pointer, or the number of its refusal with zeros
pub record MetadataAnswer : Type 0 where
  pub number : ℕ
  pub rom_set_count : ℕ
  pub rom_sets_ptr : ℕ

abbrev pub refused_metadata : ℕ → MetadataAnswer
refused_metadata n = record { number = n; rom_set_count = 0; rom_sets_ptr = 0 }

-- that answer of the code's result
abbrev pub metadata_answer : Result OneRomMetadataHeader Refusal → MetadataAnswer
metadata_answer (Ok m) = record { number = 0; rom_set_count = m.rom_set_count; rom_sets_ptr = m.rom_sets_ptr }
metadata_answer (Err r) = refused_metadata (number_of r)

-- the report's item of metadata that was looked for, or not
abbrev pub metadata_shown : Option (Result Unit Refusal) → MetadataItem
metadata_shown None = MetadataItem.NotLookedFor
metadata_shown (Some r) = MetadataItem.Looked (refused_number r)

-- version 16; set count 20 (a byte); sets pointer 24. Count 0 is present at any pointer.
-- 2: ended. 30: magic. 31: version not 1. 32: count above 0, pointer 0.
unfoldable pub metadata_of : List ℕ → MetadataAnswer
metadata_of s =
    pick (ltb (length s) 256) (refused_metadata 2)
    (pick (not (starts_with s metadata_magic)) (refused_metadata 30)
    (pick (not (eqb (u32_at s 16) 1)) (refused_metadata 31)
    (pick (ltb 0 (u8_at s 20) && eqb (u32_at s 24) 0) (refused_metadata 32)
    (record { number = 0; rom_set_count = u8_at s 20; rom_sets_ptr = u32_at s 24 }))))

-- 3: below base. 2: ended.
unfoldable pub metadata_p : ℕ → ℕ → Prog MetadataAnswer
metadata_p base pointer = record_p base pointer 256 refused_metadata metadata_of
