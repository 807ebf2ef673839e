-- Document 01, "ROM sets and ROM infos": the words of set rows and ROM rows. "Lent rows": which of them a call may use.
use Rattle.std.specs.Prelude.{ℕ, ◌+◌, ◌*◌, Bool, not, ◌||◌, List, ltb, leb, length, get_or}
use Rattle.base.specs.Choice.{pick}
use Rattle.rows.specs.declared.SetWord.{SetWord}
use Rattle.rows.specs.declared.RomWord.{RomWord}

-- a set row is eight words; so is a ROM row, from wish 3 of document 02 on
abbrev pub set_row_length : ℕ
set_row_length = 8

abbrev pub rom_row_length : ℕ
rom_row_length = 8

-- where each word stands in its row
abbrev pub set_place : SetWord → ℕ
set_place SetWord.DataPointer = 0
set_place SetWord.Size = 1
set_place SetWord.FirstRom = 2
set_place SetWord.RomCount = 3
set_place SetWord.Serve = 4
set_place SetWord.State = 5
set_place SetWord.Config = 6
set_place SetWord.Overrides = 7

abbrev pub rom_place : RomWord → ℕ
rom_place RomWord.Type = 0
rom_place RomWord.Cs1 = 1
rom_place RomWord.Cs2 = 2
rom_place RomWord.Cs3 = 3
rom_place RomWord.NameOffset = 4
rom_place RomWord.NameLength = 5
rom_place RomWord.NameReason = 6
rom_place RomWord.NameWidth = 7

-- a word of a row; past the end 0
abbrev pub set_word : List ℕ → ℕ → SetWord → ℕ
set_word sets i word = get_or sets (set_row_length * i + set_place word) 0

abbrev pub rom_word : List ℕ → ℕ → RomWord → ℕ
rom_word roms row word = get_or roms (rom_row_length * row + rom_place word) 0

-- ---- the words of a set row, by name

abbrev pub data_pointer : List ℕ → ℕ → ℕ
data_pointer sets i = set_word sets i SetWord.DataPointer

abbrev pub size_of : List ℕ → ℕ → ℕ
size_of sets i = set_word sets i SetWord.Size

abbrev pub first_rom : List ℕ → ℕ → ℕ
first_rom sets i = set_word sets i SetWord.FirstRom

abbrev pub rom_count : List ℕ → ℕ → ℕ
rom_count sets i = set_word sets i SetWord.RomCount

abbrev pub serve_of : List ℕ → ℕ → ℕ
serve_of sets i = set_word sets i SetWord.Serve

abbrev pub state_of : List ℕ → ℕ → ℕ
state_of sets i = set_word sets i SetWord.State

abbrev pub config_address : List ℕ → ℕ → ℕ
config_address sets i = set_word sets i SetWord.Config

abbrev pub overrides_address : List ℕ → ℕ → ℕ
overrides_address sets i = set_word sets i SetWord.Overrides

-- ---- the words of a ROM row, by name

abbrev pub type_word : List ℕ → ℕ → ℕ
type_word roms row = rom_word roms row RomWord.Type

abbrev pub cs1_state : List ℕ → ℕ → ℕ
cs1_state roms row = rom_word roms row RomWord.Cs1

abbrev pub cs2_state : List ℕ → ℕ → ℕ
cs2_state roms row = rom_word roms row RomWord.Cs2

abbrev pub cs3_state : List ℕ → ℕ → ℕ
cs3_state roms row = rom_word roms row RomWord.Cs3

abbrev pub name_offset : List ℕ → ℕ → ℕ
name_offset roms row = rom_word roms row RomWord.NameOffset

abbrev pub name_length : List ℕ → ℕ → ℕ
name_length roms row = rom_word roms row RomWord.NameLength

abbrev pub name_reason : List ℕ → ℕ → ℕ
name_reason roms row = rom_word roms row RomWord.NameReason

abbrev pub name_width : List ℕ → ℕ → ℕ
name_width roms row = rom_word roms row RomWord.NameWidth

-- ---- which rows a call may use

-- the whole row is among those lent
abbrev pub has_set_row : List ℕ → ℕ → Bool
has_set_row sets i = leb (set_row_length * i + set_row_length) (length sets)

abbrev pub has_rom_row : List ℕ → ℕ → Bool
has_rom_row roms row = leb (rom_row_length * row + rom_row_length) (length roms)

-- a needed ROM row isn't among those lent, or its type is above 33
abbrev pub bad_rom_row : List ℕ → ℕ → Bool
bad_rom_row roms row = not (has_rom_row roms row) || ltb 33 (type_word roms row)

-- 80: no such set. 4: its row. 0: neither.
abbrev pub set_number : (served : ℕ) → List ℕ → ℕ → ℕ
set_number served sets i = pick (leb served i) 80 (pick (not (has_set_row sets i)) 4 0)
