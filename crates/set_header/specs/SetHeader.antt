-- Document 01, "ROM sets and ROM infos": a set's header and an entry of a ROM table, straight from the image.
use Rattle.std.specs.Prelude.{ℕ, ◌+◌, Bool, not, ◌&&◌, List, eqb}
use Rattle.base.specs.Choice.{pick}
use Rattle.le.specs.Le.{u8_at, u32_at}
use Rattle.window.specs.Window.{on_from}

-- "ROM infos: a u32 pointer table": the pointer in an entry of it
abbrev pub info_pointer : List ℕ → ℕ → ℕ → ℕ
info_pointer x base entry = u32_at (on_from x base entry) 0

-- ---- of a set, whose part of the image is s

-- "Extra byte 1 makes both pointers count at every version"
abbrev pub extra_byte : List ℕ → Bool
extra_byte s = eqb (u8_at s 15) 1

-- a pointer that counts and is there, or 0: "0 and FFFFFFFF are absent"
unfoldable pub pointed : Bool → ℕ → ℕ
pointed counts pointer = pick (counts && (not (eqb pointer 0) && not (eqb pointer 4294967295))) pointer 0

-- "serve config pointer 16, overrides pointer 20"
abbrev pub config_of : List ℕ → ℕ
config_of s = pointed (extra_byte s) (u32_at s 16)

abbrev pub overrides_of : List ℕ → ℕ
overrides_of s = pointed (extra_byte s) (u32_at s 20)

-- "The stride is 16, plus 48 exactly from 0.6.0 with extra byte 1"; whether it is 0.6.0 or later is given
abbrev pub stride_of : Bool → List ℕ → ℕ
stride_of long s = 16 + pick (long && extra_byte s) 48 0
