-- The header: a failed read is number 2; its refusals in order; only its first 64 bytes count.
-- Assumes nothing.
use Rattle.std.specs.Prelude.{ℕ, ◌+◌, ◌≤◌, ◌<◌, ◌≡◌, true, false, List, length, take}
use Rattle.std.proofs.Common.{arith}
use borrow.Author.Tests.{lt-ltb, le-ltb}
use Rattle.window.specs.Window.{can_read, on_from}
use Rattle.le.specs.Le.{u16_at, u32_at}
use Rattle.magic.specs.Magic.{starts_with}
use Rattle.prog.specs.Prog.{run}
use Rattle.prog.proofs.Laws.Honest.{Honest, honesty}
use Rattle.prog.proofs.Laws.Record.{front_byte, front_short, front_starts, record_ended, record_onward}
use Rattle.version.specs.Version.{below04, from070}
use Rattle.header.specs.Header.{HeaderAnswer, header_magic, version_of, header_fields, extra_pointer, whole_of, refused_header, header_of, header_p}

pub header_honest : (flash_base info_offset : ℕ) → Honest (λ (a : HeaderAnswer). a.number ≡ 2) (header_p flash_base info_offset)
unfolding header_p
header_honest flash_base info_offset = search honesty

pub header_front : (s : List ℕ) → header_of (take 64 s) ≡ header_of s
unfolding header_of whole_of header_fields
header_front s = simp (front_short 64, front_starts 64 s header_magic (omega arith), front_byte 64)

module _ (s : List ℕ) where
  pub extra_none : below04 (version_of s) ≡ true → extra_pointer s ≡ 4294967295
  extra_none e = rw e

  pub extra_kept : below04 (version_of s) ≡ false → extra_pointer s ≡ u32_at s 56
  extra_kept e = rw e

  pub header_short : length s < 64 → header_of s ≡ refused_header 2
  unfolding header_of
  header_short h = rw (lt-ltb (length s) 64 h)

  module _ (whole : 64 ≤ length s) where
    pub header_no_magic : starts_with s header_magic ≡ false → header_of s ≡ refused_header 10
    unfolding header_of
    header_no_magic m = rw (le-ltb (length s) 64 whole, m)

    module _ (m : starts_with s header_magic ≡ true) where
      pub header_line : 5 < u16_at s 28 → header_of s ≡ refused_header 11
      unfolding header_of
      header_line h = rw (le-ltb (length s) 64 whole, m, lt-ltb 5 (u16_at s 28) h)

      module _ (line : u16_at s 28 ≤ 5) where
        pub header_storage : 7 < u16_at s 30 → header_of s ≡ refused_header 12
        unfolding header_of
        header_storage h = rw (le-ltb (length s) 64 whole, m, le-ltb 5 (u16_at s 28) line, lt-ltb 7 (u16_at s 30) h)

        module _ (storage : u16_at s 30 ≤ 7) where
          pub header_version : from070 (version_of s) ≡ true → header_of s ≡ refused_header 13
          unfolding header_of
          header_version v = rw (le-ltb (length s) 64 whole, m, le-ltb 5 (u16_at s 28) line, le-ltb 7 (u16_at s 30) storage, v)

          pub header_accepted : from070 (version_of s) ≡ false → header_of s ≡ record { number = 0; header = whole_of s }
          unfolding header_of
          header_accepted v = rw (le-ltb (length s) 64 whole, m, le-ltb 5 (u16_at s 28) line, le-ltb 7 (u16_at s 30) storage, v)

module _ (x : List ℕ) (flash_base info_offset : ℕ) where
  pub header_ended : can_read x flash_base (flash_base + info_offset) 64 ≡ false → run (header_p flash_base info_offset) x ≡ refused_header 2
  unfolding header_p
  header_ended e = record_ended x flash_base (flash_base + info_offset) 64 (refused_header 2) header_of e

  pub header_onward : can_read x flash_base (flash_base + info_offset) 64 ≡ true → run (header_p flash_base info_offset) x ≡ header_of (on_from x flash_base (flash_base + info_offset))
  unfolding header_p
  header_onward e = record_onward x flash_base (flash_base + info_offset) 64 (refused_header 2) header_of e header_front
