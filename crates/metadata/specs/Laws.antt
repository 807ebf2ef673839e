-- Metadata: a failed read is number 2; the record's refusals in order; only its first 256 bytes count; what a pointer gives.
-- Assumes nothing.
use Rattle.std.specs.Prelude.{ℕ, ◌≤◌, ◌<◌, ◌≡◌, true, false, ◌&&◌, List, ltb, eqb, length, take}
use Rattle.std.proofs.Common.{arith}
use borrow.Author.Tests.{lt-ltb, le-ltb, eq-eqb, ne_eqb}
use Rattle.le.specs.Le.{u8_at, u32_at}
use Rattle.magic.specs.Magic.{starts_with}
use Rattle.refusal.specs.declared.Refusal.{Refusal}
use Rattle.refusal.specs.Refusal.{number_of}
use Rattle.window.specs.Window.{on_from, pointer_number}
use Rattle.prog.specs.Prog.{run}
use Rattle.prog.proofs.Laws.Honest.{Honest, honesty}
use Rattle.prog.proofs.Laws.Record.{front_byte, front_short, front_starts, pointer_refused_by, pointer_read_from}
use Rattle.metadata.specs.Metadata.{MetadataAnswer, metadata_magic, refused_metadata, metadata_of, metadata_p}

pub metadata_honest : (base pointer : ℕ) → Honest (λ (a : MetadataAnswer). a.number ≡ 2) (metadata_p base pointer)
unfolding metadata_p
metadata_honest base pointer = search honesty

pub metadata_front : (s : List ℕ) → metadata_of (take 256 s) ≡ metadata_of s
unfolding metadata_of
metadata_front s = simp (front_short 256, front_starts 256 s metadata_magic (omega arith), front_byte 256)

module _ (s : List ℕ) where
  pub metadata_short : length s < 256 → metadata_of s ≡ refused_metadata 2
  unfolding metadata_of
  metadata_short h = rw (lt-ltb (length s) 256 h)

  module _ (whole : 256 ≤ length s) where
    pub metadata_no_magic : starts_with s metadata_magic ≡ false → metadata_of s ≡ refused_metadata 30
    unfolding metadata_of
    metadata_no_magic m = rw (le-ltb (length s) 256 whole, m)

    module _ (m : starts_with s metadata_magic ≡ true) where
      pub metadata_version : (u32_at s 16 ≡ 1 → ⊥) → metadata_of s ≡ refused_metadata 31
      unfolding metadata_of
      metadata_version v = rw (le-ltb (length s) 256 whole, m, ne_eqb (u32_at s 16) 1 v)

      module _ (v : u32_at s 16 ≡ 1) where
        pub metadata_no_sets : (ltb 0 (u8_at s 20) && eqb (u32_at s 24) 0) ≡ true → metadata_of s ≡ refused_metadata 32
        unfolding metadata_of
        metadata_no_sets h = rw (le-ltb (length s) 256 whole, m, eq-eqb (u32_at s 16) 1 v, h)

        pub metadata_present : (ltb 0 (u8_at s 20) && eqb (u32_at s 24) 0) ≡ false
            → metadata_of s ≡ record { number = 0; rom_set_count = u8_at s 20; rom_sets_ptr = u32_at s 24 }
        unfolding metadata_of
        metadata_present h = rw (le-ltb (length s) 256 whole, m, eq-eqb (u32_at s 16) 1 v, h)

-- at a pointer: refused, or the record of the image from there onward
module _ (x : List ℕ) (base pointer : ℕ) where
  pub metadata_pointer_refused : (r : Refusal) → number_of r ≡ pointer_number x base pointer 256 → refused_metadata (number_of r) ≡ run (metadata_p base pointer) x
  unfolding metadata_p
  metadata_pointer_refused = pointer_refused_by x base pointer 256 refused_metadata metadata_of metadata_front

  pub metadata_pointer_read : 0 ≡ pointer_number x base pointer 256 → metadata_of (on_from x base pointer) ≡ run (metadata_p base pointer) x
  unfolding metadata_p
  metadata_pointer_read = pointer_read_from x base pointer 256 refused_metadata metadata_of metadata_front
